-- The lines that break a rule, by a walk.
use Rattle.std.proofs.Common.{◌≡◌, ℕ, suc, ◌+◌, Bool, true, false, List, [], ◌∷◌, Ok, Err, refl, subst, add-one}
use Rattle.std.specs.Prelude.{if◌then◌else◌, nat_eq}
use Rattle.std.specs.List.{AllByRecursion, filter_map, enumerate_from}
use Rattle.unit_check.proofs.SiteWalks.{walk}
use Rattle.unit_check.specs.Rules.{Says}
use Rattle.unit_check.specs.Walks.{onward}
use Rattle.unit_check.specs.declared.walk.Stop.TheVariants as stop
use Rattle.unit_tree.specs.Sites.{Site}
use Rattle.unit_tree.specs.WellFormed.{number_where}

abbrev pub broken_in : (Site → Bool) → ℕ → List Site → List ℕ
broken_in test number sites = filter_map (number_where test) (enumerate_from number sites)

pub says : (test : Site → Bool) (number : ℕ) (sites : List Site) → Says (walk test number sites) (broken_in test number sites)
says test number [] = refl
says test number (site ∷ sites) = step (test site) (nat_eq number 4294967295) refl (says test (number + 1) sites)
  where
    step : (broken full : Bool) → test site ≡ broken → Says (walk test (number + 1) sites) (broken_in test (number + 1) sites)
        → Says (onward (if broken then Err (stop.At number) else (if full then Err stop.Full else Ok (suc number))) (λ n. walk test n sites))
        (broken_in test number (site ∷ sites))
    step true full is rest = (broken_in test (number + 1) sites, rw is refl)
    step false true is rest = _
    step false false is rest =
        let here = subst (λ n. Says (walk test n sites) (broken_in test (number + 1) sites)) (add-one number) rest in
        rw is here

-- Two tests that agree on all sites break the same lines.
pub broken_same : (one other : Site → Bool) (number : ℕ) (sites : List Site) → AllByRecursion (λ site. one site ≡ other site) sites
    → broken_in one number sites ≡ broken_in other number sites
broken_same one other number [] same = refl
broken_same one other number (site ∷ sites) same =
    let rest = broken_same one other (number + 1) sites same.1 in
    rw (same.0, rest) refl
