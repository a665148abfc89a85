-- A system is well-formed where each of its lines keeps each rule.
use Rattle.std.proofs.Common.{◌≡◌, ℕ, ◌+◌, Bool, true, false, List, [], ◌∷◌, ◌++◌, refl}
use Rattle.std.specs.Prelude.{not}
use Rattle.std.specs.List.{AllByRecursion, list_all, filter_map, enumerate_from}
use Rattle.std.proofs.lemmas.Bool.{and_parts}
use Rattle.list_laws.proofs.Lists.{each_so, each_append}
use Rattle.list_laws.proofs.Truths.{not_true}
use Rattle.unit_tree.specs.Sites.{Scope, Site, Headed, sites, sites_of}
use Rattle.unit_tree.specs.WellFormed.{Rule, rules, number_where, BreaksNone, IsWellFormed}
use Rattle.unit_tree.specs.declared.line_form.LineForm.{LineForm}
use Rattle.unit_tree.specs.declared.system.System.{System}
use Rattle.language_laws.proofs.NameLaws.{Hold}

-- Whether a line keeps some rules, and whether it keeps all.
abbrev pub keeps : List Rule → System → Site → Bool
keeps judged system site = list_all (λ rule. not (rule.breaks system site)) judged

abbrev pub Keeps : System → Site → Type 0
Keeps system site = keeps rules system site ≡ true

pub all_told : (system : System) (all : List Site) → list_all (keeps rules system) all ≡ true → AllByRecursion (Keeps system) all
all_told system [] told = tt
all_told system (site ∷ all) told =
    let both = and_parts (keeps rules system site) (list_all (keeps rules system) all) told in
    (both.0, all_told system all both.1)

-- Where no line breaks a rule, no number is given.
pub no_number : (breaks : Site → Bool) (number : ℕ) (all : List Site) → AllByRecursion (λ site. breaks site ≡ false) all
    → filter_map (number_where breaks) (enumerate_from number all) ≡ []
no_number breaks number [] keep = refl
no_number breaks number (site ∷ all) keep = rw (keep.0) (no_number breaks (number + 1) all keep.1)

breaks_none : (judged : List Rule) (system : System) → AllByRecursion (λ site. keeps judged system site ≡ true) (sites_of system) → BreaksNone judged system
breaks_none [] system keep = tt
breaks_none (first ∷ later) system keep =
    let Here : Site → Type 0 = λ site. keeps (first ∷ later) system site ≡ true in
    let parts : (site : Site) → Here site → (not (first.breaks system site) ≡ true) × (keeps later system site ≡ true) =
    λ site here. and_parts (not (first.breaks system site)) (keeps later system site) here in (
      no_number (first.breaks system) 1 (sites_of system)
          (each_so Here (λ site. first.breaks system site ≡ false) (λ site here. not_true (first.breaks system site) (parts site here).0)
          (sites_of system) keep),
      breaks_none later system (each_so Here (λ site. keeps later system site ≡ true) (λ site here. (parts site here).1) (sites_of system) keep),
    )

pub well_formed : (system : System) → AllByRecursion (Keeps system) (sites_of system) → IsWellFormed system
well_formed system keep = breaks_none rules system keep

-- Lines with their blocks, in their order.
pub all_hold : (P : Site → Type 0) (scope : Scope) (earlier : List LineForm) (headed : List Headed) → Hold P scope earlier headed
    → AllByRecursion P (sites scope earlier headed)
all_hold P scope earlier [] hold = tt
all_hold P scope earlier (first ∷ others) hold = (
  hold.0,
  each_append P first.block (sites scope (earlier ++ (first.head ∷ [])) others) hold.1 (all_hold P scope (earlier ++ (first.head ∷ [])) others hold.2),
)
