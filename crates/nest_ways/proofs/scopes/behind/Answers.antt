use Rattle.std.proofs.Common.{◌≡◌, ◌∙◌, ◌++◌, ℕ, List, None, Option, Some, ap}
use Rattle.std.specs.Borrow.{Bor}
use Rattle.std.specs.Option.{MatchOption}
use Rattle.std.specs.Option.{option_map}
use Rattle.std.proofs.lemmas.Bool.Decides.{Decides-eqb}
use Rattle.std.proofs.lemmas.Option.{same_Some}
use Rattle.std.proofs.lemmas.Slice.Eq.{strip_prefix_is}
use Rattle.nest_ways.proofs.scopes.behind.Goals as goal

told : (No : Type 0) (whole front : List ℕ) (result : Option (Bor (List ℕ))) → MatchOption result No (λ more. whole ≡ front ++ more.now)
    → (rest : List ℕ) → option_map (λ found. found.now) result ≡ Some rest → whole ≡ front ++ rest
told No whole front None none rest is = let never : None ≡ Some rest = is in absurd (cc)
told No whole front (Some more) whole_is rest is = whole_is ∙ ap (λ all. front ++ all) (same_Some more.now rest is)

pub returns : goal.returns
returns c rest is =
    told _ c.args.whole.now c.args.front.now c.strip_prefix.result
    (strip_prefix_is Decides-eqb c.args.whole.now c.args.front.now c.strip_prefix.result c.strip_prefix.ensures.cases) rest is
