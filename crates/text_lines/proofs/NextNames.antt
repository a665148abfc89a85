-- A name that comes next is one of the names, and without it there are none.
use Rattle.std.proofs.Common.{◌≡◌, ℕ, List, [], ◌∷◌, ◌++◌, Some, None, refl, ap}
use Rattle.unit_tree.specs.declared.token.Symbol.TheVariants as sign
use Rattle.unit_tree.specs.declared.token.Token.{Token}
use Rattle.unit_tree.specs.declared.token.Token.TheVariants as token
use Rattle.text_lines.specs.Expressions.{name_at}
use Rattle.text_lines.specs.LineReading.{more_names}

pub next_named : (names : List (List ℕ)) (tokens : List Token) (name : List ℕ) (rest : List Token) → name_at tokens ≡ Some (name, rest)
    → more_names names (token.Symbol sign.Comma ∷ tokens) ≡ more_names (names ++ (name ∷ [])) rest
next_named names [] name rest is = absurd (cc)
next_named names (token.Name found ∷ behind) name rest is =
    let pairs : ◌≡◌ {A = List ℕ × List Token} (found, behind) (name, rest) = cc in
    ap (λ (p : List ℕ × List Token). more_names (names ++ (p.0 ∷ [])) p.1) pairs
next_named names (token.Keyword keyword ∷ behind) name rest is = absurd (cc)
next_named names (token.Number digits decimals ∷ behind) name rest is = absurd (cc)
next_named names (token.Symbol symbol ∷ behind) name rest is = absurd (cc)

pub next_unnamed : (names : List (List ℕ)) (tokens : List Token) → name_at tokens ≡ None → more_names names (token.Symbol sign.Comma ∷ tokens) ≡ None
next_unnamed names [] is = refl
next_unnamed names (token.Name found ∷ behind) is = absurd (cc)
next_unnamed names (token.Keyword keyword ∷ behind) is = refl
next_unnamed names (token.Number digits decimals ∷ behind) is = refl
next_unnamed names (token.Symbol symbol ∷ behind) is = refl
