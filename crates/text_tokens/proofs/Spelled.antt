-- The tokens that a line spells, computed.
use Rattle.std.proofs.Common.{◌≡◌, ℕ, suc, zero, List, [], ◌∷◌, Option, Some, None, refl, ap, subst}
use Rattle.std.specs.Option.{option_map}
use Rattle.unit_tree.specs.Tokens.{Spells}
use Rattle.unit_tree.specs.declared.token.Token.{Token}
use Rattle.text_tokens.specs.Scanning.{token_at}
use Rattle.text_tokens.proofs.TokenLemmas.{behind_blanks, begins_with_first, line_blank}

abbrev then_more : (List ℕ → Option (List Token)) → Option (Token × List ℕ) → Option (List Token)
then_more more None = None
then_more more (Some (first, rest)) = option_map (λ others. first ∷ others) (more rest)

abbrev from_front : (List ℕ → Option (List Token)) → List ℕ → Option (List Token)
from_front more [] = Some []
from_front more (byte ∷ bytes) = then_more more (token_at (byte ∷ bytes))

-- The tokens of a line, of which there are at most this many.
unfoldable pub tokens_in : ℕ → List ℕ → Option (List Token)
tokens_in zero line = None
tokens_in (suc most) line = from_front (tokens_in most) (behind_blanks line)

some_more : (first : Token) (found : Option (List Token)) (tokens : List Token) → option_map (λ others. first ∷ others) found ≡ Some tokens
    → (others : List Token) × (found ≡ Some others) × (first ∷ others ≡ tokens)
some_more first None tokens is = absurd (cc)
some_more first (Some others) tokens is = (others, refl, cc)

spells_more : (most : ℕ) (line : List ℕ) (found : Option (Token × List ℕ)) (tokens : List Token)
    → ((rest : List ℕ) (others : List Token) → tokens_in most rest ≡ Some others → Spells others rest) → token_at (behind_blanks line) ≡ found
    → then_more (tokens_in most) found ≡ Some tokens → Spells tokens line
spells_more most line None tokens later at is = absurd (cc)
spells_more most line (Some (first, rest)) tokens later at is =
    let more = some_more first (tokens_in most rest) tokens is in
    subst (λ all. Spells all line) more.2 (rest, begins_with_first line first rest at, later rest more.0 more.1)

spells_front : (most : ℕ) (line front : List ℕ) (tokens : List Token)
    → ((rest : List ℕ) (others : List Token) → tokens_in most rest ≡ Some others → Spells others rest) → behind_blanks line ≡ front
    → from_front (tokens_in most) front ≡ Some tokens → Spells tokens line
spells_front most line [] tokens later at is =
    let none : [] ≡ tokens = cc in
    subst (λ all. Spells all line) none (line_blank line at)
spells_front most line (byte ∷ bytes) tokens later at is = spells_more most line (token_at (byte ∷ bytes)) tokens later (ap token_at at) is

pub spells : (most : ℕ) (line : List ℕ) (tokens : List Token) → tokens_in most line ≡ Some tokens → Spells tokens line
unfolding tokens_in
spells zero line tokens is = absurd (cc)
spells (suc most) line tokens is = spells_front most line (behind_blanks line) tokens (spells most) refl is
