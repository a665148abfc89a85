-- How the tokens of an expression with parts begin, with the tokens after it.
use Rattle.std.proofs.Common.{◌≡◌, List, [], ◌∷◌, ◌++◌, ap, ◌∙◌, append_assoc}
use Rattle.unit_tree.specs.Phrases.{symbol, keyword, in_parens}
use Rattle.unit_tree.specs.declared.token.Keyword.TheVariants as word
use Rattle.unit_tree.specs.declared.token.Symbol.TheVariants as sign
use Rattle.unit_tree.specs.declared.token.Token.{Token}

-- One expression in parentheses.
pub group_tokens : (inner rest : List Token) → in_parens inner ++ rest ≡ symbol sign.Open ∷ (inner ++ (symbol sign.Close ∷ rest))
group_tokens inner rest = ap (λ all. symbol sign.Open ∷ all) (append_assoc inner (symbol sign.Close ∷ []) rest)

-- Two expressions in parentheses.
pub pair_tokens : (left right rest : List Token)
    → in_parens (left ++ (symbol sign.Comma ∷ right)) ++ rest ≡ symbol sign.Open ∷ (left ++ (symbol sign.Comma ∷ (right ++ (symbol sign.Close ∷ rest))))
pair_tokens left right rest =
    group_tokens (left ++ (symbol sign.Comma ∷ right)) rest
    ∙ ap (λ all. symbol sign.Open ∷ all) (append_assoc left (symbol sign.Comma ∷ right) (symbol sign.Close ∷ rest))

-- Three expressions in parentheses.
pub clamp_tokens : (value low high rest : List Token)
    → in_parens (value ++ (symbol sign.Comma ∷ (low ++ (symbol sign.Comma ∷ high)))) ++ rest
    ≡ symbol sign.Open ∷ (value ++ (symbol sign.Comma ∷ (low ++ (symbol sign.Comma ∷ (high ++ (symbol sign.Close ∷ rest))))))
clamp_tokens value low high rest =
    pair_tokens value (low ++ (symbol sign.Comma ∷ high)) rest
    ∙ ap (λ all. symbol sign.Open ∷ (value ++ (symbol sign.Comma ∷ all))) (append_assoc low (symbol sign.Comma ∷ high) (symbol sign.Close ∷ rest))

-- The parts of a choice, after `if`.
pub choice_tokens : (condition chosen other rest : List Token)
    → (condition ++ (keyword word.Then ∷ (chosen ++ (keyword word.Else ∷ other)))) ++ rest
    ≡ condition ++ (keyword word.Then ∷ (chosen ++ (keyword word.Else ∷ (other ++ rest))))
choice_tokens condition chosen other rest =
    append_assoc condition (keyword word.Then ∷ (chosen ++ (keyword word.Else ∷ other))) rest
    ∙ ap (λ all. condition ++ (keyword word.Then ∷ all)) (append_assoc chosen (keyword word.Else ∷ other) rest)
