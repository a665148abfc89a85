-- What is appended to a text for one node of an expression.
use Rattle.std.proofs.Common.{◌≡◌, ℕ, List, ◌∷◌, ◌++◌, refl, sym, ap, ◌∙◌}
use Rattle.std.specs.Prelude.{IsTrue, IsFalse}
use Rattle.unit_tree.specs.Canonical.{canonical_phrase, node_phrase, placed, expression_tokens}
use Rattle.unit_tree.specs.Phrases as phrase
use Rattle.unit_tree.specs.Phrases.{Phrase, Level, Whole, Or, And, phrase_tokens}
use Rattle.unit_tree.specs.Phrases.{call_of_two, operation, keyword, symbol, left_level, right_level, binary_level, in_parens}
use Rattle.unit_tree.specs.declared.expr.BinOp.{BinOp}
use Rattle.unit_tree.specs.declared.expr.BinOp.TheVariants as by
use Rattle.unit_tree.specs.declared.expr.Expr as expr
use Rattle.unit_tree.specs.declared.expr.Expr.{Expr}
use Rattle.unit_tree.specs.declared.token.Keyword.TheVariants as word
use Rattle.unit_tree.specs.declared.token.Symbol.TheVariants as sign
use Rattle.unit_tree.specs.declared.token.Token.{Token}
use Rattle.unit_tree.proofs.FoldLemmas.{fold-Binary, fold-Clamp, fold-Choose}
use Rattle.unit_print.specs.Growing.{with_token, with_tokens}
use Rattle.unit_print.specs.Calls.{is_call}
use Rattle.unit_print.proofs.GrowingTexts.{tokens_append, infix_tokens}
use Rattle.text_laws.proofs.ShortestPhrases.{placed_whole}

call_phrase : (op : BinOp) (left right : Phrase) → IsTrue (is_call op)
    → phrase_tokens (phrase.Binary op (placed (left_level (binary_level op)) left) (placed (right_level (binary_level op)) right))
    ≡ call_of_two (operation op) (phrase_tokens left) (phrase_tokens right)
call_phrase by.Min left right is =
    ap (λ (p : Phrase). call_of_two (operation by.Min) (phrase_tokens p) (phrase_tokens (placed Whole right))) (placed_whole left)
    ∙ ap (λ (p : Phrase). call_of_two (operation by.Min) (phrase_tokens left) (phrase_tokens p)) (placed_whole right)
call_phrase by.Max left right is =
    ap (λ (p : Phrase). call_of_two (operation by.Max) (phrase_tokens p) (phrase_tokens (placed Whole right))) (placed_whole left)
    ∙ ap (λ (p : Phrase). call_of_two (operation by.Max) (phrase_tokens left) (phrase_tokens p)) (placed_whole right)
call_phrase by.Add left right is = absurd cc
call_phrase by.Sub left right is = absurd cc
call_phrase by.Mul left right is = absurd cc
call_phrase by.Slash left right is = absurd cc
call_phrase by.Div left right is = absurd cc
call_phrase by.Mod left right is = absurd cc
call_phrase by.Eq left right is = absurd cc
call_phrase by.Ne left right is = absurd cc
call_phrase by.Lt left right is = absurd cc
call_phrase by.Le left right is = absurd cc
call_phrase by.Gt left right is = absurd cc
call_phrase by.Ge left right is = absurd cc
call_phrase by.And left right is = absurd cc
call_phrase by.Or left right is = absurd cc

call_put : (text : List ℕ) (called : Token) (left right : List Token) → with_tokens text (call_of_two called left right)
    ≡ with_token (with_tokens (with_tokens (with_token text called) (symbol sign.Open ∷ left)) (symbol sign.Comma ∷ right)) (symbol sign.Close)
call_put text called left right = simp tokens_append refl

infix_put : (text : List ℕ) (between : Token) (left right : List Token)
    → with_tokens text (left ++ (between ∷ right)) ≡ with_tokens (with_token (with_tokens text left) between) right
infix_put text between left right = tokens_append text left (between ∷ right)

clamp_put : (text : List ℕ) (value low high : List Token)
    → with_tokens text (keyword word.Clamp ∷ in_parens (value ++ (symbol sign.Comma ∷ low ++ (symbol sign.Comma ∷ high))))
    ≡ with_token
    (with_tokens (with_tokens (with_tokens (with_token text (keyword word.Clamp)) (symbol sign.Open ∷ value)) (symbol sign.Comma ∷ low))
    (symbol sign.Comma ∷ high))
    (symbol sign.Close)
clamp_put text value low high = simp tokens_append refl

choose_put : (text : List ℕ) (cond chosen other : List Token)
    → with_tokens text (keyword word.If ∷ cond ++ (keyword word.Then ∷ chosen ++ (keyword word.Else ∷ other)))
    ≡ with_tokens (with_tokens (with_tokens text (keyword word.If ∷ cond)) (keyword word.Then ∷ chosen)) (keyword word.Else ∷ other)
choose_put text cond chosen other = simp tokens_append refl

pub choose_done : (whole cond chosen other a b d : Expr) (old one two all : List ℕ) → whole ≡ expr.Choose cond chosen other → a ≡ cond → b ≡ chosen → d ≡ other
    → one ≡ with_tokens old (keyword word.If ∷ expression_tokens a) → two ≡ with_tokens one (keyword word.Then ∷ expression_tokens b)
    → all ≡ with_tokens two (keyword word.Else ∷ expression_tokens d)
    → all ≡ with_tokens old (expression_tokens whole)
choose_done whole cond chosen other a b d old one two all is is_a is_b is_d first second third =
    let node = ap canonical_phrase is ∙ fold-Choose Phrase node_phrase cond chosen other in
    third
    ∙ ap (λ text. with_tokens text (keyword word.Else ∷ expression_tokens d))
    (second ∙ ap (λ text. with_tokens text (keyword word.Then ∷ expression_tokens b)) first)
    ∙ sym (choose_put old (expression_tokens a) (expression_tokens b) (expression_tokens d))
    ∙ ap (λ (e : Expr). with_tokens old (phrase_tokens (phrase.Choose (canonical_phrase e) (canonical_phrase b) (canonical_phrase d)))) is_a
    ∙ ap (λ (e : Expr). with_tokens old (phrase_tokens (phrase.Choose (canonical_phrase cond) (canonical_phrase e) (canonical_phrase d)))) is_b
    ∙ ap (λ (e : Expr). with_tokens old (phrase_tokens (phrase.Choose (canonical_phrase cond) (canonical_phrase chosen) (canonical_phrase e)))) is_d
    ∙ ap (λ (p : Phrase). with_tokens old (phrase_tokens p)) (sym node)

pub clamp_done : (whole value low high a b d : Expr) (old zero one two three all : List ℕ) → whole ≡ expr.Clamp value low high → a ≡ value → b ≡ low → d ≡ high
    → zero ≡ with_token old (keyword word.Clamp) → one ≡ with_tokens zero (symbol sign.Open ∷ expression_tokens a)
    → two ≡ with_tokens one (symbol sign.Comma ∷ expression_tokens b)
    → three ≡ with_tokens two (symbol sign.Comma ∷ expression_tokens d) → all ≡ with_token three (symbol sign.Close)
    → all ≡ with_tokens old (expression_tokens whole)
clamp_done whole value low high a b d old zero one two three all is is_a is_b is_d begun first second third last =
    let node = ap canonical_phrase is ∙ fold-Clamp Phrase node_phrase value low high in
    last
    ∙ ap (λ text. with_token text (symbol sign.Close)) (third
    ∙ ap (λ text. with_tokens text (symbol sign.Comma ∷ expression_tokens d)) (second
    ∙ ap (λ text. with_tokens text (symbol sign.Comma ∷ expression_tokens b)) (first
    ∙ ap (λ text. with_tokens text (symbol sign.Open ∷ expression_tokens a)) begun)))
    ∙ sym (clamp_put old (expression_tokens a) (expression_tokens b) (expression_tokens d))
    ∙ ap (λ (e : Expr). with_tokens old (phrase_tokens (phrase.Clamp (canonical_phrase e) (canonical_phrase b) (canonical_phrase d)))) is_a
    ∙ ap (λ (e : Expr). with_tokens old (phrase_tokens (phrase.Clamp (canonical_phrase value) (canonical_phrase e) (canonical_phrase d)))) is_b
    ∙ ap (λ (e : Expr). with_tokens old (phrase_tokens (phrase.Clamp (canonical_phrase value) (canonical_phrase low) (canonical_phrase e)))) is_d
    ∙ ap (λ (p : Phrase). with_tokens old (phrase_tokens p)) (sym node)

pub call_done : (whole left right a b : Expr) (op : BinOp) (old zero one two all : List ℕ) → IsTrue (is_call op) → whole ≡ expr.Binary op left right
    → a ≡ left → b ≡ right
    → zero ≡ with_token old (operation op) → one ≡ with_tokens zero (symbol sign.Open ∷ expression_tokens a)
    → two ≡ with_tokens one (symbol sign.Comma ∷ expression_tokens b)
    → all ≡ with_token two (symbol sign.Close)
    → all ≡ with_tokens old (expression_tokens whole)
call_done whole left right a b op old zero one two all called is is_a is_b begun first second last =
    let node = ap canonical_phrase is ∙ fold-Binary Phrase node_phrase op left right in
    last
    ∙ ap (λ text. with_token text (symbol sign.Close)) (second
    ∙ ap (λ text. with_tokens text (symbol sign.Comma ∷ expression_tokens b)) (first
    ∙ ap (λ text. with_tokens text (symbol sign.Open ∷ expression_tokens a)) begun))
    ∙ sym (call_put old (operation op) (expression_tokens a) (expression_tokens b))
    ∙ ap (λ (e : Expr). with_tokens old (call_of_two (operation op) (expression_tokens e) (expression_tokens b))) is_a
    ∙ ap (λ (e : Expr). with_tokens old (call_of_two (operation op) (expression_tokens left) (expression_tokens e))) is_b
    ∙ ap (with_tokens old) (sym (call_phrase op (canonical_phrase left) (canonical_phrase right) called))
    ∙ ap (λ (p : Phrase). with_tokens old (phrase_tokens p)) (sym node)

pub infix_done : (whole left right a b : Expr) (op : BinOp) (own at_left at_right : Level) (old one two all : List ℕ) → IsFalse (is_call op)
    → whole ≡ expr.Binary op left right → a ≡ left → b ≡ right
    → own ≡ binary_level op → at_left ≡ left_level own → at_right ≡ right_level own
    → one ≡ with_tokens old (phrase_tokens (placed at_left (canonical_phrase a))) → two ≡ with_token one (operation op)
    → all ≡ with_tokens two (phrase_tokens (placed at_right (canonical_phrase b)))
    → all ≡ with_tokens old (expression_tokens whole)
infix_done whole left right a b op own at_left at_right old one two all called is is_a is_b is_own is_left is_right first second last =
    let node = ap canonical_phrase is ∙ fold-Binary Phrase node_phrase op left right in
    let on_left : phrase_tokens (placed at_left (canonical_phrase a)) ≡ phrase_tokens (placed (left_level (binary_level op)) (canonical_phrase left)) =
    ap (λ (e : Expr). phrase_tokens (placed at_left (canonical_phrase e))) is_a
    ∙ ap (λ (l : Level). phrase_tokens (placed l (canonical_phrase left))) (is_left ∙ ap left_level is_own) in
    let on_right : phrase_tokens (placed at_right (canonical_phrase b)) ≡ phrase_tokens (placed (right_level (binary_level op)) (canonical_phrase right)) =
    ap (λ (e : Expr). phrase_tokens (placed at_right (canonical_phrase e))) is_b
    ∙ ap (λ (l : Level). phrase_tokens (placed l (canonical_phrase right))) (is_right ∙ ap right_level is_own) in
    last
    ∙ ap (λ text. with_tokens text (phrase_tokens (placed at_right (canonical_phrase b)))) (second ∙ ap (λ text. with_token text (operation op)) first)
    ∙ sym (infix_put old (operation op) (phrase_tokens (placed at_left (canonical_phrase a))) (phrase_tokens (placed at_right (canonical_phrase b))))
    ∙ ap (λ (tokens : List Token). with_tokens old (tokens ++ (operation op ∷ phrase_tokens (placed at_right (canonical_phrase b))))) on_left
    ∙ ap (λ (tokens : List Token). with_tokens old
    (phrase_tokens (placed (left_level (binary_level op)) (canonical_phrase left)) ++ (operation op ∷ tokens))) on_right
    ∙ ap (with_tokens old)
    (sym (infix_tokens op (phrase_tokens (placed (left_level (binary_level op)) (canonical_phrase left)))
    (phrase_tokens (placed (right_level (binary_level op)) (canonical_phrase right))) called))
    ∙ ap (λ (p : Phrase). with_tokens old (phrase_tokens p)) (sym node)
