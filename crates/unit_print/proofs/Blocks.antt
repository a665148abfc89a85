-- How a line of a step with its block, and the names after `needs`, are appended to a text.
use Rattle.std.proofs.Common.{◌≡◌, ◌≤◌, ℕ, List, [], ◌∷◌, ◌++◌, ◌-◌, length, take, drop, get_or, Option, sym, ap, ◌∙◌, arith}
use Rattle.std.proofs.Math.Seq.{take-length}
use Rattle.std.specs.Prelude.{map}
use Rattle.std.specs.Option.{option_map}
use Rattle.unit_tree.specs.LineForms.{needs_tokens}
use Rattle.unit_tree.specs.Parts.{block_forms, else_forms, joined, line_forms}
use Rattle.unit_tree.specs.Phrases.{keyword}
use Rattle.unit_tree.specs.declared.expr.Expr.{Expr}
use Rattle.unit_tree.specs.declared.line.Line as line
use Rattle.unit_tree.specs.declared.line.Line.{Line}
use Rattle.unit_tree.specs.declared.line_form.LineForm.{LineForm}
use Rattle.unit_tree.specs.declared.line_form.LineForm.TheVariants as form
use Rattle.unit_tree.specs.declared.token.Keyword.TheVariants as word
use Rattle.unit_tree.specs.declared.token.Token.TheVariants as token
use Rattle.unit_tree.specs.declared.token.Token.{Token}
use Rattle.unit_tree.proofs.FoldLemmas.{fold-If, fold-Repeat}
use Rattle.unit_print.specs.Growing.{with_token, with_tokens, with_lines, with_step_lines, others_tokens}
use Rattle.unit_print.proofs.GrowingTexts.{lines_append, joined_are, names_are}

pub if_done : (whole : Line) (cond : Expr) (then_lines body : List Line) (else_lines : Option (List Line)) (old one two three all : List ℕ)
    → whole ≡ line.If cond then_lines else_lines → body ≡ then_lines
    → one ≡ with_lines old (form.If cond ∷ []) → two ≡ with_step_lines one body → three ≡ with_lines two (else_forms (option_map (map line_forms) else_lines))
    → all ≡ with_lines three (form.End ∷ [])
    → all ≡ with_lines old (line_forms whole)
if_done whole cond then_lines body else_lines old one two three all is is_body first second third last =
    let start = with_lines old (form.If cond ∷ []) in
    let inner = joined (map line_forms then_lines) in
    let rest = else_forms (option_map (map line_forms) else_lines) in
    let node = ap line_forms is ∙ fold-If (List LineForm) block_forms cond then_lines else_lines in
    let here : two ≡ with_lines start inner = second ∙ ap (λ text. with_step_lines text body) first ∙ ap (with_step_lines start) is_body
    ∙ sym (joined_are start then_lines) in
    last
    ∙ ap (λ text. with_lines text (form.End ∷ [])) (third ∙ ap (λ text. with_lines text rest) here)
    ∙ ap (λ text. with_lines text (form.End ∷ [])) (sym (lines_append start inner rest))
    ∙ sym (lines_append start (inner ++ rest) (form.End ∷ []))
    ∙ ap (with_lines old) (sym node)

pub repeat_done : (whole : Line) (count : ℕ) (inside body : List Line) (old one two all : List ℕ) → whole ≡ line.Repeat count inside → body ≡ inside
    → one ≡ with_lines old (form.Repeat count ∷ []) → two ≡ with_step_lines one body → all ≡ with_lines two (form.End ∷ [])
    → all ≡ with_lines old (line_forms whole)
repeat_done whole count inside body old one two all is is_body first second last =
    let start = with_lines old (form.Repeat count ∷ []) in
    let inner = joined (map line_forms inside) in
    let node = ap line_forms is ∙ fold-Repeat (List LineForm) block_forms count inside in
    let here : two ≡ with_lines start inner = second ∙ ap (λ text. with_step_lines text body) first ∙ ap (with_step_lines start) is_body
    ∙ sym (joined_are start inside) in
    last
    ∙ ap (λ text. with_lines text (form.End ∷ [])) here
    ∙ sym (lines_append start inner (form.End ∷ []))
    ∙ ap (with_lines old) (sym node)

pub needs_done : (names : List (List ℕ)) (first called : List ℕ) (old one two all : List ℕ) → 1 ≤ length names → first ≡ get_or names 0 first → called ≡ first
    → one ≡ with_token old (keyword word.Needs) → two ≡ with_token one (token.Name called)
    → all ≡ with_tokens two (others_tokens (take (length names - 1) (drop 1 names))) → all ≡ with_tokens old (needs_tokens names)
needs_done [] first called old one two all long is is_called begun named behind = absurd (omega arith)
needs_done (name ∷ names) first called old one two all long is is_called begun named behind =
    let long : length (name ∷ names) - 1 ≡ length names = omega arith in
    let whole : take (length (name ∷ names) - 1) names ≡ names = ap (λ n. take n names) long ∙ take-length names in
    behind
    ∙ ap (λ (rest : List (List ℕ)). with_tokens two (others_tokens rest)) whole
    ∙ ap (λ text. with_tokens text (others_tokens names))
    (named ∙ ap (λ text. with_token text (token.Name called)) begun
    ∙ ap (λ (n : List ℕ). with_token (with_token old (keyword word.Needs)) (token.Name n)) (is_called ∙ is))
    ∙ ap (λ (tokens : List Token). with_tokens (with_token old (keyword word.Needs)) tokens) (sym (names_are name names))
