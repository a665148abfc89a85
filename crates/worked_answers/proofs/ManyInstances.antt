-- The flat system with 64 instances has a canonical text.
use Rattle.std.proofs.Common.{◌≡◌, ℕ, zero, suc, ◌≤◌, pos, List, [], ◌∷◌, ◌++◌, length, refl, sym, subst, arith}
use Rattle.std.specs.Prelude.{codes, nat_le, IsTrue}
use Rattle.std.specs.Fmt.{digits}
use Rattle.std.specs.List.{AllByRecursion, flat_map, list_all, repeat}
use Rattle.std.proofs.lemmas.Bool.{leb-true}
use Rattle.fixed_words.specs.declared.types.Literal.TheVariants as literal
use Rattle.fixed_words.specs.declared.types.Ty.TheVariants.{Int64}
use Rattle.model_rules.specs.Limits.{line_limit, text_limit}
use Rattle.text_tokens.specs.Scanning.{keyword_of}
use Rattle.text_tokens.proofs.TableLemmas.{keyword_of_none}
use Rattle.unit_tree.specs.Canonical.{canonical_text, line_text}
use Rattle.unit_tree.specs.LineForms.{tail_of}
use Rattle.unit_tree.specs.Names.{names_in}
use Rattle.unit_tree.specs.Printable.{IsInRange, IsPrintable, is_writable, names_on}
use Rattle.unit_tree.specs.Tokens.{IsName, IsWord}
use Rattle.unit_tree.specs.declared.expr.BinOp.TheVariants.{Add}
use Rattle.unit_tree.specs.declared.expr.Expr as expr
use Rattle.unit_tree.specs.declared.expr.Expr.{Expr, the_lemmas as expr_lemmas}
use Rattle.unit_tree.specs.declared.line_form.LineForm.{LineForm}
use Rattle.unit_tree.specs.declared.line_form.LineForm.TheVariants as form
use Rattle.unit_tree.specs.declared.system.System.{System}
use Rattle.unit_tree.specs.declared.unit.Output.{Output}
use Rattle.nest_runs.specs.WorkedNest.{instance_of, system_with}

-- ---- Its lines

abbrev flat : System
flat = system_with (repeat 64 (instance_of (codes "r_k") (codes "Next") ∷ [])) [] []

-- `x + 1`, and the output with it.
abbrev next_of_x : Expr
next_of_x = expr.Binary Add (expr.Var (codes "x")) (expr.Number (pos 1) 0)

abbrev output_y : Output
output_y = record { name = codes "y"; ty = Int64; needs = codes "x" ∷ []; value = next_of_x }

abbrev unit_forms : List LineForm
unit_forms = form.Header 1 ∷ form.Unit (codes "Next") ∷ form.Input (record { name = codes "x"; ty = Int64; start = literal.Number (pos 0) 0 }) ∷ []

abbrev instance_form : LineForm
instance_form = form.Instance (codes "r_k") (codes "Next")

abbrev last_forms : List LineForm
last_forms = form.Stop (literal.Number (pos 3) 0) ∷ form.Longest (literal.Number (pos 1) 0) ∷ []

-- The lines from the step of the unit on, and those of instances, so many.
abbrev forms_of_instances : ℕ → List LineForm
forms_of_instances count = repeat count (instance_form ∷ form.End ∷ []) ++ last_forms

abbrev later_forms : List LineForm
later_forms = form.Step ∷ form.End ∷ form.End ∷ forms_of_instances 64

abbrev all_forms : List LineForm
all_forms = unit_forms ++ (form.Output output_y ∷ later_forms)

-- What holds of the lines of one instance and of the last lines holds of all of them.
of_instances : (P : LineForm → Type 0) (count : ℕ) → P instance_form → P form.End → AllByRecursion P last_forms
    → AllByRecursion P (forms_of_instances count)
of_instances P zero begins ends last = last
of_instances P (suc count) begins ends last = (begins, (ends, of_instances P count begins ends last))

-- ---- Its names

name_next : IsName (codes "Next")
unfolding keyword_of
name_next = ((refl, refl, omega arith), keyword_of_none (codes "Next") refl)

name_x : IsName (codes "x")
unfolding keyword_of
name_x = ((refl, refl, omega arith), keyword_of_none (codes "x") refl)

name_y : IsName (codes "y")
unfolding keyword_of
name_y = ((refl, refl, omega arith), keyword_of_none (codes "y") refl)

name_r_k : IsName (codes "r_k")
unfolding keyword_of
name_r_k = ((refl, refl, omega arith), keyword_of_none (codes "r_k") refl)

names_in_next : names_in next_of_x ≡ codes "x" ∷ []
names_in_next = simp expr_lemmas refl

names_are_names : AllByRecursion (λ line. AllByRecursion IsName (names_on line)) all_forms
names_are_names = (
  _,
  (
    (name_next, _),
    (
      (name_x, _),
      (
        (name_y, (name_x, subst (AllByRecursion IsName) (sym names_in_next) (name_x, _))),
        (_, (_, (_, of_instances (λ line. AllByRecursion IsName (names_on line)) 64 (name_r_k, (name_next, _)) _ (_, (_, _))))),
      ),
    ),
  ),
)

names_are_words : AllByRecursion (λ line. AllByRecursion IsWord (names_on line)) all_forms
names_are_words = (
  _,
  (
    (name_next.0, _),
    (
      (name_x.0, _),
      (
        (name_y.0, (name_x.0, subst (AllByRecursion IsWord) (sym names_in_next) (name_x.0, _))),
        (_, (_, (_, of_instances (λ line. AllByRecursion IsWord (names_on line)) 64 (name_r_k.0, (name_next.0, _)) _ (_, (_, _))))),
      ),
    ),
  ),
)

-- ---- Its numbers and its text

numbers_are : AllByRecursion IsInRange all_forms
numbers_are = (
  ((omega arith, omega arith), _),
  (
    (_, _),
    (
      (_, omega arith),
      ((_, simp expr_lemmas refl), ((_, _), ((_, _), ((_, _), of_instances IsInRange 64 (_, _) (_, _) ((_, omega arith), ((_, omega arith), _)))))),
    ),
  ),
)

output_text : line_text (form.Output output_y) ≡ codes "output y:Int64 needs x=x+1"
unfolding digits
output_text = simp expr_lemmas refl

-- The text, by that of the line with the output.
abbrev text_with : List ℕ → List ℕ
text_with shown =
    flat_map (λ some. line_text some ++ 10 ∷ []) unit_forms ++ (shown ++ 10 ∷ []) ++ flat_map (λ some. line_text some ++ 10 ∷ []) later_forms

text_is_short : length (canonical_text flat) ≤ text_limit
unfolding digits
text_is_short = subst (λ shown. length (text_with shown) ≤ text_limit) (sym output_text) (leb-true _ text_limit refl)

tails_are : IsTrue (list_all (λ line. is_writable (tail_of line)) all_forms)
tails_are = simp expr_lemmas refl

lines_are_short : IsTrue (list_all (λ line. nat_le (length (line_text line)) line_limit) all_forms)
unfolding digits
lines_are_short = simp expr_lemmas refl

pub flat_is_printable : IsPrintable flat
flat_is_printable = record {
  ranged = record { version = (omega arith, omega arith); events = λ first. refl; names = names_are_words; numbers = numbers_are };
  of_version = λ first. simp expr_lemmas refl;
  names = names_are_names;
  tails = tails_are;
  blocks = refl;
  lines = lines_are_short;
  text = text_is_short;
}
