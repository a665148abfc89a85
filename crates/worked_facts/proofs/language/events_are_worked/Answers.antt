use Rattle.std.proofs.Common.{◌≡◌, ℕ, zero, suc, ◌+◌, ◌≤◌, true, false, pos, List, [], ◌∷◌, Some, None, refl, ap, sym, subst, ◌∙◌, arith}
use Rattle.std.specs.Prelude.{codes, not, nat_lt, ◌||◌}
use Rattle.std.specs.Fmt.{digits}
use Rattle.std.specs.List.{list_any}
use Rattle.fixed_words.specs.declared.types.Kind.TheVariants as kinds
use Rattle.fixed_words.specs.declared.types.Ty.{Ty}
use Rattle.fixed_words.specs.declared.types.Ty.TheVariants as types
use Rattle.unit_tree.specs.Canonical.{canonical_forms}
use Rattle.unit_tree.specs.Kinds.{has_kind}
use Rattle.unit_tree.specs.LineForms.{is_of_version_2}
use Rattle.unit_tree.specs.Names.{kinds_in, node_depth, depth_of}
use Rattle.unit_tree.specs.Parts.{unit_of, system_of}
use Rattle.unit_tree.specs.Plain.{plain_expression, plain_line, plain_unit, plain_form, presence_of, word_expression_of, zero_of, with_choices}
use Rattle.worked_facts.specs.WorkedEvents.{e, tenfold, odd_else, pulse_unit, tally_unit, pulse_and_tally, plain_pulse, plain_tally, plain_pulse_and_tally}
use Rattle.worked_facts.specs.WorkedEvents.{if_present, if_occurs, mixed_unit, plain_mixed_unit, plain_mixed, with_e, is_mistaken, gaps, is_deep_event}
use Rattle.worked_facts.specs.WorkedSystems.{n, one, sum, set, run_of, output_y}
use Rattle.unit_tree.specs.declared.expr.Expr as expr
use Rattle.unit_tree.specs.declared.expr.Expr.{Expr, the_lemmas as expr_lemmas}
use Rattle.unit_tree.specs.declared.line.Line as line
use Rattle.unit_tree.specs.declared.line.Line.{Line, the_lemmas as line_lemmas}
use Rattle.unit_tree.specs.declared.system.System.{System}
use Rattle.unit_tree.specs.declared.unit.Unit.{Unit}
use Rattle.unit_tree.proofs.FoldLemmas.{fold-Truth, fold-Choose}
use Rattle.language_laws.proofs.KindLemmas.{kind_laws}
use Rattle.language_laws.proofs.PlainLemmas.{plain_laws, plain_measures, plain_depth, choices-Absent, choices-Choose}
use Rattle.worked_facts.proofs.language.events_are_worked.Goals as goal

-- ---- The plain form of the pulse and the tally

abbrev nothing : Expr
nothing = expr.Number (pos 0) 0

abbrev written : Expr
written = odd_else tenfold expr.Absent

abbrev as_bool : Expr
as_bool = odd_else (expr.Truth true) (expr.Truth false)

abbrev as_word : Expr
as_word = odd_else tenfold nothing

presence_is : plain_expression (presence_of written) ≡ as_bool
presence_is = let first : presence_of written ≡ as_bool = simp plain_laws refl in ap plain_expression first ∙ simp plain_laws refl

word_is : plain_expression (word_expression_of types.Int64 written) ≡ as_word
word_is = let first : word_expression_of types.Int64 written ≡ as_word = simp plain_laws refl in ap plain_expression first ∙ simp plain_laws refl

abbrev counting_line : Line
counting_line = set (codes "n") (sum n one)

counting_is : plain_line counting_line ≡ counting_line
counting_is = simp (line_lemmas, plain_laws) refl

abbrev pulse_of : Expr → Expr → Line → Unit
pulse_of occurs value counted = record (unit_of (codes "Pulse") plain_pulse) {
  outputs =
      record { name = codes "e?"; ty = types.Bool; needs = []; value = occurs } ∷ record { name = codes "e"; ty = types.Int64; needs = []; value = value } ∷ [];
  step = Some (counted ∷ []);
}

pulse_is : plain_unit (unit_of (codes "Pulse") pulse_unit) ≡ unit_of (codes "Pulse") plain_pulse
pulse_is =
    ap (λ occurs. pulse_of occurs (plain_expression (word_expression_of types.Int64 written)) (plain_line counting_line)) presence_is
    ∙ ap (λ value. pulse_of as_bool value (plain_line counting_line)) word_is
    ∙ ap (pulse_of as_bool as_word) counting_is

abbrev tally_with : Expr → List Line → Unit
tally_with shown lines = record (unit_of (codes "Tally") plain_tally) {
  outputs = record { name = codes "k"; ty = types.Int64; needs = []; value = shown } ∷ [];
  step = Some lines;
}

abbrev tally_line : Line
tally_line = line.If (expr.Present (codes "e")) (set (codes "got") (sum (expr.Var (codes "got")) e) ∷ []) None

abbrev plain_tally_line : Line
plain_tally_line = line.If (expr.Var (codes "e?")) (set (codes "got") (sum (expr.Var (codes "got")) e) ∷ []) None

line_is : plain_line tally_line ≡ plain_tally_line
line_is = simp (line_lemmas, plain_laws) refl

shown_is : plain_expression (expr.Var (codes "got")) ≡ expr.Var (codes "got")
shown_is = simp plain_laws refl

tally_is : plain_unit (unit_of (codes "Tally") tally_unit) ≡ unit_of (codes "Tally") plain_tally
tally_is = ap (λ shown. tally_with shown (plain_line tally_line ∷ [])) shown_is ∙ ap (λ changed. tally_with (expr.Var (codes "got")) (changed ∷ [])) line_is

abbrev system_with : Unit → Unit → System
system_with one two = record (system_of 2 plain_pulse_and_tally) { units = one ∷ two ∷ [] }

plain_is : plain_form (system_of 2 pulse_and_tally) ≡ system_of 2 plain_pulse_and_tally
plain_is =
    ap (λ one. system_with one (plain_unit (unit_of (codes "Tally") tally_unit))) pulse_is
    ∙ ap (system_with (unit_of (codes "Pulse") plain_pulse)) tally_is

-- ---- The plain form of a unit with ports of both kinds

abbrev mixed_of : Expr → Expr → Expr → Expr → Line → Unit
mixed_of shown occurs value limit changed = record (unit_of (codes "A") plain_mixed_unit) {
  outputs =
      record { name = codes "y"; ty = types.Int64; needs = codes "u" ∷ []; value = shown }
      ∷ record { name = codes "p?"; ty = types.Bool; needs = codes "e?" ∷ codes "e" ∷ []; value = occurs }
      ∷ record { name = codes "p"; ty = types.Int64; needs = codes "e?" ∷ codes "e" ∷ []; value = value }
      ∷ [];
  max = Some limit;
  step = Some (changed ∷ []);
}

abbrev mixed_line : Line
mixed_line = line.If (expr.Present (codes "e")) (line.Repeat 2 (set (codes "n") (if_present e n) ∷ []) ∷ []) (Some (line.Accept (if_present one n) ∷ []))

abbrev plain_mixed_line : Line
plain_mixed_line = line.If (expr.Var (codes "e?")) (line.Repeat 2 (set (codes "n") (if_occurs e n) ∷ []) ∷ []) (Some (line.Accept (if_occurs one n) ∷ []))

mixed_is : plain_unit (unit_of (codes "A") mixed_unit) ≡ unit_of (codes "A") plain_mixed_unit
mixed_is =
    let given = if_present e expr.Absent in
    let occurs : presence_of given ≡ if_present (expr.Truth true) (expr.Truth false) = simp plain_laws refl in
    let word : word_expression_of types.Int64 given ≡ if_present e nothing = simp plain_laws refl in
    let shown_is : plain_expression (expr.Var (codes "u")) ≡ expr.Var (codes "u") = simp plain_laws refl in
    let occurs_is : plain_expression (presence_of given) ≡ if_occurs (expr.Truth true) (expr.Truth false) = ap plain_expression occurs ∙ simp plain_laws refl in
    let value_is : plain_expression (word_expression_of types.Int64 given) ≡ if_occurs e nothing = ap plain_expression word ∙ simp plain_laws refl in
    let limit_is : plain_expression (if_present one n) ≡ if_occurs one n = simp plain_laws refl in
    let changed_is : plain_line mixed_line ≡ plain_mixed_line = simp (line_lemmas, plain_laws) refl in
    ap (λ shown.
    mixed_of shown (plain_expression (presence_of given)) (plain_expression (word_expression_of types.Int64 given)) (plain_expression (if_present one n))
    (plain_line mixed_line)) shown_is
    ∙ ap
    (λ occurs. mixed_of (expr.Var (codes "u")) occurs (plain_expression (word_expression_of types.Int64 given)) (plain_expression (if_present one n))
    (plain_line mixed_line)) occurs_is
    ∙ ap
    (λ value. mixed_of (expr.Var (codes "u")) (if_occurs (expr.Truth true) (expr.Truth false)) value (plain_expression (if_present one n))
    (plain_line mixed_line)) value_is
    ∙ ap
    (λ limit. mixed_of (expr.Var (codes "u")) (if_occurs (expr.Truth true) (expr.Truth false)) (if_occurs e nothing) limit (plain_line mixed_line)) limit_is
    ∙ ap (mixed_of (expr.Var (codes "u")) (if_occurs (expr.Truth true) (expr.Truth false)) (if_occurs e nothing) (if_occurs one n)) changed_is

pub returns-clause-plain_forms : goal.returns-clause-plain_forms
unfolding digits
returns-clause-plain_forms c = record {
  lines = simp (expr_lemmas, line_lemmas) refl;
  plain = plain_is;
  mixed_plain = ap (λ unit. record (system_of 2 plain_mixed) { units = unit ∷ [] }) mixed_is;
  same = refl;
  needs = simp plain_laws (simp (expr_lemmas, line_lemmas) refl);
  presence_of_absent = simp plain_laws refl;
  presence_of_choices = simp plain_laws refl;
  word_of_choices = simp plain_laws refl;
  zero_of_truth = refl;
  zero_of_fixed_0 = refl;
}

by_word : (value word : Expr) → word_expression_of types.Int64 value ≡ word → is_mistaken value ≡ not (has_kind (Some kinds.Int) word (kinds_in with_e))
by_word value word is = ap (λ w. not (has_kind (Some kinds.Int) w (kinds_in with_e))) is

-- ---- Choices with only `absent`

abbrev filled : Expr → ℕ → Expr
filled gap zero = gap
filled gap (suc count) = expr.Choose (expr.Truth true) gap (filled gap count)

filled_is : (gap : Expr) (change : Expr → Expr) (count : ℕ) → with_choices gap change (gaps count) ≡ filled gap count
filled_is gap change zero = choices-Absent gap change
filled_is gap change (suc count) =
    choices-Choose gap change (expr.Truth true) expr.Absent (gaps count)
    ∙ rw (choices-Absent gap change, filled_is gap change count) refl

filled_depth : (gap : Expr) (count : ℕ) → 1 ≤ depth_of gap → depth_of (filled gap count) ≡ count + depth_of gap
filled_depth gap zero some = omega arith
filled_depth gap (suc count) some =
    fold-Choose ℕ node_depth (expr.Truth true) gap (filled gap count)
    ∙ rw (fold-Truth ℕ node_depth true, filled_depth gap count some) (omega arith)

-- The depth of an event output, by the depth of the zero of its type.
deep_by : (ty : Ty) (count gap : ℕ) → depth_of (zero_of ty) ≡ gap → 1 ≤ gap
    → is_deep_event ty (gaps count) ≡ (nat_lt 32 (count + 1) || (nat_lt 32 (count + gap) || false))
deep_by ty count gap is some =
    let of_word : depth_of (plain_expression (word_expression_of ty (gaps count))) ≡ count + gap =
    plain_depth (word_expression_of ty (gaps count)) ∙ ap depth_of (filled_is (zero_of ty) (λ other. other) count)
    ∙ filled_depth (zero_of ty) count (subst (λ depth. 1 ≤ depth) (sym is) some)
    ∙ ap (λ depth. count + depth) is
    in let of_presence : depth_of (plain_expression (presence_of (gaps count))) ≡ count + 1 =
    plain_depth (presence_of (gaps count)) ∙ ap depth_of (filled_is (expr.Truth false) (λ other. expr.Truth true) count)
    ∙ filled_depth (expr.Truth false) count (subst (λ depth. 1 ≤ depth) (sym truth_depth) (omega arith))
    ∙ ap (λ depth. count + depth) truth_depth
    in ap (λ depth. nat_lt 32 depth || (nat_lt 32 (depth_of (plain_expression (word_expression_of ty (gaps count)))) || false)) of_presence
    ∙ ap (λ depth. nat_lt 32 (count + 1) || (nat_lt 32 depth || false)) of_word
  where
    truth_depth : depth_of (expr.Truth false) ≡ 1
    truth_depth = fold-Truth ℕ node_depth false

speaks : list_any is_of_version_2 (canonical_forms (system_of 1 (run_of (output_y types.Int64 [] expr.Absent ∷ [])))) ≡ true
speaks = simp expr_lemmas refl

pub returns-clause-rules : goal.returns-clause-rules
unfolding digits
returns-clause-rules c = record {
  present_written = record { text_is = refl; grammatical = refl; shortest_is = simp expr_lemmas refl };
  absent_written = record { text_is = refl; grammatical = refl; shortest_is = simp expr_lemmas refl };
  accepted = simp (plain_laws, plain_measures) (simp (kind_laws, expr_lemmas, line_lemmas) refl);
  event_first = refl;
  ports_of_version_1 = λ ranged. cc (ranged.events refl);
  absent_of_version_1 = λ printable. cc (speaks, printable.of_version refl);
  equal_names = refl;
  presence_of_input = simp (kind_laws, expr_lemmas, line_lemmas) refl;
  sampled = simp (plain_laws, plain_measures) (simp (kind_laws, expr_lemmas, line_lemmas) refl);
  choices = by_word (expr.Choose (expr.Present (codes "e")) expr.Absent n) (expr.Choose (expr.Present (codes "e")) nothing n) (simp plain_laws refl)
      ∙ simp kind_laws refl;
  absent_alone = simp (plain_laws, plain_measures) (simp (kind_laws, expr_lemmas, line_lemmas) refl);
  both_absent =
      by_word (expr.Choose (expr.Present (codes "e")) expr.Absent expr.Absent) (expr.Choose (expr.Present (codes "e")) nothing nothing) (simp plain_laws refl)
      ∙ simp kind_laws refl;
  choice_of_other_kind =
      by_word (expr.Choose (expr.Present (codes "e")) expr.Absent (expr.Truth true)) (expr.Choose (expr.Present (codes "e")) nothing (expr.Truth true))
      (simp plain_laws refl)
      ∙ simp kind_laws refl;
  absent_in_sum = by_word (sum n expr.Absent) (sum n expr.Absent) (simp plain_laws refl) ∙ simp kind_laws refl;
  absent_as_condition = by_word (expr.Choose expr.Absent n n) (expr.Choose expr.Absent n n) (simp plain_laws refl) ∙ simp kind_laws refl;
  absent_in_output = simp (kind_laws, expr_lemmas, line_lemmas) refl;
  absent_in_max = simp (kind_laws, expr_lemmas, line_lemmas) refl;
  absent_assigned = simp (kind_laws, expr_lemmas, line_lemmas) refl;
  present_in_version_1 = simp (kind_laws, expr_lemmas, line_lemmas) refl;
  hidden_in_event = simp (plain_laws, plain_measures) (simp (kind_laws, expr_lemmas, line_lemmas) refl);
  hidden_presence = simp (kind_laws, expr_lemmas, line_lemmas) refl;
  needed_presence = simp (plain_laws, plain_measures) (simp (kind_laws, expr_lemmas, line_lemmas) refl);
  to_a_plain_input = simp (plain_laws, plain_measures) (simp (kind_laws, expr_lemmas, line_lemmas) refl);
  from_a_plain_output = simp (kind_laws, expr_lemmas, line_lemmas) refl;
  sixteen_events = refl;
  inputs_before = refl;
  outputs_before = refl;
  connections = refl;
  last_sample = refl;
  absent_at_32 = deep_by types.Int64 31 1 (simp expr_lemmas refl) (omega arith);
  fixed_0_at_32 = deep_by (types.Fixed 0) 31 2 (simp expr_lemmas refl) (omega arith);
  event_assigned = simp (kind_laws, expr_lemmas, line_lemmas) refl;
  needed_twice = simp (plain_laws, plain_measures) (simp (kind_laws, expr_lemmas, line_lemmas) refl);
}
