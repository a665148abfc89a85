-- The systems of worked texts.
use Rattle.std.proofs.Common.{◌≡◌, ◌≤◌, ℕ, List, [], ◌∷◌, map, length, refl, sym, subst, Bool, false, true, arith, None}
use Rattle.std.specs.Prelude.{codes, pos, neg_ℤ, IsTrue, nat_le, not}
use Rattle.std.specs.Fmt.{digits}
use Rattle.std.specs.List.{AllByRecursion, AllZip, list_all, list_any, filter}
use Rattle.std.proofs.lemmas.Bool.{leb-true, or_parts}
use Rattle.fixed_words.specs.declared.types.Literal.TheVariants as literal
use Rattle.fixed_words.specs.declared.types.Ty.TheVariants as types
use Rattle.unit_tree.specs.Blocks.{no_lines, are_placed}
use Rattle.unit_tree.specs.Canonical.{canonical_forms, canonical_text, line_text}
use Rattle.worked_facts.specs.Counter.{counter, increment}
use Rattle.unit_tree.specs.Lines.{source_lines, size_of, is_blank_line}
use Rattle.unit_tree.specs.LineForms.{HasForm, tail_of, is_of_version_2}
use Rattle.unit_tree.specs.Parts as parts
use Rattle.unit_tree.specs.Parts.{Part, text_forms, bare_system}
use Rattle.unit_tree.specs.Printable.{is_event_port, IsInRange, IsPrintable, is_writable, names_on, step_depth}
use Rattle.unit_tree.specs.SourceLines.{ReadsFrom}
use Rattle.model_rules.specs.Limits.{line_limit, text_limit}
use Rattle.unit_tree.specs.Texts.{BeginsVersion2, HasFormIn, HaveForms, Reads}
use Rattle.unit_tree.specs.Tokens.{IsWord, IsName}
use Rattle.unit_tree.specs.declared.expr.BinOp.TheVariants as by
use Rattle.unit_tree.specs.declared.expr.Expr as expr
use Rattle.unit_tree.specs.declared.expr.Expr.{the_lemmas as expr_lemmas}
use Rattle.unit_tree.specs.declared.expr.UnOp.TheVariants as of
use Rattle.unit_tree.specs.declared.line.Line.{the_lemmas as line_lemmas}
use Rattle.unit_tree.specs.declared.line_form.LineForm.{LineForm}
use Rattle.unit_tree.specs.declared.line_form.LineForm.TheVariants as form
use Rattle.text_tokens.specs.Scanning.{keyword_of}
use Rattle.text_tokens.proofs.TableLemmas.{keyword_of_none}
use Rattle.worked_facts.specs.WorkedTexts.{commented_counter, thermal, thermal_text, mode, mode_line, mode_text, relay, relay_text, long_line_text, text_of}
use Rattle.worked_facts.proofs.WorkedForms.{header, unit_line, state_line, output_line, step_line, assign_line, step_end, end_line, instance_line, stop_line}
use Rattle.worked_facts.proofs.WorkedForms.{longest_line, plain_header, sample_line, half_stop, zero_line, unit_a, max_line, bool_output, input_line}
use Rattle.worked_facts.proofs.WorkedForms.{fixed_state, resolution_line, rows_line, connect_line, instance_a, setting_line, unit_mode, param_k, param_l}
use Rattle.worked_facts.proofs.WorkedForms.{state_m, state_p, state_q, state_r, local_x, local_w, step_alone, if_line, repeat_line, assign_x, else_line}
use Rattle.worked_facts.proofs.WorkedForms.{accept_line, greatest_longest, long_header, counter_unit_line, counter_state, counter_output, counter_sum}
use Rattle.worked_facts.proofs.WorkedForms.{counter_instance, header_2, unit_relay, event_input, event_output}
use Rattle.list_laws.proofs.Lists.{of_mapped}
use Rattle.language_laws.proofs.FirstVersion.{old_form}

-- The lines of a text that are not blank.
abbrev filled : List ℕ → List (List ℕ)
filled text = filter (λ line. not (is_blank_line line)) (source_lines text)

-- Forms that both versions have are those of any text.
in_any_text : (text : List (List ℕ)) (forms : List LineForm) (lines : List (List ℕ)) → list_any is_of_version_2 forms ≡ false → AllZip HasForm forms lines
    → AllZip (HasFormIn text) forms lines
in_any_text text [] [] old have = have
in_any_text text [] (line ∷ lines) old have = absurd have
in_any_text text (some ∷ forms) [] old have = absurd have
in_any_text text (some ∷ forms) (line ∷ lines) old have =
    let both : (is_of_version_2 some ≡ false) × (list_any is_of_version_2 forms ≡ false) =
    or_parts (is_of_version_2 some) (list_any is_of_version_2 forms) old in
    (old_form text line some have.0 both.0, in_any_text text forms lines both.1 have.1)

abbrev counter_parts : List Part
counter_parts =
    parts.HasUnit (codes "Counter") (
    parts.HasState (record { name = codes "n"; ty = types.Int64; start = literal.Number (pos 0) 0 })
    ∷ parts.HasOutput (record { name = codes "y"; ty = types.Int64; needs = []; value = expr.Var (codes "n") })
    ∷ parts.Step (increment ∷ [])
    ∷ [])
    ∷ parts.HasInstance (record { name = codes "a"; unit = codes "Counter"; settings = [] })
    ∷ parts.Stop (literal.Number (pos 3) 0)
    ∷ parts.Longest (literal.Number (pos 1) 0)
    ∷ []

abbrev counter_forms : List LineForm
counter_forms =
    form.Header 1
    ∷ form.Unit (codes "Counter")
    ∷ form.State (record { name = codes "n"; ty = types.Int64; start = literal.Number (pos 0) 0 })
    ∷ form.Output (record { name = codes "y"; ty = types.Int64; needs = []; value = expr.Var (codes "n") })
    ∷ form.Step
    ∷ form.Assign (codes "n") (expr.Binary by.Add (expr.Var (codes "n")) (expr.Number (pos 1) 0))
    ∷ form.End
    ∷ form.End
    ∷ form.Instance (codes "a") (codes "Counter")
    ∷ form.End
    ∷ form.Stop (literal.Number (pos 3) 0)
    ∷ form.Longest (literal.Number (pos 1) 0)
    ∷ []

forms_are : text_forms 1 counter_parts ≡ counter_forms
forms_are = simp line_lemmas refl

counter_is_old : list_any is_of_version_2 counter_forms ≡ false
counter_is_old = simp expr_lemmas refl

lines_are : HaveForms (source_lines commented_counter) counter_forms (source_lines commented_counter)
lines_are =
    in_any_text (source_lines commented_counter) counter_forms (filled commented_counter) counter_is_old (
      header,
      (unit_line, (state_line, (output_line, (step_line, (assign_line, (step_end, (end_line, (instance_line, (end_line, (stop_line, (longest_line, _))))))))))),
    )

pub counter_is_read : Reads commented_counter counter
counter_is_read = record {
  parts = counter_parts;
  says = refl;
  lines = subst (λ forms. HaveForms (source_lines commented_counter) forms (source_lines commented_counter)) (sym forms_are) lines_are;
  placed = subst (λ forms. IsTrue (are_placed no_lines forms)) (sym forms_are) refl;
  short = leb-true (size_of commented_counter) text_limit refl;
  lines_short = refl;
}

abbrev thermal_parts : List Part
thermal_parts =
    parts.Samples (record { instance = codes "a"; port = codes "y" })
    ∷ parts.Stop (literal.Number (pos 5) 1)
    ∷ parts.Zero 0
    ∷ parts.HasUnit (codes "A") (
    parts.Max (expr.Var (codes "u"))
    ∷ parts.HasOutput
    (record {
      name = codes "y";
      ty = types.Bool;
      needs = codes "u" ∷ [];
      value =
          expr.Binary by.And (expr.Truth true) (expr.Unary of.Not (expr.Binary by.Lt (expr.Var (codes "n")) (expr.Number (pos 5) 1)));
    })
    ∷ parts.HasInput (record { name = codes "u"; ty = types.Int64; start = literal.Number (neg_ℤ (pos 9223372036854775808)) 0 })
    ∷ parts.HasState (record { name = codes "n"; ty = types.Fixed 1; start = literal.Number (pos 0) 1 })
    ∷ parts.Resolution 1
    ∷ [])
    ∷ parts.Rows 100000
    ∷ parts.Connects (record { from = record { instance = codes "a"; port = codes "y" }; to = record { instance = codes "b"; port = codes "u" } })
    ∷ parts.HasInstance (record { name = codes "a"; unit = codes "A"; settings = record { name = codes "k"; value = literal.Truth false } ∷ [] })
    ∷ []

thermal_is_old : list_any is_of_version_2 (text_forms 1 thermal_parts) ≡ false
thermal_is_old = simp expr_lemmas refl

thermal_lines : HaveForms (source_lines thermal_text) (text_forms 1 thermal_parts) (source_lines thermal_text)
thermal_lines =
    in_any_text (source_lines thermal_text) (text_forms 1 thermal_parts) (filled thermal_text) thermal_is_old (
      plain_header,
      (
        sample_line,
        (
          half_stop,
          (
            zero_line,
            (
              unit_a,
              (
                max_line,
                (
                  bool_output,
                  (input_line, (fixed_state, (resolution_line, (end_line, (rows_line, (connect_line, (instance_a, (setting_line, (end_line, _))))))))),
                ),
              ),
            ),
          ),
        ),
      ),
    )

pub thermal_is_read : ReadsFrom thermal_text thermal (1 ∷ 5 ∷ 10 ∷ 9 ∷ 8 ∷ 7 ∷ 6 ∷ 11 ∷ 14 ∷ 15 ∷ 16 ∷ 13 ∷ 3 ∷ 4 ∷ 12 ∷ 2 ∷ [])
thermal_is_read = record {
  reads = record {
    parts = thermal_parts;
    says = refl;
    lines = thermal_lines;
    placed = refl;
    short = leb-true (size_of thermal_text) text_limit refl;
    lines_short = refl;
  };
  are_lines = refl;
}

abbrev mode_parts : List Part
mode_parts =
    parts.HasUnit (codes "Mode") (
    parts.HasParam (record { name = codes "k"; ty = types.Int8; start = literal.Number (neg_ℤ (pos 128)) 0 })
    ∷ parts.HasParam (record { name = codes "l"; ty = types.UInt8; start = literal.Number (pos 255) 0 })
    ∷ parts.HasState (record { name = codes "m"; ty = types.Int16; start = literal.Number (pos 0) 0 })
    ∷ parts.HasState (record { name = codes "p"; ty = types.UInt16; start = literal.Number (pos 0) 0 })
    ∷ parts.HasState (record { name = codes "q"; ty = types.Int32; start = literal.Number (pos 0) 0 })
    ∷ parts.HasState (record { name = codes "r"; ty = types.UInt32; start = literal.Number (pos 0) 0 })
    ∷ parts.HasLocal (record { name = codes "x"; ty = types.Bool })
    ∷ parts.HasLocal (record { name = codes "w"; ty = types.Fixed 9 })
    ∷ parts.Step (mode_line ∷ [])
    ∷ [])
    ∷ parts.Longest (literal.Number (pos 9223372036854775807) 0)
    ∷ []

abbrev mode_forms : List LineForm
mode_forms =
    form.Header 1
    ∷ form.Unit (codes "Mode")
    ∷ form.Param (record { name = codes "k"; ty = types.Int8; start = literal.Number (neg_ℤ (pos 128)) 0 })
    ∷ form.Param (record { name = codes "l"; ty = types.UInt8; start = literal.Number (pos 255) 0 })
    ∷ form.State (record { name = codes "m"; ty = types.Int16; start = literal.Number (pos 0) 0 })
    ∷ form.State (record { name = codes "p"; ty = types.UInt16; start = literal.Number (pos 0) 0 })
    ∷ form.State (record { name = codes "q"; ty = types.Int32; start = literal.Number (pos 0) 0 })
    ∷ form.State (record { name = codes "r"; ty = types.UInt32; start = literal.Number (pos 0) 0 })
    ∷ form.Local (record { name = codes "x"; ty = types.Bool })
    ∷ form.Local (record { name = codes "w"; ty = types.Fixed 9 })
    ∷ form.Step
    ∷ form.If (expr.Binary by.Ge (expr.Var (codes "k")) (expr.Var (codes "l")))
    ∷ form.Repeat 1000
    ∷ form.Assign (codes "x")
    (expr.Binary by.And (expr.Binary by.Gt (expr.Var (codes "m")) (expr.Var (codes "p")))
    (expr.Binary by.Ne (expr.Unary of.Abs (expr.Var (codes "q"))) (expr.Var (codes "r"))))
    ∷ form.End
    ∷ form.Else
    ∷ form.Accept (expr.Binary by.Min expr.Step (expr.Binary by.Max expr.Time (expr.Number (pos 1) 0)))
    ∷ form.End
    ∷ form.End
    ∷ form.End
    ∷ form.Longest (literal.Number (pos 9223372036854775807) 0)
    ∷ []

mode_forms_are : text_forms 1 mode_parts ≡ mode_forms
mode_forms_are = simp line_lemmas refl

mode_is_old : list_any is_of_version_2 mode_forms ≡ false
mode_is_old = simp expr_lemmas refl

mode_lines : HaveForms (source_lines mode_text) mode_forms (source_lines mode_text)
mode_lines =
    in_any_text (source_lines mode_text) mode_forms (filled mode_text) mode_is_old (
      plain_header,
      (
        unit_mode,
        (
          param_k,
          (
            param_l,
            (
              state_m,
              (
                state_p,
                (
                  state_q,
                  (
                    state_r,
                    (
                      local_x,
                      (
                        local_w,
                        (
                          step_alone,
                          (
                            if_line,
                            (repeat_line, (assign_x, (end_line, (else_line, (accept_line, (end_line, (end_line, (end_line, (greatest_longest, _))))))))),
                          ),
                        ),
                      ),
                    ),
                  ),
                ),
              ),
            ),
          ),
        ),
      ),
    )

pub mode_is_read : Reads mode_text mode
mode_is_read = record {
  parts = mode_parts;
  says = refl;
  lines = subst (λ forms. HaveForms (source_lines mode_text) forms (source_lines mode_text)) (sym mode_forms_are) mode_lines;
  placed = subst (λ forms. IsTrue (are_placed no_lines forms)) (sym mode_forms_are) refl;
  short = leb-true (size_of mode_text) text_limit refl;
  lines_short = refl;
}

pub long_line_is_read : Reads long_line_text (bare_system 1)
long_line_is_read = record {
  parts = [];
  says = refl;
  lines = in_any_text (source_lines long_line_text) (form.Header 1 ∷ []) (filled long_line_text) refl (long_header, _);
  placed = refl;
  short = leb-true (size_of long_line_text) text_limit refl;
  lines_short = refl;
}

-- ---- Version 2

abbrev relay_parts : List Part
relay_parts =
    parts.HasUnit (codes "Relay") (
    parts.HasEventOut
    (record {
      name = codes "p";
      ty = types.Fixed 2;
      needs = codes "e" ∷ [];
      value =
          expr.Choose (expr.Present (codes "e")) (expr.Number (pos 50) 2) expr.Absent;
    })
    ∷ parts.HasEventIn (record { name = codes "e"; ty = types.Int64 })
    ∷ [])
    ∷ parts.Stop (literal.Number (pos 3) 0)
    ∷ []

relay_begins : BeginsVersion2 (source_lines relay_text)
relay_begins = record {
  before = [] ∷ [];
  line = codes "cosim 2";
  later =
      codes "unit Relay"
      ∷ codes "event output p : Fixed 2 needs e = if present(e) then 0.50 else absent"
      ∷ codes "event input e : Int64"
      ∷ codes "end"
      ∷ codes "stop 3"
      ∷ [];
  cut = refl;
  before_is_blank = refl;
  is_header = header_2;
}

in_relay : (some : LineForm) (line : List ℕ) → HasForm some line → HasFormIn (source_lines relay_text) some line
in_relay some line has = record { has_form = has; of_version = λ told. relay_begins }

pub relay_is_read : ReadsFrom relay_text relay (2 ∷ 3 ∷ 5 ∷ 4 ∷ 6 ∷ 7 ∷ [])
relay_is_read = record {
  reads = record {
    parts = relay_parts;
    says = refl;
    lines = (
      in_relay _ _ header_2,
      (in_relay _ _ unit_relay, (in_relay _ _ event_output, (in_relay _ _ event_input, (in_relay _ _ end_line, (in_relay _ _ stop_line, _))))),
    );
    placed = refl;
    short = leb-true (size_of relay_text) text_limit refl;
    lines_short = refl;
  };
  are_lines = refl;
}

-- ---- The counter's canonical text

canonical_forms_are : canonical_forms counter ≡ counter_forms
canonical_forms_are = simp line_lemmas refl

abbrev canonical_lines : List ℕ
canonical_lines = text_of (
    codes "cosim 1"
    ∷ codes "unit Counter"
    ∷ codes "state n:Int64=0"
    ∷ codes "output y:Int64=n"
    ∷ codes "step"
    ∷ codes "n:=n+1"
    ∷ codes "end"
    ∷ codes "end"
    ∷ codes "instance a:Counter"
    ∷ codes "end"
    ∷ codes "stop 3"
    ∷ codes "longest 1"
    ∷ [])

text_is : canonical_text counter ≡ canonical_lines
unfolding digits
text_is = simp (line_lemmas, expr_lemmas) refl

plain_lines : HaveForms (source_lines canonical_lines) counter_forms (source_lines canonical_lines)
plain_lines =
    in_any_text (source_lines canonical_lines) counter_forms (filled canonical_lines) counter_is_old (
      plain_header,
      (
        counter_unit_line,
        (counter_state, (counter_output, (step_alone, (counter_sum, (end_line, (end_line, (counter_instance, (end_line, (stop_line, (longest_line, _)))))))))),
      ),
    )

plain_is_read : Reads canonical_lines counter
plain_is_read = record {
  parts = counter_parts;
  says = refl;
  lines = subst (λ forms. HaveForms (source_lines canonical_lines) forms (source_lines canonical_lines)) (sym forms_are) plain_lines;
  placed = subst (λ forms. IsTrue (are_placed no_lines forms)) (sym forms_are) refl;
  short = leb-true (size_of canonical_lines) text_limit refl;
  lines_short = refl;
}

pub canonical_is_read : Reads (canonical_text counter) counter
canonical_is_read = subst (λ text. Reads text counter) (sym text_is) plain_is_read

is_name : (text : List ℕ) → IsWord text → keyword_of text ≡ None → IsName text
is_name text word none = (word, keyword_of_none text none)

long_name : IsName (codes "Counter")
unfolding keyword_of
long_name = is_name (codes "Counter") (refl, refl, omega arith) refl

name_n : IsName (codes "n")
unfolding keyword_of
name_n = is_name (codes "n") (refl, refl, omega arith) refl

name_y : IsName (codes "y")
unfolding keyword_of
name_y = is_name (codes "y") (refl, refl, omega arith) refl

name_a : IsName (codes "a")
unfolding keyword_of
name_a = is_name (codes "a") (refl, refl, omega arith) refl

abbrev all_names : List (List (List ℕ))
all_names =
    [] ∷ (codes "Counter" ∷ []) ∷ (codes "n" ∷ []) ∷ (codes "y" ∷ codes "n" ∷ []) ∷ [] ∷ (codes "n" ∷ codes "n" ∷ []) ∷ [] ∷ []
    ∷ (codes "a" ∷ codes "Counter" ∷ []) ∷ [] ∷ [] ∷ [] ∷ []

names_are : map names_on counter_forms ≡ all_names
names_are = simp expr_lemmas refl

names_are_names : AllByRecursion (AllByRecursion IsName) all_names
names_are_names =
    (_, ((long_name, _), ((name_n, _), ((name_y, (name_n, _)), (_, ((name_n, (name_n, _)), (_, (_, ((name_a, (long_name, _)), (_, (_, (_, _))))))))))))

names_are_words : AllByRecursion (AllByRecursion IsWord) all_names
names_are_words = (
  _,
  (
    (long_name.0, _),
    ((name_n.0, _), ((name_y.0, (name_n.0, _)), (_, ((name_n.0, (name_n.0, _)), (_, (_, ((name_a.0, (long_name.0, _)), (_, (_, (_, _)))))))))),
  ),
)

numbers_are : AllByRecursion IsInRange counter_forms
numbers_are = (
  ((omega arith, omega arith), _),
  (
    (_, _),
    (
      (_, omega arith),
      ((_, simp expr_lemmas refl), ((_, _), ((_, simp expr_lemmas refl), ((_, _), ((_, _), ((_, _), ((_, _), ((_, omega arith), ((_, omega arith), _))))))))),
    ),
  ),
)

on_forms : (P : List LineForm → Type 0) → P counter_forms → P (canonical_forms counter)
on_forms P so = subst P (sym canonical_forms_are) so

tails_are : IsTrue (list_all (λ line. is_writable (tail_of line)) counter_forms)
tails_are = simp expr_lemmas refl

lines_are_short : IsTrue (list_all (λ line. nat_le (length (line_text line)) line_limit) counter_forms)
unfolding digits
lines_are_short = simp expr_lemmas refl

blocks_are : IsTrue (list_all (λ unit. nat_le (step_depth unit.step) 16) counter.units)
blocks_are = simp line_lemmas refl

pub counter_is_printable : IsPrintable counter
counter_is_printable = record {
  ranged = record {
    version = (omega arith, omega arith);
    events = λ first. on_forms (λ forms. list_any is_event_port forms ≡ false) refl;
    names = on_forms (λ forms. AllByRecursion (λ line. AllByRecursion IsWord (names_on line)) forms)
        (of_mapped (AllByRecursion IsWord) names_on counter_forms (subst (AllByRecursion (AllByRecursion IsWord)) (sym names_are) names_are_words));
    numbers = on_forms (λ forms. AllByRecursion IsInRange forms) numbers_are;
  };
  of_version = λ first. on_forms (λ forms. list_any is_of_version_2 forms ≡ false) counter_is_old;
  names = on_forms (λ forms. AllByRecursion (λ line. AllByRecursion IsName (names_on line)) forms)
      (of_mapped (AllByRecursion IsName) names_on counter_forms (subst (AllByRecursion (AllByRecursion IsName)) (sym names_are) names_are_names));
  tails = on_forms (λ forms. IsTrue (list_all (λ line. is_writable (tail_of line)) forms)) tails_are;
  blocks = blocks_are;
  lines = on_forms (λ forms. IsTrue (list_all (λ line. nat_le (length (line_text line)) line_limit) forms)) lines_are_short;
  text = subst (λ text. length text ≤ text_limit) (sym text_is) (leb-true (length canonical_lines) text_limit refl);
}
