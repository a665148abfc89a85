-- A generated system is printable.
use Rattle.std.proofs.Common.{◌≡◌, ℕ, zero, suc, ◌+◌, ◌-◌, ◌*◌, ◌^◌, ◌<◌, ◌≤◌, true, false, List, []}
use Rattle.std.proofs.Common.{◌∷◌, ◌++◌, append_assoc, map, length}
use Rattle.std.proofs.Common.{pos, refl, ap, sym, subst, ◌∙◌, arith}
use Rattle.std.specs.Prelude.{codes}
use Rattle.std.specs.Fmt.{decimal, digits}
use Rattle.std.specs.List.{AllByRecursion, flat_map, range_with_len}
use Rattle.std.proofs.lemmas.Bool.Decides.{nat_tests}
use Rattle.std.proofs.lemmas.Fmt.{length-decimal-le}
use Rattle.std.proofs.lemmas.List.{length-append, length-map}
use Rattle.std.proofs.lemmas.List.FromFn.{length-range_with_len}
use Rattle.fixed_words.specs.Texts.{fixed_text}
use Rattle.fixed_words.specs.Types.{is_word_of}
use Rattle.fixed_words.specs.declared.types.Ty.TheVariants.{Int64}
use Rattle.unit_tree.specs.Canonical.{canonical_forms, form_tokens, unit_parts}
use Rattle.unit_tree.specs.LineForms.{tail_of}
use Rattle.unit_tree.specs.Parts as parts
use Rattle.unit_tree.specs.Parts.{Part, part_forms}
use Rattle.unit_tree.specs.Printable.{IsInRange, IsPrintable, is_writable, names_on}
use Rattle.unit_tree.specs.Tokens.{IsName, IsWord}
use Rattle.unit_tree.specs.declared.expr.Expr.{the_lemmas as expr_lemmas}
use Rattle.unit_tree.specs.declared.line.Line.{the_lemmas as line_lemmas}
use Rattle.unit_tree.specs.declared.line_form.LineForm.{LineForm}
use Rattle.unit_tree.specs.declared.line_form.LineForm.TheVariants as form
use Rattle.unit_tree.specs.declared.system.Instance.{Instance}
use Rattle.unit_tree.specs.declared.system.System.{System}
use Rattle.unit_tree.specs.declared.system.Wire.{Wire}
use Rattle.text_tokens.specs.Scanning.{keyword_of}
use Rattle.text_tokens.proofs.TableLemmas.{keyword_of_none}
use Rattle.text_laws.proofs.PrintedLines.{Prints, all_short, all_writable, fixed_short, no_events, none_second, text_within}
use Rattle.text_laws.proofs.ShortestLines.{unsigned_tokens}
use Rattle.text_laws.proofs.TokenWidths.{tokens_within, width}
use Rattle.list_laws.proofs.Lists.{each_append, each_so}
use Rattle.list_laws.proofs.Truths.{not_negative}
use Rattle.cosim_gen.specs.Generated.{CanGenerate, number, param_k, state_n, input_u, output_y, source_next, mixer_next, source_unit, mixer_unit, k_in, name_in}
use Rattle.cosim_gen.specs.Generated.{instance_in, source_of, wire_to, later_places, generated}
use Rattle.cosim_gen.proofs.Names.{is_name}
use Rattle.cosim_gen.proofs.Ports.{mixer}

-- ---- Names and numbers

k_is : IsName (codes "k")
unfolding keyword_of
k_is = ((refl, refl, omega arith), keyword_of_none (codes "k") refl)

n_is : IsName (codes "n")
unfolding keyword_of
n_is = ((refl, refl, omega arith), keyword_of_none (codes "n") refl)

u_is : IsName (codes "u")
unfolding keyword_of
u_is = ((refl, refl, omega arith), keyword_of_none (codes "u") refl)

y_is : IsName (codes "y")
unfolding keyword_of
y_is = ((refl, refl, omega arith), keyword_of_none (codes "y") refl)

src_is : IsName (codes "src")
unfolding keyword_of
src_is = ((refl, refl, omega arith), keyword_of_none (codes "src") refl)

mix_is : IsName (codes "mix")
unfolding keyword_of
mix_is = ((refl, refl, omega arith), keyword_of_none (codes "mix") refl)

name_short : (place : ℕ) → place < 64 → length (name_in place) ≤ 3
name_short place few = omega (arith, length-decimal-le 2 place (omega arith) (omega arith) (omega arith))

-- A number of at most six digits.
number_short : (n : ℕ) → n < 10 ^ 6 → length (fixed_text 0 n) ≤ 9
number_short n small = fixed_short 6 n (omega arith) small (omega (arith, small))

number_is_word : (n : ℕ) → n < 10 ^ 6 → is_word_of Int64 (pos n) ≡ true
number_is_word n small = grind (arith, nat_tests)

-- ---- Lines of units

abbrev unit_lines : List LineForm
unit_lines =
    form.Unit (codes "src")
    ∷ form.Param param_k
    ∷ form.State state_n
    ∷ form.Output output_y
    ∷ form.Step
    ∷ form.Assign (codes "n") source_next
    ∷ form.End
    ∷ form.End
    ∷ form.Unit (codes "mix")
    ∷ form.Param param_k
    ∷ form.State state_n
    ∷ form.Input input_u
    ∷ form.Output output_y
    ∷ form.Step
    ∷ form.Assign (codes "n") mixer_next
    ∷ form.End
    ∷ form.End
    ∷ []

units_are : (others : List Part)
    → flat_map part_forms (parts.HasUnit (codes "src") (unit_parts source_unit) ∷ parts.HasUnit (codes "mix") (unit_parts mixer_unit) ∷ others)
    ≡ unit_lines ++ flat_map part_forms others
units_are others = simp line_lemmas refl

unit_head : (name : List ℕ) → IsName name → length name ≤ 3 → Prints (form.Unit name)
unit_head name is few = record {
  names = (is, tt);
  in_range = (tt, tt);
  writable = refl;
  old = refl;
  short = omega (arith, tokens_within (form_tokens (form.Unit name)));
}

header_prints : Prints (form.Header 1)
unfolding digits
header_prints = record { names = tt; in_range = ((omega arith, omega arith), tt); writable = refl; old = refl; short = omega arith }

param_prints : Prints (form.Param param_k)
unfolding digits
param_prints = record { names = (k_is, tt); in_range = (tt, omega arith); writable = refl; old = refl; short = omega arith }

state_prints : Prints (form.State state_n)
unfolding digits
state_prints = record { names = (n_is, tt); in_range = (tt, omega arith); writable = refl; old = refl; short = omega arith }

input_prints : Prints (form.Input input_u)
unfolding digits
input_prints = record { names = (u_is, tt); in_range = (tt, omega arith); writable = refl; old = refl; short = omega arith }

output_prints : Prints (form.Output output_y)
unfolding digits
output_prints = record {
  names = simp expr_lemmas (y_is, (n_is, tt));
  in_range = (tt, simp expr_lemmas refl);
  writable = simp expr_lemmas refl;
  old = simp expr_lemmas refl;
  short = simp expr_lemmas (omega arith);
}

step_prints : Prints form.Step
step_prints = record { names = tt; in_range = (tt, tt); writable = refl; old = refl; short = omega arith }

end_prints : Prints form.End
end_prints = record { names = tt; in_range = (tt, tt); writable = refl; old = refl; short = omega arith }

source_step : Prints (form.Assign (codes "n") source_next)
unfolding digits
source_step = record {
  names = simp expr_lemmas (n_is, (n_is, (k_is, tt)));
  in_range = (tt, simp expr_lemmas refl);
  writable = simp expr_lemmas refl;
  old = simp expr_lemmas refl;
  short = simp expr_lemmas (omega arith);
}

mixer_step : Prints (form.Assign (codes "n") mixer_next)
unfolding digits
mixer_step = record {
  names = simp expr_lemmas (n_is, (n_is, (u_is, (k_is, tt))));
  in_range = (tt, simp expr_lemmas refl);
  writable = simp expr_lemmas refl;
  old = simp expr_lemmas refl;
  short = simp expr_lemmas (omega arith);
}

units_print : AllByRecursion Prints unit_lines
units_print = (
  unit_head (codes "src") src_is (omega arith),
  (
    param_prints,
    (
      state_prints,
      (
        output_prints,
        (
          step_prints,
          (
            source_step,
            (
              end_prints,
              (
                end_prints,
                (
                  unit_head (codes "mix") mix_is (omega arith),
                  (param_prints, (state_prints, (input_prints, (output_prints, (step_prints, (mixer_step, (end_prints, (end_prints, tt)))))))),
                ),
              ),
            ),
          ),
        ),
      ),
    ),
  ),
)

-- ---- Lines of components

instance_prints : (place : ℕ) (unit : List ℕ) → place < 64 → IsName unit → length unit ≤ 3 → Prints (form.Instance (name_in place) unit)
instance_prints place unit few is short = record {
  names = (is_name place few, (is, tt));
  in_range = (tt, tt);
  writable = refl;
  old = refl;
  short = omega (arith, tokens_within (form_tokens (form.Instance (name_in place) unit)), name_short place few);
}

setting_prints : (seed place : ℕ) → Prints (form.Setting (record { name = codes "k"; value = number (k_in seed place) }))
setting_prints seed place =
    let line = form.Setting (record { name = codes "k"; value = number (k_in seed place) }) in
    let small : k_in seed place < 1000 = omega arith in
    record {
      names = (k_is, tt);
      in_range = (tt, omega arith);
      writable = number_is_word (k_in seed place) (omega arith);
      old = refl;
      short =
          omega (
            arith,
            tokens_within (form_tokens line),
            ap (width false) (unsigned_tokens (k_in seed place) 0),
            number_short (k_in seed place) (omega arith),
          );
    }

wire_prints : (seed place : ℕ) → 1 ≤ place → place < 64 → Prints (form.Connect (wire_to seed place))
wire_prints seed place some few =
    let before : source_of seed place < 64 = omega arith in
    record {
      names = (is_name (source_of seed place) before, (y_is, (is_name place few, (u_is, tt))));
      in_range = (tt, tt);
      writable = refl;
      old = refl;
      short =
          omega (
            arith,
            tokens_within (form_tokens (form.Connect (wire_to seed place))),
            name_short (source_of seed place) before,
            name_short place few,
          );
    }

-- ---- The last lines

seconds_writable : (n : ℕ) → n < 10 ^ 6 → is_writable (tail_of (form.Stop (number n))) ≡ true
seconds_writable n small = rw (not_negative n, number_is_word n small) refl

stop_prints : (n : ℕ) → n < 10 ^ 6 → Prints (form.Stop (number n))
stop_prints n small = record {
  names = tt;
  in_range = (tt, omega arith);
  writable = seconds_writable n small;
  old = refl;
  short =
      omega (arith, tokens_within (form_tokens (form.Stop (number n))), ap (width true) (unsigned_tokens n 0), number_short n small);
}

longest_prints : Prints (form.Longest (number 1))
unfolding digits
longest_prints = record { names = tt; in_range = (tt, omega arith); writable = refl; old = refl; short = omega arith }

rows_print : (rows : ℕ) → 1 ≤ rows → rows ≤ 100000 → Prints (form.Rows rows)
rows_print rows some few = record {
  names = tt;
  in_range = ((some, few), tt);
  writable = refl;
  old = refl;
  short = omega (arith, tokens_within (form_tokens (form.Rows rows)), number_short rows (omega arith));
}

-- ---- A generated system

abbrev last_lines : ℕ → List LineForm
last_lines rows = form.Stop (number (rows - 1)) ∷ form.Longest (number 1) ∷ form.Rows rows ∷ []

abbrev instance_lines : Instance → List LineForm
instance_lines instance = part_forms (parts.HasInstance instance)

others_are : (instances : List Instance) (wires : List Wire) (rows : ℕ)
    → flat_map part_forms (
    map parts.HasInstance instances ++ map parts.Connects wires ++ (parts.Stop (number (rows - 1)) ∷ []) ++ (parts.Longest (number 1) ∷ []) ++ []
    ++ (parts.Rows rows ∷ [])
    ++ [])
    ≡ flat_map instance_lines instances ++ (map form.Connect wires ++ last_lines rows)
others_are [] [] rows = refl
others_are [] (wire ∷ wires) rows = ap (λ rest. form.Connect wire ∷ rest) (others_are [] wires rows)
others_are (instance ∷ instances) wires rows =
    ap (λ rest. instance_lines instance ++ rest) (others_are instances wires rows)
    ∙ sym (append_assoc (instance_lines instance) (flat_map instance_lines instances) (map form.Connect wires ++ last_lines rows))

mixers_print : (seed first count : ℕ) → first + count ≤ 64
    → AllByRecursion Prints (flat_map instance_lines (map (mixer seed) (range_with_len first count)))
mixers_print seed first zero few = tt
mixers_print seed first (suc count) few = (
  instance_prints first (codes "mix") (omega arith) mix_is (omega arith),
  (setting_prints seed first, (end_prints, mixers_print seed (first + 1) count (omega arith))),
)

wires_print : (seed first count : ℕ) → 1 ≤ first → first + count ≤ 64
    → AllByRecursion Prints (map form.Connect (map (wire_to seed) (range_with_len first count)))
wires_print seed first zero some few = tt
wires_print seed first (suc count) some few =
    (wire_prints seed first some (omega arith), wires_print seed (first + 1) count (omega arith) (omega arith))

three_each : (seed : ℕ) (all : List ℕ) → length (flat_map instance_lines (map (mixer seed) all)) ≡ 3 * length all
three_each seed [] = refl
three_each seed (place ∷ all) = omega (arith, three_each seed all)

module _ (seed instances rows : ℕ) (can : CanGenerate instances rows) where
  abbrev system : System
  system = generated seed instances rows

  abbrev other_parts : List Part
  other_parts =
      map parts.HasInstance system.instances ++ map parts.Connects system.wires ++ (parts.Stop (number (rows - 1)) ∷ [])
      ++ (parts.Longest (number 1) ∷ [])
      ++ []
      ++ (parts.Rows rows ∷ [])
      ++ []

  abbrev mixer_lines : List LineForm
  mixer_lines = flat_map instance_lines (map (mixer seed) (later_places instances))

  abbrev wire_lines : List LineForm
  wire_lines = map form.Connect (map (wire_to seed) (later_places instances))

  abbrev lines : List LineForm
  lines = form.Header 1 ∷ unit_lines ++ (instance_lines (instance_in seed (codes "src") 0) ++ mixer_lines ++ (wire_lines ++ last_lines rows))

  lines_are : canonical_forms system ≡ lines
  lines_are =
      ap (λ rest. form.Header 1 ∷ rest) (units_are other_parts)
      ∙ ap (λ rest. form.Header 1 ∷ unit_lines ++ rest) (others_are system.instances system.wires rows)

  all_print : AllByRecursion Prints lines
  all_print =
      let behind : 1 + (instances - 1) ≤ 64 = omega (arith, can.one_instance, can.few_instances) in
      let last : AllByRecursion Prints (last_lines rows) = (
        stop_prints (rows - 1) (omega (arith, can.few_rows)),
        (longest_prints, (rows_print rows can.one_row can.few_rows, tt)),
      ) in
      let wired = each_append Prints wire_lines (last_lines rows) (wires_print seed 1 (instances - 1) (omega arith) behind) last in
      let mixed = each_append Prints mixer_lines (wire_lines ++ last_lines rows) (mixers_print seed 1 (instances - 1) behind) wired in
      let first : List LineForm = instance_lines (instance_in seed (codes "src") 0) in
      let whole : AllByRecursion Prints (first ++ mixer_lines ++ (wire_lines ++ last_lines rows)) =
      (instance_prints 0 (codes "src") (omega arith) src_is (omega arith), (setting_prints seed 0, (end_prints, mixed))) in
      (header_prints, each_append Prints unit_lines (first ++ mixer_lines ++ (wire_lines ++ last_lines rows)) units_print whole)

  few_lines : length lines ≤ 276
  few_lines =
      omega (
        arith,
        can.few_instances,
        length-append mixer_lines (wire_lines ++ last_lines rows),
        length-append wire_lines (last_lines rows),
        three_each seed (later_places instances),
        length-map (map (wire_to seed) (later_places instances)) form.Connect,
        length-map (later_places instances) (wire_to seed),
        length-range_with_len 1 (instances - 1),
      )

  pub is_printable : IsPrintable system
  is_printable =
      let print = subst (AllByRecursion Prints) (sym lines_are) all_print in
      let forms = canonical_forms system in
      let old = none_second forms print in
      let names = each_so Prints (λ line. AllByRecursion IsName (names_on line)) (λ line one. one.names) forms print in
      let few : length forms ≤ 276 = subst (λ all. length all ≤ 276) (sym lines_are) few_lines in
      record {
        ranged = record {
          version = (omega arith, omega arith);
          events = λ one. no_events forms print;
          names =
              each_so (λ line. AllByRecursion IsName (names_on line)) (λ line. AllByRecursion IsWord (names_on line))
              (λ line all. each_so IsName IsWord (λ name one. one.0) (names_on line) all) forms names;
          numbers = each_so Prints IsInRange (λ line one. one.in_range) forms print;
        };
        of_version = λ one. old;
        names = names;
        tails = all_writable forms print;
        blocks = simp line_lemmas refl;
        lines = all_short forms print;
        text = omega (arith, text_within forms print);
      }
