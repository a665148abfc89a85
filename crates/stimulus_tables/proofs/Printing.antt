-- The system of a table is printable.
use Rattle.std.proofs.Common.{◌≡◌, ℕ, suc, ◌+◌, ◌-◌, ◌*◌, ◌^◌, ◌<◌, ◌≤◌, max, Bool, true, false, ℤ, pos, negsuc, unsigned_abs, List, [], ◌∷◌, ◌++◌, map, length, None, refl, ap, sym, subst, ◌∙◌, arith}
use Rattle.std.specs.Prelude.{codes, nat_eq, ◌||◌, if◌then◌else◌}
use Rattle.std.specs.Fmt.{decimal, digits}
use Rattle.std.specs.Int.{is_negative}
use Rattle.std.specs.List.{AllByRecursion, flat_map, fold, list_all}
use Rattle.std.proofs.lemmas.Bool.{and_from, and_parts, or_right}
use Rattle.std.proofs.lemmas.Bool.Decides.{nat_tests}
use Rattle.std.proofs.lemmas.Fmt.{length-decimal-le}
use Rattle.std.proofs.lemmas.Int.{ints}
use Rattle.std.proofs.lemmas.List.Concat.{flat_map-append}
use Rattle.std.proofs.lemmas.List.{length-append}
use Rattle.fixed_words.proofs.Numbers.{decimal_is}
use Rattle.fixed_words.specs.Texts.{fixed_text}
use Rattle.fixed_words.specs.Types.{is_word_of}
use Rattle.fixed_words.specs.declared.types.Literal.TheVariants as literal
use Rattle.fixed_words.specs.declared.types.Ty.TheVariants.{Int64}
use Rattle.list_laws.proofs.Lists.{each_append, each_so}
use Rattle.list_laws.proofs.Truths.{le_asked, not_negative}
use Rattle.text_laws.proofs.PrintedLines.{Prints, all_short, all_writable, fixed_short, no_events, none_second, text_within}
use Rattle.text_laws.proofs.ShortestLines.{unsigned_tokens}
use Rattle.text_laws.proofs.SpelledBytes.{all_pass}
use Rattle.text_laws.proofs.TokenWidths.{is_worded, tokens_within, width, width_most, word_short}
use Rattle.text_tokens.specs.Scanning.{keyword_of}
use Rattle.text_tokens.proofs.TableLemmas.{keyword_of_none}
use Rattle.unit_tree.specs.Canonical.{canonical_forms, canonical_phrase, expression_tokens, form_tokens, node_phrase, optional, unit_parts}
use Rattle.unit_tree.specs.LineForms.{front_tokens, node_speaks_of_events, speaks_of_events}
use Rattle.unit_tree.proofs.FoldLemmas.{fold-Assign, fold-Choose, fold-If}
use Rattle.unit_tree.specs.Names.{names_in, node_names}
use Rattle.unit_tree.specs.Parts as parts
use Rattle.unit_tree.specs.Parts.{UnitPart, block_forms, joined, line_forms, unit_part_forms}
use Rattle.unit_tree.specs.Phrases.{Phrase, nesting}
use Rattle.unit_tree.specs.Printable.{IsInRange, IsPrintable, is_unsigned, block_depth, line_depth, node_is_unsigned, step_depth, block_depth, names_on}
use Rattle.unit_tree.specs.Tokens.{IsName, IsWord, is_digit, is_letter, is_word_byte}
use Rattle.unit_tree.specs.Values.{is_ranged, node_is_ranged}
use Rattle.unit_tree.specs.declared.expr.Expr as expr
use Rattle.unit_tree.specs.declared.expr.Expr.{Expr, the_lemmas as expr_lemmas}
use Rattle.unit_tree.specs.declared.expr.UnOp.TheVariants as of
use Rattle.unit_tree.specs.declared.line.Line as line
use Rattle.unit_tree.specs.declared.line_form.LineForm.{LineForm}
use Rattle.unit_tree.specs.declared.line_form.LineForm.TheVariants as form
use Rattle.unit_tree.specs.declared.system.System.{System}
use Rattle.unit_tree.specs.declared.token.Keyword.TheVariants as word
use Rattle.unit_tree.specs.declared.token.Symbol.TheVariants as sign
use Rattle.unit_tree.specs.declared.token.Token.{Token}
use Rattle.unit_tree.specs.declared.token.Token.TheVariants as token
use Rattle.stimulus_tables.specs.Laws.{IsStimulus}
use Rattle.stimulus_tables.specs.TableSystems.{is_before, is_reached, last_time, max_of_moments, number, output_with, outputs_from, sets_from, state_with, states_from, step_of_moments, table_system, table_unit, takes, to_next, until}
use Rattle.stimulus_tables.specs.Tables.{IsMoment, IsWritable, state_name}
use Rattle.stimulus_tables.specs.declared.moment.Moment.{Moment}

-- ---- Names and numbers

-- `s` and then digits is not a keyword.
not_reserved : (digits : List ℕ) → list_all is_digit digits ≡ true → keyword_of (115 ∷ digits) ≡ None
unfolding keyword_of
not_reserved [] all = refl
not_reserved (digit ∷ digits) all =
    let is = (and_parts (is_digit digit) (list_all is_digit digits) all).0 in
    let no_t : nat_eq 116 digit ≡ false = grind (arith, nat_tests) in
    let no_a : nat_eq 97 digit ≡ false = grind (arith, nat_tests) in
    rw (no_t, no_a) refl

state_is : (place : ℕ) → place < 64 → IsName (state_name place)
state_is place small =
    let digits = (decimal_is place (omega arith)).0 in
    let short : length (decimal place) ≤ 2 = length-decimal-le 2 place (omega arith) (omega arith) (omega arith) in (
      (refl, all_pass is_digit is_word_byte (λ byte is. or_right (is_letter byte) (is_digit byte) is) (decimal place) digits, omega arith),
      keyword_of_none (state_name place) (not_reserved (decimal place) digits),
    )

unit_is : IsName (codes "Table")
unfolding keyword_of
unit_is = ((refl, refl, omega arith), keyword_of_none (codes "Table") refl)

instance_is : IsName (codes "table")
unfolding keyword_of
instance_is = ((refl, refl, omega arith), keyword_of_none (codes "table") refl)

state_short : (place : ℕ) → place < 64 → length (state_name place) ≤ 3
state_short place few = omega (arith, length-decimal-le 2 place (omega arith) (omega arith) (omega arith))

-- A number of at most 16 digits.
number_short : (n : ℕ) → n ≤ 10 ^ 15 → length (fixed_text 0 n) ≤ 19
number_short n small = fixed_short 16 n (omega arith) (omega (arith, small)) (omega (arith, small))

-- A number of at most ten digits.
time_short : (n : ℕ) → n ≤ 10 ^ 9 → length (fixed_text 0 n) ≤ 13
time_short n small = fixed_short 10 n (omega arith) (omega (arith, small)) (omega (arith, small))

unsigned_is_word : (n : ℕ) → n ≤ 10 ^ 15 → is_word_of Int64 (pos n) ≡ true
unsigned_is_word n small = grind (arith, nat_tests)

negative : (n : ℕ) → is_negative (negsuc n) ≡ true
negative n = grind (arith, ints)

magnitude : (n : ℕ) → unsigned_abs (negsuc n) ≡ suc n
magnitude n = omega arith

negative_is_word : (n : ℕ) → suc n ≤ 10 ^ 15 → is_word_of Int64 (negsuc n) ≡ true
negative_is_word n small = grind (arith, nat_tests)

-- ---- Lines of the unit

header_prints : Prints (form.Header 1)
unfolding digits
header_prints = record { names = tt; in_range = ((omega arith, omega arith), tt); writable = refl; old = refl; short = omega arith }

step_prints : Prints form.Step
step_prints = record { names = tt; in_range = (tt, tt); writable = refl; old = refl; short = omega arith }

end_prints : Prints form.End
end_prints = record { names = tt; in_range = (tt, tt); writable = refl; old = refl; short = omega arith }

unit_prints : Prints (form.Unit (codes "Table"))
unit_prints = record { names = (unit_is, tt); in_range = (tt, tt); writable = refl; old = refl; short = omega arith }

instance_prints : Prints (form.Instance (codes "table") (codes "Table"))
instance_prints = record { names = (instance_is, (unit_is, tt)); in_range = (tt, tt); writable = refl; old = refl; short = omega arith }

state_prints : (place : ℕ) (word : ℤ) → place < 64 → unsigned_abs word ≤ 10 ^ 15 → Prints (form.State (state_with place word))
state_prints place (pos n) few small =
    let less : n ≤ 10 ^ 15 = omega (arith, small) in
    record {
      names = (state_is place few, tt);
      in_range = (tt, omega arith);
      writable = unsigned_is_word n less;
      old = refl;
      short =
          omega (
            arith,
            tokens_within (form_tokens (form.State (state_with place (pos n)))),
            ap (width false) (unsigned_tokens n 0),
            number_short n less,
            state_short place few,
          );
    }
state_prints place (negsuc n) few small =
    let less : suc n ≤ 10 ^ 15 = omega (arith, small) in
    record {
      names = (state_is place few, tt);
      in_range = (tt, omega arith);
      writable = negative_is_word n less;
      old = refl;
      short =
          omega (
            arith,
            tokens_within (form_tokens (form.State (state_with place (negsuc n)))),
            number_short (suc n) less,
            state_short place few,
          );
    }

var_tokens : (name : List ℕ) → expression_tokens (expr.Var name) ≡ token.Name name ∷ []
var_tokens name = simp expr_lemmas refl

output_prints : (name : List ℕ) (place : ℕ) → IsName name → place < 64 → Prints (form.Output (output_with name place))
output_prints name place is few = record {
  names = simp expr_lemmas (is, (state_is place few, tt));
  in_range = (tt, simp expr_lemmas refl);
  writable = simp expr_lemmas refl;
  old = simp expr_lemmas refl;
  short =
      omega (
        arith,
        tokens_within (form_tokens (form.Output (output_with name place))),
        ap (λ tail. width false (front_tokens (form.Output (output_with name place)) ++ tail)) (var_tokens (state_name place)),
        word_short name is.0,
        state_short place few,
      );
}

-- ---- Lines of the step

unsigned : (n : ℕ) → unsigned_abs (pos n) ≡ n
unsigned n = omega arith

reached_tokens : (time : ℕ) → expression_tokens (is_reached time)
    ≡ token.Keyword word.Time ∷ token.Symbol sign.Plus ∷ token.Keyword word.Length ∷ token.Symbol sign.AtLeast ∷ token.Number time 0 ∷ []
reached_tokens time = simp expr_lemmas (rw (unsigned time) refl)

reached_prints : (time : ℕ) → time ≤ 10 ^ 9 → Prints (form.If (is_reached time))
reached_prints time small = record {
  names = simp expr_lemmas tt;
  in_range = (tt, simp expr_lemmas refl);
  writable = simp expr_lemmas (rw (not_negative time, unsigned_is_word time (omega arith)) refl);
  old = simp expr_lemmas refl;
  short =
      omega (
        arith,
        tokens_within (form_tokens (form.If (is_reached time))),
        ap (λ tail. width false (token.Keyword word.If ∷ tail)) (reached_tokens time),
        number_short time (omega arith),
      );
}

plain_number : (n : ℕ) → number (pos n) ≡ expr.Number (pos n) 0
plain_number n = ap (λ b. if b then expr.Unary of.Neg (expr.Number (pos (unsigned_abs (pos n))) 0) else expr.Number (pos n) 0) (not_negative n)

negated_number : (n : ℕ) → number (negsuc n) ≡ expr.Unary of.Neg (expr.Number (pos (suc n)) 0)
negated_number n =
    ap (λ b. if b then expr.Unary of.Neg (expr.Number (pos (unsigned_abs (negsuc n))) 0) else expr.Number (negsuc n) 0) (negative n)
    ∙ ap (λ k. expr.Unary of.Neg (expr.Number (pos k) 0)) (magnitude n)

plain_tokens : (n : ℕ) → expression_tokens (expr.Number (pos n) 0) ≡ token.Number n 0 ∷ []
plain_tokens n = simp expr_lemmas (rw (unsigned n) refl)

negated_tokens : (n : ℕ) → expression_tokens (expr.Unary of.Neg (expr.Number (pos n) 0)) ≡ token.Symbol sign.Minus ∷ token.Number n 0 ∷ []
negated_tokens n = simp expr_lemmas (rw (unsigned n) refl)

plain_prints : (place n : ℕ) → place < 64 → n ≤ 10 ^ 15 → Prints (form.Assign (state_name place) (expr.Number (pos n) 0))
plain_prints place n few small = record {
  names = simp expr_lemmas (state_is place few, tt);
  in_range = (tt, simp expr_lemmas refl);
  writable = simp expr_lemmas (rw (not_negative n, unsigned_is_word n small) refl);
  old = simp expr_lemmas refl;
  short =
      omega (
        arith,
        tokens_within (form_tokens (form.Assign (state_name place) (expr.Number (pos n) 0))),
        ap (λ tail. width false (token.Name (state_name place) ∷ token.Symbol sign.Assign ∷ tail)) (plain_tokens n),
        number_short n small,
        state_short place few,
      );
}

negated_prints : (place n : ℕ) → place < 64 → n ≤ 10 ^ 15 → Prints (form.Assign (state_name place) (expr.Unary of.Neg (expr.Number (pos n) 0)))
negated_prints place n few small = record {
  names = simp expr_lemmas (state_is place few, tt);
  in_range = (tt, simp expr_lemmas refl);
  writable = simp expr_lemmas (rw (not_negative n, unsigned_is_word n small) refl);
  old = simp expr_lemmas refl;
  short =
      omega (
        arith,
        tokens_within (form_tokens (form.Assign (state_name place) (expr.Unary of.Neg (expr.Number (pos n) 0)))),
        ap (λ tail. width false (token.Name (state_name place) ∷ token.Symbol sign.Assign ∷ tail)) (negated_tokens n),
        number_short n small,
        state_short place few,
      );
}

assign_prints : (place : ℕ) (word : ℤ) → place < 64 → unsigned_abs word ≤ 10 ^ 15 → Prints (form.Assign (state_name place) (number word))
assign_prints place (pos n) few small =
    subst (λ (value : Expr). Prints (form.Assign (state_name place) value)) (sym (plain_number n)) (plain_prints place n few (omega (arith, small)))
assign_prints place (negsuc n) few small =
    subst (λ (value : Expr). Prints (form.Assign (state_name place) value)) (sym (negated_number n)) (negated_prints place (suc n) few (omega (arith, small)))

-- ---- The longest step

width_append : (behind : Bool) (one other : List Token) → width behind (one ++ other) ≤ width behind one + width true other
width_append behind [] other = omega (arith, width_most behind other)
width_append behind (first ∷ one) other = omega (arith, width_append (is_worded first) one other)

-- An expression of whole numbers and the time, where there are so many moments after the first one.
record Leads (value : Expr) (more : ℕ) : Type 0 where
  nameless : names_in value ≡ []
  ranged : is_ranged value ≡ true
  unsigned : is_unsigned value ≡ true
  deep : nesting (canonical_phrase value) ≤ more
  old : speaks_of_events value ≡ false
  wide : width true (expression_tokens value) ≤ 30 + 48 * more

until_tokens : (time : ℕ) → expression_tokens (until time) ≡ token.Number time 0 ∷ token.Symbol sign.Minus ∷ token.Keyword word.Time ∷ []
until_tokens time = simp expr_lemmas (rw (unsigned time) refl)

until_leads : (time : ℕ) → time ≤ 10 ^ 9 → Leads (until time) 0
until_leads time small = record {
  nameless = simp expr_lemmas refl;
  ranged = simp expr_lemmas refl;
  unsigned = simp expr_lemmas (rw (not_negative time, unsigned_is_word time (omega arith)) refl);
  deep = simp expr_lemmas (omega arith);
  old = simp expr_lemmas refl;
  wide = omega (arith, ap (width true) (until_tokens time), time_short time small);
}

choose_tokens : (time : ℕ) (rest : Expr) → expression_tokens (expr.Choose (is_before time) (until time) rest)
    ≡ (token.Keyword word.If ∷ token.Keyword word.Time ∷ token.Symbol sign.Less ∷ token.Number time 0 ∷ token.Keyword word.Then ∷ token.Number time 0 ∷ token.Symbol sign.Minus ∷ token.Keyword word.Time ∷ token.Keyword word.Else ∷ [])
    ++ expression_tokens rest
choose_tokens time rest = simp expr_lemmas (rw (unsigned time) refl)

before_tokens : (time : ℕ) → expression_tokens (is_before time) ≡ token.Keyword word.Time ∷ token.Symbol sign.Less ∷ token.Number time 0 ∷ []
before_tokens time = simp expr_lemmas (rw (unsigned time) refl)

before_leads : (time : ℕ) → time ≤ 10 ^ 9 → Leads (is_before time) 0
before_leads time small = record {
  nameless = simp expr_lemmas refl;
  ranged = simp expr_lemmas refl;
  unsigned = simp expr_lemmas (rw (not_negative time, unsigned_is_word time (omega arith)) refl);
  deep = simp expr_lemmas (omega arith);
  old = simp expr_lemmas refl;
  wide = omega (arith, ap (width true) (before_tokens time), time_short time small);
}

pub none_of_three : (a b c : List (List ℕ)) → a ≡ [] → b ≡ [] → c ≡ [] → a ++ b ++ c ≡ []
none_of_three a b c no_a no_b no_c = rw (no_a, no_b, no_c) refl

pub no_one_of : (a b c : Bool) → a ≡ false → b ≡ false → c ≡ false → (a || (b || c)) ≡ false
no_one_of a b c no_a no_b no_c = rw (no_a, no_b, no_c) refl

choose_leads : (time : ℕ) (rest : Expr) (more : ℕ) → time ≤ 10 ^ 9 → Leads rest more → Leads (expr.Choose (is_before time) (until time) rest) (suc more)
choose_leads time rest more small leads =
    let c = is_before time in
    let u = until time in
    let before = before_leads time small in
    let ends = until_leads time small in
    let front = token.Keyword word.If ∷ token.Keyword word.Time ∷ token.Symbol sign.Less ∷ token.Number time 0 ∷ token.Keyword word.Then ∷ token.Number time 0 ∷ token.Symbol sign.Minus ∷ token.Keyword word.Time ∷ token.Keyword word.Else ∷ [] in
    record {
      nameless = fold-Choose (List (List ℕ)) node_names c u rest ∙ none_of_three (names_in c) (names_in u) (names_in rest) before.nameless ends.nameless leads.nameless;
      ranged = fold-Choose Bool node_is_ranged c u rest ∙ and_from _ _ before.ranged (and_from _ _ ends.ranged leads.ranged);
      unsigned = fold-Choose Bool node_is_unsigned c u rest ∙ and_from _ _ before.unsigned (and_from _ _ ends.unsigned leads.unsigned);
      deep = omega (arith, ap nesting (fold-Choose Phrase node_phrase c u rest), before.deep, ends.deep, leads.deep);
      old = fold-Choose Bool node_speaks_of_events c u rest ∙ no_one_of (speaks_of_events c) (speaks_of_events u) (speaks_of_events rest) before.old ends.old leads.old;
      wide =
          omega (arith, ap (width true) (choose_tokens time rest), width_append true front (expression_tokens rest), time_short time small, leads.wide);
    }

leads_on : (time : ℕ) (later : List Moment) → time ≤ 10 ^ 9 → AllByRecursion IsWritable later → Leads (to_next time later) (length later)
leads_on time [] small all = until_leads time small
leads_on time (next ∷ later) small all = choose_leads time (to_next next.time later) (length later) small (leads_on next.time later all.0.time all.1)

max_prints : (value : Expr) (more : ℕ) → more ≤ 18 → Leads value more → Prints (form.Max value)
max_prints value more few leads = record {
  names = subst (λ names. AllByRecursion IsName names) (sym leads.nameless) tt;
  in_range = (tt, leads.ranged);
  writable = and_from _ _ leads.unsigned (le_asked (nesting (canonical_phrase value)) 64 (omega (arith, leads.deep)));
  old = leads.old;
  short = omega (arith, tokens_within (form_tokens (form.Max value)), width_append false (token.Keyword word.Max ∷ []) (expression_tokens value), leads.wide);
}

stop_prints : (time : ℕ) → time ≤ 10 ^ 9 → Prints (form.Stop (literal.Number (pos time) 0))
stop_prints time small = record {
  names = tt;
  in_range = (tt, omega arith);
  writable = rw (not_negative time, unsigned_is_word time (omega arith)) refl;
  old = refl;
  short =
      omega (
        arith,
        tokens_within (form_tokens (form.Stop (literal.Number (pos time) 0))),
        ap (width true) (unsigned_tokens time 0),
        number_short time (omega arith),
      );
}

-- ---- All lines

-- Lines that print, of which there are at most so many.
record AllPrint (lines : List LineForm) (count : ℕ) : Type 0 where
  each : AllByRecursion Prints lines
  few : length lines ≤ count

both_print : (one other : List LineForm) (count more : ℕ) → AllPrint one count → AllPrint other more → AllPrint (one ++ other) (count + more)
both_print one other count more first second = record {
  each = each_append Prints one other first.each second.each;
  few = omega (arith, length-append one other, first.few, second.few);
}

abbrev PartsPrint : List UnitPart → ℕ → Type 0
PartsPrint some count = AllPrint (flat_map unit_part_forms some) count

parts_print : (one other : List UnitPart) (count more : ℕ) → PartsPrint one count → PartsPrint other more → PartsPrint (one ++ other) (count + more)
parts_print one other count more first second =
    subst (λ lines. AllPrint lines (count + more)) (sym (flat_map-append unit_part_forms one other))
    (both_print (flat_map unit_part_forms one) (flat_map unit_part_forms other) count more first second)

no_parts : PartsPrint [] 0
no_parts = record { each = tt; few = omega arith }

abbrev AreSmall : List ℤ → Type 0
AreSmall words = AllByRecursion (λ (word : ℤ). unsigned_abs word ≤ 10 ^ 15) words

states_print : (first : ℕ) (words : List ℤ) → first + length words ≤ 64 → AreSmall words → PartsPrint (map parts.HasState (states_from first words)) (length words)
states_print first [] few small = no_parts
states_print first (word ∷ words) few small =
    let later = states_print (first + 1) words (omega (arith, few)) small.1 in
    record { each = (state_prints first word (omega (arith, few)) small.0, later.each); few = omega (arith, later.few) }

outputs_print : (first : ℕ) (names : List (List ℕ)) → first + length names ≤ 64 → AllByRecursion IsName names
    → PartsPrint (map parts.HasOutput (outputs_from first names)) (length names)
outputs_print first [] few are = no_parts
outputs_print first (name ∷ names) few are =
    let later = outputs_print (first + 1) names (omega (arith, few)) are.1 in
    record { each = (output_prints name first are.0 (omega (arith, few)), later.each); few = omega (arith, later.few) }

sets_print : (first : ℕ) (words : List ℤ) → first + length words ≤ 64 → AreSmall words → AllPrint (joined (map line_forms (sets_from first words))) (length words)
sets_print first [] few small = record { each = tt; few = omega arith }
sets_print first (word ∷ words) few small =
    let one : AllPrint (line_forms (line.Assign (state_name first) (number word))) 1 =
    subst (λ lines. AllPrint lines 1) (sym (fold-Assign (List LineForm) block_forms (state_name first) (number word)))
    (record { each = (assign_prints first word (omega (arith, few)) small.0, tt); few = omega arith }) in
    let all =
    both_print (line_forms (line.Assign (state_name first) (number word))) (joined (map line_forms (sets_from (first + 1) words))) 1 (length words) one
    (sets_print (first + 1) words (omega (arith, few)) small.1) in
    record { each = all.each; few = omega (arith, all.few) }

takes_print : (moment : Moment) → IsWritable moment → length moment.words ≤ 16 → AllPrint (line_forms (takes moment)) 18
takes_print moment writable few =
    let sets = sets_print 0 moment.words (omega (arith, few)) writable.words in
    let lines = joined (map line_forms (sets_from 0 moment.words)) in
    subst (λ all. AllPrint all 18) (sym (fold-If (List LineForm) block_forms (is_reached moment.time) (sets_from 0 moment.words) None))
    (record {
      each = (reached_prints moment.time writable.time, each_append Prints (lines ++ []) (form.End ∷ []) (each_append Prints lines [] sets.each tt) (end_prints, tt));
      few = omega (arith, sets.few, few, length-append (lines ++ []) (form.End ∷ []), length-append lines []);
    })

all_take : (moments : List Moment) → AllByRecursion IsWritable moments → AllByRecursion (λ (m : Moment). length m.words ≤ 16) moments
    → AllPrint (flat_map line_forms (map takes moments)) (18 * length moments)
all_take [] writable few = record { each = tt; few = omega arith }
all_take (moment ∷ moments) writable few =
    let all =
    both_print (line_forms (takes moment)) (flat_map line_forms (map takes moments)) 18 (18 * length moments) (takes_print moment writable.0 few.0)
    (all_take moments writable.1 few.1) in
    record { each = all.each; few = omega (arith, all.few) }

-- ---- Blocks

under : (limit start : ℕ) (depths : List ℕ) → start ≤ limit → AllByRecursion (λ depth. depth ≤ limit) depths → fold max start depths ≤ limit
under limit start [] is all = is
under limit start (depth ∷ depths) is all = under limit (max start depth) depths (omega (arith, all.0)) all.1

sets_flat : (first : ℕ) (words : List ℤ) → AllByRecursion (λ depth. depth ≤ 0) (map line_depth (sets_from first words))
sets_flat first [] = tt
sets_flat first (word ∷ words) = (omega (arith, fold-Assign ℕ block_depth (state_name first) (number word)), sets_flat (first + 1) words)

takes_deep : (moment : Moment) → line_depth (takes moment) ≤ 1
takes_deep moment =
    omega (
      arith,
      fold-If ℕ block_depth (is_reached moment.time) (sets_from 0 moment.words) None,
      under 0 0 (map line_depth (sets_from 0 moment.words)) (omega arith) (sets_flat 0 moment.words),
    )

all_deep : (moments : List Moment) → AllByRecursion (λ depth. depth ≤ 1) (map line_depth (map takes moments))
all_deep [] = tt
all_deep (moment ∷ moments) = (takes_deep moment, all_deep moments)

steps_deep : (later : List Moment) → step_depth (step_of_moments later) ≤ 1
steps_deep [] = omega arith
steps_deep (next ∷ later) = under 1 0 (map line_depth (map takes (next ∷ later))) (omega arith) (all_deep (next ∷ later))

-- ---- All of a system

max_print : (later : List Moment) → length later < 20 → AllByRecursion IsWritable later → PartsPrint (optional parts.Max (max_of_moments later)) 1
max_print [] few writable = record { each = tt; few = omega arith }
max_print (next ∷ later) few writable = record {
  each = (max_prints (to_next next.time later) (length later) (omega (arith, few)) (leads_on next.time later writable.0.time writable.1), tt);
  few = omega arith;
}

step_print : (later : List Moment) → length later < 20 → AllByRecursion IsWritable later → AllByRecursion (λ (m : Moment). length m.words ≤ 16) later
    → PartsPrint (optional parts.Step (step_of_moments later)) 362
step_print [] few writable narrow = record { each = tt; few = omega arith }
step_print (next ∷ later) few writable narrow =
    let lines = flat_map line_forms (map takes (next ∷ later)) in
    let taken = all_take (next ∷ later) writable narrow in
    record {
      each = each_append Prints (form.Step ∷ lines ++ (form.End ∷ [])) [] (step_prints, each_append Prints lines (form.End ∷ []) taken.each (end_prints, tt)) tt;
      few = omega (arith, taken.few, few, length-append lines (form.End ∷ []), length-append (form.Step ∷ lines ++ (form.End ∷ [])) []);
    }

module _ (names : List (List ℕ)) (first : Moment) (later : List Moment) (is : IsStimulus names first later) where
  abbrev system : System
  system = table_system names first later

  all_written : AllByRecursion IsWritable (first ∷ later)
  all_written = each_so (IsMoment names) IsWritable (λ moment one. one.writable) (first ∷ later) is.are_moments

  narrow : AllByRecursion (λ (m : Moment). length m.words ≤ 16) (first ∷ later)
  narrow = each_so (IsMoment names) (λ (m : Moment). length m.words ≤ 16) (λ moment one. omega (arith, one.one_each, is.are_names.few)) (first ∷ later) is.are_moments

  abbrev some_states : List UnitPart
  some_states = map parts.HasState (states_from 0 first.words)

  abbrev some_outputs : List UnitPart
  some_outputs = map parts.HasOutput (outputs_from 0 names)

  unit_print : PartsPrint (unit_parts (table_unit names first later)) 400
  unit_print =
      let few_words : length first.words ≤ 16 = narrow.0 in
      let a = states_print 0 first.words (omega (arith, few_words)) all_written.0.words in
      let b = parts_print some_states [] (length first.words) 0 a no_parts in
      let c = parts_print (some_states ++ []) [] (length first.words + 0) 0 b no_parts in
      let d = parts_print ((some_states ++ []) ++ []) [] (length first.words + 0 + 0) 0 c no_parts in
      let e = parts_print (((some_states ++ []) ++ []) ++ []) some_outputs (length first.words + 0 + 0 + 0) (length names) d
      (outputs_print 0 names (omega (arith, is.are_names.few)) is.are_names.are_names) in
      let f = parts_print ((((some_states ++ []) ++ []) ++ []) ++ some_outputs) [] (length first.words + 0 + 0 + 0 + length names) 0 e no_parts in
      let g = parts_print (((((some_states ++ []) ++ []) ++ []) ++ some_outputs) ++ []) (optional parts.Max (max_of_moments later))
      (length first.words + 0 + 0 + 0 + length names + 0) 1 f (max_print later is.few all_written.1) in
      let h = parts_print ((((((some_states ++ []) ++ []) ++ []) ++ some_outputs) ++ []) ++ optional parts.Max (max_of_moments later))
      (optional parts.Step (step_of_moments later)) (length first.words + 0 + 0 + 0 + length names + 0 + 1) 362 g
      (step_print later is.few all_written.1 narrow.1) in
      record { each = h.each; few = omega (arith, h.few, few_words, is.are_names.few) }

  last_small : (one : Moment) (others : List Moment) → IsWritable one → AllByRecursion IsWritable others → last_time one others ≤ 10 ^ 9
  last_small one [] here there = here.time
  last_small one (next ∷ others) here there = last_small next others there.0 there.1

  forms_print : AllPrint (canonical_forms system) 500
  forms_print =
      let unit = unit_print in
      let lines = flat_map unit_part_forms (unit_parts (table_unit names first later)) in
      let last : List LineForm = form.Instance (codes "table") (codes "Table") ∷ form.End ∷ form.Stop (literal.Number (pos (last_time first later)) 0) ∷ [] in
      record {
        each = (
          header_prints,
          each_append Prints (form.Unit (codes "Table") ∷ lines ++ (form.End ∷ [])) last
              (unit_prints, each_append Prints lines (form.End ∷ []) unit.each (end_prints, tt))
              (instance_prints, (end_prints, (stop_prints (last_time first later) (last_small first later all_written.0 all_written.1), tt))),
        );
        few =
            omega (
              arith,
              unit.few,
              length-append lines (form.End ∷ []),
              length-append (form.Unit (codes "Table") ∷ lines ++ (form.End ∷ [])) last,
            );
      }

  pub is_printable : IsPrintable system
  is_printable =
      let print = forms_print.each in
      let forms = canonical_forms system in
      let old = none_second forms print in
      let named = each_so Prints (λ line. AllByRecursion IsName (names_on line)) (λ line one. one.names) forms print in
      record {
        ranged = record {
          version = (omega arith, omega arith);
          events = λ one. no_events forms print;
          names =
              each_so (λ line. AllByRecursion IsName (names_on line)) (λ line. AllByRecursion IsWord (names_on line))
              (λ line all. each_so IsName IsWord (λ name one. one.0) (names_on line) all) forms named;
          numbers = each_so Prints IsInRange (λ line one. one.in_range) forms print;
        };
        of_version = λ one. old;
        names = named;
        tails = all_writable forms print;
        blocks = and_from _ _ (le_asked (step_depth (step_of_moments later)) 16 (omega (arith, steps_deep later))) refl;
        lines = all_short forms print;
        text = omega (arith, text_within forms print, forms_print.few);
      }
