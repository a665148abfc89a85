-- The names that the expressions of a table's unit use, how deep they are and what they cost.
use Rattle.std.proofs.Common.{◌≡◌, ℕ, suc, ◌+◌, ◌*◌, ◌≤◌, Bool, true, false, cond, ℤ, pos, unsigned_abs, List, [], ◌∷◌, map, length, Option, Some, None, refl, ◌∙◌, arith}
use Rattle.std.specs.Prelude.{◌&&◌}
use Rattle.std.specs.Int.{is_negative}
use Rattle.std.specs.List.{AllByRecursion, sum}
use Rattle.std.specs.Option.{option_and_then, option_map}
use Rattle.std.proofs.lemmas.List.Sums.{sum_by-cons}
use Rattle.stimulus_tables.proofs.Printing.{no_one_of, none_of_three}
use Rattle.fixed_words.specs.declared.types.Kind.{Kind}
use Rattle.fixed_words.specs.declared.types.Kind.TheVariants as kinds
use Rattle.language_laws.proofs.KindLemmas.{kind-Choose, kind_laws}
use Rattle.language_laws.proofs.PlainLemmas.{plain_line_cost}
use Rattle.unit_tree.proofs.FoldLemmas.{fold-Assign, fold-Choose, fold-If}
use Rattle.unit_tree.specs.Costs.{cost_of, line_cost, node_cost, part_cost}
use Rattle.unit_tree.specs.Kinds.{KindsOfNames, kind_of_expression, same_kind, where_holds}
use Rattle.unit_tree.specs.LineForms.{node_speaks_of_events, speaks_of_events}
use Rattle.unit_tree.specs.Names.{Clocks, Uses, are_allowed, are_among, clocks_in, depth_of, either, events_asked_in, keeps_to, names_in, no_clock, node_clocks, node_depth, node_events, node_names}
use Rattle.unit_tree.specs.Plain.{plain_line}
use Rattle.unit_tree.specs.WellFormed.{step_cost}
use Rattle.unit_tree.specs.declared.expr.Expr as expr
use Rattle.unit_tree.specs.declared.expr.Expr.{Expr, the_lemmas as expr_lemmas}
use Rattle.unit_tree.specs.declared.expr.UnOp.TheVariants as of
use Rattle.unit_tree.specs.declared.line.Line as line
use Rattle.stimulus_tables.specs.TableSystems.{is_before, is_reached, number, sets_from, step_of_moments, takes, to_next, until}
use Rattle.stimulus_tables.specs.Tables.{state_name}
use Rattle.stimulus_tables.specs.declared.moment.Moment.{Moment}

-- An expression uses these names and clocks and no events, is at most so deep, and costs at most so much.
pub record Measures (value : Expr) (names : List (List ℕ)) (clocks : Clocks) (depth cost : ℕ) : Type 0 where
  pub named : names_in value ≡ names
  pub eventless : events_asked_in value ≡ []
  pub clocked : clocks_in value ≡ clocks
  pub old : speaks_of_events value ≡ false
  pub deep : depth_of value ≤ depth
  pub dear : cost_of value ≤ cost

pub keeps_from : (uses : Uses) (value : Expr) (names : List (List ℕ)) (clocks : Clocks) (depth cost : ℕ) → Measures value names clocks depth cost
    → are_among uses.names names ≡ true → are_allowed uses.clocks clocks ≡ true → keeps_to uses value ≡ true
keeps_from uses value names clocks depth cost measures among allowed =
    rw (measures.named, measures.eventless, measures.clocked, among, allowed) refl

abbrev pub time_alone : Clocks
time_alone = record { time = true; step = false }

abbrev pub both_clocks : Clocks
both_clocks = record { time = true; step = true }

-- ---- Single expressions

pub name_measures : (name : List ℕ) → Measures (expr.Var name) (name ∷ []) no_clock 1 1
name_measures name = record {
  named = simp expr_lemmas refl;
  eventless = simp expr_lemmas refl;
  clocked = simp expr_lemmas refl;
  old = simp expr_lemmas refl;
  deep = simp expr_lemmas (omega arith);
  dear = simp expr_lemmas (omega arith);
}

either_number : (negative : Bool) (n : ℕ) (word : ℤ)
    → Measures (cond negative (expr.Unary of.Neg (expr.Number (pos n) 0)) (expr.Number word 0)) [] no_clock 2 2
either_number true n word = record {
  named = simp expr_lemmas refl;
  eventless = simp expr_lemmas refl;
  clocked = simp expr_lemmas refl;
  old = simp expr_lemmas refl;
  deep = simp expr_lemmas (omega arith);
  dear = simp expr_lemmas (omega arith);
}
either_number false n word = record {
  named = simp expr_lemmas refl;
  eventless = simp expr_lemmas refl;
  clocked = simp expr_lemmas refl;
  old = simp expr_lemmas refl;
  deep = simp expr_lemmas (omega arith);
  dear = simp expr_lemmas (omega arith);
}

pub number_measures : (word : ℤ) → Measures (number word) [] no_clock 2 2
number_measures word = either_number (is_negative word) (unsigned_abs word) word

either_kind : (negative : Bool) (n : ℕ) (word : ℤ) (names : KindsOfNames)
    → kind_of_expression (cond negative (expr.Unary of.Neg (expr.Number (pos n) 0)) (expr.Number word 0)) names ≡ Some kinds.Int
either_kind true n word names = simp kind_laws refl
either_kind false n word names = simp kind_laws refl

pub number_kind : (word : ℤ) (names : KindsOfNames) → kind_of_expression (number word) names ≡ Some kinds.Int
number_kind word names = either_kind (is_negative word) (unsigned_abs word) word names

pub reached_measures : (time : ℕ) → Measures (is_reached time) [] both_clocks 3 5
reached_measures time = record {
  named = simp expr_lemmas refl;
  eventless = simp expr_lemmas refl;
  clocked = simp expr_lemmas refl;
  old = simp expr_lemmas refl;
  deep = simp expr_lemmas (omega arith);
  dear = simp expr_lemmas (omega arith);
}

pub reached_kind : (time : ℕ) (names : KindsOfNames) → kind_of_expression (is_reached time) names ≡ Some kinds.Bool
reached_kind time names = simp kind_laws refl

-- ---- The longest step

before_measures : (time : ℕ) → Measures (is_before time) [] time_alone 2 3
before_measures time = record {
  named = simp expr_lemmas refl;
  eventless = simp expr_lemmas refl;
  clocked = simp expr_lemmas refl;
  old = simp expr_lemmas refl;
  deep = simp expr_lemmas (omega arith);
  dear = simp expr_lemmas (omega arith);
}

until_measures : (time : ℕ) → Measures (until time) [] time_alone 2 3
until_measures time = record {
  named = simp expr_lemmas refl;
  eventless = simp expr_lemmas refl;
  clocked = simp expr_lemmas refl;
  old = simp expr_lemmas refl;
  deep = simp expr_lemmas (omega arith);
  dear = simp expr_lemmas (omega arith);
}

all_timed : (a b c : Clocks) → a ≡ time_alone → b ≡ time_alone → c ≡ time_alone → either a (either b c) ≡ time_alone
all_timed a b c of_a of_b of_c = rw (of_a, of_b, of_c) refl

choose_measures : (time : ℕ) (rest : Expr) (depth cost : ℕ) → 2 ≤ depth → Measures rest [] time_alone depth cost
    → Measures (expr.Choose (is_before time) (until time) rest) [] time_alone (suc depth) (cost + 8)
choose_measures time rest depth cost some measures =
    let c = is_before time in
    let u = until time in
    let before = before_measures time in
    let ends = until_measures time in
    record {
      named = fold-Choose (List (List ℕ)) node_names c u rest ∙ none_of_three (names_in c) (names_in u) (names_in rest) before.named ends.named measures.named;
      eventless =
          fold-Choose (List (List ℕ)) node_events c u rest
          ∙ none_of_three (events_asked_in c) (events_asked_in u) (events_asked_in rest) before.eventless ends.eventless measures.eventless;
      clocked =
          fold-Choose Clocks node_clocks c u rest ∙ all_timed (clocks_in c) (clocks_in u) (clocks_in rest) before.clocked ends.clocked measures.clocked;
      old =
          fold-Choose Bool node_speaks_of_events c u rest
          ∙ no_one_of (speaks_of_events c) (speaks_of_events u) (speaks_of_events rest) before.old ends.old measures.old;
      deep = omega (arith, fold-Choose ℕ node_depth c u rest, before.deep, ends.deep, measures.deep, some);
      dear = omega (arith, fold-Choose ℕ node_cost c u rest, before.dear, ends.dear, measures.dear);
    }

pub chain_measures : (time : ℕ) (later : List Moment) → Measures (to_next time later) [] time_alone (2 + length later) (3 + 8 * length later)
chain_measures time [] = until_measures time
chain_measures time (next ∷ later) =
    let chosen =
    choose_measures time (to_next next.time later) (2 + length later) (3 + 8 * length later) (omega arith) (chain_measures next.time later) in
    record {
      named = chosen.named;
      eventless = chosen.eventless;
      clocked = chosen.clocked;
      old = chosen.old;
      deep = omega (arith, chosen.deep);
      dear = omega (arith, chosen.dear);
    }

before_kind : (time : ℕ) (names : KindsOfNames) → kind_of_expression (is_before time) names ≡ Some kinds.Bool
before_kind time names = simp kind_laws refl

until_kind : (time : ℕ) (names : KindsOfNames) → kind_of_expression (until time) names ≡ Some kinds.Int
until_kind time names = simp kind_laws refl

chosen_kind : (test one other : Option Kind) → test ≡ Some kinds.Bool → one ≡ Some kinds.Int → other ≡ Some kinds.Int
    → option_and_then (λ c. option_and_then (λ x. option_and_then (λ y. where_holds (same_kind c kinds.Bool && same_kind x y) x) other) one) test ≡ Some kinds.Int
chosen_kind test one other of_test of_one of_other = rw (of_test, of_one, of_other) refl

pub chain_kind : (time : ℕ) (later : List Moment) (names : KindsOfNames) → kind_of_expression (to_next time later) names ≡ Some kinds.Int
chain_kind time [] names = until_kind time names
chain_kind time (next ∷ later) names =
    let c = is_before time in
    let u = until time in
    let rest = to_next next.time later in
    kind-Choose c u rest names
    ∙ chosen_kind (kind_of_expression c names) (kind_of_expression u names) (kind_of_expression rest names) (before_kind time names) (until_kind time names)
    (chain_kind next.time later names)

-- ---- The step

sets_cost : (first : ℕ) (words : List ℤ) → sum (map line_cost (sets_from first words)) ≤ 3 * length words
sets_cost first [] = omega arith
sets_cost first (word ∷ words) =
    omega (
      arith,
      sum_by-cons (λ cost. cost) (line_cost (line.Assign (state_name first) (number word))) (map line_cost (sets_from (first + 1) words)),
      fold-Assign ℕ part_cost (state_name first) (number word),
      (number_measures word).dear,
      sets_cost (first + 1) words,
    )

takes_cost : (moment : Moment) → length moment.words ≤ 16 → line_cost (takes moment) ≤ 54
takes_cost moment few =
    omega (
      arith,
      fold-If ℕ part_cost (is_reached moment.time) (sets_from 0 moment.words) None,
      (reached_measures moment.time).dear,
      sets_cost 0 moment.words,
      few,
    )

all_cost : (moments : List Moment) → AllByRecursion (λ (m : Moment). length m.words ≤ 16) moments
    → sum (map line_cost (map plain_line (map takes moments))) ≤ 54 * length moments
all_cost [] few = omega arith
all_cost (moment ∷ moments) few =
    omega (
      arith,
      sum_by-cons (λ cost. cost) (line_cost (plain_line (takes moment))) (map line_cost (map plain_line (map takes moments))),
      plain_line_cost (takes moment),
      takes_cost moment few.0,
      all_cost moments few.1,
    )

pub step_cheap : (later : List Moment) → AllByRecursion (λ (m : Moment). length m.words ≤ 16) later
    → step_cost (option_map (map plain_line) (step_of_moments later)) ≤ 54 * length later + 1
step_cheap [] few = omega arith
step_cheap (next ∷ later) few = omega (arith, all_cost (next ∷ later) few)
