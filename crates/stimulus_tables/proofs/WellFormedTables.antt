-- The system of a table is well-formed.
use Rattle.std.proofs.Common.{◌≡◌, ℕ, ◌+◌, ◌*◌, ◌<◌, ◌≤◌, ◌^◌, Bool, true, false, ℤ, pos, unsigned_abs, List, [], ◌∷◌, ◌++◌, map, length, Option, None, Ok, refl, ap, sym, subst, ◌∙◌, arith, ◌≢◌}
use Rattle.std.specs.Prelude.{codes, ◌||◌}
use Rattle.std.specs.List.{AllByRecursion, filter_map, flat_map}
use Rattle.std.specs.Str.{bytes_eq}
use Rattle.std.proofs.lemmas.Bool.Decides.{nat_tests}
use Rattle.std.proofs.lemmas.List.{length-append}
use Rattle.std.proofs.lemmas.List.Elements.{filter_map-append}
use Rattle.std.proofs.lemmas.List.Folds.{list_any-append}
use Rattle.fixed_words.specs.declared.types.Literal.TheVariants as literal
use Rattle.language_laws.proofs.NameLaws.{Hold, same_bytes}
use Rattle.language_laws.proofs.PartLaws.{unit_is}
use Rattle.list_laws.proofs.Lists.{each_append, each_so}
use Rattle.list_laws.proofs.Truths.{le_asked, not_negative, never_true}
use Rattle.super_time.specs.Seconds.{seconds_of}
use Rattle.unit_tree.proofs.FoldLemmas.{fold-Assign, fold-If}
use Rattle.unit_tree.specs.Canonical.{canonical_parts, optional, unit_parts}
use Rattle.unit_tree.specs.Names.{is_among}
use Rattle.unit_tree.specs.Parts as parts
use Rattle.unit_tree.specs.Parts.{bare_unit, block_forms, joined, line_forms}
use Rattle.unit_tree.specs.Sites.{Headed, Scope, Site, TopScope, UnitScope, alone, headed_part, headed_unit_part, sites, sites_of}
use Rattle.unit_tree.specs.WellFormed.{IsWellFormed, is_length, name_declared}
use Rattle.unit_tree.specs.declared.expr.Expr.{Expr}
use Rattle.unit_tree.specs.declared.line.Line as line
use Rattle.unit_tree.specs.declared.line.Line.{Line}
use Rattle.unit_tree.specs.declared.line_form.LineForm.{LineForm}
use Rattle.unit_tree.specs.declared.line_form.LineForm.TheVariants as form
use Rattle.unit_tree.specs.declared.system.System.{System}
use Rattle.unit_tree.specs.declared.unit.Output.{Output}
use Rattle.unit_tree.specs.declared.unit.State.{State}
use Rattle.unit_tree.specs.declared.unit.Unit.{Unit}
use Rattle.stimulus_tables.specs.Laws.{IsStimulus}
use Rattle.stimulus_tables.specs.TableSystems.{is_reached, last_time, max_of_moments, number, output_with, outputs_from, sets_from, state_with, states_from, step_of_moments, takes, to_next}
use Rattle.stimulus_tables.specs.Tables.{AllDiffer, IsMoment, IsWritable, state_name}
use Rattle.stimulus_tables.specs.declared.moment.Moment.{Moment}
use Rattle.stimulus_tables.proofs.SitesPass.{passed}
use Rattle.text_laws.proofs.KeptRules.{Keeps, all_hold, well_formed}
use Rattle.stimulus_tables.proofs.StateNames.{other_state}
use Rattle.stimulus_tables.proofs.TableLines.{StepPasses, in_step, max_passes, one_more, output_passes, plain, reached_passes, set_passes, state_passes, step_end_passes, step_passes, system, unit}
use Rattle.stimulus_tables.proofs.TableNames.{column_free}

-- ---- Names that earlier lines declare

neither : (one other : Bool) → one ≡ false → other ≡ false → (one || (other || false)) ≡ false
neither one other no_one no_other = rw (no_one, no_other) refl

-- A name that is not declared so far is still not declared after one more line that declares another name.
still_new : (earlier : List LineForm) (line : LineForm) (added name : List ℕ) → filter_map name_declared (line ∷ []) ≡ added ∷ []
    → is_among (filter_map name_declared earlier) name ≡ false → bytes_eq name added ≡ false
    → is_among (filter_map name_declared (earlier ++ (line ∷ []))) name ≡ false
still_new earlier line added name declares new apart =
    let before = filter_map name_declared earlier in
    ap (λ all. is_among all name) (filter_map-append name_declared earlier (line ∷ []) ∙ ap (λ more. before ++ more) declares)
    ∙ list_any-append (bytes_eq name) before (added ∷ [])
    ∙ neither (is_among before name) (bytes_eq name added) new apart

abbrev AreNew : List LineForm → List (List ℕ) → Type 0
AreNew earlier names = AllByRecursion (λ name. is_among (filter_map name_declared earlier) name ≡ false) names

all_still_new : (earlier : List LineForm) (line : LineForm) (added : List ℕ) (names : List (List ℕ)) → filter_map name_declared (line ∷ []) ≡ added ∷ []
    → AreNew earlier names → AllByRecursion (λ name. bytes_eq name added ≡ false) names → AreNew (earlier ++ (line ∷ [])) names
all_still_new earlier line added [] declares new apart = tt
all_still_new earlier line added (name ∷ names) declares new apart =
    (still_new earlier line added name declares new.0 apart.0, all_still_new earlier line added names declares new.1 apart.1)

-- ---- Lines of the unit, with their blocks

abbrev state_head : State → Headed
state_head state = alone (form.State state)

abbrev output_head : Output → Headed
output_head output = alone (form.Output output)

abbrev last_heads : Unit → Option Expr → Option (List Line) → List Headed
last_heads own max step = flat_map (headed_unit_part own) (optional parts.Max max ++ optional parts.Step step) ++ (alone form.End ∷ [])

heads_are : (own : Unit) (states : List State) (outputs : List Output) (max : Option Expr) (step : Option (List Line))
    → flat_map (headed_unit_part own) (unit_parts (record (bare_unit []) { states = states; outputs = outputs; max = max; step = step })) ++ (alone form.End ∷ [])
    ≡ map state_head states ++ (map output_head outputs ++ last_heads own max step)
heads_are own [] [] max step = refl
heads_are own [] (output ∷ outputs) max step = ap (λ rest. output_head output ∷ rest) (heads_are own [] outputs max step)
heads_are own (state ∷ states) outputs max step = ap (λ rest. state_head state ∷ rest) (heads_are own states outputs max step)

-- A number without decimals is so many ticks of one second.
ticks_are : (n : ℕ) → n ≤ 10 ^ 9 → seconds_of 0 (literal.Number (pos n) 0) ≡ Ok n
ticks_are n few = grind (arith, nat_tests, not_negative)

last_small : (one : Moment) (others : List Moment) → IsWritable one → AllByRecursion IsWritable others → last_time one others ≤ 10 ^ 9
last_small one [] here there = here.time
last_small one (next ∷ others) here there = last_small next others there.0 there.1

module _ (names : List (List ℕ)) (first : Moment) (later : List Moment) (is : IsStimulus names first later) where
  abbrev own : System
  own = system names first later is

  abbrev Keep : Site → Type 0
  Keep = Keeps own

  abbrev own_unit : Unit
  own_unit = unit names first later is

  abbrev own_scope : Scope
  own_scope = UnitScope own_unit

  abbrev step_scope : Scope
  step_scope = in_step names first later is

  abbrev StepPass : LineForm → Type 0
  StepPass = StepPasses names first later is

  abbrev count : ℕ
  count = length first.words

  abbrev size : Scope → List LineForm → ℕ
  size scope earlier = length (plain names first later is scope earlier)

  few_words : count ≤ 16
  few_words = omega (arith, is.are_moments.0.one_each, is.are_names.few)

  -- ---- The step

  record AllPass (lines : List LineForm) (most : ℕ) : Type 0 where
    each : AllByRecursion StepPass lines
    few : length lines ≤ most

  both_pass : (one other : List LineForm) (most more : ℕ) → AllPass one most → AllPass other more → AllPass (one ++ other) (most + more)
  both_pass one other most more of_one of_other = record {
    each = each_append StepPass one other of_one.each of_other.each;
    few = omega (arith, length-append one other, of_one.few, of_other.few);
  }

  sets_pass : (place : ℕ) (words : List ℤ) → place + length words ≤ count → AllPass (joined (map line_forms (sets_from place words))) (length words)
  sets_pass place [] few = record { each = tt; few = omega arith }
  sets_pass place (word ∷ words) few =
      let one : AllPass (line_forms (line.Assign (state_name place) (number word))) 1 =
      subst (λ lines. AllPass lines 1) (sym (fold-Assign (List LineForm) block_forms (state_name place) (number word)))
      (record { each = (set_passes names first later is place word (omega (arith, few)), tt); few = omega arith }) in
      let all =
      both_pass (line_forms (line.Assign (state_name place) (number word))) (joined (map line_forms (sets_from (place + 1) words))) 1 (length words) one
      (sets_pass (place + 1) words (omega (arith, few))) in
      record { each = all.each; few = omega (arith, all.few) }

  takes_pass : (moment : Moment) → IsMoment names moment → AllPass (line_forms (takes moment)) 18
  takes_pass moment one =
      let sets = sets_pass 0 moment.words (omega (arith, one.one_each, is.are_moments.0.one_each)) in
      let lines = joined (map line_forms (sets_from 0 moment.words)) in
      subst (λ all. AllPass all 18) (sym (fold-If (List LineForm) block_forms (is_reached moment.time) (sets_from 0 moment.words) None))
      (record {
        each = (
          reached_passes names first later is moment.time,
          each_append StepPass (lines ++ []) (form.End ∷ []) (each_append StepPass lines [] sets.each tt) (step_end_passes names first later is, tt),
        );
        few =
            omega (
              arith,
              sets.few,
              one.one_each,
              is.are_names.few,
              length-append (lines ++ []) (form.End ∷ []),
              length-append lines [],
            );
      })

  all_take : (moments : List Moment) → AllByRecursion (IsMoment names) moments → AllPass (flat_map line_forms (map takes moments)) (18 * length moments)
  all_take [] all = record { each = tt; few = omega arith }
  all_take (moment ∷ moments) all =
      let both =
      both_pass (line_forms (takes moment)) (flat_map line_forms (map takes moments)) 18 (18 * length moments) (takes_pass moment all.0)
      (all_take moments all.1) in
      record { each = both.each; few = omega (arith, both.few) }

  steps_pass : (lines earlier : List LineForm) → AllByRecursion StepPass lines → size step_scope earlier + length lines ≤ 500
      → AllByRecursion Keep (sites step_scope earlier (map alone lines))
  steps_pass [] earlier all few = tt
  steps_pass (line ∷ lines) earlier all few = (
    passed own _ (all.0.passes earlier (omega (arith, few))),
    steps_pass lines (earlier ++ (line ∷ [])) all.1 (omega (arith, few, one_more names first later is step_scope earlier line, all.0.single)),
  )

  -- ---- The unit

  last_hold : (some : List Moment) (earlier : List LineForm) → length some < 20 → AllByRecursion (IsMoment names) some
      → Hold Keep own_scope earlier (last_heads own_unit (max_of_moments some) (step_of_moments some))
  last_hold [] earlier few all = (refl, tt, tt)
  last_hold (next ∷ more) earlier few all =
      let taken = all_take (next ∷ more) all in
      let lines = flat_map line_forms (map takes (next ∷ more)) in (
        passed own _ (max_passes names first later is earlier next.time more (omega (arith, few))),
        tt,
        (
          passed own _ (step_passes names first later is (earlier ++ (form.Max (to_next next.time more) ∷ []))),
          steps_pass lines [] taken.each (omega (arith, taken.few, few)),
          (refl, tt, (refl, tt, tt)),
        ),
      )

  outputs_hold : (place : ℕ) (ahead : List (List ℕ)) (earlier : List LineForm) → place + length ahead ≤ count → AllDiffer ahead → AreNew earlier ahead
      → size own_scope earlier ≤ 16 + place
      → Hold Keep own_scope earlier (map output_head (outputs_from place ahead) ++ last_heads own_unit (max_of_moments later) (step_of_moments later))
  outputs_hold place [] earlier few differ new sized = last_hold later earlier is.few is.are_moments.1
  outputs_hold place (name ∷ ahead) earlier few differ new sized =
      let line = form.Output (output_with name place) in
      let apart =
      each_so (λ (other : List ℕ). name ≢ other) (λ other. bytes_eq other name ≡ false)
      (λ other differs. never_true (bytes_eq other name) (λ told. differs (sym (same_bytes other name told)))) ahead differ.0 in (
        passed own _ (output_passes names first later is earlier name place (omega (arith, few)) new.0 (omega (arith, sized, few, few_words))),
        tt,
        outputs_hold (place + 1) ahead (earlier ++ (line ∷ [])) (omega (arith, few)) differ.1 (all_still_new earlier line name ahead refl new.1 apart)
            (omega (arith, sized, one_more names first later is own_scope earlier line)),
      )

  -- The states before a place come before the state of the place.
  record BeforeState (place : ℕ) (earlier : List LineForm) : Type 0 where
    states : (at : ℕ) → place ≤ at → at < 64 → is_among (filter_map name_declared earlier) (state_name at) ≡ false
    columns : AreNew earlier names
    sized : size own_scope earlier ≤ place

  behind_state : (place : ℕ) (word : ℤ) (earlier : List LineForm) → place < 16 → BeforeState place earlier
      → BeforeState (place + 1) (earlier ++ (form.State (state_with place word) ∷ []))
  behind_state place word earlier few before =
      let line = form.State (state_with place word) in
      record {
        states = λ at from below.
            still_new earlier line (state_name place) (state_name at) refl (before.states at (omega (arith, from)) below)
            (other_state at place below (omega (arith, few)) (λ same. absurd (omega (arith, same, from))));
        columns = all_still_new earlier line (state_name place) names refl before.columns (column_free names place few is.are_names.not_taken);
        sized = omega (arith, before.sized, one_more names first later is own_scope earlier line);
      }

  states_hold : (place : ℕ) (words : List ℤ) (earlier : List LineForm) → place + length words ≤ count
      → AllByRecursion (λ (word : ℤ). unsigned_abs word ≤ 10 ^ 15) words → BeforeState place earlier
      → Hold Keep own_scope earlier
      (map state_head (states_from place words)
      ++ (map output_head (outputs_from 0 names) ++ last_heads own_unit (max_of_moments later) (step_of_moments later)))
  states_hold place [] earlier few small before =
      outputs_hold 0 names earlier (omega (arith, is.are_moments.0.one_each)) is.are_names.differ before.columns (omega (arith, before.sized, few, few_words))
  states_hold place (word ∷ words) earlier few small before = (
    passed own _
        (state_passes names first later is earlier place word small.0 (before.states place (omega arith) (omega (arith, few, few_words)))
        (omega (arith, before.sized, few, few_words))),
    tt,
    states_hold (place + 1) words (earlier ++ (form.State (state_with place word) ∷ [])) (omega (arith, few)) small.1
        (behind_state place word earlier (omega (arith, few, few_words)) before),
  )

  no_names_yet : (some : List (List ℕ)) → AreNew [] some
  no_names_yet [] = tt
  no_names_yet (name ∷ some) = (refl, no_names_yet some)

  abbrev unit_heads : Unit → List Headed
  unit_heads said = flat_map (headed_unit_part said) (unit_parts own_unit) ++ (alone form.End ∷ [])

  unit_keeps : AllByRecursion Keep (sites own_scope [] (unit_heads own_unit))
  unit_keeps =
      all_hold Keep own_scope [] (unit_heads own_unit)
      (subst (Hold Keep own_scope [])
      (sym (heads_are own_unit (states_from 0 first.words) (outputs_from 0 names) (max_of_moments later) (step_of_moments later)))
      (states_hold 0 first.words [] (omega arith) is.are_moments.0.writable.words
      (record { states = λ at from below. refl; columns = no_names_yet names; sized = omega arith })))

  said_keep : AllByRecursion Keep (sites (UnitScope (parts.unit_of own_unit.name (unit_parts own_unit))) [] (unit_heads (parts.unit_of own_unit.name (unit_parts own_unit))))
  said_keep = subst (λ (said : Unit). AllByRecursion Keep (sites (UnitScope said) [] (unit_heads said))) (sym (unit_is own_unit)) unit_keeps

  -- ---- The system

  abbrev end : ℕ
  end = last_time first later

  end_is : is_length 0 (seconds_of 0 (literal.Number (pos end) 0)) ≡ true
  end_is =
      let written = each_so (IsMoment names) IsWritable (λ moment one. one.writable) (first ∷ later) is.are_moments in
      ap (is_length 0) (ticks_are end (last_small first later written.0 written.1)) ∙ le_asked 0 end (omega arith)

  stop_keeps : (earlier : List LineForm) → Keep (record { scope = TopScope; earlier = earlier; line = form.Stop (literal.Number (pos end) 0) })
  stop_keeps earlier = rw end_is refl

  all_keep : AllByRecursion Keep (sites_of own)
  all_keep =
      let before : List LineForm = form.Header 1 ∷ form.Unit (codes "Table") ∷ form.Instance (codes "table") (codes "Table") ∷ [] in
      all_hold Keep TopScope [] (alone (form.Header 1) ∷ flat_map headed_part (canonical_parts own))
      (refl, tt, (refl, said_keep, (refl, (refl, tt), (stop_keeps before, tt, tt))))

  pub is_well_formed : IsWellFormed own
  is_well_formed = well_formed own all_keep
