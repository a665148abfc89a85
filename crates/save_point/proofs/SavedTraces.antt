-- A position of the trace of a judged system is the one that its saved text saves.
use Rattle.std.proofs.Common.{◌≡◌, ℕ, true, ℤ, List, [], ◌∷◌, ◌++◌, map, length, refl, sym, ap, subst, ◌∙◌, arith}
use Rattle.std.specs.List.{AllByRecursion, AllZip, flat_map}
use Rattle.std.proofs.lemmas.Bool.Decides.{nat_tests}
use Rattle.std.proofs.lemmas.Slice.Zip.{AllZip-long}
use Rattle.fixed_words.specs.Types.{is_word_of}
use Rattle.fixed_words.specs.declared.types.Ty.{Ty}
use Rattle.fixed_words.specs.declared.types.Ty.TheVariants.{Int8, UInt8, Int16, UInt16, Int32, UInt32, Int64, Fixed}
use Rattle.fixed_words.specs.declared.types.Ty.TheVariants as types
use Rattle.list_laws.proofs.Lists.{back_of, front_of, of_flat, of_mapped}
use Rattle.run_laws.proofs.PositionLaws.{system_has_members}
use Rattle.run_laws.specs.RunLaws.{HasRightStands}
use Rattle.run_laws.proofs.RunSteps.{stands_are_right}
use Rattle.save_point.specs.Laws.{CanBeResumed}
use Rattle.save_point.specs.SavedTexts.{AreNumbers, IsState, states_of}
use Rattle.save_point.proofs.PositionTexts.{position_is_saved}
use Rattle.save_point.proofs.SavedLengths.{members_few, position_short, states_few}
use Rattle.trace_plan.proofs.PlainRuns.{bounded, member_count}
use Rattle.trace_plan.proofs.SystemLines.{few_instances}
use Rattle.unit_tree.specs.Canonical.{canonical_parts, optional, unit_parts}
use Rattle.unit_tree.specs.Compositions.{Member, run_of}
use Rattle.unit_tree.specs.Parts as parts
use Rattle.unit_tree.specs.Parts.{Part, joined, part_forms}
use Rattle.unit_tree.specs.Plain.{plain_form}
use Rattle.unit_tree.specs.Printable.{IsRanged, names_on}
use Rattle.unit_tree.specs.Successor.{Position}
use Rattle.unit_tree.specs.Tokens.{IsWord}
use Rattle.unit_tree.specs.Trace.{AreWordsOf, HasWords, IsInBounds, IsInRows, IsPositionOf, Stand}
use Rattle.unit_tree.specs.WellFormed.{IsWellFormed}
use Rattle.unit_tree.specs.declared.line_form.LineForm.{LineForm}
use Rattle.unit_tree.specs.declared.system.Instance.{Instance}
use Rattle.unit_tree.specs.declared.system.System.{System}
use Rattle.unit_tree.specs.declared.unit.State.{State}

-- ---- Names

abbrev HasWordsOn : LineForm → Type 0
HasWordsOn line = AllByRecursion IsWord (names_on line)

module _ (system : System) (ranged : IsRanged system) where
  abbrev units : List Part
  units = map (λ unit. parts.HasUnit unit.name (unit_parts unit)) system.units

  abbrev instances : List Part
  instances = map parts.HasInstance system.instances

  abbrev wires : List Part
  wires = map parts.Connects system.wires

  abbrev stop : List Part
  stop = optional parts.Stop system.stop

  abbrev longest : List Part
  longest = optional parts.Longest system.longest

  abbrev zero_steps : List Part
  zero_steps = optional parts.Zero system.zero

  abbrev rows : List Part
  rows = optional parts.Rows system.rows

  abbrev OnPart : Part → Type 0
  OnPart part = AllByRecursion HasWordsOn (part_forms part)

  parts_have : AllByRecursion OnPart (canonical_parts system)
  parts_have = of_flat HasWordsOn part_forms (canonical_parts system) ranged.names.1

  instances_have : AllByRecursion (λ instance. OnPart (parts.HasInstance instance)) system.instances
  instances_have =
      let a = front_of OnPart (units ++ instances ++ wires ++ stop ++ longest ++ zero_steps ++ rows) (map parts.Samples system.samples) parts_have in
      let b = front_of OnPart (units ++ instances ++ wires ++ stop ++ longest ++ zero_steps) rows a in
      let c = front_of OnPart (units ++ instances ++ wires ++ stop ++ longest) zero_steps b in
      let d = front_of OnPart (units ++ instances ++ wires ++ stop) longest c in
      let e = front_of OnPart (units ++ instances ++ wires) stop d in
      let f = front_of OnPart (units ++ instances) wires e in
      of_mapped OnPart parts.HasInstance system.instances (back_of OnPart units instances f)

  names_by : (all : List Instance) → AllByRecursion (λ instance. OnPart (parts.HasInstance instance)) all → AllByRecursion (λ instance. IsWord instance.name) all
  names_by [] have = tt
  names_by (instance ∷ all) have = (have.0.0.0, names_by all have.1)

  pub names_are_words : AllByRecursion (λ instance. IsWord instance.name) system.instances
  names_are_words = names_by system.instances instances_have

-- ---- Words

-- Words of every type have 64 bits.
fits_word : (ty : Ty) (word : ℤ) → is_word_of ty word ≡ true → is_word_of Int64 word ≡ true
fits_word Int8 word fits = grind (arith, nat_tests)
fits_word UInt8 word fits = grind (arith, nat_tests)
fits_word Int16 word fits = grind (arith, nat_tests)
fits_word UInt16 word fits = grind (arith, nat_tests)
fits_word Int32 word fits = grind (arith, nat_tests)
fits_word UInt32 word fits = grind (arith, nat_tests)
fits_word Int64 word fits = fits
fits_word types.Bool word fits = grind (arith, nat_tests)
fits_word (Fixed decimals) word fits = fits

abbrev Fit : List ℤ → Type 0
Fit words = AllByRecursion (λ word. is_word_of Int64 word ≡ true) words

words_fit : (states : List State) (words : List ℤ) → AreWordsOf states words → Fit words
words_fit [] [] each = tt
words_fit [] (word ∷ words) each = absurd each
words_fit (state ∷ states) [] each = absurd each
words_fit (state ∷ states) (word ∷ words) each = (fits_word state.ty word each.0, words_fit states words each.1)

all_fit : (members : List Member) (states : List (List ℤ)) → AllZip (λ member state. AreWordsOf member.component.unit.states state) members states
    → AllByRecursion Fit states
all_fit [] [] each = tt
all_fit [] (state ∷ states) each = absurd each
all_fit (member ∷ members) [] each = absurd each
all_fit (member ∷ members) (state ∷ states) each = (words_fit member.component.unit.states state each.0, all_fit members states each.1)

-- ---- Named states

states_are : (instances : List Instance) (states : List (List ℤ)) → AllByRecursion (λ instance. IsWord instance.name) instances → AllByRecursion Fit states
    → AllByRecursion IsState (states_of instances states)
states_are [] states words fit = tt
states_are (instance ∷ instances) [] words fit = tt
states_are (instance ∷ instances) (state ∷ states) words fit =
    (record { name_is = words.0; words_fit = fit.0 }, states_are instances states words.1 fit.1)

names_of : (instances : List Instance) (states : List (List ℤ)) → length states ≡ length instances
    → map (λ state. state.name) (states_of instances states) ≡ map (λ instance. instance.name) instances
names_of [] states long = refl
names_of (instance ∷ instances) [] long = absurd (omega (arith, long))
names_of (instance ∷ instances) (state ∷ states) long = ap (λ names. instance.name ∷ names) (names_of instances states (omega (arith, long)))

counts_of : (instances : List Instance) (states : List (List ℤ)) → length states ≡ length instances
    → map (λ state. length state.words) (states_of instances states) ≡ map length states
counts_of [] [] long = refl
counts_of [] (state ∷ states) long = absurd (omega (arith, long))
counts_of (instance ∷ instances) [] long = absurd (omega (arith, long))
counts_of (instance ∷ instances) (state ∷ states) long = ap (λ counts. length state ∷ counts) (counts_of instances states (omega (arith, long)))

words_of : (instances : List Instance) (states : List (List ℤ)) → length states ≡ length instances
    → joined states ≡ flat_map (λ state. state.words) (states_of instances states)
words_of [] [] long = refl
words_of [] (state ∷ states) long = absurd (omega (arith, long))
words_of (instance ∷ instances) [] long = absurd (omega (arith, long))
words_of (instance ∷ instances) (state ∷ states) long = ap (λ words. state ++ words) (words_of instances states (omega (arith, long)))

-- ---- Positions of a trace

stand_at : (P : Stand → Type 0) (before : List Stand) (here : Stand) (later : List Stand) → AllByRecursion P (before ++ (here ∷ later)) → P here
stand_at P before here later all = (back_of P before (here ∷ later) all).0

module _ (system : System) (number : ℕ) (at : Position) (ranged : IsRanged system) (kept : IsWellFormed system) (of : IsPositionOf (run_of system) number at) where
  right : HasRightStands (run_of system) (of.before ++ (of.here ∷ of.later))
  right = stands_are_right (run_of system) (of.before ++ (of.here ∷ of.later)) of.ending (system_has_members (plain_form system)) of.trace

  words_at : HasWords (run_of system) at
  words_at =
      subst (HasWords (run_of system)) (sym of.is) (stand_at (λ stand. HasWords (run_of system) stand.at) of.before of.here of.later right.words)

  bounds_at : IsInBounds (run_of system) at
  bounds_at =
      subst (IsInBounds (run_of system)) (sym of.is) (stand_at (λ stand. IsInBounds (run_of system) stand.at) of.before of.here of.later right.bounds)

  rows_at : IsInRows (run_of system) at
  rows_at =
      subst (IsInRows (run_of system)) (sym of.is)
      (stand_at (λ stand. IsInRows (run_of system) stand.at) of.before of.here of.later (right.rows (bounded system ranged kept).some_row))

  long : length at.states ≡ length system.instances
  long =
      AllZip-long (λ (member : Member) state. AreWordsOf member.component.unit.states state) (run_of system).members at.states words_at
      ∙ member_count system ranged kept

  numbers : AreNumbers at.number at.point
  numbers =
      let limits = bounded system ranged kept in
      let bounds = bounds_at in
      let within = rows_at in
      record {
        row_within = omega (arith, within, limits.rows);
        point_within = record { ticks = omega (arith, bounds.stop, limits.stop); steps = omega (arith, bounds.zeros, limits.zeros) };
      }

  pub can_be_resumed : CanBeResumed system at
  can_be_resumed = record {
    saved =
        position_is_saved system at numbers
        (states_are system.instances at.states (names_are_words system ranged) (all_fit (run_of system).members at.states words_at));
    fits = record {
      position = record {
        number = refl;
        there = refl;
        states = words_of system.instances at.states long;
        has_words = words_at;
        in_bounds = bounds_at;
        in_rows = rows_at;
      };
      names_are = names_of system.instances at.states long;
      counts_are = counts_of system.instances at.states long;
    };
    short =
        let row = numbers.row_within in
        let ticks = numbers.point_within.ticks in
        let steps = numbers.point_within.steps in
        position_short system.instances at.states at.number at.point (omega (arith, row)) (omega (arith, ticks)) (omega (arith, steps))
        (few_instances system kept)
        (states_are system.instances at.states (names_are_words system ranged) (all_fit (run_of system).members at.states words_at))
        (states_few (run_of system).members at.states (members_few system ranged kept (plain_form system).instances) words_at);
  }
