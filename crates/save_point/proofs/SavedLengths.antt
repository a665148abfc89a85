-- The lines of a position of a judged system are short: at most 64 states, each of a name and at most 64 words.
use Rattle.std.proofs.Common.{◌≡◌, ℕ, ◌+◌, ◌*◌, ◌^◌, ◌<◌, ◌≤◌, true, ℤ, pos, List, [], ◌∷◌, ◌++◌, map, length, Option, Some, None, refl, arith}
use Rattle.std.specs.Prelude.{codes, decimal, IfSome}
use Rattle.std.specs.Fmt.{signed_decimal}
use Rattle.std.specs.List.{AllByRecursion, AllZip, cons_option, filter_map}
use Rattle.std.proofs.lemmas.Fmt.{length-decimal-le, length_signed_le}
use Rattle.std.proofs.lemmas.List.{length-append, length-map}
use Rattle.std.proofs.lemmas.Slice.Zip.{AllZip-long}
use Rattle.fixed_words.specs.Types.{is_word_of}
use Rattle.fixed_words.specs.declared.types.Ty.TheVariants.{Int64}
use Rattle.list_laws.proofs.Members.{Has, has_place}
use Rattle.run_laws.proofs.PlainOrders.{named_has}
use Rattle.save_point.specs.SavedTexts.{IsState, NamedState, ended, point_line, row_line, saved_lines, spaced_words, state_line, states_of, title_line}
use Rattle.super_time.specs.declared.point.Point.{Point}
use Rattle.text_laws.proofs.WordTexts.{word_bound}
use Rattle.unit_exec.proofs.CheckedUnits.{checked_units}
use Rattle.unit_tree.specs.Compositions.{Member, member_with}
use Rattle.unit_tree.specs.Names.{unit_of_instance}
use Rattle.unit_tree.specs.Plain.{plain_form}
use Rattle.unit_tree.specs.Printable.{IsRanged}
use Rattle.unit_tree.specs.Trace.{AreWordsOf}
use Rattle.unit_tree.specs.WellFormed.{IsWellFormed}
use Rattle.unit_tree.specs.declared.system.Instance.{Instance}
use Rattle.unit_tree.specs.declared.system.System.{System}
use Rattle.unit_tree.specs.declared.unit.Param.{Param}
use Rattle.unit_tree.specs.declared.unit.Unit.{Unit}
use Rattle.text_laws.proofs.TokenWidths.{word_short as name_short}

-- ---- How many words a state has

module _ (system : System) (ranged : IsRanged system) (kept : IsWellFormed system) where
  abbrev run : System
  run = plain_form system

  abbrev Few : Member → Type 0
  Few member = length member.component.unit.states ≤ 64

  unit_few : (unit : Unit) → Has run.units unit → length unit.states ≤ 64
  unit_few unit has =
      let at = has_place run.units unit has in
      let words : List ℤ = map (λ (param : Param). pos 0) unit.params in
      (checked_units system ranged kept at.0 unit at.1 words (length-map unit.params (λ (param : Param). pos 0))).states

  member_few : (instance : Instance) (given : Option Unit) → ((unit : Unit) → given ≡ Some unit → Has run.units unit)
      → IfSome (member_with run instance given) Few
  member_few instance None has = tt
  member_few instance (Some unit) has = unit_few unit (has unit refl)

  one_more : (told : Option Member) (members : List Member) → IfSome told Few → AllByRecursion Few members → AllByRecursion Few (cons_option told members)
  one_more None members here all = all
  one_more (Some member) members here all = (here, all)

  pub members_few : (instances : List Instance)
      → AllByRecursion Few (filter_map (λ instance. member_with run instance (unit_of_instance run instance)) instances)
  members_few [] = tt
  members_few (instance ∷ instances) =
      one_more (member_with run instance (unit_of_instance run instance))
      (filter_map (λ instance. member_with run instance (unit_of_instance run instance)) instances)
      (member_few instance (unit_of_instance run instance) (λ unit is. named_has run.units instance.unit unit is)) (members_few instances)

-- This holds of the states at a position.
pub states_few : (members : List Member) (states : List (List ℤ)) → AllByRecursion (λ (m : Member). length m.component.unit.states ≤ 64) members
    → AllZip (λ (member : Member) state. AreWordsOf member.component.unit.states state) members states
    → AllByRecursion (λ (state : List ℤ). length state ≤ 64) states
states_few [] [] few each = tt
states_few [] (state ∷ states) few each = absurd each
states_few (member ∷ members) [] few each = absurd each
states_few (member ∷ members) (state ∷ states) few each = (
  omega (arith, few.0, AllZip-long (λ declared word. is_word_of declared.ty word ≡ true) member.component.unit.states state each.0),
  states_few members states few.1 each.1,
)

-- ---- How long a line is

word_short : (word : ℤ) → is_word_of Int64 word ≡ true → length (signed_decimal word) ≤ 20
word_short word fits = let bound = (word_bound word fits).sfits in length_signed_le 19 word (omega (arith, bound)) (omega (arith, bound))

words_short : (words : List ℤ) → AllByRecursion (λ word. is_word_of Int64 word ≡ true) words → length (spaced_words words) ≤ 21 * length words
words_short [] fit = omega arith
words_short (word ∷ words) fit =
    omega (arith, length-append (32 ∷ signed_decimal word) (spaced_words words), word_short word fit.0, words_short words fit.1)

line_short : (state : NamedState) → IsState state → length state.words ≤ 64 → length (state_line state) ≤ 1382
line_short state is few =
    omega (
      arith,
      length-append (codes "state ") (state.name ++ spaced_words state.words),
      length-append state.name (spaced_words state.words),
      name_short state.name is.name_is,
      words_short state.words is.words_fit,
      few,
    )

lines_short : (states : List NamedState) → AllByRecursion IsState states → AllByRecursion (λ (state : NamedState). length state.words ≤ 64) states
    → length (ended (map state_line states)) ≤ 1383 * length states
lines_short [] are few = omega arith
lines_short (state ∷ states) are few =
    omega (
      arith,
      length-append (state_line state ++ 10 ∷ []) (ended (map state_line states)),
      length-append (state_line state) (10 ∷ []),
      line_short state are.0 few.0,
      lines_short states are.1 few.1,
    )

named_few : (instances : List Instance) (states : List (List ℤ)) → AllByRecursion (λ (state : List ℤ). length state ≤ 64) states
    → AllByRecursion (λ (state : NamedState). length state.words ≤ 64) (states_of instances states)
named_few [] states few = tt
named_few (instance ∷ instances) [] few = tt
named_few (instance ∷ instances) (state ∷ states) few = (few.0, named_few instances states few.1)

named_many : (instances : List Instance) (states : List (List ℤ)) → length (states_of instances states) ≤ length instances
named_many [] states = omega arith
named_many (instance ∷ instances) [] = omega arith
named_many (instance ∷ instances) (state ∷ states) = omega (arith, named_many instances states)

row_short : (row : ℕ) → row < 10 ^ 16 → length (row_line row) ≤ 20
row_short row small = omega (arith, length-append (codes "row ") (decimal row), length-decimal-le 16 row (omega arith) small (omega (arith, small)))

point_short : (point : Point) → point.t < 10 ^ 16 → point.n < 10 ^ 16 → length (point_line point) ≤ 36
point_short point time steps =
    omega (
      arith,
      length-append (codes "at ") (decimal point.t ++ 32 ∷ decimal point.n),
      length-append (decimal point.t) (32 ∷ decimal point.n),
      length-decimal-le 16 point.t (omega arith) time (omega (arith, time)),
      length-decimal-le 16 point.n (omega arith) steps (omega (arith, steps)),
    )

-- All lines of a position.
pub position_short : (instances : List Instance) (states : List (List ℤ)) (row : ℕ) (point : Point) → row < 10 ^ 16 → point.t < 10 ^ 16 → point.n < 10 ^ 16
    → length instances ≤ 64 → AllByRecursion IsState (states_of instances states) → AllByRecursion (λ (state : List ℤ). length state ≤ 64) states
    → length (ended (saved_lines row point (states_of instances states))) ≤ 90000
position_short instances states row point small time steps few are each =
    let lines = ended (map state_line (states_of instances states)) in
    let points = (point_line point ++ 10 ∷ []) ++ lines in
    let rows = (row_line row ++ 10 ∷ []) ++ points in
    omega (
      arith,
      length-append (title_line ++ 10 ∷ []) rows,
      length-append (row_line row ++ 10 ∷ []) points,
      length-append (row_line row) (10 ∷ []),
      length-append (point_line point ++ 10 ∷ []) lines,
      length-append (point_line point) (10 ∷ []),
      row_short row small,
      point_short point time steps,
      lines_short (states_of instances states) are (named_few instances states each),
      named_many instances states,
      few,
    )
