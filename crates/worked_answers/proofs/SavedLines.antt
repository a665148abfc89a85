-- Which position lines before the text of the latched system save, and the shape of the states that fit that system.
use Rattle.std.proofs.Common.{◌≡◌, ℕ, true, ℤ, List, [], ◌∷◌, ◌++◌, map, length, get_or, refl, sym, ap, ◌∙◌, arith}
use Rattle.std.specs.Prelude.{codes}
use Rattle.std.specs.List.{AllByRecursion, AllZip, flat_map}
use Rattle.std.proofs.lemmas.List.{length-append}
use Rattle.std.proofs.lemmas.List.Concat.{flat_map-append}
use Rattle.event_runs.specs.EventRuns.{event_run_of}
use Rattle.fixed_words.specs.Types.{is_word_of}
use Rattle.fixed_words.specs.declared.types.Ty.TheVariants as types
use Rattle.save_point.specs.SavedTexts.{AreNumbers, BeginsState, IsSaved, IsState, LacksLine, NamedState, saved_lines}
use Rattle.save_point.specs.declared.reading.Saved.{Saved}
use Rattle.save_point.proofs.LineLaws.{lacks_this}
use Rattle.super_time.specs.declared.point.Point.{Point}
use Rattle.unit_tree.specs.Trace.{AreWordsOf}
use Rattle.worked_answers.specs.WorkedPositions.{latched, latched_lines}
use Rattle.worked_answers.specs.WorkedTables.{text_of}
use Rattle.worked_answers.proofs.FirstLines.{IsWholeLine, begins_with, first_line}

-- ---- What lines save

abbrev pub saved_from : ℕ → Point → List NamedState → Saved
saved_from row point states = record {
  row = row;
  point = point;
  names = map (λ state. state.name) states;
  counts = map (λ state. length state.words) states;
  states = flat_map (λ state. state.words) states;
  rest = length (text_of (saved_lines row point states));
}

-- The text of the system begins with no line of a state.
no_state : BeginsState (codes "cosim 2") → ⊥
no_state begins =
    let same : 99 ≡ 115 = ap (λ bytes. get_or bytes 0 0) begins.1 in
    omega (arith, same)

no_more : LacksLine BeginsState (text_of latched_lines)
no_more = lacks_this BeginsState (text_of latched_lines) (codes "cosim 2") _ (first_line (codes "cosim 2") _ refl refl) no_state

pub lines_save : (row : ℕ) (point : Point) (states : List NamedState) → AreNumbers row point → AllByRecursion IsState states
    → AllByRecursion IsWholeLine (saved_lines row point states) → IsSaved (text_of (saved_lines row point states ++ latched_lines)) (saved_from row point states)
lines_save row point states numbers are_states whole = record {
  states = states;
  behind = text_of latched_lines;
  begins = begins_with (saved_lines row point states) latched_lines whole;
  numbers = numbers;
  are_states = are_states;
  no_more = no_more;
  names_are = refl;
  counts_are = refl;
  words_are = refl;
  rest_is =
      sym (ap length (flat_map-append (λ line. line ++ 10 ∷ []) (saved_lines row point states) latched_lines)
      ∙ length-append (text_of (saved_lines row point states)) (text_of latched_lines));
}

-- ---- States that fit

-- The pulse has one word and the latch two, each of its type.
pub record IsShaped (states : List (List ℤ)) : Type 0 where
  pub count : ℤ
  pub last : ℤ
  pub on : ℤ
  pub is : states ≡ (count ∷ []) ∷ (last ∷ on ∷ []) ∷ []
  pub small : is_word_of types.Int8 last ≡ true
  pub truth : is_word_of types.Bool on ≡ true

pub shaped : (states : List (List ℤ)) → AllZip (λ one state. AreWordsOf one.member.component.unit.states state) (event_run_of latched).members states → IsShaped states
shaped [] has = absurd has
shaped ([] ∷ others) has = absurd has.0
shaped ((a ∷ b ∷ more) ∷ others) has = absurd has.0.1
shaped ((a ∷ []) ∷ []) has = absurd has.1
shaped ((a ∷ []) ∷ [] ∷ others) has = absurd has.1.0
shaped ((a ∷ []) ∷ (b ∷ []) ∷ others) has = absurd has.1.0.1
shaped ((a ∷ []) ∷ (b ∷ c ∷ d ∷ more) ∷ others) has = absurd has.1.0.1.1
shaped ((a ∷ []) ∷ (b ∷ c ∷ []) ∷ state ∷ others) has = absurd has.1.1
shaped ((a ∷ []) ∷ (b ∷ c ∷ []) ∷ []) has = record { count = a; last = b; on = c; is = refl; small = has.1.0.0; truth = has.1.0.1.0 }
