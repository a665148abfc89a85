-- Words that become the states of units, in turn.
use Rattle.std.proofs.Common.{◌≡◌, ◌∙◌, ℕ, ◌+◌, ◌<◌, ◌≤◌, ℤ, List, [], ◌∷◌, ◌++◌, length, take, drop, Some, refl, ap, sym, arith}
use Rattle.std.proofs.Common.{append_assoc, length-append, length-drop}
use Rattle.std.proofs.lemmas.List.{get_or_at, set_at}
use Rattle.std.proofs.lemmas.Option.{same_Some}
use Rattle.std.specs.Prelude.{slice_get, slice_index_or}
use Rattle.std.specs.List.{AllZip}
use Rattle.port_solve.specs.Solved.{HaveStates}
use Rattle.trace_core.specs.StateWords.{parted, states_in, with_words}
use Rattle.trace_core.proofs.StateWordLaws.{length_parted, others_long}
use Rattle.trace_units.specs.Fleets.{Fleet, with_state}
use Rattle.unit_tree.specs.Compositions.{Member}
use Rattle.list_laws.proofs.Members.{at_seam}

abbrev IsAsLong : Member → List ℤ → Type 0
IsAsLong member state = length state ≡ length member.component.unit.states

-- The units before a place have their words, and the others are still without them, with the rest of the words.
pub record Giving (old : Fleet) (words : List ℤ) (now : Fleet) (place : ℕ) (rest : List ℤ) : Type 0 where
  pub given : List (List ℤ)
  pub left : List (List ℤ)
  pub waiting : List Member
  pub counted : length given ≡ place
  pub is : now ≡ record old { states = given ++ left }
  pub as_long : AllZip IsAsLong waiting left
  pub whole : given ++ parted waiting rest ≡ parted old.plan.run.members words
  pub enough : length rest ≡ length (states_in waiting)

pub none_given : (old : Fleet) (words : List ℤ) → HaveStates old.plan.run old.states → length words ≡ length (states_in old.plan.run.members)
    → Giving old words old 0 words
none_given old words have enough = record {
  given = [];
  left = old.states;
  waiting = old.plan.run.members;
  counted = refl;
  is = refl;
  as_long = have;
  whole = refl;
  enough = enough;
}

-- The unit at a place takes as many words as its state has, and the others stay.
pub record Takes (old : Fleet) (words : List ℤ) (now : Fleet) (place : ℕ) (rest state : List ℤ) : Type 0 where
  pub enough : length state ≤ length rest
  pub same : length (slice_index_or now.states place []) ≡ length state
  pub next : (front behind : List ℤ) (new : Fleet) → front ≡ take (length state) rest → behind ≡ drop (length state) rest → new ≡ with_state now place front
      → Giving old words new (place + 1) behind

module _ (old : Fleet) (words : List ℤ) (now : Fleet) (place : ℕ) (rest state : List ℤ) (seen : slice_get now.states place ≡ Some state)
    (within : place < length old.plan.run.members) where
  many : (given : List (List ℤ)) (waiting : List Member) → length given ≡ place → given ++ parted waiting rest ≡ parted old.plan.run.members words
      → place + length waiting ≡ length old.plan.run.members
  many given waiting counted whole =
      let all = sym (length-append given (parted waiting rest)) ∙ ap length whole ∙ length_parted old.plan.run.members words in
      omega (arith, all, counted, length_parted waiting rest)

  takes_by : (given left : List (List ℤ)) (waiting : List Member) → length given ≡ place → now ≡ record old { states = given ++ left }
      → AllZip IsAsLong waiting left → given ++ parted waiting rest ≡ parted old.plan.run.members words → length rest ≡ length (states_in waiting)
      → Takes old words now place rest state
  takes_by given left [] counted is long whole enough = absurd (omega (arith, within, many given [] counted whole))
  takes_by given [] (member ∷ waiting) counted is long whole enough = absurd long
  takes_by given (had ∷ left) (member ∷ waiting) counted is long whole enough =
      let seen_is : had ≡ state =
      same_Some had state
      (sym (at_seam given had left) ∙ ap (slice_get (given ++ had ∷ left)) counted ∙ sym (ap (λ (units : Fleet). slice_get units.states place) is) ∙ seen) in
      let count : length state ≡ length member.component.unit.states = ap length (sym seen_is) ∙ long.0 in
      let all = others_long member waiting rest enough in
      record {
        enough = omega (arith, all, count);
        same =
            ap (λ (units : Fleet). length (slice_index_or units.states place [])) is
            ∙ ap length (get_or_at given had left [] place counted ∙ seen_is);
        next = λ front behind new front_is behind_is new_is. record {
          given = given ++ front ∷ [];
          left = left;
          waiting = waiting;
          counted = length-append given (front ∷ []) ∙ ap (λ n. n + 1) counted;
          is =
              new_is
              ∙ ap (λ (units : Fleet). with_state units place front) is
              ∙ ap (λ states. record old { states = states }) (set_at given had left front place counted ∙ sym (append_assoc given (front ∷ []) left));
          as_long = long.1;
          whole =
              append_assoc given (front ∷ []) (parted waiting behind)
              ∙ ap (λ words. given ++ words ∷ parted waiting behind) (front_is ∙ ap (λ n. take n rest) count)
              ∙ ap (λ words. given ++ take (length member.component.unit.states) rest ∷ parted waiting words) (behind_is ∙ ap (λ n. drop n rest) count)
              ∙ whole;
          enough = ap length behind_is ∙ length-drop (length state) rest ∙ omega (arith, all, count);
        };
      }

pub takes : (old : Fleet) (words : List ℤ) (now : Fleet) (place : ℕ) (rest state : List ℤ) → slice_get now.states place ≡ Some state
    → place < length old.plan.run.members → Giving old words now place rest → Takes old words now place rest state
takes old words now place rest state seen within g =
    takes_by old words now place rest state seen within g.given g.left g.waiting g.counted g.is g.as_long g.whole g.enough

-- After the last unit all have their words.
all_by : (old : Fleet) (words : List ℤ) (now : Fleet) (place : ℕ) (rest : List ℤ) (given left : List (List ℤ)) (waiting : List Member)
    → length old.plan.run.members ≤ place → length given ≡ place → now ≡ record old { states = given ++ left } → AllZip IsAsLong waiting left
    → given ++ parted waiting rest ≡ parted old.plan.run.members words → now ≡ with_words old words
all_by old words now place rest given [] [] past counted is long whole = is ∙ ap (λ states. record old { states = states }) whole
all_by old words now place rest given (state ∷ left) [] past counted is long whole = absurd long
all_by old words now place rest given left (member ∷ waiting) past counted is long whole =
    let all = sym (length-append given (parted (member ∷ waiting) rest)) ∙ ap length whole ∙ length_parted old.plan.run.members words in
    absurd (omega (arith, all, counted, past))

pub all_given : (old : Fleet) (words : List ℤ) (now : Fleet) (place : ℕ) (rest : List ℤ) → length old.plan.run.members ≤ place
    → Giving old words now place rest → now ≡ with_words old words
all_given old words now place rest past g = all_by old words now place rest g.given g.left g.waiting past g.counted g.is g.as_long g.whole
