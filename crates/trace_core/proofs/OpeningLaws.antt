-- Seats and states that are made one by one when a run is opened.
use Rattle.std.proofs.Common.{◌≡◌, ◌≢◌, ◌∙◌, ℕ, ◌+◌, ◌<◌, ◌≤◌, Bool, true, false, ℤ, List, [], ◌∷◌, ◌++◌, map, length, take, get_or, Some, None, refl, sym, ap}
use Rattle.std.proofs.Common.{subst, arith, length-append}
use Rattle.std.proofs.Math.ListN.{get_or-append}
use Rattle.std.proofs.Math.Seq.{get_or-append_seam}
use Rattle.std.proofs.lemmas.List.{take_all, map-append}
use Rattle.std.proofs.lemmas.Slice.Zip.{AllZip-long}
use Rattle.std.proofs.lemmas.Bool.Decides.{nat_tests}
use Rattle.std.specs.Prelude.{slice_get, nat_lt}
use Rattle.port_solve.specs.Solved.{HaveStates, HaveInputs}
use Rattle.snap_store.specs.Store.{Store, words_of, KeepsOthers}
use Rattle.trace_core.specs.Keeping.{inputs_before}
use Rattle.trace_core.specs.Opening.{AreSeated}
use Rattle.trace_core.specs.Seats.{AreSaved, AreAsLong, HaveOwnIds}
use Rattle.trace_core.specs.declared.seat.Seat.{Seat}
use Rattle.trace_units.specs.Fleets.{Fleet}
use Rattle.unit_tree.specs.Compositions.{Composition}
use Rattle.list_laws.proofs.Members.{take_next}

pub states_long : (run : Composition) (states : List (List ℤ)) → HaveStates run states → length states ≡ length run.members
states_long run states have = AllZip-long (λ member state. length state ≡ length member.component.unit.states) run.members states have

pub inputs_long : (run : Composition) (inputs : List (List ℤ)) → HaveInputs run inputs → length inputs ≡ length run.members
inputs_long run inputs have = AllZip-long (λ member words. length words ≡ length member.component.unit.inputs) run.members inputs have

-- The seats of the units before a place.
pub record SeatedSoFar (store : Store) (seats : List Seat) (units : Fleet) (place : ℕ) : Type 0 where
  pub as_many : length seats ≡ place
  pub own_ids : HaveOwnIds seats
  pub saved : AreSaved store seats (take place units.states)
  pub before : AreAsLong (inputs_before seats) (take place units.inputs)

pub none_seated : (store : Store) (seats : List Seat) (units : Fleet) → seats ≡ [] → SeatedSoFar store seats units 0
none_seated store seats units none =
    subst (λ some. SeatedSoFar store some units 0) (sym none)
    (record { as_many = refl; own_ids = λ default one other before within. absurd (omega (arith, within)); saved = tt; before = refl })

saved_on : (old new : Store) (id : ℕ) (seats : List Seat) (states : List (List ℤ)) → words_of old id ≡ None → KeepsOthers old new id
    → AreSaved old seats states → AreSaved new seats states
saved_on old new id [] [] free kept are = tt
saved_on old new id [] (state ∷ states) free kept are = absurd are
saved_on old new id (seat ∷ seats) [] free kept are = absurd are
saved_on old new id (seat ∷ seats) (state ∷ states) free kept are =
    let differs : seat.id ≢ id = λ same. apart (ap (words_of old) (sym same) ∙ are.0) in
    (kept seat.id differs ∙ are.0, saved_on old new id seats states free kept are.1)
  where
    apart : words_of old id ≡ Some state → ⊥
    apart is = cc

saved_behind : (store : Store) (seats : List Seat) (states : List (List ℤ)) (seat : Seat) (state : List ℤ) → AreSaved store seats states
    → words_of store seat.id ≡ Some state → AreSaved store (seats ++ seat ∷ []) (states ++ state ∷ [])
saved_behind store [] [] seat state are is = (is, tt)
saved_behind store [] (other ∷ states) seat state are is = absurd are
saved_behind store (other ∷ seats) [] seat state are is = absurd are
saved_behind store (other ∷ seats) (had ∷ states) seat state are is = (are.0, saved_behind store seats states seat state are.1 is)

new_id : (store : Store) (seats : List Seat) (states : List (List ℤ)) (default : Seat) (k id : ℕ) → AreSaved store seats states → words_of store id ≡ None
    → k < length seats → (get_or seats k default).id ≢ id
new_id store [] states default k id are free within = absurd (omega (arith, within))
new_id store (seat ∷ seats) [] default k id are free within = absurd are
new_id store (seat ∷ seats) (state ∷ states) default ℕ.zero id are free within = λ same. apart (ap (words_of store) (sym same) ∙ are.0)
  where
    apart : words_of store id ≡ Some state → ⊥
    apart is = cc
new_id store (seat ∷ seats) (state ∷ states) default (ℕ.suc k) id are free within = new_id store seats states default k id are.1 free (omega (arith, within))

own_behind : (seats : List Seat) (seat : Seat) → HaveOwnIds seats → ((default : Seat) (k : ℕ) → k < length seats → (get_or seats k default).id ≢ seat.id)
    → HaveOwnIds (seats ++ seat ∷ [])
own_behind seats seat own new default one other before within =
    let long : length (seats ++ seat ∷ []) ≡ length seats + 1 = length-append seats (seat ∷ []) in
    either_place (nat_lt other (length seats)) refl long
  where
    at_end : (k : ℕ) → k ≡ length seats → get_or (seats ++ seat ∷ []) k default ≡ seat
    at_end k is = ap (λ place. get_or (seats ++ seat ∷ []) place default) is ∙ get_or-append_seam seats seat [] default

    either_place : (earlier : Bool) → nat_lt other (length seats) ≡ earlier → length (seats ++ seat ∷ []) ≡ length seats + 1
        → (get_or (seats ++ seat ∷ []) one default).id ≢ (get_or (seats ++ seat ∷ []) other default).id
    either_place true earlier long =
        let other_in : other < length seats = grind (arith, nat_tests) in
        let one_in : one < length seats = omega (arith, before, other_in) in
        λ same. own default one other before other_in
        (sym (ap (λ (s : Seat). s.id) (get_or-append seats (seat ∷ []) default one one_in)) ∙ same
        ∙ ap (λ (s : Seat). s.id) (get_or-append seats (seat ∷ []) default other other_in))
    either_place false later long =
        let last : other ≡ length seats = grind (arith, nat_tests) in
        let one_in : one < length seats = omega (arith, before, last) in
        λ same. new default one one_in
        (sym (ap (λ (s : Seat). s.id) (get_or-append seats (seat ∷ []) default one one_in)) ∙ same ∙ ap (λ (s : Seat). s.id) (at_end other last))

pub one_seated : (old new : Store) (seats : List Seat) (seat : Seat) (units : Fleet) (place : ℕ) (state words : List ℤ)
    → slice_get units.states place ≡ Some state → slice_get units.inputs place ≡ Some words → words_of old seat.id ≡ None → words_of new seat.id ≡ Some state
    → KeepsOthers old new seat.id → seat.before.items ≡ words → SeatedSoFar old seats units place → SeatedSoFar new (seats ++ seat ∷ []) units (place + 1)
one_seated old new seats seat units place state words state_is words_are free held kept before so_far = record {
  as_many = length-append seats (seat ∷ []) ∙ ap (λ count. count + 1) so_far.as_many;
  own_ids = own_behind seats seat so_far.own_ids (λ default k within. new_id old seats (take place units.states) default k seat.id so_far.saved free within);
  saved =
      subst (AreSaved new (seats ++ seat ∷ [])) (sym (take_next units.states place state state_is))
      (saved_behind new seats (take place units.states) seat state (saved_on old new seat.id seats (take place units.states) free kept so_far.saved) held);
  before =
      ap (map length) (map-append (λ (one : Seat). one.before.items) seats (seat ∷ []))
      ∙ map-append length (inputs_before seats) (seat.before.items ∷ [])
      ∙ ap (λ front. front ++ (length seat.before.items ∷ [])) so_far.before
      ∙ ap (λ had. map length (take place units.inputs) ++ (length had ∷ [])) before
      ∙ sym (map-append length (take place units.inputs) (words ∷ []))
      ∙ ap (map length) (sym (take_next units.inputs place words words_are));
}

pub all_seated : (store : Store) (seats : List Seat) (units : Fleet) (place : ℕ) → place ≡ length units.plan.run.members
    → HaveStates units.plan.run units.states → HaveInputs units.plan.run units.inputs → SeatedSoFar store seats units place → AreSeated store seats units
all_seated store seats units place is states inputs so_far =
    let states_end : length units.states ≤ place = omega (arith, is, states_long units.plan.run units.states states) in
    let inputs_end : length units.inputs ≤ place = omega (arith, is, inputs_long units.plan.run units.inputs inputs) in
    record {
      as_many = so_far.as_many ∙ is;
      own_ids = so_far.own_ids;
      saved = subst (AreSaved store seats) (take_all place units.states states_end) so_far.saved;
      before = so_far.before ∙ ap (map length) (take_all place units.inputs inputs_end);
    }
