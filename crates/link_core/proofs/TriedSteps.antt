-- A step of one unit, that is tried or made.
use Rattle.std.proofs.Common.{◌≡◌, ◌∙◌, ℕ, zero, suc, ◌+◌, ◌<◌, Bool, true, false, ℤ, List, [], ◌∷◌, length, drop, get_or, Some, None, Result, Ok, Err, refl}
use Rattle.std.proofs.Common.{sym, ap, ap₂, subst, arith}
use Rattle.std.proofs.lemmas.Option.{get_or_from_slice_get, same_Some, slice_get-get_or}
use Rattle.std.specs.Prelude.{if◌then◌else◌, zip, ◌==◌, slice_get, slice_set, slice_index_or}
use Rattle.std.specs.Option.{option_map}
use Rattle.fixed_words.specs.declared.types.Fault.{Fault}
use Rattle.link_laws.specs.Boards.{said_of}
use Rattle.std.proofs.lemmas.List.{length-map}
use Rattle.link_core.specs.Noted.{said_given, stepped, stepped_if, stepped_one}
use Rattle.link_laws.specs.declared.fact.Said.{Said}
use Rattle.list_laws.proofs.Members.{at_place, set_same}
use Rattle.list_laws.proofs.Pairs.{zip_at}
use Rattle.port_solve.specs.Solved.{HaveStates}
use Rattle.super_time.specs.LocalTime.{local_step, local_time}
use Rattle.trace_units.specs.Fleets.{Fleet, ForUnit, Steps, with_state}
use Rattle.unit_tree.specs.Components.{Moved, step_of}
use Rattle.unit_tree.specs.Compositions.{Composition, Member}
use Rattle.unit_tree.specs.Negotiation.{all_inputs, inputs_at, is_held, state_after, step_at}
use Rattle.unit_tree.specs.Ports.{Ports}
use Rattle.link_core.proofs.LoopLaws.{Made, one_made}
use Rattle.link_core.proofs.StageItems.{as_many_zipped}
use Rattle.link_core.proofs.StepBodies.{at_instance, inputs_there, stepped_at}
use Rattle.std.proofs.lemmas.Grind.{drop_more_same}

-- ---- Lists

set_back : {A : Type 0} (xs : List A) (k : ℕ) (x y : A) → slice_get xs k ≡ Some y → slice_set (slice_set xs k x) k y ≡ xs
set_back [] k x y is = absurd (cc)
set_back (first ∷ xs) zero x y is = let same : first ≡ y = cc in ap (λ one. one ∷ xs) (sym same)
set_back (first ∷ xs) (suc k) x y is = ap (λ rest. first ∷ rest) (set_back xs k x y is)

nothing_left : {A : Type 0} (k : ℕ) → ◌≡◌ {A = List A} (drop k []) []
nothing_left zero = refl
nothing_left (suc k) = refl

pub get_left : {A : Type 0} (xs ys : List A) (k : ℕ) → drop k xs ≡ drop k ys → slice_get xs k ≡ slice_get ys k
get_left [] [] k same = refl
get_left [] (y ∷ ys) zero same = absurd (cc)
get_left (x ∷ xs) [] zero same = absurd (cc)
get_left (x ∷ xs) (y ∷ ys) zero same = let first : x ≡ y = cc in ap (λ one. Some one) first
get_left [] (y ∷ ys) (suc k) same = get_left [] ys k (nothing_left k ∙ same)
get_left (x ∷ xs) [] (suc k) same = get_left xs [] k (same ∙ sym (nothing_left k))
get_left (x ∷ xs) (y ∷ ys) (suc k) same = get_left xs ys k same

left_by : {A : Type 0} (x : A) (xs : List A) (k : ℕ) → drop (suc k) (slice_set xs k x) ≡ drop (suc k) xs
left_by x [] k = refl
left_by x (first ∷ xs) zero = refl
left_by x (first ∷ xs) (suc k) = left_by x xs k

one_more : (k : ℕ) → suc k ≡ k + 1
one_more k = omega arith

pub left_set : {A : Type 0} (xs : List A) (k : ℕ) (x : A) → drop (k + 1) (slice_set xs k x) ≡ drop (k + 1) xs
left_set xs k x = subst (λ count. drop count (slice_set xs k x) ≡ drop count xs) (one_more k) (left_by x xs k)

pub state_long : (run : Composition) (states : List (List ℤ)) (k : ℕ) (member : Member) → HaveStates run states → slice_get run.members k ≡ Some member
    → length (slice_index_or states k []) ≡ length member.component.unit.states
state_long run states k member have is =
    let beside = zip_at _ run.members states k member have is in
    ap length (get_or_from_slice_get states k beside.other [] beside.is) ∙ beside.related

pub shaped_same : (run : Composition) (old new : List (List ℤ)) (k : ℕ) (state : List ℤ) → k < length run.members → HaveStates run old → HaveStates run new
    → slice_get old k ≡ Some state
    → length state ≡ length (slice_index_or new k [])
shaped_same run old new k state within have had is =
    let member = at_place run.members k within in
    ap length (sym (get_or_from_slice_get old k state [] is)) ∙ state_long run old k member.0 have member.1 ∙ sym (state_long run new k member.0 had member.1)

pub fleet_is : (one other : Fleet) (states : List (List ℤ)) → one.plan ≡ other.plan → one.states ≡ states → one.inputs ≡ other.inputs
    → one ≡ record other { states = states }
fleet_is one other states plan states_are inputs =
    ap₂ (λ p q. record { plan = p; states = one.states; inputs = q }) plan inputs
    ∙ ap (λ all. record { plan = other.plan; states = all; inputs = other.inputs }) states_are

-- ---- What a step makes of the units

pub steps_plan : (old new : Fleet) (instance time step : ℕ) (result : Result ℕ Fault) → Steps old instance time step result new → new.plan ≡ old.plan
steps_plan old new instance time step (Ok accepted) made = ap (λ (f : Fleet). f.plan) made.1
steps_plan old new instance time step (Err fault) made = ap (λ (f : Fleet). f.plan) made.1

-- Units whose state is restored are as they were.
pub put_back : (old new : Fleet) (instance time step : ℕ) (result : Result ℕ Fault) (state : List ℤ) → Steps old instance time step result new
    → slice_get old.states instance ≡ Some state → with_state new instance state ≡ old
put_back old new instance time step (Ok accepted) state made is =
    ap (λ (f : Fleet). with_state f instance state) made.1
    ∙ ap (λ states. record old { states = states }) (set_back old.states instance (slice_index_or new.states instance []) state is)
put_back old new instance time step (Err fault) state made is =
    ap (λ (f : Fleet). with_state f instance state) made.1 ∙ ap (λ states. record old { states = states }) (set_same old.states instance state is)

module _ (old : Fleet) (run : Composition) (run_is : old.plan.run ≡ run) (instance t h factor time step : ℕ) (ports : Ports) (member : Member) (state : List ℤ)
    (fed : old.inputs ≡ all_inputs run ports) (member_is : slice_get run.members instance ≡ Some member) (state_is : slice_get old.states instance ≡ Some state)
    (factor_is : factor ≡ member.factor) (time_is : time ≡ local_time factor t) (step_is : step ≡ local_step factor t h) where
  abbrev outcome : Result Moved Fault
  outcome = step_of member.component state (inputs_at ports member) (local_time member.factor t) (local_step member.factor t h)

  at_clock : step_of member.component state (inputs_at ports member) time step ≡ outcome
  at_clock = ap₂ (λ one other. step_of member.component state (inputs_at ports member) one other) (time_is ∙ ap (λ f. local_time f t) factor_is)
      (step_is ∙ ap (λ f. local_step f t h) factor_is)

  for_here : (P : Member → List ℤ → List ℤ → Type 0) → ForUnit old instance P → P member state (inputs_at ports member)
  for_here P holds = holds member state (inputs_at ports member) (ap (λ (r : Composition). slice_get r.members instance) run_is ∙ member_is) state_is
      (inputs_there run ports old.inputs instance member fed member_is)

  not_held : (held : Bool) → held ≡ is_held factor t h → held ≡ false → step_at t h ports (member, state) ≡ Some outcome
  not_held held is none = ap (λ test. if test then None else Some outcome) (sym (ap (λ f. is_held f t h) factor_is) ∙ sym is ∙ none)

  pub held_none : (held : Bool) → held ≡ is_held factor t h → held ≡ true → step_at t h ports (member, state) ≡ None
  held_none held is some = ap (λ test. if test then None else Some outcome) (sym (ap (λ f. is_held f t h) factor_is) ∙ sym is ∙ some)

  said_by : (new : Fleet) (result : Result ℕ Fault) → Steps old instance time step result new → said_given result ≡ said_of outcome
  said_by new (Ok accepted) made = sym (ap said_of (sym at_clock ∙ for_here
      (λ m s i. step_of m.component s i time step ≡ Ok (record { state = slice_index_or new.states instance []; accepted = accepted })) made.0))
  said_by new (Err fault) made = sym (ap said_of (sym at_clock ∙ for_here (λ m s i. step_of m.component s i time step ≡ Err fault) made.0))

  pub tried : (new : Fleet) (result : Result ℕ Fault) (said : Said) (held : Bool) → Steps old instance time step result new → said ≡ said_given result
      → held ≡ is_held factor t h → held ≡ false
      → Some said ≡ option_map said_of (step_at t h ports (member, state))
  tried new result said held made is held_is none =
      ap (λ one. Some one) (is ∙ said_by new result made) ∙ sym (ap (option_map said_of) (not_held held held_is none))

  moved_by_step : (new : Fleet) (result : Result ℕ Fault) → Steps old instance time step result new
      → new ≡ with_state old instance (state_after (state, Some outcome))
  moved_by_step new (Ok accepted) made =
      let so = sym at_clock ∙ for_here (λ m s i. step_of m.component s i time step ≡ Ok
      (record { state = slice_index_or new.states instance []; accepted = accepted })) made.0 in
      made.1 ∙ ap (λ one. with_state old instance (state_after (state, Some one))) (sym so)
  moved_by_step new (Err fault) made =
      let so = sym at_clock ∙ for_here (λ m s i. step_of m.component s i time step ≡ Err fault) made.0 in
      made.1 ∙ ap (λ states. record old { states = states }) (sym (set_same old.states instance state state_is))
      ∙ ap (λ one. with_state old instance (state_after (state, Some one))) (sym so)

  pub stays_not_own : (own : Bool) → own ≡ false → old ≡ with_state old instance (stepped_if own t h ports (member, state))
  stays_not_own own is =
      ap (λ states. record old { states = states }) (sym (set_same old.states instance state state_is))
      ∙ ap (λ test. with_state old instance (stepped_if test t h ports (member, state))) (sym is)

  pub stays_held : (own held : Bool) → own ≡ true → held ≡ is_held factor t h → held ≡ true
      → old ≡ with_state old instance (stepped_if own t h ports (member, state))
  stays_held own held own_is held_is some =
      ap (λ states. record old { states = states }) (sym (set_same old.states instance state state_is))
      ∙ ap (λ made. with_state old instance (state_after (state, made))) (sym (held_none held held_is some))
      ∙ ap (λ test. with_state old instance (stepped_if test t h ports (member, state))) (sym own_is)

  pub is_stepped : (new : Fleet) (result : Result ℕ Fault) (own held : Bool) → Steps old instance time step result new → own ≡ true → held ≡ is_held factor t h
      → held ≡ false
      → new ≡ with_state old instance (stepped_if own t h ports (member, state))
  is_stepped new result own held made own_is held_is none =
      moved_by_step new result made
      ∙ ap (λ one. with_state old instance (state_after (state, one))) (sym (not_held held held_is none))
      ∙ ap (λ test. with_state old instance (stepped_if test t h ports (member, state))) (sym own_is)

-- ---- All instances in turn

-- The states of some instances are those after the step, and the others are unchanged.
pub record Stepping (old now : Fleet) (k : ℕ) (whole : List (List ℤ)) : Type 0 where
  pub made : Made now.states k whole
  pub left : drop k now.states ≡ drop k old.states
  pub inputs : now.inputs ≡ old.inputs

pub stepped_long : (run : Composition) (owners : List ℕ) (me t h : ℕ) (ports : Ports) (states : List (List ℤ)) → length owners ≡ length run.members
    → length states ≡ length run.members
    → length (stepped run owners me t h ports states) ≡ length run.members
stepped_long run owners me t h ports states owns long =
    length-map (zip owners (zip run.members states)) (stepped_one me t h ports)
    ∙ as_many_zipped owners (zip run.members states) (as_many_zipped run.members states long ∙ sym owns) ∙ owns

pub stepping_next : (run : Composition) (owners : List ℕ) (me t h k d : ℕ) (old now next : Fleet) (ports : Ports) → length owners ≡ length run.members
    → length old.states ≡ length run.members → k < length run.members
    → old.inputs ≡ all_inputs run ports
    → ((member : Member) (state : List ℤ) → now.inputs ≡ all_inputs run ports → slice_get run.members k ≡ Some member → slice_get now.states k ≡ Some state
    → next ≡ with_state now k (stepped_if (get_or owners k d == me) t h ports (member, state)))
    → Stepping old now k (stepped run owners me t h ports old.states) → Stepping old next (k + 1) (stepped run owners me t h ports old.states)
stepping_next run owners me t h k d old now next ports owns long within fed one so =
    let here = at_instance run owners old.states k owns long within in
    let owned : get_or owners k d ≡ here.owner = same_Some (get_or owners k d) here.owner
    (sym (slice_get-get_or owners k d (omega (arith, within, owns))) ∙ here.owned) in
    let made = one here.member here.state (so.inputs ∙ fed) here.member_is (get_left now.states old.states k so.left ∙ here.state_is) in
    let own = stepped_if (here.owner == me) t h ports (here.member, here.state) in
    let is : next ≡ with_state now k own = made ∙ ap (λ o. with_state now k (stepped_if (o == me) t h ports (here.member, here.state))) owned in
    let whole = stepped run owners me t h ports old.states in
    record {
      made = subst (λ (f : Fleet). Made f.states (k + 1) whole) (sym is)
          (one_made now.states whole k own (omega (arith, within, stepped_long run owners me t h ports old.states owns long))
          (get_or_from_slice_get whole k own own (stepped_at run owners me old.states k here t h ports)) so.made);
      left = ap (λ (f : Fleet). drop (k + 1) f.states) is ∙ left_set now.states k own ∙ drop_more_same now.states old.states k so.left;
      inputs = ap (λ (f : Fleet). f.inputs) is ∙ so.inputs;
    }
