-- An answer to the required step of an instance has the result of this step.
use Rattle.std.proofs.Common.{◌≡◌, ◌∙◌, ℕ, true, ℤ, List, [], length, Some, Result, Ok, Err, refl, sym, ap, subst}
use Rattle.std.proofs.lemmas.List.{get_or-set_same}
use Rattle.std.proofs.lemmas.Option.{slice_get_within, get_or_from_slice_get, same_Some}
use Rattle.std.specs.Prelude.{slice_get, slice_index_or, IfOk}
use Rattle.code_units.specs.Calls.{Computes}
use Rattle.fixed_words.specs.declared.types.Fault.{Fault}
use Rattle.super_time.specs.LocalTime.{local_time, local_step}
use Rattle.trace_core.specs.Accepting.{accepted_of, with_step, IsAnswerTo}
use Rattle.trace_core.specs.Keeping.{stand_of, run_state, IsRun}
use Rattle.trace_core.specs.Runs.{RunState, IsWanted, IsWantOf, step_length}
use Rattle.trace_core.specs.declared.run.Run.TheInside.{Inside}
use Rattle.trace_core.specs.declared.seat.Seat.{Seat}
use Rattle.trace_core.proofs.FillLaws.{SeatAt, step_made, the_seat, holds_state}
use Rattle.trace_core.proofs.SlotLaws.{AreOfOneLength}
use Rattle.trace_plan.specs.Plans.{Planned}
use Rattle.trace_units.specs.Fleets.{Fleet, ForUnit, Steps, with_state}
use Rattle.unit_answers.specs.Answers.{Answered, IsProven}
use Rattle.unit_answers.specs.Keys.{key_of}
use Rattle.unit_exec.specs.declared.want.Want.{Want}
use Rattle.unit_tree.specs.Components.{Moved, step_of}
use Rattle.unit_tree.specs.Compositions.{Member}
use Rattle.unit_vm.proofs.ValidCodeReadBack.{reads_back}
use Rattle.unit_vm.specs.Valid.{HasFacts}
use Rattle.unit_vm.specs.declared.program.CodeFacts.{CodeFacts}

-- ---- A unit with the state of its step's result has made its step

moved_held : (fleet : Fleet) (instance : ℕ) (state unit : List ℤ) → slice_get fleet.states instance ≡ Some unit
    → slice_index_or (with_state fleet instance state).states instance [] ≡ state
moved_held fleet instance state unit there = get_or-set_same fleet.states instance state [] (slice_get_within fleet.states instance unit there)

pub steps_so : (fleet : Fleet) (instance time step : ℕ) (given : Result Moved Fault) (unit : List ℤ) → slice_get fleet.states instance ≡ Some unit
    → ForUnit fleet instance (λ member state inputs. step_of member.component state inputs time step ≡ given)
    → Steps fleet instance time step (accepted_of given) (with_step fleet instance given)
steps_so fleet instance time step (Ok moved) unit there gives =
    let held = moved_held fleet instance moved.state unit there in (
      subst
          (λ now. ForUnit fleet instance (λ member state inputs. step_of member.component state inputs time step
          ≡ Ok (record { state = now; accepted = moved.accepted })))
          (sym held) gives,
      ap (with_state fleet instance) (sym held),
    )
steps_so fleet instance time step (Err fault) unit there gives = (gives, refl)

pub made_so : (fleet : Fleet) (instance : ℕ) (given : Result Moved Fault) (unit : List ℤ) → slice_get fleet.states instance ≡ Some unit
    → step_made (accepted_of given) (slice_index_or (with_step fleet instance given).states instance []) ≡ given
made_so fleet instance (Ok moved) unit there =
    ap (λ now. Ok (record { state = now; accepted = moved.accepted })) (moved_held fleet instance moved.state unit there)
made_so fleet instance (Err fault) unit there = refl

-- ---- The contents of the answer

-- An answer with the required key is an answer to the step of the instance.
pub answer_to : (r : RunState) (instance : ℕ) (one : Answered) (want : Want) (facts : CodeFacts) → IsWantOf r instance want → one.key ≡ key_of want
    → HasFacts want.image.now.value.program facts → IsAnswerTo r instance one
answer_to r instance one want facts wanted same valid =
    subst (IsAnswerTo r instance) (sym (ap (λ key. record one { key = key }) same)) (record {
      key = wanted.key;
      computes = subst (λ program. Computes program wanted.key.member.component) (sym (reads_back want.image.now.value.program facts valid))
          wanted.image.computes;
    })

-- The result of a step by its component, from the meaning of its key.
step_by : (r : Inside) (instance : ℕ) (one : Answered) → IsProven one → (to : IsAnswerTo (run_state r) instance one)
    → step_of to.key.member.component one.key.state one.key.inputs one.key.time one.key.step ≡ one.answer
step_by r instance one proven to =
    same_Some (step_of to.key.member.component one.key.state one.key.inputs one.key.time one.key.step) one.answer
    (sym (to.computes.step one.key.state one.key.inputs proven.fits.words one.key.time one.key.step) ∙ proven.is_meaning)

module _ (r : Inside) (is : IsRun r) (seat : Seat) (instance : ℕ)
    (long : AreOfOneLength r.plan.value.run.members (stand_of r).at.states r.units.states r.seats.items)
    (seat_is : slice_get r.seats.items instance ≡ Some seat) (wanted : IsWanted (run_state r) instance) (solved : r.solved ≡ true)
    (one : Answered) (proven : IsProven one) (to : IsAnswerTo (run_state r) instance one) where
  abbrev pub found : SeatAt r.point.t (step_length r.phase) (stand_of r).ports r.plan.value.run.members (stand_of r).at.states r.units.states seat instance
  found = the_seat r is seat instance long seat_is wanted

  pub unit_there : slice_get r.units.states instance ≡ Some found.unit
  unit_there = found.unit_is

  state_is : found.unit ≡ one.key.state
  state_is = holds_state r is seat instance long seat_is wanted ∙ same_Some found.state one.key.state (sym found.state_is ∙ to.key.state)

  member_is : found.member ≡ to.key.member
  member_is = same_Some found.member to.key.member (sym found.member_is ∙ to.key.is_there)

  time_is : seat.time ≡ one.key.time
  time_is =
      found.fits.clock.time ∙ ap (λ (m : Member). local_time m.factor r.point.t) member_is ∙ sym to.key.time

  step_is : seat.step ≡ one.key.step
  step_is =
      found.fits.clock.step ∙ ap (λ (m : Member). local_step m.factor r.point.t (step_length r.phase)) member_is ∙ sym to.key.step

  -- The result of the unit's step is that of the answer.
  pub gives : ForUnit r.units instance (λ member state inputs. step_of member.component state inputs seat.time seat.step ≡ one.answer)
  gives member state inputs member_at state_at inputs_at =
      let same_member : member ≡ to.key.member =
      same_Some member to.key.member (sym member_at ∙ ap (λ (plan : Planned). slice_get plan.run.members instance) is.tied ∙ to.key.is_there) in
      let same_state : state ≡ one.key.state = same_Some state found.unit (sym state_at ∙ found.unit_is) ∙ state_is in
      let same_inputs : inputs ≡ one.key.inputs =
      same_Some inputs one.key.inputs (sym inputs_at ∙ ap (λ all. slice_get all instance) (is.inputs solved) ∙ to.key.inputs) in
      ap (λ (m : Member). step_of m.component state inputs seat.time seat.step) same_member
      ∙ ap (λ had. step_of to.key.member.component had inputs seat.time seat.step) same_state
      ∙ ap (λ fed. step_of to.key.member.component one.key.state fed seat.time seat.step) same_inputs
      ∙ ap (λ time. step_of to.key.member.component one.key.state one.key.inputs time seat.step) time_is
      ∙ ap (λ step. step_of to.key.member.component one.key.state one.key.inputs one.key.time step) step_is
      ∙ step_by r instance one proven to

  -- The state after the step has as many words as the state of the unit.
  as_long_by : (answer : Result Moved Fault) → IfOk answer (λ moved. length moved.state ≡ length one.key.state)
      → IfOk answer (λ moved. length moved.state ≡ length (slice_index_or r.units.states instance []))
  as_long_by (Ok moved) long_as =
      long_as ∙ ap length (sym state_is ∙ sym (get_or_from_slice_get r.units.states instance found.unit [] found.unit_is))
  as_long_by (Err fault) long_as = long_as

  pub as_long : IfOk one.answer (λ moved. length moved.state ≡ length (slice_index_or r.units.states instance []))
  as_long = as_long_by one.answer proven.each_state

  -- With the state of an answer, the unit has made its step, and its result is that of the answer.
  module _ (told : Result Moved Fault) (same : told ≡ one.answer) (units : Fleet) (units_are : units ≡ with_step r.units instance told) where
    now_units : units ≡ with_step r.units instance one.answer
    now_units = units_are ∙ ap (with_step r.units instance) same

    pub answer_steps : Steps r.units instance seat.time seat.step (accepted_of told) units
    answer_steps =
        subst (λ answer. Steps r.units instance seat.time seat.step (accepted_of answer) units) (sym same)
        (subst (Steps r.units instance seat.time seat.step (accepted_of one.answer)) (sym now_units)
        (steps_so r.units instance seat.time seat.step one.answer found.unit unit_there gives))

    pub answer_made : step_made (accepted_of told) (slice_index_or units.states instance []) ≡ one.answer
    answer_made =
        ap (λ answer. step_made (accepted_of answer) (slice_index_or units.states instance [])) same
        ∙ ap (λ (fleet : Fleet). step_made (accepted_of one.answer) (slice_index_or fleet.states instance [])) now_units
        ∙ made_so r.units instance one.answer found.unit unit_there
