-- What is known of an instance at the run's stand.
use Rattle.std.proofs.Common.{◌≡◌, ◌∙◌, ℕ, ◌≤◌, ◌≤ℤ◌, false, List, [], ◌∷◌, map, length, sym, ap, subst, arith}
use Rattle.std.proofs.lemmas.List.{length-map}
use Rattle.std.specs.Prelude.{slice_get}
use Rattle.fixed_words.specs.Types.{highest, lowest}
use Rattle.fixed_words.specs.declared.types.Ty.{Ty}
use Rattle.fixed_words.specs.declared.types.Ty.TheVariants as types
use Rattle.guess_board.specs.Guesses.{IsOutlook, Seen}
use Rattle.run_laws.proofs.PositionLaws.{agreed_is_at_most}
use Rattle.run_laws.proofs.StepLaws.{proposal_is_greatest}
use Rattle.lane_outlook.specs.Outlooks.{IsSeenAt}
use Rattle.trace_core.specs.Runs.{ArePortsKnown, Cell, IsPhase, RunState, Stands, is_ended, step_length}
use Rattle.trace_core.specs.declared.phase.Phase.{Phase}
use Rattle.trace_core.specs.declared.phase.Phase.TheVariants.{Trial, Redo, Ended}
use Rattle.trace_core.proofs.MeaningLaws.{inputs_long_at}
use Rattle.trace_plan.specs.Plans.{lowest_words}
use Rattle.unit_tree.specs.Compositions.{AreMembers, Composition}
use Rattle.unit_tree.specs.Successor.{limits, proposed}
use Rattle.unit_tree.specs.Trace.{HasWords, Stand}
use Rattle.unit_tree.specs.declared.unit.Input.{Input}
use Rattle.word_lanes.specs.Guess.{EachAtMost}

-- The lowest word of a type is at most the highest one.
low_at_most : (ty : Ty) → lowest ty ≤ℤ highest ty
low_at_most types.Int8 = omega arith
low_at_most types.UInt8 = omega arith
low_at_most types.Int16 = omega arith
low_at_most types.UInt16 = omega arith
low_at_most types.Int32 = omega arith
low_at_most types.UInt32 = omega arith
low_at_most types.Int64 = omega arith
low_at_most types.Bool = omega arith
low_at_most (types.Fixed decimals) = omega arith

ends_ordered : (inputs : List Input) → EachAtMost (map (λ (input : Input). lowest input.ty) inputs) (map (λ (input : Input). highest input.ty) inputs)
ends_ordered [] = tt
ends_ordered (input ∷ inputs) = (low_at_most input.ty, ends_ordered inputs)

-- The step of a phase is at most the way to the stop.
proposed_most : (run : Composition) (stand : Stand) → proposed run stand.at stand.ports ≤ run.stop
proposed_most run stand =
    let within = (proposal_is_greatest run.stop run.longest stand.at.point.t (limits run stand.at stand.ports)).holds.within_stop in
    omega (arith, within)

step_most : (run : Composition) (stand : Stand) (phase : Phase) (cells : List Cell) → AreMembers run → HasWords run stand.at → IsPhase run stand phase cells
    → step_length phase ≤ run.stop
step_most run stand (Trial h) cells members words is = subst (λ n. n ≤ run.stop) (sym is.is) (proposed_most run stand)
step_most run stand (Redo h) cells members words is =
    let less = agreed_is_at_most run stand.at stand.ports members words in
    let most = proposed_most run stand in
    let same = is.is in
    omega (arith, less, most, same)
step_most run stand (Ended ending) cells members words is = omega arith

pub known_by : (run : Composition) (stand : Stand) (phase : Phase) (cells : List Cell) → is_ended phase ≡ false → IsPhase run stand phase cells
    → ArePortsKnown run stand
known_by run stand (Trial h) cells going is = is.going.ports_known
known_by run stand (Redo h) cells going is = is.going.ports_known
known_by run stand (Ended ending) cells going is = absurd (cc)

module _ (r : RunState) (stands : Stands r) (going : is_ended r.phase ≡ false) (instance : ℕ) (seen : Seen) (is : IsSeenAt r instance seen) where
  last_long : length seen.last ≡ length is.member.component.unit.inputs
  last_long = inputs_long_at r.plan.run r.stand.ports instance is.member seen.last stands.members is.is_there is.last

  before_long : length seen.before ≡ length is.member.component.unit.inputs
  before_long =
      inputs_long_at r.plan.run stands.last.ports instance is.member seen.before stands.members is.is_there
      (ap (λ all. slice_get all instance) (sym (stands.before (known_by r.plan.run r.stand r.phase r.cells going stands.phase_is))) ∙ is.before)

  pub is_outlook : 1 ≤ seen.factor → IsOutlook seen
  is_outlook least = record {
    rows = let row = is.row in let within = stands.in_rows in let most = stands.bounded.rows in omega (arith, row, within, most);
    start = let time = is.time in let stop = is.stop in let within = stands.in_bounds.stop in omega (arith, time, stop, within);
    step =
        let step = is.step in
        let most = step_most r.plan.run r.stand r.phase r.cells stands.members stands.words stands.phase_is in
        let stop = stands.bounded.stop in
        omega (arith, step, most, stop);
    stop = let stop = is.stop in let most = stands.bounded.stop in omega (arith, stop, most);
    factor = least;
    each_before = before_long ∙ sym last_long;
    each_low = ap length is.low ∙ length-map is.member.component.unit.inputs (λ (input : Input). lowest input.ty) ∙ sym last_long;
    each_high = ap length is.high ∙ length-map is.member.component.unit.inputs (λ (input : Input). highest input.ty) ∙ sym last_long;
    intervals = subst (λ low. EachAtMost low seen.high) (sym is.low)
        (subst (EachAtMost (lowest_words is.member)) (sym is.high) (ends_ordered is.member.component.unit.inputs));
  }

  pub inputs_long : length seen.last ≡ length is.member.component.unit.inputs
  inputs_long = last_long
