-- The steps of a trial, one for each instance, as the slots of the run tell them.
use Rattle.std.proofs.Common.{◌≡◌, ◌∙◌, ℕ, ◌<◌, ◌≤◌, cond, Bool, true, false, ℤ, List, length, zip, Option, Some, None, Result, Ok, Err, refl, ap, sym, subst}
use Rattle.std.proofs.lemmas.Option.{same_Some, slice_get-map}
use Rattle.std.specs.Prelude.{slice_get}
use Rattle.std.specs.Option.{option_map, option_and_then}
use Rattle.event_runs.specs.Readings.{pace_of}
use Rattle.fixed_words.specs.declared.types.Fault.{Fault}
use Rattle.list_laws.proofs.Members.{at_place, each_has, has_at}
use Rattle.list_laws.proofs.Pairs.{Beside, zip_at, zip_there}
use Rattle.run_laws.proofs.EffectKeeps.{step_keeps}
use Rattle.super_time.specs.LocalTime.{local_step, local_time}
use Rattle.trace_core.specs.Runs.{Cell, Held, Empty, Filled, RunState, Stands, AreCellsFull, FitCells, IsPhase, is_empty_cell, is_ended, is_held_cell, step_length}
use Rattle.trace_core.specs.Slots.{slot_seen}
use Rattle.trace_core.specs.declared.phase.Phase.TheVariants.{Trial}
use Rattle.step_rule.specs.declared.steps.Slot.{Slot}
use Rattle.step_rule.specs.declared.steps.Slot.TheVariants as slot
use Rattle.trace_rows.proofs.Filling.{one_for_each}
use Rattle.unit_tree.specs.Components.{Moved, step_of}
use Rattle.unit_tree.specs.Compositions.{Composition, IsMember, Member}
use Rattle.unit_tree.specs.Negotiation.{inputs_at, is_held, step_at}
use Rattle.unit_tree.specs.Ports.{Ports}
use Rattle.unit_tree.specs.Successor.{standings, steps_by}
use Rattle.unit_tree.specs.Trace.{AreWordsOf}

-- A step was made and accepted so much, which is at most the local step of h from t.
pub record TookStep (factor t h : ℕ) (step : Option (Result Moved Fault)) (accepted : ℕ) : Type 0 where
  pub moved : Moved
  pub made : step ≡ Some (Ok moved)
  pub took : moved.accepted ≡ accepted
  pub most : accepted ≤ local_step factor t h

-- The slot tells the result of a step of h from t.
abbrev pub TellsStep : ℕ → ℕ → ℕ → Option (Result Moved Fault) → Slot → Type 0
TellsStep factor t h step slot.Held = step ≡ None
TellsStep factor t h step slot.Empty = ⊥
TellsStep factor t h step (slot.Took accepted) = TookStep factor t h step accepted
TellsStep factor t h step (slot.Failed fault) = step ≡ Some (Err fault)

-- An instance with its member, its step, and what its slot tells.
pub record StepHere (r : RunState) (h instance : ℕ) (told : Slot) : Type 0 where
  pub member : Member
  pub member_is : slice_get r.plan.run.members instance ≡ Some member
  pub step : Option (Result Moved Fault)
  pub step_is : slice_get (steps_by r.plan.run r.stand.at r.stand.ports h) instance ≡ Some step
  pub pair_is : slice_get (zip (pace_of r.plan.run).factors (steps_by r.plan.run r.stand.at r.stand.ports h)) instance ≡ Some (member.factor, step)
  pub tells : TellsStep member.factor r.stand.at.point.t h step told

-- ---- One instance

-- The result of the step of a member in a standing.
abbrev made_by : ℕ → ℕ → Ports → Member → List ℤ → Result Moved Fault
made_by t h ports member state = step_of member.component state (inputs_at ports member) (local_time member.factor t) (local_step member.factor t h)

held_none : (held : Bool) (result : Result Moved Fault) → held ≡ true → cond held None (Some result) ≡ None
held_none held result is = ap (λ (b : Bool). cond b None (Some result)) is

made_some : (held : Bool) (result step : Result Moved Fault) → cond held None (Some result) ≡ Some step → result ≡ step
made_some true result step is = absurd (cc)
made_some false result step is = same_Some result step is

module _ (r : RunState) (h : ℕ) (stands : Stands r) (trial : r.phase ≡ Trial h) (full : AreCellsFull r.cells) (instance : ℕ)
    (within : instance < length r.plan.run.members) where
  abbrev run : Composition
  run = r.plan.run

  abbrev t : ℕ
  t = r.stand.at.point.t

  abbrev ports : Ports
  ports = r.stand.ports

  going : is_ended r.phase ≡ false
  going = ap is_ended trial

  there : (member : Member) × (slice_get run.members instance ≡ Some member)
  there = at_place run.members instance within

  stood : Beside (λ (m : Member) state. AreWordsOf m.component.unit.states state) there.0 r.stand.at.states instance
  stood = zip_at (λ (m : Member) state. AreWordsOf m.component.unit.states state) run.members r.stand.at.states instance there.0 stands.words there.1

  cell_there : (cell : Cell) × (slice_get r.cells instance ≡ Some cell)
  cell_there = at_place r.cells instance (subst (λ count. instance < count) (sym (one_for_each r stands going)) within)

  standing_is : slice_get (standings run r.stand.at) instance ≡ Some (there.0, stood.other)
  standing_is = zip_there run.members r.stand.at.states instance there.0 stood.other there.1 stood.is

  abbrev step : Option (Result Moved Fault)
  step = step_at t h ports (there.0, stood.other)

  step_here : slice_get (steps_by run r.stand.at ports h) instance ≡ Some step
  step_here =
      slice_get-map (step_at t h ports) (standings run r.stand.at) instance ∙ ap (option_map (step_at t h ports)) standing_is

  pair_here : slice_get (zip (pace_of run).factors (steps_by run r.stand.at ports h)) instance ≡ Some (there.0.factor, step)
  pair_here =
      zip_there (pace_of run).factors (steps_by run r.stand.at ports h) instance there.0.factor step
      (slice_get-map (λ (m : Member). m.factor) run.members instance ∙ ap (option_map (λ (m : Member). m.factor)) there.1) step_here

  fits : FitCells run t h r.cells
  fits = (subst (λ phase. IsPhase run r.stand phase r.cells) trial stands.phase_is).cells_fit

  cell_is_held : is_held_cell cell_there.0 ≡ is_held there.0.factor t h
  cell_is_held =
      same_Some (is_held_cell cell_there.0) (is_held there.0.factor t h)
      (sym (slice_get-map is_held_cell r.cells instance ∙ ap (option_map is_held_cell) cell_there.1)
      ∙ ap (λ all. slice_get all instance) fits
      ∙ slice_get-map (λ (m : Member). is_held m.factor t h) run.members instance
      ∙ ap (option_map (λ (m : Member). is_held m.factor t h)) there.1)

  -- The result of the step of a filled cell.
  filled_is : (made : Result Moved Fault) → cell_there.0 ≡ Filled made → step ≡ Some made
  filled_is made is =
      sym (ap (option_and_then (step_at t h ports)) standing_is)
      ∙ sym (ap (λ phase. option_and_then (step_at t (step_length phase) ports) (slice_get (standings run r.stand.at) instance)) trial)
      ∙ stands.steps instance made (cell_there.1 ∙ ap Some is)

  accepted_most : (moved : Moved) → step ≡ Some (Ok moved) → moved.accepted ≤ local_step there.0.factor t h
  accepted_most moved is =
      (step_keeps there.0.component stood.other (inputs_at ports there.0) (local_time there.0.factor t) (local_step there.0.factor t h) moved
      (each_has IsMember run.members there.0 stands.members (has_at run.members instance there.0 there.1)).params stood.related
      (made_some (is_held there.0.factor t h) (made_by t h ports there.0 stood.other) (Ok moved) is)).accepted

  tells_by : (cell : Cell) → cell_there.0 ≡ cell → is_empty_cell cell ≡ false → TellsStep there.0.factor t h step (slot_seen cell)
  tells_by Held is full =
      held_none (is_held there.0.factor t h) (made_by t h ports there.0 stood.other) (sym cell_is_held ∙ ap is_held_cell is)
  tells_by Empty is full = absurd (cc)
  tells_by (Filled (Ok moved)) is full =
      let made = filled_is (Ok moved) is in
      record { moved = moved; made = made; took = refl; most = accepted_most moved made }
  tells_by (Filled (Err fault)) is full = filled_is (Err fault) is

  cell_full : is_empty_cell cell_there.0 ≡ false
  cell_full = each_has (λ cell. is_empty_cell cell ≡ false) r.cells cell_there.0 full (has_at r.cells instance cell_there.0 cell_there.1)

  pub step_told : (told : Slot) → option_map slot_seen (slice_get r.cells instance) ≡ Some told → StepHere r h instance told
  step_told told is = record {
    member = there.0;
    member_is = there.1;
    step = step;
    step_is = step_here;
    pair_is = pair_here;
    tells = subst (TellsStep there.0.factor t h step)
        (same_Some (slot_seen cell_there.0) told (sym (ap (option_map slot_seen) cell_there.1) ∙ is))
        (tells_by cell_there.0 refl cell_full);
  }
