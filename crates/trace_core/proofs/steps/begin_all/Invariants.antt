use Rattle.std.proofs.Common.{◌≡◌, Some}
use Rattle.std.specs.Prelude.{slice_get}
use Rattle.trace_core.specs.Seats.{IsBegun, IsClock}
use Rattle.trace_core.proofs.LoopLaws.{Turned}
use Rattle.unit_tree.specs.Compositions.{Member}
use Rattle.trace_core.proofs.steps.begin_all.Given as goal

abbrev pub invariant-loop-instance : goal.invariant-loop-instance
invariant-loop-instance l = record {
  turned :
      Turned (λ k old new. (member : Member) → slice_get l.plan.run.members k ≡ Some member → IsBegun l.t l.h member.factor old new) l.fn.seats l.seats
      l.instance;
  clock : IsClock l.t l.h l.clock.factor l.clock;
}
