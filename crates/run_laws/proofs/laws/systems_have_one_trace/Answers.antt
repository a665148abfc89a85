use Rattle.unit_tree.specs.Compositions.{composition_of, run_of}
use Rattle.unit_tree.specs.Plain.{plain_form}
use Rattle.run_laws.specs.RunLaws.{RunsHaveOneTrace}
use Rattle.run_laws.proofs.EventLaws.{plain_form_without_events}
use Rattle.language_laws.proofs.NameLaws.{names_differ, is_wired}
use Rattle.run_laws.proofs.PlaceOrders.{system_is_ordered, has_no_cycle}
use Rattle.run_laws.proofs.PositionLaws.{system_has_members}
use Rattle.run_laws.proofs.RunOrders.{runs_have_orders, orders_have_runs}
use Rattle.run_laws.proofs.RunTraces.{one_trace, one_trace_of}
use Rattle.run_laws.proofs.laws.systems_have_one_trace.Goals as goal

pub returns-clause-order : goal.returns-clause-order
returns-clause-order c = λ system plain kept. (
  system_is_ordered system plain (names_differ system kept),
  has_no_cycle system plain (names_differ system kept) (is_wired system kept),
)

pub returns-clause-trace : goal.returns-clause-trace
returns-clause-trace c = λ system plain kept no_cycle.
    let order = system_is_ordered system plain (names_differ system kept) no_cycle in
    one_trace (composition_of system) order.0 (system_has_members system) order.1

pub returns-clause-run_order : goal.returns-clause-run_order
returns-clause-run_order c = λ system ranged kept. (runs_have_orders system ranged kept, orders_have_runs system ranged kept)

runs_have_one_trace : RunsHaveOneTrace
runs_have_one_trace system ranged kept no_cycle =
    let order = runs_have_orders system ranged kept no_cycle in
    one_trace (run_of system) order.0 (system_has_members (plain_form system)) order.1

pub returns-clause-run_trace : goal.returns-clause-run_trace
returns-clause-run_trace c = runs_have_one_trace

pub returns-clause-outcome : goal.returns-clause-outcome
returns-clause-outcome c = λ system ranged kept no_cycle. one_trace_of system (runs_have_one_trace system ranged kept no_cycle)

pub returns-clause-plain : goal.returns-clause-plain
returns-clause-plain c = plain_form_without_events
