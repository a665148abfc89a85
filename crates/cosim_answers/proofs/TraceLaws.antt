-- The one trace of a system that keeps all rules.
use Rattle.std.proofs.Common.{◌≡◌, sym, subst, ℕ, List}
use Rattle.event_runs.specs.EventRuns.{HasOneEventTraceOf}
use Rattle.event_runs.proofs.SystemTraces.{one_outcome as one_event_outcome}
use Rattle.text_laws.proofs.ReadIsPrintable.{read_is_printable}
use Rattle.text_accept.specs.Accepting.{IsAcceptedAs}
use Rattle.unit_tree.specs.Compositions.{run_of}
use Rattle.unit_tree.specs.Orders.{HasNoCycle}
use Rattle.unit_tree.specs.Plain.{plain_form}
use Rattle.unit_tree.specs.Printable.{IsRanged}
use Rattle.unit_tree.specs.WellFormed.{IsWellFormed}
use Rattle.unit_tree.specs.declared.system.System.{System}
use Rattle.run_laws.specs.RunLaws.{HasOneTraceOf}
use Rattle.run_laws.proofs.PositionLaws.{system_has_members}
use Rattle.run_laws.proofs.RunOrders.{runs_have_orders}
use Rattle.run_laws.proofs.RunTraces.{one_trace, one_trace_of}
use Rattle.unit_tree.specs.declared.ending.Ending.{Ending}
use Rattle.unit_tree.specs.declared.ending.Ending.TheVariants.{Completed, RowBudget, ZeroBudget, UnitFault, StepRefused}
use Rattle.cosim_gen.proofs.Lines.{is_well_formed}
use Rattle.cosim_gen.proofs.Outputs.{has_no_cycle}
use Rattle.cosim_gen.proofs.Printing.{is_printable}
use Rattle.cosim_call.specs.Answers.{IsEndOfWork}
use Rattle.cosim_call.specs.declared.status.Status.{Status}
use Rattle.cosim_answers.specs.Accepted.{status_of}
use Rattle.command_line.specs.Generations.{Asked, CanGive, system_asked}

-- A system that is in range and keeps all rules, and whose outputs have an order.
pub record IsWhole (system : System) : Type 0 where
  pub ranged : IsRanged system
  pub well_formed : IsWellFormed system
  pub ordered : HasNoCycle system

-- The system as which a text is accepted keeps all rules.
pub whole_of : (text : List ℕ) (system : System) (lines : List ℕ) → IsAcceptedAs text system lines → IsWhole system
whole_of text system lines accepted = record {
  ranged = (read_is_printable text system accepted.reads.reads).ranged;
  well_formed = accepted.well_formed;
  ordered = accepted.ordered;
}

-- So does a generated system.
pub whole_asked : (asked : Asked) → CanGive asked → IsWhole (system_asked asked)
unfolding system_asked
whole_asked asked can = record {
  ranged = (is_printable asked.seed asked.instances asked.rows can).ranged;
  well_formed = is_well_formed asked.seed asked.instances asked.rows can;
  ordered = has_no_cycle asked.seed asked.instances asked.rows can;
}

-- It has one trace.
pub one_outcome : (system : System) → IsWhole system → HasOneEventTraceOf system
one_outcome system whole = one_event_outcome system whole.ranged whole.well_formed whole.ordered

-- So has the plain form.
pub plain_outcome : (system : System) → IsWhole system → HasOneTraceOf system
plain_outcome system whole =
    let order = runs_have_orders system whole.ranged whole.well_formed whole.ordered in
    one_trace_of system (one_trace (run_of system) order.0 (system_has_members (plain_form system)) order.1)

-- ---- Ends

-- The end of a trace is an end of a command.
pub is_end : (ending : Ending) (given : Status) → given ≡ status_of ending → IsEndOfWork given
is_end Completed given is = subst IsEndOfWork (sym is) tt
is_end RowBudget given is = subst IsEndOfWork (sym is) tt
is_end ZeroBudget given is = subst IsEndOfWork (sym is) tt
is_end (StepRefused instance asked accepted) given is = subst IsEndOfWork (sym is) tt
is_end (UnitFault instance place fault) given is = subst IsEndOfWork (sym is) tt
