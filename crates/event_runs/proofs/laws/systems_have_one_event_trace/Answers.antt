use Rattle.event_runs.proofs.SystemTraces.{one_assignment, one_outcome, rows_shaped, tells}
use Rattle.event_runs.proofs.laws.systems_have_one_event_trace.Goals as goal

pub returns : goal.returns
returns c = record { ports = one_assignment; tells = tells; rows = rows_shaped; one = one_outcome }
