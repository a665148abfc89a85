use Rattle.event_runs.proofs.RunLaws.{assignment_is_read, event_assignment_is_read, one_event_assignment}
use Rattle.event_runs.proofs.laws.assignments_are_read.Goals as goal

pub returns : goal.returns
returns c = record {
  read = λ members run states ports plain fit is. assignment_is_read members run states plain fit ports is;
  all = λ members run states signals plain fit is. event_assignment_is_read members run states plain fit signals is;
  one = λ members run order states plain ordered fit. one_event_assignment members run states plain fit order ordered;
}
