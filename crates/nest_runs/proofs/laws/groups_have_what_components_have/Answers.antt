use Rattle.nest_runs.proofs.CarryLaws.{group_output, inputs_same, outputs_same}
use Rattle.nest_runs.proofs.laws.groups_have_what_components_have.Goals as goal

pub returns : goal.returns
returns c = record {
  determined = λ nest sound one other carried others same. (
    inputs_same nest sound one other carried others same,
    outputs_same nest sound one other carried others same,
  );
  outputs = λ nest sound values carried outer inner line. group_output nest sound values carried outer inner line;
}
