use Rattle.cosim_gen.proofs.Outputs.{has_no_cycle}
use Rattle.cosim_gen.proofs.laws.generated_systems_have_no_cycle.Goals as goal

pub returns : goal.returns
returns c = λ seed instances rows can. has_no_cycle seed instances rows can
