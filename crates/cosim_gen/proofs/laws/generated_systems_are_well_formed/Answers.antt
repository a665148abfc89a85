use Rattle.cosim_gen.proofs.Lines.{is_well_formed}
use Rattle.cosim_gen.proofs.laws.generated_systems_are_well_formed.Goals as goal

pub returns : goal.returns
returns c = λ seed instances rows can. is_well_formed seed instances rows can
