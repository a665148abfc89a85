use Rattle.cosim_gen.proofs.Printing.{is_printable}
use Rattle.cosim_gen.proofs.laws.generated_systems_are_printable.Goals as goal

pub returns : goal.returns
returns c = λ seed instances rows can. is_printable seed instances rows can
