use Rattle.code_units.proofs.FitUnits.{made_of_pieces}
use Rattle.code_pieces.proofs.WholePrograms.{piece_programs_have_facts_lem}
use Rattle.code_units.specs.UnitPrograms.{program_of}
use Rattle.code_units.proofs.laws.unit_programs_are_valid.Goals as goal

pub returns : goal.returns
returns c = λ component fits. piece_programs_have_facts_lem (program_of component.unit component.params) (made_of_pieces component.unit component.params fits)
