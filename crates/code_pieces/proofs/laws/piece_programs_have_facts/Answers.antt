use Rattle.code_pieces.proofs.WholePrograms.{piece_programs_have_facts_lem}
use Rattle.code_pieces.proofs.laws.piece_programs_have_facts.Goals as goal

pub returns : goal.returns
returns c = piece_programs_have_facts_lem
