use Rattle.code_pieces.proofs.PieceParts.{piece_parts_are_valid_lem}
use Rattle.code_pieces.proofs.laws.piece_parts_are_valid.Goals as goal

pub returns : goal.returns
returns c = piece_parts_are_valid_lem
