use Rattle.code_pieces.proofs.MachineFollows.{pieces_are_followed_lem}
use Rattle.code_pieces.proofs.laws.pieces_are_followed.Goals as goal

pub returns : goal.returns
returns c = pieces_are_followed_lem
