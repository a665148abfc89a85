-- Laws of structured code: the machine follows it, it is valid, and programs of it have facts.
use Rattle.std.specs.Prelude.{◌≡◌, ℕ, ◌+◌, ◌≤◌, ℤ, List, length, IsTrue, Some}
use Rattle.model_rules.specs.Limits.{cost_limit, height_limit, input_limit, local_limit, output_limit, state_limit}
use Rattle.unit_vm.specs.declared.instruction.Instruction.{Instruction}
use Rattle.unit_vm.specs.declared.instruction.Flow.TheVariants as flow
use Rattle.unit_vm.specs.declared.program.CodeFacts.{CodeFacts}
use Rattle.unit_vm.specs.declared.program.Entry.{Entry}
use Rattle.unit_vm.specs.declared.program.Entry.TheVariants as entry
use Rattle.unit_vm.specs.declared.program.Program.{Program}
use Rattle.unit_vm.specs.declared.program.Role.{Role}
use Rattle.unit_vm.specs.declared.program.Role.TheVariants as role
use Rattle.unit_vm.specs.declared.program.Sizes.{Sizes}
use Rattle.unit_vm.specs.Instructions.{flow_of, takes, is_argued, fits_role}
use Rattle.unit_vm.specs.Programs.{part_at}
use Rattle.unit_vm.specs.Loops.{cost_of}
use Rattle.unit_vm.specs.Valid.{IsPart, HasFacts}
use Rattle.unit_vm.specs.Machine.{opening, run_of}
use Rattle.unit_vm.specs.Checking.{IsValid}
use Rattle.code_pieces.specs.Pieces.{Piece, cost, is_made, height_behind, top_of, part_code, does, finished}

-- The machine does what a piece does: in a run of valid code from an entry whose part is a piece and its end.
abbrev pub PiecesAreFollowed : Type 0
PiecesAreFollowed = (program : Program) (facts : CodeFacts) → HasFacts program facts
    → (entry : Entry) (piece : Piece) (finish : Instruction) → part_at program entry ≡ Some (part_code piece finish)
    → flow_of finish ≡ flow.End → IsTrue (is_made program.sizes piece)
    → (slots : List ℤ) → length slots ≡ facts.slots
    → run_of program entry slots ≡ finished finish (does piece (opening program.sizes slots).work)

-- A piece and its end fit a part for this use.
pub record FitsPart (sizes : Sizes) (role : Role) (piece : Piece) (finish : Instruction) : Type 0 where
  pub made : IsTrue (is_made sizes piece)
  -- The last instruction ends a run for this use.
  pub ends : flow_of finish ≡ flow.End
  pub fits : IsTrue (fits_role role finish)
  pub argued : IsTrue (is_argued sizes finish)
  -- It finds its operand, and the stack has at most 64 words everywhere.
  pub height : ℕ
  pub leaves : height_behind piece 0 ≡ Some height
  pub operand : takes finish ≤ height
  pub low : top_of piece 0 ≤ height_limit
  pub cheap : cost piece + 1 ≤ cost_limit

-- The part is valid, with these heights, and costs one more than the piece.
pub record IsValidPart (sizes : Sizes) (role : Role) (piece : Piece) (finish : Instruction) : Type 0 where
  pub heights : List ℕ
  pub valid : IsPart sizes (record { role = role; code = part_code piece finish }) heights
  pub costs : cost_of (part_code piece finish) ≡ cost piece + 1

abbrev pub PiecePartsAreValid : Type 0
PiecePartsAreValid = (sizes : Sizes) (role : Role) (piece : Piece) (finish : Instruction) → FitsPart sizes role piece finish
    → IsValidPart sizes role piece finish

-- What the part of an entry is run for.
abbrev pub role_of : Entry → Role
role_of (entry.Output number) = role.Output
role_of entry.Limit = role.Limit
role_of entry.Step = role.Step

-- Code is a piece and its end, which fit a part for this use.
pub record IsPieceCode (sizes : Sizes) (role : Role) (code : List Instruction) : Type 0 where
  pub piece : Piece
  pub finish : Instruction
  pub is : code ≡ part_code piece finish
  pub fits : FitsPart sizes role piece finish

-- A program is made of pieces, and is within the limits of a unit.
pub record IsOfPieces (program : Program) : Type 0 where
  pub outputs : length program.outputs ≤ output_limit
  pub states : program.sizes.states ≤ state_limit
  pub inputs : program.sizes.inputs ≤ input_limit
  pub locals : program.sizes.locals ≤ local_limit
  pub parts : (entry : Entry) (code : List Instruction) → part_at program entry ≡ Some code → IsPieceCode program.sizes (role_of entry) code

-- Programs made of pieces are valid: they have facts.
abbrev pub PieceProgramsHaveFacts : Type 0
PieceProgramsHaveFacts = (program : Program) → IsOfPieces program → IsValid program
