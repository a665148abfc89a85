-- Code of step lines: a piece that changes slots and the accepted length, and leaves the height of the stack unchanged.
use Rattle.std.specs.Prelude.{ℕ, Bool, true, false, ◌&&◌, nat_le, List, [], ◌∷◌, map, Option, Some, None}
use Rattle.std.specs.Option.{option_map}
use Rattle.model_rules.specs.Limits.{depth_limit, turn_limit}
use Rattle.fixed_words.specs.declared.types.Ty.{Ty}
use Rattle.code_units.specs.Expressions.{code_of}
use Rattle.code_units.specs.Scopes.{named}
use Rattle.code_units.specs.declared.scope.Named.{Named}
use Rattle.code_units.specs.declared.scope.NamePlace.{NamePlace}
use Rattle.code_units.specs.declared.scope.NamePlace.TheVariants.{Constant, Slot}
use Rattle.code_units.specs.declared.scope.CodeScope.{CodeScope}
use Rattle.code_pieces.specs.Pieces.{Piece, Nothing, One, Then, Choice, When, Turns}
use Rattle.unit_tree.specs.Names.{depth_of}
use Rattle.unit_tree.specs.Values.{is_ranged}
use Rattle.unit_tree.specs.declared.expr.Expr.{Expr}
use Rattle.unit_tree.specs.declared.line.Line.{Line, fold-Line}
use Rattle.unit_tree.specs.declared.line.Line.TheOpen.{Line-F}
use Rattle.unit_vm.specs.declared.instruction.Instruction.TheVariants.{Store, Accept}
use Rattle.unit_vm.specs.declared.program.Sizes.{Sizes}
use Rattle.unit_vm.specs.Instructions.{is_stored}

-- The code of a line, and whether the line may be run. It may where each `if` in its expressions has one kind, the expressions are in
-- range and not too deep, its target has a slot that may be written, and it is repeated 1 to 1000 times.
pub record LineCoded : Type 0 where
  pub piece : Piece
  pub is_right : Bool

abbrev pub is_right_in : CodeScope → Expr → Bool
is_right_in scope value = (code_of value scope).agrees && (is_ranged value && nat_le (depth_of value) depth_limit)

-- No lines; and a line before others.
abbrev pub nothing : LineCoded
nothing = record { piece = Nothing; is_right = true }

abbrev pub behind : LineCoded → LineCoded → LineCoded
behind first others = record { piece = Then first.piece others.piece; is_right = first.is_right && others.is_right }

abbrev pub sequence : List LineCoded → LineCoded
sequence [] = nothing
sequence (first ∷ others) = behind first (sequence others)

-- The target's slot gets the word. Without a slot nothing is stored.
abbrev pub store_code : NamePlace → Ty → Piece
store_code (Slot slot) ty = One (Store slot ty)
store_code (Constant word) ty = Nothing

abbrev pub may_store : Sizes → NamePlace → Bool
may_store sizes (Slot slot) = is_stored sizes slot
may_store sizes (Constant word) = false

abbrev pub target_coded : Sizes → Option Named → LineCoded
target_coded sizes None = record { piece = Nothing; is_right = false }
target_coded sizes (Some found) = record { piece = store_code found.place found.ty; is_right = may_store sizes found.place }

abbrev pub value_coded : Expr → CodeScope → LineCoded
value_coded value scope = record { piece = (code_of value scope).piece; is_right = is_right_in scope value }

abbrev pub if_coded : LineCoded → Option LineCoded → LineCoded
if_coded then_lines None = record { piece = When then_lines.piece; is_right = then_lines.is_right }
if_coded then_lines (Some else_lines) =
    record { piece = Choice then_lines.piece else_lines.piece; is_right = then_lines.is_right && else_lines.is_right }

abbrev pub repeat_coded : ℕ → LineCoded → LineCoded
repeat_coded count body = record { piece = Turns count body.piece; is_right = (nat_le 1 count && nat_le count turn_limit) && body.is_right }

abbrev pub LineCoding : Type 0
LineCoding = CodeScope → LineCoded

abbrev pub all_coded : CodeScope → List LineCoding → LineCoded
all_coded scope lines = sequence (map (λ (line : LineCoding). line scope) lines)

-- The code of one line, from the codes of the lines in its blocks.
abbrev pub node_line_code : Line-F LineCoding → LineCoding
node_line_code (Line-F.Assign target value) scope = behind (value_coded value scope) (target_coded scope.sizes (named scope.names target))
node_line_code (Line-F.If cond then_lines else_lines) scope =
    behind (value_coded cond scope) (if_coded (all_coded scope then_lines) (option_map (all_coded scope) else_lines))
node_line_code (Line-F.Repeat count body) scope = repeat_coded count (all_coded scope body)
node_line_code (Line-F.Accept value) scope = behind (value_coded value scope) (record { piece = One Accept; is_right = true })

-- The code of a line, and of lines in their order.
abbrev pub line_code : Line → LineCoding
line_code = fold-Line LineCoding node_line_code

abbrev pub lines_code : List Line → LineCoding
lines_code lines scope = all_coded scope (map line_code lines)
