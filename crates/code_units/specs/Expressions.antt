-- Code of expressions: a piece that pushes the value, and the value's kind.
use Rattle.std.specs.Prelude.{◌-◌, Bool, true, false, ◌&&◌, nat_le, pos, Option, Some, None, if◌then◌else◌}
use Rattle.fixed_words.specs.Types.{kind_of}
use Rattle.fixed_words.specs.declared.types.Kind.{Kind}
use Rattle.fixed_words.specs.declared.types.Kind.TheVariants as kinds
use Rattle.code_units.specs.Scopes.{named}
use Rattle.code_units.specs.declared.scope.Named.{Named}
use Rattle.code_units.specs.declared.scope.NamePlace.{NamePlace}
use Rattle.code_units.specs.declared.scope.NamePlace.TheVariants.{Constant, Slot}
use Rattle.code_units.specs.declared.scope.CodeScope.{CodeScope}
use Rattle.code_pieces.specs.Pieces.{Piece, One, Then, Choice}
use Rattle.unit_tree.specs.Kinds.{same_kind}
use Rattle.unit_tree.specs.Values.{kind_of_number}
use Rattle.unit_tree.specs.declared.expr.BinOp.{BinOp}
use Rattle.unit_tree.specs.declared.expr.BinOp.TheVariants as by
use Rattle.unit_tree.specs.declared.expr.Expr.{Expr, fold-Expr}
use Rattle.unit_tree.specs.declared.expr.Expr.TheOpen.{Expr-F}
use Rattle.unit_tree.specs.declared.expr.UnOp.{UnOp}
use Rattle.unit_tree.specs.declared.expr.UnOp.TheVariants as of
use Rattle.unit_vm.specs.declared.instruction.Instruction.{Instruction}
use Rattle.unit_vm.specs.declared.instruction.Instruction.TheVariants.{Push, Load, Add, Subtract, Multiply, Divide, Remainder, Negate, Magnitude, Min, Max}
use Rattle.unit_vm.specs.declared.instruction.Instruction.TheVariants.{Clamp, Equal, NotEqual, Less, LessOrEqual, Greater, GreaterOrEqual, And, Or, Not}
use Rattle.unit_vm.specs.declared.instruction.Instruction.TheVariants.{FixedMultiply, FixedDivide, ScaleUp, ScaleDown}

-- The code of an expression: what pushes its value, the value's kind, and whether both sides of each `if` have one kind.
-- Without this, the kind is not defined.
pub record Coded : Type 0 where
  pub piece : Piece
  pub kind : Kind
  pub agrees : Bool

abbrev pub leaf : Instruction → Kind → Coded
leaf instruction kind = record { piece = One instruction; kind = kind; agrees = true }

-- A name: a constant is pushed, a slot is loaded. A name that is not declared is the Int 0.
abbrev pub place_code : NamePlace → Instruction
place_code (Constant word) = Push word
place_code (Slot slot) = Load slot

abbrev pub name_code : Option Named → Coded
name_code None = leaf (Push (pos 0)) kinds.Int
name_code (Some found) = leaf (place_code found.place) (kind_of found.ty)

abbrev pub truth_code : Bool → Instruction
truth_code true = Push (pos 1)
truth_code false = Push (pos 0)

-- The instruction for a word of the kind. `int` of a whole number needs none.
abbrev pub unary_code : UnOp → Kind → Option Instruction
unary_code of.Neg kind = Some Negate
unary_code of.Not kind = Some Not
unary_code of.Abs kind = Some Magnitude
unary_code of.ToInt (kinds.Fixed had) = Some (ScaleDown had)
unary_code of.ToInt kind = None
unary_code (of.ToFix decimals) (kinds.Fixed had) = Some (if nat_le had decimals then ScaleUp (decimals - had) else ScaleDown (had - decimals))
unary_code (of.ToFix decimals) kind = Some (ScaleUp decimals)

abbrev pub unary_kind_of : UnOp → Kind → Kind
unary_kind_of of.Not kind = kinds.Bool
unary_kind_of of.ToInt kind = kinds.Int
unary_kind_of (of.ToFix decimals) kind = kinds.Fixed decimals
unary_kind_of _ kind = kind

-- The instruction for two words, the first of the kind.
abbrev pub binary_code : BinOp → Kind → Instruction
binary_code by.Add kind = Add
binary_code by.Sub kind = Subtract
binary_code by.Mul (kinds.Fixed decimals) = FixedMultiply decimals
binary_code by.Mul kind = Multiply
binary_code by.Slash (kinds.Fixed decimals) = FixedDivide decimals
binary_code by.Slash kind = Divide
binary_code by.Div kind = Divide
binary_code by.Mod kind = Remainder
binary_code by.Eq kind = Equal
binary_code by.Ne kind = NotEqual
binary_code by.Lt kind = Less
binary_code by.Le kind = LessOrEqual
binary_code by.Gt kind = Greater
binary_code by.Ge kind = GreaterOrEqual
binary_code by.And kind = And
binary_code by.Or kind = Or
binary_code by.Min kind = Min
binary_code by.Max kind = Max

abbrev pub binary_kind_of : BinOp → Kind → Kind
binary_kind_of by.Eq kind = kinds.Bool
binary_kind_of by.Ne kind = kinds.Bool
binary_kind_of by.Lt kind = kinds.Bool
binary_kind_of by.Le kind = kinds.Bool
binary_kind_of by.Gt kind = kinds.Bool
binary_kind_of by.Ge kind = kinds.Bool
binary_kind_of by.And kind = kinds.Bool
binary_kind_of by.Or kind = kinds.Bool
binary_kind_of _ kind = kind

-- A piece, and then an instruction where there is one.
abbrev pub and_perhaps : Piece → Option Instruction → Piece
and_perhaps piece None = piece
and_perhaps piece (Some instruction) = Then piece (One instruction)

abbrev pub unary_joined : UnOp → Coded → Coded
unary_joined op arg = record {
  piece = and_perhaps arg.piece (unary_code op arg.kind);
  kind = unary_kind_of op arg.kind;
  agrees = arg.agrees;
}

abbrev pub binary_joined : BinOp → Coded → Coded → Coded
binary_joined op left right = record {
  piece = Then left.piece (Then right.piece (One (binary_code op left.kind)));
  kind = binary_kind_of op left.kind;
  agrees = left.agrees && right.agrees;
}

abbrev pub clamp_joined : Coded → Coded → Coded → Coded
clamp_joined value low high = record {
  piece = Then value.piece (Then low.piece (Then high.piece (One Clamp)));
  kind = value.kind;
  agrees = value.agrees && (low.agrees && high.agrees);
}

abbrev pub choice_joined : Coded → Coded → Coded → Coded
choice_joined cond then_part else_part = record {
  piece = Then cond.piece (Choice then_part.piece else_part.piece);
  kind = then_part.kind;
  agrees = cond.agrees && (then_part.agrees && (else_part.agrees && same_kind else_part.kind then_part.kind));
}

-- The code of one node, from the codes of its parts. An expression about events isn't in the plain form; it has the code of its
-- word there.
abbrev pub Coding : Type 0
Coding = CodeScope → Coded

abbrev pub node_code : Expr-F Coding → Coding
node_code (Expr-F.Number word decimals) scope = leaf (Push word) (kind_of_number decimals)
node_code (Expr-F.Truth told) scope = leaf (truth_code told) kinds.Bool
node_code (Expr-F.Var name) scope = name_code (named scope.names name)
node_code Expr-F.Time scope = leaf (Load scope.time) kinds.Int
node_code Expr-F.Step scope = leaf (Load scope.step) kinds.Int
node_code (Expr-F.Unary op arg) scope = unary_joined op (arg scope)
node_code (Expr-F.Binary op left right) scope = binary_joined op (left scope) (right scope)
node_code (Expr-F.Clamp value low high) scope = clamp_joined (value scope) (low scope) (high scope)
node_code (Expr-F.Choose cond then_part else_part) scope = choice_joined (cond scope) (then_part scope) (else_part scope)
node_code Expr-F.Absent scope = leaf (Push (pos 0)) kinds.Int
node_code (Expr-F.Present name) scope = leaf (truth_code false) kinds.Bool

-- The code of an expression.
abbrev pub code_of : Expr → Coding
code_of = fold-Expr Coding node_code
