-- The program of a unit with words of its parameters, and which units have a valid one.
use Rattle.std.specs.Prelude.{◌≡◌, ◌≤◌, true, ℤ, List, map, length, Option, Some, None}
use Rattle.std.specs.List.{AllByRecursion}
use Rattle.std.specs.Option.{option_map, IfSome}
use Rattle.model_rules.specs.Limits.{cost_limit, input_limit, local_limit, output_limit, state_limit}
use Rattle.fixed_words.specs.Types.{AreDecimals}
use Rattle.code_units.specs.Expressions.{code_of}
use Rattle.code_units.specs.Scopes.{scope_of}
use Rattle.code_units.specs.StepLines.{is_right_in, lines_code}
use Rattle.code_units.specs.declared.scope.CodeScope.{CodeScope}
use Rattle.code_pieces.specs.Pieces.{Piece, Nothing, part_code}
use Rattle.unit_tree.specs.Components.{variables_of}
use Rattle.unit_tree.specs.Costs.{expression_call_cost, step_call_cost}
use Rattle.unit_tree.specs.declared.expr.Expr.{Expr}
use Rattle.unit_tree.specs.declared.line.Line.{Line}
use Rattle.unit_tree.specs.declared.unit.Output.{Output}
use Rattle.unit_tree.specs.declared.unit.Unit.{Unit}
use Rattle.unit_vm.specs.declared.instruction.Instruction.{Instruction}
use Rattle.unit_vm.specs.declared.instruction.Instruction.TheVariants.{Give, Limit, Done}
use Rattle.unit_vm.specs.declared.program.Program.{Program}

-- The part of an output ends with its value as a word of its type; that of the limit ends with its value.
abbrev pub output_code : CodeScope → Output → List Instruction
output_code scope output = part_code (code_of output.value scope).piece (Give output.ty)

abbrev pub limit_code : CodeScope → Expr → List Instruction
limit_code scope value = part_code (code_of value scope).piece Limit

-- The code of a step is that of its lines. Without lines it does nothing.
abbrev pub step_piece : CodeScope → Option (List Line) → Piece
step_piece scope None = Nothing
step_piece scope (Some lines) = (lines_code lines scope).piece

abbrev pub program_in : CodeScope → Unit → Program
program_in scope unit = record {
  sizes = scope.sizes;
  outputs = map (output_code scope) unit.outputs;
  limit = option_map (limit_code scope) unit.max;
  step = part_code (step_piece scope unit.step) Done;
}

-- The program of a unit with the words of its parameters.
abbrev pub program_of : Unit → List ℤ → Program
program_of unit params = program_in (scope_of unit params) unit

-- An expression whose call may be made: each `if` in it has one kind, it is in range and not too deep, and the call does not
-- cost too much.
pub record IsCallable (scope : CodeScope) (value : Expr) : Type 0 where
  pub right : is_right_in scope value ≡ true
  pub cheap : expression_call_cost value ≤ cost_limit

-- Lines that may be run.
pub record IsRunnable (scope : CodeScope) (lines : List Line) : Type 0 where
  pub right : (lines_code lines scope).is_right ≡ true
  pub cheap : step_call_cost lines ≤ cost_limit

-- A unit that may be compiled with words of its parameters: its numbers, types, expressions and lines are within the limits,
-- and targets are states and locals. The units of the plain form of a system that is in range and well-formed are such.
pub record IsCompilable (unit : Unit) (params : List ℤ) : Type 0 where
  pub one_each : length params ≡ length unit.params
  pub outputs : length unit.outputs ≤ output_limit
  pub states : length unit.states ≤ state_limit
  pub inputs : length unit.inputs ≤ input_limit
  pub locals : length unit.locals ≤ local_limit
  pub types : AllByRecursion (λ variable. AreDecimals variable.ty) (variables_of unit)
  pub output_types : AllByRecursion (λ output. AreDecimals output.ty) unit.outputs
  pub values : AllByRecursion (λ output. IsCallable (scope_of unit params) output.value) unit.outputs
  pub max : IfSome unit.max (λ value. IsCallable (scope_of unit params) value)
  pub step : IfSome unit.step (λ lines. IsRunnable (scope_of unit params) lines)
