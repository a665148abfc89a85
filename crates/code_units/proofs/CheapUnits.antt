-- Code costs at most what the trees cost.
use Rattle.std.proofs.Common.{◌≡◌, ℕ, zero, suc, ◌≤◌, List, [], ◌∷◌, Option, Some, None, slice_get, subst, arith}
use Rattle.std.specs.List.{AllByRecursion}
use Rattle.std.specs.Option.{IfSome}
use Rattle.fixed_words.specs.Types.{AreDecimals}
use Rattle.code_units.specs.Expressions.{code_of}
use Rattle.code_units.specs.Laws.{CodesCostWhatTreesDo}
use Rattle.code_units.specs.Scopes.{scope_of}
use Rattle.code_units.specs.StepLines.{lines_code}
use Rattle.code_units.specs.UnitPrograms.{output_code, limit_code, step_piece, IsCallable, IsRunnable}
use Rattle.code_units.specs.declared.scope.CodeScope.{CodeScope}
use Rattle.code_units.proofs.FitLines.{fine_lines}
use Rattle.code_units.proofs.FitPieces.{Known, fine}
use Rattle.code_units.proofs.FitUnits.{scope_known, output_fits, limit_fits, step_fits}
use Rattle.code_pieces.specs.Pieces.{part_code}
use Rattle.code_pieces.proofs.PieceParts.{piece_parts_are_valid_lem}
use Rattle.unit_tree.specs.Costs.{expression_call_cost, step_call_cost}
use Rattle.unit_tree.specs.declared.expr.Expr.{Expr}
use Rattle.unit_tree.specs.declared.line.Line.{Line}
use Rattle.unit_tree.specs.declared.unit.Output.{Output}
use Rattle.unit_vm.specs.Loops.{cost_of}
use Rattle.unit_vm.specs.declared.instruction.Instruction.TheVariants.{Give, Limit, Done}
use Rattle.unit_vm.specs.declared.program.Role.TheVariants as role

module _ (scope : CodeScope) (known : Known scope) where
  output_cheap : (output : Output) → IsCallable scope output.value → AreDecimals output.ty
      → cost_of (output_code scope output) ≤ expression_call_cost output.value
  output_cheap output callable typed =
      let costs =
      (piece_parts_are_valid_lem scope.sizes role.Output (code_of output.value scope).piece (Give output.ty)
      (output_fits scope known output callable typed)).costs in
      let less = (fine scope known output.value).cheap in
      omega arith

  limit_cheap : (value : Expr) → IsCallable scope value → cost_of (limit_code scope value) ≤ expression_call_cost value
  limit_cheap value callable =
      let costs = (piece_parts_are_valid_lem scope.sizes role.Limit (code_of value scope).piece Limit (limit_fits scope known value callable)).costs in
      let less = (fine scope known value).cheap in
      omega arith

  step_cheap : (lines : List Line) → IsRunnable scope lines → cost_of (part_code (lines_code lines scope).piece Done) ≤ step_call_cost lines
  step_cheap lines runnable =
      let costs = (piece_parts_are_valid_lem scope.sizes role.Step (lines_code lines scope).piece Done (step_fits scope known (Some lines) runnable)).costs in
      let less = (fine_lines scope known lines).cheap in
      omega arith

  outputs_cheap : (outputs : List Output) → AllByRecursion (λ (output : Output). IsCallable scope output.value) outputs
      → AllByRecursion (λ (output : Output). AreDecimals output.ty) outputs → (number : ℕ) (output : Output) → slice_get outputs number ≡ Some output
      → cost_of (output_code scope output) ≤ expression_call_cost output.value
  outputs_cheap [] callable typed number output is = absurd (cc)
  outputs_cheap (first ∷ others) callable typed zero output is =
      let same : first ≡ output = cc in
      subst (λ (one : Output). cost_of (output_code scope one) ≤ expression_call_cost one.value) same (output_cheap first callable.0 typed.0)
  outputs_cheap (first ∷ others) callable typed (suc number) output is = outputs_cheap others callable.1 typed.1 number output is

  limits_cheap : (given : Option Expr) → IfSome given (λ value. IsCallable scope value) → (value : Expr) → given ≡ Some value
      → cost_of (limit_code scope value) ≤ expression_call_cost value
  limits_cheap None callable value is = absurd (cc)
  limits_cheap (Some one) callable value is = let same : one ≡ value = cc in
      subst (λ (e : Expr). cost_of (limit_code scope e) ≤ expression_call_cost e) same (limit_cheap one callable)

  steps_cheap : (given : Option (List Line)) → IfSome given (λ lines. IsRunnable scope lines) → (lines : List Line) → given ≡ Some lines
      → cost_of (part_code (step_piece scope given) Done) ≤ step_call_cost lines
  steps_cheap None runnable lines is = absurd (cc)
  steps_cheap (Some one) runnable lines is = let same : one ≡ lines = cc in
      subst (λ (ls : List Line). cost_of (part_code (lines_code one scope).piece Done) ≤ step_call_cost ls) same (step_cheap one runnable)

pub codes_cheap : CodesCostWhatTreesDo
codes_cheap = λ component fits.
    let scope = scope_of component.unit component.params in
    let known = scope_known component.unit component.params fits.types in record {
      outputs = outputs_cheap scope known component.unit.outputs fits.values fits.output_types;
      limit = limits_cheap scope known component.unit.max fits.max;
      step = steps_cheap scope known component.unit.step fits.step;
    }
