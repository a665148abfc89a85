-- The program of a unit that may be compiled is made of pieces, so it is valid.
use Rattle.std.proofs.Common.{◌≡◌, ℕ, zero, suc, ◌+◌, ◌<◌, ◌≤◌, Bool, true, false, ℤ, List, [], ◌∷◌, ◌++◌, map, length, Option, Some, None, slice_get, refl}
use Rattle.std.proofs.Common.{sym, subst, arith}
use Rattle.std.specs.Prelude.{if◌then◌else◌}
use Rattle.std.specs.List.{AllByRecursion}
use Rattle.std.specs.Option.{option_map, IfSome}
use Rattle.std.specs.Str.{bytes_eq}
use Rattle.std.proofs.lemmas.Bool.{and_parts}
use Rattle.std.proofs.lemmas.List.{length-append, length-map}
use Rattle.fixed_words.specs.Types.{AreDecimals}
use Rattle.code_units.specs.Expressions.{code_of}
use Rattle.code_units.specs.Scopes.{constants, slots_from, slot_variables, sizes_of, scope_of, named}
use Rattle.code_units.specs.UnitPrograms.{output_code, limit_code, step_piece, program_of, IsCallable, IsRunnable, IsCompilable}
use Rattle.code_units.specs.declared.scope.Named.{Named}
use Rattle.code_units.specs.declared.scope.CodeScope.{CodeScope}
use Rattle.code_units.proofs.FitPieces.{NamedFits, Known, type_known, fine}
use Rattle.code_units.proofs.FitLines.{fine_lines}
use Rattle.code_units.proofs.NamesInSlots.{param_variables, variables_are}
use Rattle.code_pieces.specs.Laws.{FitsPart, role_of, IsPieceCode, IsOfPieces}
use Rattle.code_pieces.specs.Pieces.{part_code}
use Rattle.unit_tree.specs.Components.{variable, variables_of}
use Rattle.unit_tree.specs.Names.{depth_of}
use Rattle.unit_tree.specs.Values.{is_ranged}
use Rattle.unit_tree.specs.declared.environment.Variable.{Variable}
use Rattle.unit_tree.specs.declared.expr.Expr.{Expr}
use Rattle.unit_tree.specs.declared.line.Line.{Line}
use Rattle.unit_tree.specs.declared.unit.Output.{Output}
use Rattle.unit_tree.specs.declared.unit.Param.{Param}
use Rattle.unit_tree.specs.declared.unit.Unit.{Unit}
use Rattle.unit_vm.specs.Instructions.{slots_of}
use Rattle.unit_vm.specs.Programs.{part_at}
use Rattle.unit_vm.specs.declared.instruction.Instruction.{Instruction}
use Rattle.unit_vm.specs.declared.instruction.Instruction.TheVariants.{Give, Limit, Done}
use Rattle.unit_vm.specs.declared.program.Entry.{Entry}
use Rattle.unit_vm.specs.declared.program.Entry.TheVariants as entry
use Rattle.unit_vm.specs.declared.program.Role.TheVariants as role
use Rattle.unit_vm.specs.declared.program.Sizes.{Sizes}
use Rattle.list_laws.proofs.Truths.{le_told}

-- ---- Scopes

abbrev AreTyped : List Variable → Type 0
AreTyped variables = AllByRecursion (λ one. AreDecimals one.ty) variables

typed_front : (front behind : List Variable) → AreTyped (front ++ behind) → AreTyped front × AreTyped behind
typed_front [] behind all = (tt, all)
typed_front (one ∷ front) behind all = let rest = typed_front front behind all.1 in ((all.0, rest.0), rest.1)

found_fits : (sizes : Sizes) (told : Bool) (known : Named) (others : Option Named) → NamedFits sizes (Some known) → NamedFits sizes others
    → NamedFits sizes (if told then Some known else others)
found_fits sizes true known others one other = one
found_fits sizes false known others one other = other

slots_fit : (sizes : Sizes) (variables : List Variable) (slot : ℕ) (name : List ℕ) → AreTyped variables → slot + length variables ≤ slots_of sizes
    → NamedFits sizes (named (slots_from slot variables) name)
slots_fit sizes [] slot name typed within = _
slots_fit sizes (one ∷ variables) slot name typed within =
    let here : slot < slots_of sizes = omega arith in
    let later : suc slot + length variables ≤ slots_of sizes = omega arith in
    found_fits sizes (bytes_eq one.name name) _ (named (slots_from (suc slot) variables) name) (here, typed.0)
    (slots_fit sizes variables (suc slot) name typed.1 later)

constants_fit : (sizes : Sizes) (params : List Param) (words : List ℤ) (known : List Named) (name : List ℕ) → AreTyped (param_variables params)
    → NamedFits sizes (named known name) → NamedFits sizes (named (constants params words ++ known) name)
constants_fit sizes [] words known name typed fits = fits
constants_fit sizes (param ∷ params) [] known name typed fits = fits
constants_fit sizes (param ∷ params) (word ∷ words) known name typed fits =
    found_fits sizes (bytes_eq param.name name) _ (named (constants params words ++ known) name) (tt, typed.0)
    (constants_fit sizes params words known name typed.1 fits)

pub slots_count : (unit : Unit) → length (slot_variables unit) ≡ length unit.states + length unit.inputs + length unit.locals
slots_count unit =
    let states : List Variable = map (λ state. variable state.name state.ty) unit.states in
    let inputs : List Variable = map (λ input. variable input.name input.ty) unit.inputs in
    let locals : List Variable = map (λ local. variable local.name local.ty) unit.locals in
    let a : length (states ++ (inputs ++ locals)) ≡ length states + length (inputs ++ locals) = length-append states (inputs ++ locals) in
    let b : length (inputs ++ locals) ≡ length inputs + length locals = length-append inputs locals in
    let c : length states ≡ length unit.states = length-map unit.states (λ state. variable state.name state.ty) in
    let d : length inputs ≡ length unit.inputs = length-map unit.inputs (λ input. variable input.name input.ty) in
    let e : length locals ≡ length unit.locals = length-map unit.locals (λ local. variable local.name local.ty) in
    omega arith

pub scope_known : (unit : Unit) (params : List ℤ) → AreTyped (variables_of unit) → Known (scope_of unit params)
scope_known unit params typed =
    let parts = typed_front (param_variables unit.params) (slot_variables unit) (subst AreTyped (variables_are unit) typed) in
    let count : length (slot_variables unit) ≡ length unit.states + length unit.inputs + length unit.locals = slots_count unit in record {
      time = let g : length (slot_variables unit) < length unit.states + length unit.inputs + length unit.locals + 2 = omega arith in g;
      step = let g : suc (length (slot_variables unit)) < length unit.states + length unit.inputs + length unit.locals + 2 = omega arith in g;
      names = λ name.
          let within : 0 + length (slot_variables unit) ≤ length unit.states + length unit.inputs + length unit.locals + 2 = omega arith in
          constants_fit (sizes_of unit) unit.params params (slots_from 0 (slot_variables unit)) name parts.0
          (slots_fit (sizes_of unit) (slot_variables unit) 0 name parts.1 within);
    }

-- ---- Parts

module _ (scope : CodeScope) (known : Known scope) where
  abbrev Callable : Expr → Type 0
  Callable value = IsCallable scope value

  pub record Limits (value : Expr) : Type 0 where
    pub agrees : (code_of value scope).agrees ≡ true
    pub ranged : is_ranged value ≡ true
    pub deep : depth_of value ≤ 32

  pub limits : (value : Expr) → Callable value → Limits value
  limits value callable =
      let one = and_parts (code_of value scope).agrees _ callable.right in
      let other = and_parts (is_ranged value) _ one.1 in
      record { agrees = one.0; ranged = other.0; deep = le_told (depth_of value) 32 other.1 }

  pub output_fits : (output : Output) → Callable output.value → AreDecimals output.ty
      → FitsPart scope.sizes role.Output (code_of output.value scope).piece (Give output.ty)
  output_fits output callable typed =
      let good = fine scope known output.value in
      let within = limits output.value callable in
      let less : depth_of output.value ≤ 32 = within.deep in
      let cost_is = good.cheap in
      let cheap = callable.cheap in record {
        made = good.made within.ranged;
        ends = refl;
        fits = refl;
        argued = type_known output.ty typed;
        height = 1;
        leaves = good.pushes.height 0;
        operand = omega arith;
        low = good.pushes.top 0 64 (omega arith);
        cheap = omega arith;
      }

  pub limit_fits : (value : Expr) → Callable value → FitsPart scope.sizes role.Limit (code_of value scope).piece Limit
  limit_fits value callable =
      let good = fine scope known value in
      let within = limits value callable in
      let less : depth_of value ≤ 32 = within.deep in
      let cost_is = good.cheap in
      let cheap = callable.cheap in record {
        made = good.made within.ranged;
        ends = refl;
        fits = refl;
        argued = refl;
        height = 1;
        leaves = good.pushes.height 0;
        operand = omega arith;
        low = good.pushes.top 0 64 (omega arith);
        cheap = omega arith;
      }

  pub step_fits : (step : Option (List Line)) → IfSome step (λ lines. IsRunnable scope lines) → FitsPart scope.sizes role.Step (step_piece scope step) Done
  step_fits None runnable =
      record { made = refl; ends = refl; fits = refl; argued = refl; height = 0; leaves = refl; operand = omega arith; low = omega arith; cheap = omega arith }
  step_fits (Some lines) runnable =
      let good = fine_lines scope known lines in
      let moves = good.moves runnable.right in
      let cost_is = good.cheap in
      let cheap = runnable.cheap in
      record {
        made = moves.made;
        ends = refl;
        fits = refl;
        argued = refl;
        height = 0;
        leaves = moves.height;
        operand = omega arith;
        low = moves.top;
        cheap =
            omega arith;
      }

  outputs_are : (outputs : List Output) → AllByRecursion (λ (output : Output). AreDecimals output.ty) outputs
      → AllByRecursion (λ (output : Output). Callable output.value) outputs → (number : ℕ) (code : List Instruction)
      → slice_get (map (output_code scope) outputs) number ≡ Some code → IsPieceCode scope.sizes role.Output code
  outputs_are [] typed callable number code is = absurd (cc)
  outputs_are (output ∷ outputs) typed callable zero code is =
      record {
        piece = (code_of output.value scope).piece;
        finish = Give output.ty;
        is = let same : output_code scope output ≡ code = cc in
            sym same;
        fits = output_fits output callable.0 typed.0;
      }
  outputs_are (output ∷ outputs) typed callable (suc number) code is = outputs_are outputs typed.1 callable.1 number code is

  limit_is : (limit : Option Expr) → IfSome limit (λ value. Callable value) → (code : List Instruction) → option_map (limit_code scope) limit ≡ Some code
      → IsPieceCode scope.sizes role.Limit code
  limit_is None callable code is = absurd (cc)
  limit_is (Some value) callable code is =
      record {
        piece = (code_of value scope).piece;
        finish = Limit;
        is = let same : limit_code scope value ≡ code = cc in
            sym same;
        fits = limit_fits value callable;
      }

  step_is : (step : Option (List Line)) → IfSome step (λ lines. IsRunnable scope lines) → (code : List Instruction)
      → Some (part_code (step_piece scope step) Done) ≡ Some code → IsPieceCode scope.sizes role.Step code
  step_is step runnable code is =
      record {
        piece = step_piece scope step;
        finish = Done;
        is = let same : part_code (step_piece scope step) Done ≡ code = cc in
            sym same;
        fits = step_fits step runnable;
      }

pub made_of_pieces : (unit : Unit) (params : List ℤ) → IsCompilable unit params → IsOfPieces (program_of unit params)
made_of_pieces unit params fits =
    let scope = scope_of unit params in
    let known = scope_known unit params fits.types in
    let count : length (map (output_code scope) unit.outputs) ≡ length unit.outputs = length-map unit.outputs (output_code scope) in
    let few : length unit.outputs ≤ 32 = fits.outputs in record {
      outputs = omega arith;
      states = fits.states;
      inputs = fits.inputs;
      locals = fits.locals;
      parts = each;
    }
  where
    each : (from : Entry) (code : List Instruction) → part_at (program_of unit params) from ≡ Some code → IsPieceCode (sizes_of unit) (role_of from) code
    each (entry.Output number) code is =
        outputs_are (scope_of unit params) (scope_known unit params fits.types) unit.outputs fits.output_types fits.values number code is
    each entry.Limit code is = limit_is (scope_of unit params) (scope_known unit params fits.types) unit.max fits.max code is
    each entry.Step code is = step_is (scope_of unit params) (scope_known unit params fits.types) unit.step fits.step code is
