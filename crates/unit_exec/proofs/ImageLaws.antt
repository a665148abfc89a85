-- The words of a valid program are its code.
use Rattle.std.proofs.Common.{◌≡◌, ℕ, ℤ, List, [], ◌∷◌, ◌++◌, map, length, Option, Some, None, slice_get, refl, sym, ap, ◌∙◌, subst}
use Rattle.std.specs.Prelude.{IsSome, IfNone, is_some}
use Rattle.std.specs.List.{AllByRecursion}
use Rattle.std.specs.Option.{IfSome, option_map}
use Rattle.std.proofs.lemmas.List.{length-map}
use Rattle.fixed_words.specs.Types.{AreDecimals}
use Rattle.code_units.specs.Calls.{Computes}
use Rattle.code_units.specs.Scopes.{scope_of}
use Rattle.code_units.specs.UnitPrograms.{output_code, limit_code, program_of, IsCompilable}
use Rattle.code_units.proofs.FitUnits.{made_of_pieces}
use Rattle.code_units.proofs.UnitsCompute.{units_compute}
use Rattle.code_units.proofs.NamesInSlots.{param_variables}
use Rattle.unit_exec.specs.Images.{IsImageOf, HasStarts, HasParams}
use Rattle.unit_exec.proofs.CheckedUnits.{checked_units}
use Rattle.code_pieces.proofs.WholePrograms.{piece_programs_have_facts_lem}
use Rattle.unit_tree.specs.Components.{variable, variables_of, start_word}
use Rattle.unit_tree.specs.Plain.{plain_form}
use Rattle.unit_tree.specs.Printable.{IsRanged}
use Rattle.unit_tree.specs.WellFormed.{IsWellFormed}
use Rattle.unit_tree.specs.declared.environment.Variable.{Variable}
use Rattle.unit_tree.specs.declared.system.System.{System}
use Rattle.unit_tree.specs.declared.unit.Input.{Input}
use Rattle.unit_tree.specs.declared.unit.State.{State}
use Rattle.unit_tree.specs.declared.unit.Unit.{Unit}
use Rattle.unit_vm.specs.Checking.{IsValid, IsNoCode}
use Rattle.unit_vm.specs.Programs.{program_words}
use Rattle.unit_vm.specs.declared.program.Program.{Program}
use Rattle.unit_vm.proofs.RunEndings.{code_is_one_lem}
use Rattle.unit_vm.proofs.ValidCodeReadBack.{reads_back}

pub found_there : (program : Program) (words : List ℤ) (found : Option Program) → IsValid program → words ≡ program_words program
    → IfNone found (IsNoCode words)
    → IsSome found
found_there program words None valid is none = absurd (none valid.0 (record { program = program; written = is; valid = valid.1 }))
found_there program words (Some code) valid is none = refl

pub found_is : (program : Program) (words : List ℤ) (found : Option Program) (code : Program) → IsValid program → words ≡ program_words program
    → IfSome found (λ one. IsValid one × (words ≡ program_words one)) → found ≡ Some code → code ≡ program
found_is program words found code valid is some at =
    let told : IsValid code × (words ≡ program_words code) = let g : IfSome (Some code) (λ one. IsValid one × (words ≡ program_words one)) =
    subst (λ o. IfSome o (λ one. IsValid one × (words ≡ program_words one))) at some in
    g in
    (code_is_one_lem code program told.0.0 valid.0 told.0.1 valid.1 (sym told.1 ∙ is)).program

-- ---- Images

typed_parts : (front behind : List Variable) → AllByRecursion (λ one. AreDecimals one.ty) (front ++ behind)
    → AllByRecursion (λ one. AreDecimals one.ty) front × AllByRecursion (λ one. AreDecimals one.ty) behind
typed_parts [] behind all = (tt, all)
typed_parts (one ∷ front) behind all = let rest = typed_parts front behind all.1 in ((all.0, rest.0), rest.1)

of_mapped : {A : Type 0} (of : A → Variable) (xs : List A) → AllByRecursion (λ one. AreDecimals one.ty) (map of xs)
    → AllByRecursion (λ x. AreDecimals (of x).ty) xs
of_mapped of [] all = tt
of_mapped of (x ∷ xs) all = (all.0, of_mapped of xs all.1)

abbrev state_variables : Unit → List Variable
state_variables unit = map (λ state. variable state.name state.ty) unit.states

abbrev input_variables : Unit → List Variable
input_variables unit = map (λ input. variable input.name input.ty) unit.inputs

abbrev local_variables : Unit → List Variable
local_variables unit = map (λ local. variable local.name local.ty) unit.locals

pub states_typed : (unit : Unit) → AllByRecursion (λ one. AreDecimals one.ty) (variables_of unit)
    → AllByRecursion (λ (state : State). AreDecimals state.ty) unit.states
states_typed unit all =
    let front = (typed_parts ((param_variables unit.params ++ state_variables unit) ++ input_variables unit) (local_variables unit) all).0 in
    let states = (typed_parts (param_variables unit.params) (state_variables unit)
    (typed_parts (param_variables unit.params ++ state_variables unit) (input_variables unit) front).0).1 in
    of_mapped (λ (state : State). variable state.name state.ty) unit.states states

pub inputs_typed : (unit : Unit) → AllByRecursion (λ one. AreDecimals one.ty) (variables_of unit)
    → AllByRecursion (λ (input : Input). AreDecimals input.ty) unit.inputs
inputs_typed unit all =
    let front = (typed_parts ((param_variables unit.params ++ state_variables unit) ++ input_variables unit) (local_variables unit) all).0 in
    of_mapped (λ (input : Input). variable input.name input.ty) unit.inputs
    (typed_parts (param_variables unit.params ++ state_variables unit) (input_variables unit) front).1

some_kept : {A B : Type 0} (f : A → B) (given : Option A) → is_some (option_map f given) ≡ is_some given
some_kept f None = refl
some_kept f (Some x) = refl

pub programs_are_valid : (unit : Unit) (params : List ℤ) (program : Program) → IsCompilable unit params → program ≡ program_of unit params → IsValid program
programs_are_valid unit params program fits is =
    subst IsValid (sym is) (piece_programs_have_facts_lem (program_of unit params) (made_of_pieces unit params fits))

pub image_is : (unit : Unit) (params : List ℤ) (fits : IsCompilable unit params) (program : Program) (start start_inputs : List ℤ)
    → program ≡ program_of unit params → start ≡ map (λ (state : State). start_word state.ty state.start) unit.states
    → start_inputs ≡ map (λ (input : Input). start_word input.ty input.start) unit.inputs
    → IsImageOf (record { unit = unit; params = params }) (record { program = program; start = start; start_inputs = start_inputs })
image_is unit params fits program start start_inputs is starts inputs_start = record {
  is_program = is;
  computes = subst (λ p. Computes p (record { unit = unit; params = params })) (sym is) (units_compute (record { unit = unit; params = params }) fits);
  is_read = let valid = programs_are_valid unit params program fits is in reads_back program valid.0 valid.1;
  sizes = ap (λ (p : Program). p.sizes) is;
  outputs = ap (λ (p : Program). length p.outputs) is ∙ length-map unit.outputs (output_code (scope_of unit params));
  limit = ap (λ (p : Program). is_some p.limit) is ∙ some_kept (limit_code (scope_of unit params)) unit.max;
  starts = starts;
  inputs_start = inputs_start;
}

pub starts_are : (unit : Unit) (params : List ℤ) (program : Program) (start start_inputs : List ℤ) → program ≡ program_of unit params
    → start ≡ map (λ (state : State). start_word state.ty state.start) unit.states
    → start_inputs ≡ map (λ (input : Input). start_word input.ty input.start) unit.inputs
    → HasStarts (record { program = program; start = start; start_inputs = start_inputs })
starts_are unit params program start start_inputs is starts inputs_start = record {
  each_state = ap length starts ∙ length-map unit.states (λ (state : State). start_word state.ty state.start) ∙ sym (ap (λ (p : Program). p.sizes.states) is);
  each_input = ap length inputs_start ∙ length-map unit.inputs (λ (input : Input). start_word input.ty input.start)
      ∙ sym (ap (λ (p : Program). p.sizes.inputs) is);
}

-- ---- Checked systems

pub checked_fits : (system plain : System) (number : ℕ) (unit : Unit) (params : List ℤ) → IsRanged system → IsWellFormed system → plain ≡ plain_form system
    → slice_get plain.units number ≡ Some unit → HasParams system number params → IsCompilable unit params
checked_fits system plain number unit params ranged well is at each =
    let here : slice_get (plain_form system).units number ≡ Some unit = ap (λ (s : System). slice_get s.units number) (sym is) ∙ at in
    let count : length params ≡ length unit.params = let g : IfSome (Some unit) (λ (u : Unit). length params ≡ length u.params) =
    subst (λ o. IfSome o (λ (u : Unit). length params ≡ length u.params)) here each in
    g in
    checked_units system ranged well number unit here params count
