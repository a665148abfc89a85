-- Names as the code of a unit knows them. The words of parameters are constants of the code. States, inputs and locals have
-- slots, in this order. The slots of the local time and the step follow.
use Rattle.std.specs.Prelude.{ℕ, suc, ℤ, List, [], ◌∷◌, ◌++◌, map, length, Option}
use Rattle.std.specs.List.{find}
use Rattle.std.specs.Str.{bytes_eq}
use Rattle.code_units.specs.declared.scope.Named.{Named}
use Rattle.code_units.specs.declared.scope.NamePlace.TheVariants.{Constant, Slot}
use Rattle.code_units.specs.declared.scope.CodeScope.{CodeScope}
use Rattle.unit_tree.specs.Components.{variable}
use Rattle.unit_tree.specs.declared.environment.Variable.{Variable}
use Rattle.unit_tree.specs.declared.unit.Param.{Param}
use Rattle.unit_tree.specs.declared.unit.Unit.{Unit}
use Rattle.unit_vm.specs.declared.program.Sizes.{Sizes}

-- Parameters, each with its word.
abbrev pub constants : List Param → List ℤ → List Named
constants (param ∷ params) (word ∷ words) = record { name = param.name; ty = param.ty; place = Constant word } ∷ constants params words
constants _ _ = []

-- Variables in slots that follow one another.
abbrev pub slots_from : ℕ → List Variable → List Named
slots_from slot [] = []
slots_from slot (first ∷ others) = record { name = first.name; ty = first.ty; place = Slot slot } ∷ slots_from (suc slot) others

-- The variables that have slots.
abbrev pub slot_variables : Unit → List Variable
slot_variables unit =
    map (λ state. variable state.name state.ty) unit.states
    ++ (map (λ input. variable input.name input.ty) unit.inputs
    ++ map (λ local. variable local.name local.ty) unit.locals)

abbrev pub sizes_of : Unit → Sizes
sizes_of unit = record { states = length unit.states; inputs = length unit.inputs; locals = length unit.locals }

-- The scope of a unit with these words of its parameters.
abbrev pub scope_of : Unit → List ℤ → CodeScope
scope_of unit params = record {
  names = constants unit.params params ++ slots_from 0 (slot_variables unit);
  sizes = sizes_of unit;
  time = length (slot_variables unit);
  step = suc (length (slot_variables unit));
}

-- The first entry of a name.
abbrev pub named : List Named → List ℕ → Option Named
named names name = find (λ known. bytes_eq known.name name) names
