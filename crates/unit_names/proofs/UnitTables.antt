-- What tables give for a unit, by its definitions.
use Rattle.std.proofs.Common.{◌≡◌, ℕ, ◌+◌, Bool, true, false, ◌||◌, List, [], ◌∷◌, ◌++◌, map, Some, is_some, bytes_eq, refl, ap, ◌∙◌, append_assoc}
use Rattle.std.proofs.lemmas.List.{map-append}
use Rattle.std.proofs.lemmas.List.Folds.{list_any-append}
use Rattle.std.proofs.lemmas.Simd.{map-map}
use mathlib.Core.Bool.{cond}
use Rattle.std.specs.List.{find, list_any, position_from}
use Rattle.std.specs.Option.{option_map}
use Rattle.std.specs.Cmp.Lexicographic.{nat_list_eq_equiv}
use Rattle.fixed_words.specs.declared.types.Ty.{Ty}
use Rattle.unit_tree.specs.Components.{variable}
use Rattle.unit_tree.specs.Names.{is_among, declared_in, type_among, type_in, input_ports, output_ports, input_names, output_names, param_names, shared_names}
use Rattle.unit_tree.specs.Names.{param_named, event_input_names}
use Rattle.unit_tree.specs.declared.environment.Variable.{Variable}
use Rattle.unit_tree.specs.declared.unit.Unit.{Unit}
use Rattle.unit_names.specs.Entries.{Named, port_as_named, params_named, locals_named, events_in_named, lines_named, types_named, shared_named}
use Rattle.unit_names.specs.Entries.{all_inputs_named, all_outputs_named}
use Rattle.unit_names.specs.Found.{declared_from, declared_among, declared_names, first_place, port_among}
use Rattle.unit_names.specs.declared.tables.Declared.{Declared}

abbrev name_of : Named → List ℕ
name_of one = one.name

abbrev variable_of : Named → Variable
variable_of one = variable one.name one.ty

abbrev type_of : Declared → Ty
type_of one = one.ty

abbrev place_of : Declared → ℕ
place_of one = one.place

-- ---- One table

stands_from : (place : ℕ) (all : List Named) (q : List ℕ) → is_some (declared_from place all q) ≡ list_any (bytes_eq q) (map name_of all)
stands_from place [] q = refl
stands_from place (first ∷ others) q = step (bytes_eq q first.name) (stands_from (place + 1) others q)
  where
    step : (same : Bool) → is_some (declared_from (place + 1) others q) ≡ list_any (bytes_eq q) (map name_of others)
        → is_some (cond same (Some (record { place = place; ty = first.ty; is_event = first.is_event })) (declared_from (place + 1) others q))
        ≡ (same || list_any (bytes_eq q) (map name_of others))
    step true rest = refl
    step false rest = rest

-- A name is found where it is one of those declared.
pub stands : (all : List Named) (q : List ℕ) → is_some (declared_among all q) ≡ is_among (map name_of all) q
stands all q = stands_from 0 all q

-- It is found at its first place.
pub stands_at : (place : ℕ) (all : List Named) (q : List ℕ)
    → option_map place_of (declared_from place all q) ≡ position_from (bytes_eq q) place (map name_of all)
stands_at place [] q = refl
stands_at place (first ∷ others) q = step (bytes_eq q first.name) (stands_at (place + 1) others q)
  where
    step : (same : Bool) → option_map place_of (declared_from (place + 1) others q) ≡ position_from (bytes_eq q) (place + 1) (map name_of others)
        → option_map place_of (cond same (Some (record { place = place; ty = first.ty; is_event = first.is_event })) (declared_from (place + 1) others q))
        ≡ cond same (Some place) (position_from (bytes_eq q) (place + 1) (map name_of others))
    step true rest = refl
    step false rest = rest

-- It is found with the type of the first declaration that has it.
typed_from : {D : Type 0} (name : D → List ℕ) (ty : D → Ty) (event : Bool) (place : ℕ) (all : List D) (q : List ℕ)
    → option_map type_of (declared_from place (map (λ d. record { name = name d; ty = ty d; is_event = event }) all) q)
    ≡ option_map ty (find (λ d. bytes_eq (name d) q) all)
typed_from name ty event place [] q = refl
typed_from name ty event place (first ∷ others) q =
    step (bytes_eq q (name first)) (bytes_eq (name first) q) (nat_list_eq_equiv.symm q (name first)) (typed_from name ty event (place + 1) others q)
  where
    step : (asked stored : Bool) → asked ≡ stored
        → option_map type_of (declared_from (place + 1) (map (λ d. record { name = name d; ty = ty d; is_event = event }) others) q)
        ≡ option_map ty (find (λ d. bytes_eq (name d) q) others)
        → option_map type_of
        (cond asked (Some (record { place = place; ty = ty first; is_event = event }))
        (declared_from (place + 1) (map (λ d. record { name = name d; ty = ty d; is_event = event }) others) q))
        ≡ option_map ty (cond stored (Some first) (find (λ d. bytes_eq (name d) q) others))
    step true true same rest = refl
    step false false same rest = rest
    step true false same rest = absurd (cc)
    step false true same rest = absurd (cc)

types_from : (place : ℕ) (all : List Named) (q : List ℕ) → option_map type_of (declared_from place all q) ≡ type_among (map variable_of all) q
types_from place [] q = refl
types_from place (first ∷ others) q =
    step (bytes_eq q first.name) (bytes_eq first.name q) (nat_list_eq_equiv.symm q first.name) (types_from (place + 1) others q)
  where
    step : (asked stored : Bool) → asked ≡ stored → option_map type_of (declared_from (place + 1) others q) ≡ type_among (map variable_of others) q
        → option_map type_of (cond asked (Some (record { place = place; ty = first.ty; is_event = first.is_event })) (declared_from (place + 1) others q))
        ≡ option_map (λ (declared : Variable). declared.ty)
        (cond stored (Some (variable_of first)) (find (λ (declared : Variable). bytes_eq declared.name q) (map variable_of others)))
    step true true same rest = refl
    step false false same rest = rest
    step true false same rest = absurd (cc)
    step false true same rest = absurd (cc)

-- ---- The tables of a unit

types_are : (unit : Unit) → map variable_of (types_named unit) ≡ declared_in unit
types_are unit = simp (map-append, map-map, append_assoc)

-- The first declaration, in the order in which types are searched, has the name's type.
pub type_found : (unit : Unit) (q : List ℕ) → option_map type_of (declared_among (types_named unit) q) ≡ type_in unit q
type_found unit q = types_from 0 (types_named unit) q ∙ ap (λ variables. type_among variables q) (types_are unit)

pub param_found : (unit : Unit) (q : List ℕ)
    → option_map type_of (declared_among (params_named unit.params) q) ≡ option_map (λ param. param.ty) (param_named q unit)
param_found unit q = typed_from (λ param. param.name) (λ param. param.ty) false 0 unit.params q

pub line_names : (unit : Unit) → map name_of (lines_named unit) ≡ declared_names unit
line_names unit = simp (map-append, map-map)

-- The first place of a name among all that are declared.
pub place_found : (unit : Unit) (q : List ℕ) → option_map place_of (declared_among (lines_named unit) q) ≡ first_place (declared_names unit) q
place_found unit q = stands_at 0 (lines_named unit) q ∙ ap (λ names. first_place names q) (line_names unit)

pub input_names_are : (unit : Unit) → map name_of (all_inputs_named unit) ≡ input_names unit
input_names_are unit = simp (map-append, map-map)

pub output_names_are : (unit : Unit) → map name_of (all_outputs_named unit) ≡ output_names unit
output_names_are unit = simp (map-append, map-map)

pub shared_names_are : (unit : Unit) → map name_of (shared_named unit) ≡ shared_names unit
shared_names_are unit = simp (map-append, map-map, append_assoc)

pub inputs_are : (unit : Unit) → map port_as_named (input_ports unit) ≡ all_inputs_named unit
inputs_are unit = simp (map-append, map-map)

pub outputs_are : (unit : Unit) → map port_as_named (output_ports unit) ≡ all_outputs_named unit
outputs_are unit = simp (map-append, map-map)

-- ---- In the form of the queries

names_of_each : {D : Type 0} (name : D → List ℕ) (ty : D → Ty) (event : Bool) (all : List D) (q : List ℕ)
    → is_some (declared_among (map (λ d. record { name = name d; ty = ty d; is_event = event }) all) q) ≡ is_among (map name all) q
names_of_each name ty event all q =
    stands (map (λ d. record { name = name d; ty = ty d; is_event = event }) all) q
    ∙ ap (λ names. is_among names q) (map-map name_of (λ d. record { name = name d; ty = ty d; is_event = event }) all)

pub param_stands : (unit : Unit) (q : List ℕ) → is_some (declared_among (params_named unit.params) q) ≡ is_among (param_names unit) q
param_stands unit q = names_of_each (λ param. param.name) (λ param. param.ty) false unit.params q

pub local_stands : (unit : Unit) (q : List ℕ) → is_some (declared_among (locals_named unit.locals) q) ≡ is_among (map (λ local. local.name) unit.locals) q
local_stands unit q = names_of_each (λ local. local.name) (λ local. local.ty) false unit.locals q

pub event_stands : (unit : Unit) (q : List ℕ) → is_some (declared_among (events_in_named unit.events_in) q) ≡ is_among (event_input_names unit) q
event_stands unit q = names_of_each (λ event. event.name) (λ event. event.ty) true unit.events_in q

pub input_stands : (unit : Unit) (q : List ℕ) → is_some (declared_among (all_inputs_named unit) q) ≡ is_among (input_names unit) q
input_stands unit q = stands (all_inputs_named unit) q ∙ ap (λ names. is_among names q) (input_names_are unit)

pub output_stands : (unit : Unit) (q : List ℕ) → is_some (declared_among (all_outputs_named unit) q) ≡ is_among (output_names unit) q
output_stands unit q = stands (all_outputs_named unit) q ∙ ap (λ names. is_among names q) (output_names_are unit)

pub shared_stands : (unit : Unit) (q : List ℕ) → is_some (declared_among (shared_named unit) q) ≡ is_among (shared_names unit) q
shared_stands unit q = stands (shared_named unit) q ∙ ap (λ names. is_among names q) (shared_names_are unit)

pub input_found : (unit : Unit) (q : List ℕ) → port_among (input_ports unit) q ≡ declared_among (all_inputs_named unit) q
input_found unit q = ap (λ all. declared_among all q) (inputs_are unit)

pub output_found : (unit : Unit) (q : List ℕ) → port_among (output_ports unit) q ≡ declared_among (all_outputs_named unit) q
output_found unit q = ap (λ all. declared_among all q) (outputs_are unit)

pub among_three : (one other third : List (List ℕ)) (q : List ℕ)
    → is_among (one ++ other ++ third) q ≡ ((is_among one q || is_among other q) || is_among third q)
among_three one other third q = list_any-append (bytes_eq q) (one ++ other) third ∙ ap (λ b. b || is_among third q) (list_any-append (bytes_eq q) one other)

pub among_two : (one other : List (List ℕ)) (q : List ℕ) → is_among (one ++ other) q ≡ (is_among one q || is_among other q)
among_two one other q = list_any-append (bytes_eq q) one other
