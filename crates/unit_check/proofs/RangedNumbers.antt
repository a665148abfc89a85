-- What a system in range keeps: decimals and resolutions are at most nine.
use Rattle.std.proofs.Common.{◌≡◌, ℕ, ◌≤◌, Bool, true, false, nat_le, List, [], ◌∷◌, ◌++◌, map, Option, Some, None, refl, ap, sym, subst, ◌∙◌, arith}
use mathlib.Core.Bool.{cond}
use Rattle.std.specs.Prelude.{max, pos, ⊤, not, if◌then◌else◌, Ok}
use Rattle.std.specs.List.{AllByRecursion, find, flat_map, fold}
use Rattle.std.specs.Option.{option_map, option_and_then, unwrap_or}
use Rattle.std.specs.Str.{bytes_eq}
use Rattle.std.proofs.lemmas.Grind.{flat_map-append}
use Rattle.fixed_words.specs.Literals.{word_of_literal}
use Rattle.fixed_words.specs.Types.{AreDecimals}
use Rattle.fixed_words.specs.declared.types.Literal.{Literal}
use Rattle.fixed_words.specs.declared.types.Literal.TheVariants as literal
use Rattle.fixed_words.specs.declared.types.Ty.{Ty}
use Rattle.fixed_words.specs.declared.types.Ty.TheVariants as types
use Rattle.super_time.specs.Seconds.{seconds_of}
use Rattle.unit_check.specs.Ranges.{has_few_decimals, has_few_places, word_read, literal_read, is_length_read, mistimes_at}
use Rattle.unit_tree.specs.Canonical.{optional, unit_parts}
use Rattle.unit_tree.specs.Names.{unit_named, unit_of_instance, param_named}
use Rattle.unit_tree.specs.Parts as parts
use Rattle.unit_tree.specs.Parts.{Part, UnitPart, part_forms, unit_part_forms}
use Rattle.unit_tree.specs.Printable.{IsRanged, IsInRange, IsLiteralInRange}
use Rattle.unit_tree.specs.Sites.{Scope, TopScope, UnitScope, StepScope, InstanceScope, sites_of}
use Rattle.unit_tree.specs.WellFormed.{literal_on, is_length, mistimes, resolution_of, unit_resolution}
use Rattle.unit_tree.specs.declared.line_form.LineForm.{LineForm}
use Rattle.unit_tree.specs.declared.line_form.LineForm.TheVariants as form
use Rattle.unit_tree.specs.declared.system.Instance.{Instance}
use Rattle.unit_tree.specs.declared.system.System.{System}
use Rattle.unit_tree.specs.declared.unit.Param.{Param}
use Rattle.unit_tree.specs.declared.unit.Unit.{Unit}
use Rattle.language_laws.proofs.BlockLaws.{canonical_are, parts_behind, unit_part}
use Rattle.language_laws.proofs.PartLaws.{grouped_ten}
use Rattle.language_laws.proofs.SiteLaws as site_laws
use Rattle.list_laws.proofs.Lists.{of_mapped, each_part}

-- ---- Lists

abbrev OfSome : {A : Type 0} → (A → Type 0) → Option A → Type 0
OfSome P None = ⊤
OfSome P (Some x) = P x

found_has : {A : Type 0} (P : A → Type 0) (test : A → Bool) (xs : List A) → AllByRecursion P xs → OfSome P (find test xs)
found_has P test [] all = _
found_has P test (x ∷ xs) all = step (test x) (found_has P test xs all.1)
  where
    step : (met : Bool) → OfSome P (find test xs) → OfSome P (cond met (Some x) (find test xs))
    step true rest = all.0
    step false rest = rest

-- ---- Units

pub record UnitInRange (unit : Unit) : Type 0 where
  pub params : AllByRecursion (λ (param : Param). AreDecimals param.ty) unit.params
  pub resolution : unwrap_or unit.resolution 0 ≤ 9

params_in : (params : List Param) → AllByRecursion IsInRange (flat_map unit_part_forms (map parts.HasParam params))
    → AllByRecursion (λ (param : Param). AreDecimals param.ty) params
params_in [] all = _
params_in (param ∷ params) all = (all.0.0, params_in params all.1)

resolution_in : (given : Option ℕ) → AllByRecursion IsInRange (flat_map unit_part_forms (optional parts.Resolution given)) → unwrap_or given 0 ≤ 9
resolution_in None all = omega arith
resolution_in (Some decimals) all = all.0.0

unit_in : (unit : Unit) → AllByRecursion IsInRange (part_forms (parts.HasUnit unit.name (unit_parts unit))) → UnitInRange unit
unit_in unit all =
    let r : List UnitPart = optional parts.Resolution unit.resolution in
    let p : List UnitPart = map parts.HasParam unit.params in
    let inside = (each_part IsInRange (flat_map unit_part_forms (unit_parts unit)) (form.End ∷ []) all.1).0 in
    let behind : List UnitPart =
    map parts.HasState unit.states
    ++ (map parts.HasLocal unit.locals
    ++ (map parts.HasInput unit.inputs
    ++ (map parts.HasEventIn unit.events_in
    ++ (map parts.HasOutput unit.outputs ++ (map parts.HasEventOut unit.events_out ++ (optional parts.Max unit.max ++ optional parts.Step unit.step)))))) in
    let is : unit_parts unit ≡ r ++ (p ++ behind) =
    grouped_ten r p (map parts.HasState unit.states) (map parts.HasLocal unit.locals) (map parts.HasInput unit.inputs) (map parts.HasEventIn unit.events_in)
    (map parts.HasOutput unit.outputs) (map parts.HasEventOut unit.events_out) (optional parts.Max unit.max) (optional parts.Step unit.step) in
    let parted =
    subst (AllByRecursion IsInRange)
    (ap (flat_map unit_part_forms) is ∙ flat_map-append unit_part_forms r (p ++ behind)
    ∙ ap (λ rest. flat_map unit_part_forms r ++ rest) (flat_map-append unit_part_forms p behind)) inside in
    let first = each_part IsInRange (flat_map unit_part_forms r) (flat_map unit_part_forms p ++ flat_map unit_part_forms behind) parted in
    let second = each_part IsInRange (flat_map unit_part_forms p) (flat_map unit_part_forms behind) first.1 in
    record { params = params_in unit.params second.0; resolution = resolution_in unit.resolution first.0 }

units_from : (units : List Unit) → AllByRecursion IsInRange (flat_map part_forms (map unit_part units)) → AllByRecursion UnitInRange units
units_from [] all = _
units_from (unit ∷ units) all =
    let here = each_part IsInRange (part_forms (unit_part unit)) (flat_map part_forms (map unit_part units)) all in
    (unit_in unit here.0, units_from units here.1)

pub units_in_range : (system : System) → IsRanged system → AllByRecursion UnitInRange system.units
units_in_range system ranged =
    let behind : List Part = map parts.HasInstance system.instances ++ parts_behind system in
    let parted =
    subst (AllByRecursion IsInRange)
    (ap (flat_map part_forms) (canonical_are system) ∙ flat_map-append part_forms (map unit_part system.units) behind) ranged.numbers.1 in
    units_from system.units (each_part IsInRange (flat_map part_forms (map unit_part system.units)) (flat_map part_forms behind) parted).0

pub unit_in_range : (units : List Unit) (name : List ℕ) → AllByRecursion UnitInRange units → OfSome UnitInRange (unit_named units name)
unit_in_range [] name all = _
unit_in_range (unit ∷ units) name all = step (bytes_eq unit.name name) (unit_in_range units name all.1)
  where
    step : (met : Bool) → OfSome UnitInRange (unit_named units name) → OfSome UnitInRange (if met then Some unit else unit_named units name)
    step true rest = all.0
    step false rest = rest

-- ---- Literals

few_decimals : (ty : Ty) → AreDecimals ty → has_few_decimals ty ≡ true
few_decimals (types.Fixed decimals) few = grind (arith)
few_decimals _ few = refl

word_is : (ty : Ty) (value : Literal) → AreDecimals ty → word_read ty value ≡ word_of_literal ty value
word_is ty value few = ap (λ met. if met then word_of_literal ty value else Ok (pos 0)) (few_decimals ty few)

setting_is : (name : List ℕ) (value : Literal) (found : Option Unit) → OfSome UnitInRange found
    → option_map (λ ty. word_read ty value) (option_map (λ (param : Param). param.ty) (option_and_then (param_named name) found))
    ≡ option_map (λ (param : Param). word_of_literal param.ty value) (option_and_then (param_named name) found)
setting_is name value None ranged = refl
setting_is name value (Some unit) ranged =
    step (param_named name unit) (found_has (λ (param : Param). AreDecimals param.ty) (λ param. bytes_eq param.name name) unit.params ranged.params)
  where
    step : (param : Option Param) → OfSome (λ (given : Param). AreDecimals given.ty) param
        → option_map (λ ty. word_read ty value) (option_map (λ (given : Param). given.ty) param)
        ≡ option_map (λ (given : Param). word_of_literal given.ty value) param
    step None few = refl
    step (Some param) few = ap (λ r. Some r) (word_is param.ty value few)

pub literal_is : (system : System) → AllByRecursion UnitInRange system.units → (scope : Scope) (line : LineForm) → IsInRange line
    → literal_read system scope line ≡ literal_on system scope line
literal_is system units scope (form.Param param) ranged = ap (λ r. Some r) (word_is param.ty param.start ranged.0)
literal_is system units scope (form.State state) ranged = ap (λ r. Some r) (word_is state.ty state.start ranged.0)
literal_is system units scope (form.Input input) ranged = ap (λ r. Some r) (word_is input.ty input.start ranged.0)
literal_is system units (InstanceScope instance) (form.Setting setting) ranged =
    setting_is setting.name setting.value (unit_of_instance system instance) (unit_in_range system.units instance.unit units)
literal_is system units TopScope (form.Setting setting) ranged = refl
literal_is system units (UnitScope unit) (form.Setting setting) ranged = refl
literal_is system units (StepScope unit) (form.Setting setting) ranged = refl
literal_is system units scope _ ranged = refl

-- ---- Times

resolution_at_most : (found : Option Unit) → OfSome UnitInRange found → unit_resolution found ≤ 9
resolution_at_most None ranged = omega arith
resolution_at_most (Some unit) ranged = ranged.resolution

greatest_at_most : (least : ℕ) (system : System) (instances : List Instance) → least ≤ 9 → AllByRecursion UnitInRange system.units
    → fold max least (map (λ instance. unit_resolution (unit_of_instance system instance)) instances) ≤ 9
greatest_at_most least system [] few units = few
greatest_at_most least system (instance ∷ instances) few units =
    let here = resolution_at_most (unit_of_instance system instance) (unit_in_range system.units instance.unit units) in
    greatest_at_most (max least (unit_resolution (unit_of_instance system instance))) system instances (omega arith) units

pub resolution_is : (system : System) → AllByRecursion UnitInRange system.units → nat_le (resolution_of system) 9 ≡ true
resolution_is system units = let few : resolution_of system ≤ 9 = greatest_at_most 0 system system.instances (omega arith) units in grind (arith)

places_are_few : (seconds : Literal) → IsLiteralInRange seconds → has_few_places seconds ≡ true
places_are_few (literal.Truth told) few = refl
places_are_few (literal.Number number decimals) few = grind (arith)

length_is : (least : ℕ) (system : System) (seconds : Literal) → AllByRecursion UnitInRange system.units → IsLiteralInRange seconds
    → is_length_read least (resolution_of system) seconds ≡ is_length least (seconds_of (resolution_of system) seconds)
length_is least system seconds units few = rw (resolution_is system units, places_are_few seconds few) refl

pub times_are : (system : System) → AllByRecursion UnitInRange system.units → (line : LineForm) → IsInRange line
    → mistimes_at system line ≡ mistimes system line
times_are system units (form.Stop seconds) ranged = ap not (length_is 0 system seconds units ranged.1)
times_are system units (form.Longest seconds) ranged = ap not (length_is 1 system seconds units ranged.1)
times_are system units _ ranged = refl

-- ---- Lines

pub lines_in_range : (system : System) → IsRanged system → AllByRecursion (λ site. IsInRange site.line) (sites_of system)
lines_in_range system ranged =
    of_mapped IsInRange site_laws.line_at (sites_of system) (subst (AllByRecursion IsInRange) (sym (site_laws.sites_are system)) ranged.numbers)
