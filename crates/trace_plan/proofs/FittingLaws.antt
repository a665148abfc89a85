-- What is computed for one instance after the other is what the members need.
use Rattle.std.proofs.Common.{◌≡◌, ◌≤◌, ◌^◌, ◌-◌, ℕ, zero, suc, ◌+◌, ◌<◌, ℤ, pos, List, [], ◌∷◌, ◌++◌, length, map, drop, get_or, true, Some, None, refl, ap}
use Rattle.std.proofs.Common.{sym, subst, ◌∙◌, arith, append_assoc, append-nil}
use Rattle.std.proofs.lemmas.List.{length-map}
use Rattle.std.proofs.lemmas.Option.{slice_get_read}
use Rattle.std.specs.Prelude.{slice_get, unwrap_or, cond}
use Rattle.std.specs.List.{AllByRecursion, AllZip, filter_map, cons_option}
use Rattle.std.specs.Option.{IfSome}
use Rattle.std.specs.Str.{bytes_eq}
use Rattle.fixed_words.specs.Types.{lowest, highest, AreDecimals}
use Rattle.port_solve.proofs.InputsSet.{left}
use Rattle.trace_plan.specs.Fitting.{IsUnitNamed, IsFittedFor, AreImagesOf, tells_max}
use Rattle.trace_plan.specs.Keeps.{IsFitted}
use Rattle.trace_plan.specs.Plans.{has_max}
use Rattle.trace_plan.specs.declared.fitting.Fitted.{Fitted}
use Rattle.trace_plan.specs.declared.fitting.Made.{Made}
use Rattle.unit_exec.specs.Images.{Compiled, IsImageOf, IsCompiled, HasParams}
use Rattle.unit_exec.proofs.CheckedUnits.{checked_units}
use Rattle.unit_tree.specs.Components.{variable, start_word}
use Rattle.unit_tree.specs.Compositions.{Member, literal_set, component_with, member_with, source_of, factor_of}
use Rattle.unit_tree.specs.Names.{unit_named, unit_of_instance}
use Rattle.unit_tree.specs.Plain.{plain_form}
use Rattle.unit_tree.specs.Printable.{IsRanged}
use Rattle.unit_tree.specs.WellFormed.{IsWellFormed, resolution_of}
use Rattle.unit_tree.specs.declared.environment.Variable.{Variable}
use Rattle.unit_tree.specs.declared.system.Instance.{Instance}
use Rattle.unit_tree.specs.declared.system.System.{System}
use Rattle.unit_tree.specs.declared.unit.Input.{Input}
use Rattle.unit_tree.specs.declared.unit.Param.{Param}
use Rattle.unit_tree.specs.declared.unit.Unit.{Unit}

-- ---- Parameters

front_typed : (front behind : List Variable) → AllByRecursion (λ one. AreDecimals one.ty) (front ++ behind) → AllByRecursion (λ one. AreDecimals one.ty) front
front_typed [] behind all = tt
front_typed (one ∷ front) behind all = (all.0, front_typed front behind all.1)

of_params : (params : List Param) → AllByRecursion (λ (one : Variable). AreDecimals one.ty) (map (λ (param : Param). variable param.name param.ty) params)
    → AllByRecursion (λ (param : Param). AreDecimals param.ty) params
of_params [] all = tt
of_params (param ∷ params) all = (all.0, of_params params all.1)

pub params_typed : (system : System) → IsRanged system → IsWellFormed system → (number : ℕ) (unit : Unit)
    → slice_get (plain_form system).units number ≡ Some unit → AllByRecursion (λ (param : Param). AreDecimals param.ty) unit.params
params_typed system ranged kept number unit is =
    let some_words : List ℤ = map (λ (param : Param). pos 0) unit.params in
    let fits = checked_units system ranged kept number unit is some_words (length-map unit.params (λ (param : Param). pos 0)) in
    let params : List Variable = map (λ (param : Param). variable param.name param.ty) unit.params in
    let states : List Variable = map (λ state. variable state.name state.ty) unit.states in
    let inputs : List Variable = map (λ input. variable input.name input.ty) unit.inputs in
    let locals : List Variable = map (λ local. variable local.name local.ty) unit.locals in
    of_params unit.params (front_typed params states (front_typed (params ++ states) inputs (front_typed ((params ++ states) ++ inputs) locals fits.types)))

pub has_params : (system : System) (number : ℕ) (unit : Unit) (words : List ℤ) → slice_get (plain_form system).units number ≡ Some unit
    → length words ≡ length unit.params → HasParams system number words
has_params system number unit words at count = subst (λ given. IfSome given (λ (u : Unit). length words ≡ length u.params)) (sym at) count

-- ---- One instance

pub unit_at : (system made : System) (number : ℕ) (unit : Unit) → made ≡ plain_form system → slice_get made.units number ≡ Some unit
    → slice_get (plain_form system).units number ≡ Some unit
unit_at system made number unit is at = ap (λ (s : System). slice_get s.units number) (sym is) ∙ at

pub image_of : (system : System) (number : ℕ) (unit : Unit) (settings : List _) (words : List ℤ) (image : Compiled)
    → slice_get (plain_form system).units number ≡ Some unit → words ≡ map (λ param. start_word param.ty (literal_set settings param)) unit.params
    → IsCompiled system number words image → IsImageOf (component_with settings unit) image
image_of system number unit settings words image at are compiled =
    let here : IsImageOf (record { unit = unit; params = words }) image =
    let g : IfSome (Some unit) (λ (u : Unit). IsImageOf (record { unit = u; params = words }) image) =
    subst (λ given. IfSome given (λ (u : Unit). IsImageOf (record { unit = u; params = words }) image)) at compiled in
    g in
    subst (λ params. IsImageOf (record { unit = unit; params = params }) image) are here

pub fits_for : (system : System) (instance : Instance) (unit : Unit) (fitted : Fitted) → unit_named system.units instance.unit ≡ Some unit
    → IsImageOf (component_with instance.settings unit) fitted.image.value
    → fitted.factor ≡ 10 ^ (resolution_of system - unwrap_or unit.resolution 0) → 1 ≤ fitted.factor → fitted.factor ≤ 10 ^ 9
    → fitted.low.items ≡ map (λ (input : Input). lowest input.ty) unit.inputs → fitted.high.items ≡ map (λ (input : Input). highest input.ty) unit.inputs
    → IsFittedFor system instance fitted
fits_for system instance unit fitted is image factor least coarsest low high = record {
  member = record { component = component_with instance.settings unit; factor = factor_of system unit; sources = map (source_of system instance) unit.inputs };
  is = ap (member_with system instance) is;
  fits = record { image = image; factor = factor; least = least; coarsest = coarsest; low = low; high = high };
}

-- ---- One instance after the other

abbrev pub members_from : System → List Instance → List Member
members_from system instances = filter_map (λ instance. member_with system instance (unit_of_instance system instance)) instances

-- The elements so far are those of the instances before some place. With those of the instances from there on, they are all.
abbrev pub IsFront : System → List Instance → ℕ → List Fitted → Type 0
IsFront system instances place all =
    (rest : List Fitted) → AllZip IsFitted (members_from system (drop place instances)) rest → AllZip IsFitted (members_from system instances) (all ++ rest)

pub none_yet : (system : System) (instances : List Instance) (all : List Fitted) → all ≡ [] → IsFront system instances 0 all
none_yet system instances all none rest each = subst (λ front. AllZip IsFitted (members_from system instances) (front ++ rest)) (sym none) each

module _ (system : System) (instances : List Instance) (place : ℕ) (instance : Instance) (all : List Fitted) (within : place < length instances)
    (is : instance ≡ get_or instances place instance) (front : IsFront system instances place all) where
  from_here : drop place instances ≡ instance ∷ drop (place + 1) instances
  from_here = left instances place instance within ∙ ap (λ first. first ∷ drop (place + 1) instances) (sym is)

  abbrev others : List Member
  others = members_from system (drop (place + 1) instances)

  pub one_more : (one : Fitted) → IsFittedFor system instance one → (grown now : List Fitted) → grown ≡ all ++ one ∷ [] → now ≡ grown
      → IsFront system instances (place + 1) now
  one_more one fits grown now grown_is now_is rest each =
      subst (AllZip IsFitted (members_from system instances)) (sym (ap (λ some. some ++ rest) (now_is ∙ grown_is) ∙ append_assoc all (one ∷ []) rest))
      (front (one ∷ rest) (subst (λ (some : List Instance). AllZip IsFitted (members_from system some) (one ∷ rest)) (sym from_here)
      (subst (λ found. AllZip IsFitted (cons_option found others) (one ∷ rest)) (sym fits.is) (fits.fits, each))))

  pub left_out : unit_named system.units instance.unit ≡ None → (now : List Fitted) → now ≡ all → IsFront system instances (place + 1) now
  left_out none now now_is rest each =
      subst (λ some. AllZip IsFitted (members_from system instances) (some ++ rest)) (sym now_is)
      (front rest (subst (λ (some : List Instance). AllZip IsFitted (members_from system some) rest) (sym from_here)
      (subst (λ found. AllZip IsFitted (cons_option (member_with system instance found) others) rest) (sym none) each)))

drop_past : (all : List Instance) (k : ℕ) → length all ≤ k → drop k all ≡ []
drop_past [] zero past = refl
drop_past [] (suc k) past = refl
drop_past (first ∷ all) zero past = absurd (omega (arith, past))
drop_past (first ∷ all) (suc k) past = drop_past all k (omega (arith, past))

pub all_there : (system : System) (instances : List Instance) (place : ℕ) (all : List Fitted) → length instances ≤ place → IsFront system instances place all
    → AllZip IsFitted (members_from system instances) all
all_there system instances place all past front =
    let none : AllZip IsFitted (members_from system (drop place instances)) [] =
    subst (λ some. AllZip IsFitted (members_from system some) []) (sym (drop_past instances place past)) tt in
    subst (AllZip IsFitted (members_from system instances)) (append-nil all) (front [] none)

-- ---- The unit of a name

pub named_here : (units : List Unit) (name : List ℕ) (place : ℕ) (unit : Unit) → place < length units → unit ≡ get_or units place unit
    → unit_named (drop place units) name ≡ unit_named units name → bytes_eq unit.name name ≡ true → IsUnitNamed units name place
named_here units name place unit within is later named = record {
  unit = unit;
  at = slice_get_read units (length units) place unit refl within is;
  is =
      sym later
      ∙ ap (λ some. unit_named some name) (left units place unit within)
      ∙ ap (λ (u : Unit). cond (bytes_eq u.name name) (Some u) (unit_named (drop (place + 1) units) name)) (sym is)
      ∙ ap (λ same. cond same (Some unit) (unit_named (drop (place + 1) units) name)) named;
}

-- ---- Images that were made

pub made_at : (system : System) (made : List Made) (place unit : ℕ) (params : List ℤ) (one : Made) → place < length made → one ≡ get_or made place one
    → one.unit ≡ unit → one.params.items ≡ params → AreImagesOf system made → IsCompiled system unit params one.image.value
made_at system [] place unit params one within is same_unit same_params are = absurd (omega (arith, within))
made_at system (first ∷ made) zero unit params one within is same_unit same_params are =
    let here : IsCompiled system one.unit one.params.items one.image.value =
    subst (λ (m : Made). IsCompiled system m.unit m.params.items m.image.value) (sym is) are.0 in
    subst (λ n. IsCompiled system n params one.image.value) same_unit (subst (λ xs. IsCompiled system one.unit xs one.image.value) same_params here)
made_at system (first ∷ made) (suc place) unit params one within is same_unit same_params are =
    made_at system made place unit params one (omega (arith, within)) is same_unit same_params are.1

-- ---- Those that set a limit

pub fitted_limits : (members : List Member) (fitted : List Fitted) → AllZip IsFitted members fitted → map tells_max fitted ≡ map has_max members
fitted_limits [] [] each = refl
fitted_limits [] (one ∷ fitted) each = absurd each
fitted_limits (member ∷ members) [] each = absurd each
fitted_limits (member ∷ members) (one ∷ fitted) each =
    ap (λ so. so ∷ map tells_max fitted) each.0.image.limit ∙ ap (λ rest. has_max member ∷ rest) (fitted_limits members fitted each.1)
