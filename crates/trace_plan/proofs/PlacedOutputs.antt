-- Outputs of a system without event ports, whose names differ: their numbers, their places and their types.
use Rattle.std.proofs.Common.{◌≡◌, ◌≤◌, ℕ, zero, suc, ◌+◌, ◌-◌, Bool, cond, List, [], ◌∷◌, ◌++◌, map, length, Option, Some, None, refl, ap, sym, ◌∙◌, arith}
use Rattle.std.proofs.lemmas.List.{length-map}
use Rattle.std.proofs.lemmas.List.Folds.{find_at}
use Rattle.std.proofs.lemmas.Option.{slice_get-map}
use Rattle.std.specs.Prelude.{slice_get, not}
use Rattle.std.specs.List.{AllByRecursion, flat_map, filter_map, cons_option, find, position_or_len}
use Rattle.std.specs.Option.{option_map, option_and_then}
use Rattle.std.specs.Str.{bytes_eq}
use Rattle.fixed_words.specs.declared.types.Ty.{Ty}
use Rattle.port_solve.specs.Sound.{types_of_places}
use Rattle.trace_csv.specs.Columns.{instance_number, output_number}
use Rattle.trace_plan.specs.Shown.{output_count, starts_from}
use Rattle.unit_tree.specs.Compositions.{Member, HasNoEvents, member_with, composition_of, place_of}
use Rattle.unit_tree.specs.Names.{Port, unit_of_instance, unit_at}
use Rattle.unit_tree.specs.Orders.{port_of, outputs_in, outputs_of}
use Rattle.unit_tree.specs.declared.system.Instance.{Instance}
use Rattle.unit_tree.specs.declared.system.PortName.{PortName}
use Rattle.unit_tree.specs.declared.system.System.{System}
use Rattle.unit_tree.specs.declared.unit.Output.{Output}
use Rattle.unit_tree.specs.declared.unit.Unit.{Unit}
use Rattle.language_laws.proofs.NameLaws.{NamesDiffer, found}
use Rattle.run_laws.proofs.PlaceOrders.{Known, all_known, named_holds, plain_port, ports_plain, outputs_apart, place_is}
use Rattle.list_laws.proofs.Members.{Has, at_front}

-- ---- Lists

at_behind : {A : Type 0} (xs ys : List A) (k n : ℕ) → n ≡ length xs + k → slice_get (xs ++ ys) n ≡ slice_get ys k
at_behind [] ys k n is = ap (slice_get ys) (omega (arith, is))
at_behind (x ∷ xs) ys k zero is = absurd (omega (arith, is))
at_behind (x ∷ xs) ys k (suc n) is = at_behind xs ys k n (omega (arith, is))

position_map : {A B : Type 0} (test : B → Bool) (f : A → B) (xs : List A) → position_or_len test (map f xs) ≡ position_or_len (λ x. test (f x)) xs
position_map test f [] = refl
position_map test f (x ∷ xs) = ap (λ later. cond (not (test (f x))) (1 + later) 0) (position_map test f xs)

-- ---- Places by instance

module _ (system : System) where
  start_there : (instances : List Instance) (count n : ℕ) (instance : Instance) → slice_get instances n ≡ Some instance
      → (start : ℕ) × (slice_get (starts_from system count instances) n ≡ Some start)
  start_there [] count n instance is = absurd (cc)
  start_there (first ∷ instances) count zero instance is = (count, refl)
  start_there (first ∷ instances) count (suc n) instance is = start_there instances (count + output_count (unit_of_instance system first)) n instance is

  start_least : (instances : List Instance) (count n start : ℕ) → slice_get (starts_from system count instances) n ≡ Some start → count ≤ start
  start_least [] count n start is = absurd (cc)
  start_least (first ∷ instances) count zero start is = let same : count ≡ start = cc in omega (arith, same)
  start_least (first ∷ instances) count (suc n) start is =
      let later = start_least instances (count + output_count (unit_of_instance system first)) n start is in
      omega (arith, later)

  -- Lists with as many elements for each instance as it has outputs.
  module _ {A : Type 0} (f : Instance → List A) (same : (instance : Instance) → length (f instance) ≡ output_count (unit_of_instance system instance)) where
    at_start : (instances : List Instance) (count n k start d : ℕ) (instance : Instance) (y : A) → slice_get instances n ≡ Some instance
        → slice_get (starts_from system count instances) n ≡ Some start → start ≡ count + d → slice_get (f instance) k ≡ Some y
        → slice_get (flat_map f instances) (d + k) ≡ Some y
    at_start [] count n k start d instance y is start_is sum at = absurd (cc)
    at_start (first ∷ instances) count zero k start d instance y is start_is sum at =
        let one : first ≡ instance = cc in
        let first_start : count ≡ start = cc in
        let none : d + k ≡ k = omega (arith, sum, first_start) in
        ap (slice_get (f first ++ flat_map f instances)) none
        ∙ at_front (f first) (flat_map f instances) k y (ap (λ (i : Instance). slice_get (f i) k) one ∙ at)
    at_start (first ∷ instances) count (suc n) k start d instance y is start_is sum at =
        let counted = output_count (unit_of_instance system first) in
        let least = start_least instances (count + counted) n start start_is in
        let more : d + k ≡ length (f first) + ((d - counted) + k) = omega (arith, least, sum, same first) in
        let rest : start ≡ (count + counted) + (d - counted) = omega (arith, least, sum) in
        at_behind (f first) (flat_map f instances) ((d - counted) + k) (d + k) more
        ∙ at_start instances (count + counted) n k start (d - counted) instance y is start_is rest at

module _ (system : System) (plain : HasNoEvents system) (differ : NamesDiffer system) where
  known : AllByRecursion Known system.units
  known = all_known system.units plain differ.outputs

  abbrev ports_of : Instance → List PortName
  ports_of instance = map (λ (output : Port). port_of instance output.name) (outputs_in (unit_of_instance system instance))

  abbrev types_by : Option Unit → List Ty
  types_by None = []
  types_by (Some unit) = map (λ (output : Output). output.ty) unit.outputs

  abbrev types_of : Instance → List Ty
  types_of instance = types_by (unit_of_instance system instance)

  ports_by : (instance : Instance) (given : Option Unit) → unit_of_instance system instance ≡ given
      → length (map (λ (output : Port). port_of instance output.name) (outputs_in given)) ≡ output_count given
  ports_by instance None is = refl
  ports_by instance (Some unit) is =
      let unit_known = named_holds Known system.units instance.unit unit known is in
      ap (λ ports. length (map (λ (output : Port). port_of instance output.name) ports)) (ports_plain unit unit_known)
      ∙ length-map (map plain_port unit.outputs) (λ (output : Port). port_of instance output.name)
      ∙ length-map unit.outputs plain_port

  ports_count : (instance : Instance) → length (ports_of instance) ≡ output_count (unit_of_instance system instance)
  ports_count instance = ports_by instance (unit_of_instance system instance) refl

  types_count_by : (given : Option Unit) → length (types_by given) ≡ output_count given
  types_count_by None = refl
  types_count_by (Some unit) = length-map unit.outputs (λ (output : Output). output.ty)

  types_count : (instance : Instance) → length (types_of instance) ≡ output_count (unit_of_instance system instance)
  types_count instance = types_count_by (unit_of_instance system instance)

  abbrev types_in : Member → List Ty
  types_in member = map (λ (output : Output). output.ty) member.component.unit.outputs

  one_types : (instance : Instance) (given : Option Unit) (members : List Member)
      → flat_map types_in (cons_option (member_with system instance given) members) ≡ types_by given ++ flat_map types_in members
  one_types instance None members = refl
  one_types instance (Some unit) members = refl

  all_types : (instances : List Instance)
      → flat_map types_in (filter_map (λ instance. member_with system instance (unit_of_instance system instance)) instances) ≡ flat_map types_of instances
  all_types [] = refl
  all_types (instance ∷ instances) =
      one_types instance (unit_of_instance system instance) (filter_map (λ other. member_with system other (unit_of_instance system other)) instances)
      ∙ ap (λ rest. types_of instance ++ rest) (all_types instances)

  -- What is known of an output by its port.
  pub record Placed (instance : Instance) (unit : Unit) (port : PortName) (made : Output) : Type 0 where
    pub start : ℕ
    pub is_instance : slice_get system.instances (instance_number system port) ≡ Some instance
    pub is_unit : unit_of_instance system instance ≡ Some unit
    pub is_start : slice_get (starts_from system 0 system.instances) (instance_number system port) ≡ Some start
    pub number : output_number system port ≡ position_or_len (λ (output : Output). bytes_eq output.name port.port) unit.outputs
    pub is_output : slice_get unit.outputs (output_number system port) ≡ Some made
    pub place : place_of system port ≡ start + output_number system port
    pub is_place : slice_get (outputs_of system) (place_of system port) ≡ Some port
    pub is_type : slice_get (types_of_places (composition_of system)) (place_of system port) ≡ Some made.ty

  module _ (instance : Instance) (unit : Unit) (made : Output) (instance_has : Has system.instances instance)
      (unit_is : unit_of_instance system instance ≡ Some unit) (has : Has unit.outputs made) where
    abbrev port : PortName
    port = port_of instance made.name

    abbrev n : ℕ
    n = instance_number system port

    abbrev own : ℕ
    own = position_or_len (λ (output : Output). bytes_eq output.name made.name) unit.outputs

    unit_known : Known unit
    unit_known = named_holds Known system.units instance.unit unit known unit_is

    found_instance : find (λ (i : Instance). bytes_eq i.name instance.name) system.instances ≡ Some instance
    found_instance = found (λ (i : Instance). i.name) system.instances instance differ.instances instance_has

    instance_at : slice_get system.instances n ≡ Some instance
    instance_at = sym (find_at (λ (i : Instance). bytes_eq i.name instance.name) system.instances) ∙ found_instance

    own_at : slice_get unit.outputs own ≡ Some made
    own_at = sym (find_at (λ (o : Output). bytes_eq o.name made.name) unit.outputs) ∙ found (λ (o : Output). o.name) unit.outputs made unit_known.apart has

    unit_found : unit_at system port ≡ Some unit
    unit_found = ap (option_and_then (unit_of_instance system)) found_instance ∙ unit_is

    number_is : output_number system port ≡ own
    number_is =
        ap (λ given. position_or_len (λ (output : Port). bytes_eq output.name made.name) (outputs_in given)) unit_found
        ∙ ap (position_or_len (λ (output : Port). bytes_eq output.name made.name)) (ports_plain unit unit_known)
        ∙ position_map (λ (output : Port). bytes_eq output.name made.name) plain_port unit.outputs

    abbrev start : (s : ℕ) × (slice_get (starts_from system 0 system.instances) n ≡ Some s)
    start = start_there system system.instances 0 n instance instance_at

    port_at : slice_get (ports_of instance) own ≡ Some port
    port_at =
        ap (λ given. slice_get (map (λ (output : Port). port_of instance output.name) (outputs_in given)) own) unit_is
        ∙ ap (λ ports. slice_get (map (λ (output : Port). port_of instance output.name) ports) own) (ports_plain unit unit_known)
        ∙ slice_get-map (λ (output : Port). port_of instance output.name) (map plain_port unit.outputs) own
        ∙ ap (option_map (λ (output : Port). port_of instance output.name)) (slice_get-map plain_port unit.outputs own ∙ ap (option_map plain_port) own_at)

    type_at : slice_get (types_of instance) own ≡ Some made.ty
    type_at =
        ap (λ given. slice_get (types_by given) own) unit_is
        ∙ slice_get-map (λ (output : Output). output.ty) unit.outputs own
        ∙ ap (option_map (λ (output : Output). output.ty)) own_at

    stands_at : slice_get (outputs_of system) (start.0 + own) ≡ Some port
    stands_at = at_start system ports_of ports_count system.instances 0 n own start.0 start.0 instance port instance_at start.1 (omega arith) port_at

    place_at : place_of system port ≡ start.0 + own
    place_at = place_is (outputs_of system) (start.0 + own) port (outputs_apart system plain differ) stands_at

    pub placed : Placed instance unit port made
    placed = record {
      start = start.0;
      is_instance = instance_at;
      is_unit = unit_is;
      is_start = start.1;
      number = number_is;
      is_output = ap (slice_get unit.outputs) number_is ∙ own_at;
      place = place_at ∙ ap (λ number. start.0 + number) (sym number_is);
      is_place = ap (slice_get (outputs_of system)) place_at ∙ stands_at;
      is_type =
          ap (slice_get (types_of_places (composition_of system))) place_at
          ∙ ap (λ types. slice_get types (start.0 + own)) (all_types system.instances)
          ∙ at_start system types_of types_count system.instances 0 n own start.0 start.0 instance made.ty instance_at start.1 (omega arith) type_at;
    }
