-- Names among others, and the output that a port names.
use Rattle.std.proofs.Common.{◌≡◌, ℕ, Bool, true, false, cond, List, [], ◌∷◌, map, Option, Some, None, inl, inr, refl, ap, sym, subst, ◌∙◌}
use Rattle.std.proofs.lemmas.Bool.{and_parts, or_right, or_cases}
use Rattle.std.specs.Prelude.{is_none, ◌||◌}
use Rattle.std.specs.List.{list_any, find}
use Rattle.std.specs.Option.{option_and_then}
use Rattle.std.specs.Str.{bytes_eq}
use Rattle.unit_tree.specs.Names.{Port, output_ports, is_among, are_among, instance_named, unit_of_instance, port_named, output_at}
use Rattle.unit_tree.specs.Orders.{port_of, outputs_in, outputs_of}
use Rattle.unit_tree.specs.declared.system.Instance.{Instance}
use Rattle.unit_tree.specs.declared.system.PortName.{PortName}
use Rattle.unit_tree.specs.declared.system.System.{System}
use Rattle.unit_tree.specs.declared.unit.Unit.{Unit}
use Rattle.language_laws.proofs.NameLaws.{same_bytes, bytes_of}
use Rattle.language_laws.proofs.PlainNames.{has_flat}
use Rattle.list_laws.proofs.Members.{Has}

-- ---- Names among others

pub among : (names : List (List ℕ)) (name : List ℕ) → is_among names name ≡ true → Has names name
among [] name is = absurd (cc)
among (first ∷ names) name is =
    elim (or_cases (bytes_eq name first) (list_any (bytes_eq name) names) is) [
      | inl same ↦ inl (sym (same_bytes name first same))
      | inr later ↦
          inr (among names name later)
    ]

pub has_among : (names : List (List ℕ)) (name : List ℕ) → Has names name → is_among names name ≡ true
has_among [] name has = absurd has
has_among (first ∷ names) name (inl is) = ap (λ b. b || is_among names name) (bytes_of name first (sym is))
has_among (first ∷ names) name (inr has) = or_right (bytes_eq name first) (is_among names name) (has_among names name has)

pub each_among : (names used : List (List ℕ)) (name : List ℕ) → are_among names used ≡ true → Has used name → is_among names name ≡ true
each_among names [] name all has = absurd has
each_among names (first ∷ used) name all (inl is) = subst (λ n. is_among names n ≡ true) is (and_parts (is_among names first) (are_among names used) all).0
each_among names (first ∷ used) name all (inr has) = each_among names used name (and_parts (is_among names first) (are_among names used) all).1 has

pub all_among : (names used : List (List ℕ)) → ((name : List ℕ) → Has used name → Has names name) → are_among names used ≡ true
all_among names [] each = refl
all_among names (first ∷ used) each = rw (has_among names first (each first (inl refl))) (all_among names used (λ name has. each name (inr has)))

-- ---- The output that a port names

abbrev pub ports_in : Instance → List Port → List PortName
ports_in instance ports = map (λ (port : Port). port_of instance port.name) ports

pub named_at : (told : Bool) (first instance : Instance) (instances : List Instance) (name : List ℕ) → bytes_eq first.name name ≡ told
    → (find (λ (i : Instance). bytes_eq i.name name) instances ≡ Some instance → Has instances instance × (instance.name ≡ name))
    → cond told (Some first) (find (λ (i : Instance). bytes_eq i.name name) instances) ≡ Some instance
    → Has (first ∷ instances) instance × (instance.name ≡ name)
named_at true first instance instances name is later found_is =
    let same : first ≡ instance = cc in (inl same, subst (λ (i : Instance). i.name ≡ name) same (same_bytes first.name name is))
named_at false first instance instances name is later found_is = let rest = later found_is in (inr rest.0, rest.1)

pub instance_at : (instances : List Instance) (name : List ℕ) (instance : Instance) → find (λ (i : Instance). bytes_eq i.name name) instances ≡ Some instance
    → Has instances instance × (instance.name ≡ name)
instance_at [] name instance is = absurd (cc)
instance_at (first ∷ instances) name instance is =
    named_at (bytes_eq first.name name) first instance instances name refl (instance_at instances name instance) is

pub port_by : (told : Bool) (instance : Instance) (first : Port) (ports : List Port) (port : PortName) → instance.name ≡ port.instance
    → bytes_eq first.name port.port ≡ told → (is_none (port_named ports port.port) ≡ false → Has (ports_in instance ports) port)
    → is_none (cond told (Some first) (port_named ports port.port)) ≡ false → Has (ports_in instance (first ∷ ports)) port
port_by true instance first ports port instance_is is later some =
    let same : port_of instance first.name ≡ port =
    ap (λ name. record { instance = name; port = first.name }) instance_is
    ∙ ap (λ name. record { instance = port.instance; port = name }) (same_bytes first.name port.port is) in
    inl same
port_by false instance first ports port instance_is is later some = inr (later some)

pub port_there : (instance : Instance) (ports : List Port) (port : PortName) → instance.name ≡ port.instance → is_none (port_named ports port.port) ≡ false
    → Has (ports_in instance ports) port
port_there instance [] port instance_is some = absurd (cc)
port_there instance (first ∷ ports) port instance_is some =
    port_by (bytes_eq first.name port.port) instance first ports port instance_is refl (port_there instance ports port instance_is) some

pub unit_there : (instance : Instance) (given : Option Unit) (port : PortName) → instance.name ≡ port.instance
    → is_none (option_and_then (λ unit. port_named (output_ports unit) port.port) given) ≡ false → Has (ports_in instance (outputs_in given)) port
unit_there instance None port instance_is some = absurd (cc)
unit_there instance (Some unit) port instance_is some = port_there instance (output_ports unit) port instance_is some

module _ (system : System) where
  abbrev pub ports_of : Instance → List PortName
  ports_of instance = ports_in instance (outputs_in (unit_of_instance system instance))

  pub instance_there : (given : Option Instance) (port : PortName) → instance_named system port.instance ≡ given
      → is_none (option_and_then (λ unit. port_named (output_ports unit) port.port) (option_and_then (unit_of_instance system) given)) ≡ false
      → Has (outputs_of system) port
  instance_there None port is some = absurd (cc)
  instance_there (Some instance) port is some =
      let at = instance_at system.instances port.instance instance is in
      has_flat ports_of system.instances instance port at.0 (unit_there instance (unit_of_instance system instance) port at.1 some)

  pub output_has : (port : PortName) → is_none (output_at system port) ≡ false → Has (outputs_of system) port
  output_has port some = instance_there (instance_named system port.instance) port refl some
