-- Names that are declared once: what follows from the first rule of a well-formed system for instances and for
-- outputs.
use Rattle.std.proofs.Common.{◌≡◌, ℕ, ◌+◌, Bool, true, false, List, [], ◌∷◌, ◌++◌, append_assoc, map, Option, Some, None, inl, inr, refl, ap, sym, subst, ◌∙◌}
use Rattle.std.proofs.Common.{◌⊎◌}
use Rattle.std.specs.Prelude.{not, is_none, ◌&&◌, ◌||◌, cond, ⊤}
use Rattle.std.specs.List.{AllByRecursion, list_any, flat_map, filter_map, find, enumerate_from, cons_option}
use Rattle.std.specs.Str.{bytes_eq}
use Rattle.std.proofs.lemmas.Grind.{flat_map-append}
use Rattle.std.proofs.lemmas.List.Elements.{filter_map-append}
use Rattle.std.proofs.lemmas.Slice.Eq.{bytes_eq-Decides}
use Rattle.std.proofs.lemmas.Bool.{or_parts}
use Rattle.std.specs.Cmp.Lexicographic.{nat_list_eq_equiv}
use Rattle.unit_tree.specs.Canonical.{optional, unit_parts, canonical_parts}
use Rattle.unit_tree.specs.Names.{Port, output_ports, output_names, input_names, output_uses, keeps_to, are_among, output_at, input_at, same_port}
use Rattle.unit_tree.specs.Parts as parts
use Rattle.unit_tree.specs.Parts.{Part, UnitPart, unit_of}
use Rattle.unit_tree.specs.Sites.{Scope, TopScope, UnitScope, InstanceScope, Site, Headed, alone, sites, headed_unit_part, headed_part, sites_of}
use Rattle.unit_tree.specs.WellFormed.{IsWellFormed, redeclares, misnames, connects_again, input_connected, is_said, says_again, instance_declared}
use Rattle.unit_tree.specs.WellFormed.{name_declared, unit_declared, number_where}
use Rattle.unit_tree.specs.declared.line_form.LineForm.{LineForm}
use Rattle.unit_tree.specs.declared.line_form.LineForm.TheVariants as form
use Rattle.unit_tree.specs.declared.system.Instance.{Instance}
use Rattle.unit_tree.specs.declared.system.PortName.{PortName}
use Rattle.unit_tree.specs.declared.system.System.{System}
use Rattle.unit_tree.specs.declared.system.Wire.{Wire}
use Rattle.unit_tree.specs.declared.unit.EventOut.{EventOut}
use Rattle.unit_tree.specs.declared.unit.Output.{Output}
use Rattle.unit_tree.specs.declared.unit.Unit.{Unit}
use Rattle.language_laws.proofs.PartLaws.{unit_is}
use Rattle.list_laws.proofs.Members.{Has, Distinct, has_front, has_behind, has_map}
use Rattle.list_laws.proofs.Truths.{true_is_false, not_false}

-- ---- Lists whose elements differ

pub same_bytes : (one other : List ℕ) → bytes_eq one other ≡ true → one ≡ other
same_bytes one other is = (bytes_eq-Decides one other).0 is

pub bytes_of : (one other : List ℕ) → one ≡ other → bytes_eq one other ≡ true
bytes_of one other is = (bytes_eq-Decides one other).1 is

-- An element that differs from all of a list is not in it.
pub not_among : {B : Type 0} (same : B → B → Bool) (tells : (one other : B) → one ≡ other → same one other ≡ true) (name : B) (names : List B)
    → list_any (same name) names ≡ false → Has names name → ⊥
not_among same tells name [] none has = has
not_among same tells name (first ∷ names) none (inl is) =
    true_is_false (same name first) (tells name first (sym is)) (or_parts (same name first) (list_any (same name) names) none).0
not_among same tells name (first ∷ names) none (inr has) = not_among same tells name names (or_parts (same name first) (list_any (same name) names) none).1 has

-- The first element with a name is the only one.
pub found_by : {A : Type 0} (name : A → List ℕ) (x first : A) (others : List A) (named : Bool) → bytes_eq (name first) (name x) ≡ named
    → (Has (map name others) (name first) → ⊥) → (first ≡ x) ⊎ Has others x → (Has others x → find (λ y. bytes_eq (name y) (name x)) others ≡ Some x)
    → cond named (Some first) (find (λ y. bytes_eq (name y) (name x)) others) ≡ Some x
found_by name x first others true is apart (inl same) later = ap Some same
found_by name x first others true is apart (inr has) later =
    absurd (apart (subst (Has (map name others)) (sym (same_bytes (name first) (name x) is)) (has_map name others x has)))
found_by name x first others false is apart (inl same) later = true_is_false (bytes_eq (name first) (name x)) (bytes_of (name first) (name x) (ap name same)) is
found_by name x first others false is apart (inr has) later = later has

pub found : {A : Type 0} (name : A → List ℕ) (xs : List A) (x : A) → Distinct (map name xs) → Has xs x → find (λ y. bytes_eq (name y) (name x)) xs ≡ Some x
found name [] x apart has = absurd has
found name (first ∷ others) x apart has =
    found_by name x first others (bytes_eq (name first) (name x)) refl apart.0 has (λ later. found name others x apart.1 later)

-- ---- Lines that keep a rule

pub kept_by : (breaks : Site → Bool) (number : ℕ) (site : Site) (all : List Site) (told : Bool) → breaks site ≡ told
    → cons_option (cond told (Some number) None) (filter_map (number_where breaks) (enumerate_from (number + 1) all)) ≡ []
    → (breaks site ≡ false) × (filter_map (number_where breaks) (enumerate_from (number + 1) all) ≡ [])
kept_by breaks number site all true is none = absurd (cc)
kept_by breaks number site all false is none = (is, none)

pub all_keep : (breaks : Site → Bool) (number : ℕ) (all : List Site) → filter_map (number_where breaks) (enumerate_from number all) ≡ []
    → AllByRecursion (λ site. breaks site ≡ false) all
all_keep breaks number [] none = tt
all_keep breaks number (site ∷ all) none =
    let both = kept_by breaks number site all (breaks site) refl none in
    (both.0, all_keep breaks (number + 1) all both.1)

module _ (P : Site → Type 0) where
  pub all_front : (front behind : List Site) → AllByRecursion P (front ++ behind) → AllByRecursion P front × AllByRecursion P behind
  all_front [] behind all = (tt, all)
  all_front (site ∷ front) behind all = let rest = all_front front behind all.1 in ((all.0, rest.0), rest.1)

  -- The same for lines with their blocks.
  abbrev pub Hold : Scope → List LineForm → List Headed → Type 0
  Hold scope earlier [] = ⊤
  Hold scope earlier (headed ∷ others) =
      P (record { scope = scope; earlier = earlier; line = headed.head }) × AllByRecursion P headed.block × Hold scope (earlier ++ (headed.head ∷ [])) others

  pub hold_all : (scope : Scope) (earlier : List LineForm) (headed : List Headed) → AllByRecursion P (sites scope earlier headed) → Hold scope earlier headed
  hold_all scope earlier [] all = tt
  hold_all scope earlier (first ∷ others) all =
      let parts = all_front first.block (sites scope (earlier ++ (first.head ∷ [])) others) all.1 in
      (all.0, parts.0, hold_all scope (earlier ++ (first.head ∷ [])) others parts.1)

  pub hold_front : (scope : Scope) (earlier : List LineForm) (front behind : List Headed) → Hold scope earlier (front ++ behind) → Hold scope earlier front
  hold_front scope earlier [] behind hold = tt
  hold_front scope earlier (first ∷ front) behind hold = (hold.0, hold.1, hold_front scope (earlier ++ (first.head ∷ [])) front behind hold.2)

  -- With the lines that come before.
  pub hold_behind : (scope : Scope) (earlier : List LineForm) (front behind : List Headed) → Hold scope earlier (front ++ behind)
      → (before : List LineForm) × Hold scope before behind
  hold_behind scope earlier [] behind hold = (earlier, hold)
  hold_behind scope earlier (first ∷ front) behind hold = hold_behind scope (earlier ++ (first.head ∷ [])) front behind hold.2

  module _ {A B : Type 0} (same : B → B → Bool) (tells : (one other : B) → one ≡ other → same one other ≡ true) (head : A → Headed) (name : A → B)
      (asked : LineForm → Option B) (asks : (x : A) → asked (head x).head ≡ Some (name x))
      (unsaid : (site : Site) → P site → is_said same (filter_map asked site.earlier) (asked site.line) ≡ false) where
    -- Declarations in a row have names that differ from each other and from those of earlier lines.
    pub apart : (scope : Scope) (earlier : List LineForm) (xs : List A) → Hold scope earlier (map head xs)
        → Distinct (map name xs) × ((one : B) → Has (map name xs) one → Has (filter_map asked earlier) one → ⊥)
    apart scope earlier [] hold = (tt, λ one has before. has)
    apart scope earlier (x ∷ xs) hold =
        let rest = apart scope (earlier ++ ((head x).head ∷ [])) xs hold.2 in
        let longer : filter_map asked (earlier ++ ((head x).head ∷ [])) ≡ filter_map asked earlier ++ (name x ∷ []) =
        filter_map-append asked earlier ((head x).head ∷ []) ∙ ap (λ told. filter_map asked earlier ++ cons_option told []) (asks x) in
        let others : (one : B) → Has (map name xs) one → Has (filter_map asked earlier ++ (name x ∷ [])) one → ⊥ =
        λ one has before. rest.1 one has (subst (λ names. Has names one) (sym longer) before) in
        let here : Has (filter_map asked earlier) (name x) → ⊥ =
        not_among same tells (name x) (filter_map asked earlier) (sym (ap (is_said same (filter_map asked earlier)) (asks x)) ∙ unsaid _ hold.0) in (
          (λ has. others (name x) has (has_behind (filter_map asked earlier) (name x ∷ []) (name x) (inl refl)), rest.0),
          λ one has before. elim has [
            | inl is ↦ here (subst (Has (filter_map asked earlier)) (sym is) before)
            | inr later ↦ others one later (has_front (filter_map asked earlier) (name x ∷ []) one before)
          ],
        )

-- ---- Instances and outputs

-- The names of instances differ, and so do those of each unit's outputs.
pub record NamesDiffer (system : System) : Type 0 where
  pub instances : Distinct (map (λ instance. instance.name) system.instances)
  pub outputs : AllByRecursion (λ unit. Distinct (map (λ output. output.name) unit.outputs)) system.units

-- The same for all outputs, also event outputs.
pub record PortsDiffer (system : System) : Type 0 where
  pub instances : Distinct (map (λ instance. instance.name) system.instances)
  pub outputs : AllByRecursion (λ unit. Distinct (output_names unit)) system.units

abbrev pub Keeps : System → Site → Type 0
Keeps system site = redeclares system site ≡ false

pub instance_unsaid : (system : System) (site : Site) → Keeps system site
    → is_said bytes_eq (filter_map instance_declared site.earlier) (instance_declared site.line) ≡ false
instance_unsaid system site kept =
    (or_parts (says_again bytes_eq instance_declared site) (says_again bytes_eq name_declared site)
    (or_parts (says_again bytes_eq unit_declared site) (says_again bytes_eq instance_declared site || says_again bytes_eq name_declared site) kept).1).0

pub name_unsaid : (system : System) (site : Site) → Keeps system site
    → is_said bytes_eq (filter_map name_declared site.earlier) (name_declared site.line) ≡ false
name_unsaid system site kept =
    (or_parts (says_again bytes_eq instance_declared site) (says_again bytes_eq name_declared site)
    (or_parts (says_again bytes_eq unit_declared site) (says_again bytes_eq instance_declared site || says_again bytes_eq name_declared site) kept).1).1

abbrev pub instance_head : Instance → Headed
instance_head instance = record {
  head = form.Instance instance.name instance.unit;
  block = sites (InstanceScope instance) [] (map alone (map form.Setting instance.settings ++ (form.End ∷ [])));
}

pub instance_heads : (instances : List Instance) → flat_map headed_part (map parts.HasInstance instances) ≡ map instance_head instances
instance_heads [] = refl
instance_heads (instance ∷ instances) = ap (λ rest. instance_head instance ∷ rest) (instance_heads instances)

-- The declaration of an output.
pub data Declaring : Type 0 where
  OfOutput : Output → Declaring
  OfEvent : EventOut → Declaring

abbrev pub declaring_head : Declaring → Headed
declaring_head (OfOutput output) = alone (form.Output output)
declaring_head (OfEvent event) = alone (form.EventOutput event)

abbrev pub declaring_name : Declaring → List ℕ
declaring_name (OfOutput output) = output.name
declaring_name (OfEvent event) = event.name

pub declaring_asks : (declaring : Declaring) → name_declared (declaring_head declaring).head ≡ Some (declaring_name declaring)
declaring_asks (OfOutput output) = refl
declaring_asks (OfEvent event) = refl

abbrev pub all_declaring : List Output → List EventOut → List Declaring
all_declaring outputs events = map OfOutput outputs ++ map OfEvent events

pub output_heads : (unit : Unit) (outputs : List Output) (events : List EventOut)
    → flat_map (headed_unit_part unit) (map parts.HasOutput outputs ++ map parts.HasEventOut events) ≡ map declaring_head (all_declaring outputs events)
output_heads unit [] [] = refl
output_heads unit [] (event ∷ events) = ap (λ rest. alone (form.EventOutput event) ∷ rest) (output_heads unit [] events)
output_heads unit (output ∷ outputs) events = ap (λ rest. alone (form.Output output) ∷ rest) (output_heads unit outputs events)

abbrev pub ports_declared : List Output → List EventOut → List Port
ports_declared outputs events =
    map (λ output. record { name = output.name; ty = output.ty; is_event = false; needs = output.needs }) outputs
    ++ map (λ event. record { name = event.name; ty = event.ty; is_event = true; needs = event.needs }) events

abbrev pub names_declared : List Output → List EventOut → List (List ℕ)
names_declared outputs events = map (λ (port : Port). port.name) (ports_declared outputs events)

pub declaring_names : (outputs : List Output) (events : List EventOut) → map declaring_name (all_declaring outputs events) ≡ names_declared outputs events
declaring_names [] [] = refl
declaring_names [] (event ∷ events) = ap (λ rest. event.name ∷ rest) (declaring_names [] events)
declaring_names (output ∷ outputs) events = ap (λ rest. output.name ∷ rest) (declaring_names outputs events)

pub plain_apart : (outputs : List Output) (events : List EventOut) → Distinct (names_declared outputs events) → Distinct (map (λ output. output.name) outputs)
plain_apart [] events apart = tt
plain_apart (output ∷ outputs) events apart = (λ has. apart.0 (among_plain outputs has), plain_apart outputs events apart.1)
  where
    among_plain : (others : List Output) → Has (map (λ other. other.name) others) output.name → Has (names_declared others events) output.name
    among_plain [] has = absurd has
    among_plain (other ∷ others) (inl is) = inl is
    among_plain (other ∷ others) (inr has) = inr (among_plain others has)

pub all_plain_apart : (units : List Unit) → AllByRecursion (λ unit. Distinct (output_names unit)) units
    → AllByRecursion (λ unit. Distinct (map (λ output. output.name) unit.outputs)) units
all_plain_apart [] apart = tt
all_plain_apart (unit ∷ units) apart = (plain_apart unit.outputs unit.events_out apart.0, all_plain_apart units apart.1)

-- ---- The lines of outputs, instances and connections

abbrev pub said : Unit → Unit
said unit = unit_of unit.name (unit_parts unit)

abbrev pub wire_head : Wire → Headed
wire_head wire = alone (form.Connect wire)

pub wire_heads : (wires : List Wire) → flat_map headed_part (map parts.Connects wires) ≡ map wire_head wires
wire_heads [] = refl
wire_heads (wire ∷ wires) = ap (λ rest. wire_head wire ∷ rest) (wire_heads wires)

abbrev pub said_units : List Unit → List Part
said_units units = map (λ unit. parts.HasUnit unit.name (unit_parts unit)) units

module _ (P : Site → Type 0) where
  pub drop_last : {A : Type 0} (f : A → List Headed) (scope : Scope) (earlier : List LineForm) (front behind : List A)
      → Hold P scope earlier (flat_map f (front ++ behind)) → Hold P scope earlier (flat_map f front)
  drop_last f scope earlier front behind hold =
      hold_front P scope earlier (flat_map f front) (flat_map f behind) (subst (Hold P scope earlier) (flat_map-append f front behind) hold)

  -- The outputs of a unit, also event outputs.
  pub outputs_hold : (unit : Unit)
      → AllByRecursion P (sites (UnitScope (said unit)) [] (flat_map (headed_unit_part (said unit)) (unit_parts unit) ++ (alone form.End ∷ [])))
      → (before : List LineForm) × Hold P (UnitScope (said unit)) before (map declaring_head (all_declaring unit.outputs unit.events_out))
  outputs_hold unit all =
      let scope : Scope = UnitScope (said unit) in
      let headed : UnitPart → List Headed = headed_unit_part (said unit) in
      let before : List UnitPart =
      optional parts.Resolution unit.resolution ++ map parts.HasParam unit.params ++ map parts.HasState unit.states ++ map parts.HasLocal unit.locals
      ++ map parts.HasInput unit.inputs ++ map parts.HasEventIn unit.events_in in
      let outputs : List UnitPart = map parts.HasOutput unit.outputs in
      let events : List UnitPart = map parts.HasEventOut unit.events_out in
      let greatest : List UnitPart = optional parts.Max unit.max in
      let step : List UnitPart = optional parts.Step unit.step in
      let whole =
      hold_front P scope [] (flat_map headed (unit_parts unit)) (alone form.End ∷ [])
      (hold_all P scope [] (flat_map headed (unit_parts unit) ++ (alone form.End ∷ [])) all) in
      let without_step = drop_last headed scope [] (((before ++ outputs) ++ events) ++ greatest) step whole in
      let without_max = drop_last headed scope [] ((before ++ outputs) ++ events) greatest without_step in
      let parted = subst (λ all_parts. Hold P scope [] (flat_map headed all_parts)) (append_assoc before outputs events) without_max in
      let here =
      hold_behind P scope [] (flat_map headed before) (flat_map headed (outputs ++ events))
      (subst (Hold P scope []) (flat_map-append headed before (outputs ++ events)) parted) in
      (here.0, subst (Hold P scope here.0) (output_heads (said unit) unit.outputs unit.events_out) here.1)

  -- A rule that the lines of a system keep is kept by those of units, instances and connections.
  pub record Kept (system : System) : Type 0 where
    pub units : Hold P TopScope (form.Header system.version ∷ []) (flat_map headed_part (said_units system.units))
    pub before_instances : List LineForm
    pub instances : Hold P TopScope before_instances (map instance_head system.instances)
    pub before_wires : List LineForm
    pub wires : Hold P TopScope before_wires (map wire_head system.wires)

  pub kept_parts : (system : System) → AllByRecursion P (sites_of system) → Kept system
  kept_parts system all =
      let header : List LineForm = form.Header system.version ∷ [] in
      let units : List Part = said_units system.units in
      let instances : List Part = map parts.HasInstance system.instances in
      let wires : List Part = map parts.Connects system.wires in
      let stop : List Part = optional parts.Stop system.stop in
      let longest : List Part = optional parts.Longest system.longest in
      let zero_steps : List Part = optional parts.Zero system.zero in
      let rows : List Part = optional parts.Rows system.rows in
      let samples : List Part = map parts.Samples system.samples in
      let hold = (hold_all P TopScope [] (alone (form.Header system.version) ∷ flat_map headed_part (canonical_parts system)) all).2 in
      let a = drop_last headed_part TopScope header ((((((units ++ instances) ++ wires) ++ stop) ++ longest) ++ zero_steps) ++ rows) samples hold in
      let b = drop_last headed_part TopScope header (((((units ++ instances) ++ wires) ++ stop) ++ longest) ++ zero_steps) rows a in
      let c = drop_last headed_part TopScope header ((((units ++ instances) ++ wires) ++ stop) ++ longest) zero_steps b in
      let d = drop_last headed_part TopScope header (((units ++ instances) ++ wires) ++ stop) longest c in
      let e = drop_last headed_part TopScope header ((units ++ instances) ++ wires) stop d in
      let f = drop_last headed_part TopScope header (units ++ instances) wires e in
      let wired =
      hold_behind P TopScope header (flat_map headed_part (units ++ instances)) (flat_map headed_part wires)
      (subst (Hold P TopScope header) (flat_map-append headed_part (units ++ instances) wires) e) in
      let parted = subst (Hold P TopScope header) (flat_map-append headed_part units instances) f in
      let behind = hold_behind P TopScope header (flat_map headed_part units) (flat_map headed_part instances) parted in
      record {
        units = hold_front P TopScope header (flat_map headed_part units) (flat_map headed_part instances) parted;
        before_instances = behind.0;
        instances = subst (Hold P TopScope behind.0) (instance_heads system.instances) behind.1;
        before_wires = wired.0;
        wires = subst (Hold P TopScope wired.0) (wire_heads system.wires) wired.1;
      }

-- ---- Names

module _ (system : System) where
  pub units_outputs : (units : List Unit) (earlier : List LineForm) → Hold (Keeps system) TopScope earlier (flat_map headed_part (said_units units))
      → AllByRecursion (λ unit. Distinct (output_names unit)) units
  units_outputs [] earlier hold = tt
  units_outputs (unit ∷ units) earlier hold =
      let here = outputs_hold (Keeps system) unit hold.1 in (
        subst Distinct (declaring_names unit.outputs unit.events_out)
            (apart (Keeps system) bytes_eq bytes_of declaring_head declaring_name name_declared declaring_asks (name_unsaid system)
            (UnitScope (said unit)) here.0 (all_declaring unit.outputs unit.events_out) here.1).0,
        units_outputs units (earlier ++ (form.Unit unit.name ∷ [])) hold.2,
      )

  pub ports_differ : IsWellFormed system → PortsDiffer system
  ports_differ kept =
      let held = kept_parts (Keeps system) system (all_keep (redeclares system) 1 (sites_of system) kept.0) in
      record {
        instances =
            (apart (Keeps system) bytes_eq bytes_of instance_head (λ instance. instance.name) instance_declared (λ instance. refl)
            (instance_unsaid system) TopScope held.before_instances system.instances held.instances).0;
        outputs = units_outputs system.units (form.Header system.version ∷ []) held.units;
      }

  pub names_differ : IsWellFormed system → NamesDiffer system
  names_differ kept = let apart = ports_differ kept in record { instances = apart.instances; outputs = all_plain_apart system.units apart.outputs }

-- ---- Needs and connections

-- Each need of an output is an input of its unit, a connection comes from an output, and no two connections have
-- the same input.
pub record Wired (system : System) : Type 0 where
  pub needs : AllByRecursion (λ unit. AllByRecursion (λ output. are_among (input_names unit) output.needs ≡ true) unit.outputs) system.units
  pub from : AllByRecursion (λ wire. is_none (output_at system wire.from) ≡ false) system.wires
  pub once : Distinct (map (λ wire. wire.to) system.wires)

pub same_port_of : (one other : PortName) → one ≡ other → same_port one other ≡ true
same_port_of one other is =
    ap (λ b. b && bytes_eq one.port other.port) (bytes_of one.instance other.instance (ap (λ (p : PortName). p.instance) is))
    ∙ bytes_of one.port other.port (ap (λ (p : PortName). p.port) is)

pub same_port_symm : (one other : PortName) → same_port one other ≡ same_port other one
same_port_symm one other =
    ap (λ told. told && bytes_eq one.port other.port) (nat_list_eq_equiv.symm one.instance other.instance)
    ∙ ap (λ told. bytes_eq other.instance one.instance && told) (nat_list_eq_equiv.symm one.port other.port)

module _ (system : System) where
  abbrev pub Names : Site → Type 0
  Names site = misnames system site.scope site.line ≡ false

  pub outputs_need : (unit : Unit) (before : List LineForm) (outputs : List Output) (events : List EventOut)
      → Hold Names (UnitScope unit) before (map declaring_head (all_declaring outputs events))
      → AllByRecursion (λ output. are_among (input_names unit) output.needs ≡ true) outputs
  outputs_need unit before [] events hold = tt
  outputs_need unit before (output ∷ outputs) events hold = (
    not_false _ (or_parts (not (keeps_to (output_uses unit) output.value)) (not (are_among (input_names unit) output.needs)) hold.0).1,
    outputs_need unit (before ++ (form.Output output ∷ [])) outputs events hold.2,
  )

  pub units_need : (units : List Unit) (earlier : List LineForm) → Hold Names TopScope earlier (flat_map headed_part (said_units units))
      → AllByRecursion (λ unit. AllByRecursion (λ output. are_among (input_names unit) output.needs ≡ true) unit.outputs) units
  units_need [] earlier hold = tt
  units_need (unit ∷ units) earlier hold =
      let here = outputs_hold Names unit hold.1 in (
        subst (λ (u : Unit). AllByRecursion (λ output. are_among (input_names u) output.needs ≡ true) unit.outputs) (unit_is unit)
            (outputs_need (said unit) here.0 unit.outputs unit.events_out here.1),
        units_need units (earlier ++ (form.Unit unit.name ∷ [])) hold.2,
      )

  -- The same for all ports, also those of events.
  pub ports_need : (unit : Unit) (before : List LineForm) (outputs : List Output) (events : List EventOut)
      → Hold Names (UnitScope unit) before (map declaring_head (all_declaring outputs events))
      → AllByRecursion (λ (port : Port). are_among (input_names unit) port.needs ≡ true) (ports_declared outputs events)
  ports_need unit before [] [] hold = tt
  ports_need unit before [] (event ∷ events) hold = (
    not_false _ (or_parts (not (keeps_to (output_uses unit) event.value)) (not (are_among (input_names unit) event.needs)) hold.0).1,
    ports_need unit (before ++ (form.EventOutput event ∷ [])) [] events hold.2,
  )
  ports_need unit before (output ∷ outputs) events hold = (
    not_false _ (or_parts (not (keeps_to (output_uses unit) output.value)) (not (are_among (input_names unit) output.needs)) hold.0).1,
    ports_need unit (before ++ (form.Output output ∷ [])) outputs events hold.2,
  )

  pub units_ports_need : (units : List Unit) (earlier : List LineForm) → Hold Names TopScope earlier (flat_map headed_part (said_units units))
      → AllByRecursion (λ unit. AllByRecursion (λ (port : Port). are_among (input_names unit) port.needs ≡ true) (output_ports unit)) units
  units_ports_need [] earlier hold = tt
  units_ports_need (unit ∷ units) earlier hold =
      let here = outputs_hold Names unit hold.1 in (
        subst (λ (u : Unit). AllByRecursion (λ (port : Port). are_among (input_names u) port.needs ≡ true) (output_ports unit)) (unit_is unit)
            (ports_need (said unit) here.0 unit.outputs unit.events_out here.1),
        units_ports_need units (earlier ++ (form.Unit unit.name ∷ [])) hold.2,
      )

  pub ports_need_inputs : IsWellFormed system
      → AllByRecursion (λ unit. AllByRecursion (λ (port : Port). are_among (input_names unit) port.needs ≡ true) (output_ports unit)) system.units
  ports_need_inputs kept =
      units_ports_need system.units (form.Header system.version ∷ [])
      (kept_parts Names system (all_keep (λ site. misnames system site.scope site.line) 1 (sites_of system) kept.1.0)).units

  pub wires_from : (wires : List Wire) (earlier : List LineForm) → Hold Names TopScope earlier (map wire_head wires)
      → AllByRecursion (λ wire. is_none (output_at system wire.from) ≡ false) wires
  wires_from [] earlier hold = tt
  wires_from (wire ∷ wires) earlier hold = (
    (or_parts (is_none (output_at system wire.from)) (is_none (input_at system wire.to)) hold.0).0,
    wires_from wires (earlier ++ (form.Connect wire ∷ [])) hold.2,
  )

  abbrev pub Once : Site → Type 0
  Once site = connects_again system site ≡ false

  pub is_wired : IsWellFormed system → Wired system
  is_wired kept =
      let named = kept_parts Names system (all_keep (λ site. misnames system site.scope site.line) 1 (sites_of system) kept.1.0) in
      let once = kept_parts Once system (all_keep (connects_again system) 1 (sites_of system) kept.1.1.1.1.1.0) in
      record {
        needs = units_need system.units (form.Header system.version ∷ []) named.units;
        from = wires_from system.wires named.before_wires named.wires;
        once = (apart Once same_port same_port_of wire_head (λ wire. wire.to) input_connected (λ wire. refl)
            (λ site is. is) TopScope once.before_wires system.wires once.wires).0;
      }
