-- Each output of a well-formed system has its canonical line.
use Rattle.std.proofs.Common.{◌≡◌, ℕ, ◌+◌, Bool, true, false, cond, List, [], ◌∷◌, ◌++◌, append_assoc, map, Option, Some, None, ◌⊎◌, inl, inr, refl, ap, sym}
use Rattle.std.proofs.Common.{subst, ◌∙◌}
use Rattle.std.specs.Prelude.{◌||◌}
use Rattle.std.specs.List.{AllByRecursion, flat_map, filter_map, cons_option, list_any, find, enumerate_from}
use Rattle.std.specs.Option.{option_map, option_and_then}
use Rattle.std.specs.Str.{bytes_eq}
use Rattle.std.proofs.lemmas.List.{append-nil, map-append}
use Rattle.std.proofs.lemmas.Slice.Eq.{bytes_eq-Decides}
use Rattle.std.proofs.lemmas.Bool.{or_parts}
use Rattle.unit_tree.specs.Canonical.{optional, unit_parts, canonical_parts}
use Rattle.unit_tree.specs.Names.{Port, output_ports, unit_named, unit_of_instance, instance_named, unit_at}
use Rattle.unit_tree.specs.Orders.{IsIn, port_of, outputs_in, outputs_of, declares_output, line_of_output}
use Rattle.unit_tree.specs.Parts as parts
use Rattle.unit_tree.specs.Parts.{UnitPart, unit_of}
use Rattle.unit_tree.specs.Sites.{Scope, TopScope, UnitScope, Site, Headed, alone, sites, headed_unit_part, headed_part, sites_of}
use Rattle.unit_tree.specs.WellFormed.{IsWellFormed, redeclares, instance_declared, unit_declared, name_declared, says_again}
use Rattle.unit_tree.specs.declared.line_form.LineForm.{LineForm}
use Rattle.unit_tree.specs.declared.line_form.LineForm.TheVariants as form
use Rattle.unit_tree.specs.declared.system.Instance.{Instance}
use Rattle.unit_tree.specs.declared.system.PortName.{PortName}
use Rattle.unit_tree.specs.declared.system.System.{System}
use Rattle.unit_tree.specs.declared.unit.Unit.{Unit}
use Rattle.language_laws.proofs.BlockLaws.{heads, site_at, headed_of, in_unit, unit_part, parts_behind, each_front, one_more, each_headed}
use Rattle.language_laws.proofs.BlockLaws.{canonical_are}
use Rattle.language_laws.proofs.PartLaws.{grouped_ten, unit_is}
use Rattle.list_laws.proofs.Lists.{each_so, of_mapped, front_of, back_of, of_flat, each_append}
use Rattle.list_laws.proofs.Truths.{other_fails}
use Rattle.language_laws.proofs.NameLaws.{all_keep}

-- ---- A fact of each element

-- ---- No line breaks a rule

pub kept_on : (test : Bool) (number : ℕ) (rest : List ℕ) → cons_option (cond test (Some number) None) rest ≡ [] → (test ≡ false) × (rest ≡ [])
kept_on true number rest none = absurd (cc none)
kept_on false number rest none = (refl, none)

-- A fact of all sites is true of that of each head.
pub each_at_head : (P : Site → Type 0) (scope : Scope) (earlier : List LineForm) (front : List Headed) (this : Headed) (others : List Headed)
    → AllByRecursion P (sites scope earlier (front ++ (this ∷ others))) → P (site_at scope earlier front this)
each_at_head P scope earlier [] this others all = subst (λ e. P (record { scope = scope; earlier = e; line = this.head })) (sym (append-nil earlier)) all.0
each_at_head P scope earlier (first ∷ front) this others all =
    subst P (one_more scope earlier first front this)
    (each_at_head P scope (earlier ++ (first.head ∷ [])) front this others
    (back_of P first.block (sites scope (earlier ++ (first.head ∷ [])) (front ++ (this ∷ others))) all.1))

pub all_heads : (Q : Scope → LineForm → Type 0) (scope : Scope) (earlier : List LineForm) (headed : List Headed)
    → AllByRecursion (λ site. Q site.scope site.line) (sites scope earlier headed)
    → AllByRecursion (λ one. Q scope one.head × AllByRecursion (λ site. Q site.scope site.line) one.block) headed
all_heads Q scope earlier [] all = _
all_heads Q scope earlier (first ∷ others) all = (
  (all.0, front_of (λ site. Q site.scope site.line) first.block (sites scope (earlier ++ (first.head ∷ [])) others) all.1),
  all_heads Q scope (earlier ++ (first.head ∷ [])) others
      (back_of (λ site. Q site.scope site.line) first.block (sites scope (earlier ++ (first.head ∷ [])) others) all.1),
)

-- ---- Instances have names of their own

pub names_before : (units : List Unit) (instances : List Instance)
    → filter_map instance_declared (heads (map headed_of (map unit_part units ++ map parts.HasInstance instances))) ≡ map (λ instance. instance.name) instances
names_before [] [] = refl
names_before [] (instance ∷ instances) = ap (λ rest. instance.name ∷ rest) (names_before [] instances)
names_before (unit ∷ units) instances = names_before units instances

pub middle_false : (one two three : Bool) → (one || (two || three)) ≡ false → two ≡ false
middle_false true two three none = absurd (cc none)
middle_false false true three none = absurd (cc none)
middle_false false false three none = refl

-- No instance before this one has its name.
pub fresh : (system : System) (before later : List Instance) (instance : Instance) → AllByRecursion (λ site. redeclares system site ≡ false) (sites_of system)
    → system.instances ≡ before ++ (instance ∷ later) → list_any (bytes_eq instance.name) (map (λ one. one.name) before) ≡ false
fresh system before later instance kept cut =
    let front = alone (form.Header system.version) ∷ map headed_of (map unit_part system.units ++ map parts.HasInstance before) in
    let others = map headed_of (map parts.HasInstance later ++ parts_behind system) in
    let parts_are : canonical_parts system
    ≡ (map unit_part system.units ++ map parts.HasInstance before) ++ (parts.HasInstance instance ∷ (map parts.HasInstance later ++ parts_behind system)) =
    canonical_are system
    ∙ ap (λ all. map unit_part system.units ++ (map parts.HasInstance all ++ parts_behind system)) cut
    ∙ ap (λ all. map unit_part system.units ++ (all ++ parts_behind system)) (map-append parts.HasInstance before (instance ∷ later))
    ∙ ap (λ all. map unit_part system.units ++ all)
    (append_assoc (map parts.HasInstance before) (parts.HasInstance instance ∷ map parts.HasInstance later) (parts_behind system))
    ∙ sym (append_assoc (map unit_part system.units) (map parts.HasInstance before)
    (parts.HasInstance instance ∷ (map parts.HasInstance later ++ parts_behind system))) in
    let heads_are : alone (form.Header system.version) ∷ flat_map headed_part (canonical_parts system)
    ≡ front ++ (headed_of (parts.HasInstance instance) ∷ others) =
    ap (λ all. alone (form.Header system.version) ∷ all)
    (each_headed (canonical_parts system) ∙ ap (map headed_of) parts_are
    ∙ map-append headed_of (map unit_part system.units ++ map parts.HasInstance before)
    (parts.HasInstance instance ∷ (map parts.HasInstance later ++ parts_behind system))) in
    let here =
    each_at_head (λ site. redeclares system site ≡ false) TopScope [] front (headed_of (parts.HasInstance instance)) others
    (subst (λ all. AllByRecursion (λ site. redeclares system site ≡ false) (sites TopScope [] all)) heads_are kept) in
    let not_said =
    middle_false (says_again bytes_eq unit_declared (site_at TopScope [] front (headed_of (parts.HasInstance instance))))
    (says_again bytes_eq instance_declared (site_at TopScope [] front (headed_of (parts.HasInstance instance))))
    (says_again bytes_eq name_declared (site_at TopScope [] front (headed_of (parts.HasInstance instance)))) here in
    ap (list_any (bytes_eq instance.name)) (sym (names_before system.units before)) ∙ not_said

pub same_name : (name : List ℕ) → bytes_eq name name ≡ true
same_name name = (bytes_eq-Decides name name).1 refl

pub turned : (test : Bool) (one other : List ℕ) → bytes_eq one other ≡ test → bytes_eq other one ≡ false → test ≡ false
turned true one other is none =
    let same : one ≡ other = (bytes_eq-Decides one other).0 is in
    let told : bytes_eq other one ≡ true = (bytes_eq-Decides other one).1 (sym same) in
    absurd (cc (told, none))
turned false one other is none = refl

pub first_named : (before later : List Instance) (instance : Instance) → list_any (bytes_eq instance.name) (map (λ one. one.name) before) ≡ false
    → find (λ one. bytes_eq one.name instance.name) (before ++ (instance ∷ later)) ≡ Some instance
first_named [] later instance none = ap (λ test. cond test (Some instance) (find (λ one. bytes_eq one.name instance.name) later)) (same_name instance.name)
first_named (first ∷ before) later instance none =
    let both = or_parts (bytes_eq instance.name first.name) (list_any (bytes_eq instance.name) (map (λ one. one.name) before)) none in
    let apart : bytes_eq first.name instance.name ≡ false = turned (bytes_eq first.name instance.name) first.name instance.name refl both.0 in
    ap (λ test. cond test (Some first) (find (λ one. bytes_eq one.name instance.name) (before ++ (instance ∷ later)))) apart
    ∙ first_named before later instance both.1

-- ---- Which output a port names

pub record FromInstance (system : System) (instances : List Instance) (port : PortName) : Type 0 where
  pub before : List Instance
  pub instance : Instance
  pub later : List Instance
  pub cut : instances ≡ before ++ (instance ∷ later)
  pub is_in : IsIn (map (λ output. port_of instance output.name) (outputs_in (unit_of_instance system instance))) port

pub in_two : (xs ys : List PortName) (port : PortName) → IsIn (xs ++ ys) port → IsIn xs port ⊎ IsIn ys port
in_two [] ys port stands = inr stands
in_two (x ∷ xs) ys port (inl is) = inl (inl is)
in_two (x ∷ xs) ys port (inr later) = elim (in_two xs ys port later) [
  | inl here ↦ inl (inr here)
  | inr there ↦ inr there
]

pub from_instance : (system : System) (instances : List Instance) (port : PortName)
    → IsIn (flat_map (λ instance. map (λ output. port_of instance output.name) (outputs_in (unit_of_instance system instance))) instances) port
    → FromInstance system instances port
from_instance system [] port stands = absurd stands
from_instance system (first ∷ instances) port stands =
    elim (in_two (map (λ output. port_of first output.name) (outputs_in (unit_of_instance system first))) _ port stands) [
      | inl here ↦ record { before = []; instance = first; later = instances; cut = refl; is_in = here }
      | inr there ↦
          let found = from_instance system instances port there in
          record { before = first ∷ found.before; instance = found.instance; later = found.later; cut = ap (λ all. first ∷ all) found.cut; is_in = found.is_in }
    ]

-- Where no port of the list has the name, the port is not in the list.
pub not_among : (instance : Instance) (ports : List Port) (port : PortName) → AllByRecursion (λ one. bytes_eq one.name port.port ≡ false) ports
    → IsIn (map (λ output. port_of instance output.name) ports) port → ⊥
not_among instance [] port none stands = stands
not_among instance (one ∷ ports) port none (inl is) =
    let same : one.name ≡ port.port = ap (λ p. p.port) is in
    let told : bytes_eq one.name port.port ≡ true = (bytes_eq-Decides one.name port.port).1 same in
    absurd (cc (told, none.0))
not_among instance (one ∷ ports) port none (inr later) = not_among instance ports port none.1 later

pub named_instance : (instance : Instance) (ports : List Port) (port : PortName) → IsIn (map (λ output. port_of instance output.name) ports) port
    → port.instance ≡ instance.name
named_instance instance [] port stands = absurd stands
named_instance instance (one ∷ ports) port (inl is) = ap (λ p. p.instance) (sym is)
named_instance instance (one ∷ ports) port (inr later) = named_instance instance ports port later

pub record Member (units : List Unit) (unit : Unit) : Type 0 where
  pub before : List Unit
  pub later : List Unit
  pub cut : units ≡ before ++ (unit ∷ later)

pub member : (units : List Unit) (name : List ℕ) (unit : Unit) → unit_named units name ≡ Some unit → Member units unit
member [] name unit is = absurd (cc is)
member (first ∷ units) name unit is = by_test (bytes_eq first.name name) is (member units name unit)
  where
    by_test : (test : Bool) → cond test (Some first) (unit_named units name) ≡ Some unit → (unit_named units name ≡ Some unit → Member units unit)
        → Member (first ∷ units) unit
    by_test true is later = let here : first ≡ unit = cc in record { before = []; later = units; cut = ap (λ one. one ∷ units) here }
    by_test false is later = let found = later is in record { before = first ∷ found.before; later = found.later; cut = ap (λ all. first ∷ all) found.cut }

-- ---- The lines of a unit's outputs

abbrev pub Unnamed : List ℕ → Unit → Scope → LineForm → Type 0
Unnamed name unit scope line = declares_output name (Some unit) scope line ≡ false

pub mapped : {A B : Type 0} (P : B → Type 0) (f : A → B) (xs : List A) → AllByRecursion (λ x. P (f x)) xs → AllByRecursion P (map f xs)
mapped P f [] all = _
mapped P f (x ∷ xs) all = (all.0, mapped P f xs all.1)

-- Where no line of the unit declares an output of the name, no output of the unit has it.
pub no_output : (name : List ℕ) (unit : Unit) → AllByRecursion (λ site. Unnamed name unit site.scope site.line) (headed_of (unit_part unit)).block
    → AllByRecursion (λ one. bytes_eq one.name name ≡ false) (output_ports unit)
no_output name unit none =
    let said = unit_of unit.name (unit_parts unit) in
    let P = λ (one : Headed). Unnamed name unit (UnitScope said) one.head × AllByRecursion (λ site. Unnamed name unit site.scope site.line) one.block in
    let R = λ (part : UnitPart). AllByRecursion P (headed_unit_part said part) in
    let all : AllByRecursion R (unit_parts unit) =
    of_flat P (headed_unit_part said) (unit_parts unit)
    (front_of P (flat_map (headed_unit_part said) (unit_parts unit)) (alone form.End ∷ [])
    (all_heads (Unnamed name unit) (UnitScope said) [] (in_unit said (unit_parts unit)) none)) in
    let grouped_all =
    subst (AllByRecursion R)
    (grouped_ten (optional parts.Resolution unit.resolution) (map parts.HasParam unit.params) (map parts.HasState unit.states)
    (map parts.HasLocal unit.locals) (map parts.HasInput unit.inputs) (map parts.HasEventIn unit.events_in) (map parts.HasOutput unit.outputs)
    (map parts.HasEventOut unit.events_out) (optional parts.Max unit.max) (optional parts.Step unit.step)) all in
    let from_outputs =
    back_of R (map parts.HasEventIn unit.events_in) _
    (back_of R (map parts.HasInput unit.inputs) _
    (back_of R (map parts.HasLocal unit.locals) _
    (back_of R (map parts.HasState unit.states) _
    (back_of R (map parts.HasParam unit.params) _ (back_of R (optional parts.Resolution unit.resolution) _ grouped_all))))) in
    let outputs = of_mapped R parts.HasOutput unit.outputs (front_of R (map parts.HasOutput unit.outputs) _ from_outputs) in
    let events =
    of_mapped R parts.HasEventOut unit.events_out
    (front_of R (map parts.HasEventOut unit.events_out) _ (back_of R (map parts.HasOutput unit.outputs) _ from_outputs)) in
    let own_name : bytes_eq said.name unit.name ≡ true = (bytes_eq-Decides said.name unit.name).1 (ap (λ u. u.name) (unit_is unit)) in
    each_append (λ one. bytes_eq one.name name ≡ false) _ _
    (mapped (λ (one : Port). bytes_eq one.name name ≡ false)
    (λ output. record { name = output.name; ty = output.ty; is_event = false; needs = output.needs }) unit.outputs
    (each_so (λ output. R (parts.HasOutput output)) (λ output. bytes_eq output.name name ≡ false)
    (λ output facts. other_fails (bytes_eq said.name unit.name) (bytes_eq output.name name) own_name facts.0.0) unit.outputs outputs))
    (mapped (λ (one : Port). bytes_eq one.name name ≡ false)
    (λ event. record { name = event.name; ty = event.ty; is_event = true; needs = event.needs }) unit.events_out
    (each_so (λ event. R (parts.HasEventOut event)) (λ event. bytes_eq event.name name ≡ false)
    (λ event facts. other_fails (bytes_eq said.name unit.name) (bytes_eq event.name name) own_name facts.0.0) unit.events_out events))

pub none_found : (test : Site → Bool) (number : ℕ) (all : List Site) → find (λ at. test at.1) (enumerate_from number all) ≡ None
    → AllByRecursion (λ site. test site ≡ false) all
none_found test number [] none = _
none_found test number (site ∷ all) none = let both = by_test (test site) (number, site) (find (λ at. test at.1) (enumerate_from (number + 1) all)) none in
    (both.0, none_found test (number + 1) all both.1)
  where
    by_test : (told : Bool) (x : ℕ × Site) (rest : Option (ℕ × Site)) → cond told (Some x) rest ≡ None → (told ≡ false) × (rest ≡ None)
    by_test true x rest none = absurd (cc none)
    by_test false x rest none = (refl, none)

-- The units of a system, each with a fact of the sites of its block.
pub each_unit : (Q : Scope → LineForm → Type 0) (system : System) → AllByRecursion (λ site. Q site.scope site.line) (sites_of system)
    → AllByRecursion (λ unit. AllByRecursion (λ site. Q site.scope site.line) (headed_of (unit_part unit)).block) system.units
each_unit Q system all =
    let P = λ (one : Headed). Q TopScope one.head × AllByRecursion (λ site. Q site.scope site.line) one.block in
    let tops = (all_heads Q TopScope [] (alone (form.Header system.version) ∷ flat_map headed_part (canonical_parts system)) all).1 in
    let of_parts = of_mapped P headed_of (canonical_parts system) (subst (AllByRecursion P) (each_headed (canonical_parts system)) tops) in
    let units =
    of_mapped (λ part. P (headed_of part)) unit_part system.units
    (front_of (λ part. P (headed_of part)) (map unit_part system.units) _
    (subst (AllByRecursion (λ part. P (headed_of part))) (canonical_are system) of_parts)) in
    each_so (λ unit. P (headed_of (unit_part unit))) (λ unit. AllByRecursion (λ site. Q site.scope site.line) (headed_of (unit_part unit)).block)
    (λ unit facts. facts.1) system.units units

-- ---- An output's line

pub by_unit : (system : System) (port : PortName) (instance : Instance) (unit : Option Unit) → unit_of_instance system instance ≡ unit
    → instance_named system port.instance ≡ Some instance → IsIn (map (λ output. port_of instance output.name) (outputs_in unit)) port
    → (line : ℕ) × (line_of_output system port ≡ Some line)
by_unit system port instance None is found stands = absurd stands
by_unit system port instance (Some unit) is found stands =
    let listed = member system.units instance.unit unit is in
    let in_its_block : AllByRecursion
    (λ one. AllByRecursion (λ site. Unnamed port.port unit site.scope site.line) (headed_of (unit_part one)).block) system.units
    → AllByRecursion (λ site. Unnamed port.port unit site.scope site.line) (headed_of (unit_part unit)).block =
    λ all. (each_front
    (λ one. AllByRecursion (λ site. Unnamed port.port unit site.scope site.line) (headed_of (unit_part one)).block) listed.before unit listed.later
    (subst (AllByRecursion
    (λ one. AllByRecursion (λ site. Unnamed port.port unit site.scope site.line) (headed_of (unit_part one)).block)) listed.cut all)).1 in
    let at_unit : unit_at system port ≡ Some unit = ap (option_and_then (unit_of_instance system)) found ∙ is in
    by_line (find (λ at. declares_output port.port (unit_at system port) at.1.scope at.1.line) (enumerate_from 1 (sites_of system))) refl at_unit
    (λ none. not_among instance (output_ports unit) port (no_output port.port unit (in_its_block (each_unit (Unnamed port.port unit) system none))) stands)
  where
    by_line : (found : Option (ℕ × Site))
        → find (λ at. declares_output port.port (unit_at system port) at.1.scope at.1.line) (enumerate_from 1 (sites_of system)) ≡ found
        → unit_at system port ≡ Some unit → (AllByRecursion (λ site. Unnamed port.port unit site.scope site.line) (sites_of system) → ⊥)
        → (line : ℕ) × (line_of_output system port ≡ Some line)
    by_line (Some at) is at_unit never = (at.0, ap (option_map (λ at. at.0)) is)
    by_line None is at_unit never =
        absurd (never
        (subst (λ u. AllByRecursion (λ site. declares_output port.port u site.scope site.line ≡ false) (sites_of system)) at_unit
        (none_found (λ site. declares_output port.port (unit_at system port) site.scope site.line) 1 (sites_of system) is)))

pub has_line : (system : System) (port : PortName) → IsWellFormed system → IsIn (outputs_of system) port → (line : ℕ) × (line_of_output system port ≡ Some line)
has_line system port well stands =
    let from = from_instance system system.instances port stands in
    let kept = all_keep (redeclares system) 1 (sites_of system) well.0 in
    let named : port.instance ≡ from.instance.name = named_instance from.instance (outputs_in (unit_of_instance system from.instance)) port from.is_in in
    let found : instance_named system port.instance ≡ Some from.instance =
    ap (instance_named system) named ∙ ap (find (λ one. bytes_eq one.name from.instance.name)) from.cut
    ∙ first_named from.before from.later from.instance (fresh system from.before from.later from.instance kept from.cut) in
    by_unit system port from.instance (unit_of_instance system from.instance) refl found from.is_in
