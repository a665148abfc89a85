-- The canonical lines of a system by its parts, with the blocks that they open.
use Rattle.std.proofs.Common.{◌≡◌, List, [], ◌∷◌, ◌++◌, map, Option, Some, None, append_assoc, refl, ap, sym, ◌∙◌}
use Rattle.std.specs.List.{flat_map}
use Rattle.std.proofs.lemmas.Grind.{flat_map-append}
use Rattle.std.proofs.lemmas.List.{map-append}
use Rattle.unit_check.proofs.SiteWalks.{line_sites}
use Rattle.unit_tree.specs.Canonical.{optional, unit_parts, canonical_parts}
use Rattle.unit_tree.specs.Parts as parts
use Rattle.unit_tree.specs.Parts.{Part, UnitPart, line_forms}
use Rattle.unit_tree.specs.Sites.{UnitScope, StepScope, InstanceScope, TopScope, Headed, alone, sites, headed_unit_part, headed_part, sites_of}
use Rattle.unit_tree.specs.declared.line.Line.{Line}
use Rattle.unit_tree.specs.declared.line_form.LineForm.{LineForm}
use Rattle.unit_tree.specs.declared.line_form.LineForm.TheVariants as form
use Rattle.unit_tree.specs.declared.system.Instance.{Instance}
use Rattle.unit_tree.specs.declared.system.System.{System}
use Rattle.unit_tree.specs.declared.unit.Unit.{Unit}
use Rattle.language_laws.proofs.PartLaws.{unit_is}

-- ---- Parts as lines with their blocks

parts_alone : {A P : Type 0} (headed : P → List Headed) (part : A → P) (said : A → LineForm) → ((x : A) → headed (part x) ≡ alone (said x) ∷ [])
    → (xs : List A) → flat_map headed (map part xs) ≡ map alone (map said xs)
parts_alone headed part said is [] = refl
parts_alone headed part said is (x ∷ xs) =
    ap (λ front. front ++ flat_map headed (map part xs)) (is x) ∙ ap (λ rest. alone (said x) ∷ rest) (parts_alone headed part said is xs)

given_alone : {A P : Type 0} (headed : P → List Headed) (part : A → P) (said : A → LineForm) → ((x : A) → headed (part x) ≡ alone (said x) ∷ [])
    → (given : Option A) → flat_map headed (optional part given) ≡ map alone (optional said given)
given_alone headed part said is None = refl
given_alone headed part said is (Some x) = ap (λ front. front ++ []) (is x)

-- ---- Units

module _ (unit : Unit) where
  abbrev pub plain_names : List LineForm
  plain_names = map form.Param unit.params ++ map form.State unit.states ++ map form.Local unit.locals

  abbrev pub port_lines : List LineForm
  port_lines = map form.Input unit.inputs ++ map form.EventInput unit.events_in ++ map form.Output unit.outputs ++ map form.EventOutput unit.events_out

  abbrev pub step_heads : Option (List Line) → List Headed
  step_heads None = []
  step_heads (Some lines) = record { head = form.Step; block = line_sites (StepScope unit) [] (flat_map line_forms lines) } ∷ alone form.End ∷ []

  abbrev pub block : List Headed
  block = (map alone (optional form.Resolution unit.resolution) ++ map alone (plain_names ++ port_lines))
      ++ ((map alone (optional form.Max unit.max) ++ step_heads unit.step) ++ (alone form.End ∷ []))

  step_is : (step : Option (List Line)) → flat_map (headed_unit_part unit) (optional parts.Step step) ≡ step_heads step
  step_is None = refl
  step_is (Some lines) = refl

  grouped_names : (p s l i ei o eo : List LineForm)
      → map alone ((p ++ s ++ l) ++ (i ++ ei ++ o ++ eo))
      ≡ map alone p ++ (map alone s ++ (map alone l ++ (map alone i ++ (map alone ei ++ (map alone o ++ map alone eo)))))
  grouped_names p s l i ei o eo = simp (map-append, append_assoc)

  spread : (r p s l i ei o eo m st : List UnitPart) → flat_map (headed_unit_part unit) (r ++ p ++ s ++ l ++ i ++ ei ++ o ++ eo ++ m ++ st)
      ≡ flat_map (headed_unit_part unit) r
      ++ (flat_map (headed_unit_part unit) p
      ++ (flat_map (headed_unit_part unit) s
      ++ (flat_map (headed_unit_part unit) l
      ++ (flat_map (headed_unit_part unit) i
      ++ (flat_map (headed_unit_part unit) ei
      ++ (flat_map (headed_unit_part unit) o
      ++ (flat_map (headed_unit_part unit) eo ++ (flat_map (headed_unit_part unit) m ++ flat_map (headed_unit_part unit) st))))))))
  spread r p s l i ei o eo m st = simp (flat_map-append, append_assoc)

  regroup : (r p s l i ei o eo m st en : List Headed)
      → (r ++ (p ++ (s ++ (l ++ (i ++ (ei ++ (o ++ (eo ++ (m ++ st))))))))) ++ en ≡ (r ++ (p ++ (s ++ (l ++ (i ++ (ei ++ (o ++ eo))))))) ++ ((m ++ st) ++ en)
  regroup r p s l i ei o eo m st en = simp append_assoc

  block_is : flat_map (headed_unit_part unit) (unit_parts unit) ++ (alone form.End ∷ []) ≡ block
  block_is =
      let headed : UnitPart → List Headed = headed_unit_part unit in
      let r = given_alone headed parts.Resolution form.Resolution (λ x. refl) unit.resolution in
      let p = parts_alone headed parts.HasParam form.Param (λ x. refl) unit.params in
      let s = parts_alone headed parts.HasState form.State (λ x. refl) unit.states in
      let l = parts_alone headed parts.HasLocal form.Local (λ x. refl) unit.locals in
      let i = parts_alone headed parts.HasInput form.Input (λ x. refl) unit.inputs in
      let ei = parts_alone headed parts.HasEventIn form.EventInput (λ x. refl) unit.events_in in
      let o = parts_alone headed parts.HasOutput form.Output (λ x. refl) unit.outputs in
      let eo = parts_alone headed parts.HasEventOut form.EventOutput (λ x. refl) unit.events_out in
      let m = given_alone headed parts.Max form.Max (λ x. refl) unit.max in
      let st = step_is unit.step in
      let names =
      grouped_names (map form.Param unit.params) (map form.State unit.states) (map form.Local unit.locals) (map form.Input unit.inputs)
      (map form.EventInput unit.events_in) (map form.Output unit.outputs) (map form.EventOutput unit.events_out) in
      let all =
      spread (optional parts.Resolution unit.resolution) (map parts.HasParam unit.params) (map parts.HasState unit.states) (map parts.HasLocal unit.locals)
      (map parts.HasInput unit.inputs) (map parts.HasEventIn unit.events_in) (map parts.HasOutput unit.outputs) (map parts.HasEventOut unit.events_out)
      (optional parts.Max unit.max) (optional parts.Step unit.step) in
      ap (λ lines. lines ++ (alone form.End ∷ [])) all
      ∙ rw (r, p, s, l, i, ei, o, eo, m, st) (regroup
      (map alone (optional form.Resolution unit.resolution)) (map alone (map form.Param unit.params)) (map alone (map form.State unit.states))
      (map alone (map form.Local unit.locals))
      (map alone (map form.Input unit.inputs)) (map alone (map form.EventInput unit.events_in)) (map alone (map form.Output unit.outputs))
      (map alone (map form.EventOutput unit.events_out))
      (map alone (optional form.Max unit.max)) (step_heads unit.step) (alone form.End ∷ []))
      ∙ ap (λ lines. (map alone (optional form.Resolution unit.resolution) ++ lines)
      ++ ((map alone (optional form.Max unit.max) ++ step_heads unit.step) ++ (alone form.End ∷ [])))
      (sym names)

abbrev pub unit_head : Unit → Headed
unit_head unit = record { head = form.Unit unit.name; block = sites (UnitScope unit) [] (block unit) }

unit_part_is : (unit : Unit) → headed_part (parts.HasUnit unit.name (unit_parts unit)) ≡ unit_head unit ∷ []
unit_part_is unit =
    let shown : Unit
    → List Headed =
    λ u. record { head = form.Unit unit.name; block = sites (UnitScope u) [] (flat_map (headed_unit_part u) (unit_parts unit) ++ (alone form.End ∷ [])) }
    ∷ [] in
    let with : List Headed → List Headed = λ lines. record { head = form.Unit unit.name; block = sites (UnitScope unit) [] lines } ∷ [] in
    ap shown (unit_is unit) ∙ ap with (block_is unit)

unit_heads : (units : List Unit) → flat_map headed_part (map (λ unit. parts.HasUnit unit.name (unit_parts unit)) units) ≡ map unit_head units
unit_heads [] = refl
unit_heads (unit ∷ units) =
    ap (λ front. front ++ flat_map headed_part (map (λ u. parts.HasUnit u.name (unit_parts u)) units)) (unit_part_is unit)
    ∙ ap (λ rest. unit_head unit ∷ rest) (unit_heads units)

-- ---- Instances

abbrev pub instance_block : Instance → List Headed
instance_block instance = map alone (map form.Setting instance.settings) ++ (alone form.End ∷ [])

abbrev pub instance_head : Instance → Headed
instance_head instance = record { head = form.Instance instance.name instance.unit; block = sites (InstanceScope instance) [] (instance_block instance) }

-- The same as in `NameLaws`, but with the `end` of a block as a piece of its own.
instance_heads : (instances : List Instance) → flat_map headed_part (map parts.HasInstance instances) ≡ map instance_head instances
instance_heads [] = refl
instance_heads (instance ∷ instances) =
    let with : List Headed → List Headed = λ lines.
    record { head = form.Instance instance.name instance.unit; block = sites (InstanceScope instance) [] lines }
    ∷ flat_map headed_part (map parts.HasInstance instances) in
    ap with (map-append alone (map form.Setting instance.settings) (form.End ∷ []))
    ∙ ap (λ rest. instance_head instance ∷ rest) (instance_heads instances)

-- ---- A system

module _ (system : System) where
  abbrev pub header : List Headed
  header = alone (form.Header system.version) ∷ []

  abbrev pub units : List Headed
  units = map unit_head system.units

  abbrev pub instances : List Headed
  instances = map instance_head system.instances

  abbrev pub wires : List Headed
  wires = map alone (map form.Connect system.wires)

  abbrev pub limits : List Headed
  limits = map alone (optional form.Stop system.stop) ++ map alone (optional form.Longest system.longest) ++ map alone (optional form.Zero system.zero)
      ++ map alone (optional form.Rows system.rows)

  abbrev pub samples : List Headed
  samples = map alone (map form.Sample system.samples)

  abbrev pub whole : List Headed
  whole = ((header ++ ((units ++ instances) ++ wires)) ++ limits) ++ samples

  spread_parts : (u i w s l z r sa : List Part) → flat_map headed_part (u ++ i ++ w ++ s ++ l ++ z ++ r ++ sa)
      ≡ flat_map headed_part u
      ++ (flat_map headed_part i
      ++ (flat_map headed_part w
      ++ (flat_map headed_part s ++ (flat_map headed_part l ++ (flat_map headed_part z ++ (flat_map headed_part r ++ flat_map headed_part sa))))))
  spread_parts u i w s l z r sa = simp (flat_map-append, append_assoc)

  regroup_parts : (h u i w s l z r sa : List Headed)
      → h ++ (u ++ (i ++ (w ++ (s ++ (l ++ (z ++ (r ++ sa))))))) ≡ ((h ++ ((u ++ i) ++ w)) ++ (s ++ l ++ z ++ r)) ++ sa
  regroup_parts h u i w s l z r sa = simp append_assoc

  whole_is : alone (form.Header system.version) ∷ flat_map headed_part (canonical_parts system) ≡ whole
  whole_is =
      let u = unit_heads system.units in
      let i = instance_heads system.instances in
      let w = parts_alone headed_part parts.Connects form.Connect (λ x. refl) system.wires in
      let s = given_alone headed_part parts.Stop form.Stop (λ x. refl) system.stop in
      let l = given_alone headed_part parts.Longest form.Longest (λ x. refl) system.longest in
      let z = given_alone headed_part parts.Zero form.Zero (λ x. refl) system.zero in
      let r = given_alone headed_part parts.Rows form.Rows (λ x. refl) system.rows in
      let sa = parts_alone headed_part parts.Samples form.Sample (λ x. refl) system.samples in
      let all =
      spread_parts (map (λ unit. parts.HasUnit unit.name (unit_parts unit)) system.units) (map parts.HasInstance system.instances)
      (map parts.Connects system.wires) (optional parts.Stop system.stop) (optional parts.Longest system.longest) (optional parts.Zero system.zero)
      (optional parts.Rows system.rows) (map parts.Samples system.samples) in
      ap (λ lines. header ++ lines) all
      ∙ rw (u, i, w, s, l, z, r, sa) (regroup_parts header units instances wires
      (map alone (optional form.Stop system.stop)) (map alone (optional form.Longest system.longest)) (map alone (optional form.Zero system.zero))
      (map alone (optional form.Rows system.rows)) samples)

  pub sites_are : sites_of system ≡ sites TopScope [] whole
  sites_are = ap (sites TopScope []) whole_is
