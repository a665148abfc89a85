-- Where each site of a system is: among the lines of its own block, after those that count as earlier.
use Rattle.std.proofs.Common.{◌≡◌, List, [], ◌∷◌, ◌++◌, map, Option, Some, None, append_assoc, refl, ap, sym, subst, ◌∙◌}
use Rattle.std.specs.List.{AllByRecursion, flat_map}
use Rattle.unit_check.proofs.SiteWalks.{heads, heads_alone, line_sites}
use Rattle.unit_check.proofs.SystemLines.{plain_names, port_lines, step_heads, block, unit_head, instance_block, instance_head, header, units, instances, wires}
use Rattle.unit_check.proofs.SystemLines.{limits, samples, whole, sites_are}
use Rattle.unit_tree.specs.Canonical.{optional}
use Rattle.unit_tree.specs.Parts.{line_forms}
use Rattle.unit_tree.specs.Sites.{Scope, TopScope, UnitScope, StepScope, InstanceScope, Site, Headed, alone, sites, sites_of}
use Rattle.unit_tree.specs.declared.line.Line.{Line}
use Rattle.unit_tree.specs.declared.line_form.LineForm.{LineForm}
use Rattle.unit_tree.specs.declared.line_form.LineForm.TheVariants as form
use Rattle.unit_tree.specs.declared.system.Instance.{Instance}
use Rattle.unit_tree.specs.declared.system.System.{System}
use Rattle.unit_tree.specs.declared.unit.Unit.{Unit}
use Rattle.list_laws.proofs.Lists.{each_append, each_map}

pub all_each : {A : Type 0} (P : A → Type 0) → ((x : A) → P x) → (xs : List A) → AllByRecursion P xs
all_each P holds [] = _
all_each P holds (x ∷ xs) = (holds x, all_each P holds xs)

pub all_two : {A : Type 0} (P Q R : A → Type 0) → ((x : A) → P x → Q x → R x) → (xs : List A) → AllByRecursion P xs → AllByRecursion Q xs → AllByRecursion R xs
all_two P Q R leads [] one other = _
all_two P Q R leads (x ∷ xs) one other = (leads x one.0 other.0, all_two P Q R leads xs one.1 other.1)

-- ---- What is true in all blocks

module _ (P : Site → Type 0) where
  -- All sites of the blocks that lines open.
  abbrev pub Inside : List Headed → Type 0
  Inside headed = AllByRecursion (λ one. AllByRecursion P one.block) headed

  pub inside_alone : (lines : List LineForm) → Inside (map alone lines)
  inside_alone [] = _
  inside_alone (line ∷ lines) = (_, inside_alone lines)

  abbrev Block : Headed → Type 0
  Block headed = AllByRecursion P headed.block

  pub inside_unit : (unit : Unit)
      → ((lines : List Line) → unit.step ≡ Some lines → AllByRecursion P (line_sites (StepScope unit) [] (flat_map line_forms lines))) → Inside (block unit)
  inside_unit unit steps =
      let resolution : List Headed = map alone (optional form.Resolution unit.resolution) in
      let names : List Headed = map alone (plain_names unit ++ port_lines unit) in
      let greatest : List Headed = map alone (optional form.Max unit.max) in
      each_append Block (resolution ++ names) ((greatest ++ step_heads unit unit.step) ++ (alone form.End ∷ []))
      (each_append Block resolution names (inside_alone (optional form.Resolution unit.resolution)) (inside_alone (plain_names unit ++ port_lines unit)))
      (each_append Block (greatest ++ step_heads unit unit.step) (alone form.End ∷ [])
      (each_append Block greatest (step_heads unit unit.step) (inside_alone (optional form.Max unit.max)) (in_step unit.step refl))
      (inside_alone (form.End ∷ [])))
    where
      in_step : (step : Option (List Line)) → unit.step ≡ step → Inside (step_heads unit step)
      in_step None is = _
      in_step (Some lines) is = (steps lines is, inside_alone (form.End ∷ []))

  pub inside_instance : (instance : Instance) → Inside (instance_block instance)
  inside_instance instance =
      each_append Block (map alone (map form.Setting instance.settings)) (alone form.End ∷ []) (inside_alone (map form.Setting instance.settings))
      (inside_alone (form.End ∷ []))

  pub inside_system : (system : System) → ((unit : Unit) → AllByRecursion P (sites (UnitScope unit) [] (block unit)))
      → ((instance : Instance) → AllByRecursion P (sites (InstanceScope instance) [] (instance_block instance))) → Inside (whole system)
  inside_system system in_unit in_instance =
      each_append Block ((header system ++ ((units system ++ instances system) ++ wires system)) ++ limits system) (samples system)
      (each_append Block (header system ++ ((units system ++ instances system) ++ wires system)) (limits system)
      (each_append Block (header system) ((units system ++ instances system) ++ wires system) (inside_alone (form.Header system.version ∷ []))
      (each_append Block (units system ++ instances system) (wires system)
      (each_append Block (units system) (instances system) (each_map Block unit_head system.units in_unit)
      (each_map Block instance_head system.instances in_instance))
      (inside_alone (map form.Connect system.wires))))
      in_limits)
      (inside_alone (map form.Sample system.samples))
    where
      in_limits : Inside (limits system)
      in_limits =
          let s : List Headed = map alone (optional form.Stop system.stop) in
          let l : List Headed = map alone (optional form.Longest system.longest) in
          let z : List Headed = map alone (optional form.Zero system.zero) in
          let r : List Headed = map alone (optional form.Rows system.rows) in
          each_append Block (s ++ l ++ z) r
          (each_append Block (s ++ l) z
          (each_append Block s l (inside_alone (optional form.Stop system.stop)) (inside_alone (optional form.Longest system.longest)))
          (inside_alone (optional form.Zero system.zero)))
          (inside_alone (optional form.Rows system.rows))

-- ---- The place of a site

abbrev pub lines_in_step : Option (List Line) → List LineForm
lines_in_step None = []
lines_in_step (Some lines) = flat_map line_forms lines

-- The lines of the block with this scope.
abbrev pub lines_of : System → Scope → List LineForm
lines_of system TopScope = heads (whole system)
lines_of system (UnitScope unit) = heads (block unit)
lines_of system (StepScope unit) = lines_in_step unit.step
lines_of system (InstanceScope instance) = heads (instance_block instance)

pub record StandsInBlock (system : System) (site : Site) : Type 0 where
  pub rest : List LineForm
  pub cut : lines_of system site.scope ≡ site.earlier ++ (site.line ∷ rest)

module _ (system : System) where
  each_stands : (scope : Scope) (earlier : List LineForm) (headed : List Headed) → lines_of system scope ≡ earlier ++ heads headed
      → Inside (StandsInBlock system) headed → AllByRecursion (StandsInBlock system) (sites scope earlier headed)
  each_stands scope earlier [] cut inside = _
  each_stands scope earlier (first ∷ others) cut inside = (
    record { rest = heads others; cut = cut },
    each_append (StandsInBlock system) first.block (sites scope (earlier ++ (first.head ∷ [])) others) inside.0
        (each_stands scope (earlier ++ (first.head ∷ [])) others (cut ∙ sym (append_assoc earlier (first.head ∷ []) (heads others))) inside.1),
  )

  in_instance : (instance : Instance) → AllByRecursion (StandsInBlock system) (sites (InstanceScope instance) [] (instance_block instance))
  in_instance instance = each_stands (InstanceScope instance) [] (instance_block instance) refl (inside_instance (StandsInBlock system) instance)

  in_step : (unit : Unit) (lines : List Line) → unit.step ≡ Some lines
      → AllByRecursion (StandsInBlock system) (line_sites (StepScope unit) [] (flat_map line_forms lines))
  in_step unit lines is =
      let all : List LineForm = flat_map line_forms lines in
      each_stands (StepScope unit) [] (map alone all) (ap lines_in_step is ∙ sym (heads_alone all)) (inside_alone (StandsInBlock system) all)

  in_unit : (unit : Unit) → AllByRecursion (StandsInBlock system) (sites (UnitScope unit) [] (block unit))
  in_unit unit = each_stands (UnitScope unit) [] (block unit) refl (inside_unit (StandsInBlock system) unit (in_step unit))

  pub all_stand : AllByRecursion (StandsInBlock system) (sites_of system)
  all_stand =
      subst (AllByRecursion (StandsInBlock system)) (sym (sites_are system))
      (each_stands TopScope [] (whole system) refl (inside_system (StandsInBlock system) system in_unit in_instance))
