-- The items of a block's lines: the names that they declare, the ports that they connect and sample.
use Rattle.std.proofs.Common.{◌≡◌, List, [], ◌∷◌, ◌++◌, map, Option, Some, None, append_assoc, refl, ap, ◌∙◌, map-id}
use Rattle.std.specs.List.{filter_map, cons_option}
use Rattle.std.proofs.lemmas.List.{append-nil, map-append}
use Rattle.std.proofs.lemmas.List.Elements.{filter_map-append}
use Rattle.unit_check.proofs.SiteWalks.{heads, heads_alone}
use Rattle.unit_check.proofs.SystemLines.{plain_names, port_lines, step_heads, block, unit_head, instance_block, instance_head, header, units, instances, wires}
use Rattle.unit_check.proofs.SystemLines.{limits, samples, whole}
use Rattle.unit_names.specs.Found.{declared_names}
use Rattle.unit_tree.specs.Canonical.{optional}
use Rattle.unit_tree.specs.Sites.{Headed, alone}
use Rattle.unit_tree.specs.WellFormed.{unit_declared, instance_declared, name_declared, input_connected, param_set, port_sampled}
use Rattle.unit_tree.specs.declared.line.Line.{Line}
use Rattle.unit_tree.specs.declared.line_form.LineForm.{LineForm}
use Rattle.unit_tree.specs.declared.line_form.LineForm.TheVariants as form
use Rattle.unit_tree.specs.declared.system.Instance.{Instance}
use Rattle.unit_tree.specs.declared.system.System.{System}
use Rattle.unit_tree.specs.declared.unit.Unit.{Unit}

module _ {A : Type 0} (asked : LineForm → Option A) where
  -- The items of lines and their blocks.
  abbrev pub told : List Headed → List A
  told headed = filter_map asked (heads headed)

  pub told_both : (front behind : List Headed) → told (front ++ behind) ≡ told front ++ told behind
  told_both front behind = ap (filter_map asked) (map-append (λ (h : Headed). h.head) front behind) ∙ filter_map-append asked (heads front) (heads behind)

  pub lines_tell : {B : Type 0} (said : B → LineForm) (name : B → A) → ((x : B) → asked (said x) ≡ Some (name x)) → (xs : List B)
      → filter_map asked (map said xs) ≡ map name xs
  lines_tell said name tells [] = refl
  lines_tell said name tells (x ∷ xs) = ap (λ here. cons_option here (filter_map asked (map said xs))) (tells x)
      ∙ ap (λ rest. name x ∷ rest) (lines_tell said name tells xs)

  pub heads_tell : {B : Type 0} (head : B → Headed) (name : B → A) → ((x : B) → asked (head x).head ≡ Some (name x)) → (xs : List B)
      → told (map head xs) ≡ map name xs
  heads_tell head name tells [] = refl
  heads_tell head name tells (x ∷ xs) = ap (λ here. cons_option here (told (map head xs))) (tells x)
      ∙ ap (λ rest. name x ∷ rest) (heads_tell head name tells xs)

  pub none_tell : {B : Type 0} (head : B → Headed) → ((x : B) → asked (head x).head ≡ None) → (xs : List B) → told (map head xs) ≡ []
  none_tell head none [] = refl
  none_tell head none (x ∷ xs) = ap (λ here. cons_option here (told (map head xs))) (none x) ∙ none_tell head none xs

  pub none_given : {B : Type 0} (said : B → LineForm) → ((x : B) → asked (said x) ≡ None) → (given : Option B) → told (map alone (optional said given)) ≡ []
  none_given said none None = refl
  none_given said none (Some x) = ap (λ here. cons_option here []) (none x)

  pub alone_tell : {B : Type 0} (said : B → LineForm) (name : B → A) → ((x : B) → asked (said x) ≡ Some (name x)) → (xs : List B)
      → told (map alone (map said xs)) ≡ map name xs
  alone_tell said name tells [] = refl
  alone_tell said name tells (x ∷ xs) = ap (λ here. cons_option here (told (map alone (map said xs)))) (tells x)
      ∙ ap (λ rest. name x ∷ rest) (alone_tell said name tells xs)

  pub none_alone : {B : Type 0} (said : B → LineForm) → ((x : B) → asked (said x) ≡ None) → (xs : List B) → told (map alone (map said xs)) ≡ []
  none_alone said none [] = refl
  none_alone said none (x ∷ xs) = ap (λ here. cons_option here (told (map alone (map said xs)))) (none x) ∙ none_alone said none xs

-- ---- The names of a unit

module _ (unit : Unit) where
  step_tells : (step : Option (List Line)) → told name_declared (step_heads unit step) ≡ []
  step_tells None = refl
  step_tells (Some lines) = refl

  names_tell : filter_map name_declared (plain_names unit ++ port_lines unit) ≡ declared_names unit
  names_tell =
      let p = lines_tell name_declared form.Param (λ x. x.name) (λ x. refl) unit.params in
      let s = lines_tell name_declared form.State (λ x. x.name) (λ x. refl) unit.states in
      let l = lines_tell name_declared form.Local (λ x. x.name) (λ x. refl) unit.locals in
      let i = lines_tell name_declared form.Input (λ x. x.name) (λ x. refl) unit.inputs in
      let ei = lines_tell name_declared form.EventInput (λ x. x.name) (λ x. refl) unit.events_in in
      let o = lines_tell name_declared form.Output (λ x. x.name) (λ x. refl) unit.outputs in
      let eo = lines_tell name_declared form.EventOutput (λ x. x.name) (λ x. refl) unit.events_out in
      simp filter_map-append (rw (p, s, l, i, ei, o, eo) (simp append_assoc))

  pub unit_tells : told name_declared (block unit) ≡ declared_names unit
  unit_tells =
      let resolution : List Headed = map alone (optional form.Resolution unit.resolution) in
      let names : List Headed = map alone (plain_names unit ++ port_lines unit) in
      let greatest : List Headed = map alone (optional form.Max unit.max) in
      let r = none_given name_declared form.Resolution (λ x. refl) unit.resolution in
      let n = ap (filter_map name_declared) (heads_alone (plain_names unit ++ port_lines unit)) ∙ names_tell in
      let m = none_given name_declared form.Max (λ x. refl) unit.max in
      let s = step_tells unit.step in
      told_both name_declared (resolution ++ names) ((greatest ++ step_heads unit unit.step) ++ (alone form.End ∷ []))
      ∙ ap (λ front. front ++ told name_declared ((greatest ++ step_heads unit unit.step) ++ (alone form.End ∷ [])))
      (told_both name_declared resolution names ∙ ap (λ front. front ++ told name_declared names) r ∙ n)
      ∙ ap (λ behind. declared_names unit ++ behind)
      (told_both name_declared (greatest ++ step_heads unit unit.step) (alone form.End ∷ [])
      ∙ ap (λ front. front ++ [])
      (told_both name_declared greatest (step_heads unit unit.step) ∙ ap (λ front. front ++ told name_declared (step_heads unit unit.step)) m ∙ s))
      ∙ append-nil (declared_names unit)

pub instance_tells : (instance : Instance) → told param_set (instance_block instance) ≡ map (λ setting. setting.name) instance.settings
instance_tells instance =
    told_both param_set (map alone (map form.Setting instance.settings)) (alone form.End ∷ [])
    ∙ ap (λ front. front ++ []) (alone_tell param_set form.Setting (λ x. x.name) (λ x. refl) instance.settings)
    ∙ append-nil (map (λ setting. setting.name) instance.settings)

-- ---- A system

module _ (system : System) where
  module _ {A : Type 0} (asked : LineForm → Option A) (header_tells : asked (form.Header system.version) ≡ None)
      (stop_tells : (x : _) → asked (form.Stop x) ≡ None) (longest_tells : (x : _) → asked (form.Longest x) ≡ None)
      (zero_tells : (x : _) → asked (form.Zero x) ≡ None) (rows_tells : (x : _) → asked (form.Rows x) ≡ None) where
    limits_tell : told asked (limits system) ≡ []
    limits_tell =
        let s : List Headed = map alone (optional form.Stop system.stop) in
        let l : List Headed = map alone (optional form.Longest system.longest) in
        let z : List Headed = map alone (optional form.Zero system.zero) in
        let r : List Headed = map alone (optional form.Rows system.rows) in
        told_both asked (s ++ l ++ z) r
        ∙ ap (λ front. front ++ told asked r)
        (told_both asked (s ++ l) z
        ∙ ap (λ front. front ++ told asked z)
        (told_both asked s l ∙ ap (λ front. front ++ told asked l) (none_given asked form.Stop stop_tells system.stop)
        ∙ none_given asked form.Longest longest_tells system.longest)
        ∙ none_given asked form.Zero zero_tells system.zero)
        ∙ none_given asked form.Rows rows_tells system.rows

    pub whole_tells : told asked (whole system)
        ≡ ((told asked (units system) ++ told asked (instances system)) ++ told asked (wires system)) ++ told asked (samples system)
    whole_tells =
        let made : List Headed = (units system ++ instances system) ++ wires system in
        told_both asked ((header system ++ made) ++ limits system) (samples system)
        ∙ ap (λ front. front ++ told asked (samples system))
        (told_both asked (header system ++ made) (limits system)
        ∙ ap (λ behind. told asked (header system ++ made) ++ behind) limits_tell
        ∙ append-nil (told asked (header system ++ made))
        ∙ told_both asked (header system) made
        ∙ ap (λ here. cons_option here [] ++ told asked made) header_tells
        ∙ told_both asked (units system ++ instances system) (wires system)
        ∙ ap (λ front. front ++ told asked (wires system)) (told_both asked (units system) (instances system)))

  pub units_tell : told unit_declared (whole system) ≡ map (λ unit. unit.name) system.units
  units_tell =
      let u = heads_tell unit_declared unit_head (λ unit. unit.name) (λ x. refl) system.units in
      let i = none_tell unit_declared instance_head (λ x. refl) system.instances in
      let w = none_alone unit_declared form.Connect (λ x. refl) system.wires in
      let s = none_alone unit_declared form.Sample (λ x. refl) system.samples in
      whole_tells unit_declared refl (λ x. refl) (λ x. refl) (λ x. refl) (λ x. refl) ∙ rw (u, i, w, s) (simp append-nil)

  pub instances_tell : told instance_declared (whole system) ≡ map (λ instance. instance.name) system.instances
  instances_tell =
      let u = none_tell instance_declared unit_head (λ x. refl) system.units in
      let i = heads_tell instance_declared instance_head (λ instance. instance.name) (λ x. refl) system.instances in
      let w = none_alone instance_declared form.Connect (λ x. refl) system.wires in
      let s = none_alone instance_declared form.Sample (λ x. refl) system.samples in
      whole_tells instance_declared refl (λ x. refl) (λ x. refl) (λ x. refl) (λ x. refl) ∙ rw (u, i, w, s) (simp append-nil)

  pub wires_tell : told input_connected (whole system) ≡ map (λ wire. wire.to) system.wires
  wires_tell =
      let u = none_tell input_connected unit_head (λ x. refl) system.units in
      let i = none_tell input_connected instance_head (λ x. refl) system.instances in
      let w = alone_tell input_connected form.Connect (λ wire. wire.to) (λ x. refl) system.wires in
      let s = none_alone input_connected form.Sample (λ x. refl) system.samples in
      whole_tells input_connected refl (λ x. refl) (λ x. refl) (λ x. refl) (λ x. refl) ∙ rw (u, i, w, s) (simp append-nil)

  pub samples_tell : told port_sampled (whole system) ≡ system.samples
  samples_tell =
      let u = none_tell port_sampled unit_head (λ x. refl) system.units in
      let i = none_tell port_sampled instance_head (λ x. refl) system.instances in
      let w = none_alone port_sampled form.Connect (λ x. refl) system.wires in
      let s = alone_tell port_sampled form.Sample (λ x. x) (λ x. refl) system.samples in
      whole_tells port_sampled refl (λ x. refl) (λ x. refl) (λ x. refl) (λ x. refl) ∙ rw (u, i, w, s) (map-id system.samples)
