-- An item is repeated where its first place is before its own.
use Rattle.std.proofs.Common.{◌≡◌, ℕ, suc, ◌+◌, ◌≤◌, Bool, true, false, ◌||◌, List, [], ◌∷◌, ◌++◌, map, length, Option, Some, refl, ap, sym, ◌∙◌, arith}
use mathlib.Core.Bool.{cond}
use Rattle.std.specs.List.{list_any, filter_map, position_from}
use Rattle.std.specs.Str.{bytes_eq}
use Rattle.std.proofs.lemmas.List.Elements.{filter_map-append}
use Rattle.unit_check.proofs.SiteWalks.{heads}
use Rattle.unit_check.proofs.SitePlaces.{lines_of}
use Rattle.unit_check.proofs.SystemLines.{block}
use Rattle.unit_check.proofs.BlockFacts.{unit_tells, instance_tells, units_tell, instances_tell, wires_tell, samples_tell}
use Rattle.unit_check.specs.Places.{is_before, redeclares_at, connects_again_at, repeats_at}
use Rattle.unit_check.specs.Walks.{place_of}
use Rattle.unit_names.specs.Found.{declared_names, first_place}
use Rattle.unit_tree.specs.Names.{same_port}
use Rattle.unit_tree.specs.Sites.{Scope, TopScope, UnitScope, StepScope, InstanceScope, holds}
use Rattle.unit_tree.specs.WellFormed.{redeclares, connects_again, repeats_itself, unit_declared, instance_declared, name_declared, input_connected, param_set}
use Rattle.unit_tree.specs.WellFormed.{port_sampled}
use Rattle.unit_tree.specs.declared.line_form.LineForm.{LineForm}
use Rattle.unit_tree.specs.declared.line_form.LineForm.TheVariants as form
use Rattle.unit_tree.specs.declared.system.System.{System}
use Rattle.unit_tree.specs.declared.unit.Unit.{Unit}
use Rattle.list_laws.proofs.Truths.{or_nothing}

never : {A : Type 0} (test : A → Bool) (place from : ℕ) (things : List A) → place ≤ from → is_before place (position_from test from things) ≡ false
never test place from [] later = refl
never test place from (thing ∷ things) later = step (test thing) (never test place (from + 1) things (omega arith))
  where
    step : (same : Bool) → is_before place (position_from test (from + 1) things) ≡ false
        → is_before place (cond same (Some from) (position_from test (from + 1) things)) ≡ false
    step true rest = grind (arith)
    step false rest = rest

said_from : {A : Type 0} (test : A → Bool) (from : ℕ) (before behind : List A)
    → is_before (from + length before) (position_from test from (before ++ behind)) ≡ list_any test before
said_from test from [] behind = never test (from + 0) from behind (omega arith)
said_from test from (thing ∷ before) behind = step (test thing) (said_from test (from + 1) before behind)
  where
    step : (same : Bool) → is_before ((from + 1) + length before) (position_from test (from + 1) (before ++ behind)) ≡ list_any test before
        → is_before (from + suc (length before)) (cond same (Some from) (position_from test (from + 1) (before ++ behind))) ≡ (same || list_any test before)
    step true rest = grind (arith)
    step false rest = ap (λ n. is_before n (position_from test (from + 1) (before ++ behind))) (omega arith) ∙ rest

-- An item is before its own place exactly where it is on an earlier line.
said_again : {A : Type 0} (asked : LineForm → Option A) (test : A → Bool) (lines earlier rest : List LineForm) (all : List A) → filter_map asked lines ≡ all
    → lines ≡ earlier ++ rest → is_before (length (filter_map asked earlier)) (position_from test 0 all) ≡ list_any test (filter_map asked earlier)
said_again asked test lines earlier rest all tells cut =
    let before = filter_map asked earlier in
    let parted : all ≡ before ++ filter_map asked rest = sym tells ∙ ap (filter_map asked) cut ∙ filter_map-append asked earlier rest in
    let zero_more : length before ≡ 0 + length before = omega arith in
    ap (λ things. is_before (length before) (position_from test 0 things)) parted
    ∙ ap (λ n. is_before n (position_from test 0 (before ++ filter_map asked rest))) zero_more
    ∙ said_from test 0 before (filter_map asked rest)

-- Names that a unit declares.
module _ (unit : Unit) (earlier rest : List LineForm) where
  declares : (line : LineForm) (name : List ℕ) → (heads (block unit)) ≡ earlier ++ (line ∷ rest)
      → is_before (length (filter_map name_declared earlier)) (first_place (declared_names unit) name)
      ≡ list_any (bytes_eq name) (filter_map name_declared earlier)
  declares line name cut = said_again name_declared (bytes_eq name) (heads (block unit)) earlier (line ∷ rest) (declared_names unit) (unit_tells unit) cut

-- Rule 8.
pub redeclares_is : (system : System) (scope : Scope) (earlier : List LineForm) (line : LineForm) (rest : List LineForm)
    → lines_of system scope ≡ earlier ++ (line ∷ rest) → holds scope line ≡ true
    → redeclares_at system scope (place_of scope earlier line) line ≡ redeclares system (record { scope = scope; earlier = earlier; line = line })
redeclares_is system TopScope earlier (form.Unit name) rest cut held =
    said_again unit_declared (bytes_eq name) (lines_of system TopScope) earlier (form.Unit name ∷ rest) (map (λ unit. unit.name) system.units)
    (units_tell system) cut
    ∙ or_nothing (list_any (bytes_eq name) (filter_map unit_declared earlier))
redeclares_is system TopScope earlier (form.Instance name unit) rest cut held =
    said_again instance_declared (bytes_eq name) (lines_of system TopScope) earlier (form.Instance name unit ∷ rest)
    (map (λ instance. instance.name) system.instances) (instances_tell system) cut
    ∙ or_nothing (list_any (bytes_eq name) (filter_map instance_declared earlier))
redeclares_is system TopScope earlier (form.Param param) rest cut held = absurd (cc)
redeclares_is system TopScope earlier (form.State state) rest cut held = absurd (cc)
redeclares_is system TopScope earlier (form.Local local) rest cut held = absurd (cc)
redeclares_is system TopScope earlier (form.Input input) rest cut held = absurd (cc)
redeclares_is system TopScope earlier (form.EventInput event) rest cut held = absurd (cc)
redeclares_is system TopScope earlier (form.Output output) rest cut held = absurd (cc)
redeclares_is system TopScope earlier (form.EventOutput event) rest cut held = absurd (cc)
redeclares_is system TopScope earlier _ rest cut held = refl
redeclares_is system (UnitScope unit) earlier (form.Unit name) rest cut held = absurd (cc)
redeclares_is system (UnitScope unit) earlier (form.Instance name other) rest cut held = absurd (cc)
redeclares_is system (UnitScope unit) earlier (form.Param param) rest cut held = declares unit earlier rest (form.Param param) param.name cut
redeclares_is system (UnitScope unit) earlier (form.State state) rest cut held = declares unit earlier rest (form.State state) state.name cut
redeclares_is system (UnitScope unit) earlier (form.Local local) rest cut held = declares unit earlier rest (form.Local local) local.name cut
redeclares_is system (UnitScope unit) earlier (form.Input input) rest cut held = declares unit earlier rest (form.Input input) input.name cut
redeclares_is system (UnitScope unit) earlier (form.EventInput event) rest cut held = declares unit earlier rest (form.EventInput event) event.name cut
redeclares_is system (UnitScope unit) earlier (form.Output output) rest cut held = declares unit earlier rest (form.Output output) output.name cut
redeclares_is system (UnitScope unit) earlier (form.EventOutput event) rest cut held = declares unit earlier rest (form.EventOutput event) event.name cut
redeclares_is system (UnitScope unit) earlier _ rest cut held = refl
redeclares_is system (StepScope unit) earlier (form.Unit name) rest cut held = absurd (cc)
redeclares_is system (StepScope unit) earlier (form.Instance name other) rest cut held = absurd (cc)
redeclares_is system (StepScope unit) earlier (form.Param param) rest cut held = absurd (cc)
redeclares_is system (StepScope unit) earlier (form.State state) rest cut held = absurd (cc)
redeclares_is system (StepScope unit) earlier (form.Local local) rest cut held = absurd (cc)
redeclares_is system (StepScope unit) earlier (form.Input input) rest cut held = absurd (cc)
redeclares_is system (StepScope unit) earlier (form.EventInput event) rest cut held = absurd (cc)
redeclares_is system (StepScope unit) earlier (form.Output output) rest cut held = absurd (cc)
redeclares_is system (StepScope unit) earlier (form.EventOutput event) rest cut held = absurd (cc)
redeclares_is system (StepScope unit) earlier _ rest cut held = refl
redeclares_is system (InstanceScope instance) earlier (form.Unit name) rest cut held = absurd (cc)
redeclares_is system (InstanceScope instance) earlier (form.Instance name other) rest cut held = absurd (cc)
redeclares_is system (InstanceScope instance) earlier (form.Param param) rest cut held = absurd (cc)
redeclares_is system (InstanceScope instance) earlier (form.State state) rest cut held = absurd (cc)
redeclares_is system (InstanceScope instance) earlier (form.Local local) rest cut held = absurd (cc)
redeclares_is system (InstanceScope instance) earlier (form.Input input) rest cut held = absurd (cc)
redeclares_is system (InstanceScope instance) earlier (form.EventInput event) rest cut held = absurd (cc)
redeclares_is system (InstanceScope instance) earlier (form.Output output) rest cut held = absurd (cc)
redeclares_is system (InstanceScope instance) earlier (form.EventOutput event) rest cut held = absurd (cc)
redeclares_is system (InstanceScope instance) earlier _ rest cut held = refl

-- Rule 13.
pub connects_is : (system : System) (scope : Scope) (earlier : List LineForm) (line : LineForm) (rest : List LineForm)
    → lines_of system scope ≡ earlier ++ (line ∷ rest) → holds scope line ≡ true
    → connects_again_at system (place_of scope earlier line) line ≡ connects_again system (record { scope = scope; earlier = earlier; line = line })
connects_is system TopScope earlier (form.Connect wire) rest cut held =
    said_again input_connected (same_port wire.to) (lines_of system TopScope) earlier (form.Connect wire ∷ rest) (map (λ w. w.to) system.wires)
    (wires_tell system) cut
connects_is system (UnitScope unit) earlier (form.Connect wire) rest cut held = absurd (cc)
connects_is system (StepScope unit) earlier (form.Connect wire) rest cut held = absurd (cc)
connects_is system (InstanceScope instance) earlier (form.Connect wire) rest cut held = absurd (cc)
connects_is system scope earlier _ rest cut held = refl

-- Rule 24.
pub repeats_is : (system : System) (scope : Scope) (earlier : List LineForm) (line : LineForm) (rest : List LineForm)
    → lines_of system scope ≡ earlier ++ (line ∷ rest) → holds scope line ≡ true
    → repeats_at system scope (place_of scope earlier line) line ≡ repeats_itself system (record { scope = scope; earlier = earlier; line = line })
repeats_is system (InstanceScope instance) earlier (form.Setting setting) rest cut held =
    said_again param_set (bytes_eq setting.name) (lines_of system (InstanceScope instance)) earlier (form.Setting setting ∷ rest)
    (map (λ s. s.name) instance.settings) (instance_tells instance) cut
    ∙ or_nothing (list_any (bytes_eq setting.name) (filter_map param_set earlier))
repeats_is system TopScope earlier (form.Setting setting) rest cut held = absurd (cc)
repeats_is system (UnitScope unit) earlier (form.Setting setting) rest cut held = absurd (cc)
repeats_is system (StepScope unit) earlier (form.Setting setting) rest cut held = absurd (cc)
repeats_is system TopScope earlier (form.Sample port) rest cut held =
    said_again port_sampled (same_port port) (lines_of system TopScope) earlier (form.Sample port ∷ rest) system.samples (samples_tell system) cut
    ∙ or_nothing (list_any (same_port port) (filter_map port_sampled earlier))
repeats_is system (UnitScope unit) earlier (form.Sample port) rest cut held = absurd (cc)
repeats_is system (StepScope unit) earlier (form.Sample port) rest cut held = absurd (cc)
repeats_is system (InstanceScope instance) earlier (form.Sample port) rest cut held = absurd (cc)
repeats_is system TopScope earlier _ rest cut held = refl
repeats_is system (UnitScope unit) earlier _ rest cut held = refl
repeats_is system (StepScope unit) earlier _ rest cut held = refl
repeats_is system (InstanceScope instance) earlier _ rest cut held = refl
