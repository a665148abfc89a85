-- The plain form of a unit of a system that is in range and well-formed may be compiled.
use Rattle.std.proofs.Common.{◌≡◌, ◌⊎◌, ℕ, Bool, true, false, ℤ, List, [], ◌∷◌, ◌++◌, map, length, Option, Some, None, inl, inr, refl, sym, ap, ◌∙◌, subst}
use Rattle.std.specs.Prelude.{not, nat_lt, is_none}
use Rattle.std.specs.List.{AllByRecursion, flat_map}
use Rattle.std.specs.Option.{option_map, IfSome}
use Rattle.std.proofs.lemmas.Bool.{and_parts, and_from, or_parts}
use Rattle.std.proofs.lemmas.Grind.{flat_map-append}
use Rattle.fixed_words.specs.Types.{kind_of, AreDecimals}
use Rattle.fixed_words.specs.declared.types.Kind.{Kind}
use Rattle.fixed_words.specs.declared.types.Kind.TheVariants as kinds
use Rattle.code_units.specs.Scopes.{scope_of}
use Rattle.code_units.specs.StepLines.{is_right_in}
use Rattle.code_units.specs.UnitPrograms.{IsCallable, IsRunnable, IsCompilable}
use Rattle.code_units.specs.declared.scope.CodeScope.{CodeScope}
use Rattle.code_units.proofs.NamesInSlots.{variables_are}
use Rattle.unit_tree.specs.Canonical.{optional}
use Rattle.unit_tree.specs.Components.{variables_of}
use Rattle.unit_tree.specs.Costs.{expression_call_cost, step_call_cost}
use Rattle.unit_tree.specs.Kinds.{is_of_kind, has_kind, kind_of_expression}
use Rattle.unit_tree.specs.Names.{names_in, events_asked_in, depth_of, is_among, are_among, event_input_names, output_uses, max_uses, step_uses, keeps_to, Uses}
use Rattle.unit_tree.specs.Names.{kinds_in, type_in}
use Rattle.unit_tree.specs.Parts as parts
use Rattle.unit_tree.specs.Parts.{UnitPart, line_forms}
use Rattle.unit_tree.specs.Plain.{plain_expression, presence_of, word_expression_of, plain_line, plain_output, plain_outputs, plain_unit}
use Rattle.unit_tree.specs.Sites.{UnitScope, StepScope, Headed, alone, sites, headed_unit_part}
use Rattle.unit_tree.specs.Values.{is_ranged}
use Rattle.unit_tree.specs.WellFormed.{step_cost}
use Rattle.unit_tree.specs.declared.environment.Variable.{Variable}
use Rattle.unit_tree.specs.declared.expr.Expr.{Expr}
use Rattle.unit_tree.specs.declared.line.Line.{Line}
use Rattle.unit_tree.specs.declared.line_form.LineForm.{LineForm}
use Rattle.unit_tree.specs.declared.line_form.LineForm.TheVariants as form
use Rattle.unit_tree.specs.declared.system.System.{System}
use Rattle.unit_tree.specs.declared.unit.EventOut.{EventOut}
use Rattle.unit_tree.specs.declared.unit.Output.{Output}
use Rattle.unit_tree.specs.declared.unit.Unit.{Unit}
use Rattle.language_laws.proofs.NameLaws.{Hold}
use Rattle.language_laws.proofs.PlainNames.{map_has, flat_has}
use Rattle.language_laws.proofs.Declarations.{Declared, OfParam, OfState, OfLocal, OfInput, OfEventIn, OfOutput, OfEventOut, line_of, variable_of, Declares}
use Rattle.language_laws.proofs.Declarations.{AtLine, unit_limited, declared_line, output_is_declared, event_out_is_declared}
use Rattle.unit_exec.proofs.EventChoices.{word_names, word_events, presence_names, presence_events, word_ranged, presence_ranged, plain_ranged, presence_kinded}
use Rattle.unit_exec.proofs.KindsOfRuns.{kinded}
use Rattle.unit_exec.proofs.KindsOfRuns as kind_laws
use Rattle.unit_exec.proofs.LinesOfRuns.{FormRight, lines_right}
use Rattle.unit_exec.proofs.NamesOfUnits.{Comes, Tells, from_run, Usable, usable_shared, usable_step, name_kind, presence_kind}
use Rattle.unit_exec.proofs.TargetsOfUnits.{target_right}
use Rattle.language_laws.proofs.UnitSites.{Passes}
use Rattle.list_laws.proofs.Members.{Has, has_either, all_has}
use Rattle.list_laws.proofs.Truths.{lt_not_told, not_false, le_asked}
use Rattle.run_laws.proofs.PortLaws.{each_among}

-- ---- Tests

pub record HasSome {A : Type 0} (given : Option A) : Type 0 where
  pub one : A
  pub is : given ≡ Some one

kind_there : (given asked : Option Kind) → is_of_kind given asked ≡ true → HasSome given
kind_there None asked is = absurd (cc)
kind_there (Some one) asked is = record { one = one; is = refl }

module _ (system : System) (unit : Unit) (declared : Declares (Passes system) unit) (params : List ℤ) (each_word : length params ≡ length unit.params) where
  abbrev run : Unit
  run = plain_unit unit

  abbrev scope : CodeScope
  scope = scope_of run params

  abbrev Use : List ℕ → Type 0
  Use name = Usable system unit declared params each_word name

  abbrev Event : List ℕ → Type 0
  Event name = is_among (event_input_names unit) name ≡ true

  -- An expression uses only what it may use.
  abbrev Keeps : Expr → Type 0
  Keeps value =
      kind_laws.Uses scope (kinds_in unit) Use Event (name_kind system unit declared params each_word)
      (presence_kind system unit declared params each_word) value

  keeps : (uses : Uses) (usable : (name : List ℕ) → is_among uses.names name ≡ true → Use name) → uses.events ≡ event_input_names unit → (value : Expr)
      → keeps_to uses value ≡ true → Keeps value
  keeps uses usable events value kept =
      let one = and_parts (are_among uses.names (names_in value)) _ kept in
      let other = and_parts (are_among uses.events (events_asked_in value)) _ one.1 in record {
        names_used = λ name has. usable name (each_among uses.names (names_in value) name one.0 has);
        events_asked = λ name has. ap (λ names. is_among names name) (sym events) ∙ each_among uses.events (events_asked_in value) name other.0 has;
      }

  -- ---- An expression's code is right

  right : (value : Expr) (kind : Kind) → kind_of_expression value (kinds_in unit) ≡ Some kind → Keeps value → is_ranged value ≡ true
      → nat_lt 32 (depth_of (plain_expression value)) ≡ false → is_right_in scope (plain_expression value) ≡ true
  right value kind is uses ranged low =
      let code =
      kinded scope (kinds_in unit) Use Event (name_kind system unit declared params each_word)
      (presence_kind system unit declared params each_word) value kind is uses in
      and_from _ _ code.agrees
      (and_from _ _ (plain_ranged value ∙ ranged) (le_asked (depth_of (plain_expression value)) 32 (lt_not_told 32 (depth_of (plain_expression value)) low)))

  callable : (value : Expr) (kind : Kind) → kind_of_expression value (kinds_in unit) ≡ Some kind → Keeps value → is_ranged value ≡ true
      → nat_lt 32 (depth_of (plain_expression value)) ≡ false → nat_lt 100000 (expression_call_cost (plain_expression value)) ≡ false
      → IsCallable scope (plain_expression value)
  callable value kind is uses ranged low cheap =
      record { right = right value kind is uses ranged low; cheap = lt_not_told 100000 (expression_call_cost (plain_expression value)) cheap }

  -- ---- Outputs

  abbrev PassesAt : LineForm → Type 0
  PassesAt line = AtLine (Passes system) unit line

  -- What is known of an output of the plain form.
  pub record Runs (output : Output) : Type 0 where
    pub callable : IsCallable scope output.value
    pub typed : AreDecimals output.ty

  shared_keeps : (value : Expr) → keeps_to (output_uses unit) value ≡ true → Keeps value
  shared_keeps value kept = keeps (output_uses unit) (usable_shared system unit declared params each_word) refl value kept

  output_runs : (output : Output) → PassesAt (form.Output output) → Runs (plain_output unit output)
  output_runs output passes =
      let at = passes.1 in
      let names = or_parts (not (keeps_to (output_uses unit) output.value)) _ at.named in
      let wrong = or_parts (not (has_kind (Some (kind_of output.ty)) output.value (kinds_in unit))) _ at.kinded in
      let there = kind_there (kind_of_expression output.value (kinds_in unit)) (Some (kind_of output.ty)) (not_false _ wrong.0) in record {
        callable =
            callable output.value there.one there.is (shared_keeps output.value (not_false _ names.0)) at.in_range.1 (or_parts _ _ at.low).0
            (or_parts _ _ at.cheap).0;
        typed = at.in_range.0;
      }

  event_runs : (event : EventOut) → PassesAt (form.EventOutput event) → (output : Output) → Has (plain_outputs unit event) output → Runs output
  event_runs event passes output has =
      let at = passes.1 in
      let names = or_parts (not (keeps_to (output_uses unit) event.value)) _ at.named in
      let uses = shared_keeps event.value (not_false _ names.0) in
      let word : Expr = word_expression_of event.ty event.value in
      let wrong = or_parts (not (has_kind (Some (kind_of event.ty)) word (kinds_in unit))) _ at.kinded in
      let there = kind_there (kind_of_expression word (kinds_in unit)) (Some (kind_of event.ty)) (not_false _ wrong.0) in
      let low_one = or_parts _ _ at.low in
      let low_two = or_parts _ _ low_one.1 in
      let cheap_one = or_parts _ _ at.cheap in
      let cheap_two = or_parts _ _ cheap_one.1 in
      let presence_uses : Keeps (presence_of event.value) =
      record {
        names_used = λ name h. uses.names_used name (presence_names event.value name h);
        events_asked =
            λ name h. uses.events_asked name (presence_events event.value name h);
      } in
      let word_uses : Keeps word =
      record {
        names_used = λ name h. uses.names_used name (word_names event.ty event.value name h);
        events_asked =
            λ name h. uses.events_asked name (word_events event.ty event.value name h);
      } in
      let presence =
      callable (presence_of event.value) kinds.Bool (presence_kinded (kinds_in unit) event.ty event.value there.one there.is) presence_uses
      (presence_ranged event.value at.in_range.1) low_one.0 cheap_one.0 in
      let told = callable word there.one there.is word_uses (word_ranged event.ty event.value at.in_range.0 at.in_range.1) low_two.0 cheap_two.0 in
      of_two output has presence told at.in_range.0
    where
      of_two : (output : Output) → Has (plain_outputs unit event) output → IsCallable scope (plain_expression (presence_of event.value))
          → IsCallable scope (plain_expression (word_expression_of event.ty event.value)) → AreDecimals event.ty → Runs output
      of_two output (inl is) presence told typed = subst Runs is (record { callable = presence; typed = tt })
      of_two output (inr (inl is)) presence told typed = subst Runs is (record { callable = told; typed = typed })
      of_two output (inr (inr none)) presence told typed = absurd none

  outputs_run : (output : Output) → Has run.outputs output → Runs output
  outputs_run output has = elim (has_either (map (plain_output unit) unit.outputs) (flat_map (plain_outputs unit) unit.events_out) output has) [
    | inl here ↦
        let from = map_has (plain_output unit) unit.outputs output here in
        subst Runs from.is
        (output_runs from.one
        (declared_line (Passes system) unit declared (OfOutput from.one) (output_is_declared unit from.one from.has)))
    | inr here ↦
        let from = flat_has (plain_outputs unit) unit.events_out output here in
        event_runs from.one
        (declared_line (Passes system) unit declared (OfEventOut from.one) (event_out_is_declared unit from.one from.has)) output from.inside
  ]

  -- ---- Types

  typed_one : (one : Declared) → PassesAt (line_of one) → AreDecimals (variable_of one).ty
  typed_one (OfParam param) passes = passes.1.in_range.0
  typed_one (OfState state) passes = passes.1.in_range.0
  typed_one (OfLocal local) passes = passes.1.in_range.0
  typed_one (OfInput input) passes = passes.1.in_range.0
  typed_one (OfEventIn event) passes = passes.1.in_range.0
  typed_one (OfOutput output) passes = passes.1.in_range.0
  typed_one (OfEventOut event) passes = passes.1.in_range.0

  typed : (w : Variable) → Has (variables_of run) w → AreDecimals w.ty
  typed w has = by_source (from_run system unit declared params each_word w (subst (λ xs. Has xs w) (variables_are run) has))
    where
      by_source : Comes system unit declared params each_word w ⊎ Tells system unit declared params each_word w → AreDecimals w.ty
      by_source (inl comes) =
          subst (λ (v : Variable). AreDecimals v.ty) comes.is (typed_one comes.one (declared_line (Passes system) unit declared comes.one comes.has))
      by_source (inr tells) = subst (λ (v : Variable). AreDecimals v.ty) tells.is tt

  -- ---- Step lines

  abbrev AtStep : LineForm → Type 0
  AtStep line = (earlier : List LineForm) × Passes system (record { scope = StepScope unit; earlier = earlier; line = line })

  step_keeps : (value : Expr) → keeps_to (step_uses unit) value ≡ true → Keeps value
  step_keeps value kept = keeps (step_uses unit) (usable_step system unit declared params each_word) refl value kept

  step_right : (value : Expr) (asked : Option Kind) → keeps_to (step_uses unit) value ≡ true → has_kind asked value (kinds_in unit) ≡ true
      → is_ranged value ≡ true → nat_lt 32 (depth_of (plain_expression value)) ≡ false → is_right_in scope (plain_expression value) ≡ true
  step_right value asked kept has ranged low =
      let there = kind_there (kind_of_expression value (kinds_in unit)) asked has in
      right value there.one there.is (step_keeps value kept) ranged low

  form_right : (line : LineForm) → AtStep line → FormRight scope line
  form_right (form.Assign target value) at =
      let passes = at.1 in
      let names = or_parts (is_none (type_in unit target)) _ passes.named in
      let kind = not_false _ (or_parts _ _ passes.kinded).0 in (
        step_right value (kinds_in unit target) (not_false _ names.1) kind passes.in_range.1 (or_parts _ _ passes.low).0,
        target_right system unit declared params each_word target names.0 passes.writable,
      )
  form_right (form.If cond) at =
      let passes = at.1 in
      step_right cond (Some kinds.Bool) (not_false _ passes.named) (not_false _ (or_parts _ _ passes.kinded).0) passes.in_range.1
      (or_parts _ _ passes.low).0
  form_right (form.Accept value) at =
      let passes = at.1 in
      step_right value (Some kinds.Int) (not_false _ passes.named) (not_false _ (or_parts _ _ passes.kinded).0) passes.in_range.1
      (or_parts _ _ passes.low).0
  form_right (form.Repeat count) at = at.1.in_range.0
  form_right (form.Header version) at = tt
  form_right (form.Unit name) at = tt
  form_right (form.Resolution decimals) at = tt
  form_right (form.Param param) at = tt
  form_right (form.State state) at = tt
  form_right (form.Local local) at = tt
  form_right (form.Input input) at = tt
  form_right (form.EventInput event) at = tt
  form_right (form.Output output) at = tt
  form_right (form.EventOutput event) at = tt
  form_right (form.Max value) at = tt
  form_right form.Step at = tt
  form_right form.Else at = tt
  form_right form.End at = tt
  form_right (form.Instance name of_unit) at = tt
  form_right (form.Setting setting) at = tt
  form_right (form.Connect wire) at = tt
  form_right (form.Stop seconds) at = tt
  form_right (form.Longest seconds) at = tt
  form_right (form.Zero count) at = tt
  form_right (form.Rows count) at = tt
  form_right (form.Sample port) at = tt

  forms_right : (earlier forms : List LineForm) → AllByRecursion (Passes system) (sites (StepScope unit) earlier (map alone forms))
      → AllByRecursion (FormRight scope) forms
  forms_right earlier [] all = tt
  forms_right earlier (line ∷ forms) all = (form_right line (earlier, all.0), forms_right (earlier ++ (line ∷ [])) forms all.1)

  -- ---- `max` and the step

  abbrev Tail : List LineForm → List Headed → Type 0
  Tail earlier headed = Hold (Passes system) (UnitScope unit) earlier headed

  -- What comes after `max`.
  pub record Behind (rest : List Headed) : Type 0 where
    pub earlier : List LineForm
    pub hold : Tail earlier rest

  max_keeps : (value : Expr) → keeps_to (max_uses unit) value ≡ true → Keeps value
  max_keeps value kept = keeps (max_uses unit) (usable_shared system unit declared params each_word) refl value kept

  max_runs : (earlier : List LineForm) (given : Option Expr) (rest : List Headed)
      → Tail earlier (flat_map (headed_unit_part unit) (optional parts.Max given) ++ rest)
      → IfSome (option_map plain_expression given) (λ value. IsCallable scope value) × Behind rest
  max_runs earlier None rest hold = (tt, record { earlier = earlier; hold = hold })
  max_runs earlier (Some value) rest hold =
      let at = hold.0 in
      let there = kind_there (kind_of_expression value (kinds_in unit)) (Some kinds.Int) (not_false _ (or_parts _ _ at.kinded).0) in (
        callable value there.one there.is (max_keeps value (not_false _ at.named)) at.in_range.1 (or_parts _ _ at.low).0 (or_parts _ _ at.cheap).0,
        record { earlier = earlier ++ (form.Max value ∷ []); hold = hold.2 },
      )

  step_runs : (earlier : List LineForm) (given : Option (List Line)) → run.step ≡ option_map (map plain_line) given
      → Tail earlier (flat_map (headed_unit_part unit) (optional parts.Step given))
      → IfSome (option_map (map plain_line) given) (λ lines. IsRunnable scope lines)
  step_runs earlier None is hold = tt
  step_runs earlier (Some lines) is hold =
      let cheap = (or_parts _ _ hold.0.cheap).0 in
      record {
        right = lines_right scope lines (forms_right [] (flat_map line_forms lines) hold.1);
        cheap = lt_not_told 100000 (step_call_cost (map plain_line lines)) (ap (λ (s : Option (List Line)). nat_lt 100000 (step_cost s)) (sym is) ∙ cheap);
      }

  pub compilable : IsCompilable run params
  compilable =
      let limits = unit_limited system unit declared in
      let headed : UnitPart → List Headed = headed_unit_part unit in
      let tail =
      max_runs declared.before_tail unit.max (flat_map headed (optional parts.Step unit.step))
      (subst (Tail declared.before_tail) (flat_map-append headed (optional parts.Max unit.max) (optional parts.Step unit.step)) declared.tail) in
      record {
        one_each = each_word;
        outputs = limits.outputs;
        states = limits.states;
        inputs = limits.inputs;
        locals = limits.locals;
        types = all_has (λ (v : Variable). AreDecimals v.ty) (variables_of run) typed;
        output_types = all_has (λ (output : Output). AreDecimals output.ty) run.outputs (λ output has. (outputs_run output has).typed);
        values = all_has (λ (output : Output). IsCallable scope output.value) run.outputs (λ output has. (outputs_run output has).callable);
        max = tail.0;
        step = step_runs tail.1.earlier unit.step refl tail.1.hold;
      }
