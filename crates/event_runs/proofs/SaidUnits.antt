-- The content of a unit of a judged system: its names are words, and its expressions use `present` only of its event
-- inputs.
use Rattle.std.proofs.Common.{◌≡◌, ℕ, true, false, List, [], ◌∷◌, ◌++◌, map, Option, Some, None, inl, inr, refl, subst}
use Rattle.std.specs.Prelude.{◌&&◌, ◌||◌, is_none, not}
use Rattle.std.specs.List.{AllByRecursion, flat_map, list_all}
use Rattle.std.specs.Option.{IfSome}
use Rattle.std.proofs.lemmas.Bool.{and_parts, or_parts}
use Rattle.std.proofs.lemmas.Grind.{flat_map-append}
use Rattle.unit_tree.specs.Canonical.{optional}
use Rattle.unit_tree.specs.Components.{variable}
use Rattle.unit_tree.specs.Names.{are_among, event_input_names, events_asked_in, expression_on, input_names, keeps_to, names_in, Uses, are_allowed, clocks_in}
use Rattle.unit_tree.specs.Names.{max_uses, output_uses, step_uses}
use Rattle.unit_tree.specs.Parts as parts
use Rattle.unit_tree.specs.Parts.{line_forms}
use Rattle.unit_tree.specs.Printable.{names_said}
use Rattle.unit_tree.specs.Sites.{UnitScope, StepScope, Headed, alone, sites, headed_unit_part, is_step_line}
use Rattle.unit_tree.specs.Tokens.{IsWord}
use Rattle.unit_tree.specs.Names.{type_in}
use Rattle.unit_tree.specs.declared.expr.Expr.{Expr}
use Rattle.unit_tree.specs.declared.line.Line.{Line}
use Rattle.unit_tree.specs.declared.line_form.LineForm.{LineForm}
use Rattle.unit_tree.specs.declared.line_form.LineForm.TheVariants as form
use Rattle.unit_tree.specs.declared.system.System.{System}
use Rattle.unit_tree.specs.declared.unit.EventIn.{EventIn}
use Rattle.unit_tree.specs.declared.unit.EventOut.{EventOut}
use Rattle.unit_tree.specs.declared.unit.Input.{Input}
use Rattle.unit_tree.specs.declared.unit.Local.{Local}
use Rattle.unit_tree.specs.declared.unit.Output.{Output}
use Rattle.unit_tree.specs.declared.unit.Param.{Param}
use Rattle.unit_tree.specs.declared.unit.State.{State}
use Rattle.unit_tree.specs.declared.unit.Unit.{Unit}
use Rattle.language_laws.proofs.BlockLaws.{all_step_lines}
use Rattle.language_laws.proofs.Declarations.{Declared, OfParam, OfState, OfLocal, OfInput, OfEventIn, OfOutput, OfEventOut, line_of, declarations}
use Rattle.language_laws.proofs.Declarations.{Declares, AtLine, declared_line, param_is_declared, state_is_declared, local_is_declared, input_is_declared}
use Rattle.language_laws.proofs.Declarations.{event_in_is_declared, output_is_declared, event_out_is_declared}
use Rattle.language_laws.proofs.NameLaws.{Hold}
use Rattle.language_laws.proofs.UnitSites.{Passes}
use Rattle.list_laws.proofs.Lists.{back_of, of_flat, each_append, front_of}
use Rattle.list_laws.proofs.Members.{Has, all_has}
use Rattle.list_laws.proofs.Truths.{not_false}
use Rattle.event_runs.specs.EventPorts.{Plain, Event, outs_of, needs_in}
use Rattle.event_runs.specs.Laws.{Speaks, FormSpeaks, LineSpeaks, IsSaid, asks_of}

-- ---- Lists

each_mapped : {A B : Type 0} (P : B → Type 0) (f : A → B) (xs : List A) → ((x : A) → Has xs x → P (f x)) → AllByRecursion P (map f xs)
each_mapped P f [] each = tt
each_mapped P f (x ∷ xs) each = (each x (inl refl), each_mapped P f xs (λ y has. each y (inr has)))

-- ---- Expressions

-- An expression that uses only what it may use has in `present` only the events that it may use.
asked : (uses : Uses) (value : Expr) → keeps_to uses value ≡ true → are_among uses.events (events_asked_in value) ≡ true
asked uses value keeps =
    (and_parts (are_among uses.events (events_asked_in value)) (are_allowed uses.clocks (clocks_in value))
    (and_parts (are_among uses.names (names_in value)) (are_among uses.events (events_asked_in value) && are_allowed uses.clocks (clocks_in value)) keeps).1).0

module _ (system : System) (unit : Unit) (declared : Declares (Passes system) unit) where
  abbrev asks : List (List ℕ)
  asks = event_input_names unit

  at : (one : Declared) → Has (declarations unit) one → AtLine (Passes system) unit (line_of one)
  at one has = declared_line (Passes system) unit declared one has

  pub input_word : (input : Input) → Has unit.inputs input → IsWord input.name
  input_word input has = (at (OfInput input) (input_is_declared unit input has)).1.words.0

  pub event_word : (event : EventIn) → Has unit.events_in event → IsWord event.name
  event_word event has = (at (OfEventIn event) (event_in_is_declared unit event has)).1.words.0

  pub output_line : (output : Output) → Has unit.outputs output → AtLine (Passes system) unit (form.Output output)
  output_line output has = at (OfOutput output) (output_is_declared unit output has)

  -- An output uses only what it may use.
  used : (needs : List (List ℕ)) (value : Expr) → (not (keeps_to (output_uses unit) value) || not (are_among (input_names unit) needs)) ≡ false
      → are_among asks (events_asked_in value) ≡ true
  used needs value none =
      asked (output_uses unit) value
      (not_false (keeps_to (output_uses unit) value) (or_parts (not (keeps_to (output_uses unit) value)) (not (are_among (input_names unit) needs)) none).0)

  output_speaks : (output : Output) → Has unit.outputs output → Speaks asks output.value
  output_speaks output has =
      let line = (at (OfOutput output) (output_is_declared unit output has)).1 in
      record { names = back_of IsWord (names_said (form.Output output)) (names_in output.value) line.words; asked = used output.needs output.value line.named }

  event_speaks : (event : EventOut) → Has unit.events_out event → Speaks asks event.value
  event_speaks event has =
      let line = (at (OfEventOut event) (event_out_is_declared unit event has)).1 in
      record { names = back_of IsWord (names_said (form.EventOutput event)) (names_in event.value) line.words; asked = used event.needs event.value line.named }

  -- ---- What is needed

  output_needs : (output : Output) → Has unit.outputs output → AllByRecursion IsWord output.needs
  output_needs output has = front_of IsWord output.needs (names_in output.value) (at (OfOutput output) (output_is_declared unit output has)).1.words.1

  event_needs : (event : EventOut) → Has unit.events_out event → AllByRecursion IsWord event.needs
  event_needs event has = front_of IsWord event.needs (names_in event.value) (at (OfEventOut event) (event_out_is_declared unit event has)).1.words.1

  pub needs_are_words : AllByRecursion (λ out. AllByRecursion IsWord (needs_in out)) (outs_of unit)
  needs_are_words =
      each_append (λ out. AllByRecursion IsWord (needs_in out)) (map Plain unit.outputs) (map Event unit.events_out)
      (each_mapped (λ out. AllByRecursion IsWord (needs_in out)) Plain unit.outputs output_needs)
      (each_mapped (λ out. AllByRecursion IsWord (needs_in out)) Event unit.events_out event_needs)

  -- ---- `max` and the step

  abbrev Tail : List LineForm → List Headed → Type 0
  Tail earlier headed = Hold (Passes system) (UnitScope unit) earlier headed

  max_speaks : (earlier : List LineForm) (given : Option Expr) (rest : List Headed)
      → Tail earlier (flat_map (headed_unit_part unit) (optional parts.Max given) ++ rest)
      → IfSome given (Speaks asks) × ((before : List LineForm) × Tail before rest)
  max_speaks earlier None rest hold = (tt, (earlier, hold))
  max_speaks earlier (Some value) rest hold = (
    record { names = hold.0.words; asked = asked (max_uses unit) value (not_false (keeps_to (max_uses unit) value) hold.0.named) },
    (earlier ++ (form.Max value ∷ []), hold.2),
  )

  form_asks : (line : LineForm) (earlier : List LineForm) → is_step_line line ≡ true
      → Passes system (record { scope = StepScope unit; earlier = earlier; line = line }) → asks_of asks (expression_on line)
  form_asks (form.Header version) earlier is passes = absurd (cc)
  form_asks (form.Unit name) earlier is passes = absurd (cc)
  form_asks (form.Resolution decimals) earlier is passes = absurd (cc)
  form_asks (form.Param param) earlier is passes = absurd (cc)
  form_asks (form.State state) earlier is passes = absurd (cc)
  form_asks (form.Local local) earlier is passes = absurd (cc)
  form_asks (form.Input input) earlier is passes = absurd (cc)
  form_asks (form.EventInput event) earlier is passes = absurd (cc)
  form_asks (form.Output output) earlier is passes = absurd (cc)
  form_asks (form.EventOutput event) earlier is passes = absurd (cc)
  form_asks (form.Max value) earlier is passes = absurd (cc)
  form_asks form.Step earlier is passes = absurd (cc)
  form_asks form.End earlier is passes = tt
  form_asks (form.Assign target value) earlier is passes =
      asked (step_uses unit) value
      (not_false (keeps_to (step_uses unit) value) (or_parts (is_none (type_in unit target)) (not (keeps_to (step_uses unit) value)) passes.named).1)
  form_asks (form.If cond) earlier is passes = asked (step_uses unit) cond (not_false (keeps_to (step_uses unit) cond) passes.named)
  form_asks form.Else earlier is passes = tt
  form_asks (form.Repeat count) earlier is passes = tt
  form_asks (form.Accept value) earlier is passes = asked (step_uses unit) value (not_false (keeps_to (step_uses unit) value) passes.named)
  form_asks (form.Instance name unit_name) earlier is passes = absurd (cc)
  form_asks (form.Setting setting) earlier is passes = absurd (cc)
  form_asks (form.Connect wire) earlier is passes = absurd (cc)
  form_asks (form.Stop seconds) earlier is passes = absurd (cc)
  form_asks (form.Longest seconds) earlier is passes = absurd (cc)
  form_asks (form.Zero count) earlier is passes = absurd (cc)
  form_asks (form.Rows count) earlier is passes = absurd (cc)
  form_asks (form.Sample port) earlier is passes = absurd (cc)

  forms_speak : (earlier forms : List LineForm) → list_all is_step_line forms ≡ true
      → AllByRecursion (Passes system) (sites (StepScope unit) earlier (map alone forms)) → AllByRecursion (FormSpeaks asks) forms
  forms_speak earlier [] steps all = tt
  forms_speak earlier (line ∷ forms) steps all =
      let both = and_parts (is_step_line line) (list_all is_step_line forms) steps in
      (record { names = all.0.words; asked = form_asks line earlier both.0 all.0 }, forms_speak (earlier ++ (line ∷ [])) forms both.1 all.1)

  step_speaks : (earlier : List LineForm) (given : Option (List Line)) → Tail earlier (flat_map (headed_unit_part unit) (optional parts.Step given))
      → IfSome given (AllByRecursion (LineSpeaks asks))
  step_speaks earlier None hold = tt
  step_speaks earlier (Some lines) hold =
      of_flat (FormSpeaks asks) line_forms lines (forms_speak [] (flat_map line_forms lines) (all_step_lines lines) hold.1)

  -- ---- The unit

  pub is_said : IsSaid unit
  is_said =
      let tail =
      max_speaks declared.before_tail unit.max (flat_map (headed_unit_part unit) (optional parts.Step unit.step))
      (subst (Tail declared.before_tail)
      (flat_map-append (headed_unit_part unit) (optional parts.Max unit.max) (optional parts.Step unit.step)) declared.tail) in
      record {
        variables =
            each_append (λ v. IsWord v.name) _ _
            (each_append (λ v. IsWord v.name) _ _
            (each_append (λ v. IsWord v.name) _ _
            (each_append (λ v. IsWord v.name) _ _
            (each_mapped (λ v. IsWord v.name) (λ (param : Param). variable param.name param.ty) unit.params
            (λ param has. (at (OfParam param) (param_is_declared unit param has)).1.words.0))
            (each_mapped (λ v. IsWord v.name) (λ (state : State). variable state.name state.ty) unit.states
            (λ state has. (at (OfState state) (state_is_declared unit state has)).1.words.0)))
            (each_mapped (λ v. IsWord v.name) (λ (input : Input). variable input.name input.ty) unit.inputs
            (λ input has. (at (OfInput input) (input_is_declared unit input has)).1.words.0)))
            (each_mapped (λ v. IsWord v.name) (λ (event : EventIn). variable event.name event.ty) unit.events_in
            (λ event has. (at (OfEventIn event) (event_in_is_declared unit event has)).1.words.0)))
            (each_mapped (λ v. IsWord v.name) (λ (local : Local). variable local.name local.ty) unit.locals
            (λ local has. (at (OfLocal local) (local_is_declared unit local has)).1.words.0));
        outputs = all_has (λ (output : Output). Speaks asks output.value) unit.outputs output_speaks;
        events = all_has (λ (event : EventOut). Speaks asks event.value) unit.events_out event_speaks;
        limit = tail.0;
        step = step_speaks tail.1.0 unit.step tail.1.1;
      }
