-- Calls of a component with event ports are those of its plain form.
use Rattle.std.proofs.Common.{◌≡◌, ◌≤◌, ℕ, zero, suc, ◌+◌, Bool, true, false, ℤ, pos, List, [], ◌∷◌, ◌++◌, append_assoc, map, length, if◌then◌else◌, Option}
use Rattle.std.proofs.Common.{Some, None, Result, Ok, Err, inl, inr, refl, sym, ap, ◌∙◌, subst, arith}
use Rattle.std.specs.Prelude.{◌||◌}
use Rattle.std.specs.List.{AllByRecursion, flat_map}
use Rattle.std.specs.Option.{IfSome, option_map}
use Rattle.std.specs.Str.{bytes_eq}
use Rattle.std.proofs.lemmas.List.{length-append, length-map, map-append}
use Rattle.fixed_words.specs.Operations.{Outcome}
use Rattle.fixed_words.specs.Types.{kind_of}
use Rattle.fixed_words.specs.declared.types.Fault.{Fault}
use Rattle.fixed_words.specs.declared.types.Ty.{Ty}
use Rattle.fixed_words.specs.declared.types.Ty.TheVariants as types
use Rattle.unit_tree.specs.Components.{Component, Moved, variable, variables_of, words_of, environment_of, given_as, as_limit, get_of, limit_by, moved_by}
use Rattle.unit_tree.specs.Components.{state_in}
use Rattle.unit_tree.specs.Effects.{effect_of_lines}
use Rattle.unit_tree.specs.Names.{is_among, event_input_names}
use Rattle.unit_tree.specs.Plain.{presence_name, plain_expression, presence_of, word_expression_of, plain_line, plain_inputs, plain_output, plain_outputs}
use Rattle.unit_tree.specs.Plain.{plain_needs, plain_unit}
use Rattle.unit_tree.specs.Tokens.{IsWord}
use Rattle.unit_tree.specs.Values.{◌>>=◌, truth, value_of}
use Rattle.unit_tree.specs.declared.environment.Environment.{Environment}
use Rattle.unit_tree.specs.declared.environment.Value.{Value}
use Rattle.unit_tree.specs.declared.environment.Variable.{Variable}
use Rattle.unit_tree.specs.declared.expr.Expr.{Expr}
use Rattle.unit_tree.specs.declared.line.Line.{Line}
use Rattle.unit_tree.specs.declared.unit.EventIn.{EventIn}
use Rattle.unit_tree.specs.declared.unit.EventOut.{EventOut}
use Rattle.unit_tree.specs.declared.unit.Input.{Input}
use Rattle.unit_tree.specs.declared.unit.Output.{Output}
use Rattle.unit_tree.specs.declared.unit.Unit.{Unit}
use Rattle.language_laws.proofs.NameLaws.{same_bytes, bytes_of}
use Rattle.language_laws.proofs.PlainNames.{word_is_plain, same_presence}
use Rattle.list_laws.proofs.Lists.{each_part}
use Rattle.list_laws.proofs.Truths.{true_is_false}
use Rattle.event_runs.specs.Events.{Signal, Occurs, Absent, occurs, Occurring, Seen, value_in, event_in, effect_of_lines_in, word_seen, occurring_at}
use Rattle.event_runs.specs.Events.{all_variables_of, all_words_of, environment_in, occurring_in, get_in, signal_as, get_event, limit_in, moved_in}
use Rattle.event_runs.specs.Readings.{words_of_signal, plain_component, plain_words}
use Rattle.event_runs.specs.Laws.{Speaks, Shows, AreTwo, zero_value, LineSpeaks, IsSaid, Fits, AreTwoGets, AllPairs, HasPlainCalls}
use Rattle.event_runs.proofs.EffectLaws.{Both, source_env, plain_env, IsBoth, shows, Alike, lines_alike}
use Rattle.event_runs.proofs.EventLaws.{two}
use Rattle.event_runs.proofs.SlotLaws.{Slot, Same, Tells, source_variables, source_words, plain_variables, words_beside, plain_value, other_bytes, Fronts}
use Rattle.event_runs.proofs.SlotLaws.{same_front}
use Rattle.event_runs.proofs.ValueLaws.{Given, same}

-- The word that is used where no event occurs is a word of each type.
pub zero_given : (ty : Ty) → given_as ty (zero_value ty) ≡ Ok (pos 0)
zero_given types.Int8 = refl
zero_given types.UInt8 = refl
zero_given types.Int16 = refl
zero_given types.UInt16 = refl
zero_given types.Int32 = refl
zero_given types.UInt32 = refl
zero_given types.Int64 = refl
zero_given types.Bool = refl
zero_given (types.Fixed decimals) = refl

-- ---- The slots of a component

abbrev pub same_slots : List Variable → List ℤ → List Slot
same_slots (one ∷ variables) (word ∷ words) = Same one word ∷ same_slots variables words
same_slots _ _ = []

abbrev pub bit : Signal → ℤ
bit (Occurs word) = pos 1
bit Absent = pos 0

abbrev pub of_event : EventIn → Variable
of_event event = variable event.name event.ty

abbrev pub of_input : Input → Variable
of_input input = variable input.name input.ty

abbrev pub event_slots : List EventIn → List Signal → List Slot
event_slots (event ∷ events) (signal ∷ signals) = Tells event.name (bit signal) ∷ Same (of_event event) (word_seen signal) ∷ event_slots events signals
event_slots _ _ = []

pub none_over : {A : Type 0} (one : A) (ones : List A) → 0 ≡ length (one ∷ ones) → ⊥
none_over one ones is = absurd (omega (arith, is))

pub none_under : {A : Type 0} (one : A) (ones : List A) → length (one ∷ ones) ≡ 0 → ⊥
none_under one ones is = absurd (omega (arith, is))

pub one_less : {A B : Type 0} (one : A) (ones : List A) (other : B) (others : List B) → length (one ∷ ones) ≡ length (other ∷ others)
    → length ones ≡ length others
one_less one ones other others is = omega (arith, is)

pub source-same : (variables : List Variable) (words : List ℤ) → length words ≡ length variables
    → (source_variables (same_slots variables words) ≡ variables) × (source_words (same_slots variables words) ≡ words)
source-same [] [] is = (refl, refl)
source-same [] (word ∷ words) is = absurd (none_under word words is)
source-same (one ∷ variables) [] is = absurd (none_over one variables is)
source-same (one ∷ variables) (word ∷ words) is =
    let rest = source-same variables words (one_less word words one variables is) in
    (ap (λ all. one ∷ all) rest.0, ap (λ all. word ∷ all) rest.1)

pub plain-same : (variables : List Variable) (words : List ℤ) → length words ≡ length variables
    → (plain_variables (same_slots variables words) ≡ variables) × (words_beside (same_slots variables words) ≡ words)
plain-same [] [] is = (refl, refl)
plain-same [] (word ∷ words) is = absurd (none_under word words is)
plain-same (one ∷ variables) [] is = absurd (none_over one variables is)
plain-same (one ∷ variables) (word ∷ words) is =
    let rest = plain-same variables words (one_less word words one variables is) in
    (ap (λ all. one ∷ all) rest.0, ap (λ all. word ∷ all) rest.1)

pub source-events : (events : List EventIn) (signals : List Signal) → length signals ≡ length events
    → (source_variables (event_slots events signals) ≡ map of_event events) × (source_words (event_slots events signals) ≡ map word_seen signals)
source-events [] [] is = (refl, refl)
source-events [] (signal ∷ signals) is = absurd (none_under signal signals is)
source-events (event ∷ events) [] is = absurd (none_over event events is)
source-events (event ∷ events) (signal ∷ signals) is =
    let rest = source-events events signals (one_less signal signals event events is) in
    (ap (λ all. of_event event ∷ all) rest.0, ap (λ all. word_seen signal ∷ all) rest.1)

pub two_words : (signal : Signal) → words_of_signal signal ≡ bit signal ∷ word_seen signal ∷ []
two_words (Occurs word) = refl
two_words Absent = refl

pub plain-events : (events : List EventIn) (signals : List Signal) → length signals ≡ length events
    → (plain_variables (event_slots events signals) ≡ map of_input (flat_map plain_inputs events))
    × (words_beside (event_slots events signals) ≡ flat_map words_of_signal signals)
plain-events [] [] is = (refl, refl)
plain-events [] (signal ∷ signals) is = absurd (none_under signal signals is)
plain-events (event ∷ events) [] is = absurd (none_over event events is)
plain-events (event ∷ events) (signal ∷ signals) is =
    let rest = plain-events events signals (one_less signal signals event events is) in (
      ap (λ all. variable (presence_name event.name) types.Bool ∷ of_event event ∷ all) rest.0,
      ap (λ all. bit signal ∷ word_seen signal ∷ all) rest.1 ∙ ap (λ front. front ++ flat_map words_of_signal signals) (sym (two_words signal)),
    )

pub source-append : (one other : List Slot)
    → (source_variables (one ++ other) ≡ source_variables one ++ source_variables other)
    × (source_words (one ++ other) ≡ source_words one ++ source_words other)
source-append [] other = (refl, refl)
source-append (Same named word ∷ one) other =
    let rest = source-append one other in (ap (λ all. named ∷ all) rest.0, ap (λ all. word ∷ all) rest.1)
source-append (Tells name word ∷ one) other = source-append one other

pub plain-append : (one other : List Slot)
    → (plain_variables (one ++ other) ≡ plain_variables one ++ plain_variables other) × (words_beside (one ++ other) ≡ words_beside one ++ words_beside other)
plain-append [] other = (refl, refl)
plain-append (Same named word ∷ one) other =
    let rest = plain-append one other in (ap (λ all. named ∷ all) rest.0, ap (λ all. word ∷ all) rest.1)
plain-append (Tells name word ∷ one) other =
    let rest = plain-append one other in (ap (λ all. variable (presence_name name) types.Bool ∷ all) rest.0, ap (λ all. word ∷ all) rest.1)

pub fronts_within : (count : ℕ) (variables : List Variable) (words : List ℤ) (behind : List Slot) → length words ≡ length variables → count ≤ length words
    → Fronts count (same_slots variables words ++ behind)
fronts_within zero variables words behind is within = tt
fronts_within (suc count) variables [] behind is within = absurd (omega (arith, within))
fronts_within (suc count) [] (word ∷ words) behind is within = absurd (none_under word words is)
fronts_within (suc count) (one ∷ variables) (word ∷ words) behind is within =
    fronts_within count variables words behind (one_less word words one variables is) (omega (arith, within))

-- ---- Names of `?` ports

-- A search for the name of a `?` port passes over variables with plain names.
pub passed : (variables : List Variable) (words : List ℤ) (behind : List Slot) (name : List ℕ) → AllByRecursion (λ one. IsWord one.name) variables
    → plain_value (same_slots variables words ++ behind) (presence_name name) ≡ plain_value behind (presence_name name)
passed [] words behind name named = refl
passed (one ∷ variables) [] behind name named = refl
passed (one ∷ variables) (word ∷ words) behind name named =
    ap (λ told. if told then record { kind = kind_of one.ty; word = word } else plain_value (same_slots variables words ++ behind) (presence_name name))
    (other_bytes one.name (presence_name name) (λ is. word_is_plain one.name named.0 name is))
    ∙ passed variables words behind name named.1

pub truth_bit : (signal : Signal) → record { kind = kind_of types.Bool; word = bit signal } ≡ truth (occurs signal)
truth_bit (Occurs word) = refl
truth_bit Absent = refl

pub later_among : (told : Bool) (rest : Bool) → told ≡ false → (told || rest) ≡ true → rest ≡ true
later_among true rest is among = absurd (cc)
later_among false rest is among = among

pub told_by : (told : Bool) (event : EventIn) (signal : Signal) (events : List EventIn) (signals : List Signal) (behind : List Slot) (name : List ℕ)
    → bytes_eq event.name name ≡ told → IsWord event.name
    → (told ≡ false → plain_value (event_slots events signals ++ behind) (presence_name name) ≡ truth (occurring_at events signals name))
    → plain_value (event_slots (event ∷ events) (signal ∷ signals) ++ behind) (presence_name name)
    ≡ truth (if told then occurs signal else occurring_at events signals name)
told_by true event signal events signals behind name is named later =
    ap (λ told. if told then record { kind = kind_of types.Bool; word = bit signal } else plain_value
    (Same (of_event event) (word_seen signal) ∷ event_slots events signals ++ behind) (presence_name name))
    (bytes_of (presence_name event.name) (presence_name name) (ap presence_name (same_bytes event.name name is)))
    ∙ truth_bit signal
told_by false event signal events signals behind name is named later =
    let differ : event.name ≡ name → ⊥ = λ same. true_is_false (bytes_eq event.name name) (bytes_of event.name name same) is in
    ap (λ told. if told then record { kind = kind_of types.Bool; word = bit signal } else plain_value
    (Same (of_event event) (word_seen signal) ∷ event_slots events signals ++ behind) (presence_name name))
    (other_bytes (presence_name event.name) (presence_name name) (λ same. differ (same_presence event.name name same)))
    ∙ ap (λ told. if told then record { kind = kind_of event.ty; word = word_seen signal } else plain_value (event_slots events signals ++ behind)
    (presence_name name)) (other_bytes event.name (presence_name name) (λ same. word_is_plain event.name named name same))
    ∙ later refl

pub events_told : (events : List EventIn) (signals : List Signal) (behind : List Slot) (name : List ℕ) → length signals ≡ length events
    → AllByRecursion (λ one. IsWord one.name) (map of_event events) → is_among (map (λ event. event.name) events) name ≡ true
    → plain_value (event_slots events signals ++ behind) (presence_name name) ≡ truth (occurring_at events signals name)
events_told [] signals behind name is named among = absurd (cc)
events_told (event ∷ events) [] behind name is named among = absurd (none_over event events is)
events_told (event ∷ events) (signal ∷ signals) behind name is named among =
    told_by (bytes_eq event.name name) event signal events signals behind name refl named.0
    (λ other. events_told events signals behind name (one_less signal signals event events is) named.1
    (later_among (bytes_eq name event.name) (is_among (map (λ event. event.name) events) name) (turned other) among))
  where
    turned : bytes_eq event.name name ≡ false → bytes_eq name event.name ≡ false
    turned other = other_bytes name event.name (λ same. true_is_false (bytes_eq event.name name) (bytes_of event.name name (sym same)) other)

-- ---- Both environments of a component

module _ (component : Component) (state : List ℤ) (seen : Seen) (fits : Fits component state seen) where
  abbrev pub unit : Unit
  unit = component.unit

  abbrev pub front_variables : List Variable
  front_variables = map (λ param. variable param.name param.ty) unit.params ++ map (λ state. variable state.name state.ty) unit.states
      ++ map of_input unit.inputs

  abbrev pub local_variables : List Variable
  local_variables = map (λ local. variable local.name local.ty) unit.locals

  abbrev pub front_words : List ℤ
  front_words = component.params ++ state ++ seen.words

  abbrev pub local_words : List ℤ
  local_words = map (λ local. pos 0) unit.locals

  abbrev pub slots_of : List Slot
  slots_of = same_slots front_variables front_words ++ event_slots unit.events_in seen.signals ++ same_slots local_variables local_words

  pub front_fits : length front_words ≡ length front_variables
  front_fits =
      length-append (component.params ++ state) seen.words
      ∙ ap (λ n. n + length seen.words) (length-append component.params state)
      ∙ ap (λ n. n + length seen.words) (rw (fits.params, fits.states) refl)
      ∙ ap (λ n. length unit.params + length unit.states + n) fits.words
      ∙ sym (length-append (map (λ param. variable param.name param.ty) unit.params ++ map (λ state. variable state.name state.ty) unit.states)
      (map of_input unit.inputs)
      ∙ ap (λ n. n + length (map of_input unit.inputs))
      (length-append (map (λ param. variable param.name param.ty) unit.params) (map (λ state. variable state.name state.ty) unit.states))
      ∙ rw (
        length-map unit.params (λ param. variable param.name param.ty),
        length-map unit.states
            (λ state. variable state.name state.ty),
        length-map unit.inputs of_input,
      ) refl)

  pub locals_fit : length local_words ≡ length local_variables
  locals_fit = length-map unit.locals (λ local. pos 0) ∙ sym (length-map unit.locals (λ local. variable local.name local.ty))

  abbrev pub both_of : ℕ → ℕ → Both
  both_of time step = record { slots = slots_of; time = time; step = step; accepted = step }

  pub source_is : (time step : ℕ) → source_env (both_of time step) ≡ environment_in component state seen time step
  source_is time step =
      let front = source-same front_variables front_words front_fits in
      let events = source-events unit.events_in seen.signals fits.signals in
      let locals = source-same local_variables local_words locals_fit in
      let whole = source-append (same_slots front_variables front_words ++ event_slots unit.events_in seen.signals) (same_slots local_variables local_words) in
      let begin = source-append (same_slots front_variables front_words) (event_slots unit.events_in seen.signals) in
      let variables : source_variables slots_of ≡ all_variables_of unit = whole.0 ∙ rw (begin.0, front.0, events.0, locals.0) refl in
      let words : source_words slots_of ≡ all_words_of component state seen = whole.1 ∙ rw (begin.1, front.1, events.1, locals.1) refl in
      ap (λ all. record { variables = all; words = source_words slots_of; time = time; step = step; accepted = step }) variables
      ∙ ap (λ all. record { variables = all_variables_of unit; words = all; time = time; step = step; accepted = step }) words

  pub plain_is : (time step : ℕ) → plain_env (both_of time step) ≡ environment_of (plain_component component) state (plain_words seen) time step
  plain_is time step =
      let front = plain-same front_variables front_words front_fits in
      let events = plain-events unit.events_in seen.signals fits.signals in
      let locals = plain-same local_variables local_words locals_fit in
      let whole = plain-append (same_slots front_variables front_words ++ event_slots unit.events_in seen.signals) (same_slots local_variables local_words) in
      let begin = plain-append (same_slots front_variables front_words) (event_slots unit.events_in seen.signals) in
      let before : List Variable = map (λ param. variable param.name param.ty) unit.params ++ map (λ state. variable state.name state.ty) unit.states in
      let variables : plain_variables slots_of ≡ variables_of (plain_unit unit) =
      whole.0 ∙ rw (begin.0, front.0, events.0, locals.0)
      (ap (λ all. all ++ local_variables)
      (append_assoc before (map of_input unit.inputs) (map of_input (flat_map plain_inputs unit.events_in))
      ∙ ap (λ all. before ++ all) (sym (map-append of_input unit.inputs (flat_map plain_inputs unit.events_in))))) in
      let words : words_beside slots_of ≡ words_of (plain_component component) state (plain_words seen) =
      whole.1 ∙ rw (begin.1, front.1, events.1, locals.1)
      (ap (λ all. all ++ local_words) (append_assoc (component.params ++ state) seen.words (flat_map words_of_signal seen.signals))) in
      ap (λ all. record { variables = all; words = words_beside slots_of; time = time; step = step; accepted = step }) variables
      ∙ ap (λ all. record { variables = variables_of (plain_unit unit); words = all; time = time; step = step; accepted = step }) words

  abbrev pub occurring : Occurring
  occurring = occurring_in component seen

  abbrev pub events : List (List ℕ)
  events = event_input_names unit

  abbrev pub count : ℕ
  count = length component.params + length unit.states

  pub within : count ≤ length front_words
  within =
      let lengths = length-append (component.params ++ state) seen.words in
      let parts = length-append component.params state in
      let states = fits.states in
      omega (arith, lengths, parts, states)

  module _ (variables_said : AllByRecursion (λ variable. IsWord variable.name) (all_variables_of unit)) where
    abbrev pub Named : List Variable → Type 0
    Named variables = AllByRecursion (λ variable. IsWord variable.name) variables

    pub is_both : (time step : ℕ) → IsBoth occurring events count (both_of time step)
    is_both time step =
        let split = each_part (λ variable. IsWord variable.name) (front_variables ++ map of_event unit.events_in) local_variables variables_said in
        let split_front = each_part (λ variable. IsWord variable.name) front_variables (map of_event unit.events_in) split.0 in
        record {
          tells = λ name among.
              ap (λ slots. plain_value slots (presence_name name))
              (append_assoc (same_slots front_variables front_words) (event_slots unit.events_in seen.signals) (same_slots local_variables local_words))
              ∙ passed front_variables front_words (event_slots unit.events_in seen.signals ++ same_slots local_variables local_words) name split_front.0
              ∙ events_told unit.events_in seen.signals (same_slots local_variables local_words) name fits.signals split_front.1 among;
          fronts = subst (Fronts count)
              (sym (append_assoc (same_slots front_variables front_words) (event_slots unit.events_in seen.signals) (same_slots local_variables local_words)))
              (fronts_within count front_variables front_words
              (event_slots unit.events_in seen.signals ++ same_slots local_variables local_words) front_fits within);
        }

    pub shown : (time step : ℕ)
        → Shows occurring events (environment_in component state seen time step) (environment_of (plain_component component) state (plain_words seen) time step)
    shown time step =
        subst (λ env. Shows occurring events env (environment_of (plain_component component) state (plain_words seen) time step)) (source_is time step)
        (subst (λ env. Shows occurring events (source_env (both_of time step)) env) (plain_is time step)
        (shows occurring events count (both_of time step) (is_both time step)))

    -- ---- The calls

    pub value_same : (value : Expr) (time step : ℕ) → Speaks events value
        → value_of (plain_expression value) (environment_of (plain_component component) state (plain_words seen) time step)
        ≡ value_in occurring value (environment_in component state seen time step)
    value_same value time step said =
        same occurring events (environment_in component state seen time step) (environment_of (plain_component component) state (plain_words seen) time step)
        (shown time step) value said

    pub get_same : (output : Output) → Speaks events output.value
        → get_of (plain_component component) state (plain_words seen) (plain_output unit output) ≡ get_in component state seen output
    get_same output said = ap (λ (given : Given). given >>= given_as output.ty) (value_same output.value 0 0 said)

    pub limit_same : (limit : Option Expr) (time : ℕ) → IfSome limit (Speaks events)
        → limit_by (option_map plain_expression limit) (environment_of (plain_component component) state (plain_words seen) time 0)
        ≡ limit_in occurring limit (environment_in component state seen time 0)
    limit_same None time said = refl
    limit_same (Some limit) time said = ap (λ (given : Given). given >>= as_limit) (value_same limit time 0 said)

    abbrev pub plain_moved : Environment → Moved
    plain_moved after = record { state = state_in (plain_component component) after; accepted = after.accepted }

    abbrev pub source_moved : Environment → Moved
    source_moved after = record { state = state_in component after; accepted = after.accepted }

    pub moved_after : (both : Both) → Fronts count both.slots → plain_moved (plain_env both) ≡ source_moved (source_env both)
    moved_after both fronts =
        ap (λ words. record { state = words; accepted = both.accepted }) (same_front (length component.params) (length unit.states) both.slots fronts)

    abbrev pub done : Moved → Result Moved Fault
    done moved = Ok moved

    pub moved_of : (plain source : Result Environment Fault) → Alike occurring events count plain source
        → (plain >>= λ after. done (plain_moved after)) ≡ (source >>= λ after. done (source_moved after))
    moved_of (Ok plain) (Ok source) alike =
        ap (λ env. done (plain_moved env)) alike.plain_is ∙ ap done (moved_after alike.both alike.is.fronts)
        ∙ sym (ap (λ env. done (source_moved env)) alike.source_is)
    moved_of (Ok plain) (Err fault) alike = absurd alike
    moved_of (Err fault) (Ok source) alike = absurd alike
    moved_of (Err fault) (Err other) alike = ap (λ f. Err f) alike

    pub moved_same : (lines : Option (List Line)) (time step : ℕ) → IfSome lines (AllByRecursion (LineSpeaks events))
        → moved_by (option_map (map plain_line) lines) (plain_component component) state
        (environment_of (plain_component component) state (plain_words seen) time step)
        ≡ moved_in occurring lines component state (environment_in component state seen time step)
    moved_same None time step said = refl
    moved_same (Some lines) time step said =
        moved_of (effect_of_lines (map plain_line lines) (environment_of (plain_component component) state (plain_words seen) time step))
        (effect_of_lines_in occurring lines (environment_in component state seen time step))
        (subst (λ env. Alike occurring events count
        (effect_of_lines (map plain_line lines) (environment_of (plain_component component) state (plain_words seen) time step))
        (effect_of_lines_in occurring lines env)) (source_is time step)
        (subst (λ env. Alike occurring events count (effect_of_lines (map plain_line lines) env)
        (effect_of_lines_in occurring lines (source_env (both_of time step)))) (plain_is time step)
        (lines_alike occurring events count lines said (both_of time step) (is_both time step))))

    -- ---- Event outputs

    pub two_given : (ty : Ty) (event : Result (Option Value) Fault) (tells word : Given) → AreTwo ty event tells word
        → AreTwoGets (event >>= signal_as ty) (tells >>= given_as types.Bool) (word >>= given_as ty)
    two_given ty (Ok None) tells word are =
        (ap (λ (given : Given). given >>= given_as types.Bool) are.0, ap (λ (given : Given). given >>= given_as ty) are.1 ∙ zero_given ty)
    two_given ty (Ok (Some value)) tells word are =
        subst (λ given. AreTwoGets (given_as ty value >>= λ w. Ok (Occurs w)) (tells >>= given_as types.Bool) given)
        (sym (ap (λ (given : Given). given >>= given_as ty) are.1)) (by_range (given_as ty value))
      where
        by_range : (given : Outcome) → AreTwoGets (given >>= λ w. Ok (Occurs w)) (tells >>= given_as types.Bool) given
        by_range (Ok w) = (ap (λ (given : Given). given >>= given_as types.Bool) are.0, refl)
        by_range (Err fault) = (inr (ap (λ (given : Given). given >>= given_as types.Bool) are.0), refl)
    two_given ty (Err fault) tells word are = (
      elim are.0 [
        | inl is ↦ inl (ap (λ (given : Given). given >>= given_as types.Bool) is)
        | inr is ↦ inr
            (ap (λ (given : Given). given >>= given_as types.Bool) is)
      ],
      ap (λ (given : Given). given >>= given_as ty) are.1,
    )

    pub event_same : (event : EventOut) (tells word : Output) → tells.ty ≡ types.Bool → word.ty ≡ event.ty
        → tells.value ≡ plain_expression (presence_of event.value) → word.value ≡ plain_expression (word_expression_of event.ty event.value)
        → Speaks events event.value
        → AreTwoGets (get_event component state seen event) (get_of (plain_component component) state (plain_words seen) tells)
        (get_of (plain_component component) state (plain_words seen) word)
    event_same event tells word tells_ty word_ty tells_is word_is said =
        let plain = environment_of (plain_component component) state (plain_words seen) 0 0 in
        let source = environment_in component state seen 0 0 in
        subst (λ given. AreTwoGets (get_event component state seen event) given (get_of (plain_component component) state (plain_words seen) word))
        (sym (ap (λ value. value_of value plain >>= given_as tells.ty) tells_is
        ∙ ap (λ ty. value_of (plain_expression (presence_of event.value)) plain >>= given_as ty) tells_ty))
        (subst (λ given. AreTwoGets (get_event component state seen event)
        (value_of (plain_expression (presence_of event.value)) plain >>= given_as types.Bool) given)
        (sym (ap (λ value. value_of value plain >>= given_as word.ty) word_is
        ∙ ap (λ ty. value_of (plain_expression (word_expression_of event.ty event.value)) plain >>= given_as ty) word_ty))
        (two_given event.ty (event_in occurring event.value source) (value_of (plain_expression (presence_of event.value)) plain)
        (value_of (plain_expression (word_expression_of event.ty event.value)) plain)
        (two occurring events source plain event.ty (shown 0 0) event.value said)))

    pub gets_same : (outputs : List Output) → AllByRecursion (λ output. Speaks events output.value) outputs
        → AllByRecursion (λ output.
        get_of (plain_component component) state (plain_words seen) (plain_output unit output) ≡ get_in component state seen output) outputs
    gets_same [] said = tt
    gets_same (output ∷ outputs) said = (get_same output said.0, gets_same outputs said.1)

    pub events_same : (outputs : List EventOut) → AllByRecursion (λ event. Speaks events event.value) outputs
        → AllByRecursion (λ event.
        AllPairs (AreTwoGets (get_event component state seen event))
        (map (get_of (plain_component component) state (plain_words seen)) (plain_outputs unit event))) outputs
    events_same [] said = tt
    events_same (event ∷ outputs) said = (event_same event (first_of event) (second_of event) refl refl refl refl said.0, events_same outputs said.1)
      where
        first_of : EventOut → Output
        first_of event = record {
          name = presence_name event.name;
          ty = types.Bool;
          needs = plain_needs unit event.needs;
          value =
              plain_expression (presence_of event.value);
        }

        second_of : EventOut → Output
        second_of event = record {
          name = event.name;
          ty = event.ty;
          needs = plain_needs unit event.needs;
          value =
              plain_expression (word_expression_of event.ty event.value);
        }

pub plain_calls : (component : Component) (state : List ℤ) (seen : Seen) → IsSaid component.unit → Fits component state seen
    → HasPlainCalls component state seen
plain_calls component state seen said fits = record {
  get = gets_same component state seen fits said.variables component.unit.outputs said.outputs;
  events = events_same component state seen fits said.variables component.unit.events_out said.events;
  limit = λ time. limit_same component state seen fits said.variables component.unit.max time said.limit;
  step = λ time step. moved_same component state seen fits said.variables component.unit.step time step said.step;
}
