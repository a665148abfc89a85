-- Names in the plain form of a unit: each that an expression may use has its declared kind there, and targets have slots that may be
-- written.
use Rattle.std.proofs.Common.{◌≡◌, ◌⊎◌, ℕ, suc, Bool, true, false, ℤ, List, [], ◌∷◌, ◌++◌, map, length, Option, Some, None, inl, inr, refl, sym, ap, ◌∙◌, subst}
use Rattle.std.proofs.Common.{arith}
use Rattle.std.specs.Prelude.{cond}
use Rattle.std.specs.List.{AllByRecursion, flat_map, find}
use Rattle.std.specs.Option.{option_map}
use Rattle.std.specs.Str.{bytes_eq}
use Rattle.fixed_words.specs.Types.{kind_of}
use Rattle.fixed_words.specs.declared.types.Kind.{Kind}
use Rattle.fixed_words.specs.declared.types.Kind.TheVariants as kinds
use Rattle.fixed_words.specs.declared.types.Ty.{Ty}
use Rattle.fixed_words.specs.declared.types.Ty.TheVariants as types
use Rattle.code_units.specs.Expressions.{name_code}
use Rattle.code_units.specs.Scopes.{constants, slots_from, slot_variables, scope_of, named}
use Rattle.code_units.specs.declared.scope.Named.{Named}
use Rattle.code_units.proofs.NamesInSlots.{param_variables}
use Rattle.unit_tree.specs.Components.{variable, variables_of}
use Rattle.unit_tree.specs.Names.{is_among, param_names, input_names, event_input_names, shared_names, step_uses, declared_in, kinds_in, Port, output_ports}
use Rattle.unit_tree.specs.Names.{input_ports}
use Rattle.unit_tree.specs.Plain.{presence_name, plain_inputs, plain_unit}
use Rattle.unit_tree.specs.Printable.{names_on}
use Rattle.unit_tree.specs.Tokens.{IsWord}
use Rattle.unit_tree.specs.declared.environment.Variable.{Variable}
use Rattle.unit_tree.specs.declared.system.System.{System}
use Rattle.unit_tree.specs.declared.unit.EventIn.{EventIn}
use Rattle.unit_tree.specs.declared.unit.EventOut.{EventOut}
use Rattle.unit_tree.specs.declared.unit.Input.{Input}
use Rattle.unit_tree.specs.declared.unit.Local.{Local}
use Rattle.unit_tree.specs.declared.unit.Output.{Output}
use Rattle.unit_tree.specs.declared.unit.Param.{Param}
use Rattle.unit_tree.specs.declared.unit.State.{State}
use Rattle.unit_tree.specs.declared.unit.Unit.{Unit}
use Rattle.language_laws.proofs.NameLaws.{same_bytes, bytes_of, found}
use Rattle.language_laws.proofs.PlainNames.{IsPlain, word_is_plain, map_has, flat_has, has_flat}
use Rattle.language_laws.proofs.Declarations.{Declared, OfParam, OfState, OfLocal, OfInput, OfEventIn, OfOutput, OfEventOut, line_of, variable_of, name_of}
use Rattle.language_laws.proofs.Declarations.{declarations, Declares, names_apart, declared_line, param_is_declared, state_is_declared, local_is_declared}
use Rattle.language_laws.proofs.Declarations.{input_is_declared, event_in_is_declared, output_is_declared, event_out_is_declared}
use Rattle.language_laws.proofs.UnitSites.{Passes}
use Rattle.list_laws.proofs.Members.{Has, Distinct, has_front, has_behind, has_either, has_map}
use Rattle.list_laws.proofs.Truths.{true_is_false}
use Rattle.run_laws.proofs.PortLaws.{among}

-- ---- Lists of variables

abbrev says : List ℕ → Variable → Bool
says name one = bytes_eq one.name name

-- The first variable of a name, where all variables of the name have one type.
pub record Found (xs : List Variable) (name : List ℕ) (ty : Ty) : Type 0 where
  pub one : Variable
  pub is : find (λ (x : Variable). bytes_eq x.name name) xs ≡ Some one
  pub typed : one.ty ≡ ty

find_typed : (xs : List Variable) (name : List ℕ) (ty : Ty) (v : Variable) → Has xs v → v.name ≡ name
    → ((w : Variable) → Has xs w → w.name ≡ name → w.ty ≡ ty) → Found xs name ty
find_typed [] name ty v has is all = absurd has
find_typed (x ∷ xs) name ty v has is all = by_test (bytes_eq x.name name) refl has (λ later. find_typed xs name ty v later is (λ w there. all w (inr there)))
  where
    by_test : (told : Bool) → bytes_eq x.name name ≡ told → (x ≡ v) ⊎ Has xs v → (Has xs v → Found xs name ty) → Found (x ∷ xs) name ty
    by_test true same here later =
        record {
          one = x;
          is = ap (λ (b : Bool). cond b (Some x) (find (λ (y : Variable). bytes_eq y.name name) xs)) same;
          typed =
              all x (inl refl) (same_bytes x.name name same);
        }
    by_test false other (inl first) later = true_is_false (bytes_eq x.name name) (bytes_of x.name name (ap (λ (y : Variable). y.name) first ∙ is)) other
    by_test false other (inr there) later =
        let rest = later there in
        record {
          one = rest.one;
          is = ap (λ (b : Bool). cond b (Some x) (find (λ (y : Variable). bytes_eq y.name name) xs)) other
              ∙ rest.is;
          typed = rest.typed;
        }

-- The kind of the first variable of a name, as code has it.
abbrev kind_told : Option Variable → Kind
kind_told None = kinds.Int
kind_told (Some one) = kind_of one.ty

told_by : (told : Bool) (known : Named) (others : Option Named) (one : Variable) (rest : Option Variable) → known.ty ≡ one.ty
    → (name_code others).kind ≡ kind_told rest → (name_code (cond told (Some known) others)).kind ≡ kind_told (cond told (Some one) rest)
told_by true known others one rest same later = ap kind_of same
told_by false known others one rest same later = later

slots_told : (slot : ℕ) (xs : List Variable) (name : List ℕ)
    → (name_code (named (slots_from slot xs) name)).kind ≡ kind_told (find (λ (x : Variable). bytes_eq x.name name) xs)
slots_told slot [] name = refl
slots_told slot (x ∷ xs) name = told_by (bytes_eq x.name name) _ (named (slots_from (suc slot) xs) name) x _ refl (slots_told (suc slot) xs name)

constants_told : (params : List Param) (words : List ℤ) (known : List Named) (xs : List Variable) (name : List ℕ) → length words ≡ length params
    → (name_code (named known name)).kind ≡ kind_told (find (λ (x : Variable). bytes_eq x.name name) xs)
    → (name_code (named (constants params words ++ known) name)).kind ≡ kind_told (find (λ (x : Variable). bytes_eq x.name name) (param_variables params ++ xs))
constants_told [] words known xs name each is = is
constants_told (param ∷ params) [] known xs name each is = absurd (cc)
constants_told (param ∷ params) (word ∷ words) known xs name each is =
    let others : length words ≡ length params = omega arith in
    told_by (bytes_eq param.name name) _ (named (constants params words ++ known) name) (variable param.name param.ty) _ refl
    (constants_told params words known xs name others is)

distinct_same : (all : List Declared) (a b : Declared) → Distinct (map name_of all) → Has all a → Has all b → name_of a ≡ name_of b → a ≡ b
distinct_same all a b apart has_a has_b same =
    let one = found name_of all a apart has_a in
    let other = found name_of all b apart has_b in
    let joined : Some a ≡ Some b = sym one ∙ ap (λ name. find (λ y. bytes_eq (name_of y) name) all) same ∙ other in
    cc

-- ---- The names of a unit

module _ (system : System) (unit : Unit) (declared : Declares (Passes system) unit) (params : List ℤ) (each_word : length params ≡ length unit.params) where
  distinct : Distinct (map name_of (declarations unit))
  distinct = names_apart system unit declared

  word_of : (one : Declared) → AllByRecursion IsWord (names_on (line_of one)) → IsWord (name_of one)
  word_of (OfParam param) words = words.0
  word_of (OfState state) words = words.0
  word_of (OfLocal local) words = words.0
  word_of (OfInput input) words = words.0
  word_of (OfEventIn event) words = words.0
  word_of (OfOutput output) words = words.0
  word_of (OfEventOut event) words = words.0

  pub plain_name : (one : Declared) → Has (declarations unit) one → IsPlain (name_of one)
  plain_name one has = word_is_plain (name_of one) (word_of one (declared_line (Passes system) unit declared one has).1.words)

  abbrev pub run : Unit
  run = plain_unit unit

  abbrev pub run_variables : List Variable
  run_variables = param_variables unit.params ++ slot_variables run

  abbrev pub input_variable : Input → Variable
  input_variable input = variable input.name input.ty

  abbrev pub state_variables : List Variable
  state_variables = map (λ (state : State). variable state.name state.ty) unit.states

  abbrev pub local_variables : List Variable
  local_variables = map (λ (local : Local). variable local.name local.ty) unit.locals

  abbrev pub input_variables : List Variable
  input_variables = map (λ (input : Input). variable input.name input.ty) run.inputs

  -- A variable is one that is declared.
  pub record Comes (w : Variable) : Type 0 where
    pub one : Declared
    pub has : Has (declarations unit) one
    pub is : variable_of one ≡ w

  -- The variable of a `?` port.
  abbrev pub presence_variable : EventIn → Variable
  presence_variable event = variable (presence_name event.name) types.Bool

  pub record Tells (w : Variable) : Type 0 where
    pub event : EventIn
    pub has : Has unit.events_in event
    pub is : presence_variable event ≡ w

  pub from_inputs : (w : Variable) → Has input_variables w → Comes w ⊎ Tells w
  from_inputs w has =
      let input = map_has input_variable run.inputs w has in
      elim (has_either unit.inputs (flat_map plain_inputs unit.events_in) input.one input.has) [
        | inl plain ↦ inl (record { one = OfInput input.one; has = input_is_declared unit input.one plain; is = input.is })
        | inr event ↦
            of_event input.one input.is (flat_has plain_inputs unit.events_in input.one event).one (flat_has plain_inputs unit.events_in input.one event).has
            (flat_has plain_inputs unit.events_in input.one event).inside
      ]
    where
      of_event : (input : Input) → input_variable input ≡ w → (event : EventIn) → Has unit.events_in event → Has (plain_inputs event) input → Comes w ⊎ Tells w
      of_event input is event has (inl first) = inr (record { event = event; has = has; is = ap input_variable first ∙ is })
      of_event input is event has (inr (inl second)) =
          inl (record { one = OfEventIn event; has = event_in_is_declared unit event has; is = ap input_variable second ∙ is })
      of_event input is event has (inr (inr none)) = absurd none

  pub from_run : (w : Variable) → Has run_variables w → Comes w ⊎ Tells w
  from_run w has = elim (has_either (param_variables unit.params) (slot_variables run) w has) [
    | inl here ↦ let one = map_has (λ (param : Param). variable param.name param.ty) unit.params w here in
        inl (record { one = OfParam one.one; has = param_is_declared unit one.one one.has; is = one.is })
    | inr behind ↦ elim (has_either state_variables (input_variables ++ local_variables) w behind) [
      | inl here ↦ let one = map_has (λ (state : State). variable state.name state.ty) unit.states w here in
          inl (record { one = OfState one.one; has = state_is_declared unit one.one one.has; is = one.is })
      | inr later ↦ elim (has_either input_variables local_variables w later) [
        | inl here ↦ from_inputs w here
        | inr here ↦ let one = map_has (λ (local : Local). variable local.name local.ty) unit.locals w here in
            inl (record { one = OfLocal one.one; has = local_is_declared unit one.one one.has; is = one.is })
      ]
    ]
  ]

  abbrev port_variable : Port → Variable
  port_variable port = variable port.name port.ty

  abbrev output_port : Output → Port
  output_port output = record { name = output.name; ty = output.ty; is_event = false; needs = output.needs }

  abbrev event_port : EventOut → Port
  event_port event = record { name = event.name; ty = event.ty; is_event = true; needs = event.needs }

  from_ports : (w : Variable) → Has (map port_variable (output_ports unit)) w → Comes w
  from_ports w has =
      let port = map_has port_variable (output_ports unit) w has in
      elim (has_either (map output_port unit.outputs) (map event_port unit.events_out) port.one port.has) [
        | inl here ↦ let one = map_has output_port unit.outputs port.one here in
            record { one = OfOutput one.one; has = output_is_declared unit one.one one.has; is = ap port_variable one.is ∙ port.is }
        | inr here ↦ let one = map_has event_port unit.events_out port.one here in
            record { one = OfEventOut one.one; has = event_out_is_declared unit one.one one.has; is = ap port_variable one.is ∙ port.is }
      ]

  abbrev plain_input_variables : List Variable
  plain_input_variables = map (λ (input : Input). variable input.name input.ty) unit.inputs

  abbrev events_of : List Variable
  events_of = map (λ (event : EventIn). variable event.name event.ty) unit.events_in

  pub from_declared : (w : Variable) → Has (declared_in unit) w → Comes w
  from_declared w has = elim (has_either (variables_of unit ++ events_of) (map port_variable (output_ports unit)) w has) [
    | inr here ↦ from_ports w here
    | inl front ↦ elim (has_either (variables_of unit) events_of w front) [
      | inr here ↦ let one = map_has (λ (event : EventIn). variable event.name event.ty) unit.events_in w here in
          record { one = OfEventIn one.one; has = event_in_is_declared unit one.one one.has; is = one.is }
      | inl a ↦ elim (has_either ((param_variables unit.params ++ state_variables) ++ plain_input_variables) local_variables w a) [
        | inr here ↦ let one = map_has (λ (local : Local). variable local.name local.ty) unit.locals w here in
            record { one = OfLocal one.one; has = local_is_declared unit one.one one.has; is = one.is }
        | inl b ↦ elim (has_either (param_variables unit.params ++ state_variables) plain_input_variables w b) [
          | inr here ↦ let one = map_has (λ (input : Input). variable input.name input.ty) unit.inputs w here in
              record { one = OfInput one.one; has = input_is_declared unit one.one one.has; is = one.is }
          | inl c ↦ elim (has_either (param_variables unit.params) state_variables w c) [
            | inl here ↦ let one = map_has (λ (param : Param). variable param.name param.ty) unit.params w here in
                record { one = OfParam one.one; has = param_is_declared unit one.one one.has; is = one.is }
            | inr here ↦ let one = map_has (λ (state : State). variable state.name state.ty) unit.states w here in
                record { one = OfState one.one; has = state_is_declared unit one.one one.has; is = one.is }
          ]
        ]
      ]
    ]
  ]

  -- A name that an expression may use is declared, and is in the plain form too.
  pub record Usable (name : List ℕ) : Type 0 where
    pub one : Declared
    pub has : Has (declarations unit) one
    pub named_so : name_of one ≡ name
    pub among_declared : Has (declared_in unit) (variable_of one)
    pub among_run : Has run_variables (variable_of one)

  in_declared_a : (w : Variable) → Has (param_variables unit.params ++ state_variables) w → Has (declared_in unit) w
  in_declared_a w has =
      has_front (variables_of unit ++ events_of) (map port_variable (output_ports unit)) w
      (has_front (variables_of unit) events_of w
      (has_front ((param_variables unit.params ++ state_variables) ++ plain_input_variables) local_variables w
      (has_front (param_variables unit.params ++ state_variables) plain_input_variables w has)))

  in_run_inputs : (w : Variable) → Has input_variables w → Has run_variables w
  in_run_inputs w has =
      has_behind (param_variables unit.params) (slot_variables run) w
      (has_behind state_variables (input_variables ++ local_variables) w (has_front input_variables local_variables w has))

  use_param : (param : Param) → Has unit.params param → Usable param.name
  use_param param has =
      let here = has_map (λ (p : Param). variable p.name p.ty) unit.params param has in record {
        one = OfParam param;
        has = param_is_declared unit param has;
        named_so = refl;
        among_declared = in_declared_a (variable param.name param.ty)
            (has_front (param_variables unit.params) state_variables (variable param.name param.ty) here);
        among_run = has_front (param_variables unit.params) (slot_variables run) (variable param.name param.ty) here;
      }

  use_state : (state : State) → Has unit.states state → Usable state.name
  use_state state has =
      let w = variable state.name state.ty in
      let here = has_map (λ (s : State). variable s.name s.ty) unit.states state has in record {
        one = OfState state;
        has = state_is_declared unit state has;
        named_so = refl;
        among_declared = in_declared_a w (has_behind (param_variables unit.params) state_variables w here);
        among_run = has_behind (param_variables unit.params) (slot_variables run) w (has_front state_variables (input_variables ++ local_variables) w here);
      }

  use_local : (local : Local) → Has unit.locals local → Usable local.name
  use_local local has =
      let w = variable local.name local.ty in
      let here = has_map (λ (s : Local). variable s.name s.ty) unit.locals local has in record {
        one = OfLocal local;
        has = local_is_declared unit local has;
        named_so = refl;
        among_declared =
            has_front (variables_of unit ++ events_of) (map port_variable (output_ports unit)) w
            (has_front (variables_of unit) events_of w
            (has_behind ((param_variables unit.params ++ state_variables) ++ plain_input_variables) local_variables w here));
        among_run =
            has_behind (param_variables unit.params) (slot_variables run) w
            (has_behind state_variables (input_variables ++ local_variables) w (has_behind input_variables local_variables w here));
      }

  use_input : (input : Input) → Has unit.inputs input → Usable input.name
  use_input input has =
      let w = variable input.name input.ty in
      let here = has_map (λ (s : Input). variable s.name s.ty) unit.inputs input has in record {
        one = OfInput input;
        has = input_is_declared unit input has;
        named_so = refl;
        among_declared =
            has_front (variables_of unit ++ events_of) (map port_variable (output_ports unit)) w
            (has_front (variables_of unit) events_of w
            (has_front ((param_variables unit.params ++ state_variables) ++ plain_input_variables) local_variables w
            (has_behind (param_variables unit.params ++ state_variables) plain_input_variables w here)));
        among_run = in_run_inputs w (has_map input_variable run.inputs input (has_front unit.inputs (flat_map plain_inputs unit.events_in) input has));
      }

  use_event : (event : EventIn) → Has unit.events_in event → Usable event.name
  use_event event has =
      let w = variable event.name event.ty in
      let here = has_map (λ (s : EventIn). variable s.name s.ty) unit.events_in event has in
      let inside = has_flat plain_inputs unit.events_in event _ has (inr (inl refl)) in record {
        one = OfEventIn event;
        has = event_in_is_declared unit event has;
        named_so = refl;
        among_declared = has_front (variables_of unit ++ events_of) (map port_variable (output_ports unit)) w (has_behind (variables_of unit) events_of w here);
        among_run = in_run_inputs w (has_map input_variable run.inputs _ (has_behind unit.inputs (flat_map plain_inputs unit.events_in) _ inside));
      }

  abbrev port_name : Port → List ℕ
  port_name port = port.name

  abbrev input_port : Input → Port
  input_port input = record { name = input.name; ty = input.ty; is_event = false; needs = [] }

  abbrev event_input_port : EventIn → Port
  event_input_port event = record { name = event.name; ty = event.ty; is_event = true; needs = [] }

  use_input_name : (name : List ℕ) → Has (input_names unit) name → Usable name
  use_input_name name has =
      let port = map_has port_name (input_ports unit) name has in
      elim (has_either (map input_port unit.inputs) (map event_input_port unit.events_in) port.one port.has) [
        | inl here ↦ let one = map_has input_port unit.inputs port.one here in subst Usable (ap port_name one.is ∙ port.is) (use_input one.one one.has)
        | inr here ↦ let one = map_has event_input_port unit.events_in port.one here in subst Usable (ap port_name one.is ∙ port.is) (use_event one.one one.has)
      ]

  use_shared : (name : List ℕ) → Has (shared_names unit) name → Usable name
  use_shared name has = elim (has_either (param_names unit ++ map (λ (state : State). state.name) unit.states) (input_names unit) name has) [
    | inr here ↦ use_input_name name here
    | inl front ↦ elim (has_either (param_names unit) (map (λ (state : State). state.name) unit.states) name front) [
      | inl here ↦ let one = map_has (λ (param : Param). param.name) unit.params name here in subst Usable one.is (use_param one.one one.has)
      | inr here ↦ let one = map_has (λ (state : State). state.name) unit.states name here in subst Usable one.is (use_state one.one one.has)
    ]
  ]

  pub usable_shared : (name : List ℕ) → is_among (shared_names unit) name ≡ true → Usable name
  usable_shared name is = use_shared name (among (shared_names unit) name is)

  pub usable_step : (name : List ℕ) → is_among (step_uses unit).names name ≡ true → Usable name
  usable_step name is = elim (has_either (map (λ (local : Local). local.name) unit.locals) (shared_names unit) name (among (step_uses unit).names name is)) [
    | inl here ↦ let one = map_has (λ (local : Local). local.name) unit.locals name here in subst Usable one.is (use_local one.one one.has)
    | inr here ↦ use_shared name here
  ]

  -- ---- Kinds

  abbrev pub run_names : List Named
  run_names = (scope_of run params).names

  run_told : (name : List ℕ) → (name_code (named run_names name)).kind ≡ kind_told (find (λ (x : Variable). bytes_eq x.name name) run_variables)
  run_told name =
      constants_told unit.params params (slots_from 0 (slot_variables run)) (slot_variables run) name each_word (slots_told 0 (slot_variables run) name)

  one_type : (one : Declared) → Has (declarations unit) one → (w : Variable) → Comes w → w.name ≡ name_of one → w.ty ≡ (variable_of one).ty
  one_type one has w comes same =
      let alike : comes.one ≡ one = distinct_same (declarations unit) comes.one one distinct comes.has has (ap (λ (v : Variable). v.name) comes.is ∙ same) in
      ap (λ (v : Variable). v.ty) (sym comes.is) ∙ ap (λ (d : Declared). (variable_of d).ty) alike

  -- A name that may be used has its declared kind.
  pub name_kind : (name : List ℕ) → Usable name → (kind : Kind) → kinds_in unit name ≡ Some kind → (name_code (named run_names name)).kind ≡ kind
  name_kind name usable kind is =
      let ty : Ty = (variable_of usable.one).ty in
      let there = find_typed (declared_in unit) name ty (variable_of usable.one) usable.among_declared usable.named_so
      (λ w has same. one_type usable.one usable.has w (from_declared w has) (same ∙ sym usable.named_so)) in
      let here = find_typed run_variables name ty (variable_of usable.one) usable.among_run usable.named_so
      (λ w has same. run_type usable w (from_run w has) (same ∙ sym usable.named_so)) in
      let declared_kind : Some (kind_of there.one.ty) ≡ Some kind =
      sym (ap (λ (o : Option Variable). option_map kind_of (option_map (λ (v : Variable). v.ty) o)) there.is)
      ∙ is in
      let same_kind : kind_of there.one.ty ≡ kind = cc in
      run_told name ∙ ap kind_told here.is ∙ ap kind_of (here.typed ∙ sym there.typed) ∙ same_kind
    where
      run_type : (usable : Usable name) (w : Variable) → Comes w ⊎ Tells w → w.name ≡ name_of usable.one → w.ty ≡ (variable_of usable.one).ty
      run_type usable w (inl comes) same = one_type usable.one usable.has w comes same
      run_type usable w (inr tells) same = absurd (plain_name usable.one usable.has tells.event.name (sym same ∙ sym (ap (λ (v : Variable). v.name) tells.is)))

  -- The port that says whether an event occurs is a Bool.
  pub presence_kind : (name : List ℕ) → is_among (event_input_names unit) name ≡ true → (name_code (named run_names (presence_name name))).kind ≡ kinds.Bool
  presence_kind name is =
      let event = map_has (λ (e : EventIn). e.name) unit.events_in name (among (event_input_names unit) name is) in
      let inside = has_flat plain_inputs unit.events_in event.one _ event.has (inl refl) in
      let stands : Has run_variables (presence_variable event.one) =
      in_run_inputs (presence_variable event.one)
      (has_map input_variable run.inputs _ (has_behind unit.inputs (flat_map plain_inputs unit.events_in) _ inside)) in
      let here =
      find_typed run_variables (presence_name name) types.Bool (presence_variable event.one) stands (ap presence_name event.is)
      (λ w has same. bool_type w (from_run w has) same) in
      run_told (presence_name name) ∙ ap kind_told here.is ∙ ap kind_of here.typed
    where
      bool_type : (w : Variable) → Comes w ⊎ Tells w → w.name ≡ presence_name name → w.ty ≡ types.Bool
      bool_type w (inl comes) same = absurd (plain_name comes.one comes.has name (ap (λ (v : Variable). v.name) comes.is ∙ same))
      bool_type w (inr tells) same = ap (λ (v : Variable). v.ty) (sym tells.is)
