-- A target of a unit that is well-formed is a state or a local, and has its slot.
use Rattle.std.proofs.Common.{◌≡◌, ◌⊎◌, ℕ, suc, ◌+◌, ◌<◌, ◌≤◌, Bool, true, false, ℤ, List, [], ◌∷◌, ◌++◌, map, length, Option, Some, None, inl, inr, refl, sym}
use Rattle.std.proofs.Common.{ap, ◌∙◌, subst, arith}
use Rattle.std.specs.Prelude.{cond, nat_lt, is_none}
use Rattle.std.specs.List.{find, flat_map}
use Rattle.std.specs.Option.{option_map, option_or}
use Rattle.std.specs.Str.{bytes_eq}
use Rattle.std.proofs.lemmas.List.{length-map}
use Rattle.std.proofs.lemmas.List.Folds.{find-append}
use Rattle.std.proofs.lemmas.Bool.{and_from, or_right, or_left}
use Rattle.code_units.specs.Scopes.{constants, slots_from, slot_variables, sizes_of, scope_of, named}
use Rattle.code_units.specs.StepLines.{may_store, target_coded}
use Rattle.code_units.specs.declared.scope.Named.{Named}
use Rattle.code_units.specs.declared.scope.NamePlace.TheVariants.{Constant, Slot}
use Rattle.code_units.proofs.ScopeLaws.{slots_behind}
use Rattle.unit_tree.specs.Components.{variable}
use Rattle.unit_tree.specs.Names.{is_among, param_names, input_names, output_names, declared_in, type_in, Port, input_ports, output_ports}
use Rattle.unit_tree.specs.Plain.{plain_inputs, plain_unit}
use Rattle.unit_tree.specs.declared.environment.Variable.{Variable}
use Rattle.unit_tree.specs.declared.system.System.{System}
use Rattle.unit_tree.specs.declared.unit.EventIn.{EventIn}
use Rattle.unit_tree.specs.declared.unit.EventOut.{EventOut}
use Rattle.unit_tree.specs.declared.unit.Input.{Input}
use Rattle.unit_tree.specs.declared.unit.Local.{Local}
use Rattle.unit_tree.specs.declared.unit.Output.{Output}
use Rattle.unit_tree.specs.declared.unit.Param.{Param}
use Rattle.unit_tree.specs.declared.unit.State.{State}
use Rattle.unit_tree.specs.declared.unit.Unit.{Unit}
use Rattle.language_laws.proofs.NameLaws.{same_bytes, bytes_of}
use Rattle.language_laws.proofs.PlainNames.{map_has, flat_has}
use Rattle.unit_vm.specs.Instructions.{is_stored}
use Rattle.unit_vm.specs.declared.program.Sizes.{Sizes}
use Rattle.language_laws.proofs.Declarations.{Declared, OfParam, OfState, OfLocal, OfInput, OfEventIn, OfOutput, OfEventOut, name_of, declarations, ports}
use Rattle.language_laws.proofs.Declarations.{Declares}
use Rattle.unit_exec.proofs.NamesOfUnits.{plain_name, from_declared}
use Rattle.language_laws.proofs.UnitSites.{Passes}
use Rattle.list_laws.proofs.Members.{Has, has_front, has_behind, has_either, has_map}
use Rattle.list_laws.proofs.Truths.{true_is_false, le_asked, lt_asked}
use Rattle.run_laws.proofs.PortLaws.{has_among}

-- What is found in a list is an element of it.
pub record IsFoundIn (xs : List Variable) (name : List ℕ) (one : Variable) : Type 0 where
  pub has : Has xs one
  pub named_so : one.name ≡ name

find_stands : (xs : List Variable) (name : List ℕ) (one : Variable) → find (λ (x : Variable). bytes_eq x.name name) xs ≡ Some one → IsFoundIn xs name one
find_stands [] name one is = absurd (cc)
find_stands (x ∷ xs) name one is = by_test (bytes_eq x.name name) refl is (λ later. find_stands xs name one later)
  where
    by_test : (told : Bool) → bytes_eq x.name name ≡ told → cond told (Some x) (find (λ (y : Variable). bytes_eq y.name name) xs) ≡ Some one
        → (find (λ (y : Variable). bytes_eq y.name name) xs ≡ Some one → IsFoundIn xs name one) → IsFoundIn (x ∷ xs) name one
    by_test true same here later = let alike : x ≡ one = cc in
        record { has = inl alike; named_so = ap (λ (v : Variable). v.name) (sym alike) ∙ same_bytes x.name name same }
    by_test false other here later = let rest = later here in record { has = inr rest.has; named_so = rest.named_so }

constants_skip : (params : List Param) (words : List ℤ) (known : List Named) (name : List ℕ) → ((param : Param) → Has params param → param.name ≡ name → ⊥)
    → named (constants params words ++ known) name ≡ named known name
constants_skip [] words known name none = refl
constants_skip (param ∷ params) [] known name none = refl
constants_skip (param ∷ params) (word ∷ words) known name none =
    by_test (bytes_eq param.name name) refl (constants_skip params words known name (λ p has. none p (inr has)))
  where
    by_test : (told : Bool) → bytes_eq param.name name ≡ told → named (constants params words ++ known) name ≡ named known name
        → named (constants (param ∷ params) (word ∷ words) ++ known) name ≡ named known name
    by_test true same later = absurd (none param (inl refl) (same_bytes param.name name same))
    by_test false other later =
        ap (λ (b : Bool).
        cond b (Some (record { name = param.name; ty = param.ty; place = Constant word })) (named (constants params words ++ known) name)) other
        ∙ later

slots_skip : (slot : ℕ) (xs : List Variable) (name : List ℕ) → ((x : Variable) → Has xs x → x.name ≡ name → ⊥) → named (slots_from slot xs) name ≡ None
slots_skip slot [] name none = refl
slots_skip slot (x ∷ xs) name none = by_test (bytes_eq x.name name) refl (slots_skip (suc slot) xs name (λ y has. none y (inr has)))
  where
    by_test : (told : Bool) → bytes_eq x.name name ≡ told → named (slots_from (suc slot) xs) name ≡ None → named (slots_from slot (x ∷ xs)) name ≡ None
    by_test true same later = absurd (none x (inl refl) (same_bytes x.name name same))
    by_test false other later =
        ap (λ (b : Bool). cond b (Some (record { name = x.name; ty = x.ty; place = Slot slot })) (named (slots_from (suc slot) xs) name)) other
        ∙ later

-- One of so many slots, from one on.
pub record InSlot (slot count : ℕ) (given : Option Named) : Type 0 where
  pub found : Named
  pub is : given ≡ Some found
  pub at : ℕ
  pub place : found.place ≡ Slot at
  pub low : slot ≤ at
  pub high : at < slot + count

slots_maybe : (slot : ℕ) (xs : List Variable) (name : List ℕ)
    → InSlot slot (length xs) (named (slots_from slot xs) name) ⊎ ((named (slots_from slot xs) name ≡ None) × ((x : Variable) → Has xs x → x.name ≡ name → ⊥))
slots_maybe slot [] name = inr (refl, λ x has is. has)
slots_maybe slot (x ∷ xs) name = by_test (bytes_eq x.name name) refl (slots_maybe (suc slot) xs name)
  where
    by_test : (told : Bool) → bytes_eq x.name name ≡ told
        → InSlot (suc slot) (length xs) (named (slots_from (suc slot) xs) name)
        ⊎ ((named (slots_from (suc slot) xs) name ≡ None) × ((y : Variable) → Has xs y → y.name ≡ name → ⊥))
        → InSlot slot (suc (length xs)) (named (slots_from slot (x ∷ xs)) name)
        ⊎ ((named (slots_from slot (x ∷ xs)) name ≡ None) × ((y : Variable) → Has (x ∷ xs) y → y.name ≡ name → ⊥))
    by_test true same later =
        inl (record {
          found = record { name = x.name; ty = x.ty; place = Slot slot };
          is =
              ap (λ (b : Bool). cond b (Some (record { name = x.name; ty = x.ty; place = Slot slot })) (named (slots_from (suc slot) xs) name)) same;
          at =
              slot;
          place = refl;
          low = omega arith;
          high = omega arith;
        })
    by_test false other (inl later) =
        inl (record {
          found = later.found;
          is = ap (λ (b : Bool). cond b (Some (record { name = x.name; ty = x.ty; place = Slot slot })) (named (slots_from (suc slot) xs) name)) other
              ∙ later.is;
          at = later.at;
          place = later.place;
          low = let l = later.low in
              omega arith;
          high = let h = later.high in omega arith;
        })
    by_test false other (inr later) = inr (
      ap (λ (b : Bool). cond b (Some (record { name = x.name; ty = x.ty; place = Slot slot })) (named (slots_from (suc slot) xs) name)) other ∙ later.0,
      λ y has is. elim has [
        | inl first ↦ true_is_false (bytes_eq x.name name) (bytes_of x.name name (ap (λ (v : Variable). v.name) first ∙ is)) other
        | inr rest ↦ later.1 y rest is
      ],
    )

module _ (system : System) (unit : Unit) (declared : Declares (Passes system) unit) (params : List ℤ) (each_word : length params ≡ length unit.params) where
  abbrev run : Unit
  run = plain_unit unit

  abbrev states : List Variable
  states = map (λ (state : State). variable state.name state.ty) unit.states

  abbrev inputs : List Variable
  inputs = map (λ (input : Input). variable input.name input.ty) run.inputs

  abbrev locals : List Variable
  locals = map (λ (local : Local). variable local.name local.ty) unit.locals

  abbrev Reserved : List ℕ → Type 0
  Reserved name = is_among ((param_names unit ++ input_names unit) ++ output_names unit) name ≡ false

  not_reserved : (name : List ℕ) → Reserved name → Has ((param_names unit ++ input_names unit) ++ output_names unit) name → ⊥
  not_reserved name free has =
      true_is_false (is_among ((param_names unit ++ input_names unit) ++ output_names unit) name)
      (has_among ((param_names unit ++ input_names unit) ++ output_names unit) name has) free

  no_param : (name : List ℕ) → Reserved name → (param : Param) → Has unit.params param → param.name ≡ name → ⊥
  no_param name free param has is =
      not_reserved name free (has_front (param_names unit ++ input_names unit) (output_names unit) name (has_front (param_names unit) (input_names unit) name
      (subst (Has (param_names unit)) is (has_map (λ (p : Param). p.name) unit.params param has))))

  no_input_name : (name : List ℕ) → Reserved name → Has (input_names unit) name → ⊥
  no_input_name name free has =
      not_reserved name free
      (has_front (param_names unit ++ input_names unit) (output_names unit) name (has_behind (param_names unit) (input_names unit) name has))

  no_output_name : (name : List ℕ) → Reserved name → Has (output_names unit) name → ⊥
  no_output_name name free has = not_reserved name free (has_behind (param_names unit ++ input_names unit) (output_names unit) name has)

  abbrev of_input : Input → Port
  of_input input = record { name = input.name; ty = input.ty; is_event = false; needs = [] }

  abbrev of_event_in : EventIn → Port
  of_event_in event = record { name = event.name; ty = event.ty; is_event = true; needs = [] }

  abbrev of_output : Output → Port
  of_output output = record { name = output.name; ty = output.ty; is_event = false; needs = output.needs }

  abbrev of_event_out : EventOut → Port
  of_event_out event = record { name = event.name; ty = event.ty; is_event = true; needs = event.needs }

  abbrev name_in : Port → List ℕ
  name_in port = port.name

  ports_of : (one : Declared) → Has (ports unit) one → (name : List ℕ) → name_of one ≡ name → Reserved name → ⊥
  ports_of one has name is free =
      elim (has_either (map OfInput unit.inputs) (map OfEventIn unit.events_in ++ (map OfOutput unit.outputs ++ map OfEventOut unit.events_out)) one has) [
        | inl here ↦
            let input = map_has OfInput unit.inputs one here in
            no_input_name name free
            (subst (Has (input_names unit)) (ap name_of input.is ∙ is)
            (has_map name_in (input_ports unit) (of_input input.one)
            (has_front (map of_input unit.inputs) (map of_event_in unit.events_in) (of_input input.one) (has_map of_input unit.inputs input.one input.has))))
        | inr later ↦ elim (has_either (map OfEventIn unit.events_in) (map OfOutput unit.outputs ++ map OfEventOut unit.events_out) one later) [
          | inl here ↦
              let event = map_has OfEventIn unit.events_in one here in
              no_input_name name free
              (subst (Has (input_names unit)) (ap name_of event.is ∙ is)
              (has_map name_in (input_ports unit) (of_event_in event.one)
              (has_behind (map of_input unit.inputs) (map of_event_in unit.events_in) (of_event_in event.one)
              (has_map of_event_in unit.events_in event.one event.has))))
          | inr last ↦ elim (has_either (map OfOutput unit.outputs) (map OfEventOut unit.events_out) one last) [
            | inl here ↦
                let output = map_has OfOutput unit.outputs one here in
                no_output_name name free
                (subst (Has (output_names unit)) (ap name_of output.is ∙ is)
                (has_map name_in (output_ports unit) (of_output output.one)
                (has_front (map of_output unit.outputs) (map of_event_out unit.events_out) (of_output output.one)
                (has_map of_output unit.outputs output.one output.has))))
            | inr here ↦
                let event = map_has OfEventOut unit.events_out one here in
                no_output_name name free
                (subst (Has (output_names unit)) (ap name_of event.is ∙ is)
                (has_map name_in (output_ports unit) (of_event_out event.one)
                (has_behind (map of_output unit.outputs) (map of_event_out unit.events_out) (of_event_out event.one)
                (has_map of_event_out unit.events_out event.one event.has))))
          ]
        ]
      ]

  -- A target is a state or a local.
  pub record Kept (name : List ℕ) : Type 0 where
    pub one : Variable
    pub named_so : one.name ≡ name
    pub has : Has states one ⊎ Has locals one

  kept : (name : List ℕ) → Reserved name → (one : Declared) → Has (declarations unit) one → name_of one ≡ name → Kept name
  kept name free one has is = elim (has_either (map OfParam unit.params) (map OfState unit.states ++ (map OfLocal unit.locals ++ ports unit)) one has) [
    | inl here ↦ let param = map_has OfParam unit.params one here in absurd (no_param name free param.one param.has (ap name_of param.is ∙ is))
    | inr later ↦ elim (has_either (map OfState unit.states) (map OfLocal unit.locals ++ ports unit) one later) [
      | inl here ↦
          let state = map_has OfState unit.states one here in
          record {
            one = variable state.one.name state.one.ty;
            named_so = ap name_of state.is
                ∙ is;
            has = inl (has_map (λ (s : State). variable s.name s.ty) unit.states state.one state.has);
          }
      | inr last ↦ elim (has_either (map OfLocal unit.locals) (ports unit) one last) [
        | inl here ↦
            let local = map_has OfLocal unit.locals one here in
            record {
              one = variable local.one.name local.one.ty;
              named_so = ap name_of local.is
                  ∙ is;
              has = inr (has_map (λ (s : Local). variable s.name s.ty) unit.locals local.one local.has);
            }
        | inr port ↦ absurd (ports_of one port name is free)
      ]
    ]
  ]

  -- No input of the plain form has a target's name.
  input_named : (name : List ℕ) → Reserved name → (one : Declared) → Has (declarations unit) one → name_of one ≡ name → (input : Input) → Has run.inputs input
      → input.name ≡ name → ⊥
  input_named name free one has is input there same = elim (has_either unit.inputs (flat_map plain_inputs unit.events_in) input there) [
    | inl plain ↦
        no_input_name name free
        (subst (Has (input_names unit)) same
        (has_map name_in (input_ports unit) (of_input input)
        (has_front (map of_input unit.inputs) (map of_event_in unit.events_in) (of_input input) (has_map of_input unit.inputs input plain))))
    | inr made ↦ let from = flat_has plain_inputs unit.events_in input made in of_event from.one from.has from.inside
  ]
    where
      of_event : (event : EventIn) → Has unit.events_in event → Has (plain_inputs event) input → ⊥
      of_event event stands (inl first) =
          plain_name system unit declared params each_word one has event.name (is ∙ sym same ∙ ap (λ (i : Input). i.name) (sym first))
      of_event event stands (inr (inl second)) =
          no_input_name name free
          (subst (Has (input_names unit)) (ap (λ (i : Input). i.name) second ∙ same)
          (has_map name_in (input_ports unit) (of_event_in event)
          (has_behind (map of_input unit.inputs) (map of_event_in unit.events_in) (of_event_in event) (has_map of_event_in unit.events_in event stands))))
      of_event event stands (inr (inr none)) = none

  no_input : (name : List ℕ) → Reserved name → (one : Declared) → Has (declarations unit) one → name_of one ≡ name → (w : Variable) → Has inputs w
      → w.name ≡ name → ⊥
  no_input name free one has is w there same =
      let input = map_has (λ (i : Input). variable i.name i.ty) run.inputs w there in
      input_named name free one has is input.one input.has (ap (λ (v : Variable). v.name) input.is ∙ same)

  abbrev names : List Named
  names = (scope_of run params).names

  abbrev sizes : Sizes
  sizes = sizes_of run

  -- The slot of a target.
  stored_at : (given : Option Named) (found : Named) (slot : ℕ) → given ≡ Some found → found.place ≡ Slot slot → is_stored sizes slot ≡ true
      → (target_coded sizes given).is_right ≡ true
  stored_at given found slot is place stored =
      ap (λ (g : Option Named). (target_coded sizes g).is_right) is ∙ ap (may_store sizes) place ∙ stored

  state_slot : (slot : ℕ) → slot < length unit.states → is_stored sizes slot ≡ true
  state_slot slot within = or_left (nat_lt slot (length unit.states)) _ (lt_asked slot (length unit.states) within)

  local_slot : (slot : ℕ) → length unit.states + length run.inputs ≤ slot → slot < length unit.states + length run.inputs + length unit.locals
      → is_stored sizes slot ≡ true
  local_slot slot low high =
      or_right (nat_lt slot (length unit.states)) _
      (and_from _ _ (le_asked (length unit.states + length run.inputs) slot low)
      (lt_asked slot (length unit.states + length run.inputs + length unit.locals) high))

  none_behind : {A : Type 0} (given other : Option A) → given ≡ None → option_or given other ≡ other
  none_behind given other is = ap (λ g. option_or g other) is

  some_front : {A : Type 0} (given other : Option A) (found : A) → given ≡ Some found → option_or given other ≡ Some found
  some_front given other found is = ap (λ g. option_or g other) is

  pub target_right : (target : List ℕ) → is_none (type_in unit target) ≡ false → Reserved target → (target_coded sizes (named names target)).is_right ≡ true
  target_right target told free = by_find (find (λ (x : Variable). bytes_eq x.name target) (declared_in unit)) refl told
    where
      placed : (one : Declared) → Has (declarations unit) one → name_of one ≡ target → (target_coded sizes (named names target)).is_right ≡ true
      placed one has is =
          let keeps = kept target free one has is in
          let found_in : Named → Bool = λ known. bytes_eq known.name target in
          let behind : named names target ≡ named (slots_from 0 (slot_variables run)) target =
          constants_skip unit.params params (slots_from 0 (slot_variables run)) target (λ p h. no_param target free p h) in
          let count_states : length states ≡ length unit.states = length-map unit.states (λ (s : State). variable s.name s.ty) in
          let count_inputs : length inputs ≡ length run.inputs = length-map run.inputs (λ (i : Input). variable i.name i.ty) in
          let count_locals : length locals ≡ length unit.locals = length-map unit.locals (λ (l : Local). variable l.name l.ty) in
          let split : named (slots_from 0 (slot_variables run)) target
          ≡ option_or (named (slots_from 0 states) target)
          (option_or (named (slots_from (0 + length states) inputs) target) (named (slots_from (0 + length states + length inputs) locals) target)) =
          ap (λ xs. named xs target) (slots_behind 0 states (inputs ++ locals))
          ∙ find-append found_in (slots_from 0 states) (slots_from (0 + length states) (inputs ++ locals))
          ∙ ap (λ rest. option_or (named (slots_from 0 states) target) rest)
          (ap (λ xs. named xs target) (slots_behind (0 + length states) inputs locals)
          ∙ find-append found_in (slots_from (0 + length states) inputs) (slots_from (0 + length states + length inputs) locals)) in
          let no_inputs : named (slots_from (0 + length states) inputs) target ≡ None =
          slots_skip (0 + length states) inputs target (λ w h same. no_input target free one has is w h same) in
          let whole : named names target
          ≡ option_or (named (slots_from 0 states) target) (named (slots_from (0 + length states + length inputs) locals) target) =
          behind ∙ split
          ∙ ap (λ rest. option_or (named (slots_from 0 states) target) rest)
          (none_behind (named (slots_from (0 + length states) inputs) target)
          (named (slots_from (0 + length states + length inputs) locals) target) no_inputs) in
          elim (slots_maybe 0 states target) [
            | inl state ↦
                let high : state.at < 0 + length states = state.high in
                stored_at (named names target) state.found state.at
                (whole ∙ some_front (named (slots_from 0 states) target) _ state.found state.is) state.place (state_slot state.at (omega arith))
            | inr no_state ↦ elim (slots_maybe (0 + length states + length inputs) locals target) [
              | inl local ↦
                  let low : 0 + length states + length inputs ≤ local.at = local.low in
                  let high : local.at < 0 + length states + length inputs + length locals = local.high in
                  stored_at (named names target) local.found local.at
                  (whole ∙ none_behind (named (slots_from 0 states) target) (named (slots_from (0 + length states + length inputs) locals) target) no_state.0
                  ∙ local.is) local.place
                  (local_slot local.at (omega arith) (omega arith))
              | inr no_local ↦ elim keeps.has [
                | inl here ↦ absurd (no_state.1 keeps.one here keeps.named_so)
                | inr here ↦ absurd (no_local.1 keeps.one here keeps.named_so)
              ]
            ]
          ]

      by_find : (given : Option Variable) → find (λ (x : Variable). bytes_eq x.name target) (declared_in unit) ≡ given
          → is_none (option_map (λ (v : Variable). v.ty) given) ≡ false → (target_coded sizes (named names target)).is_right ≡ true
      by_find None is some = absurd (cc)
      by_find (Some one) is some =
          let stands = find_stands (declared_in unit) target one is in
          let comes = from_declared system unit declared params each_word one stands.has in
          placed comes.one comes.has (ap (λ (v : Variable). v.name) comes.is ∙ stands.named_so)
