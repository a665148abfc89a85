-- What a unit declares, as one list in the order of its lines: the names differ, and there are not too many of a kind.
use Rattle.std.proofs.Common.{◌≡◌, ℕ, suc, ◌+◌, ◌*◌, ◌≤◌, ◌⊎◌, false, List, [], ◌∷◌, ◌++◌, append_assoc, map, length, Option, Some, None, inl, inr, refl, sym}
use Rattle.std.proofs.Common.{ap, ◌∙◌, subst, arith}
use Rattle.std.specs.Prelude.{cond, count_by}
use Rattle.std.specs.List.{flat_map, filter_map, cons_option, list_any}
use Rattle.std.proofs.lemmas.List.Elements.{filter_map-append}
use Rattle.std.specs.Str.{bytes_eq}
use Rattle.std.proofs.lemmas.Grind.{flat_map-append}
use Rattle.std.proofs.lemmas.List.{map-append, append-nil, length-map, length-append}
use Rattle.std.proofs.lemmas.List.Sums.{sum_by-cons, sum_by-append}
use Rattle.std.proofs.lemmas.Bool.{or_parts}
use Rattle.fixed_words.specs.declared.types.Literal.TheVariants as literal
use Rattle.fixed_words.specs.declared.types.Ty.TheVariants as types
use Rattle.unit_tree.specs.Canonical.{optional, unit_parts}
use Rattle.unit_tree.specs.Components.{variable}
use Rattle.unit_tree.specs.LineForms.{are_alike}
use Rattle.unit_tree.specs.Parts as parts
use Rattle.unit_tree.specs.Parts.{UnitPart}
use Rattle.unit_tree.specs.Plain.{plain_inputs, plain_output, plain_outputs, plain_unit, plain_forms}
use Rattle.unit_tree.specs.Sites.{Scope, UnitScope, Site, Headed, alone, headed_unit_part}
use Rattle.unit_tree.specs.WellFormed.{is_said, name_declared, is_one_too_many}
use Rattle.unit_tree.specs.declared.environment.Variable.{Variable}
use Rattle.unit_tree.specs.declared.expr.Expr as expr
use Rattle.unit_tree.specs.declared.line_form.LineForm.{LineForm}
use Rattle.unit_tree.specs.declared.line_form.LineForm.TheVariants as form
use Rattle.unit_tree.specs.declared.system.System.{System}
use Rattle.unit_tree.specs.declared.unit.EventIn.{EventIn}
use Rattle.unit_tree.specs.declared.unit.EventOut.{EventOut}
use Rattle.unit_tree.specs.declared.unit.Input.{Input}
use Rattle.unit_tree.specs.declared.unit.Local.{Local}
use Rattle.unit_tree.specs.declared.unit.Output.{Output}
use Rattle.unit_tree.specs.declared.unit.Param.{Param}
use Rattle.unit_tree.specs.declared.unit.State.{State}
use Rattle.unit_tree.specs.declared.unit.Unit.{Unit}
use Rattle.language_laws.proofs.NameLaws.{bytes_of, Hold, hold_front, hold_behind, not_among, name_unsaid}
use Rattle.language_laws.proofs.UnitSites.{Passes, UnitHolds}
use Rattle.list_laws.proofs.Members.{Has, Distinct, has_front, has_behind, has_map}
use Rattle.list_laws.proofs.Truths.{lt_not_told}

-- ---- The list

pub data Declared : Type 0 where
  OfParam : Param → Declared
  OfState : State → Declared
  OfLocal : Local → Declared
  OfInput : Input → Declared
  OfEventIn : EventIn → Declared
  OfOutput : Output → Declared
  OfEventOut : EventOut → Declared

abbrev pub line_of : Declared → LineForm
line_of (OfParam param) = form.Param param
line_of (OfState state) = form.State state
line_of (OfLocal local) = form.Local local
line_of (OfInput input) = form.Input input
line_of (OfEventIn event) = form.EventInput event
line_of (OfOutput output) = form.Output output
line_of (OfEventOut event) = form.EventOutput event

abbrev pub part_of : Declared → UnitPart
part_of (OfParam param) = parts.HasParam param
part_of (OfState state) = parts.HasState state
part_of (OfLocal local) = parts.HasLocal local
part_of (OfInput input) = parts.HasInput input
part_of (OfEventIn event) = parts.HasEventIn event
part_of (OfOutput output) = parts.HasOutput output
part_of (OfEventOut event) = parts.HasEventOut event

abbrev pub variable_of : Declared → Variable
variable_of (OfParam param) = variable param.name param.ty
variable_of (OfState state) = variable state.name state.ty
variable_of (OfLocal local) = variable local.name local.ty
variable_of (OfInput input) = variable input.name input.ty
variable_of (OfEventIn event) = variable event.name event.ty
variable_of (OfOutput output) = variable output.name output.ty
variable_of (OfEventOut event) = variable event.name event.ty

abbrev pub name_of : Declared → List ℕ
name_of one = (variable_of one).name

abbrev pub head_of : Declared → Headed
head_of one = alone (line_of one)

asks : (one : Declared) → name_declared (head_of one).head ≡ Some (name_of one)
asks (OfParam param) = refl
asks (OfState state) = refl
asks (OfLocal local) = refl
asks (OfInput input) = refl
asks (OfEventIn event) = refl
asks (OfOutput output) = refl
asks (OfEventOut event) = refl

abbrev pub ports : Unit → List Declared
ports unit = map OfInput unit.inputs ++ (map OfEventIn unit.events_in ++ (map OfOutput unit.outputs ++ map OfEventOut unit.events_out))

abbrev pub declarations : Unit → List Declared
declarations unit = map OfParam unit.params ++ (map OfState unit.states ++ (map OfLocal unit.locals ++ ports unit))

-- Each declaration is on the list.
module _ (unit : Unit) where
  abbrev its_params : List Declared
  its_params = map OfParam unit.params

  abbrev its_states : List Declared
  its_states = map OfState unit.states

  abbrev its_locals : List Declared
  its_locals = map OfLocal unit.locals

  abbrev its_inputs : List Declared
  its_inputs = map OfInput unit.inputs

  abbrev its_events_in : List Declared
  its_events_in = map OfEventIn unit.events_in

  abbrev its_outputs : List Declared
  its_outputs = map OfOutput unit.outputs

  abbrev its_events_out : List Declared
  its_events_out = map OfEventOut unit.events_out

  port_is_declared : (one : Declared) → Has (ports unit) one → Has (declarations unit) one
  port_is_declared one has =
      has_behind its_params (its_states ++ (its_locals ++ ports unit)) one
      (has_behind its_states (its_locals ++ ports unit) one (has_behind its_locals (ports unit) one has))

  pub param_is_declared : (param : Param) → Has unit.params param → Has (declarations unit) (OfParam param)
  param_is_declared param has = has_front its_params (its_states ++ (its_locals ++ ports unit)) (OfParam param) (has_map OfParam unit.params param has)

  pub state_is_declared : (state : State) → Has unit.states state → Has (declarations unit) (OfState state)
  state_is_declared state has =
      has_behind its_params (its_states ++ (its_locals ++ ports unit)) (OfState state)
      (has_front its_states (its_locals ++ ports unit) (OfState state) (has_map OfState unit.states state has))

  pub local_is_declared : (local : Local) → Has unit.locals local → Has (declarations unit) (OfLocal local)
  local_is_declared local has =
      has_behind its_params (its_states ++ (its_locals ++ ports unit)) (OfLocal local)
      (has_behind its_states (its_locals ++ ports unit) (OfLocal local)
      (has_front its_locals (ports unit) (OfLocal local) (has_map OfLocal unit.locals local has)))

  pub input_is_declared : (input : Input) → Has unit.inputs input → Has (declarations unit) (OfInput input)
  input_is_declared input has =
      port_is_declared (OfInput input)
      (has_front its_inputs (its_events_in ++ (its_outputs ++ its_events_out)) (OfInput input) (has_map OfInput unit.inputs input has))

  pub event_in_is_declared : (event : EventIn) → Has unit.events_in event → Has (declarations unit) (OfEventIn event)
  event_in_is_declared event has =
      port_is_declared (OfEventIn event)
      (has_behind its_inputs (its_events_in ++ (its_outputs ++ its_events_out)) (OfEventIn event)
      (has_front its_events_in (its_outputs ++ its_events_out) (OfEventIn event) (has_map OfEventIn unit.events_in event has)))

  pub output_is_declared : (output : Output) → Has unit.outputs output → Has (declarations unit) (OfOutput output)
  output_is_declared output has =
      port_is_declared (OfOutput output)
      (has_behind its_inputs (its_events_in ++ (its_outputs ++ its_events_out)) (OfOutput output)
      (has_behind its_events_in (its_outputs ++ its_events_out) (OfOutput output)
      (has_front its_outputs its_events_out (OfOutput output) (has_map OfOutput unit.outputs output has))))

  pub event_out_is_declared : (event : EventOut) → Has unit.events_out event → Has (declarations unit) (OfEventOut event)
  event_out_is_declared event has =
      port_is_declared (OfEventOut event)
      (has_behind its_inputs (its_events_in ++ (its_outputs ++ its_events_out)) (OfEventOut event)
      (has_behind its_events_in (its_outputs ++ its_events_out) (OfEventOut event)
      (has_behind its_outputs its_events_out (OfEventOut event) (has_map OfEventOut unit.events_out event has))))

heads : (unit : Unit) (all : List Declared) → flat_map (headed_unit_part unit) (map part_of all) ≡ map head_of all
heads unit [] = refl
heads unit (OfParam param ∷ all) = ap (λ rest. alone (form.Param param) ∷ rest) (heads unit all)
heads unit (OfState state ∷ all) = ap (λ rest. alone (form.State state) ∷ rest) (heads unit all)
heads unit (OfLocal local ∷ all) = ap (λ rest. alone (form.Local local) ∷ rest) (heads unit all)
heads unit (OfInput input ∷ all) = ap (λ rest. alone (form.Input input) ∷ rest) (heads unit all)
heads unit (OfEventIn event ∷ all) = ap (λ rest. alone (form.EventInput event) ∷ rest) (heads unit all)
heads unit (OfOutput output ∷ all) = ap (λ rest. alone (form.Output output) ∷ rest) (heads unit all)
heads unit (OfEventOut event ∷ all) = ap (λ rest. alone (form.EventOutput event) ∷ rest) (heads unit all)

mapped : {A : Type 0} (of : A → Declared) (part : A → UnitPart) → ((x : A) → part_of (of x) ≡ part x) → (xs : List A) → map part_of (map of xs) ≡ map part xs
mapped of part is [] = refl
mapped of part is (x ∷ xs) = ap (λ y. y ∷ map part_of (map of xs)) (is x) ∙ ap (λ ys. part x ∷ ys) (mapped of part is xs)

nine : {A : Type 0} (r a b c d e f g m s : List A)
    → (((((((((r ++ a) ++ b) ++ c) ++ d) ++ e) ++ f) ++ g) ++ m) ++ s) ≡ r ++ ((a ++ (b ++ (c ++ (d ++ (e ++ (f ++ g)))))) ++ (m ++ s))
nine r a b c d e f g m s = simp append_assoc refl

seven : {A B : Type 0} (f : A → B) (a b c d e g h : List A)
    → map f (a ++ (b ++ (c ++ (d ++ (e ++ (g ++ h)))))) ≡ map f a ++ (map f b ++ (map f c ++ (map f d ++ (map f e ++ (map f g ++ map f h)))))
seven f a b c d e g h = simp map-append refl

-- The parts of a unit: its resolution if it has one, its declarations, its `max` and its step if it has them.
abbrev pub tail_parts : Unit → List UnitPart
tail_parts unit = optional parts.Max unit.max ++ optional parts.Step unit.step

parts_are : (unit : Unit) → unit_parts unit ≡ optional parts.Resolution unit.resolution ++ (map part_of (declarations unit) ++ tail_parts unit)
parts_are unit =
    nine (optional parts.Resolution unit.resolution) (map parts.HasParam unit.params) (map parts.HasState unit.states) (map parts.HasLocal unit.locals)
    (map parts.HasInput unit.inputs) (map parts.HasEventIn unit.events_in) (map parts.HasOutput unit.outputs) (map parts.HasEventOut unit.events_out)
    (optional parts.Max unit.max) (optional parts.Step unit.step)
    ∙ ap (λ all. optional parts.Resolution unit.resolution ++ (all ++ tail_parts unit))
    (sym (seven part_of (map OfParam unit.params) (map OfState unit.states) (map OfLocal unit.locals) (map OfInput unit.inputs) (map OfEventIn unit.events_in)
    (map OfOutput unit.outputs) (map OfEventOut unit.events_out)
    ∙ rw (
      mapped OfParam parts.HasParam (λ x. refl) unit.params,
      mapped OfState parts.HasState (λ x. refl) unit.states,
      mapped OfLocal parts.HasLocal (λ x. refl) unit.locals,
      mapped OfInput parts.HasInput (λ x. refl) unit.inputs,
      mapped OfEventIn parts.HasEventIn (λ x. refl) unit.events_in,
      mapped OfOutput parts.HasOutput (λ x. refl) unit.outputs,
      mapped OfEventOut parts.HasEventOut (λ x. refl) unit.events_out,
    ) refl))

-- ---- What is known of their lines

-- The lines before the declarations: none, or that of the resolution.
abbrev pub front_lines : Option ℕ → List LineForm
front_lines None = []
front_lines (Some decimals) = form.Resolution decimals ∷ []

module _ (P : Site → Type 0) where
  behind_resolution : (scope : Scope) (given : Option ℕ) (rest : List Headed) (unit : Unit)
      → Hold P scope [] (flat_map (headed_unit_part unit) (optional parts.Resolution given) ++ rest) → Hold P scope (front_lines given) rest
  behind_resolution scope None rest unit hold = hold
  behind_resolution scope (Some decimals) rest unit hold = hold.2

  pub record Declares (unit : Unit) : Type 0 where
    pub declared : Hold P (UnitScope unit) (front_lines unit.resolution) (map head_of (declarations unit))
    pub before_tail : List LineForm
    pub tail : Hold P (UnitScope unit) before_tail (flat_map (headed_unit_part unit) (tail_parts unit))

  pub declares : (unit : Unit) → UnitHolds P unit → Declares unit
  declares unit hold =
      let headed : UnitPart → List Headed = headed_unit_part unit in
      let scope : Scope = UnitScope unit in
      let all = subst (λ xs. Hold P scope [] (flat_map headed xs)) (parts_are unit) hold in
      let parted =
      subst (Hold P scope []) (flat_map-append headed (optional parts.Resolution unit.resolution) (map part_of (declarations unit) ++ tail_parts unit)) all in
      let here = behind_resolution scope unit.resolution (flat_map headed (map part_of (declarations unit) ++ tail_parts unit)) unit parted in
      let split = subst (Hold P scope (front_lines unit.resolution)) (flat_map-append headed (map part_of (declarations unit)) (tail_parts unit)) here in
      let last =
      hold_behind P scope (front_lines unit.resolution) (flat_map headed (map part_of (declarations unit))) (flat_map headed (tail_parts unit)) split in
      record {
        declared =
            subst (Hold P scope (front_lines unit.resolution)) (heads unit (declarations unit))
            (hold_front P scope (front_lines unit.resolution) (flat_map headed (map part_of (declarations unit))) (flat_map headed (tail_parts unit)) split);
        before_tail = last.0;
        tail = last.1;
      }

  -- One of the lines, with those before it.
  abbrev pub AtLine : Unit → LineForm → Type 0
  AtLine unit line = (earlier : List LineForm) × P (record { scope = UnitScope unit; earlier = earlier; line = line })

  pub each_line : (unit : Unit) (earlier : List LineForm) (all : List Declared) → Hold P (UnitScope unit) earlier (map head_of all) → (one : Declared)
      → Has all one → AtLine unit (line_of one)
  each_line unit earlier [] hold one has = absurd has
  each_line unit earlier (first ∷ all) hold one (inl is) = subst (λ (d : Declared). AtLine unit (line_of d)) is (earlier, hold.0)
  each_line unit earlier (first ∷ all) hold one (inr has) = each_line unit (earlier ++ (line_of first ∷ [])) all hold.2 one has

  pub declared_line : (unit : Unit) → Declares unit → (one : Declared) → Has (declarations unit) one → AtLine unit (line_of one)
  declared_line unit declared one has = each_line unit (front_lines unit.resolution) (declarations unit) declared.declared one has

-- ---- Names differ

module _ (system : System) where
  -- Declarations in a row have names that differ from each other and from those of earlier lines.
  apart : (scope : Scope) (earlier : List LineForm) (all : List Declared) → Hold (Passes system) scope earlier (map head_of all)
      → Distinct (map name_of all) × ((name : List ℕ) → Has (map name_of all) name → Has (filter_map name_declared earlier) name → ⊥)
  apart scope earlier [] hold = (tt, λ name has before. has)
  apart scope earlier (one ∷ all) hold =
      let rest = apart scope (earlier ++ (line_of one ∷ [])) all hold.2 in
      let longer : filter_map name_declared (earlier ++ (line_of one ∷ [])) ≡ filter_map name_declared earlier ++ (name_of one ∷ []) =
      filter_map-append name_declared earlier (line_of one ∷ []) ∙ ap (λ told. filter_map name_declared earlier ++ cons_option told []) (asks one) in
      let others : (name : List ℕ) → Has (map name_of all) name → Has (filter_map name_declared earlier ++ (name_of one ∷ [])) name → ⊥ =
      λ name has before. rest.1 name has (subst (λ names. Has names name) (sym longer) before) in
      let here : Has (filter_map name_declared earlier) (name_of one) → ⊥ =
      not_among bytes_eq bytes_of (name_of one) (filter_map name_declared earlier)
      (sym (ap (is_said bytes_eq (filter_map name_declared earlier)) (asks one))
      ∙ name_unsaid system (record { scope = scope; earlier = earlier; line = line_of one }) hold.0.fresh) in (
        (λ has. others (name_of one) has (has_behind (filter_map name_declared earlier) (name_of one ∷ []) (name_of one) (inl refl)), rest.0),
        λ name has before. elim has [
          | inl is ↦ here (subst (Has (filter_map name_declared earlier)) (sym is) before)
          | inr later ↦ others name later (has_front (filter_map name_declared earlier) (name_of one ∷ []) name before)
        ],
      )

  pub names_apart : (unit : Unit) → Declares (Passes system) unit → Distinct (map name_of (declarations unit))
  names_apart unit declared = (apart (UnitScope unit) (front_lines unit.resolution) (declarations unit) declared.declared).0

-- ---- There are not too many

abbrev tally : LineForm → List LineForm → ℕ
tally like lines = count_by (are_alike like) lines

tally_more : (like line : LineForm) (lines : List LineForm) → tally like (line ∷ lines) ≡ cond (are_alike like line) 1 0 + tally like lines
tally_more like line lines = sum_by-cons (λ x. cond (are_alike like x) 1 0) line lines

tally_both : (like : LineForm) (one other : List LineForm) → tally like (one ++ other) ≡ tally like one + tally like other
tally_both like one other = sum_by-append (λ x. cond (are_alike like x) 1 0) one other

-- Lines of a form that a line of the unit may become.
module _ (system : System) (unit : Unit) (like : LineForm) (limit : ℕ) where
  abbrev becomes : LineForm → List LineForm
  becomes line = plain_forms system (UnitScope unit) line

  -- What a line becomes does not exceed the limit, or does not count.
  abbrev Counts : Declared → Type 0
  Counts one =
      ((earlier : List LineForm)
      → list_any (is_one_too_many (UnitScope unit) (flat_map becomes (earlier ++ (line_of one ∷ [])))) (becomes (line_of one)) ≡ false
      → tally like (flat_map becomes (earlier ++ (line_of one ∷ []))) ≤ limit)
      ⊎ (tally like (becomes (line_of one)) ≡ 0)

  flat_one : (line : LineForm) → flat_map becomes (line ∷ []) ≡ becomes line
  flat_one line = append-nil (becomes line)

  further : (earlier : List LineForm) (one : Declared) → Counts one → tally like (flat_map becomes earlier) ≤ limit
      → list_any (is_one_too_many (UnitScope unit) (flat_map becomes (earlier ++ (line_of one ∷ [])))) (becomes (line_of one)) ≡ false
      → tally like (flat_map becomes (earlier ++ (line_of one ∷ []))) ≤ limit
  further earlier one (inl counted) low passes = counted earlier passes
  further earlier one (inr none) low passes =
      let same : tally like (flat_map becomes (earlier ++ (line_of one ∷ [])))
      ≡ tally like (flat_map becomes earlier) + tally like (flat_map becomes (line_of one ∷ [])) =
      ap (tally like) (flat_map-append becomes earlier (line_of one ∷ [])) ∙ tally_both like (flat_map becomes earlier) (flat_map becomes (line_of one ∷ [])) in
      let alone_none : tally like (flat_map becomes (line_of one ∷ [])) ≡ 0 = ap (tally like) (flat_one (line_of one)) ∙ none in
      omega arith

  within : (counts : (one : Declared) → Counts one) (earlier : List LineForm) (all : List Declared) → tally like (flat_map becomes earlier) ≤ limit
      → Hold (Passes system) (UnitScope unit) earlier (map head_of all) → tally like (flat_map becomes (earlier ++ map line_of all)) ≤ limit
  within counts earlier [] low hold = subst (λ xs. tally like (flat_map becomes xs) ≤ limit) (sym (append-nil earlier)) low
  within counts earlier (one ∷ all) low hold =
      subst (λ xs. tally like (flat_map becomes xs) ≤ limit) (append_assoc earlier (line_of one ∷ []) (map line_of all))
      (within counts (earlier ++ (line_of one ∷ [])) all (further earlier one (counts one) low hold.0.few) hold.2)

  tallied_both : (one other : List Declared)
      → tally like (flat_map becomes (map line_of (one ++ other)))
      ≡ tally like (flat_map becomes (map line_of one)) + tally like (flat_map becomes (map line_of other))
  tallied_both one other =
      ap (λ xs. tally like (flat_map becomes xs)) (map-append line_of one other)
      ∙ ap (tally like) (flat_map-append becomes (map line_of one) (map line_of other))
      ∙ tally_both like (flat_map becomes (map line_of one)) (flat_map becomes (map line_of other))

  all_parted : (a b c d e f g : List Declared)
      → tally like (flat_map becomes (map line_of (a ++ (b ++ (c ++ (d ++ (e ++ (f ++ g))))))))
      ≡ tally like (flat_map becomes (map line_of a))
      + (tally like (flat_map becomes (map line_of b))
      + (tally like (flat_map becomes (map line_of c))
      + (tally like (flat_map becomes (map line_of d))
      + (tally like (flat_map becomes (map line_of e)) + (tally like (flat_map becomes (map line_of f)) + tally like (flat_map becomes (map line_of g)))))))
  all_parted a b c d e f g =
      let one = tallied_both a (b ++ (c ++ (d ++ (e ++ (f ++ g))))) in
      let two = tallied_both b (c ++ (d ++ (e ++ (f ++ g)))) in
      let three = tallied_both c (d ++ (e ++ (f ++ g))) in
      let four = tallied_both d (e ++ (f ++ g)) in
      let five = tallied_both e (f ++ g) in
      let six = tallied_both f g in
      omega arith

  each_once : {A : Type 0} (of : A → Declared) → ((x : A) → tally like (becomes (line_of (of x))) ≡ 1) → (xs : List A)
      → tally like (flat_map becomes (map line_of (map of xs))) ≡ length xs
  each_once of one [] = refl
  each_once of one (x ∷ xs) =
      let rest = each_once of one xs in
      let here = one x in
      let both = tally_both like (becomes (line_of (of x))) (flat_map becomes (map line_of (map of xs))) in
      omega arith

  each_twice : {A : Type 0} (of : A → Declared) → ((x : A) → tally like (becomes (line_of (of x))) ≡ 2) → (xs : List A)
      → tally like (flat_map becomes (map line_of (map of xs))) ≡ 2 * length xs
  each_twice of two [] = refl
  each_twice of two (x ∷ xs) =
      let rest = each_twice of two xs in
      let here = two x in
      let both = tally_both like (becomes (line_of (of x))) (flat_map becomes (map line_of (map of xs))) in
      let more : 2 * suc (length xs) ≡ 2 + 2 * length xs = omega arith in
      omega arith

  -- All declarations of the unit together.
  pub limited : (counts : (one : Declared) → Counts one) → tally like (front_lines unit.resolution) ≤ limit → Declares (Passes system) unit
      → tally like (flat_map becomes (map line_of (declarations unit))) ≤ limit
  limited counts low declared =
      let start : tally like (flat_map becomes (front_lines unit.resolution)) ≤ limit = front_low unit.resolution low in
      let all = within counts (front_lines unit.resolution) (declarations unit) start declared.declared in
      let parted : tally like (flat_map becomes (front_lines unit.resolution ++ map line_of (declarations unit)))
      ≡ tally like (flat_map becomes (front_lines unit.resolution)) + tally like (flat_map becomes (map line_of (declarations unit))) =
      ap (tally like) (flat_map-append becomes (front_lines unit.resolution) (map line_of (declarations unit)))
      ∙ tally_both like (flat_map becomes (front_lines unit.resolution)) (flat_map becomes (map line_of (declarations unit))) in
      omega arith
    where
      front_low : (given : Option ℕ) → tally like (front_lines given) ≤ limit → tally like (flat_map becomes (front_lines given)) ≤ limit
      front_low None low = low
      front_low (Some decimals) low = low

abbrev any_output : LineForm
any_output = form.Output (record { name = []; ty = types.Bool; needs = []; value = expr.Time })

abbrev any_input : LineForm
any_input = form.Input (record { name = []; ty = types.Bool; start = literal.Truth false })

abbrev any_state : LineForm
any_state = form.State (record { name = []; ty = types.Bool; start = literal.Truth false })

abbrev any_local : LineForm
any_local = form.Local (record { name = []; ty = types.Bool })

module _ (system : System) (unit : Unit) where
  outputs_count : (one : Declared) → Counts system unit any_output 32 one
  outputs_count (OfParam param) = inr refl
  outputs_count (OfState state) = inr refl
  outputs_count (OfLocal local) = inr refl
  outputs_count (OfInput input) = inr refl
  outputs_count (OfEventIn event) = inr refl
  outputs_count (OfOutput output) = inl (λ earlier is. lt_not_told 32 _ (or_parts _ _ is).0)
  outputs_count (OfEventOut event) = inl (λ earlier is. lt_not_told 32 _ (or_parts _ _ is).0)

  inputs_count : (one : Declared) → Counts system unit any_input 32 one
  inputs_count (OfParam param) = inr refl
  inputs_count (OfState state) = inr refl
  inputs_count (OfLocal local) = inr refl
  inputs_count (OfInput input) = inl (λ earlier is. lt_not_told 32 _ (or_parts _ _ is).0)
  inputs_count (OfEventIn event) = inl (λ earlier is. lt_not_told 32 _ (or_parts _ _ is).0)
  inputs_count (OfOutput output) = inr refl
  inputs_count (OfEventOut event) = inr refl

  states_count : (one : Declared) → Counts system unit any_state 64 one
  states_count (OfParam param) = inr refl
  states_count (OfState state) = inl (λ earlier is. lt_not_told 64 _ (or_parts _ _ is).0)
  states_count (OfLocal local) = inr refl
  states_count (OfInput input) = inr refl
  states_count (OfEventIn event) = inr refl
  states_count (OfOutput output) = inr refl
  states_count (OfEventOut event) = inr refl

  locals_count : (one : Declared) → Counts system unit any_local 64 one
  locals_count (OfParam param) = inr refl
  locals_count (OfState state) = inr refl
  locals_count (OfLocal local) = inl (λ earlier is. lt_not_told 64 _ (or_parts _ _ is).0)
  locals_count (OfInput input) = inr refl
  locals_count (OfEventIn event) = inr refl
  locals_count (OfOutput output) = inr refl
  locals_count (OfEventOut event) = inr refl

  pub record IsLimited : Type 0 where
    pub outputs : length (plain_unit unit).outputs ≤ 32
    pub states : length unit.states ≤ 64
    pub inputs : length (plain_unit unit).inputs ≤ 32
    pub locals : length unit.locals ≤ 64

  twice : {A B : Type 0} (f : A → List B) → ((x : A) → length (f x) ≡ 2) → (xs : List A) → length (flat_map f xs) ≡ 2 * length xs
  twice f two [] = refl
  twice f two (x ∷ xs) =
      let here = two x in
      let rest = twice f two xs in
      let both = length-append (f x) (flat_map f xs) in
      omega arith

  no_outputs_first : (given : Option ℕ) → tally any_output (front_lines given) ≡ 0
  no_outputs_first None = refl
  no_outputs_first (Some decimals) = refl

  no_inputs_first : (given : Option ℕ) → tally any_input (front_lines given) ≡ 0
  no_inputs_first None = refl
  no_inputs_first (Some decimals) = refl

  no_states_first : (given : Option ℕ) → tally any_state (front_lines given) ≡ 0
  no_states_first None = refl
  no_states_first (Some decimals) = refl

  no_locals_first : (given : Option ℕ) → tally any_local (front_lines given) ≡ 0
  no_locals_first None = refl
  no_locals_first (Some decimals) = refl

  pub unit_limited : Declares (Passes system) unit → IsLimited
  unit_limited declared =
      let P = map OfParam unit.params in
      let S = map OfState unit.states in
      let L = map OfLocal unit.locals in
      let I = map OfInput unit.inputs in
      let E = map OfEventIn unit.events_in in
      let O = map OfOutput unit.outputs in
      let F = map OfEventOut unit.events_out in
      let outputs_start : tally any_output (front_lines unit.resolution) ≡ 0 = no_outputs_first unit.resolution in
      let inputs_start : tally any_input (front_lines unit.resolution) ≡ 0 = no_inputs_first unit.resolution in
      let states_start : tally any_state (front_lines unit.resolution) ≡ 0 = no_states_first unit.resolution in
      let locals_start : tally any_local (front_lines unit.resolution) ≡ 0 = no_locals_first unit.resolution in record {
        outputs =
            let all = limited system unit any_output 32 outputs_count (omega arith) declared in
            let parted = all_parted system unit any_output 32 P S L I E O F in
            let plain = each_once system unit any_output 32 OfOutput (λ x. refl) unit.outputs in
            let events = each_twice system unit any_output 32 OfEventOut (λ x. refl) unit.events_out in
            let more = length-append (map (plain_output unit) unit.outputs) (flat_map (plain_outputs unit) unit.events_out) in
            let same = length-map unit.outputs (plain_output unit) in
            let pairs = twice (plain_outputs unit) (λ x. refl) unit.events_out in
            omega arith;
        states =
            let all = limited system unit any_state 64 states_count (omega arith) declared in
            let parted = all_parted system unit any_state 64 P S L I E O F in
            let plain = each_once system unit any_state 64 OfState (λ x. refl) unit.states in
            omega arith;
        inputs =
            let all = limited system unit any_input 32 inputs_count (omega arith) declared in
            let parted = all_parted system unit any_input 32 P S L I E O F in
            let plain = each_once system unit any_input 32 OfInput (λ x. refl) unit.inputs in
            let events = each_twice system unit any_input 32 OfEventIn (λ x. refl) unit.events_in in
            let more = length-append unit.inputs (flat_map plain_inputs unit.events_in) in
            let pairs = twice plain_inputs (λ x. refl) unit.events_in in
            omega arith;
        locals =
            let all = limited system unit any_local 64 locals_count (omega arith) declared in
            let parted = all_parted system unit any_local 64 P S L I E O F in
            let plain = each_once system unit any_local 64 OfLocal (λ x. refl) unit.locals in
            omega arith;
      }
