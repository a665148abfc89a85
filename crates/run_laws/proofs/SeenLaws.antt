-- The value of an expression depends only on the words of the names in it.
use Rattle.std.proofs.Common.{◌≡◌, ℕ, Bool, true, false, List, [], ◌∷◌, ◌++◌, map, length, ℤ, pos, inl, inr, refl, ap, sym, subst, ◌∙◌, cond, ◌+◌, append_assoc}
use Rattle.std.proofs.Common.{arith}
use Rattle.std.specs.Prelude.{Ok, Err, not, ◌&&◌, ◌||◌}
use Rattle.std.specs.List.{list_any}
use Rattle.std.specs.Str.{bytes_eq}
use Rattle.std.proofs.lemmas.List.{length-map, length-append, map-append}
use Rattle.std.proofs.lemmas.Bool.{or_parts, or_right}
use Rattle.fixed_words.specs.Types.{kind_of, is_word_of}
use Rattle.fixed_words.specs.declared.types.Fault.TheVariants.{Range}
use Rattle.fixed_words.specs.declared.types.Ty.{Ty}
use Rattle.unit_tree.specs.Components.{variable, environment_of, given_as}
use Rattle.unit_tree.specs.Names.{Port, node_names, names_in, is_among, input_names}
use Rattle.run_laws.specs.RunLaws.{AgreeOn, OutputsLookAtNeeds, OutputsAreWords}
use Rattle.unit_tree.specs.Values.{◌>>=◌, Meaning, node_meaning, value_of, value_of_name, unary_value, binary_value, clamped_value, holds}
use Rattle.unit_tree.specs.declared.environment.Environment.{Environment}
use Rattle.unit_tree.specs.declared.environment.Value.{Value}
use Rattle.unit_tree.specs.declared.environment.Variable.{Variable}
use Rattle.fixed_words.specs.declared.types.Kind.TheVariants as kinds
use Rattle.unit_tree.specs.declared.expr.Expr.{Expr}
use Rattle.unit_tree.specs.declared.expr.Expr.TheFolds.{ind-Expr, map-Expr, fold-roll-Expr}
use Rattle.unit_tree.specs.declared.expr.Expr.TheViews.{roll-Expr}
use Rattle.unit_tree.specs.declared.expr.Expr.TheOpen.{Expr-F}
use Rattle.unit_tree.specs.WellFormed.{uses_other_input}
use Rattle.unit_tree.specs.declared.unit.Input.{Input}
use Rattle.unit_tree.specs.declared.unit.Unit.{Unit}
use Rattle.run_laws.proofs.EffectKeeps.{bound}
use Rattle.language_laws.proofs.NameLaws.{same_bytes, bytes_of}
use Rattle.list_laws.proofs.Members.{Has, has_front, has_behind}
use Rattle.list_laws.proofs.Lists.{any_front}

-- Two environments give some names the same words, and their clocks are the same.
pub record ShowSame (names : List (List ℕ)) (one other : Environment) : Type 0 where
  pub time : one.time ≡ other.time
  pub step : one.step ≡ other.step
  pub words : (name : List ℕ) → Has names name → value_of_name one.variables one.words name ≡ value_of_name other.variables other.words name

abbrev pub Claim : Expr → Type 0
Claim value = (one other : Environment) → ShowSame (names_in value) one other → value_of value one ≡ value_of value other

abbrev pub Proved : Type 0
Proved = (value : Expr) × Claim value

abbrev pub bare : Proved → Expr
bare value = value.0

pub of_front : (front behind : List (List ℕ)) (one other : Environment) → ShowSame (front ++ behind) one other → ShowSame front one other
of_front front behind one other same = record { time = same.time; step = same.step; words = λ name has. same.words name (has_front front behind name has) }

pub of_behind : (front behind : List (List ℕ)) (one other : Environment) → ShowSame (front ++ behind) one other → ShowSame behind one other
of_behind front behind one other same = record { time = same.time; step = same.step; words = λ name has. same.words name (has_behind front behind name has) }

-- One node, of parts whose values are the same.
pub node_same : (y : Expr-F Proved) (one other : Environment)
    → ShowSame (node_names (map-Expr Expr (List (List ℕ)) names_in (map-Expr Proved Expr bare y))) one other
    → node_meaning (map-Expr Expr Meaning value_of (map-Expr Proved Expr bare y)) one
    ≡ node_meaning (map-Expr Expr Meaning value_of (map-Expr Proved Expr bare y)) other
node_same (Expr-F.Number number decimals) one other same = refl
node_same (Expr-F.Truth told) one other same = refl
node_same (Expr-F.Var name) one other same = ap (λ v. Ok v) (same.words name (inl refl))
node_same Expr-F.Time one other same = ap (λ time. Ok (record { kind = kinds.Int; word = pos time })) same.time
node_same Expr-F.Step one other same = ap (λ step. Ok (record { kind = kinds.Int; word = pos step })) same.step
node_same (Expr-F.Unary op arg) one other same = ap (λ x. x >>= unary_value op) (arg.1 one other same)
node_same (Expr-F.Binary op left right) one other same =
    let on_left = left.1 one other (of_front (names_in (bare left)) (names_in (bare right)) one other same) in
    let on_right = right.1 one other (of_behind (names_in (bare left)) (names_in (bare right)) one other same) in
    ap (λ x. x >>= λ l. (value_of (bare right) one >>= λ r. binary_value op l r)) on_left
    ∙ ap (λ y. value_of (bare left) other >>= λ l. (y >>= λ r. binary_value op l r)) on_right
node_same (Expr-F.Clamp value low high) one other same =
    let front = names_in (bare value) ++ names_in (bare low) in
    let bounds = of_front front (names_in (bare high)) one other same in
    let on_value = value.1 one other (of_front (names_in (bare value)) (names_in (bare low)) one other bounds) in
    let on_low = low.1 one other (of_behind (names_in (bare value)) (names_in (bare low)) one other bounds) in
    let on_high = high.1 one other (of_behind front (names_in (bare high)) one other same) in
    ap (λ v. clamped_value v (value_of (bare low) one) (value_of (bare high) one)) on_value
    ∙ ap (λ l. clamped_value (value_of (bare value) other) l (value_of (bare high) one)) on_low
    ∙ ap (λ h. clamped_value (value_of (bare value) other) (value_of (bare low) other) h) on_high
node_same (Expr-F.Choose condition then_part else_part) one other same =
    let front = names_in (bare condition) ++ names_in (bare then_part) in
    let first = of_front front (names_in (bare else_part)) one other same in
    let on_condition = condition.1 one other (of_front (names_in (bare condition)) (names_in (bare then_part)) one other first) in
    let on_then = then_part.1 one other (of_behind (names_in (bare condition)) (names_in (bare then_part)) one other first) in
    let on_else = else_part.1 one other (of_behind front (names_in (bare else_part)) one other same) in
    ap (λ c. c >>= λ told. cond (holds told) (value_of (bare then_part) one) (value_of (bare else_part) one)) on_condition
    ∙ ap (λ t. value_of (bare condition) other >>= λ told. cond (holds told) t (value_of (bare else_part) one)) on_then
    ∙ ap (λ e. value_of (bare condition) other >>= λ told. cond (holds told) (value_of (bare then_part) other) e) on_else
node_same Expr-F.Absent one other same = refl
node_same (Expr-F.Present name) one other same = refl

pub node : (y : Expr-F Proved) → Claim (roll-Expr (map-Expr Proved Expr bare y))
node y one other same =
    ap (λ (meaning : Meaning). meaning one) (fold-roll-Expr Meaning node_meaning (map-Expr Proved Expr bare y))
    ∙ node_same y one other (subst (λ names. ShowSame names one other) (fold-roll-Expr (List (List ℕ)) node_names (map-Expr Proved Expr bare y)) same)
    ∙ ap (λ (meaning : Meaning). meaning other) (sym (fold-roll-Expr Meaning node_meaning (map-Expr Proved Expr bare y)))

pub value_same : (value : Expr) (one other : Environment) → ShowSame (names_in value) one other → value_of value one ≡ value_of value other
value_same = ind-Expr Claim (λ x y is. subst (λ z. Claim (roll-Expr z)) is (node y))

-- ---- The value of an output

-- After variables with the same words, a name has the same value where it has the same in the rest.
pub lookup_behind : (front rest : List Variable) (words ones others : List ℤ) (name : List ℕ) → length words ≡ length front
    → value_of_name rest ones name ≡ value_of_name rest others name
    → value_of_name (front ++ rest) (words ++ ones) name ≡ value_of_name (front ++ rest) (words ++ others) name
lookup_behind [] rest [] ones others name one_each same = same
lookup_behind [] rest (word ∷ words) ones others name one_each same = absurd (omega (arith, one_each))
lookup_behind (first ∷ front) rest [] ones others name one_each same = absurd (omega (arith, one_each))
lookup_behind (first ∷ front) rest (word ∷ words) ones others name one_each same =
    ap (cond (bytes_eq first.name name) (record { kind = kind_of first.ty; word = word }))
    (lookup_behind front rest words ones others name (omega (arith, one_each)) same)

-- An input of the name is in the needs.
abbrev pub Covered : List (List ℕ) → List Input → List ℕ → Type 0
Covered needs inputs name = (input : Input) → Has inputs input → bytes_eq input.name name ≡ true → is_among needs input.name ≡ true

pub input_by : (named : Bool) (input : Input) (one other : ℤ) (first second : Value) → (named ≡ true → one ≡ other) → first ≡ second
    → cond named (record { kind = kind_of input.ty; word = one }) first ≡ cond named (record { kind = kind_of input.ty; word = other }) second
input_by true input one other first second same later = ap (λ word. record { kind = kind_of input.ty; word = word }) (same refl)
input_by false input one other first second same later = later

pub lookup_inputs : (needs : List (List ℕ)) (inputs : List Input) (rest : List Variable) (ones others words : List ℤ) (name : List ℕ)
    → AgreeOn needs inputs ones others → Covered needs inputs name
    → value_of_name (map (λ input. variable input.name input.ty) inputs ++ rest) (ones ++ words) name
    ≡ value_of_name (map (λ input. variable input.name input.ty) inputs ++ rest) (others ++ words) name
lookup_inputs needs [] rest [] [] words name agree covered = refl
lookup_inputs needs [] rest [] (other ∷ others) words name agree covered = absurd agree
lookup_inputs needs [] rest (one ∷ ones) others words name agree covered = absurd agree
lookup_inputs needs (input ∷ inputs) rest [] others words name agree covered = absurd agree
lookup_inputs needs (input ∷ inputs) rest (one ∷ ones) [] words name agree covered = absurd agree
lookup_inputs needs (input ∷ inputs) rest (one ∷ ones) (other ∷ others) words name agree covered =
    input_by (bytes_eq input.name name) input one other _ _ (λ named. agree.0 (covered input (inl refl) named))
    (lookup_inputs needs inputs rest ones others words name agree.1 (λ later has. covered later (inr has)))

pub and_false : (one other : Bool) → one ≡ true → (one && not other) ≡ false → other ≡ true
and_false true true is kept = refl
and_false true false is kept = absurd (cc)
and_false false other is kept = absurd (cc)

-- A name of an expression that uses no other input.
pub kept_at : (test : List ℕ → Bool) (names : List (List ℕ)) (name : List ℕ) → list_any test names ≡ false → Has names name → test name ≡ false
kept_at test [] name none has = absurd has
kept_at test (first ∷ names) name none (inl is) = subst (λ n. test n ≡ false) is (or_parts (test first) (list_any test names) none).0
kept_at test (first ∷ names) name none (inr has) = kept_at test names name (or_parts (test first) (list_any test names) none).1 has

pub input_among : (inputs : List Input) (input : Input) (name : List ℕ) → Has inputs input → name ≡ input.name
    → is_among (map (λ (input : Input). input.name) inputs) name ≡ true
input_among [] input name has is = absurd has
input_among (first ∷ inputs) input name (inl same) is =
    ap (λ b. b || is_among (map (λ (input : Input). input.name) inputs) name) (bytes_of name first.name (is ∙ sym (ap (λ (i : Input). i.name) same)))
input_among (first ∷ inputs) input name (inr has) is = or_right (bytes_eq name first.name) _ (input_among inputs input name has is)

pub names_of_inputs : (inputs : List Input)
    → map (λ (port : Port). port.name) (map (λ (input : Input). record { name = input.name; ty = input.ty; is_event = false; needs = [] }) inputs)
    ≡ map (λ (input : Input). input.name) inputs
names_of_inputs [] = refl
names_of_inputs (input ∷ inputs) = ap (λ rest. input.name ∷ rest) (names_of_inputs inputs)

-- An input of a unit is among the names of its inputs.
pub among_inputs : (unit : Unit) (input : Input) (name : List ℕ) → Has unit.inputs input → name ≡ input.name → is_among (input_names unit) name ≡ true
among_inputs unit input name has is =
    let plain : List Port = map (λ (input : Input). record { name = input.name; ty = input.ty; is_event = false; needs = [] }) unit.inputs in
    let events : List Port = map (λ event. record { name = event.name; ty = event.ty; is_event = true; needs = [] }) unit.events_in in
    subst (λ names. is_among names name ≡ true) (sym (map-append (λ (port : Port). port.name) plain events))
    (any_front (bytes_eq name) (map (λ (port : Port). port.name) plain) (map (λ (port : Port). port.name) events)
    (subst (λ names. is_among names name ≡ true) (sym (names_of_inputs unit.inputs)) (input_among unit.inputs input name has is)))

pub is_covered : (unit : Unit) (needs : List (List ℕ)) (value : Expr) (name : List ℕ) → uses_other_input unit needs value ≡ false → Has (names_in value) name
    → Covered needs unit.inputs name
is_covered unit needs value name kept has input there same =
    let is : input.name ≡ name = same_bytes input.name name same in
    let needed : is_among needs name ≡ true =
    and_false (is_among (input_names unit) name) (is_among needs name) (among_inputs unit input name there (sym is))
    (kept_at (λ n. is_among (input_names unit) n && not (is_among needs n)) (names_in value) name kept has) in
    subst (λ n. is_among needs n ≡ true) (sym is) needed

pub get_same : OutputsLookAtNeeds
get_same component state one other output params states agree kept =
    let unit = component.unit in
    let front : List Variable = map (λ param. variable param.name param.ty) unit.params ++ map (λ state. variable state.name state.ty) unit.states in
    let inputs : List Variable = map (λ input. variable input.name input.ty) unit.inputs in
    let locals : List Variable = map (λ local. variable local.name local.ty) unit.locals in
    let zeros : List ℤ = map (λ local. pos 0) unit.locals in
    let words : List ℤ = component.params ++ state in
    let one_each : length words ≡ length front =
    length-append component.params state ∙ ap (λ n. n + length state) (params ∙ sym (length-map unit.params (λ param. variable param.name param.ty)))
    ∙ ap (λ n. length (map (λ param. variable param.name param.ty) unit.params) + n)
    (states ∙ sym (length-map unit.states (λ state. variable state.name state.ty)))
    ∙ sym (length-append (map (λ param. variable param.name param.ty) unit.params) (map (λ state. variable state.name state.ty) unit.states)) in
    let same : ShowSame (names_in output.value) (environment_of component state one 0 0) (environment_of component state other 0 0) =
    record {
      time = refl;
      step = refl;
      words = λ name has.
          ap (λ vs. value_of_name vs ((words ++ one) ++ zeros) name) (append_assoc front inputs locals)
          ∙ ap (λ ws. value_of_name (front ++ (inputs ++ locals)) ws name) (append_assoc words one zeros)
          ∙ lookup_behind front (inputs ++ locals) words (one ++ zeros) (other ++ zeros) name one_each
          (lookup_inputs output.needs unit.inputs locals one other zeros name agree (is_covered unit output.needs output.value name kept has))
          ∙ sym (ap (λ ws. value_of_name (front ++ (inputs ++ locals)) ws name) (append_assoc words other zeros))
          ∙ sym (ap (λ vs. value_of_name vs ((words ++ other) ++ zeros) name) (append_assoc front inputs locals));
    } in
    ap (λ value. value >>= given_as output.ty)
    (value_same output.value (environment_of component state one 0 0) (environment_of component state other 0 0) same)

pub given_fits : (fits : Bool) (ty : Ty) (given word : ℤ) → is_word_of ty given ≡ fits → cond fits (Ok given) (Err Range) ≡ Ok word → is_word_of ty word ≡ true
given_fits true ty given word is same = let equal : given ≡ word = cc in subst (λ w. is_word_of ty w ≡ true) equal is
given_fits false ty given word is same = absurd (cc)

pub get_fits : OutputsAreWords
get_fits component state inputs output word is =
    let found = bound (value_of output.value (environment_of component state inputs 0 0)) (given_as output.ty) word is in
    given_fits (is_word_of output.ty found.between.word) output.ty found.between.word word refl found.then_is
