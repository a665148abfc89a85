-- The word of a name is that of its slot, and what is stored under a name is stored in its slot.
use Rattle.std.proofs.Common.{◌≡◌, ℕ, suc, ◌+◌, ◌<◌, Bool, true, false, ℤ, pos, List, [], ◌∷◌, ◌++◌, map, length, append_assoc, Option, Some, slice_get, set}
use Rattle.std.proofs.Common.{Result, Ok, Err, refl, sym, ap, ◌∙◌, subst, nat_lt, arith}
use Rattle.std.specs.Prelude.{if◌then◌else◌, slice_set}
use Rattle.std.specs.Str.{bytes_eq}
use Rattle.std.proofs.Math.Seq.{set-append_seam}
use Rattle.std.proofs.lemmas.List.{length-append}
use Rattle.std.proofs.lemmas.Bool.Decides.{nat_tests}
use Rattle.fixed_words.specs.Types.{kind_of, is_word_of}
use Rattle.fixed_words.specs.declared.types.Fault.{Fault}
use Rattle.fixed_words.specs.declared.types.Fault.TheVariants.{Range}
use Rattle.fixed_words.specs.declared.types.Ty.{Ty}
use Rattle.code_units.specs.Expressions.{name_code}
use Rattle.code_units.proofs.Frames.{CallWords, environment_at, work_at}
use Rattle.code_units.specs.Scopes.{constants, slots_from, slot_variables, scope_of, named}
use Rattle.code_units.specs.StepLines.{target_coded}
use Rattle.code_units.specs.declared.scope.Named.{Named}
use Rattle.code_units.proofs.ExpressionsMean.{at, Means, load_means, Sees}
use Rattle.code_pieces.specs.Pieces.{does}
use Rattle.unit_tree.specs.Components.{Component, variable, variables_of}
use Rattle.unit_tree.specs.Effects.{stored}
use Rattle.unit_tree.specs.Values.{◌>>=◌, value_of_name}
use Rattle.unit_tree.specs.declared.environment.Value.{Value}
use Rattle.unit_tree.specs.declared.environment.Variable.{Variable}
use Rattle.unit_tree.specs.declared.unit.Param.{Param}
use Rattle.unit_tree.specs.declared.unit.Unit.{Unit}
use Rattle.unit_vm.specs.Machine.{Did, Does, Fails, Lacks}
use Rattle.unit_vm.specs.declared.program.Sizes.{Sizes}
use Rattle.list_laws.proofs.Members.{at_seam}

-- ---- Lists

-- A word between others, moved from one part to the next.
pub further : (front words behind : List ℤ) (word : ℤ) → (front ++ (word ∷ [])) ++ (words ++ behind) ≡ front ++ ((word ∷ words) ++ behind)
further front words behind word = append_assoc front (word ∷ []) (words ++ behind)

longer : (front : List ℤ) (word : ℤ) (slot : ℕ) → slot ≡ length front → suc slot ≡ length (front ++ (word ∷ []))
longer front word slot is = ap suc is ∙ one_more front
  where
    one_more : (xs : List ℤ) → suc (length xs) ≡ length (xs ++ (word ∷ []))
    one_more [] = refl
    one_more (x ∷ xs) = ap suc (one_more xs)

-- ---- Reading

found_means : (slots : List ℤ) (accepted : ℕ) (told : Bool) (known : Named) (others : Option Named) (here later : Value)
    → Means slots accepted (name_code (Some known)) (Ok here) → Means slots accepted (name_code others) (Ok later)
    → Means slots accepted (name_code (if told then Some known else others)) (Ok (if told then here else later))
found_means slots accepted true known others here later one other = one
found_means slots accepted false known others here later one other = other

pub slots_mean : (variables : List Variable) (words front behind : List ℤ) (accepted slot : ℕ) (name : List ℕ) → length words ≡ length variables
    → slot ≡ length front
    → Means (front ++ (words ++ behind)) accepted (name_code (named (slots_from slot variables) name)) (Ok (value_of_name variables words name))
slots_mean [] words front behind accepted slot name each is = λ agrees stack. (refl, refl)
slots_mean (v ∷ variables) [] front behind accepted slot name each is = absurd (cc)
slots_mean (v ∷ variables) (word ∷ words) front behind accepted slot name each is =
    let here : slice_get (front ++ ((word ∷ words) ++ behind)) slot ≡ Some word =
    ap (slice_get (front ++ ((word ∷ words) ++ behind))) is ∙ at_seam front word (words ++ behind) in
    let others : length words ≡ length variables = omega arith in
    let later = slots_mean variables words (front ++ (word ∷ [])) behind accepted (suc slot) name others (longer front word slot is) in
    found_means (front ++ ((word ∷ words) ++ behind)) accepted (bytes_eq v.name name) _ _ _ _
    (load_means (front ++ ((word ∷ words) ++ behind)) accepted slot word (kind_of v.ty) here)
    (subst (λ slots. Means slots accepted (name_code (named (slots_from (suc slot) variables) name)) (Ok (value_of_name variables words name)))
    (further front words behind word) later)

abbrev pub param_variables : List Param → List Variable
param_variables params = map (λ param. variable param.name param.ty) params

constants_mean : (params : List Param) (consts : List ℤ) (known : List Named) (variables : List Variable) (words slots : List ℤ) (accepted : ℕ) (name : List ℕ)
    → length consts ≡ length params → Means slots accepted (name_code (named known name)) (Ok (value_of_name variables words name))
    → Means slots accepted (name_code (named (constants params consts ++ known) name))
    (Ok (value_of_name (param_variables params ++ variables) (consts ++ words) name))
constants_mean [] [] known variables words slots accepted name each means = means
constants_mean [] (word ∷ consts) known variables words slots accepted name each means = absurd (cc)
constants_mean (param ∷ params) [] known variables words slots accepted name each means = absurd (cc)
constants_mean (param ∷ params) (word ∷ consts) known variables words slots accepted name each means =
    let others : length consts ≡ length params = omega arith in
    found_means slots accepted (bytes_eq param.name name) _ _ _ _ (λ agrees stack. (refl, refl))
    (constants_mean params consts known variables words slots accepted name others means)

pub variables_are : (unit : Unit) → variables_of unit ≡ param_variables unit.params ++ slot_variables unit
variables_are unit =
    let states : List Variable = map (λ state. variable state.name state.ty) unit.states in
    let inputs : List Variable = map (λ input. variable input.name input.ty) unit.inputs in
    let locals : List Variable = map (λ local. variable local.name local.ty) unit.locals in
    append_assoc (param_variables unit.params ++ states) inputs locals ∙ append_assoc (param_variables unit.params) states (inputs ++ locals)

-- A component with a word for each parameter, and words, one for each slot.
pub record Fits (component : Component) (held : CallWords) : Type 0 where
  pub params : length component.params ≡ length component.unit.params
  pub words : length held.words ≡ length (slot_variables component.unit)

second : (words : List ℤ) (one other : ℤ) → slice_get (words ++ (one ∷ other ∷ [])) (suc (length words)) ≡ Some other
second [] one other = refl
second (word ∷ words) one other = second words one other

pub sees : (component : Component) (time step : ℕ) (held : CallWords) → Fits component held
    → Sees (held.words ++ (pos time ∷ pos step ∷ [])) held.accepted (scope_of component.unit component.params) (environment_at component time step held)
sees component time step held fits = record {
  time = ap (slice_get (held.words ++ (pos time ∷ pos step ∷ []))) (sym fits.words) ∙ at_seam held.words (pos time) (pos step ∷ []);
  step = ap (λ n. slice_get (held.words ++ (pos time ∷ pos step ∷ [])) (suc n)) (sym fits.words) ∙ second held.words (pos time) (pos step);
  names = λ name.
      subst
      (λ variables. Means (held.words ++ (pos time ∷ pos step ∷ [])) held.accepted (name_code (named (scope_of component.unit component.params).names name))
      (Ok (value_of_name variables (component.params ++ held.words) name)))
      (sym (variables_are component.unit))
      (constants_mean component.unit.params component.params (slots_from 0 (slot_variables component.unit)) (slot_variables component.unit) held.words
      (held.words ++ (pos time ∷ pos step ∷ [])) held.accepted name fits.params
      (slots_mean (slot_variables component.unit) held.words [] (pos time ∷ pos step ∷ []) held.accepted 0 name fits.words refl));
}

-- ---- Storing

-- Words are changed in their slots, and the word is popped; or there is a fault.
abbrev pub Changes : List ℤ → List ℤ → ℕ → List ℤ → ℕ → Did → Result (List ℤ) Fault → Type 0
Changes front behind accepted stack count did (Ok changed) = (did ≡ Does (at (front ++ (changed ++ behind)) accepted stack)) × (length changed ≡ count)
Changes front behind accepted stack count did (Err fault) = did ≡ Fails fault

fits_changes : (fits : Bool) (slot : ℕ) (ty : Ty) (word old : ℤ) (words front behind stack : List ℤ) (accepted : ℕ) → is_word_of ty word ≡ fits
    → slot ≡ length front
    → Changes front behind accepted stack (suc (length words))
    (if fits then
    (if nat_lt slot (length (front ++ ((old ∷ words) ++ behind))) then Does
    (at (slice_set (front ++ ((old ∷ words) ++ behind)) slot word) accepted stack) else Lacks) else Fails Range)
    (if fits then Ok (word ∷ words) else Err Range)
fits_changes false slot ty word old words front behind stack accepted is at_slot = refl
fits_changes true slot ty word old words front behind stack accepted is at_slot =
    let size : length (front ++ ((old ∷ words) ++ behind)) ≡ length front + length ((old ∷ words) ++ behind) = length-append front ((old ∷ words) ++ behind) in
    let within : slot < length (front ++ ((old ∷ words) ++ behind)) = omega arith in
    let test : nat_lt slot (length (front ++ ((old ∷ words) ++ behind))) ≡ true = grind (arith, nat_tests) in (
      ap (λ (b : Bool). if b then Does (at (slice_set (front ++ ((old ∷ words) ++ behind)) slot word) accepted stack) else Lacks) test
          ∙ ap (λ slots. Does (at slots accepted stack))
          (ap (λ n. set (front ++ ((old ∷ words) ++ behind)) n word) at_slot ∙ set-append_seam front old (words ++ behind) word),
      refl,
    )

found_changes : (sizes : Sizes) (told : Bool) (known : Named) (others : Option Named) (here later : Result (List ℤ) Fault) (front behind stack : List ℤ)
    (accepted count : ℕ) (word : ℤ) (slots : List ℤ)
    → ((target_coded sizes (Some known)).is_right ≡ true
    → Changes front behind accepted stack count (does (target_coded sizes (Some known)).piece (at slots accepted (word ∷ stack))) here)
    → ((target_coded sizes others).is_right ≡ true
    → Changes front behind accepted stack count (does (target_coded sizes others).piece (at slots accepted (word ∷ stack))) later)
    → (target_coded sizes (if told then Some known else others)).is_right ≡ true
    → Changes front behind accepted stack count (does (target_coded sizes (if told then Some known else others)).piece (at slots accepted (word ∷ stack)))
    (if told then here else later)
found_changes sizes true known others here later front behind stack accepted count word slots one other right = one right
found_changes sizes false known others here later front behind stack accepted count word slots one other right = other right

-- A change of a later word.
back_to : (front behind stack : List ℤ) (accepted count : ℕ) (old : ℤ) (did : Did) (changed : Result (List ℤ) Fault)
    → Changes (front ++ (old ∷ [])) behind accepted stack count did changed
    → Changes front behind accepted stack (suc count) did (changed >>= λ words. Ok (old ∷ words))
back_to front behind stack accepted count old did (Ok words) is =
    (is.0 ∙ ap (λ slots. Does (at slots accepted stack)) (further front words behind old), ap suc is.1)
back_to front behind stack accepted count old did (Err fault) is = is

slots_change : (sizes : Sizes) (variables : List Variable) (words front behind stack : List ℤ) (accepted slot : ℕ) (name : List ℕ) (word : ℤ)
    → length words ≡ length variables → slot ≡ length front → (target_coded sizes (named (slots_from slot variables) name)).is_right ≡ true
    → Changes front behind accepted stack (length words)
    (does (target_coded sizes (named (slots_from slot variables) name)).piece (at (front ++ (words ++ behind)) accepted (word ∷ stack)))
    (stored variables words name word)
slots_change sizes [] words front behind stack accepted slot name word each is right = absurd (cc)
slots_change sizes (v ∷ variables) [] front behind stack accepted slot name word each is right = absurd (cc)
slots_change sizes (v ∷ variables) (old ∷ words) front behind stack accepted slot name word each is right =
    let others : length words ≡ length variables = omega arith in
    found_changes sizes (bytes_eq v.name name) _ (named (slots_from (suc slot) variables) name) _ _ front behind stack accepted (suc (length words)) word
    (front ++ ((old ∷ words) ++ behind))
    (λ so. fits_changes (is_word_of v.ty word) slot v.ty word old words front behind stack accepted refl is)
    (λ so. back_to front behind stack accepted (length words) old _ (stored variables words name word)
    (subst
    (λ slots. Changes (front ++ (old ∷ [])) behind accepted stack (length words)
    (does (target_coded sizes (named (slots_from (suc slot) variables) name)).piece (at slots accepted (word ∷ stack)))
    (stored variables words name word))
    (further front words behind old)
    (slots_change sizes variables words (front ++ (old ∷ [])) behind stack accepted (suc slot) name word others (longer front old slot is) so)))
    right

-- With the words of parameters before them, which are not targets.
abbrev pub ChangesBehind : List ℤ → List ℤ → ℕ → List ℤ → ℕ → Did → Result (List ℤ) Fault → Type 0
ChangesBehind consts behind accepted stack count did (Ok changed) =
    (words : List ℤ) × (changed ≡ consts ++ words) × (did ≡ Does (at (words ++ behind) accepted stack)) × (length words ≡ count)
ChangesBehind consts behind accepted stack count did (Err fault) = did ≡ Fails fault

found_behind : (sizes : Sizes) (told : Bool) (known : Named) (others : Option Named) (here later : Result (List ℤ) Fault) (consts behind stack : List ℤ)
    (accepted count : ℕ) (word : ℤ) (slots : List ℤ)
    → ((target_coded sizes (Some known)).is_right ≡ true
    → ChangesBehind consts behind accepted stack count (does (target_coded sizes (Some known)).piece (at slots accepted (word ∷ stack))) here)
    → ((target_coded sizes others).is_right ≡ true
    → ChangesBehind consts behind accepted stack count (does (target_coded sizes others).piece (at slots accepted (word ∷ stack))) later)
    → (target_coded sizes (if told then Some known else others)).is_right ≡ true
    → ChangesBehind consts behind accepted stack count
    (does (target_coded sizes (if told then Some known else others)).piece (at slots accepted (word ∷ stack))) (if told then here else later)
found_behind sizes true known others here later consts behind stack accepted count word slots one other right = one right
found_behind sizes false known others here later consts behind stack accepted count word slots one other right = other right

one_const : (consts behind stack : List ℤ) (accepted count : ℕ) (first : ℤ) (did : Did) (changed : Result (List ℤ) Fault)
    → ChangesBehind consts behind accepted stack count did changed
    → ChangesBehind (first ∷ consts) behind accepted stack count did (changed >>= λ words. Ok (first ∷ words))
one_const consts behind stack accepted count first did (Ok words) is = (is.0, ap (λ xs. first ∷ xs) is.1, is.2, is.3)
one_const consts behind stack accepted count first did (Err fault) is = is

no_consts : (behind stack : List ℤ) (accepted count : ℕ) (did : Did) (changed : Result (List ℤ) Fault) → Changes [] behind accepted stack count did changed
    → ChangesBehind [] behind accepted stack count did changed
no_consts behind stack accepted count did (Ok words) is = (words, refl, is.0, is.1)
no_consts behind stack accepted count did (Err fault) is = is

constants_change : (sizes : Sizes) (params : List Param) (consts : List ℤ) (known : List Named) (variables : List Variable)
    (words slots behind stack : List ℤ) (accepted count : ℕ) (name : List ℕ) (word : ℤ)
    → length consts ≡ length params
    → ((target_coded sizes (named known name)).is_right ≡ true
    → ChangesBehind [] behind accepted stack count (does (target_coded sizes (named known name)).piece (at slots accepted (word ∷ stack)))
    (stored variables words name word))
    → (target_coded sizes (named (constants params consts ++ known) name)).is_right ≡ true
    → ChangesBehind consts behind accepted stack count
    (does (target_coded sizes (named (constants params consts ++ known) name)).piece (at slots accepted (word ∷ stack)))
    (stored (param_variables params ++ variables) (consts ++ words) name word)
constants_change sizes [] [] known variables words slots behind stack accepted count name word each change right = change right
constants_change sizes [] (first ∷ consts) known variables words slots behind stack accepted count name word each change right = absurd (cc)
constants_change sizes (param ∷ params) [] known variables words slots behind stack accepted count name word each change right = absurd (cc)
constants_change sizes (param ∷ params) (first ∷ consts) known variables words slots behind stack accepted count name word each change right =
    let others : length consts ≡ length params = omega arith in
    found_behind sizes (bytes_eq param.name name) _ (named (constants params consts ++ known) name) _ _ (first ∷ consts) behind stack accepted count word slots
    (λ so. absurd (cc))
    (λ so. one_const consts behind stack accepted count first _ (stored (param_variables params ++ variables) (consts ++ words) name word)
    (constants_change sizes params consts known variables words slots behind stack accepted count name word others change so))
    right

-- A word that is stored under a name is stored in the slot that its code uses.
pub stores : (component : Component) (time step : ℕ) (held : CallWords) (name : List ℕ) (word : ℤ) (stack : List ℤ) → Fits component held
    → (target_coded (scope_of component.unit component.params).sizes (named (scope_of component.unit component.params).names name)).is_right ≡ true
    → ChangesBehind component.params (pos time ∷ pos step ∷ []) held.accepted stack (length held.words)
    (does (target_coded (scope_of component.unit component.params).sizes (named (scope_of component.unit component.params).names name)).piece
    (work_at time step (word ∷ stack) held))
    (stored (variables_of component.unit) (component.params ++ held.words) name word)
stores component time step held name word stack fits right =
    let behind : List ℤ = pos time ∷ pos step ∷ [] in
    let scope = scope_of component.unit component.params in
    subst
    (λ variables. ChangesBehind component.params behind held.accepted stack (length held.words)
    (does (target_coded scope.sizes (named scope.names name)).piece (work_at time step (word ∷ stack) held))
    (stored variables (component.params ++ held.words) name word))
    (sym (variables_are component.unit))
    (constants_change scope.sizes component.unit.params component.params (slots_from 0 (slot_variables component.unit))
    (slot_variables component.unit) held.words (held.words ++ behind) behind stack held.accepted (length held.words) name word fits.params
    (λ so. no_consts behind stack held.accepted (length held.words) _ (stored (slot_variables component.unit) held.words name word)
    (slots_change scope.sizes (slot_variables component.unit) held.words [] behind stack held.accepted 0 name word fits.words refl so))
    right)
