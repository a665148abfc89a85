-- Names in slots that follow one another, list after list.
use Rattle.std.proofs.Common.{◌≡◌, ℕ, suc, ◌+◌, ℤ, List, [], ◌∷◌, ◌++◌, map, length, append_assoc, sym, ap, ◌∙◌, arith}
use Rattle.std.proofs.lemmas.List.{length-map}
use Rattle.code_units.specs.Scopes.{constants, slots_from, slot_variables, scope_of}
use Rattle.code_units.specs.declared.scope.Named.{Named}
use Rattle.code_units.specs.declared.scope.NamePlace.TheVariants.{Slot}
use Rattle.code_units.specs.declared.scope.CodeScope.{CodeScope}
use Rattle.code_units.proofs.FitUnits.{slots_count}
use Rattle.unit_tree.specs.Components.{variable}
use Rattle.unit_tree.specs.declared.environment.Variable.{Variable}
use Rattle.unit_tree.specs.declared.unit.Unit.{Unit}

pub slots_behind : (slot : ℕ) (xs ys : List Variable) → slots_from slot (xs ++ ys) ≡ slots_from slot xs ++ slots_from (slot + length xs) ys
slots_behind slot [] ys = let same : slot ≡ slot + 0 = omega arith in ap (λ n. slots_from n ys) same
slots_behind slot (x ∷ xs) ys =
    let further : suc slot + length xs ≡ slot + suc (length xs) = omega arith in
    ap (λ rest. record { name = x.name; ty = x.ty; place = Slot slot } ∷ rest)
    (slots_behind (suc slot) xs ys ∙ ap (λ n. slots_from (suc slot) xs ++ slots_from n ys) further)

-- The scope of a unit is made list by list.
pub scope_made : (unit : Unit) (params : List ℤ) (a b c d : List Named) (states inputs locals : ℕ) → states ≡ length unit.states → inputs ≡ length unit.inputs
    → locals ≡ length unit.locals → a ≡ constants unit.params params → b ≡ a ++ slots_from 0 (map (λ state. variable state.name state.ty) unit.states)
    → c ≡ b ++ slots_from states (map (λ input. variable input.name input.ty) unit.inputs)
    → d ≡ c ++ slots_from (states + inputs) (map (λ local. variable local.name local.ty) unit.locals)
    → let made : CodeScope =
    record {
      names = d;
      sizes = record { states = states; inputs = inputs; locals = locals };
      time = states + inputs + locals;
      step =
          states + inputs + locals + 1;
    } in
    made ≡ scope_of unit params
scope_made unit params a b c d states inputs locals is_states is_inputs is_locals is_a is_b is_c is_d =
    let xs : List Variable = map (λ state. variable state.name state.ty) unit.states in
    let ys : List Variable = map (λ input. variable input.name input.ty) unit.inputs in
    let zs : List Variable = map (λ local. variable local.name local.ty) unit.locals in
    let first : length xs ≡ states = length-map unit.states (λ state. variable state.name state.ty) ∙ sym is_states in
    let second : length ys ≡ inputs = length-map unit.inputs (λ input. variable input.name input.ty) ∙ sym is_inputs in
    let split : slots_from 0 (xs ++ (ys ++ zs)) ≡ slots_from 0 xs ++ (slots_from states ys ++ slots_from (states + inputs) zs) =
    slots_behind 0 xs (ys ++ zs)
    ∙ ap (λ n. slots_from 0 xs ++ slots_from n (ys ++ zs)) (let g : 0 + length xs ≡ states = omega arith in g)
    ∙ ap (λ rest. slots_from 0 xs ++ rest) (slots_behind states ys zs ∙ ap (λ n. slots_from states ys ++ slots_from (states + n) zs) second) in
    let whole : d ≡ constants unit.params params ++ slots_from 0 (xs ++ (ys ++ zs)) =
    is_d
    ∙ ap (λ x. x ++ slots_from (states + inputs) zs) (is_c ∙ ap (λ x. x ++ slots_from states ys) (is_b ∙ ap (λ x. x ++ slots_from 0 xs) is_a))
    ∙ append_assoc (constants unit.params params ++ slots_from 0 xs) (slots_from states ys) (slots_from (states + inputs) zs)
    ∙ append_assoc (constants unit.params params) (slots_from 0 xs) (slots_from states ys ++ slots_from (states + inputs) zs)
    ∙ ap (λ x. constants unit.params params ++ x) (sym split) in
    let count : length (slot_variables unit) ≡ length unit.states + length unit.inputs + length unit.locals = slots_count unit in
    let time : states + inputs + locals ≡ length (slot_variables unit) = omega arith in
    let step : states + inputs + locals + 1 ≡ suc (length (slot_variables unit)) = omega arith in
    cc (whole, time, step, is_states, is_inputs, is_locals)
