use Rattle.std.proofs.Common.{◌≡◌, ℕ, zero, suc, ◌+◌, ◌-◌, ◌<◌, ◌≤◌, ◌/◌, length, List, [], ◌∷◌, Some, None, refl, sym, ap, subst, ◌∙◌, arith}
use Rattle.std.specs.Prelude.{slice_get, slice_index_or}
use Rattle.std.specs.Option.{option_copied}
use Rattle.unit_tree.specs.declared.unit.Output.{Output}
use Rattle.cosim_answers.proofs.OutputNames.{event_name, plain_name, name_behind}
use Rattle.cosim_notes.proofs.notes.name_in.Goals as goal

element : {A : Type 0} (xs : List A) (k : ℕ) (default : A) → k < length xs → slice_get xs k ≡ Some (slice_index_or xs k default)
element [] k default within = absurd (omega (arith, within))
element (x ∷ xs) zero default within = refl
element (x ∷ xs) (suc k) default within = element xs k default (omega (arith, within))

rest_of : (number count : ℕ) → count ≤ number → number ≡ count + (number - count)
rest_of number count most = omega (arith, most)

pub returns-then-number-plain : goal.returns-then-number-plain
returns-then-number-plain c =
    let within : c.args.number < length c.args.unit.now.outputs =
    subst (λ (outputs : List Output). c.args.number < length outputs) c.as_slice-plain.ensures c.if-number-plain.true in
    c.as_slice.ensures
    ∙ ap (λ (outputs : List Output). (slice_index_or outputs c.args.number c.index-plain-number.result).name) c.as_slice-plain.ensures
    ∙ sym (plain_name c.args.unit.now.outputs c.args.unit.now.events_out c.args.number
    (slice_index_or c.args.unit.now.outputs c.args.number c.index-plain-number.result)
    (element c.args.unit.now.outputs c.args.number c.index-plain-number.result within))

pub returns-in-Some : goal.returns-in-Some
returns-in-Some c =
    let same : length c.as_slice-plain.result.now ≡ length c.args.unit.now.outputs = ap length c.as_slice-plain.ensures in
    let behind = c.args.number - length c.as_slice-plain.result.now in
    let is : c.args.number ≡ length c.args.unit.now.outputs + behind =
    rest_of c.args.number (length c.as_slice-plain.result.now) c.if-number-plain.false ∙ ap (λ n. n + behind) same in
    let there : slice_get c.args.unit.now.events_out (behind / 2) ≡ Some c.in-Some.event.now =
    sym (sym (ap option_copied c.in-Some.is) ∙ c.get.ensures.value) in
    c.as_slice-in-Some.ensures
    ∙ sym (name_behind c.args.unit.now.outputs c.args.unit.now.events_out c.args.number behind is ∙ ap event_name there)

pub returns-in-None : goal.returns-in-None
returns-in-None c =
    let same : length c.as_slice-plain.result.now ≡ length c.args.unit.now.outputs = ap length c.as_slice-plain.ensures in
    let behind = c.args.number - length c.as_slice-plain.result.now in
    let is : c.args.number ≡ length c.args.unit.now.outputs + behind =
    rest_of c.args.number (length c.as_slice-plain.result.now) c.if-number-plain.false ∙ ap (λ n. n + behind) same in
    let none : slice_get c.args.unit.now.events_out (behind / 2) ≡ None = sym (sym (ap option_copied c.in-None.is) ∙ c.get.ensures.value) in
    sym (name_behind c.args.unit.now.outputs c.args.unit.now.events_out c.args.number behind is ∙ ap event_name none)
