use Rattle.std.proofs.Common.{◌≡◌, ◌∙◌, ◌<◌, ap, sym, subst, rules, w64, to_z, of_z, SFits, ℤ, length, Some}
use Rattle.std.specs.Prelude.{slice_get, IsSome}
use Rattle.std.specs.Option.{IfSome}
use Rattle.unit_exec.specs.Images.{Compiled}
use Rattle.unit_exec.specs.Showing.{Shows}
use Rattle.unit_exec.proofs.ShownStates.{slot_within, shown_word, has_output}
use Rattle.unit_vm.specs.declared.program.Program.{Program}
use Rattle.std.proofs.lemmas.Int.{to_z-of_z}
use Rattle.code_units.specs.Calls.{output_by}
use Rattle.unit_exec.specs.Running.{Running, given_word}
use Rattle.std.proofs.lemmas.Option.{slice_get-get_or}
use Rattle.unit_exec.proofs.GivenAnswers.{got}
use Rattle.unit_exec.proofs.unit.Unit.get.Goals as goal

pub returns-clause-gives : goal.returns-clause-gives
returns-clause-gives c =
    let fits : SFits w64 c.result.result = search rules in
    let same : to_z w64 (of_z w64 c.result.result) ≡ c.result.result = to_z-of_z w64 c.result.result fits in
    sym (ap (λ (u : Running). output_by u.image.program u.state u.inputs c.args.output) c.self.view_is)
    ∙ got c.self.inside.image.value c.self.inside.frame.facts c.self.invariant.made c.code.result.now
    (c.code.ensures
    ∙ ap
    (λ i. i.program) c.deref-image.ensures) c.self.inside.state.items c.self.inside.inputs.items c.as_slice.result.now c.as_slice-2.result.now
    c.as_slice.ensures.value c.as_slice-2.ensures.value c.self.inside.frame c.run_on.new.frame c.in_ok-run_on.field-0 c.args.output
    c.in_ok-run_on.ensures.runs
    (to_z w64 (of_z w64 c.result.result)) (same ∙ c.result.ensures)

pub index-requires : goal.index-requires
index-requires c =
    let there = subst (λ (u : Running). c.args.output < length u.image.program.outputs) (sym c.self.view_is) c.requires in
    let shows =
    subst (λ (i : Compiled). Shows i.program c.args.output (c.in-Some.slot, c.in-Some.ty)) c.deref-image.ensures
    (subst (λ o. IfSome o (Shows c.deref-image.result.now.program c.args.output)) c.in-Some.is c.shown.ensures) in
    subst (λ count. c.in-Some.slot < count) (sym c.self.inside.state.ok.0)
    (slot_within c.self.inside.image.value.program c.self.inside.state.items c.self.inside.inputs.items c.args.output
    (c.in-Some.slot, c.in-Some.ty) there c.self.invariant.each_state shows)

pub returns-in-Some-clause-gives : goal.returns-in-Some-clause-gives
returns-in-Some-clause-gives c =
    let there = subst (λ (u : Running). c.args.output < length u.image.program.outputs) (sym c.self.view_is) c.requires in
    let shows =
    subst (λ (i : Compiled). Shows i.program c.args.output (c.in-Some.slot, c.in-Some.ty)) c.deref-image.ensures
    (subst (λ o. IfSome o (Shows c.deref-image.result.now.program c.args.output)) c.in-Some.is c.shown.ensures) in
    let word : ℤ = c.index.result.now in
    let fits : SFits w64 c.index.result.now = search rules in
    let within =
    slot_within c.self.inside.image.value.program c.self.inside.state.items c.self.inside.inputs.items c.args.output
    (c.in-Some.slot, c.in-Some.ty) there c.self.invariant.each_state shows in
    sym (ap (λ (u : Running). output_by u.image.program u.state u.inputs c.args.output) c.self.view_is)
    ∙ shown_word c.self.inside.image.value.program c.self.inside.state.items c.self.inside.inputs.items c.args.output
    (c.in-Some.slot, c.in-Some.ty) there c.self.invariant.each_state shows word
    (slice_get-get_or c.self.inside.state.items c.in-Some.slot word within ∙ ap Some (sym c.index.ensures))
    ∙ ap Some (ap (given_word c.in-Some.ty) (sym (to_z-of_z w64 c.index.result.now fits)) ∙ sym c.given.ensures)

pub run_on-requires-clause-entry : goal.run_on-requires-clause-entry
run_on-requires-clause-entry c =
    let there = subst (λ (u : Running). c.args.output < length u.image.program.outputs) (sym c.self.view_is) c.requires in
    subst (λ (program : Program). IsSome (slice_get program.outputs c.args.output))
    (sym (c.code.ensures ∙ ap (λ (i : Compiled). i.program) c.deref-image.ensures))
    (has_output c.self.inside.image.value.program c.args.output there)
