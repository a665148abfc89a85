use Rattle.std.proofs.Common.{◌≡◌, ◌∙◌, true, not, is_some, ap, sym, rules, w64, to_z, of_z, SFits}
use Rattle.std.specs.Prelude.{unsigned_abs}
use Rattle.std.proofs.lemmas.Int.{to_z-of_z}
use Rattle.code_units.specs.Calls.{greatest_step_by}
use Rattle.unit_exec.specs.Images.{Compiled}
use Rattle.unit_exec.specs.Running.{Running}
use Rattle.unit_exec.proofs.GivenAnswers.{limited}
use Rattle.unit_vm.specs.declared.program.Program.{Program}
use Rattle.unit_exec.proofs.unit.Unit.max_step.Goals as goal

pub returns-clause-gives : goal.returns-clause-gives
returns-clause-gives c =
    let fits : SFits w64 c.result.result = search rules in
    let same : to_z w64 (of_z w64 c.result.result) ≡ c.result.result = to_z-of_z w64 c.result.result fits in
    let image_is : c.deref-image.result.now ≡ c.self.inside.image.value = c.deref-image.ensures in
    let there : is_some c.self.inside.image.value.program.limit ≡ true =
    ap (λ (i : Compiled). is_some i.program.limit) (sym image_is) ∙ ap (λ (p : Program). is_some p.limit) (sym (c.program.ensures ∙ c.code.ensures))
    ∙ c.is_none.ensures ∙ ap not c.if-is_none.false in
    sym (ap (λ (u : Running). greatest_step_by u.image.program u.state u.inputs c.args.t) c.self.view_is)
    ∙ limited c.self.inside.image.value c.self.inside.frame.facts c.self.invariant.made c.code-2.result.now
    (c.code-2.ensures
    ∙ ap (λ (i : Compiled).
    i.program) image_is) c.self.inside.state.items c.self.inside.inputs.items c.as_slice.result.now c.as_slice-2.result.now c.as_slice.ensures.value
    c.as_slice-2.ensures.value c.self.inside.frame c.run_on.new.frame c.in_ok-run_on.field-0 c.args.t there c.in_ok-run_on.ensures.runs
    c.unsigned_abs.result
    (c.unsigned_abs.ensures.value ∙ ap unsigned_abs (same ∙ c.result.ensures))
