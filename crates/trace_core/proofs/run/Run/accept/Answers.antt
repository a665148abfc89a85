use Rattle.std.proofs.Common.{◌∙◌, ap, subst}
use Rattle.trace_core.proofs.AcceptLaws.{answer_to}
use Rattle.unit_exec.specs.Images.{Compiled}
use Rattle.unit_vm.specs.Valid.{HasFacts}
use Rattle.trace_core.proofs.run.Run.accept.Goals as goal

pub fill-requires-clause-answers : goal.fill-requires-clause-answers
fill-requires-clause-answers c =
    let valid =
    subst (λ program. HasFacts program c.facts.result) (c.code.ensures ∙ ap (λ (image : Compiled). image.program) c.deref.ensures) c.facts.ensures in
    answer_to c.args.self.now c.args.instance c.args.answer.now c.in-Some.want c.facts.result c.in-Some.ensures.want
    (c.same_key.ensures.0 c.if-not-same_key.false) valid
