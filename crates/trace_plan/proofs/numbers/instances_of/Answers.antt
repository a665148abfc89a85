use Rattle.std.proofs.Common.{◌≡◌, ◌≤◌, ◌<◌, ◌∙◌, ap, arith, length, sym}
use Rattle.unit_tree.specs.declared.system.System.{System}
use Rattle.trace_plan.proofs.PlainRuns.{member_count}
use Rattle.trace_plan.proofs.SystemLines.{few_instances}
use Rattle.trace_plan.proofs.numbers.instances_of.Goals as goal

pub overflow_cast-result : goal.overflow_cast-result
overflow_cast-result c =
    let few = few_instances c.args.checked.now c.system.ensures.well_formed in
    let count = c.len.ensures ∙ ap (λ (s : System). length s.instances) c.source.ensures in
    omega (arith, few, count)

pub returns : goal.returns
returns c =
    c.len.ensures
    ∙ ap (λ (s : System). length s.instances) c.source.ensures
    ∙ sym (member_count c.args.checked.now c.system.ensures.ranged c.system.ensures.well_formed)
