use Rattle.std.proofs.Common.{Some, subst, sym}
use Rattle.std.specs.Prelude.{IfOk, OnErr}
use Rattle.trace_rows.specs.Reports.{AppendsTracePrefix, ReportsTrace}
use Rattle.trace_verify.specs.Comparing.{Begins, Compared, all_held, text_put}
use Rattle.trace_verify.specs.TraceLines.{lines_text}
use Rattle.trace_verify.proofs.VerifyLaws.{plan_once, plan_ranged, verdict_is}
use Rattle.trace_verify.proofs.verifying.verify.Goals as goal

pub returns : goal.returns
returns c =
    let plan = c.args.plan.value in
    let put = c.run_alone.new.out in
    verdict_is plan.system c.args.table.now put c.run_alone.result
    (plan_ranged plan c.deref.result.now c.checked.result.now c.deref.ensures c.checked.ensures.system c.system.ensures.ranged)
    (plan_once plan c.deref.result.now c.deref-3.result.now c.order.result.now c.deref.ensures c.deref-3.ensures c.checked.ensures.run c.order.ensures)
    (subst (λ (old : Compared). IfOk c.run_alone.result (ReportsTrace plan.system (Some (all_held old)) (Some (all_held put)))) c.new-comparison.ensures c.run_alone.ensures.whole)
    (subst (λ (old : Compared). OnErr c.run_alone.result (AppendsTracePrefix plan.system (Some (all_held old)) (Some (all_held put)))) c.new-comparison.ensures c.run_alone.ensures.front)
    c.verdict.result
    (λ lines are begins. c.verdict.ensures lines are (subst (λ b. Begins b (text_put put) (lines_text lines)) (sym c.is_ok-whole.ensures.value) begins))
