use Rattle.std.proofs.Common.{◌∙◌, ◌+◌, ◌≤◌, sym, subst, arith}
use Rattle.std.proofs.lemmas.Bool.{true≢false}
use Rattle.trace_rows.specs.Passing.{IsFilled}
use Rattle.trace_rows.proofs.Filling.{Filling, all_there, filling_none, fills, leaves}
use Rattle.work_crew.proofs.coordinator.fill_all.Goals as goal
use Rattle.work_crew.proofs.coordinator.fill_all.Goals.{then-is_wanted, else-is_wanted}

pub loop-instance-init : goal.loop-instance-init
loop-instance-init g c = filling_none c.args.run.now

pub loop-instance-preserved : goal.loop-instance-preserved
loop-instance-preserved g c =
    elim c.if-is_wanted.branch [
      | then-is_wanted w ↦
          fills c.args.run.now c.loop-instance.run c.if-is_wanted.run c.loop-instance.instance c.loop-instance.invariant (omega arith)
          (c.is_wanted.ensures.0 w.if-is_wanted.true)
          (subst (IsFilled c.loop-instance.run c.loop-instance.instance) (sym w.run-is) w.fill.ensures)
      | else-is_wanted w ↦
          subst (λ now. Filling c.args.run.now now (c.loop-instance.instance + 1)) (sym w.run-is)
          (leaves c.args.run.now c.loop-instance.run c.loop-instance.instance c.loop-instance.invariant (omega arith)
          (λ wanted. true≢false (sym (c.is_wanted.ensures.1 wanted) ∙ w.if-is_wanted.false)))
    ]

pub returns : goal.returns
returns g c =
    all_there c.args.run.now c.loop-instance.run c.loop-instance.instance c.loop-instance.invariant
    (subst (λ count. count ≤ c.loop-instance.instance) c.requires c.loop-instance-test.false)
