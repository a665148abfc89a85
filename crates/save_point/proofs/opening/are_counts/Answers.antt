use Rattle.std.proofs.Common.{refl, sym, arith}
use Rattle.save_point.proofs.CountLaws.{as_many, counts_all, counts_differ, counts_next, states_long}
use Rattle.save_point.proofs.opening.are_counts.Goals as goal

pub returns-then-counts-instances : goal.returns-then-counts-instances
returns-then-counts-instances c = (
  λ is. absurd (cc),
  λ same. absurd (c.if-counts-instances.true (as_many c.args.run.now c.args.counts.now c.args.instances c.phase.ensures.stands c.requires same)),
)

pub returns-then-state-counts : goal.returns-then-state-counts
returns-then-state-counts c = (
  λ is. absurd (cc),
  λ same. absurd
      (c.if-state-counts.true
      (sym
      (counts_differ c.args.counts.now c.args.run.now.stand.at.states c.loop-instance.instance c.state.result.now c.state.ensures same))),
)

pub loop-instance-preserved : goal.loop-instance-preserved
loop-instance-preserved c =
    counts_next c.args.counts.now c.args.run.now.stand.at.states c.loop-instance.instance c.state.result.now
    (omega (arith, c.loop-instance-test.true, c.if-counts-instances.false)) c.loop-instance.invariant c.state.ensures c.if-state-counts.false

pub returns : goal.returns
returns c =
    let long = states_long c.args.run.now c.phase.ensures.stands in (
      λ yes.
          counts_all c.args.counts.now c.args.run.now.stand.at.states c.loop-instance.instance
          (omega (arith, c.loop-instance-test.false, c.if-counts-instances.false)) (omega (arith, c.loop-instance-test.false, c.requires, long))
          c.loop-instance.invariant,
      λ same. refl,
    )
