use Rattle.std.proofs.Common.{ap, map}
use Rattle.wire_graph.specs.Origins.{wired_input, member_behind}
use Rattle.wire_graph.proofs.RoutingLaws.{routes_step, starts_step}
use Rattle.wire_graph.proofs.routing.follow_all.Goals as goal

pub loop-instance-preserved : goal.loop-instance-preserved
loop-instance-preserved c =
    let inputs_are = ap (map wired_input) c.deref.ensures.value in
    let within = c.loop-instance-test.true in (
      routes_step member_behind c.args.members.now c.loop-instance.instance c.in_ok-number.field-0 c.index-members-instance.result _ within
          c.index-members-instance.is c.in_ok-number.ensures inputs_are _ _ _ c.in_ok-follow_inputs.ensures.routes c.loop-instance.invariant.0,
      starts_step member_behind c.args.members.now c.loop-instance.instance c.in_ok-number.field-0 c.index-members-instance.result _ within
          c.index-members-instance.is c.in_ok-number.ensures inputs_are _ _ _ c.in_ok-follow_inputs.ensures.starts c.loop-instance.invariant.1,
    )
