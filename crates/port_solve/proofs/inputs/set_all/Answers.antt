use Rattle.std.proofs.Common.{◌<◌, ◌∙◌, length}
use Rattle.port_solve.proofs.InputsSet.{all_left, one_fed}
use Rattle.port_solve.proofs.inputs.set_all.Goals as goal
use Rattle.unit_tree.specs.declared.order.InputAt.{InputAt}

pub loop-at-preserved : goal.loop-at-preserved
loop-at-preserved g c =
    let inv = c.loop-at.invariant in
    let e = c.set.ensures in
    let feeds = c.args.feeds.now in
    let within : c.loop-at.at-index < length feeds = c.loop-at-test.true in
    let default : InputAt = record { instance = 0; input = 0 } in
    let fits = (all_left _ feeds c.loop-at.at-index default within inv.fits).1 in
    record {
      inputs = one_fed _ _ _ feeds c.loop-at.at-index default within e.inputs ∙ inv.inputs;
      fits = rw e.system fits;
      states = e.states ∙ inv.states;
      system = e.system ∙ inv.system;
    }
