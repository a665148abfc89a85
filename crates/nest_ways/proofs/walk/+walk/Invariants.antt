use Rattle.std.proofs.Common.{◌+◌, ◌*◌, take, true}
use Rattle.nest_ways.specs.Reaching.{lines_of}
use Rattle.nest_ways.specs.Walking.{WalksOn}
use Rattle.nest_ways.proofs.walk.+walk.Given as goal

abbrev pub decreases-walk_inside : goal.decreases-walk_inside
decreases-walk_inside l = 5 * l.inlet.input

abbrev pub decreases-walk_step : goal.decreases-walk_step
decreases-walk_step l = 5 * l.inlet.input + 1

abbrev pub decreases-walk_steps : goal.decreases-walk_steps
decreases-walk_steps l = 5 * l.inlet.input + 2

abbrev pub decreases-walk_known : goal.decreases-walk_known
decreases-walk_known l = 5 * l.inlet.input + 3

abbrev pub decreases-walk_inlet : goal.decreases-walk_inlet
decreases-walk_inlet l = 5 * l.inlet.input + 4

abbrev pub invariant-walk_steps-loop-place : goal.invariant-walk_steps-loop-place
invariant-walk_steps-loop-place l =
    WalksOn l.start.names.now l.start.ways.now.scopes l.start.ways.now.group_scopes l.start.ways.now.kept_sets l.start.ways.now.known.items l.start.base l.inlet.scope l.known l.initial.walk l.walk true
    (take l.place (lines_of l.start.names.now l.known.group l.known.port.now))
