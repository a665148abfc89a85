use Rattle.std.proofs.Common.{Some, take}
use Rattle.nest_names.specs.Tables.{items_at}
use Rattle.nest_ways.specs.Reaching.{AreSteps, ins_of}
use Rattle.nest_ways.proofs.steps.steps_of.Given as goal

abbrev pub invariant-loop-line : goal.invariant-loop-line
invariant-loop-line l =
    AreSteps l.names l.scopes l.known l.group l.height l.steps.items (items_at (ins_of l.names (Some l.group)) (take l.line-index l.line-items))
