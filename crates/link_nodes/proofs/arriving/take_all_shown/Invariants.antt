use Rattle.std.proofs.Common.{◌≡◌, Ok, length}
use Rattle.std.specs.Prelude.{reverse}
use Rattle.std.specs.List.{AllByRecursion}
use Rattle.link_laws.specs.Keeping.{IsHonest}
use Rattle.link_laws.specs.Making.{rule_of}
use Rattle.link_core.specs.NodeStates.{IsSameNode}
use Rattle.link_nodes.specs.ShownRows.{ComesTo, taken_all}
use Rattle.link_nodes.proofs.arriving.take_all_shown.Given as goal

abbrev pub invariant-loop-fact : goal.invariant-loop-fact
invariant-loop-fact g l = record {
  rest : taken_all (rule_of l.plan.run l.fn.node.owners) 0 l.node.progress (reverse l.transit.items) ≡ taken_all
      (rule_of l.plan.run l.fn.node.owners) 0 l.fn.node.progress (reverse l.fn.transit.items);
  same : IsSameNode l.fn.node l.node;
  honest : AllByRecursion (IsHonest l.plan.run) l.transit.items;
  comes : ComesTo {T = Unit {0}} l.plan l.fn.node.progress l.node.progress l.node.progress (g.O.Sink.held l.fn.out) (g.O.Sink.held l.out)
      (g.O.Sink.faults l.fn.out) (g.O.Sink.faults l.out) (Ok tt);
}

abbrev pub decreases-loop-fact : goal.decreases-loop-fact
decreases-loop-fact g l = length l.transit.items
