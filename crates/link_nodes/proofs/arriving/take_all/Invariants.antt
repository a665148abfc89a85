use Rattle.std.proofs.Common.{◌≡◌, length}
use Rattle.std.specs.Prelude.{reverse}
use Rattle.std.specs.List.{AllByRecursion}
use Rattle.link_laws.specs.Keeping.{IsHonest}
use Rattle.link_laws.specs.Making.{rule_of}
use Rattle.link_core.specs.NodeStates.{IsSameNode}
use Rattle.link_nodes.specs.ShownRows.{taken_all}
use Rattle.link_nodes.proofs.arriving.take_all.Given as goal

abbrev pub invariant-loop-fact : goal.invariant-loop-fact
invariant-loop-fact l = record {
  rest : taken_all (rule_of l.plan.run l.fn.node.owners) 1 l.node.progress (reverse l.transit.items) ≡ taken_all
      (rule_of l.plan.run l.fn.node.owners) 1 l.fn.node.progress (reverse l.fn.transit.items);
  same : IsSameNode l.fn.node l.node;
  honest : AllByRecursion (IsHonest l.plan.run) l.transit.items;
}

abbrev pub decreases-loop-fact : goal.decreases-loop-fact
decreases-loop-fact l = length l.transit.items
