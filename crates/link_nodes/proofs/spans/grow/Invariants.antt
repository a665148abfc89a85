use Rattle.std.proofs.Common.{◌≡◌, ◌+◌, ◌-◌, List, length}
use Rattle.link_laws.specs.declared.fact.Fact.{Fact}
use Rattle.link_nodes.specs.ShownRows.{AreNoted}
use Rattle.link_nodes.proofs.spans.grow.Given as goal

abbrev pub invariant-loop-rows : goal.invariant-loop-rows
invariant-loop-rows l = record {
  noted : (facts : List Fact) → length facts ≡ l.place → AreNoted l.fn.rows.items facts → AreNoted l.rows.items facts;
}

abbrev pub decreases-loop-rows : goal.decreases-loop-rows
decreases-loop-rows l = l.row + 1 - length l.rows.items
