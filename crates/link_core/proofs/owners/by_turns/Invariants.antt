use Rattle.std.proofs.Common.{◌≡◌, ◌≤◌}
use Rattle.link_laws.specs.Nodes.{by_turns}
use Rattle.link_core.proofs.owners.by_turns.Given as goal

abbrev pub invariant-loop-instance : goal.invariant-loop-instance
invariant-loop-instance l = record {
  bound : l.instance ≤ l.instance-end;
  made : l.owners ≡ by_turns l.instance;
}
