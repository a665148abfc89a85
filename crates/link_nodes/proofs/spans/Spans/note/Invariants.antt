use Rattle.std.proofs.Common.{◌≤◌, length, take}
use Rattle.link_nodes.specs.ShownRows.{AreNoted}
use Rattle.link_nodes.proofs.spans.Spans.note.Given as goal

abbrev pub invariant-loop-place : goal.invariant-loop-place
invariant-loop-place l = record {
  most : l.place ≤ length l.facts;
  noted : AreNoted l.self.rows.items (take l.place l.facts);
}
