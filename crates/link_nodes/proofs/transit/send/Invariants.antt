use Rattle.link_nodes.proofs.SendLaws.{Sending}
use Rattle.link_nodes.proofs.transit.send.Given as goal

abbrev pub invariant-loop-place : goal.invariant-loop-place
invariant-loop-place l = record {
  sending : Sending l.round.seed l.round.number l.row l.facts l.transit.items l.place;
}
