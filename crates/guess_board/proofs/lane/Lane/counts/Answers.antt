use Rattle.std.proofs.Common.{ap, arith}
use Rattle.guess_board.proofs.JournalLaws.{next_small}
use Rattle.guess_board.proofs.lane.Lane.counts.Goals as goal

pub returns-clause-tickets : goal.returns-clause-tickets
returns-clause-tickets c =
    let small = next_small c.self.inside.journal c.facts.ensures in
    let same = ap (λ n. n.tickets) c.counts.ensures in
    omega arith
