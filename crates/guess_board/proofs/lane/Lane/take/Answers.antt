use Rattle.std.proofs.Common.{◌∙◌, ap}
use Rattle.guess_board.specs.Journals.{next_ticket, replay_of}
use Rattle.guess_board.proofs.LaneLaws.{answers_taken}
use Rattle.guess_board.proofs.lane.Lane.take.Goals as goal

pub invariant_of-self-2 : goal.invariant_of-self-2
invariant_of-self-2 c =
    let r = c.self.inside in
    let is = c.self.invariant in
    record {
      slots = is.slots;
      line = is.line;
      chained = is.chained;
      proven = is.proven;
      answers_are = ap (λ j. (replay_of j.records).answers) c.in_ok-number.ensures.noted
          ∙ answers_taken r.journal.records (next_ticket r.journal) ∙ is.answers_are;
    }
