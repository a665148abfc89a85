use Rattle.std.proofs.Common.{◌∙◌, ap}
use Rattle.guess_board.specs.Journals.{replay_of}
use Rattle.guess_board.proofs.LaneLaws.{answers_backed}
use Rattle.guess_board.proofs.lane.Lane.back.Goals as goal

pub invariant_of-self : goal.invariant_of-self
invariant_of-self c =
    let r = c.self.inside in
    let is = c.self.invariant in
    record {
      slots = is.slots;
      line = is.line;
      chained = is.chained;
      proven = is.proven;
      answers_are = ap (λ j. (replay_of j.records).answers) c.give_back.ensures ∙ answers_backed r.journal.records c.number.result ∙ is.answers_are;
    }
