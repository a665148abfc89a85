use Rattle.std.proofs.Common.{◌∙◌, ap, arith, sym}
use Rattle.spec_core.proofs.CourseRounds.{as_many, ended_already, first_most, goes_anew, one_to_end, one_to_row, two_to_end, two_to_row}
use Rattle.spec_core.proofs.rounds.advance.Goals as goal
use Rattle.trace_core.specs.Runs.{RunState}

pub returns-in-Ended : goal.returns-in-Ended
returns-in-Ended c =
    ended_already c.args.workers c.args.course.now c.in-Ended.field-0 c.facts.ensures c.requires.fresh c.requires.few
    (sym (ap (λ (r : RunState). r.phase) c.run.ensures) ∙ sym c.phase.ensures.phase ∙ c.in-Ended.is)

-- ---- One round

pub returns-in-Row : goal.returns-in-Row
returns-in-Row c =
    one_to_row c.args.workers c.args.course.now c.requires.workers c.facts.ensures c.requires.fresh
    (λ ending is. c.in_default.not-Ended ending (c.phase.ensures.phase ∙ ap (λ (r : RunState). r.phase) c.run.ensures ∙ is))
    c.in_ok-make_round.field-0 c.make_round.new.course c.in-Row.is c.in_ok-make_round.ensures

pub returns-in-Ended-2 : goal.returns-in-Ended-2
returns-in-Ended-2 c =
    one_to_end c.args.workers c.args.course.now c.requires.workers c.facts.ensures c.requires.fresh
    (λ ending is. c.in_default.not-Ended ending (c.phase.ensures.phase ∙ ap (λ (r : RunState). r.phase) c.run.ensures ∙ is))
    c.in_ok-make_round.field-0 c.make_round.new.course c.in-Ended-2.is c.in_ok-make_round.ensures

-- ---- Two rounds

pub make_round-requires-in-Redo : goal.make_round-requires-in-Redo
make_round-requires-in-Redo c =
    let most = first_most c.args.workers c.args.course.now c.requires.workers c.facts.ensures c.requires.fresh
    (λ ending is. c.in_default.not-Ended ending (c.phase.ensures.phase ∙ ap (λ (r : RunState). r.phase) c.run.ensures ∙ is))
    c.make_round.new.course c.in_ok-make_round.field-0 c.in-Redo.is c.in_ok-make_round.ensures c.facts-in-Redo.ensures in
    let room = c.requires.room in
    record {
      workers = c.requires.workers;
      instances = c.requires.instances
          ∙ as_many c.args.workers c.args.course.now c.requires.workers c.facts.ensures c.requires.fresh
          (λ ending is. c.in_default.not-Ended ending (c.phase.ensures.phase ∙ ap (λ (r : RunState). r.phase) c.run.ensures ∙ is))
          c.make_round.new.course c.in_ok-make_round.field-0 c.in-Redo.is c.in_ok-make_round.ensures c.facts-in-Redo.ensures;
      going = goes_anew c.args.workers c.args.course.now c.requires.workers c.facts.ensures c.requires.fresh
          (λ ending is. c.in_default.not-Ended ending (c.phase.ensures.phase ∙ ap (λ (r : RunState). r.phase) c.run.ensures ∙ is))
          c.make_round.new.course c.in_ok-make_round.field-0 c.in-Redo.is c.in_ok-make_round.ensures c.facts-in-Redo.ensures;
      few = c.in_ok-make_round.ensures.few;
      room = omega (arith, most, room);
    }

pub returns-in-Row-matches : goal.returns-in-Row-matches
returns-in-Row-matches c =
    two_to_row c.args.workers c.args.course.now c.requires.workers c.facts.ensures c.requires.fresh
    (λ ending is. c.in_default.not-Ended ending (c.phase.ensures.phase ∙ ap (λ (r : RunState). r.phase) c.run.ensures ∙ is))
    c.make_round.new.course c.in_ok-make_round.field-0 c.in-Redo.is c.in_ok-make_round.ensures c.facts-in-Redo.ensures
    c.in_ok-second-in-Redo.second c.make_round-in-Redo.new.course c.in-Row-matches.is c.in_ok-second-in-Redo.ensures

pub returns-in_default-matches : goal.returns-in_default-matches
returns-in_default-matches c =
    two_to_end c.args.workers c.args.course.now c.requires.workers c.facts.ensures c.requires.fresh
    (λ ending is. c.in_default.not-Ended ending (c.phase.ensures.phase ∙ ap (λ (r : RunState). r.phase) c.run.ensures ∙ is))
    c.make_round.new.course c.in_ok-make_round.field-0 c.in-Redo.is c.in_ok-make_round.ensures c.facts-in-Redo.ensures
    c.in_ok-second-in-Redo.second c.make_round-in-Redo.new.course c.in_default-matches.not-Row c.in_ok-second-in-Redo.ensures
