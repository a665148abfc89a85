use Rattle.std.proofs.Common.{ap, ◌∙◌, sym}
use Rattle.trace_core.specs.Runs.{RunState}
use Rattle.trace_core.specs.declared.phase.Settle.TheVariants as settle
use Rattle.trace_rows.proofs.PhaseLaws.{IsRedone, ends_already, no_row, settled_redo, settled_trial}
use Rattle.trace_rows.proofs.drive.advance.Goals as goal

pub returns-in-Ended-clause-went : goal.returns-in-Ended-clause-went
returns-in-Ended-clause-went g c =
    ends_already (g.D.Drive.state c.args.drive.now) c.in-Ended.field-0 c.requires.fresh c.requires.stands
    (ap (λ (r : RunState). r.phase) (sym c.run.ensures) ∙ sym c.phase.ensures.phase ∙ c.in-Ended.is)

pub returns-in-Row : goal.returns-in-Row
returns-in-Row g c = record {
  went =
      settled_trial (g.D.Drive.state c.args.drive.now) c.requires.stands (g.D.Drive.state c.make_steps.new.self) (g.D.Drive.state c.settle.new.self)
      settle.Row c.requires.fresh
      (λ ending is. c.in_default.not-Ended ending (c.phase.ensures.phase ∙ ap (λ (r : RunState). r.phase) c.run.ensures ∙ is))
      c.in_ok-make_steps.ensures.there c.in-Row.ensures.settled;
  stands = c.in-Row.ensures.stands;
}

pub returns-in-Ended-settle : goal.returns-in-Ended-settle
returns-in-Ended-settle g c = record {
  went =
      settled_trial (g.D.Drive.state c.args.drive.now) c.requires.stands (g.D.Drive.state c.make_steps.new.self) (g.D.Drive.state c.settle.new.self)
      settle.Ended c.requires.fresh
      (λ ending is. c.in_default.not-Ended ending (c.phase.ensures.phase ∙ ap (λ (r : RunState). r.phase) c.run.ensures ∙ is))
      c.in_ok-make_steps.ensures.there c.in-Ended-settle.ensures.settled;
  stands = c.in-Ended-settle.ensures.stands;
}

pub returns-in-Row-matches : goal.returns-in-Row-matches
returns-in-Row-matches g c =
    let redone : IsRedone (g.D.Drive.state c.args.drive.now) (g.D.Drive.state c.settle.new.self) =
    settled_trial (g.D.Drive.state c.args.drive.now) c.requires.stands (g.D.Drive.state c.make_steps.new.self) (g.D.Drive.state c.settle.new.self)
    settle.Redo c.requires.fresh
    (λ ending is. c.in_default.not-Ended ending (c.phase.ensures.phase ∙ ap (λ (r : RunState). r.phase) c.run.ensures ∙ is))
    c.in_ok-make_steps.ensures.there c.in-Redo.ensures.settled in
    record {
      went =
          settled_redo (g.D.Drive.state c.args.drive.now) c.requires.stands (g.D.Drive.state c.settle.new.self)
          (g.D.Drive.state c.make_steps-in-Redo.new.self) (g.D.Drive.state c.settle-in-Redo.new.self) settle.Row redone
          c.in_ok-make_steps-in-Redo.ensures.there c.in-Row-matches.ensures.settled;
      stands = c.in-Row-matches.ensures.stands;
    }

pub returns-in_default-matches : goal.returns-in_default-matches
returns-in_default-matches g c =
    let redone : IsRedone (g.D.Drive.state c.args.drive.now) (g.D.Drive.state c.settle.new.self) =
    settled_trial (g.D.Drive.state c.args.drive.now) c.requires.stands (g.D.Drive.state c.make_steps.new.self) (g.D.Drive.state c.settle.new.self)
    settle.Redo c.requires.fresh
    (λ ending is. c.in_default.not-Ended ending (c.phase.ensures.phase ∙ ap (λ (r : RunState). r.phase) c.run.ensures ∙ is))
    c.in_ok-make_steps.ensures.there c.in-Redo.ensures.settled in
    record {
      went =
          no_row (g.D.Drive.state c.args.drive.now) (g.D.Drive.state c.settle-in-Redo.new.self) c.settle-in-Redo.result
          (settled_redo (g.D.Drive.state c.args.drive.now) c.requires.stands (g.D.Drive.state c.settle.new.self)
          (g.D.Drive.state c.make_steps-in-Redo.new.self) (g.D.Drive.state c.settle-in-Redo.new.self) c.settle-in-Redo.result redone
          c.in_ok-make_steps-in-Redo.ensures.there c.settle-in-Redo.ensures.settled)
          c.in_default-matches.not-Row;
      stands = c.settle-in-Redo.ensures.stands;
    }
