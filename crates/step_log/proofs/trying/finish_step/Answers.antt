use Rattle.trace_core.specs.declared.phase.Settle.TheVariants as settle
use Rattle.trace_rows.proofs.PhaseLaws.{IsRedone, no_row, settled_redo, settled_trial}
use Rattle.std.proofs.Common.{◌∙◌}
use Rattle.step_log.proofs.StepLists.{not_ended, settled_alone}
use Rattle.step_log.proofs.trying.finish_step.Goals as goal

pub returns-in-Row-clause-went : goal.returns-in-Row-clause-went
returns-in-Row-clause-went c = λ r stands fresh going there.
    settled_trial r stands c.args.run.now c.settle.new.self settle.Row fresh (not_ended r going) there c.in-Row.ensures.settled

pub returns-in-Row-clause-alone : goal.returns-in-Row-clause-alone
returns-in-Row-clause-alone c = settled_alone c.args.run.now c.settle.new.self settle.Row c.in-Row.ensures.settled

pub returns-in-Ended-clause-alone : goal.returns-in-Ended-clause-alone
returns-in-Ended-clause-alone c = settled_alone c.args.run.now c.settle.new.self settle.Ended c.in-Ended.ensures.settled

pub returns-in-Row-matches-clause-alone : goal.returns-in-Row-matches-clause-alone
returns-in-Row-matches-clause-alone c =
    settled_alone c.step_all.new.run c.settle-in-Redo.new.self settle.Row c.in-Row-matches.ensures.settled ∙ c.step_all.ensures.alone
    ∙ settled_alone c.args.run.now c.settle.new.self settle.Redo c.in-Redo.ensures.settled

pub returns-in-Ended-clause-went : goal.returns-in-Ended-clause-went
returns-in-Ended-clause-went c = λ r stands fresh going there.
    settled_trial r stands c.args.run.now c.settle.new.self settle.Ended fresh (not_ended r going) there c.in-Ended.ensures.settled

pub returns-in-Row-matches-clause-went : goal.returns-in-Row-matches-clause-went
returns-in-Row-matches-clause-went c = λ r stands fresh going there.
    let redone : IsRedone r c.settle.new.self =
    settled_trial r stands c.args.run.now c.settle.new.self settle.Redo fresh (not_ended r going) there c.in-Redo.ensures.settled in
    settled_redo r stands c.settle.new.self c.step_all.new.run c.settle-in-Redo.new.self settle.Row redone c.step_all.ensures.there
    c.in-Row-matches.ensures.settled

pub returns-in_default : goal.returns-in_default
returns-in_default c = record {
  went = λ r stands fresh going there.
      let redone : IsRedone r c.settle.new.self =
      settled_trial r stands c.args.run.now c.settle.new.self settle.Redo fresh (not_ended r going) there c.in-Redo.ensures.settled in
      no_row r c.settle-in-Redo.new.self c.settle-in-Redo.result
      (settled_redo r stands c.settle.new.self c.step_all.new.run c.settle-in-Redo.new.self c.settle-in-Redo.result redone c.step_all.ensures.there
      c.settle-in-Redo.ensures.settled) c.in_default.not-Row;
  stands = c.settle-in-Redo.ensures.stands;
  alone = settled_alone c.step_all.new.run c.settle-in-Redo.new.self c.settle-in-Redo.result c.settle-in-Redo.ensures.settled
      ∙ c.step_all.ensures.alone ∙ settled_alone c.args.run.now c.settle.new.self settle.Redo c.in-Redo.ensures.settled;
}
