use Rattle.list_laws.proofs.Truths.{true_is_false}
use Rattle.trace_core.proofs.FitLaws.{may_be_opened}
use Rattle.trace_core.proofs.opening_at.may_open.Goals as goal

pub returns-then-row-row_limit-clause-may_not : goal.returns-then-row-row_limit-clause-may_not
returns-then-row-row_limit-clause-may_not c = λ not at fits.
    let may = may_be_opened c.args.plan.now.run c.args.row c.args.point c.args.words.now at fits in
    true_is_false c.are_state_words.result (c.are_state_words.ensures.1 may.each) not
