use Rattle.std.proofs.Common.{◌∙◌, ◌≤◌, sym, ap, subst}
use Rattle.std.specs.Prelude.{IfSome}
use Rattle.std.specs.Result.{result_ok}
use Rattle.step_log.proofs.Agreements.{agreed_most, least_agreed}
use Rattle.step_log.proofs.negotiating.agreed.Goals as goal

pub returns-clause-least : goal.returns-clause-least
returns-clause-least c =
    c.ok.ensures.value ∙ ap result_ok c.agreed.ensures ∙ least_agreed c.args.run.now c.args.h c.requires.stands c.requires.trial

pub returns-clause-most : goal.returns-clause-most
returns-clause-most c =
    subst (λ found. IfSome found (λ least. least ≤ c.args.h)) (sym (c.ok.ensures.value ∙ ap result_ok c.agreed.ensures))
    (agreed_most c.args.run.now c.args.h c.requires.stands c.requires.trial)
