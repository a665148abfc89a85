use Rattle.std.proofs.Common.{◌≡◌, ◌∙◌, true, is_some, map, zip, Ok, Err, ap, sym}
use Rattle.std.specs.List.{filter_map, list_all}
use Rattle.link_core.specs.Noted.{place_of}
use Rattle.link_laws.specs.Stages.{limit_in, max_by, stage_of_trial}
use Rattle.link_core.proofs.StageBodies.{over_by, trial_by}
use Rattle.link_core.proofs.stage.stage_of_limits.Goals as goal
use Rattle.step_rule.specs.Steps.{ending_or}
use Rattle.unit_tree.specs.Negotiation.{proposal_of}
use Rattle.unit_tree.specs.Successor.{first_told, max_end_of}

pub returns-in-Err-clause-stage : goal.returns-in-Err-clause-stage
returns-in-Err-clause-stage c =
    let run = c.args.plan.now.run in
    let limits = c.args.notes.now.limits.items in
    let all : list_all is_some limits ≡ true = ap (list_all is_some) (sym c.deref.ensures.value) ∙ sym c.are_known.ensures ∙ c.if-not-are_known.false in
    let ends : ending_or (first_told max_end_of (map max_by limits))
    (proposal_of run.stop run.longest c.args.point.t (filter_map (limit_in c.args.point.t) (zip run.members limits))) ≡ Err c.in-Err.ending =
    ap (λ some. ending_or (first_told max_end_of (map max_by some))
    (proposal_of run.stop run.longest c.args.point.t (filter_map (limit_in c.args.point.t) (zip run.members some)))) (sym c.deref-2.ensures.value)
    ∙ sym c.read_limits.ensures.read ∙ c.in-Err.is in
    over_by (list_all is_some limits) (first_told max_end_of (map max_by limits)) _ c.in-Err.ending
    (stage_of_trial run (place_of c.args.point) c.args.notes.now.replies.items c.args.notes.now.redos.items) all ends

pub returns-in-Ok-clause-stage : goal.returns-in-Ok-clause-stage
returns-in-Ok-clause-stage c =
    let run = c.args.plan.now.run in
    let limits = c.args.notes.now.limits.items in
    let all : list_all is_some limits ≡ true = ap (list_all is_some) (sym c.deref.ensures.value) ∙ sym c.are_known.ensures ∙ c.if-not-are_known.false in
    let goes : ending_or (first_told max_end_of (map max_by limits))
    (proposal_of run.stop run.longest c.args.point.t (filter_map (limit_in c.args.point.t) (zip run.members limits))) ≡ Ok c.in-Ok.h =
    ap (λ some. ending_or (first_told max_end_of (map max_by some))
    (proposal_of run.stop run.longest c.args.point.t (filter_map (limit_in c.args.point.t) (zip run.members some)))) (sym c.deref-2.ensures.value)
    ∙ sym c.read_limits.ensures.read ∙ c.in-Ok.is in
    c.stage_of_trial.ensures.stage
    ∙ trial_by (list_all is_some limits) (first_told max_end_of (map max_by limits)) _ c.in-Ok.h
    (stage_of_trial run (place_of c.args.point) c.args.notes.now.replies.items c.args.notes.now.redos.items) all goes
