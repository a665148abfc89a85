use Rattle.std.proofs.Common.{◌≡◌, ◌∙◌, List, ℕ, subst}
use Rattle.std.specs.Prelude.{IfOk}
use Rattle.cosim_answers.proofs.RunLaws.{notes_are}
use Rattle.cosim_notes.proofs.notes.ending.Goals as goal

pub returns : goal.returns
returns c =
    subst (λ (text : List (List ℕ)). IfOk c.ending_notes.result (λ lines. lines ≡ text))
    (notes_are c.args.plan.now.system c.source-system.result.now c.resolution.result c.args.ending c.args.last
    (c.source-system.ensures ∙ c.checked.ensures.system) c.resolution.ensures.value)
    c.ending_notes.ensures
