use Rattle.std.proofs.Common.{◌≡◌, ◌∙◌, List, Some, ap, sym}
use Rattle.std.specs.Prelude.{slice_get}
use Rattle.std.specs.Option.{option_map}
use Rattle.std.proofs.lemmas.Option.{same_Some}
use Rattle.nest_ways.specs.declared.steps.WayStep.{WayStep}
use Rattle.nest_ways.specs.declared.steps.WayStep.TheVariants as step_is
use Rattle.nest_ways.proofs.WayLaws.{only_one}
use Rattle.nest_ways.proofs.steps.only_inside.Goals as goal

pub returns-in-Inside : goal.returns-in-Inside
returns-in-Inside c inside = (
  λ is. only_one steps (step_is.Inside inside) c.if-steps-ne1.false (there ∙ ap (λ one. Some (step_is.Inside one)) (same_Some c.in-Inside.inside inside is)),
  λ is.
      let same = same_Some (step_is.Inside c.in-Inside.inside) (step_is.Inside inside) (sym there ∙ ap (λ those. slice_get those 0) is) in
      let one : c.in-Inside.inside ≡ inside = cc same in ap (λ each. Some each) one,
)
  where
    steps : List WayStep
    steps = c.args.steps.now

    there : slice_get steps 0 ≡ Some (step_is.Inside c.in-Inside.inside)
    there = sym c.at.ensures ∙ ap (option_map (λ one. one.now)) c.in_ok-inside.was ∙ ap (λ step. Some step) c.in-Inside.is
