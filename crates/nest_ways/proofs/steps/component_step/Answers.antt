use Rattle.std.proofs.Common.{◌≡◌, ◌∙◌, List, Some, ap, subst, sym}
use Rattle.std.specs.Prelude.{slice_get}
use Rattle.std.specs.Option.{option_map}
use Rattle.std.proofs.lemmas.Option.{same_Some}
use Rattle.nest_text.specs.declared.nest.Bind.{Bind}
use Rattle.nest_ways.specs.Reaching.{IsStep, ins_of}
use Rattle.nest_ways.specs.declared.steps.Descent.{Descent}
use Rattle.nest_ways.specs.declared.steps.WayStep.TheVariants as step_is
use Rattle.nest_ways.proofs.steps.component_step.Goals as goal

pub returns : goal.returns
returns c made scopes known is =
    let nest = c.args.names.now in
    let bind = c.args.bind.now in
    let line : c.same_line-line.result ≡ c.in-Ok.line = sym c.in-Ok.ensures.1 in
    let there : option_map (λ (one : Bind). one.inner) (slice_get (ins_of nest (Some c.args.group)) c.in-Ok.line) ≡ Some bind.inner =
    ap (λ (all : List Bind). option_map (λ (one : Bind). one.inner) (slice_get all c.in-Ok.line)) (sym c.ins.ensures)
    ∙ ap (λ at. option_map (λ (one : Bind). one.inner) (slice_get c.ins.result.now at)) (sym line) ∙ c.same_line-line.ensures in
    let step : Descent = record { step = step_is.Component c.in-Ok.line; height = 0 } in
    subst (λ (one : Descent). IsStep nest scopes known c.args.group one.height one.step bind) (same_Some step made is)
    (record { there = there; component = c.requires.component })
