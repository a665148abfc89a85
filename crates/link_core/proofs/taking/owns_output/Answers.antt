use Rattle.std.proofs.Common.{◌≡◌, ◌∙◌, length, ap, arith}
use Rattle.link_core.proofs.TakeLaws.{output_missing, output_owned}
use Rattle.link_core.proofs.taking.owns_output.Goals as goal
use Rattle.unit_tree.specs.Routes.{routes_of}
use Rattle.unit_tree.specs.declared.order.Routes.{Routes}

pub returns-then-place-len : goal.returns-then-place-len
returns-then-place-len c = λ row seen.
    let run = c.args.plan.now.run in
    let many : c.len.result ≡ length (routes_of run).outputs = c.len.ensures
    ∙ ap (λ (r : Routes). length r.outputs) (c.routes.ensures.routes ∙ c.order.ensures.routes) in
    output_missing run c.args.owners.now c.args.node c.requires.owners c.args.place (omega (arith, c.if-place-len.true, many))

pub returns : goal.returns
returns c = λ row seen.
    let run = c.args.plan.now.run in
    let many : c.len.result ≡ length (routes_of run).outputs = c.len.ensures
    ∙ ap (λ (r : Routes). length r.outputs) (c.routes.ensures.routes ∙ c.order.ensures.routes) in
    output_owned run c.args.owners.now c.args.node c.requires.owners c.args.place c.owner_at.result
    (omega (arith, c.if-place-len.false, many)) c.owner_at.ensures
