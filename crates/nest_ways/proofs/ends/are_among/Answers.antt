use Rattle.std.proofs.Common.{◌≡◌, ◌∙◌, ap, get_or, inr, refl}
use Rattle.nest_ways.specs.declared.ends.End.{End}
use Rattle.nest_ways.proofs.AlikeLaws.{first_input}
use Rattle.nest_ways.proofs.WayLaws.{onward_next, some_is}
use Rattle.nest_ways.proofs.ends.are_among.Goals as goal

pub loop-end-preserved : goal.loop-end-preserved
loop-end-preserved c input reads =
    let none : End = record { scope = 0; line = 0 } in
    let inner = c.args.inner.now in
    let ends = c.args.ends.now in
    let firsts = c.args.firsts.now in
    let end = get_or inner c.loop-end.end-index none in
    let one : End = record { scope = c.first_same-scope.result; line = end.line } in
    let onward = some_is _ _ c.checked_add.result c.in-Some.scope c.in-Some.is c.checked_add.ensures in
    let at : input one ≡ input (record { scope = c.in-Some.scope; line = end.line }) =
    ap (λ scope. input (record { scope = scope; line = end.line })) c.first_same-scope.ensures
    ∙ first_input input firsts c.in-Some.scope end.line reads in
    onward_next input c.args.offset ends ends ends inner c.loop-end.end-index none one c.loop-end-test.true
    (inr (refl, c.place_of.result, c.is_at.ensures.0 c.if-not-is_at.false))
    (at ∙ ap (λ scope. input (record { scope = scope; line = end.line })) onward) (c.loop-end.invariant input reads)
