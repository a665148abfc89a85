use Rattle.std.proofs.Common.{◌≡◌, ◌∙◌, ap, append-nil, get_or, sym}
use Rattle.std.specs.List.{flat_map}
use Rattle.nest_names.specs.Flattening.{distinct}
use Rattle.nest_ways.specs.declared.ends.End.{End}
use Rattle.nest_ways.proofs.AlikeLaws.{first_input}
use Rattle.nest_ways.proofs.WayLaws.{onward_next, onward_stop, some_is}
use Rattle.nest_ways.proofs.ends.put_onward.Goals as goal

pub loop-end-preserved : goal.loop-end-preserved
loop-end-preserved c input reads =
    let none : End = record { scope = 0; line = 0 } in
    let inner = c.args.inner.now in
    let firsts = c.args.firsts.now in
    let end = get_or inner c.loop-end.end-index none in
    let one : End = record { scope = c.first_same-scope.result; line = end.line } in
    let onward = some_is _ _ c.checked_add.result c.in-Some.scope c.in-Some.is c.checked_add.ensures in
    let at : input one ≡ input (record { scope = c.in-Some.scope; line = end.line }) =
    ap (λ scope. input (record { scope = scope; line = end.line })) c.first_same-scope.ensures
    ∙ first_input input firsts c.in-Some.scope end.line reads in
    onward_next input c.args.offset c.args.ends.now c.loop-end.ends c.put_once.new.ends inner c.loop-end.end-index none one c.loop-end-test.true
    c.in_ok-put_once.ensures (at ∙ ap (λ scope. input (record { scope = scope; line = end.line })) onward) (c.loop-end.invariant input reads)

pub returns-then-len-most : goal.returns-then-len-most
returns-then-len-most c input reads =
    let old = c.args.ends.now in
    onward_stop input c.args.offset old old c.args.inner.now 0 (λ kept. ap (λ ends. distinct kept (flat_map input ends)) (sym (append-nil old)))

pub returns-then-len-most-2 : goal.returns-then-len-most-2
returns-then-len-most-2 c input reads =
    onward_stop input c.args.offset c.args.ends.now c.loop-end.ends c.args.inner.now c.loop-end.end-index (c.loop-end.invariant input reads)

pub returns-in_default : goal.returns-in_default
returns-in_default c input reads =
    onward_stop input c.args.offset c.args.ends.now c.loop-end.ends c.args.inner.now c.loop-end.end-index (c.loop-end.invariant input reads)
