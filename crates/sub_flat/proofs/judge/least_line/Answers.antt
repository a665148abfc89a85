use Rattle.std.proofs.Common.{◌∙◌, ap, arith, get_or, length, sym}
use Rattle.nest_text.specs.declared.nest.Nest.{Nest}
use Rattle.sub_flat.proofs.JudgeLaws.{group_there, least_asked, least_end, least_not_less, line_there}
use Rattle.sub_flat.proofs.judge.least_line.Goals as goal

pub loop-place-preserved-then-not-is_less : goal.loop-place-preserved-then-not-is_less
loop-place-preserved-then-not-is_less c =
    let nest = c.args.names.now in
    let place = c.loop-place.place in
    let lines = c.as_slice-lines.result.now in
    let numbered = c.as_slice-lines.ensures ∙ ap (λ (one : Nest). one.lines) c.nest.ensures in
    least_not_less nest c.args.rule place (get_or lines place 0) c.index-groups-place.result c.loop-place.least
    (group_there nest c.groups-groups.result.now place c.index-groups-place.result c.groups-groups.ensures c.loop-place-test.true c.index-groups-place.is)
    (line_there nest c.groups-groups.result.now lines place c.groups-groups.ensures numbered c.requires.lines c.loop-place-test.true)
    (sym c.is_less.ensures ∙ c.if-not-is_less.true) c.loop-place.invariant

pub loop-place-preserved : goal.loop-place-preserved
loop-place-preserved c =
    let nest = c.args.names.now in
    let place = c.loop-place.place in
    let lines = c.as_slice-lines.result.now in
    let numbered = c.as_slice-lines.ensures ∙ ap (λ (one : Nest). one.lines) c.nest.ensures in
    least_asked nest c.args.rule place (get_or lines place 0) c.index-groups-place.result c.loop-place.least c.kept-least.result c.in_ok-broken.broken
    (group_there nest c.groups-groups.result.now place c.index-groups-place.result c.groups-groups.ensures c.loop-place-test.true c.index-groups-place.is)
    (line_there nest c.groups-groups.result.now lines place c.groups-groups.ensures numbered c.requires.lines c.loop-place-test.true)
    (sym c.is_less.ensures ∙ c.if-not-is_less.false) c.in_ok-broken.ensures c.kept-least.ensures c.loop-place.invariant

pub returns : goal.returns
returns c =
    let past = c.loop-place-test.false in
    let long = ap length c.groups-groups.ensures in
    least_end c.args.names.now c.args.rule c.loop-place.place c.loop-place.least (omega (arith, past, long)) c.loop-place.invariant
