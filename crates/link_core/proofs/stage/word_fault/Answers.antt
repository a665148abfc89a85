use Rattle.std.proofs.Common.{◌≡◌, ◌<◌, ◌∙◌, true, false, length, map, zip, is_some, refl, sym, ap, subst, arith}
use Rattle.std.proofs.lemmas.Option.{slice_get_read}
use Rattle.std.specs.Prelude.{slice_get, Some}
use Rattle.link_laws.specs.Making.{names_of}
use Rattle.link_laws.specs.Stages.{word_end}
use Rattle.step_rule.proofs.AlongLaws.{told_here, told_next, told_none}
use Rattle.link_core.proofs.StageItems.{word_ends_long, word_there}
use Rattle.link_core.proofs.stage.word_fault.Goals as goal
use Rattle.unit_tree.specs.Routes.{routes_of}

pub returns-then-is_some : goal.returns-then-is_some
returns-then-is_some c =
    let run = c.args.plan.now.run in
    let routes = c.as_slice-routes.result.now in
    let own : routes ≡ (routes_of run).outputs = c.as_slice-routes.ensures ∙ ap (λ r. r.outputs) (c.routes.ensures.routes ∙ c.order.ensures.routes) in
    let within : c.loop-place.place < length (routes_of run).outputs = subst (λ all. c.loop-place.place < length all) own c.loop-place-test.true in
    let read = slice_get_read routes (length routes) c.loop-place.place c.index-routes-place.result refl c.loop-place-test.true c.index-routes-place.is in
    let is_route : slice_get (routes_of run).outputs c.loop-place.place ≡ Some c.index-routes-place.result =
    sym (ap (λ all. slice_get all c.loop-place.place) own) ∙ read in
    let there = word_there run c.args.words.now c.loop-place.place _ c.index-routes-place.result c.word_end-end.result within c.requires is_route
    c.word_end-end.ensures in
    let some : is_some c.word_end-end.result ≡ true = cc (c.is_some.ensures, c.if-is_some.true) in
    told_here (map word_end (zip (names_of run) c.args.words.now)) c.loop-place.place c.word_end-end.result there some c.loop-place.invariant

pub loop-place-preserved : goal.loop-place-preserved
loop-place-preserved c =
    let run = c.args.plan.now.run in
    let routes = c.as_slice-routes.result.now in
    let own : routes ≡ (routes_of run).outputs = c.as_slice-routes.ensures ∙ ap (λ r. r.outputs) (c.routes.ensures.routes ∙ c.order.ensures.routes) in
    let within : c.loop-place.place < length (routes_of run).outputs = subst (λ all. c.loop-place.place < length all) own c.loop-place-test.true in
    let read = slice_get_read routes (length routes) c.loop-place.place c.index-routes-place.result refl c.loop-place-test.true c.index-routes-place.is in
    let is_route : slice_get (routes_of run).outputs c.loop-place.place ≡ Some c.index-routes-place.result =
    sym (ap (λ all. slice_get all c.loop-place.place) own) ∙ read in
    let there = word_there run c.args.words.now c.loop-place.place _ c.index-routes-place.result c.word_end-end.result within c.requires is_route
    c.word_end-end.ensures in
    let none : is_some c.word_end-end.result ≡ false = cc (c.is_some.ensures, c.if-is_some.false) in
    told_next (map word_end (zip (names_of run) c.args.words.now)) c.loop-place.place c.word_end-end.result there none c.loop-place.invariant

pub returns : goal.returns
returns c =
    let run = c.args.plan.now.run in
    let routes = c.as_slice-routes.result.now in
    let own : length routes ≡ length (routes_of run).outputs =
    ap length (c.as_slice-routes.ensures ∙ ap (λ r. r.outputs) (c.routes.ensures.routes ∙ c.order.ensures.routes)) in
    told_none (map word_end (zip (names_of run) c.args.words.now)) c.loop-place.place
    (omega (arith, word_ends_long run c.args.words.now c.requires, own, c.loop-place-test.false)) c.loop-place.invariant
