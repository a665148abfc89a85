use Rattle.std.proofs.Common.{◌≡◌, ◌∙◌, ◌≤◌, ◌∷◌, ◌+◌, ◌++◌, [], List, Some, ap, get_or, subst, sym, take}
use Rattle.std.specs.Prelude.{slice_get}
use Rattle.std.specs.Option.{option_map, option_to_list}
use Rattle.std.proofs.lemmas.List.{take_all}
use Rattle.std.proofs.lemmas.Option.{same_Some}
use Rattle.std.proofs.Math.Nat.{le-max_left, le-max_right}
use Rattle.nest_text.specs.declared.nest.Bind.{Bind}
use Rattle.nest_names.specs.Tables.{items_at}
use Rattle.nest_ways.specs.Reaching.{AreSteps, ins_of, lines_of}
use Rattle.nest_ways.specs.declared.steps.Steps.{Steps}
use Rattle.nest_ways.proofs.WayLaws.{lines_next, steps_next}
use Rattle.nest_ways.proofs.steps.steps_of.Goals as goal

pub loop-line-preserved : goal.loop-line-preserved
loop-line-preserved c =
    let nest = c.args.names.now in
    let scopes = c.args.scopes.now in
    let all = c.args.known.now in
    let group = c.args.group in
    let ins = ins_of nest (Some group) in
    let lines = c.ins_named-line-items.result.now in
    let place = c.loop-line.line-index in
    let bind = c.in-Some.bind.now in
    let next = c.in-Some-step_of.next in
    let low = subst (λ most. c.loop-line.height ≤ most) (sym c.max-height.ensures) (le-max_left c.loop-line.height next.height) in
    let high = subst (λ most. next.height ≤ most) (sym c.max-height.ensures) (le-max_right c.loop-line.height next.height) in
    let there : slice_get ins (get_or lines place 0) ≡ Some bind =
    ap (λ (those : List Bind). slice_get those (get_or lines place 0)) (sym c.ins.ensures) ∙ sym c.at.ensures
    ∙ ap (option_map (λ one. one.now)) c.in-Some.is in
    let led : items_at ins (take (place + 1) lines) ≡ items_at ins (take place lines) ++ bind ∷ [] =
    lines_next ins lines place c.loop-line-test.true ∙ ap (λ found. items_at ins (take place lines) ++ option_to_list found) there in
    steps_next nest scopes all group c.loop-line.height next.height c.max-height.result c.loop-line.steps.items c.push.new.self.items next.step
    (items_at ins (take place lines)) (items_at ins (take (place + 1) lines)) bind c.loop-line.invariant (c.step_of.ensures next c.in-Some-step_of.is) low high
    c.in_ok-push.ensures.ok led

pub returns : goal.returns
returns c found is =
    let nest = c.args.names.now in
    let scopes = c.args.scopes.now in
    let all = c.args.known.now in
    let group = c.args.group in
    let ins = ins_of nest (Some group) in
    let lines = c.ins_named-line-items.result.now in
    let made : Steps = record { steps = c.loop-line.steps; height = c.loop-line.height } in
    subst (λ (one : Steps). AreSteps nest scopes all group one.height one.steps.items (lines_of nest group c.args.port.now)) (same_Some made found is)
    (subst (AreSteps nest scopes all group c.loop-line.height c.loop-line.steps.items) c.ins_named-line-items.ensures
    (subst (λ those. AreSteps nest scopes all group c.loop-line.height c.loop-line.steps.items (items_at ins those))
    (take_all c.loop-line.line-index lines c.loop-line-test.false) c.loop-line.invariant))
