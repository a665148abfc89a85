use Rattle.std.proofs.Common.{◌≤◌, ◌++◌, ◌∷◌, [], ◌∙◌, length, map, ap, sym, arith, take}
use Rattle.std.proofs.lemmas.List.{take_all, map-append}
use Rattle.std.proofs.lemmas.Slice.Zip.{AllZip-long}
use Rattle.link_core.proofs.RoomLaws.{words_in}
use Rattle.list_laws.proofs.Members.{take_next}
use Rattle.link_core.proofs.opening.states_of.Goals as goal

pub loop-instance-init : goal.loop-instance-init
loop-instance-init c = ap (map words_in) c.new-states.ensures.items

pub loop-instance-preserved : goal.loop-instance-preserved
loop-instance-preserved c =
    ap (map words_in) c.in_ok-push.ensures.items
    ∙ map-append words_in c.loop-instance.states.items (c.in_ok-from_slice.field-0 ∷ [])
    ∙ ap (λ front. front ++ (c.in_ok-from_slice.field-0.items ∷ [])) c.loop-instance.invariant
    ∙ ap (λ words. take c.loop-instance.instance c.args.units.now.states ++ (words ∷ [])) c.in_ok-from_slice.ensures.items
    ∙ sym (take_next c.args.units.now.states c.loop-instance.instance c.state.result.now c.state.ensures)

pub returns : goal.returns
returns c =
    let long = AllZip-long _ c.args.units.now.plan.run.members c.args.units.now.states c.count-instance-end.ensures.states in
    let past : length c.args.units.now.states ≤ c.loop-instance.instance =
    omega (arith, c.loop-instance-test.false, c.count-instance-end.ensures.count, long) in
    c.loop-instance.invariant ∙ take_all c.loop-instance.instance c.args.units.now.states past
