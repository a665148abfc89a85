use Rattle.std.proofs.Common.{◌∙◌, ◌++◌, ◌∷◌, [], ap}
use Rattle.save_point.specs.SavedTexts.{named, state_line}
use Rattle.save_point.proofs.PutTexts.{lines_left, put_next}
use Rattle.save_point.proofs.saving.put_states.Goals as goal

pub loop-place-preserved : goal.loop-place-preserved
loop-place-preserved c =
    put_next c.args.instances.now c.args.run.now.stand.at.states c.loop-place.place c.index-instances-place.result c.state.result.now c.loop-place.text.items
    c.put_state.new.text.items (c.args.text.now.items ++ lines_left c.args.instances.now c.args.run.now.stand.at.states 0) c.loop-place-test.true
    c.index-instances-place.is c.state.ensures c.loop-place.invariant
    (c.in_ok-put_state.ensures
    ∙ ap (λ name. c.loop-place.text.items ++ (state_line (named (name, c.state.result.now)) ++ 10 ∷ [])) c.as_slice.ensures)
