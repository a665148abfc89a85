use Rattle.std.proofs.Common.{◌<◌, ◌∙◌, length, pos, get_or, rules, w64, FitsSigned}
use Rattle.std.proofs.lemmas.Int.{to_z-of_z}
use Rattle.port_solve.proofs.InputsSet.{all_left, one_set}
use Rattle.port_solve.proofs.inputs.set_words.Goals as goal
use Rattle.unit_tree.specs.declared.order.StartWord.{StartWord}

pub loop-start-preserved : goal.loop-start-preserved
loop-start-preserved g c =
    let inv = c.loop-start.invariant in
    let e = c.set.ensures in
    let starts = c.args.starts.now in
    let within : c.loop-start.start-index < length starts = c.loop-start-test.true in
    let default : StartWord = record { at = record { instance = 0; input = 0 }; word = pos 0 } in
    let word : FitsSigned w64 (get_or starts c.loop-start.start-index default).word = search rules in
    let set = rw (to_z-of_z w64 _ word) at e.inputs in
    let fits = (all_left _ starts c.loop-start.start-index default within inv.fits).1 in
    record {
      inputs = one_set _ _ starts c.loop-start.start-index default within set ∙ inv.inputs;
      fits = rw e.system fits;
      states = e.states ∙ inv.states;
      system = e.system ∙ inv.system;
    }
