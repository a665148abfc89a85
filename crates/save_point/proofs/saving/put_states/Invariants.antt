use Rattle.std.proofs.Common.{◌≡◌, ◌++◌}
use Rattle.save_point.proofs.PutTexts.{lines_left}
use Rattle.save_point.proofs.saving.put_states.Given as goal

abbrev pub invariant-loop-place : goal.invariant-loop-place
invariant-loop-place l =
    l.text.items ++ lines_left l.instances l.run.stand.at.states l.place ≡ l.initial.text.items ++ lines_left l.instances l.run.stand.at.states 0
