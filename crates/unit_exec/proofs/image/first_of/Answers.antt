use Rattle.std.proofs.Common.{◌≡◌, sym, Some}
use Rattle.std.specs.Prelude.{slice_get}
use Rattle.unit_exec.proofs.ShownStates.{noted_shows}
use Rattle.unit_exec.proofs.image.first_of.Goals as goal

pub returns : goal.returns
returns c = λ program are.
    let at : slice_get c.args.shown.now 0 ≡ Some c.in_ok-first.field-0.now = sym c.in_ok-first.ensures.value in
    noted_shows program c.args.shown.now are 0 c.in_ok-first.field-0.now at
