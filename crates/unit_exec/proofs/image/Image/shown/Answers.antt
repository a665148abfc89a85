use Rattle.std.proofs.Common.{◌≡◌, ◌∙◌, ◌<◌, Some, ap, arith, length, sym, subst}
use Rattle.std.proofs.lemmas.Bool.Decides.{nat_tests}
use Rattle.std.proofs.lemmas.Option.{slice_get-get_or}
use Rattle.std.specs.Prelude.{slice_get}
use Rattle.std.specs.Option.{IfSome}
use Rattle.unit_exec.specs.Images.{Compiled}
use Rattle.unit_exec.specs.Showing.{Shows}
use Rattle.unit_exec.proofs.ShownStates.{noted_shows}
use Rattle.unit_exec.proofs.image.Image.shown.Goals as goal

pub returns : goal.returns
returns c =
    let told = c.in_ok-get.ensures.lookup in
    let within : c.args.output < length c.deref.result.now = let test = told.0 in grind (arith, nat_tests) in
    let at : slice_get c.self.inside.shown.items c.args.output ≡ Some c.in_ok-get.field-0.now =
    ap (λ all. slice_get all c.args.output) (sym c.deref.ensures.value) ∙ slice_get-get_or c.deref.result.now c.args.output _ within ∙ ap Some (sym told.1) in
    subst (λ (i : Compiled). IfSome c.in_ok-get.field-0.now (Shows i.program c.args.output)) c.self.view_is
    (noted_shows c.self.inside.code c.self.inside.shown.items c.self.invariant.1 c.args.output c.in_ok-get.field-0.now at)
