use Rattle.std.proofs.Common.{◌≡◌, ◌∙◌, Some, ap, sym}
use Rattle.std.specs.Prelude.{slice_get}
use Rattle.std.specs.Option.{option_map}
use Rattle.std.proofs.lemmas.Option.{same_Some, slice_get-map}
use Rattle.list_laws.proofs.Members.{at_front}
use Rattle.nest_names.proofs.SameSpots.{port_is}
use Rattle.sub_flat.proofs.samples.made_at.Goals as goal

pub returns-then-same_port : goal.returns-then-same_port
returns-then-same_port c f rest one is told =
    let samples = c.args.samples.now in
    let made = c.args.made.now in
    let place = c.args.place in
    let before = c.in_ok-before.before.now in
    let found = c.in_ok-one.one.now in
    let same = port_is before c.args.sample.now (sym c.same_port.ensures ∙ c.if-same_port.true) in
    let there : slice_get samples place ≡ Some before = sym c.at.ensures ∙ ap (option_map (λ one. one.now)) c.in_ok-before.was in
    let at : slice_get made place ≡ Some found = sym c.at-2.ensures ∙ ap (option_map (λ one. one.now)) c.in_ok-one.was in
    let maps : Some found ≡ Some (f before) =
    sym (at_front made rest place found at) ∙ ap (λ all. slice_get all place) is ∙ slice_get-map f samples place ∙ ap (option_map f) there in
    sym (same_Some found one told) ∙ same_Some found (f before) maps ∙ ap f same
