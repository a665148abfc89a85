use Rattle.std.proofs.Common.{◌≡◌, ◌∙◌, ◌++◌, ◌∷◌, [], ap, arith}
use Rattle.std.specs.Prelude.{replicate}
use Rattle.link_core.proofs.OpenLaws.{one_more_value}
use Rattle.link_core.proofs.opening.filled.Goals as goal

pub loop-place-preserved : goal.loop-place-preserved
loop-place-preserved g c = record {
  bound = omega (arith, c.loop-place-test.true);
  made = c.in_ok-push.ensures.items ∙ ap (λ front. front ++ (c.args.value ∷ [])) c.loop-place.invariant.made ∙ one_more_value c.loop-place._place c.args.value;
}

pub returns : goal.returns
returns g c =
    let same : c.loop-place._place ≡ c.args.count = omega (arith, c.loop-place-test.false, c.loop-place.invariant.bound) in
    c.loop-place.invariant.made ∙ ap (λ count. replicate count c.args.value) same
