use Rattle.std.proofs.Common.{◌≡◌, ◌∙◌, Some, ap, arith, get_or, length, length-append, subst, sym}
use Rattle.std.specs.Prelude.{slice_get}
use Rattle.std.specs.Option.{option_map}
use Rattle.nest_ways.specs.Sets.{AreKeptSets, HasAll, HasOnly}
use Rattle.nest_ways.proofs.SetLaws.{sets_more, sets_with}
use Rattle.nest_ways.proofs.numbers.number_inputs.Goals as goal

pub loop-input-preserved : goal.loop-input-preserved
loop-input-preserved c =
    let all = c.args.known.now in
    let sets = c.loop-input.sets.items in
    let numbered = c.numbers_of.new.numbered in
    let more = c.in_ok-set.ensures.still in
    let kept = c.in-Some-ends.kept in
    let input = get_or c.args.inputs.now c.loop-input.input-index 0 in
    let there : slice_get all input ≡ Some c.in-Some.one.now = sym c.at.ensures ∙ ap (option_map (λ one. one.now)) c.in-Some.is in
    let long = ap length more.1 in
    let parts = length-append c.loop-input.numbered more.0 in
    let least = c.loop-input.invariant.1 in (
      subst (AreKeptSets numbered all) (sym c.set_at.ensures)
          (sets_with numbered all sets input c.in_ok-set.set
          (subst (λ those. AreKeptSets those all sets) (sym more.1) (sets_more c.loop-input.numbered more.0 all sets c.loop-input.invariant.0))
          (λ one is.
          let own = c.in_ok-set.ensures.has one is in record {
            known = c.in-Some.one.now;
            there = there;
            kept = kept;
            keeps = c.in-Some-ends.is;
            has_all = subst (HasAll numbered one) c.as_slice.ensures own.0;
            has_only = subst (HasOnly numbered one) c.as_slice.ensures own.1;
          })),
      omega (arith, long, parts, least),
    )
