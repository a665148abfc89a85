use Rattle.std.proofs.Common.{◌≡◌, ◌∙◌, ◌+◌, ◌++◌, [], Some, ap, arith, subst, sym}
use Rattle.std.specs.Prelude.{slice_get}
use Rattle.std.proofs.lemmas.Option.{same_Some}
use Rattle.nest_names.specs.Flattening.{distinct}
use Rattle.nest_ways.specs.Reaching.{PutsUpTo, ends_of, inputs_at, lines_of}
use Rattle.nest_ways.specs.declared.steps.Known.{Known}
use Rattle.nest_ways.proofs.targets.walk_from.Goals as goal

pub walk_inlet-requires-clause-there : goal.walk_inlet-requires-clause-there
walk_inlet-requires-clause-there c known found =
    let scopes = c.args.ways.now.scopes in
    let base = c.in-Some.base in
    let inlet = c.in-Some-first_inlet.inlet in
    let first = c.first_inlet.ensures inlet c.in-Some-first_inlet.is in
    let here = first.here in
    let place : base + inlet.scope ≡ base = omega (arith, here) in
    let same : first.finds.known ≡ known = same_Some first.finds.known known (sym first.finds.there ∙ found) in record {
      scope = c.args.scope.now;
      there = ap (slice_get scopes) place ∙ ap (λ those. slice_get those base) (sym c.as_slice-scopes.ensures) ∙ c.place_of.ensures base c.in-Some.is;
      of_group = c.requires.scope ∙ ap (λ n. Some n) (sym first.finds.of_group) ∙ ap (λ (k : Known). Some k.group) same;
    }

pub walk_inlet-requires-clause-walk : goal.walk_inlet-requires-clause-walk
walk_inlet-requires-clause-walk c = record {
  known = c.requires.known.known;
  kept = c.requires.known.kept;
  start = record {
    scope = c.args.scope.now;
    there = ap (λ those. slice_get those c.in-Some.base) (sym c.as_slice-scopes.ensures) ∙ c.place_of.ensures c.in-Some.base c.in-Some.is;
    of_group = c.requires.scope;
  };
  done = record {
    inputs = λ input number offset known held found at. absurd (c.in_ok-walk.ensures.done input number held);
    ends = λ offset number end one held numbered is. absurd (c.in_ok-walk.ensures.put offset number held);
  };
}

pub returns : goal.returns
returns c =
    let nest = c.args.names.now in
    let scopes = c.args.ways.now.scopes in
    let scope = c.args.scope.now in
    let base = c.in-Some.base in
    let inlet = c.in-Some-first_inlet.inlet in
    let whole = c.in_ok-whole.whole in
    let ends = c.walk_inlet.new.walk.ends in
    let f = inputs_at nest scopes base in
    let first = c.first_inlet.ensures inlet c.in-Some-first_inlet.is in
    let here = first.here in
    let low = first.low in
    let place : base + inlet.scope ≡ base = omega (arith, here) in
    let at : slice_get scopes (base + inlet.scope) ≡ Some scope =
    ap (slice_get scopes) place ∙ ap (λ those. slice_get those base) (sym c.as_slice-scopes.ensures) ∙ c.place_of.ensures base c.in-Some.is in
    let walks = c.in_ok-whole.ensures first.finds.known first.finds.there in
    let puts = walks.puts scope 32 at (c.requires.scope ∙ ap (λ n. Some n) (sym first.finds.of_group)) (omega (arith, low)) in
    let put : PutsUpTo whole (f ends) (ends_of nest 32 scope (lines_of nest c.args.group c.args.port.now)) =
    subst (λ group. PutsUpTo whole (f ends) (ends_of nest 32 scope (lines_of nest group c.args.port.now))) first.finds.of_group
    (subst (λ port. PutsUpTo whole (f ends) (ends_of nest 32 scope (lines_of nest first.finds.known.group port))) first.finds.named
    (subst (λ old. PutsUpTo whole (f ends) (f old ++ ends_of nest 32 scope (lines_of nest first.finds.known.group first.finds.known.port.now))) c.in_ok-walk.ensures.ends puts)) in
    let spots : c.in-Some-2.spots ≡ f ends =
    c.in_ok-spots.ensures c.in-Some-2.spots c.in-Some-2.is
    ∙ ap (λ those. inputs_at nest those base c.as_slice.result.now) c.as_slice-scopes.ensures
    ∙ ap f c.as_slice.ensures in
    let kept : c.in_ok-kept.kept ≡ distinct [] (f ends) = c.in_ok-kept.ensures ∙ ap (distinct []) (c.as_slice-2.ensures ∙ spots) in
    c.reach_of.ensures (f ends) (ends_of nest 32 scope (lines_of nest c.args.group c.args.port.now)) put kept
