use Rattle.std.proofs.Common.{◌≡◌, ◌∙◌, ◌∷◌, [], ap, arith, length, map, subst}
use Rattle.std.proofs.lemmas.List.{map-append}
use Rattle.sub_flat.specs.Cycles.{inner_places}
use Rattle.sub_flat.proofs.NestingLaws.{ListedSoFar, listed_all, listed_next, listed_within}
use Rattle.sub_flat.proofs.cycles.all_inner.Goals as goal

pub loop-place-preserved : goal.loop-place-preserved
loop-place-preserved c =
    listed_next (inner_places c.args.names.now) (map (λ one. one.items) c.loop-place.all.items) (map (λ one. one.items) c.push.new.self.items)
    c.in_ok-inner.inner.items c.loop-place.place c.loop-place.invariant c.in_ok-inner.ensures
    (ap (map (λ one. one.items)) c.in_ok-push.ensures.items ∙ map-append (λ one. one.items) c.loop-place.all.items (c.in_ok-inner.inner ∷ []))

pub returns-clause-inner : goal.returns-clause-inner
returns-clause-inner c =
    let long = ap length c.groups-place-end.ensures in
    let most = c.loop-place.auto.place-end in
    let past = c.loop-place-test.false in
    let same : c.loop-place.place ≡ length c.args.names.now.groups = omega (arith, long, most, past) in
    listed_all c.args.names.now (map (λ one. one.items) c.loop-place.all.items)
    (subst (ListedSoFar (inner_places c.args.names.now) (map (λ one. one.items) c.loop-place.all.items)) same c.loop-place.invariant)

pub returns-clause-within : goal.returns-clause-within
returns-clause-within c =
    let long = ap length c.groups-place-end.ensures in
    let most = c.loop-place.auto.place-end in
    let past = c.loop-place-test.false in
    let same : c.loop-place.place ≡ length c.args.names.now.groups = omega (arith, long, most, past) in
    listed_within c.args.names.now (map (λ one. one.items) c.loop-place.all.items)
    (subst (ListedSoFar (inner_places c.args.names.now) (map (λ one. one.items) c.loop-place.all.items)) same c.loop-place.invariant)
