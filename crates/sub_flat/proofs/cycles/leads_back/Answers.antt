use Rattle.std.proofs.Common.{◌≡◌, ◌∙◌, ap, length, map, refl, subst, sym, arith}
use Rattle.nest_names.specs.Tables.{inside_of}
use Rattle.sub_flat.specs.Searching.{Spreads}
use Rattle.sub_flat.proofs.SearchLaws.{SearchedSoFar, filled, none_left, search_goes_on, search_none, search_told}
use Rattle.sub_flat.proofs.cycles.leads_back.Goals as goal

pub returns-then-branch : goal.returns-then-branch
returns-then-branch c = (
  λ holds.
      search_told (inside_of (map (λ one. one.items) c.args.inner.now)) c.args.place (length c.args.inner.now) c.in-Some.from c.loop-from.seen.items
      c.spread.new.seen c.loop-from.pending.items c.pop.new.self.items c.spread.new.pending.items c.inside.result.now c.in_ok-spread.field-0
      c.loop-from.invariant c.in-Some.ensures.items c.inside.ensures c.if-branch.true
      (subst (λ seen. Spreads c.inside.result.now c.args.place seen c.spread.new.seen c.pop.new.self.items c.spread.new.pending.items c.in_ok-spread.field-0)
      c.as_mut_slice.ensures.value c.in_ok-spread.ensures),
  λ back. refl,
)

pub loop-from-preserved : goal.loop-from-preserved
loop-from-preserved c =
    let inner = inside_of (map (λ one. one.items) c.args.inner.now) in
    let same : length c.spread.new.seen ≡ length c.loop-from.seen.items =
    c.spread.auto.seen ∙ ap length c.as_mut_slice.ensures.value in
    subst (λ seen. SearchedSoFar inner c.args.place (length c.args.inner.now) seen c.spread.new.pending.items)
    (sym (filled c.loop-from.seen.items c.spread.new.seen c.loop-from.seen.len c.loop-from.seen.ok.0 same))
    (search_goes_on inner c.args.place (length c.args.inner.now) c.in-Some.from c.loop-from.seen.items
    c.spread.new.seen c.loop-from.pending.items c.pop.new.self.items c.spread.new.pending.items c.inside.result.now c.in_ok-spread.field-0
    c.loop-from.invariant c.in-Some.ensures.items c.inside.ensures c.if-branch.false
    (subst (λ seen. Spreads c.inside.result.now c.args.place seen c.spread.new.seen c.pop.new.self.items c.spread.new.pending.items c.in_ok-spread.field-0)
    c.as_mut_slice.ensures.value c.in_ok-spread.ensures))

pub returns : goal.returns
returns c =
    let long = c.in_default.ensures.cases.0 in
    let ok = c.loop-from.pending.ok.0 in
    let none : length c.loop-from.pending.items ≡ 0 = omega (arith, long, ok) in (
      λ never. absurd (cc),
      λ back. absurd (search_none (inside_of (map (λ one. one.items) c.args.inner.now)) c.args.place (length c.args.inner.now) c.loop-from.seen.items
          c.loop-from.pending.items c.loop-from.invariant (none_left c.loop-from.pending.items none) back.0 back.1),
    )
