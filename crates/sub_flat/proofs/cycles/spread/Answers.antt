use Rattle.std.proofs.Common.{◌∙◌, ◌+◌, ◌∷◌, ap, arith, drop, get_or}
use Rattle.std.proofs.lemmas.List.{at_drop_more}
use Rattle.sub_flat.proofs.SearchLaws.{among_at, spread_found, spread_next}
use Rattle.sub_flat.proofs.cycles.spread.Goals as goal

pub returns-then-place-wanted : goal.returns-then-place-wanted
returns-then-place-wanted c =
    let inner = c.args.inner.now in
    let place = c.loop-place.place-index in
    spread_found inner (drop place inner) (drop (place + 1) inner) c.args.wanted c.args.seen.now c.loop-place.seen c.args.pending.now.items
    c.loop-place.pending.items c.loop-place.invariant
    (at_drop_more (λ rest. rest) inner place 0 c.loop-place-test.true ∙ ap (λ first. first ∷ drop (place + 1) inner) c.if-place-wanted.true)

pub note-requires : goal.note-requires
note-requires c =
    let less = c.requires (get_or c.args.inner.now c.loop-place.place-index 0) (among_at c.args.inner.now c.loop-place.place-index c.loop-place-test.true) in
    let same = c.loop-place.auto.seen in
    omega (arith, less, same)

pub loop-place-preserved : goal.loop-place-preserved
loop-place-preserved c =
    let inner = c.args.inner.now in
    let place = c.loop-place.place-index in
    spread_next inner (drop place inner) (drop (place + 1) inner) c.args.wanted (get_or inner place 0) c.args.seen.now c.loop-place.seen c.note.new.seen
    c.args.pending.now.items c.loop-place.pending.items c.note.new.pending.items c.loop-place.invariant
    (at_drop_more (λ rest. rest) inner place 0 c.loop-place-test.true) c.if-place-wanted.false c.in_ok-note.ensures
