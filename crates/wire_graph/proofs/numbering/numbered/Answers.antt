use Rattle.std.proofs.Common.{◌∙◌, arith}
use Rattle.wire_graph.proofs.NumberLaws.{place_noted, place_all}
use Rattle.wire_graph.proofs.numbering.numbered.Goals as goal

pub loop-place-preserved : goal.loop-place-preserved
loop-place-preserved g c = λ key.
    place_noted (g.K.PartialEq.eq key) c.args.keys.now c.loop-place.place c.index-keys-place.result _ _ (omega arith) c.index-keys-place.is
    (c.loop-place.invariant key) (c.in_ok-note.ensures key)

pub returns : goal.returns
returns g c = λ key. c.loop-place.invariant key ∙ place_all (g.K.PartialEq.eq key) c.args.keys.now c.loop-place.place (omega arith)
