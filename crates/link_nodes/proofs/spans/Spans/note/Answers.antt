use Rattle.std.proofs.Common.{◌<◌, ◌≤◌, length, take, sym, arith}
use Rattle.std.proofs.lemmas.Option.{slice_get-get_or}
use Rattle.link_nodes.proofs.SpanLaws.{noted_more, take_length}
use Rattle.link_nodes.proofs.spans.Spans.note.Goals as goal

pub loop-place-preserved : goal.loop-place-preserved
loop-place-preserved c =
    let facts = c.args.facts.now in
    let place = c.loop-place.place in
    let within : place < length facts = omega (arith, c.loop-place-test.true) in
    let most : place ≤ length facts = omega (arith, within) in
    record {
      most = omega (arith, within);
      noted =
          noted_more c.note_one.new.rows.items facts place _ (slice_get-get_or facts place _ within)
          (c.in_ok-note_one.ensures (take place facts) _ (take_length place facts most) (sym c.row.ensures) c.loop-place.invariant.noted);
    }
