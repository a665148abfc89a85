use Rattle.std.proofs.Common.{◌≡◌, ◌∙◌, ◌<◌, ◌≤◌, [], Some, length, map, get_or, sym, ap, arith}
use Rattle.std.proofs.lemmas.List.{get_or_default, length-map}
use Rattle.std.specs.Vec.{with_items}
use Rattle.list_laws.proofs.Vectors.{items_put}
use Rattle.std.proofs.lemmas.Option.{get_or_from_slice_get}
use Rattle.snap_store.specs.Store.{words_of}
use Rattle.trace_core.specs.Seats.{IsCommitted, saved}
use Rattle.trace_core.specs.declared.seat.Seat.{Seat}
use Rattle.trace_core.proofs.LoopLaws.{none_turned, one_turned, none_saved, one_saved, all_saved, own_ids, all_before, long_at, long_as, long_words}
use Rattle.trace_core.proofs.LoopLaws.{length_saved, before_long, id_kept}
use Rattle.trace_core.proofs.steps.commit_all.Goals as goal

pub loop-instance-init : goal.loop-instance-init
loop-instance-init c = record {
  turned = none_turned (λ k old new. IsCommitted (get_or c.args.units.now.inputs k []) old new) c.args.seats.now;
  so_far = none_saved c.args.seats.now (saved c.args.snaps.now c.args.seats.now) c.args.units.now.states c.args.snaps.now c.requires.saved;
}

pub copy_words-requires : goal.copy_words-requires
copy_words-requires c =
    let place = c.loop-instance.instance in
    let within : place < length c.args.seats.now = omega (arith, c.requires.units, c.count-instance-end.ensures.count, c.loop-instance-test.true) in
    ap length c.deref_mut.ensures.value
    ∙ before_long c.args.seats.now c.loop-instance.seats c.args.units.now.inputs place c.index-seats-instance.result c.inputs.result.now within
    c.requires.before c.loop-instance.invariant.turned c.inputs.ensures

pub overwrite-requires-clause-same_length : goal.overwrite-requires-clause-same_length
overwrite-requires-clause-same_length c =
    let place = c.loop-instance.instance in
    let within : place < length c.args.seats.now = omega (arith, c.requires.units, c.count-instance-end.ensures.count, c.loop-instance-test.true) in
    let held =
    ap (words_of c.loop-instance.snaps)
    (id_kept c.args.seats.now c.loop-instance.seats c.args.units.now.inputs place c.index-seats-instance.result c.loop-instance.invariant.turned)
    ∙ c.loop-instance.invariant.so_far.left place c.index-seats-instance.result (omega arith) within in
    let states = saved c.args.snaps.now c.args.seats.now in
    long_words c.loop-instance.snaps (get_or c.loop-instance.seats place c.index-seats-instance.result).id (length c.state.result.now)
    (get_or states place []) held
    (long_at states c.args.units.now.states place c.requires.as_long
    ∙ ap length (get_or_from_slice_get c.args.units.now.states place c.state.result.now [] c.state.ensures))

pub loop-instance-preserved : goal.loop-instance-preserved
loop-instance-preserved c =
    let place = c.loop-instance.instance in
    let seats = c.args.seats.now in
    let within : place < length seats = omega (arith, c.requires.units, c.count-instance-end.ensures.count, c.loop-instance-test.true) in
    let same : (default : Seat) → (get_or seats place default).id ≡ (get_or c.loop-instance.seats place c.index-seats-instance.result).id = λ default.
    ap (λ (seat : Seat). seat.id) (get_or_default seats place default c.index-seats-instance.result within)
    ∙ sym (id_kept seats c.loop-instance.seats c.args.units.now.inputs place c.index-seats-instance.result c.loop-instance.invariant.turned) in
    record {
      turned = one_turned (λ k old new. IsCommitted (get_or c.args.units.now.inputs k []) old new) seats c.loop-instance.seats place
          (record (get_or c.loop-instance.seats place c.index-seats-instance.result) {
            before =
                with_items (get_or c.loop-instance.seats place c.index-seats-instance.result).before c.copy_words.new.into;
          }) within c.loop-instance.invariant.turned
          (λ default. record {
            before = items_put (get_or c.loop-instance.seats place c.index-seats-instance.result).before c.copy_words.new.into
                (c.copy_words.auto.into ∙ ap length c.deref_mut.ensures.value)
                ∙ c.copy_words.ensures ∙ sym (get_or_from_slice_get c.args.units.now.inputs place c.inputs.result.now [] c.inputs.ensures);
            id = sym (same default);
          });
      so_far =
          one_saved seats (saved c.args.snaps.now seats) c.args.units.now.states place
          (get_or c.loop-instance.seats place c.index-seats-instance.result).id c.loop-instance.snaps c.overwrite.new.self c.requires.own within same
          (c.overwrite.ensures.written ∙ ap Some (sym (get_or_from_slice_get c.args.units.now.states place c.state.result.now [] c.state.ensures)))
          c.overwrite.ensures.others c.loop-instance.invariant.so_far;
    }

pub returns-clause-saved : goal.returns-clause-saved
returns-clause-saved c =
    let seats = c.args.seats.now in
    let past : length seats ≤ c.loop-instance.instance = omega (arith, c.requires.units, c.count-instance-end.ensures.count, c.loop-instance-test.false) in
    all_saved seats c.loop-instance.seats c.args.units.now.inputs c.loop-instance.instance past c.loop-instance.invariant.turned
    (saved c.args.snaps.now seats) c.args.units.now.states c.loop-instance.snaps
    (sym (long_as (saved c.args.snaps.now seats) c.args.units.now.states c.requires.as_long)
    ∙ length_saved c.args.snaps.now seats) c.loop-instance.invariant.so_far

pub returns-clause-own : goal.returns-clause-own
returns-clause-own c =
    let past : length c.args.seats.now ≤ c.loop-instance.instance =
    omega (arith, c.requires.units, c.count-instance-end.ensures.count, c.loop-instance-test.false) in
    own_ids c.args.seats.now c.loop-instance.seats c.args.units.now.inputs c.loop-instance.instance past c.loop-instance.invariant.turned c.requires.own

pub returns-clause-before : goal.returns-clause-before
returns-clause-before c =
    let seats = c.args.seats.now in
    let past : length seats ≤ c.loop-instance.instance = omega (arith, c.requires.units, c.count-instance-end.ensures.count, c.loop-instance-test.false) in
    let many = sym (long_as (map (λ (seat : Seat). seat.before.items) seats) c.args.units.now.inputs c.requires.before) ∙ length-map seats _ in
    all_before seats c.loop-instance.seats c.args.units.now.inputs c.loop-instance.instance past c.loop-instance.invariant.turned many
