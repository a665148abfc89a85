use Rattle.std.proofs.Common.{◌≡◌, ◌∙◌, ◌<◌, [], length, get_or, sym, ap, subst, arith}
use Rattle.std.proofs.lemmas.Option.{same_Some}
use Rattle.trace_core.specs.Seats.{saved}
use Rattle.trace_core.proofs.LoopLaws.{saved_at, live_words, length_saved, restored_long, next_restored}
use Rattle.trace_units.specs.Fleets.{Fleet}
use Rattle.trace_core.proofs.steps.restore_all.Goals as goal

pub words-requires : goal.words-requires
words-requires c =
    let within : c.loop-instance.instance < length c.args.seats.now =
    omega (arith, c.requires.units, c.count-instance-end.ensures.count, c.loop-instance-test.true) in
    let states = saved c.args.snaps.now c.args.seats.now in
    record {
      live =
          live_words c.args.snaps.now (get_or c.args.seats.now c.loop-instance.instance c.index-seats-instance.result).id
          (get_or states c.loop-instance.instance [])
          (saved_at c.args.snaps.now c.args.seats.now states c.loop-instance.instance c.index-seats-instance.result c.requires.saved within);
    }

pub restore-requires-clause-same_length : goal.restore-requires-clause-same_length
restore-requires-clause-same_length c =
    let states = saved c.args.snaps.now c.args.seats.now in
    let within : c.loop-instance.instance < length c.args.seats.now =
    omega (arith, c.requires.units, c.count-instance-end.ensures.count, c.loop-instance-test.true) in
    let words : c.words.result.now ≡ get_or states c.loop-instance.instance [] =
    same_Some c.words.result.now (get_or states c.loop-instance.instance [])
    (sym c.words.ensures.words
    ∙ saved_at c.args.snaps.now c.args.seats.now states c.loop-instance.instance c.index-seats-instance.result c.requires.saved within) in
    let in_states : c.loop-instance.instance < length states =
    subst (λ count. c.loop-instance.instance < count) (sym (length_saved c.args.snaps.now c.args.seats.now)) within in
    ap length words ∙ restored_long states c.args.units.now.states c.loop-instance.instance in_states c.requires.as_long
    ∙ ap (λ (fleet : Fleet). length (get_or fleet.states c.loop-instance.instance [])) (sym c.loop-instance.invariant)

pub loop-instance-preserved : goal.loop-instance-preserved
loop-instance-preserved c =
    let states = saved c.args.snaps.now c.args.seats.now in
    let within : c.loop-instance.instance < length c.args.seats.now =
    omega (arith, c.requires.units, c.count-instance-end.ensures.count, c.loop-instance-test.true) in
    let words : c.words.result.now ≡ get_or states c.loop-instance.instance [] =
    same_Some c.words.result.now (get_or states c.loop-instance.instance [])
    (sym c.words.ensures.words
    ∙ saved_at c.args.snaps.now c.args.seats.now states c.loop-instance.instance c.index-seats-instance.result c.requires.saved within) in
    let in_states : c.loop-instance.instance < length states =
    subst (λ count. c.loop-instance.instance < count) (sym (length_saved c.args.snaps.now c.args.seats.now)) within in
    c.restore.ensures
    ∙ next_restored c.args.units.now c.loop-instance.units states c.loop-instance.instance c.words.result.now in_states c.requires.as_long words
    c.loop-instance.invariant
