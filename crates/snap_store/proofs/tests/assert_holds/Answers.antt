use Rattle.std.proofs.Common.{◌≡◌, sym, ◌∙◌, ap, arith, length}
use Rattle.std.specs.Option.{is_some, option_copied}
use Rattle.snap_store.proofs.ViewLemmas.{words_in_slot}
use Rattle.snap_store.proofs.tests.assert_holds.Goals as goal

pub returns-clause-live : goal.returns-clause-live
returns-clause-live g c =
    let found = sym c.get.ensures ∙ ap option_copied c.expect-words.ensures in
    ap is_some (words_in_slot (λ v. v.items) c.snaps.inside.slots.slots c.snaps.view_is c.args.id _ c.expect-words.result.now c.id.view_is found)

pub returns-clause-length : goal.returns-clause-length
returns-clause-length g c x is =
    let words = c.expect-words.result.now in
    let found = sym c.get.ensures ∙ ap option_copied c.expect-words.ensures in
    let held = words_in_slot (λ v. v.items) c.snaps.inside.slots.slots c.snaps.view_is c.args.id _ words c.id.view_is found in
    let same : words.items ≡ x = cc in
    omega (arith, ap length same, words.ok.0, c.len.ensures)
