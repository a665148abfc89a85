use Rattle.std.proofs.Common.{◌≡◌, true, subst, sym, rules}
use Rattle.trace_core.specs.Arriving.{position_with}
use Rattle.trace_core.proofs.FitLaws.{fits_restored, opened_at, words_for}
use Rattle.trace_plan.specs.Plans.{Planned}
use Rattle.unit_tree.specs.Compositions.{AreMembers}
use Rattle.unit_tree.specs.Plain.{plain_form}
use Rattle.run_laws.proofs.PositionLaws.{system_has_members}
use Rattle.trace_core.proofs.run.Run.open_at.Goals as goal

pub restore_words-requires : goal.restore_words-requires
restore_words-requires c =
    let may : c.may_open.result ≡ true = search rules in
    let shared : c.in_ok-shared.shared.value ≡ c.args.plan.value = search rules in
    words_for c.args.plan.value c.deref-2.result.now c.in_ok-shared.shared.value c.args.row c.args.point c.args.states.now c.in_ok-units.units
    (c.may_open.ensures.may may) c.deref-2.ensures c.in_ok-units.ensures.plan shared

pub open_from-requires-clause-members : goal.open_from-requires-clause-members
open_from-requires-clause-members c =
    subst (λ (plan : Planned). AreMembers plan.run) c.deref.ensures
    (subst AreMembers (sym c.checked.ensures.run) (system_has_members (plain_form c.deref.result.now.system)))

pub open_from-requires-clause-words : goal.open_from-requires-clause-words
open_from-requires-clause-words c =
    let may : c.may_open.result ≡ true = search rules in
    let shared : c.in_ok-shared.shared.value ≡ c.args.plan.value = search rules in
    let fits =
    fits_restored c.args.plan.value c.deref-2.result.now c.in_ok-shared.shared.value c.args.row c.args.point c.args.states.now c.in_ok-units.units
    c.restore_words.new.units (c.may_open.ensures.may may) c.deref-2.ensures c.in_ok-units.ensures.plan shared c.restore_words.ensures in
    fits.has_words

pub returns-clause-opened : goal.returns-clause-opened
returns-clause-opened c =
    let may : c.may_open.result ≡ true = search rules in
    let shared : c.in_ok-shared.shared.value ≡ c.args.plan.value = search rules in
    let fits =
    fits_restored c.args.plan.value c.deref-2.result.now c.in_ok-shared.shared.value c.args.row c.args.point c.args.states.now c.in_ok-units.units
    c.restore_words.new.units (c.may_open.ensures.may may) c.deref-2.ensures c.in_ok-units.ensures.plan shared c.restore_words.ensures in
    opened_at c.args.plan.value c.args.row c.args.point c.args.states.now (position_with c.args.point c.restore_words.new.units.states c.args.row)
    c.in_ok-open_from.field-0 fits c.in_ok-open_from.ensures.opened
