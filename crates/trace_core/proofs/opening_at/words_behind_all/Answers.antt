use Rattle.std.proofs.Common.{◌≡◌, ◌∙◌, ◌+◌, ℤ, List, Bor, drop, Some, None, ap, sym}
use Rattle.std.specs.List.{flat_map}
use Rattle.std.specs.Option.{option_and_then, option_map}
use Rattle.trace_core.proofs.StateWordLaws.{instance_behind}
use Rattle.trace_core.specs.StateWords.{instance_states, words_behind}
use Rattle.unit_tree.specs.declared.system.Instance.{Instance}
use Rattle.trace_core.proofs.opening_at.words_behind_all.Goals as goal

pub returns-in_err-rest : goal.returns-in_err-rest
returns-in_err-rest c =
    let system = c.args.system.now in
    let items = c.as_slice-instance-items.result.now in
    let place = c.loop-instance.instance-index in
    let instance = c.instance-item.result in
    let words = c.loop-instance.rest.now in
    let missing : words_behind (instance_states system instance) words ≡ None =
    ap (λ states. words_behind states words) (sym c.instance_states.ensures) ∙ sym c.in_err-rest.ensures in
    let here = instance_behind system items place instance words c.loop-instance-test.true c.instance-item.is in
    let whole =
    ap (option_and_then (words_behind (flat_map (instance_states system) (drop (place + 1) items)))) (sym missing) ∙ sym here
    ∙ ap (λ (some : List Instance). words_behind (flat_map (instance_states system) (drop place some)) words) c.as_slice-instance-items.ensures
    ∙ c.loop-instance.invariant in
    ap (option_map (λ (behind : Bor (List ℤ)). behind.now)) c.from_residual.ensures ∙ whole

pub loop-instance-preserved : goal.loop-instance-preserved
loop-instance-preserved c =
    let system = c.args.system.now in
    let items = c.as_slice-instance-items.result.now in
    let place = c.loop-instance.instance-index in
    let instance = c.instance-item.result in
    let words = c.loop-instance.rest.now in
    let found : words_behind (instance_states system instance) words ≡ Some c.in_ok-rest.rest.now =
    ap (λ states. words_behind states words) (sym c.instance_states.ensures) ∙ sym c.in_ok-rest.ensures in
    let here = instance_behind system items place instance words c.loop-instance-test.true c.instance-item.is in
    ap (λ (some : List Instance). words_behind (flat_map (instance_states system) (drop (place + 1) some)) c.in_ok-rest.rest.now)
    (sym c.as_slice-instance-items.ensures)
    ∙ ap (option_and_then (words_behind (flat_map (instance_states system) (drop (place + 1) items)))) (sym found)
    ∙ sym here
    ∙ ap (λ (some : List Instance). words_behind (flat_map (instance_states system) (drop place some)) words) c.as_slice-instance-items.ensures
    ∙ c.loop-instance.invariant
