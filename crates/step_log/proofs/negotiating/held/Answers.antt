use Rattle.std.proofs.Common.{◌≡◌, ◌∙◌, ◌+◌, ◌<◌, ℕ, length, Some, ap, sym, arith}
use Rattle.std.specs.Prelude.{slice_get}
use Rattle.std.proofs.Common.{take, cond, Bool}
use Rattle.std.proofs.lemmas.List.Sums.{sum_by_push}
use Rattle.std.proofs.lemmas.Option.{slice_get-map}
use Rattle.std.specs.List.{count_by}
use Rattle.std.specs.Option.{option_map}
use Rattle.event_runs.specs.Readings.{pace_of}
use Rattle.list_laws.proofs.Members.{at_place, take_next}
use Rattle.unit_tree.specs.Compositions.{Member}
use Rattle.unit_tree.specs.Negotiation.{is_held}
use Rattle.step_log.proofs.negotiating.held.Goals.{then-is_held, else-is_held}
use Rattle.step_log.proofs.negotiating.held.Goals as goal

pub loop-instance-preserved : goal.loop-instance-preserved
loop-instance-preserved c =
    let members = c.args.plan.now.run.members in
    let factors = (pace_of c.args.plan.now.run).factors in
    let place = c.loop-instance.instance in
    let test : ℕ → Bool = λ factor. is_held factor c.args.t c.args.h in
    let within : place < length members = omega (arith, c.loop-instance-test.true, c.instances-instance-end.ensures.count) in
    let there = at_place members place within in
    let got : slice_get factors place ≡ Some there.0.factor =
    slice_get-map (λ (member : Member). member.factor) members place ∙ ap (option_map (λ (member : Member). member.factor)) there.1 in
    let more : count_by test (take (place + 1) factors) ≡ count_by test (take place factors) + cond (test there.0.factor) 1 0 =
    ap (count_by test) (take_next factors place there.0.factor got) ∙ sum_by_push (λ x. cond (test x) 1 0) (take place factors) there.0.factor in
    let told : test there.0.factor ≡ c.is_held.result = ap test (sym (c.factor.ensures.factor there.0 there.1)) ∙ sym c.is_held.ensures in
    let before = c.loop-instance.invariant in
    elim c.if-is_held.branch [
      | then-is_held w ↦
          (let one : ◌≡◌ {A = ℕ} (cond (test there.0.factor) 1 0) 1 = ap (λ (b : Bool). cond b 1 0) (told ∙ w.if-is_held.true) in
          (omega (arith, w.count-is, before.0, more, one), omega (arith, w.count-is, before.1)))
      | else-is_held w ↦
          (let none : ◌≡◌ {A = ℕ} (cond (test there.0.factor) 1 0) 0 = ap (λ (b : Bool). cond b 1 0) (told ∙ w.if-is_held.false) in
          (omega (arith, w.count-is, before.0, more, none), omega (arith, w.count-is, before.1)))
    ]
