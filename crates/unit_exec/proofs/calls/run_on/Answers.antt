use Rattle.std.proofs.Common.{◌≡◌, ◌∙◌, ◌-◌, ℕ, ℤ, pos, List, [], ◌∷◌, length, ap, refl, w64, to_z}
use Rattle.std.proofs.lemmas.Int.{to_z_pos}
use Rattle.unit_exec.specs.Running.{overwritten}
use Rattle.unit_vm.specs.Machine.{run_of}
use Rattle.unit_exec.proofs.SlotLaws.{runs_alike, lent, leaves_alike}
use Rattle.unit_exec.proofs.calls.run_on.Goals as goal

pub returns-clause-runs : goal.returns-clause-runs
returns-clause-runs c =
    let old : List ℤ = c.args.frame.now.slots in
    let told =
    λ (n : ℕ) (xs : List ℤ) (t s : ℤ).
    overwritten (overwritten (overwritten xs 0 c.args.state.now) (length c.args.state.now) c.args.inputs.now) n (t ∷ s ∷ []) in
    let same : length c.fill.new.slots ≡ length c.args.frame.now.slots = c.fill.auto.slots ∙ ap length c.slots.ensures.value in
    let filled : c.fill.new.slots ≡ told (length old - 2) old (pos c.args.time) (pos c.args.step) =
    c.fill.ensures
    ∙ ap (λ xs. told (length xs - 2) xs (to_z w64 c.args.time) (to_z w64 c.args.step)) c.slots.ensures.value
    ∙ ap (λ t. told (length old - 2) old t (to_z w64 c.args.step)) (to_z_pos w64 c.args.time c.requires.time_is)
    ∙ ap (λ s. told (length old - 2) old (pos c.args.time) s) (to_z_pos w64 c.args.step c.requires.step_is) in
    leaves_alike _ _ c.args.frame.now _ c.run.result c.run.new.frame
    (ap (run_of c.args.code.now c.args.entry) (lent old c.fill.new.slots same ∙ filled)
    ∙ runs_alike c.args.code.now c.args.entry old c.args.state.now c.args.inputs.now c.args.time c.args.step c.requires.words
    (c.slots.ensures.each ∙ c.requires.made.slots))
    refl refl c.run.ensures.runs
