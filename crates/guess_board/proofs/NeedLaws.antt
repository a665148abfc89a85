-- Laws of the next needed step, as the code finds it.
use Rattle.std.proofs.Common.{◌≡◌, ◌==◌, Bool, true, false, ◌&&◌, List, ℤ, refl, sym, ap, ◌∙◌}
use Rattle.std.specs.Prelude.{IsTrue, ◌↔◌}
use Rattle.std.proofs.lemmas.Bool.{and_parts}
use Rattle.guess_board.specs.Chains.{is_same_key, is_same_need, same_words}
use Rattle.guess_board.specs.Matching.{is_same_cell, need_told}
use Rattle.guess_board.specs.declared.needs.Needed.{Needed}
use Rattle.guess_board.proofs.ChainLaws.{keys_same, same_keys, words_itself}
use Rattle.list_laws.proofs.Truths.{and_true}
use Rattle.unit_answers.specs.Keys.{StepKey}

-- Whether keys are equal, as the code found it.
pub key_told : (told : Bool) (key other : StepKey) → (IsTrue told ↔ (other ≡ key)) → told ≡ is_same_key key other
key_told true key other exactly = sym (same_keys key other (sym (exactly.0 refl)))
key_told false key other exactly = by (is_same_key key other) refl
  where
    by : (b : Bool) → is_same_key key other ≡ b → false ≡ is_same_key key other
    by true is = absurd (let e : false ≡ true = exactly.1 (sym (keys_same key other is)) in cc)
    by false is = sym is

joined : (row time step state inputs code : Bool) → ((row && (time && step)) && inputs) ≡ true → code ≡ true
    → state ≡ (row && (time && (step && (state && (inputs && code)))))
joined row time step state inputs code all codes =
    let one = and_parts (row && (time && step)) inputs all in
    let two = and_parts row (time && step) one.0 in
    let three = and_parts time step two.1 in
    sym (ap (λ (b : Bool). b && (time && (step && (state && (inputs && code))))) two.0
    ∙ ap (λ (b : Bool). b && (step && (state && (inputs && code)))) three.0
    ∙ ap (λ (b : Bool). b && (state && (inputs && code))) three.1
    ∙ ap (λ (b : Bool). state && (b && code)) one.1
    ∙ ap (λ (b : Bool). state && b) codes
    ∙ and_true state)

-- The same is needed where the cells and the states are the same.
pub need_same : (code : List ℤ) (one other : Needed) (told : Bool) → is_same_cell one.cell.now other.cell.now ≡ true
    → told ≡ same_words one.state.now other.state.now → told ≡ is_same_need (need_told code one) (need_told code other)
need_same code one other told cells states =
    states
    ∙ joined (one.cell.now.row == other.cell.now.row) (one.cell.now.time == other.cell.now.time) (one.cell.now.step == other.cell.now.step)
    (same_words one.state.now other.state.now) (same_words one.cell.now.inputs other.cell.now.inputs) (same_words code code) cells (words_itself code)
