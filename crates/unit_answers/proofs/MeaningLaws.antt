-- The result of a unit's step is the meaning of the key from which the step was made.
use Rattle.std.proofs.Common.{◌≡◌, ◌∙◌, ◌<◌, ◌≤◌, ℕ, ◌+◌, ◌^◌, ℤ, pos, List, ◌++◌, length, take, drop, get_or, set, Some, sym, ap, subst, arith}
use Rattle.std.specs.Prelude.{IfOk}
use Rattle.code_units.specs.Calls.{HasWordsFor, meaning_of}
use Rattle.unit_answers.specs.Answers.{IsProven, step_told}
use Rattle.unit_answers.specs.Keys.{FitsCode, key_held, key_of, meaning}
use Rattle.unit_answers.specs.Proving.{IsStepOf}
use Rattle.unit_answers.specs.declared.answer.Answer.{Answer}
use Rattle.unit_answers.specs.declared.key.Key.{Key}
use Rattle.unit_exec.proofs.SlotLaws.{put_more}
use Rattle.unit_exec.specs.Running.{Running}
use Rattle.unit_exec.specs.declared.want.Want.{Want}
use Rattle.unit_vm.proofs.ValidCodeReadBack.{reads_back}
use Rattle.unit_vm.specs.Programs.{program_words}
use Rattle.unit_vm.specs.Reading.{program_in}
use Rattle.unit_vm.specs.Valid.{HasFacts}
use Rattle.unit_vm.specs.declared.program.CodeFacts.{CodeFacts}

-- One more input has its word.
pub given_more : (old words now : List ℤ) (k : ℕ) → length words ≤ length old → k < length words → now ≡ take k words ++ drop k old
    → set now k (get_or words k (pos 0)) ≡ take (k + 1) words ++ drop (k + 1) old
given_more old words now k room within is =
    ap (λ n. set now n (get_or words k (pos 0))) (sym (none k))
    ∙ put_more old words now 0 k (omega (arith, room)) within (is ∙ ap (λ n. take k words ++ drop n old) (sym (none k)))
    ∙ ap (λ n. take (k + 1) words ++ drop n old) (none (k + 1))
  where
    none : (n : ℕ) → 0 + n ≡ n
    none n = omega arith

module _ (old given : Running) (want : Want) (facts : CodeFacts) (code : old.image.program ≡ want.image.now.value.program)
    (words : HasWordsFor want.image.now.value.program want.state.now want.inputs.now) (in_time : want.time + want.step ≤ 10 ^ 15)
    (valid : HasFacts want.image.now.value.program facts) (is : given ≡ record old { state = want.state.now; inputs = want.inputs.now }) (answer : Answer)
    (made : IsStepOf given want.time want.step answer) where
  -- The code's words encode the code's program.
  written : program_in (program_words want.image.now.value.program) ≡ want.image.now.value.program
  written = reads_back want.image.now.value.program facts valid

  fits : FitsCode (key_of want)
  fits = record { words = subst (λ program. HasWordsFor program want.state.now want.inputs.now) (sym written) words; in_time = in_time }

  gives : meaning (key_of want) ≡ Some (step_told answer)
  gives =
      ap (λ program. meaning_of program want.state.now want.inputs.now want.time want.step) (written ∙ sym code)
      ∙ ap (λ (unit : Running). meaning_of unit.image.program unit.state unit.inputs want.time want.step) (sym is)
      ∙ made.gives

  as_long : IfOk (step_told answer) (λ moved. length moved.state ≡ length want.state.now)
  as_long = subst (λ (unit : Running). IfOk (step_told answer) (λ moved. length moved.state ≡ length unit.state)) is made.each_state

  proven_key : IsProven (record { row = want.row; key = key_of want; answer = step_told answer })
  proven_key = record { fits = fits; is_meaning = gives; each_state = as_long }

pub proven_so : (old given : Running) (want : Want) (key : Key) (answer : Answer) (facts : CodeFacts) → old.image.program ≡ want.image.now.value.program
    → HasWordsFor want.image.now.value.program want.state.now want.inputs.now → want.time + want.step ≤ 10 ^ 15
    → HasFacts want.image.now.value.program facts → key_held key ≡ key_of want
    → given ≡ record old { state = want.state.now; inputs = want.inputs.now } → IsStepOf given want.time want.step answer
    → IsProven (record { row = want.row; key = key_held key; answer = step_told answer })
proven_so old given want key answer facts code words in_time valid key_is is made =
    subst (λ held. IsProven (record { row = want.row; key = held; answer = step_told answer })) (sym key_is)
    (proven_key old given want facts code words in_time valid is answer made)
