-- Runs of a valid program have results.
use Rattle.std.proofs.Common.{◌≡◌, ℕ, ◌+◌, ◌<◌, ℤ, pos, List, [], ◌∷◌, ◌++◌, length, replicate, Option, Some, None, Result, Ok, Err, refl, sym, ◌∙◌, get_or}
use Rattle.std.proofs.Common.{arith}
use Rattle.std.proofs.lemmas.List.{length-append}
use Rattle.std.proofs.lemmas.Option.{slice_get-get_or}
use Rattle.fixed_words.specs.Operations.{Outcome}
use Rattle.fixed_words.specs.declared.types.Fault.{Fault}
use Rattle.code_units.specs.Calls.{word_given, limit_given, moved_given, slots_with, output_by, greatest_step_with, meaning_of, HasWordsFor}
use Rattle.code_units.proofs.UnitsCompute.{zeros_count}
use Rattle.unit_exec.specs.Laws.{ValidProgramsAnswer}
use Rattle.unit_exec.proofs.GivenAnswers.{GivesResult, output_well, limit_well}
use Rattle.unit_tree.specs.Components.{Moved}
use Rattle.unit_vm.specs.Laws.{IsOver}
use Rattle.unit_vm.specs.Machine.{Course, Goes, Ends, Faults, Stuck}
use Rattle.unit_vm.specs.Valid.{HasFacts}
use Rattle.unit_vm.specs.declared.instruction.Instruction.{Instruction}
use Rattle.unit_vm.specs.declared.program.CodeFacts.{CodeFacts}
use Rattle.unit_vm.specs.declared.program.Entry.TheVariants as entry
use Rattle.unit_vm.specs.declared.program.Program.{Program}
use Rattle.unit_vm.proofs.RunEndings.{valid_runs_end_lem}

word_there : (course : Course) → IsOver course → GivesResult course → (outcome : Outcome) × (word_given course ≡ Some outcome)
word_there (Goes state) over gives = absurd over
word_there (Ends work None) over gives = absurd gives
word_there (Ends work (Some word)) over gives = (Ok word, refl)
word_there (Faults failed) over gives = (Err failed, refl)
word_there Stuck over gives = absurd over

limit_there : (course : Course) → IsOver course → GivesResult course → (told : Result (Option ℕ) Fault) × (limit_given course ≡ Some told)
limit_there (Goes state) over gives = absurd over
limit_there (Ends work None) over gives = absurd gives
limit_there (Ends work (Some word)) over gives = (Ok (Some _), refl)
limit_there (Faults failed) over gives = (Err failed, refl)
limit_there Stuck over gives = absurd over

moved_there : (states : ℕ) (course : Course) → IsOver course → (moved : Result Moved Fault) × (moved_given states course ≡ Some moved)
moved_there states (Goes state) over = absurd over
moved_there states (Ends work answer) over = (Ok _, refl)
moved_there states (Faults failed) over = (Err failed, refl)
moved_there states Stuck over = absurd over

module _ (program : Program) (facts : CodeFacts) (has : HasFacts program facts) (state inputs : List ℤ) (words : HasWordsFor program state inputs) where
  slots_count : (time step : ℕ) → length (slots_with program.sizes state inputs time step) ≡ facts.slots
  slots_count time step =
      let locals : List ℤ = replicate program.sizes.locals (pos 0) in
      let a : length (state ++ (inputs ++ (locals ++ (pos time ∷ pos step ∷ [])))) ≡ length state + length (inputs ++ (locals ++ (pos time ∷ pos step ∷ []))) =
      length-append state (inputs ++ (locals ++ (pos time ∷ pos step ∷ []))) in
      let b : length (inputs ++ (locals ++ (pos time ∷ pos step ∷ []))) ≡ length inputs + length (locals ++ (pos time ∷ pos step ∷ [])) =
      length-append inputs (locals ++ (pos time ∷ pos step ∷ [])) in
      let c : length (locals ++ (pos time ∷ pos step ∷ [])) ≡ length locals + 2 = length-append locals (pos time ∷ pos step ∷ []) in
      let d : length locals ≡ program.sizes.locals = zeros_count program.sizes.locals in
      let e : length state ≡ program.sizes.states = words.each_state in
      let f : length inputs ≡ program.sizes.inputs = words.each_input in
      let all : length (state ++ (inputs ++ (locals ++ (pos time ∷ pos step ∷ [])))) ≡ program.sizes.states + program.sizes.inputs + program.sizes.locals + 2 =
      omega arith in
      all ∙ sym has.slots

  output_answer : (number : ℕ) → number < length program.outputs → (outcome : Outcome) × (output_by program state inputs number ≡ Some outcome)
  output_answer number within =
      word_there _
      (valid_runs_end_lem program facts has (entry.Output number) (get_or program.outputs number []) (slice_get-get_or program.outputs number [] within)
      (slots_with program.sizes state inputs 0 0) (slots_count 0 0)).over
      (output_well program facts has number (slots_with program.sizes state inputs 0 0))

  limit_answer : (given : Option (List Instruction)) → program.limit ≡ given → (time : ℕ)
      → (told : Result (Option ℕ) Fault) × (greatest_step_with given program state inputs time ≡ Some told)
  limit_answer None is time = (Ok None, refl)
  limit_answer (Some code) is time =
      limit_there _ (valid_runs_end_lem program facts has entry.Limit code is (slots_with program.sizes state inputs time 0) (slots_count time 0)).over
      (limit_well program facts has (slots_with program.sizes state inputs time 0))

  step_answer : (time step : ℕ) → (moved : Result Moved Fault) × (meaning_of program state inputs time step ≡ Some moved)
  step_answer time step =
      moved_there program.sizes.states _
      (valid_runs_end_lem program facts has entry.Step program.step refl (slots_with program.sizes state inputs time step) (slots_count time step)).over

pub valid_answers : ValidProgramsAnswer
valid_answers = λ program valid state inputs words. record {
  output = output_answer program valid.0 valid.1 state inputs words;
  limit = limit_answer program valid.0 valid.1 state inputs words program.limit refl;
  step = step_answer program valid.0 valid.1 state inputs words;
}
