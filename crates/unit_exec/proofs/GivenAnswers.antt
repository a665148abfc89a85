-- A run from an output or the limit that ends has a result.
use Rattle.std.proofs.Common.{◌≡◌, ℕ, zero, suc, Bool, true, false, ℤ, List, [], ◌∷◌, map, length, Option, Some, None, slice_get, Result, Ok, Err, refl, sym}
use Rattle.std.proofs.Common.{ap, ◌∙◌, subst}
use Rattle.std.proofs.lemmas.Option.{get_or_from_slice_get, slice_get_within}
use Rattle.std.specs.Prelude.{All, IsTrue, is_some, take, if◌then◌else◌, unsigned_abs, ⊤}
use Rattle.fixed_words.specs.Operations.{Outcome}
use Rattle.fixed_words.specs.declared.types.Fault.{Fault}
use Rattle.code_units.specs.Calls.{word_given, limit_given, moved_given, slots_with, output_by, greatest_step_with, greatest_step_by}
use Rattle.unit_exec.specs.Images.{Compiled}
use Rattle.unit_tree.specs.Components.{Moved}
use Rattle.unit_vm.specs.Frames.{Held, Leaves}
use Rattle.unit_vm.specs.Instructions.{flow_of, fits_role}
use Rattle.unit_vm.specs.Loops.{cost_of}
use Rattle.unit_vm.specs.Machine.{Work, Did, Does, Fails, Lacks, State, Course, Goes, Ends, Faults, Stuck, goes_on, branches, turns_back, ends_with, ends}
use Rattle.unit_vm.specs.Machine.{follows, turn, then_goes, act, after, opening, run_part, run_of}
use Rattle.unit_vm.specs.Programs.{CodePart, output_part, with_limit}
use Rattle.unit_vm.specs.Valid.{IsPart, AreParts, HasFacts}
use Rattle.unit_vm.specs.declared.instruction.Flow.{Flow}
use Rattle.unit_vm.specs.declared.instruction.Flow.TheVariants as flow
use Rattle.unit_vm.specs.declared.instruction.Instruction.{Instruction}
use Rattle.unit_vm.specs.declared.instruction.Instruction.TheVariants.{Give, Limit, Done}
use Rattle.unit_vm.proofs.Judgements.{are_parts_front}
use Rattle.unit_vm.specs.declared.program.CodeFacts.{CodeFacts}
use Rattle.unit_vm.specs.declared.program.Entry.TheVariants as entry
use Rattle.unit_vm.specs.declared.program.Program.{Program}
use Rattle.unit_vm.specs.declared.program.Role.{Role}
use Rattle.unit_vm.specs.declared.program.Role.TheVariants as role
use Rattle.unit_vm.specs.declared.program.Sizes.{Sizes}

-- A course that does not end without a result.
abbrev pub GivesResult : Course → Type 0
GivesResult (Ends work None) = ⊥
GivesResult _ = ⊤

-- An instruction that ends a run leaves a result.
abbrev EndsWell : Instruction → Type 0
EndsWell instruction = flow_of instruction ≡ flow.End → (work : Work) → GivesResult (ends instruction work)

tested : (test : Bool) (work : Work) (word : ℤ) (failed : Fault) → GivesResult (if test then Ends work (Some word) else Faults failed)
tested true work word failed = tt
tested false work word failed = tt

with_word : (test : ℤ → Bool) (failed : Fault) (work : Work) (stack : List ℤ) → GivesResult (ends_with test failed work stack)
with_word test failed work [] = tt
with_word test failed work (word ∷ rest) = tested (test word) work word failed

output_ends : (instruction : Instruction) → fits_role role.Output instruction ≡ true → EndsWell instruction
output_ends (Give ty) fits is work = with_word _ _ work work.stack
output_ends Limit fits is work = absurd (cc)
output_ends Done fits is work = absurd (cc)
output_ends _ fits is work = absurd (cc)

limit_ends : (instruction : Instruction) → fits_role role.Limit instruction ≡ true → EndsWell instruction
limit_ends Limit fits is work = with_word _ _ work work.stack
limit_ends (Give ty) fits is work = absurd (cc)
limit_ends Done fits is work = absurd (cc)
limit_ends _ fits is work = absurd (cc)

did_well : (state : State) (did : Did) → GivesResult (goes_on state did)
did_well state (Does work) = tt
did_well state (Fails failed) = tt
did_well state Lacks = tt

branch_well : (distance : ℕ) (state : State) (stack : List ℤ) → GivesResult (branches distance state stack)
branch_well distance state [] = tt
branch_well distance state (word ∷ rest) = tt

back_well : (distance : ℕ) (state : State) (counters : List ℕ) → GivesResult (turns_back distance state counters)
back_well distance state [] = tt
back_well distance state (zero ∷ outer) = tt
back_well distance state (suc zero ∷ outer) = tt
back_well distance state (suc (suc left) ∷ outer) = tt

follows_well : (to : Flow) (instruction : Instruction) → flow_of instruction ≡ to → EndsWell instruction → (state : State)
    → GivesResult (follows to instruction state)
follows_well flow.On instruction is well state = did_well state (act instruction state.work)
follows_well (flow.Ahead distance) instruction is well state = tt
follows_well (flow.Branch distance) instruction is well state = branch_well distance state state.work.stack
follows_well (flow.Open count) instruction is well state = tt
follows_well (flow.Back distance) instruction is well state = back_well distance state state.counters
follows_well flow.End instruction is well state = well is state.work

module _ (code : List Instruction) (all_well : (place : ℕ) (instruction : Instruction) → slice_get code place ≡ Some instruction → EndsWell instruction) where
  turn_well : (found : Option Instruction) (state : State) → slice_get code state.place ≡ found → GivesResult (turn found state)
  turn_well None state is = tt
  turn_well (Some instruction) state is = follows_well (flow_of instruction) instruction refl (all_well state.place instruction is) state

  then_well : (count : ℕ) → ((state : State) → GivesResult (after code count state)) → (course : Course) → GivesResult course
      → GivesResult (then_goes course (after code count))
  then_well count rest (Goes state) well = rest state
  then_well count rest (Ends work answer) well = well
  then_well count rest (Faults failed) well = well
  then_well count rest Stuck well = well

  pub after_well : (count : ℕ) (state : State) → GivesResult (after code count state)
  after_well zero state = tt
  after_well (suc count) state =
      then_well count (after_well count) (turn (slice_get code state.place) state) (turn_well (slice_get code state.place) state refl)

-- ---- Parts of a valid program

each_fits : (kind : Role) (code : List Instruction) → All (λ instruction. IsTrue (fits_role kind instruction)) code → (place : ℕ) (instruction : Instruction)
    → slice_get code place ≡ Some instruction → fits_role kind instruction ≡ true
each_fits kind code all place instruction is =
    subst (λ (i : Instruction). fits_role kind i ≡ true) (get_or_from_slice_get code place instruction instruction is)
    (all place instruction (slice_get_within code place instruction is))

pub record HasHeights (sizes : Sizes) (part : CodePart) : Type 0 where
  pub heights : List ℕ
  pub valid : IsPart sizes part heights

output_at : (sizes : Sizes) (outputs : List (List Instruction)) (marks : List (List ℕ)) → AreParts sizes (map output_part outputs) marks
    → (number : ℕ) (code : List Instruction) → slice_get outputs number ≡ Some code → HasHeights sizes (output_part code)
output_at sizes [] marks are number code is = absurd (cc)
output_at sizes (first ∷ outputs) [] are number code is = absurd are
output_at sizes (first ∷ outputs) (heights ∷ marks) are zero code is =
    let same : first ≡ code = cc in subst (λ c. HasHeights sizes (output_part c)) same (record { heights = heights; valid = are.0 })
output_at sizes (first ∷ outputs) (heights ∷ marks) are (suc number) code is = output_at sizes outputs marks are.1 number code is

limit_at : (sizes : Sizes) (limit : Option (List Instruction)) (step : CodePart) (marks : List (List ℕ)) → AreParts sizes (with_limit limit step) marks
    → (code : List Instruction) → limit ≡ Some code → HasHeights sizes (record { role = role.Limit; code = code })
limit_at sizes None step marks are code is = absurd (cc)
limit_at sizes (Some some) step [] are code is = absurd are
limit_at sizes (Some some) step (heights ∷ marks) are code is =
    let same : some ≡ code = cc in subst (λ c. HasHeights sizes (record { role = role.Limit; code = c })) same (record { heights = heights; valid = are.0 })

module _ (program : Program) (facts : CodeFacts) (has : HasFacts program facts) where
  from_part : (part : Option (List Instruction)) (slots : List ℤ)
      → ((code : List Instruction) → part ≡ Some code → (state : State) → GivesResult (after code (cost_of code) state))
      → GivesResult (run_part program.sizes part slots)
  from_part None slots well = tt
  from_part (Some code) slots well = well code refl (opening program.sizes slots)

  pub output_well : (number : ℕ) (slots : List ℤ) → GivesResult (run_of program (entry.Output number) slots)
  output_well number slots = from_part (slice_get program.outputs number) slots
      (λ code is state.
      let parts =
      are_parts_front program.sizes (map output_part program.outputs)
      (with_limit program.limit (record { role = role.Step; code = program.step })) has.marks has.parts in
      let here = output_at program.sizes program.outputs parts.0 parts.2 number code is in
      after_well code (λ place instruction at. output_ends instruction (each_fits role.Output code here.valid.endings place instruction at))
      (cost_of code) state)

  pub limit_well : (slots : List ℤ) → GivesResult (run_of program entry.Limit slots)
  limit_well slots = from_part program.limit slots
      (λ code is state.
      let parts =
      are_parts_front program.sizes (map output_part program.outputs)
      (with_limit program.limit (record { role = role.Step; code = program.step })) has.marks has.parts in
      let here = limit_at program.sizes program.limit (record { role = role.Step; code = program.step }) parts.1 parts.3 code is in
      after_well code (λ place instruction at. limit_ends instruction (each_fits role.Limit code here.valid.endings place instruction at)) (cost_of code) state)

-- ---- The results in a frame

abbrev pub Answer : Type 0
Answer = Result (Unit {0}) Fault

abbrev pub word_told : Answer → Held → Outcome
word_told (Ok done) frame = Ok frame.result
word_told (Err failed) frame = Err failed

pub word_is : (course : Course) (before : Held) (result : Answer) (behind : Held) → Leaves course before result behind → GivesResult course
    → word_given course ≡ Some (word_told result behind)
word_is (Ends work (Some word)) before (Ok done) behind is well = ap (λ (frame : Held). Some (Ok frame.result)) (sym is)
word_is (Ends work None) before (Ok done) behind is well = absurd well
word_is (Ends work answer) before (Err failed) behind is well = absurd is
word_is (Faults failed) before (Ok done) behind is well = absurd is
word_is (Faults failed) before (Err told) behind is well = ap (λ f. Some (Err f)) is.0
word_is (Goes state) before (Ok done) behind is well = absurd is
word_is (Goes state) before (Err told) behind is well = absurd is
word_is Stuck before (Ok done) behind is well = absurd is
word_is Stuck before (Err told) behind is well = absurd is

abbrev pub limit_told : Answer → Held → Result (Option ℕ) Fault
limit_told (Ok done) frame = Ok (Some (unsigned_abs frame.result))
limit_told (Err failed) frame = Err failed

pub limit_is : (course : Course) (before : Held) (result : Answer) (behind : Held) → Leaves course before result behind → GivesResult course
    → limit_given course ≡ Some (limit_told result behind)
limit_is (Ends work (Some word)) before (Ok done) behind is well = ap (λ (frame : Held). Some (Ok (Some (unsigned_abs frame.result)))) (sym is)
limit_is (Ends work None) before (Ok done) behind is well = absurd well
limit_is (Ends work answer) before (Err failed) behind is well = absurd is
limit_is (Faults failed) before (Ok done) behind is well = absurd is
limit_is (Faults failed) before (Err told) behind is well = ap (λ f. Some (Err f)) is.0
limit_is (Goes state) before (Ok done) behind is well = absurd is
limit_is (Goes state) before (Err told) behind is well = absurd is
limit_is Stuck before (Ok done) behind is well = absurd is
limit_is Stuck before (Err told) behind is well = absurd is

abbrev pub moved_told : ℕ → Answer → Held → Result Moved Fault
moved_told states (Ok done) frame = Ok (record { state = take states frame.slots; accepted = frame.accepted })
moved_told states (Err failed) frame = Err failed

pub moved_is : (states : ℕ) (course : Course) (before : Held) (result : Answer) (behind : Held) → Leaves course before result behind
    → moved_given states course ≡ Some (moved_told states result behind)
moved_is states (Ends work answer) before (Ok done) behind is =
    ap (λ (frame : Held). Some (Ok (record { state = take states frame.slots; accepted = frame.accepted }))) (sym is)
moved_is states (Ends work answer) before (Err failed) behind is = absurd is
moved_is states (Faults failed) before (Ok done) behind is = absurd is
moved_is states (Faults failed) before (Err told) behind is = ap (λ f. Some (Err f)) is.0
moved_is states (Goes state) before (Ok done) behind is = absurd is
moved_is states (Goes state) before (Err told) behind is = absurd is
moved_is states Stuck before (Ok done) behind is = absurd is
moved_is states Stuck before (Err told) behind is = absurd is

-- ---- Calls

-- The result of a call, from what its run leaves in the frame.
module _ (image : Compiled) (facts : CodeFacts) (has : HasFacts image.program facts) (code : Program) (same : code ≡ image.program)
    (state fed words put : List ℤ) (one : words ≡ state) (other : put ≡ fed) (before behind : Held) (done : Unit {0}) where
  pub got : (number : ℕ) → Leaves (run_of code (entry.Output number) (slots_with code.sizes words put 0 0)) before (Ok done) behind → (word : ℤ)
      → word ≡ behind.result → output_by image.program state fed number ≡ Some (Ok word)
  got number leaves word is =
      let alike : run_of code (entry.Output number) (slots_with code.sizes words put 0 0)
      ≡ run_of image.program (entry.Output number) (slots_with image.program.sizes state fed 0 0) =
      ap (λ (p : Program). run_of p (entry.Output number) (slots_with p.sizes words put 0 0)) same
      ∙ ap (λ xs. run_of image.program (entry.Output number) (slots_with image.program.sizes xs put 0 0)) one
      ∙ ap (λ xs. run_of image.program (entry.Output number) (slots_with image.program.sizes state xs 0 0)) other in
      word_is _ before (Ok done) behind (subst (λ course. Leaves course before (Ok done) behind) alike leaves)
      (output_well image.program facts has number (slots_with image.program.sizes state fed 0 0))
      ∙ ap (λ w. Some (Ok w)) (sym is)

  pub limited : (time : ℕ) → is_some image.program.limit ≡ true
      → Leaves (run_of code entry.Limit (slots_with code.sizes words put time 0)) before (Ok done) behind → (length : ℕ) → length ≡ unsigned_abs behind.result
      → greatest_step_by image.program state fed time ≡ Some (Ok (Some length))
  limited time there leaves length is =
      let alike : run_of code entry.Limit (slots_with code.sizes words put time 0)
      ≡ run_of image.program entry.Limit (slots_with image.program.sizes state fed time 0) =
      ap (λ (p : Program). run_of p entry.Limit (slots_with p.sizes words put time 0)) same
      ∙ ap (λ xs. run_of image.program entry.Limit (slots_with image.program.sizes xs put time 0)) one
      ∙ ap (λ xs. run_of image.program entry.Limit (slots_with image.program.sizes state xs time 0)) other in
      by_limit image.program.limit there
      ∙ limit_is _ before (Ok done) behind (subst (λ course. Leaves course before (Ok done) behind) alike leaves)
      (limit_well image.program facts has (slots_with image.program.sizes state fed time 0))
      ∙ ap (λ n. Some (Ok (Some n))) (sym is)
    where
      by_limit : (given : Option (List Instruction)) → is_some given ≡ true
          → greatest_step_with given image.program state fed time
          ≡ limit_given (run_of image.program entry.Limit (slots_with image.program.sizes state fed time 0))
      by_limit None there = absurd (cc)
      by_limit (Some code) there = refl
