-- An output that only returns the word of a state.
use Rattle.std.proofs.Common.{◌≡◌, ℕ, zero, suc, arith, ◌+◌, ◌<◌, Bool, true, false, ℤ, pos, List, [], ◌∷◌, ◌++◌, length, length-append, subst, take, replicate}
use Rattle.std.proofs.Common.{Some, slice_get, Ok, Err, refl, sym, ap, ◌∙◌}
use Rattle.std.specs.Prelude.{if◌then◌else◌}
use Rattle.std.proofs.lemmas.Option.{slice_get_within}
use Rattle.std.specs.Option.{IfSome}
use Rattle.std.specs.Prelude.{IsSome, Option, None}
use Rattle.code_units.specs.Calls.{output_by}
use Rattle.unit_exec.specs.Showing.{Shows, ShowsBy, ShowStates}
use Rattle.unit_vm.specs.declared.program.Program.{Program}
use Rattle.fixed_words.specs.Types.{is_word_of}
use Rattle.fixed_words.specs.declared.types.Fault.TheVariants as fault
use Rattle.fixed_words.specs.declared.types.Ty.{Ty}
use Rattle.code_units.specs.Calls.{word_given}
use Rattle.unit_exec.specs.Running.{given_word}
use Rattle.unit_vm.specs.Machine.{Work, State, Course, Ends, Faults, goes_on, loads, then_goes, after, opening, with_locals_zero, run_part}
use Rattle.unit_vm.specs.declared.instruction.Instruction.{Instruction}
use Rattle.unit_vm.specs.declared.instruction.Instruction.TheVariants.{Load, Give}
use Rattle.unit_vm.specs.declared.program.Sizes.{Sizes}
use Rattle.list_laws.proofs.Members.{at_front, at_place, at_push}

tested : (fitting : Bool) (work : Work) (word : ℤ) (next : State → Course)
    → word_given (then_goes (if fitting then Ends work (Some word) else Faults fault.Range) next) ≡ Some (if fitting then Ok word else Err fault.Range)
tested true work word next = refl
tested false work word next = refl

-- A word in a prefix of a list.
found_taken : (xs : List ℤ) (count place : ℕ) (word : ℤ) → place < count → slice_get xs place ≡ Some word → slice_get (take count xs) place ≡ Some word
found_taken [] count place word within is = absurd (cc)
found_taken (x ∷ xs) zero place word within is = absurd (omega (arith, within))
found_taken (x ∷ xs) (suc count) zero word within is = is
found_taken (x ∷ xs) (suc count) (suc place) word within is = found_taken xs count place word (omega (arith, within)) is

pub shows : (sizes : Sizes) (slot : ℕ) (ty : Ty) (state rest : List ℤ) (word : ℤ) → length state ≡ sizes.states → slice_get state slot ≡ Some word
    → word_given (run_part sizes (Some (Load slot ∷ Give ty ∷ [])) (state ++ rest)) ≡ Some (given_word ty word)
shows sizes slot ty state rest word each is =
    let within : slot < length state = slice_get_within state slot word is in
    let there : slice_get (with_locals_zero sizes (state ++ rest)) slot ≡ Some word =
    at_front _ _ slot word (found_taken (state ++ rest) (sizes.states + sizes.inputs) slot word (omega arith) (at_front state rest slot word is)) in
    let at : State = opening sizes (state ++ rest) in
    let code : List Instruction = Load slot ∷ Give ty ∷ [] in
    ap (λ found. word_given (then_goes (goes_on at (loads at.work found)) (after code 1))) there
    ∙ tested (is_word_of ty word) _ word _

-- An output for which this is noted exists, and returns the state's word.
module _ (program : Program) (state inputs : List ℤ) (output : ℕ) (shown : ℕ × Ty) (there : output < length program.outputs)
    (each : length state ≡ program.sizes.states) (shows_state : Shows program output shown) where
  found : (part : List Instruction) × (slice_get program.outputs output ≡ Some part)
  found = at_place program.outputs output there

  by : ShowsBy found.0 program.sizes.states shown
  by = shows_state found.0 found.1

  pub slot_within : shown.0 < length state
  slot_within = let l = by.within in omega (arith, l, each)

  pub shown_word : (word : ℤ) → slice_get state shown.0 ≡ Some word → output_by program state inputs output ≡ Some (given_word shown.1 word)
  shown_word word is =
      let rest : List ℤ = inputs ++ (replicate program.sizes.locals (pos 0) ++ (pos 0 ∷ pos 0 ∷ [])) in
      ap (λ part. word_given (run_part program.sizes part (state ++ rest))) (found.1 ∙ ap Some by.is)
      ∙ shows program.sizes shown.0 shown.1 state rest word each is

pub has_output : (program : Program) (output : ℕ) → output < length program.outputs → IsSome (slice_get program.outputs output)
has_output program output there = let one = at_place program.outputs output there in subst IsSome (sym one.1) refl

-- This holds of the first outputs for which it is noted.
pub record ShowSoFar (program : Program) (count : ℕ) (all : List (Option (ℕ × Ty))) : Type 0 where
  pub as_many : length all ≡ count
  pub each : ShowStates program all

pub show_more : (program : Program) (count : ℕ) (all : List (Option (ℕ × Ty))) (one : Option (ℕ × Ty)) → ShowSoFar program count all
    → ((shown : ℕ × Ty) → one ≡ Some shown → Shows program count shown) → ShowSoFar program (count + 1) (all ++ one ∷ [])
show_more program count all one so_far shows_one = record {
  as_many = length-append all (one ∷ []) ∙ ap (λ n. n + 1) so_far.as_many;
  each = λ output shown at.
      at_push (λ output one. (shown : ℕ × Ty) → one ≡ Some shown → Shows program output shown) all one
      (λ output one at shown is. so_far.each output shown (at ∙ ap Some is))
      (subst (λ n. (shown : ℕ × Ty) → one ≡ Some shown → Shows program n shown) (sym so_far.as_many) shows_one) output (Some shown) at shown refl;
}

pub noted_shows : (program : Program) (all : List (Option (ℕ × Ty))) → ShowStates program all → (output : ℕ) (noted : Option (ℕ × Ty))
    → slice_get all output ≡ Some noted → IfSome noted (Shows program output)
noted_shows program all each output None at = tt
noted_shows program all each output (Some shown) at = each output shown at
