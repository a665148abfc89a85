-- Small pieces, their code, and what they do and need, worked out by hand.
use Rattle.std.specs.Prelude.{◌≡◌, true, false, ℤ, pos, negsuc, List, [], ◌∷◌, Some, None}
use Rattle.fixed_words.specs.declared.types.Ty.TheVariants.{Int64, UInt8}
use Rattle.fixed_words.specs.declared.types.Fault.TheVariants as fault
use Rattle.unit_vm.specs.declared.instruction.Instruction.TheVariants.{Push, Load, Store, Add, Multiply, Negate, Jump, JumpFalse, Loop, Next, Give, Done}
use Rattle.unit_vm.specs.declared.program.Entry.TheVariants.{Output, Step}
use Rattle.unit_vm.specs.declared.program.Program.{Program}
use Rattle.unit_vm.specs.declared.program.Sizes.{Sizes}
use Rattle.unit_vm.specs.Loops.{cost_of}
use Rattle.unit_vm.specs.Machine.{Work, Does, Fails, Lacks, Ends, Faults, run_of}
use Rattle.code_pieces.specs.Pieces.{Piece, Nothing, One, Then, Choice, When, Turns, flat, does, cost, is_made, height_behind, top_of, part_code, finished}

-- 7, or else -2.
abbrev pub seven_or_minus_two : Piece
seven_or_minus_two = Choice (One (Push (pos 7))) (Then (One (Push (pos 2))) (One Negate))

-- Slot 0 is doubled.
abbrev pub doubled : Piece
doubled = Then (Then (One (Load 0)) (One (Push (pos 2)))) (Then (One Multiply) (One (Store 0 UInt8)))

abbrev pub doubled_three_times : Piece
doubled_three_times = Turns 3 doubled

-- One more word on the stack, or not.
abbrev pub perhaps_more : Piece
perhaps_more = When (One (Push (pos 1)))

abbrev pub work_of : List ℤ → List ℤ → Work
work_of stack slots = record { stack = stack; slots = slots; accepted = 0 }

abbrev pub one_state : Sizes
one_state = record { states = 1; inputs = 0; locals = 0 }

-- An output chosen by the state, and a step that doubles it three times.
abbrev pub small_program : Program
small_program = record {
  sizes = one_state;
  outputs = part_code (Then (One (Load 0)) seven_or_minus_two) (Give Int64) ∷ [];
  limit = None;
  step = part_code doubled_three_times Done;
}

pub record PiecesAreWorked : Type 0 where
  pub choice : flat seven_or_minus_two ≡ JumpFalse 3 ∷ Push (pos 7) ∷ Jump 3 ∷ Push (pos 2) ∷ Negate ∷ []
  pub when : flat perhaps_more ≡ JumpFalse 2 ∷ Push (pos 1) ∷ []
  pub loop : flat doubled_three_times ≡ Loop 3 ∷ Load 0 ∷ Push (pos 2) ∷ Multiply ∷ Store 0 UInt8 ∷ Next 4 ∷ []
  pub empty_loop : flat (Turns 2 Nothing) ≡ Loop 2 ∷ Next 0 ∷ []
  pub chooses_first : does seven_or_minus_two (work_of (negsuc 0 ∷ pos 9 ∷ []) []) ≡ Does (work_of (pos 7 ∷ pos 9 ∷ []) [])
  pub chooses_second : does seven_or_minus_two (work_of (pos 0 ∷ pos 9 ∷ []) []) ≡ Does (work_of (negsuc 1 ∷ pos 9 ∷ []) [])
  pub lacks_a_word : does seven_or_minus_two (work_of [] []) ≡ Lacks
  pub leaves_out : does (When (One Add)) (work_of (pos 0 ∷ pos 4 ∷ []) []) ≡ Does (work_of (pos 4 ∷ []) [])
  pub turns : does doubled_three_times (work_of [] (pos 5 ∷ [])) ≡ Does (work_of [] (pos 40 ∷ []))
  pub faults_in_a_turn : does doubled_three_times (work_of [] (pos 64 ∷ [])) ≡ Fails fault.Range
  pub costs : cost seven_or_minus_two ≡ 5
  pub loop_costs : cost (Turns 2 doubled_three_times) ≡ 35
  pub code_costs : cost_of (flat (Turns 2 doubled_three_times)) ≡ 35
  pub height : height_behind seven_or_minus_two 1 ≡ Some 1
  pub two_heights : height_behind perhaps_more 1 ≡ None
  pub grows_in_a_turn : height_behind (Turns 2 (One (Push (pos 1)))) 0 ≡ None
  pub operand_is_missing : height_behind (Then (One (Push (pos 1))) (One Add)) 0 ≡ None
  pub top : top_of doubled_three_times 1 ≡ 3
  pub slot_is_there : is_made one_state doubled ≡ true
  pub slot_is_not_there : is_made one_state (One (Load 3)) ≡ false
  pub no_turn : is_made one_state (Turns 0 Nothing) ≡ false
  pub too_many_turns : is_made one_state (Turns 1001 Nothing) ≡ false
  pub jump_by_itself : is_made one_state (One (Jump 2)) ≡ false
  pub ends : finished (Give UInt8) (Does (work_of (pos 256 ∷ []) [])) ≡ Faults fault.Range
  pub output : run_of small_program (Output 0) (pos 0 ∷ pos 0 ∷ pos 10 ∷ [])
      ≡ Ends (record { stack = negsuc 1 ∷ []; slots = pos 0 ∷ pos 0 ∷ pos 10 ∷ []; accepted = 10 }) (Some (negsuc 1))
  pub step : run_of small_program Step (pos 5 ∷ pos 0 ∷ pos 10 ∷ []) ≡ Ends (record { stack = []; slots = pos 40 ∷ pos 0 ∷ pos 10 ∷ []; accepted = 10 }) None
  pub step_faults : run_of small_program Step (pos 64 ∷ pos 0 ∷ pos 10 ∷ []) ≡ Faults fault.Range
