-- Structured code: pieces, their instructions, what they do and what they need. Places and counters are left to the machine.
use Rattle.std.specs.Prelude.{ℕ, zero, suc, ◌+◌, ◌-◌, ◌*◌, max, Bool, true, false, ◌&&◌, if◌then◌else◌, nat_eq, nat_le, ℤ, List, [], ◌∷◌, ◌++◌, length, Option}
use Rattle.std.specs.Prelude.{Some, None, unwrap_or}
use Rattle.model_rules.specs.Limits.{turn_limit}
use Rattle.fixed_words.specs.Operations.{is_zero}
use Rattle.unit_vm.specs.declared.instruction.Instruction.{Instruction}
use Rattle.unit_vm.specs.declared.instruction.Instruction.TheVariants.{Jump, JumpFalse, Loop, Next}
use Rattle.unit_vm.specs.declared.instruction.Flow.{Flow}
use Rattle.unit_vm.specs.declared.instruction.Flow.TheVariants as flow
use Rattle.unit_vm.specs.declared.program.Sizes.{Sizes}
use Rattle.unit_vm.specs.Instructions.{takes, leaves, flow_of, is_argued}
use Rattle.unit_vm.specs.Machine.{Work, Did, Does, Fails, Lacks, act, Course, Faults, Stuck, ends}

-- A piece of code: nothing, one instruction that goes on to the next one, one piece after another, or one piece so many times. Or a
-- choice by the word on the stack, between two pieces or between a piece and nothing.
pub data Piece : Type 0 where
  Nothing : Piece
  One : Instruction → Piece
  Then : Piece → Piece → Piece
  Choice : Piece → Piece → Piece
  When : Piece → Piece
  Turns : ℕ → Piece → Piece

-- A choice as code. Where the word is 0 a jump goes to the second piece. After the first piece a jump goes over the second.
abbrev pub choice_code : List Instruction → List Instruction → List Instruction
choice_code first second = JumpFalse (length first + 2) ∷ (first ++ (Jump (length second + 1) ∷ second))

-- Where the word is 0 a jump goes over the code.
abbrev pub when_code : List Instruction → List Instruction
when_code body = JumpFalse (length body + 1) ∷ body

-- A loop of so many turns. Its `next` goes back to the place after the `loop`, where the body begins. If the body is empty, this
-- is the place of the `next` itself.
abbrev pub turns_code : ℕ → List Instruction → List Instruction
turns_code count body = Loop count ∷ (body ++ (Next (length body) ∷ []))

-- The instructions of a piece.
abbrev pub flat : Piece → List Instruction
flat Nothing = []
flat (One instruction) = instruction ∷ []
flat (Then first second) = flat first ++ flat second
flat (Choice first second) = choice_code (flat first) (flat second)
flat (When body) = when_code (flat body)
flat (Turns count body) = turns_code count (flat body)

-- The result of work that continues other work.
abbrev pub and_then : Did → (Work → Did) → Did
and_then (Does work) next = next work
and_then (Fails failed) next = Fails failed
and_then Lacks next = Lacks

-- A word is popped. Where it is 0 the second is done, and otherwise the first.
abbrev pub chosen : (Work → Did) → (Work → Did) → Work → List ℤ → Did
chosen first second work [] = Lacks
chosen first second work (word ∷ rest) = (if is_zero word then second else first) (record work { stack = rest })

-- So many times in sequence.
abbrev pub repeated : ℕ → (Work → Did) → Work → Did
repeated zero body work = Does work
repeated (suc count) body work = and_then (body work) (repeated count body)

-- What a piece does to words.
abbrev pub does : Piece → Work → Did
does Nothing work = Does work
does (One instruction) work = act instruction work
does (Then first second) work = and_then (does first work) (does second)
does (Choice first second) work = chosen (does first) (does second) work work.stack
does (When body) work = chosen (does body) (λ rest. Does rest) work work.stack
does (Turns count body) work = repeated count (does body) work

-- The cost of a piece: each of its instructions counts as many times as the loops around it turn, on any path.
abbrev pub cost : Piece → ℕ
cost Nothing = 0
cost (One instruction) = 1
cost (Then first second) = cost first + cost second
cost (Choice first second) = 1 + cost first + 1 + cost second
cost (When body) = 1 + cost body
cost (Turns count body) = 1 + count * (cost body + 1)

abbrev pub is_on : Flow → Bool
is_on flow.On = true
is_on _ = false

-- A piece is well-made for these sizes: its single instructions go on to the next one, with arguments that the table of
-- operations allows, and its loops turn 1 to 1000 times.
abbrev pub is_made : Sizes → Piece → Bool
is_made sizes Nothing = true
is_made sizes (One instruction) = is_on (flow_of instruction) && is_argued sizes instruction
is_made sizes (Then first second) = is_made sizes first && is_made sizes second
is_made sizes (Choice first second) = is_made sizes first && is_made sizes second
is_made sizes (When body) = is_made sizes body
is_made sizes (Turns count body) = (nat_le 1 count && nat_le count turn_limit) && is_made sizes body

-- The height after one word was popped and then something was done.
abbrev pub popped : (ℕ → Option ℕ) → ℕ → Option ℕ
popped behind zero = None
popped behind (suc height) = behind height

-- A height computed from another one, where that exists.
abbrev pub and_height : Option ℕ → (ℕ → Option ℕ) → Option ℕ
and_height None behind = None
and_height (Some height) behind = behind height

-- The common height that two paths leave.
abbrev pub one_height : Option ℕ → Option ℕ → Option ℕ
one_height (Some one) (Some other) = if nat_eq one other then Some one else None
one_height _ _ = None

-- The height of the stack after a piece, from the one before it. It exists where no operand is missing, both paths of a choice
-- leave one height, and the body of a loop leaves the height unchanged.
abbrev pub height_behind : Piece → ℕ → Option ℕ
height_behind Nothing height = Some height
height_behind (One instruction) height = if nat_le (takes instruction) height then Some (height - takes instruction + leaves instruction) else None
height_behind (Then first second) height = and_height (height_behind first height) (height_behind second)
height_behind (Choice first second) height = popped (λ below. one_height (height_behind first below) (height_behind second below)) height
height_behind (When body) height = popped (λ below. one_height (height_behind body below) (Some below)) height
height_behind (Turns count body) height = one_height (height_behind body height) (Some height)

-- The greatest height at a place of the piece, from the height before it. The place after the piece counts too.
abbrev pub top_of : Piece → ℕ → ℕ
top_of Nothing height = height
top_of (One instruction) height = max height (height - takes instruction + leaves instruction)
top_of (Then first second) height = max (top_of first height) (top_of second (unwrap_or (height_behind first height) 0))
top_of (Choice first second) height = max height (max (top_of first (height - 1)) (top_of second (height - 1)))
top_of (When body) height = max height (top_of body (height - 1))
top_of (Turns count body) height = max height (top_of body height)

-- The code of a part: a piece, and an instruction that ends it.
abbrev pub part_code : Piece → Instruction → List Instruction
part_code piece finish = flat piece ++ (finish ∷ [])

-- The course of such a part, by what the piece does.
abbrev pub finished : Instruction → Did → Course
finished finish (Does work) = ends finish work
finished finish (Fails failed) = Faults failed
finished finish Lacks = Stuck
