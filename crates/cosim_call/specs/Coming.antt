-- What a command has to ensure before its result is reported: what it has read and written, and the result.
use Rattle.std.specs.Prelude.{◌≡◌, ℕ, ◌<◌, ◌≤◌, List, [], ◌∷◌, length, Option, Some, None, IfSome, Result, Ok, Err, ◌⊎◌, ⊤, Vec, vec_len}
use Rattle.std.specs.declared.alloc.Global.{Global}
use Rattle.std.specs.Io.KnownBytes.{Appends, IsAtEnd}
use Rattle.cosim_io.specs.Pieces.{AppendsPrefix}
use Rattle.cosim_call.specs.Answers.{Answer, IsEndOfWork, piece_answer, refused_answer}
use Rattle.cosim_call.specs.Calls.{Stream, Fails, HasAnswer, BeginsAnswer, TakesAtMost}
use Rattle.cosim_call.specs.Notes.{refused_note}
use Rattle.cosim_call.specs.declared.coming.Served.{Served}
use Rattle.cosim_call.specs.declared.coming.Stopped.{Stopped}
use Rattle.cosim_call.specs.declared.coming.Stopped.TheVariants as stopped
use Rattle.cosim_call.specs.declared.status.Status.{Status}
use Rattle.cosim_call.specs.declared.status.Status.TheVariants as status

-- ---- On a whole text

-- What was written is a prefix of the bytes of one of these answers, or nothing was written.
abbrev pub Begins : (Answer → Type 0) → Stream → Stream → Type 0
Begins IsAnswer out out' = (out'.bytes ≡ out.bytes) ⊎ ((answer : Answer) × IsAnswer answer × AppendsPrefix out.bytes out'.bytes answer.out)

-- The bytes of the answer were written, and these are its notes and its status.
pub record PutsAnswer (IsAnswer : Answer → Type 0) (out out' : Stream) (served : Served) : Type 0 where
  pub answer : Answer
  pub is : IsAnswer answer
  pub put : Appends out.bytes out'.bytes answer.out
  pub notes : served.notes ≡ answer.notes
  pub status : served.status ≡ answer.status
  pub ends : IsEndOfWork served.status

-- What a command has to ensure on a whole text with these answers.
abbrev pub Serves : (Answer → Type 0) → Stream → Stream → Result Served Stopped → Type 0
Serves IsAnswer out out' (Ok served) = PutsAnswer IsAnswer out out' served × (out'.faults ≡ out.faults)
Serves IsAnswer out out' (Err (stopped.Refused line rule)) = IsAnswer (refused_answer line rule) × (out' ≡ out)
Serves IsAnswer out out' (Err stopped.WriteFault) = Begins IsAnswer out out' × Fails out out'
Serves IsAnswer out out' (Err stopped.NoMemory) = Begins IsAnswer out out' × (out'.faults ≡ out.faults)
Serves IsAnswer out out' (Err stopped.ReadFault) = ⊥

-- What a command has to ensure that makes one piece from a whole text: the bytes of an answer without notes, or a refusal.
abbrev pub Makes : (Answer → Type 0) → Result (Vec ℕ Global) Stopped → Type 0
Makes IsAnswer (Ok bytes) = IsAnswer (piece_answer bytes.items)
Makes IsAnswer (Err (stopped.Refused line rule)) = IsAnswer (refused_answer line rule)
Makes IsAnswer (Err stopped.NoMemory) = ⊤
Makes IsAnswer (Err _) = ⊥

-- The piece was written, and there are no notes; or the write failed, and what was written is a prefix of the piece.
abbrev pub PutsPiece : List ℕ → Stream → Stream → Result Served Stopped → Type 0
PutsPiece bytes out out' (Ok served) = (served.status ≡ status.Done) × (served.notes ≡ []) × Appends out.bytes out'.bytes bytes × (out'.faults ≡ out.faults)
PutsPiece bytes out out' (Err stopped.WriteFault) = AppendsPrefix out.bytes out'.bytes bytes × Fails out out'
PutsPiece bytes out out' (Err _) = ⊥

-- The piece that was made is written, or the reason why there is none is passed on.
abbrev pub PutsMade : Result (Vec ℕ Global) Stopped → Stream → Stream → Result Served Stopped → Type 0
PutsMade (Ok bytes) out out' result = PutsPiece bytes.items out out' result
PutsMade (Err why) out out' result = (result ≡ Err why) × (out' ≡ out)

-- ---- On the source

-- The input was read as far as the command requires. A command that reads nothing gets the empty text.
abbrev pub ReadsInput : Option ℕ → Stream → Stream → Result (Vec ℕ Global) Stopped → Type 0
ReadsInput None source source' (Ok text) = (text.items ≡ []) × (source' ≡ source)
ReadsInput None source source' (Err _) = ⊥
ReadsInput (Some limit) source source' (Ok text) =
    IfSome source.bytes (λ left. text.items ≡ left) × IsAtEnd source'.bytes × (source'.faults ≡ source.faults)
ReadsInput (Some limit) source source' (Err (stopped.Refused line rule)) =
    (line ≡ 1) × (rule ≡ 2) × IfSome source.bytes (λ left. limit < length left) × (source'.faults ≡ source.faults)
ReadsInput (Some limit) source source' (Err stopped.ReadFault) = Fails source source'
ReadsInput (Some limit) source source' (Err stopped.NoMemory) = source'.faults ≡ source.faults
ReadsInput (Some limit) source source' (Err stopped.WriteFault) = ⊥

-- The text that is passed on has at most as many bytes as the command takes.
abbrev pub IsInLimit : Option ℕ → Result (Vec ℕ Global) Stopped → Type 0
IsInLimit None result = ⊤
IsInLimit (Some limit) (Ok text) = vec_len text ≤ limit
IsInLimit (Some limit) (Err why) = ⊤

-- The bytes of an answer were written, and these are its notes and its status. The source was read as far as the command requires.
pub record ComesToAnswer (input : Option ℕ) (IsAnswer : List ℕ → Answer → Type 0) (source source' out out' : Stream) (given : Status)
    (notes : List (List ℕ)) : Type 0 where
  pub gives : HasAnswer IsAnswer source (λ answer. Appends out.bytes out'.bytes answer.out × (notes ≡ answer.notes) × (given ≡ answer.status))
  pub source_quiet : source'.faults ≡ source.faults
  pub out_quiet : out'.faults ≡ out.faults
  pub read : (limit : ℕ) → input ≡ Some limit → IsAtEnd source'.bytes ⊎ ((given ≡ status.Refused) × IfSome source.bytes (λ text. limit < length text))

-- The result of a command.
abbrev pub CameTo : Option ℕ → (List ℕ → Answer → Type 0) → Stream → Stream → Stream → Stream → Result Served Stopped → Type 0
CameTo input IsAnswer source source' out out' (Ok served) = ComesToAnswer input IsAnswer source source' out out' served.status served.notes
    × IsEndOfWork served.status
CameTo input IsAnswer source source' out out' (Err (stopped.Refused line rule)) =
    ComesToAnswer input IsAnswer source source' out out' status.Refused (refused_note line rule ∷ []) × (out' ≡ out)
CameTo input IsAnswer source source' out out' (Err stopped.ReadFault) = BeginsAnswer IsAnswer source out out' × Fails source source' × (out' ≡ out)
CameTo input IsAnswer source source' out out' (Err stopped.WriteFault) =
    BeginsAnswer IsAnswer source out out' × (source'.faults ≡ source.faults) × Fails out out'
CameTo input IsAnswer source source' out out' (Err stopped.NoMemory) =
    BeginsAnswer IsAnswer source out out' × (source'.faults ≡ source.faults) × (out'.faults ≡ out.faults)

-- Also, no more was taken from the source than the command may take.
pub record Comes (input : Option ℕ) (IsAnswer : List ℕ → Answer → Type 0) (source source' out out' : Stream) (came : Result Served Stopped) : Type 0 where
  pub taken : TakesAtMost input source source'
  pub to : CameTo input IsAnswer source source' out out' came
