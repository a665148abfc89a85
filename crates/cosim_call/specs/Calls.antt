-- What a call promises, in five clauses: the answer, the prefix, the causes, the whole input and the notes. They take any relation
-- between inputs and their answers, and the greatest number of bytes that the call reads, where it reads.
use Rattle.std.specs.Prelude.{◌≡◌, ℕ, ◌+◌, ◌<◌, List, length, Option, Some, None, IfSome, ◌⊎◌, ⊤}
use Rattle.std.specs.Io.KnownBytes.{Appends, IsAtEnd}
use Rattle.cosim_io.specs.Faults.{Rose}
use Rattle.cosim_io.specs.Pieces.{AppendsPrefix, ConsumesAtMost}
use Rattle.cosim_call.specs.Answers.{Answer, IsEndOfWork}
use Rattle.cosim_call.specs.Notes.{whole, read_fault_note, write_fault_note, no_memory_note}
use Rattle.cosim_call.specs.declared.status.Status.{Status}
use Rattle.cosim_call.specs.declared.status.Status.TheVariants as status

-- A stream at a moment: the bytes that are left in a source or held by a sink, where they are known, and how many times it has
-- failed.
pub record Stream : Type 0 where
  pub bytes : Option (List ℕ)
  pub faults : ℕ

abbrev pub stream : Option (List ℕ) → ℕ → Stream
stream bytes faults = record { bytes = bytes; faults = faults }

-- The streams of a call at a moment.
pub record Streams : Type 0 where
  pub source : Stream
  pub out : Stream
  pub notes : Stream

-- The count of faults rose.
abbrev pub Fails : Stream → Stream → Type 0
Fails before now = Rose before.faults now.faults

-- Some answer for what is left in the source has the property. Nothing is said where what is left is not known.
abbrev pub HasAnswer : (List ℕ → Answer → Type 0) → Stream → (Answer → Type 0) → Type 0
HasAnswer IsAnswer source IsSo = IfSome source.bytes (λ text. (answer : Answer) × IsAnswer text answer × IsSo answer)

-- A status of an answer, and not a fault of the call.
abbrev pub IsOwn : Status → Type 0
IsOwn status.Usage = ⊤
IsOwn status.Refused = ⊤
IsOwn given = IsEndOfWork given

-- No stream failed.
pub record IsQuiet (before now : Streams) : Type 0 where
  pub source : Fails before.source now.source → ⊥
  pub out : Fails before.out now.out → ⊥
  pub notes : Fails before.notes now.notes → ⊥

-- The call gave the answer: what it appended to the output and to the notes, and its status, are the answer's.
pub record Gives (before now : Streams) (given : Status) (answer : Answer) : Type 0 where
  pub out : Appends before.out.bytes now.out.bytes answer.out
  pub notes : Appends before.notes.bytes now.notes.bytes (whole answer.notes)
  pub status : given ≡ answer.status

-- Answer clause: where no stream failed, the call gave an answer, or memory was refused.
abbrev pub AnswerClause : (List ℕ → Answer → Type 0) → Streams → Streams → Status → Type 0
AnswerClause IsAnswer before now given =
    IsQuiet before now → (given ≡ status.NoMemory → ⊥) → HasAnswer IsAnswer before.source (Gives before now given)

-- What was written is a prefix of an answer's bytes.
abbrev pub BeginsAnswer : (List ℕ → Answer → Type 0) → Stream → Stream → Stream → Type 0
BeginsAnswer IsAnswer source out now = HasAnswer IsAnswer source (λ answer. AppendsPrefix out.bytes now.bytes answer.out)

-- Prefix clause: in every case what was written is a prefix of an answer's bytes. A call that ends by Usage, Refused or ReadFault
-- left the output as it was.
pub record PrefixClause (IsAnswer : List ℕ → Answer → Type 0) (before now : Streams) (given : Status) : Type 0 where
  pub begins : BeginsAnswer IsAnswer before.source before.out now.out
  pub nothing : (given ≡ status.Usage) ⊎ ((given ≡ status.Refused) ⊎ (given ≡ status.ReadFault)) → now.out ≡ before.out

-- Cause clause: a fault comes only where its stream failed, and any status of an answer only where an answer has it. Where a stream
-- failed in the call, the status is its fault; a sink's fault comes before the source's.
pub record CauseClause (IsAnswer : List ℕ → Answer → Type 0) (before now : Streams) (given : Status) : Type 0 where
  pub own : IsOwn given → HasAnswer IsAnswer before.source (λ answer. given ≡ answer.status)
  pub read_fault : given ≡ status.ReadFault → Fails before.source now.source
  pub write_fault : given ≡ status.WriteFault → Fails before.out now.out ⊎ Fails before.notes now.notes
  pub out_greater : before.out.faults < now.out.faults → given ≡ status.WriteFault
  pub notes_greater : before.notes.faults < now.notes.faults → given ≡ status.WriteFault
  pub source_greater : before.source.faults < now.source.faults → (given ≡ status.ReadFault) ⊎ ((given ≡ status.WriteFault) × Fails before.notes now.notes)

-- How much was taken from the source. A call that reads at most so many bytes takes at most one byte more, by which it knows that an
-- input is too long. A call that reads nothing left the source as it was.
abbrev pub TakesAtMost : Option ℕ → Stream → Stream → Type 0
TakesAtMost None before now = now ≡ before
TakesAtMost (Some limit) before now = ConsumesAtMost before.bytes now.bytes (limit + 1)

-- Whole-input clause: a call that reads and comes to an answer has read the source to its end, unless it refuses an input of more
-- bytes than it reads. It never takes more than it may.
pub record WholeInputClause (input : Option ℕ) (before now : Streams) (given : Status) : Type 0 where
  pub read : (limit : ℕ) → input ≡ Some limit → IsOwn given
      → IsAtEnd now.source.bytes ⊎ ((given ≡ status.Refused) × IfSome before.source.bytes (λ text. limit < length text))
  pub taken : TakesAtMost input before.source now.source

-- A whole text of notes: that of a fault, or that of an answer.
abbrev pub IsNotesText : (List ℕ → Answer → Type 0) → List ℕ → List ℕ → Type 0
IsNotesText IsAnswer text notes =
    (notes ≡ read_fault_note)
    ⊎ ((notes ≡ write_fault_note) ⊎ ((notes ≡ no_memory_note) ⊎ ((answer : Answer) × IsAnswer text answer × (notes ≡ whole answer.notes))))

-- Notes clause: a fault, or lack of memory, is reported only by its note, where the notes did not fail themselves. Where they failed,
-- they have a prefix of one of the texts that notes may have.
pub record NotesClause (IsAnswer : List ℕ → Answer → Type 0) (before now : Streams) (given : Status) : Type 0 where
  pub read_fault : given ≡ status.ReadFault → Appends before.notes.bytes now.notes.bytes read_fault_note
  pub write_fault : given ≡ status.WriteFault → (Fails before.notes now.notes → ⊥) → Appends before.notes.bytes now.notes.bytes write_fault_note
  pub no_memory : given ≡ status.NoMemory → Appends before.notes.bytes now.notes.bytes no_memory_note
  pub failed : IfSome before.source.bytes (λ text. (notes : List ℕ) × IsNotesText IsAnswer text notes × AppendsPrefix before.notes.bytes now.notes.bytes notes)

-- The five clauses.
pub record Promises (input : Option ℕ) (IsAnswer : List ℕ → Answer → Type 0) (before now : Streams) (given : Status) : Type 0 where
  pub answer : AnswerClause IsAnswer before now given
  pub prefix : PrefixClause IsAnswer before now given
  pub cause : CauseClause IsAnswer before now given
  pub whole_input : WholeInputClause input before now given
  pub notes : NotesClause IsAnswer before now given

-- The streams of a call, from the contents and the faults of each.
abbrev pub streams : Option (List ℕ) → ℕ → Option (List ℕ) → ℕ → Option (List ℕ) → ℕ → Streams
streams left read_faults held put_faults noted note_faults =
    record { source = stream left read_faults; out = stream held put_faults; notes = stream noted note_faults }
