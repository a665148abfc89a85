-- The five clauses of a call whose words have no form: it reads nothing and writes nothing.
use Rattle.std.proofs.Common.{◌≡◌, ℕ, ◌⊎◌, List, [], ◌∷◌, append-nil, Option, Some, None, Result, Ok, Err, inl, inr, refl, sym, subst, ◌∙◌}
use Rattle.std.specs.Prelude.{IfSome}
use Rattle.std.specs.Io.KnownBytes.{Appends}
use Rattle.std.proofs.KnownBytes.{Appends-nil}
use Rattle.cosim_call.specs.Answers.{Answer, IsEndOfWork, usage_answer}
use Rattle.cosim_call.specs.Calls.{Stream, Promises}
use Rattle.cosim_call.specs.Coming.{Comes, ComesToAnswer}
use Rattle.cosim_call.specs.Notes.{whole, usage_note, refused_note, read_fault_note, write_fault_note, no_memory_note}
use Rattle.cosim_call.specs.Telling.{Tells, TellsEnd}
use Rattle.cosim_call.specs.declared.coming.Served.{Served}
use Rattle.cosim_call.specs.declared.coming.Stopped.{Stopped}
use Rattle.cosim_call.specs.declared.coming.Stopped.TheVariants as stopped
use Rattle.cosim_call.specs.declared.status.Status.{Status}
use Rattle.cosim_call.specs.declared.status.Status.TheVariants as status
use Rattle.cosim_call.proofs.CallLaws.{Facts, facts_answer, promises_told}

-- The answer for words without a form.
abbrev pub IsUsage : List ℕ → Answer → Type 0
IsUsage text answer = answer ≡ usage_answer

comes : (source out : Stream) → ComesToAnswer None IsUsage source source out out status.Usage (usage_note ∷ [])
comes source out = record { gives = by source.bytes; source_quiet = refl; out_quiet = refl; read = λ limit is. absurd (cc) }
  where
    by : (left : Option (List ℕ))
        → IfSome left (λ text. (answer : Answer) × IsUsage text answer
        × (Appends out.bytes out.bytes answer.out × (usage_note ∷ [] ≡ answer.notes) × (status.Usage ≡ answer.status)))
    by None = tt
    by (Some text) = (usage_answer, refl, (Appends-nil out.bytes, refl, refl))

pub promises_usage : (source out notes notes' : Stream) (given : Status) → Tells usage_note status.Usage notes notes' given
    → Promises None IsUsage (record { source = source; out = out; notes = notes }) (record { source = source; out = out; notes = notes' }) given
promises_usage source out notes notes' given told =
    promises_told None IsUsage (record { source = source; out = out; notes = notes })
    (record { source = source; out = out; notes = notes' }) status.Usage given usage_note
    (subst (Facts None IsUsage source source out out status.Usage) (append-nil usage_note)
    (facts_answer None IsUsage source source out out status.Usage (usage_note ∷ []) refl tt (λ _. refl) (comes source out))) told

-- ---- Usage is the status of this call, and of no other

-- Its note is written with it, or can't be written.
pub usage_due : (notes notes' : Stream) (given : Status) → Tells usage_note status.Usage notes notes' given
    → (given ≡ status.Usage) ⊎ (given ≡ status.WriteFault)
unfolding Tells
usage_due notes notes' given (inl told) = inl told.0
usage_due notes notes' given (inr failed) = inr failed.0

other_told : (text : List ℕ) (wanted given : Status) (notes notes' : Stream) → (wanted ≡ status.Usage → ⊥) → Tells text wanted notes notes' given
    → given ≡ status.Usage → ⊥
unfolding Tells
other_told text wanted given notes notes' other (inl told) usage = other (sym told.0 ∙ usage)
other_told text wanted given notes notes' other (inr failed) usage = write_fault (sym failed.0 ∙ usage)
  where
    write_fault : status.WriteFault ≡ status.Usage → ⊥
    write_fault is = cc

-- A command has other statuses.
pub never_usage : (input : Option ℕ) (IsAnswer : List ℕ → Answer → Type 0) (source source' out out' notes notes' : Stream)
    (came : Result Served Stopped) (given : Status) → Comes input IsAnswer source source' out out' came → TellsEnd came notes notes' given
    → given ≡ status.Usage → ⊥
never_usage input IsAnswer source source' out out' notes notes' (Ok served) given comes told =
    other_told (whole served.notes) served.status given notes notes' (λ is. subst IsEndOfWork is comes.to.1) told
never_usage input IsAnswer source source' out out' notes notes' (Err (stopped.Refused line rule)) given comes (inl told) =
    other_told (refused_note line rule) status.Refused given notes notes' (λ is. cc) told
never_usage input IsAnswer source source' out out' notes notes' (Err (stopped.Refused line rule)) given comes (inr told) =
    other_told no_memory_note status.NoMemory given notes notes' (λ is. cc) told
never_usage input IsAnswer source source' out out' notes notes' (Err stopped.ReadFault) given comes told =
    other_told read_fault_note status.ReadFault given notes notes' (λ is. cc) told
never_usage input IsAnswer source source' out out' notes notes' (Err stopped.WriteFault) given comes told =
    other_told write_fault_note status.WriteFault given notes notes' (λ is. cc) told
never_usage input IsAnswer source source' out out' notes notes' (Err stopped.NoMemory) given comes told =
    other_told no_memory_note status.NoMemory given notes notes' (λ is. cc) told
