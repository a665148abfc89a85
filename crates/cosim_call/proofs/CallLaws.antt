-- The five clauses of a call, from the result of its command and the report of it.
use Rattle.std.proofs.Common.{◌≡◌, ℕ, ◌<◌, ◌⊎◌, List, [], ◌∷◌, length, append-nil, Option, Some, None, Result, Ok, Err, refl, sym, ap, subst, inl, inr, arith}
use Rattle.std.specs.Prelude.{IfSome}
use Rattle.std.specs.Io.KnownBytes.{Appends, IsAtEnd}
use Rattle.cosim_io.specs.Pieces.{AppendsPrefix}
use Rattle.cosim_io.proofs.PieceLemmas.{AppendsPrefix-whole}
use Rattle.cosim_call.specs.Answers.{Answer, IsEndOfWork}
use Rattle.cosim_call.specs.Calls.{Stream, Streams, Fails, HasAnswer, IsOwn, IsQuiet, Gives, BeginsAnswer, IsNotesText, TakesAtMost, Promises}
use Rattle.cosim_call.specs.Coming.{ComesToAnswer, Comes}
use Rattle.cosim_call.specs.Notes.{whole, refused_note, read_fault_note, write_fault_note, no_memory_note}
use Rattle.cosim_call.specs.Telling.{Tells, TellsEnd}
use Rattle.cosim_call.specs.declared.coming.Served.{Served}
use Rattle.cosim_call.specs.declared.coming.Stopped.{Stopped}
use Rattle.cosim_call.specs.declared.coming.Stopped.TheVariants as stopped
use Rattle.cosim_call.specs.declared.status.Status.{Status}
use Rattle.cosim_call.specs.declared.status.Status.TheVariants as status

-- ---- From a status and its text to the clauses

-- The facts from which the clauses follow: what happened before the notes, and the notes with their status.
pub record Facts (input : Option ℕ) (IsAnswer : List ℕ → Answer → Type 0) (source source' out out' : Stream) (wanted : Status)
    (text_of_note : List ℕ) : Type 0 where
  pub front : BeginsAnswer IsAnswer source out out'
  pub nothing : (wanted ≡ status.Usage) ⊎ ((wanted ≡ status.Refused) ⊎ (wanted ≡ status.ReadFault)) → out' ≡ out
  pub own : IsOwn wanted
      → HasAnswer IsAnswer source (λ answer. Appends out.bytes out'.bytes answer.out × (text_of_note ≡ whole answer.notes) × (wanted ≡ answer.status))
  pub fault : (IsOwn wanted → ⊥) → (wanted ≡ status.NoMemory → ⊥) → Fails source source' ⊎ Fails out out'
  pub read_fault : wanted ≡ status.ReadFault → Fails source source' × (text_of_note ≡ read_fault_note)
  pub write_fault : wanted ≡ status.WriteFault → Fails out out' × (text_of_note ≡ write_fault_note)
  pub no_memory : wanted ≡ status.NoMemory → text_of_note ≡ no_memory_note
  pub out_greater : out.faults < out'.faults → wanted ≡ status.WriteFault
  pub source_greater : source.faults < source'.faults → wanted ≡ status.ReadFault
  pub read : (limit : ℕ) → input ≡ Some limit → IsOwn wanted
      → IsAtEnd source'.bytes ⊎ ((wanted ≡ status.Refused) × IfSome source.bytes (λ text. limit < length text))
  pub taken : TakesAtMost input source source'

-- Each status is one of an answer, or that of a fault.
data IsKind (given : Status) : Type 0 where
  answers : IsOwn given → IsKind given
  fails : (given ≡ status.ReadFault) ⊎ (given ≡ status.WriteFault) → IsKind given
  wants : given ≡ status.NoMemory → IsKind given

kind_of : (given : Status) → IsKind given
kind_of status.Done = answers tt
kind_of status.Usage = answers tt
kind_of status.Refused = answers tt
kind_of status.ZeroBudget = answers tt
kind_of status.RowBudget = answers tt
kind_of status.UnitFault = answers tt
kind_of status.StepRefused = answers tt
kind_of status.ReadFault = fails (inl refl)
kind_of status.WriteFault = fails (inr refl)
kind_of status.NoMemory = wants refl

mapped : {A B : Answer → Type 0} (IsAnswer : List ℕ → Answer → Type 0) (source : Stream) → ((answer : Answer) → A answer → B answer)
    → HasAnswer IsAnswer source A → HasAnswer IsAnswer source B
mapped {A} {B} IsAnswer source f has = by source.bytes has
  where
    by : (left : Option (List ℕ)) → IfSome left (λ text. (answer : Answer) × IsAnswer text answer × A answer)
        → IfSome left (λ text. (answer : Answer) × IsAnswer text answer × B answer)
    by None has = tt
    by (Some text) (answer, is, so) = (answer, is, f answer so)

-- The notes have a prefix of a text that notes may have.
noted : (IsAnswer : List ℕ → Answer → Type 0) (left before now : Option (List ℕ)) (text_of_note : List ℕ) → AppendsPrefix before now text_of_note
    → ((text : List ℕ) → IsNotesText IsAnswer text text_of_note)
    → IfSome left (λ text. (notes : List ℕ) × IsNotesText IsAnswer text notes × AppendsPrefix before now notes)
noted IsAnswer None before now text_of_note front is = tt
noted IsAnswer (Some text) before now text_of_note front is = (text_of_note, is text, front)

noted_own : (IsAnswer : List ℕ → Answer → Type 0) (source out out' : Stream) (before now : Option (List ℕ)) (wanted : Status) (text_of_note : List ℕ)
    → AppendsPrefix before now text_of_note
    → HasAnswer IsAnswer source (λ answer. Appends out.bytes out'.bytes answer.out × (text_of_note ≡ whole answer.notes) × (wanted ≡ answer.status))
    → IfSome source.bytes (λ text. (notes : List ℕ) × IsNotesText IsAnswer text notes × AppendsPrefix before now notes)
noted_own IsAnswer source out out' before now wanted text_of_note front has = by source.bytes has
  where
    by : (left : Option (List ℕ))
        → IfSome left (λ text. (answer : Answer) × IsAnswer text answer
        × (Appends out.bytes out'.bytes answer.out × (text_of_note ≡ whole answer.notes) × (wanted ≡ answer.status)))
        → IfSome left (λ text. (notes : List ℕ) × IsNotesText IsAnswer text notes × AppendsPrefix before now notes)
    by None has = tt
    by (Some text) (answer, is, (put, notes, given)) = (text_of_note, inr (inr (inr (answer, is, notes))), front)

noted_by : (input : Option ℕ) (IsAnswer : List ℕ → Answer → Type 0) (source source' out out' : Stream) (wanted : Status) (text_of_note : List ℕ)
    (before now : Option (List ℕ)) → Facts input IsAnswer source source' out out' wanted text_of_note → AppendsPrefix before now text_of_note → IsKind wanted
    → IfSome source.bytes (λ text. (notes : List ℕ) × IsNotesText IsAnswer text notes × AppendsPrefix before now notes)
noted_by input IsAnswer source source' out out' wanted text_of_note before now facts front (answers own) =
    noted_own IsAnswer source out out' before now wanted text_of_note front (facts.own own)
noted_by input IsAnswer source source' out out' wanted text_of_note before now facts front (fails (inl is)) =
    noted IsAnswer source.bytes before now text_of_note front (λ text. inl (facts.read_fault is).1)
noted_by input IsAnswer source source' out out' wanted text_of_note before now facts front (fails (inr is)) =
    noted IsAnswer source.bytes before now text_of_note front (λ text. inr (inl (facts.write_fault is).1))
noted_by input IsAnswer source source' out out' wanted text_of_note before now facts front (wants is) =
    noted IsAnswer source.bytes before now text_of_note front (λ text. inr (inr (inl (facts.no_memory is))))

answer_by : (input : Option ℕ) (IsAnswer : List ℕ → Answer → Type 0) (before now : Streams) (wanted : Status) (text_of_note : List ℕ)
    → Facts input IsAnswer before.source now.source before.out now.out wanted text_of_note → Appends before.notes.bytes now.notes.bytes text_of_note
    → IsQuiet before now → (wanted ≡ status.NoMemory → ⊥) → IsKind wanted → HasAnswer IsAnswer before.source (Gives before now wanted)
answer_by input IsAnswer before now wanted text_of_note facts told quiet more (answers own) =
    mapped IsAnswer before.source
    (λ answer found. record { out = found.0; notes = subst (Appends before.notes.bytes now.notes.bytes) found.1 told; status = found.2 }) (facts.own own)
answer_by input IsAnswer before now wanted text_of_note facts told quiet more (fails (inl is)) = absurd (quiet.source (facts.read_fault is).0)
answer_by input IsAnswer before now wanted text_of_note facts told quiet more (fails (inr is)) = absurd (quiet.out (facts.write_fault is).0)
answer_by input IsAnswer before now wanted text_of_note facts told quiet more (wants is) = absurd (more is)

-- The text was written to the notes.
promises_same : (input : Option ℕ) (IsAnswer : List ℕ → Answer → Type 0) (before now : Streams) (wanted : Status) (text_of_note : List ℕ)
    → Facts input IsAnswer before.source now.source before.out now.out wanted text_of_note → Appends before.notes.bytes now.notes.bytes text_of_note
    → now.notes.faults ≡ before.notes.faults → Promises input IsAnswer before now wanted
promises_same input IsAnswer before now wanted text_of_note facts told same = record {
  answer = λ quiet more. answer_by input IsAnswer before now wanted text_of_note facts told quiet more (kind_of wanted);
  prefix = record { begins = facts.front; nothing = facts.nothing };
  cause = record {
    own = λ own. mapped IsAnswer before.source (λ answer found. found.2) (facts.own own);
    read_fault = λ is. (facts.read_fault is).0;
    write_fault = λ is. inl (facts.write_fault is).0;
    out_greater = facts.out_greater;
    notes_greater = λ more. absurd (omega arith);
    source_greater = λ more. inl (facts.source_greater more);
  };
  whole_input = record { read = facts.read; taken = facts.taken };
  notes = record {
    read_fault = λ is. subst (Appends before.notes.bytes now.notes.bytes) (facts.read_fault is).1 told;
    write_fault = λ is quiet. subst (Appends before.notes.bytes now.notes.bytes) (facts.write_fault is).1 told;
    no_memory = λ is. subst (Appends before.notes.bytes now.notes.bytes) (facts.no_memory is) told;
    failed = noted_by input IsAnswer before.source now.source before.out now.out wanted text_of_note before.notes.bytes now.notes.bytes facts
        (AppendsPrefix-whole before.notes.bytes now.notes.bytes text_of_note told) (kind_of wanted);
  };
}

-- A write fault is none of these.
no_write_fault : (status.WriteFault ≡ status.Usage) ⊎ ((status.WriteFault ≡ status.Refused) ⊎ (status.WriteFault ≡ status.ReadFault)) → ⊥
no_write_fault (inl is) = cc
no_write_fault (inr (inl is)) = cc
no_write_fault (inr (inr is)) = cc

-- Writing it to the notes failed.
promises_failed : (input : Option ℕ) (IsAnswer : List ℕ → Answer → Type 0) (before now : Streams) (wanted : Status) (text_of_note : List ℕ)
    → Facts input IsAnswer before.source now.source before.out now.out wanted text_of_note → AppendsPrefix before.notes.bytes now.notes.bytes text_of_note
    → Fails before.notes now.notes → Promises input IsAnswer before now status.WriteFault
promises_failed input IsAnswer before now wanted text_of_note facts front rose = record {
  answer = λ quiet more. absurd (quiet.notes rose);
  prefix = record { begins = facts.front; nothing = λ is. absurd (no_write_fault is) };
  cause = record {
    own = λ own. absurd own;
    read_fault = λ is. absurd (cc);
    write_fault = λ is. inr rose;
    out_greater = λ more. refl;
    notes_greater = λ more. refl;
    source_greater = λ more. inr (refl, rose);
  };
  whole_input = record { read = λ limit is own. absurd own; taken = facts.taken };
  notes = record {
    read_fault = λ is. absurd (cc);
    write_fault = λ is quiet. absurd (quiet rose);
    no_memory = λ is. absurd (cc);
    failed = noted_by input IsAnswer before.source now.source before.out now.out wanted text_of_note before.notes.bytes now.notes.bytes facts front
        (kind_of wanted);
  };
}

pub promises_told : (input : Option ℕ) (IsAnswer : List ℕ → Answer → Type 0) (before now : Streams) (wanted given : Status) (text_of_note : List ℕ)
    → Facts input IsAnswer before.source now.source before.out now.out wanted text_of_note → Tells text_of_note wanted before.notes now.notes given
    → Promises input IsAnswer before now given
unfolding Tells
promises_told input IsAnswer before now wanted given text_of_note facts (inl (is, told, same)) =
    subst (Promises input IsAnswer before now) (sym is) (promises_same input IsAnswer before now wanted text_of_note facts told same)
promises_told input IsAnswer before now wanted given text_of_note facts (inr (is, front, rose)) =
    subst (Promises input IsAnswer before now) (sym is) (promises_failed input IsAnswer before now wanted text_of_note facts front rose)

-- ---- The facts of each way to end

no_greater : (before now : Stream) → now.faults ≡ before.faults → before.faults < now.faults → ⊥
no_greater before now same more = omega (arith, same, more)

fronts : (input : Option ℕ) (IsAnswer : List ℕ → Answer → Type 0) (source source' out out' : Stream) (given : Status) (notes : List (List ℕ))
    → ComesToAnswer input IsAnswer source source' out out' given notes → BeginsAnswer IsAnswer source out out'
fronts input IsAnswer source source' out out' given notes comes =
    mapped IsAnswer source (λ answer found. AppendsPrefix-whole out.bytes out'.bytes answer.out found.0) comes.gives

other_than : (given other : Status) → IsOwn given → (IsOwn other → ⊥) → given ≡ other → ⊥
other_than given other own not is = not (subst IsOwn is own)

pub facts_answer : (input : Option ℕ) (IsAnswer : List ℕ → Answer → Type 0) (source source' out out' : Stream) (given : Status) (notes : List (List ℕ))
    → TakesAtMost input source source' → IsOwn given → ((given ≡ status.Usage) ⊎ ((given ≡ status.Refused) ⊎ (given ≡ status.ReadFault)) → out' ≡ out)
    → ComesToAnswer input IsAnswer source source' out out' given notes → Facts input IsAnswer source source' out out' given (whole notes)
facts_answer input IsAnswer source source' out out' given notes taken own nothing comes = record {
  front = fronts input IsAnswer source source' out out' given notes comes;
  nothing = nothing;
  own = λ _. mapped IsAnswer source (λ answer found. (found.0, ap whole found.1, found.2)) comes.gives;
  fault = λ not _. absurd (not own);
  read_fault = λ is. absurd (other_than given status.ReadFault own (λ x. x) is);
  write_fault = λ is. absurd (other_than given status.WriteFault own (λ x. x) is);
  no_memory = λ is. absurd (other_than given status.NoMemory own (λ x. x) is);
  out_greater = λ more. absurd (no_greater out out' comes.out_quiet more);
  source_greater = λ more. absurd (no_greater source source' comes.source_quiet more);
  read = λ limit is _. comes.read limit is;
  taken = taken;
}

pub facts_no_memory : (input : Option ℕ) (IsAnswer : List ℕ → Answer → Type 0) (source source' out out' : Stream) → TakesAtMost input source source'
    → BeginsAnswer IsAnswer source out out' → source'.faults ≡ source.faults → out'.faults ≡ out.faults
    → Facts input IsAnswer source source' out out' status.NoMemory no_memory_note
facts_no_memory input IsAnswer source source' out out' taken front reads puts = record {
  front = front;
  nothing = λ is. absurd (other is);
  own = λ own. absurd own;
  fault = λ _ more. absurd (more refl);
  read_fault = λ is. absurd (cc);
  write_fault = λ is. absurd (cc);
  no_memory = λ _. refl;
  out_greater = λ more. absurd (no_greater out out' puts more);
  source_greater = λ more. absurd (no_greater source source' reads more);
  read = λ limit is own. absurd own;
  taken = taken;
}
  where
    other : (status.NoMemory ≡ status.Usage) ⊎ ((status.NoMemory ≡ status.Refused) ⊎ (status.NoMemory ≡ status.ReadFault)) → ⊥
    other (inl is) = cc
    other (inr (inl is)) = cc
    other (inr (inr is)) = cc

pub facts_read_fault : (input : Option ℕ) (IsAnswer : List ℕ → Answer → Type 0) (source source' out out' : Stream) → TakesAtMost input source source'
    → BeginsAnswer IsAnswer source out out' → Fails source source' → out' ≡ out → Facts input IsAnswer source source' out out' status.ReadFault read_fault_note
facts_read_fault input IsAnswer source source' out out' taken front rose same = record {
  front = front;
  nothing = λ _. same;
  own = λ own. absurd own;
  fault = λ _ _. inl rose;
  read_fault = λ _. (rose, refl);
  write_fault = λ is. absurd (cc);
  no_memory = λ is. absurd (cc);
  out_greater = λ more. absurd (no_greater out out' (ap (λ (s : Stream). s.faults) same) more);
  source_greater = λ _. refl;
  read = λ limit is own. absurd own;
  taken = taken;
}

pub facts_write_fault : (input : Option ℕ) (IsAnswer : List ℕ → Answer → Type 0) (source source' out out' : Stream) → TakesAtMost input source source'
    → BeginsAnswer IsAnswer source out out' → source'.faults ≡ source.faults → Fails out out'
    → Facts input IsAnswer source source' out out' status.WriteFault write_fault_note
facts_write_fault input IsAnswer source source' out out' taken front reads rose = record {
  front = front;
  nothing = λ is. absurd (no_write_fault is);
  own = λ own. absurd own;
  fault = λ _ _. inr rose;
  read_fault = λ is. absurd (cc);
  write_fault = λ _. (rose, refl);
  no_memory = λ is. absurd (cc);
  out_greater = λ _. refl;
  source_greater = λ more. absurd (no_greater source source' reads more);
  read = λ limit is own. absurd own;
  taken = taken;
}

ends_own : (given : Status) → IsEndOfWork given → IsOwn given
ends_own status.Usage end = absurd end
ends_own status.Refused end = absurd end
ends_own given end = end

ends_other : (given : Status) {A : Type 0} → IsEndOfWork given → (given ≡ status.Usage) ⊎ ((given ≡ status.Refused) ⊎ (given ≡ status.ReadFault)) → A
ends_other given end (inl is) = absurd (subst IsEndOfWork is end)
ends_other given end (inr (inl is)) = absurd (subst IsEndOfWork is end)
ends_other given end (inr (inr is)) = absurd (subst IsEndOfWork is end)

one_line : (line : List ℕ) → whole (line ∷ []) ≡ line
one_line line = append-nil line

-- The five clauses of a call whose command has a result that was reported.
pub promises_kept : (input : Option ℕ) (IsAnswer : List ℕ → Answer → Type 0) (before now : Streams) (came : Result Served Stopped) (given : Status)
    → Comes input IsAnswer before.source now.source before.out now.out came → TellsEnd came before.notes now.notes given
    → Promises input IsAnswer before now given
promises_kept input IsAnswer before now (Ok served) given comes told =
    promises_told input IsAnswer before now served.status given (whole served.notes)
    (facts_answer input IsAnswer before.source now.source before.out now.out served.status served.notes comes.taken (ends_own served.status comes.to.1)
    (ends_other served.status comes.to.1) comes.to.0) told
promises_kept input IsAnswer before now (Err (stopped.Refused line rule)) given comes (inl told) =
    promises_told input IsAnswer before now status.Refused given (refused_note line rule)
    (subst (Facts input IsAnswer before.source now.source before.out now.out status.Refused) (one_line (refused_note line rule))
    (facts_answer input IsAnswer before.source now.source before.out now.out status.Refused (refused_note line rule ∷ []) comes.taken tt
    (λ _. comes.to.1) comes.to.0)) told
promises_kept input IsAnswer before now (Err (stopped.Refused line rule)) given comes (inr told) =
    promises_told input IsAnswer before now status.NoMemory given no_memory_note
    (facts_no_memory input IsAnswer before.source now.source before.out now.out comes.taken
    (fronts input IsAnswer before.source now.source before.out now.out status.Refused
    (refused_note line rule ∷ []) comes.to.0) comes.to.0.source_quiet comes.to.0.out_quiet) told
promises_kept input IsAnswer before now (Err stopped.ReadFault) given comes told =
    promises_told input IsAnswer before now status.ReadFault given read_fault_note
    (facts_read_fault input IsAnswer before.source now.source before.out now.out comes.taken comes.to.0 comes.to.1 comes.to.2) told
promises_kept input IsAnswer before now (Err stopped.WriteFault) given comes told =
    promises_told input IsAnswer before now status.WriteFault given write_fault_note
    (facts_write_fault input IsAnswer before.source now.source before.out now.out comes.taken comes.to.0 comes.to.1 comes.to.2) told
promises_kept input IsAnswer before now (Err stopped.NoMemory) given comes told =
    promises_told input IsAnswer before now status.NoMemory given no_memory_note
    (facts_no_memory input IsAnswer before.source now.source before.out now.out comes.taken comes.to.0 comes.to.1 comes.to.2) told
