-- From the result of a command on a whole text to the result of the call.
use Rattle.std.proofs.Common.{◌≡◌, ℕ, ◌<◌, List, [], ◌∷◌, length, Option, Some, None, Result, Ok, Err, inl, inr, refl, sym, ap, subst}
use Rattle.std.proofs.lemmas.Option.{same_Some}
use Rattle.std.specs.Prelude.{IfSome, Vec}
use Rattle.std.specs.declared.alloc.Global.{Global}
use Rattle.std.specs.Io.KnownBytes.{Appends, IsAtEnd}
use Rattle.std.proofs.KnownBytes.{Appends-nil}
use Rattle.cosim_io.specs.Pieces.{AppendsPrefix}
use Rattle.cosim_io.proofs.PieceLemmas.{AppendsPrefix-nil}
use Rattle.cosim_call.specs.Answers.{Answer, IsEndOfWork, piece_answer, refused_answer}
use Rattle.cosim_call.specs.Calls.{Stream, HasAnswer, BeginsAnswer, TakesAtMost}
use Rattle.cosim_call.specs.Coming.{Begins, Makes, PutsMade, PutsPiece, Serves, CameTo, Comes, ReadsInput}
use Rattle.cosim_call.specs.Notes.{refused_note}
use Rattle.cosim_call.specs.declared.coming.Served.{Served}
use Rattle.cosim_call.specs.declared.coming.Stopped.{Stopped}
use Rattle.cosim_call.specs.declared.coming.Stopped.TheVariants as stopped
use Rattle.cosim_call.specs.declared.status.Status.TheVariants as status

-- What a call requires of the relation: an answer for each input, and the refusal of one that is too long.
pub record IsAnswered (input : Option ℕ) (IsAnswer : List ℕ → Answer → Type 0) : Type 0 where
  pub some : (text : List ℕ) → (answer : Answer) × IsAnswer text answer
  pub long : (limit : ℕ) (text : List ℕ) → input ≡ Some limit → limit < length text → IsAnswer text (refused_answer 1 2)
  pub free : input ≡ None → (one other : List ℕ) (answer : Answer) → IsAnswer one answer → IsAnswer other answer

-- A text that was read, from a source whose contents are known.
read_text : (A : List ℕ → Type 0) (left : Option (List ℕ)) (text : List ℕ) → IfSome left (λ all. text ≡ all) → A text → IfSome left A
read_text A None text is a = tt
read_text A (Some all) text is a = subst A is a

any_text : {A : List ℕ → Type 0} (left : Option (List ℕ)) → ((text : List ℕ) → A text) → IfSome left A
any_text None a = tt
any_text (Some text) a = a text

-- Nothing was written.
pub nothing_put : (input : Option ℕ) (IsAnswer : List ℕ → Answer → Type 0) (source out out' : Stream) → IsAnswered input IsAnswer → out'.bytes ≡ out.bytes
    → BeginsAnswer IsAnswer source out out'
nothing_put input IsAnswer source out out' lawful same =
    any_text source.bytes (λ text.
    let some = lawful.some text in
    (some.0, some.1, subst (λ (b : Option (List ℕ)). AppendsPrefix out.bytes b some.0.out) (sym same) (AppendsPrefix-nil out.bytes some.0.out)))

front_of : (IsAnswer : List ℕ → Answer → Type 0) (out out' : Stream) (text : List ℕ) → ((answer : Answer) × IsAnswer text answer)
    → Begins (IsAnswer text) out out' → (answer : Answer) × IsAnswer text answer × AppendsPrefix out.bytes out'.bytes answer.out
front_of IsAnswer out out' text some (inl same) =
    (some.0, some.1, subst (λ (b : Option (List ℕ)). AppendsPrefix out.bytes b some.0.out) (sym same) (AppendsPrefix-nil out.bytes some.0.out))
front_of IsAnswer out out' text some (inr begins) = begins

-- What holds of the text with which a call goes on holds of what was left in the source.
abbrev HasRead : Option ℕ → Stream → Stream → List ℕ → Type 0
HasRead None source source' text = source' ≡ source
HasRead (Some limit) source source' text = IfSome source.bytes (λ left. text ≡ left) × IsAtEnd source'.bytes × (source'.faults ≡ source.faults)

same_faults : (input : Option ℕ) (source source' : Stream) (text : List ℕ) → HasRead input source source' text → source'.faults ≡ source.faults
same_faults None source source' text read = ap (λ (s : Stream). s.faults) read
same_faults (Some limit) source source' text read = read.2

at_end : (input : Option ℕ) (source source' : Stream) (text : List ℕ) → HasRead input source source' text → (limit : ℕ) → input ≡ Some limit
    → IsAtEnd source'.bytes
at_end None source source' text read limit is = absurd (cc)
at_end (Some most) source source' text read limit is = read.1

-- An answer for the text is one for what was left.
answer_left : (input : Option ℕ) (IsAnswer : List ℕ → Answer → Type 0) (IsSo : Answer → Type 0) (source source' : Stream) (text : List ℕ)
    → IsAnswered input IsAnswer → HasRead input source source' text → ((answer : Answer) × IsAnswer text answer × IsSo answer) → HasAnswer IsAnswer source IsSo
answer_left None IsAnswer IsSo source source' text lawful read (answer, is, so) =
    any_text source.bytes (λ left. (answer, lawful.free refl text left answer is, so))
answer_left (Some limit) IsAnswer IsSo source source' text lawful read found =
    read_text (λ left. (answer : Answer) × IsAnswer left answer × IsSo answer) source.bytes text read.0 found

came_whole : (input : Option ℕ) (IsAnswer : List ℕ → Answer → Type 0) (source source' out out' : Stream) (text : List ℕ) (came : Result Served Stopped)
    → IsAnswered input IsAnswer → HasRead input source source' text → Serves (IsAnswer text) out out' came → CameTo input IsAnswer source source' out out' came
came_whole input IsAnswer source source' out out' text (Ok served) lawful read (puts, same) = (
  record {
    gives = answer_left input IsAnswer
        (λ answer. Appends out.bytes out'.bytes answer.out × (served.notes ≡ answer.notes) × (served.status ≡ answer.status)) source source' text lawful read
        (puts.answer, puts.is, (puts.put, puts.notes, puts.status));
    source_quiet = same_faults input source source' text read;
    out_quiet = same;
    read = λ limit is. inl (at_end input source source' text read limit is);
  },
  puts.ends,
)
came_whole input IsAnswer source source' out out' text (Err (stopped.Refused line rule)) lawful read (is, same) = (
  record {
    gives = answer_left input IsAnswer
        (λ answer. Appends out.bytes out'.bytes answer.out × (refused_note line rule ∷ [] ≡ answer.notes)
        × (status.Refused ≡ answer.status)) source source' text lawful read
        (refused_answer line rule, is, (subst (λ (s : Stream). Appends out.bytes s.bytes []) (sym same) (Appends-nil out.bytes), refl, refl));
    source_quiet = same_faults input source source' text read;
    out_quiet = ap (λ (s : Stream). s.faults) same;
    read = λ limit is. inl (at_end input source source' text read limit is);
  },
  same,
)
came_whole input IsAnswer source source' out out' text (Err stopped.WriteFault) lawful read (begins, rose) = (
  answer_left input IsAnswer (λ answer. AppendsPrefix out.bytes out'.bytes answer.out) source source' text lawful read
      (front_of IsAnswer out out' text (lawful.some text) begins),
  same_faults input source source' text read,
  rose,
)
came_whole input IsAnswer source source' out out' text (Err stopped.NoMemory) lawful read (begins, same) = (
  answer_left input IsAnswer (λ answer. AppendsPrefix out.bytes out'.bytes answer.out) source source' text lawful read
      (front_of IsAnswer out out' text (lawful.some text) begins),
  same_faults input source source' text read,
  same,
)
came_whole input IsAnswer source source' out out' text (Err stopped.ReadFault) lawful read serves = absurd serves

read_is : (input : Option ℕ) (source source' : Stream) (text : Vec ℕ Global) → ReadsInput input source source' (Ok text)
    → HasRead input source source' text.items
read_is None source source' text reads = reads.1
read_is (Some limit) source source' text reads = reads

-- A command that read its input, and did with the text what it has to.
pub comes_whole : (input : Option ℕ) (IsAnswer : List ℕ → Answer → Type 0) (source source' out out' : Stream) (text : Vec ℕ Global)
    (came : Result Served Stopped) → IsAnswered input IsAnswer → ReadsInput input source source' (Ok text) → TakesAtMost input source source'
    → Serves (IsAnswer text.items) out out' came → Comes input IsAnswer source source' out out' came
comes_whole input IsAnswer source source' out out' text came lawful reads taken serves = record {
  taken = taken;
  to = came_whole input IsAnswer source source' out out' text.items came lawful (read_is input source source' text reads) serves;
}

too_long : (limit : ℕ) (IsAnswer : List ℕ → Answer → Type 0) (out : Stream) (left : Option (List ℕ)) → IsAnswered (Some limit) IsAnswer
    → IfSome left (λ text. limit < length text)
    → IfSome left (λ text. (answer : Answer) × IsAnswer text answer
    × (Appends out.bytes out.bytes answer.out × (refused_note 1 2 ∷ [] ≡ answer.notes) × (status.Refused ≡ answer.status)))
too_long limit IsAnswer out None lawful long = tt
too_long limit IsAnswer out (Some text) lawful long = (refused_answer 1 2, lawful.long limit text refl long, (Appends-nil out.bytes, refl, refl))

-- A command whose input could not be read. Nothing was written.
pub comes_unread : (input : Option ℕ) (IsAnswer : List ℕ → Answer → Type 0) (source source' out : Stream) (why : Stopped) → IsAnswered input IsAnswer
    → ReadsInput input source source' (Err why) → TakesAtMost input source source' → Comes input IsAnswer source source' out out (Err why)
comes_unread None IsAnswer source source' out why lawful reads taken = absurd reads
comes_unread (Some limit) IsAnswer source source' out (stopped.Refused line rule) lawful (line_is, rule_is, long, same) taken = record {
  taken = taken;
  to = subst (λ (l : ℕ). CameTo (Some limit) IsAnswer source source' out out (Err (stopped.Refused l rule))) (sym line_is)
      (subst (λ (r : ℕ). CameTo (Some limit) IsAnswer source source' out out (Err (stopped.Refused 1 r))) (sym rule_is) (
        record {
          gives = too_long limit IsAnswer out source.bytes lawful long;
          source_quiet = same;
          out_quiet = refl;
          read = λ most is. inr (refl, subst (λ (m : ℕ). IfSome source.bytes (λ text. m < length text)) (same_Some limit most is) long);
        },
        refl,
      ));
}
comes_unread (Some limit) IsAnswer source source' out stopped.ReadFault lawful reads taken =
    record { taken = taken; to = (nothing_put (Some limit) IsAnswer source out out lawful refl, reads, refl) }
comes_unread (Some limit) IsAnswer source source' out stopped.NoMemory lawful reads taken =
    record { taken = taken; to = (nothing_put (Some limit) IsAnswer source out out lawful refl, reads, refl) }
comes_unread (Some limit) IsAnswer source source' out stopped.WriteFault lawful reads taken = absurd reads

-- ---- One piece

puts_made : (IsAnswer : Answer → Type 0) (out out' : Stream) (bytes : List ℕ) (result : Result Served Stopped) → IsAnswer (piece_answer bytes)
    → PutsPiece bytes out out' result → Serves IsAnswer out out' result
puts_made IsAnswer out out' bytes (Ok served) is (done, none, put, same) =
    (record { answer = piece_answer bytes; is = is; put = put; notes = none; status = done; ends = subst IsEndOfWork (sym done) tt }, same)
puts_made IsAnswer out out' bytes (Err stopped.WriteFault) is (front, rose) = (inr (piece_answer bytes, is, front), rose)
puts_made IsAnswer out out' bytes (Err stopped.NoMemory) is puts = absurd puts
puts_made IsAnswer out out' bytes (Err stopped.ReadFault) is puts = absurd puts
puts_made IsAnswer out out' bytes (Err (stopped.Refused line rule)) is puts = absurd puts

not_made : (IsAnswer : Answer → Type 0) (out : Stream) (why : Stopped) → Makes IsAnswer (Err why) → Serves IsAnswer out out (Err why)
not_made IsAnswer out (stopped.Refused line rule) makes = (makes, refl)
not_made IsAnswer out stopped.NoMemory makes = (inl refl, refl)
not_made IsAnswer out stopped.ReadFault makes = absurd makes
not_made IsAnswer out stopped.WriteFault makes = absurd makes

-- A command that makes one piece does what it has to.
pub serves_made : (IsAnswer : Answer → Type 0) (out out' : Stream) (made : Result (Vec ℕ Global) Stopped) (result : Result Served Stopped) → Makes IsAnswer made
    → PutsMade made out out' result → Serves IsAnswer out out' result
serves_made IsAnswer out out' (Ok bytes) result makes puts = puts_made IsAnswer out out' bytes.items result makes puts
serves_made IsAnswer out out' (Err why) result makes (is, same) =
    subst (λ (r : Result Served Stopped). Serves IsAnswer out out' r) (sym is)
    (subst (λ (o : Stream). Serves IsAnswer out o (Err why)) (sym same) (not_made IsAnswer out why makes))
