-- Commands that make one piece of an accepted text, or refuse it.
use Rattle.std.proofs.Common.{◌≡◌, ℕ, List, Result, Ok, Err, refl, sym, subst, inl}
use Rattle.std.specs.Prelude.{IsErrAnd, Vec}
use Rattle.std.specs.declared.alloc.Global.{Global}
use Rattle.text_accept.specs.Accepting.{IsRefusedAt}
use Rattle.cosim_call.specs.Answers.{Answer, piece_answer}
use Rattle.cosim_call.specs.Coming.{Makes}
use Rattle.cosim_call.specs.declared.coming.Stopped.{Stopped}
use Rattle.cosim_call.specs.declared.coming.Stopped.TheVariants as stopped
use Rattle.cosim_answers.specs.Answer.{Answers, RefusedBy}
use Rattle.cosim_answers.specs.Serving.{IsUnaccepted}
use Rattle.command_line.specs.declared.commands.Command.{Command}

-- The reason why a part of a command gives up is passed on.
pub handed_on : {T : Type 0} (Owes : Result T Stopped → Type 0) (result : Result T Stopped) (why : Stopped) → IsErrAnd result (λ found. found ≡ why)
    → Owes (Err why) → Owes result
handed_on Owes (Ok done) why is owed = absurd is
handed_on Owes (Err found) why is owed = subst (λ one. Owes (Err one)) (sym is) owed

-- A piece that was made is an answer, where its bytes are those of one.
pub made : (IsAnswer : Answer → Type 0) (text : List ℕ) (bytes : Vec ℕ Global) → bytes.items ≡ text → IsAnswer (piece_answer text)
    → Makes IsAnswer (Ok bytes)
made IsAnswer text bytes same is = subst (λ (b : List ℕ). IsAnswer (piece_answer b)) (sym same) is

-- A text that is refused by the rules of the language, for a command that refuses all such texts.
pub not_accepted : (command : Command) (text : List ℕ) (why : Stopped) → ((line rule : ℕ) → IsRefusedAt text line rule → RefusedBy command text line rule)
    → IsUnaccepted text why → Makes (Answers command text) (Err why)
not_accepted command text (stopped.Refused line rule) refuses refused =
    inl (record { line = line; rule = rule; refused = refuses line rule refused; is = refl })
not_accepted command text stopped.NoMemory refuses refused = tt
not_accepted command text stopped.ReadFault refuses refused = absurd refused
not_accepted command text stopped.WriteFault refuses refused = absurd refused
