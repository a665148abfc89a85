-- The command `upgrade`: what is needed of the system of an accepted text, and why one is refused.
use Rattle.std.proofs.Common.{ℕ, List, Err, refl, inl, inr}
use Rattle.cosim_call.specs.Coming.{Makes}
use Rattle.cosim_call.specs.declared.coming.Stopped.{Stopped}
use Rattle.cosim_call.specs.declared.coming.Stopped.TheVariants as stopped
use Rattle.text_accept.specs.Accepting.{IsAcceptedAs}
use Rattle.text_laws.proofs.ReadIsPrintable.{read_is_printable}
use Rattle.unit_tree.specs.Printable.{IsPrintable}
use Rattle.unit_tree.specs.declared.system.System.{System}
use Rattle.cosim_answers.specs.Answer.{Answers}
use Rattle.cosim_answers.specs.Serving.{Upgrades}
use Rattle.command_line.specs.declared.commands.Command.TheVariants.{Upgrade}

-- The system as which a text is accepted is printable.
pub accepted_is_printable : (text : List ℕ) (system : System) (lines : List ℕ) → IsAcceptedAs text system lines → IsPrintable system
accepted_is_printable text system lines accepted = read_is_printable text system accepted.reads.reads

-- A system that is not upgraded is one of a text that is refused, or memory was refused.
pub not_upgraded : (text : List ℕ) (system : System) (lines : List ℕ) → IsAcceptedAs text system lines → (why : Stopped) → Upgrades system (Err why)
    → Makes (Answers Upgrade text) (Err why)
not_upgraded text system lines accepted (stopped.Refused line rule) refused = inl (record {
  line = line;
  rule = rule;
  refused = inr (record { system = system; lines = lines; accepted = accepted; breaks = refused.2; at = refused.0; by = refused.1 });
  is = refl;
})
not_upgraded text system lines accepted stopped.NoMemory refused = tt
not_upgraded text system lines accepted stopped.ReadFault refused = absurd refused
not_upgraded text system lines accepted stopped.WriteFault refused = absurd refused
