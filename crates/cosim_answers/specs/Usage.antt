-- Words without a form.
use Rattle.std.specs.Prelude.{◌≡◌, ℕ, List, None, ◌⊎◌}
use Rattle.command_line.specs.Commands.{command_of}
use Rattle.cosim_call.specs.declared.status.Status.{Status}
use Rattle.cosim_call.specs.declared.status.Status.TheVariants as status

-- Usage clause: the status is Usage exactly for words without a form, where its note can be written.
pub record UsageClause (words : List (List ℕ)) (given : Status) : Type 0 where
  pub only : given ≡ status.Usage → command_of words ≡ None
  pub due : command_of words ≡ None → (given ≡ status.Usage) ⊎ (given ≡ status.WriteFault)
