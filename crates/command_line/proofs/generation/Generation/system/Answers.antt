use Rattle.std.proofs.Common.{◌≡◌, subst}
use Rattle.std.specs.Prelude.{IfOk}
use Rattle.command_line.specs.Generations.{Asked, system_asked}
use Rattle.command_line.proofs.generation.Generation.system.Goals as goal

pub returns : goal.returns
unfolding system_asked
returns c = subst (λ (asked : Asked). IfOk c.generate.result (λ system. system ≡ system_asked asked)) c.self.view_is c.generate.ensures
