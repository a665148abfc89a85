use Rattle.run_laws.proofs.PositionLaws.{system_has_members, positions_keep}
use Rattle.run_laws.proofs.RunSteps.{step_is_right, stands_are_right}
use Rattle.run_laws.proofs.laws.runs_keep_words.Goals as goal

pub returns : goal.returns
returns c = record { members = system_has_members; words = positions_keep; steps = step_is_right; traces = stands_are_right }
