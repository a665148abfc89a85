use Rattle.run_laws.proofs.EffectKeeps.{step_keeps}
use Rattle.run_laws.proofs.laws.steps_keep_words.Goals as goal

pub returns : goal.returns
returns c = step_keeps
