use Rattle.save_point.proofs.SavedOnce.{saves_or_breaks}
use Rattle.save_point.proofs.laws.texts_save_or_break.Goals as goal

pub returns : goal.returns
returns c = saves_or_breaks
