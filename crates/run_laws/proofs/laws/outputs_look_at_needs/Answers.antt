use Rattle.run_laws.proofs.SeenLaws.{get_same, get_fits}
use Rattle.run_laws.proofs.laws.outputs_look_at_needs.Goals as goal

pub returns : goal.returns
returns c = record { needs = get_same; words = get_fits }
