use Rattle.spec_core.proofs.ReplayLaws.{counted_once_lem, every_seed_lem}
use Rattle.spec_core.proofs.laws.every_seed_has_one_replay.Goals as goal

pub returns : goal.returns
returns c = record { some = every_seed_lem; only = counted_once_lem }
