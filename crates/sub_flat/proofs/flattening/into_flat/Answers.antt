use Rattle.std.proofs.Common.{refl}
use Rattle.sub_flat.proofs.flattening.into_flat.Goals as goal

pub returns : goal.returns
returns c = record { answer = c.whole_system.ensures c.args.nest refl refl c.in_ok-parts.ensures }
