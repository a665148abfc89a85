use Rattle.std.proofs.Common.{refl, sym}
use Rattle.sub_flat.proofs.flattening.flatten.Goals as goal

pub returns : goal.returns
returns c = record { answer = c.whole_system.ensures c.args.nest.now (sym c.in_ok-main.ensures) refl c.in_ok-parts.ensures }
