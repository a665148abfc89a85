use Rattle.std.proofs.Common.{subst}
use Rattle.std.specs.Prelude.{◌↔◌, IfOk, IsTrue}
use Rattle.sub_flat.specs.Cycles.{LeadsBack}
use Rattle.sub_flat.proofs.cycles.contains_itself.Goals as goal

pub returns : goal.returns
returns c =
    subst (λ inner. IfOk c.contains_itself.result (λ told. IsTrue told ↔ LeadsBack inner c.args.place)) (λ i place. c.requires.inner place i)
    c.contains_itself.ensures
