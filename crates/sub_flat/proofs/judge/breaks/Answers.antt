use Rattle.std.proofs.Common.{subst, sym}
use Rattle.std.specs.Prelude.{◌↔◌, IfOk, IsTrue}
use Rattle.sub_flat.specs.NestRules.{BreaksGroup}
use Rattle.sub_flat.proofs.judge.breaks.Goals as goal

pub returns-in-Nesting : goal.returns-in-Nesting
returns-in-Nesting c =
    subst (λ rule. IfOk c.contains_itself.result (λ told. IsTrue told ↔ BreaksGroup rule c.args.names.now c.args.place c.args.group.now))
    (sym c.in-Nesting.is) c.contains_itself.ensures
