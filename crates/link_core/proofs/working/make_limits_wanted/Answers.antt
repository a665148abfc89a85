use Rattle.std.proofs.Common.{◌∙◌, ap, subst, sym}
use Rattle.link_laws.specs.Making.{limits_by, ports_in}
use Rattle.link_core.specs.Noted.{AreFed, making_in, part_at}
use Rattle.link_core.proofs.StepBodies.{limits_stay}
use Rattle.link_core.proofs.working.make_limits_wanted.Goals as goal

pub returns-in-Limits-clause-made : goal.returns-in-Limits-clause-made
returns-in-Limits-clause-made c =
    let ports = ports_in c.args.notes.now.words.items in
    let fed = subst (AreFed c.args.plan.now.run c.args.units.now.inputs ports) c.in-Limits.is c.requires.fed in
    c.make_limits.ensures.made ports fed
    ∙ ap (λ stage. limits_by c.args.plan.now.run c.args.owners.now c.args.me
    (part_at c.args.owners.now c.args.me c.args.point c.args.row c.args.units.now.states) stage (making_in c.args.notes.now)) (sym c.in-Limits.is)

pub returns-in_default-clause-made : goal.returns-in_default-clause-made
returns-in_default-clause-made c =
    limits_stay c.args.plan.now.run c.args.owners.now c.args.me
    (part_at c.args.owners.now c.args.me c.args.point c.args.row c.args.units.now.states) c.args.wanted (making_in c.args.notes.now) c.in_default.not-Limits
