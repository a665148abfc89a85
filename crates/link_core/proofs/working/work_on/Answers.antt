use Rattle.std.proofs.Common.{◌≡◌, subst}
use Rattle.link_laws.specs.Making.{move_by, rule_of, stage_at}
use Rattle.link_laws.specs.Nodes.{Progress, moved}
use Rattle.link_laws.specs.declared.taken.Taken.{Taken}
use Rattle.link_core.specs.Noted.{making_in, part_at}
use Rattle.link_core.specs.Ready.{progress_in}
use Rattle.link_core.proofs.WorkLaws.{work_is}
use Rattle.link_core.proofs.working.work_on.Goals as goal

pub returns-clause-worked : goal.returns-clause-worked
returns-clause-worked c = λ kept.
    let did : Progress × Taken = (progress_in c.args.owners.now c.args.me c.go_on.new.units.states c.go_on.new.notes c.go_on.new.course kept, c.go_on.result) in
    work_is c.args.plan.now.run c.args.owners.now c.args.me c.args.units.now.states c.args.notes.now c.make_all.new.notes c.args.course.now kept did
    c.requires.going c.make_all.ensures.made
    (subst (λ all. did ≡ moved (rule_of c.args.plan.now.run c.args.owners.now)
    (progress_in c.args.owners.now c.args.me all c.make_all.new.notes c.args.course.now kept)
    (move_by c.args.plan.now.run c.args.owners.now c.args.me (part_at c.args.owners.now c.args.me c.args.course.now.point c.args.course.now.number all)
    (making_in c.make_all.new.notes).known
    (stage_at c.args.plan.now.run (part_at c.args.owners.now c.args.me c.args.course.now.point c.args.course.now.number all)
    (making_in c.make_all.new.notes).known))) c.make_all.ensures.states (c.go_on.ensures.moved kept))
