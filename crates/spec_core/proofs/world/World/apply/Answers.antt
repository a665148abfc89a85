use Rattle.std.proofs.Common.{sym, subst}
use Rattle.std.specs.Prelude.{IfOk}
use Rattle.spec_core.specs.Events.{Happens}
use Rattle.spec_core.proofs.world.World.apply.Goals as goal

pub returns-in-Publish-clause-happens : goal.returns-in-Publish-clause-happens
returns-in-Publish-clause-happens c =
    subst (λ event. IfOk c.publish.result (λ reply. Happens c.args.self.now event reply c.publish.new.self)) (sym c.in-Publish.is) c.publish.ensures.happens

pub returns-in-Take-clause-happens : goal.returns-in-Take-clause-happens
returns-in-Take-clause-happens c =
    subst (λ event. IfOk c.take.result (λ reply. Happens c.args.self.now event reply c.take.new.self)) (sym c.in-Take.is) c.take.ensures.happens

pub returns-in-Steal-clause-happens : goal.returns-in-Steal-clause-happens
returns-in-Steal-clause-happens c =
    subst (λ event. IfOk c.steal.result (λ reply. Happens c.args.self.now event reply c.steal.new.self)) (sym c.in-Steal.is) c.steal.ensures.happens

pub returns-in-Post-clause-happens : goal.returns-in-Post-clause-happens
returns-in-Post-clause-happens c =
    subst (λ event. IfOk c.post.result (λ reply. Happens c.args.self.now event reply c.post.new.self)) (sym c.in-Post.is) c.post.ensures.happens

pub returns-in-Back-clause-happens : goal.returns-in-Back-clause-happens
returns-in-Back-clause-happens c = subst (λ event. Happens c.args.self.now event c.give_back.result c.give_back.new.self) (sym c.in-Back.is) c.give_back.ensures

pub returns-in-Compute-clause-happens : goal.returns-in-Compute-clause-happens
returns-in-Compute-clause-happens c = subst (λ event. Happens c.args.self.now event c.compute.result c.compute.new.self) (sym c.in-Compute.is) c.compute.ensures

pub returns-in-Settle-clause-happens : goal.returns-in-Settle-clause-happens
returns-in-Settle-clause-happens c = subst (λ event. Happens c.args.self.now event c.settle.result c.settle.new.self) (sym c.in-Settle.is) c.settle.ensures
