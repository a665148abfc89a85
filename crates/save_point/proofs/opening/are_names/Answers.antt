use Rattle.save_point.proofs.CountLaws.{names_decide}
use Rattle.save_point.proofs.opening.are_names.Goals as goal

pub returns : goal.returns
returns c = names_decide c.args.names.now c.args.instances.now c.same_names.result c.same_names.ensures
