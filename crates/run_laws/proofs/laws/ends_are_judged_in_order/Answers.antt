use Rattle.run_laws.proofs.EndLaws.{first_ends_in_order, ends_in_order}
use Rattle.run_laws.proofs.laws.ends_are_judged_in_order.Goals as goal

pub returns : goal.returns
returns c = record { before_trial = first_ends_in_order; from_trial = ends_in_order }
