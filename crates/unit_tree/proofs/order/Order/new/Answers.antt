use Rattle.unit_tree.specs.Compositions.{run_of}
use Rattle.unit_tree.proofs.RouteLaws.{is_ordered}
use Rattle.unit_tree.proofs.order.Order.new.Goals as goal

pub invariant_of-result : goal.invariant_of-result
invariant_of-result c = is_ordered (run_of c.args.checked.now) (record { places = c.args.places; routes = c.args.routes }) c.requires
