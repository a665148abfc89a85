use Rattle.wire_graph.proofs.RoutingLaws.{fed_at, fed_past}
use Rattle.wire_graph.proofs.routing.feed.Goals as goal

pub returns : goal.returns
returns c = fed_at c.args.routes.now c.args.place c.args.at _ _ c.if-place-routes.false c.index-routes-place.is c.in_ok-push.ensures.ok

pub returns-then-place-routes : goal.returns-then-place-routes
returns-then-place-routes c = fed_past c.args.routes.now c.args.place c.args.at c.if-place-routes.true
