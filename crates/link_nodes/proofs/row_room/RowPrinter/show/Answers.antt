use Rattle.link_nodes.proofs.ShownRowLaws.{no_rows, no_row_there}
use Rattle.link_nodes.proofs.row_room.RowPrinter.show.Goals as goal

pub returns-then-not-comes-clause-whole : goal.returns-then-not-comes-clause-whole
returns-then-not-comes-clause-whole g c = no_rows c.args.plan.now c.args.going c.args.node.now.progress c.args.taken c.comes-comes.result
    (g.O.Sink.held c.args.out.now) c.comes-comes.ensures c.if-not-comes.true

pub returns-in-None-clause-whole : goal.returns-in-None-clause-whole
returns-in-None-clause-whole g c = no_row_there c.args.plan.now c.args.going c.args.node.now.progress c.args.taken
    (g.O.Sink.held c.args.out.now) c.in-None.ensures.none
