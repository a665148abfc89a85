use Rattle.link_core.proofs.CountLaws.{cleared}
use Rattle.link_core.proofs.notes.Notes.clear.Goals as goal

pub returns-clause-notes : goal.returns-clause-notes
returns-clause-notes c =
    λ run are. cleared run c.args.self.now
    (record {
      words = c.fill.new.items;
      limits = c.fill-2.new.items;
      replies = c.fill-3.new.items;
      redos = c.fill-4.new.items;
      defined = c.fill-5.new.items;
      facts = c.args.self.now.facts;
    })
    c.fill.ensures c.fill-2.ensures c.fill-3.ensures c.fill-4.ensures c.fill-5.ensures are
