use Rattle.std.proofs.Common.{arith}
use Rattle.link_core.proofs.CountLaws.{at_most}
use Rattle.list_laws.proofs.Options.{on_ok}
use Rattle.link_core.proofs.notes.Notes.reserve.Goals as goal

pub returns-clause-room : goal.returns-clause-room
returns-clause-room c =
    let words = at_most c.args.self.now.words.items in
    let limits = at_most c.args.self.now.limits.items in
    let replies = at_most c.args.self.now.replies.items in
    let redos = at_most c.args.self.now.redos.items in
    on_ok c.reserve.result _ _
    (λ room. grind (
      arith,
      room,
      words,
      limits,
      replies,
      redos,
      c.len.ensures,
      c.len-2.ensures,
      c.len-3.ensures,
      c.len-4.ensures,
      c.saturating_add.ensures,
      c.saturating_add-2.ensures,
      c.saturating_add-items.ensures,
      c.reserve.new.self.small,
      c.reserve.new.self.ok,
      c.args.self.now.facts.ok,
      c.args.self.now.words.ok,
      c.args.self.now.limits.ok,
      c.args.self.now.replies.ok,
      c.args.self.now.redos.ok,
    )) c.reserve.ensures.ok
