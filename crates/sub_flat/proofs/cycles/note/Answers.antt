use Rattle.sub_flat.proofs.SearchLaws.{note_new}
use Rattle.sub_flat.proofs.cycles.note.Goals as goal

pub returns-in_ok-push : goal.returns-in_ok-push
returns-in_ok-push c =
    note_new c.args.seen.now c.args.place c.args.pending.now.items c.push.new.self.items c.requires c.if-not-seen-place.true c.in_ok-push.ensures.items
