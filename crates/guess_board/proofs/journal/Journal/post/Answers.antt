use Rattle.std.proofs.Common.{◌≡◌, ap, sym, subst, ◌∙◌, ◌++◌, ◌∷◌, [], arith, true, length, ◌+◌, suc, add-one}
use Rattle.std.proofs.lemmas.List.{length_push}
use Rattle.guess_board.specs.Booking.{journal_state}
use Rattle.guess_board.specs.Journals.{IsBooked, JournalState, Tally, counts_of, is_listed, replay_of}
use Rattle.guess_board.specs.declared.counts.LaneCounts.{LaneCounts}
use Rattle.guess_board.specs.declared.journal.Record.{Record}
use Rattle.guess_board.specs.declared.journal.Record.TheVariants.{Posted}
use Rattle.guess_board.proofs.JournalLaws.{booked_post, count_records, length-without, replay_more}
use Rattle.guess_board.proofs.journal.Journal.post.Goals as goal

pub overflow_add-self-2 : goal.overflow_add-self-2
overflow_add-self-2 c =
    let r = c.self.inside in
    let is = c.self.invariant in
    let most = count_records r.records.items in
    let appended = ap (λ (t : LaneCounts). t.appended) is.counts in
    omega (arith, is.booked.few, is.booked.size, c.requires.few)

pub invariant_of-self : goal.invariant_of-self
invariant_of-self c =
    let r = c.self.inside in
    let is = c.self.invariant in
    let n = c.args.ticket in
    let one : Record = Posted n c.args.appended in
    let items : c.note.new.records.items ≡ r.records.items ++ one ∷ [] = c.note.ensures.items in
    let tally : Tally = replay_of r.records.items in
    let out = subst (λ (j : JournalState). is_listed n j.outstanding ≡ true) (sym c.self.view_is) c.requires.outstanding in
    let more = ap length items ∙ length_push r.records.items one in
    let less = ap length c.remove.ensures in
    let one_less = length-without n r.outstanding.items out in
    record {
      booked = subst IsBooked (λ i. record { records = sym items i; outstanding = sym c.remove.ensures i; current = sym c.unless_ended-self-inside.ensures i })
          (booked_post (journal_state r) n c.args.appended out c.requires.few is.booked);
      counts = ap (λ (t : LaneCounts). record t { posted = t.posted + 1; appended = t.appended + c.from.result }) is.counts
          ∙ ap (λ k. record (counts_of (replay_of r.records.items)) { posted = k; appended = (replay_of r.records.items).appended + c.from.result })
          (add-one (replay_of r.records.items).posted)
          ∙ ap (λ k. counts_of (record tally { posted = suc tally.posted; appended = tally.appended + k })) c.from.ensures
          ∙ sym (ap counts_of (ap replay_of items ∙ replay_more r.records.items one));
      room = omega (arith, is.room, c.note.ensures.room);
    }
