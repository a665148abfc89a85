use Rattle.std.proofs.Common.{◌≡◌, ap, sym, subst, ◌∙◌, ◌++◌, ◌∷◌, [], arith, true, length, ◌+◌, add-one}
use Rattle.std.proofs.lemmas.List.{length_push}
use Rattle.guess_board.specs.Booking.{journal_state}
use Rattle.guess_board.specs.Journals.{IsBooked, JournalState, counts_of, is_listed, replay_of}
use Rattle.guess_board.specs.declared.counts.LaneCounts.{LaneCounts}
use Rattle.guess_board.specs.declared.journal.Record.{Record}
use Rattle.guess_board.specs.declared.journal.Record.TheVariants.{Back}
use Rattle.guess_board.proofs.JournalLaws.{booked_back, length-without, replay_more}
use Rattle.guess_board.proofs.journal.Journal.give_back.Goals as goal

pub invariant_of-self : goal.invariant_of-self
invariant_of-self c =
    let r = c.self.inside in
    let is = c.self.invariant in
    let n = c.args.ticket in
    let one : Record = Back n in
    let items : c.note.new.records.items ≡ r.records.items ++ one ∷ [] = c.note.ensures.items in
    let out = subst (λ (j : JournalState). is_listed n j.outstanding ≡ true) (sym c.self.view_is) c.requires.outstanding in
    let more = ap length items ∙ length_push r.records.items one in
    let less = ap length c.remove.ensures in
    let one_less = length-without n r.outstanding.items out in
    record {
      booked = subst IsBooked (λ i. record { records = sym items i; outstanding = sym c.remove.ensures i; current = sym c.unless_ended-self-inside.ensures i })
          (booked_back (journal_state r) n out is.booked);
      counts = ap (λ (t : LaneCounts). record t { back = t.back + 1 }) is.counts
          ∙ ap (λ k. record (counts_of (replay_of r.records.items)) { back = k }) (add-one (replay_of r.records.items).back)
          ∙ sym (ap counts_of (ap replay_of items ∙ replay_more r.records.items one));
      room = omega (arith, is.room, c.note.ensures.room);
    }
