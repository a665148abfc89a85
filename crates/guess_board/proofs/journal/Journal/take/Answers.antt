use Rattle.std.proofs.Common.{◌≡◌, ap, sym, subst, ◌∙◌, ◌++◌, ◌∷◌, [], arith, false, length, None, Some, ◌+◌, add-one}
use Rattle.std.proofs.lemmas.List.{length_push}
use Rattle.guess_board.specs.Booking.{journal_state}
use Rattle.guess_board.specs.Journals.{IsBooked, JournalState, counts_of, is_full_journal, next_ticket, replay_of, with_ticket}
use Rattle.guess_board.specs.declared.counts.LaneCounts.{LaneCounts}
use Rattle.guess_board.specs.declared.journal.Record.{Record}
use Rattle.guess_board.specs.declared.journal.Record.TheVariants.{Taken}
use Rattle.guess_board.proofs.JournalLaws.{booked_ticket, next_small, replay_more}
use Rattle.guess_board.proofs.journal.Journal.take.Goals as goal

pub overflow_add-self : goal.overflow_add-self
overflow_add-self c =
    let small = next_small (journal_state c.self.inside) c.self.invariant.booked in
    let same = ap (λ (n : LaneCounts). n.tickets) c.self.invariant.counts in
    omega arith

pub invariant_of-self-2 : goal.invariant_of-self-2
invariant_of-self-2 c =
    let r = c.self.inside in
    let is = c.self.invariant in
    let n = r.counts.tickets in
    let one : Record = Taken n in
    let items : c.note.new.records.items ≡ r.records.items ++ one ∷ [] = c.note.ensures.items ∙ ap (λ xs. xs ++ one ∷ []) c.reserve.ensures.items in
    let outs : c.push.new.self.items ≡ r.outstanding.items ++ n ∷ [] = c.in_ok-push.ensures.items in
    let not_full = subst (λ (j : JournalState). is_full_journal j ≡ false) (sym c.self.view_is) c.requires.room in
    let free = subst (λ (j : JournalState). j.current ≡ None) (sym c.self.view_is) c.requires.free in
    let number : next_ticket (journal_state r) ≡ n = sym (ap (λ (t : LaneCounts). t.tickets) is.counts) in
    let booked : IsBooked (with_ticket (journal_state r) n) =
    subst (λ k. IsBooked (with_ticket (journal_state r) k)) number (booked_ticket (journal_state r) not_full free is.booked) in
    let more = ap length items ∙ length_push r.records.items one in
    let more_out = ap length outs ∙ length_push r.outstanding.items n in
    let room = c.in_ok-reserve.ensures.ok in
    record {
      booked = subst IsBooked (λ i. record { records = sym items i; outstanding = sym outs i; current = Some n }) booked;
      counts = ap (λ (t : LaneCounts). record t { tickets = t.tickets + 1 }) is.counts
          ∙ ap (λ k. record (counts_of (replay_of r.records.items)) { tickets = k }) (add-one (replay_of r.records.items).tickets)
          ∙ sym (ap counts_of (ap replay_of items ∙ replay_more r.records.items one));
      room = omega (arith, r.outstanding.ok.0, c.reserve.new.self.ok.0, ap length c.reserve.ensures.items, c.note.ensures.room);
    }
