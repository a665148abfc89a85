use Rattle.std.proofs.Common.{◌≡◌, ap, sym, subst, ◌∙◌, ◌++◌, ◌∷◌, [], arith, false, length}
use Rattle.std.proofs.lemmas.List.{length_push}
use Rattle.guess_board.specs.Booking.{journal_state}
use Rattle.guess_board.specs.Journals.{IsBooked, JournalState, counts_of, is_full_journal, replay_of}
use Rattle.guess_board.specs.declared.journal.Record.{Record}
use Rattle.guess_board.specs.declared.journal.Record.TheVariants.{Published}
use Rattle.guess_board.proofs.JournalLaws.{booked_publish, replay_more}
use Rattle.guess_board.proofs.journal.Journal.publish.Goals as goal

pub invariant_of-self-2 : goal.invariant_of-self-2
invariant_of-self-2 c =
    let r = c.self.inside in
    let is = c.self.invariant in
    let one : Record = Published c.args.kept_answers c.args.cut in
    let items : c.note.new.records.items ≡ r.records.items ++ one ∷ [] = c.note.ensures.items ∙ ap (λ xs. xs ++ one ∷ []) c.reserve.ensures.items in
    let not_full = subst (λ (j : JournalState). is_full_journal j ≡ false) (sym c.self.view_is) c.requires.room in
    let more = ap length items ∙ length_push r.records.items one in
    let room = c.in_ok-reserve.ensures.ok in
    record {
      booked = subst IsBooked (λ i. record { records = sym items i; outstanding = r.outstanding.items; current = sym c.current_after-self-inside.ensures i })
          (booked_publish (journal_state r) c.args.kept_answers c.args.cut not_full is.booked);
      counts = is.counts ∙ sym (ap counts_of (ap replay_of items ∙ replay_more r.records.items one));
      room = omega (arith, r.outstanding.ok.0, c.reserve.new.self.ok.0, ap length c.reserve.ensures.items);
    }
