use Rattle.std.proofs.Common.{ap, sym, subst, arith, None, List, []}
use Rattle.std.specs.Prelude.{ℕ}
use Rattle.guess_board.specs.Journals.{IsBooked, replay_of, counts_of}
use Rattle.guess_board.specs.declared.journal.Record.{Record}
use Rattle.guess_board.proofs.JournalLaws.{booked_new}
use Rattle.guess_board.proofs.journal.Journal.new.Goals as goal

pub invariant_of-result : goal.invariant_of-result
unfolding replay_of
invariant_of-result c =
    let r = c.new.ensures.items in
    let o = c.new-2.ensures.items in
    record {
      booked = subst (λ (rs : List Record). IsBooked (record { records = rs; outstanding = c.new-2.result.items; current = None })) (sym r)
          (subst (λ (ns : List ℕ). IsBooked (record { records = []; outstanding = ns; current = None })) (sym o) booked_new);
      counts = ap (λ (rs : List Record). counts_of (replay_of rs)) (sym r);
      room = rw (r, o) (omega arith);
    }
