-- How the code keeps a journal.
use Rattle.std.specs.Prelude.{◌≡◌, ◌≤◌, ◌+◌, length}
use Rattle.std.specs.Vec.{vec_capacity}
use Rattle.guess_board.specs.Journals.{JournalState, IsBooked, counts_of, replay_of}
use Rattle.guess_board.specs.declared.journal.Journal.TheInside.{Inside}

-- What contracts see of a journal.
abbrev pub journal_state : Inside → JournalState
journal_state journal =
    record { records = journal.records.items; outstanding = journal.outstanding.items; current = journal.current }

-- The counts are those of its records, and there is space for the record of the end of each outstanding ticket.
pub record IsJournal (journal : Inside) : Type 0 where
  pub booked : IsBooked (journal_state journal)
  pub counts : journal.counts ≡ counts_of (replay_of journal.records.items)
  pub room : length journal.records.items + length journal.outstanding.items ≤ vec_capacity journal.records
