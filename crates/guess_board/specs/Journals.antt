-- The journal of a lane, and the counts that follow from it.
use Rattle.std.specs.Prelude.{◌≡◌, ℕ, suc, ◌+◌, ◌-◌, ◌*◌, ◌^◌, ◌≤◌, ◌==◌, Bool, true, false, List, [], ◌∷◌, ◌++◌, length, nat_lt}
use Rattle.std.specs.Prelude.{Option, Some, None, IfSome, if◌then◌else◌}
use Rattle.std.specs.List.{list_any}
use Rattle.std.specs.Option.{option_to_list}
use Rattle.guess_board.specs.declared.counts.LaneCounts.{LaneCounts}
use Rattle.guess_board.specs.declared.journal.Record.{Record}
use Rattle.guess_board.specs.declared.journal.Record.TheVariants.{Published, Taken, Posted, Back}

-- ---- Tickets by their numbers

-- Whether a number is among some.
abbrev pub is_listed : ℕ → List ℕ → Bool
is_listed n ns = list_any (λ m. m == n) ns

-- The numbers without the first one that is equal to this one.
abbrev pub without : ℕ → List ℕ → List ℕ
without n [] = []
without n (m ∷ ms) = if m == n then ms else m ∷ without n ms

-- The current ticket after one ended: none, where it was this one.
abbrev pub unless_ended : ℕ → Option ℕ → Option ℕ
unless_ended n None = None
unless_ended n (Some m) = if m == n then None else Some m

-- The current ticket after a publish: none, where the publish cut.
abbrev pub current_after : Bool → Option ℕ → Option ℕ
current_after true current = None
current_after false current = current

abbrev pub live_after : Bool → List ℕ → List ℕ
live_after true live = []
live_after false live = live

-- ---- Replay

-- What follows from the records of a journal: how many tickets were made, posted and given back, and how many answers were appended.
-- Also how many answers there are, the numbers of the outstanding tickets, and that of the current one.
pub record Tally : Type 0 where
  pub tickets : ℕ
  pub posted : ℕ
  pub back : ℕ
  pub appended : ℕ
  pub answers : ℕ
  pub outstanding : List ℕ
  pub current : Option ℕ

abbrev pub no_tally : Tally
no_tally = record { tickets = 0; posted = 0; back = 0; appended = 0; answers = 0; outstanding = []; current = None }

abbrev pub after_record : Tally → Record → Tally
after_record tally (Published kept cut) = record tally { answers = kept; current = current_after cut tally.current }
after_record tally (Taken n) = record tally { tickets = suc tally.tickets; outstanding = tally.outstanding ++ n ∷ []; current = Some n }
after_record tally (Posted n appended) = record tally {
  posted = suc tally.posted;
  appended = tally.appended + appended;
  answers = tally.answers + appended;
  outstanding = without n tally.outstanding;
  current = unless_ended n tally.current;
}
after_record tally (Back n) =
    record tally { back = suc tally.back; outstanding = without n tally.outstanding; current = unless_ended n tally.current }

abbrev pub replay_from : Tally → List Record → Tally
replay_from tally [] = tally
replay_from tally (one ∷ others) = replay_from (after_record tally one) others

-- The replay of a journal.
unfoldable pub replay_of : List Record → Tally
replay_of records = replay_from no_tally records

abbrev pub counts_of : Tally → LaneCounts
counts_of tally = record { tickets = tally.tickets; posted = tally.posted; back = tally.back; appended = tally.appended }

-- The tickets that have not ended and were not cut. By the records alone there could be several.
abbrev pub lives_on : List ℕ → Record → List ℕ
lives_on live (Published kept cut) = live_after cut live
lives_on live (Taken n) = live ++ n ∷ []
lives_on live (Posted n appended) = without n live
lives_on live (Back n) = without n live

abbrev pub live_from : List ℕ → List Record → List ℕ
live_from live [] = live
live_from live (one ∷ others) = live_from (lives_on live one) others

unfoldable pub live_of : List Record → List ℕ
live_of records = live_from [] records

-- ---- A journal with its state

-- A journal: its records, the numbers of the outstanding tickets in the order in which they were made, and that of the current one.
pub record JournalState : Type 0 where
  pub records : List Record
  pub outstanding : List ℕ
  pub current : Option ℕ

abbrev pub no_records : JournalState
no_records = record { records = []; outstanding = []; current = None }

-- It is full where another ticket, with the record of its end, would exceed the bound on the records.
abbrev pub is_full_journal : JournalState → Bool
is_full_journal journal = nat_lt (2 ^ 32 - 3) (length journal.records + length journal.outstanding)

-- The number of the next ticket.
abbrev pub next_ticket : JournalState → ℕ
next_ticket journal = (replay_of journal.records).tickets

-- A journal with one more record: of a publish, a new ticket, a post, or a ticket that was given back.
abbrev pub with_publish : JournalState → ℕ → Bool → JournalState
with_publish journal kept cut =
    record journal { records = journal.records ++ Published kept cut ∷ []; current = current_after cut journal.current }

abbrev pub with_ticket : JournalState → ℕ → JournalState
with_ticket journal n =
    record { records = journal.records ++ Taken n ∷ []; outstanding = journal.outstanding ++ n ∷ []; current = Some n }

abbrev pub with_post : JournalState → ℕ → ℕ → JournalState
with_post journal n appended = record {
  records = journal.records ++ Posted n appended ∷ [];
  outstanding = without n journal.outstanding;
  current = unless_ended n journal.current;
}

abbrev pub with_back : JournalState → ℕ → JournalState
with_back journal n =
    record { records = journal.records ++ Back n ∷ []; outstanding = without n journal.outstanding; current = unless_ended n journal.current }

-- The numbers rise, are at least the first and below the last.
abbrev pub RisesBelow : ℕ → List ℕ → ℕ → Type 0
RisesBelow low [] limit = low ≤ limit
RisesBelow low (n ∷ ns) limit = (low ≤ n) × RisesBelow (suc n) ns limit

-- The invariant of tickets. The outstanding ones and the current one are those of the replay. Each ticket was posted, was given
-- back or is outstanding. No number was used twice. The current ticket is outstanding. At most one ticket, the current one, has
-- not ended and was not cut. A post appends at most 16 answers. There are never too many records, not even when all outstanding
-- tickets have ended.
pub record IsBooked (journal : JournalState) : Type 0 where
  pub outstanding_are : (replay_of journal.records).outstanding ≡ journal.outstanding
  pub current_is : (replay_of journal.records).current ≡ journal.current
  pub sum : (replay_of journal.records).tickets
      ≡ (replay_of journal.records).posted + (replay_of journal.records).back + length journal.outstanding
  pub numbers : RisesBelow 0 journal.outstanding (replay_of journal.records).tickets
  pub current_out : IfSome journal.current (λ n. is_listed n journal.outstanding ≡ true)
  pub live : live_of journal.records ≡ option_to_list journal.current
  pub few : (replay_of journal.records).appended ≤ 16 * (replay_of journal.records).posted
  pub size : length journal.records + length journal.outstanding ≤ 2 ^ 32 - 1
