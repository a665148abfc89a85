-- Laws of lanes: each event keeps the invariant of a lane.
use Rattle.std.proofs.Common.{◌≡◌, ℕ, ◌+◌, ◌≤◌, Bool, List, [], ◌∷◌, ◌++◌, map, length, take, drop, Option, Some, ℤ}
use Rattle.std.proofs.Common.{refl, sym, ap, subst, ◌∙◌, arith, length-drop}
use Rattle.std.proofs.lemmas.List.{take-append-drop}
use Rattle.std.specs.List.{AllByRecursion}
use Rattle.guess_board.specs.Chains.{Begins, chain_of, common, left_of}
use Rattle.guess_board.specs.Journals.{replay_of}
use Rattle.guess_board.specs.Matching.{matching, passed}
use Rattle.guess_board.specs.Slots.{AreSlotsOf, entries_of, filled, fill_first, slots_in}
use Rattle.guess_board.specs.declared.cell.Cell.{Cell}
use Rattle.guess_board.specs.declared.journal.Record.{Record}
use Rattle.guess_board.specs.declared.journal.Record.TheVariants.{Published, Taken, Posted, Back}
use Rattle.guess_board.proofs.ChainLaws.{matched_begins_chain, matched_common}
use Rattle.guess_board.proofs.JournalLaws.{replay_more}
use Rattle.guess_board.proofs.SlotLaws.{RowsRise, below_left, below_short, dropped, filled_dropped, filled_short, filled_some, matched_front, matched_short}
use Rattle.guess_board.proofs.SlotLaws.{put_some, slots_are, taken_slots}
use Rattle.list_laws.proofs.Lists.{each_part}
use Rattle.unit_answers.specs.Answers.{Answered, IsProven}

-- How many answers there are, by a journal with one more record.
pub answers_published : (records : List Record) (kept : ℕ) (cut : Bool) → (replay_of (records ++ Published kept cut ∷ [])).answers ≡ kept
answers_published records kept cut = ap (λ t. t.answers) (replay_more records (Published kept cut))

pub answers_taken : (records : List Record) (n : ℕ) → (replay_of (records ++ Taken n ∷ [])).answers ≡ (replay_of records).answers
answers_taken records n = ap (λ t. t.answers) (replay_more records (Taken n))

pub answers_posted : (records : List Record) (n appended : ℕ)
    → (replay_of (records ++ Posted n appended ∷ [])).answers ≡ (replay_of records).answers + appended
answers_posted records n appended = ap (λ t. t.answers) (replay_more records (Posted n appended))

pub answers_backed : (records : List Record) (n : ℕ) → (replay_of (records ++ Back n ∷ [])).answers ≡ (replay_of records).answers
answers_backed records n = ap (λ t. t.answers) (replay_more records (Back n))

-- ---- What is kept when a lane is published again

each_dropped : (k : ℕ) (ones : List Answered) → AllByRecursion IsProven ones → AllByRecursion IsProven (drop k ones)
each_dropped k ones each = (each_part IsProven (take k ones) (drop k ones) (subst (AllByRecursion IsProven) (sym (take-append-drop k ones)) each)).1

each_taken : (k : ℕ) (ones : List Answered) → AllByRecursion IsProven ones → AllByRecursion IsProven (take k ones)
each_taken k ones each = (each_part IsProven (take k ones) (drop k ones) (subst (AllByRecursion IsProven) (sym (take-append-drop k ones)) each)).0

-- The answers that stay, by how many are passed and how many match.
pub record Stays (code state : List ℤ) (line : List Cell) (ones : List Answered) (first kept : ℕ) : Type 0 where
  pub within : first + kept ≤ length ones
  pub few : kept ≤ length line
  pub many : length (take kept (drop first ones)) ≡ kept
  pub are : take kept (drop first ones) ≡ common (left_of line ones) (chain_of code state line)
  pub chained : Begins (take kept (drop first ones)) (chain_of code state line)
  pub proven : AllByRecursion IsProven (take kept (drop first ones))

matched_are : (code state : List ℤ) (line : List Cell) (low : ℕ) (ones : List Answered) → RowsRise low ones → AllByRecursion IsProven ones
    → matching code (Some state) line (drop (passed line ones) ones) ≡ common (left_of line ones) (chain_of code state line)
matched_are code state [] low ones rise each = refl
matched_are code state (cell ∷ cells) low ones rise each =
    matched_common code state (cell ∷ cells) (drop (passed (cell ∷ cells) ones) ones) (each_dropped (passed (cell ∷ cells) ones) ones each)
    ∙ ap (λ left. common left (chain_of code state (cell ∷ cells))) (below_left cell.row low ones rise)

passed_short : (line : List Cell) (ones : List Answered) → passed line ones ≤ length ones
passed_short [] ones = omega arith
passed_short (cell ∷ cells) ones = below_short cell.row ones

pub stays : (code state : List ℤ) (line : List Cell) (low : ℕ) (ones : List Answered) (first kept : ℕ) → RowsRise low ones → AllByRecursion IsProven ones
    → first ≡ passed line ones → kept ≡ length (matching code (Some state) line (drop first ones)) → kept ≤ length line
    → Stays code state line ones first kept
stays code state line low ones first kept rise each first_is kept_is few =
    let left = drop first ones in
    let found = matching code (Some state) line left in
    let taken : take kept left ≡ found = ap (λ n. take n left) kept_is ∙ matched_front code (Some state) line left in
    let short = matched_short code (Some state) line left in
    let long = length-drop first ones in
    let first_short = subst (λ n. n ≤ length ones) (sym first_is) (passed_short line ones) in
    record {
      within = omega arith;
      few = few;
      many = ap length taken ∙ sym kept_is;
      are = taken ∙ ap (λ n. matching code (Some state) line (drop n ones)) first_is ∙ matched_are code state line low ones rise each;
      chained = subst (λ front. Begins front (chain_of code state line)) (sym taken)
          (matched_begins_chain code state line left (each_dropped first ones each));
      proven = each_taken kept left (each_dropped first ones each);
    }

-- The slots of the answers that stay.
pub slots_stay : (line : List Cell) (entries : List (ℕ × Option Answered)) (first kept : ℕ) → AreSlotsOf line entries
    → first + kept ≤ length (filled (slots_in entries))
    → take kept (drop first (slots_in entries)) ≡ map Some (take kept (drop first (filled (slots_in entries))))
slots_stay line entries first kept kept_so within =
    let ones = filled (slots_in entries) in
    let short = filled_short line entries kept_so in
    let rows = length-drop first line in
    let left = length-drop first ones in
    ap (λ es. take kept (drop first (slots_in es))) kept_so.are
    ∙ ap (take kept) (dropped first line ones)
    ∙ taken_slots kept (drop first line) (drop first ones) (omega arith) (omega arith)

-- The new slots.
pub slots_new : (line : List Cell) (stay : List Answered) (entries : List (ℕ × Option Answered)) → length stay ≤ length line
    → entries ≡ fill_first (entries_of line []) (map Some stay) → AreSlotsOf line entries × (filled (slots_in entries) ≡ stay)
slots_new line stay entries short is = slots_are line stay entries short (is ∙ put_some line stay short)

-- A new publish: slots of an old line with answers to it, and how many of these are passed and match.
pub record Front (code state : List ℤ) (line : List Cell) (entries : List (ℕ × Option Answered)) (slots : List (Option Answered))
    (first kept : ℕ) : Type 0 where
  pub old_line : List Cell
  pub old_slots : AreSlotsOf old_line entries
  pub rows : (low : ℕ) × RowsRise low (filled (slots_in entries))
  pub proven : AllByRecursion IsProven (filled (slots_in entries))
  pub slots_are : slots ≡ slots_in entries
  pub first_is : first ≡ passed line (filled slots)
  pub kept_is : kept ≡ length (matching code (Some state) line (filled (drop first slots)))
  pub few : kept ≤ length line

-- The answers that stay, in new slots.
pub record IsMoved (code state : List ℤ) (line : List Cell) (entries : List (ℕ × Option Answered)) (slots : List (Option Answered)) (first kept : ℕ)
    (new : List (ℕ × Option Answered)) : Type 0 where
  pub slots_of : AreSlotsOf line new
  pub held : filled (slots_in new) ≡ common (left_of line (filled (slots_in entries))) (chain_of code state line)
  pub many : length (filled (slots_in new)) ≡ kept
  pub chained : Begins (filled (slots_in new)) (chain_of code state line)
  pub proven : AllByRecursion IsProven (filled (slots_in new))
  pub stay : filled (take kept (drop first slots)) ≡ common (left_of line (filled (slots_in entries))) (chain_of code state line)

module _ (code state : List ℤ) (line : List Cell) (entries : List (ℕ × Option Answered)) (slots : List (Option Answered)) (first kept : ℕ)
    (front : Front code state line entries slots first kept) where
  front_stays : Stays code state line (filled (slots_in entries)) first kept
  front_stays =
      let ones = filled (slots_in entries) in
      let short = filled_short front.old_line entries front.old_slots in
      let first_is : first ≡ passed line ones = front.first_is ∙ ap (λ s. passed line (filled s)) front.slots_are in
      let left : filled (drop first slots) ≡ drop first ones =
      ap (λ s. filled (drop first s)) (front.slots_are ∙ ap slots_in front.old_slots.are) ∙ filled_dropped first front.old_line ones short in
      stays code state line front.rows.0 ones first kept front.rows.1 front.proven first_is
      (front.kept_is ∙ ap (λ held. length (matching code (Some state) line held)) left) front.few

  pub moved : (fresh new : List (ℕ × Option Answered)) → fresh ≡ entries_of line []
      → new ≡ fill_first fresh (take kept (drop first (slots_in entries))) → IsMoved code state line entries slots first kept new
  moved fresh new fresh_is new_is =
      let ones = filled (slots_in entries) in
      let s = front_stays in
      let in_slots = slots_stay front.old_line entries first kept front.old_slots s.within in
      let stay = take kept (drop first ones) in
      let short : length stay ≤ length line = subst (λ n. n ≤ length line) (sym s.many) s.few in
      let both = slots_new line stay new short (new_is ∙ (λ i. fill_first (fresh_is i) (in_slots i))) in
      record {
        slots_of = both.0;
        held = both.1 ∙ s.are;
        many = ap length both.1 ∙ s.many;
        chained = subst (λ held. Begins held (chain_of code state line)) (sym both.1) s.chained;
        proven = subst (AllByRecursion IsProven) (sym both.1) s.proven;
        stay = ap (λ held. filled (take kept (drop first held))) front.slots_are ∙ ap filled in_slots ∙ filled_some stay ∙ s.are;
      }
