-- Laws of slots: their contents, which of them are below a row, and what is stored in the first empty one.
use Rattle.std.proofs.Common.{◌≡◌, ℕ, zero, suc, ◌+◌, ◌<◌, ◌≤◌, ◌==◌, nat_le, nat_lt, nat_eq, Bool, true, false, if◌then◌else◌, List, [], ◌∷◌, ◌++◌, map}
use Rattle.std.proofs.Common.{length, take, drop, Option, Some, None, refl, sym, ap, subst, ◌∙◌, arith, ℤ, Result, length-drop, length-take, ◌-◌, slice_get}
use Rattle.std.proofs.lemmas.Bool.Decides.{nat_tests}
use Rattle.std.proofs.lemmas.List.{drop-drop, drop-map, length_push}
use Rattle.std.specs.List.{filter}
use Rattle.std.specs.Option.{option_map}
use Rattle.indexmap.specs.IndexMap.{insert_entry, set_value_at}
use Rattle.fixed_words.specs.declared.types.Fault.{Fault}
use Rattle.guess_board.specs.Cells.{RisesFrom}
use Rattle.guess_board.specs.Chains.{Begins, answer_at, chain, chain_of, followed_by, is_next, key_at, whole_state}
use Rattle.std.specs.Prelude.{IsTrue, ◌↔◌}
use Rattle.guess_board.specs.Events.{first_of}
use Rattle.guess_board.proofs.ChainLaws.{begins_split, first_is}
use Rattle.guess_board.specs.Matching.{below, matching}
use Rattle.guess_board.specs.Slots.{AreSlotsOf, entries_of, filled, fill_first, slots_in}
use Rattle.guess_board.specs.declared.cell.Cell.{Cell}
use Rattle.unit_answers.specs.Answers.{Answered}
use Rattle.unit_answers.specs.Keys.{StepKey, meaning}
use Rattle.unit_tree.specs.Components.{Moved}

-- ---- What slots hold

pub length-entries : (line : List Cell) (ones : List Answered) → length (entries_of line ones) ≡ length line
length-entries [] ones = refl
length-entries (cell ∷ cells) [] = ap suc (length-entries cells [])
length-entries (cell ∷ cells) (one ∷ ones) = ap suc (length-entries cells ones)

pub length-slots : (entries : List (ℕ × Option Answered)) → length (slots_in entries) ≡ length entries
length-slots [] = refl
length-slots (entry ∷ entries) = ap suc (length-slots entries)

pub length-filled : (slots : List (Option Answered)) → length (filled slots) ≤ length slots
length-filled [] = omega arith
length-filled (None ∷ slots) = omega arith
length-filled (Some one ∷ slots) = let others = length-filled slots in omega arith

pub filled_entries : (line : List Cell) (ones : List Answered) → length ones ≤ length line → filled (slots_in (entries_of line ones)) ≡ ones
filled_entries [] [] short = refl
filled_entries [] (one ∷ ones) short = absurd (omega arith)
filled_entries (cell ∷ cells) [] short = refl
filled_entries (cell ∷ cells) (one ∷ ones) short = ap (λ more. one ∷ more) (filled_entries cells ones (omega arith))

-- Slots of a line have at most one answer for each cell.
pub filled_short : (line : List Cell) (entries : List (ℕ × Option Answered)) → AreSlotsOf line entries → length (filled (slots_in entries)) ≤ length line
filled_short line entries kept =
    let most = length-filled (slots_in entries) in
    let slots = length-slots entries in
    let all = ap length kept.are ∙ length-entries line (filled (slots_in entries)) in
    omega arith

drop_none : (k : ℕ) → drop {A = Answered} k [] ≡ []
drop_none zero = refl
drop_none (suc k) = refl

pub dropped : (k : ℕ) (line : List Cell) (ones : List Answered) → drop k (slots_in (entries_of line ones)) ≡ slots_in (entries_of (drop k line) (drop k ones))
dropped zero line ones = refl
dropped (suc k) [] ones = refl
dropped (suc k) (cell ∷ cells) [] = dropped k cells [] ∙ ap (λ ones. slots_in (entries_of (drop k cells) ones)) (drop_none k)
dropped (suc k) (cell ∷ cells) (one ∷ ones) = dropped k cells ones

-- The contents of slots from a place on.
pub filled_dropped : (k : ℕ) (line : List Cell) (ones : List Answered) → length ones ≤ length line
    → filled (drop k (slots_in (entries_of line ones))) ≡ drop k ones
filled_dropped k line ones short =
    ap filled (dropped k line ones) ∙ filled_entries (drop k line) (drop k ones) (simp (length-drop) (omega arith))

-- The first slots are filled with the first answers.
pub taken_slots : (k : ℕ) (line : List Cell) (ones : List Answered) → length ones ≤ length line → k ≤ length ones
    → take k (slots_in (entries_of line ones)) ≡ map Some (take k ones)
taken_slots zero line ones short within = refl
taken_slots (suc k) line [] short within = absurd (omega arith)
taken_slots (suc k) [] (one ∷ ones) short within = absurd (omega arith)
taken_slots (suc k) (cell ∷ cells) (one ∷ ones) short within = ap (λ more. Some one ∷ more) (taken_slots k cells ones (omega arith) (omega arith))

pub filled_some : (ones : List Answered) → filled (map Some ones) ≡ ones
filled_some [] = refl
filled_some (one ∷ ones) = ap (λ more. one ∷ more) (filled_some ones)

pub put_some : (line : List Cell) (ones : List Answered) → length ones ≤ length line → fill_first (entries_of line []) (map Some ones) ≡ entries_of line ones
put_some [] [] short = refl
put_some [] (one ∷ ones) short = absurd (omega arith)
put_some (cell ∷ cells) [] short = refl
put_some (cell ∷ cells) (one ∷ ones) short = ap (λ more. (cell.row, Some one) ∷ more) (put_some cells ones (omega arith))

-- The first empty slot is filled.
pub set_next : (line : List Cell) (ones : List Answered) (one : Answered) → length ones < length line
    → set_value_at (entries_of line ones) (length ones) (Some one) ≡ entries_of line (ones ++ one ∷ [])
set_next [] ones one short = absurd (omega arith)
set_next (cell ∷ cells) [] one short = refl
set_next (cell ∷ cells) (first ∷ ones) one short = ap (λ more. (cell.row, Some first) ∷ more) (set_next cells ones one (omega arith))

-- ---- Rows

rises_lower : (low lower : ℕ) (line : List Cell) → lower ≤ low → RisesFrom low line → RisesFrom lower line
rises_lower low lower [] le rises = tt
rises_lower low lower (cell ∷ cells) le rises = (omega arith, rises.1)

pub rises_from_none : (row : ℕ) (line : List Cell) → RisesFrom row line → RisesFrom 0 line
rises_from_none row line rises = rises_lower row 0 line (omega arith) rises

above : (low : ℕ) (front : List Cell) (cell : Cell) (rest : List Cell) → RisesFrom low (front ++ cell ∷ rest) → low ≤ cell.row
above low [] cell rest rises = rises.0
above low (first ∷ front) cell rest rises = let more = above (suc first.row) front cell rest rises.1 in omega (arith, rises.0)

-- A row that is above all others is inserted after them.
pub inserted : (low : ℕ) (front : List Cell) (cell : Cell) (rest : List Cell) → RisesFrom low (front ++ cell ∷ rest)
    → insert_entry nat_eq (entries_of front []) cell.row None ≡ entries_of (front ++ cell ∷ []) []
inserted low [] cell rest rises = refl
inserted low (first ∷ front) cell rest rises =
    let higher = above (suc first.row) front cell rest rises.1 in
    let apart : (cell.row == first.row) ≡ false = grind (arith, nat_tests) in
    ap (λ (t : Bool). if t then (first.row, None) ∷ entries_of front [] else (first.row, None) ∷ insert_entry nat_eq (entries_of front []) cell.row None) apart
    ∙ ap (λ more. (first.row, None) ∷ more) (inserted (suc first.row) front cell rest rises.1)

-- The rows of answers rise.
abbrev pub RowsRise : ℕ → List Answered → Type 0
RowsRise low [] = Unit {0}
RowsRise low (one ∷ ones) = (low ≤ one.row) × RowsRise (suc one.row) ones

rows_lower : (low lower : ℕ) (ones : List Answered) → lower ≤ low → RowsRise low ones → RowsRise lower ones
rows_lower low lower [] le rise = tt
rows_lower low lower (one ∷ ones) le rise = (omega arith, rise.1)

module _ (meaning : StepKey → Option (Result Moved Fault)) where
  chain_rises : (code : List ℤ) (state : Option (List ℤ)) (low : ℕ) (line : List Cell) → RisesFrom low line → RowsRise low (chain meaning code state line)
  chain_rises code None low [] rises = tt
  chain_rises code (Some state) low [] rises = tt
  chain_rises code None low (cell ∷ cells) rises = tt
  chain_rises code (Some state) low (cell ∷ cells) rises =
      by (meaning (key_at code state cell)) (λ after. chain meaning code after cells) (λ after. chain_rises code after (suc cell.row) cells rises.1)
    where
      by : (told : Option (Result Moved Fault)) (others : Option (List ℤ) → List Answered)
          → ((after : Option (List ℤ)) → RowsRise (suc cell.row) (others after))
          → RowsRise low (followed_by (option_map (answer_at cell.row (key_at code state cell)) told) others)
      by None others each = tt
      by (Some answer) others each = (rises.0, each (whole_state (answer_at cell.row (key_at code state cell) answer)))

front_rises : (low : ℕ) (ones rest : List Answered) → RowsRise low (ones ++ rest) → RowsRise low ones
front_rises low [] rest rise = tt
front_rises low (one ∷ ones) rest rise = (rise.0, front_rises (suc one.row) ones rest rise.1)

pub answers_rise : (code state : List ℤ) (row : ℕ) (line : List Cell) (ones : List Answered) → RisesFrom row line
    → Begins ones (chain_of code state line) → RowsRise row ones
unfolding chain_of
answers_rise code state row line ones rises begins =
    let all = chain meaning code (Some state) line in
    front_rises row ones (drop (length ones) all) (subst (RowsRise row) (begins_split ones all begins) (chain_rises meaning code (Some state) row line rises))

all_above : (row low : ℕ) (ones : List Answered) → row ≤ low → RowsRise low ones → filter (λ one. nat_le row one.row) ones ≡ ones
all_above row low [] le rise = refl
all_above row low (one ∷ ones) le rise =
    let here : nat_le row one.row ≡ true = grind (arith, nat_tests, rise.0) in
    let others = all_above row (suc one.row) ones (omega (arith, rise.0)) rise.1 in
    ap (λ (t : Bool). if t then one ∷ filter (λ one. nat_le row one.row) ones else filter (λ one. nat_le row one.row) ones) here
    ∙ ap (λ more. one ∷ more) others

pub below_left : (row low : ℕ) (ones : List Answered) → RowsRise low ones → drop (below row ones) ones ≡ filter (λ one. nat_le row one.row) ones
below_left row low [] rise = refl
below_left row low (one ∷ ones) rise = by (nat_lt one.row row) refl (below_left row (suc one.row) ones rise.1)
  where
    by : (b : Bool) → nat_lt one.row row ≡ b → drop (below row ones) ones ≡ filter (λ one. nat_le row one.row) ones
        → drop (below row (one ∷ ones)) (one ∷ ones) ≡ filter (λ one. nat_le row one.row) (one ∷ ones)
    by true is others =
        let past : nat_le row one.row ≡ false = grind (arith, nat_tests) in
        ap (λ (t : Bool). drop (if t then suc (below row ones) else 0) (one ∷ ones)) is ∙ others
        ∙ sym (ap (λ (t : Bool). if t then one ∷ filter (λ one. nat_le row one.row) ones else filter (λ one. nat_le row one.row) ones) past)
    by false is others =
        let le : row ≤ one.row = grind (arith, nat_tests) in
        ap (λ (t : Bool). drop (if t then suc (below row ones) else 0) (one ∷ ones)) is
        ∙ sym (all_above row one.row (one ∷ ones) le (omega arith, rise.1))

pub below_short : (row : ℕ) (ones : List Answered) → below row ones ≤ length ones
below_short row [] = omega arith
below_short row (one ∷ ones) = by (nat_lt one.row row) (below_short row ones)
  where
    by : (b : Bool) → below row ones ≤ length ones → (if b then suc (below row ones) else 0) ≤ suc (length ones)
    by true others = omega arith
    by false others = omega arith

-- What matches is a prefix of the answers.
pub matched_front : (code : List ℤ) (state : Option (List ℤ)) (line : List Cell) (ones : List Answered)
    → take (length (matching code state line ones)) ones ≡ matching code state line ones
matched_front code None line ones = refl
matched_front code (Some state) [] ones = refl
matched_front code (Some state) (cell ∷ cells) [] = refl
matched_front code (Some state) (cell ∷ cells) (one ∷ ones) =
    by (is_next cell.row (key_at code state cell) one) (matched_front code (whole_state one) cells ones)
  where
    by : (b : Bool) → take (length (matching code (whole_state one) cells ones)) ones ≡ matching code (whole_state one) cells ones
        → take (length (if b then one ∷ matching code (whole_state one) cells ones else [])) (one ∷ ones)
        ≡ (if b then one ∷ matching code (whole_state one) cells ones else [])
    by true others = ap (λ more. one ∷ more) others
    by false others = refl

pub matched_short : (code : List ℤ) (state : Option (List ℤ)) (line : List Cell) (ones : List Answered)
    → length (matching code state line ones) ≤ length ones
matched_short code state line ones =
    let front = ap length (matched_front code state line ones) in
    let many = length-take (length (matching code state line ones)) ones in
    omega arith

-- ---- What is stored and moved

pub record NextPlace (line : List Cell) (entries : List (ℕ × Option Answered)) (place : ℕ) : Type 0 where
  pub is : place ≡ length (filled (slots_in entries))
  pub within : place < length line

-- The place of the next needed step, by the cells from it on.
pub next_place : (line : List Cell) (entries : List (ℕ × Option Answered)) (slots : List (Option Answered)) (cells : List Cell)
    → slots ≡ slots_in entries → cells ≡ drop (length (filled slots)) line → 1 ≤ length cells → NextPlace line entries (length line - length cells)
next_place line entries slots cells same from some =
    let left : length cells ≡ length line - length (filled (slots_in entries)) =
    ap length from ∙ ap (λ s. length (drop (length (filled s)) line)) same ∙ length-drop (length (filled (slots_in entries))) line in
    record { is = omega arith; within = omega arith }

pub record IsPut (line : List Cell) (before after : List (ℕ × Option Answered)) (one : Answered) : Type 0 where
  pub slots : AreSlotsOf line after
  pub answers : filled (slots_in after) ≡ filled (slots_in before) ++ one ∷ []

pub slots_are : (line : List Cell) (ones : List Answered) (entries : List (ℕ × Option Answered)) → length ones ≤ length line
    → entries ≡ entries_of line ones → AreSlotsOf line entries × (filled (slots_in entries) ≡ ones)
slots_are line ones entries short is =
    let held : filled (slots_in entries) ≡ ones = ap (λ es. filled (slots_in es)) is ∙ filled_entries line ones short in
    (record { are = is ∙ ap (entries_of line) (sym held) }, held)

pub put_at : (line : List Cell) (before after : List (ℕ × Option Answered)) (place : ℕ) (one : Answered) → AreSlotsOf line before → NextPlace line before place
    → after ≡ set_value_at before place (Some one) → IsPut line before after one
put_at line before after place one kept next is =
    let ones = filled (slots_in before) in
    let entries : after ≡ entries_of line (ones ++ one ∷ []) =
    is ∙ (λ i. set_value_at (kept.are i) (next.is i) (Some one))
    ∙ set_next line ones one (subst (λ p. p < length line) next.is next.within) in
    let more = length_push ones one in
    let both = slots_are line (ones ++ one ∷ []) after (let w = subst (λ p. p < length line) next.is next.within in omega arith) entries in
    record { slots = both.0; answers = both.1 }

pub put_none : (entries : List (ℕ × Option Answered)) → entries ≡ fill_first entries []
put_none [] = refl
put_none (entry ∷ entries) = refl

pub length-put : (entries : List (ℕ × Option Answered)) (slots : List (Option Answered)) → length (fill_first entries slots) ≡ length entries
length-put [] slots = refl
length-put (entry ∷ entries) [] = refl
length-put (entry ∷ entries) (slot ∷ slots) = ap suc (length-put entries slots)

pub put_more : (entries : List (ℕ × Option Answered)) (slots : List (Option Answered)) (i : ℕ) (slot : Option Answered) → i < length entries
    → slice_get slots i ≡ Some slot → set_value_at (fill_first entries (take i slots)) i slot ≡ fill_first entries (take (suc i) slots)
put_more [] slots i slot within at = absurd (omega arith)
put_more (entry ∷ entries) [] i slot within at = absurd (cc)
put_more (entry ∷ entries) (first ∷ slots) zero slot within at =
    let same : first ≡ slot = cc in
    ap (λ s. (entry.0, s) ∷ entries) (sym same) ∙ ap (λ more. (entry.0, first) ∷ more) (put_none entries)
put_more (entry ∷ entries) (first ∷ slots) (suc i) slot within at = ap (λ more. (entry.0, first) ∷ more) (put_more entries slots i slot (omega arith) at)

pub drop_set : (entries : List (ℕ × Option Answered)) (k j : ℕ) (slot : Option Answered) → k < j → drop j (set_value_at entries k slot) ≡ drop j entries
drop_set [] k j slot lt = refl
drop_set (entry ∷ entries) k zero slot lt = absurd (omega arith)
drop_set (entry ∷ entries) zero (suc j) slot lt = refl
drop_set (entry ∷ entries) (suc k) (suc j) slot lt = drop_set entries k j slot (omega arith)

pub length-set_slot : (entries : List (ℕ × Option Answered)) (k : ℕ) (slot : Option Answered) → length (set_value_at entries k slot) ≡ length entries
length-set_slot [] k slot = refl
length-set_slot (entry ∷ entries) zero slot = refl
length-set_slot (entry ∷ entries) (suc k) slot = ap suc (length-set_slot entries k slot)

get_first : (slots : List (Option Answered)) (k : ℕ) → slice_get slots k ≡ slice_get (drop k slots) 0
get_first slots zero = refl
get_first [] (suc k) = refl
get_first (slot ∷ slots) (suc k) = get_first slots k

pub get_dropped : (slots : List (Option Answered)) (a b : ℕ) → slice_get slots (a + b) ≡ slice_get (drop a slots) b
get_dropped slots a b = get_first slots (a + b) ∙ ap (λ s. slice_get s 0) (sym (drop-drop b a slots)) ∙ sym (get_first (drop a slots) b)

-- A slot is unchanged where those from its place on are unchanged.
pub same_slot : (entries others : List (ℕ × Option Answered)) (k : ℕ) → drop k entries ≡ drop k others
    → slice_get (slots_in entries) k ≡ slice_get (slots_in others) k
same_slot entries others k same =
    get_first (slots_in entries) k
    ∙ ap (λ s. slice_get s 0) (drop-map (λ entry. entry.1) k entries ∙ ap slots_in same ∙ sym (drop-map (λ entry. entry.1) k others))
    ∙ sym (get_first (slots_in others) k)

pub drop_later : (entries others : List (ℕ × Option Answered)) (k j : ℕ) → k ≤ j → drop k entries ≡ drop k others → drop j entries ≡ drop j others
drop_later entries others k j le same =
    let sum : k + (j - k) ≡ j = omega arith in
    ap (λ n. drop n entries) (sym sum) ∙ sym (drop-drop (j - k) k entries) ∙ ap (drop (j - k)) same ∙ drop-drop (j - k) k others
    ∙ ap (λ n. drop n others) sum

-- ---- What is found

pub first_found : (slots : List (Option Answered)) (one : Answered) (key : StepKey) (told : Bool) → Some (Some one) ≡ slice_get slots 0
    → (IsTrue told ↔ (one.key ≡ key)) → (if told then Some one else None) ≡ first_of key (filled slots)
first_found [] one key told at exactly = absurd (cc)
first_found (None ∷ slots) one key told at exactly = absurd (cc)
first_found (Some first ∷ slots) one key told at exactly =
    let same : first ≡ one = cc in
    subst (λ o. (if told then Some one else None) ≡ first_of key (o ∷ filled slots)) (sym same) (first_is key one (filled slots) told exactly)
