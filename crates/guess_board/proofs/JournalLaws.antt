-- Laws of journals: each record keeps the invariant of tickets.
use Rattle.std.proofs.Common.{◌≡◌, ℕ, suc, ◌+◌, ◌^◌, ◌<◌, ◌≤◌, ◌==◌, Bool, true, false, ◌||◌, if◌then◌else◌, List, [], ◌∷◌, ◌++◌}
use Rattle.std.proofs.Common.{length, Option, Some, None, IfSome, refl, sym, ap, ◌∙◌, arith, ◌-◌, take, drop, get_or, append_assoc, append-nil, add-one}
use Rattle.std.proofs.lemmas.Bool.{eqb-true, eqb-false}
use Rattle.std.proofs.lemmas.Bool.Decides.{nat_tests}
use Rattle.std.proofs.lemmas.List.{length_push, at_drop_more, take_more, take_all, drop_all}
use Rattle.std.specs.Option.{option_to_list}
use Rattle.guess_board.specs.Journals.{JournalState, IsBooked, RisesBelow, Tally, after_record, current_after, is_listed, is_full_journal}
use Rattle.guess_board.specs.Journals.{live_after, live_from, live_of, lives_on, next_ticket, no_records, no_tally, replay_from, replay_of}
use Rattle.guess_board.specs.Journals.{unless_ended, with_back, with_post, with_publish, with_ticket, without}
use Rattle.guess_board.specs.declared.journal.Record.{Record}
use Rattle.guess_board.specs.declared.journal.Record.TheVariants.{Published, Taken, Posted, Back}

-- ---- One more record

replay_more_from : (tally : Tally) (records : List Record) (one : Record)
    → replay_from tally (records ++ one ∷ []) ≡ after_record (replay_from tally records) one
replay_more_from tally [] one = refl
replay_more_from tally (first ∷ others) one = replay_more_from (after_record tally first) others one

pub replay_more : (records : List Record) (one : Record) → replay_of (records ++ one ∷ []) ≡ after_record (replay_of records) one
unfolding replay_of
replay_more records one = replay_more_from no_tally records one

live_more_from : (live : List ℕ) (records : List Record) (one : Record) → live_from live (records ++ one ∷ []) ≡ lives_on (live_from live records) one
live_more_from live [] one = refl
live_more_from live (first ∷ others) one = live_more_from (lives_on live first) others one

live_more : (records : List Record) (one : Record) → live_of (records ++ one ∷ []) ≡ lives_on (live_of records) one
unfolding live_of
live_more records one = live_more_from [] records one

-- ---- Numbers

rises_weak : (low lower : ℕ) (ns : List ℕ) (limit : ℕ) → lower ≤ low → RisesBelow low ns limit → RisesBelow lower ns limit
rises_weak low lower [] limit le rises = omega arith
rises_weak low lower (n ∷ ns) limit le rises = (omega arith, rises.1)

rises_more : (low : ℕ) (ns : List ℕ) (limit : ℕ) → RisesBelow low ns limit → RisesBelow low (ns ++ limit ∷ []) (suc limit)
rises_more low [] limit rises = (rises, omega arith)
rises_more low (n ∷ ns) limit rises = (rises.0, rises_more (suc n) ns limit rises.1)

rises_without : (n low : ℕ) (ns : List ℕ) (limit : ℕ) → RisesBelow low ns limit → RisesBelow low (without n ns) limit
rises_without n low [] limit rises = rises
rises_without n low (m ∷ ms) limit rises = at (m == n) (rises_without n (suc m) ms limit rises.1)
  where
    at : (b : Bool) → RisesBelow (suc m) (without n ms) limit → RisesBelow low (if b then ms else m ∷ without n ms) limit
    at true others = rises_weak (suc m) low ms limit (omega arith) rises.1
    at false others = (rises.0, others)

pub length-without : (n : ℕ) (ns : List ℕ) → is_listed n ns ≡ true → length ns ≡ suc (length (without n ns))
length-without n [] is = absurd (cc)
length-without n (m ∷ ms) is = at (m == n) is (length-without n ms)
  where
    at : (b : Bool) → (b || is_listed n ms) ≡ true → (is_listed n ms ≡ true → length ms ≡ suc (length (without n ms)))
        → suc (length ms) ≡ suc (length (if b then ms else m ∷ without n ms))
    at true is others = refl
    at false is others = ap suc (others is)

among_without : (n m : ℕ) (ns : List ℕ) → (m == n) ≡ false → is_listed m ns ≡ true → is_listed m (without n ns) ≡ true
among_without n m [] apart is = is
among_without n m (k ∷ ks) apart is = grind (arith, nat_tests, eqb-true, eqb-false, among_without n m ks apart)

among_last : (n : ℕ) (ns : List ℕ) → is_listed n (ns ++ n ∷ []) ≡ true
among_last n [] = grind (arith, nat_tests)
among_last n (m ∷ ms) = grind (arith, nat_tests, among_last n ms)

live_without : (n : ℕ) (current : Option ℕ) → without n (option_to_list current) ≡ option_to_list (unless_ended n current)
live_without n None = refl
live_without n (Some m) = at (m == n)
  where
    at : (b : Bool) → (if b then [] else m ∷ []) ≡ option_to_list (if b then None else Some m)
    at true = refl
    at false = refl

still_out : (n : ℕ) (current : Option ℕ) (ns : List ℕ) → IfSome current (λ m. is_listed m ns ≡ true)
    → IfSome (unless_ended n current) (λ m. is_listed m (without n ns) ≡ true)
still_out n None ns out = tt
still_out n (Some m) ns out = at (m == n) refl
  where
    at : (b : Bool) → (m == n) ≡ b → IfSome (if b then None else Some m) (λ k. is_listed k (without n ns) ≡ true)
    at true is = tt
    at false is = among_without n m ns is out

-- ---- Each record keeps what is kept

room_of : (journal : JournalState) → is_full_journal journal ≡ false → length journal.records + length journal.outstanding ≤ 2 ^ 32 - 3
room_of journal not_full = grind (arith, nat_tests)

pub booked_new : IsBooked no_records
unfolding replay_of live_of
booked_new = record {
  outstanding_are = refl;
  current_is = refl;
  sum = refl;
  numbers = omega arith;
  current_out = tt;
  live = refl;
  few = omega arith;
  size = omega arith;
}

pub booked_publish : (journal : JournalState) (kept : ℕ) (cut : Bool) → is_full_journal journal ≡ false → IsBooked journal
    → IsBooked (with_publish journal kept cut)
booked_publish journal kept cut not_full b =
    let now = replay_more journal.records (Published kept cut) in
    let room = room_of journal not_full in
    let one_more = length_push journal.records (Published kept cut) in
    record {
      outstanding_are = ap (λ t. t.outstanding) now ∙ b.outstanding_are;
      current_is = ap (λ t. t.current) now ∙ ap (current_after cut) b.current_is;
      sum = rw now b.sum;
      numbers = rw now b.numbers;
      current_out = out cut;
      live = live_more journal.records (Published kept cut) ∙ ap (live_after cut) b.live ∙ lives cut journal.current;
      few = rw now b.few;
      size = omega arith;
    }
  where
    out : (cut : Bool) → IfSome (current_after cut journal.current) (λ n. is_listed n journal.outstanding ≡ true)
    out true = tt
    out false = b.current_out

    lives : (cut : Bool) (current : Option ℕ) → live_after cut (option_to_list current) ≡ option_to_list (current_after cut current)
    lives true current = refl
    lives false current = refl

pub booked_ticket : (journal : JournalState) → is_full_journal journal ≡ false → journal.current ≡ None → IsBooked journal
    → IsBooked (with_ticket journal (next_ticket journal))
booked_ticket journal not_full free b =
    let n = next_ticket journal in
    let now = replay_more journal.records (Taken n) in
    let room = room_of journal not_full in
    let one_more = length_push journal.records (Taken n) in
    let one_out = length_push journal.outstanding n in
    record {
      outstanding_are = ap (λ t. t.outstanding) now ∙ ap (λ ns. ns ++ n ∷ []) b.outstanding_are;
      current_is = ap (λ t. t.current) now;
      sum = rw now (let s = b.sum in omega arith);
      numbers = rw now (rises_more 0 journal.outstanding n b.numbers);
      current_out = among_last n journal.outstanding;
      live = live_more journal.records (Taken n) ∙ ap (λ ns. ns ++ n ∷ []) (b.live ∙ ap option_to_list free);
      few = rw now b.few;
      size = omega arith;
    }

pub booked_post : (journal : JournalState) (n appended : ℕ) → is_listed n journal.outstanding ≡ true → appended ≤ 16 → IsBooked journal
    → IsBooked (with_post journal n appended)
booked_post journal n appended out most b =
    let now = replay_more journal.records (Posted n appended) in
    let one_more = length_push journal.records (Posted n appended) in
    let one_less = length-without n journal.outstanding out in
    let size = b.size in
    record {
      outstanding_are = ap (λ t. t.outstanding) now ∙ ap (without n) b.outstanding_are;
      current_is = ap (λ t. t.current) now ∙ ap (unless_ended n) b.current_is;
      sum = rw now (let s = b.sum in omega arith);
      numbers = rw now (rises_without n 0 journal.outstanding (replay_of journal.records).tickets b.numbers);
      current_out = still_out n journal.current journal.outstanding b.current_out;
      live = live_more journal.records (Posted n appended) ∙ ap (without n) b.live ∙ live_without n journal.current;
      few = rw now (let f = b.few in omega arith);
      size = omega arith;
    }

pub booked_back : (journal : JournalState) (n : ℕ) → is_listed n journal.outstanding ≡ true → IsBooked journal → IsBooked (with_back journal n)
booked_back journal n out b =
    let now = replay_more journal.records (Back n) in
    let one_more = length_push journal.records (Back n) in
    let one_less = length-without n journal.outstanding out in
    let size = b.size in
    record {
      outstanding_are = ap (λ t. t.outstanding) now ∙ ap (without n) b.outstanding_are;
      current_is = ap (λ t. t.current) now ∙ ap (unless_ended n) b.current_is;
      sum = rw now (let s = b.sum in omega arith);
      numbers = rw now (rises_without n 0 journal.outstanding (replay_of journal.records).tickets b.numbers);
      current_out = still_out n journal.current journal.outstanding b.current_out;
      live = live_more journal.records (Back n) ∙ ap (without n) b.live ∙ live_without n journal.current;
      few = rw now b.few;
      size = omega arith;
    }

-- ---- Counts are no more than records

-- Each record adds at most one to the counts of made and ended tickets.
count_from : (tally : Tally) (records : List Record)
    → (replay_from tally records).tickets + (replay_from tally records).posted + (replay_from tally records).back
    ≤ tally.tickets + tally.posted + tally.back + length records
count_from tally [] = omega arith
count_from tally (Published kept cut ∷ others) = let more = count_from (after_record tally (Published kept cut)) others in omega arith
count_from tally (Taken n ∷ others) = let more = count_from (after_record tally (Taken n)) others in omega arith
count_from tally (Posted n appended ∷ others) = let more = count_from (after_record tally (Posted n appended)) others in omega arith
count_from tally (Back n ∷ others) = let more = count_from (after_record tally (Back n)) others in omega arith

pub count_records : (records : List Record)
    → (replay_of records).tickets + (replay_of records).posted + (replay_of records).back ≤ length records
unfolding replay_of
count_records records = let all = count_from no_tally records in omega arith

-- ---- How they are kept

-- The number of the next ticket is far below the greatest number of its type, and so are the counts.
pub next_small : (journal : JournalState) → IsBooked journal → next_ticket journal ≤ 2 ^ 32 - 1
next_small journal b = let most = count_records journal.records in let size = b.size in omega arith

-- ---- A search for a number

pub passed_by : (n : ℕ) (ns : List ℕ) (k m : ℕ) → k < length ns → m ≡ get_or ns k m → (m == n) ≡ false
    → without n ns ≡ take k ns ++ without n (drop k ns) → without n ns ≡ take (k + 1) ns ++ without n (drop (k + 1) ns)
passed_by n ns k m within is apart so_far =
    so_far
    ∙ ap (λ left. take k ns ++ left) (at_drop_more (λ left. without n left) ns k m within
    ∙ ap (λ x. if x == n then drop (k + 1) ns else x ∷ without n (drop (k + 1) ns)) (sym is)
    ∙ ap (λ (t : Bool). if t then drop (k + 1) ns else m ∷ without n (drop (k + 1) ns)) apart)
    ∙ sym (append_assoc (take k ns) (m ∷ []) (without n (drop (k + 1) ns)))
    ∙ ap (λ x. (take k ns ++ x ∷ []) ++ without n (drop (k + 1) ns)) is
    ∙ sym (ap (λ front. front ++ without n (drop (k + 1) ns)) (take_more ns k m within))

pub found_at : (n : ℕ) (ns : List ℕ) (k m : ℕ) → k < length ns → m ≡ get_or ns k m → (m == n) ≡ true
    → without n ns ≡ take k ns ++ without n (drop k ns) → take k ns ++ drop (suc k) ns ≡ without n ns
found_at n ns k m within is same so_far =
    sym (so_far
    ∙ ap (λ left. take k ns ++ left) (at_drop_more (λ left. without n left) ns k m within
    ∙ ap (λ x. if x == n then drop (k + 1) ns else x ∷ without n (drop (k + 1) ns)) (sym is)
    ∙ ap (λ (t : Bool). if t then drop (k + 1) ns else m ∷ without n (drop (k + 1) ns)) same
    ∙ ap (λ j. drop j ns) (add-one k)))

pub found_none : (n : ℕ) (ns : List ℕ) (k : ℕ) → length ns ≤ k → without n ns ≡ take k ns ++ without n (drop k ns) → ns ≡ without n ns
found_none n ns k past so_far = sym (so_far ∙ ap (λ front. front ++ without n (drop k ns)) (take_all k ns past)
    ∙ ap (λ left. ns ++ without n left) (drop_all k ns past) ∙ append-nil ns)
