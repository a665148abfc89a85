-- Laws of chains: they continue where a prefix ends. What matches in sequence is a prefix, and so is what posts append.
use Rattle.std.proofs.Common.{◌≡◌, ℕ, suc, ◌≤◌, ◌==◌, ℤ, Bool, true, false, if◌then◌else◌, List, [], ◌∷◌, ◌++◌, length, take, drop}
use Rattle.std.proofs.Common.{Option, Some, None, Result, slice_get, refl, sym, ap, subst, ◌∙◌, append_assoc, arith, Decides}
use Rattle.std.proofs.lemmas.Bool.{and_parts, eqb-true, eq-eqb, and_from}
use Rattle.std.proofs.lemmas.Bool.Decides.{Decides-int_eq}
use Rattle.std.proofs.lemmas.List.{take-append-drop, take_at}
use Rattle.std.proofs.lemmas.Slice.Eq.{slice_eq-Decides}
use Rattle.std.specs.List.{AllByRecursion}
use Rattle.std.specs.Option.{option_and_then, option_map}
use Rattle.std.specs.Prelude.{IsTrue, ◌↔◌}
use Rattle.fixed_words.specs.declared.types.Fault.{Fault}
use Rattle.guess_board.specs.Chains.{Begins, ahead, answer_at, asks_for, chain, chain_of, common, followed_by, is_next, is_same_key, key_at}
use Rattle.guess_board.specs.Chains.{link, need_at, need_of, same_words, whole_state, with_next, with_posted}
use Rattle.guess_board.specs.Events.{first_of}
use Rattle.guess_board.specs.Laws.{answer_to}
use Rattle.guess_board.specs.Matching.{matching}
use Rattle.guess_board.specs.declared.cell.Cell.{Cell}
use Rattle.list_laws.proofs.Lists.{each_append}
use Rattle.unit_answers.specs.Answers.{Answered, IsProven}
use Rattle.unit_answers.specs.Keys.{StepKey, meaning}
use Rattle.unit_tree.specs.Components.{Moved}

-- ---- Keys

words_decide : (xs ys : List ℤ) → Decides (same_words xs ys) (xs ≡ ys)
words_decide xs ys = slice_eq-Decides Decides-int_eq xs ys (same_words xs ys) refl

pub words_itself : (words : List ℤ) → same_words words words ≡ true
words_itself words = (words_decide words words).1 refl

pub keys_same : (a b : StepKey) → is_same_key a b ≡ true → a ≡ b
keys_same a b is =
    let one = and_parts (a.time == b.time) _ is in
    let two = and_parts (a.step == b.step) _ one.1 in
    let three = and_parts (same_words a.state b.state) _ two.1 in
    let four = and_parts (same_words a.inputs b.inputs) (same_words a.code b.code) three.1 in
    let time = eqb-true a.time b.time one.0 in
    let step = eqb-true a.step b.step two.0 in
    let state = (words_decide a.state b.state).0 three.0 in
    let inputs = (words_decide a.inputs b.inputs).0 four.0 in
    let code = (words_decide a.code b.code).0 four.1 in
    λ i. record { code = code i; state = state i; inputs = inputs i; time = time i; step = step i }

key_itself : (a : StepKey) → is_same_key a a ≡ true
key_itself a =
    and_from _ _ (eq-eqb a.time a.time refl) (and_from _ _ (eq-eqb a.step a.step refl)
    (and_from _ _ ((words_decide a.state a.state).1 refl) (and_from _ _ ((words_decide a.inputs a.inputs).1 refl) ((words_decide a.code a.code).1 refl))))

pub same_keys : (a b : StepKey) → a ≡ b → is_same_key a b ≡ true
same_keys a b is = subst (λ k. is_same_key a k ≡ true) is (key_itself a)

-- A choice, by its test.
pub chosen : (more : List Answered) (b : Bool) (t : Bool) → t ≡ b → (if t then more else []) ≡ (if b then more else [])
chosen more b t is = ap (λ (u : Bool). if u then more else []) is

-- ---- Beginnings

pub begins_split : (ones all : List Answered) → Begins ones all → all ≡ ones ++ drop (length ones) all
begins_split ones all is = sym (take-append-drop (length ones) all) ∙ ap (λ front. front ++ drop (length ones) all) is

pub begins_of : (ones all rest : List Answered) → all ≡ ones ++ rest → Begins ones all
begins_of ones all rest is = ap (take (length ones)) is ∙ take_at ones rest (length ones) refl

-- A list begins with another, and what comes after that.
pub record Fronts (ones all : List Answered) : Type 0 where
  pub rest : List Answered
  pub is : all ≡ ones ++ rest

pub front_begins : (ones all : List Answered) → Fronts ones all → Begins ones all
front_begins ones all front = begins_of ones all front.rest front.is

pub begins_front : (ones all : List Answered) → Begins ones all → Fronts ones all
begins_front ones all is = record { rest = drop (length ones) all; is = begins_split ones all is }

-- ---- Chains

module _ (meaning : StepKey → Option (Result Moved Fault)) where
  abbrev pub IsMeant : Answered → Type 0
  IsMeant one = meaning one.key ≡ Some one.answer

  pub record Linked (code state : List ℤ) (cell : Cell) (cells : List Cell) (one : Answered) (rest : List Answered) : Type 0 where
    pub first : link meaning code state cell ≡ Some one
    pub others : chain meaning code (whole_state one) cells ≡ rest

linked_by : (l : Option Answered) (others : Option (List ℤ) → List Answered) (one : Answered) (rest : List Answered)
    → followed_by l others ≡ one ∷ rest → (l ≡ Some one) × (others (whole_state one) ≡ rest)
linked_by None others one rest is = absurd (cc)
linked_by (Some first) others one rest is =
    let same : first ≡ one = cc in
    let left : others (whole_state first) ≡ rest = cc in
    (ap Some same, subst (λ o. others (whole_state o) ≡ rest) same left)

module _ (meaning : StepKey → Option (Result Moved Fault)) where
  pub linked : (code state : List ℤ) (cell : Cell) (cells : List Cell) (one : Answered) (rest : List Answered)
      → chain meaning code (Some state) (cell ∷ cells) ≡ one ∷ rest → Linked meaning code state cell cells one rest
  linked code state cell cells one rest is =
      let parts = linked_by (link meaning code state cell) (λ after. chain meaning code after cells) one rest is in
      record { first = parts.0; others = parts.1 }

  pub chain_splits : (code : List ℤ) (state : Option (List ℤ)) (line : List Cell) (ones rest : List Answered)
      → chain meaning code state line ≡ ones ++ rest → rest ≡ chain meaning code (ahead state ones) (drop (length ones) line)
  chain_splits code None line [] rest is = sym is
  chain_splits code (Some state) line [] rest is = sym is
  chain_splits code None [] (one ∷ ones) rest is = absurd (cc)
  chain_splits code None (cell ∷ cells) (one ∷ ones) rest is = absurd (cc)
  chain_splits code (Some state) [] (one ∷ ones) rest is = absurd (cc)
  chain_splits code (Some state) (cell ∷ cells) (one ∷ ones) rest is =
      chain_splits code (whole_state one) cells ones rest (linked code state cell cells one (ones ++ rest) is).others

  -- An answer with the meaning of its key, with the next row and key, is the next link of the chain.
  pub link_is : (code state : List ℤ) (cell : Cell) (one : Answered) → IsMeant meaning one
      → is_next cell.row (key_at code state cell) one ≡ true → link meaning code state cell ≡ Some one
  link_is code state cell one meant is =
      let parts = and_parts (cell.row == one.row) (is_same_key (key_at code state cell) one.key) is in
      let row = eqb-true cell.row one.row parts.0 in
      let key = keys_same (key_at code state cell) one.key parts.1 in
      ap (option_map (answer_at cell.row (key_at code state cell))) (ap meaning key ∙ meant)
      ∙ (λ i. Some (answer_at (row i) (key i) one.answer))

  chain_at : (code state : List ℤ) (cell : Cell) (cells : List Cell) (one : Answered) → link meaning code state cell ≡ Some one
      → chain meaning code (Some state) (cell ∷ cells) ≡ one ∷ chain meaning code (whole_state one) cells
  chain_at code state cell cells one is = ap (λ l. followed_by l (λ after. chain meaning code after cells)) is

  -- ---- What is matched in sequence

  next_itself : (one : Answered) → is_next one.row one.key one ≡ true
  next_itself one = and_from (one.row == one.row) (is_same_key one.key one.key) (eq-eqb one.row one.row refl) (key_itself one.key)

  -- What does not come next does not match.
  unmatched : (row : ℕ) (key : StepKey) (one : Answered) (ones : List Answered) (told : Option (Result Moved Fault))
      (others : Option (List ℤ) → List Answered) → is_next row key one ≡ false
      → [] ≡ common (one ∷ ones) (followed_by (option_map (answer_at row key) told) others)
  unmatched row key one ones None others is = refl
  unmatched row key one ones (Some answer) others is =
      sym (chosen (one ∷ common ones (others (whole_state (answer_at row key answer)))) false (is_next row key one) is)

  matched_at : (code state : List ℤ) (cell : Cell) (cells : List Cell) (one : Answered) (ones : List Answered) → IsMeant meaning one
      → matching code (whole_state one) cells ones ≡ common ones (chain meaning code (whole_state one) cells)
      → (b : Bool) → is_next cell.row (key_at code state cell) one ≡ b
      → matching code (Some state) (cell ∷ cells) (one ∷ ones) ≡ common (one ∷ ones) (chain meaning code (Some state) (cell ∷ cells))
  matched_at code state cell cells one ones meant others true is =
      let here = chain_at code state cell cells one (link_is code state cell one meant is) in
      chosen (one ∷ matching code (whole_state one) cells ones) true (is_next cell.row (key_at code state cell) one) is
      ∙ ap (λ more. one ∷ more) others
      ∙ sym (chosen (one ∷ common ones (chain meaning code (whole_state one) cells)) true (is_next one.row one.key one) (next_itself one))
      ∙ ap (common (one ∷ ones)) (sym here)
  matched_at code state cell cells one ones meant others false is =
      chosen (one ∷ matching code (whole_state one) cells ones) false (is_next cell.row (key_at code state cell) one) is
      ∙ unmatched cell.row (key_at code state cell) one ones (meaning (key_at code state cell)) (λ after. chain meaning code after cells) is

  none_common : (ones : List Answered) → [] ≡ common ones []
  none_common [] = refl
  none_common (one ∷ ones) = refl

  pub matching_common : (code : List ℤ) (state : Option (List ℤ)) (line : List Cell) (ones : List Answered) → AllByRecursion (IsMeant meaning) ones
      → matching code state line ones ≡ common ones (chain meaning code state line)
  matching_common code None [] ones meant = none_common ones
  matching_common code None (cell ∷ cells) ones meant = none_common ones
  matching_common code (Some state) [] ones meant = none_common ones
  matching_common code (Some state) (cell ∷ cells) [] meant = refl
  matching_common code (Some state) (cell ∷ cells) (one ∷ ones) meant =
      matched_at code state cell cells one ones meant.0 (matching_common code (whole_state one) cells ones meant.1)
      (is_next cell.row (key_at code state cell) one) refl

  matched_begins : (code state : List ℤ) (cell : Cell) (cells : List Cell) (one : Answered) (ones : List Answered) → IsMeant meaning one
      → Fronts (matching code (whole_state one) cells ones) (chain meaning code (whole_state one) cells)
      → (b : Bool) → is_next cell.row (key_at code state cell) one ≡ b
      → Fronts (matching code (Some state) (cell ∷ cells) (one ∷ ones)) (chain meaning code (Some state) (cell ∷ cells))
  matched_begins code state cell cells one ones meant others true is =
      let here = chain_at code state cell cells one (link_is code state cell one meant is) in
      let kept = chosen (one ∷ matching code (whole_state one) cells ones) true (is_next cell.row (key_at code state cell) one) is in
      record { rest = others.rest; is = here ∙ ap (λ more. one ∷ more) others.is ∙ ap (λ front. front ++ others.rest) (sym kept) }
  matched_begins code state cell cells one ones meant others false is =
      let kept = chosen (one ∷ matching code (whole_state one) cells ones) false (is_next cell.row (key_at code state cell) one) is in
      record { rest = chain meaning code (Some state) (cell ∷ cells); is = ap (λ front. front ++ chain meaning code (Some state) (cell ∷ cells)) (sym kept) }

  pub matching_begins : (code : List ℤ) (state : Option (List ℤ)) (line : List Cell) (ones : List Answered) → AllByRecursion (IsMeant meaning) ones
      → Fronts (matching code state line ones) (chain meaning code state line)
  matching_begins code None line ones meant = record { rest = chain meaning code None line; is = refl }
  matching_begins code (Some state) [] ones meant = record { rest = []; is = refl }
  matching_begins code (Some state) (cell ∷ cells) [] meant = record { rest = chain meaning code (Some state) (cell ∷ cells); is = refl }
  matching_begins code (Some state) (cell ∷ cells) (one ∷ ones) meant =
      matched_begins code state cell cells one ones meant.0 (matching_begins code (whole_state one) cells ones meant.1)
      (is_next cell.row (key_at code state cell) one) refl

  -- ---- What posts append

  -- The answer to a step is the first of the rest of a chain.
  asked_begins : (code : List ℤ) (state : Option (List ℤ)) (line : List Cell) (one : Answered) → IsMeant meaning one
      → asks_for (need_at code state line) one ≡ true → Fronts (one ∷ []) (chain meaning code state line)
  asked_begins code None [] one meant asks = absurd (cc)
  asked_begins code None (cell ∷ cells) one meant asks = absurd (cc)
  asked_begins code (Some state) [] one meant asks = absurd (cc)
  asked_begins code (Some state) (cell ∷ cells) one meant asks =
      record { rest = chain meaning code (whole_state one) cells; is = chain_at code state cell cells one (link_is code state cell one meant asks) }

  appended : (code state : List ℤ) (line : List Cell) (answers : List Answered) (one : Answered) → IsMeant meaning one
      → Fronts answers (chain meaning code (Some state) line) → (b : Bool) → asks_for (need_of code state line answers) one ≡ b
      → Fronts (if b then answers ++ one ∷ [] else answers) (chain meaning code (Some state) line)
  appended code state line answers one meant before true asks =
      let on = chain_splits code (Some state) line answers before.rest before.is in
      let next = asked_begins code (ahead (Some state) answers) (drop (length answers) line) one meant asks in
      record {
        rest = next.rest;
        is = before.is ∙ ap (λ more. answers ++ more) (on ∙ next.is) ∙ sym (append_assoc answers (one ∷ []) next.rest);
      }
  appended code state line answers one meant before false asks = before

  pub next_begins : (code state : List ℤ) (line : List Cell) (answers : List Answered) (one : Answered) → IsMeant meaning one
      → Fronts answers (chain meaning code (Some state) line) → Fronts (with_next code state line answers one) (chain meaning code (Some state) line)
  next_begins code state line answers one meant before =
      appended code state line answers one meant before (asks_for (need_of code state line answers) one) refl

  pub posted_begins : (code state : List ℤ) (line : List Cell) (answers ones : List Answered) → AllByRecursion (IsMeant meaning) ones
      → Fronts answers (chain meaning code (Some state) line) → Fronts (with_posted code state line answers ones) (chain meaning code (Some state) line)
  posted_begins code state line answers [] meant before = before
  posted_begins code state line answers (one ∷ ones) meant before =
      posted_begins code state line (with_next code state line answers one) ones meant.1 (next_begins code state line answers one meant.0 before)

  -- ---- What is needed next

  head_of : (l : Option Answered) (others : Option (List ℤ) → List Answered) → slice_get (followed_by l others) 0 ≡ l
  head_of None others = refl
  head_of (Some one) others = refl

  pub first_needed : (code : List ℤ) (state : Option (List ℤ)) (line : List Cell)
      → slice_get (chain meaning code state line) 0
      ≡ option_and_then (λ need. option_map (answer_at need.row need.key) (meaning need.key)) (need_at code state line)
  first_needed code None [] = refl
  first_needed code None (cell ∷ cells) = refl
  first_needed code (Some state) [] = refl
  first_needed code (Some state) (cell ∷ cells) = head_of (link meaning code state cell) (λ after. chain meaning code after cells)

  behind : (ones rest : List Answered) → slice_get (ones ++ rest) (length ones) ≡ slice_get rest 0
  behind [] rest = refl
  behind (one ∷ ones) rest = behind ones rest

  pub needed_next : (code state : List ℤ) (line : List Cell) (answers : List Answered) → Fronts answers (chain meaning code (Some state) line)
      → slice_get (chain meaning code (Some state) line) (length answers)
      ≡ option_and_then (λ need. option_map (answer_at need.row need.key) (meaning need.key)) (need_of code state line answers)
  needed_next code state line answers front =
      ap (λ all. slice_get all (length answers)) front.is ∙ behind answers front.rest
      ∙ ap (λ all. slice_get all 0) (chain_splits code (Some state) line answers front.rest front.is)
      ∙ first_needed code (ahead (Some state) answers) (drop (length answers) line)

  pub chain_short : (code : List ℤ) (state : Option (List ℤ)) (line : List Cell) → length (chain meaning code state line) ≤ length line
  chain_short code None [] = omega arith
  chain_short code (Some state) [] = omega arith
  chain_short code None (cell ∷ cells) = omega arith
  chain_short code (Some state) (cell ∷ cells) =
      short_by (link meaning code state cell) (λ after. chain meaning code after cells) (length cells) (λ after. chain_short code after cells)
    where
      short_by : (l : Option Answered) (others : Option (List ℤ) → List Answered) (n : ℕ) → ((after : Option (List ℤ)) → length (others after) ≤ n)
          → length (followed_by l others) ≤ suc n
      short_by None others n each = omega arith
      short_by (Some one) others n each = let here = each (whole_state one) in omega arith

-- ---- By what keys mean

meant_by : (ones : List Answered) → AllByRecursion IsProven ones → AllByRecursion (IsMeant meaning) ones
meant_by [] each = tt
meant_by (one ∷ ones) each = (each.0.is_meaning, meant_by ones each.1)

pub goes_on : (code : List ℤ) (state : Option (List ℤ)) (line : List Cell) (ones rest : List Answered)
    → chain meaning code state line ≡ ones ++ rest → rest ≡ chain meaning code (ahead state ones) (drop (length ones) line)
goes_on = chain_splits meaning

pub answered_next : (code state : List ℤ) (line : List Cell) (answers : List Answered) → Begins answers (chain_of code state line)
    → slice_get (chain_of code state line) (length answers) ≡ option_and_then answer_to (need_of code state line answers)
unfolding chain_of
answered_next code state line answers begins =
    needed_next meaning code state line answers (begins_front answers (chain meaning code (Some state) line) begins)

pub is_short : (code state : List ℤ) (line : List Cell) → length (chain_of code state line) ≤ length line
unfolding chain_of
is_short code state line = chain_short meaning code (Some state) line

pub matched_common : (code state : List ℤ) (line : List Cell) (ones : List Answered) → AllByRecursion IsProven ones
    → matching code (Some state) line ones ≡ common ones (chain_of code state line)
unfolding chain_of
matched_common code state line ones each = matching_common meaning code (Some state) line ones (meant_by ones each)

pub matched_begins_chain : (code state : List ℤ) (line : List Cell) (ones : List Answered) → AllByRecursion IsProven ones
    → Begins (matching code (Some state) line ones) (chain_of code state line)
unfolding chain_of
matched_begins_chain code state line ones each =
    front_begins (matching code (Some state) line ones) (chain meaning code (Some state) line)
    (matching_begins meaning code (Some state) line ones (meant_by ones each))

pub posted_begins_chain : (code state : List ℤ) (line : List Cell) (answers ones : List Answered) → AllByRecursion IsProven ones
    → Begins answers (chain_of code state line) → Begins (with_posted code state line answers ones) (chain_of code state line)
unfolding chain_of
posted_begins_chain code state line answers ones each begins =
    front_begins (with_posted code state line answers ones) (chain meaning code (Some state) line)
    (posted_begins meaning code state line answers ones (meant_by ones each) (begins_front answers (chain meaning code (Some state) line) begins))

-- ---- One more answer

pub posted_more : (code state : List ℤ) (line : List Cell) (answers ones : List Answered) (one : Answered)
    → with_posted code state line answers (ones ++ one ∷ []) ≡ with_next code state line (with_posted code state line answers ones) one
posted_more code state line answers [] one = refl
posted_more code state line answers (first ∷ ones) one = posted_more code state line (with_next code state line answers first) ones one

next_proven : (answers : List Answered) (one : Answered) (asked : Bool) → AllByRecursion IsProven answers → IsProven one
    → AllByRecursion IsProven (if asked then answers ++ one ∷ [] else answers)
next_proven answers one true each proven = each_append IsProven answers (one ∷ []) each (proven, tt)
next_proven answers one false each proven = each

pub posted_proven : (code state : List ℤ) (line : List Cell) (answers ones : List Answered) → AllByRecursion IsProven answers
    → AllByRecursion IsProven ones → AllByRecursion IsProven (with_posted code state line answers ones)
posted_proven code state line answers [] each proven = each
posted_proven code state line answers (one ∷ ones) each proven =
    posted_proven code state line (with_next code state line answers one) ones
    (next_proven answers one (asks_for (need_of code state line answers) one) each proven.0) proven.1

-- ---- What is found

pub first_is : (key : StepKey) (one : Answered) (ones : List Answered) (told : Bool) → (IsTrue told ↔ (one.key ≡ key))
    → (if told then Some one else None) ≡ first_of key (one ∷ ones)
first_is key one ones told exactly = ap (λ (t : Bool). if t then Some one else None) (told_is told exactly)
  where
    told_is : (t : Bool) → (IsTrue t ↔ (one.key ≡ key)) → t ≡ is_same_key one.key key
    told_is true exactly = sym (same_keys one.key key (exactly.0 refl))
    told_is false exactly = by (is_same_key one.key key) refl
      where
        by : (b : Bool) → is_same_key one.key key ≡ b → false ≡ is_same_key one.key key
        by true is = absurd (let e : false ≡ true = exactly.1 (keys_same one.key key is) in cc)
        by false is = sym is
