-- Where the answers of a lane come from: those that a publish keeps were there, and those that a post appends come after them.
use Rattle.std.proofs.Common.{◌≡◌, ◌∙◌, ℕ, zero, suc, ℤ, arith, Bool, true, false, if◌then◌else◌, List, []}
use Rattle.std.proofs.Common.{◌∷◌, ◌++◌, length, drop, inl, inr, refl, sym, ap, subst}
use Rattle.std.proofs.Common.{◌⊎◌, append_assoc, append-nil}
use Rattle.std.proofs.lemmas.List.{drop_at}
use Rattle.std.proofs.lemmas.List.Elements.{Contains-append_cases, Contains-append_left, Contains-append_right}
use Rattle.std.specs.List.{Contains, filter}
use Rattle.std.specs.Prelude.{nat_le}
use Rattle.guess_board.specs.Chains.{asks_for, common, is_next, left_of, need_of, with_next, with_posted}
use Rattle.guess_board.specs.declared.cell.Cell.{Cell}
use Rattle.unit_answers.specs.Answers.{Answered}

pub contains_head : (x : Answered) (xs : List Answered) → Contains (x ∷ xs) x
contains_head x xs = Contains-append_left (x ∷ []) xs x (0, omega arith, refl)

contains_behind : (x y : Answered) (xs : List Answered) → Contains xs y → Contains (x ∷ xs) y
contains_behind x y xs has = Contains-append_right (x ∷ []) xs y has

-- Each of some answers is among others.
abbrev pub AreAmong : List Answered → List Answered → Type 0
AreAmong ones others = (one : Answered) → Contains ones one → Contains others one

only_one : (x y : Answered) → Contains (x ∷ []) y → x ≡ y
only_one x y (zero, within, is) = is
only_one x y (suc k, within, is) = absurd (omega (arith, within))

front_by : (x y : Answered) (xs : List Answered) → Contains (x ∷ []) y ⊎ Contains xs y → (x ≡ y) ⊎ Contains xs y
front_by x y xs (inl one) = inl (only_one x y one)
front_by x y xs (inr more) = inr more

front_case : (x y : Answered) (xs : List Answered) → Contains (x ∷ xs) y → (x ≡ y) ⊎ Contains xs y
front_case x y xs has = front_by x y xs (Contains-append_cases (x ∷ []) xs y has)

pub none_there : (y : Answered) → Contains [] y → ⊥
none_there y (k, within, is) = omega (arith, within)

among_either : (x one : Answered) (xs ys : List Answered) → ((x ≡ one) ⊎ Contains ys one) → (Contains ys one → Contains xs one) → Contains (x ∷ xs) one
among_either x one xs ys (inl same) others = subst (Contains (x ∷ xs)) same (contains_head x xs)
among_either x one xs ys (inr more) others = contains_behind x one xs (others more)

pub common_among : (ones others : List Answered) → AreAmong (common ones others) ones
common_among [] others one has = has
common_among (x ∷ xs) [] one has = absurd (none_there one has)
common_among (x ∷ xs) (other ∷ others) one has = at (is_next other.row other.key x) has (common_among xs others one)
  where
    at : (b : Bool) → Contains (if b then x ∷ common xs others else []) one → (Contains (common xs others) one → Contains xs one) → Contains (x ∷ xs) one
    at true there rest = among_either x one xs (common xs others) (front_case x one (common xs others) there) rest
    at false there rest = absurd (none_there one there)

abbrev not_below : ℕ → List Answered → List Answered
not_below row ones = filter (λ one. nat_le row one.row) ones

left_among_by : (row : ℕ) (ones : List Answered) → AreAmong (not_below row ones) ones
left_among_by row [] one has = has
left_among_by row (x ∷ xs) one has = at (nat_le row x.row) has (left_among_by row xs one)
  where
    at : (b : Bool) → Contains (if b then x ∷ not_below row xs else not_below row xs) one → (Contains (not_below row xs) one → Contains xs one)
        → Contains (x ∷ xs) one
    at true there rest = among_either x one xs (not_below row xs) (front_case x one (not_below row xs) there) rest
    at false there rest = contains_behind x one xs (rest there)

pub left_among : (line : List Cell) (ones : List Answered) → AreAmong (left_of line ones) ones
left_among [] ones one has = absurd (none_there one has)
left_among (first ∷ cells) ones one has = left_among_by first.row ones one has

-- What posts leave begins with the answers that were there.
pub record GoesOn (old new : List Answered) : Type 0 where
  pub more : List Answered
  pub is : new ≡ old ++ more

next_goes_on : (code state : List ℤ) (line : List Cell) (answers : List Answered) (one : Answered)
    → GoesOn answers (with_next code state line answers one)
next_goes_on code state line answers one = at (asks_for (need_of code state line answers) one)
  where
    at : (b : Bool) → GoesOn answers (if b then answers ++ one ∷ [] else answers)
    at true = record { more = one ∷ []; is = refl }
    at false = record { more = []; is = sym (append-nil answers) }

pub posted_goes_on : (code state : List ℤ) (line : List Cell) (answers ones : List Answered) → GoesOn answers (with_posted code state line answers ones)
posted_goes_on code state line answers [] = record { more = []; is = sym (append-nil answers) }
posted_goes_on code state line answers (one ∷ ones) =
    let first = next_goes_on code state line answers one in
    let rest = posted_goes_on code state line (with_next code state line answers one) ones in
    record {
      more = first.more ++ rest.more;
      is = rest.is ∙ ap (λ front. front ++ rest.more) first.is ∙ append_assoc answers first.more rest.more;
    }

-- An answer of the new ones was there, or comes after those that were.
pub old_or_new : (old new : List Answered) (one : Answered) → GoesOn old new → Contains new one → Contains old one ⊎ Contains (drop (length old) new) one
old_or_new old new one on has =
    let behind : drop (length old) new ≡ on.more = ap (drop (length old)) on.is ∙ drop_at old on.more (length old) refl in
    by behind (Contains-append_cases old on.more one (subst (λ all. Contains all one) on.is has))
  where
    by : drop (length old) new ≡ on.more → Contains old one ⊎ Contains on.more one → Contains old one ⊎ Contains (drop (length old) new) one
    by same (inl there) = inl there
    by same (inr more) = inr (subst (λ all. Contains all one) (sym same) more)
