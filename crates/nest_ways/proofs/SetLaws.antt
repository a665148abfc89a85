-- Sets of numbers by words, and inputs by their numbers.
use Rattle.std.proofs.Common.{◌≡◌, ◌<◌, ◌⊎◌, ◌^◌, ℕ, zero, suc, ◌+◌, ◌-◌, ◌*◌, ◌≤◌, length, List, [], ◌∷◌, ◌++◌, Option, Some, set}
use Rattle.std.proofs.Common.{refl, sym, ap, ◌∙◌, append-nil, drop, subst, arith, inl, inr}
use Rattle.std.specs.Prelude.{bit_or, max, slice_get}
use Rattle.std.specs.Int.{bit_at}
use Rattle.std.proofs.lemmas.Bool.{cases_eq, cases_lt}
use Rattle.std.proofs.lemmas.Nat.Bits.{bit_at-lt, bit_at-zero, bit_at_above, bit_at_or, same_from_bits, same_from_bits_below}
use Rattle.std.proofs.lemmas.Option.{same_Some, slice_get_within}
use Rattle.std.proofs.lemmas.Nat.{same_from_place}
use Rattle.list_laws.proofs.Members.{at_front, at_place, at_push, set_elsewhere, set_there}
use Rattle.nest_ways.specs.Sets.{AreKeptSets, HasAll, HasAt, HasNumber, HasNumberAt, HasOnly, HasSame, IsAmong, IsEmpty, IsInWord, IsKeptSet}
use Rattle.nest_ways.specs.declared.ends.End.{End}
use Rattle.nest_ways.specs.declared.sets.NumberSet.{NumberSet}
use Rattle.nest_ways.specs.declared.sets.SetWord.{SetWord}
use Rattle.nest_ways.specs.declared.steps.Known.{Known}

-- ---- Words

pub has_more : (words more : List SetWord) (place bit : ℕ) → HasAt words place bit → HasAt (words ++ more) place bit
has_more words more place bit has = (has.0, at_front words more place has.0 has.1, has.2)

-- One more empty word.
pub empty_more : (words : List SetWord) (one : SetWord) → ((number : ℕ) → IsInWord one number → ⊥) → (place bit : ℕ)
    → HasAt (words ++ one ∷ []) place bit → HasAt words place bit
empty_more words one none place bit has =
    at_push (λ (k : ℕ) (each : SetWord). IsInWord each bit → HasAt words k bit) words one (λ k each at is. (each, at, is)) (λ is. absurd (none bit is)) place
    has.0 has.1 has.2

-- A word with more numbers takes the place of one.
pub set_only : (words : List SetWord) (place : ℕ) (More : ℕ → Type 0) (old new : SetWord) → slice_get words place ≡ Some old
    → ((bit : ℕ) → IsInWord new bit → More bit ⊎ IsInWord old bit) → (at bit : ℕ) → HasAt (set words place new) at bit
    → ((at ≡ place) × More bit) ⊎ HasAt words at bit
set_only words place More old new is less at bit has = by (cases_eq at place)
  where
    by : (at ≡ place) ⊎ (at ≡ place → ⊥) → ((at ≡ place) × More bit) ⊎ HasAt words at bit
    by (inl here) = which (less bit (subst (λ word. IsInWord word bit) same has.2))
      where
        same : has.0 ≡ new
        same =
            same_Some has.0 new
            (sym has.1 ∙ ap (slice_get (set words place new)) here ∙ set_there words place new (slice_get_within words place old is))

        which : More bit ⊎ IsInWord old bit → ((at ≡ place) × More bit) ⊎ HasAt words at bit
        which (inl now) = inl (here, now)
        which (inr before) = inr (old, ap (slice_get words) here ∙ is, before)
    by (inr other) = inr (has.0, sym (set_elsewhere words place at new other) ∙ has.1, has.2)

-- ---- Numbers

pub dropped : (words : List SetWord) (n k : ℕ) → slice_get (drop n words) k ≡ slice_get words (n + k)
dropped words zero k = ap (slice_get words) (let is : k ≡ zero + k = omega arith in is)
dropped [] (suc n) k = refl
dropped (word ∷ words) (suc n) k = dropped words n k ∙ ap (slice_get (word ∷ words)) (let is : suc (n + k) ≡ suc n + k = omega arith in is)

-- Words that have the bits of others, a number of places later.
pub number_to : (one other : NumberSet) (ahead : ℕ) → one.start ≡ other.start + ahead
    → ((place bit : ℕ) → HasAt one.words.items place bit → HasAt other.words.items (ahead + place) bit) → (number : ℕ) → HasNumber one number
    → HasNumber other number
number_to one other ahead start has number held = record {
  place = ahead + held.place;
  bit = held.bit;
  has = has held.place held.bit held.has;
  is = let told = held.is in omega (arith, told, start);
}

-- Words after the first ones.
pub at_dropped : (words : List SetWord) (n place bit : ℕ) → HasAt (drop n words) place bit → HasAt words (n + place) bit
at_dropped words n place bit has = (has.0, sym (dropped words n place) ∙ has.1, has.2)

pub dropped_at : (words : List SetWord) (n place bit : ℕ) → HasAt words (n + place) bit → HasAt (drop n words) place bit
dropped_at words n place bit has = (has.0, dropped words n place ∙ has.1, has.2)

-- One more word is within the other at its place.
pub within_here : (ones others : List SetWord) (place : ℕ) (one other : SetWord) → slice_get ones place ≡ Some one
    → ((bit : ℕ) → IsInWord one bit → IsInWord other bit) → ((bit : ℕ) → IsInWord other bit → HasAt others place bit)
    → ((at bit : ℕ) → at < place → HasAt ones at bit → HasAt others at bit) → (at bit : ℕ) → at < place + 1 → HasAt ones at bit
    → HasAt others at bit
within_here ones others place one other is within has before at bit less held = by (cases_eq at place)
  where
    by : (at ≡ place) ⊎ (at ≡ place → ⊥) → HasAt others at bit
    by (inl here) =
        let same : held.0 ≡ one = same_Some held.0 one (sym held.1 ∙ ap (slice_get ones) here ∙ is) in
        subst (λ k. HasAt others k bit) (sym here) (has bit (within bit (subst (λ word. IsInWord word bit) same held.2)))
    by (inr apart) = before at bit (omega (arith, less, apart)) held

-- The same a number of places later.
pub within_next : (ones others : List SetWord) (place there : ℕ) (ahead : ℕ) (one other : SetWord) → slice_get ones place ≡ Some one → there ≡ ahead + place
    → ((bit : ℕ) → IsInWord one bit → IsInWord other bit) → ((bit : ℕ) → IsInWord other bit → HasAt others there bit)
    → ((at bit : ℕ) → at < place → HasAt ones at bit → HasAt others (ahead + at) bit) → (at bit : ℕ) → at < place + 1 → HasAt ones at bit
    → HasAt others (ahead + at) bit
within_next ones others place there ahead one other is far within has before at bit less held =
    at_dropped others ahead at bit
    (within_here ones (drop ahead others) place one other is within
    (λ b in_other. dropped_at others ahead place b (subst (λ k. HasAt others k b) far (has b in_other)))
    (λ k b low own. dropped_at others ahead k b (before k b low own)) at bit less held)

-- An empty word.
pub empty_next : (words : List SetWord) (place : ℕ) (word : SetWord) → slice_get words place ≡ Some word → IsEmpty word
    → ((at bit : ℕ) → HasAt words at bit → place ≤ at) → (at bit : ℕ) → HasAt words at bit → place + 1 ≤ at
empty_next words place word is none least at bit has = by (cases_eq at place)
  where
    by : (at ≡ place) ⊎ (at ≡ place → ⊥) → place + 1 ≤ at
    by (inl here) =
        let same : has.0 ≡ word = same_Some has.0 word (sym has.1 ∙ ap (slice_get words) here ∙ is) in
        absurd (none bit (subst (λ each. IsInWord each bit) same has.2))
    by (inr apart) = let low = least at bit has in omega (arith, low, apart)

-- All words before a place are empty, by how many are empty before the first that isn't.
pub all_before : (words : List SetWord) (empty place : ℕ) → ((at bit : ℕ) → HasAt words at bit → empty ≤ at) → empty ≡ length words
    → (at bit : ℕ) → HasAt words at bit → place ≤ at
all_before words empty place least end at bit has =
    let low = least at bit has in
    let within = slice_get_within words at has.0 has.1 in
    absurd (omega (arith, low, end, within))

pub first_before : (words : List SetWord) (empty place : ℕ) → ((word : SetWord) → slice_get words empty ≡ Some word → IsEmpty word → ⊥)
    → empty < length words → ((at bit : ℕ) → HasAt words at bit → place ≤ at) → place ≤ empty
first_before words empty place first within before = by (cases_lt empty place)
  where
    here : (word : SetWord) × (slice_get words empty ≡ Some word)
    here = at_place words empty within

    by : (empty < place) ⊎ (place ≤ empty) → place ≤ empty
    by (inl less) =
        absurd
        (first here.0 here.1
        (λ bit is. let far = before empty bit (here.0, here.1, is) in omega (arith, less, far)))
    by (inr enough) = enough

-- ---- Sets that are within others

-- The place and the bit of a number are those by which another set has it.
same_number : (one other : NumberSet) (place bit : ℕ) → HasAt one.words.items place bit
    → (held : HasNumber other ((one.start + place) * 64 + bit)) → (one.start + place ≡ other.start + held.place) × (bit ≡ held.bit)
same_number one other place bit has held =
    same_from_place (one.start + place) bit (other.start + held.place) held.bit 64 has.2.0 held.has.2.0 held.is

pub set_within : (one other : NumberSet) (before ahead : ℕ) → before ≡ other.start - one.start → ahead ≡ one.start - other.start
    → ((place bit : ℕ) → HasAt one.words.items place bit → before ≤ place)
    → ((place bit : ℕ) → HasAt (drop before one.words.items) place bit → HasAt (drop ahead other.words.items) place bit) → (number : ℕ)
    → HasNumber one number → HasNumber other number
set_within one other before ahead before_is ahead_is empty within number held =
    let low = empty held.place held.bit held.has in
    let is = held.is in
    let place : held.place ≡ before + (held.place - before) = omega (arith, low) in
    let own = dropped_at one.words.items before (held.place - before) held.bit (subst (λ k. HasAt one.words.items k held.bit) place held.has) in
    let there = at_dropped other.words.items ahead (held.place - before) held.bit (within (held.place - before) held.bit own) in record {
      place = ahead + (held.place - before);
      bit = held.bit;
      has = there;
      is = omega (arith, is, low, before_is, ahead_is);
    }

pub within_empty : (one other : NumberSet) (before : ℕ) → before ≡ other.start - one.start
    → ((number : ℕ) → HasNumber one number → HasNumber other number) → (place bit : ℕ) → HasAt one.words.items place bit → before ≤ place
within_empty one other before before_is all place bit has =
    let held = all ((one.start + place) * 64 + bit) (record { place = place; bit = bit; has = has; is = refl }) in
    let same = (same_number one other place bit has held).0 in omega (arith, same, before_is)

pub within_dropped : (one other : NumberSet) (before ahead : ℕ) → before ≡ other.start - one.start → ahead ≡ one.start - other.start
    → ((number : ℕ) → HasNumber one number → HasNumber other number) → (place bit : ℕ) → HasAt (drop before one.words.items) place bit
    → HasAt (drop ahead other.words.items) place bit
within_dropped one other before ahead before_is ahead_is all place bit has =
    let own = at_dropped one.words.items before place bit has in
    let held = all ((one.start + (before + place)) * 64 + bit) (record { place = before + place; bit = bit; has = own; is = refl }) in
    let same = same_number one other (before + place) bit own held in
    let first = same.0 in
    let there : held.place ≡ ahead + place = omega (arith, first, before_is, ahead_is) in
    dropped_at other.words.items ahead place bit
    (subst (λ k. HasAt other.words.items k bit) there (subst (λ b. HasAt other.words.items held.place b) (sym same.1) held.has))

-- A word with one bit more.
pub number_only : (old new : NumberSet) (place bit number : ℕ) → new.start ≡ old.start → number ≡ (old.start + place) * 64 + bit
    → ((at one : ℕ) → HasAt new.words.items at one → ((at ≡ place) × (one ≡ bit)) ⊎ HasAt old.words.items at one) → (one : ℕ) → HasNumber new one
    → (one ≡ number) ⊎ HasNumber old one
number_only old new place bit number start is has one held = by (has held.place held.bit held.has)
  where
    told : one ≡ (old.start + held.place) * 64 + held.bit
    told = held.is ∙ ap (λ first. (first + held.place) * 64 + held.bit) start

    by : ((held.place ≡ place) × (held.bit ≡ bit)) ⊎ HasAt old.words.items held.place held.bit → (one ≡ number) ⊎ HasNumber old one
    by (inl here) =
        inl (told ∙ ap (λ n. (old.start + n) * 64 + held.bit) here.0 ∙ ap (λ n. (old.start + place) * 64 + n) here.1 ∙ sym is)
    by (inr there) = inr (record { place = held.place; bit = held.bit; has = there; is = told })

-- Words without the first ones, none of which has a bit.
pub trimmed_same : (words : List SetWord) (one made : NumberSet) (empty : ℕ) → one.words.items ≡ words → made.start ≡ one.start + empty
    → made.words.items ≡ drop empty words → ((place bit : ℕ) → HasAt words place bit → empty ≤ place) → HasSame made one
trimmed_same words one made empty of start left least number = (back, there)
  where
    back : HasNumber made number → HasNumber one number
    back held = record {
      place = empty + held.place;
      bit = held.bit;
      has = (
        held.has.0,
        ap (λ those. slice_get those (empty + held.place)) of ∙ sym (dropped words empty held.place)
            ∙ ap (λ those. slice_get those held.place) (sym left) ∙ held.has.1,
        held.has.2,
      );
      is = let told = held.is in omega (arith, told, start);
    }

    there : HasNumber one number → HasNumber made number
    there held =
        let low = least held.place held.bit (subst (λ those. HasAt those held.place held.bit) of held.has) in
        let is = held.is in
        let place : empty + (held.place - empty) ≡ held.place = omega (arith, low) in record {
          place = held.place - empty;
          bit = held.bit;
          has = (
            held.has.0,
            ap (λ those. slice_get those (held.place - empty)) left ∙ dropped words empty (held.place - empty)
                ∙ ap (slice_get words) place ∙ ap (λ those. slice_get those held.place) (sym of) ∙ held.has.1,
            held.has.2,
          );
          is = omega (arith, is, start, low);
        }

-- The first word that is left isn't empty, where no more words could be left out.
pub trimmed_first : (words left : List SetWord) (empty : ℕ) → left ≡ drop empty words
    → ((word : SetWord) → slice_get words empty ≡ Some word → IsEmpty word → ⊥) → (word : SetWord) → slice_get left 0 ≡ Some word → IsEmpty word → ⊥
trimmed_first words left empty is first word at =
    let here : empty + 0 ≡ empty = omega arith in
    first word
    (ap (slice_get words) (sym here) ∙ sym (dropped words empty 0) ∙ ap (λ those. slice_get those 0) (sym is) ∙ at)

-- Only numbers of a word of another set are added.
pub word_comes : (old new other : NumberSet) (word : SetWord) (ahead place there : ℕ) → new.start ≡ old.start → other.start ≡ old.start + ahead
    → there ≡ ahead + place → slice_get other.words.items place ≡ Some word
    → ((at bit : ℕ) → HasAt new.words.items at bit → ((at ≡ there) × IsInWord word bit) ⊎ HasAt old.words.items at bit)
    → (number : ℕ) → HasNumber new number → HasNumber other number ⊎ HasNumber old number
word_comes old new other word ahead place there start far is at only number held = by (only held.place held.bit held.has)
  where
    by : ((held.place ≡ there) × IsInWord word held.bit) ⊎ HasAt old.words.items held.place held.bit → HasNumber other number ⊎ HasNumber old number
    by (inl here) =
        let told = held.is in
        let same = here.0 in
        inl (record { place = place; bit = held.bit; has = (word, at, here.1); is = omega (arith, told, start, far, is, same) })
    by (inr before) =
        let told = held.is in inr (record { place = held.place; bit = held.bit; has = before; is = omega (arith, told, start) })

-- ---- Inputs by numbers

-- More get numbers.
pub all_more : (numbered more : List End) (set : NumberSet) (ends : List End) → HasAll numbered set ends → HasAll (numbered ++ more) set ends
all_more numbered more set ends has end among =
    let number = has end among in (number.0, number.1, at_front numbered more number.0 end number.2)

pub only_more : (numbered more : List End) (set : NumberSet) (ends : List End) → HasOnly numbered set ends → HasOnly (numbered ++ more) set ends
only_more numbered more set ends only number has =
    let own = only number has in (own.0, at_front numbered more number own.0 own.1, own.2)

pub all_same : (numbered : List End) (one made : NumberSet) (ends : List End) → HasSame made one → HasAll numbered one ends → HasAll numbered made ends
all_same numbered one made ends same has end among = let number = has end among in (number.0, (same number.0).1 number.1, number.2)

pub only_same : (numbered : List End) (one made : NumberSet) (ends : List End) → HasSame made one → HasOnly numbered one ends
    → HasOnly numbered made ends
only_same numbered one made ends same only number has = only number ((same number).0 has)

pub sets_more : (numbered more : List End) (all : List Known) (sets : List (Option NumberSet)) → AreKeptSets numbered all sets
    → AreKeptSets (numbered ++ more) all sets
sets_more numbered more all sets are input set found =
    let own = are input set found in record {
      known = own.known;
      there = own.there;
      kept = own.kept;
      keeps = own.keeps;
      has_all = all_more numbered more set own.kept own.has_all;
      has_only = only_more numbered more set own.kept own.has_only;
    }

-- What is read where an element was set is that element.
set_is : {A : Type 0} (xs : List A) (k : ℕ) (x y : A) → slice_get (set xs k x) k ≡ Some y → x ≡ y
set_is [] k x y is = absurd (cc)
set_is (first ∷ xs) zero x y is = same_Some x y is
set_is (first ∷ xs) (suc k) x y is = set_is xs k x y is

-- The set of one more input.
pub sets_with : (numbered : List End) (all : List Known) (sets : List (Option NumberSet)) (input : ℕ) (made : Option NumberSet)
    → AreKeptSets numbered all sets → ((one : NumberSet) → made ≡ Some one → IsKeptSet numbered all input one)
    → AreKeptSets numbered all (set sets input made)
sets_with numbered all sets input made are own other one found = by (cases_eq other input)
  where
    by : (other ≡ input) ⊎ (other ≡ input → ⊥) → IsKeptSet numbered all other one
    by (inl here) =
        let there = subst (λ k. slice_get (set sets input made) k ≡ Some (Some one)) here found in
        subst (λ place. IsKeptSet numbered all place one) (sym here) (own one (set_is sets input made (Some one) there))
    by (inr apart) = are other one (sym (set_elsewhere sets input other made apart) ∙ found)

-- ---- Words that are joined

pub word_within : (one other : SetWord) → bit_or one.bits other.bits ≡ other.bits → (number : ℕ) → IsInWord one number → IsInWord other number
word_within one other same number is =
    let bit = is.1 in (
      is.0,
      sym (ap (λ bits. bit_at bits number) same) ∙ omega (arith, bit, bit_at_or one.bits other.bits number, bit_at-lt other.bits number),
    )

pub word_either : (one other : SetWord) (number : ℕ) → (number < 64) × (bit_at (bit_or one.bits other.bits) number ≡ 1)
    → IsInWord one number ⊎ IsInWord other number
word_either one other number is = by (cases_eq (bit_at one.bits number) 1)
  where
    by : (bit_at one.bits number ≡ 1) ⊎ (bit_at one.bits number ≡ 1 → ⊥) → IsInWord one number ⊎ IsInWord other number
    by (inl here) = inl (is.0, here)
    by (inr not_here) =
        let bit = is.1 in
        inr (is.0, omega (arith, bit, not_here, bit_at_or one.bits other.bits number, bit_at-lt one.bits number, bit_at-lt other.bits number))

-- Each number of one word is in the other: the bits of both are those of the other.
pub word_covers : (one other : SetWord) → one.bits < 2 ^ 64 → ((number : ℕ) → IsInWord one number → IsInWord other number)
    → bit_or one.bits other.bits ≡ other.bits
word_covers one other fits within =
    same_from_bits (bit_or one.bits other.bits) other.bits (λ number. bit_at_or one.bits other.bits number ∙ by number (cases_eq (bit_at one.bits number) 1) (cases_lt number 64))
  where
    by : (number : ℕ) → (bit_at one.bits number ≡ 1) ⊎ (bit_at one.bits number ≡ 1 → ⊥) → (number < 64) ⊎ (64 ≤ number)
        → max (bit_at one.bits number) (bit_at other.bits number) ≡ bit_at other.bits number
    by number (inl here) (inl low) = let there = (within number (low, here)).1 in omega (arith, here, there)
    by number (inl here) (inr high) = let none = bit_at_above one.bits 64 number fits high in absurd (omega (arith, here, none))
    by number (inr not_here) _ = omega (arith, not_here, bit_at-lt one.bits number)

-- A number of either word is one of both.
pub either_word : (one other : SetWord) (number : ℕ) → IsInWord one number ⊎ IsInWord other number
    → (number < 64) × (bit_at (bit_or one.bits other.bits) number ≡ 1)
either_word one other number (inl is) =
    let bit = is.1 in (is.0, omega (arith, bit, bit_at_or one.bits other.bits number, bit_at-lt other.bits number))
either_word one other number (inr is) =
    let bit = is.1 in (is.0, omega (arith, bit, bit_at_or one.bits other.bits number, bit_at-lt one.bits number))

-- A word is empty where none of its bits is set.
pub no_bits : (word : SetWord) → word.bits ≡ 0 → IsEmpty word
no_bits word none number is =
    let bit = sym (bit_at-zero number) ∙ sym (ap (λ bits. bit_at bits number) none) ∙ is.1 in absurd (omega (arith, bit))

pub empty_bits : (word : SetWord) → word.bits < 2 ^ 64 → IsEmpty word → word.bits ≡ 0
empty_bits word fits none =
    same_from_bits_below 64 word.bits 0 fits (omega arith)
    (λ number low. by number (λ is. none number (low, is)))
  where
    by : (number : ℕ) → (bit_at word.bits number ≡ 1 → ⊥) → bit_at word.bits number ≡ bit_at 0 number
    by number not_here = omega (arith, not_here, bit_at-lt word.bits number, bit_at-zero number)

-- ---- What was added from scopes

-- One more scope, from which nothing was added.
pub none_put : (sets : List NumberSet) (one : NumberSet) → ((scope number : ℕ) → HasNumberAt sets scope number → ⊥)
    → ((number : ℕ) → HasNumber one number → ⊥) → (scope number : ℕ) → HasNumberAt (sets ++ one ∷ []) scope number → ⊥
none_put sets one before none scope number put =
    at_push (λ (k : ℕ) (each : NumberSet). HasNumber each number → ⊥) sets one (λ k each at has. before k number (each, at, has)) (none number) scope put.0
    put.1 put.2

-- One more set was added from a scope.
pub put_set : (sets : List NumberSet) (scope : ℕ) (made own one : NumberSet) → slice_get sets scope ≡ Some own
    → ((number : ℕ) → HasNumber made number → HasNumber one number ⊎ HasNumber own number)
    → (other number : ℕ) → HasNumberAt (set sets scope made) other number → ((other ≡ scope) × HasNumber one number) ⊎ HasNumberAt sets other number
put_set sets scope made own one there only other number put = by (cases_eq other scope)
  where
    by : (other ≡ scope) ⊎ (other ≡ scope → ⊥) → ((other ≡ scope) × HasNumber one number) ⊎ HasNumberAt sets other number
    by (inl here) = which (only number (subst (λ each. HasNumber each number) same put.2))
      where
        same : put.0 ≡ made
        same =
            same_Some put.0 made
            (sym put.1 ∙ ap (slice_get (set sets scope made)) here ∙ set_there sets scope made (slice_get_within sets scope own there))

        which : HasNumber one number ⊎ HasNumber own number → ((other ≡ scope) × HasNumber one number) ⊎ HasNumberAt sets other number
        which (inl now) = inl (here, now)
        which (inr before) = inr (own, ap (slice_get sets) here ∙ there, before)
    by (inr apart) = inr (put.0, sym (set_elsewhere sets scope other made apart) ∙ put.1, put.2)

-- The sets of other scopes stay, and the one of this scope keeps its numbers.
pub put_still : (sets : List NumberSet) (scope : ℕ) (made own : NumberSet) → slice_get sets scope ≡ Some own
    → ((number : ℕ) → HasNumber own number → HasNumber made number)
    → (other number : ℕ) → HasNumberAt sets other number → HasNumberAt (set sets scope made) other number
put_still sets scope made own there keeps other number put = by (cases_eq other scope)
  where
    by : (other ≡ scope) ⊎ (other ≡ scope → ⊥) → HasNumberAt (set sets scope made) other number
    by (inl here) =
        let same : put.0 ≡ own = same_Some put.0 own (sym put.1 ∙ ap (slice_get sets) here ∙ there) in (
          made,
          ap (slice_get (set sets scope made)) here ∙ set_there sets scope made (slice_get_within sets scope own there),
          keeps number (subst (λ each. HasNumber each number) same put.2),
        )
    by (inr apart) = (put.0, set_elsewhere sets scope other made apart ∙ put.1, put.2)

-- The set of this scope has the numbers that were added.
pub put_there : (sets : List NumberSet) (scope : ℕ) (made own : NumberSet) → slice_get sets scope ≡ Some own → (number : ℕ) → HasNumber made number
    → HasNumberAt (set sets scope made) scope number
put_there sets scope made own there number has = (made, set_there sets scope made (slice_get_within sets scope own there), has)

-- ---- Numbers of what is kept

-- At most one more input got a number.
pub numbered_on : (old new : List End) (end : End) → (new ≡ old) ⊎ (new ≡ old ++ end ∷ []) → (rest : List End) × (new ≡ old ++ rest)
numbered_on old new end (inl same) = ([], same ∙ sym (append-nil old))
numbered_on old new end (inr more) = (end ∷ [], more)

-- One more of those that are kept has a number.
pub numbered_next : (kept numbered more : List End) (old new : NumberSet) (index number : ℕ) (end : End) → slice_get kept index ≡ Some end
    → slice_get (numbered ++ more) number ≡ Some end → HasNumber new number → ((one : ℕ) → HasNumber old one → HasNumber new one)
    → ((place : ℕ) (one : End) → place < index → slice_get kept place ≡ Some one → (n : ℕ) × HasNumber old n × (slice_get numbered n ≡ Some one))
    → (place : ℕ) (one : End) → place < index + 1 → slice_get kept place ≡ Some one
    → (n : ℕ) × HasNumber new n × (slice_get (numbered ++ more) n ≡ Some one)
numbered_next kept numbered more old new index number end here there has still before place one less at = by (cases_eq place index)
  where
    by : (place ≡ index) ⊎ (place ≡ index → ⊥) → (n : ℕ) × HasNumber new n × (slice_get (numbered ++ more) n ≡ Some one)
    by (inl same) =
        let one_is : end ≡ one = same_Some end one (sym here ∙ ap (slice_get kept) (sym same) ∙ at) in
        (number, has, there ∙ ap Some one_is)
    by (inr apart) =
        let found = before place one (omega (arith, less, apart)) at in
        (found.0, still found.0 found.1, at_front numbered more found.0 one found.2)

pub numbered_only : (kept numbered more : List End) (old new : NumberSet) (index number : ℕ) (end : End) → slice_get kept index ≡ Some end
    → slice_get (numbered ++ more) number ≡ Some end → ((one : ℕ) → HasNumber new one → (one ≡ number) ⊎ HasNumber old one)
    → HasOnly numbered old kept → HasOnly (numbered ++ more) new kept
numbered_only kept numbered more old new index number end here there less only one held = by (less one held)
  where
    by : (one ≡ number) ⊎ HasNumber old one → (each : End) × (slice_get (numbered ++ more) one ≡ Some each) × IsAmong each kept
    by (inl same) = (end, ap (slice_get (numbered ++ more)) same ∙ there, (index, here))
    by (inr before) = let own = only one before in (own.0, at_front numbered more one own.0 own.1, own.2)
