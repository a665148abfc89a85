-- Lists of what is known grow, and the folds that fill them reach each item.
use Rattle.link_laws.specs.Boards.{IsKnown, IsSo, entry}
use Rattle.link_laws.specs.Making.{each, is_held_by}
use Rattle.link_laws.specs.Nodes.{Making}
use Rattle.list_laws.proofs.Members.{Has}
use Rattle.std.proofs.Common.{ap₂, arith, inl, inr, refl, subst, sym, ◌+◌, ◌<◌, ◌∙◌}
use Rattle.std.specs.List.{AllZip, enumerate_from, list_all}
use Rattle.std.specs.Prelude.{List, None, Option, Some, [], is_none, is_some, length, slice_get, slice_set, suc, true, zero, ℕ, ◌==◌, ◌∷◌}
use Rattle.std.specs.Prelude.{◌≡◌}

-- ---- What is known stays

-- What is known in the old list is so in the new one, which is as long.
pub record Grows {A : Type 0} (old new : List (Option A)) : Type 0 where
  pub long : length new ≡ length old
  pub stays : (place : ℕ) (one : A) → entry old place ≡ Some one → entry new place ≡ Some one

pub grows_not : {A : Type 0} (known : List (Option A)) → Grows known known
grows_not known = record { long = refl; stays = λ place one is. is }

pub grows_on : {A : Type 0} (one two three : List (Option A)) → Grows one two → Grows two three → Grows one three
grows_on one two three first second = record { long = second.long ∙ first.long; stays = λ place told is. second.stays place told (first.stays place told is) }

set_long : {A : Type 0} (known : List A) (place : ℕ) (one : A) → length (slice_set known place one) ≡ length known
set_long [] place one = refl
set_long (first ∷ known) zero one = refl
set_long (first ∷ known) (suc place) one = let rest = set_long known place one in omega (arith, rest)

set_stays : {A : Type 0} (known : List (Option A)) (place other : ℕ) (one told : A) → is_none (entry known place) ≡ true → entry known other ≡ Some told
    → entry (slice_set known place (Some one)) other ≡ Some told
set_stays [] place other one told none is = is
set_stays (None ∷ known) zero zero one told none is = absurd (cc)
set_stays (Some first ∷ known) zero zero one told none is = absurd (cc)
set_stays (first ∷ known) zero (suc other) one told none is = is
set_stays (first ∷ known) (suc place) zero one told none is = is
set_stays (first ∷ known) (suc place) (suc other) one told none is = set_stays known place other one told none is

pub set_grows : {A : Type 0} (known : List (Option A)) (place : ℕ) (one : A) → is_none (entry known place) ≡ true
    → Grows known (slice_set known place (Some one))
set_grows known place one none = record {
  long = set_long known place (Some one);
  stays = λ other told is. set_stays known place other one told none is;
}

pub set_is : {A : Type 0} (known : List (Option A)) (place : ℕ) (one : A) → place < length known → entry (slice_set known place (Some one)) place ≡ Some one
set_is [] place one within = absurd (omega (arith, within))
set_is (first ∷ known) zero one within = refl
set_is (first ∷ known) (suc place) one within = set_is known place one (omega (arith, within))

-- ---- Items that are known

pub is_there : {A : Type 0} (found : Option A) → is_some found ≡ true → (one : A) × (found ≡ Some one)
is_there None is = absurd (cc)
is_there (Some one) is = (one, refl)

pub in_range : {A B : Type 0} (R : Option A → Option B → Type 0) (so : List (Option A)) (known : List (Option B)) (place : ℕ) (one : A) → AllZip R so known
    → entry so place ≡ Some one → place < length known
in_range R [] known place one are is = absurd (cc)
in_range R (first ∷ so) [] place one are is = absurd are
in_range R (first ∷ so) (other ∷ known) zero one are is = omega arith
in_range R (first ∷ so) (other ∷ known) (suc place) one are is = let rest = in_range R so known place one are.1 is in omega (arith, rest)

-- An item that has a fact and is known is known to be it.
pub so_at : {A : Type 0} (so known : List (Option A)) (place : ℕ) (one other : A) → AllZip IsSo so known → entry so place ≡ Some one
    → entry known place ≡ Some other → entry known place ≡ Some one
so_at [] known place one other are is told = absurd (cc)
so_at (first ∷ so) [] place one other are is told = absurd are
so_at (None ∷ so) (two ∷ known) zero one other are is told = absurd (cc)
so_at (Some first ∷ so) (None ∷ known) zero one other are is told = absurd (cc)
so_at (Some first ∷ so) (Some two ∷ known) zero one other are is told = let same : two ≡ first = are.0 in cc
so_at (first ∷ so) (two ∷ known) (suc place) one other are is told = so_at so known place one other are.1 is told

pub known_at : {A : Type 0} (so known : List (Option A)) (place : ℕ) (one : A) → AllZip IsKnown so known → entry so place ≡ Some one
    → entry known place ≡ Some one
known_at [] known place one are is = absurd (cc)
known_at (first ∷ so) [] place one are is = absurd are
known_at (None ∷ so) (two ∷ known) zero one are is = absurd (cc)
known_at (Some first ∷ so) (two ∷ known) zero one are is = are.0 ∙ is
known_at (first ∷ so) (two ∷ known) (suc place) one are is = known_at so known place one are.1 is

pub whole_at : {A : Type 0} (known : List (Option A)) (place : ℕ) → list_all is_some known ≡ true → place < length known → is_some (entry known place) ≡ true
whole_at [] place whole within = absurd (omega (arith, within))
whole_at (None ∷ known) place whole within = absurd (cc)
whole_at (Some first ∷ known) zero whole within = refl
whole_at (Some first ∷ known) (suc place) whole within = whole_at known place whole (omega (arith, within))

-- All are known, where each item that has a fact is known.
pub each_known : {A : Type 0} (so known : List (Option A)) → length so ≡ length known
    → ((place : ℕ) (one : A) → entry so place ≡ Some one → entry known place ≡ Some one) → AllZip IsKnown so known
each_known [] [] long each = tt
each_known [] (two ∷ known) long each = absurd (omega arith)
each_known (first ∷ so) [] long each = absurd (omega arith)
each_known (None ∷ so) (two ∷ known) long each = (tt, each_known so known (omega arith) (λ place. each (suc place)))
each_known (Some first ∷ so) (two ∷ known) long each = (each zero first refl, each_known so known (omega arith) (λ place. each (suc place)))

-- ---- Folds

pub each_stays : {X : Type 0} (R : Making → Type 0) (make : Making → X → Making) (items : List X) (making : Making)
    → ((one : Making) (x : X) → R one → R (make one x)) → R making → R (each make making items)
each_stays R make [] making stays start = start
each_stays R make (first ∷ items) making stays start = each_stays R make items (make making first) stays (stays making first start)

-- What an item's own step reaches, and all steps keep, holds in the end.
pub each_reaches : {X : Type 0} (L R : Making → Type 0) (make : Making → X → Making) (items : List X) (making : Making) (item : X)
    → ((one : Making) (x : X) → L one → L (make one x)) → ((one : Making) (x : X) → R one → R (make one x)) → ((one : Making) → L one → R (make one item))
    → Has items item → L making → R (each make making items)
each_reaches L R make [] making item keeps stays reaches has start = absurd has
each_reaches L R make (first ∷ items) making item keeps stays reaches (inl is) start =
    each_stays R make items (make making first) stays (subst (λ x. R (make making x)) (sym is) (reaches making start))
each_reaches L R make (first ∷ items) making item keeps stays reaches (inr later) start =
    each_reaches L R make items (make making first) item keeps stays reaches later (keeps making first start)

-- ---- Items of an owner

pub has_counted : {A : Type 0} (xs : List A) (from place number : ℕ) (x : A) → number ≡ from + place → slice_get xs place ≡ Some x
    → Has (enumerate_from from xs) (number, x)
has_counted [] from place number x at is = absurd (cc)
has_counted (first ∷ xs) from zero number x at is =
    let same : first ≡ x = cc in
    let number_is : from ≡ number = omega (arith, at) in
    inl (ap₂ (λ k y. (k, y)) number_is same)
has_counted (first ∷ xs) from (suc place) number x at is = inr (has_counted xs (from + 1) place number x (omega (arith, at)) is)

pub held_is : (me : ℕ) (found : Option ℕ) → is_held_by me found ≡ true → (owner : ℕ) × (found ≡ Some owner) × ((owner == me) ≡ true)
held_is me None is = absurd (cc)
held_is me (Some owner) is = (owner, refl, is)
