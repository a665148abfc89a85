-- The heights at the places of a piece.
use Rattle.std.proofs.Common.{◌≡◌, ℕ, zero, suc, ◌+◌, ◌-◌, ◌≤◌, max, List, [], ◌∷◌, ◌++◌, length, Option, Some, None, refl, sym, ap, ◌∙◌}
use Rattle.std.proofs.Common.{arith, length-append}
use Rattle.std.proofs.lemmas.Bool.Decides.{nat_tests}
use Rattle.std.specs.Prelude.{nat_eq, nat_le, slice_get, unwrap_or, IsTrue}
use Rattle.std.proofs.lemmas.Option.{same_Some, cond_some}
use Rattle.unit_vm.specs.declared.instruction.Instruction.{Instruction}
use Rattle.unit_vm.specs.declared.instruction.Instruction.TheVariants.{Jump, Next}
use Rattle.unit_vm.specs.Instructions.{takes, leaves}
use Rattle.code_pieces.specs.Pieces.{Piece, Nothing, One, Then, Choice, When, Turns, flat, popped, and_height, one_height, height_behind, top_of}
use Rattle.code_pieces.proofs.ItemPlaces.{HasAt, has_front, has_back, has_to}
use Rattle.list_laws.proofs.Truths.{le_told}

-- The height after a piece, where there is one.
abbrev pub left : Piece → ℕ → ℕ
left piece height = unwrap_or (height_behind piece height) 0

-- The height at each place of a piece.
abbrev pub marks : Piece → ℕ → List ℕ
marks Nothing height = []
marks (One instruction) height = height ∷ []
marks (Then first second) height = marks first height ++ marks second (left first height)
marks (Choice first second) height = height ∷ (marks first (height - 1) ++ (left first (height - 1) ∷ marks second (height - 1)))
marks (When body) height = height ∷ marks body (height - 1)
marks (Turns count body) height = height ∷ (marks body height ++ (height ∷ []))

pub marks_length : (piece : Piece) (height : ℕ) → length (marks piece height) ≡ length (flat piece)
marks_length Nothing height = refl
marks_length (One instruction) height = refl
marks_length (Then first second) height =
    omega (
      arith,
      length-append (marks first height) (marks second (left first height)),
      length-append (flat first) (flat second),
      marks_length first height,
      marks_length second (left first height),
    )
marks_length (Choice first second) height =
    let one = marks_length first (height - 1) in
    let other = marks_length second (height - 1) in
    let here = length-append (marks first (height - 1)) (left first (height - 1) ∷ marks second (height - 1)) in
    let there = length-append (flat first) (Jump (length (flat second) + 1) ∷ flat second) in
    omega (arith, one, other, here, there)
marks_length (When body) height = let e = marks_length body (height - 1) in omega (arith, e)
marks_length (Turns count body) height =
    let e = marks_length body height in
    let here = length-append (marks body height) (height ∷ []) in
    let there = length-append (flat body) (Next (length (flat body)) ∷ []) in
    omega (arith, e, here, there)

-- The consequences of a height after a piece.
eq_told : (a b : ℕ) → IsTrue (nat_eq a b) → a ≡ b
eq_told a b e = grind (arith, nat_tests)

pub single_told : (i : Instruction) (height told : ℕ) → height_behind (One i) height ≡ Some told → (takes i ≤ height) × (height - takes i + leaves i ≡ told)
single_told i height told e = let t = cond_some (nat_le (takes i) height) (height - takes i + leaves i) told e in (le_told (takes i) height t.0, t.1)

pub and_told : (o : Option ℕ) (behind : ℕ → Option ℕ) (told : ℕ) → and_height o behind ≡ Some told
    → (o ≡ Some (unwrap_or o 0)) × (behind (unwrap_or o 0) ≡ Some told)
and_told None behind told e = absurd (cc)
and_told (Some height) behind told e = (refl, e)

pub popped_told : (behind : ℕ → Option ℕ) (height told : ℕ) → popped behind height ≡ Some told → (1 ≤ height) × (behind (height - 1) ≡ Some told)
popped_told behind zero told e = absurd (cc)
popped_told behind (suc height) told e = let less : suc height - 1 ≡ height = omega arith in (omega arith, ap behind less ∙ e)

pub both_told : (one other : Option ℕ) (told : ℕ) → one_height one other ≡ Some told → (one ≡ Some told) × (other ≡ Some told)
both_told None other told e = absurd (cc)
both_told (Some one) None told e = absurd (cc)
both_told (Some one) (Some other) told e =
    let t = cond_some (nat_eq one other) one told e in
    let same = eq_told one other t.0 in
    (ap (λ n. Some n) t.1, ap (λ n. Some n) (sym same ∙ t.1))

-- Both ends of a piece are at most as high as its top.
pub under_top : (piece : Piece) (height told : ℕ) → height_behind piece height ≡ Some told → (height ≤ top_of piece height) × (told ≤ top_of piece height)
under_top Nothing height told e = let same = same_Some height told e in (omega arith, omega (arith, same))
under_top (One instruction) height told e =
    let t = single_told instruction height told e in
    let sum = t.1 in
    let n = height - takes instruction + leaves instruction in
    let low : height ≤ max height n = omega arith in
    let high : told ≤ max height n = omega (arith, sum) in
    (low, high)
under_top (Then first second) height told e =
    let t = and_told (height_behind first height) (height_behind second) told e in
    let one = under_top first height (left first height) t.0 in
    let other = under_top second (left first height) told t.1 in
    (omega (arith, one.0), omega (arith, other.1))
under_top (Choice first second) height told e =
    let t = popped_told (λ below. one_height (height_behind first below) (height_behind second below)) height told e in
    let b = both_told (height_behind first (height - 1)) (height_behind second (height - 1)) told t.1 in
    let one = under_top first (height - 1) told b.0 in
    (omega arith, omega (arith, one.1))
under_top (When body) height told e =
    let t = popped_told (λ below. one_height (height_behind body below) (Some below)) height told e in
    let b = both_told (height_behind body (height - 1)) (Some (height - 1)) told t.1 in
    let one = under_top body (height - 1) told b.0 in
    (omega arith, omega (arith, one.1))
under_top (Turns count body) height told e =
    let b = both_told (height_behind body height) (Some height) told e in
    let one = under_top body height told b.0 in
    (omega arith, omega (arith, one.1))

-- The height before a piece is the one at its first place, or the one after the piece where it has no place.
pub first_mark : (heights : List ℕ) (place : ℕ) (piece : Piece) (height told : ℕ) → HasAt heights place (marks piece height)
    → height_behind piece height ≡ Some told
    → slice_get heights (place + length (flat piece)) ≡ Some told → slice_get heights place ≡ Some height
first_mark heights place Nothing height told has e end = let here : place ≡ place + 0 = omega arith in ap (λ n. slice_get heights n) here ∙ (end ∙ sym e)
first_mark heights place (One instruction) height told has e end = has.0
first_mark heights place (Then first second) height told has e end =
    let t = and_told (height_behind first height) (height_behind second) told e in
    let long = length-append (flat first) (flat second) in
    let far : place + length (flat first) + length (flat second) ≡ place + length (flat first ++ flat second) = omega (arith, long) in
    let there : place + length (marks first height) ≡ place + length (flat first) = omega (arith, marks_length first height) in
    let behind = has_to heights _ _ _ there (has_back heights place (marks first height) (marks second (left first height)) has) in
    let middle = first_mark heights (place + length (flat first)) second (left first height) told behind t.1 (ap (λ n. slice_get heights n) far ∙ end) in
    first_mark heights place first height (left first height) (has_front heights place (marks first height) (marks second (left first height)) has) t.0 middle
first_mark heights place (Choice first second) height told has e end = has.0
first_mark heights place (When body) height told has e end = has.0
first_mark heights place (Turns count body) height told has e end = has.0
