-- What a source over memory takes.
use Rattle.std.proofs.Common.{◌≡◌, ℕ, ◌+◌, ◌-◌, ◌<◌, List, [], ◌++◌, length, min, take, drop, sym, ◌∙◌, ap, arith, take-append-drop, length-append, length-take}
use Rattle.std.proofs.Common.{length-drop}
use Rattle.std.proofs.lemmas.List.{take_all, take_at, drop_all, drop-drop}

-- the bytes that are left, as the slice that the code takes
pub left_slice : (bytes all : List ℕ) (taken : ℕ) → all ≡ bytes → take (length all - taken) (drop taken all) ≡ drop taken bytes
left_slice bytes all taken same =
    take_all (length all - taken) (drop taken all) (omega (arith, length-drop taken all)) ∙ ap (drop taken) same

-- a prefix of what is left is in the first places of `into`, and the rest is left
pub taken_front : (bytes left old into : List ℕ) (taken n : ℕ) → left ≡ drop taken bytes → n ≡ min (length left) (length old)
    → into ≡ take n left ++ drop n old → (drop taken bytes ≡ take n into ++ drop (taken + n) bytes) × (n ≡ 0 → 0 < length into → drop (taken + n) bytes ≡ [])
taken_front bytes left old into taken n is count copied = (
  sym is ∙ sym (take-append-drop n left) ∙ ap (λ (l : List ℕ). l ++ drop n left) (sym first) ∙ ap (λ (l : List ℕ). take n into ++ l) rest,
  λ none some. drop_all (taken + n) bytes (omega (arith, count, long, ap length is, length-drop taken bytes)),
)
  where
    size : length (take n left) ≡ n
    size = omega (arith, count, length-take n left)

    first : take n into ≡ take n left
    first = ap (take n) copied ∙ take_at (take n left) (drop n old) n size

    rest : drop n left ≡ drop (taken + n) bytes
    rest = ap (drop n) is ∙ drop-drop n taken bytes

    long : length into ≡ length old
    long = ap length copied ∙ omega (arith, count, size, length-append (take n left) (drop n old), length-drop n old)
