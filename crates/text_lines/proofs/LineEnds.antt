-- The carriage return that belongs to a line's end.
use Rattle.std.proofs.Common.{◌≡◌, ℕ, ◌==◌, cond, true, false, List, [], ◌∷◌, ◌++◌, ap}
use Rattle.unit_tree.specs.Lines.{without_return}

pub without_last : (front : List ℕ) (last : ℕ) → (last == 13) ≡ true → without_return (front ++ (last ∷ [])) ≡ front
without_last [] last is = ap (λ told. cond told [] (last ∷ [])) is
without_last (first ∷ []) last is = ap (λ told. first ∷ cond told [] (last ∷ [])) is
without_last (first ∷ next ∷ front) last is = ap (λ rest. first ∷ rest) (without_last (next ∷ front) last is)

pub without_none : (front : List ℕ) (last : ℕ) → (last == 13) ≡ false → without_return (front ++ (last ∷ [])) ≡ front ++ (last ∷ [])
without_none [] last is = ap (λ told. cond told [] (last ∷ [])) is
without_none (first ∷ []) last is = ap (λ told. first ∷ cond told [] (last ∷ [])) is
without_none (first ∷ next ∷ front) last is = ap (λ rest. first ∷ rest) (without_none (next ∷ front) last is)
