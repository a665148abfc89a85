-- The text of a line, piece by piece.
use Rattle.std.proofs.Common.{◌≡◌, ◌∙◌, ℕ, List, [], ◌∷◌, ◌++◌, Result, Ok, Err, append_assoc, refl}
use Rattle.std.specs.Prelude.{OnOk}
use Rattle.trace_csv.specs.Lines.{line_of}

pub whole_line : (a b p l g s x r d : List ℕ)
    → (((((a ++ 44 ∷ (b ++ 44 ∷ [])) ++ p) ++ 44 ∷ (l ++ 44 ∷ [])) ++ g) ++ (44 ∷ (s ++ 44 ∷ (x ++ 44 ∷ [])))) ++ (r ++ 44 ∷ (d ++ 10 ∷ []))
    ≡ line_of (a ∷ b ∷ p ∷ l ∷ g ∷ s ∷ x ∷ r ∷ d ∷ [])
whole_line a b p l g s x r d = simp append_assoc refl

-- The last pieces are added.
pub ended : {T E : Type 0} (result : Result T E) (before now more whole : List ℕ) → OnOk result (now ≡ before ++ more) → before ++ more ≡ whole
    → OnOk result (now ≡ whole)
ended (Ok done) before now more whole is same = is ∙ same
ended (Err error) before now more whole is same = tt
