-- Texts that begin with lines.
use Rattle.std.proofs.Common.{◌≡◌, ℕ, List, [], ◌∷◌, ◌++◌, append_assoc, inl, refl, sym, subst}
use Rattle.std.specs.List.{AllByRecursion}
use Rattle.unit_tree.specs.Lines.{lines_of, without_return}
use Rattle.save_point.specs.SavedTexts.{BeginsWithLines, IsFirstLine}
use Rattle.worked_answers.specs.WorkedTables.{text_of}

-- A line with its end, before others.
pub first_line : (line rest : List ℕ) → lines_of (line ++ 10 ∷ rest) ≡ line ∷ lines_of rest → line ≡ without_return line → IsFirstLine (line ++ 10 ∷ rest) line rest
first_line line rest told without_end = record { whole = line; first = told; cut = inl refl; without_end = without_end }

-- A line without an end in it.
pub record IsWholeLine (line : List ℕ) : Type 0 where
  pub told : (rest : List ℕ) → lines_of (line ++ 10 ∷ rest) ≡ line ∷ lines_of rest
  pub without_end : line ≡ without_return line

-- A text of such lines begins with those of them that come first.
pub begins_with : (lines others : List (List ℕ)) → AllByRecursion IsWholeLine lines → BeginsWithLines (text_of (lines ++ others)) lines (text_of others)
begins_with [] others all = refl
begins_with (line ∷ lines) others all = (
  text_of (lines ++ others),
  subst (λ text. IsFirstLine text line (text_of (lines ++ others))) (sym (append_assoc line (10 ∷ []) (text_of (lines ++ others))))
      (first_line line (text_of (lines ++ others)) (all.0.told (text_of (lines ++ others))) all.0.without_end),
  begins_with lines others all.1,
)
