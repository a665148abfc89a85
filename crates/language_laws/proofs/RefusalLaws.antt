-- A text is refused once.
use Rattle.std.proofs.Common.{◌≡◌, ℕ, ◌<◌, ◌≤◌, List, ◌⊎◌, inl, inr, sym, ◌∙◌, arith}
use Rattle.unit_tree.specs.Texts.{IsFirstBroken, IsUnended, IsRefused}

-- Two lines with rules are the same, with the same rule, if each comes first: it is before the
-- other, or is the same line with a rule that is not greater.
first_of_both : (line by other rule : ℕ) → (line < other) ⊎ ((line ≡ other) × (by ≤ rule)) → (other < line) ⊎ ((other ≡ line) × (rule ≤ by))
    → (line ≡ other) × (by ≡ rule)
first_of_both line by other rule (inl less) (inl more) = absurd (omega arith)
first_of_both line by other rule (inl less) (inr same) = absurd (omega (arith, same.0))
first_of_both line by other rule (inr same) (inl more) = absurd (omega (arith, same.0))
first_of_both line by other rule (inr one) (inr other_way) = (one.0, omega (arith, one.1, other_way.1))

by_lines : (lines : List (List ℕ)) (line by other rule : ℕ) → IsFirstBroken lines line by ⊎ IsUnended lines line by
    → IsFirstBroken lines other rule ⊎ IsUnended lines other rule → (line ≡ other) × (by ≡ rule)
by_lines lines line by other rule (inl one) (inl two) = first_of_both line by other rule (one.first other rule two.breaks) (two.first line by one.breaks)
by_lines lines line by other rule (inl one) (inr two) = absurd (two.unbroken line by one.breaks)
by_lines lines line by other rule (inr one) (inl two) = absurd (one.unbroken other rule two.breaks)
by_lines lines line by other rule (inr one) (inr two) = (one.is_last ∙ sym two.is_last, one.is_rule ∙ sym two.is_rule)

pub refused_once : (text : List ℕ) (line by other rule : ℕ) → IsRefused text line by → IsRefused text other rule → (line ≡ other) × (by ≡ rule)
refused_once text line by other rule (inl one) (inl two) = (one.1 ∙ sym two.1, one.2 ∙ sym two.2)
refused_once text line by other rule (inl one) (inr two) = absurd (omega (arith, one.0, two.0))
refused_once text line by other rule (inr one) (inl two) = absurd (omega (arith, one.0, two.0))
refused_once text line by other rule (inr one) (inr two) = by_lines _ line by other rule one.1 two.1
