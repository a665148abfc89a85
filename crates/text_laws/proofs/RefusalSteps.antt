-- How a text is proved to be refused: its first broken line, with the least rule that it breaks.
use Rattle.std.proofs.Common.{◌≡◌, ℕ, suc, ◌<◌, ◌≤◌, List, [], ◌∷◌, ◌++◌, append_assoc, length, ◌⊎◌, inl, inr, refl, ap, sym, subst, ◌∙◌, arith, true, false}
use Rattle.std.specs.Prelude.{IsTrue, ⊤}
use Rattle.std.specs.List.{list_all}
use Rattle.std.proofs.lemmas.Bool.{cases_lt}
use Rattle.std.proofs.lemmas.List.{append-nil}
use Rattle.unit_tree.specs.Lines.{is_blank_line, has_forbidden_byte}
use Rattle.model_rules.specs.Limits.{line_limit}
use Rattle.unit_tree.specs.Texts.{HasNoForm, IsMisplaced, LacksHeader, LineBreaks, Breaks, IsFirstBroken}

-- A line that breaks a rule breaks one of five.
by_rule : {P : Type 0} (text : List (List ℕ)) (rule : ℕ) (before : List (List ℕ)) (line : List ℕ) → LineBreaks text rule before line
    → (rule ≡ 1 → IsTrue (has_forbidden_byte line) → P) → (rule ≡ 3 → line_limit < length line → P) → (rule ≡ 4 → HasNoForm text line → P)
    → (rule ≡ 5 → IsMisplaced text before line → P) → (rule ≡ 7 → LacksHeader before line → P) → P
by_rule text rule before line (inl broken) on_byte on_length on_form on_place on_header = on_byte broken.0 broken.1
by_rule text rule before line (inr (inl broken)) on_byte on_length on_form on_place on_header = on_length broken.0 broken.1
by_rule text rule before line (inr (inr (inl broken))) on_byte on_length on_form on_place on_header = on_form broken.0 broken.1
by_rule text rule before line (inr (inr (inr (inl broken)))) on_byte on_length on_form on_place on_header = on_place broken.0 broken.1
by_rule text rule before line (inr (inr (inr (inr broken)))) on_byte on_length on_form on_place on_header = on_header broken.0 broken.1

-- No rule is broken by a line after others.
abbrev pub IsUnbroken : List (List ℕ) → List (List ℕ) → List ℕ → Type 0
IsUnbroken text before line = (rule : ℕ) → LineBreaks text rule before line → ⊥

abbrev pub AreUnbroken : List (List ℕ) → List (List ℕ) → List (List ℕ) → Type 0
AreUnbroken text before [] = ⊤
AreUnbroken text before (line ∷ lines) = IsUnbroken text before line × AreUnbroken text (before ++ (line ∷ [])) lines

-- This rule is at most each rule that a line breaks.
abbrev pub IsLeast : List (List ℕ) → ℕ → List (List ℕ) → List ℕ → Type 0
IsLeast text rule before line = (other : ℕ) → LineBreaks text other before line → rule ≤ other

-- A line that keeps the rules.
pub unbroken : (text before : List (List ℕ)) (line : List ℕ) → has_forbidden_byte line ≡ false → length line ≤ line_limit → (HasNoForm text line → ⊥)
    → (IsMisplaced text before line → ⊥) → (LacksHeader before line → ⊥) → IsUnbroken text before line
unbroken text before line byte short formed placed headed rule broken =
    by_rule text rule before line broken (λ is told. absurd (cc told)) (λ is long. omega (arith, short, long)) (λ is none. formed none) (λ is off. placed off)
    (λ is lacks. headed lacks)

-- A line that keeps all rules below this one.
pub least : (text : List (List ℕ)) (rule : ℕ) (before : List (List ℕ)) (line : List ℕ) → rule ≤ 7 → (1 < rule → has_forbidden_byte line ≡ false)
    → (3 < rule → length line ≤ line_limit) → (4 < rule → HasNoForm text line → ⊥) → (5 < rule → IsMisplaced text before line → ⊥)
    → IsLeast text rule before line
least text rule before line known byte short formed placed other broken =
    elim (cases_lt other rule) [
      | inr within ↦ within
      | inl below ↦ absurd (by_rule text other before line broken
          (λ is told. let allowed : has_forbidden_byte line ≡ false = byte (omega arith) in absurd (cc (told, allowed)))
          (λ is long. omega (arith, short (omega arith), long))
          (λ is none. formed (omega arith) none)
          (λ is off. placed (omega arith) off)
          (λ is lacks. omega arith))
    ]

-- ---- The first broken line

-- Where a line breaks a rule, and the lines before another one are unbroken, it is not before that one.
not_before : (text : List (List ℕ)) (rule by : ℕ) (done before before' : List (List ℕ)) (line line' : List ℕ) (later later' : List (List ℕ))
    → before ++ (line ∷ later) ≡ before' ++ (line' ∷ later') → AreUnbroken text done before → IsLeast text rule (done ++ before) line
    → LineBreaks text by (done ++ before') line' → (length before < length before') ⊎ ((length before ≡ length before') × (rule ≤ by))
not_before text rule by done [] [] line line' later later' same kept is_least broken =
    let here : line' ≡ line = cc in
    inr (refl, is_least by (subst (λ l. LineBreaks text by (done ++ []) l) here broken))
not_before text rule by done [] (x ∷ before') line line' later later' same kept is_least broken = inl (omega arith)
not_before text rule by done (y ∷ before) [] line line' later later' same kept is_least broken =
    let here : line' ≡ y = cc in
    absurd (kept.0 by (subst (λ l. LineBreaks text by done l) here (subst (λ d. LineBreaks text by d line') (append-nil done) broken)))
not_before text rule by done (y ∷ before) (x ∷ before') line line' later later' same kept is_least broken =
    let here : x ∷ [] ≡ y ∷ [] = cc in
    let rest : before ++ (line ∷ later) ≡ before' ++ (line' ∷ later') = cc in
    let least_here : IsLeast text rule ((done ++ (y ∷ [])) ++ before) line =
    subst (λ d. IsLeast text rule d line) (sym (append_assoc done (y ∷ []) before)) is_least in
    let broken_here : LineBreaks text by ((done ++ (y ∷ [])) ++ before') line' =
    subst (λ d. LineBreaks text by d line') (sym (append_assoc done (y ∷ []) before'))
    (subst (λ d. LineBreaks text by (done ++ (d ++ before')) line') here broken) in
    elim (not_before text rule by (done ++ (y ∷ [])) before before' line line' later later' rest kept.1 least_here broken_here) [
      | inl less ↦ inl (omega arith)
      | inr same_place ↦ inr (ap suc same_place.0, same_place.1)
    ]

pub first_broken : (before : List (List ℕ)) (line : List ℕ) (later : List (List ℕ)) (rule : ℕ) → AreUnbroken (before ++ (line ∷ later)) [] before
    → LineBreaks (before ++ (line ∷ later)) rule before line → IsLeast (before ++ (line ∷ later)) rule before line
    → list_all is_blank_line (before ++ (line ∷ later)) ≡ false → IsFirstBroken (before ++ (line ∷ later)) (suc (length before)) rule
first_broken before line later rule kept broken is_least not_blank = record {
  breaks = inl (record { before = before; line = line; later = later; cut = refl; is_number = refl; breaks = broken });
  first = λ other by found. elim found [
    | inl at ↦ elim (not_before (before ++ (line ∷ later)) rule by [] before at.before line at.line later at.later at.cut kept is_least at.breaks) [
      | inl less ↦ inl (omega (arith, at.is_number))
      | inr same ↦ inr (ap suc same.0 ∙ sym at.is_number, same.1)
    ]
    | inr blank ↦ absurd (cc (blank.0, not_blank))
  ];
}

-- The last line, if no line is broken.
not_broken : (text : List (List ℕ)) (by : ℕ) (done before before' : List (List ℕ)) (line' : List ℕ) (later' : List (List ℕ))
    → before ≡ before' ++ (line' ∷ later') → AreUnbroken text done before → LineBreaks text by (done ++ before') line' → ⊥
not_broken text by done [] [] line' later' same kept broken = absurd (cc)
not_broken text by done [] (x ∷ before') line' later' same kept broken = absurd (cc)
not_broken text by done (y ∷ before) [] line' later' same kept broken =
    let here : line' ≡ y = cc in
    kept.0 by (subst (λ l. LineBreaks text by done l) here (subst (λ d. LineBreaks text by d line') (append-nil done) broken))
not_broken text by done (y ∷ before) (x ∷ before') line' later' same kept broken =
    let here : x ∷ [] ≡ y ∷ [] = cc in
    let rest : before ≡ before' ++ (line' ∷ later') = cc in
    not_broken text by (done ++ (y ∷ [])) before before' line' later' rest kept.1
    (subst (λ d. LineBreaks text by d line') (sym (append_assoc done (y ∷ []) before'))
    (subst (λ d. LineBreaks text by (done ++ (d ++ before')) line') here broken))

pub no_break : (lines : List (List ℕ)) → AreUnbroken lines [] lines → list_all is_blank_line lines ≡ false → (other by : ℕ) → Breaks lines other by → ⊥
no_break lines kept not_blank other by (inl at) = not_broken lines by [] lines at.before at.line at.later at.cut kept at.breaks
no_break lines kept not_blank other by (inr blank) = absurd (cc (blank.0, not_blank))

-- Blank lines that keep their length: there is no header.
pub all_blank : (lines : List (List ℕ)) → AreUnbroken lines [] lines → list_all is_blank_line lines ≡ true → IsFirstBroken lines 1 7
all_blank lines kept blank = record {
  breaks = inr (blank, refl, refl);
  first = λ other by found. elim found [
    | inl at ↦ absurd (not_broken lines by [] lines at.before at.line at.later at.cut kept at.breaks)
    | inr told ↦ inr (sym told.1, omega (arith, told.2))
  ];
}
