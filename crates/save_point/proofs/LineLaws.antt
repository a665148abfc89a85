-- Lines at the beginning of a text.
use Rattle.std.proofs.Common.{◌≡◌, ℕ, suc, ◌+◌, ◌<◌, ◌≤◌, List, [], ◌∷◌, ◌++◌, length, length-append, inl, inr, Option, Some, None}
use Rattle.std.proofs.Common.{refl, sym, ap, subst, ◌∙◌, arith}
use Rattle.std.specs.Prelude.{◌⊎◌, codes, decimal}
use Rattle.std.proofs.lemmas.List.{append_cancel_left}
use Rattle.save_point.specs.Reading.{IsNumberText, IsPointText}
use Rattle.save_point.specs.SavedTexts.{BeginsWithLines, IsFirstLine, IsPointLine, IsRowLine, LacksLine}
use Rattle.super_time.specs.declared.point.Point.{Point}
use Rattle.unit_tree.specs.Lines.{lines_of, without_return}
use Rattle.text_tokens.specs.Results.{Tells}

-- What lines of rows and of points begin with.
abbrev pub row_front : List ℕ
row_front = codes "row "

abbrev pub point_front : List ℕ
point_front = codes "at "

-- ---- The first line

heads : (line other : List ℕ) (lines others : List (List ℕ)) → line ∷ lines ≡ other ∷ others → line ≡ other
heads line other lines others is = cc

tails : (byte : ℕ) (one other : List ℕ) → byte ∷ one ≡ byte ∷ other → one ≡ other
tails byte one other is = cc

longer : (line rest : List ℕ) → line ++ 10 ∷ rest ≡ line → ⊥
longer line rest is = let long = ap length is in omega (arith, long, length-append line (10 ∷ rest))

pub first_line_once : (text one other rest behind : List ℕ) → IsFirstLine text one rest → IsFirstLine text other behind → (one ≡ other) × (rest ≡ behind)
first_line_once text one other rest behind is also =
    let whole = heads is.whole also.whole (lines_of rest) (lines_of behind) (sym is.first ∙ also.first) in
    (is.without_end ∙ ap without_return whole ∙ sym also.without_end, by is.cut also.cut whole)
  where
    by : (text ≡ is.whole ++ 10 ∷ rest) ⊎ ((text ≡ is.whole) × (rest ≡ []))
        → (text ≡ also.whole ++ 10 ∷ behind) ⊎ ((text ≡ also.whole) × (behind ≡ [])) → is.whole ≡ also.whole → rest ≡ behind
    by (inl p) (inl q) whole =
        tails 10 rest behind (append_cancel_left is.whole (10 ∷ rest) (10 ∷ behind) (sym p ∙ q ∙ ap (λ line. line ++ 10 ∷ behind) (sym whole)))
    by (inl p) (inr q) whole = absurd (longer is.whole rest (sym p ∙ q.0 ∙ sym whole))
    by (inr p) (inl q) whole = absurd (longer also.whole behind (sym q ∙ p.0 ∙ whole))
    by (inr p) (inr q) whole = p.1 ∙ sym q.1

pub first_line_long : (text line rest : List ℕ) → IsFirstLine text line rest → length rest ≤ length text
first_line_long text line rest is = by is.cut
  where
    by : (text ≡ is.whole ++ 10 ∷ rest) ⊎ ((text ≡ is.whole) × (rest ≡ [])) → length rest ≤ length text
    by (inl p) = omega (arith, ap length p, length-append is.whole (10 ∷ rest))
    by (inr p) = omega (arith, ap length p.1)

-- An empty text has no line.
pub no_first_line : (line rest : List ℕ) → IsFirstLine [] line rest → ⊥
no_first_line line rest is = differ is.whole (lines_of rest) is.first
  where
    differ : (whole : List ℕ) (others : List (List ℕ)) → [] ≡ whole ∷ others → ⊥
    differ whole others e = cc

-- A text without a line, and one with another line, lack a line of the form.
pub lacks_all : (IsForm : List ℕ → Type 0) (text : List ℕ) → text ≡ [] → LacksLine IsForm text
lacks_all IsForm text none line rest is form = no_first_line line rest (subst (λ t. IsFirstLine t line rest) none is)

pub lacks_this : (IsForm : List ℕ → Type 0) (text line rest : List ℕ) → IsFirstLine text line rest → (IsForm line → ⊥) → LacksLine IsForm text
lacks_this IsForm text line rest first none other behind is form =
    none (subst IsForm (first_line_once text other line behind rest is first).0 form)

-- ---- Lines in turn

pub begins_more : (text line rest behind : List ℕ) (lines : List (List ℕ)) → BeginsWithLines text lines rest → IsFirstLine rest line behind
    → BeginsWithLines text (lines ++ (line ∷ [])) behind
begins_more text line rest behind [] begins first = (behind, subst (λ t. IsFirstLine t line behind) (sym begins) first, refl)
begins_more text line rest behind (one ∷ lines) begins first = (begins.0, begins.1, begins_more begins.0 line rest behind lines begins.2 first)

-- A text is longer than the rest after its first line.
first_line_shorter : (text line rest : List ℕ) → IsFirstLine text line rest → length rest < length text
first_line_shorter [] line rest is = absurd (no_first_line line rest is)
first_line_shorter (byte ∷ text) line rest is = by is.cut
  where
    by : (byte ∷ text ≡ is.whole ++ 10 ∷ rest) ⊎ ((byte ∷ text ≡ is.whole) × (rest ≡ [])) → length rest < suc (length text)
    by (inl p) = omega (arith, ap length p, length-append is.whole (10 ∷ rest))
    by (inr p) = omega (arith, ap length p.1)

-- Each line has a byte at least.
pub begins_within : (text rest : List ℕ) (lines : List (List ℕ)) → BeginsWithLines text lines rest → length rest + length lines ≤ length text
begins_within text rest [] begins = omega (arith, ap length begins)
begins_within text rest (line ∷ lines) begins =
    let here = first_line_shorter text line begins.0 begins.1 in
    let others = begins_within begins.0 rest lines begins.2 in
    omega (arith, here, others)

pub begins_long : (text rest : List ℕ) (lines : List (List ℕ)) → BeginsWithLines text lines rest → length rest ≤ length text
begins_long text rest lines begins = let all = begins_within text rest lines begins in omega (arith, all)

-- ---- Lines of numbers

pub row_tells : (line number : List ℕ) (told : Option ℕ) → line ≡ row_front ++ number → Tells told (IsNumberText number) → Tells told (IsRowLine line)
row_tells line number None is none = λ row line_is. none row (line_is.0, append_cancel_left row_front number (decimal row) (sym is ∙ line_is.1))
row_tells line number (Some row) is text = (text.0, is ∙ ap (λ t. row_front ++ t) text.1)

pub point_tells : (line numbers : List ℕ) (told : Option Point) → line ≡ point_front ++ numbers → Tells told (IsPointText numbers)
    → Tells told (IsPointLine line)
point_tells line numbers None is none = λ point line_is. none point
    (line_is.0, append_cancel_left point_front numbers (decimal point.t ++ 32 ∷ decimal point.n) (sym is ∙ line_is.1))
point_tells line numbers (Some point) is text = (text.0, is ∙ ap (λ t. point_front ++ t) text.1)
