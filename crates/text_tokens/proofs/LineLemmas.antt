-- Lemmas on the lines of a text.
use Rattle.std.proofs.Common.{◌≡◌, ℕ, suc, ◌+◌, ◌<◌, ◌≤◌, Bool, true, false, not, cond, List, [], ◌∷◌, ◌++◌, length, take, drop, refl, ap, sym, ◌∙◌, arith}
use Rattle.std.proofs.Common.{◌==◌, add-one, one-add}
use Rattle.std.specs.List.{list_all, onto_first, prefix_len, sum_by}
use Rattle.std.proofs.lemmas.List.{drop_all}
use Rattle.std.proofs.lemmas.Bool.{eqb-true}
use Rattle.std.proofs.lemmas.List.Sums.{sum_by-cons}
use Rattle.unit_tree.specs.Lines.{lines_of, size_of}
use Rattle.text_tokens.proofs.FrontLemmas.{front_passes}

-- how many bytes come before the first end
abbrev pub line_length : List ℕ → ℕ
line_length text = prefix_len (λ byte. not (byte == 10)) text

pub cut_lem : (byte next : ℕ) (text : List ℕ)
    → lines_of (next ∷ text) ≡ take (line_length (next ∷ text)) (next ∷ text) ∷ lines_of (drop (suc (line_length (next ∷ text))) (next ∷ text))
    → lines_of (byte ∷ next ∷ text)
    ≡ take (line_length (byte ∷ next ∷ text)) (byte ∷ next ∷ text) ∷ lines_of (drop (suc (line_length (byte ∷ next ∷ text))) (byte ∷ next ∷ text))
cut_lem byte next text step =
    let p : ℕ = line_length (next ∷ text) in
    elim (byte == 10) as
    (λ v. cond v ([] ∷ lines_of (next ∷ text)) (onto_first byte (lines_of (next ∷ text)))
    ≡ take (cond (not v) (1 + p) 0) (byte ∷ next ∷ text) ∷ lines_of (drop (suc (cond (not v) (1 + p) 0)) (byte ∷ next ∷ text))) [
      | true ↦ refl
      | false ↦ ap (onto_first byte) step
          ∙ rw (one-add p) refl
    ]

pub cut_one : (byte : ℕ) → lines_of (byte ∷ []) ≡ take (line_length (byte ∷ [])) (byte ∷ []) ∷ lines_of (drop (suc (line_length (byte ∷ []))) (byte ∷ []))
cut_one byte =
    elim (byte == 10) as
    (λ v. cond v ([] ∷ []) ((byte ∷ []) ∷ [])
    ≡ take (cond (not v) 1 0) (byte ∷ []) ∷ lines_of (drop (suc (cond (not v) 1 0)) (byte ∷ []))) [ true ↦ refl | false ↦ refl ]

pub lines_of_cut_suc : (text : List ℕ) → 0 < length text → lines_of text ≡ take (line_length text) text ∷ lines_of (drop (suc (line_length text)) text)
lines_of_cut_suc [] some = absurd (omega arith)
lines_of_cut_suc (byte ∷ []) some = cut_one byte
lines_of_cut_suc (byte ∷ next ∷ text) some = cut_lem byte next text (lines_of_cut_suc (next ∷ text) (omega arith))

pub lines_of_cut : (text : List ℕ) (n : ℕ) → 0 < length text → n ≡ prefix_len (λ byte. not (byte == 10)) text
    → lines_of text ≡ take n text ∷ lines_of (drop (n + 1) text)
lines_of_cut text n some at = rw (at, add-one) (lines_of_cut_suc text some)

pub lines_of_one : (text : List ℕ) (n : ℕ) → 0 < length text → length text ≤ n → n ≡ prefix_len (λ byte. not (byte == 10)) text
    → lines_of text ≡ take n text ∷ lines_of (drop n text)
lines_of_one text n some past at =
    lines_of_cut text n some at ∙ ap (λ rest. take n text ∷ lines_of rest) (drop_all (n + 1) text (omega arith) ∙ sym (drop_all n text past))

-- a line has no end
pub line_of_cut : (text : List ℕ) (n : ℕ) → n ≡ prefix_len (λ byte. not (byte == 10)) text → list_all (λ byte. not (byte == 10)) (take n text) ≡ true
line_of_cut text n at = rw at (front_passes (λ byte. not (byte == 10)) text)

-- where an end follows it, the text is the line, that end and what comes after
behind_case : (byte : ℕ) (text : List ℕ) (b : Bool) → (byte == 10) ≡ b
    → (line_length text < length text → text ≡ take (line_length text) text ++ 10 ∷ drop (suc (line_length text)) text)
    → cond (not b) (1 + line_length text) 0 < suc (length text)
    → byte ∷ text ≡ take (cond (not b) (1 + line_length text) 0) (byte ∷ text) ++ 10 ∷ drop (suc (cond (not b) (1 + line_length text) 0)) (byte ∷ text)
behind_case byte text true is later more = ap (λ first. first ∷ text) (eqb-true byte 10 is)
behind_case byte text false is later more = let within : line_length text < length text = omega arith in
    rw (one-add (line_length text)) (ap (λ rest. byte ∷ rest) (later within))

pub behind_suc : (text : List ℕ) → line_length text < length text → text ≡ take (line_length text) text ++ 10 ∷ drop (suc (line_length text)) text
behind_suc [] more = absurd (omega arith)
behind_suc (byte ∷ text) more = behind_case byte text (byte == 10) refl (behind_suc text) more

pub behind_cut : (text : List ℕ) (n : ℕ) → n < length text → n ≡ prefix_len (λ byte. not (byte == 10)) text → text ≡ take n text ++ 10 ∷ drop (n + 1) text
behind_cut text n more at = rw (at, add-one) (behind_suc text (rw (← at) more))

pub ruleset line_laws = (lines_of_cut, lines_of_one, line_of_cut, behind_cut)

-- the size of lines
abbrev pub size : List (List ℕ) → ℕ
size lines = sum_by (λ line. length line + 1) lines

size-onto_first : (byte next : ℕ) (lines : List (List ℕ)) → 0 < size lines → size (onto_first byte lines) ≡ size lines + 1
size-onto_first byte next [] some = absurd (omega arith)
size-onto_first byte next (line ∷ lines) some =
    let f : List ℕ → ℕ = λ line. length line + 1 in
    omega (arith, sum_by-cons f (byte ∷ line) lines, sum_by-cons f line lines)

size_of-cons : (byte : ℕ) (text : List ℕ) → 0 < size_of text → size_of (byte ∷ text) ≡ size_of text + 1
size_of-cons byte text some =
    elim (byte == 10) as
    (λ v. size (cond v ([] ∷ lines_of text) (onto_first byte (lines_of text)))
    ≡ size_of text
    + 1) [ true ↦ omega (arith, sum_by-cons (λ (line : List ℕ). length line + 1) [] (lines_of text)) | false ↦ size-onto_first byte 0 (lines_of text) some ]

size_of-one : (last : ℕ) → size_of (last ∷ []) ≡ 1 + cond (last == 10) 0 1
size_of-one last = elim (last == 10) as (λ v. size (cond v ([] ∷ []) ((last ∷ []) ∷ [])) ≡ 1 + cond v 0 1) [ true ↦ refl | false ↦ refl ]

pub size_of_snoc : (front : List ℕ) (last : ℕ) → size_of (front ++ last ∷ []) ≡ length front + 1 + cond (last == 10) 0 1
size_of_snoc [] last = size_of-one last ∙ omega arith
size_of_snoc (byte ∷ front) last =
    let step = size_of_snoc front last in
    omega (arith, size_of-cons byte (front ++ last ∷ []) (omega arith), step)

-- a text has no more bytes than its size
size_of-some : (text : List ℕ) → 0 < length text → length text ≤ size_of text
size_of-some [] some = absurd (omega arith)
size_of-some (byte ∷ []) some = omega (arith, size_of-one byte)
size_of-some (byte ∷ next ∷ text) some =
    let later = size_of-some (next ∷ text) (omega arith) in
    omega (arith, later, size_of-cons byte (next ∷ text) (omega (arith, later)))

pub length_le_size_of : (text : List ℕ) → length text ≤ size_of text
length_le_size_of [] = omega arith
length_le_size_of (byte ∷ text) = size_of-some (byte ∷ text) (omega arith)
