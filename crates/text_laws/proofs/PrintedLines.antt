-- The lines of a printable system, the case without events, and how long its numbers are.
use Rattle.std.proofs.Common.{◌≡◌, ℕ, suc, ◌+◌, ◌-◌, ◌*◌, ◌^◌, ◌<◌, ◌≤◌, true, false, List, [], ◌∷◌, ◌++◌, length, take, drop, replicate}
use Rattle.std.proofs.Common.{refl, arith}
use Rattle.std.specs.Prelude.{nat_le}
use Rattle.std.specs.Fmt.{decimal}
use Rattle.std.specs.List.{AllByRecursion, flat_map, list_all, list_any}
use Rattle.std.proofs.lemmas.Bool.{and_from}
use Rattle.std.proofs.lemmas.Fmt.{length-decimal-le}
use Rattle.std.proofs.lemmas.List.{length-append, length-take-le, length-drop, length-replicate}
use Rattle.fixed_words.specs.Digits.{pointed}
use Rattle.fixed_words.specs.Texts.{padded, fixed_text}
use Rattle.list_laws.proofs.Truths.{le_asked}
use Rattle.text_laws.proofs.ReadIsPrintable.{no_event_port}
use Rattle.unit_tree.specs.Canonical.{line_text}
use Rattle.unit_tree.specs.LineForms.{is_of_version_2, tail_of}
use Rattle.unit_tree.specs.Printable.{IsInRange, is_event_port, is_writable, names_on}
use Rattle.unit_tree.specs.Tokens.{IsName}
use Rattle.unit_tree.specs.declared.line_form.LineForm.{LineForm}

-- ---- One line

-- What is known of a line of a printable system without events.
pub record Prints (line : LineForm) : Type 0 where
  pub names : AllByRecursion IsName (names_on line)
  pub in_range : IsInRange line
  pub writable : is_writable (tail_of line) ≡ true
  pub old : is_of_version_2 line ≡ false
  pub short : length (line_text line) ≤ 1000

-- ---- All lines

pub all_writable : (lines : List LineForm) → AllByRecursion Prints lines → list_all (λ line. is_writable (tail_of line)) lines ≡ true
all_writable [] all = refl
all_writable (line ∷ lines) all = and_from _ _ all.0.writable (all_writable lines all.1)

pub all_short : (lines : List LineForm) → AllByRecursion Prints lines → list_all (λ line. nat_le (length (line_text line)) 1000) lines ≡ true
all_short [] all = refl
all_short (line ∷ lines) all = and_from _ _ (le_asked (length (line_text line)) 1000 all.0.short) (all_short lines all.1)

pub none_second : (lines : List LineForm) → AllByRecursion Prints lines → list_any is_of_version_2 lines ≡ false
none_second [] all = refl
none_second (line ∷ lines) all = rw (all.0.old) (none_second lines all.1)

pub no_events : (lines : List LineForm) → AllByRecursion Prints lines → list_any is_event_port lines ≡ false
no_events [] all = refl
no_events (line ∷ lines) all = rw (no_event_port line all.0.old) (no_events lines all.1)

pub text_within : (lines : List LineForm) → AllByRecursion Prints lines → length (flat_map (λ line. line_text line ++ (10 ∷ [])) lines) ≤ 1001 * length lines
text_within [] all = omega arith
text_within (line ∷ lines) all =
    omega (
      arith,
      all.0.short,
      text_within lines all.1,
      length-append (line_text line ++ (10 ∷ [])) (flat_map (λ some. line_text some ++ (10 ∷ [])) lines),
      length-append (line_text line) (10 ∷ []),
    )

-- ---- Numbers

pointed_within : (fraction : List ℕ) → length (pointed fraction) ≤ suc (length fraction)
pointed_within [] = omega arith
pointed_within (digit ∷ fraction) = omega arith

-- A whole number of at most this many digits.
pub fixed_short : (most n : ℕ) → 1 ≤ most → n < 10 ^ most → n < 2 ^ 64 → length (fixed_text 0 n) ≤ most + 3
fixed_short most n some small fits =
    let text = decimal n in
    let all = padded 0 text in
    let place = length all - 0 in
    let few : length text ≤ most = length-decimal-le most n some small fits in
    omega (
      arith,
      length-append (replicate {A = ℕ} (0 + 1 - length text) 48) text,
      length-replicate {A = ℕ} (0 + 1 - length text) 48,
      length-append (take place all) (pointed (drop place all)),
      length-take-le place all (omega arith),
      length-drop place all,
      pointed_within (drop place all),
    )
