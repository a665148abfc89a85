-- Whether bytes are the text of a number.
use Rattle.std.proofs.Common.{◌≡◌, ℕ, suc, ◌^◌, ◌≤◌, ℤ, pos, negsuc, neg_ℤ, unsigned_abs, List, [], ◌∷◌, map, decimal, inl, inr, refl, sym, ap, ap₂, subst, ◌∙◌, arith}
use Rattle.std.specs.Fmt.{signed_decimal}
use Rattle.std.specs.List.{AllByRecursion}
use Rattle.std.specs.Str.Parse.{digits_value, signed_digits_value}
use Rattle.std.proofs.lemmas.Fmt.{decimal_is_IsNumeral}
use Rattle.fixed_words.proofs.Numbers.{decimal_is}
use Rattle.list_laws.proofs.Lists.{same_first, same_rest}
use Rattle.text_laws.proofs.WordTexts.{unsigned_value}
use Rattle.stimulus_tables.proofs.Deciding.{Decided, Found, at_most_decided, both_decided, same_decided}

-- ---- Times

-- The bytes are the text of a time; of an entry; the fields are those of entries.
abbrev pub IsTime : List ℕ → ℕ → Type 0
IsTime bytes time = (time ≤ 10 ^ 9) × (bytes ≡ decimal time)

abbrev pub IsEntry : List ℕ → ℤ → Type 0
IsEntry bytes word = (unsigned_abs word ≤ 10 ^ 15) × (bytes ≡ signed_decimal word)

abbrev pub AreEntries : List (List ℕ) → List ℤ → Type 0
AreEntries fields words = AllByRecursion (λ (word : ℤ). unsigned_abs word ≤ 10 ^ 15) words × (fields ≡ map signed_decimal words)

pub time_found : (bytes : List ℕ) → Found (IsTime bytes)
time_found bytes = by (both_decided (at_most_decided (digits_value 10 bytes) (10 ^ 9)) (same_decided bytes (decimal (digits_value 10 bytes))))
  where
    value_is : (time : ℕ) → time ≤ 10 ^ 9 → bytes ≡ decimal time → time ≡ digits_value 10 bytes
    value_is time small is = sym (decimal_is_IsNumeral time (omega (arith, small))).1 ∙ ap (digits_value 10) (sym is)

    by : Decided (IsTime bytes (digits_value 10 bytes)) → Found (IsTime bytes)
    by (inl is) = inl (digits_value 10 bytes, is)
    by (inr none) = inr (λ time is. none (subst (IsTime bytes) (value_is time is.0 is.1) is))

-- ---- Entries

entry_value : (word : ℤ) → unsigned_abs word ≤ 10 ^ 15 → signed_digits_value 10 (signed_decimal word) ≡ word
entry_value (pos n) small =
    unsigned_value (decimal n) (decimal_is n (omega (arith, small))).0 ∙ ap pos (decimal_is_IsNumeral n (omega (arith, small))).1
entry_value (negsuc n) small = ap (λ number. neg_ℤ (pos number)) (decimal_is_IsNumeral (suc n) (omega (arith, small))).1

entry_found : (bytes : List ℕ) → Found (IsEntry bytes)
entry_found bytes =
    by (both_decided (at_most_decided (unsigned_abs (signed_digits_value 10 bytes)) (10 ^ 15)) (same_decided bytes (signed_decimal (signed_digits_value 10 bytes))))
  where
    by : Decided (IsEntry bytes (signed_digits_value 10 bytes)) → Found (IsEntry bytes)
    by (inl is) = inl (signed_digits_value 10 bytes, is)
    by (inr none) = inr (λ word is. none (subst (IsEntry bytes) (sym (entry_value word is.0) ∙ ap (signed_digits_value 10) (sym is.1)) is))

entries_by : (field : List ℕ) (fields : List (List ℕ)) → Found (IsEntry field) → Found (AreEntries fields) → Found (AreEntries (field ∷ fields))
entries_by field fields (inl (word, is)) (inl (words, are)) = inl (word ∷ words, ((is.0, are.0), ap₂ (λ one others. one ∷ others) is.1 are.1))
entries_by field fields (inl (word, is)) (inr none) = inr no
  where
    no : (words : List ℤ) → AreEntries (field ∷ fields) words → ⊥
    no [] are = cc
    no (one ∷ words) are = none words (are.0.1, same_rest field (signed_decimal one) fields (map signed_decimal words) are.1)
entries_by field fields (inr none) found = inr no
  where
    no : (words : List ℤ) → AreEntries (field ∷ fields) words → ⊥
    no [] are = cc
    no (one ∷ words) are = none one (are.0.0, same_first field (signed_decimal one) fields (map signed_decimal words) are.1)

pub entries_found : (fields : List (List ℕ)) → Found (AreEntries fields)
entries_found [] = inl ([], (tt, refl))
entries_found (field ∷ fields) = entries_by field fields (entry_found field) (entries_found fields)
