-- Fields between commas, one after the other.
use Rattle.std.proofs.Common.{◌≡◌, ℕ, zero, suc, ◌+◌, ◌<◌, ◌≤◌, ◌==◌, Bool, true, false, List, [], ◌∷◌, drop, take, length, Option, Some, None, refl, ap, ap₂, sym, subst, ◌∙◌, arith, cond}
use Rattle.std.specs.Prelude.{not}
use Rattle.std.specs.List.{onto_first, prefix_len}
use Rattle.std.specs.Str.{bytes_eq}
use Rattle.std.proofs.lemmas.List.{drop-drop, length-drop}
use Rattle.csv.specs.Records.{field_at}
use Rattle.trace_verify.specs.TraceLines.{behind_comma, fields_between, first_field, is_inside, is_next, other_fields}
use Rattle.trace_verify.specs.Verdicts.{column_from}
use Rattle.stimulus_tables.specs.Records.{Fields}

-- The fields of what may be left of a line.
abbrev pub fields_left : Option (List ℕ) → Fields
fields_left None = []
fields_left (Some line) = fields_between line

-- A measure of what is left of a line.
abbrev pub length_left : Option (List ℕ) → ℕ
length_left None = 0
length_left (Some line) = suc (length line)

one_add : (n : ℕ) → 1 + n ≡ suc n
one_add n = omega arith

cut_by : (byte : ℕ) (line : List ℕ) (comma : Bool) (count : ℕ) → fields_between line ≡ take count line ∷ fields_left (behind_comma (drop count line))
    → cond comma ([] ∷ fields_between line) (onto_first byte (fields_between line))
    ≡ take (cond (not comma) (1 + count) 0) (byte ∷ line) ∷ fields_left (behind_comma (drop (cond (not comma) (1 + count) 0) (byte ∷ line)))
cut_by byte line true count later = refl
cut_by byte line false count later = rw (one_add count) (ap (onto_first byte) later)

-- The first field, and then the others.
line_cut : (line : List ℕ) → fields_between line ≡ first_field line ∷ fields_left (other_fields line)
line_cut [] = refl
line_cut (byte ∷ line) = cut_by byte line (byte == 44) (prefix_len is_inside line) (line_cut line)

pub cut_left : (line piece : List ℕ) (others : Option (List ℕ)) → piece ≡ first_field line → others ≡ other_fields line
    → fields_between line ≡ piece ∷ fields_left others
cut_left line piece others first rest = line_cut line ∙ ap₂ (λ one more. one ∷ fields_left more) (sym first) (sym rest)

behind_shorter : (line : List ℕ) → length_left (behind_comma line) ≤ length line
behind_shorter [] = omega arith
behind_shorter (byte ∷ line) = omega arith

-- What is left is shorter.
pub others_shorter : (line : List ℕ) (others : Option (List ℕ)) → others ≡ other_fields line → length_left others ≤ length line
others_shorter line others is =
    subst (λ left. length_left left ≤ length line) (sym is)
    (omega (arith, behind_shorter (drop (prefix_len is_inside line) line), length-drop (prefix_len is_inside line) line))

-- ---- A field at a place

abbrev pub is_there : List ℕ → Option (List ℕ) → Bool
is_there piece None = false
is_there piece (Some field) = bytes_eq piece field

next_there : (fields : Fields) (place : ℕ) (piece : List ℕ) → is_next piece (drop place fields) ≡ is_there piece (field_at fields place)
unfolding field_at
next_there [] zero piece = refl
next_there [] (suc place) piece = refl
next_there (field ∷ fields) zero piece = refl
next_there (field ∷ fields) (suc place) piece = next_there fields place piece

pub next_by : (fields : Fields) (place : ℕ) (piece : List ℕ) (found : Option (List ℕ)) → found ≡ field_at fields place
    → is_there piece found ≡ is_next piece (drop place fields)
next_by fields place piece found is = ap (is_there piece) is ∙ sym (next_there fields place piece)

-- ---- A line and a record

pub piece_apart : (column : ℕ) (piece : List ℕ) (others fields : Fields) → is_next piece fields ≡ false → column_from column (piece ∷ others) fields ≡ Some column
piece_apart column piece others [] told = refl
piece_apart column piece others (field ∷ fields) told = rw told refl

pub piece_same : (column : ℕ) (piece : List ℕ) (others fields : Fields) → is_next piece fields ≡ true
    → column_from column (piece ∷ others) fields ≡ column_from (column + 1) others (drop 1 fields)
piece_same column piece others [] told = absurd (cc told)
piece_same column piece others (field ∷ fields) told =
    let next : suc column ≡ column + 1 = omega arith in
    rw told (ap (λ n. column_from n others fields) next)

pub one_dropped : (place : ℕ) (fields : Fields) → drop 1 (drop place fields) ≡ drop (place + 1) fields
one_dropped place fields = drop-drop 1 place fields

-- The fields of a record that are left after the last piece.
pub left_over : (column place : ℕ) (fields : Fields) → place < length fields → column_from column [] (drop place fields) ≡ Some column
left_over column zero [] more = absurd (omega arith)
left_over column (suc place) [] more = absurd (omega arith)
left_over column zero (field ∷ fields) more = refl
left_over column (suc place) (field ∷ fields) more = left_over column place fields (omega arith)

pub none_over : (column place : ℕ) (fields : Fields) → length fields ≤ place → column_from column [] (drop place fields) ≡ None
none_over column zero [] all = refl
none_over column (suc place) [] all = refl
none_over column zero (field ∷ fields) all = absurd (omega arith)
none_over column (suc place) (field ∷ fields) all = none_over column place fields (omega arith)

pub nothing_left : (rest : Option (List ℕ)) → ((line : List ℕ) → rest ≡ Some line → ⊥) → rest ≡ None
nothing_left None not = refl
nothing_left (Some line) not = absurd (not line refl)
