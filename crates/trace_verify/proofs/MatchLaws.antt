-- What was written, compared with the lines of a trace.
use Rattle.std.proofs.Common.{◌≡◌, ℕ, zero, suc, ◌+◌, ◌-◌, ◌≤◌, ◌==◌, false, List, [], ◌∷◌, ◌++◌, take, drop, length, None, refl, ap, ap₂, sym, subst, ◌∙◌, arith, append_assoc, append-nil}
use Rattle.std.specs.List.{AllByRecursion, join_with_byte, onto_first}
use Rattle.list_laws.proofs.Lists.{each_so, same_first, same_rest}
use Rattle.list_laws.proofs.Truths.{true_is_false}
use Rattle.std.proofs.lemmas.Slice.Eq.{bytes_eq-Decides}
use Rattle.trace_verify.specs.Comparing.{HasNoFeed, IsOneLine}
use Rattle.trace_verify.specs.TraceLines.{IsPlain, IsTraceLine, is_special, fields_between, lines_text}
use Rattle.trace_verify.specs.Verdicts.{column_from, verdict_by, verdict_from, verdict_of}
use Rattle.stimulus_tables.specs.Records.{Fields}
use Rattle.trace_verify.specs.declared.verdict.Verdict.TheVariants.{Yes, No}
use Rattle.trace_verify.proofs.LineRecords.{none_of_four}

-- ---- Lines of plain fields

plain_open : (field : List ℕ) → IsPlain field → HasNoFeed field
plain_open field plain = each_so (λ byte. is_special byte ≡ false) (λ byte. (byte == 10) ≡ false) (λ byte is. (none_of_four byte is).feed) field plain

open_append : (one other : List ℕ) → HasNoFeed one → HasNoFeed other → HasNoFeed (one ++ 44 ∷ other)
open_append [] other first second = (refl, second)
open_append (byte ∷ one) other first second = (first.0, open_append one other first.1 second)

alone_cut : (field : List ℕ) → IsPlain field → fields_between field ≡ field ∷ []
alone_cut [] plain = refl
alone_cut (byte ∷ field) plain = rw ((none_of_four byte plain.0).comma) (ap (onto_first byte) (alone_cut field plain.1))

front_cut : (field rest : List ℕ) → IsPlain field → fields_between (field ++ 44 ∷ rest) ≡ field ∷ fields_between rest
front_cut [] rest plain = refl
front_cut (byte ∷ field) rest plain = rw ((none_of_four byte plain.0).comma) (ap (onto_first byte) (front_cut field rest plain.1))

plain_line : (first : List ℕ) (others : Fields) → IsPlain first → AllByRecursion IsPlain others → IsOneLine (first ∷ others)
plain_line first [] plain all = record { unended = plain_open first plain; is_cut = alone_cut first plain }
plain_line first (second ∷ others) plain all =
    let later = plain_line second others all.0 all.1 in
    record {
      unended = open_append first (join_with_byte 44 (second ∷ others)) (plain_open first plain) later.unended;
      is_cut = front_cut first (join_with_byte 44 (second ∷ others)) plain ∙ ap (λ rest. first ∷ rest) later.is_cut;
    }

trace_line : (fields : Fields) → IsTraceLine fields → IsOneLine fields
trace_line [] is = absurd (omega (arith, is.two))
trace_line (first ∷ others) is = plain_line first others is.plain.0 is.plain.1

-- ---- Lines one after the other

feed_apart : (byte : ℕ) → (byte == 10) ≡ false → byte ≡ 10 → ⊥
feed_apart byte told same = true_is_false (byte == 10) (ap (λ b. b == 10) same) told

first_line : (one other rest behind : List ℕ) → HasNoFeed one → HasNoFeed other → one ++ 10 ∷ rest ≡ other ++ 10 ∷ behind → (one ≡ other) × (rest ≡ behind)
first_line [] [] rest behind first second is = (refl, same_rest 10 10 rest behind is)
first_line [] (byte ∷ other) rest behind first second is = absurd (feed_apart byte second.0 (sym (same_first 10 byte rest (other ++ 10 ∷ behind) is)))
first_line (byte ∷ one) [] rest behind first second is = absurd (feed_apart byte first.0 (same_first byte 10 (one ++ 10 ∷ rest) behind is))
first_line (byte ∷ one) (next ∷ other) rest behind first second is =
    let later = first_line one other rest behind first.1 second.1 (same_rest byte next (one ++ 10 ∷ rest) (other ++ 10 ∷ behind) is) in
    (ap₂ (λ b bytes. b ∷ bytes) (same_first byte next (one ++ 10 ∷ rest) (other ++ 10 ∷ behind) is) later.0, later.1)

no_feed : (one rest : List ℕ) → HasNoFeed (one ++ 10 ∷ rest) → ⊥
no_feed [] rest none = feed_apart 10 none.0 refl
no_feed (byte ∷ one) rest none = no_feed one rest none.1

line_then : (fields : Fields) (lines : List Fields) → lines_text (fields ∷ lines) ≡ join_with_byte 44 fields ++ 10 ∷ lines_text lines
line_then fields lines = append_assoc (join_with_byte 44 fields) (10 ∷ []) (lines_text lines)

no_bytes : (one : List ℕ) (rest : List ℕ) → one ++ 10 ∷ rest ≡ [] → ⊥
no_bytes [] rest is = cc is
no_bytes (byte ∷ one) rest is = cc is

-- A line is written after some that are the same: then it is that of the next fields.
parted : (same lines : List Fields) (line rest : List ℕ) → AllByRecursion IsOneLine same → AllByRecursion IsOneLine lines → HasNoFeed line
    → lines_text same ++ (line ++ 10 ∷ rest) ≡ lines_text lines → (more : List Fields) × (lines ≡ same ++ (fields_between line ∷ more))
parted [] [] line rest are all none is = absurd (no_bytes line rest is)
parted [] (fields ∷ lines) line rest are all none is =
    let first = first_line line (join_with_byte 44 fields) rest (lines_text lines) none all.0.unended (is ∙ line_then fields lines) in
    (lines, ap (λ one. one ∷ lines) (sym all.0.is_cut ∙ ap fields_between (sym first.0)))
parted (one ∷ same) [] line rest are all none is =
    absurd (no_bytes (join_with_byte 44 one) (lines_text same ++ (line ++ 10 ∷ rest))
    (sym (ap (λ text. text ++ (line ++ 10 ∷ rest)) (line_then one same) ∙ append_assoc (join_with_byte 44 one) (10 ∷ lines_text same) (line ++ 10 ∷ rest)) ∙ is))
parted (one ∷ same) (fields ∷ lines) line rest are all none is =
    let whole = sym (ap (λ text. text ++ (line ++ 10 ∷ rest)) (line_then one same) ∙ append_assoc (join_with_byte 44 one) (10 ∷ lines_text same) (line ++ 10 ∷ rest))
    ∙ is ∙ line_then fields lines in
    let first = first_line (join_with_byte 44 one) (join_with_byte 44 fields) (lines_text same ++ (line ++ 10 ∷ rest)) (lines_text lines) are.0.unended all.0.unended whole in
    let later = parted same lines line rest are.1 all.1 none first.1 in
    (later.0, ap₂ (λ f fs. f ∷ fs) (sym all.0.is_cut ∙ ap fields_between (sym first.0) ∙ are.0.is_cut) later.1)

-- All lines were written.
all_put : (same lines : List Fields) (line : List ℕ) → AllByRecursion IsOneLine same → AllByRecursion IsOneLine lines → HasNoFeed line
    → lines_text same ++ line ≡ lines_text lines → lines ≡ same
all_put [] [] line are all none is = refl
all_put [] (fields ∷ lines) line are all none is =
    absurd (no_feed (join_with_byte 44 fields) (lines_text lines) (subst HasNoFeed (is ∙ line_then fields lines) none))
all_put (one ∷ same) [] line are all none is =
    absurd (no_bytes (join_with_byte 44 one) (lines_text same ++ line)
    (sym (ap (λ text. text ++ line) (line_then one same) ∙ append_assoc (join_with_byte 44 one) (10 ∷ lines_text same) line) ∙ is))
all_put (one ∷ same) (fields ∷ lines) line are all none is =
    let whole = sym (ap (λ text. text ++ line) (line_then one same) ∙ append_assoc (join_with_byte 44 one) (10 ∷ lines_text same) line) ∙ is ∙ line_then fields lines in
    let first = first_line (join_with_byte 44 one) (join_with_byte 44 fields) (lines_text same ++ line) (lines_text lines) are.0.unended all.0.unended whole in
    ap₂ (λ f fs. f ∷ fs) (sym all.0.is_cut ∙ ap fields_between (sym first.0) ∙ are.0.is_cut) (all_put same lines line are.1 all.1 none first.1)

-- ---- Verdicts after what is the same

column_same : (column : ℕ) (fields : Fields) → column_from column fields fields ≡ None
column_same column [] = refl
column_same column (field ∷ fields) = rw ((bytes_eq-Decides field field).1 refl) (column_same (suc column) fields)

verdict_behind : (number count : ℕ) (records rest : List Fields) → count ≤ length records
    → verdict_from number (take count records ++ rest) records ≡ verdict_from (number + count) rest (drop count records)
verdict_behind number zero records rest few = let none : number ≡ number + 0 = omega arith in ap (λ n. verdict_from n rest records) none
verdict_behind number (suc count) [] rest few = absurd (omega arith)
verdict_behind number (suc count) (one ∷ records) rest few =
    let next : suc number + count ≡ number + suc count = omega arith in
    ap (λ told. verdict_by number told (verdict_from (suc number) (take count records ++ rest) records)) (column_same 1 one)
    ∙ verdict_behind (suc number) count records rest (omega arith) ∙ ap (λ n. verdict_from n rest (drop count records)) next

module _ (records : List Fields) (number : ℕ) (line : List ℕ) (counted : 1 ≤ number) (within : number - 1 ≤ length records)
    (cut : AllByRecursion IsOneLine (take (number - 1) records)) (unended : HasNoFeed line) (lines : List Fields) (all : AllByRecursion IsTraceLine lines) where
  one_lines : AllByRecursion IsOneLine lines
  one_lines = each_so IsTraceLine IsOneLine trace_line lines all

  from_number : (rest : List Fields) → verdict_of (take (number - 1) records ++ rest) records ≡ verdict_from number rest (drop (number - 1) records)
  from_number rest =
      let is : 1 + (number - 1) ≡ number = omega (arith, counted) in
      verdict_behind 1 (number - 1) records rest within ∙ ap (λ n. verdict_from n rest (drop (number - 1) records)) is

  -- The line that was written last differs from its record.
  pub told_apart : (column : ℕ) (rest : List ℕ) → lines_text (take (number - 1) records) ++ (line ++ 10 ∷ rest) ≡ lines_text lines
      → ((more : List Fields) → verdict_from number (fields_between line ∷ more) (drop (number - 1) records) ≡ No number column)
      → No number column ≡ verdict_of lines records
  told_apart column rest is apart =
      let cut_there = parted (take (number - 1) records) lines line rest cut one_lines unended is in
      sym (ap (λ given. verdict_of given records) cut_there.1 ∙ from_number (fields_between line ∷ cut_there.0) ∙ apart cut_there.0)

  -- All lines were written, and are the records that were read.
  whole_read : lines_text (take (number - 1) records) ++ line ≡ lines_text lines → verdict_of lines records ≡ verdict_from number [] (drop (number - 1) records)
  whole_read is =
      ap (λ given. verdict_of given records) (all_put (take (number - 1) records) lines line cut one_lines unended is ∙ sym (append-nil (take (number - 1) records)))
      ∙ from_number []

  pub told_more : (first : Fields) (others : List Fields) → lines_text (take (number - 1) records) ++ line ≡ lines_text lines
      → drop (number - 1) records ≡ first ∷ others → No number 1 ≡ verdict_of lines records
  told_more first others is left = sym (whole_read is ∙ ap (verdict_from number []) left)

  pub told_same : lines_text (take (number - 1) records) ++ line ≡ lines_text lines → drop (number - 1) records ≡ [] → Yes ≡ verdict_of lines records
  told_same is left = sym (whole_read is ∙ ap (verdict_from number []) left)
