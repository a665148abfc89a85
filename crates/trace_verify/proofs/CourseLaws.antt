-- The comparison of a line with the next record, and the state of a comparison after it.
use Rattle.std.proofs.Common.{◌≡◌, ℕ, suc, ◌+◌, ◌-◌, ◌≤◌, true, false, List, [], ◌∷◌, ◌++◌, Bor, take, drop, length, Some, None, refl, ap, sym, subst, ◌∙◌, arith, zero, append_assoc, append-nil}
use Rattle.csv.specs.declared.reader.Reader.{Reader}
use Rattle.std.specs.List.{AllByRecursion}
use Rattle.std.proofs.lemmas.Grind.{flat_map-append}
use Rattle.std.proofs.lemmas.List.Splits.{join_with_byte-slice_split}
use Rattle.list_laws.proofs.Lists.{each_append, same_first, same_rest}
use Rattle.trace_verify.specs.Comparing.{Compared, HasNoFeed, IsJudged, IsKept, IsOneLine, PutsByte, end_put, goes_on, marked}
use Rattle.stimulus_tables.specs.Reading.{Gives, Took}
use Rattle.trace_verify.specs.TraceLines.{fields_between, line_of, lines_text}
use Rattle.trace_verify.specs.Verdicts.{column_from, verdict_by, verdict_from}
use Rattle.stimulus_tables.specs.Records.{Fields, records_of}
use Rattle.trace_verify.specs.declared.compare.ComparisonState.{ComparisonState}
use Rattle.trace_verify.specs.declared.compare.ComparisonState.TheVariants as course
use Rattle.trace_verify.proofs.VerdictLaws.{ColumnTold, column_told}

pub judged_same : (rest : List Fields) (line : List ℕ) (fields : Fields) (reader : Reader (Bor (List ℕ))) → Took rest true fields reader
    → column_from 1 (fields_between line) fields ≡ None → IsJudged rest line reader course.Same
judged_same rest line fields reader took none =
    let same : fields ≡ fields_between line = subst (ColumnTold 1 (fields_between line) fields) none (column_told 1 (fields_between line) fields) in
    (took.0, took.1 ∙ ap (λ first. first ∷ took.0) same, took.2)

pub judged_apart : (rest : List Fields) (line : List ℕ) (fields : Fields) (reader : Reader (Bor (List ℕ))) (column : ℕ) → Took rest true fields reader
    → column_from 1 (fields_between line) fields ≡ Some column → IsJudged rest line reader (course.Differs column)
judged_apart rest line fields reader column took some number more =
    ap (verdict_from number (fields_between line ∷ more)) took.1 ∙ ap (λ told. verdict_by number told (verdict_from (suc number) more took.0)) some

pub judged_missing : (rest : List Fields) (line : List ℕ) (fields : Fields) (reader : Reader (Bor (List ℕ))) → Took rest false fields reader
    → IsJudged rest line reader (course.Differs 1)
judged_missing rest line fields reader none number more = ap (verdict_from number (fields_between line ∷ more)) none

-- ---- The next record is the same

record IsNext (records : List Fields) (place : ℕ) (first : Fields) (others : List Fields) : Type 0 where
  taken : take (suc place) records ≡ take place records ++ (first ∷ [])
  left : drop (suc place) records ≡ others
  within : suc place ≤ length records

next_is : (records : List Fields) (place : ℕ) (first : Fields) (others : List Fields) → drop place records ≡ first ∷ others → IsNext records place first others
next_is [] zero first others is = absurd (cc is)
next_is [] (suc place) first others is = absurd (cc is)
next_is (one ∷ records) zero first others is = record {
  taken = ap (λ fields. fields ∷ []) (same_first one first records others is);
  left = same_rest one first records others is;
  within = omega arith;
}
next_is (one ∷ records) (suc place) first others is =
    let later = next_is records place first others is in
    record { taken = ap (λ taken. one ∷ taken) later.taken; left = later.left; within = omega (arith, later.within) }

fields_of_line : (line : List ℕ) → HasNoFeed line → IsOneLine (fields_between line)
fields_of_line line unended =
    let joined = join_with_byte-slice_split 44 line in
    record { unended = subst HasNoFeed (sym joined) unended; is_cut = ap fields_between joined }

kept_same : (records : List Fields) (number next : ℕ) (line : List ℕ) (old new : Reader (Bor (List ℕ))) → IsKept records number line course.Same old
    → next ≡ number + 1 → IsJudged (drop (number - 1) records) line new course.Same → IsKept records next [] course.Same new
kept_same records number next line old new kept is judged =
    let after = next_is records (number - 1) (fields_between line) judged.0 judged.1 in
    let place : suc (number - 1) ≡ next - 1 = omega (arith, is, kept.counted) in
    record {
      counted = omega (arith, is);
      within = omega (arith, after.within, place);
      cut =
          subst (AllByRecursion IsOneLine) (sym after.taken ∙ ap (λ n. take n records) place)
          (each_append IsOneLine (take (number - 1) records) (fields_between line ∷ []) kept.cut (fields_of_line line kept.unended, tt));
      unended = tt;
      course = subst (Gives new) (sym after.left ∙ ap (λ n. drop n records) place) judged.2;
    }

line_put : (records : List Fields) (number next : ℕ) (line : List ℕ) (old new : Reader (Bor (List ℕ))) → IsKept records number line course.Same old
    → next ≡ number + 1 → IsJudged (drop (number - 1) records) line new course.Same
    → lines_text (take (next - 1) records) ++ ([] ++ []) ≡ (lines_text (take (number - 1) records) ++ (line ++ [])) ++ (10 ∷ [])
line_put records number next line old new kept is judged =
    let after = next_is records (number - 1) (fields_between line) judged.0 judged.1 in
    let place : suc (number - 1) ≡ next - 1 = omega (arith, is, kept.counted) in
    let before = lines_text (take (number - 1) records) in
    append-nil (lines_text (take (next - 1) records)) ∙ ap (λ n. lines_text (take n records)) (sym place) ∙ ap lines_text after.taken
    ∙ flat_map-append line_of (take (number - 1) records) (fields_between line ∷ [])
    ∙ ap (λ text. before ++ text) (append-nil (line_of (fields_between line)) ∙ ap (λ text. text ++ (10 ∷ [])) (join_with_byte-slice_split 44 line))
    ∙ sym (append_assoc before line (10 ∷ [])) ∙ ap (λ text. (before ++ text) ++ (10 ∷ [])) (sym (append-nil line))

-- The line is compared with the next record. Where they differ, it was written to its end.
abbrev pub seen : List ℕ → ℕ → List ℕ → ComparisonState → ℕ → Compared
seen table number line told faults = record { table = table; number = number; line = line; course = told; faults = faults }

pub same_kept : (records : List Fields) (number next : ℕ) (line after : List ℕ) (was told : ComparisonState) (old new : Reader (Bor (List ℕ)))
    → IsKept records number line was old → was ≡ course.Same → told ≡ course.Same → next ≡ number + 1 → after ≡ []
    → ((rest : List Fields) → Gives old rest → IsJudged rest line new told) → IsKept records next after told new
same_kept records number next line after was told old new kept was_same same is empty judged =
    let before : IsKept records number line course.Same old = subst (λ one. IsKept records number line one old) was_same kept in
    let now = subst (IsJudged (drop (number - 1) records) line new) same (judged (drop (number - 1) records) before.course) in
    subst (λ one. IsKept records next after one new) (sym same)
    (subst (λ bytes. IsKept records next bytes course.Same new) (sym empty) (kept_same records number next line old new before is now))

pub same_put : (table : List ℕ) (number next faults : ℕ) (line after : List ℕ) (was told : ComparisonState) (old new : Reader (Bor (List ℕ)))
    → IsKept (records_of table) number line was old → was ≡ course.Same → told ≡ course.Same → next ≡ number + 1 → after ≡ []
    → ((rest : List Fields) → Gives old rest → IsJudged rest line new told)
    → PutsByte (seen table number line was faults) (seen table next after told faults) 10 (goes_on told)
same_put table number next faults line after was told old new kept was_same same is empty judged =
    let before : IsKept (records_of table) number line course.Same old = subst (λ one. IsKept (records_of table) number line one old) was_same kept in
    let now = subst (IsJudged (drop (number - 1) (records_of table)) line new) same (judged (drop (number - 1) (records_of table)) before.course) in
    let put = line_put (records_of table) number next line old new before is now in
    record {
      faults = refl;
      whole = λ goes.
          ap (λ text. marked table ++ text) (
          ap (λ bytes. lines_text (take (next - 1) (records_of table)) ++ (bytes ++ end_put told)) empty
          ∙ ap (λ one. lines_text (take (next - 1) (records_of table)) ++ ([] ++ end_put one)) same ∙ put
          ∙ ap (λ one. (lines_text (take (number - 1) (records_of table)) ++ (line ++ end_put one)) ++ (10 ∷ [])) (sym was_same))
          ∙ sym (append_assoc (marked table) (lines_text (take (number - 1) (records_of table)) ++ (line ++ end_put was)) (10 ∷ []));
      over = λ stops. absurd (on (sym (ap goes_on same) ∙ stops));
    }
  where
    on : true ≡ false → ⊥
    on is = cc is
