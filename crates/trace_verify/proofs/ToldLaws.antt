-- What a comparison says of what was written.
use Rattle.std.proofs.Common.{◌≡◌, ℕ, ◌-◌, Bool, true, false, List, [], ◌∷◌, ◌++◌, Bor, take, drop, ap, sym, subst, ◌∙◌, append_assoc, append-nil}
use Rattle.std.specs.List.{AllByRecursion}
use Rattle.std.proofs.lemmas.List.{take-append-drop}
use Rattle.csv.specs.declared.reader.Reader.{Reader}
use Rattle.trace_verify.specs.Comparing.{Begins, IsCourse, IsKept, end_put, text_put}
use Rattle.stimulus_tables.specs.Reading.{Gives, Took}
use Rattle.trace_verify.specs.TraceLines.{IsTraceLine, lines_text}
use Rattle.trace_verify.specs.Verdicts.{verdict_of}
use Rattle.stimulus_tables.specs.Records.{Fields, records_of}
use Rattle.trace_verify.specs.declared.compare.ComparisonState.{ComparisonState}
use Rattle.trace_verify.specs.declared.compare.ComparisonState.TheVariants as course
use Rattle.trace_verify.specs.declared.verdict.Verdict.TheVariants.{Yes, No}
use Rattle.trace_verify.proofs.CourseLaws.{seen}
use Rattle.trace_verify.proofs.MatchLaws.{told_apart, told_more, told_same}

-- A prefix of a text, with what is left of it.
begun_by : (whole : Bool) (front line text : List ℕ) → Begins whole (front ++ (line ++ (10 ∷ []))) text → (rest : List ℕ) × (front ++ (line ++ 10 ∷ rest) ≡ text)
begun_by true front line text is = ([], is)
begun_by false front line text is =
    let rest = drop is.0 text in (
      rest,
      sym (ap (λ bytes. front ++ bytes) (append_assoc line (10 ∷ []) rest)) ∙ sym (append_assoc front (line ++ (10 ∷ [])) rest)
          ∙ ap (λ bytes. bytes ++ rest) is.1
          ∙ take-append-drop is.0 text,
    )

pub apart_told : (table : List ℕ) (number column faults : ℕ) (line : List ℕ) (told : ComparisonState) (reader : Reader (Bor (List ℕ)))
    → IsKept (records_of table) number line told reader → told ≡ course.Differs column → (lines : List Fields) → AllByRecursion IsTraceLine lines → (whole : Bool)
    → Begins whole (text_put (seen table number line told faults)) (lines_text lines) → No number column ≡ verdict_of lines (records_of table)
apart_told table number column faults line told reader kept is lines all whole begins =
    let front = lines_text (take (number - 1) (records_of table)) in
    let put = begun_by whole front line (lines_text lines) (subst (λ one. Begins whole (front ++ (line ++ end_put one)) (lines_text lines)) is begins) in
    let apart = subst (IsCourse (drop (number - 1) (records_of table)) line reader) is kept.course in
    told_apart (records_of table) number line kept.counted kept.within kept.cut kept.unended lines all column put.0 put.1 (apart number)

-- All was written, and all is the same.
same_text : (table : List ℕ) (number faults : ℕ) (line : List ℕ) (told : ComparisonState) (lines : List Fields) → told ≡ course.Same
    → text_put (seen table number line told faults) ≡ lines_text lines → lines_text (take (number - 1) (records_of table)) ++ line ≡ lines_text lines
same_text table number faults line told lines is put =
    ap (λ bytes. lines_text (take (number - 1) (records_of table)) ++ bytes) (sym (append-nil line) ∙ ap (λ one. line ++ end_put one) (sym is)) ∙ put

pub more_told : (table : List ℕ) (number faults : ℕ) (line : List ℕ) (told : ComparisonState) (old new : Reader (Bor (List ℕ))) (found : Bool) (fields : Fields)
    → IsKept (records_of table) number line told old → told ≡ course.Same → ((rest : List Fields) → Gives old rest → Took rest found fields new) → found ≡ true
    → (lines : List Fields) → AllByRecursion IsTraceLine lines → text_put (seen table number line told faults) ≡ lines_text lines
    → No number 1 ≡ verdict_of lines (records_of table)
more_told table number faults line told old new found fields kept is took there lines all put =
    let rest = drop (number - 1) (records_of table) in
    let read = subst (λ b. Took rest b fields new) there (took rest (subst (IsCourse rest line old) is kept.course)) in
    told_more (records_of table) number line kept.counted kept.within kept.cut kept.unended lines all fields read.0 (same_text table number faults line told lines is put) read.1

pub none_told : (table : List ℕ) (number faults : ℕ) (line : List ℕ) (told : ComparisonState) (old new : Reader (Bor (List ℕ))) (found : Bool) (fields : Fields)
    → IsKept (records_of table) number line told old → told ≡ course.Same → ((rest : List Fields) → Gives old rest → Took rest found fields new) → found ≡ false
    → (lines : List Fields) → AllByRecursion IsTraceLine lines → text_put (seen table number line told faults) ≡ lines_text lines
    → Yes ≡ verdict_of lines (records_of table)
none_told table number faults line told old new found fields kept is took none lines all put =
    let rest = drop (number - 1) (records_of table) in
    let read = subst (λ b. Took rest b fields new) none (took rest (subst (IsCourse rest line old) is kept.course)) in
    told_same (records_of table) number line kept.counted kept.within kept.cut kept.unended lines all (same_text table number faults line told lines is put) read
