use Rattle.std.proofs.Common.{◌∙◌, sym, subst}
use Rattle.csv.specs.Records.{fields_of}
use Rattle.stimulus_tables.specs.Reading.{Took}
use Rattle.trace_verify.proofs.CourseLaws.{judged_apart, judged_missing, judged_same}
use Rattle.trace_verify.proofs.compare.judge.Goals as goal

pub returns-in-Some : goal.returns-in-Some
returns-in-Some c rest gives =
    let found = subst (λ found. Took rest found (fields_of c.take_record.new.fields) c.take_record.new.reader) c.in-Ok-true.field-0-test (c.in-Ok-true.ensures rest gives) in
    judged_apart rest c.args.line.now (fields_of c.take_record.new.fields) c.take_record.new.reader c.in-Some.column found (sym c.column_apart.ensures ∙ c.in-Some.is)

pub returns-in-None : goal.returns-in-None
returns-in-None c rest gives =
    let found = subst (λ found. Took rest found (fields_of c.take_record.new.fields) c.take_record.new.reader) c.in-Ok-true.field-0-test (c.in-Ok-true.ensures rest gives) in
    judged_same rest c.args.line.now (fields_of c.take_record.new.fields) c.take_record.new.reader found (sym c.column_apart.ensures ∙ c.in-None.is)

pub returns-in-Ok-false : goal.returns-in-Ok-false
returns-in-Ok-false c rest gives =
    let none = subst (λ found. Took rest found (fields_of c.take_record.new.fields) c.take_record.new.reader) c.in-Ok-false.field-0-test (c.in-Ok-false.ensures rest gives) in
    judged_missing rest c.args.line.now (fields_of c.take_record.new.fields) c.take_record.new.reader none
