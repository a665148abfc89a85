use Rattle.std.proofs.Common.{subst}
use Rattle.csv.specs.Records.{fields_of}
use Rattle.stimulus_tables.specs.Tables.{IsHead}
use Rattle.stimulus_tables.proofs.ReadTables.{head_read, no_head, no_records}
use Rattle.stimulus_tables.proofs.stimuli.read_head.Goals as goal
use Rattle.text_tokens.specs.Results.{Tells}

pub returns-then-not-branch : goal.returns-then-not-branch
returns-then-not-branch c records gives =
    no_records records (fields_of c.take_record.new.fields) c.in_ok-take_record.field-0 c.take_record.new.reader (c.in_ok-take_record.ensures records gives) c.if-not-branch.true

pub returns-in-Some : goal.returns-in-Some
returns-in-Some c records gives =
    head_read records (fields_of c.take_record.new.fields) c.in_ok-take_record.field-0 c.in-Some.names c.take_record.new.reader (c.in_ok-take_record.ensures records gives)
    c.if-not-branch.false (subst (λ told. Tells told (IsHead (fields_of c.take_record.new.fields))) c.in-Some.is c.in_ok-names.ensures)

pub returns-in-None : goal.returns-in-None
returns-in-None c records gives =
    no_head records (fields_of c.take_record.new.fields) c.in_ok-take_record.field-0 c.take_record.new.reader (c.in_ok-take_record.ensures records gives)
    c.if-not-branch.false (subst (λ told. Tells told (IsHead (fields_of c.take_record.new.fields))) c.in-None.is c.in_ok-names.ensures)
