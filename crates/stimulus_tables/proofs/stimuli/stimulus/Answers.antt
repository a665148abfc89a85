use Rattle.std.proofs.Common.{◌∙◌, [], subst, sym}
use Rattle.std.specs.List.{AllByRecursion}
use Rattle.stimulus_tables.specs.Tables.{BeginsTable, IsWritable}
use Rattle.stimulus_tables.specs.Stimuli.{BeganTable}
use Rattle.stimulus_tables.specs.Records.{records_of}
use Rattle.stimulus_tables.proofs.ReadTables.{handed_on, table_written}
use Rattle.stimulus_tables.proofs.stimuli.stimulus.Goals as goal

pub returns-in_err-names : goal.returns-in_err-names
returns-in_err-names c =
    handed_on (records_of c.args.table.now) c.in_err-names.field-0.0 c.from_residual.result c.from_residual.ensures.1
    (c.in_err-names.ensures (records_of c.args.table.now) c.read_table-reader.ensures)

pub returns-in_err-moments : goal.returns-in_err-moments
returns-in_err-moments c =
    let records = records_of c.args.table.now in
    let began = subst (λ names. BeganTable records names [] c.read_head.new.reader) (sym c.as_slice.ensures) (c.in_ok-names.ensures records c.read_table-reader.ensures) in
    handed_on records c.in_err-moments.field-0.0 c.from_residual-in_err-moments.result c.from_residual-in_err-moments.ensures.1 (c.in_err-moments.ensures records began)

pub system_of-requires : goal.system_of-requires
system_of-requires c =
    let records = records_of c.args.table.now in
    let began = subst (λ names. BeganTable records names [] c.read_head.new.reader) (sym c.as_slice.ensures) (c.in_ok-names.ensures records c.read_table-reader.ensures) in
    subst (AllByRecursion IsWritable) (sym c.as_slice-3.ensures)
    (table_written records c.as_slice.result.now c.in_ok-moments.moments (c.in_ok-moments.ensures records began))

pub returns : goal.returns
returns c =
    let records = records_of c.args.table.now in
    let began = subst (λ names. BeganTable records names [] c.read_head.new.reader) (sym c.as_slice.ensures) (c.in_ok-names.ensures records c.read_table-reader.ensures) in
    let begins = c.in_ok-moments.ensures records began in
    c.system_of.ensures records
    (subst (λ names. BeginsTable records names c.as_slice-3.result.now []) (c.as_slice.ensures ∙ sym c.as_slice-2.ensures)
    (subst (λ moments. BeginsTable records c.as_slice.result.now moments []) (sym c.as_slice-3.ensures) begins))
