use Rattle.std.proofs.Common.{◌∷◌, ◌+◌, [], length, length-append, ap, arith, subst, sym}
use Rattle.csv.specs.Records.{fields_of}
use Rattle.stimulus_tables.specs.Tables.{LeavesForm, MayFollow}
use Rattle.stimulus_tables.specs.Stimuli.{BeganTable}
use Rattle.stimulus_tables.proofs.ReadTables.{moment_lacks, moment_read, moments_end}
use Rattle.stimulus_tables.proofs.stimuli.read_moments.Goals as goal
use Rattle.text_tokens.specs.Results.{Tells}

pub loop-moments-init : goal.loop-moments-init
loop-moments-init c = record {
  few = omega (arith, ap length c.new-moments.ensures);
  began = λ records began. subst (λ moments. BeganTable records c.args.names.now moments c.args.reader.now) (sym c.new-moments.ensures) began;
}

pub returns-in_default : goal.returns-in_default
returns-in_default c records began =
    let follows = subst (λ moments. Tells c.in_ok-moment.field-0 (MayFollow c.args.names.now moments (fields_of c.take_record.new.fields))) c.as_slice.ensures c.in_ok-moment.ensures in
    subst (λ count. LeavesForm records (count + 2)) (sym c.len.ensures)
    (moment_lacks records c.args.names.now c.loop-moments.moments c.loop-moments.reader c.take_record.new.reader (fields_of c.take_record.new.fields)
    c.in_ok-take_record.field-0 c.in_ok-take_record.ensures c.if-branch.true
    (subst (λ told. Tells told (MayFollow c.args.names.now c.loop-moments.moments (fields_of c.take_record.new.fields))) c.in_default.is follows)
    (c.loop-moments.invariant.began records began))

pub loop-moments-preserved : goal.loop-moments-preserved
loop-moments-preserved c =
    let follows = subst (λ moments. Tells c.in_ok-moment.field-0 (MayFollow c.args.names.now moments (fields_of c.take_record.new.fields))) c.as_slice.ensures c.in_ok-moment.ensures in
    let next = subst (λ told. Tells told (MayFollow c.args.names.now c.loop-moments.moments (fields_of c.take_record.new.fields))) c.in-Some.is follows in
    record {
      few = omega (arith, next.few, ap length c.in_ok-push.ensures.ok, length-append c.loop-moments.moments (c.in-Some.moment ∷ []));
      began = λ records began. moment_read records c.args.names.now c.loop-moments.moments c.loop-moments.reader c.take_record.new.reader
          (fields_of c.take_record.new.fields) c.in_ok-take_record.field-0 c.in_ok-take_record.ensures c.in-Some.moment c.push.new.self c.if-branch.true next
          c.in_ok-push.ensures.ok (c.loop-moments.invariant.began records began);
    }

pub returns : goal.returns
returns c records began =
    moments_end records c.args.names.now c.loop-moments.moments c.loop-moments.reader c.take_record.new.reader (fields_of c.take_record.new.fields)
    c.in_ok-take_record.field-0 c.in_ok-take_record.ensures c.if-branch.false (c.loop-moments.invariant.began records began)
