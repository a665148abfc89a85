use Rattle.std.proofs.Common.{length, subst}
use Rattle.csv.specs.Records.{fields_of}
use Rattle.stimulus_tables.specs.Tables.{IsNextTime}
use Rattle.stimulus_tables.specs.TableFields.{IsMomentOf}
use Rattle.stimulus_tables.proofs.MomentLaws.{not_next}
use Rattle.stimulus_tables.proofs.moments.next_moment.Goals as goal
use Rattle.text_tokens.specs.Results.{Decides, Tells}

pub returns-else-is_next_time : goal.returns-else-is_next_time
returns-else-is_next_time c =
    let is = subst (λ told. Tells told (IsMomentOf (length c.args.names.now) (fields_of c.args.fields.now))) c.in-Some.is c.in_ok-moment.ensures in
    let none = subst (λ told. Decides told (IsNextTime c.args.before.now c.in-Some.moment.time)) c.if-is_next_time.false c.is_next_time.ensures in
    not_next c.args.names.now c.args.before.now (fields_of c.args.fields.now) c.in-Some.moment is none
