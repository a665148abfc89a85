use Rattle.std.proofs.Common.{subst, sym}
use Rattle.sub_flat.specs.FlatReading.{IsRefusedBy}
use Rattle.sub_flat.proofs.JudgeLaws.{whole_answered, whole_refused}
use Rattle.sub_flat.proofs.flattening.whole_system.Goals as goal

pub returns-in-Ok : goal.returns-in-Ok
returns-in-Ok c nest main line judged = whole_answered nest c.args.main c.in-Ok.flat c.args.parts main judged c.in-Ok.ensures

pub returns-in-Err : goal.returns-in-Err
returns-in-Err c nest main line judged =
    subst (IsRefusedBy nest) (sym c.refusal.ensures)
    (whole_refused nest c.args.main c.args.main_line c.args.parts c.in-Err.why main line judged c.in-Err.ensures)
