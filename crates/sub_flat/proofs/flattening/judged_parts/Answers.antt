use Rattle.std.proofs.Common.{subst, sym}
use Rattle.sub_flat.specs.FlatReading.{IsRefusedBy}
use Rattle.sub_flat.proofs.JudgeLaws.{parts_judged, parts_refused}
use Rattle.sub_flat.proofs.flattening.judged_parts.Goals as goal

pub returns-in-Ok : goal.returns-in-Ok
returns-in-Ok c =
    parts_judged c.args.nest.now c.in_ok-names.names c.in-Ok.parts c.in_ok-names.ensures c.in_ok-judge.ensures c.in-Ok.ensures

pub returns : goal.returns
returns c =
    subst (IsRefusedBy c.args.nest.now) (sym c.refusal.ensures)
    (parts_refused c.args.nest.now c.in_ok-names.names c.in-Err.why c.in_ok-names.ensures c.in_ok-judge.ensures c.in-Err.ensures)
