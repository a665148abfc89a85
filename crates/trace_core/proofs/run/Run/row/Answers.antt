use Rattle.std.proofs.Common.{◌∙◌, ap, sym}
use Rattle.trace_core.specs.Keeping.{stand_of}
use Rattle.trace_core.specs.Runs.{RunState}
use Rattle.trace_core.proofs.KeepLaws.{none_is}
use Rattle.trace_core.proofs.RowLaws.{as_row, row_there}
use Rattle.unit_tree.specs.Ports.{port_fault}
use Rattle.unit_tree.specs.Trace.{row_at}
use Rattle.std.proofs.Common.{refl}
use Rattle.trace_core.proofs.run.Run.row.Goals as goal

pub returns : goal.returns
returns c =
    let r = c.self.inside in
    let is = c.self.invariant in
    let solved = c.if-not-self.false in
    ap (as_row r.point) c.deref.ensures.value
    ∙ sym (row_there r.plan.value.run (stand_of r) r.known.items r.ports.items
    (none_is (port_fault r.plan.value.run (stand_of r).at.states (stand_of r).ports) (sym is.solved ∙ solved)) refl (is.room.known ∙ sym is.room.ports)
    (is.known solved))
    ∙ ap (λ (s : RunState). row_at s.plan.run s.stand) c.self.view_is
