use Rattle.std.proofs.Common.{◌∙◌}
use Rattle.list_laws.proofs.Options.{none_told}
use Rattle.wire_graph.proofs.NumberLaws.{noted_new, noted_before, copied_some}
use Rattle.wire_graph.proofs.numbering.note.Goals as goal

pub returns : goal.returns
returns g c = λ asked.
    noted_new g.K.PartialEq.eq g.met.K.Eq.laws c.args.key asked c.args.place c.args.table.now.entries _ (c.in_ok-insert.ensures.updates.0 asked)
    (none_told _ (copied_some c.get.result _ c.is_some.result c.get.ensures.value c.is_some.ensures ∙ c.if-is_some.false))

pub returns-then-is_some : goal.returns-then-is_some
returns-then-is_some g c = λ asked.
    noted_before g.K.PartialEq.eq g.met.K.Eq.laws c.args.key asked c.args.place c.args.table.now.entries
    (copied_some c.get.result _ c.is_some.result c.get.ensures.value c.is_some.ensures ∙ c.if-is_some.true)
