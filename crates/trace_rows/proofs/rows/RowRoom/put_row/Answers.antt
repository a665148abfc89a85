use Rattle.std.proofs.Common.{SFits, to_z, of_z, rules, sym, ap, ◌∙◌}
use Rattle.std.specs.Int.{w128}
use Rattle.std.proofs.lemmas.Int.{to_z-of_z}
use Rattle.trace_core.specs.Runs.{row_told}
use Rattle.trace_plan.specs.Plans.{Planned}
use Rattle.unit_tree.specs.Trace.{row_at}
use Rattle.trace_rows.proofs.RowLaws.{told_none, told_some, err_is, no_row_put, row_put, row_broken, row_shows}
use Rattle.trace_rows.proofs.rows.RowRoom.put_row.Goals as goal

pub returns-in_default : goal.returns-in_default
returns-in_default g c =
    no_row_put c.args.plan.now c.args.run.now.stand (g.O.Sink.held c.args.out.now) (g.O.Sink.faults c.args.out.now) c.args.tally.now
    (ap (λ (p : Planned). row_at p.run c.args.run.now.stand) (sym c.requires.own)
    ∙ told_none row_told c.row.result (row_at c.args.run.now.plan.run c.args.run.now.stand) c.row.ensures c.in_default.not-Some)

pub returns-in_err-put_line : goal.returns-in_err-put_line
returns-in_err-put_line g c =
    row_broken c.args.plan.now c.args.run.now.stand (row_told c.in-Some.row) c.resolution.result c.columns-columns.result.now (g.O.Sink.held c.args.out.now)
    (g.O.Sink.held c.put_line.new.out) (g.O.Sink.faults c.args.out.now)
    (g.O.Sink.faults c.put_line.new.out) c.args.tally.now c.in_err-put_line.field-0.0 c.from_residual.result
    (ap (λ (p : Planned). row_at p.run c.args.run.now.stand) (sym c.requires.own)
    ∙ told_some row_told c.row.result (row_at c.args.run.now.plan.run c.args.run.now.stand) c.in-Some.row c.row.ensures c.in-Some.is)
    c.resolution.ensures.value c.columns-columns.ensures.columns c.in_err-put_line.ensures.front
    c.in_err-put_line.ensures.cause
    (err_is c.from_residual.result c.in_err-put_line.field-0.0 c.from_residual.ensures.1)

pub returns : goal.returns
returns g c =
    let fits : SFits w128 c.row_sum.result = search rules in
    row_put c.args.plan.now c.args.run.now.stand (row_told c.in-Some.row) c.resolution.result c.columns-columns.result.now (g.O.Sink.held c.args.out.now)
    (g.O.Sink.held c.put_line.new.out) (g.O.Sink.faults c.args.out.now) (g.O.Sink.faults c.put_line.new.out) c.args.tally.now c.count.new.self
    (to_z w128 (of_z w128 c.row_sum.result))
    (ap (λ (p : Planned). row_at p.run c.args.run.now.stand) (sym c.requires.own)
    ∙ told_some row_told c.row.result (row_at c.args.run.now.plan.run c.args.run.now.stand) c.in-Some.row c.row.ensures c.in-Some.is)
    c.resolution.ensures.value c.columns-columns.ensures.columns c.in_ok-put_line.ensures.whole
    (c.in_ok-put_line.ensures.cause.same (λ e. absurd (cc)))
    c.count.ensures.rows c.count.ensures.sum (to_z-of_z w128 c.row_sum.result fits ∙ c.row_sum.ensures.sum)

pub put_line-requires-clause-words : goal.put_line-requires-clause-words
put_line-requires-clause-words g c =
    row_shows c.args.plan.now c.args.run.now c.in-Some.row c.columns-columns.result.now c.requires.own c.requires.stands c.columns-columns.ensures.rows
    (ap (λ (p : Planned). row_at p.run c.args.run.now.stand) (sym c.requires.own)
    ∙ told_some row_told c.row.result (row_at c.args.run.now.plan.run c.args.run.now.stand) c.in-Some.row c.row.ensures c.in-Some.is)
    c.columns-columns.ensures.columns

pub row_sum-requires-clause-words : goal.row_sum-requires-clause-words
row_sum-requires-clause-words g c =
    row_shows c.args.plan.now c.args.run.now c.in-Some.row c.columns-columns.result.now c.requires.own c.requires.stands c.columns-columns.ensures.rows
    (ap (λ (p : Planned). row_at p.run c.args.run.now.stand) (sym c.requires.own)
    ∙ told_some row_told c.row.result (row_at c.args.run.now.plan.run c.args.run.now.stand) c.in-Some.row c.row.ensures c.in-Some.is)
    c.columns-columns.ensures.columns
