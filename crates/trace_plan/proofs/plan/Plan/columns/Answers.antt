use Rattle.std.proofs.Common.{◌≤◌, ◌∙◌, length, subst, sym}
use Rattle.model_rules.specs.Limits.{sample_limit}
use Rattle.trace_plan.proofs.ColumnLaws.{headers_can_be_printed_lem, rows_can_be_printed_lem}
use Rattle.trace_plan.proofs.FewColumns.{few_columns}
use Rattle.trace_plan.specs.Laws.{HasTitles, HasRows}
use Rattle.trace_plan.specs.Plans.{Planned}
use Rattle.trace_plan.proofs.plan.Plan.columns.Goals as goal

pub returns-clause-titles : goal.returns-clause-titles
returns-clause-titles c =
    subst (λ (p : Planned). HasTitles p.system) c.self.view_is
    (headers_can_be_printed_lem c.self.inside.checked c.system.ensures.ranged c.system.ensures.well_formed)

pub returns-clause-rows : goal.returns-clause-rows
returns-clause-rows c =
    subst (λ (p : Planned). HasRows p.system) c.self.view_is
    (rows_can_be_printed_lem c.self.inside.checked c.system.ensures.ranged c.system.ensures.well_formed)

pub returns-clause-few : goal.returns-clause-few
returns-clause-few c =
    subst (λ columns. length columns ≤ sample_limit) (sym (c.deref.ensures.value ∙ c.self.invariant.columns))
    (few_columns c.self.inside.checked c.system.ensures.ranged c.system.ensures.well_formed)
