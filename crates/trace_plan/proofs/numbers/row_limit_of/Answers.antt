use Rattle.std.proofs.Common.{◌≡◌, ap, length, ◌∙◌}
use Rattle.std.specs.Prelude.{unwrap_or}
use Rattle.trace_plan.proofs.PlainRuns.{plain_instances}
use Rattle.unit_tree.specs.Compositions.{default_rows}
use Rattle.unit_tree.specs.declared.system.System.{System}
use Rattle.trace_plan.proofs.numbers.row_limit_of.Goals as goal

pub row_limit-requires : goal.row_limit-requires
row_limit-requires c =
    plain_instances c.args.checked.now c.system.ensures.ranged c.system.ensures.well_formed c.system.result.now c.system.ensures.plain

pub returns : goal.returns
returns c =
    c.row_limit.ensures ∙ ap (λ (s : System). unwrap_or s.rows (default_rows s.version (length s.instances))) c.system.ensures.plain
