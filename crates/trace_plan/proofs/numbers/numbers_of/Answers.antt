use Rattle.std.proofs.Common.{ap, ◌∙◌}
use Rattle.unit_tree.specs.Compositions.{ticks_or}
use Rattle.unit_tree.specs.WellFormed.{resolution_of}
use Rattle.trace_plan.proofs.PlainRuns.{numbers_are, plain_low, plain_stop, plain_longest, plain_instances}
use Rattle.trace_plan.proofs.numbers.numbers_of.Goals as goal

pub ticks_or-stop-requires-clause-decimals : goal.ticks_or-stop-requires-clause-decimals
ticks_or-stop-requires-clause-decimals c =
    plain_low c.args.checked.now c.system-system.ensures.ranged c.system-system.ensures.well_formed c.system-system.result.now c.system-system.ensures.plain
    c.resolution-resolution.result c.resolution-resolution.ensures

pub ticks_or-stop-requires-clause-readable : goal.ticks_or-stop-requires-clause-readable
ticks_or-stop-requires-clause-readable c =
    plain_stop c.args.checked.now c.system-system.ensures.ranged c.system-system.ensures.well_formed c.system-system.result.now c.system-system.ensures.plain
    c.resolution-resolution.result c.resolution-resolution.ensures

pub ticks_or-longest-requires-clause-decimals : goal.ticks_or-longest-requires-clause-decimals
ticks_or-longest-requires-clause-decimals c =
    plain_low c.args.checked.now c.system-system.ensures.ranged c.system-system.ensures.well_formed c.system-system.result.now c.system-system.ensures.plain
    c.resolution-resolution.result c.resolution-resolution.ensures

pub ticks_or-longest-requires-clause-readable : goal.ticks_or-longest-requires-clause-readable
ticks_or-longest-requires-clause-readable c =
    plain_longest c.args.checked.now c.system-system.ensures.ranged c.system-system.ensures.well_formed c.system-system.result.now
    c.system-system.ensures.plain c.resolution-resolution.result c.resolution-resolution.ensures

pub row_limit-row_limit-requires : goal.row_limit-row_limit-requires
row_limit-row_limit-requires c =
    plain_instances c.args.checked.now c.system-system.ensures.ranged c.system-system.ensures.well_formed c.system-system.result.now
    c.system-system.ensures.plain

pub returns : goal.returns
returns c =
    let made = c.system-system.result.now in
    let stop = c.ticks_or-stop.ensures ∙ ap (λ r. ticks_or 0 r made.stop) c.resolution-resolution.ensures in
    let longest = c.ticks_or-longest.ensures ∙ ap (λ d. ticks_or d c.resolution-resolution.result made.longest) stop
    ∙ ap (λ r. ticks_or (ticks_or 0 (resolution_of made) made.stop) r made.longest) c.resolution-resolution.ensures in
    numbers_are c.args.checked.now c.system-system.ensures.ranged c.system-system.ensures.well_formed made _ c.system-system.ensures.plain
    c.resolution-resolution.ensures stop longest c.zero_budget-zero_budget.ensures c.row_limit-row_limit.ensures
