use Rattle.std.proofs.Common.{◌≡◌, drop}
use Rattle.unit_tree.specs.Compositions.{literal_set}
use Rattle.trace_plan.proofs.fitting.literal_set.Given as goal

abbrev pub invariant-loop-setting : goal.invariant-loop-setting
invariant-loop-setting l = literal_set (drop l.setting-index l.settings) l.param ≡ literal_set l.settings l.param
