use Rattle.std.proofs.Common.{◌≡◌, ◌++◌, drop, map}
use Rattle.std.specs.List.{AllByRecursion}
use Rattle.fixed_words.specs.Types.{AreDecimals}
use Rattle.unit_tree.specs.Components.{start_word}
use Rattle.unit_tree.specs.Compositions.{literal_set}
use Rattle.unit_tree.specs.declared.unit.Param.{Param}
use Rattle.trace_plan.proofs.fitting.param_words.Given as goal

abbrev pub invariant-loop-param : goal.invariant-loop-param
invariant-loop-param l =
    (l.words.items ++ map (λ param. start_word param.ty (literal_set l.settings param)) (drop l.param-index l.params)
    ≡ map (λ param. start_word param.ty (literal_set l.settings param)) l.params)
    × AllByRecursion (λ (param : Param). AreDecimals param.ty) (drop l.param-index l.params)
