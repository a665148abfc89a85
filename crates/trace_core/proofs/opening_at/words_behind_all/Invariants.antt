use Rattle.std.proofs.Common.{◌≡◌, drop}
use Rattle.std.specs.List.{flat_map}
use Rattle.trace_core.specs.StateWords.{instance_states, system_states, words_behind}
use Rattle.trace_core.proofs.opening_at.words_behind_all.Given as goal

abbrev pub invariant-loop-instance : goal.invariant-loop-instance
invariant-loop-instance l =
    words_behind (flat_map (instance_states l.system) (drop l.instance-index l.system.instances)) l.rest
    ≡ words_behind (system_states l.system) l.words
