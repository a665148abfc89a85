use Rattle.std.proofs.Common.{◌≡◌, ◌+◌, drop}
use Rattle.std.specs.List.{position_or_len}
use Rattle.std.specs.Str.{bytes_eq}
use Rattle.trace_plan.proofs.columns.instance_number.Given as goal

abbrev pub invariant-loop-number : goal.invariant-loop-number
invariant-loop-number l =
    l.number + position_or_len (λ one. bytes_eq one.name l.name) (drop l.number l.instances) ≡ position_or_len (λ one. bytes_eq one.name l.name) l.instances
