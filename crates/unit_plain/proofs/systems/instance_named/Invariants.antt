use Rattle.std.proofs.Common.{◌≡◌, drop}
use Rattle.std.specs.List.{find}
use Rattle.std.specs.Str.{bytes_eq}
use Rattle.unit_plain.proofs.systems.instance_named.Given as goal

abbrev pub invariant-loop-instance : goal.invariant-loop-instance
invariant-loop-instance l =
    find (λ instance. bytes_eq instance.name l.name) l.instances ≡ find (λ instance. bytes_eq instance.name l.name) (drop l.instance-index l.instances)
