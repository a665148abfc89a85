use Rattle.std.proofs.Common.{◌≡◌, ◌++◌, drop}
use Rattle.std.specs.List.{filter_map}
use Rattle.nest_names.specs.Flattening.{group_place}
use Rattle.sub_flat.proofs.cycles.inner_places.Given as goal

abbrev pub invariant-loop-instance : goal.invariant-loop-instance
invariant-loop-instance l =
    l.inner.items ++ filter_map (λ instance. group_place l.names instance.unit) (drop l.instance-index l.instance-items)
    ≡ filter_map (λ instance. group_place l.names instance.unit) l.instance-items
