use Rattle.std.proofs.Common.{◌≡◌, drop, map}
use Rattle.std.specs.List.{position_from}
use Rattle.std.specs.Str.{bytes_eq}
use Rattle.unit_check.proofs.ports.first_setting.Given as goal

abbrev pub invariant-loop-place : goal.invariant-loop-place
invariant-loop-place l =
    position_from (bytes_eq l.name) 0 (map (λ setting. setting.name) l.settings)
    ≡ position_from (bytes_eq l.name) l.place (map (λ setting. setting.name) (drop l.place l.settings))
