use Rattle.std.proofs.Common.{◌≡◌, drop}
use Rattle.unit_check.specs.Questions.{asked_of}
use Rattle.unit_check.specs.Walks.{units_walk}
use Rattle.unit_check.proofs.walk.past_units.Given as goal

abbrev pub invariant-loop-place : goal.invariant-loop-place
invariant-loop-place l =
    units_walk (asked_of l.walker.question l.walker.tables.now) 0 l.walker.tables.now.units l.number
    ≡ units_walk (asked_of l.walker.question l.walker.tables.now) l.place (drop l.place l.walker.tables.now.units) l.next
