use Rattle.std.proofs.Common.{◌≡◌, map, take}
use Rattle.link_core.proofs.RoomLaws.{words_in}
use Rattle.link_core.proofs.opening.states_of.Given as goal

abbrev pub invariant-loop-instance : goal.invariant-loop-instance
invariant-loop-instance l = map words_in l.states.items ≡ take l.instance l.units.states
