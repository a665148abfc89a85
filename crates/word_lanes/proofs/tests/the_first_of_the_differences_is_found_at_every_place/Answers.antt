use Rattle.std.proofs.Common.{refl, length-set}
use Rattle.std.proofs.lemmas.List.{length-take}
use Rattle.word_lanes.proofs.tests.the_first_of_the_differences_is_found_at_every_place.Goals as goal

pub first_mismatch-requires-in-loop-place : goal.first_mismatch-requires-in-loop-place
first_mismatch-requires-in-loop-place g c = record { same_length = simp (length-take, length-set) refl }

pub first_mismatch-requires-in-loop-place-2 : goal.first_mismatch-requires-in-loop-place-2
first_mismatch-requires-in-loop-place-2 g c = record { same_length = simp (length-take, length-set) refl }
