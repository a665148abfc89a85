-- What is made once for a world, part by part.
use Rattle.std.proofs.Common.{◌≡◌, ◌∙◌, ℕ, ◌+◌, List, [], ◌∷◌, ◌++◌, length, length-append, Some, refl, sym, ap, subst}
use Rattle.std.proofs.lemmas.List.{map-append, replicate-append-replicate}
use Rattle.std.specs.List.{AllZip}
use Rattle.std.specs.Prelude.{replicate, slice_get, take}
use Rattle.list_laws.proofs.Members.{at_push, take_next}
use Rattle.list_laws.proofs.Pairs.{zip_append}
use Rattle.guess_board.specs.Events.{opened}
use Rattle.guess_board.specs.Lanes.{IsLane, LaneState}
use Rattle.spec_core.specs.Keeping.{AreLanes, Held, IsUnitOf, tickets_of}
use Rattle.spec_core.specs.Worlds.{AreLanesOpened}
use Rattle.trace_plan.specs.Plans.{ForMember}
use Rattle.unit_exec.specs.Images.{Compiled, IsImageOf}
use Rattle.unit_exec.specs.Running.{Running}
use Rattle.unit_tree.specs.Compositions.{Composition}

-- The lanes of the first instances are opened.
pub record AreFirstLanes (run : Composition) (count : ℕ) (lanes : List LaneState) : Type 0 where
  pub long : length lanes ≡ count
  pub each : (instance : ℕ) (lane : LaneState) → slice_get lanes instance ≡ Some lane → lane ≡ opened lane.image instance
  pub images : (instance : ℕ) (lane : LaneState) → slice_get lanes instance ≡ Some lane
      → ForMember run instance (λ member. IsImageOf member.component lane.image)
  pub are_lanes : AreLanes lanes

pub first_none : (run : Composition) (lanes : List LaneState) → lanes ≡ [] → AreFirstLanes run 0 lanes
first_none run lanes none = subst (AreFirstLanes run 0) (sym none) (record {
  long = refl;
  each = λ instance lane is. absurd (cc);
  images = λ instance lane is. absurd (cc);
  are_lanes = λ instance lane is. absurd (cc);
})

pub first_more : (run : Composition) (count : ℕ) (lanes : List LaneState) (image : Compiled) → AreFirstLanes run count lanes
    → ForMember run count (λ member. IsImageOf member.component image) → IsLane (opened image count)
    → AreFirstLanes run (count + 1) (lanes ++ opened image count ∷ [])
first_more run count lanes image had is_image is_lane = record {
  long = length-append lanes (opened image count ∷ []) ∙ ap (λ n. n + 1) had.long;
  each = at_push (λ instance lane. lane ≡ opened lane.image instance) lanes (opened image count) had.each
      (ap (opened image) (sym had.long));
  images = at_push (λ instance (lane : LaneState). ForMember run instance (λ member. IsImageOf member.component lane.image)) lanes (opened image count)
      had.images (subst (λ n. ForMember run n (λ member. IsImageOf member.component image)) (sym had.long) is_image);
  are_lanes = at_push (λ instance lane. IsLane lane) lanes (opened image count) had.are_lanes is_lane;
}

pub all_opened : (run : Composition) (count : ℕ) (lanes : List LaneState) → count ≡ length run.members → AreFirstLanes run count lanes
    → AreLanesOpened run lanes
all_opened run count lanes all had = record { each_instance = had.long ∙ all; each = had.each; images = had.images }

pub unit_more : (lanes : List LaneState) (units : List Running) (place : ℕ) (lane : LaneState) (unit : Running) → slice_get lanes place ≡ Some lane
    → AllZip IsUnitOf (take place lanes) units → unit.image ≡ lane.image → AllZip IsUnitOf (take (place + 1) lanes) (units ++ unit ∷ [])
unit_more lanes units place lane unit at had own = subst (λ firsts. AllZip IsUnitOf firsts (units ++ unit ∷ [])) (sym (take_next lanes place lane at))
    (zip_append IsUnitOf (take place lanes) (lane ∷ []) units (unit ∷ []) had (own, tt))

pub hand_more : (hands : List Held) (count : ℕ) (hand : Held) → tickets_of hands ≡ replicate count [] → hand.items ≡ []
    → tickets_of (hands ++ hand ∷ []) ≡ replicate (count + 1) []
hand_more hands count hand had empty = map-append (λ (one : Held). one.items) hands (hand ∷ []) ∙ ap (λ tickets. tickets ++ hand.items ∷ []) had
    ∙ ap (λ tickets. replicate count [] ++ tickets ∷ []) empty ∙ replicate-append-replicate count 1 []
