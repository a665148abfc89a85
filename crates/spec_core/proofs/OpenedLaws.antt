-- An opened world has the invariant of a world.
use Rattle.std.proofs.Common.{◌≡◌, ◌∙◌, ℕ, zero, suc, ◌*◌, ◌/◌, ◌≤◌, List, [], length, replicate, Some, refl, sym, ap, subst, arith}
use Rattle.std.proofs.Math.Nat.{min-le_left}
use Rattle.std.proofs.lemmas.Option.{same_Some}
use Rattle.std.specs.List.{AllByRecursion, sum_by}
use Rattle.std.specs.Prelude.{slice_get}
use Rattle.guess_board.specs.Lanes.{LaneState, TicketState}
use Rattle.spec_core.specs.Keeping.{AreLanes}
use Rattle.spec_core.specs.Worlds.{FitsInstance, IsOpenedWorld, IsWorld, WorldState, counted_in_hands, images_of}
use Rattle.guess_board.specs.declared.guesses.Policy.{Policy}
use Rattle.trace_core.specs.Runs.{RunState, Stands}
use Rattle.trace_plan.specs.Plans.{ForMember, Planned}
use Rattle.unit_exec.specs.Images.{IsImageOf}

nothing_counted : (instance : ℕ) (count : ℕ → ℕ) (workers : ℕ) → counted_in_hands instance count (replicate workers []) ≡ 0
nothing_counted instance count zero = refl
nothing_counted instance count (suc workers) = nothing_counted instance count workers

empty_hand : (workers worker : ℕ) (hand : List TicketState) → slice_get (replicate workers []) worker ≡ Some hand → hand ≡ []
empty_hand zero worker hand is = absurd (cc)
empty_hand (suc workers) zero hand is = sym (same_Some [] hand is)
empty_hand (suc workers) (suc worker) hand is = empty_hand workers worker hand is

pub planned : (plan : Planned) (workers window : ℕ) (policy : Policy) (world : WorldState)
    → IsOpenedWorld plan workers window policy world → world.run.plan ≡ plan
planned plan workers window policy world is = ap (λ (r : RunState). r.plan) is.run.is

pub opened_is_world : (plan : Planned) (workers window : ℕ) (policy : Policy) (world : WorldState) → IsOpenedWorld plan workers window policy world
    → Stands world.run → AreLanes world.lanes → window ≤ 16 → IsWorld world
opened_is_world plan workers window policy world is stands are_lanes within =
    let same = planned plan workers window policy world is in
    record {
      stands = stands;
      window = subst (λ w. w ≤ 16) (sym is.is_window) (omega (arith, min-le_left window (4000000 / (plan.run.row_budget * length plan.run.members)), within));
      each_instance = is.lanes.each_instance ∙ ap (λ (p : Planned). length p.run.members) (sym same);
      lanes = λ instance lane at. record {
        is_lane = are_lanes instance lane at;
        own = ap (λ (l : LaneState). l.instance) (is.lanes.each instance lane at);
        image = subst (λ (p : Planned). ForMember p.run instance (λ member. IsImageOf member.component lane.image))
            (sym same) (is.lanes.images instance lane at);
        out = λ count. ap (λ (l : LaneState). sum_by count l.journal.outstanding) (is.lanes.each instance lane at)
            ∙ sym (ap (counted_in_hands instance count) is.hands ∙ nothing_counted instance count workers);
      };
      tickets = λ worker hand at. subst (AllByRecursion (FitsInstance (images_of world.lanes)))
          (sym (empty_hand workers worker hand (ap (λ hands. slice_get hands worker) (sym is.hands) ∙ at))) tt;
    }
