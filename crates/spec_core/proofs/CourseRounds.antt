-- Rounds, and where they lead a run.
use Rattle.std.proofs.Common.{◌≡◌, ◌∙◌, ℕ, ◌+◌, ◌*◌, ◌≤◌, Bool, true, false, List, [], ◌∷◌, ◌++◌, length, refl, sym, ap, subst, arith, append-nil}
use Rattle.std.proofs.Common.{add-one, add-zero, append_assoc, length-append}
use Rattle.std.proofs.lemmas.Grind.{flat_map-append}
use Rattle.std.specs.List.{flat_map, list_all}
use Rattle.spec_core.specs.Interleavings.{Done}
use Rattle.spec_core.specs.Replays.{AreRounds, IsRound}
use Rattle.spec_core.specs.Rounds.{Advances, AreFew, AreServedAll, DoesAll, GoesRounds, MakesRound, before_draw, drawn_from, publishes, with_replies}
use Rattle.spec_core.specs.Worlds.{IsWorld, WorldState}
use Rattle.spec_core.specs.declared.event.Event.TheVariants as event
use Rattle.spec_core.specs.declared.event.Reply.TheVariants as reply
use Rattle.spec_core.specs.declared.replies.Replies.{Replies}
use Rattle.spec_core.specs.declared.rounds.ReplayState.{ReplayState}
use Rattle.trace_rows.proofs.Filling.{few_cells}
use Rattle.spec_core.proofs.DoneLaws.{counted_more, done, draws_on, drawn_are, length-drawn_from, length-publishes, replies_append}
use Rattle.spec_core.proofs.FillingLaws.{all_leave, drawn_leave, leaves_run, publishes_leave, served_there}
use Rattle.spec_core.proofs.ServeLaws.{settled_so}
use Rattle.trace_core.specs.Runs.{RunState, is_ended}
use Rattle.trace_core.specs.Settling.{Settled}
use Rattle.trace_core.specs.declared.phase.Phase.TheVariants.{Ended}
use Rattle.trace_core.specs.declared.phase.Settle.{Settle}
use Rattle.trace_core.specs.declared.phase.Settle.TheVariants as settle
use Rattle.trace_rows.specs.Passing.{AreStepsThere, IsFresh, WentOn}
use Rattle.trace_rows.proofs.FreshRuns.{trial_going}
use Rattle.trace_rows.proofs.PhaseLaws.{IsRedone, ToEnd, ToRow, ends_already, no_row, settled_redo, settled_trial}
use Rattle.unit_tree.specs.declared.ending.Ending.{Ending}

-- ---- Before a run settles

-- There are at most 64 instances.
pub few_lanes : (world : WorldState) → IsWorld world → length world.lanes ≤ 64
few_lanes world is = subst (λ n. n ≤ 64) (sym is.each_instance) is.stands.bounded.members

module _ (instances workers x : ℕ) (from lined worked filled : WorldState) (told told_lined told_worked told_filled : Replies) where
  pub parts_there : IsWorld from → instances ≡ length from.lanes → DoesAll (publishes instances) from told lined told_lined
      → DoesAll (drawn_from x workers instances (2 * workers)) lined told_lined worked told_worked → AreServedAll instances worked told_worked filled told_filled
      → AreStepsThere from.run filled.run
  parts_there is all published drawn served =
      let lined_left = all_leave published.past from lined (ap (list_all leaves_run) published.events_are ∙ publishes_leave instances) published.leads in
      let worked_left = all_leave drawn.past lined worked
      (ap (list_all leaves_run) drawn.events_are ∙ drawn_leave x workers instances (2 * workers)) drawn.leads in
      let left : worked.run ≡ from.run = worked_left.run ∙ lined_left.run in
      let cells = few_cells from.run is.stands in
      let each = is.each_instance in
      let few : length from.run.cells ≤ instances = omega (arith, cells, each, all) in
      subst (λ (run : RunState). AreStepsThere run filled.run) left
      (served_there instances worked served.past filled (subst (λ (run : RunState). length run.cells ≤ instances) (sym left) few) served.serves)

pub lined_most : {from to : WorldState} {told now : Replies} (instances : ℕ) → DoesAll (publishes instances) from told to now
    → now.events ≡ told.events + instances
lined_most {told = told} instances did = did.number ∙ ap (λ n. told.events + n) (length-publishes instances)

pub worked_most : {from to : WorldState} {told now : Replies} (x workers instances count : ℕ) → DoesAll (drawn_from x workers instances count) from told to now
    → now.events ≡ told.events + count
worked_most {told = told} x workers instances count did = did.number ∙ ap (λ n. told.events + n) (length-drawn_from x workers instances count)

-- ---- A round

times_more : (a b : ℕ) → a * b + a ≡ a * (b + 1)
times_more a b = omega arith

module _ (workers : ℕ) (old new : ReplayState) (to : Settle) (made : MakesRound workers old to new) where
  abbrev settle_done : Done
  settle_done = done made.filled event.Settle (reply.Settled to) new.world

  abbrev pub past_of : List Done
  past_of = made.published.past ++ (made.drawn.past ++ (made.served.past ++ settle_done ∷ []))

  pub is_round : (seed number : ℕ) → old.draw ≡ before_draw seed (2 * workers * number) → IsRound seed workers number old.world past_of new.world
  is_round seed number begins = record {
    published = made.published.past;
    lined = made.lined;
    publishes = made.published.events_are;
    leads_lined = made.published.leads;
    drawn = made.drawn.past;
    worked = made.worked;
    draws = made.drawn.events_are ∙ drawn_are seed (2 * workers * number) old.draw workers (length old.world.lanes) (2 * workers) begins;
    leads_worked = made.drawn.leads;
    served = made.served.past;
    filled = made.filled;
    serves = made.served.serves;
    settle = settle_done;
    settles = refl;
    leads_settled = (refl, made.settles, refl);
    is = refl;
  }

  pub round_counted : new.replies ≡ with_replies old.replies past_of
  round_counted =
      counted_more made.told_worked made.told_filled new.replies made.served.past settle_done made.served.counted made.counted
      ∙ ap (λ counts. with_replies counts (made.served.past ++ settle_done ∷ [])) made.drawn.counted
      ∙ sym (replies_append made.told_lined made.drawn.past (made.served.past ++ settle_done ∷ []))
      ∙ ap (λ counts. with_replies counts (made.drawn.past ++ (made.served.past ++ settle_done ∷ []))) made.published.counted
      ∙ sym (replies_append old.replies made.published.past (made.drawn.past ++ (made.served.past ++ settle_done ∷ [])))

  pub round_most : workers ≤ 16 → IsWorld old.world → new.replies.events ≤ old.replies.events + 225
  round_most few_workers is =
      let few = few_lanes old.world is in
      let lined = lined_most (length old.world.lanes) made.published in
      let worked = worked_most old.draw workers (length old.world.lanes) (2 * workers) made.drawn in
      let served = made.served.most in
      let settled = ap (λ (counts : Replies). counts.events) made.counted in
      omega (arith, lined, worked, served, settled, few_workers, few)

  pub round_settled : Settled made.filled.run new.world.run to
  round_settled = settled_so made.filled new.world to made.settles

  pub round_draws : (seed number : ℕ) → old.draw ≡ before_draw seed (2 * workers * number) → new.draw ≡ before_draw seed (2 * workers * (number + 1))
  round_draws seed number begins =
      made.draw ∙ draws_on seed (2 * workers * number) old.draw (2 * workers) begins ∙ ap (before_draw seed) (times_more (2 * workers) number)

  pub round_there : IsWorld old.world → AreStepsThere old.world.run made.filled.run
  round_there is =
      parts_there (length old.world.lanes) workers old.draw old.world made.lined made.worked made.filled old.replies made.told_lined made.told_worked
      made.told_filled is refl made.published made.drawn made.served

-- ---- Rounds one after the other

pub no_round : (workers : ℕ) (course : ReplayState) → GoesRounds workers course course
no_round workers course = record {
  rounds = [];
  counted = refl;
  draws = λ seed number begins. subst (λ count. course.draw ≡ before_draw seed (2 * workers * count)) (sym (add-zero number)) begins;
  follow = λ seed number begins rest to follow.
      subst (λ count. AreRounds seed workers count course.world rest to) (add-zero number) follow;
}

pub one_round : (workers : ℕ) (old new : ReplayState) (to : Settle) → MakesRound workers old to new → is_ended old.world.run.phase ≡ false
    → GoesRounds workers old new
one_round workers old new to made going = record {
  rounds = past_of workers old new to made ∷ [];
  counted = round_counted workers old new to made ∙ ap (with_replies old.replies) (sym (append-nil (past_of workers old new to made)));
  draws = round_draws workers old new to made;
  follow = λ seed number begins rest end follow. (
    going,
    new.world,
    is_round workers old new to made seed number begins,
    subst (λ count. AreRounds seed workers count new.world rest end) (add-one number) follow,
  );
}

pub both_rounds : (workers : ℕ) (old mid new : ReplayState) → GoesRounds workers old mid → GoesRounds workers mid new → GoesRounds workers old new
both_rounds workers old mid new one other = record {
  rounds = one.rounds ++ other.rounds;
  counted = other.counted ∙ ap (λ counts. with_replies counts (flat_map (λ round. round) other.rounds)) one.counted
      ∙ sym (replies_append old.replies (flat_map (λ round. round) one.rounds) (flat_map (λ round. round) other.rounds))
      ∙ ap (with_replies old.replies) (sym (flat_map-append (λ round. round) one.rounds other.rounds));
  draws = λ seed number begins.
      subst (λ count. new.draw ≡ before_draw seed (2 * workers * count)) (all number)
      (other.draws seed (number + length one.rounds) (one.draws seed number begins));
  follow = λ seed number begins rest to follow.
      subst (λ rounds. AreRounds seed workers number old.world rounds to) (sym (append_assoc one.rounds other.rounds rest))
      (one.follow seed number begins (other.rounds ++ rest) to
      (other.follow seed (number + length one.rounds) (one.draws seed number begins) rest to
      (subst (λ count. AreRounds seed workers count new.world rest to) (sym (all number)) follow)));
}
  where
    all : (number : ℕ) → number + length one.rounds + length other.rounds ≡ number + length (one.rounds ++ other.rounds)
    all number = let long = length-append one.rounds other.rounds in omega (arith, long)

-- ---- From row to row

-- Nothing is done where the run has ended.
pub ended_already : (workers : ℕ) (course : ReplayState) (ending : Ending) → IsWorld course.world → IsFresh course.world.run → AreFew course.replies
    → course.world.run.phase ≡ Ended ending → Advances workers course course false
ended_already workers course ending is fresh few phase = record {
  went = ends_already course.world.run ending fresh is.stands phase;
  rounds = no_round workers course;
  few = few;
  most = omega arith;
}

module _ (workers : ℕ) (old : ReplayState) (few_workers : workers ≤ 16) (is : IsWorld old.world) (fresh : IsFresh old.world.run)
    (not : (ending : Ending) → old.world.run.phase ≡ Ended ending → ⊥) where
  pub begins_going : is_ended old.world.run.phase ≡ false
  begins_going = trial_going old.world.run fresh not

  to_row : (to : Settle) (new : ReplayState) → MakesRound workers old to new → ToRow old.world.run new.world.run to
  to_row to new made =
      settled_trial old.world.run is.stands made.filled.run new.world.run to fresh not (round_there workers old new to made is)
      (round_settled workers old new to made)

  -- One round leads to the next row, or to the end.
  by_one : (to : Settle) (came : Bool) (new : ReplayState) → MakesRound workers old to new → WentOn old.world.run new.world.run came → Advances workers old new came
  by_one to came new made went = record {
    went = went;
    rounds = one_round workers old new to made begins_going;
    few = made.few;
    most = let most = round_most workers old new to made few_workers is in omega (arith, most);
  }

  pub one_to_row : (to : Settle) (new : ReplayState) → to ≡ settle.Row → MakesRound workers old to new → Advances workers old new true
  one_to_row to new row made = by_one to true new made (subst (ToRow old.world.run new.world.run) row (to_row to new made))

  pub one_to_end : (to : Settle) (new : ReplayState) → to ≡ settle.Ended → MakesRound workers old to new → Advances workers old new false
  one_to_end to new ended made = by_one to false new made (subst (ToRow old.world.run new.world.run) ended (to_row to new made))

  module _ (mid : ReplayState) (redo : Settle) (is_redo : redo ≡ settle.Redo) (first : MakesRound workers old redo mid) (mid_is : IsWorld mid.world) where
    redone : IsRedone old.world.run mid.world.run
    redone = subst (ToRow old.world.run mid.world.run) is_redo (to_row redo mid first)

    pub goes_anew : is_ended mid.world.run.phase ≡ false
    goes_anew = ap (λ (r : RunState). is_ended r.phase) redone.is

    -- There are as many lanes as before.
    pub as_many : length old.world.lanes ≡ length mid.world.lanes
    as_many = is.each_instance ∙ ap (λ (r : RunState). length r.plan.run.members) (sym redone.is) ∙ sym mid_is.each_instance

    pub first_most : mid.replies.events ≤ old.replies.events + 225
    first_most = round_most workers old mid redo first few_workers is

    to_end : (to : Settle) (new : ReplayState) → MakesRound workers mid to new → ToEnd old.world.run new.world.run to
    to_end to new made =
        settled_redo old.world.run is.stands mid.world.run made.filled.run new.world.run to redone (round_there workers mid new to made mid_is)
        (round_settled workers mid new to made)

    -- So do two rounds, where there is a redo.
    by_two : (to : Settle) (came : Bool) (new : ReplayState) → MakesRound workers mid to new → WentOn old.world.run new.world.run came
        → Advances workers old new came
    by_two to came new made went = record {
      went = went;
      rounds = both_rounds workers old mid new (one_round workers old mid redo first begins_going) (one_round workers mid new to made goes_anew);
      few = made.few;
      most =
          let second = round_most workers mid new to made few_workers mid_is in
          let before = first_most in
          omega (arith, second, before);
    }

    pub two_to_row : (to : Settle) (new : ReplayState) → to ≡ settle.Row → MakesRound workers mid to new → Advances workers old new true
    two_to_row to new row made = by_two to true new made (subst (ToEnd old.world.run new.world.run) row (to_end to new made))

    pub two_to_end : (to : Settle) (new : ReplayState) → (to ≡ settle.Row → ⊥) → MakesRound workers mid to new → Advances workers old new false
    two_to_end to new not_row made = by_two to false new made (no_row old.world.run new.world.run to (to_end to new made) not_row)
