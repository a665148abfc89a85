-- There are rounds until the run has ended: each goes along the one trace of the run, or goes to a redo.
use Rattle.std.proofs.Common.{◌≡◌, ◌∙◌, ℕ, suc, ◌*◌, Bool, true, false, List, [], ◌∷◌, ◌++◌, map, length, refl, sym, ap, subst, arith, inl, inr, ◌⊎◌}
use Rattle.std.specs.List.{AllByRecursion, range_with_len}
use Rattle.list_laws.proofs.Truths.{true_is_false}
use Rattle.run_laws.proofs.RunTraces.{goes_same}
use Rattle.spec_core.specs.Events.{Happens, Settles}
use Rattle.spec_core.specs.Interleavings.{Done}
use Rattle.spec_core.specs.Replays.{AreRounds, IsRound, drawn_events}
use Rattle.spec_core.specs.Worlds.{WorldState}
use Rattle.spec_core.specs.declared.event.Event.TheVariants as event
use Rattle.spec_core.specs.declared.event.Reply.{Reply}
use Rattle.spec_core.proofs.ActLaws.{all_full}
use Rattle.trace_core.proofs.Settles.{settled_plan}
use Rattle.spec_core.proofs.GoingLaws.{IsBeside, drawn_beside, keeps_reply, publishes_beside}
use Rattle.spec_core.proofs.ReplyLaws.{CanReply, cells_few, has_reply}
use Rattle.spec_core.proofs.RoundLaws.{all_keep, served_keep}
use Rattle.spec_core.proofs.ServedThere.{AreDone, AreServedTo, IsStill, all_done, beside_all, serve_all}
use Rattle.trace_core.specs.Runs.{AreCellsFull, RunState, is_ended}
use Rattle.trace_core.specs.Settling.{Settled}
use Rattle.trace_core.specs.declared.phase.Phase.{Phase}
use Rattle.trace_core.specs.declared.phase.Phase.TheVariants.{Trial, Redo}
use Rattle.trace_core.specs.declared.phase.Settle.{Settle}
use Rattle.trace_core.specs.declared.phase.Settle.TheVariants as settle
use Rattle.trace_plan.specs.Plans.{Planned}
use Rattle.unit_tree.specs.Compositions.{Composition}
use Rattle.unit_tree.specs.Successor.{agreed, ends, goes}
use Rattle.unit_tree.specs.Trace.{Follows, Goes, Stand}
use Rattle.unit_tree.specs.declared.ending.Ending.{Ending}

-- ---- A round

-- From the trial at a stand a run came to the redo there.
pub record IsAnew (stand : Stand) (phase : Phase) (new : RunState) : Type 0 where
  pub tried : ℕ
  pub trial : phase ≡ Trial tried
  pub shorter : ℕ
  pub redo : new.phase ≡ Redo shorter
  pub stays : new.stand ≡ stand

-- From a stand and a phase the run came to the redo there, to the next stand, or to its end.
abbrev pub IsCourse : Composition → Stand → Phase → RunState → Type 0
IsCourse run stand phase new = IsAnew stand phase new ⊎ (Goes run stand new.stand ⊎ (is_ended new.phase ≡ true))

settled_course : (old new : RunState) (to : Settle) → Settled old new to → IsCourse old.plan.run old.stand old.phase new
settled_course old new settle.Redo (due, is) = inl (record {
  tried = due.h;
  trial = due.trial;
  shorter = agreed old.plan.run old.stand.at old.stand.ports;
  redo = ap (λ (r : RunState). r.phase) is;
  stays = ap (λ (r : RunState). r.stand) is;
})
settled_course old new settle.Row (moves, known) = inr (inl moves.goes)
settled_course old new settle.Ended (inl (moves, unknown)) = inr (inl moves.goes)
settled_course old new settle.Ended (inr ended) = inr (inr (ap (λ (r : RunState). is_ended r.phase) ended.is))

-- There is a round from a world, with its result.
pub record HasRound (seed workers number : ℕ) (from : WorldState) : Type 0 where
  pub past : List Done
  pub to : WorldState
  pub is_round : IsRound seed workers number from past to
  pub can : CanReply to
  pub plan : to.run.plan ≡ from.run.plan
  pub course : IsCourse from.run.plan.run from.run.stand from.run.phase to.run

-- A settle of a run that goes on with full cells isn't refused.
settles_there : (world to : WorldState) (told : Reply) → is_ended world.run.phase ≡ false → AreCellsFull world.run.cells → Happens world event.Settle told to
    → Settles world told to
settles_there world to told going full (inl does) = does
settles_there world to told going full (inr refused) = by refused.refused
  where
    by : (is_ended world.run.phase ≡ true) ⊎ (AreCellsFull world.run.cells → ⊥) → Settles world told to
    by (inl ended) = true_is_false (is_ended world.run.phase) ended going
    by (inr not_full) = absurd (not_full full)

-- The course of a run that is still at its stand.
from_still : (old mid new : RunState) → IsStill old mid → IsCourse mid.plan.run mid.stand mid.phase new → IsCourse old.plan.run old.stand old.phase new
from_still old mid new still course =
    subst (λ phase. IsCourse old.plan.run old.stand phase new) still.phase
    (subst (λ stand. IsCourse old.plan.run stand mid.phase new) still.stand
    (subst (λ (plan : Planned). IsCourse plan.run mid.stand mid.phase new) still.plan course))

-- A round up to its settle: all cells are full.
record IsFilledUp (seed workers number : ℕ) (from : WorldState) : Type 0 where
  pub published : AreDone from (map event.Publish (range_with_len 0 (length from.lanes)))
  pub drawn : AreDone published.to (drawn_events seed (2 * workers * number) workers (length from.lanes))
  pub served : AreServedTo drawn.to 0 (length from.lanes)
  pub can : CanReply served.to
  pub still : IsStill from.run served.to.run
  pub full : AreCellsFull served.to.run.cells

module _ (seed workers : ℕ) where
  fill_up : (number : ℕ) (from : WorldState) → CanReply from → IsFilledUp seed workers number from
  fill_up number from can =
      let count = length from.lanes in
      let published = all_done from (map event.Publish (range_with_len 0 count)) can in
      let lined = all_keep from published.past published.to can published.leads in
      let drawn = all_done published.to (drawn_events seed (2 * workers * number) workers count) lined in
      let worked = all_keep published.to drawn.past drawn.to lined drawn.leads in
      let served = serve_all drawn.to 0 count worked in
      let filled_world = served_keep drawn.to 0 count served.past served.to worked served.served in
      let same_run : drawn.to.run ≡ from.run =
      beside_all published.to drawn.past drawn.to
      (subst (AllByRecursion IsBeside) (sym drawn.are) (drawn_beside seed (2 * workers * number) workers count)) drawn.leads
      ∙ beside_all from published.past published.to (subst (AllByRecursion IsBeside) (sym published.are) (publishes_beside (range_with_len 0 count)))
      published.leads in
      let still : IsStill from.run served.to.run = subst (λ r. IsStill r served.to.run) same_run served.still in
      let few = cells_few served.to.run.plan.run served.to.run.stand.at.point.t served.to.run.phase served.to.run.cells filled_world.can_go_on.cells_fit in
      let members = ap (λ (plan : Planned). length plan.run.members) still.plan in
      let each = can.each_instance in
      record {
        published = published;
        drawn = drawn;
        served = served;
        can = filled_world;
        still = still;
        full = all_full served.to.run count (λ instance within wanted. served.done_with instance wanted (omega arith) (omega (arith, within)))
            (omega (arith, few, members, each));
      }

  pub has_round : (number : ℕ) (from : WorldState) → CanReply from → is_ended from.run.phase ≡ false → HasRound seed workers number from
  has_round number from can going =
      let up = fill_up number from can in
      let filled_world = up.served.to in
      let last = has_reply filled_world up.can event.Settle in
      let settles = settles_there filled_world last.1 last.0 (ap is_ended up.still.phase ∙ going) up.full last.2 in
      let settle : Done = record { before = filled_world; event = event.Settle; reply = last.0; after = last.1 } in
      record {
        past = up.published.past ++ (up.drawn.past ++ (up.served.past ++ settle ∷ []));
        to = last.1;
        is_round = record {
          published = up.published.past;
          lined = up.published.to;
          publishes = up.published.are;
          leads_lined = up.published.leads;
          drawn = up.drawn.past;
          worked = up.drawn.to;
          draws = up.drawn.are;
          leads_worked = up.drawn.leads;
          served = up.served.past;
          filled = filled_world;
          serves = up.served.served;
          settle = settle;
          settles = refl;
          leads_settled = (refl, last.2, refl);
          is = refl;
        };
        can = keeps_reply filled_world last.1 event.Settle last.0 up.can last.2;
        plan = settled_plan filled_world.run last.1.run settles.to settles.settled ∙ up.still.plan;
        course = from_still from.run filled_world.run last.1.run up.still (settled_course filled_world.run last.1.run settles.to settles.settled);
      }

  -- ---- All rounds

  -- There are rounds from a world until its run has ended.
  abbrev pub HaveRounds : ℕ → WorldState → Type 0
  HaveRounds number from = (rounds : List (List Done)) × (to : WorldState) × AreRounds seed workers number from rounds to

  none_more : (number : ℕ) (from : WorldState) → is_ended from.run.phase ≡ true → HaveRounds number from
  none_more number from ended = ([], from, (ended, refl))

  one_more : (number : ℕ) (from : WorldState) (round : HasRound seed workers number from) → is_ended from.run.phase ≡ false
      → HaveRounds (suc number) round.to → HaveRounds number from
  one_more number from round going later = (round.past ∷ later.0, later.1, (going, round.to, round.is_round, later.2))

  module _ (run : Composition) where
    -- There are rounds from wherever a run of the composition goes from a stand.
    abbrev GoOnFrom : Stand → Type 0
    GoOnFrom stand = (next : WorldState) (number : ℕ) → CanReply next → next.run.plan.run ≡ run → Goes run stand next.run.stand → HaveRounds number next

    go_from : (stand : Stand) (here : WorldState) (number : ℕ) → GoOnFrom stand → CanReply here → here.run.plan.run ≡ run
        → Goes here.run.plan.run stand here.run.stand → HaveRounds number here
    go_from stand here number later can same on =
        later here number can same (subst (λ one. Goes one stand here.run.stand) same on)

    -- After a redo comes the next stand, or the end.
    behind_redo : (stand : Stand) (here : WorldState) (number k : ℕ) → GoOnFrom stand → CanReply here → here.run.plan.run ≡ run
        → here.run.phase ≡ Redo k → here.run.stand ≡ stand → HaveRounds number here
    behind_redo stand here number k later can same redo at =
        let going : is_ended here.run.phase ≡ false = ap is_ended redo in
        let round = has_round number here can going in
        one_more number here round going (by round round.course)
      where
        apart : (h : ℕ) → Redo k ≡ Trial h → ⊥
        apart h is = cc

        by : (round : HasRound seed workers number here) → IsCourse here.run.plan.run here.run.stand here.run.phase round.to.run
            → HaveRounds (suc number) round.to
        by round (inl anew) = absurd (apart anew.tried (sym redo ∙ anew.trial))
        by round (inr (inl on)) =
            go_from stand round.to (suc number) later round.can (ap (λ (plan : Planned). plan.run) round.plan ∙ same)
            (subst (λ (plan : Planned). Goes plan.run stand round.to.run.stand) (sym round.plan)
            (subst (λ s. Goes here.run.plan.run s round.to.run.stand) at on))
        by round (inr (inr ended)) = none_more (suc number) round.to ended

    -- From a stand.
    from_here : (here : WorldState) (number : ℕ) (ended : Bool) → is_ended here.run.phase ≡ ended → GoOnFrom here.run.stand → CanReply here
        → here.run.plan.run ≡ run → HaveRounds number here
    from_here here number true ended later can same = none_more number here ended
    from_here here number false going later can same =
        let round = has_round number here can going in
        one_more number here round going (by round round.course)
      where
        by : (round : HasRound seed workers number here) → IsCourse here.run.plan.run here.run.stand here.run.phase round.to.run
            → HaveRounds (suc number) round.to
        by round (inl anew) =
            behind_redo here.run.stand round.to (suc number) anew.shorter later round.can (ap (λ (plan : Planned). plan.run) round.plan ∙ same) anew.redo
            anew.stays
        by round (inr (inl on)) =
            go_from here.run.stand round.to (suc number) later round.can (ap (λ (plan : Planned). plan.run) round.plan ∙ same)
            (subst (λ (plan : Planned). Goes plan.run here.run.stand round.to.run.stand) (sym round.plan) on)
        by round (inr (inr ended)) = none_more (suc number) round.to ended

    -- Along the stands that follow.
    pub along : (stands : List Stand) (ending : Ending) (here : WorldState) (number : ℕ) → CanReply here → here.run.plan.run ≡ run
        → Follows run here.run.stand stands ending → HaveRounds number here
    along [] ending here number can same follows =
        from_here here number (is_ended here.run.phase) refl (λ next later can_next same_next on. absurd (apart next.run.stand (sym follows ∙ on.0))) can same
      where
        apart : (stand : Stand) → ends ending ≡ goes stand.at → ⊥
        apart stand is = cc
    along (stand ∷ others) ending here number can same follows =
        from_here here number (is_ended here.run.phase) refl
        (λ next later can_next same_next on.
        along others ending next later can_next same_next
        (subst (λ s. Follows run s others ending) (next_is here can same stand next.run.stand follows.0 on) follows.1)) can same
      where
        next_is : (here : WorldState) → CanReply here → here.run.plan.run ≡ run → (one other : Stand) → Goes run here.run.stand one
            → Goes run here.run.stand other → one ≡ other
        next_is here can same one other to_one to_other =
            let is = can.can_go_on.is_ordered in
            goes_same here.run.plan.run is.order is.members is.ordered here.run.stand one other is.words
            (subst (λ r. Goes r here.run.stand one) (sym same) to_one) (subst (λ r. Goes r here.run.stand other) (sym same) to_other)
