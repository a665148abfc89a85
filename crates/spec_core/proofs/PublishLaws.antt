-- The lane of an instance is published.
use Rattle.std.proofs.Common.{◌≡◌, ◌∙◌, ℕ, true, false, ℤ, List, set, length, Some, Result, Ok, Err, refl, sym, ap, subst, inl, inr}
use Rattle.std.proofs.lemmas.Option.{same_Some}
use Rattle.std.specs.Prelude.{IfErr, IfOk, OnErr, OnOk, slice_get}
use Rattle.std.specs.Result.{IsErr}
use Rattle.code_units.specs.Calls.{HasWordsFor}
use Rattle.guess_board.specs.Events.{is_full, published}
use Rattle.guess_board.specs.Guesses.{Seen, guessed_line}
use Rattle.guess_board.specs.Lanes.{IsLane, LaneState}
use Rattle.guess_board.specs.declared.fault.LaneFault.{LaneFault}
use Rattle.guess_board.specs.declared.fault.LaneFault.TheVariants as fault
use Rattle.lane_outlook.specs.Outlooks.{IsSeenAt}
use Rattle.spec_core.specs.Events.{Happens, with_lane}
use Rattle.spec_core.specs.Keeping.{IsReplyToPublish}
use Rattle.spec_core.specs.Worlds.{IsWorld, WorldState}
use Rattle.spec_core.specs.declared.event.Event.TheVariants as event
use Rattle.spec_core.specs.declared.event.Reply.{Reply}
use Rattle.spec_core.specs.declared.event.Reply.TheVariants as reply
use Rattle.list_laws.proofs.Members.{set_same}
use Rattle.spec_core.proofs.WorldLaws.{keeps_lane}
use Rattle.trace_core.specs.Runs.{is_ended}
use Rattle.trace_core.proofs.MeaningLaws.{inputs_long_at, state_long}
use Rattle.trace_core.proofs.WantLaws.{words_fit}

module _ (world : WorldState) (is : IsWorld world) (instance : ℕ) (lane : LaneState) (at_lane : slice_get world.lanes instance ≡ Some lane)
    (state : List ℤ) (is_state : slice_get world.run.stand.at.states instance ≡ Some state) (seen : Seen) (is_seen : IsSeenAt world.run instance seen) where
  pub words : HasWordsFor lane.image.program state seen.last
  words =
      words_fit is_seen.member.component lane.image state seen.last ((is.lanes instance lane at_lane).image is_seen.member is_seen.is_there)
      (state_long world.run.plan.run world.run.stand.at instance is_seen.member state is.stands.words is_seen.is_there is_state)
      (inputs_long_at world.run.plan.run world.run.stand.ports instance is_seen.member seen.last is.stands.members is_seen.is_there is_seen.last)

  module _ (new : LaneState) (told : Result ℕ LaneFault)
      (made : OnOk told (new ≡ published lane seen.row state (guessed_line world.policy seen world.window))) (left : OnErr told (new ≡ lane)) where
    same_world : new ≡ lane → with_lane world instance new ≡ world
    same_world same = ap (λ lanes. record world { lanes = lanes }) (ap (set world.lanes instance) same ∙ set_same world.lanes instance lane at_lane)

    keeps_by : (given : Result ℕ LaneFault) → OnOk given (new ≡ published lane seen.row state (guessed_line world.policy seen world.window))
        → OnErr given (new ≡ lane) → IsLane new → IsWorld (with_lane world instance new)
    keeps_by (Ok kept) now same is_lane =
        keeps_lane world is instance lane new at_lane is_lane (ap (λ (l : LaneState). l.instance) now) (ap (λ (l : LaneState). l.image) now)
        (ap (λ (l : LaneState). l.journal.outstanding) now)
    keeps_by (Err why) now same is_lane = subst IsWorld (sym (same_world same)) is

    pub publish_keeps_world : IsLane new → IsWorld (with_lane world instance new)
    publish_keeps_world is_lane = keeps_by told made left is_lane

    image_by : (given : Result ℕ LaneFault) → OnOk given (new ≡ published lane seen.row state (guessed_line world.policy seen world.window))
        → OnErr given (new ≡ lane) → new.image ≡ lane.image
    image_by (Ok kept) now same = ap (λ (l : LaneState). l.image) now
    image_by (Err why) now same = ap (λ (l : LaneState). l.image) same

    pub publish_image : new.image ≡ lane.image
    publish_image = image_by told made left

    none_of_error : {E : Type 0} (P : Reply → Type 0) (r : Result Reply E) → IsErr r → IfOk r P
    none_of_error P (Ok x) is = absurd (cc)
    none_of_error P (Err e) is = tt

    happens_by : {E : Type 0} (given : Result ℕ LaneFault) (r : Result Reply E)
        → OnOk given (new ≡ published lane seen.row state (guessed_line world.policy seen world.window)) → OnErr given (new ≡ lane)
        → IfOk given (λ kept. kept ≡ length new.answers) → OnOk given (is_full lane ≡ false) → IfErr given (λ why. why ≡ fault.Full → is_full lane ≡ true)
        → is_ended world.run.phase ≡ false → IsReplyToPublish given r
        → IfOk r (λ answer. Happens world (event.Publish instance) answer (with_lane world instance new))
    happens_by (Ok kept) r now same count room full going answered =
        subst (λ given. IfOk given (λ answer. Happens world (event.Publish instance) answer (with_lane world instance new))) (sym answered)
        (inl (record {
          going = going;
          lane = lane;
          is_lane = at_lane;
          room = room;
          state = state;
          is_state = is_state;
          seen = seen;
          is_seen = is_seen;
          is = ap (with_lane world instance) now;
          replied = ap reply.Published (count ∙ ap (λ (l : LaneState). length l.answers) now);
        }))
    happens_by (Err fault.Full) r now same count room full going answered =
        subst (λ given. IfOk given (λ answer. Happens world (event.Publish instance) answer (with_lane world instance new))) (sym answered)
        (inr (record {
          refused = inr (λ other there. ap is_full (same_Some other lane (sym there ∙ at_lane)) ∙ full refl);
          is = same_world same;
          replied = refl;
        }))
    happens_by (Err fault.NoMemory) r now same count room full going answered =
        none_of_error (λ answer. Happens world (event.Publish instance) answer (with_lane world instance new)) r answered

    pub publish_happens : {E : Type 0} (r : Result Reply E) → IfOk told (λ kept. kept ≡ length new.answers) → OnOk told (is_full lane ≡ false)
        → IfErr told (λ why. why ≡ fault.Full → is_full lane ≡ true) → is_ended world.run.phase ≡ false → IsReplyToPublish told r
        → IfOk r (λ answer. Happens world (event.Publish instance) answer (with_lane world instance new))
    publish_happens r count room full going answered = happens_by told r made left count room full going answered

    kept_by : {E : Type 0} (given : Result ℕ LaneFault) (r : Result Reply E) → OnErr given (new ≡ lane) → IsReplyToPublish given r
        → OnErr r (with_lane world instance new ≡ world)
    kept_by (Ok kept) r same answered = subst (λ given. OnErr given (with_lane world instance new ≡ world)) (sym answered) tt
    kept_by (Err fault.Full) r same answered = subst (λ given. OnErr given (with_lane world instance new ≡ world)) (sym answered) tt
    kept_by (Err fault.NoMemory) (Ok x) same answered = tt
    kept_by (Err fault.NoMemory) (Err e) same answered = same_world same

    pub publish_kept : {E : Type 0} (r : Result Reply E) → IsReplyToPublish told r → OnErr r (with_lane world instance new ≡ world)
    publish_kept r answered = kept_by told r left answered
