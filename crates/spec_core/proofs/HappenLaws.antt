-- An event has only one reply, and leads to only one world.
use Rattle.std.proofs.Common.{◌≡◌, ◌∙◌, ℕ, ◌+◌, ℤ, List, ◌∷◌, ◌++◌, [], length, Some, None, refl, sym, ap, subst, arith, inl, inr, ◌⊎◌}
use Rattle.std.proofs.lemmas.Option.{none-some}
use Rattle.std.specs.Prelude.{slice_get}
use Rattle.spec_core.specs.Outcomes.{IsOrdered}
use Rattle.list_laws.proofs.Options.{some_same}
use Rattle.code_units.specs.UnitPrograms.{program_of}
use Rattle.guess_board.specs.Chains.{code_of}
use Rattle.guess_board.specs.Events.{backed, found, is_full, published, taken, ticket_of}
use Rattle.guess_board.specs.Guesses.{Seen, guessed_line}
use Rattle.guess_board.specs.Lanes.{LaneState, TicketState}
use Rattle.list_laws.proofs.Lists.{same_first, same_rest}
use Rattle.list_laws.proofs.Truths.{true_is_false}
use Rattle.run_laws.proofs.RunTraces.{goes_same}
use Rattle.lane_outlook.specs.Outlooks.{IsSeenAt}
use Rattle.spec_core.specs.Events.{Computes, Does, Finds, GivesBack, Happens, HasFirst, IsRefused, Looks, Misses, Posts, Publishes}
use Rattle.spec_core.specs.Events.{Settles, Steals, Takes, posted_by, with_hand, with_lane, with_run}
use Rattle.spec_core.specs.Worlds.{WorldState}
use Rattle.spec_core.specs.declared.event.Event.{Event}
use Rattle.spec_core.specs.declared.event.Event.TheVariants as event
use Rattle.spec_core.specs.declared.event.Reply.{Reply}
use Rattle.spec_core.specs.declared.event.Reply.TheVariants as reply
use Rattle.super_time.specs.LocalTime.{local_time, local_step}
use Rattle.trace_core.specs.Runs.{ArePortsKnown, IsKeyAt, IsWanted, RunState, arrived, is_ended, step_in, step_length, with_found, with_own}
use Rattle.trace_core.specs.Settling.{Ends, Moves, Settled}
use Rattle.trace_core.specs.declared.phase.Phase.TheVariants.{Ended}
use Rattle.trace_core.specs.declared.phase.Settle.{Settle}
use Rattle.trace_core.specs.declared.phase.Settle.TheVariants as settle
use Rattle.trace_plan.specs.Plans.{highest_words, lowest_words}
use Rattle.unit_answers.specs.Answers.{Answered}
use Rattle.unit_answers.specs.Keys.{StepKey}
use Rattle.unit_exec.specs.Images.{Compiled, start_inputs_of}
use Rattle.unit_tree.specs.Components.{Component, initial}
use Rattle.unit_tree.specs.Compositions.{Member}
use Rattle.unit_tree.specs.Negotiation.{all_inputs}
use Rattle.unit_tree.specs.Successor.{ends, goes}
use Rattle.unit_tree.specs.declared.ending.Ending.{Ending}

-- The reply and the next world are the same.
abbrev pub AreSame : Reply → Reply → WorldState → WorldState → Type 0
AreSame told other new next = (told ≡ other) × (new ≡ next)

-- ---- Publish

seen_once : (r : RunState) (instance : ℕ) (one other : Seen) → IsSeenAt r instance one → IsSeenAt r instance other → one ≡ other
seen_once r instance one other is is_other =
    let member : is.member ≡ is_other.member = some_same (slice_get r.plan.run.members instance) is.member is_other.member is.is_there is_other.is_there in
    let row = is.row ∙ sym is_other.row in
    let time = is.time ∙ sym is_other.time in
    let step = is.step ∙ sym is_other.step in
    let stop = is.stop ∙ sym is_other.stop in
    let factor = is.factor ∙ ap (λ (m : Member). m.factor) member ∙ sym is_other.factor in
    let last = some_same (slice_get (all_inputs r.plan.run r.stand.ports) instance) one.last other.last is.last is_other.last in
    let before = some_same (slice_get r.before instance) one.before other.before is.before is_other.before in
    let low = is.low ∙ ap lowest_words member ∙ sym is_other.low in
    let high = is.high ∙ ap highest_words member ∙ sym is_other.high in
    λ i. record {
      row = row i;
      t = time i;
      step = step i;
      stop = stop i;
      factor = factor i;
      last = last i;
      before = before i;
      low = low i;
      high = high i;
    }

-- The lane after it was published again.
abbrev front_of : WorldState → LaneState → List ℤ → Seen → LaneState
front_of world lane state seen = published lane seen.row state (guessed_line world.policy seen world.window)

publish_once : (world new next : WorldState) (instance : ℕ) (told other : Reply) → Publishes world instance told new → Publishes world instance other next
    → AreSame told other new next
publish_once world new next instance told other one two =
    let lane = some_same (slice_get world.lanes instance) one.lane two.lane one.is_lane two.is_lane in
    let state = some_same (slice_get world.run.stand.at.states instance) one.state two.state one.is_state two.is_state in
    let seen = seen_once world.run instance one.seen two.seen one.is_seen two.is_seen in
    let front : front_of world one.lane one.state one.seen ≡ front_of world two.lane two.state two.seen =
    λ i. front_of world (lane i) (state i) (seen i) in (
      one.replied ∙ ap (λ (made : LaneState). reply.Published (length made.answers)) front ∙ sym two.replied,
      one.is ∙ ap (with_lane world instance) front ∙ sym two.is,
    )

-- ---- Tickets and hands

take_once : (world new next : WorldState) (worker instance : ℕ) (told other : Reply) → Takes world worker instance told new
    → Takes world worker instance other next → AreSame told other new next
take_once world new next worker instance told other one two =
    let hand = some_same (slice_get world.hands worker) one.hand two.hand one.is_hand two.is_hand in
    let lane = some_same (slice_get world.lanes instance) one.lane two.lane one.is_lane two.is_lane in
    let ticket = some_same (ticket_of two.lane) one.ticket two.ticket (ap ticket_of (sym lane) ∙ one.gives) two.gives in
    let moved : with_hand (with_lane world instance (taken one.lane)) worker (one.hand ++ one.ticket ∷ [])
    ≡ with_hand (with_lane world instance (taken two.lane)) worker (two.hand ++ two.ticket ∷ []) =
    λ i. with_hand (with_lane world instance (taken (lane i))) worker (hand i ++ ticket i ∷ []) in
    (one.replied ∙ sym two.replied, one.is ∙ moved ∙ sym two.is)

-- A hand has only one first ticket, and only these others after it.
first_once : (world : WorldState) (worker : ℕ) (ticket other : TicketState) (behind others : List TicketState) → HasFirst world worker ticket behind
    → HasFirst world worker other others → (ticket ≡ other) × (behind ≡ others)
first_once world worker ticket other behind others is is_other =
    let same = some_same (slice_get world.hands worker) (ticket ∷ behind) (other ∷ others) is is_other in
    (same_first ticket other behind others same, same_rest ticket other behind others same)

steal_once : (world new next : WorldState) (worker from : ℕ) (told other : Reply) → Steals world worker from told new
    → Steals world worker from other next → AreSame told other new next
steal_once world new next worker from told other one two =
    let hand = some_same (slice_get world.hands worker) one.hand two.hand one.is_hand two.is_hand in
    let first = first_once world from one.ticket two.ticket one.others two.others one.first two.first in
    let moved : with_hand (with_hand world from one.others) worker (one.hand ++ one.ticket ∷ [])
    ≡ with_hand (with_hand world from two.others) worker (two.hand ++ two.ticket ∷ []) =
    λ i. with_hand (with_hand world from (first.1 i)) worker (hand i ++ first.0 i ∷ []) in
    (one.replied ∙ sym two.replied, one.is ∙ moved ∙ sym two.is)

-- The lane of the first ticket of a hand.
lane_once : (world : WorldState) (ticket other : TicketState) (lane its : LaneState) → ticket ≡ other → slice_get world.lanes ticket.instance ≡ Some lane
    → slice_get world.lanes other.instance ≡ Some its → lane ≡ its
lane_once world ticket other lane its same is is_its =
    some_same (slice_get world.lanes other.instance) lane its (ap (λ (t : TicketState). slice_get world.lanes t.instance) (sym same) ∙ is) is_its

counted_once : (one other before after : ℕ) → one + before ≡ after → other + before ≡ after → one ≡ other
counted_once one other before after is is_other = omega (arith, is, is_other)

post_once : (world new next : WorldState) (worker cells : ℕ) (told other : Reply) → Posts world worker cells told new → Posts world worker cells other next
    → AreSame told other new next
post_once world new next worker cells told other one two =
    let first = first_once world worker one.ticket two.ticket one.others two.others one.first two.first in
    let lane = lane_once world one.ticket two.ticket one.lane two.lane first.0 one.is_lane two.is_lane in
    let lanes : posted_by one.lane one.ticket cells ≡ posted_by two.lane two.ticket cells = λ i. posted_by (lane i) (first.0 i) cells in
    let appended : one.appended ≡ two.appended =
    counted_once one.appended two.appended (length two.lane.answers) (length (posted_by two.lane two.ticket cells).answers)
    (ap (λ (l : LaneState). one.appended + length l.answers) (sym lane) ∙ one.appended_is ∙ ap (λ (l : LaneState). length l.answers) lanes)
    two.appended_is in
    let moved : with_hand (with_lane world one.ticket.instance (posted_by one.lane one.ticket cells)) worker one.others
    ≡ with_hand (with_lane world two.ticket.instance (posted_by two.lane two.ticket cells)) worker two.others =
    λ i. with_hand (with_lane world (first.0 i).instance (lanes i)) worker (first.1 i) in
    (one.replied ∙ ap reply.Posted appended ∙ sym two.replied, one.is ∙ moved ∙ sym two.is)

back_once : (world new next : WorldState) (worker : ℕ) (told other : Reply) → GivesBack world worker told new → GivesBack world worker other next
    → AreSame told other new next
back_once world new next worker told other one two =
    let first = first_once world worker one.ticket two.ticket one.others two.others one.first two.first in
    let lane = lane_once world one.ticket two.ticket one.lane two.lane first.0 one.is_lane two.is_lane in
    let moved : with_hand (with_lane world one.ticket.instance (backed one.lane one.ticket.number)) worker one.others
    ≡ with_hand (with_lane world two.ticket.instance (backed two.lane two.ticket.number)) worker two.others =
    λ i. with_hand (with_lane world (first.0 i).instance (backed (lane i) (first.0 i).number)) worker (first.1 i) in
    (one.replied ∙ sym two.replied, one.is ∙ moved ∙ sym two.is)

-- ---- Find and compute

-- The image of a component.
abbrev pub image_for : Component → Compiled
image_for component =
    record { program = program_of component.unit component.params; start = initial component; start_inputs = start_inputs_of component.unit }

-- The code of a member.
abbrev pub code_for : Member → List ℤ
code_for member = code_of (image_for member.component)

key_once : (r : RunState) (instance : ℕ) (one other : StepKey) → IsKeyAt r instance one → IsKeyAt r instance other → one ≡ other
unfolding code_of
key_once r instance one other is is_other =
    let member : is.member ≡ is_other.member = some_same (slice_get r.plan.run.members instance) is.member is_other.member is.is_there is_other.is_there in
    let code = is.code ∙ ap code_for member ∙ sym is_other.code in
    let state = some_same (slice_get r.stand.at.states instance) one.state other.state is.state is_other.state in
    let inputs = some_same (slice_get (all_inputs r.plan.run r.stand.ports) instance) one.inputs other.inputs is.inputs is_other.inputs in
    let time = is.time ∙ ap (λ (m : Member). local_time m.factor r.stand.at.point.t) member ∙ sym is_other.time in
    let step = is.step ∙ ap (λ (m : Member). local_step m.factor r.stand.at.point.t (step_length r.phase)) member ∙ sym is_other.step in
    λ i. record { code = code i; state = state i; inputs = inputs i; time = time i; step = step i }

-- The same is found for any step that is looked for.
found_once : (world : WorldState) (instance : ℕ) (lane other : LaneState) (key its : StepKey) → Looks world instance lane key → Looks world instance other its
    → found lane key ≡ found other its
found_once world instance lane other key its looks looks_other =
    let lanes = some_same (slice_get world.lanes instance) lane other looks.is_lane looks_other.is_lane in
    let keys = key_once world.run instance key its looks.is_key looks_other.is_key in
    λ i. found (lanes i) (keys i)

find_once : (world new next : WorldState) (instance : ℕ) (told other : Reply) → Finds world instance told new ⊎ Misses world instance told new
    → Finds world instance other next ⊎ Misses world instance other next → AreSame told other new next
find_once world new next instance told other (inl one) (inl two) =
    let same = found_once world instance one.lane two.lane one.key two.key one.looks two.looks in
    let answer : one.one ≡ two.one = some_same (found two.lane two.key) one.one two.one (sym same ∙ one.is_found) two.is_found in (
      one.replied ∙ sym two.replied,
      one.is ∙ ap (λ (answered : Answered). with_run world (with_found world.run instance answered.answer)) answer ∙ sym two.is,
    )
find_once world new next instance told other (inl one) (inr two) =
    absurd (none-some one.one (sym two.none ∙ found_once world instance two.lane one.lane two.key one.key two.looks one.looks ∙ one.is_found))
find_once world new next instance told other (inr one) (inl two) =
    absurd (none-some two.one (sym one.none ∙ found_once world instance one.lane two.lane one.key two.key one.looks two.looks ∙ two.is_found))
find_once world new next instance told other (inr one) (inr two) = (one.replied ∙ sym two.replied, one.is ∙ sym two.is)

compute_once : (world new next : WorldState) (instance : ℕ) (told other : Reply) → Computes world instance told new → Computes world instance other next
    → AreSame told other new next
compute_once world new next instance told other one two =
    let step = some_same (step_in world.run instance) one.computed.step two.computed.step one.computed.gives two.computed.gives in
    let run : new.run ≡ next.run = one.computed.is ∙ ap (with_own world.run instance) step ∙ sym two.computed.is in
    (one.replied ∙ sym two.replied, one.is ∙ ap (with_run world) run ∙ sym two.is)

-- ---- Settle

moves_once : (old new next : RunState) → IsOrdered old → Moves old new → Moves old next → new ≡ next
moves_once old new next is one two =
    let stand : new.stand ≡ next.stand =
    goes_same old.plan.run is.order is.members is.ordered old.stand new.stand next.stand is.words one.goes two.goes in
    one.is ∙ ap (λ stand. arrived old.plan old.opened stand (all_inputs old.plan.run old.stand.ports) old.found old.own) stand ∙ sym two.is

goes_or_ends : (old new next : RunState) → Moves old new → Ends old next → ⊥
goes_or_ends old new next one two = apart (sym one.goes.0 ∙ two.ended)
  where
    apart : goes new.stand.at ≡ ends two.ending → ⊥
    apart is = cc

ends_once : (old new next : RunState) → Ends old new → Ends old next → new ≡ next
ends_once old new next one two =
    let ending : one.ending ≡ two.ending = same_ending one.ending two.ending (sym one.ended ∙ two.ended) in
    one.is ∙ ap (λ e. record old { phase = Ended e; cells = [] }) ending ∙ sym two.is
  where
    same_ending : (e f : Ending) → ends e ≡ ends f → e ≡ f
    same_ending e f is = cc

-- Whether the ports are known at the run's next stand is determined.
known_or_not : (old new next : RunState) → IsOrdered old → Moves old new → ArePortsKnown new.plan.run new.stand → Moves old next
    → (ArePortsKnown next.plan.run next.stand → ⊥) → ⊥
known_or_not old new next is one known two unknown =
    unknown (subst (λ (r : RunState). ArePortsKnown r.plan.run r.stand) (moves_once old new next is one two) known)

pub settled_once : (old new next : RunState) (to other : Settle) → IsOrdered old → Settled old new to → Settled old next other
    → (to ≡ other) × (new ≡ next)
settled_once old new next settle.Redo settle.Redo is (due, one) (due_too, two) = (refl, one ∙ sym two)
settled_once old new next settle.Redo settle.Row is (due, one) (moves, known) = absurd (moves.no_redo due)
settled_once old new next settle.Redo settle.Ended is (due, one) (inl (moves, unknown)) = absurd (moves.no_redo due)
settled_once old new next settle.Redo settle.Ended is (due, one) (inr ended) = absurd (ended.no_redo due)
settled_once old new next settle.Row settle.Redo is (moves, known) (due, two) = absurd (moves.no_redo due)
settled_once old new next settle.Row settle.Row is (one, known) (two, known_too) = (refl, moves_once old new next is one two)
settled_once old new next settle.Row settle.Ended is (one, known) (inl (two, unknown)) = absurd (known_or_not old new next is one known two unknown)
settled_once old new next settle.Row settle.Ended is (one, known) (inr two) = absurd (goes_or_ends old new next one two)
settled_once old new next settle.Ended settle.Redo is (inl (moves, unknown)) (due, two) = absurd (moves.no_redo due)
settled_once old new next settle.Ended settle.Redo is (inr ended) (due, two) = absurd (ended.no_redo due)
settled_once old new next settle.Ended settle.Row is (inl (one, unknown)) (two, known) = absurd (known_or_not old next new is two known one unknown)
settled_once old new next settle.Ended settle.Row is (inr one) (two, known) = absurd (goes_or_ends old next new two one)
settled_once old new next settle.Ended settle.Ended is (inl (one, unknown)) (inl (two, unknown_too)) = (refl, moves_once old new next is one two)
settled_once old new next settle.Ended settle.Ended is (inl (one, unknown)) (inr two) = absurd (goes_or_ends old new next one two)
settled_once old new next settle.Ended settle.Ended is (inr one) (inl (two, unknown)) = absurd (goes_or_ends old next new two one)
settled_once old new next settle.Ended settle.Ended is (inr one) (inr two) = (refl, ends_once old new next one two)

settle_once : (world new next : WorldState) (told other : Reply) → IsOrdered world.run → Settles world told new → Settles world other next
    → AreSame told other new next
settle_once world new next told other is one two =
    let same = settled_once world.run new.run next.run one.to two.to is one.settled two.settled in
    (one.replied ∙ ap reply.Settled same.0 ∙ sym two.replied, one.is ∙ ap (with_run world) same.1 ∙ sym two.is)

-- ---- Any event

does_once : (world new next : WorldState) (what : Event) (told other : Reply) → IsOrdered world.run → Does world what told new → Does world what other next
    → AreSame told other new next
does_once world new next (event.Publish instance) told other is one two = publish_once world new next instance told other one two
does_once world new next (event.Take worker instance) told other is one two = take_once world new next worker instance told other one two
does_once world new next (event.Steal worker from) told other is one two = steal_once world new next worker from told other one two
does_once world new next (event.Post worker cells) told other is one two = post_once world new next worker cells told other one two
does_once world new next (event.Back worker) told other is one two = back_once world new next worker told other one two
does_once world new next (event.Find instance) told other is one two = find_once world new next instance told other one two
does_once world new next (event.Compute instance) told other is one two = compute_once world new next instance told other one two
does_once world new next event.Settle told other is one two = settle_once world new next told other is one two

looked : (world new : WorldState) (instance : ℕ) (told : Reply) → Finds world instance told new ⊎ Misses world instance told new → IsWanted world.run instance
looked world new instance told (inl finds) = finds.looks.wanted
looked world new instance told (inr misses) = misses.looks.wanted

no_hand : (world : WorldState) (worker : ℕ) (hand : List TicketState) → slice_get world.hands worker ≡ Some hand → slice_get world.hands worker ≡ None → ⊥
no_hand world worker hand is none = none-some hand (sym none ∙ is)

-- The effect of an event that is not refused excludes that it is refused.
pub not_refused : (world new : WorldState) (what : Event) (told : Reply) → Does world what told new → IsRefused world what → ⊥
not_refused world new (event.Publish instance) told does (inl ended) = true_is_false (is_ended world.run.phase) ended does.going
not_refused world new (event.Publish instance) told does (inr full) = true_is_false (is_full does.lane) (full does.lane does.is_lane) does.room
not_refused world new (event.Take worker instance) told does (inl none) = no_hand world worker does.hand does.is_hand none
not_refused world new (event.Take worker instance) told does (inr none) = none-some does.ticket (sym (none does.lane does.is_lane) ∙ does.gives)
not_refused world new (event.Steal worker from) told does (inl same) = does.apart same
not_refused world new (event.Steal worker from) told does (inr (inl none)) = no_hand world worker does.hand does.is_hand none
not_refused world new (event.Steal worker from) told does (inr (inr none)) = none does.ticket does.others does.first
not_refused world new (event.Post worker cells) told does none = none does.ticket does.others does.first
not_refused world new (event.Back worker) told does none = none does.ticket does.others does.first
not_refused world new (event.Find instance) told does unwanted = unwanted (looked world new instance told does)
not_refused world new (event.Compute instance) told does unwanted = unwanted does.wanted
not_refused world new event.Settle told does (inl ended) = true_is_false (is_ended world.run.phase) ended does.going
not_refused world new event.Settle told does (inr not_full) = not_full does.full

pub happens_once : (world new next : WorldState) (what : Event) (told other : Reply) → IsOrdered world.run → Happens world what told new
    → Happens world what other next → AreSame told other new next
happens_once world new next what told other is (inl one) (inl two) = does_once world new next what told other is one two
happens_once world new next what told other is (inl one) (inr two) = absurd (not_refused world new what told one two.refused)
happens_once world new next what told other is (inr one) (inl two) = absurd (not_refused world next what other two one.refused)
happens_once world new next what told other is (inr one) (inr two) = (one.replied ∙ sym two.replied, one.is ∙ sym two.is)
