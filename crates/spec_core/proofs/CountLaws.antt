-- The counts of a replay.
use Rattle.std.proofs.Common.{◌≡◌, ◌∙◌, ℕ, zero, suc, ◌+◌, cond, Bool, List, [], ◌∷◌, ◌++◌, length, Some, inl, inr, refl, sym, ap, subst}
use Rattle.std.proofs.Common.{add-zero, arith, length-append, set}
use Rattle.std.proofs.lemmas.List.Sums.{sum_by-set}
use Rattle.std.proofs.lemmas.Option.{get_or_from_slice_get, slice_get_within}
use Rattle.std.specs.List.{flat_map, fold}
use Rattle.std.specs.Prelude.{replicate, slice_get}
use Rattle.spec_core.specs.Events.{Does, Happens}
use Rattle.spec_core.specs.Interleavings.{Done, Leads}
use Rattle.spec_core.specs.Replays.{AreCounts, AreRounds, IsRound, appended_by, is_back, is_found, is_own, is_posted, is_refused, is_taken, replies_of}
use Rattle.spec_core.specs.Rounds.{AreSettled, counts_of, no_replies, with_replies, with_reply}
use Rattle.spec_core.specs.Worlds.{WorldState, tickets_in}
use Rattle.spec_core.specs.declared.event.Event.{Event}
use Rattle.spec_core.specs.declared.event.Event.TheVariants as event
use Rattle.spec_core.specs.declared.event.Reply.{Reply}
use Rattle.spec_core.specs.declared.event.Reply.TheVariants as reply
use Rattle.spec_core.specs.declared.replies.Replies.{Replies}
use Rattle.spec_core.specs.declared.rounds.ReplayState.{ReplayState}
use Rattle.spec_core.proofs.DoneLaws.{all_served_leads, leads_append}
use Rattle.guess_board.specs.Lanes.{TicketState}
use Rattle.list_laws.proofs.Members.{set_elsewhere}
use Rattle.trace_core.specs.declared.phase.Phase.TheVariants.{Ended}
use Rattle.unit_tree.specs.declared.ending.Ending.{Ending}

-- ---- Where tickets are

abbrev one_if : (Reply → Bool) → Reply → ℕ
one_if test told = cond (test told) 1 0

-- A hand replaced another one.
hand_put : (hands : List (List TicketState)) (worker : ℕ) (old new : List TicketState) → slice_get hands worker ≡ Some old
    → tickets_in (set hands worker new) + length old ≡ tickets_in hands + length new
hand_put hands worker old new at =
    ap (λ (hand : List TicketState). tickets_in (set hands worker new) + length hand) (sym (get_or_from_slice_get hands worker old old at))
    ∙ sum_by-set (λ (hand : List TicketState). length hand) hands worker new old (slice_get_within hands worker old at)

-- A hand gets a ticket where one is taken, and loses one where one is posted or given back.
pub record AreKept (from : WorldState) (told : Reply) (to : WorldState) : Type 0 where
  pub is : tickets_in to.hands + one_if is_posted told + one_if is_back told ≡ tickets_in from.hands + one_if is_taken told

-- Hands that stay.
kept_same : (from : WorldState) (told : Reply) (to : WorldState) → to.hands ≡ from.hands → one_if is_posted told ≡ 0 → one_if is_back told ≡ 0
    → one_if is_taken told ≡ 0 → AreKept from told to
kept_same from told to same posted back taken =
    let hands = ap tickets_in same in
    record { is = omega (arith, hands, posted, back, taken) }

-- A hand without its first ticket.
one_left : (hands : List (List TicketState)) (worker : ℕ) (ticket : TicketState) (others : List TicketState) → slice_get hands worker ≡ Some (ticket ∷ others)
    → tickets_in (set hands worker others) + 1 ≡ tickets_in hands
one_left hands worker ticket others first = let put = hand_put hands worker (ticket ∷ others) others first in omega (arith, put)

one_more : (hands : List (List TicketState)) (worker : ℕ) (hand : List TicketState) (ticket : TicketState) → slice_get hands worker ≡ Some hand
    → tickets_in (set hands worker (hand ++ ticket ∷ [])) ≡ tickets_in hands + 1
one_more hands worker hand ticket at =
    let put = hand_put hands worker hand (hand ++ ticket ∷ []) at in
    let long = length-append hand (ticket ∷ []) in
    omega (arith, put, long)

does_keep : (from : WorldState) (what : Event) (told : Reply) (to : WorldState) → Does from what told to → AreKept from told to
does_keep from (event.Publish instance) told to does =
    subst (λ said. AreKept from said to) (sym does.replied) (kept_same from _ to (ap (λ (w : WorldState). w.hands) does.is) refl refl refl)
does_keep from (event.Take worker instance) told to does =
    let put = one_more from.hands worker does.hand does.ticket does.is_hand in
    let is = ap (λ (w : WorldState). tickets_in w.hands) does.is in
    subst (λ said. AreKept from said to) (sym does.replied) (record { is = omega (arith, put, is) })
does_keep from (event.Steal worker other) told to does =
    let left = one_left from.hands other does.ticket does.others does.first in
    let put = one_more (set from.hands other does.others) worker does.hand does.ticket
    (set_elsewhere from.hands other worker does.others does.apart ∙ does.is_hand) in
    let is = ap (λ (w : WorldState). tickets_in w.hands) does.is in
    subst (λ said. AreKept from said to) (sym does.replied) (record { is = omega (arith, left, put, is) })
does_keep from (event.Post worker cells) told to does =
    let left = one_left from.hands worker does.ticket does.others does.first in
    let is = ap (λ (w : WorldState). tickets_in w.hands) does.is in
    subst (λ said. AreKept from said to) (sym does.replied) (record { is = omega (arith, left, is) })
does_keep from (event.Back worker) told to does =
    let left = one_left from.hands worker does.ticket does.others does.first in
    let is = ap (λ (w : WorldState). tickets_in w.hands) does.is in
    subst (λ said. AreKept from said to) (sym does.replied) (record { is = omega (arith, left, is) })
does_keep from (event.Find instance) told to (inl finds) =
    subst (λ said. AreKept from said to) (sym finds.replied) (kept_same from reply.Found to (ap (λ (w : WorldState). w.hands) finds.is) refl refl refl)
does_keep from (event.Find instance) told to (inr misses) =
    subst (λ said. AreKept from said to) (sym misses.replied) (kept_same from reply.Missed to (ap (λ (w : WorldState). w.hands) misses.is) refl refl refl)
does_keep from (event.Compute instance) told to does =
    subst (λ said. AreKept from said to) (sym does.replied) (kept_same from reply.Computed to (ap (λ (w : WorldState). w.hands) does.is) refl refl refl)
does_keep from event.Settle told to does =
    subst (λ said. AreKept from said to) (sym does.replied) (kept_same from _ to (ap (λ (w : WorldState). w.hands) does.is) refl refl refl)

happens_keep : (from : WorldState) (what : Event) (told : Reply) (to : WorldState) → Happens from what told to → AreKept from told to
happens_keep from what told to (inl does) = does_keep from what told to does
happens_keep from what told to (inr refuses) =
    subst (λ said. AreKept from said to) (sym refuses.replied)
    (kept_same from reply.Refused to (ap (λ (w : WorldState). w.hands) refuses.is) refl refl refl)

-- Along a whole history.
tickets_along : (past : List Done) (from to : WorldState) (counts : Replies) → Leads from past to
    → tickets_in to.hands + (with_replies counts past).posted + (with_replies counts past).back + counts.tickets
    ≡ tickets_in from.hands + (with_replies counts past).tickets + counts.posted + counts.back
tickets_along [] from to counts is =
    let same = ap (λ (w : WorldState). tickets_in w.hands) is in
    omega (arith, same)
tickets_along (one ∷ others) from to counts (begins, happens, leads) =
    let first = (happens_keep one.before one.event one.reply one.after happens).is in
    let same = ap (λ (w : WorldState). tickets_in w.hands) begins in
    let rest = tickets_along others one.after to (with_reply counts one.reply) leads in
    omega (arith, first, same, rest)

-- ---- The counts of a history

pub none_held : (workers : ℕ) → tickets_in (replicate workers []) ≡ 0
none_held zero = refl
none_held (suc workers) = none_held workers

pub all_settled : (course : ReplayState) (from : WorldState) (past : List Done) → Leads from past course.world → tickets_in from.hands ≡ 0
    → course.replies ≡ with_replies no_replies past → AreSettled course
all_settled course from past leads none counted =
    let along = tickets_along past from course.world no_replies leads in
    let tickets = ap (λ (counts : Replies). counts.tickets) counted in
    let posted = ap (λ (counts : Replies). counts.posted) counted in
    let back = ap (λ (counts : Replies). counts.back) counted in
    omega (arith, along, none, tickets, posted, back)

-- How the counts follow a history.
events_counted : (past : List Done) (counts : Replies) → (with_replies counts past).events ≡ counts.events + length past
events_counted [] counts = sym (add-zero counts.events)
events_counted (one ∷ others) counts =
    let rest = events_counted others (with_reply counts one.reply) in
    omega (arith, rest)

-- Each count, as a field of the counts, is the number of replies that pass a test.
module _ (field : Replies → ℕ) (number : Reply → ℕ) (step : (counts : Replies) (told : Reply) → field (with_reply counts told) ≡ field counts + number told)
  where
    counted_along : (past : List Done) (counts : Replies) → field (with_replies counts past) ≡ fold (λ sum told. sum + number told) (field counts)
        (replies_of past)
    counted_along [] counts = refl
    counted_along (one ∷ others) counts =
        counted_along others (with_reply counts one.reply)
        ∙ ap (λ sum. fold (λ sum told. sum + number told) sum (replies_of others)) (step counts one.reply)

pub are_counts : (course : ReplayState) (past : List Done) (outcome : Ending) → course.world.run.phase ≡ Ended outcome → course.replies ≡ with_replies no_replies
    past
    → AreCounts past course.world (counts_of course outcome)
are_counts course past outcome phase counted = record {
  outcome = phase;
  last = refl;
  events = ap (λ (counts : Replies). counts.events) counted ∙ events_counted past no_replies ∙ none_and (length past);
  refused = ap (λ (counts : Replies). counts.refused) counted ∙ counted_along (λ counts. counts.refused) (one_if is_refused) (λ counts told. refl) past
      no_replies;
  found = ap (λ (counts : Replies). counts.found) counted ∙ counted_along (λ counts. counts.found) (one_if is_found) (λ counts told. refl) past no_replies;
  own = ap (λ (counts : Replies). counts.own) counted ∙ counted_along (λ counts. counts.own) (one_if is_own) (λ counts told. refl) past no_replies;
  tickets = ap (λ (counts : Replies). counts.tickets) counted ∙ counted_along (λ counts. counts.tickets) (one_if is_taken) (λ counts told. refl) past
      no_replies;
  posted = ap (λ (counts : Replies). counts.posted) counted ∙ counted_along (λ counts. counts.posted) (one_if is_posted) (λ counts told. refl) past no_replies;
  back = ap (λ (counts : Replies). counts.back) counted ∙ counted_along (λ counts. counts.back) (one_if is_back) (λ counts told. refl) past no_replies;
  lapsed = refl;
  appended = ap (λ (counts : Replies). counts.appended) counted ∙ counted_along (λ counts. counts.appended) appended_by (λ counts told. refl) past no_replies;
}
  where
    none_and : (n : ℕ) → 0 + n ≡ n
    none_and n = omega arith

-- ---- Rounds as a history

round_leads : (seed workers number : ℕ) (from : WorldState) (past : List Done) (to : WorldState) → IsRound seed workers number from past to → Leads from past to
round_leads seed workers number from past to round =
    subst (λ all. Leads from all to) (sym round.is)
    (leads_append round.published (round.drawn ++ (round.served ++ round.settle ∷ [])) from round.lined to round.leads_lined
    (leads_append round.drawn (round.served ++ round.settle ∷ []) round.lined round.worked to round.leads_worked
    (leads_append round.served (round.settle ∷ []) round.worked round.filled to
    (all_served_leads (length from.lanes) round.worked round.filled round.served round.serves) round.leads_settled)))

pub rounds_lead : (seed workers number : ℕ) (from : WorldState) (rounds : List (List Done)) (to : WorldState) → AreRounds seed workers number from rounds to
    → Leads from (flat_map (λ round. round) rounds) to
rounds_lead seed workers number from [] to (ended, is) = is
rounds_lead seed workers number from (round ∷ rounds) to (going, middle, is_round, rest) =
    leads_append round (flat_map (λ round. round) rounds) from middle to (round_leads seed workers number from round middle is_round)
    (rounds_lead seed workers (suc number) middle rounds to rest)
