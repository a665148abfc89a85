-- Worlds whose tickets are given back, one after the other.
use Rattle.std.proofs.Common.{◌≡◌, ◌∙◌, ℕ, zero, suc, ◌+◌, ◌<◌, ◌≤◌, List, [], ◌∷◌, ◌++◌, set, get_or, length, map, take, drop, Some, None, refl, sym, ap}
use Rattle.std.proofs.Common.{subst, inl, inr}
use Rattle.std.proofs.Common.{append_assoc, append-nil, arith, Option, true, ◌^◌, ◌*◌}
use Rattle.std.proofs.lemmas.List.{drop_all, map-append, nil_from_length, replicate_more, set-set, take_all}
use Rattle.std.proofs.lemmas.Option.{get_or_from_slice_get, same_Some, slice_get_within}
use Rattle.std.specs.List.{AllZip, sum_by}
use Rattle.std.specs.Prelude.{IfSome, replicate, slice_get}
use Rattle.std.proofs.lemmas.List.Sums.{sum_by_more, sum_by-take-le, sum_by-cons}
use Rattle.guess_board.specs.Events.{backed}
use Rattle.guess_board.specs.Lanes.{LaneState, TicketState}
use Rattle.guess_board.specs.Journals.{is_listed}
use Rattle.list_laws.proofs.Members.{set_same, set_there}
use Rattle.list_laws.proofs.Lists.{each_append}
use Rattle.spec_core.specs.Draining.{AreHandsSoFar, GivesAllBack, IsHandDrained, IsHandSoFar, IsSameButJournal}
use Rattle.spec_core.specs.Events.{Happens, HasFirst}
use Rattle.spec_core.specs.Interleavings.{Done, Leads}
use Rattle.spec_core.specs.Tickets.{IsDrained, IsDrainedLane, backs_from, tally_of, tickets_of_instance}
use Rattle.spec_core.specs.Worlds.{IsWorld, WorldState, counted, tickets_in}
use Rattle.spec_core.specs.declared.event.Event.{Event}
use Rattle.spec_core.specs.declared.event.Event.TheVariants as event
use Rattle.spec_core.specs.declared.event.Reply.{Reply}
use Rattle.spec_core.specs.declared.event.Reply.TheVariants as reply
use Rattle.spec_core.proofs.TicketSums.{few_tickets, out_in_hands}

-- ---- One more event

leads_on : (from middle to : WorldState) (past others : List Done) → Leads from past middle → Leads middle others to → Leads from (past ++ others) to
leads_on from middle to [] others is leads = subst (λ w. Leads w others to) (sym is) leads
leads_on from middle to (one ∷ past) others (is, happens, more) leads = (is, happens, leads_on one.after middle to past others more leads)

lanes_same : (lanes : List LaneState) → AllZip IsSameButJournal lanes lanes
lanes_same [] = tt
lanes_same (lane ∷ lanes) = (refl, lanes_same lanes)

one_then : (a b c : LaneState) → IsSameButJournal a b → IsSameButJournal b c → IsSameButJournal a c
one_then a b c first second = second ∙ ap (λ (l : LaneState). record l { journal = c.journal }) first

-- A lane to which a ticket was given back.
lanes_set : (old now : List LaneState) (k : ℕ) (lane : LaneState) (number : ℕ) → AllZip IsSameButJournal old now → slice_get now k ≡ Some lane
    → AllZip IsSameButJournal old (set now k (backed lane number))
lanes_set [] [] k lane number all at = absurd (cc)
lanes_set [] (b ∷ now) k lane number all at = absurd all
lanes_set (a ∷ old) [] k lane number all at = absurd all
lanes_set (a ∷ old) (b ∷ now) zero lane number all at =
    (one_then a b (backed lane number) all.0 (ap (λ (l : LaneState). backed l number) (sym (same_Some b lane at)) ∙ same b lane (same_Some b lane at)), all.1)
  where
    same : (b lane : LaneState) → b ≡ lane → backed b number ≡ record b { journal = (backed lane number).journal }
    same b lane is = ap (λ (l : LaneState). record b { journal = (backed l number).journal }) is
lanes_set (a ∷ old) (b ∷ now) (suc k) lane number all at = (all.0, lanes_set old now k lane number all.1 at)

lanes_then : (a b c : List LaneState) → AllZip IsSameButJournal a b → AllZip IsSameButJournal b c → AllZip IsSameButJournal a c
lanes_then [] [] [] one other = tt
lanes_then [] [] (z ∷ c) one other = absurd other
lanes_then [] (y ∷ b) c one other = absurd one
lanes_then (x ∷ a) [] c one other = absurd one
lanes_then (x ∷ a) (y ∷ b) [] one other = absurd other
lanes_then (x ∷ a) (y ∷ b) (z ∷ c) one other = (one_then x y z one.0 other.0, lanes_then a b c one.1 other.1)

pub gives_none : (world : WorldState) → GivesAllBack [] world world world.hands
gives_none world = record { past = []; leads = refl; backs = refl; each = tt; hands = refl; run = refl; lanes = lanes_same world.lanes }

-- What was given back, and then more.
pub gives_on : (events more : List Event) (old now new : WorldState) (hands last : List (List TicketState)) → GivesAllBack events old now hands
    → GivesAllBack more now new last → GivesAllBack (events ++ more) old new last
gives_on events more old now new hands last first second = record {
  past = first.past ++ second.past;
  leads = leads_on old now new first.past second.past first.leads second.leads;
  backs = map-append (λ (one : Done). one.event) first.past second.past ∙ ap (λ all. all ++ map (λ one. one.event) second.past) first.backs
      ∙ ap (λ all. events ++ all) second.backs;
  each = each_append (λ one. one.reply ≡ reply.Back) first.past second.past first.each second.each;
  hands = second.hands;
  run = second.run ∙ first.run;
  lanes = lanes_then old.lanes now.lanes new.lanes first.lanes second.lanes;
}

-- ---- A ticket of a worker

gives_one : (world new : WorldState) (worker : ℕ) (told : Reply) (ticket : TicketState) (others : List TicketState) → HasFirst world worker ticket others
    → Happens world (event.Back worker) told new → GivesAllBack (event.Back worker ∷ []) world new (set world.hands worker others)
gives_one world new worker told ticket others first (inr refused) = absurd (refused.refused ticket others first)
gives_one world new worker told ticket others first (inl does) =
    let same = same_Some (does.ticket ∷ does.others) (ticket ∷ others) (sym does.first ∙ first) in
    let rest : does.others ≡ others = cc in
    record {
      past = record { before = world; event = event.Back worker; reply = told; after = new } ∷ [];
      leads = (refl, inl does, refl);
      backs = refl;
      each = (does.replied, tt);
      hands = ap (λ (w : WorldState). w.hands) does.is ∙ ap (set world.hands worker) rest;
      run = ap (λ (w : WorldState). w.run) does.is;
      lanes = subst (AllZip IsSameButJournal world.lanes) (sym (ap (λ (w : WorldState). w.lanes) does.is))
          (lanes_set world.lanes world.lanes does.ticket.instance does.lane does.ticket.number (lanes_same world.lanes) does.is_lane);
    }

left_there : (hand : List TicketState) (count : ℕ) → count < length hand
    → (ticket : TicketState) × (drop count hand ≡ ticket ∷ drop (suc count) hand)
left_there [] count within = absurd (omega (arith, within))
left_there (ticket ∷ others) zero within = (ticket, refl)
left_there (ticket ∷ others) (suc count) within = left_there others count (omega (arith, within))

pub hand_first : (world : WorldState) (worker : ℕ) (hand : List TicketState) → slice_get world.hands worker ≡ Some hand → IsHandSoFar world worker hand 0 world
hand_first world worker hand at =
    subst (GivesAllBack [] world world) (sym (set_same world.hands worker hand at)) (gives_none world)

pub hand_next : (world now new : WorldState) (worker : ℕ) (hand : List TicketState) (count : ℕ) (told : Reply) → slice_get world.hands worker ≡ Some hand
    → count < length hand → IsHandSoFar world worker hand count now → Happens now (event.Back worker) told new
    → IsHandSoFar world worker hand (count + 1) new
hand_next world now new worker hand count told at within so_far happens =
    let left = left_there hand count within in
    let there : slice_get now.hands worker ≡ Some (left.0 ∷ drop (suc count) hand) =
    ap (λ all. slice_get all worker) so_far.hands
    ∙ set_there world.hands worker (drop count hand) (slice_get_within world.hands worker hand at)
    ∙ ap Some left.1 in
    let one = gives_one now new worker told left.0 (drop (suc count) hand) there happens in
    let both = gives_on (replicate count (event.Back worker)) (event.Back worker ∷ []) world now new (set world.hands worker (drop count hand))
    (set now.hands worker (drop (suc count) hand)) so_far one in
    let hands : set now.hands worker (drop (suc count) hand) ≡ set world.hands worker (drop (suc count) hand) =
    ap (λ all. set all worker (drop (suc count) hand)) so_far.hands ∙ set-set world.hands worker (drop count hand) (drop (suc count) hand) in
    subst (λ events. GivesAllBack events world new (set world.hands worker (drop (count + 1) hand))) (replicate_more count (event.Back worker))
    (subst (GivesAllBack (replicate count (event.Back worker) ++ event.Back worker ∷ []) world new)
    (hands ∙ ap (λ n. set world.hands worker (drop n hand)) {x = suc count} {y = count + 1} (omega arith)) both)

-- ---- All workers

backs_more : (worker from : ℕ) (hands : List (List TicketState)) (hand : List TicketState) → slice_get hands worker ≡ Some hand
    → backs_from from (take (suc worker) hands) ≡ backs_from from (take worker hands) ++ replicate (length hand) (event.Back (from + worker))
backs_more worker from [] hand at = absurd (cc)
backs_more zero from (first ∷ hands) hand at =
    append-nil (replicate (length first) (event.Back from))
    ∙ ap (λ (one : List TicketState). replicate (length one) (event.Back from)) (same_Some first hand at)
    ∙ ap (λ n. replicate (length hand) (event.Back n)) (omega arith)
backs_more (suc worker) from (first ∷ hands) hand at =
    ap (λ all. replicate (length first) (event.Back from) ++ all)
    (backs_more worker (suc from) hands hand at
    ∙ ap (λ n. backs_from (suc from) (take worker hands) ++ replicate (length hand) (event.Back n)) {x = suc from + worker} {y = from + suc worker}
    (omega arith))
    ∙ sym (append_assoc (replicate (length first) (event.Back from)) (backs_from (suc from) (take worker hands))
    (replicate (length hand) (event.Back (from + suc worker))))

abbrev emptied : ℕ → List (List TicketState) → List (List TicketState)
emptied workers hands = map (λ one. []) (take workers hands) ++ drop workers hands

emptied_more : (worker : ℕ) (hands : List (List TicketState)) (hand : List TicketState) → slice_get hands worker ≡ Some hand
    → set (emptied worker hands) worker [] ≡ emptied (suc worker) hands
emptied_more worker [] hand at = absurd (cc)
emptied_more zero (first ∷ hands) hand at = refl
emptied_more (suc worker) (first ∷ hands) hand at = ap (λ all. [] ∷ all) (emptied_more worker hands hand at)

pub still_there : (worker : ℕ) (hands : List (List TicketState)) (hand : List TicketState) → slice_get (emptied worker hands) worker ≡ Some hand
    → slice_get hands worker ≡ Some hand
still_there zero [] hand at = absurd (cc)
still_there (suc worker) [] hand at = absurd (cc)
still_there zero (first ∷ hands) hand at = at
still_there (suc worker) (first ∷ hands) hand at = still_there worker hands hand at

pub hands_first : (world : WorldState) → AreHandsSoFar world 0 world 0
hands_first world = record { counted = refl; gives = gives_none world }

pub hands_next : (world now new : WorldState) (worker count more : ℕ) → AreHandsSoFar world worker now count → IsHandDrained now worker new more
    → AreHandsSoFar world (worker + 1) new (count + more)
hands_next world now new worker count more so_far drained =
    let at : slice_get world.hands worker ≡ Some drained.hand =
    still_there worker world.hands drained.hand (ap (λ all. slice_get all worker) (sym so_far.gives.hands) ∙ drained.is_hand) in
    let within = slice_get_within world.hands worker drained.hand at in
    let both = gives_on (backs_from 0 (take worker world.hands)) (replicate more (event.Back worker)) world now new
    (map (λ hand. []) (take worker world.hands) ++ drop worker world.hands) (set now.hands worker (drop more drained.hand)) so_far.gives drained.gives in
    let none : drop more drained.hand ≡ [] = ap (λ n. drop n drained.hand) drained.counted ∙ drop_all (length drained.hand) drained.hand (omega arith) in
    let hands : set now.hands worker (drop more drained.hand) ≡ map (λ hand. []) (take (worker + 1) world.hands) ++ drop (worker + 1) world.hands =
    ap (set now.hands worker) none ∙ ap (λ all. set all worker []) so_far.gives.hands ∙ emptied_more worker world.hands drained.hand at
    ∙ ap (λ n. emptied n world.hands) {x = suc worker} {y = worker + 1} (omega arith) in
    let events : backs_from 0 (take worker world.hands) ++ replicate more (event.Back worker) ≡ backs_from 0 (take (worker + 1) world.hands) =
    ap (λ n. backs_from 0 (take worker world.hands) ++ replicate n (event.Back worker)) drained.counted
    ∙ ap (λ n. backs_from 0 (take worker world.hands) ++ replicate (length drained.hand) (event.Back n)) {x = worker} {y = 0 + worker} (omega arith)
    ∙ sym (backs_more worker 0 world.hands drained.hand at)
    ∙ ap (λ n. backs_from 0 (take n world.hands)) {x = suc worker} {y = worker + 1} (omega arith) in
    let sum = sum_by_more (λ (hand : List TicketState). length hand) world.hands worker drained.hand within in
    let long : length (get_or world.hands worker drained.hand) ≡ length drained.hand =
    ap (λ (hand : List TicketState). length hand) (get_or_from_slice_get world.hands worker drained.hand drained.hand at) in
    record {
      counted = omega (arith, so_far.counted, drained.counted, sum, long);
      gives = subst (λ all. GivesAllBack all world new (map (λ hand. []) (take (worker + 1) world.hands) ++ drop (worker + 1) world.hands)) events
          (subst (GivesAllBack (backs_from 0 (take worker world.hands) ++ replicate more (event.Back worker)) world new) hands both);
    }

-- The count stays within the limit of a world.
pub room_left : (world now : WorldState) (worker count more : ℕ) (hand : List TicketState) → IsWorld world → AreHandsSoFar world worker now count
    → slice_get now.hands worker ≡ Some hand → more ≡ length hand → count + more ≤ 2 ^ 32 * 64
room_left world now worker count more hand is so_far there counted =
    let at : slice_get world.hands worker ≡ Some hand = still_there worker world.hands hand
    (ap (λ all. slice_get all worker) (sym so_far.gives.hands) ∙ there) in
    let within = slice_get_within world.hands worker hand at in
    let sum = sum_by_more (λ (one : List TicketState). length one) world.hands worker hand within in
    let long : length (get_or world.hands worker hand) ≡ length hand =
    ap (λ (one : List TicketState). length one) (get_or_from_slice_get world.hands worker hand hand at) in
    let most = sum_by-take-le (λ (one : List TicketState). length one) world.hands (worker + 1) in
    let few = few_tickets world is in
    omega (arith, so_far.counted, counted, sum, long, most, few)

-- ---- A drained world

none_in_hands : (instance : ℕ) (hands : List (List TicketState)) → tickets_of_instance instance (map (λ hand. []) hands) ≡ 0
none_in_hands instance [] = refl
none_in_hands instance (hand ∷ hands) =
    let rest = none_in_hands instance hands in
    let first = sum_by-cons (λ one. sum_by (counted instance (λ n. 1)) one) [] (map (λ hand. []) hands) in
    omega (arith, rest, first)

no_current : (current : Option ℕ) (outstanding : List ℕ) → outstanding ≡ [] → IfSome current (λ n. is_listed n outstanding ≡ true) → current ≡ None
no_current None outstanding none out = refl
no_current (Some n) outstanding none out = absurd (listed n (subst (λ ns. is_listed n ns ≡ true) none out))
  where
    listed : (n : ℕ) → is_listed n [] ≡ true → ⊥
    listed n is = cc

drained_lane : (old : WorldState) (new : WorldState) (instance : ℕ) (was lane : LaneState) → IsWorld new → new.hands ≡ map (λ hand. []) old.hands
    → slice_get new.lanes instance ≡ Some lane → IsSameButJournal was lane → IsDrainedLane was lane
drained_lane old new instance was lane is empty at same =
    let booked = (is.lanes instance lane at).is_lane.booked in
    let none : lane.journal.outstanding ≡ [] =
    nil_from_length lane.journal.outstanding
    (out_in_hands new instance lane is at ∙ ap (tickets_of_instance instance) empty ∙ none_in_hands instance old.hands) in
    record {
      is = same;
      none_out = none;
      none_current = no_current lane.journal.current lane.journal.outstanding none booked.current_out;
      ended = booked.sum ∙ ap (λ (ns : List ℕ). (tally_of lane).posted + (tally_of lane).back + length ns) none ∙ omega arith;
    }

drained_lanes : (old new : WorldState) (from : ℕ) (was lanes : List LaneState) → IsWorld new → new.hands ≡ map (λ hand. []) old.hands
    → ((k : ℕ) (lane : LaneState) → slice_get lanes k ≡ Some lane → slice_get new.lanes (from + k) ≡ Some lane)
    → AllZip IsSameButJournal was lanes → AllZip IsDrainedLane was lanes
drained_lanes old new from [] [] is empty each all = tt
drained_lanes old new from [] (b ∷ lanes) is empty each all = absurd all
drained_lanes old new from (a ∷ was) [] is empty each all = absurd all
drained_lanes old new from (a ∷ was) (b ∷ lanes) is empty each all = (
  drained_lane old new from a b is empty (ap (slice_get new.lanes) (omega arith) ∙ each 0 b refl) all.0,
  drained_lanes old new (suc from) was lanes is empty (λ k lane at. ap (slice_get new.lanes) (omega arith) ∙ each (suc k) lane at) all.1,
)

pub drained : (old new : WorldState) (workers count : ℕ) → IsWorld new → length old.hands ≤ workers → AreHandsSoFar old workers new count
    → IsDrained old new count
drained old new workers count is past so_far =
    let all : take workers old.hands ≡ old.hands = take_all workers old.hands past in
    let none : drop workers old.hands ≡ [] = drop_all workers old.hands past in
    let empty : new.hands ≡ map (λ hand. []) old.hands =
    so_far.gives.hands ∙ ap (λ rest. map (λ hand. []) (take workers old.hands) ++ rest) none
    ∙ append-nil (map (λ hand. []) (take workers old.hands)) ∙ ap (map (λ hand. [])) all in
    record {
      past = so_far.gives.past;
      leads = so_far.gives.leads;
      backs = so_far.gives.backs ∙ ap (backs_from 0) all;
      each = so_far.gives.each;
      counted = so_far.counted ∙ ap tickets_in all;
      hands = empty;
      run = so_far.gives.run;
      lanes = drained_lanes old new 0 old.lanes new.lanes is empty (λ k lane at. ap (slice_get new.lanes) (omega arith) ∙ at) so_far.gives.lanes;
    }
