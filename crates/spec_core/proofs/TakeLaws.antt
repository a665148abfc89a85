-- A ticket is taken into a hand, or goes from one to another.
use Rattle.std.proofs.Common.{◌≡◌, ◌≢◌, ◌∙◌, ◌<◌, ℕ, get_or, length, remove, Bool, true, false, List, [], ◌∷◌, ◌++◌}
use Rattle.std.proofs.Common.{set, Option, Some, None, Result, Ok, Err, refl, sym, ap, subst, inl, inr}
use Rattle.std.proofs.lemmas.Option.{same_Some}
use Rattle.std.specs.Option.{option_map}
use Rattle.std.specs.Prelude.{IfOk, IfSome, OnErr, is_some, slice_get, ◌||◌, if◌then◌else◌}
use Rattle.guess_board.specs.Chains.{Need}
use Rattle.guess_board.specs.Events.{is_full, taken, ticket_for, ticket_of, with_taken}
use Rattle.guess_board.specs.Lanes.{FitsImage, IsLane, LaneState, TicketState, lane_need}
use Rattle.guess_board.proofs.TicketLaws.{ticket_fits}
use Rattle.list_laws.proofs.Members.{set_elsewhere, set_same}
use Rattle.spec_core.specs.Events.{Happens, with_hand, with_lane}
use Rattle.spec_core.specs.Keeping.{Held, MovesFirst, TakesInto, reply_of_take, tickets_of}
use Rattle.spec_core.specs.Worlds.{IsWorld, WorldState}
use Rattle.spec_core.specs.declared.event.Event.TheVariants as event
use Rattle.spec_core.proofs.EndLaws.{hand_read, hand_there, hand_within, hands_set}
use Rattle.spec_core.proofs.WorldLaws.{keeps_steal, keeps_take}

-- A ticket is of the lane that makes it.
of_lane : (lane : LaneState) (stopped : Bool) (need : Option Need) (ticket : TicketState)
    → (if stopped then None else option_map (ticket_for lane) need) ≡ Some ticket → ticket.instance ≡ lane.instance
of_lane lane true need ticket is = absurd (cc)
of_lane lane false None ticket is = absurd (cc)
of_lane lane false (Some need) ticket is = ap (λ (t : TicketState). t.instance) (sym (same_Some (ticket_for lane need) ticket is))

pub ticket_own : (lane : LaneState) (ticket : TicketState) → ticket_of lane ≡ Some ticket → ticket.instance ≡ lane.instance
ticket_own lane ticket is = of_lane lane (is_full lane || is_some lane.journal.current) (lane_need lane) ticket is

fits_lane : (lane : LaneState) (ticket : TicketState) → IsLane lane → ticket_of lane ≡ Some ticket → FitsImage lane.image ticket
fits_lane lane ticket is gives = subst (λ given. IfSome given (FitsImage lane.image)) gives (ticket_fits lane is)

module _ (world : WorldState) (is : IsWorld world) (hands : List Held) (held : world.hands ≡ tickets_of hands) (worker instance : ℕ) (lane : LaneState)
    (hand : List TicketState) (at_lane : slice_get world.lanes instance ≡ Some lane) (at_hand : slice_get world.hands worker ≡ Some hand)
    (new : LaneState) (new_hand : Held) where
  abbrev pub after_take : WorldState
  after_take = record world { lanes = set world.lanes instance new; hands = tickets_of (set hands worker new_hand) }

  by_hand : (tickets : List TicketState) → new_hand.items ≡ tickets → after_take ≡ with_hand (with_lane world instance new) worker tickets
  by_hand tickets put =
      ap (λ all. record world { lanes = set world.lanes instance new; hands = all })
      (hands_set hands worker new_hand tickets put ∙ ap (λ all. set all worker tickets) (sym held))

  -- Nothing was taken.
  pub same_world : new ≡ lane → new_hand.items ≡ hand → after_take ≡ world
  same_world same put =
      by_hand hand put
      ∙ ap (λ lanes. with_hand (record world { lanes = lanes }) worker hand) (ap (set world.lanes instance) same ∙ set_same world.lanes instance lane at_lane)
      ∙ ap (λ all. record world { hands = all }) (set_same world.hands worker hand at_hand)

  took_world : (ticket : TicketState) → ticket_of lane ≡ Some ticket → new ≡ taken lane → new_hand.items ≡ hand ++ ticket ∷ [] → IsLane new → IsWorld after_take
  took_world ticket gives now put is_lane =
      let made : new ≡ with_taken lane (Some ticket) = now ∙ ap (with_taken lane) gives in
      subst IsWorld (sym (by_hand (hand ++ ticket ∷ []) put))
      (keeps_take world is worker instance hand lane new ticket at_hand at_lane is_lane (ap (λ (l : LaneState). l.instance) made)
      (ap (λ (l : LaneState). l.image) made) (ap (λ (l : LaneState). l.journal.outstanding) made) (ticket_own lane ticket gives)
      (fits_lane lane ticket (is.lanes instance lane at_lane).is_lane gives))

  module _ {E : Type 0} (is_lane : IsLane new) where
    pub take_keeps_world : (told : Result Bool E) → IfOk told (TakesInto lane hand new new_hand.items) → OnErr told (new ≡ lane)
        → OnErr told (new_hand.items ≡ hand) → IsWorld after_take
    take_keeps_world (Ok true) took kept_lane kept_hand = took_world took.0 took.1 took.2 took.3 is_lane
    take_keeps_world (Ok false) took kept_lane kept_hand = subst IsWorld (sym (same_world took.1 took.2)) is
    take_keeps_world (Err fault) took kept_lane kept_hand = subst IsWorld (sym (same_world kept_lane kept_hand)) is

    pub take_image : (told : Result Bool E) → IfOk told (TakesInto lane hand new new_hand.items) → OnErr told (new ≡ lane) → new.image ≡ lane.image
    take_image (Ok true) took kept_lane = ap (λ (l : LaneState). l.image) (took.2 ∙ ap (with_taken lane) took.1)
    take_image (Ok false) took kept_lane = ap (λ (l : LaneState). l.image) took.1
    take_image (Err fault) took kept_lane = ap (λ (l : LaneState). l.image) kept_lane

    pub take_happens : (told : Result Bool E) → IfOk told (TakesInto lane hand new new_hand.items)
        → IfOk (reply_of_take told) (λ answer. Happens world (event.Take worker instance) answer after_take)
    take_happens (Ok true) took = inl (record {
      hand = hand;
      is_hand = at_hand;
      lane = lane;
      is_lane = at_lane;
      ticket = took.0;
      gives = took.1;
      is = by_hand (hand ++ took.0 ∷ []) took.3 ∙ ap (λ l. with_hand (with_lane world instance l) worker (hand ++ took.0 ∷ [])) took.2;
      replied = refl;
    })
    take_happens (Ok false) took = inr (record {
      refused = inr (λ other there. ap ticket_of (same_Some other lane (sym there ∙ at_lane)) ∙ took.0);
      is = same_world took.1 took.2;
      replied = refl;
    })
    take_happens (Err fault) took = tt

    pub take_kept : (told : Result Bool E) → OnErr told (new ≡ lane) → OnErr told (new_hand.items ≡ hand) → OnErr (reply_of_take told) (after_take ≡ world)
    take_kept (Ok true) kept_lane kept_hand = tt
    take_kept (Ok false) kept_lane kept_hand = tt
    take_kept (Err fault) kept_lane kept_hand = same_world kept_lane kept_hand

-- ---- A ticket goes from hand to hand

module _ (hands : List Held) (to from : ℕ) (apart : to ≢ from) (within : to < length hands) (ticket : TicketState) (others : List TicketState)
    (first : slice_get (tickets_of hands) from ≡ Some (ticket ∷ others)) (hand roomy : Held) (hand_is : hand ≡ get_or hands to hand)
    (same : roomy.items ≡ hand.items) where
  at_to : slice_get (tickets_of hands) to ≡ Some hand.items
  at_to = hand_there hands to hand within hand_is

  pub room_kept : tickets_of (set hands to roomy) ≡ tickets_of hands
  room_kept = hands_set hands to roomy hand.items same ∙ set_same (tickets_of hands) to hand.items at_to

  pub from_within : from < length hands
  from_within = hand_within hands from (ticket ∷ others) first

  -- The other hand as it is read.
  pub other_is : (other : Held) → other ≡ get_or (set hands to roomy) from other → other.items ≡ ticket ∷ others
  other_is other is = hand_read (set hands to roomy) from other (ticket ∷ others) (ap (λ all. slice_get all from) room_kept ∙ first) is

  module _ (other left : Held) (taken : TicketState) (other_read : other ≡ get_or (set hands to roomy) from other)
      (taken_is : taken ≡ get_or other.items 0 taken) (left_is : left.items ≡ remove other.items 0) where
    pub taken_first : taken ≡ ticket
    taken_first = taken_is ∙ ap (λ xs. get_or xs 0 taken) (other_is other other_read)

    left_others : left.items ≡ others
    left_others = left_is ∙ ap (λ xs. remove xs 0) (other_is other other_read)

    after_left : tickets_of (set (set hands to roomy) from left) ≡ set (tickets_of hands) from others
    after_left = hands_set (set hands to roomy) from left others left_others ∙ ap (λ all. set all from others) room_kept

    own_is : (own : Held) → own ≡ get_or (set (set hands to roomy) from left) to own → own.items ≡ hand.items
    own_is own is =
        hand_read (set (set hands to roomy) from left) to own hand.items
        (ap (λ all. slice_get all to) after_left ∙ set_elsewhere (tickets_of hands) from to others apart ∙ at_to) is

    pub moves_first : (own put : Held) → own ≡ get_or (set (set hands to roomy) from left) to own → put.items ≡ own.items ++ taken ∷ []
        → MovesFirst (tickets_of hands) to from (tickets_of (set (set (set hands to roomy) from left) to put))
    moves_first own put own_read put_is = record {
      ticket = ticket;
      others = others;
      first = first;
      hand = hand.items;
      is_hand = at_to;
      is = hands_set (set (set hands to roomy) from left) to put (hand.items ++ ticket ∷ [])
          (put_is ∙ ap (λ items. items ++ taken ∷ []) (own_is own own_read) ∙ ap (λ t. hand.items ++ t ∷ []) taken_first)
          ∙ ap (λ all. set all to (hand.items ++ ticket ∷ [])) after_left;
    }

pub steal_keeps_world : (world : WorldState) (worker from : ℕ) (new : List (List TicketState)) → IsWorld world → worker ≢ from
    → MovesFirst world.hands worker from new → IsWorld (record world { hands = new })
steal_keeps_world world worker from new is apart moves =
    subst (λ hands. IsWorld (record world { hands = hands })) (sym moves.is)
    (keeps_steal world is worker from moves.hand moves.others moves.ticket moves.first
    (set_elsewhere world.hands from worker moves.others apart ∙ moves.is_hand))
