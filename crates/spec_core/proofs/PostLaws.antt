-- The answers to a worker's first ticket are posted.
use Rattle.std.proofs.Common.{◌≡◌, ◌∙◌, ◌<◌, ◌+◌, ℕ, List, ◌∷◌, get_or, length, Some, Result, Ok, Err, refl, sym, ap, subst, inl}
use Rattle.std.proofs.lemmas.Option.{same_Some, slice_get_within}
use Rattle.std.specs.List.{AllZip}
use Rattle.std.specs.Prelude.{IfOk, OnErr, slice_get}
use Rattle.guess_board.specs.Lanes.{IsLane, LaneState, TicketState}
use Rattle.spec_core.specs.Events.{Happens, HasTicket, posted_by, with_hand, with_lane}
use Rattle.spec_core.specs.Keeping.{CanPost, Held, IsUnitOf, PostsFrom, reply_of_post, tickets_of}
use Rattle.spec_core.specs.Worlds.{IsWorld, WorldState}
use Rattle.spec_core.specs.declared.event.Event.TheVariants as event
use Rattle.list_laws.proofs.Members.{read_at}
use Rattle.spec_core.proofs.EndLaws.{IsFirst, ended_world, first_ticket, hand_read, unit_image}
use Rattle.spec_core.proofs.TakeLaws.{after_take, same_world}
use Rattle.spec_core.proofs.WorldLaws.{keeps_end}
use Rattle.unit_exec.specs.Running.{Running}

-- A worker's first ticket, as it is read, with the place of its instance.
pub record IsRead (world : WorldState) (hands : List Held) (worker : ℕ) (ticket : TicketState) (place : ℕ) : Type 0 where
  pub others : List TicketState
  pub at_hand : slice_get world.hands worker ≡ Some (ticket ∷ others)
  pub is_first : IsFirst world worker ticket others
  pub place_is : place ≡ ticket.instance
  pub there : slice_get world.lanes place ≡ Some is_first.lane
  pub within : place < length world.lanes

pub ticket_read : (world : WorldState) (hands : List Held) (worker : ℕ) (hand : Held) (ticket : TicketState) (place : ℕ) → IsWorld world
    → world.hands ≡ tickets_of hands → HasTicket world worker → hand ≡ get_or hands worker hand → ticket ≡ get_or hand.items 0 ticket
    → place ≡ ticket.instance → IsRead world hands worker ticket place
ticket_read world hands worker hand ticket place is held has read first place_is =
    let items : hand.items ≡ has.ticket ∷ has.others =
    hand_read hands worker hand (has.ticket ∷ has.others) (ap (λ all. slice_get all worker) (sym held) ∙ has.first) read in
    let same : ticket ≡ has.ticket = first ∙ ap (λ xs. get_or xs 0 ticket) items in
    let at = subst (λ one. slice_get world.hands worker ≡ Some (one ∷ has.others)) (sym same) has.first in
    let found = first_ticket world worker ticket has.others is at in
    let there = ap (slice_get world.lanes) place_is ∙ found.there in
    record {
      others = has.others;
      at_hand = at;
      is_first = found;
      place_is = place_is;
      there = there;
      within = slice_get_within world.lanes place found.lane there;
    }

module _ (world : WorldState) (is : IsWorld world) (hands : List Held) (held : world.hands ≡ tickets_of hands) (worker : ℕ) (ticket : TicketState)
    (place : ℕ) (read : IsRead world hands worker ticket place) (lane : LaneState) (lane_read : lane ≡ get_or world.lanes place lane) (hand : Held)
    (hand_is : hand ≡ get_or hands worker hand) where
  pub at_lane : slice_get world.lanes place ≡ Some lane
  at_lane = read_at world.lanes place lane read.within lane_read

  lane_same : lane ≡ read.is_first.lane
  lane_same = same_Some lane read.is_first.lane (sym at_lane ∙ read.there)

  items : hand.items ≡ ticket ∷ read.others
  items = hand_read hands worker hand (ticket ∷ read.others) (ap (λ all. slice_get all worker) (sym held) ∙ read.at_hand) hand_is

  pub at_hand : slice_get world.hands worker ≡ Some hand.items
  at_hand = read.at_hand ∙ ap Some (sym items)

  by_instance : slice_get world.lanes ticket.instance ≡ Some lane
  by_instance = ap (slice_get world.lanes) (sym read.place_is) ∙ at_lane

  pub can_post : (units : List Running) (unit : Running) → AllZip IsUnitOf world.lanes units → unit ≡ get_or units place unit → CanPost lane unit hand.items
  can_post units unit all unit_read = subst (λ l. CanPost l unit hand.items) (sym lane_same) (record {
    ticket = ticket;
    others = read.others;
    is = items;
    own = read.is_first.own;
    fits = read.is_first.fits;
    unit_is = unit_image world.lanes units place read.is_first.lane unit all read.there unit_read;
  })

  module _ (new : LaneState) (new_hand : Held) (cells : ℕ) (is_lane : IsLane new) where
    abbrev after : WorldState
    after = after_take world is hands held worker place lane hand.items at_lane at_hand new new_hand

    record IsPosted (appended : ℕ) : Type 0 where
      left : new_hand.items ≡ read.others
      made : new ≡ posted_by lane ticket cells
      count : appended + length lane.answers ≡ length (posted_by lane ticket cells).answers

    is_posted : (appended : ℕ) → PostsFrom cells lane hand.items new new_hand.items appended → IsPosted appended
    is_posted appended p = record {
      left = rest;
      made = p.posted ∙ ap (λ t. posted_by lane t cells) first;
      count = p.count ∙ ap (λ t. length (posted_by lane t cells).answers) first;
    }
      where
        both : p.ticket ∷ new_hand.items ≡ ticket ∷ read.others
        both = sym p.is ∙ items

        first_of_both : (x y : TicketState) (xs ys : List TicketState) → x ∷ xs ≡ y ∷ ys → x ≡ y
        first_of_both x y xs ys e = cc

        rest_of_both : (x y : TicketState) (xs ys : List TicketState) → x ∷ xs ≡ y ∷ ys → xs ≡ ys
        rest_of_both x y xs ys e = cc

        first : p.ticket ≡ ticket
        first = first_of_both p.ticket ticket new_hand.items read.others both

        rest : new_hand.items ≡ read.others
        rest = rest_of_both p.ticket ticket new_hand.items read.others both

    ended : new_hand.items ≡ read.others → after ≡ with_hand (with_lane world ticket.instance new) worker read.others
    ended left = ended_world world hands worker place new new_hand ticket read.others held read.place_is left

    pub post_keeps_world : {E : Type 0} (told : Result ℕ E) → IfOk told (PostsFrom cells lane hand.items new new_hand.items) → OnErr told (new ≡ lane)
        → OnErr told (new_hand.items ≡ hand.items) → IsWorld (after_take world is hands held worker place lane hand.items at_lane at_hand new new_hand)
    post_keeps_world (Ok appended) posts kept_lane kept_hand =
        let p = is_posted appended posts in
        subst IsWorld (sym (ended p.left))
        (keeps_end world is worker ticket read.others lane new read.at_hand by_instance is_lane (ap (λ (l : LaneState). l.instance) p.made)
        (ap (λ (l : LaneState). l.image) p.made) (ap (λ (l : LaneState). l.journal.outstanding) p.made))
    post_keeps_world (Err fault) posts kept_lane kept_hand =
        subst IsWorld (sym (same_world world is hands held worker place lane hand.items at_lane at_hand new new_hand kept_lane kept_hand)) is

    pub post_image : {E : Type 0} (told : Result ℕ E) → IfOk told (PostsFrom cells lane hand.items new new_hand.items) → OnErr told (new ≡ lane)
        → new.image ≡ lane.image
    post_image (Ok appended) posts kept_lane = ap (λ (l : LaneState). l.image) (is_posted appended posts).made
    post_image (Err fault) posts kept_lane = ap (λ (l : LaneState). l.image) kept_lane

    pub post_happens : {E : Type 0} (told : Result ℕ E) → IfOk told (PostsFrom cells lane hand.items new new_hand.items)
        → IfOk (reply_of_post told) (λ answer. Happens world (event.Post worker cells) answer
        (after_take world is hands held worker place lane hand.items at_lane at_hand new new_hand))
    post_happens (Ok appended) posts =
        let p = is_posted appended posts in
        inl (record {
          ticket = ticket;
          others = read.others;
          first = read.at_hand;
          lane = lane;
          is_lane = by_instance;
          is = ended p.left ∙ ap (λ l. with_hand (with_lane world ticket.instance l) worker read.others) p.made;
          appended = appended;
          appended_is = p.count;
          replied = refl;
        })
    post_happens (Err fault) posts = tt

    pub post_kept : {E : Type 0} (told : Result ℕ E) → OnErr told (new ≡ lane) → OnErr told (new_hand.items ≡ hand.items)
        → OnErr (reply_of_post told) (after_take world is hands held worker place lane hand.items at_lane at_hand new new_hand ≡ world)
    post_kept (Ok appended) kept_lane kept_hand = tt
    post_kept (Err fault) kept_lane kept_hand =
        same_world world is hands held worker place lane hand.items at_lane at_hand new new_hand kept_lane kept_hand
