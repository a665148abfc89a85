-- Tickets that end, and tickets that go to hands: what is read of hands and lanes, and the world afterwards.
use Rattle.std.proofs.Common.{◌≡◌, ◌≢◌, ◌∙◌, ℕ, zero, suc, ◌==◌, ◌&&◌, ◌<◌, Bool, true, false, List, []}
use Rattle.std.proofs.Common.{◌∷◌, set, get_or, remove, length, Some, refl, sym, ap, subst}
use Rattle.std.proofs.Common.{arith}
use Rattle.std.proofs.lemmas.Bool.{eq-eqb}
use Rattle.std.proofs.lemmas.Bool.Decides.{nat_tests}
use Rattle.std.proofs.lemmas.List.{get_or-set_same, length-map, map-set}
use Rattle.std.proofs.lemmas.Option.{same_Some, slice_get-map, slice_get_within}
use Rattle.std.specs.List.{AllZip}
use Rattle.std.specs.Option.{option_map}
use Rattle.std.specs.Prelude.{nat_lt, not, slice_get, vec_len}
use Rattle.guess_board.specs.Events.{is_of}
use Rattle.guess_board.specs.Journals.{is_listed}
use Rattle.guess_board.specs.Lanes.{FitsImage, LaneState, TicketState}
use Rattle.spec_core.specs.Events.{HasFirst, HasNoTicket, HasTicket, with_hand, with_lane}
use Rattle.spec_core.specs.Keeping.{Held, IsUnitOf, tickets_of}
use Rattle.spec_core.specs.Worlds.{FitsInstance, IsWorld, WorldState, images_of}
use Rattle.list_laws.proofs.Members.{read_at}
use Rattle.spec_core.proofs.HandLaws.{ticket_is_out}
use Rattle.unit_exec.specs.Images.{Compiled}
use Rattle.unit_exec.specs.Running.{Running}

-- What is read at a worker's place is its hand.
pub hand_read : (hands : List Held) (worker : ℕ) (hand : Held) (tickets : List TicketState) → slice_get (tickets_of hands) worker ≡ Some tickets
    → hand ≡ get_or hands worker hand → hand.items ≡ tickets
hand_read hands worker hand tickets at is =
    let within = subst (λ n. worker < n) (length-map hands (λ (one : Held). one.items)) (slice_get_within (tickets_of hands) worker tickets at) in
    same_Some hand.items tickets
    (sym (slice_get-map (λ (one : Held). one.items) hands worker ∙ ap (option_map (λ (one : Held). one.items)) (read_at hands worker hand within is)) ∙ at)

pub hand_within : (hands : List Held) (worker : ℕ) (tickets : List TicketState) → slice_get (tickets_of hands) worker ≡ Some tickets → worker < length hands
hand_within hands worker tickets at =
    subst (λ n. worker < n) (length-map hands (λ (one : Held). one.items)) (slice_get_within (tickets_of hands) worker tickets at)

pub hand_there : (hands : List Held) (worker : ℕ) (hand : Held) → worker < length hands → hand ≡ get_or hands worker hand
    → slice_get (tickets_of hands) worker ≡ Some hand.items
hand_there hands worker hand within is =
    slice_get-map (λ (one : Held). one.items) hands worker ∙ ap (option_map (λ (one : Held). one.items)) (read_at hands worker hand within is)

-- Hands of which one was changed.
pub hands_set : (hands : List Held) (worker : ℕ) (hand : Held) (tickets : List TicketState) → hand.items ≡ tickets
    → tickets_of (set hands worker hand) ≡ set (tickets_of hands) worker tickets
hands_set hands worker hand tickets is = map-set (λ (one : Held). one.items) hands worker hand ∙ ap (set (tickets_of hands) worker) is

-- Units stay those of their lanes.
pub units_kept : (lanes : List LaneState) (units : List Running) (k : ℕ) (old new : LaneState) → AllZip IsUnitOf lanes units
    → slice_get lanes k ≡ Some old → new.image ≡ old.image → AllZip IsUnitOf (set lanes k new) units
units_kept [] units k old new all at same = absurd (cc)
units_kept (lane ∷ lanes) [] k old new all at same = absurd all
units_kept (lane ∷ lanes) (unit ∷ units) zero old new all at same =
    (all.0 ∙ ap (λ (l : LaneState). l.image) (same_Some lane old at) ∙ sym same, all.1)
units_kept (lane ∷ lanes) (unit ∷ units) (suc k) old new all at same = (all.0, units_kept lanes units k old new all.1 at same)

-- A unit after its run has the image of its lane.
pub units_run : (lanes : List LaneState) (units : List Running) (k : ℕ) (unit new : Running) → AllZip IsUnitOf lanes units
    → unit ≡ get_or units k unit → new.image ≡ unit.image → AllZip IsUnitOf lanes (set units k new)
units_run [] [] k unit new all is same = tt
units_run [] (first ∷ units) k unit new all is same = absurd all
units_run (lane ∷ lanes) [] k unit new all is same = absurd all
units_run (lane ∷ lanes) (first ∷ units) zero unit new all is same = (same ∙ ap (λ (u : Running). u.image) is ∙ all.0, all.1)
units_run (lane ∷ lanes) (first ∷ units) (suc k) unit new all is same = (all.0, units_run lanes units k unit new all.1 is same)

pub unit_image : (lanes : List LaneState) (units : List Running) (k : ℕ) (lane : LaneState) (unit : Running) → AllZip IsUnitOf lanes units
    → slice_get lanes k ≡ Some lane → unit ≡ get_or units k unit → unit.image ≡ lane.image
unit_image [] units k lane unit all at is = absurd (cc)
unit_image (first ∷ lanes) [] k lane unit all at is = absurd all
unit_image (first ∷ lanes) (one ∷ units) zero lane unit all at is = ap (λ (u : Running). u.image) is ∙ all.0 ∙ ap (λ (l : LaneState). l.image)
    (same_Some first lane at)
unit_image (first ∷ lanes) (one ∷ units) (suc k) lane unit all at is = unit_image lanes units k lane unit all.1 at is

pub units_long : (lanes : List LaneState) (units : List Running) → AllZip IsUnitOf lanes units → length units ≡ length lanes
units_long [] [] all = refl
units_long [] (unit ∷ units) all = absurd all
units_long (lane ∷ lanes) [] all = absurd all
units_long (lane ∷ lanes) (unit ∷ units) all = ap suc (units_long lanes units all.1)

-- ---- The first ticket of a hand

lane_imaged : (lanes : List LaneState) (k : ℕ) (image : Compiled) → slice_get (images_of lanes) k ≡ Some image
    → (lane : LaneState) × (slice_get lanes k ≡ Some lane) × (lane.image ≡ image)
lane_imaged [] k image at = absurd (cc)
lane_imaged (lane ∷ lanes) zero image at = (lane, refl, same_Some lane.image image at)
lane_imaged (lane ∷ lanes) (suc k) image at = lane_imaged lanes k image at

-- The first ticket of a hand is outstanding in the lane of its instance, and fits it.
pub record IsFirst (world : WorldState) (worker : ℕ) (ticket : TicketState) (others : List TicketState) : Type 0 where
  pub first : HasFirst world worker ticket others
  pub lane : LaneState
  pub there : slice_get world.lanes ticket.instance ≡ Some lane
  pub own : is_of lane ticket ≡ true
  pub fits : FitsImage lane.image ticket

both_true : (a b : Bool) → a ≡ true → b ≡ true → (a && b) ≡ true
both_true a b one other = cc

-- A ticket in a hand is outstanding in the lane of its instance, and fits it.
pub record IsTicketThere (world : WorldState) (ticket : TicketState) : Type 0 where
  pub lane : LaneState
  pub there : slice_get world.lanes ticket.instance ≡ Some lane
  pub own : is_of lane ticket ≡ true
  pub fits : FitsImage lane.image ticket

pub ticket_there : (world : WorldState) (worker place : ℕ) (hand : List TicketState) (ticket : TicketState) → IsWorld world
    → slice_get world.hands worker ≡ Some hand → slice_get hand place ≡ Some ticket → FitsInstance (images_of world.lanes) ticket → IsTicketThere world ticket
ticket_there world worker place hand ticket is at in_hand fits =
    let found = lane_imaged world.lanes ticket.instance fits.image fits.is_image in
    let lane = is.lanes ticket.instance found.0 found.1 in
    record {
      lane = found.0;
      there = found.1;
      own = both_true (ticket.instance == found.0.instance) (is_listed ticket.number found.0.journal.outstanding)
          (eq-eqb ticket.instance found.0.instance (sym lane.own))
          (ticket_is_out ticket.instance found.0.journal.outstanding world.hands lane.out worker place hand ticket at in_hand refl);
      fits = subst (λ image. FitsImage image ticket) (sym found.2) fits.fits;
    }

pub first_ticket : (world : WorldState) (worker : ℕ) (ticket : TicketState) (others : List TicketState) → IsWorld world → HasFirst world worker ticket others
    → IsFirst world worker ticket others
first_ticket world worker ticket others is first =
    let found = ticket_there world worker 0 (ticket ∷ others) ticket is first refl (is.tickets worker (ticket ∷ others) first).0 in
    record { first = first; lane = found.lane; there = found.there; own = found.own; fits = found.fits }

-- A ticket that was taken out of a hand.
pub record IsTakenOut (world : WorldState) (hands : List Held) (worker : ℕ) (ticket : TicketState) (hand : Held) : Type 0 where
  pub others : List TicketState
  pub left : hand.items ≡ others
  pub is_first : IsFirst world worker ticket others

-- The world after a ticket has ended: its lane and its hand changed.
pub ended_world : (world : WorldState) (hands : List Held) (worker place : ℕ) (new : LaneState) (hand : Held) (ticket : TicketState)
    (others : List TicketState) → world.hands ≡ tickets_of hands → place ≡ ticket.instance → hand.items ≡ others
    → record world { lanes = set world.lanes place new; hands = tickets_of (set hands worker hand) }
    ≡ with_hand (with_lane world ticket.instance new) worker others
ended_world world hands worker place new hand ticket others held place_is left =
    ap (λ k. record world { lanes = set world.lanes k new; hands = tickets_of (set hands worker hand) }) place_is
    ∙ ap (λ all. record world { lanes = set world.lanes ticket.instance new; hands = all })
    (hands_set hands worker hand others left ∙ ap (λ all. set all worker others) (sym held))

-- A worker's first ticket is taken out of its hand.
pub taken_out : (world : WorldState) (hands : List Held) (worker : ℕ) (hand : Held) (ticket : TicketState) (left : Held) → IsWorld world
    → world.hands ≡ tickets_of hands → HasTicket world worker → hand ≡ get_or hands worker hand → ticket ≡ get_or hand.items 0 ticket
    → left.items ≡ remove hand.items 0 → IsTakenOut world hands worker ticket left
taken_out world hands worker hand ticket left is held has read first rest =
    let items : hand.items ≡ has.ticket ∷ has.others =
    hand_read hands worker hand (has.ticket ∷ has.others) (ap (λ all. slice_get all worker) (sym held) ∙ has.first) read in
    let same : ticket ≡ has.ticket = first ∙ ap (λ xs. get_or xs 0 ticket) items in
    record {
      others = has.others;
      left = rest ∙ ap (λ xs. remove xs 0) items;
      is_first = subst (λ one. IsFirst world worker one has.others) (sym same) (first_ticket world worker has.ticket has.others is has.first);
    }

-- What is read where it was stored.
pub put_read : (lanes : List LaneState) (k : ℕ) (new seen : LaneState) → k < length lanes → seen ≡ get_or (set lanes k new) k seen → seen ≡ new
put_read lanes k new seen within is = is ∙ get_or-set_same lanes k new seen within

-- ---- Whether a worker has a ticket

pub hand_read_at : (hands seen : List Held) (worker : ℕ) (hand : Held) → seen ≡ hands → true ≡ nat_lt worker (length seen) → hand ≡ get_or seen worker hand
    → slice_get (tickets_of hands) worker ≡ Some hand.items
hand_read_at hands seen worker hand same within is =
    ap (λ all. slice_get (tickets_of all) worker) (sym same) ∙ hand_there seen worker hand (grind (arith, nat_tests)) is

has_by : (world : WorldState) (worker : ℕ) (tickets : List TicketState) → slice_get world.hands worker ≡ Some tickets → length tickets ≢ 0 → HasTicket world
    worker
has_by world worker [] at some = absurd (some refl)
has_by world worker (ticket ∷ others) at some = record { ticket = ticket; others = others; first = at }

some_long : (n : ℕ) (empty : Bool) → empty ≡ (n == 0) → not empty ≡ true → n ≢ 0
some_long n empty is full none = absurd (grind (arith, nat_tests))

pub has_some : (world : WorldState) (worker : ℕ) (hand : Held) (empty : Bool) → slice_get world.hands worker ≡ Some hand.items → empty ≡ (vec_len hand == 0)
    → not empty ≡ true → HasTicket world worker
has_some world worker hand empty at is full =
    has_by world worker hand.items at (λ none. some_long (vec_len hand) empty is full (hand.ok.0 ∙ none))

pub has_none : (world : WorldState) (worker : ℕ) (hand : Held) (empty : Bool) → slice_get world.hands worker ≡ Some hand.items → empty ≡ (vec_len hand == 0)
    → not empty ≡ false → HasNoTicket world worker
has_none world worker hand empty at is none ticket others first =
    let same = same_Some hand.items (ticket ∷ others) (sym at ∙ first) in
    let long : vec_len hand ≡ suc (length others) = hand.ok.0 ∙ ap length same in
    absurd (grind (arith, nat_tests))

pub no_hand : (world : WorldState) (hands seen : List Held) (worker : ℕ) → seen ≡ hands → false ≡ nat_lt worker (length seen) → world.hands ≡ tickets_of hands
    → HasNoTicket world worker
no_hand world hands seen worker same past held ticket others first =
    let within = hand_within hands worker (ticket ∷ others) (ap (λ all. slice_get all worker) (sym held) ∙ first) in
    let long = ap length same in
    absurd (grind (arith, nat_tests))
