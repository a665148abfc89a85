-- Sums of tickets: of each lane, and of all.
use Rattle.std.proofs.Common.{◌≡◌, ◌∙◌, ℕ, zero, suc, ◌+◌, ◌≤◌, ◌<◌, ◌*◌, ◌^◌, ◌==◌, Bool, true, false, List, [], ◌∷◌, length, Some, refl, sym, ap, subst}
use Rattle.std.proofs.Common.{arith}
use Rattle.std.proofs.lemmas.Bool.{eqb-true, eqb-false}
use Rattle.std.proofs.lemmas.List.{length-map}
use Rattle.std.proofs.lemmas.List.Sums.{sum_by-cons}
use Rattle.std.proofs.lemmas.Option.{slice_get_within}
use Rattle.std.specs.List.{AllByRecursion, sum_by}
use Rattle.std.specs.Prelude.{if◌then◌else◌, slice_get}
use Rattle.guess_board.specs.Lanes.{LaneState, TicketState}
use Rattle.list_laws.proofs.Lists.{each_so}
use Rattle.list_laws.proofs.Members.{each_has, has_at}
use Rattle.spec_core.proofs.EndLaws.{ticket_there}
use Rattle.spec_core.specs.Tickets.{AllTicketsAddUp, IsOut, TicketsAddUp, TicketsAreOut, tally_of, tickets_of_instance}
use Rattle.spec_core.specs.Worlds.{FitsInstance, IsWorld, WorldState, counted, images_of, tickets_in}

-- ---- Sums over instances from one number on

abbrev sums : (ℕ → ℕ) → ℕ → ℕ → ℕ
sums f from zero = 0
sums f from (suc count) = f from + sums f (suc from) count

sums_of_two : (f g : ℕ → ℕ) (from count : ℕ) → sums (λ i. f i + g i) from count ≡ sums f from count + sums g from count
sums_of_two f g from zero = refl
sums_of_two f g from (suc count) = let others = sums_of_two f g (suc from) count in omega (arith, others)

sums_as : (f g : ℕ → ℕ) (from count : ℕ) → ((i : ℕ) → f i ≡ g i) → sums f from count ≡ sums g from count
sums_as f g from zero same = refl
sums_as f g from (suc count) same = let others = sums_as f g (suc from) count same in let here = same from in omega (arith, others, here)

sums_none : (from count : ℕ) → sums (λ i. 0) from count ≡ 0
sums_none from zero = refl
sums_none from (suc count) = let others = sums_none (suc from) count in omega (arith, others)

-- A number is counted once among those that have it.
abbrev one_at : ℕ → ℕ → ℕ
one_at n i = if n == i then 1 else 0

-- none of them, where all are greater
before_all : (n from count : ℕ) → n < from → sums (one_at n) from count ≡ 0
before_all n from zero before = refl
before_all n from (suc count) before = at (n == from) refl (before_all n (suc from) count (omega (arith, before)))
  where
    at : (b : Bool) → (n == from) ≡ b → sums (one_at n) (suc from) count ≡ 0 → (if b then 1 else 0) + sums (one_at n) (suc from) count ≡ 0
    at true same others = absurd (omega (arith, eqb-true n from same, before))
    at false same others = omega (arith, others)

once : (n from count : ℕ) → from ≤ n → n < from + count → sums (one_at n) from count ≡ 1
once n from zero least most = absurd (omega (arith, least, most))
once n from (suc count) least most = at (n == from) refl (λ later. once n (suc from) count later (omega (arith, most)))
  where
    at : (b : Bool) → (n == from) ≡ b → (suc from ≤ n → sums (one_at n) (suc from) count ≡ 1)
        → (if b then 1 else 0) + sums (one_at n) (suc from) count ≡ 1
    at true same others = let none = before_all n (suc from) count (let is = eqb-true n from same in omega (arith, is)) in omega (arith, none)
    at false same others = let differ = eqb-false n from same in let rest = others (omega (arith, least, differ)) in omega (arith, rest)

-- ---- Tickets by their instances

abbrev IsBelow : ℕ → TicketState → Type 0
IsBelow count ticket = ticket.instance < count

hand_sums : (count : ℕ) (hand : List TicketState) → AllByRecursion (IsBelow count) hand
    → sums (λ i. sum_by (counted i (λ n. 1)) hand) 0 count ≡ length hand
hand_sums count [] each = sums_none 0 count
hand_sums count (ticket ∷ others) each =
    let split : sums (λ i. sum_by (counted i (λ n. 1)) (ticket ∷ others)) 0 count
    ≡ sums (λ i. counted i (λ n. 1) ticket + sum_by (counted i (λ n. 1)) others) 0 count =
    sums_as (λ i. sum_by (counted i (λ n. 1)) (ticket ∷ others)) (λ i. counted i (λ n. 1) ticket + sum_by (counted i (λ n. 1)) others) 0 count
    (λ i. sum_by-cons (counted i (λ n. 1)) ticket others) in
    let two = sums_of_two (λ i. counted i (λ n. 1) ticket) (λ i. sum_by (counted i (λ n. 1)) others) 0 count in
    let first = once ticket.instance 0 count (omega arith) (let within : ticket.instance < count = each.0 in omega (arith, within)) in
    let rest = hand_sums count others each.1 in
    split ∙ two ∙ omega (arith, first, rest)

all_sums : (count : ℕ) (hands : List (List TicketState)) → AllByRecursion (AllByRecursion (IsBelow count)) hands
    → sums (λ i. tickets_of_instance i hands) 0 count ≡ tickets_in hands
all_sums count [] each = sums_none 0 count
all_sums count (hand ∷ hands) each =
    let split : sums (λ i. tickets_of_instance i (hand ∷ hands)) 0 count
    ≡ sums (λ i. sum_by (counted i (λ n. 1)) hand + tickets_of_instance i hands) 0 count =
    sums_as (λ i. tickets_of_instance i (hand ∷ hands)) (λ i. sum_by (counted i (λ n. 1)) hand + tickets_of_instance i hands) 0 count
    (λ i. sum_by-cons (λ one. sum_by (counted i (λ n. 1)) one) hand hands) in
    let two = sums_of_two (λ i. sum_by (counted i (λ n. 1)) hand) (λ i. tickets_of_instance i hands) 0 count in
    let first = hand_sums count hand each.0 in
    let rest = all_sums count hands each.1 in
    let last = sum_by-cons (λ (one : List TicketState). length one) hand hands in
    split ∙ two ∙ omega (arith, first, rest, last)

-- ---- Lanes

one_each : (ns : List ℕ) → sum_by (λ n. 1) ns ≡ length ns
one_each [] = refl
one_each (n ∷ ns) = let first = sum_by-cons (λ (m : ℕ). 1) n ns in let rest = one_each ns in omega (arith, first, rest)

-- How many tickets of a lane are outstanding.
pub out_in_hands : (world : WorldState) (instance : ℕ) (lane : LaneState) → IsWorld world → slice_get world.lanes instance ≡ Some lane
    → length lane.journal.outstanding ≡ tickets_of_instance instance world.hands
out_in_hands world instance lane is at = sym (one_each lane.journal.outstanding) ∙ (is.lanes instance lane at).out (λ n. 1)

pub tickets_add_up : TicketsAddUp
tickets_add_up world instance lane is at =
    (is.lanes instance lane at).is_lane.booked.sum
    ∙ ap (λ n. (tally_of lane).posted + (tally_of lane).back + n) (out_in_hands world instance lane is at)

lane_sums : (f g h : LaneState → ℕ) (of : ℕ → ℕ) (lanes : List LaneState) (from : ℕ)
    → ((k : ℕ) (lane : LaneState) → slice_get lanes k ≡ Some lane → f lane ≡ g lane + h lane + of (from + k))
    → sum_by f lanes ≡ sum_by g lanes + sum_by h lanes + sums of from (length lanes)
lane_sums f g h of [] from each = omega arith
lane_sums f g h of (lane ∷ lanes) from each =
    let own : f lane ≡ g lane + h lane + of from = each 0 lane refl ∙ ap (λ n. g lane + h lane + of n) (omega arith) in
    let rest = lane_sums f g h of lanes (suc from) (λ k one at. each (suc k) one at ∙ ap (λ n. g one + h one + of n) (omega arith)) in
    let a = sum_by-cons f lane lanes in
    let b = sum_by-cons g lane lanes in
    let c = sum_by-cons h lane lanes in
    omega (arith, own, rest, a, b, c)

-- ---- Hands

by_places : {A : Type 0} (P : A → Type 0) (xs : List A) → ((k : ℕ) (x : A) → slice_get xs k ≡ Some x → P x) → AllByRecursion P xs
by_places P [] each = tt
by_places P (x ∷ xs) each = (each 0 x refl, by_places P xs (λ k y at. each (suc k) y at))

image_within : (lanes : List LaneState) (ticket : TicketState) → FitsInstance (images_of lanes) ticket → ticket.instance < length lanes
image_within lanes ticket fits =
    subst (λ n. ticket.instance < n) (length-map lanes (λ (lane : LaneState). lane.image))
    (slice_get_within (images_of lanes) ticket.instance fits.image fits.is_image)

hands_below : (world : WorldState) → IsWorld world → AllByRecursion (AllByRecursion (IsBelow (length world.lanes))) world.hands
hands_below world is =
    by_places (AllByRecursion (IsBelow (length world.lanes))) world.hands
    (λ worker hand at. each_so (FitsInstance (images_of world.lanes)) (IsBelow (length world.lanes)) (image_within world.lanes) hand
    (is.tickets worker hand at))

pub all_tickets_add_up : AllTicketsAddUp
all_tickets_add_up world is =
    lane_sums (λ lane. (tally_of lane).tickets) (λ lane. (tally_of lane).posted) (λ lane. (tally_of lane).back)
    (λ instance. tickets_of_instance instance world.hands) world.lanes 0
    (λ k lane at. tickets_add_up world k lane is at ∙ ap (λ n. (tally_of lane).posted + (tally_of lane).back + tickets_of_instance n world.hands) (omega arith))
    ∙ ap (λ n. sum_by (λ lane. (tally_of lane).posted) world.lanes + sum_by (λ lane. (tally_of lane).back) world.lanes + n)
    (all_sums (length world.lanes) world.hands (hands_below world is))

-- ---- How many there may be

few_out : (world : WorldState) → IsWorld world → (from : ℕ) (lanes : List LaneState)
    → ((k : ℕ) (lane : LaneState) → slice_get lanes k ≡ Some lane → slice_get world.lanes (from + k) ≡ Some lane)
    → sums (λ instance. tickets_of_instance instance world.hands) from (length lanes) ≤ 2 ^ 32 * length lanes
few_out world is from [] each = omega arith
few_out world is from (lane ∷ lanes) each =
    let at : slice_get world.lanes from ≡ Some lane = ap (slice_get world.lanes) (omega arith) ∙ each 0 lane refl in
    let own = out_in_hands world from lane is at in
    let size = (is.lanes from lane at).is_lane.booked.size in
    let rest = few_out world is (suc from) lanes (λ k one there. ap (slice_get world.lanes) (omega arith) ∙ each (suc k) one there) in
    omega (arith, own, size, rest)

pub few_tickets : (world : WorldState) → IsWorld world → tickets_in world.hands ≤ 2 ^ 32 * 64
few_tickets world is =
    let all = all_sums (length world.lanes) world.hands (hands_below world is) in
    let few = few_out world is 0 world.lanes (λ k lane at. ap (slice_get world.lanes) (omega arith) ∙ at) in
    let members = is.stands.bounded.members in
    let each = is.each_instance in
    omega (arith, all, few, members, each)

-- ---- Tickets in hands are outstanding

each_out : (world : WorldState) (worker : ℕ) (hand : List TicketState) → IsWorld world → slice_get world.hands worker ≡ Some hand
    → AllByRecursion (FitsInstance (images_of world.lanes)) hand → AllByRecursion (IsOut world.lanes) hand
each_out world worker hand is at fits =
    by_places (IsOut world.lanes) hand (λ place ticket there.
    let found = ticket_there world worker place hand ticket is at there
    (each_has (FitsInstance (images_of world.lanes)) hand ticket fits (has_at hand place ticket there)) in
    record { lane = found.lane; is_lane = found.there; own = found.own })

pub tickets_are_out : TicketsAreOut
tickets_are_out world worker hand is at = each_out world worker hand is at (is.tickets worker hand at)
