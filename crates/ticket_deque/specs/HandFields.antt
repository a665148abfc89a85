-- What contracts see of the fields of a hand.
use Rattle.std.specs.Prelude.{◌≡◌, ℕ, ◌≤◌, List, [], length}
use Rattle.crossbeam_deque.specs.Handles.{worker_deque, worker_flavor, worker_port, worker_view, worker_capacity, worker_index}
use Rattle.ticket_deque.specs.Ends.{HandState}
use Rattle.ticket_deque.specs.declared.view.View.{View}
use Rattle.ticket_deque.specs.declared.view.View.TheVariants.{Owner, Thief}
use Rattle.ticket_deque.specs.declared.hand.Hand.TheInside.{Inside}

module _ {T : Type 0} where
  -- The state of an owner's end.
  abbrev pub owner_state : ℕ × ℕ → View T → HandState T
  owner_state deque (Owner puts got) = record { deque = deque; puts = puts; taken = got }
  owner_state deque (Thief got) = record { deque = deque; puts = []; taken = got }

  abbrev pub hand_state : Inside T → HandState T
  hand_state h = owner_state (worker_deque h.worker).0 (worker_view h.worker)

  -- The worker takes at the front, is the first end, and began with 64 slots or more.
  pub record IsHand (h : Inside T) : Type 0 where
    pub fifo : worker_flavor h.worker ≡ 0
    pub first : worker_port h.worker ≡ 0
    pub owner : (puts : List T) × (got : List (ℕ × T)) × (worker_view h.worker ≡ Owner puts got) × (worker_index h.worker ≤ length puts)
    pub room : 64 ≤ worker_capacity h.worker
