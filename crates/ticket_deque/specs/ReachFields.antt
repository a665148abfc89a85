-- What contracts see of the fields of a reach.
use Rattle.std.specs.Prelude.{◌≡◌, None}
use Rattle.crossbeam_deque.specs.Handles.{view, IsPassOf, stealer_deque, stealer_flavor}
use Rattle.ticket_deque.specs.Ends.{ReachState}
use Rattle.ticket_deque.specs.Passes.{entries_below, AreBelowOf}
use Rattle.ticket_deque.specs.Rule.{taken, IsThief}
use Rattle.ticket_deque.specs.declared.passes.Passes.{out-Passes}
use Rattle.ticket_deque.specs.declared.reach.Reach.TheInside.{Inside}

module _ {T : Type 0} where
  abbrev pub reach_state : Inside T → ReachState T
  reach_state r =
      record {
        deque = (stealer_deque r.stealer).0;
        taken = taken (view (out-Passes T r.passes.value).own);
        joined =
            entries_below (out-Passes T r.passes.value).joined;
      }

  -- It steals at the front, by a pass that is not the owner's, and all its passes are of that deque.
  pub record IsReach (r : Inside T) : Type 0 where
    pub fifo : stealer_flavor r.stealer ≡ 0
    pub pass : IsPassOf (stealer_deque r.stealer) (out-Passes T r.passes.value).own
    pub thief : IsThief (view (out-Passes T r.passes.value).own)
    pub joined : AreBelowOf (stealer_deque r.stealer).0 (out-Passes T r.passes.value).joined
    pub alone : (out-Passes T r.passes.value).next ≡ None
