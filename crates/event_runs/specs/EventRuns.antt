-- What is run for a system as it is written, and its trace: each event port has a word or is absent.
use Rattle.std.specs.List.{filter_map}
use Rattle.std.specs.Option.{option_map, unwrap_or}
use Rattle.std.specs.Prelude.{ℕ, List, [], ◌∷◌, map, Option, Some, None, ◌≡◌, length}
use Rattle.super_time.specs.declared.point.Point.{Point}
use Rattle.model_rules.specs.Limits.{default_zeros}
use Rattle.unit_tree.specs.Compositions.{Member, place_of, member_with, stop_of, ticks_or, default_rows}
use Rattle.unit_tree.specs.Names.{unit_of_instance}
use Rattle.unit_tree.specs.Orders.{port_of, sources_of}
use Rattle.unit_tree.specs.WellFormed.{resolution_of}
use Rattle.unit_tree.specs.declared.ending.Ending.{Ending}
use Rattle.unit_tree.specs.declared.system.Instance.{Instance}
use Rattle.unit_tree.specs.declared.system.PortName.{PortName}
use Rattle.unit_tree.specs.declared.system.System.{System}
use Rattle.unit_tree.specs.declared.unit.EventIn.{EventIn}
use Rattle.event_runs.specs.EventPorts.{EventMember}
use Rattle.event_runs.specs.EventTrace.{EventRun, EventStand, IsEventTrace, EventRow, event_rows_of}
use Rattle.event_runs.specs.Offers.{Pace}

-- ---- What is run

-- The place of the event output that an event input is connected to, where it is.
abbrev pub feed_from : System → List PortName → Option ℕ
feed_from system [] = None
feed_from system (port ∷ others) = Some (place_of system port)

abbrev pub feed_of : System → Instance → EventIn → Option ℕ
feed_of system instance event = feed_from system (sources_of system (port_of instance event.name))

abbrev pub with_feeds : System → Instance → Member → EventMember
with_feeds system instance member =
    record { member = member; feeds = map (feed_of system instance) member.component.unit.events_in }

-- The members of a system as it is written, in the order of its instances.
abbrev pub event_members_of : System → List EventMember
event_members_of system =
    filter_map
    (λ instance. option_map (with_feeds system instance) (member_with system instance (unit_of_instance system instance)))
    system.instances

-- When its run ends, its bounds, and how many ticks of the system a local tick of each member is.
abbrev pub event_pace : System → List EventMember → Pace
event_pace system members = record {
  stop = stop_of system;
  longest = ticks_or (stop_of system) (resolution_of system) system.longest;
  zero_budget = unwrap_or system.zero (default_zeros system.version);
  row_budget = unwrap_or system.rows (default_rows system.version (length system.instances));
  factors = map (λ one. one.member.factor) members;
}

abbrev pub event_run_of : System → EventRun
event_run_of system = record { members = event_members_of system; pace = event_pace system (event_members_of system) }

-- ---- Its trace

-- The point at which a trace ends: that of its last stand. Without stands it is the first point.
abbrev pub last_event_point : List EventStand → Point
last_event_point [] = record { t = 0; n = 0 }
last_event_point (stand ∷ []) = stand.at.point
last_event_point (stand ∷ later ∷ others) = last_event_point (later ∷ others)

-- The rows are those of a trace of the system, `last` is the point at which it ends, and `ending` is its
-- end.
pub record IsEventTraceOf (system : System) (rows : List EventRow) (last : Point) (ending : Ending) : Type 0 where
  pub stands : List EventStand
  pub trace : IsEventTrace (event_run_of system) stands ending
  pub rows_are : rows ≡ event_rows_of (event_run_of system) stands
  pub last_is : last ≡ last_event_point stands

-- The system has exactly one list of rows, one last point and one ending.
pub record HasOneEventTraceOf (system : System) : Type 0 where
  pub rows : List EventRow
  pub last : Point
  pub ending : Ending
  pub is_trace : IsEventTraceOf system rows last ending
  pub is_only : (others : List EventRow) (point : Point) (end : Ending) → IsEventTraceOf system others point end
      → (others ≡ rows) × (point ≡ last) × (end ≡ ending)
