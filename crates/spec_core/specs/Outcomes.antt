-- An event has one outcome: what is stated of this.
use Rattle.std.specs.Prelude.{◌≡◌, ℕ, List}
use Rattle.spec_core.specs.Events.{Does, Happens, IsRefused}
use Rattle.spec_core.specs.Worlds.{WorldState}
use Rattle.spec_core.specs.declared.event.Event.{Event}
use Rattle.spec_core.specs.declared.event.Reply.{Reply}
use Rattle.trace_core.specs.Runs.{RunState}
use Rattle.unit_tree.specs.Compositions.{AreMembers, Composition}
use Rattle.unit_tree.specs.Ports.{IsPlaceOrder}
use Rattle.unit_tree.specs.Successor.{Position}
use Rattle.unit_tree.specs.Trace.{HasWords}

-- What has to hold at a position, so that the run has one successor there.
pub record IsOrderedAt (run : Composition) (at : Position) : Type 0 where
  pub order : List ℕ
  pub ordered : IsPlaceOrder run order
  pub members : AreMembers run
  pub words : HasWords run at

-- It holds at the run's stand.
abbrev pub IsOrdered : RunState → Type 0
IsOrdered r = IsOrderedAt r.plan.run r.stand.at

-- An event that happens to a world has one reply, and leaves one world.
abbrev pub EventsHappenOnce : Type 0
EventsHappenOnce =
    (world new next : WorldState) (what : Event) (told other : Reply) → IsOrdered world.run → Happens world what told new → Happens world what other next
    → (told ≡ other) × (new ≡ next)

-- An event that has its effect is not refused.
abbrev pub EffectsAreNotRefused : Type 0
EffectsAreNotRefused = (world new : WorldState) (what : Event) (told : Reply) → Does world what told new → IsRefused world what → ⊥
