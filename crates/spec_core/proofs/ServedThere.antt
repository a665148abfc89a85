-- Events can be applied one after the other, and each instance can be served. After that no step of it is required.
use Rattle.std.proofs.Common.{◌≡◌, ◌≢◌, ◌∙◌, ℕ, zero, suc, ◌+◌, ◌<◌, ◌≤◌, List, [], ◌∷◌, ◌++◌, Some, Result, refl, sym, ap, subst, arith, inl, inr}
use Rattle.std.specs.List.{AllByRecursion}
use Rattle.fixed_words.specs.declared.types.Fault.{Fault}
use Rattle.spec_core.specs.Events.{Computes, Happens, Misses, with_run}
use Rattle.spec_core.specs.Interleavings.{Done, Leads}
use Rattle.spec_core.specs.Replays.{AreServed, IsServed, events_of}
use Rattle.spec_core.specs.Worlds.{WorldState}
use Rattle.spec_core.specs.declared.event.Event.{Event}
use Rattle.spec_core.specs.declared.event.Event.TheVariants as event
use Rattle.spec_core.specs.declared.event.Reply.{Reply}
use Rattle.spec_core.proofs.GoingLaws.{IsBeside, keeps_reply, run_stays}
use Rattle.spec_core.proofs.ReplyLaws.{CanReply, has_reply}
use Rattle.spec_core.proofs.RoundLaws.{all_keep}
use Rattle.spec_core.proofs.WorldLaws.{at_set}
use Rattle.trace_core.specs.Runs.{Empty, Filled, IsWanted, RunState}
use Rattle.trace_core.proofs.StandLaws.{filled}
use Rattle.unit_tree.specs.Components.{Moved}

-- ---- Events one after the other

-- Events were applied, one after the other.
pub record AreDone (from : WorldState) (events : List Event) : Type 0 where
  pub past : List Done
  pub to : WorldState
  pub are : events_of past ≡ events
  pub leads : Leads from past to

pub all_done : (from : WorldState) (events : List Event) → CanReply from → AreDone from events
all_done from [] can = record { past = []; to = from; are = refl; leads = refl }
all_done from (what ∷ events) can =
    let first = has_reply from can what in
    let rest = all_done first.1 events (keeps_reply from first.1 what first.0 can first.2) in
    record {
      past = record { before = from; event = what; reply = first.0; after = first.1 } ∷ rest.past;
      to = rest.to;
      are = ap (λ more. what ∷ more) rest.are;
      leads = (refl, first.2, rest.leads);
    }

-- Events that are not of the run leave it as it is.
pub beside_all : (from : WorldState) (past : List Done) (to : WorldState) → AllByRecursion IsBeside (events_of past) → Leads from past to → to.run ≡ from.run
beside_all from [] to beside leads = ap (λ (w : WorldState). w.run) (sym leads)
beside_all from (one ∷ others) to beside leads =
    beside_all one.after others to beside.1 leads.2 ∙ run_stays one.before one.after one.event one.reply beside.0 leads.1
    ∙ ap (λ (w : WorldState). w.run) leads.0

-- ---- An instance is served

-- The run is at its stand, in its phase.
pub record IsStill (old new : RunState) : Type 0 where
  pub plan : new.plan ≡ old.plan
  pub stand : new.stand ≡ old.stand
  pub phase : new.phase ≡ old.phase

-- The run still exists. No further steps are required, and none of the instance.
record IsServedIn (old : RunState) (instance : ℕ) (new : RunState) : Type 0 where
  pub still : IsStill old new
  pub done_with : (other : ℕ) → IsWanted new other → (other ≢ instance) × IsWanted old other

-- This holds where the cell of the instance was filled.
filled_serves : (r : RunState) (instance found own : ℕ) (step : Result Moved Fault) → IsServedIn r instance (filled r instance step found own)
filled_serves r instance found own step = record {
  still = record { plan = refl; stand = refl; phase = refl };
  done_with = λ other wanted. at_set (λ place cell. cell ≡ Empty → (place ≢ instance) × IsWanted r place) r.cells instance (Filled step)
      (λ place cell differ there is. (differ, there ∙ ap Some is)) (λ is. absurd (apart is)) other Empty wanted refl;
}
  where
    apart : Filled step ≡ Empty → ⊥
    apart is = cc

served_so : (from to : WorldState) (now : RunState) (instance : ℕ) → to ≡ with_run from now → IsServedIn from.run instance now
    → IsServedIn from.run instance to.run
served_so from to now instance is serves = subst (λ (w : WorldState). IsServedIn from.run instance w.run) (sym is) serves

-- The history of serving an instance.
record IsServedTo (from : WorldState) (instance : ℕ) : Type 0 where
  pub past : List Done
  pub to : WorldState
  pub served : IsServed from.run instance past
  pub leads : Leads from past to
  pub serves : IsServedIn from.run instance to.run

compute_to : (from middle to : WorldState) (instance : ℕ) (seen told : Reply) → Misses from instance seen middle
    → Happens middle (event.Compute instance) told to → IsServedTo from instance
compute_to from middle to instance seen told misses (inr refused) =
    absurd (refused.refused (subst (λ (w : WorldState). IsWanted w.run instance) (sym misses.is) misses.looks.wanted))
compute_to from middle to instance seen told misses (inl computes) =
    let find : Done = record { before = from; event = event.Find instance; reply = seen; after = middle } in
    let compute : Done = record { before = middle; event = event.Compute instance; reply = told; after = to } in
    let here = subst (λ w. Computes w instance told to) misses.is computes in
    let step = here.computed.step in
    let now = filled from.run instance step from.run.found (suc from.run.own) in
    record {
      past = find ∷ compute ∷ [];
      to = to;
      served = (misses.looks.wanted, refl, misses.replied, refl);
      leads = (refl, inl (inr misses), (refl, inl computes, refl));
      serves = served_so from to now instance (here.is ∙ ap (with_run from) here.computed.is)
          (filled_serves from.run instance from.run.found (suc from.run.own) step);
    }

find_to : (from middle : WorldState) (instance : ℕ) (told : Reply) → CanReply from → Happens from (event.Find instance) told middle → IsServedTo from instance
find_to from middle instance told can (inr refused) = record {
  past = [];
  to = from;
  served = refused.refused;
  leads = refl;
  serves = record {
    still = record { plan = refl; stand = refl; phase = refl };
    done_with = λ other wanted. (λ same. refused.refused (subst (IsWanted from.run) same wanted), wanted);
  };
}
find_to from middle instance told can (inl (inl finds)) =
    let answer = finds.one.answer in
    let now = filled from.run instance answer (suc from.run.found) from.run.own in
    record {
      past = record { before = from; event = event.Find instance; reply = told; after = middle } ∷ [];
      to = middle;
      served = (finds.looks.wanted, refl, finds.replied);
      leads = (refl, inl (inl finds), refl);
      serves = served_so from middle now instance finds.is (filled_serves from.run instance (suc from.run.found) from.run.own answer);
    }
find_to from middle instance told can (inl (inr misses)) =
    let can_middle = keeps_reply from middle (event.Find instance) told can (inl (inr misses)) in
    let second = has_reply middle can_middle (event.Compute instance) in
    compute_to from middle second.1 instance told second.0 misses second.2

serve : (from : WorldState) (instance : ℕ) → CanReply from → IsServedTo from instance
serve from instance can =
    let first = has_reply from can (event.Find instance) in find_to from first.1 instance first.0 can first.2

-- ---- All instances are served

-- The history of serving so many instances from this number on: after it none of their steps is required.
pub record AreServedTo (from : WorldState) (instance count : ℕ) : Type 0 where
  pub past : List Done
  pub to : WorldState
  pub served : AreServed from instance count past to
  pub still : IsStill from.run to.run
  pub wanted : (other : ℕ) → IsWanted to.run other → IsWanted from.run other
  pub done_with : (other : ℕ) → IsWanted to.run other → instance ≤ other → other < instance + count → ⊥

pub serve_all : (from : WorldState) (instance count : ℕ) → CanReply from → AreServedTo from instance count
serve_all from instance zero can = record {
  past = [];
  to = from;
  served = (refl, refl);
  still = record { plan = refl; stand = refl; phase = refl };
  wanted = λ other wanted. wanted;
  done_with = λ other wanted low high. omega (arith, low, high);
}
serve_all from instance (suc count) can =
    let first = serve from instance can in
    let rest = serve_all first.to (suc instance) count (all_keep from first.past first.to can first.leads) in
    let was = first.serves.still in
    record {
      past = first.past ++ rest.past;
      to = rest.to;
      served = (first.past, first.to, rest.past, refl, first.served, first.leads, rest.served);
      still = record { plan = rest.still.plan ∙ was.plan; stand = rest.still.stand ∙ was.stand; phase = rest.still.phase ∙ was.phase };
      wanted = λ other wanted. (first.serves.done_with other (rest.wanted other wanted)).1;
      done_with = λ other wanted low high.
          let differs = (first.serves.done_with other (rest.wanted other wanted)).0 in
          rest.done_with other wanted (omega (arith, low, differs)) (omega (arith, high));
    }
