-- The effects of a round's events on the run: those of workers and lanes leave it as it is, and each step that is looked for fills a
-- cell.
use Rattle.std.proofs.Common.{◌≡◌, ◌∙◌, ℕ, zero, suc, ◌+◌, ◌≤◌, ◌==◌, cond, Bool, true, false, List, [], ◌∷◌, length, map, Some}
use Rattle.std.proofs.Common.{Result, add-one, add-zero, inl, inr, refl, sym, ap, subst, arith, length-set, set}
use Rattle.std.proofs.lemmas.List.Sums.{sum_by-cons}
use Rattle.std.proofs.lemmas.Option.{same_Some, slice_get_within}
use Rattle.std.specs.List.{count_by, list_all, range_with_len}
use Rattle.std.specs.Prelude.{◌%◌, ◌/◌, ◌&&◌, if◌then◌else◌, nat_lt, slice_get}
use Rattle.fixed_words.specs.declared.types.Fault.{Fault}
use Rattle.list_laws.proofs.Lists.{all_of_two}
use Rattle.list_laws.proofs.Members.{set_there}
use Rattle.spec_core.specs.Events.{Does, Happens}
use Rattle.spec_core.specs.Interleavings.{Done, Leads}
use Rattle.spec_core.specs.Replays.{AreServed, IsServed, events_of, worker_event}
use Rattle.spec_core.specs.Rounds.{draw_after, drawn_from, publishes}
use Rattle.spec_core.specs.Worlds.{WorldState}
use Rattle.spec_core.specs.declared.event.Event.{Event}
use Rattle.spec_core.specs.declared.event.Event.TheVariants as event
use Rattle.spec_core.specs.declared.event.Reply.{Reply}
use Rattle.spec_core.specs.declared.event.Reply.TheVariants as reply
use Rattle.spec_core.proofs.ActLaws.{NoneWantedBelow, all_full, none_below, none_more}
use Rattle.spec_core.proofs.WorldLaws.{at_set}
use Rattle.trace_core.specs.Runs.{AreCellsFull, Cell, Empty, Filled, IsWanted, RunState, is_empty_cell}
use Rattle.trace_rows.specs.Passing.{AreStepsThere}
use Rattle.unit_tree.specs.Components.{Moved}

-- ---- Events that leave the run

abbrev pub leaves_run : Event → Bool
leaves_run (event.Find instance) = false
leaves_run (event.Compute instance) = false
leaves_run event.Settle = false
leaves_run _ = true

-- The run stays, and there are as many lanes.
pub record IsLeft (from to : WorldState) : Type 0 where
  pub run : to.run ≡ from.run
  pub lanes : length to.lanes ≡ length from.lanes

left_same : (from to : WorldState) → to ≡ from → IsLeft from to
left_same from to is = record { run = ap (λ (w : WorldState). w.run) is; lanes = ap (λ (w : WorldState). length w.lanes) is }

does_leave : (from : WorldState) (what : Event) (said : Reply) (to : WorldState) → leaves_run what ≡ true → Does from what said to → IsLeft from to
does_leave from (event.Publish instance) said to so does = record {
  run = ap (λ (w : WorldState). w.run) does.is;
  lanes = ap (λ (w : WorldState). length w.lanes) does.is ∙ length-set from.lanes instance _;
}
does_leave from (event.Take worker instance) said to so does = record {
  run = ap (λ (w : WorldState). w.run) does.is;
  lanes = ap (λ (w : WorldState). length w.lanes) does.is ∙ length-set from.lanes instance _;
}
does_leave from (event.Steal worker other) said to so does = record {
  run = ap (λ (w : WorldState). w.run) does.is;
  lanes = ap (λ (w : WorldState). length w.lanes) does.is;
}
does_leave from (event.Post worker cells) said to so does = record {
  run = ap (λ (w : WorldState). w.run) does.is;
  lanes = ap (λ (w : WorldState). length w.lanes) does.is ∙ length-set from.lanes does.ticket.instance _;
}
does_leave from (event.Back worker) said to so does = record {
  run = ap (λ (w : WorldState). w.run) does.is;
  lanes = ap (λ (w : WorldState). length w.lanes) does.is ∙ length-set from.lanes does.ticket.instance _;
}
does_leave from (event.Find instance) said to so does = absurd (cc)
does_leave from (event.Compute instance) said to so does = absurd (cc)
does_leave from event.Settle said to so does = absurd (cc)

happens_leave : (from : WorldState) (what : Event) (said : Reply) (to : WorldState) → leaves_run what ≡ true → Happens from what said to → IsLeft from to
happens_leave from what said to so (inl does) = does_leave from what said to so does
happens_leave from what said to so (inr refuses) = left_same from to refuses.is

pub all_leave : (past : List Done) (from to : WorldState) → list_all leaves_run (events_of past) ≡ true → Leads from past to → IsLeft from to
all_leave [] from to so is = left_same from to (sym is)
all_leave (one ∷ others) from to so (begins, happens, leads) =
    let both = split (leaves_run one.event) (list_all leaves_run (events_of others)) so in
    let first = happens_leave one.before one.event one.reply one.after both.0 happens in
    let rest = all_leave others one.after to both.1 leads in
    record {
      run = rest.run ∙ first.run ∙ ap (λ (w : WorldState). w.run) begins;
      lanes = rest.lanes ∙ first.lanes ∙ ap (λ (w : WorldState). length w.lanes) begins;
    }
  where
    split : (a b : Bool) → (a && b) ≡ true → (a ≡ true) × (b ≡ true)
    split true true is = (refl, refl)
    split true false is = absurd (cc)
    split false b is = absurd (cc)

places_leave : (places : List ℕ) → list_all leaves_run (map event.Publish places) ≡ true
places_leave [] = refl
places_leave (place ∷ places) = places_leave places

pub publishes_leave : (instances : ℕ) → list_all leaves_run (publishes instances) ≡ true
publishes_leave instances = places_leave (range_with_len 0 instances)

worker_leaves : (x workers instances : ℕ) → leaves_run (worker_event x workers instances) ≡ true
worker_leaves x workers instances = by (nat_lt (x / workers % 8) 3) (nat_lt (x / workers % 8) 6) ((x / workers % 8) == 6)
  where
    by : (one other last : Bool) → leaves_run (if one then event.Take (x % workers) (x / workers / 8 % instances)
        else (if other then event.Post (x % workers) 16
        else (if last then event.Steal (x % workers) (x / workers / 8 % workers) else event.Back (x % workers)))) ≡ true
    by true other last = refl
    by false true last = refl
    by false false true = refl
    by false false false = refl

pub drawn_leave : (x workers instances count : ℕ) → list_all leaves_run (drawn_from x workers instances count) ≡ true
drawn_leave x workers instances zero = refl
drawn_leave x workers instances (suc count) =
    all_of_two leaves_run (drawn_from x workers instances count) (worker_event (draw_after x (suc count)) workers instances ∷ [])
    (drawn_leave x workers instances count) (ap (λ b. b && true) (worker_leaves (draw_after x (suc count)) workers instances))

-- ---- Cells that are filled

-- Cells were filled, and nothing else changed.
pub record Fills (old new : RunState) : Type 0 where
  pub is : new ≡ record old { cells = new.cells; found = new.found; own = new.own }
  pub counted : new.found + new.own + count_by is_empty_cell new.cells ≡ old.found + old.own + count_by is_empty_cell old.cells
  pub long : length new.cells ≡ length old.cells
  pub stays : (instance : ℕ) → (IsWanted old instance → ⊥) → IsWanted new instance → ⊥

fills_same : (old new : RunState) → new ≡ old → Fills old new
fills_same old new is = subst (Fills old) (sym is) (record { is = refl; counted = refl; long = refl; stays = λ instance unwanted wanted. unwanted wanted })

fills_both : (old mid new : RunState) → Fills old mid → Fills mid new → Fills old new
fills_both old mid new first then_too = record {
  is = then_too.is ∙ ap (λ (r : RunState). record r { cells = new.cells; found = new.found; own = new.own }) first.is;
  counted = then_too.counted ∙ first.counted;
  long = then_too.long ∙ first.long;
  stays = λ instance unwanted. then_too.stays instance (first.stays instance unwanted);
}

abbrev empty_in : Cell → ℕ
empty_in cell = cond (is_empty_cell cell) 1 0

one_empty : (cell : Cell) → cell ≡ Empty → empty_in cell ≡ 1
one_empty cell is = ap empty_in is

not_empty : (cell : Cell) → is_empty_cell cell ≡ false → empty_in cell ≡ 0
not_empty cell is = ap (λ b. cond b 1 0) is

fewer_empty : (cells : List Cell) (instance : ℕ) (step : Result Moved Fault) → slice_get cells instance ≡ Some Empty
    → count_by is_empty_cell (set cells instance (Filled step)) + 1 ≡ count_by is_empty_cell cells
fewer_empty [] instance step at = absurd (cc)
fewer_empty (cell ∷ cells) zero step at =
    let here = one_empty cell (same_Some cell Empty at) in
    let one = sum_by-cons empty_in cell cells in
    let other = sum_by-cons empty_in (Filled step) cells in
    omega (arith, here, one, other)
fewer_empty (cell ∷ cells) (suc instance) step at =
    let rest = fewer_empty cells instance step at in
    let one = sum_by-cons empty_in cell cells in
    let other = sum_by-cons empty_in cell (set cells instance (Filled step)) in
    omega (arith, rest, one, other)

-- No step is required of an instance whose cell was filled, nor of another that required none.
stays_set : (cells : List Cell) (filled : ℕ) (step : Result Moved Fault) (instance : ℕ) → slice_get (set cells filled (Filled step)) instance ≡ Some Empty
    → slice_get cells instance ≡ Some Empty
stays_set cells filled step instance at =
    at_set (λ place cell. cell ≡ Empty → slice_get cells place ≡ Some Empty) cells filled (Filled step)
    (λ place cell differ there is. there ∙ ap Some is) (λ is. absurd (cc)) instance Empty at refl

none_set : (cells : List Cell) (filled : ℕ) (step : Result Moved Fault) → slice_get cells filled ≡ Some Empty
    → slice_get (set cells filled (Filled step)) filled ≡ Some Empty → ⊥
none_set cells filled step at there =
    differ (same_Some (Filled step) Empty (sym (set_there cells filled (Filled step) (slice_get_within cells filled Empty at)) ∙ there))
  where
    differ : Filled step ≡ Empty → ⊥
    differ is = cc

abbrev filled_by : RunState → ℕ → Result Moved Fault → ℕ → ℕ → RunState
filled_by r instance step found own = record r { cells = set r.cells instance (Filled step); found = found; own = own }

fills_one : (old new : RunState) (instance : ℕ) (step : Result Moved Fault) (found own : ℕ) → IsWanted old instance
    → new ≡ filled_by old instance step found own → found + own ≡ old.found + old.own + 1 → Fills old new × (IsWanted new instance → ⊥)
fills_one old new instance step found own wanted is more =
    let fewer = fewer_empty old.cells instance step wanted in
    subst (λ (r : RunState). Fills old r × (IsWanted r instance → ⊥)) (sym is) (
      record {
        is = refl;
        counted = omega (arith, fewer, more);
        long = length-set old.cells instance (Filled step);
        stays = λ other unwanted wants. unwanted (stays_set old.cells instance step other wants);
      },
      none_set old.cells instance step wanted,
    )

-- ---- Instances that are served

abbrev FillsFor : WorldState → ℕ → WorldState → Type 0
FillsFor from instance to = Fills from.run to.run × (IsWanted to.run instance → ⊥)

found_fills : (from : WorldState) (instance : ℕ) (to : WorldState) → IsWanted from.run instance → Happens from (event.Find instance) reply.Found to
    → FillsFor from instance to
found_fills from instance to wanted (inl (inl finds)) =
    fills_one from.run to.run instance finds.one.answer (suc from.run.found) from.run.own wanted (ap (λ (w : WorldState). w.run) finds.is) (omega arith)
found_fills from instance to wanted (inl (inr misses)) = absurd (differ misses.replied)
  where
    differ : reply.Found ≡ reply.Missed → ⊥
    differ is = cc
found_fills from instance to wanted (inr refuses) = absurd (refuses.refused wanted)

missed_same : (from : WorldState) (instance : ℕ) (to : WorldState) → IsWanted from.run instance → Happens from (event.Find instance) reply.Missed to → to ≡ from
missed_same from instance to wanted (inl (inl finds)) = absurd (differ finds.replied)
  where
    differ : reply.Missed ≡ reply.Found → ⊥
    differ is = cc
missed_same from instance to wanted (inl (inr misses)) = misses.is
missed_same from instance to wanted (inr refuses) = refuses.is

made_fills : (from : WorldState) (instance : ℕ) (said : Reply) (to : WorldState) → IsWanted from.run instance → Happens from (event.Compute instance) said to
    → FillsFor from instance to
made_fills from instance said to wanted (inl makes) =
    fills_one from.run to.run instance makes.computed.step from.run.found (suc from.run.own) wanted makes.computed.is (omega arith)
made_fills from instance said to wanted (inr refuses) = absurd (refuses.refused wanted)

served_fills : (from : WorldState) (instance : ℕ) (past : List Done) (to : WorldState) → IsServed from.run instance past → Leads from past to
    → FillsFor from instance to
served_fills from instance [] to unwanted is = (
  fills_same from.run to.run (ap (λ (w : WorldState). w.run) (sym is)),
  λ wanted. unwanted (subst (λ (w : WorldState). IsWanted w.run instance) (sym is) wanted),
)
served_fills from instance (find ∷ []) to (wanted, is_find, said) (begins, happens, is) =
    subst (FillsFor from instance) is
    (found_fills from instance find.after wanted
    (subst (λ (w : WorldState). Happens w (event.Find instance) reply.Found find.after) begins
    (subst (λ what. Happens find.before what reply.Found find.after) is_find
    (subst (λ told. Happens find.before find.event told find.after) said happens))))
served_fills from instance (find ∷ compute ∷ []) to (wanted, is_find, said, is_compute) (begins, happens, (next, makes, is)) =
    let same : find.after ≡ from =
    missed_same from instance find.after wanted
    (subst (λ (w : WorldState). Happens w (event.Find instance) reply.Missed find.after) begins
    (subst (λ what. Happens find.before what reply.Missed find.after) is_find
    (subst (λ told. Happens find.before find.event told find.after) said happens))) in
    subst (FillsFor from instance) is
    (made_fills from instance compute.reply compute.after wanted
    (subst (λ (w : WorldState). Happens w (event.Compute instance) compute.reply compute.after) (next ∙ same)
    (subst (λ what. Happens compute.before what compute.reply compute.after) is_compute makes)))
served_fills from instance (find ∷ compute ∷ other ∷ others) to served leads = absurd served

-- Of the first instances no step is required any more.
served_below : (count instance : ℕ) (from : WorldState) (past : List Done) (to : WorldState) → AreServed from instance count past to
    → NoneWantedBelow from.run instance → Fills from.run to.run × NoneWantedBelow to.run (instance + count)
served_below zero instance from past to (none, same) below =
    subst (λ (w : WorldState). Fills from.run w.run × NoneWantedBelow w.run (instance + 0)) same
    (fills_same from.run from.run refl, subst (NoneWantedBelow from.run) (sym (add-zero instance)) below)
served_below (suc count) instance from past to (first, middle, others, is, served, leads, rest) below =
    let one = served_fills from instance first middle served leads in
    let more = served_below count (suc instance) middle others to rest
    (subst (NoneWantedBelow middle.run) (add-one instance)
    (none_more middle.run instance (λ other within. one.0.stays other (below other within)) one.1)) in
    (fills_both from.run middle.run to.run one.0 more.0, subst (NoneWantedBelow to.run) (place_is instance count) more.1)
  where
    place_is : (a b : ℕ) → suc a + b ≡ a + suc b
    place_is a b = omega arith

none_empty : (cells : List Cell) → AreCellsFull cells → count_by is_empty_cell cells ≡ 0
none_empty [] full = refl
none_empty (cell ∷ cells) full =
    let here = not_empty cell full.0 in
    let one = sum_by-cons empty_in cell cells in
    let rest = none_empty cells full.1 in
    omega (arith, here, one, rest)

-- Where all instances were served, all steps are made.
pub served_there : (instances : ℕ) (from : WorldState) (past : List Done) (to : WorldState) → length from.run.cells ≤ instances
    → AreServed from 0 instances past to → AreStepsThere from.run to.run
served_there instances from past to few serves =
    let all = served_below instances 0 from past to serves (none_below from.run) in
    let long = all.0.long in
    let full : AreCellsFull to.run.cells = all_full to.run (0 + instances) all.1 (omega (arith, few, long)) in
    let none = none_empty to.run.cells full in
    let counted = all.0.counted in
    record { full = full; is = all.0.is; counted = omega (arith, none, counted) }
