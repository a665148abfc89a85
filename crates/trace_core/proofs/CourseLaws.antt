-- Where a run goes from a phase whose cells are full is where the successor leads from its stand.
use Rattle.std.proofs.Common.{◌≡◌, ◌∙◌, ℕ, suc, ◌+◌, ◌==◌, ◌≤◌, ◌&&◌, Bool, true, false, ℤ, List, map, zip, Option, Some, None, refl, sym, ap, subst, arith}
use Rattle.std.proofs.lemmas.Bool.Decides.{nat_tests}
use Rattle.std.specs.Prelude.{nat_lt, if◌then◌else◌}
use Rattle.super_time.specs.declared.point.Point.{Point}
use Rattle.step_rule.proofs.AlongLaws.{least_agreed}
use Rattle.step_rule.specs.Courses.{course_by, course_of_redo, course_of_trial, course_on, end_or}
use Rattle.step_rule.specs.Steps.{ending_or, redo_result, trial_result}
use Rattle.step_rule.specs.declared.courses.Course.{Course}
use Rattle.step_rule.specs.declared.courses.Course.TheVariants.{Redo, On, End}
use Rattle.trace_core.specs.Seats.{AreSeats, AreFull, seat_steps}
use Rattle.trace_core.specs.declared.seat.Seat.{Seat}
use Rattle.trace_core.proofs.SlotLaws.{AreOfOneLength, redo_read, trial_read, units_hold}
use Rattle.unit_tree.specs.Compositions.{Composition, AreMembers}
use Rattle.unit_tree.specs.Negotiation.{least_of, state_after}
use Rattle.unit_tree.specs.Successor.{Position, when, first_told, step_end_of, standings, steps_by, replies_to, trial_end, redo_end_by, redo_end, zero_end}
use Rattle.unit_tree.specs.Successor.{proposed, agreed, is_redone, point_after, after, goes, ends, successor}
use Rattle.unit_tree.specs.Trace.{Stand, IsGoing, HasWords}
use Rattle.unit_tree.specs.declared.ending.Ending.{Ending}
use Rattle.unit_tree.specs.declared.ending.Ending.TheVariants.{ZeroBudget}
use Rattle.run_laws.proofs.EndLaws.{ends_in_order}
use Rattle.run_laws.proofs.PositionLaws.{agreed_is_at_most}

-- ---- Where the successor leads

-- The run goes on to a position at this point, by a step of h.
pub record LeadsOn (run : Composition) (stand : Stand) (h : ℕ) (point : Point) : Type 0 where
  pub agreed_on : h ≡ agreed run stand.at stand.ports
  pub goes_on : successor run stand.at stand.ports ≡ goes (after run stand.at stand.ports)
  pub to : point ≡ (after run stand.at stand.ports).point

-- A redo is due after the trial.
pub record IsDue (run : Composition) (stand : Stand) : Type 0 where
  pub no_fault : trial_end run stand.at stand.ports ≡ None
  pub shorter : is_redone run stand.at stand.ports ≡ true

-- From a trial.
abbrev pub LeadsFromTrial : Composition → Stand → ℕ → Course → Type 0
LeadsFromTrial run stand h (Redo least) = IsDue run stand × (least ≡ agreed run stand.at stand.ports)
LeadsFromTrial run stand h (On point) = (IsDue run stand → ⊥) × LeadsOn run stand h point
LeadsFromTrial run stand h (End ending) = (IsDue run stand → ⊥) × (successor run stand.at stand.ports ≡ ends ending)

-- From a redo.
abbrev pub LeadsFromRedo : Composition → Stand → ℕ → Course → Type 0
LeadsFromRedo run stand h (Redo least) = ⊥
LeadsFromRedo run stand h (On point) = LeadsOn run stand h point
LeadsFromRedo run stand h (End ending) = successor run stand.at stand.ports ≡ ends ending

-- ---- On by the agreed step

abbrev is_spent : Composition → Stand → ℕ → Bool
is_spent run stand h = (h == 0) && (stand.at.point.n == run.zero_budget)

spent_course : (run : Composition) (stand : Stand) (h : ℕ) → is_spent run stand h ≡ true → course_on run.zero_budget stand.at.point h ≡ End ZeroBudget
spent_course run stand h spent = rw spent refl

free_course : (run : Composition) (stand : Stand) (h : ℕ) → is_spent run stand h ≡ false → course_on run.zero_budget stand.at.point h ≡ On (point_after stand.at.point h)
free_course run stand h free = rw free refl

zero_there : (run : Composition) (stand : Stand) (h : ℕ) → h ≡ agreed run stand.at stand.ports → is_spent run stand h ≡ true
    → zero_end run stand.at stand.ports ≡ Some ZeroBudget
zero_there run stand h is spent = ap (λ test. when test ZeroBudget) (ap (is_spent run stand) (sym is) ∙ spent)

no_zero : (run : Composition) (stand : Stand) (h : ℕ) → h ≡ agreed run stand.at stand.ports → is_spent run stand h ≡ false
    → zero_end run stand.at stand.ports ≡ None
no_zero run stand h is free = ap (λ test. when test ZeroBudget) (ap (is_spent run stand) (sym is) ∙ free)

position_is : (point other : Point) (states others : List (List ℤ)) (number count : ℕ) → point ≡ other → states ≡ others → number ≡ count
    → ◌≡◌ {A = Position} (record { point = point; states = states; number = number }) (record { point = other; states = others; number = count })
position_is point other states others number count points kept numbers =
    ap (λ one. record { point = one; states = states; number = number }) points
    ∙ ap (λ one. record { point = other; states = one; number = number }) kept
    ∙ ap (λ one. record { point = other; states = others; number = one }) numbers

module _ (run : Composition) (stand : Stand) (going : IsGoing run stand) where
  no_redo_end : is_redone run stand.at stand.ports ≡ false → redo_end run stand.at stand.ports ≡ None
  no_redo_end whole = ap (λ redone. if redone then redo_end_by run stand.at stand.ports (agreed run stand.at stand.ports) else None) whole

  redo_end_is : is_redone run stand.at stand.ports ≡ true
      → redo_end run stand.at stand.ports ≡ redo_end_by run stand.at stand.ports (agreed run stand.at stand.ports)
  redo_end_is shorter = ap (λ redone. if redone then redo_end_by run stand.at stand.ports (agreed run stand.at stand.ports) else None) shorter

  -- ---- From a trial

  not_due : is_redone run stand.at stand.ports ≡ false → IsDue run stand → ⊥
  not_due whole due = cc (whole, due.shorter)

  whole_by : (spent : Bool) (h : ℕ) → is_spent run stand h ≡ spent → h ≡ agreed run stand.at stand.ports → trial_end run stand.at stand.ports ≡ None
      → is_redone run stand.at stand.ports ≡ false → LeadsFromTrial run stand h (course_on run.zero_budget stand.at.point h)
  whole_by true h spent is no_fault whole =
      subst (LeadsFromTrial run stand h) (sym (spent_course run stand h spent))
      (not_due whole, (ends_in_order run stand going).zero_ends ZeroBudget no_fault (no_redo_end whole) (zero_there run stand h is spent))
  whole_by false h free is no_fault whole =
      subst (LeadsFromTrial run stand h) (sym (free_course run stand h free)) (
        not_due whole,
        record {
          agreed_on = is;
          goes_on = (ends_in_order run stand going).whole_goes no_fault whole (no_zero run stand h is free);
          to = ap (point_after stand.at.point) is;
        },
      )

  same_length : AreMembers run → HasWords run stand.at → is_redone run stand.at stand.ports ≡ false
      → proposed run stand.at stand.ports ≡ agreed run stand.at stand.ports
  same_length are words whole =
      let most = agreed_is_at_most run stand.at stand.ports are words in
      let not_less : nat_lt (agreed run stand.at stand.ports) (proposed run stand.at stand.ports) ≡ false = whole in
      least_is (agreed run stand.at stand.ports) (proposed run stand.at stand.ports) most not_less
    where
      least_is : (a p : ℕ) → a ≤ p → nat_lt a p ≡ false → p ≡ a
      least_is a p most not_less = grind (arith, nat_tests)

  no_fault_by : (redone : Bool) (h least : ℕ) → is_redone run stand.at stand.ports ≡ redone → h ≡ proposed run stand.at stand.ports
      → least ≡ agreed run stand.at stand.ports → AreMembers run → HasWords run stand.at → trial_end run stand.at stand.ports ≡ None
      → LeadsFromTrial run stand h (if redone then Redo least else course_on run.zero_budget stand.at.point h)
  no_fault_by true h least redone is least_is are words no_fault = (record { no_fault = no_fault; shorter = redone }, least_is)
  no_fault_by false h least redone is least_is are words no_fault =
      whole_by (is_spent run stand h) h refl (is ∙ same_length are words redone) no_fault redone

  module _ (h : ℕ) (units : List (List ℤ)) (seats : List Seat) (long : AreOfOneLength run.members stand.at.states units seats)
      (are : AreSeats stand.at.point.t h stand.ports (standings run stand.at) units seats) (full : AreFull seats) where
    trial_by : (found : Option Ending) → trial_end run stand.at stand.ports ≡ found → h ≡ proposed run stand.at stand.ports → AreMembers run
        → HasWords run stand.at → LeadsFromTrial run stand h (course_by run.zero_budget stand.at.point h (ending_or found (agreed run stand.at stand.ports)))
    trial_by (Some ending) told is members words = ((λ due. cc (told, due.no_fault)), (ends_in_order run stand going).trial_ends ending told)
    trial_by None told is members words =
        no_fault_by (nat_lt (agreed run stand.at stand.ports) h) h (agreed run stand.at stand.ports)
        (ap (nat_lt (agreed run stand.at stand.ports)) (sym is)) is refl members words told

    -- What is read of the trial.
    pub read_is : h ≡ proposed run stand.at stand.ports → AreMembers run → HasWords run stand.at
        → trial_result stand.at.point.t h (seat_steps run.members seats) ≡ ending_or (trial_end run stand.at stand.ports) (agreed run stand.at stand.ports)
    read_is is members words =
        trial_read stand.at.point.t h stand.ports run.members stand.at.states units seats long are full
        ∙ ap (λ step. ending_or (first_told step_end_of (steps_by run stand.at stand.ports step)) (least_of step (replies_to run stand.at stand.ports step))) is
        ∙ ap (ending_or (trial_end run stand.at stand.ports))
        (least_agreed (proposed run stand.at stand.ports) (replies_to run stand.at stand.ports (proposed run stand.at stand.ports))
        (agreed_is_at_most run stand.at stand.ports members words))

    pub trial_leads : h ≡ proposed run stand.at stand.ports → AreMembers run → HasWords run stand.at
        → LeadsFromTrial run stand h (course_of_trial run.zero_budget stand.at.point h (seat_steps run.members seats))
    trial_leads is members words =
        subst (λ read. LeadsFromTrial run stand h (course_by run.zero_budget stand.at.point h read)) (sym (read_is is members words))
        (trial_by (trial_end run stand.at stand.ports) refl is members words)

    -- The units have the states of the position to which the run goes.
    pub leads_to : (point : Point) → LeadsOn run stand h point
        → ◌≡◌ {A = Position} (record { point = point; states = units; number = stand.at.number + 1 }) (after run stand.at stand.ports)
    leads_to point leads =
        let held : units ≡ (after run stand.at stand.ports).states =
        sym (units_hold stand.at.point.t h stand.ports run.members stand.at.states units seats long are full)
        ∙ ap (λ step. map state_after (zip stand.at.states (steps_by run stand.at stand.ports step))) leads.agreed_on in
        let next : stand.at.number + 1 ≡ suc stand.at.number = omega arith in
        position_is point (after run stand.at stand.ports).point units (after run stand.at stand.ports).states (stand.at.number + 1)
        (suc stand.at.number) leads.to held next

    -- ---- From a redo

    redone_by : (spent : Bool) → is_spent run stand h ≡ spent → h ≡ agreed run stand.at stand.ports → trial_end run stand.at stand.ports ≡ None
        → is_redone run stand.at stand.ports ≡ true → redo_end_by run stand.at stand.ports (agreed run stand.at stand.ports) ≡ None
        → LeadsFromRedo run stand h (course_on run.zero_budget stand.at.point h)
    redone_by true spent is no_fault shorter told =
        subst (LeadsFromRedo run stand h) (sym (spent_course run stand h spent))
        ((ends_in_order run stand going).zero_ends ZeroBudget no_fault (redo_end_is shorter ∙ told) (zero_there run stand h is spent))
    redone_by false free is no_fault shorter told =
        subst (LeadsFromRedo run stand h) (sym (free_course run stand h free))
        (record {
          agreed_on = is;
          goes_on = (ends_in_order run stand going).redo_goes no_fault shorter told (no_zero run stand h is free);
          to = ap (point_after stand.at.point) is;
        })

    told_anew : h ≡ agreed run stand.at stand.ports
        → redo_result (seat_steps run.members seats) ≡ redo_end_by run stand.at stand.ports (agreed run stand.at stand.ports)
    told_anew is = redo_read stand.at.point.t h stand.ports run.members stand.at.states units seats long are full
        ∙ ap (redo_end_by run stand.at stand.ports) is

    redo_by : (found : Option Ending) → redo_result (seat_steps run.members seats) ≡ found → h ≡ agreed run stand.at stand.ports
        → trial_end run stand.at stand.ports ≡ None → is_redone run stand.at stand.ports ≡ true
        → LeadsFromRedo run stand h (course_of_redo run.zero_budget stand.at.point h (seat_steps run.members seats))
    redo_by (Some ending) found is no_fault shorter =
        subst (λ one. LeadsFromRedo run stand h (end_or one (course_on run.zero_budget stand.at.point h))) (sym found)
        ((ends_in_order run stand going).redo_ends ending no_fault shorter (sym (told_anew is) ∙ found))
    redo_by None found is no_fault shorter =
        subst (λ one. LeadsFromRedo run stand h (end_or one (course_on run.zero_budget stand.at.point h))) (sym found)
        (redone_by (is_spent run stand h) refl is no_fault shorter (sym (told_anew is) ∙ found))

    pub redo_leads : h ≡ agreed run stand.at stand.ports → trial_end run stand.at stand.ports ≡ None → is_redone run stand.at stand.ports ≡ true
        → LeadsFromRedo run stand h (course_of_redo run.zero_budget stand.at.point h (seat_steps run.members seats))
    redo_leads is no_fault shorter = redo_by (redo_result (seat_steps run.members seats)) refl is no_fault shorter
