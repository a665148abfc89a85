-- The phase of a stand at which a run arrives.
use Rattle.std.proofs.Common.{◌≡◌, ◌∙◌, ℕ, suc, ◌==◌, Bool, true, false, ℤ, List, [], ◌∷◌, map, zip, Option, Some, None, Result, refl, ap}
use Rattle.std.specs.Prelude.{is_none, if◌then◌else◌}
use Rattle.std.specs.List.{filter_map, cons_option}
use Rattle.fixed_words.specs.declared.types.Fault.{Fault}
use Rattle.trace_core.specs.Arriving.{tried, phase_there, ended_or}
use Rattle.trace_core.specs.Runs.{Held, Empty, first_end, phase_or, phase_at, cell_of, cells_of, is_held_cell, IsPhase}
use Rattle.trace_core.specs.Seats.{max_told, all_told, limits_told, asked}
use Rattle.trace_core.specs.declared.phase.Phase.TheVariants.{Trial, Ended}
use Rattle.unit_tree.specs.Compositions.{Member, Composition}
use Rattle.unit_tree.specs.Negotiation.{is_held, inputs_at, all_inputs, max_at, limit_at, limit_told, proposal_of}
use Rattle.unit_tree.specs.Ports.{Ports, first_some, port_fault}
use Rattle.unit_tree.specs.Successor.{Position, when, first_told, max_end_of, max_end, stop_end, row_end, trial_end, redo_end, zero_end, proposed, standings}
use Rattle.unit_tree.specs.Successor.{ends_or, after}
use Rattle.unit_tree.specs.Trace.{Stand}
use Rattle.unit_tree.specs.declared.ending.Ending.{Ending}
use Rattle.unit_tree.specs.declared.ending.Ending.TheVariants.{Completed, RowBudget}

-- ---- The limits of all members

told_same : (t : ℕ) (ports : Ports) (members : List Member) (states : List (List ℤ))
    → map (max_told t) (zip members (zip states (map (inputs_at ports) members))) ≡ map (max_at t ports) (zip members states)
told_same t ports [] states = refl
told_same t ports (member ∷ members) [] = refl
told_same t ports (member ∷ members) (state ∷ states) = ap (λ rest. max_at t ports (member, state) ∷ rest) (told_same t ports members states)

limits_same : (t : ℕ) (ports : Ports) (members : List Member) (states : List (List ℤ))
    → filter_map (λ (one : Member × Result (Option ℕ) Fault). limit_told one.0.factor t one.1) (zip members (map (max_at t ports) (zip members states)))
    ≡ filter_map (limit_at t ports) (zip members states)
limits_same t ports [] states = refl
limits_same t ports (member ∷ members) [] = refl
limits_same t ports (member ∷ members) (state ∷ states) = ap (cons_option (limit_at t ports (member, state))) (limits_same t ports members states)

asked_by : (run : Composition) (t h : ℕ) (told : List (Result (Option ℕ) Fault)) (found : Option Ending) → first_told max_end_of told ≡ found
    → proposal_of run.stop run.longest t (limits_told t run.members told) ≡ h → tried (asked run t told) ≡ phase_or found h
asked_by run t h told None is same = rw is (ap Trial same)
asked_by run t h told (Some ending) is same = rw is refl

-- A step is tried, or a `max` ends the run.
tried_is : (run : Composition) (at : Position) (ports : Ports)
    → tried (asked run at.point.t (all_told at.point.t run.members at.states (all_inputs run ports))) ≡ phase_or (max_end run at ports) (proposed run at ports)
tried_is run at ports =
    let told = told_same at.point.t ports run.members at.states in
    ap (λ all. tried (asked run at.point.t all)) told
    ∙ asked_by run at.point.t (proposed run at ports) (map (max_at at.point.t ports) (standings run at)) (max_end run at ports) refl
    (ap (proposal_of run.stop run.longest at.point.t) (limits_same at.point.t ports run.members at.states))

-- ---- The first end

in_turn : (fault : Option Ending) (at_stop last_row : Bool) (limit : Option Ending) (h : ℕ)
    → ended_or fault (if at_stop then Ended Completed else (if last_row then Ended RowBudget else phase_or limit h))
    ≡ phase_or (first_some (fault ∷ when at_stop Completed ∷ when last_row RowBudget ∷ limit ∷ [])) h
in_turn (Some ending) at_stop last_row limit h = refl
in_turn None true last_row limit h = refl
in_turn None false true limit h = refl
in_turn None false false (Some ending) h = refl
in_turn None false false None h = refl

phase_by : (run : Composition) (at : Position) (ports : Ports) (inputs : List (List ℤ)) (fault : Option Ending)
    → (is_none fault ≡ true → inputs ≡ all_inputs run ports)
    → ended_or fault (phase_there run at.point at.number at.states inputs)
    ≡ phase_or (first_some (fault ∷ stop_end run at ∷ row_end run at ∷ max_end run at ports ∷ [])) (proposed run at ports)
phase_by run at ports inputs (Some ending) same = refl
phase_by run at ports inputs None same =
    ap (λ words. if at.point.t == run.stop then Ended Completed else
    (if suc at.number == run.row_budget then Ended RowBudget else tried (asked run at.point.t (all_told at.point.t run.members at.states words))))
    (same refl)
    ∙ ap (λ phase. if at.point.t == run.stop then Ended Completed else (if suc at.number == run.row_budget then Ended RowBudget else phase))
    (tried_is run at ports)
    ∙ in_turn None (at.point.t == run.stop) (suc at.number == run.row_budget) (max_end run at ports) (proposed run at ports)

-- The phase that begins is the one that follows from the stand.
pub phase_is : (run : Composition) (at : Position) (ports : Ports) (inputs : List (List ℤ)) (fault : Option Ending) → fault ≡ port_fault run at.states ports
    → (is_none fault ≡ true → inputs ≡ all_inputs run ports)
    → ended_or fault (phase_there run at.point at.number at.states inputs) ≡ phase_at run (record { at = at; ports = ports })
phase_is run at ports inputs fault is same =
    phase_by run at ports inputs fault same
    ∙ ap (λ one. phase_or (first_some (one ∷ stop_end run at ∷ row_end run at ∷ max_end run at ports ∷ [])) (proposed run at ports)) is

-- ---- The result is right

first_of_seven : (a b c d e f g : Option Ending) (ending : Ending) → first_some (a ∷ b ∷ c ∷ d ∷ []) ≡ Some ending
    → first_some (a ∷ b ∷ c ∷ d ∷ e ∷ f ∷ g ∷ []) ≡ Some ending
first_of_seven (Some one) b c d e f g ending is = is
first_of_seven None (Some one) c d e f g ending is = is
first_of_seven None None (Some one) d e f g ending is = is
first_of_seven None None None (Some one) e f g ending is = is
first_of_seven None None None None e f g ending is = absurd (cc)

none_of_four : (a b c d : Option Ending) → first_some (a ∷ b ∷ c ∷ d ∷ []) ≡ None → (a ≡ None) × (b ≡ None) × (c ≡ None) × (d ≡ None)
none_of_four (Some one) b c d is = absurd (cc)
none_of_four None (Some one) c d is = absurd (cc)
none_of_four None None (Some one) d is = absurd (cc)
none_of_four None None None (Some one) is = absurd (cc)
none_of_four None None None None is = (refl, refl, refl, refl)

held_cell : (held : Bool) → is_held_cell (if held then Held else Empty) ≡ held
held_cell true = refl
held_cell false = refl

pub fresh_cells_fit : (t h : ℕ) (members : List Member) → map is_held_cell (map (cell_of t h) members) ≡ map (λ member. is_held member.factor t h) members
fresh_cells_fit t h [] = refl
fresh_cells_fit t h (member ∷ members) =
    ap (λ held. held ∷ map is_held_cell (map (cell_of t h) members)) (held_cell (is_held member.factor t h))
    ∙ ap (λ rest. is_held member.factor t h ∷ rest) (fresh_cells_fit t h members)

right_by : (run : Composition) (stand : Stand) (found : Option Ending) → first_end run stand ≡ found
    → IsPhase run stand (phase_or found (proposed run stand.at stand.ports))
    (cells_of run stand.at.point.t (phase_or found (proposed run stand.at stand.ports)))
right_by run stand (Some ending) is = record {
  is = ap (λ one. ends_or one (after run stand.at stand.ports))
      (first_of_seven (port_fault run stand.at.states stand.ports) (stop_end run stand.at) (row_end run stand.at) (max_end run stand.at stand.ports)
      (trial_end run stand.at stand.ports) (redo_end run stand.at stand.ports) (zero_end run stand.at stand.ports) ending is);
  none = refl;
}
right_by run stand None is =
    let none = none_of_four (port_fault run stand.at.states stand.ports) (stop_end run stand.at) (row_end run stand.at) (max_end run stand.at stand.ports) is in
    record {
      going = record { ports_known = none.0; before_stop = none.1; rows_left = none.2; limits_told = none.3 };
      is = refl;
      cells_fit = fresh_cells_fit stand.at.point.t (proposed run stand.at stand.ports) run.members;
    }

pub phase_is_right : (run : Composition) (stand : Stand) → IsPhase run stand (phase_at run stand) (cells_of run stand.at.point.t (phase_at run stand))
phase_is_right run stand = right_by run stand (first_end run stand) refl
