-- How many cells a stand has: those of the trial, and those of the redo.
use Rattle.std.proofs.Common.{◌≡◌, ◌∙◌, ℕ, ◌+◌, cond, Bool, true, false, List, [], ◌∷◌, ℤ, length, map, Option, Some, None, refl, sym, ap, arith}
use Rattle.std.specs.Prelude.{◌&&◌, is_some, is_none, zip}
use Rattle.std.specs.List.{count_by}
use Rattle.std.proofs.lemmas.List.Sums.{sum_by-cons}
use Rattle.trace_core.specs.Runs.{Held, Empty, cell_of, first_end, is_empty_cell}
use Rattle.unit_tree.specs.Compositions.{Composition, Member}
use Rattle.super_time.specs.LocalTime.{local_time, local_step}
use Rattle.unit_tree.specs.Components.{step_of}
use Rattle.unit_tree.specs.Negotiation.{inputs_at, is_held, step_at}
use Rattle.unit_tree.specs.Ports.{Ports}
use Rattle.unit_tree.specs.Successor.{steps_by, trial_end, is_redone}
use Rattle.unit_tree.specs.Trace.{Stand, steps_there, cells_of_trial, cells_of_redo, cells_at}
use Rattle.unit_tree.specs.declared.ending.Ending.{Ending}

-- ---- How many there are

-- A cell is required exactly where the member makes a step.
abbrev one : Bool → ℕ
one counts = cond counts 1 0

one_wanted : (held : Bool) {A : Type 0} (step : A) → one (is_empty_cell (cond held Held Empty)) ≡ one (is_some (cond held None (Some step)))
one_wanted true step = refl
one_wanted false step = refl

wanted_along : (t h : ℕ) (ports : Ports) (members : List Member) (states : List (List ℤ)) → length states ≡ length members
    → count_by is_empty_cell (map (cell_of t h) members) ≡ steps_there (map (step_at t h ports) (zip members states))
wanted_along t h ports [] [] as_many = refl
wanted_along t h ports [] (state ∷ states) as_many = absurd (omega arith)
wanted_along t h ports (member ∷ members) [] as_many = absurd (omega arith)
wanted_along t h ports (member ∷ members) (state ∷ states) as_many =
    sum_by-cons (λ cell. cond (is_empty_cell cell) 1 0) (cell_of t h member) (map (cell_of t h) members)
    ∙ ap (λ n. n + count_by is_empty_cell (map (cell_of t h) members))
    (one_wanted (is_held member.factor t h)
    (step_of member.component state (inputs_at ports member) (local_time member.factor t) (local_step member.factor t h)))
    ∙ ap (λ n. cond (is_some (step_at t h ports (member, state))) 1 0 + n) (wanted_along t h ports members states (omega arith))
    ∙ sym (sum_by-cons (λ step. cond (is_some step) 1 0) (step_at t h ports (member, state)) (map (step_at t h ports) (zip members states)))

pub wanted_are_steps : (run : Composition) (stand : Stand) (h : ℕ) → length stand.at.states ≡ length run.members
    → count_by is_empty_cell (map (cell_of stand.at.point.t h) run.members) ≡ steps_there (steps_by run stand.at stand.ports h)
wanted_are_steps run stand h as_many = wanted_along stand.at.point.t h stand.ports run.members stand.at.states as_many

-- ---- The cells of a stand

-- Where the run goes on, the cells of the trial.
cells_of_both : (run : Composition) (stand : Stand) → first_end run stand ≡ None
    → cells_at run stand
    ≡ cells_of_trial run stand + cond (is_none (trial_end run stand.at stand.ports) && is_redone run stand.at stand.ports) (cells_of_redo run stand) 0
cells_of_both run stand none =
    ap (λ (end : Option Ending). cond (is_some end) 0
    (cells_of_trial run stand + cond (is_none (trial_end run stand.at stand.ports) && is_redone run stand.at stand.ports) (cells_of_redo run stand) 0)) none

-- With the cells of the redo.
pub cells_redone : (run : Composition) (stand : Stand) → first_end run stand ≡ None → trial_end run stand.at stand.ports ≡ None
    → is_redone run stand.at stand.ports ≡ true → cells_at run stand ≡ cells_of_trial run stand + cells_of_redo run stand
cells_redone run stand none no_fault shorter =
    cells_of_both run stand none
    ∙ ap (λ (end : Option Ending). cells_of_trial run stand + cond (is_none end && is_redone run stand.at stand.ports) (cells_of_redo run stand) 0) no_fault
    ∙ ap (λ redone. cells_of_trial run stand + cond redone (cells_of_redo run stand) 0) shorter

tried_by : (end : Option Ending) (redone : Bool) (tried anew : ℕ) → (end ≡ None → redone ≡ true → ⊥) → tried + cond (is_none end && redone) anew 0 ≡ tried
tried_by (Some ending) redone tried anew not = omega arith
tried_by None true tried anew not = absurd (not refl refl)
tried_by None false tried anew not = omega arith

pub cells_tried : (run : Composition) (stand : Stand) → first_end run stand ≡ None
    → (trial_end run stand.at stand.ports ≡ None → is_redone run stand.at stand.ports ≡ true → ⊥) → cells_at run stand ≡ cells_of_trial run stand
cells_tried run stand none not =
    cells_of_both run stand none
    ∙ tried_by (trial_end run stand.at stand.ports) (is_redone run stand.at stand.ports) (cells_of_trial run stand) (cells_of_redo run stand) not
