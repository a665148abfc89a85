-- Cells: which are held, and how many are filled.
use Rattle.std.proofs.Common.{◌≡◌, ◌∙◌, ℕ, zero, suc, ◌+◌, ◌≤◌, Bool, true, false, not, cond, ℤ, List, [], ◌∷◌, map, zip, length, get_or, Some, None, Result}
use Rattle.std.proofs.Common.{refl, sym, ap, subst, arith}
use Rattle.std.proofs.lemmas.List.Sums.{sum_by-cons, sum_by-set, count_by-le-length}
use Rattle.std.proofs.lemmas.List.{length-map}
use Rattle.std.proofs.lemmas.Option.{slice_get_within, get_or_from_slice_get}
use Rattle.std.proofs.Math.Seq.{map-set_same}
use Rattle.std.specs.Prelude.{is_some, slice_get, slice_set}
use Rattle.std.specs.List.{count_by}
use Rattle.fixed_words.specs.declared.types.Fault.{Fault}
use Rattle.trace_core.specs.Runs.{Cell, Held, Empty, Filled, is_held_cell, is_empty_cell, is_filled, AreCellsFull, FitCells, cell_of, cells_of}
use Rattle.trace_core.specs.declared.phase.Phase.{Phase}
use Rattle.trace_core.specs.declared.phase.Phase.TheVariants.{Trial, Redo, Ended}
use Rattle.unit_tree.specs.Components.{Moved, step_of}
use Rattle.unit_tree.specs.Compositions.{Member, Composition}
use Rattle.unit_tree.specs.Negotiation.{is_held, step_at, inputs_at}
use Rattle.unit_tree.specs.Ports.{Ports}
use Rattle.unit_tree.specs.Successor.{Position, steps_by}
use Rattle.unit_tree.specs.Trace.{steps_there}
use Rattle.super_time.specs.LocalTime.{local_time, local_step}

counted_more : {A : Type 0} (passes : A → Bool) (x : A) (xs : List A) → count_by passes (x ∷ xs) ≡ cond (passes x) 1 0 + count_by passes xs
counted_more passes x xs = sum_by-cons (λ y. cond (passes y) 1 0) x xs

-- The member makes a step in a step of h from t.
abbrev is_stepped : ℕ → ℕ → Member → Bool
is_stepped t h member = not (is_held member.factor t h)

filled_is : (cell : Cell) → is_empty_cell cell ≡ false → is_filled cell ≡ not (is_held_cell cell)
filled_is Held full = refl
filled_is Empty full = absurd (cc)
filled_is (Filled step) full = refl

full_cells : (t h : ℕ) (members : List Member) (cells : List Cell) → map is_held_cell cells ≡ map (λ (member : Member). is_held member.factor t h) members
    → AreCellsFull cells → count_by is_filled cells ≡ count_by (is_stepped t h) members
full_cells t h [] [] fit full = refl
full_cells t h [] (cell ∷ cells) fit full = absurd (cc)
full_cells t h (member ∷ members) [] fit full = absurd (cc)
full_cells t h (member ∷ members) (cell ∷ cells) fit full =
    let first : is_held_cell cell ≡ is_held member.factor t h = cc in
    let others : map is_held_cell cells ≡ map (λ (one : Member). is_held one.factor t h) members = cc in
    counted_more is_filled cell cells
    ∙ ap (λ told. cond told 1 0 + count_by is_filled cells) (filled_is cell full.0 ∙ ap not first)
    ∙ ap (λ count. cond (is_stepped t h member) 1 0 + count) (full_cells t h members cells others full.1)
    ∙ sym (counted_more (is_stepped t h) member members)

there_by : (held : Bool) (step : Result Moved Fault) → is_some (cond held None (Some step)) ≡ not held
there_by true step = refl
there_by false step = refl

steps_are : (t h : ℕ) (ports : Ports) (members : List Member) (states : List (List ℤ)) → length states ≡ length members
    → steps_there (map (step_at t h ports) (zip members states)) ≡ count_by (is_stepped t h) members
steps_are t h ports [] states long = refl
steps_are t h ports (member ∷ members) [] long = absurd (omega (arith, long))
steps_are t h ports (member ∷ members) (state ∷ states) long =
    counted_more is_some (step_at t h ports (member, state)) (map (step_at t h ports) (zip members states))
    ∙ ap (λ told. cond told 1 0 + steps_there (map (step_at t h ports) (zip members states)))
    (there_by (is_held member.factor t h) (step_of member.component state (inputs_at ports member) (local_time member.factor t) (local_step member.factor t h)))
    ∙ ap (λ count. cond (is_stepped t h member) 1 0 + count) (steps_are t h ports members states (omega (arith, long)))
    ∙ sym (counted_more (is_stepped t h) member members)

-- In full cells, as many are filled as steps are made.
pub full_are_steps : (run : Composition) (at : Position) (ports : Ports) (h : ℕ) (cells : List Cell) → length at.states ≡ length run.members
    → FitCells run at.point.t h cells → AreCellsFull cells → count_by is_filled cells ≡ steps_there (steps_by run at ports h)
full_are_steps run at ports h cells long fit full =
    full_cells at.point.t h run.members cells fit full ∙ sym (steps_are at.point.t h ports run.members at.states long)

pub steps_at_most : (run : Composition) (at : Position) (ports : Ports) (h : ℕ) → length at.states ≡ length run.members
    → steps_there (steps_by run at ports h) ≤ length run.members
steps_at_most run at ports h long =
    subst (λ count. count ≤ length run.members) (sym (steps_are at.point.t h ports run.members at.states long))
    (count_by-le-length (is_stepped at.point.t h) run.members)

pub filled_at_most : (run : Composition) (t h : ℕ) (cells : List Cell) → FitCells run t h cells → count_by is_filled cells ≤ length run.members
filled_at_most run t h cells fit =
    let long : length cells ≡ length run.members =
    sym (length-map cells is_held_cell) ∙ ap length fit ∙ length-map run.members (λ (member : Member). is_held member.factor t h) in
    subst (λ most. count_by is_filled cells ≤ most) long (count_by-le-length is_filled cells)

fresh_by : (held : Bool) → is_filled (cond held Held Empty) ≡ false
fresh_by true = refl
fresh_by false = refl

pub fresh_are_empty : (t h : ℕ) (members : List Member) → count_by is_filled (map (cell_of t h) members) ≡ 0
fresh_are_empty t h [] = refl
fresh_are_empty t h (member ∷ members) =
    let first : count_by is_filled (map (cell_of t h) (member ∷ members)) ≡ 0 + count_by is_filled (map (cell_of t h) members) =
    counted_more is_filled (cell_of t h member) (map (cell_of t h) members)
    ∙ ap (λ told. cond told 1 0 + count_by is_filled (map (cell_of t h) members)) (fresh_by (is_held member.factor t h)) in
    let others = fresh_are_empty t h members in
    omega (arith, first, others)

-- ---- A cell that is filled

pub one_filled : (cells : List Cell) (instance : ℕ) (step : Result Moved Fault) → slice_get cells instance ≡ Some Empty
    → count_by is_filled (slice_set cells instance (Filled step)) ≡ suc (count_by is_filled cells)
one_filled cells instance step wanted =
    let within = slice_get_within cells instance Empty wanted in
    let was : get_or cells instance Empty ≡ Empty = get_or_from_slice_get cells instance Empty Empty wanted in
    let sums = sum_by-set (λ cell. cond (is_filled cell) 1 0) cells instance (Filled step) Empty within in
    let none : ◌≡◌ {A = ℕ} (cond (is_filled (get_or cells instance Empty)) 1 0) 0 = ap (λ cell. cond (is_filled cell) 1 0) was in
    omega (arith, sums, none)

pub filled_fit : (cells : List Cell) (instance : ℕ) (step : Result Moved Fault) → slice_get cells instance ≡ Some Empty
    → map is_held_cell (slice_set cells instance (Filled step)) ≡ map is_held_cell cells
filled_fit cells instance step wanted =
    map-set_same is_held_cell cells instance (Filled step) Empty (ap is_held_cell (sym (get_or_from_slice_get cells instance Empty Empty wanted)))

-- ---- At the beginning of a phase no cell is filled

none_by : (held : Bool) (step : Result Moved Fault) → Some (cond held Held Empty) ≡ Some (Filled step) → ⊥
none_by true step is = cc
none_by false step is = cc

none_filled : (t h : ℕ) (members : List Member) (instance : ℕ) (step : Result Moved Fault)
    → slice_get (map (cell_of t h) members) instance ≡ Some (Filled step) → ⊥
none_filled t h [] instance step is = cc
none_filled t h (member ∷ members) zero step is = none_by (is_held member.factor t h) step is
none_filled t h (member ∷ members) (suc instance) step is = none_filled t h members instance step is

pub none_begun : (run : Composition) (t : ℕ) (phase : Phase) (instance : ℕ) (step : Result Moved Fault)
    → slice_get (cells_of run t phase) instance ≡ Some (Filled step) → ⊥
none_begun run t (Trial h) instance step is = none_filled t h run.members instance step is
none_begun run t (Redo h) instance step is = none_filled t h run.members instance step is
none_begun run t (Ended ending) instance step is = cc
