-- Events of a world: what each needs of the world's invariant.
use Rattle.std.proofs.Common.{◌≡◌, ◌≢◌, ◌∙◌, ℕ, zero, suc, ◌+◌, ◌==◌, ◌<◌, ◌≤◌, Bool, true, false, List}
use Rattle.std.proofs.Common.{[], ◌∷◌, length, Some, refl, sym, ap, subst, arith, inr}
use Rattle.std.proofs.lemmas.Bool.{eqb-true, eqb-false}
use Rattle.std.proofs.lemmas.Option.{same_Some, slice_get_within}
use Rattle.std.specs.Prelude.{slice_get}
use Rattle.spec_core.specs.Events.{Happens, IsRefused}
use Rattle.spec_core.specs.Worlds.{IsWorld, WorldState}
use Rattle.spec_core.specs.declared.event.Event.{Event}
use Rattle.spec_core.specs.declared.event.Reply.TheVariants as reply
use Rattle.trace_core.specs.Runs.{AreCellsFull, Cell, Empty, IsWanted, RunState, Stands, is_empty_cell}
use Rattle.trace_core.specs.declared.phase.Settle.TheVariants as settle
use Rattle.trace_rows.proofs.Filling.{few_cells, full_cell}

pub never : false ≡ true → ⊥
never is = cc

-- An instance with a required step exists.
pub wanted_within : (r : RunState) (instance : ℕ) → Stands r → IsWanted r instance → instance < length r.plan.run.members
wanted_within r instance stands wanted =
    let within = slice_get_within r.cells instance Empty wanted in
    let few = few_cells r stands in
    omega (arith, within, few)

pub wanted_lane : (world : WorldState) (instance : ℕ) → IsWorld world → IsWanted world.run instance → instance < length world.lanes
wanted_lane world instance is wanted =
    let within = wanted_within world.run instance is.stands wanted in
    let each = is.each_instance in
    omega (arith, within, each)

-- A refused event.
pub refused_so : (world : WorldState) (one : Event) → IsRefused world one → Happens world one reply.Refused world
refused_so world one is = inr (record { refused = is; is = refl; replied = refl })

-- ---- Whether all cells are filled

-- No step is required of the first instances.
abbrev pub NoneWantedBelow : RunState → ℕ → Type 0
NoneWantedBelow r count = (instance : ℕ) → instance < count → IsWanted r instance → ⊥

pub none_below : (r : RunState) → NoneWantedBelow r 0
none_below r instance within wanted = omega (arith, within)

pub none_more : (r : RunState) (count : ℕ) → NoneWantedBelow r count → (IsWanted r count → ⊥) → NoneWantedBelow r (count + 1)
none_more r count before here instance within wanted = by (instance == count) refl
  where
    by : (b : Bool) → (instance == count) ≡ b → ⊥
    by true same = here (subst (IsWanted r) (eqb-true instance count same) wanted)
    by false same = let differs : instance ≢ count = eqb-false instance count same in before instance (omega (arith, within, differs)) wanted

empty_one : (cells : List Cell) (instance : ℕ) → slice_get cells instance ≡ Some Empty → AreCellsFull cells → ⊥
empty_one [] instance at full = cc
empty_one (cell ∷ cells) zero at full = never (sym full.0 ∙ ap is_empty_cell (same_Some cell Empty at))
empty_one (cell ∷ cells) (suc instance) at full = empty_one cells instance at full.1

pub not_full : (r : RunState) (instance : ℕ) → IsWanted r instance → AreCellsFull r.cells → ⊥
not_full r instance wanted full = empty_one r.cells instance wanted full

all_cells : (cells : List Cell) → ((instance : ℕ) → slice_get cells instance ≡ Some Empty → ⊥) → AreCellsFull cells
all_cells [] none = tt
all_cells (cell ∷ cells) none = (full_cell cell (none 0), all_cells cells (λ instance at. none (suc instance) at))

pub all_full : (r : RunState) (count : ℕ) → NoneWantedBelow r count → length r.cells ≤ count → AreCellsFull r.cells
all_full r count none most =
    all_cells r.cells (λ instance at. none instance (let within = slice_get_within r.cells instance Empty at in omega (arith, within, most)) at)
