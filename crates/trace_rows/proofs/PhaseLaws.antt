-- Where a run goes from a phase whose steps were made, by anyone: to the next stand, to the end, or to the redo.
use Rattle.std.proofs.Common.{◌≡◌, ◌∙◌, ℕ, ◌+◌, true, false, List, length, None, inl, inr, refl, sym, ap, subst, arith}
use Rattle.std.specs.List.{count_by}
use Rattle.std.proofs.lemmas.Slice.Zip.{AllZip-long}
use Rattle.trace_core.specs.Runs.{Cell, RunState, Stands, IsPhase, arrived, cells_of, first_end, is_empty_cell}
use Rattle.trace_core.specs.Settling.{IsRedoDue, Moves, Ends, Settled}
use Rattle.trace_core.specs.declared.phase.Phase.{Phase}
use Rattle.trace_core.specs.declared.phase.Phase.TheVariants.{Trial, Redo, Ended}
use Rattle.trace_core.specs.declared.phase.Settle.{Settle}
use Rattle.trace_core.specs.declared.phase.Settle.TheVariants as settle
use Rattle.unit_tree.specs.Negotiation.{all_inputs}
use Rattle.unit_tree.specs.Successor.{proposed, agreed, trial_end, is_redone}
use Rattle.unit_tree.specs.Trace.{AreWordsOf, cells_of_trial, cells_at}
use Rattle.unit_tree.specs.declared.ending.Ending.{Ending}
use Rattle.trace_rows.specs.Passing.{AreStepsThere, IsFresh, Passes, Stops, WentOn}
use Rattle.trace_rows.proofs.FreshRuns.{IsTried, phase_by, fresh_tried, over_from, ended_as, cells_ended}
use Rattle.trace_rows.proofs.PhaseCells.{wanted_are_steps, cells_redone, cells_tried}

-- ---- The run is at its end already

pub ends_already : (r : RunState) (ending : Ending) → IsFresh r → Stands r → r.phase ≡ Ended ending → WentOn r r false
ends_already r ending fresh stands phase =
    let over = over_from r (first_end r.plan.run r.stand) ending (phase_by r (first_end r.plan.run r.stand) fresh refl) phase in
    let none = cells_ended r.plan.run r.stand ending over.over in
    inr (record {
      ending = ending;
      ended = ended_as r.plan.run r.stand r.phase ending (subst (IsPhase r.plan.run r.stand r.phase) over.none stands.phase_is) phase;
      planned = refl;
      stand = refl;
      phase = phase;
      filled = omega (arith, none);
    })

-- ---- From a phase whose steps are made

-- The run with other cells and counts.
abbrev filled_with : RunState → Phase → List Cell → ℕ → ℕ → RunState
filled_with r phase cells found own = record r { phase = phase; cells = cells; found = found; own = own }

fresh_by : (r next : RunState) (phase : Phase) (cells : List Cell) (found own : ℕ) → Moves (filled_with r phase cells found own) next → IsFresh next
fresh_by r next phase cells found own moves =
    let before = all_inputs r.plan.run r.stand.ports in
    moves.is
    ∙ ap (λ plan. arrived plan r.opened next.stand before found own) (sym (ap (λ (s : RunState). s.plan) moves.is))
    ∙ ap (λ opened. arrived next.plan opened next.stand before found own) (sym (ap (λ (s : RunState). s.opened) moves.is))
    ∙ ap (λ inputs. arrived next.plan next.opened next.stand inputs found own) (sym (ap (λ (s : RunState). s.before) moves.is))
    ∙ ap (λ count. arrived next.plan next.opened next.stand next.before count own) (sym (ap (λ (s : RunState). s.found) moves.is))
    ∙ ap (λ count. arrived next.plan next.opened next.stand next.before next.found count) (sym (ap (λ (s : RunState). s.own) moves.is))

moved_by : (r next : RunState) (phase : Phase) (cells : List Cell) (found own : ℕ) → found + own ≡ r.found + r.own + cells_at r.plan.run r.stand
    → Moves (filled_with r phase cells found own) next → Passes r next
moved_by r next phase cells found own all moves = record {
  planned = ap (λ (s : RunState). s.plan) moves.is;
  goes = moves.goes;
  fresh = fresh_by r next phase cells found own moves;
  filled = ap (λ (s : RunState). s.found + s.own) moves.is ∙ all;
}

ends_by : (r next : RunState) (phase : Phase) (cells : List Cell) (found own : ℕ) → found + own ≡ r.found + r.own + cells_at r.plan.run r.stand
    → Ends (filled_with r phase cells found own) next → Stops r next
ends_by r next phase cells found own all end = record {
  ending = end.ending;
  ended = end.ended;
  planned = ap (λ (s : RunState). s.plan) end.is;
  stand = ap (λ (s : RunState). s.stand) end.is;
  phase = ap (λ (s : RunState). s.phase) end.is;
  filled = ap (λ (s : RunState). s.found + s.own) end.is ∙ all;
}

-- The run at its redo, at the same stand.
abbrev anew : RunState → ℕ → ℕ → RunState
anew r found own = record r {
  phase = Redo (agreed r.plan.run r.stand.at r.stand.ports);
  cells = cells_of r.plan.run r.stand.at.point.t (Redo (agreed r.plan.run r.stand.at r.stand.ports));
  found = found;
  own = own;
}

-- A redo is due, when all cells of the trial were filled.
pub record IsRedone (r next : RunState) : Type 0 where
  pub going : first_end r.plan.run r.stand ≡ None
  pub no_fault : trial_end r.plan.run r.stand.at r.stand.ports ≡ None
  pub shorter : is_redone r.plan.run r.stand.at r.stand.ports ≡ true
  pub is : next ≡ anew r next.found next.own
  pub counted : next.found + next.own ≡ r.found + r.own + cells_of_trial r.plan.run r.stand

-- The next row after settling: after the trial, and after the redo.
abbrev pub ToRow : RunState → RunState → Settle → Type 0
ToRow r next settle.Row = WentOn r next true
ToRow r next settle.Ended = WentOn r next false
ToRow r next settle.Redo = IsRedone r next

abbrev pub ToEnd : RunState → RunState → Settle → Type 0
ToEnd r next settle.Row = WentOn r next true
ToEnd r next settle.Ended = WentOn r next false
ToEnd r next settle.Redo = ⊥

module _ (r : RunState) (stands : Stands r) where
  as_many : length r.stand.at.states ≡ length r.plan.run.members
  as_many = AllZip-long (λ member state. AreWordsOf member.component.unit.states state) r.plan.run.members r.stand.at.states stands.words

  -- ---- The trial

  trial_cells : IsTried r → count_by is_empty_cell r.cells ≡ cells_of_trial r.plan.run r.stand
  trial_cells tried =
      ap (count_by is_empty_cell) tried.cells ∙ wanted_are_steps r.plan.run r.stand (proposed r.plan.run r.stand.at r.stand.ports) as_many

  all_tried : (cells : List Cell) (found own : ℕ) → IsTried r → (IsRedoDue (filled_with r r.phase cells found own) → ⊥)
      → found + own ≡ r.found + r.own + count_by is_empty_cell r.cells → found + own ≡ r.found + r.own + cells_at r.plan.run r.stand
  all_tried cells found own tried no_redo counted =
      let here = trial_cells tried in
      let all = cells_tried r.plan.run r.stand tried.going
      (λ no_fault shorter. no_redo
      (record { h = proposed r.plan.run r.stand.at r.stand.ports; trial = tried.phase; no_fault = no_fault; shorter = shorter })) in
      omega (arith, here, all, counted)

  from_trial : (next : RunState) (cells : List Cell) (found own : ℕ) (told : Settle) → IsTried r
      → found + own ≡ r.found + r.own + count_by is_empty_cell r.cells → Settled (filled_with r r.phase cells found own) next told → ToRow r next told
  from_trial next cells found own settle.Row tried counted (moves, known) =
      (moved_by r next r.phase cells found own (all_tried cells found own tried moves.no_redo counted) moves, known)
  from_trial next cells found own settle.Ended tried counted (inl (moves, unknown)) =
      inl (moved_by r next r.phase cells found own (all_tried cells found own tried moves.no_redo counted) moves, unknown)
  from_trial next cells found own settle.Ended tried counted (inr end) =
      inr (ends_by r next r.phase cells found own (all_tried cells found own tried end.no_redo counted) end)
  from_trial next cells found own settle.Redo tried counted (due, is) = record {
    going = tried.going;
    no_fault = due.no_fault;
    shorter = due.shorter;
    is = is ∙ ap (λ count. anew r count own) (sym (ap (λ (s : RunState). s.found) is)) ∙ ap (anew r next.found) (sym (ap (λ (s : RunState). s.own) is));
    counted = ap (λ (s : RunState). s.found + s.own) is ∙ counted ∙ ap (λ n. r.found + r.own + n) (trial_cells tried);
  }

  pub settled_trial : (now next : RunState) (told : Settle) → IsFresh r → ((ending : Ending) → r.phase ≡ Ended ending → ⊥) → AreStepsThere r now
      → Settled now next told → ToRow r next told
  settled_trial now next told fresh going there settled =
      from_trial next now.cells now.found now.own told (fresh_tried r fresh going) there.counted
      (subst (λ one. Settled one next told) there.is settled)

  -- ---- The redo

  redo_cells : (second : RunState) → IsRedone r second → (found own : ℕ) → found + own ≡ second.found + second.own + count_by is_empty_cell second.cells
      → found + own ≡ r.found + r.own + cells_at r.plan.run r.stand
  redo_cells second redone found own counted =
      let here = ap (λ (s : RunState). count_by is_empty_cell s.cells) redone.is
      ∙ wanted_are_steps r.plan.run r.stand (agreed r.plan.run r.stand.at r.stand.ports) as_many in
      let all = cells_redone r.plan.run r.stand redone.going redone.no_fault redone.shorter in
      let before = redone.counted in
      omega (arith, here, all, before, counted)

  no_second : (cells : List Cell) (found own : ℕ) → IsRedoDue (filled_with r (Redo (agreed r.plan.run r.stand.at r.stand.ports)) cells found own) → ⊥
  no_second cells found own due = differ due.trial
    where
      differ : Redo (agreed r.plan.run r.stand.at r.stand.ports) ≡ Trial due.h → ⊥
      differ e = cc

  from_redo : (next : RunState) (cells : List Cell) (found own : ℕ) (told : Settle) → found + own ≡ r.found + r.own + cells_at r.plan.run r.stand
      → Settled (filled_with r (Redo (agreed r.plan.run r.stand.at r.stand.ports)) cells found own) next told → ToEnd r next told
  from_redo next cells found own settle.Row all (moves, known) =
      (moved_by r next (Redo (agreed r.plan.run r.stand.at r.stand.ports)) cells found own all moves, known)
  from_redo next cells found own settle.Ended all (inl (moves, unknown)) =
      inl (moved_by r next (Redo (agreed r.plan.run r.stand.at r.stand.ports)) cells found own all moves, unknown)
  from_redo next cells found own settle.Ended all (inr end) =
      inr (ends_by r next (Redo (agreed r.plan.run r.stand.at r.stand.ports)) cells found own all end)
  from_redo next cells found own settle.Redo all (due, is) = no_second cells found own due

  pub settled_redo : (second now next : RunState) (told : Settle) → IsRedone r second → AreStepsThere second now → Settled now next told
      → ToEnd r next told
  settled_redo second now next told redone there settled =
      let is : now ≡ filled_with r (Redo (agreed r.plan.run r.stand.at r.stand.ports)) now.cells now.found now.own =
      there.is ∙ ap (λ (s : RunState). record s { cells = now.cells; found = now.found; own = now.own }) redone.is in
      from_redo next now.cells now.found now.own told (redo_cells second redone now.found now.own there.counted)
      (subst (λ one. Settled one next told) is settled)

-- Where there is no next row, it has ended.
pub no_row : (r next : RunState) (told : Settle) → ToEnd r next told → (told ≡ settle.Row → ⊥) → WentOn r next false
no_row r next settle.Row to not = absurd (not refl)
no_row r next settle.Ended to not = to
no_row r next settle.Redo to not = absurd to
