use Rattle.std.proofs.Common.{◌≡◌, ◌∙◌, ◌+◌, ap, sym, subst, ◌++◌, ◌∷◌, [], take, drop, None, nat_eq}
use Rattle.std.proofs.lemmas.List.{take-append-drop, take_more, drop_more}
use Rattle.indexmap.specs.IndexMap.{insert_entry}
use Rattle.guess_board.specs.Cells.{RisesFrom}
use Rattle.guess_board.specs.Slots.{entries_of}
use Rattle.guess_board.proofs.SlotLaws.{inserted}
use Rattle.guess_board.proofs.slots.empty_slots.Goals as goal

pub loop-cell-preserved : goal.loop-cell-preserved
loop-cell-preserved c =
    let line = c.args.line.now in
    let i = c.loop-cell.cell-index in
    let cell = c.cell-item.result in
    let here : drop i line ≡ cell ∷ drop (i + 1) line = drop_more line i cell c.loop-cell-test.true ∙ ap (λ x. x ∷ drop (i + 1) line) (sym c.cell-item.is) in
    let split = sym (take-append-drop i line) ∙ ap (λ rest. take i line ++ rest) here in
    let next : take i line ++ cell ∷ [] ≡ take (i + 1) line =
    ap (λ x. take i line ++ x ∷ []) c.cell-item.is ∙ sym (take_more line i cell c.loop-cell-test.true) in
    c.in_ok-insert.ensures.entries
    ∙ ap (λ es. insert_entry nat_eq es cell.row None) c.loop-cell.invariant
    ∙ inserted 0 (take i line) cell (drop (i + 1) line) (subst (RisesFrom 0) split c.requires)
    ∙ ap (λ front. entries_of front []) next
