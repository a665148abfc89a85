use Rattle.std.proofs.Common.{◌≡◌, false, sym, ◌∙◌}
use Rattle.unit_print.specs.Calls.{is_call}
use Rattle.unit_print.proofs.NodeTexts.{call_done, infix_done, clamp_done, choose_done}
use Rattle.unit_print.proofs.expressions.+expression.Goals as goal
use Rattle.list_laws.proofs.Options.{on_ok}

pub expression-returns-in_ok-behind_symbol-in-Binary-2 : goal.expression-returns-in_ok-behind_symbol-in-Binary-2
expression-returns-in_ok-behind_symbol-in-Binary-2 t c =
    on_ok c.symbol.result _ _
    (call_done c.args.expr.now c.in-Binary.left c.in-Binary.right _ _ c.in-Binary.op c.args.text.now.items _ _ _ _
    (sym c.is_call.ensures ∙ c.if-is_call.true) c.in-Binary.is c.get-in-Binary.ensures c.get-in-Binary-2.ensures
    c.in_ok-operation-in-Binary.ensures c.in_ok-behind_symbol-in-Binary.ensures c.in_ok-behind_symbol-in-Binary-2.ensures)
    c.symbol.ensures

pub expression-returns-in_ok-operation-in-Binary-2 : goal.expression-returns-in_ok-operation-in-Binary-2
expression-returns-in_ok-operation-in-Binary-2 t c =
    let called : is_call c.in-Binary-2.op ≡ false = cc in
    on_ok c.put_placed-in-Binary-2.result _ _
    (infix_done c.args.expr.now c.in-Binary-2.left c.in-Binary-2.right _ _ c.in-Binary-2.op _ _ _ c.args.text.now.items _ _ _ called c.in-Binary-2.is
    c.get-in-Binary-2-2.ensures c.get-in-Binary-2-3.ensures
    c.binary_level-level.ensures c.left_level.ensures c.right_level.ensures
    c.in_ok-put_placed-in-Binary-2.ensures c.in_ok-operation-in-Binary-2.ensures)
    c.put_placed-in-Binary-2.ensures

pub expression-returns-in_ok-behind_symbol-in-Clamp-3 : goal.expression-returns-in_ok-behind_symbol-in-Clamp-3
expression-returns-in_ok-behind_symbol-in-Clamp-3 t c =
    on_ok c.symbol-in-Clamp.result _ _
    (clamp_done c.args.expr.now c.in-Clamp.value c.in-Clamp.low c.in-Clamp.high _ _ _ c.args.text.now.items _ _ _ _ _ c.in-Clamp.is c.get-in-Clamp.ensures
    c.get-in-Clamp-2.ensures c.get-in-Clamp-3.ensures
    c.in_ok-keyword-in-Clamp.ensures c.in_ok-behind_symbol-in-Clamp.ensures c.in_ok-behind_symbol-in-Clamp-2.ensures c.in_ok-behind_symbol-in-Clamp-3.ensures)
    c.symbol-in-Clamp.ensures

pub expression-returns-in_ok-behind_keyword-in-Choose-2 : goal.expression-returns-in_ok-behind_keyword-in-Choose-2
expression-returns-in_ok-behind_keyword-in-Choose-2 t c =
    on_ok c.behind_keyword-in-Choose-2.result _ _
    (choose_done c.args.expr.now c.in-Choose.cond c.in-Choose.yes c.in-Choose.no _ _ _ c.args.text.now.items _ _ _ c.in-Choose.is c.get-in-Choose.ensures
    c.get-in-Choose-2.ensures c.get-in-Choose-3.ensures
    c.in_ok-behind_keyword-in-Choose.ensures c.in_ok-behind_keyword-in-Choose-2.ensures)
    c.behind_keyword-in-Choose-2.ensures
