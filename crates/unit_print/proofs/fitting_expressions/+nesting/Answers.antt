use Rattle.std.proofs.Common.{◌≡◌, false, sym, ◌∙◌, arith}
use Rattle.list_laws.proofs.Truths.{true_is_false}
use Rattle.unit_print.specs.Calls.{is_call}
use Rattle.unit_print.proofs.NestingLaws.{none_above, call_within, infix_within, clamp_within, choose_within}
use Rattle.unit_print.proofs.fitting_expressions.+nesting.Goals as goal
use Rattle.unit_print.proofs.fitting_expressions.+nesting.Goals.{
  is_within-then-depth-gt0-2,
  is_within-else-depth-gt0-2,
  is_within-then-depth-gt0-3,
  is_within-else-depth-gt0-3,
  is_within-then-is_within-2,
}
use Rattle.unit_print.proofs.fitting_expressions.+nesting.Goals.{
  is_within-else-is_within-2,
  is_within-then-depth-gt0-4,
  is_within-else-depth-gt0-4,
  is_within-then-is_within-4,
  is_within-else-is_within-4,
}

pub is_within-returns-then-is_within : goal.is_within-returns-then-is_within
is_within-returns-then-is_within t c =
    elim c.if-depth-gt0-2.branch [
      | is_within-then-depth-gt0-2 w ↦ c.is_within-then-is_within.ensures
          ∙ call_within c.args.expr.now c.in-Binary.left c.in-Binary.right w.get-then-depth-gt0-2.result.now
          c.get-then-is_within.result.now c.in-Binary.op _ c.args.depth
          (sym c.is_call.ensures ∙ c.if-is_call.true) c.in-Binary.is w.get-then-depth-gt0-2.ensures c.get-then-is_within.ensures (grind arith) (cc)
      | is_within-else-depth-gt0-2 w ↦ true_is_false c.if-depth-gt0-2.value c.if-is_within.true (w.value-is ∙ none_above c.args.depth w.if-depth-gt0-2.false)
    ]

pub is_within-returns-then-placed_is_within : goal.is_within-returns-then-placed_is_within
is_within-returns-then-placed_is_within t c =
    let called : is_call c.in-Binary-2.op ≡ false = cc in
    c.placed_is_within-then-placed_is_within.ensures
    ∙ infix_within c.args.expr.now c.in-Binary-2.left c.in-Binary-2.right c.get-in-Binary-2.result.now
    c.get-then-placed_is_within.result.now c.in-Binary-2.op _ _ _ c.args.depth
    called c.in-Binary-2.is c.get-in-Binary-2.ensures c.get-then-placed_is_within.ensures
    c.binary_level-level.ensures c.left_level.ensures c.right_level.ensures (sym c.placed_is_within-in-Binary-2.ensures ∙ c.if-placed_is_within.true)

pub is_within-returns-then-is_within-3 : goal.is_within-returns-then-is_within-3
is_within-returns-then-is_within-3 t c =
    elim c.if-is_within-2.branch [
      | is_within-then-is_within-2 w ↦ elim c.if-depth-gt0-3.branch [
        | is_within-then-depth-gt0-3 v ↦ c.is_within-then-is_within-3.ensures
            ∙ clamp_within c.args.expr.now c.in-Clamp.value c.in-Clamp.low c.in-Clamp.high v.get-then-depth-gt0-3.result.now
            w.get-then-is_within-2.result.now c.get-then-is_within-3.result.now _ c.args.depth
            c.in-Clamp.is v.get-then-depth-gt0-3.ensures w.get-then-is_within-2.ensures c.get-then-is_within-3.ensures (grind arith) (cc) (cc)
        | is_within-else-depth-gt0-3 v ↦ true_is_false c.if-depth-gt0-3.value w.if-is_within-2.true (v.value-is
            ∙ none_above c.args.depth v.if-depth-gt0-3.false)
      ]
      | is_within-else-is_within-2 w ↦ true_is_false c.if-is_within-2.value c.if-is_within-3.true (w.value-is ∙ w.if-is_within-2.false)
    ]

pub is_within-returns-then-is_within-5 : goal.is_within-returns-then-is_within-5
is_within-returns-then-is_within-5 t c =
    elim c.if-is_within-4.branch [
      | is_within-then-is_within-4 w ↦ elim c.if-depth-gt0-4.branch [
        | is_within-then-depth-gt0-4 v ↦ c.is_within-then-is_within-5.ensures
            ∙ choose_within c.args.expr.now c.in-Choose.cond c.in-Choose.yes c.in-Choose.no v.get-then-depth-gt0-4.result.now
            w.get-then-is_within-4.result.now c.get-then-is_within-5.result.now _ c.args.depth
            c.in-Choose.is v.get-then-depth-gt0-4.ensures w.get-then-is_within-4.ensures c.get-then-is_within-5.ensures (grind arith) (cc) (cc)
        | is_within-else-depth-gt0-4 v ↦ true_is_false c.if-depth-gt0-4.value w.if-is_within-4.true (v.value-is
            ∙ none_above c.args.depth v.if-depth-gt0-4.false)
      ]
      | is_within-else-is_within-4 w ↦ true_is_false c.if-is_within-4.value c.if-is_within-5.true (w.value-is ∙ w.if-is_within-4.false)
    ]
