use Rattle.std.proofs.Common.{◌≡◌, ◌+◌, ◌*◌, ◌^◌, ◌+ℤ◌, drop, to_z, of_z, sym, ap, subst, ◌∙◌, arith}
use Rattle.std.specs.Int.{w128}
use Rattle.std.proofs.lemmas.Int.{ints, to_z-of_z}
use Rattle.trace_rows.specs.Sums.{IsBoundedBy, row_sum}
use Rattle.trace_rows.proofs.RowLaws.{summed_more, within_more}
use Rattle.trace_rows.proofs.rows.row_sum.Goals as goal

pub loop-column-preserved : goal.loop-column-preserved
loop-column-preserved c =
    let l = c.loop-column in
    let word : c.from-sum.result ≡ c.word_shown.result = grind (arith, ints, to_z-of_z, c.from-sum.ensures) in
    let least = l.invariant.within.least in
    let greatest = l.invariant.within.greatest in
    let total : to_z w128 (of_z w128 (to_z w128 l.sum-bits +ℤ to_z w128 (of_z w128 c.from-sum.result))) ≡ l.sum +ℤ c.word_shown.result =
    grind (arith, ints, to_z-of_z, least, greatest, word, l.sum-is) in
    record {
      summed = ap (λ s. s +ℤ row_sum (drop (l.column-index + 1) c.args.columns.now) c.args.ports.now) total
          ∙ summed_more c.args.columns.now c.args.ports.now l.column-index _ l.sum c.word_shown.result
          (row_sum c.args.columns.now c.args.ports.now) c.loop-column-test.true c.word_shown.ensures
          (ap (λ s. s +ℤ row_sum (drop l.column-index c.args.columns.now) c.args.ports.now) (sym l.sum-is) ∙ l.invariant.summed);
      within = subst (IsBoundedBy ((l.column-index + 1) * 2 ^ 63)) (sym total)
          (within_more l.column-index l.sum c.word_shown.result
          (subst (IsBoundedBy (l.column-index * 2 ^ 63)) l.sum-is l.invariant.within) (omega (arith, ints))
          (omega (arith, ints)));
    }
