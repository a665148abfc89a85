use Rattle.std.proofs.Common.{arith, subst}
use Rattle.trace_verify.specs.Parting.{IsPartingLine}
use Rattle.trace_verify.proofs.PartingLaws.{passed_more}
use Rattle.trace_verify.proofs.parting.part.Goals as goal
use Rattle.text_tokens.specs.Results.{Decides}

pub loop-rest-preserved : goal.loop-rest-preserved
loop-rest-preserved c =
    passed_more c.args.input.now c.loop-rest.rest.now c.cut_line.result.0.now c.cut_line.result.1.now c.loop-rest.invariant
    (record {
      written = omega (arith, c.cut_line.ensures.shorter);
      lines = c.cut_line.ensures.cut;
      whole = c.cut_line.ensures.one_line;
      cut = c.cut_line.ensures.behind;
    })
    (subst (λ told. Decides told (IsPartingLine c.cut_line.result.0.now)) c.if-is_parting_line.false c.is_parting_line.ensures)
