use Rattle.list_laws.proofs.Options.{on_err}
use Rattle.cosim_io.proofs.WriteLemmas.{Written-slice, Written-more, Written-kept, Written-front}
use Rattle.cosim_io.proofs.edge.write_out.Goals as goal

pub loop-rest-preserved : goal.loop-rest-preserved
loop-rest-preserved g c = Written-slice _ _ _ _ _ _ c.loop-rest.invariant c.in-Ok.ensures.bytes

pub returns-in_default-clause-front : goal.returns-in_default-clause-front
returns-in_default-clause-front g c =
    Written-front _ _ _ _ (Written-more _ _ _ _ _ _ c.loop-rest.invariant c.in-Ok.ensures.bytes)

pub returns-in_default-2-clause-front : goal.returns-in_default-2-clause-front
returns-in_default-2-clause-front g c =
    Written-front _ _ _ _ (Written-kept _ _ _ _ _ c.loop-rest.invariant c.in_default.ensures.bytes)

pub returns-clause-front : goal.returns-clause-front
returns-clause-front g c =
    on_err _ (Written-front _ _ _ _ (Written-kept _ _ _ _ _ c.loop-rest.invariant c.flush.ensures.bytes))
