use Rattle.std.proofs.Common.{◌-◌, vec_len}
use Rattle.cosim_io.proofs.ReadLemmas.{Taken}
use Rattle.cosim_io.proofs.whole.read_all.Given as goal

abbrev pub invariant-reading : goal.invariant-reading
invariant-reading g l =
    Taken (g.S.Source.left l.initial.source) (g.S.Source.left l.source) (g.S.Source.faults l.initial.source) (g.S.Source.faults l.source) l.bytes.items l.limit

abbrev pub decreases-reading : goal.decreases-reading
decreases-reading g l = l.limit - vec_len l.bytes
