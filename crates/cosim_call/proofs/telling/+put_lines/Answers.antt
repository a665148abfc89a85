use Rattle.std.proofs.Common.{subst}
use Rattle.std.specs.Io.KnownBytes.{Appends}
use Rattle.cosim_call.proofs.TellingLaws.{front_cons}
use Rattle.cosim_call.proofs.telling.+put_lines.Goals as goal

pub returns-in_ok-put-in-len1-up-clause-front : goal.returns-in_ok-put-in-len1-up-clause-front
returns-in_ok-put-in-len1-up-clause-front g t c =
    front_cons (g.N.Sink.held c.args.notes.now) (g.N.Sink.held c.put.new.self)
    (g.N.Sink.held c.put_lines.new.notes) c.args.lines.now c.first-item.result c.put_lines.result c.in-len1-up.len_at_least c.first-item.is
    (subst (Appends (g.N.Sink.held c.args.notes.now)
    (g.N.Sink.held c.put.new.self)) c.as_slice.ensures c.in_ok-put-in-len1-up.ensures.whole) c.put_lines.ensures.front
