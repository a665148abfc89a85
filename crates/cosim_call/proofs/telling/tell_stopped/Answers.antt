use Rattle.std.proofs.Common.{List, ℕ, inl, sym, subst, ◌∙◌}
use Rattle.cosim_call.specs.Calls.{stream}
use Rattle.cosim_call.specs.Telling.{Tells, TellsStop}
use Rattle.cosim_call.specs.declared.coming.Stopped.{Stopped}
use Rattle.cosim_call.specs.declared.status.Status.TheVariants as status
use Rattle.cosim_call.proofs.telling.tell_stopped.Goals as goal

pub returns-in-Ok : goal.returns-in-Ok
returns-in-Ok g c =
    subst (λ (why : Stopped).
    TellsStop why (stream (g.N.Sink.held c.args.notes.now) (g.N.Sink.faults c.args.notes.now))
    (stream (g.N.Sink.held c.tell.new.notes) (g.N.Sink.faults c.tell.new.notes)) c.tell.result) (sym c.in-Refused.is)
    (inl (subst (λ (text : List ℕ).
    Tells text status.Refused (stream (g.N.Sink.held c.args.notes.now) (g.N.Sink.faults c.args.notes.now))
    (stream (g.N.Sink.held c.tell.new.notes) (g.N.Sink.faults c.tell.new.notes)) c.tell.result) (c.deref.ensures.value ∙ c.in-Ok.ensures) c.tell.ensures))
