use Rattle.std.proofs.Common.{◌≡◌, ◌∙◌, ◌++◌, ap, length, subst, sym}
use Rattle.std.specs.Io.KnownBytes.{Appends}
use Rattle.cosim_io.proofs.PieceLemmas.{AppendsPrefix-nil}
use Rattle.cosim_io.specs.Pieces.{AppendsPrefix}
use Rattle.list_laws.proofs.Options.{on_err}
use Rattle.step_counts.specs.Counts.{IsCountOf}
use Rattle.step_counts.specs.Summaries.{summary_of}
use Rattle.unit_tree.specs.declared.system.System.{System}
use Rattle.step_log.proofs.summarizing.put_summary.Goals as goal

pub returns-in_err-write_summary-clause-front : goal.returns-in_err-write_summary-clause-front
returns-in_err-write_summary-clause-front g c = λ steps is. on_err c.from_residual.result (AppendsPrefix-nil (g.O.Sink.held c.args.out.now) _)

pub returns-in_err-put-clause-front : goal.returns-in_err-put-clause-front
returns-in_err-put-clause-front g c = λ steps is.
    let system : c.source-system.result.now ≡ c.args.plan.now.system = c.source-system.ensures ∙ c.checked.ensures.system in
    let text = c.deref.ensures.value
    ∙ c.in_ok-write_summary.ensures steps (subst (λ (s : System). IsCountOf (length s.instances) steps c.args.counts.now) (sym system) is)
    ∙ ap (λ before. before ++ summary_of c.source-system.result.now steps c.args.outcome) c.new-text.ensures.items
    ∙ ap (λ (s : System). summary_of s steps c.args.outcome) system in
    on_err c.from_residual-in_err-put.result
    (subst (AppendsPrefix (g.O.Sink.held c.args.out.now) (g.O.Sink.held c.put.new.self)) text c.in_err-put.ensures.front)

pub returns-clause-whole : goal.returns-clause-whole
returns-clause-whole g c = λ steps is.
    let system : c.source-system.result.now ≡ c.args.plan.now.system = c.source-system.ensures ∙ c.checked.ensures.system in
    let text = c.deref.ensures.value
    ∙ c.in_ok-write_summary.ensures steps (subst (λ (s : System). IsCountOf (length s.instances) steps c.args.counts.now) (sym system) is)
    ∙ ap (λ before. before ++ summary_of c.source-system.result.now steps c.args.outcome) c.new-text.ensures.items
    ∙ ap (λ (s : System). summary_of s steps c.args.outcome) system in
    subst (Appends (g.O.Sink.held c.args.out.now) (g.O.Sink.held c.put.new.self)) text c.in_ok-put.ensures.whole
