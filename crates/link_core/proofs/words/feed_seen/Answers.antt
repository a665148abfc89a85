use Rattle.std.proofs.lemmas.Int.{to_z-of_z}
use Rattle.std.proofs.Common.{◌≡◌, ◌∙◌, FitsSigned, rules, w64, Some, ap, subst, sym}
use Rattle.std.specs.Prelude.{slice_set}
use Rattle.link_core.specs.Noted.{with_port}
use Rattle.link_core.proofs.words.feed_seen.Goals as goal
use Rattle.port_solve.specs.Solved.{HaveTheirWords}
use Rattle.unit_tree.specs.Compositions.{run_of}

pub returns-clause-words : goal.returns-clause-words
returns-clause-words c = λ ports have.
    let same : c.args.plan.now.run ≡ run_of c.checked.result.now = c.checked.ensures.run ∙ ap run_of (sym c.checked.ensures.system) in
    let fits : FitsSigned w64 c.in-Is.word = search rules in
    subst (λ seen. HaveTheirWords c.args.plan.now.run (with_port ports c.args.place seen) c.feed.new.gets.inputs) (sym c.in-Is.is)
    (subst (λ run. HaveTheirWords run (slice_set ports c.args.place (Some c.in-Is.word)) c.feed.new.gets.inputs) (sym same)
    (subst (λ word. HaveTheirWords (run_of c.checked.result.now) (slice_set ports c.args.place (Some word)) c.feed.new.gets.inputs)
    (to_z-of_z w64 c.in-Is.word fits)
    (c.feed.ensures.words ports (subst (λ run. HaveTheirWords run ports c.args.units.now.inputs) same have))))
