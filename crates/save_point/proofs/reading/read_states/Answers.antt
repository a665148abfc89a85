use Rattle.std.proofs.Common.{◌≡◌, ◌+◌, Err, ap, subst, sym, rules}
use Rattle.save_point.specs.SavedTexts.{BreaksAtLine, saved_lines}
use Rattle.save_point.proofs.LineLaws.{begins_long}
use Rattle.save_point.proofs.ReadStates.{ReadSoFar, read_all, read_breaks, read_next, told_at}
use Rattle.save_point.proofs.reading.read_states.Goals as goal

pub returns-in-Err : goal.returns-in-Err
returns-in-Err c =
    let next : c.in-Some-checked_add.next ≡ c.loop-state.number + 1 = search rules in
    told_at c.args.text.now c.in-Err.unread c.in-Some-checked_add.next c.at_line.result
    (λ is. subst (BreaksAtLine c.args.text.now) (sym next)
    (read_breaks c.args.text.now c.loop-state.rest.now c.in-Some.state.now c.in-Some.behind.now c.args.row c.args.point c.loop-state.number c.loop-state.names
    c.loop-state.counts c.loop-state.states c.requires.numbers c.loop-state.invariant c.in-Some.ensures.line (c.in-Err.ensures.none (ap Err is))))
    c.at_line.ensures

pub loop-state-preserved : goal.loop-state-preserved
loop-state-preserved c =
    let next : c.in-Some-checked_add.next ≡ c.loop-state.number + 1 = search rules in
    subst
    (λ number. ReadSoFar c.args.text.now c.in-Some.behind.now c.args.row c.args.point number c.put_state.new.names c.put_state.new.counts
    c.put_state.new.words) (sym next)
    (read_next c.args.text.now c.loop-state.rest.now c.in-Some.state.now c.in-Some.behind.now c.args.row c.args.point c.loop-state.number c.loop-state.names
    c.put_state.new.names c.loop-state.counts c.put_state.new.counts c.loop-state.states c.put_state.new.words c.loop-state.invariant c.in-Some.ensures.line
    c.in_default-put_state.ensures.put)

pub overflow_sub-result : goal.overflow_sub-result
overflow_sub-result c =
    begins_long c.args.text.now c.loop-state.rest.now (saved_lines c.args.row c.args.point c.loop-state.invariant.states) c.loop-state.invariant.begins

pub returns : goal.returns
returns c =
    read_all c.args.text.now c.loop-state.rest.now c.args.row c.args.point c.loop-state.number c.loop-state.names c.loop-state.counts c.loop-state.states
    c.requires.numbers c.loop-state.invariant c.in_default.ensures.line
