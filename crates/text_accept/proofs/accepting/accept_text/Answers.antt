use Rattle.text_accept.proofs.CycleLines.{answers_text}
use Rattle.text_laws.proofs.SourceCounts.{one_for_one}
use Rattle.text_accept.proofs.accepting.accept_text.Goals as goal

pub accept_system-requires-clause-ranged : goal.accept_system-requires-clause-ranged
accept_system-requires-clause-ranged c = c.in_ok-system.ensures.printable.ranged

pub accept_system-requires-clause-one_for_one : goal.accept_system-requires-clause-one_for_one
accept_system-requires-clause-one_for_one c =
    one_for_one c.args.text.now c.in_ok-system.field-0.system c.in_ok-system.field-0.lines c.in_ok-system.ensures.answer

pub returns : goal.returns
returns c =
    answers_text c.args.text.now c.in_ok-system.field-0.system c.in_ok-system.field-0.lines c.accept_system.result c.in_ok-system.ensures.answer
    c.accept_system.ensures
