use Rattle.nest_text.proofs.NestAnswers.{handed_on}
use Rattle.sub_flat.specs.FlatReading.{JudgesNest}
use Rattle.sub_flat.proofs.JudgeLaws.{names_failed, nesting_failed, ports_judged}
use Rattle.sub_flat.proofs.judge.judge.Goals as goal

pub returns-in_err-judge_rule : goal.returns-in_err-judge_rule
returns-in_err-judge_rule c =
    let why = c.in_err-judge_rule.field-0.0 in
    handed_on c.from_residual-in_err-judge_rule.result why (JudgesNest c.args.names.now) c.from_residual-in_err-judge_rule.ensures.1
    (names_failed c.args.names.now why c.in_err-judge_rule.ensures)

pub returns-in_err-judge_rule-2 : goal.returns-in_err-judge_rule-2
returns-in_err-judge_rule-2 c =
    let why = c.in_err-judge_rule-2.field-0.0 in
    handed_on c.from_residual-in_err-judge_rule-2.result why (JudgesNest c.args.names.now) c.from_residual-in_err-judge_rule-2.ensures.1
    (nesting_failed c.args.names.now why c.in_ok-judge_rule.ensures c.in_err-judge_rule-2.ensures)

pub returns : goal.returns
returns c =
    ports_judged c.args.names.now c.judge_ports.result c.in_ok-judge_rule.ensures c.in_ok-judge_rule-2.ensures c.judge_ports.ensures
