use Rattle.std.proofs.Common.{◌+◌, refl}
use Rattle.nest_text.specs.Nests.{GroupLines, parted}
use Rattle.nest_text.specs.Reading.{NextGroupIs}
use Rattle.nest_text.proofs.GroupWalks.{ready}
use Rattle.nest_text.proofs.LineWalks.{lines_there}
use Rattle.nest_text.proofs.NestAnswers.{handed_on, next_failed}
use Rattle.nest_text.proofs.groups.next_group.Goals as goal

pub read_group-requires-clause-some : goal.read_group-requires-clause-some
read_group-requires-clause-some c =
    let all = lines_there (c.args.head + 1) c.args.text.now in
    (ready c.args.text.now c.args.head c.args.name all.0 c.in_ok-body.body c.gather.new.body c.in_ok-rest.rest.now c.in_ok-rest.number all.1
    c.in_ok-body.ensures (c.in_ok-rest.ensures.lines all.0 all.1)).some

pub read_group-requires-clause-long : goal.read_group-requires-clause-long
read_group-requires-clause-long c =
    let all = lines_there (c.args.head + 1) c.args.text.now in
    (ready c.args.text.now c.args.head c.args.name all.0 c.in_ok-body.body c.gather.new.body c.in_ok-rest.rest.now c.in_ok-rest.number all.1
    c.in_ok-body.ensures (c.in_ok-rest.ensures.lines all.0 all.1)).long

pub returns-in_err-group-clause-group : goal.returns-in_err-group-clause-group
returns-in_err-group-clause-group c = λ lines are.
    let group : GroupLines = record { name = c.args.name; head = c.args.head; body = (parted lines).prefix } in
    let done =
    ready c.args.text.now c.args.head c.args.name lines c.in_ok-body.body c.gather.new.body c.in_ok-rest.rest.now c.in_ok-rest.number are
    c.in_ok-body.ensures (c.in_ok-rest.ensures.lines lines are) in
    let why = c.in_err-group.field-0.0 in
    handed_on c.from_residual-in_err-group.result why (NextGroupIs c.args.name c.args.head lines) c.from_residual-in_err-group.ensures.1
    (next_failed c.args.name c.args.head lines why (c.in_err-group.ensures group refl done.is_gathered))

pub returns-clause-group : goal.returns-clause-group
returns-clause-group c = λ lines are.
    let group : GroupLines = record { name = c.args.name; head = c.args.head; body = (parted lines).prefix } in
    let gathers = c.in_ok-rest.ensures.lines lines are in
    let done =
    ready c.args.text.now c.args.head c.args.name lines c.in_ok-body.body c.gather.new.body c.in_ok-rest.rest.now c.in_ok-rest.number are
    c.in_ok-body.ensures gathers in
    record { is_group = c.in_ok-group.ensures group refl done.is_gathered; left = gathers.left; are_left = gathers.are_left; groups = gathers.groups }
