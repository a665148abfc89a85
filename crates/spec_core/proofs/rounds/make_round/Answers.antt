use Rattle.std.proofs.Common.{◌*◌, ◌∙◌, ap, arith}
use Rattle.trace_core.specs.Runs.{RunState, is_ended}
use Rattle.spec_core.proofs.CourseRounds.{few_lanes, lined_most, parts_there, worked_most}
use Rattle.spec_core.proofs.rounds.make_round.Goals as goal

pub let_workers_act-requires-clause-room : goal.let_workers_act-requires-clause-room
let_workers_act-requires-clause-room c =
    let few = few_lanes c.args.course.now.world c.facts.ensures in
    let lined = lined_most c.args.instances c.in_ok-publish_all.ensures in
    let all = c.requires.instances in
    let most = c.requires.workers in
    let room = c.requires.room in
    omega (arith, few, lined, all, most, room)

pub serve_all-requires-clause-room : goal.serve_all-requires-clause-room
serve_all-requires-clause-room c =
    let few = few_lanes c.args.course.now.world c.facts.ensures in
    let lined = lined_most c.args.instances c.in_ok-publish_all.ensures in
    let worked = worked_most c.args.course.now.draw c.args.workers c.args.instances (2 * c.args.workers) c.in_ok-let_workers_act.ensures.done in
    let all = c.requires.instances in
    let most = c.requires.workers in
    let room = c.requires.room in
    omega (arith, few, lined, worked, all, most, room)

pub settle-requires-clause-room : goal.settle-requires-clause-room
settle-requires-clause-room c =
    let few = few_lanes c.args.course.now.world c.facts.ensures in
    let lined = lined_most c.args.instances c.in_ok-publish_all.ensures in
    let worked = worked_most c.args.course.now.draw c.args.workers c.args.instances (2 * c.args.workers) c.in_ok-let_workers_act.ensures.done in
    let served = c.in_ok-serve_all.ensures.most in
    let all = c.requires.instances in
    let most = c.requires.workers in
    let room = c.requires.room in
    omega (arith, few, lined, worked, served, all, most, room)

pub settle-requires-clause-going : goal.settle-requires-clause-going
settle-requires-clause-going c =
    let there = parts_there c.args.instances c.args.workers c.args.course.now.draw c.args.course.now.world c.publish_all.new.world c.let_workers_act.new.world
    c.serve_all.new.world c.args.course.now.replies c.publish_all.new.replies c.let_workers_act.new.replies c.serve_all.new.replies c.facts.ensures
    c.requires.instances c.in_ok-publish_all.ensures c.in_ok-let_workers_act.ensures.done c.in_ok-serve_all.ensures in
    ap (λ (r : RunState). is_ended r.phase) there.is ∙ c.requires.going

pub settle-requires-clause-full : goal.settle-requires-clause-full
settle-requires-clause-full c =
    (parts_there c.args.instances c.args.workers c.args.course.now.draw c.args.course.now.world c.publish_all.new.world c.let_workers_act.new.world
    c.serve_all.new.world c.args.course.now.replies c.publish_all.new.replies c.let_workers_act.new.replies c.serve_all.new.replies c.facts.ensures
    c.requires.instances c.in_ok-publish_all.ensures c.in_ok-let_workers_act.ensures.done c.in_ok-serve_all.ensures).full
