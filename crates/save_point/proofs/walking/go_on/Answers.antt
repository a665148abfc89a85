use Rattle.std.proofs.Common.{◌<◌, ◌∙◌, arith}
use Rattle.save_point.proofs.WalkLaws.{goes_on, stepped_nearer}
use Rattle.save_point.proofs.walking.go_on.Goals as goal

pub loop-run-smaller : goal.loop-run-smaller
loop-run-smaller c =
    let before : c.loop-run.run.stand.at.number < c.args.row = omega (arith, c.number.ensures, c.loop-run-test.true) in
    let going = goes_on c.loop-run.run c.phase.result c.phase.ensures.phase c.in_default.not-Ended in
    (stepped_nearer c.args.row c.loop-run.run c.step_all.new.run c.settle.new.self c.settle.result before going c.step_all.ensures.there c.settle.ensures.settled).fewer

pub loop-run-preserved : goal.loop-run-preserved
loop-run-preserved c =
    let before : c.loop-run.run.stand.at.number < c.args.row = omega (arith, c.number.ensures, c.loop-run-test.true) in
    let going = goes_on c.loop-run.run c.phase.result c.phase.ensures.phase c.in_default.not-Ended in
    let near =
    stepped_nearer c.args.row c.loop-run.run c.step_all.new.run c.settle.new.self c.settle.result before going c.step_all.ensures.there c.settle.ensures.settled in
    (near.planned ∙ c.loop-run.invariant.0, near.opened ∙ c.loop-run.invariant.1, near.within)
