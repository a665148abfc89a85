use Rattle.std.proofs.Common.{ap, arith, length, subst}
use Rattle.nest_ways.specs.Reaching.{PutsUpTo}
use Rattle.nest_ways.proofs.WalkLaws.{more_kept}
use Rattle.nest_ways.proofs.targets.reach_of.Goals as goal

pub returns-then-many : goal.returns-then-many
returns-then-many c put all puts is =
    let some = subst (λ whole. PutsUpTo whole put all) c.if-whole.false puts in
    let less = more_kept put all some.0 some.1 in
    let long = ap length is in
    let told = c.len.ensures in
    let many = c.if-many.true in omega (arith, less, long, told, many)
