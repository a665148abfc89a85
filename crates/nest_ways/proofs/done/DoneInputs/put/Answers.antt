use Rattle.std.proofs.Common.{◌≡◌, ◌<◌, arith, length}
use Rattle.list_laws.proofs.Members.{read_at}
use Rattle.nest_ways.proofs.SetLaws.{set_only}
use Rattle.nest_ways.proofs.done.DoneInputs.put.Goals as goal

pub returns-then-input-len-clause-only : goal.returns-then-input-len-clause-only
returns-then-input-len-clause-only c =
    let sets = c.args.self.now.sets.items in
    let old = c.index.result.now in
    let less = c.if-input-len.true in
    let long = c.len.ensures in
    let within : c.args.input < length sets = omega (arith, less, long) in
    set_only sets c.args.input (λ bit. bit ≡ c.args.number) old c.with.result (read_at sets c.args.input old within c.index.ensures) c.with.ensures.only
