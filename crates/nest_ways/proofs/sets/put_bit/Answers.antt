use Rattle.std.proofs.Common.{◌≡◌}
use Rattle.list_laws.proofs.Members.{read_at}
use Rattle.nest_ways.proofs.SetLaws.{set_only}
use Rattle.nest_ways.proofs.sets.put_bit.Goals as goal

pub returns-in-Some-clause-only : goal.returns-in-Some-clause-only
returns-in-Some-clause-only c =
    let words = c.args.words.now.items in
    set_only words c.args.place (λ bit. bit ≡ c.args.bit) c.in-Some.word.now c.with.result
    (read_at words c.args.place c.in-Some.word.now c.requires c.in-Some.ensures.value) c.with.ensures.only
