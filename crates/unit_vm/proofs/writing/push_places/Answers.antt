use Rattle.std.proofs.Common.{◌≡◌, ◌+◌, ◌*◌, pos, ◌∷◌, [], ◌++◌, ap, rules}
use Rattle.list_laws.proofs.Members.{read_at}
use Rattle.unit_vm.proofs.WriteSteps.{placed_more}
use Rattle.unit_vm.proofs.writing.push_places.Goals as goal

pub loop-place-preserved : goal.loop-place-preserved
loop-place-preserved c =
    let at = read_at c.args.parts.now c.loop-place.place c.index-parts-place.result c.loop-place-test.true c.index-parts-place.is in
    let pushed : c.push.new.self ≡ c.loop-place.words ++ pos c.loop-place.behind ∷ [] = search rules in
    placed_more c.args.words.now c.loop-place.words c.push.new.self c.args.first c.loop-place.behind
    (c.loop-place.behind + 2 * c.len.result) c.args.parts.now c.loop-place.place c.index-parts-place.result
    at (c.requires.short.each c.loop-place.place c.index-parts-place.result at) c.loop-place.invariant pushed
    (ap (λ n. c.loop-place.behind + 2 * n) c.len.ensures)
