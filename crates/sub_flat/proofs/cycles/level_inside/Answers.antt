use Rattle.std.proofs.Common.{◌∷◌, [], ap, arith, length, length-append, map}
use Rattle.sub_flat.proofs.NestingLaws.{level_sure, sure_next}
use Rattle.sub_flat.proofs.cycles.level_inside.Goals as goal

pub loop-place-preserved : goal.loop-place-preserved
loop-place-preserved c =
    let lists = map (λ one. one.items) c.args.inner.now in
    let whole = ap length c.in_ok-push.ensures.items in
    let parts = length-append c.loop-place.doubtful.items (c.is_level-told.result ∷ []) in
    let long = c.loop-place.invariant.1 in (
      sure_next lists c.loop-place.doubtful.items c.push.new.self.items c.is_level-told.result c.loop-place.place c.loop-place.invariant.0 long
          (level_sure lists c.args.levels.now c.loop-place.place c.level.result c.inside.result.now c.is_level-told.result c.requires c.inside.ensures
          c.level.ensures c.is_level-told.ensures)
          c.in_ok-push.ensures.items,
      omega (arith, whole, parts, long),
    )
