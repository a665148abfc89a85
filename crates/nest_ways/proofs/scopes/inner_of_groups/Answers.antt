use Rattle.std.proofs.Common.{◌∙◌, ◌∷◌, [], ap, arith, length, length-append, map}
use Rattle.std.proofs.lemmas.List.{length-map, map-append}
use Rattle.nest_ways.proofs.AlikeLaws.{all_inside_more}
use Rattle.nest_ways.proofs.scopes.inner_of_groups.Goals as goal

pub loop-group-preserved : goal.loop-group-preserved
loop-group-preserved c =
    let lists = c.loop-group.lists.items in
    let one = c.in_ok-inner.inner in
    let long = ap length c.in_ok-push.ensures.items in
    let parts = length-append lists (one ∷ []) in
    let was = c.loop-group.invariant.1 in (
      all_inside_more c.args.scopes.now (map (λ each. each.items) lists) (map (λ each. each.items) c.push.new.self.items) c.loop-group.group one.items
          c.loop-group.invariant.0 (length-map lists (λ each. each.items) ∙ was) c.in_ok-inner.ensures
          (ap (map (λ each. each.items)) c.in_ok-push.ensures.items ∙ map-append (λ each. each.items) lists (one ∷ [])),
      omega (arith, long, parts, was),
    )
