use Rattle.std.proofs.Common.{◌∙◌, ◌++◌, ◌∷◌, [], ap, arith, map, sym}
use Rattle.std.proofs.lemmas.List.{get_or-map, length-map, map-set}
use Rattle.nest_names.proofs.NamedLists.{list_there, put_lists}
use Rattle.nest_names.proofs.lists.put_at.Goals as goal

pub returns-clause-lists : goal.returns-clause-lists
returns-clause-lists c =
    let was = c.args.lists.now.items in
    let one = c.index_mut.result.now in
    let long = length-map was (λ one. one.items) in
    let within = c.requires in
    put_lists (map (λ one. one.items) was) _ c.args.number c.args.place c.push.new.self.items (omega (arith, long, within))
    (map-set (λ one. one.items) was c.args.number c.push.new.self)
    (c.in_ok-push.ensures.items
    ∙ ap (λ front. front ++ c.args.place ∷ [])
    (list_there (map (λ one. one.items) was) c.args.number one.items (omega (arith, long, within))
    (ap (λ v. v.items) c.index_mut.ensures.value ∙ sym (get_or-map (λ one. one.items) was c.args.number one one.items within))))
