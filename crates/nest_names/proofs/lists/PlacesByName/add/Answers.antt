use Rattle.std.proofs.Common.{◌∙◌, map, sym}
use Rattle.unit_names.specs.Found.{found_in}
use Rattle.nest_names.proofs.NamedLists.{added_at, on_ok}
use Rattle.nest_names.proofs.lists.PlacesByName.add.Goals as goal

pub returns-in-Some-clause-places : goal.returns-in-Some-clause-places
returns-in-Some-clause-places c =
    let was = c.args.self.now in
    on_ok c.put_at.result
    (λ grown q. added_at (found_in was.numbers) c.requires.apart (map (λ one. one.items) was.lists.items) (map (λ one. one.items) c.put_at.new.lists.items)
    c.args.name.now c.in-Some.number c.args.place (sym c.noted.ensures ∙ c.in-Some.is) grown q)
    c.put_at.ensures.lists
