use Rattle.std.proofs.Common.{◌≡◌, ◌∙◌, ◌++◌, ◌∷◌, [], None, Some, ap, arith, bytes_eq, length, map}
use Rattle.std.specs.Prelude.{if◌then◌else◌}
use Rattle.std.specs.Option.{option_or}
use Rattle.std.proofs.lemmas.List.{length-map, map-append}
use Rattle.unit_names.specs.Found.{found_in}
use Rattle.nest_names.proofs.NamedLists.{added_new, told}
use Rattle.nest_names.proofs.lists.PlacesByName.add_name.Goals as goal

pub returns-clause-places : goal.returns-clause-places
returns-clause-places c = λ q.
    let was = c.args.self.now in
    let lists = map (λ one. one.items) was.lists.items in
    let long = length-map was.lists.items (λ one. one.items) in
    let ok = was.lists.ok.0 in
    let count = c.len.ensures in
    let same : c.len.result ≡ length lists = omega (arith, long, ok, count) in
    let grown : map (λ one. one.items) c.push-2.new.self.items ≡ lists ++ (c.args.place ∷ []) ∷ [] =
    ap (map (λ one. one.items)) c.in_ok-push-2.ensures.items ∙ map-append (λ one. one.items) was.lists.items (c.push.new.self ∷ [])
    ∙ ap (λ one. lists ++ one ∷ []) (c.in_ok-push.ensures.items ∙ ap (λ front. front ++ c.args.place ∷ []) c.new-one.ensures.items) in
    ap (λ all. told all (found_in c.note.new.places q)) grown
    ∙ added_new (found_in was.numbers) (found_in c.note.new.places) c.args.name.now lists c.requires.new
    (λ r. c.in_ok-note.ensures r
    ∙ ap (λ n. option_or (found_in was.numbers r) (if bytes_eq r c.args.name.now then Some n else None)) same)
    c.args.place (λ r k is. let less = c.requires.numbered.within r k is in omega (arith, long, less)) q
