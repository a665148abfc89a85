use Rattle.std.proofs.Common.{ap, refl}
use Rattle.std.specs.Option.{option_map}
use Rattle.nest_ways.specs.declared.walk.Walk.{Walk}
use Rattle.nest_ways.proofs.WalkLaws.{put_with}
use Rattle.nest_ways.proofs.walk.note_put.Goals as goal

pub returns-in_ok-put-in-Some-clause-done : goal.returns-in_ok-put-in-Some-clause-done
returns-in_ok-put-in-Some-clause-done c =
    let nest = c.args.start.now.names.now in
    let scopes = c.args.start.now.ways.now.scopes in
    let group_scopes = c.args.start.now.ways.now.group_scopes in
    let kept_sets = c.args.start.now.ways.now.kept_sets in
    let all = c.args.start.now.ways.now.known.items in
    let base = c.args.start.now.base in
    let offset = c.args.inlet.scope in
    let old = c.args.walk.now in
    let set = c.in-Some.set.now in
    let new : Walk = record { ends = old.ends; done = old.done; put = c.put.new.self } in
    let own = c.requires.walk.kept c.args.inlet.input set ((c.set.ensures set).0 (ap (option_map (λ one. one.now)) c.in-Some.is)) in
    let keeps = (c.requires.walk.known c.args.inlet.input own.known own.there).ends own.kept own.keeps in
    put_with nest scopes group_scopes kept_sets all base offset own.known own.kept set old new (c.requires.there own.known own.there) keeps own.has_only
    (c.requires.all own.known own.there) refl refl c.in_ok-put-in-Some.ensures.only c.requires.walk.done
