use Rattle.std.proofs.Common.{◌∙◌, ap, subst, sym}
use Rattle.std.specs.Option.{option_map}
use Rattle.std.proofs.lemmas.Option.{same_Some}
use Rattle.nest_ways.specs.Walking.{IsDone}
use Rattle.nest_ways.proofs.WalkLaws.{put_whole}
use Rattle.nest_ways.proofs.walk.is_put.Goals as goal

pub returns-in-Some : goal.returns-in-Some
returns-in-Some c told known found =
    let nest = c.args.start.now.names.now in
    let scopes = c.args.start.now.ways.now.scopes in
    let group_scopes = c.args.start.now.ways.now.group_scopes in
    let kept_sets = c.args.start.now.ways.now.kept_sets in
    let all = c.args.start.now.ways.now.known.items in
    let base = c.args.start.now.base in
    let offset = c.args.inlet.scope in
    let walk = c.args.walk.now in
    let set = c.in-Some.set.now in
    let own = c.requires.kept c.args.inlet.input set ((c.set.ensures set).0 (ap (option_map (λ one. one.now)) c.in-Some.is)) in
    let keeps = (c.requires.known c.args.inlet.input own.known own.there).ends own.kept own.keeps in
    subst (IsDone nest scopes base walk.ends offset) (same_Some own.known known (sym own.there ∙ found))
    (put_whole nest scopes group_scopes kept_sets all base offset own.known own.kept set walk keeps own.has_all (c.has.ensures.0 told).1 c.requires.done)
