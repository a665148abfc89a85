use Rattle.std.proofs.Common.{refl}
use Rattle.nest_ways.specs.declared.walk.Walk.{Walk}
use Rattle.nest_ways.proofs.WalkLaws.{done_with}
use Rattle.nest_ways.proofs.walk.note_done.Goals as goal

pub returns-in-Some-clause-done : goal.returns-in-Some-clause-done
returns-in-Some-clause-done c =
    let nest = c.args.start.now.names.now in
    let scopes = c.args.start.now.ways.now.scopes in
    let group_scopes = c.args.start.now.ways.now.group_scopes in
    let kept_sets = c.args.start.now.ways.now.kept_sets in
    let all = c.args.start.now.ways.now.known.items in
    let number = c.in-Some.number in
    let old = c.args.walk.now in
    let new : Walk = record { ends = old.ends; done = c.put.new.self; put = old.put } in
    done_with nest scopes group_scopes kept_sets all c.args.start.now.base number old new c.args.inlet c.requires.done c.requires.all
    (λ known found. c.scope_number.ensures number known c.in-Some.is found) refl refl c.put.ensures.only
