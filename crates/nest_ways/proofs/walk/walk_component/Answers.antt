use Rattle.std.proofs.Common.{◌∷◌, [], refl}
use Rattle.nest_text.specs.declared.nest.Bind.{Bind}
use Rattle.nest_ways.specs.Reaching.{LeadsHere, PutsIf}
use Rattle.nest_ways.specs.Walking.{WalksOn}
use Rattle.nest_ways.specs.declared.ends.End.{End}
use Rattle.nest_ways.specs.declared.walk.Walk.{Walk}
use Rattle.nest_ways.proofs.WalkLaws.{component_walks, ok_more}
use Rattle.nest_ways.proofs.walk.walk_component.Goals as goal

pub returns : goal.returns
returns c =
    let nest = c.args.start.now.names.now in
    let scopes = c.args.start.now.ways.now.scopes in
    let group_scopes = c.args.start.now.ways.now.group_scopes in
    let kept_sets = c.args.start.now.ways.now.kept_sets in
    let all = c.args.start.now.ways.now.known.items in
    let base = c.args.start.now.base in
    let offset = c.args.inlet.scope in
    let known = c.args.known.now in
    let line = c.args.line in
    let old = c.args.walk.now in
    let end : End = record { scope = offset; line = line } in
    let new : Walk = record { ends = c.put_within.new.ends; done = old.done; put = old.put } in
    ok_more (λ whole. PutsIf whole end old.ends new.ends)
    (λ whole. (bind : Bind) → LeadsHere nest known.group line bind → WalksOn nest scopes group_scopes kept_sets all base offset known old new whole (bind ∷ []))
    c.put_within.result c.put_within.ensures.puts
    (λ whole puts bind leads.
    component_walks nest scopes group_scopes kept_sets all base offset line known bind end old new whole c.requires.there c.requires.walk.done refl refl leads puts refl refl)
