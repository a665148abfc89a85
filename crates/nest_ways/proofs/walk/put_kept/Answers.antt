use Rattle.std.proofs.Common.{◌+◌, ◌++◌, List, arith, map, refl, subst}
use Rattle.std.specs.List.{flat_map}
use Rattle.nest_ways.specs.Reaching.{PutsUpTo, ReadsAlike, ends_of, inputs_at, lines_of, onward}
use Rattle.nest_ways.specs.Walking.{WalksOn}
use Rattle.nest_names.specs.declared.scope.Spot.{Spot}
use Rattle.nest_ways.specs.declared.ends.End.{End}
use Rattle.nest_ways.specs.declared.walk.Walk.{Walk}
use Rattle.nest_ways.proofs.WalkLaws.{done_more, kept_puts, ok_more}
use Rattle.nest_ways.proofs.walk.put_kept.Goals as goal

pub returns : goal.returns
returns c =
    let nest = c.args.start.now.names.now in
    let scopes = c.args.start.now.ways.now.scopes in
    let group_scopes = c.args.start.now.ways.now.group_scopes in
    let kept_sets = c.args.start.now.ways.now.kept_sets in
    let all = c.args.start.now.ways.now.known.items in
    let base = c.args.start.now.base in
    let offset = c.args.inlet.scope in
    let known = c.args.known.now in
    let kept = c.args.kept.now in
    let old = c.args.walk.now in
    let firsts = c.firsts-firsts.result.now in
    let ends = c.put_onward.new.ends in
    let new : Walk = record { ends = ends; done = old.done; put = old.put } in
    let lines = lines_of nest known.group known.port.now in
    ok_more
    (λ whole. (input : End → List Spot) → ReadsAlike firsts input
    → PutsUpTo whole (flat_map input ends) (flat_map input (old.ends ++ map (onward offset) kept)))
    (λ whole. WalksOn nest scopes group_scopes kept_sets all base offset known old new whole lines) c.put_onward.result c.put_onward.ensures
    (λ whole puts.
    let goes = kept_puts nest scopes firsts base c.args.start.now.group offset known kept old.ends ends whole c.firsts-firsts.ensures c.requires.walk.start c.requires.kept puts in
    record {
      puts = goes;
      done = λ told.
          done_more nest scopes group_scopes kept_sets all base known.group (base + offset) old new (λ scope. ends_of nest known.height scope lines) c.requires.there refl refl
          (λ scope at of_group.
          subst (λ w. PutsUpTo w (inputs_at nest scopes base ends) (inputs_at nest scopes base old.ends ++ ends_of nest known.height scope lines)) told
          (goes scope known.height at of_group (omega arith))) c.requires.walk.done;
    })
