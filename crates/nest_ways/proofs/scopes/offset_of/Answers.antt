use Rattle.std.proofs.Common.{◌≡◌, Some, length, refl, subst}
use Rattle.std.specs.Prelude.{slice_get}
use Rattle.std.proofs.lemmas.Option.{same_Some, slice_get_read}
use Rattle.nest_ways.specs.Reaching.{LeadsTo}
use Rattle.nest_ways.specs.declared.scopes.Inner.{Inner}
use Rattle.nest_ways.proofs.scopes.offset_of.Goals as goal

pub returns-then-same_name : goal.returns-then-same_name
returns-then-same_name c scopes group offset is are =
    let one : Inner = c.one-item.result in
    let inner = c.args.inner.now in
    let place = c.loop-one.one-index in
    let there : slice_get inner place ≡ Some one = slice_get_read inner (length inner) place one refl c.loop-one-test.true c.one-item.is in
    let leads : LeadsTo scopes group one.name.now one.place one.offset = are place one there in
    subst (LeadsTo scopes group c.args.name.now c.args.place) (same_Some one.offset offset is)
    (subst (λ name. LeadsTo scopes group name c.args.place one.offset) (c.same_name.ensures c.if-same_name.true)
    (subst (λ place. LeadsTo scopes group one.name.now place one.offset) c.if-one-place.true leads))
