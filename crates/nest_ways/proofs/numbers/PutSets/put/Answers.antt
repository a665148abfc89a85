use Rattle.std.proofs.Common.{◌≡◌, ◌<◌, Bool, Ok, Err, Some, ◌∙◌, arith, length, refl, subst, sym}
use Rattle.std.specs.Prelude.{slice_get, IfOk, Result}
use Rattle.std.specs.declared.alloc.AllocError.{AllocError}
use Rattle.list_laws.proofs.Members.{read_at}
use Rattle.list_laws.proofs.Options.{on_ok}
use Rattle.std.proofs.lemmas.Option.{same_Some}
use Rattle.nest_ways.specs.Sets.{HasRoomForWords}
use Rattle.nest_ways.proofs.SetLaws.{put_set, put_still, put_there}
use Rattle.nest_ways.proofs.numbers.PutSets.put.Goals.{In-Some}
use Rattle.nest_ways.proofs.numbers.PutSets.put.Goals as goal

-- What a success says, by what another one says.
if_ok : (result : Result Bool AllocError) (One Other : Bool → Type 0) → ((told : Bool) → One told → Other told) → IfOk result One → IfOk result Other
if_ok (Ok told) One Other leads one = leads told one
if_ok (Err e) One Other leads one = tt

-- The set of the scope is there.
there : (c : In-Some) → slice_get c.args.self.now.sets.items c.args.scope ≡ Some c.in-Some.own.now
there c =
    let less = c.in-Some.ensures.variant.0 refl in
    let within : c.args.scope < length c.args.self.now.sets.items = omega (arith, less) in
    read_at c.args.self.now.sets.items c.args.scope c.in-Some.own.now within c.in-Some.ensures.value

pub returns-in-Some-clause-there : goal.returns-in-Some-clause-there
returns-in-Some-clause-there c =
    let sets = c.args.self.now.sets.items in
    if_ok c.put_all.result _ _
    (λ told has is number held.
    put_there sets c.args.scope c.put_all.new.self c.in-Some.own.now (there (goal.at.returns-in-Some-clause-there c).In-Some) number (has is number held))
    c.put_all.ensures.there

pub returns-in-Some-clause-still : goal.returns-in-Some-clause-still
returns-in-Some-clause-still c =
    let sets = c.args.self.now.sets.items in
    on_ok c.put_all.result _ _
    (put_still sets c.args.scope c.put_all.new.self c.in-Some.own.now (there (goal.at.returns-in-Some-clause-still c).In-Some)) c.put_all.ensures.still

pub returns-in-Some-clause-only : goal.returns-in-Some-clause-only
returns-in-Some-clause-only c =
    let sets = c.args.self.now.sets.items in
    on_ok c.put_all.result _ _
    (put_set sets c.args.scope c.put_all.new.self c.in-Some.own.now c.args.set.now (there (goal.at.returns-in-Some-clause-only c).In-Some))
    c.put_all.ensures.only

pub returns-in-Some-clause-room : goal.returns-in-Some-clause-room
returns-in-Some-clause-room c =
    let sets = c.args.self.now.sets.items in
    let own = c.in-Some.own.now in
    let at = there (goal.at.returns-in-Some-clause-room c).In-Some in
    if_ok c.put_all.result _ _
    (λ told room. (
      λ is. (own, at, room.0 is),
      λ has. room.1 (subst (λ each. HasRoomForWords each c.args.set.now) (same_Some has.0 own (sym has.1 ∙ at)) has.2),
    )) c.put_all.ensures.room
