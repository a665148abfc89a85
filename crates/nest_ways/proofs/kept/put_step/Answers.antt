use Rattle.std.proofs.Common.{◌≡◌, ◌∙◌, ◌∷◌, ◌++◌, [], ℕ, List, Some, IsTrue, ap, map, refl, subst, sym}
use Rattle.std.specs.Prelude.{slice_get}
use Rattle.std.specs.List.{flat_map}
use Rattle.std.specs.Option.{option_map}
use Rattle.std.proofs.lemmas.Option.{same_Some}
use Rattle.nest_text.specs.declared.nest.Bind.{Bind}
use Rattle.nest_text.specs.declared.nest.Nest.{Nest}
use Rattle.nest_names.specs.declared.scope.Spot.{Spot}
use Rattle.nest_ways.specs.Reaching.{AreKnown, IsStep, KeepsAll, LeadsHere, LeadsInside, Puts, PutsIf, PutsUpTo, ReadsAlike, SameKept, onward}
use Rattle.nest_ways.specs.declared.ends.End.{End}
use Rattle.nest_ways.specs.declared.steps.Known.{Known}
use Rattle.nest_ways.proofs.WalkLaws.{ok_more}
use Rattle.nest_ways.proofs.WayLaws.{puts_component, puts_inside}
use Rattle.nest_ways.proofs.kept.put_step.Goals as goal

pub returns-in-Component : goal.returns-in-Component
returns-in-Component c =
    let scopes = c.args.scopes.now in
    let all = c.args.known.now in
    let group = c.args.group in
    let old = c.args.ends.now in
    let new = c.put_within.new.ends in
    let end : End = record { scope = 0; line = c.in-Component.line } in
    ok_more (λ whole. PutsIf whole end old new)
    (λ whole. (nest : Nest) (height : ℕ) (bind : Bind) → AreKnown nest scopes all → IsStep nest scopes all group height c.args.step bind → IsTrue whole
    → Puts nest scopes group height old new (bind ∷ [])) c.put_within.result c.put_within.ensures.puts
    (λ whole puts nest height bind are is told.
    let leads : LeadsHere nest group c.in-Component.line bind = subst (λ step. IsStep nest scopes all group height step bind) c.in-Component.is is in
    puts_component nest scopes group height bind end old new refl leads (subst (λ w. PutsIf w end old new) told puts))

pub returns-in-Some-ends : goal.returns-in-Some-ends
returns-in-Some-ends c =
    let scopes = c.args.scopes.now in
    let all = c.args.known.now in
    let group = c.args.group in
    let old = c.args.ends.now in
    let new = c.put_onward.new.ends in
    let inside = c.in-Inside.inside in
    let inner = c.in-Some.inner.now in
    let kept = c.in-Some-ends.kept in
    let slice = c.as_slice.result.now in
    let firsts = c.firsts-firsts.result.now in
    let there : slice_get all inside.input ≡ Some inner = sym c.at.ensures ∙ ap (option_map (λ one. one.now)) c.in-Some.is in
    ok_more
    (λ whole. (f : End → List Spot) → ReadsAlike firsts f
    → PutsUpTo whole (flat_map f new) (flat_map f (old ++ map (onward inside.offset) slice)))
    (λ whole. (nest : Nest) (height : ℕ) (bind : Bind) → AreKnown nest scopes all → IsStep nest scopes all group height c.args.step bind → IsTrue whole
    → Puts nest scopes group height old new (bind ∷ [])) c.put_onward.result c.put_onward.ensures
    (λ whole puts nest height bind are is told.
    let leads : LeadsInside nest scopes all group height inside bind = subst (λ step. IsStep nest scopes all group height step bind) c.in-Inside.is is in
    let same : leads.inner ≡ inner = same_Some leads.inner inner (sym leads.there ∙ there) in
    let keeps : KeepsAll nest scopes leads.inner kept =
    (are inside.input leads.inner leads.there).ends kept (ap (λ (k : Known). k.ends) same ∙ c.in-Some-ends.is) in
    puts_inside nest scopes all firsts group height inside bind kept old new c.firsts-firsts.ensures leads keeps
    (λ f reads.
    subst (λ those. SameKept (flat_map f new) (flat_map f (old ++ map (onward inside.offset) those))) c.as_slice.ensures
    (subst (λ w. PutsUpTo w (flat_map f new) (flat_map f (old ++ map (onward inside.offset) slice))) told (puts f reads))))
