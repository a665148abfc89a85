use Rattle.std.proofs.Common.{◌≡◌, ◌∙◌, None, Some, ap, subst, sym}
use Rattle.std.specs.Prelude.{slice_get}
use Rattle.std.specs.Option.{option_map}
use Rattle.std.proofs.lemmas.Option.{same_Some, slice_get_within}
use Rattle.list_laws.proofs.Members.{at_place}
use Rattle.nest_ways.specs.Sets.{HasNumber}
use Rattle.nest_ways.proofs.numbers.PutSets.has.Goals as goal

pub returns-in-Some : goal.returns-in-Some
returns-in-Some c =
    let sets = c.args.self.now.sets.items in
    let scope = c.args.scope in
    let own = c.in-Some.own.now in
    let there : slice_get sets scope ≡ Some own =
    ap (λ those. slice_get those scope) (sym c.as_slice.ensures.value) ∙ sym c.at.ensures ∙ ap (option_map (λ one. one.now)) c.in-Some.is in (
      λ told. (slice_get_within sets scope own there, λ number has. (own, there, c.is_within.ensures.0 told number has)),
      λ all.
          c.is_within.ensures.1
          (λ number has.
          let held = all.1 number has in
          subst (λ each. HasNumber each number) (same_Some held.0 own (sym held.1 ∙ there)) held.2),
    )

pub returns-in-None : goal.returns-in-None
returns-in-None c =
    let sets = c.args.self.now.sets.items in
    let scope = c.args.scope in
    let none : slice_get sets scope ≡ None =
    ap (λ those. slice_get those scope) (sym c.as_slice.ensures.value) ∙ sym c.at.ensures ∙ ap (option_map (λ one. one.now)) c.in-None.is in (
      λ no. absurd (cc),
      λ all. let there = (at_place sets scope all.0).1 in absurd (cc),
    )
