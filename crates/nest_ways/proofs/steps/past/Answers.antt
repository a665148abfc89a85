use Rattle.std.proofs.Common.{◌≡◌, ◌∙◌, ◌+◌, ap, inl, inr, sym}
use Rattle.std.proofs.lemmas.Option.{same_Some}
use Rattle.nest_ways.specs.declared.steps.Inside.{Inside}
use Rattle.nest_ways.proofs.WayLaws.{some_is}
use Rattle.nest_ways.proofs.steps.past.Goals as goal

pub returns-in_default : goal.returns-in_default
returns-in_default c one is = inl (sym (same_Some c.args.step one is))

pub returns : goal.returns
returns c one is =
    let step = c.args.step in
    let onward = c.in-Some.onward in
    let made : Inside = record { offset = c.in_ok-offset.offset; input = onward.input } in
    let sum : c.in_ok-offset.offset ≡ step.offset + onward.offset =
    some_is _ _ c.checked_add.result c.in_ok-offset.offset c.in_ok-offset.was c.checked_add.ensures in
    let past : Inside = record { offset = step.offset + onward.offset; input = onward.input } in
    let is_past : made ≡ past = ap (λ offset. record { offset = offset; input = onward.input }) sum in
    inr (onward, sym c.as_slice.ensures ∙ (c.only_inside.ensures onward).0 c.in-Some.is, sym (same_Some made one is) ∙ is_past)
