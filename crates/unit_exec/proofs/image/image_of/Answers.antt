use Rattle.std.proofs.Common.{◌∙◌, map, ap, sym, subst}
use Rattle.std.specs.List.{AllByRecursion}
use Rattle.std.specs.Option.{IfSome}
use Rattle.fixed_words.specs.Types.{AreDecimals}
use Rattle.unit_tree.specs.Components.{start_word}
use Rattle.unit_exec.proofs.ImageLaws.{states_typed, inputs_typed, image_is, starts_are, programs_are_valid}
use Rattle.unit_exec.specs.Showing.{HasSteadyLimit, ShowStates}
use Rattle.unit_exec.proofs.image.image_of.Goals as goal

pub valid_code-requires : goal.valid_code-requires
valid_code-requires c = programs_are_valid c.args.unit.now c.args.params.now c.in_ok-program.program c.requires c.in_ok-program.ensures

pub start_states-requires : goal.start_states-requires
start_states-requires c = subst (AllByRecursion (λ state. AreDecimals state.ty)) (sym c.as_slice.ensures) (states_typed c.args.unit.now c.requires.types)

pub start_inputs-requires : goal.start_inputs-requires
start_inputs-requires c = subst (AllByRecursion (λ input. AreDecimals input.ty)) (sym c.as_slice-2.ensures) (inputs_typed c.args.unit.now c.requires.types)

pub returns : goal.returns
returns c =
    image_is c.args.unit.now c.args.params.now c.requires c.code.inside.program c.in_ok-start_states.field-0 c.in_ok-start_inputs.field-0
    (c.code.view_is ∙ c.in_ok-code.ensures ∙ c.in_ok-program.ensures)
    (c.in_ok-start_states.ensures ∙ ap (map (λ state. start_word state.ty state.start)) c.as_slice.ensures)
    (c.in_ok-start_inputs.ensures ∙ ap (map (λ input. start_word input.ty input.start)) c.as_slice-2.ensures)

pub invariant_of-result-2 : goal.invariant_of-result-2
invariant_of-result-2 c = (
  starts_are c.args.unit.now c.args.params.now c.code.inside.program c.in_ok-start_states.field-0 c.in_ok-start_inputs.field-0
      (c.code.view_is ∙ c.in_ok-code.ensures ∙ c.in_ok-program.ensures)
      (c.in_ok-start_states.ensures ∙ ap (map (λ state. start_word state.ty state.start)) c.as_slice.ensures)
      (c.in_ok-start_inputs.ensures ∙ ap (map (λ input. start_word input.ty input.start)) c.as_slice-2.ensures),
  subst (λ program. ShowStates program c.in_ok-shown.shown.items) (c.program-2.ensures ∙ sym c.code.view_is) c.in_ok-shown.ensures,
  (let are = subst (λ program. ShowStates program c.in_ok-shown.shown.items) (c.program-2.ensures ∙ sym c.code.view_is) c.in_ok-shown.ensures in
      c.first_of.ensures c.code.inside.program (subst (ShowStates c.code.inside.program) (sym c.deref.ensures.value) are)),
  subst (λ program. IfSome c.steady_limit-steady_limit.result (HasSteadyLimit program)) (c.program-3.ensures ∙ sym c.code.view_is) c.steady_limit-steady_limit.ensures,
)
