use Rattle.std.proofs.Common.{◌∙◌, ◌^◌, ◌-◌, option_copied, map, unwrap_or, refl, ap, sym, subst}
use Rattle.std.specs.List.{AllByRecursion}
use Rattle.fixed_words.specs.Types.{lowest, highest, AreDecimals}
use Rattle.unit_tree.specs.Components.{start_word}
use Rattle.unit_tree.specs.Compositions.{literal_set}
use Rattle.unit_tree.specs.declared.unit.Input.{Input}
use Rattle.unit_tree.specs.Plain.{plain_form}
use Rattle.unit_tree.specs.declared.unit.Param.{Param}
use Rattle.trace_plan.proofs.FittingLaws.{unit_at, params_typed, image_of, fits_for}
use Rattle.trace_plan.proofs.PlainRuns.{plain_low}
use Rattle.trace_plan.proofs.fitting.fit.Goals as goal

pub param_words-requires : goal.param_words-requires
param_words-requires c =
    let unit = c.unwrap-unit.result.now in
    let at = unit_at c.args.checked.now c.system.result.now c.args.number unit c.system.ensures.plain
    (sym c.get.ensures.value ∙ ap option_copied c.unwrap-unit.ensures) in
    subst (AllByRecursion (λ (param : Param). AreDecimals param.ty)) (sym c.as_slice-2.ensures)
    (params_typed c.args.checked.now c.system.ensures.ranged c.system.ensures.well_formed c.args.number unit at)

pub factor-requires : goal.factor-requires
factor-requires c =
    plain_low c.args.checked.now c.system.ensures.ranged c.system.ensures.well_formed
    (plain_form c.args.checked.now) refl c.args.resolution c.requires.resolution

pub returns-clause-fitted : goal.returns-clause-fitted
returns-clause-fitted c =
    let unit = c.unwrap-unit.result.now in
    let instance = c.args.instance.now in
    let at = unit_at c.args.checked.now c.system.result.now c.args.number unit c.system.ensures.plain
    (sym c.get.ensures.value ∙ ap option_copied c.unwrap-unit.ensures) in
    let words = c.in_ok-params.ensures
    ∙ ap (λ params. map (λ (param : Param). start_word param.ty (literal_set c.as_slice.result.now param)) params) c.as_slice-2.ensures
    ∙ ap (λ settings. map (λ (param : Param). start_word param.ty (literal_set settings param)) unit.params) c.as_slice.ensures in
    let image =
    image_of c.args.checked.now c.args.number unit instance.settings c.in_ok-params.params.items c.in_ok-image_for.field-0.value at words
    c.in_ok-image_for.ensures.image in
    let low = c.in_ok-lowest_words.ensures ∙ ap (map (λ (input : Input). lowest input.ty)) c.as_slice-3.ensures in
    let high = c.in_ok-highest_words.ensures ∙ ap (map (λ (input : Input). highest input.ty)) c.as_slice-4.ensures in
    fits_for (plain_form c.args.checked.now) instance unit _ (c.requires.unit.is ∙ sym c.requires.unit.at ∙ at) image
    (c.factor.ensures.power ∙ ap (λ r. 10 ^ (r - unwrap_or unit.resolution 0)) c.requires.resolution) c.factor.ensures.least c.factor.ensures.greatest low high
