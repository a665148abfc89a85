use Rattle.std.proofs.Common.{Bool, List, ◌&&◌, sym, ap, ◌∙◌}
use Rattle.std.specs.Prelude.{nat_le}
use Rattle.std.specs.List.{list_all}
use Rattle.list_laws.proofs.Truths.{true_is_false}
use Rattle.unit_tree.specs.Canonical.{optional, unit_parts}
use Rattle.unit_tree.specs.Parts as parts
use Rattle.unit_tree.specs.Parts.{part_forms}
use Rattle.unit_tree.specs.declared.line_form.LineForm.TheVariants as form
use Rattle.unit_tree.specs.declared.system.System.{System}
use Rattle.unit_tree.specs.declared.system.PortName.{PortName}
use Rattle.unit_print.specs.Fitting.{line_fits, instance_fits, parts_fit}
use Rattle.unit_print.proofs.FittingParts.{system_fits, fourth_decides, some_fails, all_but, one_but}
use Rattle.unit_print.proofs.fitting.system_fits.Goals as goal
use Rattle.unit_print.proofs.fitting.system_fits.Goals.{then-version_fits, else-version_fits, then-components_fit, else-components_fit}

-- The tests of the parts of the three groups.
abbrev components : System → Bool
components system =
    (list_all (λ unit. list_all (line_fits system.version) (part_forms (parts.HasUnit unit.name (unit_parts unit)))) system.units
    && list_all instance_fits system.instances)
    && list_all (λ wire. line_fits 1 (form.Connect wire)) system.wires

abbrev limits : System → Bool
limits system =
    ((parts_fit 1 (optional parts.Stop system.stop) && parts_fit 1 (optional parts.Longest system.longest)) && parts_fit 1 (optional parts.Zero system.zero))
    && parts_fit 1 (optional parts.Rows system.rows)

abbrev samples : System → Bool
samples system = list_all (λ port. line_fits 1 (form.Sample port)) system.samples

abbrev range : System → Bool
range system = nat_le 1 system.version && nat_le system.version 2

pub returns-then-limits_fit : goal.returns-then-limits_fit
returns-then-limits_fit c =
    let system = c.args.system.now in
    elim c.if-components_fit.branch [
      | then-components_fit w ↦ elim c.if-version_fits.branch [
        | then-version_fits v ↦
            fourth_decides (range system) (components system) (limits system) (samples system) c.samples_fit.result (sym c.version_fits.ensures
            ∙ v.if-version_fits.true)
            (sym v.components_fit.ensures ∙ sym v.value-is ∙ w.if-components_fit.true) (sym w.limits_fit.ensures ∙ sym w.value-is ∙ c.if-limits_fit.true)
            (c.samples_fit.ensures ∙ ap (λ (ports : List PortName). list_all (λ port. line_fits 1 (form.Sample port)) ports) c.as_slice.ensures)
            ∙ sym (system_fits system)
        | else-version_fits v ↦ true_is_false c.if-version_fits.value w.if-components_fit.true (v.value-is ∙ v.if-version_fits.false)
      ]
      | else-components_fit w ↦ true_is_false c.if-components_fit.value c.if-limits_fit.true (w.value-is ∙ w.if-components_fit.false)
    ]

pub returns-else-limits_fit : goal.returns-else-limits_fit
returns-else-limits_fit c =
    let system = c.args.system.now in
    c.if-limits_fit.false
    ∙ some_fails (range system) (components system) (limits system) (samples system) (elim c.if-components_fit.branch [
      | then-components_fit w ↦ elim c.if-version_fits.branch [
        | then-version_fits v ↦
            all_but (range system) (components system) (limits system) (sym c.version_fits.ensures ∙ v.if-version_fits.true)
            (sym v.components_fit.ensures ∙ sym v.value-is ∙ w.if-components_fit.true) (sym w.limits_fit.ensures ∙ sym w.value-is ∙ c.if-limits_fit.false)
        | else-version_fits v ↦ true_is_false c.if-version_fits.value w.if-components_fit.true (v.value-is ∙ v.if-version_fits.false)
      ]
      | else-components_fit w ↦ elim c.if-version_fits.branch [
        | then-version_fits v ↦
            one_but (range system) (components system) (limits system) (sym c.version_fits.ensures ∙ v.if-version_fits.true)
            (sym v.components_fit.ensures ∙ sym v.value-is ∙ w.if-components_fit.false)
        | else-version_fits v ↦ ap (λ told. told && (components system && limits system)) (sym c.version_fits.ensures ∙ v.if-version_fits.false)
      ]
    ])
    ∙ sym (system_fits system)
