-- A system that is in range and well-formed and has no cycle has a replay.
use Rattle.std.proofs.Common.{◌≡◌, ℕ, zero, suc, List, [], ◌∷◌, length, Option, Some, None, refl, subst}
use Rattle.std.proofs.lemmas.List.{length-map}
use Rattle.std.proofs.lemmas.Option.{same_Some}
use Rattle.std.specs.List.{cons_option, filter_map}
use Rattle.std.specs.Prelude.{slice_get}
use Rattle.code_units.specs.UnitPrograms.{program_of}
use Rattle.list_laws.proofs.Members.{has_place}
use Rattle.run_laws.proofs.PlainOrders.{named_has}
use Rattle.run_laws.proofs.PositionLaws.{system_has_members}
use Rattle.run_laws.proofs.RunOrders.{runs_have_orders}
use Rattle.spec_core.specs.Replays.{CanReplay}
use Rattle.spec_core.proofs.HappenLaws.{image_for}
use Rattle.trace_plan.specs.Plans.{HasImage, HaveImages}
use Rattle.trace_plan.proofs.PlainRuns.{bounded}
use Rattle.unit_exec.specs.Images.{start_inputs_of}
use Rattle.unit_exec.proofs.CheckedUnits.{checked_units}
use Rattle.unit_exec.proofs.ImageLaws.{image_is}
use Rattle.unit_tree.specs.Components.{initial, start_word}
use Rattle.unit_tree.specs.Compositions.{Member, component_with, literal_set, member_with, run_of}
use Rattle.unit_tree.specs.Names.{unit_of_instance}
use Rattle.unit_tree.specs.Orders.{HasNoCycle}
use Rattle.unit_tree.specs.Plain.{plain_form}
use Rattle.unit_tree.specs.Printable.{IsRanged}
use Rattle.unit_tree.specs.WellFormed.{IsWellFormed}
use Rattle.unit_tree.specs.declared.system.Instance.{Instance}
use Rattle.unit_tree.specs.declared.system.System.{System}
use Rattle.unit_tree.specs.declared.unit.Param.{Param}
use Rattle.unit_tree.specs.declared.unit.Unit.{Unit}

module _ (system : System) (ranged : IsRanged system) (kept : IsWellFormed system) where
  -- The plain form of the system.
  abbrev plain : System
  plain = plain_form system

  -- A member of an instance has an image, where its unit is declared.
  member_image : (instance : Instance) (unit : Unit) (member : Member) → unit_of_instance plain instance ≡ Some unit
      → member_with plain instance (Some unit) ≡ Some member → HasImage member
  member_image instance unit member at is =
      let place = has_place plain.units unit (named_has plain.units instance.unit unit at) in
      let component = component_with instance.settings unit in
      let each : length component.params ≡ length unit.params =
      length-map unit.params (λ (param : Param). start_word param.ty (literal_set instance.settings param)) in
      let fits = checked_units system ranged kept place.0 unit place.1 component.params each in
      let image = image_is unit component.params fits (program_of unit component.params) (initial component) (start_inputs_of unit) refl refl refl in
      subst HasImage (same_Some _ member is) (record {
        image = image_for component;
        is_image = image;
      })

  -- The members of some instances.
  abbrev members_from : List Instance → List Member
  members_from instances = filter_map (λ instance. member_with plain instance (unit_of_instance plain instance)) instances

  -- Each of them has an image. An instance of a unit that is not declared has none.
  image_at : (instances : List Instance) (place : ℕ) (member : Member) → slice_get (members_from instances) place ≡ Some member → HasImage member
  image_at [] place member at = absurd (cc)
  image_at (instance ∷ instances) place member at = by (unit_of_instance plain instance) refl place at (image_at instances)
    where
      by : (given : Option Unit) → unit_of_instance plain instance ≡ given → (place : ℕ)
          → slice_get (cons_option (member_with plain instance given) (members_from instances)) place ≡ Some member
          → ((k : ℕ) (other : Member) → slice_get (members_from instances) k ≡ Some other → HasImage other) → HasImage member
      by None none place at later = later place member at
      by (Some unit) is zero at later = member_image instance unit member is at
      by (Some unit) is (suc k) at later = later k member at

  pub have_images : HaveImages (run_of system)
  have_images place member at = image_at plain.instances place member at

  pub can_replay : HasNoCycle system → CanReplay (record { system = system; run = run_of system })
  can_replay no_cycle =
      let order = runs_have_orders system ranged kept no_cycle in
      record {
        composed = refl;
        order = order.0;
        ordered = order.1;
        bounded = bounded system ranged kept;
        members = system_has_members plain;
        images = have_images;
      }
