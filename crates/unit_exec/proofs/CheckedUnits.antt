-- The units of the plain form of a system that is in range and well-formed may be compiled.
use Rattle.std.proofs.Common.{◌≡◌, ◌⊎◌, ℕ, zero, suc, ℤ, List, [], ◌∷◌, map, length, Some, slice_get, inl, inr, refl, sym, ap, ◌∙◌, subst}
use Rattle.std.specs.Prelude.{◌==◌, cond}
use Rattle.std.specs.List.{AllByRecursion, flat_map}
use Rattle.code_units.specs.UnitPrograms.{IsCompilable}
use Rattle.unit_tree.specs.Plain.{plain_form, plain_unit, plain_wires, samples_or_all}
use Rattle.unit_tree.specs.Printable.{IsRanged}
use Rattle.unit_tree.specs.WellFormed.{IsWellFormed}
use Rattle.unit_tree.specs.declared.system.System.{System}
use Rattle.unit_tree.specs.declared.unit.Unit.{Unit}
use Rattle.run_laws.proofs.EventLaws.{version_1_without_events, plain_form_1}
use Rattle.unit_exec.specs.Laws.{CheckedUnitsAreCompilable}
use Rattle.unit_exec.proofs.CompilableUnits.{compilable}
use Rattle.language_laws.proofs.Declarations.{OfOutput, Declares, declares, declared_line, output_is_declared}
use Rattle.language_laws.proofs.FirstVersion.{unit_stays}
use Rattle.language_laws.proofs.UnitSites.{Passes, unit_passes}
use Rattle.list_laws.proofs.Truths.{one_or_two}

pub record MappedAt {A B : Type 0} (f : A → B) (xs : List A) (number : ℕ) (told : B) : Type 0 where
  pub one : A
  pub at : slice_get xs number ≡ Some one
  pub is : f one ≡ told

mapped_at : {A B : Type 0} (f : A → B) (xs : List A) (number : ℕ) (told : B) → slice_get (map f xs) number ≡ Some told → MappedAt f xs number told
mapped_at f [] number told is = absurd (cc)
mapped_at f (x ∷ xs) zero told is = record { one = x; at = refl; is = let same : f x ≡ told = cc in same }
mapped_at f (x ∷ xs) (suc number) told is = let rest = mapped_at f xs number told is in record { one = rest.one; at = rest.at; is = rest.is }

each_at : {A : Type 0} (P : A → Type 0) (xs : List A) (number : ℕ) (x : A) → AllByRecursion P xs → slice_get xs number ≡ Some x → P x
each_at P [] number x all is = absurd (cc)
each_at P (first ∷ xs) zero x all is = let same : first ≡ x = cc in subst P same all.0
each_at P (first ∷ xs) (suc number) x all is = each_at P xs number x all.1 is

plain_units : (system : System) → system.version ≡ 2 → (plain_form system).units ≡ map plain_unit system.units
plain_units system is =
    ap
    (λ version. (cond (version == 2)
    (record system {
      units = map plain_unit system.units;
      wires = flat_map (plain_wires system) system.wires;
      samples =
          samples_or_all system;
    }) system).units) is

module _ (system : System) (ranged : IsRanged system) (well : IsWellFormed system) where
  declared : (number : ℕ) (unit : Unit) → slice_get system.units number ≡ Some unit → Declares (Passes system) unit
  declared number unit is = declares (Passes system) unit (unit_passes system ranged well number unit is)

  -- The same for the unit with a number, in the plain form.
  compiles : (number : ℕ) (unit : Unit) → slice_get system.units number ≡ Some unit → (params : List ℤ) → length params ≡ length unit.params
      → IsCompilable (plain_unit unit) params
  compiles number unit is params each = compilable system unit (declared number unit is) params each

  by_version : (system.version ≡ 1) ⊎ (system.version ≡ 2) → (number : ℕ) (unit : Unit) → slice_get (plain_form system).units number ≡ Some unit
      → (params : List ℤ) → length params ≡ length unit.params → IsCompilable unit params
  by_version (inl first) number unit is params each =
      let here : slice_get system.units number ≡ Some unit = ap (λ (s : System). slice_get s.units number) (sym (plain_form_1 system first)) ∙ is in
      let none =
      each_at (λ (u : Unit). (u.events_in ≡ []) × (u.events_out ≡ [])) system.units number unit (version_1_without_events system ranged first) here in
      let same =
      unit_stays system first unit (declared number unit here) none.0 none.1
      (λ output has.
      declared_line (Passes system) unit (declared number unit here) (OfOutput output) (output_is_declared unit output has)) in
      subst (λ (u : Unit). IsCompilable u params) same (compiles number unit here params each)
  by_version (inr second) number unit is params each =
      let made = mapped_at plain_unit system.units number unit (ap (λ (units : List Unit). slice_get units number) (sym (plain_units system second)) ∙ is) in
      let same_count : length params ≡ length made.one.params = each ∙ ap (λ (u : Unit). length u.params) (sym made.is) in
      subst (λ (u : Unit). IsCompilable u params) made.is (compiles number made.one made.at params same_count)

pub checked_units : CheckedUnitsAreCompilable
checked_units =
    λ system ranged well number unit is params each.
    by_version system ranged well (one_or_two system.version ranged.version.0 ranged.version.1) number unit is params each
