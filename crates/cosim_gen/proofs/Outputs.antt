-- A generated system has no cycle, since its outputs need nothing.
use Rattle.std.proofs.Common.{◌≡◌, ℕ, zero, suc, ◌+◌, ◌-◌, ◌<◌, ◌≤◌, List, [], ◌∷◌, ◌++◌, map, inl, inr, refl, ap, sym, subst, arith}
use Rattle.std.specs.Prelude.{codes}
use Rattle.std.specs.List.{AllByRecursion, flat_map, range_with_len}
use Rattle.std.proofs.lemmas.Bool.{cases_eq}
use Rattle.list_laws.proofs.Lists.{each_append, each_so}
use Rattle.unit_tree.specs.Names.{unit_of_instance}
use Rattle.unit_tree.specs.Orders.{port_of, outputs_in, outputs_of, sources_of, needs_of, needed_by, IsIn, IsOrderlyAfter, HasNoCycle}
use Rattle.unit_tree.specs.declared.system.PortName.{PortName}
use Rattle.unit_tree.specs.declared.system.System.{System}
use Rattle.language_laws.proofs.OrderLaws.{each_in, all_in}
use Rattle.cosim_gen.specs.Generated.{CanGenerate, port_in, later_places, generated}
use Rattle.cosim_gen.proofs.Names.{one_name}
use Rattle.cosim_gen.proofs.Ports.{mixer, output_there}

abbrev output_in : ℕ → PortName
output_in place = port_in place (codes "y")

-- ---- Outputs in a row

in_row : (first count place : ℕ) → first ≤ place → place < first + count → IsIn (map output_in (range_with_len first count)) (output_in place)
in_row first zero place from below = absurd (omega arith)
in_row first (suc count) place from below =
    elim (cases_eq first place) [ inl same ↦ inl (ap output_in same) | inr apart ↦ inr (in_row (first + 1) count place (omega (arith, apart)) (omega arith)) ]

-- A port is the output of a component before this place.
record Ahead (first : ℕ) (port : PortName) : Type 0 where
  place : ℕ
  before : place < first
  is : port ≡ output_in place

later_ahead : (first : ℕ) (port : PortName) → Ahead first port → Ahead (first + 1) port
later_ahead first port ahead = record { place = ahead.place; before = omega (arith, ahead.before); is = ahead.is }

not_ahead : (first : ℕ) → first < 64 → Ahead first (output_in first) → ⊥
not_ahead first few ahead =
    let same : first ≡ ahead.place = one_name first ahead.place few (omega (arith, ahead.before)) (ap (λ (port : PortName). port.instance) ahead.is) in
    absurd (omega (arith, ahead.before))

-- Outputs without needs may be in any order.
orderly_row : (system : System) (first count : ℕ) (before : List PortName) → first + count ≤ 64 → AllByRecursion (Ahead first) before
    → ((place : ℕ) → first ≤ place → place < first + count → IsIn (outputs_of system) (output_in place))
    → ((place : ℕ) → first ≤ place → place < first + count → needed_by system (output_in place) ≡ [])
    → IsOrderlyAfter system before (map output_in (range_with_len first count))
orderly_row system first zero before few ahead there free = tt
orderly_row system first (suc count) before few ahead there free = (
  there first (omega arith) (omega arith),
  λ stands. not_ahead first (omega arith) (each_in (Ahead first) before (output_in first) ahead stands),
  subst (AllByRecursion (IsIn before)) (sym (free first (omega arith) (omega arith))) tt,
  orderly_row system (first + 1) count (before ++ (output_in first ∷ [])) (omega arith)
      (each_append (Ahead (first + 1)) before (output_in first ∷ []) (each_so (Ahead first) (Ahead (first + 1)) (later_ahead first) before ahead)
      (record { place = first; before = omega arith; is = refl }, tt))
      (λ place from below. there place (omega arith) (omega arith))
      (λ place from below. free place (omega arith) (omega arith)),
)

-- ---- The outputs of a generated system

module _ (seed instances rows : ℕ) (can : CanGenerate instances rows) where
  mixer_outputs : (all : List ℕ)
      → flat_map (λ instance. map (λ output. port_of instance output.name) (outputs_in (unit_of_instance (generated seed instances rows) instance)))
      (map (mixer seed) all)
      ≡ map output_in all
  mixer_outputs [] = refl
  mixer_outputs (place ∷ all) = ap (λ rest. output_in place ∷ rest) (mixer_outputs all)

  abbrev row : List PortName
  row = output_in 0 ∷ map output_in (later_places instances)

  outputs_are : outputs_of (generated seed instances rows) ≡ row
  outputs_are = ap (λ rest. output_in 0 ∷ rest) (mixer_outputs (later_places instances))

  needs_nothing : (place : ℕ) → place < instances → needed_by (generated seed instances rows) (output_in place) ≡ []
  needs_nothing place below =
      ap (λ found. flat_map (λ input. sources_of (generated seed instances rows) (record { instance = (output_in place).instance; port = input }))
      (needs_of found))
      (output_there seed instances rows can place below)

  is_there : (place : ℕ) → 1 ≤ place → place < instances → IsIn (outputs_of (generated seed instances rows)) (output_in place)
  is_there place some below =
      subst (λ ports. IsIn ports (output_in place)) (sym outputs_are) (inr (in_row 1 (instances - 1) place some (omega arith)))

  pub has_no_cycle : HasNoCycle (generated seed instances rows)
  has_no_cycle = (
    row,
    (
      subst (λ ports. IsIn ports (output_in 0)) (sym outputs_are) (inl refl),
      λ never. never,
      subst (AllByRecursion (IsIn [])) (sym (needs_nothing 0 (omega (arith, can.one_instance)))) tt,
      orderly_row (generated seed instances rows) 1 (instances - 1) (output_in 0 ∷ []) (omega (arith, can.one_instance, can.few_instances))
          (record { place = 0; before = omega arith; is = refl }, tt)
          (λ place from below. is_there place from (omega (arith, can.one_instance)))
          (λ place from below. needs_nothing place (omega (arith, can.one_instance))),
    ),
    subst (AllByRecursion (IsIn row)) (sym outputs_are) (all_in [] row),
  )
