-- A system's composition has an order of its places exactly where the system has no cycle.
use Rattle.std.proofs.Common.{◌≡◌, ◌⊎◌, ℕ, ◌==◌, inl, inr, cond, List, sym, subst}
use Rattle.unit_tree.specs.Compositions.{composition_of}
use Rattle.unit_tree.specs.Orders.{HasNoCycle}
use Rattle.unit_tree.specs.Plain.{plain_form}
use Rattle.unit_tree.specs.Ports.{IsPlaceOrder}
use Rattle.unit_tree.specs.Printable.{IsRanged}
use Rattle.unit_tree.specs.WellFormed.{IsWellFormed}
use Rattle.unit_tree.specs.declared.system.System.{System}
use Rattle.language_laws.proofs.NameLaws.{names_differ, is_wired}
use Rattle.run_laws.proofs.EventLaws.{version_1_without_events, plain_form_1, plain_of_without_events}
use Rattle.run_laws.proofs.PlaceOrders.{system_is_ordered, has_no_cycle}
use Rattle.run_laws.proofs.PlainCycles.{plain_is_wired, has_none_of_plain}
use Rattle.run_laws.proofs.PlainOrders.{plain_of, plain_names_differ, plain_has_no_cycle}
use Rattle.list_laws.proofs.Truths.{one_or_two}

abbrev pub HasOrder : System → Type 0
HasOrder system = (order : List ℕ) × IsPlaceOrder (composition_of system) order

pub runs_have_orders : (system : System) → IsRanged system → IsWellFormed system → HasNoCycle system → HasOrder (plain_form system)
runs_have_orders system ranged kept no_cycle = by_version (one_or_two system.version ranged.version.0 ranged.version.1)
  where
    by_version : (system.version ≡ 1) ⊎ (system.version ≡ 2) → HasOrder (plain_form system)
    by_version (inl is) =
        subst HasOrder (sym (plain_form_1 system is)) (system_is_ordered system (version_1_without_events system ranged is) (names_differ system kept) no_cycle)
    by_version (inr is) =
        subst (λ version. HasOrder (cond (version == 2) (plain_of system) system)) (sym is)
        (system_is_ordered (plain_of system) (plain_of_without_events system) (plain_names_differ system ranged kept)
        (plain_has_no_cycle system ranged kept no_cycle))

pub orders_have_runs : (system : System) → IsRanged system → IsWellFormed system → HasOrder (plain_form system) → HasNoCycle system
orders_have_runs system ranged kept order = by_version (one_or_two system.version ranged.version.0 ranged.version.1)
  where
    by_version : (system.version ≡ 1) ⊎ (system.version ≡ 2) → HasNoCycle system
    by_version (inl is) =
        has_no_cycle system (version_1_without_events system ranged is) (names_differ system kept) (is_wired system kept)
        (subst HasOrder (plain_form_1 system is) order)
    by_version (inr is) =
        has_none_of_plain system ranged kept
        (has_no_cycle (plain_of system) (plain_of_without_events system) (plain_names_differ system ranged kept) (plain_is_wired system ranged kept)
        (subst (λ version. HasOrder (cond (version == 2) (plain_of system) system)) is order))
