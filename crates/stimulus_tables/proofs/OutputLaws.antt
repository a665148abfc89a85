-- The system of a table has no cycle, since its outputs need nothing.
use Rattle.std.proofs.Common.{◌≡◌, ◌≢◌, ℕ, ◌+◌, Bool, true, false, List, [], ◌∷◌, ◌++◌, map, inl, inr, Some, refl, ap, sym, subst, ◌∙◌, append-nil}
use Rattle.std.specs.Prelude.{codes, if◌then◌else◌}
use Rattle.std.specs.List.{AllByRecursion, flat_map}
use Rattle.std.specs.Str.{bytes_eq}
use Rattle.language_laws.proofs.OrderLaws.{all_in}
use Rattle.list_laws.proofs.Lists.{each_more, each_so}
use Rattle.unit_tree.specs.Names.{Port, port_named}
use Rattle.unit_tree.specs.Orders.{HasNoCycle, IsIn, IsOrderlyAfter, needed_by, needs_of, outputs_of, port_of, sources_of}
use Rattle.unit_tree.specs.declared.system.PortName.{PortName}
use Rattle.unit_tree.specs.declared.system.System.{System}
use Rattle.unit_tree.specs.declared.unit.Output.{Output}
use Rattle.stimulus_tables.specs.TableSystems.{output_with, outputs_from, table_instance, table_system}
use Rattle.stimulus_tables.specs.Tables.{AllDiffer}
use Rattle.stimulus_tables.specs.declared.moment.Moment.{Moment}

abbrev pub port_with : List ℕ → PortName
port_with name = record { instance = codes "table"; port = name }

abbrev ports_with : List (List ℕ) → List PortName
ports_with names = map port_with names

abbrev plain_port : Output → Port
plain_port output = record { name = output.name; ty = output.ty; is_event = false; needs = output.needs }

ports_from : (first : ℕ) (names : List (List ℕ))
    → map (λ (port : Port). port_of table_instance port.name) (map plain_port (outputs_from first names)) ≡ ports_with names
ports_from first [] = refl
ports_from first (name ∷ names) = ap (λ rest. port_with name ∷ rest) (ports_from (first + 1) names)

by_name : (first : ℕ) (one : List ℕ) (names : List (List ℕ)) (name : List ℕ) (told : Bool) → needs_of (port_named (map plain_port (outputs_from (first + 1) names)) name) ≡ []
    → needs_of (if told then Some (plain_port (output_with one first)) else port_named (map plain_port (outputs_from (first + 1) names)) name) ≡ []
by_name first one names name true later = refl
by_name first one names name false later = later

-- Any output that is found needs nothing.
needs_none : (first : ℕ) (names : List (List ℕ)) (name : List ℕ) → needs_of (port_named (map plain_port (outputs_from first names)) name) ≡ []
needs_none first [] name = refl
needs_none first (one ∷ names) name = by_name first one names name (bytes_eq one name) (needs_none (first + 1) names name)

module _ (names : List (List ℕ)) (first : Moment) (later : List Moment) where
  abbrev system : System
  system = table_system names first later

  outputs_are : outputs_of system ≡ ports_with names
  outputs_are =
      append-nil (map (λ (port : Port). port_of table_instance port.name) (map plain_port (outputs_from 0 names) ++ []))
      ∙ ap (map (λ (port : Port). port_of table_instance port.name)) (append-nil (map plain_port (outputs_from 0 names))) ∙ ports_from 0 names

  needs_nothing : (name : List ℕ) → needed_by system (port_with name) ≡ []
  needs_nothing name =
      ap (λ (ports : List Port). flat_map (λ input. sources_of system (record { instance = codes "table"; port = input })) (needs_of (port_named ports name)))
      (append-nil (map plain_port (outputs_from 0 names)))
      ∙ ap (flat_map (λ input. sources_of system (record { instance = codes "table"; port = input }))) (needs_none 0 names name)

  orderly : (before : List (List ℕ)) (rest : List (List ℕ)) → AllDiffer rest → AllByRecursion (λ one. AllByRecursion (λ other. one ≢ other) rest) before
      → ((name : List ℕ) → IsIn (ports_with rest) (port_with name) → IsIn (outputs_of system) (port_with name))
      → IsOrderlyAfter system (ports_with before) (ports_with rest)
  orderly before [] differ apart there = tt
  orderly before (name ∷ rest) differ apart there = (
    there name (inl refl),
    λ stands. not_before before (each_so (λ one. AllByRecursion (λ other. one ≢ other) (name ∷ rest)) (λ one. one ≢ name) (λ one all. all.0) before apart) stands,
    subst (AllByRecursion (IsIn (ports_with before))) (sym (needs_nothing name)) tt,
    subst (λ ports. IsOrderlyAfter system ports (ports_with rest)) (with_one before)
        (orderly (before ++ (name ∷ [])) rest differ.1
        (each_more (λ one. AllByRecursion (λ other. one ≢ other) rest) before name
        (each_so (λ one. AllByRecursion (λ other. one ≢ other) (name ∷ rest)) (λ one. AllByRecursion (λ other. one ≢ other) rest) (λ one all. all.1) before apart) differ.0)
        (λ one stands. there one (inr stands))),
  )
    where
      not_before : (names_before : List (List ℕ)) → AllByRecursion (λ one. one ≢ name) names_before → IsIn (ports_with names_before) (port_with name) → ⊥
      not_before [] all stands = stands
      not_before (one ∷ others) all (inl same) = all.0 (ap (λ (port : PortName). port.port) same)
      not_before (one ∷ others) all (inr stands) = not_before others all.1 stands

      with_one : (names_before : List (List ℕ)) → ports_with (names_before ++ (name ∷ [])) ≡ ports_with names_before ++ (port_with name ∷ [])
      with_one [] = refl
      with_one (one ∷ others) = ap (λ rest_ports. port_with one ∷ rest_ports) (with_one others)

  pub no_cycle : AllDiffer names → HasNoCycle system
  no_cycle differ = (
    ports_with names,
    orderly [] names differ tt (λ name stands. subst (λ ports. IsIn ports (port_with name)) (sym outputs_are) stands),
    subst (AllByRecursion (IsIn (ports_with names))) (sym outputs_are) (all_in [] (ports_with names)),
  )
