-- Laws of the columns of a system.
use Rattle.std.specs.Prelude.{◌≡◌, true, is_some, ℤ, List, length}
use Rattle.std.specs.List.{AllByRecursion, filter_map, list_all}
use Rattle.trace_csv.specs.Columns.{IsOutput, columns_of}
use Rattle.trace_csv.specs.TraceText.{HasWord}
use Rattle.unit_tree.specs.Compositions.{run_of}
use Rattle.unit_tree.specs.Ports.{Ports, IsAssignment}
use Rattle.unit_tree.specs.Printable.{IsRanged}
use Rattle.unit_tree.specs.WellFormed.{IsWellFormed}
use Rattle.unit_tree.specs.declared.system.System.{System}

-- Each column of the system is one of its outputs, so that it has a title.
abbrev pub HasTitles : System → Type 0
HasTitles system = AllByRecursion (IsOutput system) (columns_of system)

-- At any states, one for each member, where all outputs have words, each column has a word of its type. So a row can be printed.
abbrev pub HasRows : System → Type 0
HasRows system =
    (states : List (List ℤ)) (ports : Ports) → length states ≡ length (run_of system).members → IsAssignment (run_of system) states ports
    → list_all is_some ports ≡ true → AllByRecursion (HasWord (filter_map (λ word. word) ports)) (columns_of system)

-- The header of a system that is in range and well-formed can be printed.
abbrev pub HeadersCanBePrinted : Type 0
HeadersCanBePrinted = (system : System) → IsRanged system → IsWellFormed system → HasTitles system

-- So can its rows.
abbrev pub RowsCanBePrinted : Type 0
RowsCanBePrinted = (system : System) → IsRanged system → IsWellFormed system → HasRows system
