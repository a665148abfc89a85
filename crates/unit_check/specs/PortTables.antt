-- Tables of ports: the first place of each port in a list.
use Rattle.std.specs.Prelude.{◌≡◌, ◌&&◌, ℕ, List, Option}
use Rattle.std.specs.Borrow.{Bor}
use Rattle.std.specs.Str.{bytes_eq}
use Rattle.indexmap.specs.IndexMap.{IndexMap, get_by}
use Rattle.unit_check.specs.Places.{first_port}
use Rattle.unit_tree.specs.declared.system.PortName.{PortName}

-- The place that a table has for the names of a port.
abbrev pub found_port : {S : Type 0} → IndexMap (Bor (List ℕ) × Bor (List ℕ)) ℕ S → PortName → Option ℕ
found_port table port = get_by (λ (key : Bor (List ℕ) × Bor (List ℕ)). bytes_eq port.instance key.0.now && bytes_eq port.port key.1.now) table

-- The table has the first place of each port in this list.
abbrev pub FindsPorts : {S : Type 0} → List PortName → IndexMap (Bor (List ℕ) × Bor (List ℕ)) ℕ S → Type 0
FindsPorts ports table = (port : PortName) → found_port table port ≡ first_port ports port
