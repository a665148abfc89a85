-- How many connections the first connections of a system become in the plain form.
use Rattle.std.proofs.Common.{◌≡◌, ℕ, zero, suc, ◌+◌, ◌≤◌, ◌<◌, nat_lt, nat_le, Bool, true, false, List, [], ◌∷◌, take, length, get_or, add-one, Option, Some}
use Rattle.std.proofs.Common.{None, refl, arith}
use Rattle.std.specs.Prelude.{if◌then◌else◌}
use Rattle.std.specs.List.{flat_map}
use Rattle.std.specs.Option.{option_map, unwrap_or}
use Rattle.std.proofs.lemmas.List.{append-nil, length-append}
use Rattle.unit_check.proofs.FoundPorts.{Same, output_is}
use Rattle.unit_check.specs.Joins.{is_event_found}
use Rattle.unit_check.specs.Counts.{plain_wire_count}
use Rattle.unit_names.specs.Systems.{output_found}
use Rattle.unit_names.specs.declared.tables.Declared.{Declared}
use Rattle.unit_tree.specs.Names.{Port, output_at}
use Rattle.unit_tree.specs.Plain.{plain_wires, is_event_output}
use Rattle.unit_tree.specs.declared.system.PortName.{PortName}
use Rattle.unit_tree.specs.declared.system.System.{System}
use Rattle.unit_tree.specs.declared.system.Wire.{Wire}

grows : (f : Wire → List Wire) (wires : List Wire) (few many : ℕ) → few ≤ many → length (flat_map f (take few wires)) ≤ length (flat_map f (take many wires))
grows f wires zero many more = omega arith
grows f [] (suc few) many more = omega arith
grows f (wire ∷ wires) (suc few) zero more = absurd (omega arith)
grows f (wire ∷ wires) (suc few) (suc many) more =
    let rest = grows f wires few many (omega arith) in
    let one = length-append (f wire) (flat_map f (take few wires)) in
    let other = length-append (f wire) (flat_map f (take many wires)) in
    omega arith

within_all : (f : Wire → List Wire) (wires : List Wire) (many : ℕ) → length (flat_map f (take many wires)) ≤ length (flat_map f wires)
within_all f [] zero = omega arith
within_all f [] (suc many) = omega arith
within_all f (wire ∷ wires) zero = omega arith
within_all f (wire ∷ wires) (suc many) =
    let rest = within_all f wires many in
    let one = length-append (f wire) (flat_map f (take many wires)) in
    let other = length-append (f wire) (flat_map f wires) in
    omega arith

pub first_exceeds : (system : System) (place : ℕ) → plain_wire_count system place ≤ 2048 → 2048 < plain_wire_count system (place + 1) → (asked : ℕ)
    → nat_lt 2048 (plain_wire_count system (asked + 1)) ≡ nat_le place asked
first_exceeds system place few many asked = step (nat_le place asked) refl
  where
    step : (is : Bool) → nat_le place asked ≡ is → nat_lt 2048 (plain_wire_count system (asked + 1)) ≡ is
    step true is =
        let later : place + 1 ≤ asked + 1 = grind (arith) in
        let more = grows (plain_wires system) system.wires (place + 1) (asked + 1) later in
        grind (arith)
    step false is =
        let earlier : asked + 1 ≤ place = grind (arith) in
        let less = grows (plain_wires system) system.wires (asked + 1) place earlier in
        grind (arith)

all_taken : (f : Wire → List Wire) (wires : List Wire) (many : ℕ) → length wires ≤ many → length (flat_map f (take many wires)) ≡ length (flat_map f wires)
all_taken f [] zero within = refl
all_taken f [] (suc many) within = refl
all_taken f (wire ∷ wires) zero within = absurd (omega arith)
all_taken f (wire ∷ wires) (suc many) within =
    let rest = all_taken f wires many (omega arith) in
    let one = length-append (f wire) (flat_map f (take many wires)) in
    let other = length-append (f wire) (flat_map f wires) in
    omega arith

pub none_exceeds : (system : System) (place : ℕ) → plain_wire_count system place ≤ 2048 → length system.wires ≤ place → (asked : ℕ)
    → nat_lt 2048 (plain_wire_count system (asked + 1)) ≡ false
none_exceeds system place few within asked =
    let less = within_all (plain_wires system) system.wires (asked + 1) in
    let all = all_taken (plain_wires system) system.wires place within in
    grind (arith)

is_event_in : (found : Option Declared) (port : Option Port) → Same found port
    → is_event_found found ≡ unwrap_or (option_map (λ (one : Port). one.is_event) port) false
is_event_in None None same = refl
is_event_in (Some one) (Some port) same = same.1
is_event_in None (Some port) same = absurd same
is_event_in (Some one) None same = absurd same

pub event_is : (system : System) (port : PortName) → is_event_found (output_found system port) ≡ is_event_output system port
event_is system port = is_event_in (output_found system port) (output_at system port) (output_is system port)

pub two_or_one : (system : System) (wire : Wire) (is_event : Bool) → is_event ≡ is_event_output system wire.from
    → (if is_event then 2 else 1) ≡ length (plain_wires system wire)
two_or_one system wire true is = rw (← is) refl
two_or_one system wire false is = rw (← is) refl

pub next_count : (system : System) (place : ℕ) (wire : Wire) → place < length system.wires
    → plain_wire_count system (place + 1) ≡ plain_wire_count system place + length (plain_wires system (get_or system.wires place wire))
next_count system place wire within = rw add-one (step system.wires place within)
  where
    step : (wires : List Wire) (at : ℕ) → at < length wires
        → length (flat_map (plain_wires system) (take (suc at) wires))
        ≡ length (flat_map (plain_wires system) (take at wires)) + length (plain_wires system (get_or wires at wire))
    step [] at within = absurd (omega arith)
    step (first ∷ wires) zero within = rw append-nil (grind (arith))
    step (first ∷ wires) (suc at) within =
        let rest = step wires at (omega arith) in
        let one = length-append (plain_wires system first) (flat_map (plain_wires system) (take (suc at) wires)) in
        let other = length-append (plain_wires system first) (flat_map (plain_wires system) (take at wires)) in
        omega arith
