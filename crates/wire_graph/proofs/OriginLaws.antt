-- What the tables of names find.
use Rattle.std.proofs.Common.{◌≡◌, ℕ, suc, ◌+◌, Bool, true, false, cond, List, [], ◌∷◌, map, length, Option, Some, None, refl, ap, sym, subst, ◌∙◌, arith}
use Rattle.std.specs.Prelude.{slice_get, not, unwrap_or}
use Rattle.std.specs.List.{position_from, position_or_len, filter_map, cons_option}
use Rattle.std.specs.Borrow.{Bor}
use Rattle.std.specs.Option.{option_map, option_and_then, option_copied}
use Rattle.unit_tree.specs.Compositions.{source_from}
use Rattle.unit_tree.specs.Names.{same_port}
use Rattle.unit_tree.specs.Orders.{source_if}
use Rattle.unit_tree.specs.declared.system.PortName.{PortName}
use Rattle.unit_tree.specs.declared.system.System.{System}
use Rattle.unit_tree.specs.declared.system.Wire.{Wire}
use Rattle.unit_tree.specs.declared.unit.Input.{Input}
use Rattle.wire_graph.specs.Origins.{source_behind}
use Rattle.wire_graph.specs.Wiring.{targets_of}
use Rattle.language_laws.proofs.NameLaws.{same_port_symm}

pub position_map : {A B : Type 0} (p : B → Bool) (f : A → B) (from : ℕ) (xs : List A) → position_from (λ x. p (f x)) from xs ≡ position_from p from (map f xs)
position_map p f from [] = refl
position_map p f from (x ∷ xs) = ap (cond (p (f x)) (Some from)) (position_map p f (from + 1) xs)

-- The place, or the count.
place_by : (told : Bool) (from count later : ℕ) (found : Option ℕ) → unwrap_or found (from + 1 + count) ≡ from + 1 + later
    → unwrap_or (cond told (Some from) found) (from + suc count) ≡ from + cond (not told) (1 + later) 0
place_by true from count later found is = omega arith
place_by false from count later found is = let next : from + 1 + count ≡ from + suc count = omega arith in
    subst (λ n. unwrap_or found n ≡ from + (1 + later)) next (omega (arith, is))

place_from : {A : Type 0} (p : A → Bool) (from : ℕ) (xs : List A) → unwrap_or (position_from p from xs) (from + length xs) ≡ from + position_or_len p xs
place_from p from [] = refl
place_from p from (x ∷ xs) = place_by (p x) from (length xs) (position_or_len p xs) (position_from p (from + 1) xs) (place_from p (from + 1) xs)

pub place_or_count : {A : Type 0} (p : A → Bool) (xs : List A) (found : Option ℕ) (count : ℕ) → found ≡ position_from p 0 xs → count ≡ length xs
    → unwrap_or found count ≡ position_or_len p xs
place_or_count p xs found count is count_is =
    let zero_is : 0 + length xs ≡ length xs = omega arith in
    let same : 0 + position_or_len p xs ≡ position_or_len p xs = omega arith in
    ap (λ n. unwrap_or found n) (count_is ∙ sym zero_is) ∙ ap (λ given. unwrap_or given (0 + length xs)) is ∙ place_from p 0 xs ∙ same

-- The first connection to an input, found by its number.
abbrev from_of : Wire → PortName
from_of wire = wire.from

shifted : {A : Type 0} (p : A → Bool) (from : ℕ) (xs : List A) → position_from p (from + 1) xs ≡ option_map suc (position_from p from xs)
shifted p from [] = refl
shifted p from (x ∷ xs) = by (p x) (shifted p (from + 1) xs)
  where
    by : (told : Bool) → position_from p (from + 1 + 1) xs ≡ option_map suc (position_from p (from + 1) xs)
        → cond told (Some (from + 1)) (position_from p (from + 1 + 1) xs) ≡ option_map suc (cond told (Some from) (position_from p (from + 1) xs))
    by true later = let next : from + 1 ≡ suc from = omega arith in ap Some next
    by false later = later

step_get : {A : Type 0} (x : A) (xs : List A) (found : Option ℕ)
    → option_and_then (slice_get (x ∷ xs)) (option_map suc found) ≡ option_and_then (slice_get xs) found
step_get x xs None = refl
step_get x xs (Some k) = refl

pub first_source : (port : PortName) (wires : List Wire)
    → option_map from_of (option_and_then (slice_get wires) (position_from (same_port port) 0 (targets_of wires)))
    ≡ slice_get (filter_map (source_if port) wires) 0
first_source port [] = refl
first_source port (wire ∷ wires) =
    by (same_port port wire.to) (same_port wire.to port) (same_port_symm port wire.to) (first_source port wires)
  where
    by : (told asked : Bool) → told ≡ asked
        → option_map from_of (option_and_then (slice_get wires) (position_from (same_port port) 0 (targets_of wires)))
        ≡ slice_get (filter_map (source_if port) wires) 0
        → option_map from_of (option_and_then (slice_get (wire ∷ wires)) (cond told (Some 0) (position_from (same_port port) (0 + 1) (targets_of wires))))
        ≡ slice_get (cons_option (cond asked (Some wire.from) None) (filter_map (source_if port) wires)) 0
    by true true same later = refl
    by true false same later = absurd (cc)
    by false true same later = absurd (cc)
    by false false same later =
        ap (λ found. option_map from_of (option_and_then (slice_get (wire ∷ wires)) found)) (shifted (same_port port) 0 (targets_of wires))
        ∙ ap (option_map from_of) (step_get wire wires (position_from (same_port port) 0 (targets_of wires)))
        ∙ later

-- The source of an input is given by the first output that is connected to it.
pub no_source : (system : System) (input : Input) (sources : List PortName) → None ≡ slice_get sources 0
    → source_from system input sources ≡ source_from system input []
no_source system input [] is = refl
no_source system input (source ∷ sources) is = absurd (cc)

pub one_source : (system : System) (input : Input) (sources : List PortName) (source : PortName) → Some source ≡ slice_get sources 0
    → source_from system input sources ≡ source_from system input (source ∷ [])
one_source system input [] source is = absurd (cc)
one_source system input (first ∷ sources) source is = let same : source ≡ first = cc in rw same refl

-- The same in the form of the table's query.
behind_copied : (wire : Option (Bor Wire)) → option_map source_behind wire ≡ option_map from_of (option_copied wire)
behind_copied None = refl
behind_copied (Some wire) = refl

pub wire_found : (port : PortName) (wires : List Wire) (found : Option ℕ) (at : ℕ) (wire : Option (Bor Wire))
    → found ≡ position_from (same_port port) 0 (targets_of wires) → found ≡ Some at → option_copied wire ≡ slice_get wires at
    → option_map source_behind wire ≡ slice_get (filter_map (source_if port) wires) 0
wire_found port wires found at wire is at_is wire_is =
    behind_copied wire
    ∙ ap (option_map from_of) (wire_is ∙ ap (option_and_then (slice_get wires)) (sym at_is ∙ is))
    ∙ first_source port wires

pub no_wire : (port : PortName) (wires : List Wire) (found : Option ℕ) → found ≡ position_from (same_port port) 0 (targets_of wires) → found ≡ None
    → None ≡ slice_get (filter_map (source_if port) wires) 0
no_wire port wires found is none =
    ap (λ given. option_map from_of (option_and_then (slice_get wires) given)) (sym none ∙ is) ∙ first_source port wires
