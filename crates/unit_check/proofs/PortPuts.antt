-- What a table of ports finds after a port was added.
use Rattle.std.proofs.Common.{◌≡◌, ℕ, Bool, true, false, ◌&&◌, List, Some, None, bytes_eq, refl, ap, sym, subst, ◌∙◌}
use mathlib.Core.Bool.{cond}
use Rattle.std.specs.Borrow.{Bor}
use Rattle.std.specs.Map.{lookup, KeepsOthers}
use Rattle.std.specs.Cmp.Lexicographic.{bytes_decides}
use Rattle.unit_tree.specs.Names.{same_port}
use Rattle.unit_tree.specs.declared.system.PortName.{PortName}
use Rattle.std.proofs.lemmas.Bool.{and_parts}
use Rattle.language_laws.proofs.NameLaws.{same_port_symm}

abbrev pub Key : Type 0
Key = Bor (List ℕ) × Bor (List ℕ)

-- The keys of a port.
abbrev pub names_port : PortName → Key → Bool
names_port port key = bytes_eq port.instance key.0.now && bytes_eq port.port key.1.now

abbrev pub same_key : Key → Key → Bool
same_key one other = bytes_eq one.0.now other.0.now && bytes_eq one.1.now other.1.now

both_is : (one other first second : List ℕ) → (bytes_eq one first && bytes_eq other second) ≡ true → (one ≡ first) × (other ≡ second)
both_is one other first second is =
    let parts = and_parts (bytes_eq one first) (bytes_eq other second) is in
    ((bytes_decides one first).0 parts.0, (bytes_decides other second).0 parts.1)

-- Keys of a port are the same key.
is_key_test : (port : PortName) (x y : Key) → names_port port x ≡ true → names_port port y ≡ same_key x y
is_key_test port x y is =
    let names = both_is port.instance port.port x.0.now x.1.now is in
    ap (λ i. bytes_eq i y.0.now && bytes_eq port.port y.1.now) names.0 ∙ ap (λ p. bytes_eq x.0.now y.0.now && bytes_eq p y.1.now) names.1

-- Other ports have other keys.
are_apart : (port other : PortName) → same_port port other ≡ false → (key : Key) → names_port port key ≡ true → names_port other key ≡ false
are_apart port other apart key is =
    let names = both_is port.instance port.port key.0.now key.1.now is in
    ap (λ i. bytes_eq other.instance i && bytes_eq other.port key.1.now) (sym names.0)
    ∙ ap (λ p. bytes_eq other.instance port.instance && bytes_eq other.port p) (sym names.1)
    ∙ same_port_symm other port ∙ apart

same_test : (port other : PortName) → same_port port other ≡ true → names_port port ≡ names_port other
same_test port other is =
    let names = both_is port.instance port.port other.instance other.port is in
    ap (λ i. λ (key : Key). bytes_eq i key.0.now && bytes_eq port.port key.1.now) names.0
    ∙ ap (λ p. λ (key : Key). bytes_eq other.instance key.0.now && bytes_eq p key.1.now) names.1

others_stay : (port other : PortName) (old new : List (Key × ℕ)) → KeepsOthers same_key (names_port port) old new → same_port port other ≡ false
    → lookup (names_port other) new ≡ lookup (names_port other) old
unfolding KeepsOthers
others_stay port other old new keeps apart = keeps (names_port other) (is_key_test other) (are_apart port other apart)

pub put : (port other : PortName) (value : ℕ) (old new : List (Key × ℕ)) → lookup (names_port port) new ≡ Some value
    → KeepsOthers same_key (names_port port) old new
    → lookup (names_port other) new ≡ cond (same_port port other) (Some value) (lookup (names_port other) old)
put port other value old new here keeps = step (same_port port other) refl
  where
    step : (same : Bool) → same_port port other ≡ same → lookup (names_port other) new ≡ cond same (Some value) (lookup (names_port other) old)
    step true is = ap (λ test. lookup test new) (sym (same_test port other is)) ∙ here
    step false is = others_stay port other old new keeps is

pub same_found : (port other : PortName) (old : List (Key × ℕ)) → same_port other port ≡ true → lookup (names_port port) old ≡ None
    → lookup (names_port other) old ≡ None
same_found port other old is none = ap (λ test. lookup test old) (same_test other port is) ∙ none

same_tests : (key : Key) (port : PortName) → key.0.now ≡ port.instance → key.1.now ≡ port.port → same_key key ≡ names_port port
same_tests key port instance_is port_is =
    ap (λ i. λ (other : Key). bytes_eq i other.0.now && bytes_eq key.1.now other.1.now) instance_is
    ∙ ap (λ p. λ (other : Key). bytes_eq port.instance other.0.now && bytes_eq p other.1.now) port_is

-- The same where the key has the names of the port.
pub put_key : (key : Key) (port other : PortName) (value : ℕ) (old new : List (Key × ℕ)) → key.0.now ≡ port.instance → key.1.now ≡ port.port
    → lookup (same_key key) new ≡ Some value → KeepsOthers same_key (same_key key) old new
    → lookup (names_port other) new ≡ cond (same_port port other) (Some value) (lookup (names_port other) old)
put_key key port other value old new instance_is port_is here keeps =
    let is = same_tests key port instance_is port_is in
    put port other value old new (ap (λ test. lookup test new) (sym is) ∙ here) (subst (λ test. KeepsOthers same_key test old new) is keeps)
