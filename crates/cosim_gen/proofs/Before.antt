-- The lines before the line of a component or of a connection.
use Rattle.std.proofs.Common.{◌≡◌, ℕ, ◌+◌, ◌<◌, false, List, [], ◌∷◌, refl, ap, sym, subst, arith}
use Rattle.std.specs.Prelude.{codes, ◌&&◌}
use Rattle.std.specs.List.{AllByRecursion, list_any}
use Rattle.std.specs.Str.{bytes_eq}
use Rattle.unit_tree.specs.Names.{same_port}
use Rattle.unit_tree.specs.declared.system.PortName.{PortName}
use Rattle.cosim_gen.specs.Generated.{name_in, port_in}
use Rattle.cosim_gen.proofs.Names.{other_name}

-- A name is that of a component before this place.
pub record NamedBefore (place : ℕ) (name : List ℕ) : Type 0 where
  pub at : ℕ
  pub before : at < place
  pub is : name ≡ name_in at

pub later_named : (place : ℕ) (name : List ℕ) → NamedBefore place name → NamedBefore (place + 1) name
later_named place name named = record { at = named.at; before = omega (arith, named.before); is = named.is }

pub not_said : (place : ℕ) (names : List (List ℕ)) → place < 64 → AllByRecursion (NamedBefore place) names → list_any (bytes_eq (name_in place)) names ≡ false
not_said place [] few all = refl
not_said place (name ∷ names) few all =
    let before = all.0.before in
    let other = other_name place all.0.at few (omega arith) (λ same. absurd (omega arith)) in
    let here : bytes_eq (name_in place) name ≡ false = subst (λ text. bytes_eq (name_in place) text ≡ false) (sym all.0.is) other in
    rw here (not_said place names few all.1)

-- A port is the input of a component before this place.
pub record FedBefore (place : ℕ) (port : PortName) : Type 0 where
  pub at : ℕ
  pub before : at < place
  pub is : port ≡ port_in at (codes "u")

pub later_fed : (place : ℕ) (port : PortName) → FedBefore place port → FedBefore (place + 1) port
later_fed place port fed = record { at = fed.at; before = omega (arith, fed.before); is = fed.is }

pub not_fed : (place : ℕ) (ports : List PortName) → place < 64 → AllByRecursion (FedBefore place) ports
    → list_any (same_port (port_in place (codes "u"))) ports ≡ false
not_fed place [] few all = refl
not_fed place (port ∷ ports) few all =
    let before = all.0.before in
    let other = other_name place all.0.at few (omega arith) (λ same. absurd (omega arith)) in
    let told : same_port (port_in place (codes "u")) (port_in all.0.at (codes "u")) ≡ false =
    ap (λ same. same && bytes_eq (codes "u") (codes "u")) other in
    let here : same_port (port_in place (codes "u")) port ≡ false =
    subst (λ one. same_port (port_in place (codes "u")) one ≡ false) (sym all.0.is) told in
    rw here (not_fed place ports few all.1)
