-- Scopes and ports that are compared are the same exactly where they are equal.
use Rattle.std.proofs.Common.{◌≡◌, ◌∙◌, ℕ, true, Option, Some, None, refl, ap, arith, bytes_eq}
use Rattle.std.specs.Prelude.{◌&&◌}
use Rattle.std.specs.Cmp.Lexicographic.{bytes_decides}
use Rattle.std.proofs.lemmas.Bool.{and_parts}
use Rattle.std.proofs.lemmas.Bool.Decides.{nat_tests}
use Rattle.nest_names.specs.Flattening.{same_group, same_spot}
use Rattle.nest_names.specs.declared.scope.GroupScope.{GroupScope}
use Rattle.nest_names.specs.declared.scope.Spot.{Spot}
use Rattle.unit_tree.specs.Names.{same_port}
use Rattle.unit_tree.specs.declared.system.PortName.{PortName}

group_is : (one other : Option ℕ) → same_group one other ≡ true → one ≡ other
group_is None None is = refl
group_is (Some one) (Some other) is = let same : one ≡ other = grind (arith, nat_tests, is) in ap (λ n. Some n) same
group_is None (Some other) is = absurd (cc)
group_is (Some one) None is = absurd (cc)

group_self : (one : Option ℕ) → same_group one one ≡ true
group_self None = refl
group_self (Some one) = grind (arith, nat_tests)

pub scope_is : (one other : GroupScope) → bytes_eq one.prefix other.prefix ≡ true → same_group one.group other.group ≡ true → one ≡ other
scope_is one other prefix group =
    let same = (bytes_decides one.prefix other.prefix).0 prefix in
    let both = group_is one.group other.group group in λ i. record { prefix = same i; group = both i }

pub scope_self : (one : GroupScope) → (bytes_eq one.prefix one.prefix && same_group one.group one.group) ≡ true
scope_self one =
    ap (λ told. told && same_group one.group one.group) ((bytes_decides one.prefix one.prefix).1 refl) ∙ group_self one.group

pub port_is : (one other : PortName) → same_port one other ≡ true → one ≡ other
port_is one other is =
    let both = and_parts (bytes_eq one.instance other.instance) (bytes_eq one.port other.port) is in
    let instance = (bytes_decides one.instance other.instance).0 both.0 in
    let port = (bytes_decides one.port other.port).0 both.1 in
    λ i. record { instance = instance i; port = port i }

pub spot_is : (one other : Spot) → same_spot one other ≡ true → one ≡ other
spot_is one other is =
    let group = same_group one.scope.group other.scope.group in
    let port = same_port one.port other.port in
    let prefix = and_parts (bytes_eq one.scope.prefix other.scope.prefix) (group && port) is in
    let rest = and_parts group port prefix.1 in
    let scopes = scope_is one.scope other.scope prefix.0 rest.0 in
    let ports = port_is one.port other.port rest.1 in λ i. record { scope = scopes i; port = ports i }

pub spot_self : (one : Spot) → same_spot one one ≡ true
spot_self one =
    ap (λ told. told && (same_group one.scope.group one.scope.group && same_port one.port one.port)) ((bytes_decides one.scope.prefix one.scope.prefix).1 refl)
    ∙ ap (λ told. told && same_port one.port one.port) (group_self one.scope.group)
    ∙ ap (λ told. told && bytes_eq one.port.port one.port.port) ((bytes_decides one.port.instance one.port.instance).1 refl)
    ∙ (bytes_decides one.port.port one.port.port).1 refl
