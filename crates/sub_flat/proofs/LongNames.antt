-- A system with too long a name of an instance has no canonical text.
use Rattle.std.proofs.Common.{◌≡◌, ◌<◌, ◌∷◌, ◌++◌, ℕ, List, [], Bool, true, false, inl, inr, length, map, refl, sym, subst, arith}
use Rattle.std.specs.Prelude.{◌||◌, nat_lt}
use Rattle.std.specs.List.{AllByRecursion, list_any}
use Rattle.std.proofs.lemmas.Bool.Decides.{nat_tests}
use Rattle.list_laws.proofs.Members.{Has, each_has, has_behind, has_front, has_map}
use Rattle.language_laws.proofs.BlockLaws.{canonical_are, parts_behind, unit_part}
use Rattle.language_laws.proofs.PlainNames.{has_flat}
use Rattle.unit_tree.specs.Canonical.{canonical_forms, canonical_parts}
use Rattle.unit_tree.specs.Parts as parts
use Rattle.unit_tree.specs.Parts.{part_forms}
use Rattle.unit_tree.specs.Printable.{IsPrintable, names_on}
use Rattle.unit_tree.specs.Tokens.{IsName, IsWord}
use Rattle.unit_tree.specs.declared.system.Instance.{Instance}
use Rattle.unit_tree.specs.declared.line_form.LineForm.TheVariants as form
use Rattle.unit_tree.specs.declared.system.System.{System}

instance_said : (system : System) (instance : Instance) → Has system.instances instance → Has (canonical_forms system) (form.Instance instance.name instance.unit)
instance_said system instance there =
    let line = form.Instance instance.name instance.unit in
    let units = map unit_part system.units in
    let instances = map parts.HasInstance system.instances in
    let part : Has (units ++ (instances ++ parts_behind system)) (parts.HasInstance instance) =
    has_behind units (instances ++ parts_behind system) (parts.HasInstance instance)
    (has_front instances (parts_behind system) (parts.HasInstance instance) (has_map parts.HasInstance system.instances instance there)) in
    let all = subst (λ those. Has those (parts.HasInstance instance)) (sym (canonical_are system)) part in
    inr (has_flat part_forms (canonical_parts system) (parts.HasInstance instance) line all (inl refl))

short : (name : List ℕ) → IsWord name → 32 < length name → ⊥
short [] word long = word
short (first ∷ others) word long = let less = word.2 in omega (arith, less, long)

long_there : (instances : List Instance) → list_any (λ instance. nat_lt 32 (length instance.name)) instances ≡ true
    → (instance : Instance) × Has instances instance × (32 < length instance.name)
long_there [] told = let never : false ≡ true = told in absurd (cc)
long_there (first ∷ others) told = by (long_there others) (nat_lt 32 (length first.name)) refl told
  where
    by : (list_any (λ instance. nat_lt 32 (length instance.name)) others ≡ true
        → (instance : Instance) × Has others instance × (32 < length instance.name))
        → (long : Bool) → nat_lt 32 (length first.name) ≡ long → (long || list_any (λ instance. nat_lt 32 (length instance.name)) others) ≡ true
        → (instance : Instance) × Has (first ∷ others) instance × (32 < length instance.name)
    by deeper true long is = (first, inl refl, grind (arith, nat_tests, long))
    by deeper false long is = let later = deeper is in (later.0, inr later.1, later.2)

pub long_names : (system : System) → list_any (λ instance. nat_lt 32 (length instance.name)) system.instances ≡ true → IsPrintable system → ⊥
long_names system told printable =
    let found = long_there system.instances told in
    let instance = found.0 in
    let line = form.Instance instance.name instance.unit in
    let names = each_has (λ said. AllByRecursion IsName (names_on said)) (canonical_forms system) line printable.names (instance_said system instance found.1) in
    short instance.name names.0.0 found.2
