-- One level of `follow`, and one level of `reach`.
use Rattle.std.proofs.Common.{◌≡◌, ℕ, zero, suc, ◌-◌, Bool, true, false, List, [], refl, ap, ◌∙◌, None, Some, arith, ◌<◌, ◌+◌, ◌++◌, ◌∷◌, length, map, drop, get_or, sym, append_assoc, bytes_eq}
use Rattle.std.specs.Prelude.{◌&&◌, if◌then◌else◌, slice_get}
use Rattle.std.specs.Cmp.Lexicographic.{nat_list_eq_equiv}
use Rattle.std.proofs.lemmas.List.{at_drop_more}
use Rattle.std.specs.List.{filter, flat_map, list_all, list_any}
use Rattle.std.specs.Option.{option_and_then, option_map, unwrap_or}
use Rattle.nest_text.specs.declared.nest.Bind.{Bind}
use Rattle.nest_text.specs.declared.nest.Group.{Group}
use Rattle.nest_text.specs.declared.nest.Nest.{Nest}
use Rattle.nest_names.specs.Tables.{items_at}
use Rattle.nest_names.proofs.NamedLists.{any_at, any_named}
use Rattle.nest_names.specs.Flattening.{binds_of, distinct, expand, follow, ins_in, inside, is_component, out_in, place_at, reach, same_group, same_spot, spot_in, step_down}
use Rattle.unit_tree.specs.declared.system.PortName.{PortName}
use Rattle.nest_names.specs.declared.scope.Below.{Below}
use Rattle.nest_names.specs.declared.scope.GroupScope.{GroupScope}
use Rattle.nest_names.specs.declared.scope.Spot.{Spot}

one_less : (depth : ℕ) → depth ≡ suc depth - 1
one_less depth = omega arith

pub step_some : (nest : Nest) (spot : Spot) (place : ℕ) (bind : Bind) → place_at nest spot.scope.group spot.port.instance ≡ Some place
    → out_in nest (inside spot.scope spot.port.instance place) spot.port.port ≡ Some bind
    → step_down nest spot ≡ Some (record { scope = inside spot.scope spot.port.instance place; port = bind.inner })
step_some nest spot place bind at is =
    ap
    (λ found. option_and_then (λ (scope : GroupScope). option_map (spot_in scope) (out_in nest scope spot.port.port))
    (option_map (inside spot.scope spot.port.instance) found)) at
    ∙ ap (option_map (spot_in (inside spot.scope spot.port.instance place))) is

-- The output that is one level below an output of a group.
abbrev pub below_in : GroupScope → PortName → Below → Spot
below_in scope port below = record { scope = inside scope port.instance below.place; port = below.line.now.inner }

pub follow_more : (nest : Nest) (depth : ℕ) (spot next : Spot) → (depth ≡ 0 → ⊥) → step_down nest spot ≡ Some next
    → follow nest depth spot ≡ follow nest (depth - 1) next
follow_more nest zero spot next some is = absurd (some refl)
follow_more nest (suc depth) spot next some is =
    ap (λ found. unwrap_or (option_map (follow nest depth) found) spot) is ∙ ap (λ less. follow nest less next) (one_less depth)

pub follow_here : (nest : Nest) (depth : ℕ) (spot : Spot) → step_down nest spot ≡ None → follow nest depth spot ≡ spot
follow_here nest zero spot none = refl
follow_here nest (suc depth) spot none = ap (λ found. unwrap_or (option_map (follow nest depth) found) spot) none

pub reach_more : (nest : Nest) (depth : ℕ) (spots : List Spot) → (depth ≡ 0 → ⊥) → list_all (is_component nest) spots ≡ false
    → reach nest depth spots ≡ reach nest (depth - 1) (distinct [] (flat_map (expand nest) spots))
reach_more nest zero spots some is = absurd (some refl)
reach_more nest (suc depth) spots some is =
    let next = distinct [] (flat_map (expand nest) spots) in
    ap (λ test. if test then spots else reach nest depth next) is ∙ ap (λ less. reach nest less next) (one_less depth)

-- The inner inputs of an input of a group.
pub expand_group : (nest : Nest) (spot : Spot) (place : ℕ) → place_at nest spot.scope.group spot.port.instance ≡ Some place
    → expand nest spot
    ≡ map (spot_in (inside spot.scope spot.port.instance place))
    (filter (λ bind. bytes_eq bind.port spot.port.port) (binds_of nest (λ (group : Group). group.ins) (Some place)))
expand_group nest spot place at =
    ap
    (λ found. unwrap_or (option_map (λ (scope : GroupScope). map (spot_in scope) (ins_in nest scope spot.port.port))
    (option_map (inside spot.scope spot.port.instance) found)) (spot ∷ [])) at

-- ---- Ports that are kept once

and_false : (one : Bool) → (one && false) ≡ false
and_false true = refl
and_false false = refl

other_port : (one other : Spot) → bytes_eq other.port.port one.port.port ≡ false → same_spot one other ≡ false
other_port one other apart =
    let port : bytes_eq one.port.port other.port.port ≡ false = nat_list_eq_equiv.symm one.port.port other.port.port ∙ apart in
    ap (λ same. bytes_eq one.scope.prefix other.scope.prefix && (same_group one.scope.group other.scope.group
    && (bytes_eq one.port.instance other.port.instance && same))) port
    ∙ ap (λ same. bytes_eq one.scope.prefix other.scope.prefix && (same_group one.scope.group other.scope.group && same))
    (and_false (bytes_eq one.port.instance other.port.instance))
    ∙ ap (λ same. bytes_eq one.scope.prefix other.scope.prefix && same) (and_false (same_group one.scope.group other.scope.group))
    ∙ and_false (bytes_eq one.scope.prefix other.scope.prefix)

-- A port is kept where it is among those with its name.
pub kept_told : (one : Spot) (spots kept : List Spot) (places : List ℕ) (told : Bool)
    → told ≡ list_any (λ place. unwrap_or (option_map (same_spot one) (slice_get spots place)) false) places
    → items_at spots places ≡ filter (λ spot. bytes_eq spot.port.port one.port.port) kept → told ≡ list_any (same_spot one) kept
kept_told one spots kept places told is named =
    is ∙ any_at (same_spot one) spots places ∙ ap (list_any (same_spot one)) named
    ∙ any_named (same_spot one) (λ (spot : Spot). bytes_eq spot.port.port one.port.port) (other_port one) kept

distinct_next : (kept spots : List Spot) (place : ℕ) (one : Spot) → place < length spots → one ≡ get_or spots place one
    → kept ++ distinct kept (drop place spots) ≡ kept ++ distinct kept (one ∷ drop (place + 1) spots)
distinct_next kept spots place one within is =
    at_drop_more (λ rest. kept ++ distinct kept rest) spots place one within
    ∙ ap (λ first. kept ++ distinct kept (first ∷ drop (place + 1) spots)) (sym is)

pub distinct_kept : (kept spots all : List Spot) (place : ℕ) (one : Spot) → place < length spots → one ≡ get_or spots place one
    → list_any (same_spot one) kept ≡ true → kept ++ distinct kept (drop place spots) ≡ all
    → kept ++ distinct kept (drop (place + 1) spots) ≡ all
distinct_kept kept spots all place one within is told so_far =
    let rest = drop (place + 1) spots in
    sym (distinct_next kept spots place one within is
    ∙ ap (λ test. kept ++ (if test then distinct kept rest else (one ∷ distinct (kept ++ (one ∷ [])) rest))) told)
    ∙ so_far

pub distinct_new : (kept kept' spots all : List Spot) (place : ℕ) (one : Spot) → place < length spots → one ≡ get_or spots place one
    → list_any (same_spot one) kept ≡ false → kept' ≡ kept ++ (one ∷ []) → kept ++ distinct kept (drop place spots) ≡ all
    → kept' ++ distinct kept' (drop (place + 1) spots) ≡ all
distinct_new kept kept' spots all place one within is told more so_far =
    let rest = drop (place + 1) spots in
    ap (λ now. now ++ distinct now rest) more ∙ append_assoc kept (one ∷ []) (distinct (kept ++ (one ∷ [])) rest)
    ∙ sym (distinct_next kept spots place one within is
    ∙ ap (λ test. kept ++ (if test then distinct kept rest else (one ∷ distinct (kept ++ (one ∷ [])) rest))) told)
    ∙ so_far
