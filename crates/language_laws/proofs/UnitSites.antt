-- The lines of a unit of a system that is in range and well-formed, with what the rules state of each.
use Rattle.std.proofs.Common.{◌≡◌, ℕ, zero, suc, false, List, [], ◌∷◌, ◌++◌, map, Some, slice_get, sym, subst}
use Rattle.std.specs.List.{AllByRecursion, flat_map}
use Rattle.unit_tree.specs.Canonical.{unit_parts}
use Rattle.unit_tree.specs.Printable.{IsRanged, IsInRange, names_on}
use Rattle.unit_tree.specs.Sites.{TopScope, UnitScope, Site, alone, headed_unit_part, headed_part, sites_of}
use Rattle.unit_tree.specs.Tokens.{IsWord}
use Rattle.unit_tree.specs.WellFormed.{IsWellFormed, redeclares, misnames, is_of_wrong_kind, exceeds, has_deep_expression, costs_too_much, assigns_read_only}
use Rattle.unit_tree.specs.declared.line_form.LineForm.{LineForm}
use Rattle.unit_tree.specs.declared.line_form.LineForm.TheVariants as form
use Rattle.unit_tree.specs.declared.system.System.{System}
use Rattle.unit_tree.specs.declared.unit.Unit.{Unit}
use Rattle.language_laws.proofs.NameLaws.{all_keep, said, said_units, kept_parts, Hold, hold_all, hold_front}
use Rattle.language_laws.proofs.PartLaws.{unit_is}
use Rattle.language_laws.proofs.SiteLaws.{line_at, sites_are}

-- A line keeps the rules on names, kinds, numbers, depths, costs and targets, is in range, and its names are words.
pub record Passes (system : System) (site : Site) : Type 0 where
  pub fresh : redeclares system site ≡ false
  pub named : misnames system site.scope site.line ≡ false
  pub kinded : is_of_wrong_kind system site ≡ false
  pub few : exceeds system site.scope site.earlier site.line ≡ false
  pub low : has_deep_expression system site.scope site.line ≡ false
  pub cheap : costs_too_much system site.scope site.line ≡ false
  pub writable : assigns_read_only site.scope site.line ≡ false
  pub in_range : IsInRange site.line
  pub words : AllByRecursion IsWord (names_on site.line)

abbrev Each : (Site → Type 0) → List Site → Type 0
Each P all = AllByRecursion P all

unmapped : (Q : LineForm → Type 0) (all : List Site) → AllByRecursion Q (map line_at all) → AllByRecursion (λ site. Q site.line) all
unmapped Q [] each = tt
unmapped Q (site ∷ all) each = (each.0, unmapped Q all each.1)

together : (system : System) (all : List Site) → Each (λ site. redeclares system site ≡ false) all
    → Each (λ site. misnames system site.scope site.line ≡ false) all → Each (λ site. is_of_wrong_kind system site ≡ false) all
    → Each (λ site. exceeds system site.scope site.earlier site.line ≡ false) all → Each (λ site. has_deep_expression system site.scope site.line ≡ false) all
    → Each (λ site. costs_too_much system site.scope site.line ≡ false) all → Each (λ site. assigns_read_only site.scope site.line ≡ false) all
    → Each (λ site. IsInRange site.line) all → Each (λ site. AllByRecursion IsWord (names_on site.line)) all → Each (Passes system) all
together system [] a b c d e f g h i = tt
together system (site ∷ all) a b c d e f g h i = (
  record { fresh = a.0; named = b.0; kinded = c.0; few = d.0; low = e.0; cheap = f.0; writable = g.0; in_range = h.0; words = i.0 },
  together system all a.1 b.1 c.1 d.1 e.1 f.1 g.1 h.1 i.1,
)

pub all_pass : (system : System) → IsRanged system → IsWellFormed system → AllByRecursion (Passes system) (sites_of system)
all_pass system ranged kept =
    together system (sites_of system) (all_keep (redeclares system) 1 (sites_of system) kept.0)
    (all_keep (λ site. misnames system site.scope site.line) 1 (sites_of system) kept.1.0)
    (all_keep (is_of_wrong_kind system) 1 (sites_of system) kept.1.1.0)
    (all_keep (λ site. exceeds system site.scope site.earlier site.line) 1 (sites_of system) kept.1.1.1.1.1.1.1.0)
    (all_keep (λ site. has_deep_expression system site.scope site.line) 1 (sites_of system) kept.1.1.1.1.1.1.1.1.0)
    (all_keep (λ site. costs_too_much system site.scope site.line) 1 (sites_of system) kept.1.1.1.1.1.1.1.1.1.0)
    (all_keep (λ site. assigns_read_only site.scope site.line) 1 (sites_of system) kept.1.1.1.1.1.1.1.1.1.1.1.1.1.0)
    (unmapped IsInRange (sites_of system) (subst (AllByRecursion IsInRange) (sym (sites_are system)) ranged.numbers))
    (unmapped (λ line. AllByRecursion IsWord (names_on line)) (sites_of system)
    (subst (AllByRecursion (λ line. AllByRecursion IsWord (names_on line))) (sym (sites_are system)) ranged.names))

-- The lines of a unit, except its first one and its `end`.
abbrev pub UnitHolds : (Site → Type 0) → Unit → Type 0
UnitHolds P unit = Hold P (UnitScope unit) [] (flat_map (headed_unit_part unit) (unit_parts unit))

module _ (P : Site → Type 0) where
  unit_at : (units : List Unit) (earlier : List LineForm) → Hold P TopScope earlier (flat_map headed_part (said_units units)) → (number : ℕ) (unit : Unit)
      → slice_get units number ≡ Some unit → UnitHolds P unit
  unit_at [] earlier hold number unit is = absurd (cc)
  unit_at (first ∷ units) earlier hold zero unit is =
      let same : first ≡ unit = cc in
      let whole = hold_all P (UnitScope (said first)) [] (flat_map (headed_unit_part (said first)) (unit_parts first) ++ (alone form.End ∷ [])) hold.1 in
      let inside = hold_front P (UnitScope (said first)) [] (flat_map (headed_unit_part (said first)) (unit_parts first)) (alone form.End ∷ []) whole in
      subst (UnitHolds P) same (subst (λ (u : Unit). Hold P (UnitScope u) [] (flat_map (headed_unit_part u) (unit_parts first))) (unit_is first) inside)
  unit_at (first ∷ units) earlier hold (suc number) unit is = unit_at units (earlier ++ (form.Unit first.name ∷ [])) hold.2 number unit is

pub unit_passes : (system : System) → IsRanged system → IsWellFormed system → (number : ℕ) (unit : Unit) → slice_get system.units number ≡ Some unit
    → UnitHolds (Passes system) unit
unit_passes system ranged well number unit is =
    unit_at (Passes system) system.units (form.Header system.version ∷ [])
    (kept_parts (Passes system) system (all_pass system ranged well)).units number unit is
