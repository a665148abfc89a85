-- Each rule's test by the place of a line is the one of the definitions, at every line of a system in range.
use Rattle.std.proofs.Common.{◌≡◌, true, ◌||◌, List, [], ◌∷◌, ◌++◌, refl, ap, sym, ◌∙◌, subst, append_assoc}
use Rattle.std.specs.List.{AllByRecursion}
use Rattle.unit_check.proofs.RepeatsByPlace.{redeclares_is, connects_is, repeats_is}
use Rattle.unit_check.proofs.BreakingLines.{says, broken_same}
use Rattle.unit_check.proofs.WalksOfParts.{system_goes}
use Rattle.unit_check.proofs.CountsByPlace.{InUnit, unit_agrees, exceeds_is}
use Rattle.unit_check.proofs.PlainMeasures.{depth_is, cost_is}
use Rattle.unit_check.proofs.RangedNumbers.{UnitInRange, units_in_range, literal_is, times_are, lines_in_range}
use Rattle.unit_check.proofs.SitePlaces.{all_two, Inside, inside_system, inside_instance, StandsInBlock, all_stand}
use Rattle.unit_check.proofs.SystemLines.{instance_block, whole, sites_are}
use Rattle.unit_check.specs.Rules.{Says, breaks_of, defined, test_of}
use Rattle.unit_check.specs.Walks.{test_at, system_walk}
use Rattle.unit_check.specs.declared.rules.SystemRule.{SystemRule}
use Rattle.unit_check.specs.declared.rules.SystemRule.TheVariants as by
use Rattle.unit_tree.specs.LineForms.{tail_of, tail_speaks_of_events}
use Rattle.unit_tree.specs.Printable.{IsRanged, IsInRange}
use Rattle.unit_tree.specs.Sites.{TopScope, InstanceScope, Site, Headed, sites, sites_of, holds}
use Rattle.unit_tree.specs.WellFormed.{lines_breaking, mistakes_kind, on_literal, is_misformed, is_beyond}
use Rattle.std.specs.Prelude.{◌==◌, ◌&&◌}
use Rattle.unit_tree.specs.declared.line_form.LineForm.{LineForm}
use Rattle.unit_tree.specs.declared.system.Instance.{Instance}
use Rattle.unit_tree.specs.declared.system.System.{System}
use Rattle.language_laws.proofs.BlockLaws.{stands_behind}
use Rattle.list_laws.proofs.Lists.{each_so as all_leads, each_append}

-- ---- What is known of every line

abbrev Held : Site → Type 0
Held site = holds site.scope site.line ≡ true

module _ (system : System) where
  all_cut : (before all : List Site) → sites_of system ≡ before ++ all → AllByRecursion Held all
  all_cut before [] cut = _
  all_cut before (site ∷ all) cut =
      ((stands_behind system before all site cut).held, all_cut (before ++ (site ∷ [])) all (cut ∙ sym (append_assoc before (site ∷ []) all)))

  all_held : AllByRecursion Held (sites_of system)
  all_held = all_cut [] (sites_of system) refl

  -- Nothing is known of lines outside units.
  outside : (earlier : List LineForm) (headed : List Headed) → Inside (InUnit system) headed → AllByRecursion (InUnit system) (sites TopScope earlier headed)
  outside earlier [] inside = _
  outside earlier (first ∷ others) inside = (
    _,
    each_append (InUnit system) first.block (sites TopScope (earlier ++ (first.head ∷ [])) others) inside.0
        (outside (earlier ++ (first.head ∷ [])) others inside.1),
  )

  in_instance : (instance : Instance) (earlier : List LineForm) (headed : List Headed) → Inside (InUnit system) headed
      → AllByRecursion (InUnit system) (sites (InstanceScope instance) earlier headed)
  in_instance instance earlier [] inside = _
  in_instance instance earlier (first ∷ others) inside = (
    _,
    each_append (InUnit system) first.block (sites (InstanceScope instance) (earlier ++ (first.head ∷ [])) others) inside.0
        (in_instance instance (earlier ++ (first.head ∷ [])) others inside.1),
  )

  all_in_units : AllByRecursion (InUnit system) (sites_of system)
  all_in_units =
      subst (AllByRecursion (InUnit system)) (sym (sites_are system))
      (outside [] (whole system)
      (inside_system (InUnit system) system (unit_agrees system)
      (λ instance. in_instance instance [] (instance_block instance) (inside_instance (InUnit system) instance))))

-- A line with what is known of it.
record Known (system : System) (site : Site) : Type 0 where
  stands : StandsInBlock system site
  held : Held site
  ranged : IsInRange site.line
  in_unit : InUnit system site

all_known : (system : System) → IsRanged system → AllByRecursion (Known system) (sites_of system)
all_known system ranged =
    let Both : Site → Type 0 = λ site. StandsInBlock system site × Held site in
    let Rest : Site → Type 0 = λ site. IsInRange site.line × InUnit system site in
    let both = all_two (StandsInBlock system) Held Both (λ site one other. (one, other)) (sites_of system) (all_stand system) (all_held system) in
    let rest =
    all_two (λ site. IsInRange site.line) (InUnit system) Rest (λ site one other. (one, other)) (sites_of system) (lines_in_range system ranged)
    (all_in_units system) in
    all_two Both Rest (Known system) (λ site one other. record { stands = one.0; held = one.1; ranged = other.0; in_unit = other.1 })
    (sites_of system) both rest

-- ---- The rules

abbrev Agrees : SystemRule → System → Site → Type 0
Agrees rule system site = test_at (test_of rule system) site ≡ breaks_of rule system site

agree_at : (rule : SystemRule) (system : System) → AllByRecursion UnitInRange system.units → (site : Site) → Known system site → Agrees rule system site
unfolding test_of breaks_of
agree_at by.NamesDiffer system units site known = redeclares_is system site.scope site.earlier site.line known.stands.rest known.stands.cut known.held
agree_at by.NamesAreDeclared system units site known = refl
agree_at by.KindsFit system units site known =
    ap (λ read. mistakes_kind site.scope site.line || (((system.version == 1) && tail_speaks_of_events (tail_of site.line)) || on_literal is_misformed read))
    (literal_is system units site.scope site.line known.ranged)
agree_at by.LiteralsFit system units site known = ap (on_literal is_beyond) (literal_is system units site.scope site.line known.ranged)
agree_at by.NeedsAreNamed system units site known = refl
agree_at by.InputsConnectOnce system units site known = connects_is system site.scope site.earlier site.line known.stands.rest known.stands.cut known.held
agree_at by.EndsMatch system units site known = refl
agree_at by.CountsFit system units site known = exceeds_is system site.scope site.earlier site.line known.stands.rest known.stands.cut known.held known.in_unit
agree_at by.DepthFits system units site known = depth_is system site.scope site.line
agree_at by.CostFits system units site known = cost_is system site.scope site.line
agree_at by.StopIsThere system units site known = refl
agree_at by.TimesAreTicks system units site known = times_are system units site.line known.ranged
agree_at by.RowsFit system units site known = refl
agree_at by.TargetsMayChange system units site known = refl
agree_at by.InstanceIsThere system units site known = refl
agree_at by.NothingRepeats system units site known = repeats_is system site.scope site.earlier site.line known.stands.rest known.stands.cut known.held

pub says_rule : (rule : SystemRule) (system : System) → IsRanged system
    → Says (system_walk (test_of rule system) system 1) (lines_breaking (defined rule) system)
says_rule rule system ranged =
    let along = system_goes (test_of rule system) system 1 in
    let agree =
    all_leads (Known system) (Agrees rule system) (agree_at rule system (units_in_range system ranged)) (sites_of system) (all_known system ranged) in
    let lines = broken_same (test_at (test_of rule system)) (breaks_of rule system) 1 (sites_of system) agree in
    let here = says (test_at (test_of rule system)) 1 (sites_of system) in
    rw along (rw lines at here)
