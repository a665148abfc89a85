-- The upgrade of a system has no cycle where the system has none, and its plain form runs as that of the system.
use Rattle.std.proofs.Common.{◌≡◌, ℕ, ◌==◌, Bool, true, false, cond, List, [], ◌∷◌, ◌++◌, map, filter_map, length, Option, Some, None}
use Rattle.std.proofs.Common.{refl, sym, ap, subst, ◌∙◌, arith, unwrap_or, option_map, ◌↔◌}
use Rattle.std.proofs.lemmas.Bool.Decides.{nat_tests}
use Rattle.event_runs.specs.EventPorts.{EventMember}
use Rattle.event_runs.specs.EventRuns.{IsEventTraceOf, event_members_of, event_run_of, feed_from, with_feeds}
use Rattle.event_runs.specs.EventTrace.{EventRow, EventRun, IsEventTrace, event_rows_of}
use Rattle.super_time.specs.declared.point.Point.{Point}
use Rattle.model_rules.specs.Limits.{default_zeros}
use Rattle.unit_tree.specs.Compositions.{InputSource, Member, component_with, default_rows, factor_of, member_with}
use Rattle.unit_tree.specs.Compositions.{source_from, stop_of, ticks_or}
use Rattle.unit_tree.specs.Names.{unit_of_instance}
use Rattle.unit_tree.specs.Orders.{HasNoCycle, IsOrderlyAfter, port_of, sources_of}
use Rattle.unit_tree.specs.WellFormed.{resolution_of}
use Rattle.unit_tree.specs.declared.ending.Ending.{Ending}
use Rattle.unit_tree.specs.declared.system.Instance.{Instance}
use Rattle.unit_tree.specs.declared.system.PortName.{PortName}
use Rattle.unit_tree.specs.declared.system.System.{System}
use Rattle.unit_tree.specs.declared.unit.EventIn.{EventIn}
use Rattle.unit_tree.specs.declared.unit.Input.{Input}
use Rattle.unit_tree.specs.declared.unit.Unit.{Unit}
use Rattle.unit_upgrade.specs.Laws.{UpgradesAreOfVersion2, UpgradesAreTheirOwn, UpgradesHaveNoCycle, UpgradesRunTheSame}
use Rattle.unit_upgrade.specs.Upgrades.{in_version_2, upgraded}

is_first : (version : ℕ) → (version == 1) ≡ true → version ≡ 1
is_first version told = grind (arith, nat_tests)

module _ (system : System) where
  abbrev changed : System
  changed = in_version_2 system

  -- ---- Orders

  orderly : (before order : List PortName) → IsOrderlyAfter system before order → IsOrderlyAfter changed before order
  orderly before [] is = tt
  orderly before (port ∷ later) is = (is.0, is.1, is.2, orderly (before ++ (port ∷ [])) later is.3)

  no_cycle : HasNoCycle system → HasNoCycle changed
  no_cycle has = (has.0, orderly [] has.0 has.1, has.2)

  -- ---- Members

  source_same : (input : Input) (given : List PortName) → source_from changed input given ≡ source_from system input given
  source_same input [] = refl
  source_same input (port ∷ others) = refl

  member_same : (instance : Instance) (unit : Option Unit) → member_with changed instance unit ≡ member_with system instance unit
  member_same instance None = refl
  member_same instance (Some unit) =
      ap (λ (source : Input → InputSource). Some (record {
        component = component_with instance.settings unit;
        factor = factor_of system unit;
        sources = map source unit.inputs;
      })) (λ i input. source_same input (sources_of system (port_of instance input.name)) i)

  feed_same : (given : List PortName) → feed_from changed given ≡ feed_from system given
  feed_same [] = refl
  feed_same (port ∷ others) = refl

  feeds_same : (instance : Instance) (member : Member) → with_feeds changed instance member ≡ with_feeds system instance member
  feeds_same instance member =
      ap (λ (feed : EventIn → Option ℕ). record { member = member; feeds = map feed member.component.unit.events_in })
      (λ i event. feed_same (sources_of system (port_of instance event.name)) i)

  abbrev member_in : System → Instance → Option EventMember
  member_in given instance = option_map (with_feeds given instance) (member_with given instance (unit_of_instance given instance))

  one_same : (instance : Instance) → member_in changed instance ≡ member_in system instance
  one_same instance =
      ap (λ (feeds : Member → EventMember). option_map feeds (member_with changed instance (unit_of_instance system instance)))
      (λ i member. feeds_same instance member i)
      ∙ ap (option_map (with_feeds system instance)) (member_same instance (unit_of_instance system instance))

  members_same : event_members_of changed ≡ event_members_of system
  members_same = ap (λ (member : Instance → Option EventMember). filter_map member system.instances) (λ i instance. one_same instance i)

  -- ---- Runs

  -- The run, by its members and its budgets.
  abbrev run_with : List EventMember → ℕ → ℕ → EventRun
  run_with members zeros rows = record {
    members = members;
    pace = record {
      stop = stop_of system;
      longest = ticks_or (stop_of system) (resolution_of system) system.longest;
      zero_budget = zeros;
      row_budget = rows;
      factors = map (λ (one : EventMember). one.member.factor) members;
    };
  }

  abbrev run_by : List EventMember → ℕ → EventRun
  run_by members version =
      run_with members (unwrap_or system.zero (default_zeros version)) (unwrap_or system.rows (default_rows version (length system.instances)))

  run_same : system.version ≡ 1 → event_run_of changed ≡ event_run_of system
  run_same first = ap (λ members. run_by members 1) members_same ∙ ap (run_by (event_members_of system)) (sym first)

  told_too : (one other : System) → event_run_of one ≡ event_run_of other → (rows : List EventRow) (last : Point) (ending : Ending)
      → IsEventTraceOf one rows last ending → IsEventTraceOf other rows last ending
  told_too one other same rows last ending of = record {
    stands = of.stands;
    trace = subst (λ (run : EventRun). IsEventTrace run of.stands ending) same of.trace;
    rows_are = of.rows_are ∙ ap (λ (run : EventRun). event_rows_of run of.stands) same;
    last_is = of.last_is;
  }

-- ---- The laws

pub upgrades_have_no_cycle : UpgradesHaveNoCycle
upgrades_have_no_cycle system has = by (system.version == 1)
  where
    by : (first : Bool) → HasNoCycle (cond first (in_version_2 system) system)
    by true = no_cycle system has
    by false = has

pub upgrades_are_of_version_2 : UpgradesAreOfVersion2
upgrades_are_of_version_2 system ranged = by (system.version == 1) refl
  where
    by : (first : Bool) → (system.version == 1) ≡ first → (cond first (in_version_2 system) system).version ≡ 2
    by true is = refl
    by false is = grind (arith, nat_tests, ranged.version.0, ranged.version.1)

pub upgrades_are_their_own : UpgradesAreTheirOwn
upgrades_are_their_own system = by (system.version == 1) refl
  where
    by : (first : Bool) → (system.version == 1) ≡ first → upgraded (cond first (in_version_2 system) system) ≡ cond first (in_version_2 system) system
    by true is = refl
    by false is = ap (λ told. cond told (in_version_2 system) system) is

pub upgrades_run_the_same : UpgradesRunTheSame
upgrades_run_the_same system rows last ending = by (system.version == 1) refl
  where
    by : (first : Bool) → (system.version == 1) ≡ first
        → IsEventTraceOf (cond first (in_version_2 system) system) rows last ending ↔ IsEventTraceOf system rows last ending
    by true is =
        let same = run_same system (is_first system.version is) in (
          told_too system (in_version_2 system) system same rows last ending,
          told_too system system (in_version_2 system) (sym same) rows last ending,
        )
    by false is = (λ of. of, λ of. of)
