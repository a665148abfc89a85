-- The invariants of a plan.
use Rattle.std.specs.Prelude.{◌≡◌, ◌≤◌, ◌^◌, map}
use Rattle.std.specs.List.{AllZip}
use Rattle.model_rules.specs.Limits.{decimals_limit}
use Rattle.trace_csv.specs.Columns.{columns_of}
use Rattle.trace_plan.specs.Plans.{Planned, IsBounded, lowest_words, highest_words, limited_in}
use Rattle.trace_plan.specs.declared.fitting.Fitted.{Fitted}
use Rattle.trace_plan.specs.declared.numbers.Numbers.{Numbers}
use Rattle.trace_plan.specs.declared.plan.Plan.TheInside.{Inside}
use Rattle.unit_exec.specs.Images.{IsImageOf}
use Rattle.unit_tree.specs.Compositions.{Member, Composition, run_of}
use Rattle.unit_tree.specs.Routes.{IsOrderOf}
use Rattle.unit_tree.specs.WellFormed.{resolution_of}
use Rattle.unit_tree.specs.declared.system.System.{System}

abbrev pub planned : Inside → Planned
planned plan = record { system = plan.checked; run = run_of plan.checked }

-- An instance has what its member needs: the image of its component, its factor, from 1 to 10^9, and the lowest and highest
-- words of its inputs.
pub record IsFitted (member : Member) (fitted : Fitted) : Type 0 where
  pub image : IsImageOf member.component fitted.image.value
  pub factor : fitted.factor ≡ member.factor
  pub least : 1 ≤ fitted.factor
  pub coarsest : fitted.factor ≤ 10 ^ decimals_limit
  pub low : fitted.low.items ≡ lowest_words member
  pub high : fitted.high.items ≡ highest_words member

-- The numbers are those of a system's run, in its ticks.
pub record AreNumbersOf (system : System) (run : Composition) (numbers : Numbers) : Type 0 where
  pub resolution : numbers.resolution ≡ resolution_of system
  pub decimals : numbers.resolution ≤ decimals_limit
  pub stop : numbers.stop ≡ run.stop
  pub longest : numbers.longest ≡ run.longest
  pub zeros : numbers.zero_budget ≡ run.zero_budget
  pub rows : numbers.row_limit ≡ run.row_budget

pub record Keeps (plan : Inside) (run : Composition) : Type 0 where
  pub order : IsOrderOf run plan.order
  pub fitted : AllZip IsFitted run.members plan.fitted.items
  pub factors : plan.factors.items ≡ map (λ one. one.factor) plan.fitted.items
  pub limited : plan.limited.items ≡ limited_in run
  pub columns : plan.columns.items ≡ columns_of plan.checked
  pub numbers : AreNumbersOf plan.checked run plan.numbers
  pub bounded : IsBounded run

abbrev pub IsPlan : Inside → Type 0
IsPlan plan = Keeps plan (run_of plan.checked)
