-- The budgets of an upgrade are in their ranges.
use Rattle.std.proofs.Common.{◌≡◌, ℕ, ◌*◌, ◌/◌, ◌≤◌, false, List, [], ◌∷◌, length, Option, Some, None, refl, arith}
use Rattle.std.proofs.Common.{div-mul-le_self, mul-le-mul_right, nat_lt, unwrap_or}
use Rattle.std.proofs.lemmas.Bool.Decides.{nat_tests}
use Rattle.std.proofs.lemmas.Nat.{le-div}
use Rattle.trace_plan.proofs.SystemLines.{few_instances, instance_there, row_count, zero_count}
use Rattle.model_rules.specs.Limits.{default_zeros}
use Rattle.unit_tree.specs.Compositions.{default_rows}
use Rattle.unit_tree.specs.Printable.{IsRanged}
use Rattle.unit_tree.specs.WellFormed.{IsWellFormed}
use Rattle.unit_tree.specs.declared.system.Instance.{Instance}
use Rattle.unit_tree.specs.declared.system.System.{System}

-- Rows and instances: the default divides the greatest number of rows.
pub default_shares : (instances : ℕ) → nat_lt 1000000 (default_rows 1 instances * instances) ≡ false
default_shares instances = by (default_rows 1 instances * instances) shared
  where
    shared : default_rows 1 instances * instances ≤ 1000000
    shared =
        let low : default_rows 1 instances ≤ 1000000 / instances = omega arith in
        omega (arith, mul-le-mul_right instances low, div-mul-le_self 1000000 instances)

    by : (all : ℕ) → all ≤ 1000000 → nat_lt 1000000 all ≡ false
    by all few = grind (arith, nat_tests)

module _ (system : System) where
  pub some_instance : IsWellFormed system → 1 ≤ length system.instances
  some_instance kept = by system.instances refl
    where
      by : (instances : List Instance) → system.instances ≡ instances → 1 ≤ length instances
      by [] is = let there = instance_there system kept in absurd (cc)
      by (instance ∷ instances) is = omega arith

  pub zeros_low : IsRanged system → unwrap_or system.zero (default_zeros 1) ≤ 10000
  zeros_low ranged = by system.zero refl
    where
      by : (given : Option ℕ) → system.zero ≡ given → unwrap_or given (default_zeros 1) ≤ 10000
      by None is = omega arith
      by (Some count) is = zero_count system ranged count is

  abbrev default : ℕ
  default = default_rows 1 (length system.instances)

  pub rows_between : IsRanged system → IsWellFormed system → (1 ≤ unwrap_or system.rows default) × (unwrap_or system.rows default ≤ 100000)
  rows_between ranged kept = by system.rows refl
    where
      shared : 1 ≤ 1000000 / length system.instances
      shared = le-div 1 1000000 (length system.instances) (omega (arith, some_instance kept)) (omega (arith, few_instances system kept))

      by : (given : Option ℕ) → system.rows ≡ given → (1 ≤ unwrap_or given default) × (unwrap_or given default ≤ 100000)
      by None is = (omega (arith, shared), omega arith)
      by (Some count) is = row_count system ranged count is
