-- The flat system of a nest that breaks no rule of groups is printable, and so in range.
use Rattle.std.proofs.Common.{◌≡◌, ℕ, ◌≤◌, Bool, true, false, inr, refl, arith}
use Rattle.std.specs.Prelude.{nat_lt}
use Rattle.unit_tree.specs.Printable.{IsPrintable, IsRanged}
use Rattle.unit_tree.specs.declared.system.System.{System}
use Rattle.unit_print.proofs.PrintableLaws.{printable_passes, printable_told}
use Rattle.nest_text.specs.declared.nest.Nest.{Nest}
use Rattle.nest_names.specs.Flattening.{flat_of}
use Rattle.sub_flat.specs.NestRules.{BreaksNest}
use Rattle.list_laws.proofs.Truths.{lt_told, lt_not_told}
use Rattle.nest_runs.specs.SoundNests.{IsSound}

-- A test holds where it can't fail.
test_holds : (told : Bool) → ((told ≡ true → ⊥) → ⊥) → told ≡ true
test_holds true kept = refl
test_holds false kept = absurd (kept (λ is. absurd (cc)))

most_holds : (count limit : ℕ) → ((count ≤ limit → ⊥) → ⊥) → count ≤ limit
most_holds count limit kept = by (nat_lt limit count) refl
  where
    by : (told : Bool) → nat_lt limit count ≡ told → count ≤ limit
    by true told = let more = lt_told limit count told in absurd (kept (λ most. omega (arith, more, most)))
    by false told = lt_not_told limit count told

printable_holds : (system : System) → ((IsPrintable system → ⊥) → ⊥) → IsPrintable system
printable_holds system kept = printable_told system (record {
  lines = test_holds _ (λ fails. kept (λ printable. fails (printable_passes system printable).lines));
  blocks = test_holds _ (λ fails. kept (λ printable. fails (printable_passes system printable).blocks));
  text = most_holds _ _ (λ fails. kept (λ printable. fails (printable_passes system printable).text));
  short = test_holds _ (λ fails. kept (λ printable. fails (printable_passes system printable).short));
})

pub flat_printable : (nest : Nest) → ((line rule : ℕ) → BreaksNest nest line rule → ⊥) → IsPrintable (flat_of nest)
flat_printable nest unbroken = printable_holds (flat_of nest) (λ not. unbroken nest.main_line 30 (inr (inr (inr (refl, inr (inr not), refl)))))

pub flat_ranged : (nest : Nest) → IsSound nest → IsRanged (flat_of nest)
flat_ranged nest sound = (flat_printable nest sound.unbroken).ranged
