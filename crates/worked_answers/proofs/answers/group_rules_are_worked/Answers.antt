use Rattle.std.proofs.Common.{ℕ, zero, suc, [], ◌∷◌, refl, inl, inr, sym, subst, arith}
use Rattle.unit_tree.specs.Ports.{IsAmong}
use Rattle.sub_flat.specs.Cycles.{ContainsItself, Leads, inner_places}
use Rattle.sub_flat.specs.NestRules.{BreaksNest, IsTooLarge}
use Rattle.worked_answers.specs.WorkedGroups.{NamesAreWorked, NestingIsWorked, PortsOfGroupsAreWorked, SizesAreWorked, around_another, in_a_row, one_with}
use Rattle.worked_answers.proofs.ManyInstances.{flat_is_printable}
use Rattle.worked_answers.proofs.answers.group_rules_are_worked.Goals as goal

names : NamesAreWorked
names = record {
  right = refl;
  name_of_unit = refl;
  name_of_group = refl;
  no_instance = refl;
  at_line = inl (refl, record { place = 0; group = _; there = refl; at = refl; breaks = refl });
}

-- ---- One group in another: from the inner one nothing leads on, and from the outer one the inner one alone.

from_inner : (count to : ℕ) → Leads (inner_places in_a_row) count 1 to → ⊥
from_inner zero to leads = leads
from_inner (suc count) to leads = leads.1

from_outer : (count : ℕ) → Leads (inner_places in_a_row) count 0 0 → ⊥
from_outer zero (inl same) = omega (arith, same)
from_outer zero (inr none) = none
from_outer (suc count) leads = behind leads.0 leads.1 leads.2
  where
    behind : (between : ℕ) → IsAmong (1 ∷ []) between → Leads (inner_places in_a_row) count between 0 → ⊥
    behind between (inl same) rest = from_inner count 0 (subst (λ place. Leads (inner_places in_a_row) count place 0) (sym same) rest)
    behind between (inr none) rest = none

from_none : (count place to : ℕ) → Leads (inner_places in_a_row) count (suc (suc place)) to → ⊥
from_none zero place to leads = leads
from_none (suc count) place to leads = leads.1

none_contains_itself : (place : ℕ) → ContainsItself in_a_row place → ⊥
none_contains_itself zero loop = from_outer loop.0 loop.1
none_contains_itself (suc zero) loop = from_inner loop.0 1 loop.1
none_contains_itself (suc (suc place)) loop = from_none loop.0 place (suc (suc place)) loop.1

rule_28_is_kept : (line : ℕ) → BreaksNest in_a_row line 28 → ⊥
rule_28_is_kept line (inl names) = omega (arith, names.0)
rule_28_is_kept line (inr (inl nesting)) = none_contains_itself nesting.1.place nesting.1.breaks
rule_28_is_kept line (inr (inr (inl ports))) = omega (arith, ports.0)
rule_28_is_kept line (inr (inr (inr size))) = omega (arith, size.0)

-- ---- A group around one that contains itself: from the inner one only itself is reached.

not_behind : (count between : ℕ) → IsAmong (1 ∷ []) between → (Leads (inner_places around_another) count 1 0 → ⊥)
    → Leads (inner_places around_another) count between 0 → ⊥
not_behind count between (inl same) never leads = never (subst (λ place. Leads (inner_places around_another) count place 0) (sym same) leads)
not_behind count between (inr none) never leads = none

never_outer : (count : ℕ) → Leads (inner_places around_another) count 1 0 → ⊥
never_outer zero (inl same) = omega (arith, same)
never_outer zero (inr none) = none
never_outer (suc count) leads = not_behind count leads.0 leads.1 (never_outer count) leads.2

outer_is_apart : (count : ℕ) → Leads (inner_places around_another) count 0 0 → ⊥
outer_is_apart zero leads = never_outer zero leads
outer_is_apart (suc count) leads = never_outer (suc count) leads

nesting : NestingIsWorked
nesting = record {
  itself = (0, inl refl);
  each_other = (1, (1, inl refl, inl refl));
  at_line = inr (inl (refl, record { place = 0; group = _; there = refl; at = refl; breaks = (1, (1, inl refl, inl refl)) }));
  kept = rule_28_is_kept;
  inner_alone = inr (inl (refl, record { place = 1; group = _; there = refl; at = refl; breaks = (0, inl refl) }));
  not_outer = λ loop. outer_is_apart loop.0 loop.1;
}

ports : PortsOfGroupsAreWorked
ports = record {
  right = refl;
  no_input = λ group is. rw is refl;
  an_output = λ group is. rw is refl;
  no_instance = λ group is. rw is refl;
  no_output = λ group is. rw is refl;
  out_twice = λ group is. rw is refl;
  in_twice = λ group is. rw is refl;
  main_right = refl;
  main_output = refl;
  main_input = refl;
  main_sample = refl;
  main_setting = refl;
  main_nobody = refl;
  at_main = inr (inr (inl (refl, inr (refl, refl))));
}

few_enough : IsTooLarge (one_with 64) → ⊥
few_enough (inl instances) = omega (arith, instances)
few_enough (inr (inl wires)) = omega (arith, wires)
few_enough (inr (inr not)) = not flat_is_printable

sizes : SizesAreWorked
sizes = record {
  at_limit = few_enough;
  above_limit = inl (omega arith);
  too_many = inl (omega arith);
  at_main = inr (inr (inr (refl, inl (omega arith), refl)));
}

pub returns : goal.returns
returns c = record { names = names; nesting = nesting; ports = ports; sizes = sizes }
