-- The rules that are judged, each with its test by the place of a line.
use Rattle.std.specs.Prelude.{◌≡◌, ℕ, Bool, List, [], ◌∷◌, map, Option, Some, Result, Ok, Err, ⊤}
use Rattle.model_rules.specs.Numbers as numbers
use Rattle.model_rules.specs.declared.rule.Rule.{Rule}
use Rattle.model_rules.specs.declared.rule.Rule.TheVariants as rules
use Rattle.unit_check.specs.Counts.{exceeds_at}
use Rattle.unit_check.specs.Measures.{is_deep_at, is_dear_at}
use Rattle.unit_check.specs.Places.{redeclares_at, connects_again_at, repeats_at}
use Rattle.unit_check.specs.Ranges.{is_of_wrong_kind_at, is_out_of_range_at, mistimes_at}
use Rattle.unit_check.specs.Walks.{Test}
use Rattle.unit_check.specs.declared.checking.CheckFault.{CheckFault}
use Rattle.unit_check.specs.declared.checking.CheckFault.TheVariants as fault
use Rattle.unit_check.specs.declared.rules.SystemRule.{SystemRule}
use Rattle.unit_check.specs.declared.rules.SystemRule.TheVariants as by
use Rattle.unit_check.specs.declared.walk.Stop.{Stop}
use Rattle.unit_check.specs.declared.walk.Stop.TheVariants as stop
use Rattle.unit_tree.specs.Sites.{Site}
use Rattle.unit_tree.specs.WellFormed as well_formed
use Rattle.unit_tree.specs.WellFormed.{Refusal, rule, redeclares, misnames, is_of_wrong_kind, is_out_of_range, hides_need, connects_again, joins_other_types}
use Rattle.unit_tree.specs.WellFormed.{exceeds, has_deep_expression, costs_too_much, lacks_stop, mistimes, has_too_many_rows, assigns_read_only, lacks_instance}
use Rattle.unit_tree.specs.WellFormed.{repeats_itself, refusal_of}
use Rattle.unit_tree.specs.declared.system.System.{System}

-- The rule among all.
abbrev pub rule_of : SystemRule → Rule
rule_of by.NamesDiffer = rules.NamesDiffer
rule_of by.NamesAreDeclared = rules.NamesAreDeclared
rule_of by.KindsFit = rules.KindsFit
rule_of by.LiteralsFit = rules.LiteralsFit
rule_of by.NeedsAreNamed = rules.NeedsAreNamed
rule_of by.InputsConnectOnce = rules.InputsConnectOnce
rule_of by.EndsMatch = rules.EndsMatch
rule_of by.CountsFit = rules.CountsFit
rule_of by.DepthFits = rules.DepthFits
rule_of by.CostFits = rules.CostFits
rule_of by.StopIsThere = rules.StopIsThere
rule_of by.TimesAreTicks = rules.TimesAreTicks
rule_of by.RowsFit = rules.RowsFit
rule_of by.TargetsMayChange = rules.TargetsMayChange
rule_of by.InstanceIsThere = rules.InstanceIsThere
rule_of by.NothingRepeats = rules.NothingRepeats

-- Its number in a refusal.
abbrev pub number_of : SystemRule → ℕ
number_of some = numbers.number_of (rule_of some)

-- The test of a line that breaks the rule, as `WellFormed` has it for the number of the rule.
unfoldable pub breaks_of : SystemRule → System → Site → Bool
breaks_of by.NamesDiffer = redeclares
breaks_of by.NamesAreDeclared = λ system site. misnames system site.scope site.line
breaks_of by.KindsFit = is_of_wrong_kind
breaks_of by.LiteralsFit = is_out_of_range
breaks_of by.NeedsAreNamed = λ system site. hides_need site.scope site.line
breaks_of by.InputsConnectOnce = connects_again
breaks_of by.EndsMatch = λ system site. joins_other_types system site.line
breaks_of by.CountsFit = λ system site. exceeds system site.scope site.earlier site.line
breaks_of by.DepthFits = λ system site. has_deep_expression system site.scope site.line
breaks_of by.CostFits = λ system site. costs_too_much system site.scope site.line
breaks_of by.StopIsThere = λ system site. lacks_stop system site.line
breaks_of by.TimesAreTicks = λ system site. mistimes system site.line
breaks_of by.RowsFit = λ system site. has_too_many_rows system site.line
breaks_of by.TargetsMayChange = λ system site. assigns_read_only site.scope site.line
breaks_of by.InstanceIsThere = λ system site. lacks_instance system site.line
breaks_of by.NothingRepeats = repeats_itself

-- The rule, as `WellFormed` defines it.
abbrev pub defined : SystemRule → well_formed.Rule
defined some = rule (number_of some) (breaks_of some)

-- The same test, by the place of the line.
unfoldable pub test_of : SystemRule → System → Test
test_of by.NamesDiffer system scope place line = redeclares_at system scope place line
test_of by.NamesAreDeclared system scope place line = misnames system scope line
test_of by.KindsFit system scope place line = is_of_wrong_kind_at system scope line
test_of by.LiteralsFit system scope place line = is_out_of_range_at system scope line
test_of by.NeedsAreNamed system scope place line = hides_need scope line
test_of by.InputsConnectOnce system scope place line = connects_again_at system place line
test_of by.EndsMatch system scope place line = joins_other_types system line
test_of by.CountsFit system scope place line = exceeds_at system scope place line
test_of by.DepthFits system scope place line = is_deep_at scope line
test_of by.CostFits system scope place line = is_dear_at scope line
test_of by.StopIsThere system scope place line = lacks_stop system line
test_of by.TimesAreTicks system scope place line = mistimes_at system line
test_of by.RowsFit system scope place line = has_too_many_rows system line
test_of by.TargetsMayChange system scope place line = assigns_read_only scope line
test_of by.InstanceIsThere system scope place line = lacks_instance system line
test_of by.NothingRepeats system scope place line = repeats_at system scope place line

-- The rules, in the order in which they are judged.
abbrev pub all_rules : List SystemRule
all_rules =
    by.NamesDiffer ∷ by.NamesAreDeclared ∷ by.KindsFit ∷ by.LiteralsFit
    ∷ by.NeedsAreNamed ∷ by.InputsConnectOnce ∷ by.EndsMatch ∷ by.CountsFit
    ∷ by.DepthFits ∷ by.CostFits ∷ by.StopIsThere ∷ by.TimesAreTicks
    ∷ by.RowsFit ∷ by.TargetsMayChange ∷ by.InstanceIsThere ∷ by.NothingRepeats
    ∷ []

abbrev pub judged : List well_formed.Rule
judged = map defined all_rules

-- ---- The results of the code

-- The result of a walk, by the lines that break a rule: it reaches the end where there are none, and stops at the
-- first of them.
abbrev pub Says : Result ℕ Stop → List ℕ → Type 0
Says (Ok behind) lines = lines ≡ []
Says (Err (stop.At line)) lines = (others : List ℕ) × (lines ≡ line ∷ others)
Says (Err stop.Full) lines = ⊤

-- A fault is the refusal, or there is no memory.
abbrev pub Tells : CheckFault → Option Refusal → Type 0
Tells (fault.Line item number) refusal = refusal ≡ Some (record { by = number; at = item })
Tells fault.NoMemory refusal = ⊤

-- Why the system is refused.
abbrev pub IsFaultOf : System → CheckFault → Type 0
IsFaultOf system why = Tells why (refusal_of system)

-- A fault by one rule alone, by the lines that break it.
abbrev pub TellsRule : ℕ → List ℕ → CheckFault → Type 0
TellsRule number lines (fault.Line item by) = (by ≡ number) × ((others : List ℕ) × (lines ≡ item ∷ others))
TellsRule number lines fault.NoMemory = ⊤
