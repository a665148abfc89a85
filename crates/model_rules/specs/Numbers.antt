-- The number of each rule in a refusal.
use Rattle.std.specs.Prelude.{ℕ}
use Rattle.model_rules.specs.declared.rule.Rule.{Rule}
use Rattle.model_rules.specs.declared.rule.Rule.TheVariants as rule

abbrev pub number_of : Rule → ℕ
number_of rule.BytesAreAllowed = 1
number_of rule.TextFits = 2
number_of rule.LineFits = 3
number_of rule.LineHasForm = 4
number_of rule.LineIsInPlace = 5
number_of rule.BlocksAreClosed = 6
number_of rule.HeaderIsThere = 7
number_of rule.NamesDiffer = 8
number_of rule.NamesAreDeclared = 9
number_of rule.KindsFit = 10
number_of rule.LiteralsFit = 11
number_of rule.NeedsAreNamed = 12
number_of rule.InputsConnectOnce = 13
number_of rule.EndsMatch = 14
number_of rule.OutputsHaveOrder = 15
number_of rule.CountsFit = 16
number_of rule.DepthFits = 17
number_of rule.CostFits = 18
number_of rule.StopIsThere = 19
number_of rule.TimesAreTicks = 20
number_of rule.RowsFit = 21
number_of rule.TargetsMayChange = 22
number_of rule.InstanceIsThere = 23
number_of rule.NothingRepeats = 24
number_of rule.PartHoldsLine = 26
number_of rule.GroupIsNamed = 27
number_of rule.GroupsEnd = 28
number_of rule.GroupPortsAreThere = 29
number_of rule.FlatSystemFits = 30
number_of rule.RowIsThere = 31
number_of rule.PositionIsThere = 32
number_of rule.PositionFits = 33
number_of rule.NodesFit = 34
number_of rule.TraceIsThere = 35
number_of rule.TableHasForm = 36
number_of rule.UpgradeFits = 37
