-- The test that a walk makes of each line.
use Rattle.std.specs.Prelude.{Some}
use Rattle.unit_check.specs.Rules.{test_of}
use Rattle.unit_check.specs.Walks.{Test}
use Rattle.unit_check.specs.declared.question.Question.{Question}
use Rattle.unit_check.specs.declared.question.Question.TheVariants.{Breaks, Declares}
use Rattle.unit_tree.specs.Orders.{declares_output}
use Rattle.unit_tree.specs.declared.system.System.{System}

-- The test of a question: whether the line breaks the rule, or declares the output in the unit.
abbrev pub asked_of : Question → System → Test
asked_of (Breaks rule) system = test_of rule system
asked_of (Declares unit output) system = λ scope place line. declares_output output.now (Some unit.now) scope line
