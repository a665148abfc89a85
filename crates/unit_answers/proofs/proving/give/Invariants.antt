use Rattle.std.proofs.Common.{◌≡◌, ◌++◌, take, drop}
use Rattle.unit_answers.proofs.proving.give.Given as goal

abbrev pub invariant-loop-input : goal.invariant-loop-input
invariant-loop-input l = l.unit ≡ record l.initial.unit { inputs = take l.input l.inputs ++ drop l.input l.initial.unit.inputs }
