use Rattle.std.proofs.Common.{◌≡◌, ◌++◌, drop}
use Rattle.code_units.specs.StepLines.{lines_code}
use Rattle.code_pieces.specs.Pieces.{flat}
use Rattle.code_units.proofs.lines.+lines.Given as goal

abbrev pub invariant-lines_code-loop-line : goal.invariant-lines_code-loop-line
invariant-lines_code-loop-line l = flat (lines_code l.lines l.scope).piece ≡ l.code ++ flat (lines_code (drop l.line-index l.lines) l.scope).piece
