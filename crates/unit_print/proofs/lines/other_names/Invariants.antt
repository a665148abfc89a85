use Rattle.std.proofs.Common.{◌≡◌, drop}
use Rattle.unit_print.specs.Growing.{with_tokens, others_tokens}
use Rattle.unit_print.proofs.lines.other_names.Given as goal

abbrev pub invariant-loop-other : goal.invariant-loop-other
invariant-loop-other l = with_tokens l.initial.text.items (others_tokens l.names) ≡ with_tokens l.text.items (others_tokens (drop l.other-index l.names))
