use Rattle.std.proofs.Common.{◌≡◌, drop}
use Rattle.unit_print.specs.Growing.{with_settings}
use Rattle.unit_print.proofs.printing.settings.Given as goal

abbrev pub invariant-loop-given : goal.invariant-loop-given
invariant-loop-given l = with_settings l.initial.text.items l.all ≡ with_settings l.text.items (drop l.given-index l.all)
