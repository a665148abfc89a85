use Rattle.std.proofs.Common.{◌≡◌, ◌<◌, length, true, rules}
use Rattle.std.specs.Str.{bytes_eq}
use Rattle.trace_plan.proofs.FittingLaws.{named_here}
use Rattle.trace_plan.proofs.fitting.number_of.Goals as goal

pub returns-then-eq-clause-some : goal.returns-then-eq-clause-some
returns-then-eq-clause-some c =
    let units = c.args.units.now in
    let name = c.args.name.now in
    let within : c.loop-number.number < length units = search rules in
    let named : bytes_eq c.index-units-number.result.name name ≡ true = search rules in
    named_here units name c.loop-number.number c.index-units-number.result within c.index-units-number.is c.loop-number.invariant named
