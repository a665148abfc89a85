use Rattle.std.proofs.Common.{rules}
use Rattle.code_units.proofs.ScopeLaws.{scope_made}
use Rattle.code_units.proofs.scope.CodeScope.new.Goals as goal

pub returns : goal.returns
returns c =
    scope_made c.args.unit.now c.args.params.now c.push_constants.new.names c.push_slots.new.names c.push_slots-2.new.names c.push_slots-3.new.names
    c.len-states.result c.len-inputs.result c.len-locals.result c.len-states.ensures c.len-inputs.ensures c.len-locals.ensures
    (search rules) (search rules) (search rules) (search rules)
