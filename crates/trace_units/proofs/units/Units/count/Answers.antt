use Rattle.trace_units.proofs.FleetCalls.{states_had, inputs_had}
use Rattle.trace_units.proofs.units.Units.count.Goals as goal

pub returns-clause-states : goal.returns-clause-states
returns-clause-states c = states_had c.self.inside.plan.value c.self.inside.list.items c.args.self.now c.self.view_is c.self.invariant.members

pub returns-clause-inputs : goal.returns-clause-inputs
returns-clause-inputs c = inputs_had c.self.inside.plan.value c.self.inside.list.items c.args.self.now c.self.view_is c.self.invariant.members
