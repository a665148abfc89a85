-- Why a system has no plan.
use Rattle.std.specs.Prelude.{⊤}
use Rattle.trace_plan.specs.declared.fault.PlanFault.{PlanFault}
use Rattle.trace_plan.specs.declared.fault.PlanFault.TheVariants.{Loop, NoMemory}
use Rattle.unit_tree.specs.declared.system.System.{System}
use Rattle.wire_graph.specs.Faults.{IsRightFault}
use Rattle.wire_graph.specs.declared.fault.OrderFault.TheVariants as order

-- A loop is right where its numbers name the first output of the plain form without an order. Lack of memory is always allowed.
abbrev pub IsRightPlanFault : System → PlanFault → Type 0
IsRightPlanFault system (Loop instance output) = IsRightFault system (order.Loop instance output)
IsRightPlanFault system NoMemory = ⊤
