use Rattle.std.proofs.Common.{◌≡◌, take}
use Rattle.port_solve.specs.Solved.{ports_told}
use Rattle.port_solve.specs.Steps.{IsFirst}
use Rattle.port_solve.proofs.Fronts.{IsFront}
use Rattle.port_solve.proofs.solving.work_out_all.Given as goal
use Rattle.unit_tree.specs.Compositions.{run_of}
use Rattle.unit_tree.specs.Ports.{Ports, IsAssignment}

abbrev pub invariant-loop-place : goal.invariant-loop-place
invariant-loop-place g l = record {
  front : (right : Ports) → IsAssignment (run_of (g.G.Gets.system l.initial.gets)) (g.G.Gets.states l.initial.gets) right
      → IsFront (run_of (g.G.Gets.system l.initial.gets)) right (take l.place-index l.place-items) (ports_told l.known l.ports) (g.G.Gets.inputs l.gets);
  first : (right : Ports) → IsAssignment (run_of (g.G.Gets.system l.initial.gets)) (g.G.Gets.states l.initial.gets) right
      → IsFirst (run_of (g.G.Gets.system l.initial.gets)) (g.G.Gets.states l.initial.gets) right (take l.place-index l.place-items) l.first;
  states : g.G.Gets.states l.gets ≡ g.G.Gets.states l.initial.gets;
  system : g.G.Gets.system l.gets ≡ g.G.Gets.system l.initial.gets;
}
