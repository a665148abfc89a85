use Rattle.std.proofs.Common.{◌≡◌, ◌-◌, ◌*◌, ◌∷◌, map}
use Rattle.std.specs.Prelude.{codes}
use Rattle.std.specs.List.{range_with_len}
use Rattle.draw_numbers.specs.Draws.{draw}
use Rattle.cosim_gen.specs.Generated.{instance_in, wire_to}
use Rattle.cosim_gen.proofs.components.components_of.Given as goal

-- The last draw is that of the place before, and the components before this place are there.
abbrev pub invariant-loop-place : goal.invariant-loop-place
invariant-loop-place l = record {
  drawn : l.drawn ≡ draw l.fn.seed (2 * (l.place - 1));
  instances : l.instances ≡ instance_in l.fn.seed (codes "src") 0 ∷ map (instance_in l.fn.seed (codes "mix")) (range_with_len 1 (l.place - 1));
  wires : l.wires ≡ map (wire_to l.fn.seed) (range_with_len 1 (l.place - 1));
}
