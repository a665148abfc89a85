-- Flat systems of nests, worked out by hand: inputs that several lines lead to, and inputs that no connection reaches.
use Rattle.std.specs.Prelude.{◌≡◌, ℕ, List, [], ◌∷◌, codes}
use Rattle.unit_tree.specs.declared.system.PortName.{PortName}
use Rattle.unit_tree.specs.declared.system.System.{System}
use Rattle.nest_text.specs.declared.nest.Bind.{Bind}
use Rattle.nest_text.specs.declared.nest.Group.{Group}
use Rattle.nest_text.specs.declared.nest.Nest.{Nest}
use Rattle.nest_names.specs.Flattening.{flat_of}
use Rattle.nest_runs.specs.WorkedNest.{instance_of, port, system_with}

abbrev pub bind_of : List ℕ → List ℕ → List ℕ → Bind
bind_of name instance inner = record { port = name; inner = port instance inner }

-- `in x -> k.x`, `in w -> k.x` and `out y = k.y`, around one component: two inputs lead to its input.
abbrev pub two_inputs : Group
two_inputs = record {
  name = codes "Two";
  ins = bind_of (codes "x") (codes "k") (codes "x") ∷ bind_of (codes "w") (codes "k") (codes "x") ∷ [];
  outs = bind_of (codes "y") (codes "k") (codes "y") ∷ [];
  instances = instance_of (codes "k") (codes "Next") ∷ [];
  wires = [];
}

-- `in u -> s.x` and `in u -> s.w`: two ways lead from one input to one input of a component.
abbrev pub two_ways : Group
two_ways = record {
  name = codes "Ways";
  ins = bind_of (codes "u") (codes "s") (codes "x") ∷ bind_of (codes "u") (codes "s") (codes "w") ∷ [];
  outs = bind_of (codes "y") (codes "s") (codes "y") ∷ [];
  instances = instance_of (codes "s") (codes "Two") ∷ [];
  wires = [];
}

-- A component `a` and an instance `r` of a group, with connections, and with the output of `r` sampled.
abbrev pub nest_with : List ℕ → List (PortName × PortName) → Nest
nest_with group wires = record {
  main = system_with (instance_of (codes "a") (codes "Next") ∷ instance_of (codes "r") group ∷ []) wires (port (codes "r") (codes "y") ∷ []);
  groups = two_inputs ∷ two_ways ∷ [];
  lines = 1 ∷ 7 ∷ [];
  main_line = 13;
}

-- The flat system, whose second component has this name, with these connections.
abbrev pub flat_with : List ℕ → List (PortName × PortName) → System
flat_with name wires =
    system_with (instance_of (codes "a") (codes "Next") ∷ instance_of name (codes "Next") ∷ []) wires (port name (codes "y") ∷ [])

-- The same nest in version 2 of the language.
abbrev pub of_version_2 : Nest → Nest
of_version_2 nest = record nest { main = record nest.main { version = 2 } }

pub record NestsAreFlat : Type 0 where
  -- One of the two inputs is connected.
  pub one_connected : flat_of (nest_with (codes "Two") ((port (codes "a") (codes "y"), port (codes "r") (codes "w")) ∷ []))
      ≡ flat_with (codes "r_k") ((port (codes "a") (codes "y"), port (codes "r_k") (codes "x")) ∷ [])
  -- Both are connected: the component's input has two connections, in the order of the connections of `main`.
  pub both_connected : flat_of (nest_with (codes "Two")
      ((port (codes "a") (codes "y"), port (codes "r") (codes "w")) ∷ (port (codes "r") (codes "y"), port (codes "r") (codes "x")) ∷ []))
      ≡ flat_with (codes "r_k")
      ((port (codes "a") (codes "y"), port (codes "r_k") (codes "x")) ∷ (port (codes "r_k") (codes "y"), port (codes "r_k") (codes "x")) ∷ [])
  -- None is connected: there is no connection.
  pub none_connected : flat_of (nest_with (codes "Two") []) ≡ flat_with (codes "r_k") []
  -- Two ways from one connection make one connection.
  pub two_ways_once : flat_of (nest_with (codes "Ways") ((port (codes "a") (codes "y"), port (codes "r") (codes "u")) ∷ []))
      ≡ flat_with (codes "r_s_k") ((port (codes "a") (codes "y"), port (codes "r_s_k") (codes "x")) ∷ [])
  -- The flat system has the version of the nest.
  pub version_kept : flat_of (of_version_2 (nest_with (codes "Two") [])) ≡ record (flat_with (codes "r_k") []) { version = 2 }
