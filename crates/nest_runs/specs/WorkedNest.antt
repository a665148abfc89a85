-- A nest that was worked out by hand: a component, and after it two more in a row, the second of which is in a group
-- inside a group.
use Rattle.std.specs.Prelude.{◌≡◌, [], ◌∷◌, codes, map, List, ℕ, Some, None, pos}
use Rattle.fixed_words.specs.declared.types.Literal.TheVariants as literal
use Rattle.fixed_words.specs.declared.types.Ty.TheVariants.{Int64}
use Rattle.unit_tree.specs.declared.expr.BinOp.TheVariants.{Add}
use Rattle.unit_tree.specs.declared.expr.Expr as expr
use Rattle.unit_tree.specs.declared.system.Instance.{Instance}
use Rattle.unit_tree.specs.declared.system.PortName.{PortName}
use Rattle.unit_tree.specs.declared.system.System.{System}
use Rattle.unit_tree.specs.declared.unit.Unit.{Unit}
use Rattle.nest_text.specs.declared.nest.Group.{Group}
use Rattle.nest_text.specs.declared.nest.Nest.{Nest}
use Rattle.nest_names.specs.Flattening.{flat_of, top}
use Rattle.nest_runs.specs.NestPorts.{OfComponent, OfGroup, spot_of}
use Rattle.nest_runs.specs.NestTrace.{AreCarried, PortValues}

-- ---- Its unit

-- The unit whose output is its input and one.
abbrev pub next_unit : Unit
next_unit = record {
  name = codes "Next";
  resolution = None;
  params = [];
  states = [];
  locals = [];
  inputs = record { name = codes "x"; ty = Int64; start = literal.Number (pos 0) 0 } ∷ [];
  events_in = [];
  outputs =
      record { name = codes "y"; ty = Int64; needs = codes "x" ∷ []; value = expr.Binary Add (expr.Var (codes "x")) (expr.Number (pos 1) 0) } ∷ [];
  events_out = [];
  max = None;
  step = Some [];
}

-- ---- Its groups

abbrev pub port : List ℕ → List ℕ → PortName
port instance name = record { instance = instance; port = name }

abbrev pub instance_of : List ℕ → List ℕ → Instance
instance_of name unit = record { name = name; unit = unit; settings = [] }

-- `in x -> k.x` and `out y = k.y`, around one component.
abbrev pub shell : Group
shell = record {
  name = codes "Shell";
  ins = record { port = codes "x"; inner = port (codes "k") (codes "x") } ∷ [];
  outs = record { port = codes "y"; inner = port (codes "k") (codes "y") } ∷ [];
  instances = instance_of (codes "k") (codes "Next") ∷ [];
  wires = [];
}

-- A component, and after it a shell with another.
abbrev pub row : Group
row = record {
  name = codes "Row";
  ins = record { port = codes "x"; inner = port (codes "k") (codes "x") } ∷ [];
  outs = record { port = codes "y"; inner = port (codes "s") (codes "y") } ∷ [];
  instances = instance_of (codes "k") (codes "Next") ∷ instance_of (codes "s") (codes "Shell") ∷ [];
  wires = record { from = port (codes "k") (codes "y"); to = port (codes "s") (codes "x") } ∷ [];
}

-- A system of this unit, with these instances, connections and samples.
abbrev pub system_with : List Instance → List (PortName × PortName) → List PortName → System
system_with instances wires samples = record {
  version = 1;
  units = next_unit ∷ [];
  instances = instances;
  wires = map (λ wire. record { from = wire.0; to = wire.1 }) wires;
  stop = Some (literal.Number (pos 3) 0);
  longest = Some (literal.Number (pos 1) 0);
  zero = None;
  rows = None;
  samples = samples;
}

abbrev pub worked_nest : Nest
worked_nest = record {
  main =
      system_with (instance_of (codes "a") (codes "Next") ∷ instance_of (codes "r") (codes "Row") ∷ [])
      ((port (codes "a") (codes "y"), port (codes "r") (codes "x")) ∷ []) (port (codes "r") (codes "y") ∷ []);
  groups = shell ∷ row ∷ [];
  lines = 1 ∷ 6 ∷ [];
  main_line = 14;
}

-- ---- The flat system, and the values at its ports

abbrev pub FlatIsWorked : Type 0
FlatIsWorked =
    flat_of worked_nest
    ≡ system_with
    (instance_of (codes "a") (codes "Next") ∷ instance_of (codes "r_k") (codes "Next") ∷ instance_of (codes "r_s_k") (codes "Next") ∷ [])
    ((port (codes "a") (codes "y"), port (codes "r_k") (codes "x")) ∷ (port (codes "r_k") (codes "y"), port (codes "r_s_k") (codes "x")) ∷ [])
    (port (codes "r_s_k") (codes "y") ∷ [])

-- The output of the row is that of the component inside the shell. The input of the row, and so that of its first
-- component, has the value of the output before the row.
pub record ValuesAreWorked (values : PortValues) : Type 0 where
  pub output : values.outs (OfGroup (spot_of top (port (codes "r") (codes "y")))) ≡ values.outs (OfComponent (port (codes "r_s_k") (codes "y")))
  pub input : values.ins (OfGroup (spot_of top (port (codes "r") (codes "x")))) ≡ Some (values.outs (OfComponent (port (codes "a") (codes "y"))))
  pub first : values.ins (OfComponent (port (codes "r_k") (codes "x"))) ≡ Some (values.outs (OfComponent (port (codes "a") (codes "y"))))
  pub second : values.ins (OfComponent (port (codes "r_s_k") (codes "x"))) ≡ Some (values.outs (OfComponent (port (codes "r_k") (codes "y"))))

abbrev pub PortsAreWorked : Type 0
PortsAreWorked = (values : PortValues) → AreCarried worked_nest values → ValuesAreWorked values
