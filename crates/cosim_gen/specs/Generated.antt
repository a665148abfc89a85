-- The generated system: components in a row. Each except the first adds the output of one before it to its own count.
-- The draws of a seed choose what each counts by, and where its input comes from.
use Rattle.std.specs.Prelude.{ℕ, ◌-◌, ◌*◌, ◌%◌, ◌≤◌, pos, List, [], ◌∷◌, ◌++◌, map, codes, Some, None}
use Rattle.std.specs.Fmt.{decimal}
use Rattle.std.specs.List.{range_with_len}
use Rattle.model_rules.specs.Limits.{cell_limit, instance_limit, rows_limit}
use Rattle.draw_numbers.specs.Draws.{draw}
use Rattle.fixed_words.specs.declared.types.Literal.{Literal}
use Rattle.fixed_words.specs.declared.types.Literal.TheVariants as literal
use Rattle.fixed_words.specs.declared.types.Ty.TheVariants.{Int64}
use Rattle.unit_tree.specs.declared.expr.BinOp.TheVariants.{Add, Mul, Mod}
use Rattle.unit_tree.specs.declared.expr.Expr as expr
use Rattle.unit_tree.specs.declared.expr.Expr.{Expr}
use Rattle.unit_tree.specs.declared.line.Line as line
use Rattle.unit_tree.specs.declared.system.Instance.{Instance}
use Rattle.unit_tree.specs.declared.system.PortName.{PortName}
use Rattle.unit_tree.specs.declared.system.System.{System}
use Rattle.unit_tree.specs.declared.system.Wire.{Wire}
use Rattle.unit_tree.specs.declared.unit.Input.{Input}
use Rattle.unit_tree.specs.declared.unit.Output.{Output}
use Rattle.unit_tree.specs.declared.unit.Param.{Param}
use Rattle.unit_tree.specs.declared.unit.State.{State}
use Rattle.unit_tree.specs.declared.unit.Unit.{Unit}

-- How many components are generated, and how many rows their trace may have, within the limits of the rules.
pub record CanGenerate (instances rows : ℕ) : Type 0 where
  pub one_instance : 1 ≤ instances
  pub few_instances : instances ≤ instance_limit
  pub one_row : 1 ≤ rows
  pub few_rows : rows ≤ rows_limit
  pub few_in_all : rows * instances ≤ cell_limit

-- ---- Units

-- A whole number as it is written in a text.
abbrev pub number : ℕ → Literal
number n = literal.Number (pos n) 0

-- `param k : Int64 = 1`
abbrev pub param_k : Param
param_k = record { name = codes "k"; ty = Int64; start = number 1 }

-- `state n : Int64 = 0`
abbrev pub state_n : State
state_n = record { name = codes "n"; ty = Int64; start = number 0 }

-- `input u : Int64 = 0`
abbrev pub input_u : Input
input_u = record { name = codes "u"; ty = Int64; start = number 0 }

-- `output y : Int64 = n`
abbrev pub output_y : Output
output_y = record { name = codes "y"; ty = Int64; needs = []; value = expr.Var (codes "n") }

-- `n * factor`
abbrev pub n_times : ℕ → Expr
n_times factor = expr.Binary Mul (expr.Var (codes "n")) (expr.Number (pos factor) 0)

-- `sum + name`
abbrev pub plus : Expr → List ℕ → Expr
plus sum name = expr.Binary Add sum (expr.Var name)

-- `sum mod 1000`
abbrev pub in_thousand : Expr → Expr
in_thousand sum = expr.Binary Mod sum (expr.Number (pos 1000) 0)

-- `(n * 5 + k) mod 1000`
abbrev pub source_next : Expr
source_next = in_thousand (plus (n_times 5) (codes "k"))

-- `(n * 3 + u + k) mod 1000`
abbrev pub mixer_next : Expr
mixer_next = in_thousand (plus (plus (n_times 3) (codes "u")) (codes "k"))

-- A unit with the parameter `k`, the state `n`, the output `y`, and the step line `n := next`.
abbrev pub unit_with : List ℕ → List Input → Expr → Unit
unit_with name inputs next = record {
  name = name;
  resolution = None;
  params = param_k ∷ [];
  states = state_n ∷ [];
  locals = [];
  inputs = inputs;
  events_in = [];
  outputs = output_y ∷ [];
  events_out = [];
  max = None;
  step = Some (line.Assign (codes "n") next ∷ []);
}

-- The unit of the first component, which has no input.
abbrev pub source_unit : Unit
source_unit = unit_with (codes "src") [] source_next

-- The unit of all other components.
abbrev pub mixer_unit : Unit
mixer_unit = unit_with (codes "mix") (input_u ∷ []) mixer_next

-- ---- Components, named by their places

-- `iJ`, at the place J.
abbrev pub name_in : ℕ → List ℕ
name_in place = codes "i" ++ decimal place

-- A component of a unit, with its `k`.
abbrev pub instance_with : ℕ → List ℕ → ℕ → Instance
instance_with place unit k = record { name = name_in place; unit = unit; settings = record { name = codes "k"; value = number k } ∷ [] }

abbrev pub port_in : ℕ → List ℕ → PortName
port_in place port = record { instance = name_in place; port = port }

-- `connect iS.y -> iJ.u`
abbrev pub wire_between : ℕ → ℕ → Wire
wire_between source place = record { from = port_in source (codes "y"); to = port_in place (codes "u") }

-- ---- What draws choose

-- Draws are counted from 0. The component at place 0 takes draw 0 for its `k`. Each later one, at place J, takes draw 2
-- J - 1 for its `k` and draw 2 J for its source. (A difference is at least 0 here, so 2 J - 1 is 0 at place 0.)
abbrev pub k_in : ℕ → ℕ → ℕ
k_in seed place = draw seed (2 * place - 1) % 1000

-- The place of the component whose output is connected to a later one: a place before its own.
abbrev pub source_of : ℕ → ℕ → ℕ
source_of seed place = draw seed (2 * place) % place

abbrev pub instance_in : ℕ → List ℕ → ℕ → Instance
instance_in seed unit place = instance_with place unit (k_in seed place)

abbrev pub wire_to : ℕ → ℕ → Wire
wire_to seed place = wire_between (source_of seed place) place

-- ---- Systems

-- The places after place 0.
abbrev pub later_places : ℕ → List ℕ
later_places instances = range_with_len 1 (instances - 1)

-- A source, and mixers after it. The run stops after the last of its rows, in steps of one second.
abbrev pub generated : ℕ → ℕ → ℕ → System
generated seed instances rows = record {
  version = 1;
  units = source_unit ∷ mixer_unit ∷ [];
  instances = instance_in seed (codes "src") 0 ∷ map (instance_in seed (codes "mix")) (later_places instances);
  wires = map (wire_to seed) (later_places instances);
  stop = Some (number (rows - 1));
  longest = Some (number 1);
  zero = None;
  rows = Some rows;
  samples = [];
}
