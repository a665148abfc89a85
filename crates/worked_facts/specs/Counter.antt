-- A worked system: one counter, from 0 by 1, in steps of one tick until 3.
use Rattle.std.specs.Prelude.{[], ◌∷◌, codes, Some, None, pos}
use Rattle.fixed_words.specs.declared.types.Literal.TheVariants as literal
use Rattle.fixed_words.specs.declared.types.Ty.TheVariants.{Int64}
use Rattle.unit_tree.specs.declared.expr.BinOp.TheVariants.{Add}
use Rattle.unit_tree.specs.declared.expr.Expr as expr
use Rattle.unit_tree.specs.declared.line.Line as line
use Rattle.unit_tree.specs.declared.line.Line.{Line}
use Rattle.unit_tree.specs.declared.system.System.{System}
use Rattle.unit_tree.specs.declared.unit.Unit.{Unit}

-- `n := n + 1`
abbrev pub increment : Line
increment = line.Assign (codes "n") (expr.Binary Add (expr.Var (codes "n")) (expr.Number (pos 1) 0))

abbrev pub counter_unit : Unit
counter_unit = record {
  name = codes "Counter";
  resolution = None;
  params = [];
  states = record { name = codes "n"; ty = Int64; start = literal.Number (pos 0) 0 } ∷ [];
  locals = [];
  inputs = [];
  events_in = [];
  outputs = record { name = codes "y"; ty = Int64; needs = []; value = expr.Var (codes "n") } ∷ [];
  events_out = [];
  max = None;
  step = Some (increment ∷ []);
}

abbrev pub counter : System
counter = record {
  version = 1;
  units = counter_unit ∷ [];
  instances = record { name = codes "a"; unit = codes "Counter"; settings = [] } ∷ [];
  wires = [];
  stop = Some (literal.Number (pos 3) 0);
  longest = Some (literal.Number (pos 1) 0);
  zero = None;
  rows = None;
  samples = [];
}
