-- The lines of the worked nest, and the values along them.
use Rattle.std.proofs.Common.{◌≡◌, Some, refl, ◌∙◌, arith}
use Rattle.std.specs.Prelude.{codes, List, ℕ}
use Rattle.nest_names.specs.Flattening.{inside, top}
use Rattle.nest_names.specs.declared.scope.GroupScope.{GroupScope}
use Rattle.nest_runs.specs.NestPorts.{NestPort, OfComponent, OfGroup, IsScope, IsScopeAt, Connects, LeadsIn, LeadsOut, spot_of}
use Rattle.nest_runs.specs.NestTrace.{AreCarried, PortValues}
use Rattle.nest_runs.specs.WorkedNest.{ValuesAreWorked, worked_nest, instance_of, port}

abbrev in_row : GroupScope
in_row = inside top (codes "r") 1

abbrev in_shell : GroupScope
in_shell = inside in_row (codes "s") 0

top_is : IsScope worked_nest top
top_is = (0, refl)

row_at : IsScopeAt worked_nest 1 in_row
row_at = (top, refl, record { instance = instance_of (codes "r") (codes "Row"); stands = (1, omega arith, refl); leads = refl })

row_is : IsScope worked_nest in_row
row_is = (1, row_at)

abbrev row_y : NestPort
row_y = OfGroup (spot_of top (port (codes "r") (codes "y")))

abbrev shell_y : NestPort
shell_y = OfGroup (spot_of in_row (port (codes "s") (codes "y")))

abbrev row_x : NestPort
row_x = OfGroup (spot_of top (port (codes "r") (codes "x")))

abbrev shell_x : NestPort
shell_x = OfGroup (spot_of in_row (port (codes "s") (codes "x")))

abbrev component : List ℕ → List ℕ → NestPort
component instance name = OfComponent (port instance name)

from_row : LeadsOut worked_nest row_y shell_y
from_row = record {
  spot = spot_of top (port (codes "r") (codes "y"));
  next = spot_of in_row (port (codes "s") (codes "y"));
  is_scope = top_is;
  line = refl;
  outer_is = refl;
  inner_is = refl;
}

from_shell : LeadsOut worked_nest shell_y (component (codes "r_s_k") (codes "y"))
from_shell = record {
  spot = spot_of in_row (port (codes "s") (codes "y"));
  next = spot_of in_shell (port (codes "k") (codes "y"));
  is_scope = row_is;
  line = refl;
  outer_is = refl;
  inner_is = refl;
}

to_row : Connects worked_nest (component (codes "a") (codes "y")) row_x
to_row = record {
  scope = top;
  wire = record { from = port (codes "a") (codes "y"); to = port (codes "r") (codes "x") };
  is_scope = top_is;
  stands = (0, omega arith, refl);
  from_is = refl;
  to_is = refl;
}

into_row : LeadsIn worked_nest row_x (component (codes "r_k") (codes "x"))
into_row = record {
  spot = spot_of top (port (codes "r") (codes "x"));
  next = spot_of in_row (port (codes "k") (codes "x"));
  is_scope = top_is;
  of_group = refl;
  line = (0, omega arith, refl);
  outer_is = refl;
  inner_is = refl;
}

to_shell : Connects worked_nest (component (codes "r_k") (codes "y")) shell_x
to_shell = record {
  scope = in_row;
  wire = record { from = port (codes "k") (codes "y"); to = port (codes "s") (codes "x") };
  is_scope = row_is;
  stands = (0, omega arith, refl);
  from_is = refl;
  to_is = refl;
}

into_shell : LeadsIn worked_nest shell_x (component (codes "r_s_k") (codes "x"))
into_shell = record {
  spot = spot_of in_row (port (codes "s") (codes "x"));
  next = spot_of in_shell (port (codes "k") (codes "x"));
  is_scope = row_is;
  of_group = refl;
  line = (0, omega arith, refl);
  outer_is = refl;
  inner_is = refl;
}

pub worked : (values : PortValues) → AreCarried worked_nest values → ValuesAreWorked values
worked values carried = record {
  output = carried.out row_y shell_y from_row ∙ carried.out shell_y (component (codes "r_s_k") (codes "y")) from_shell;
  input = counted;
  first = carried.within row_x (component (codes "r_k") (codes "x")) (values.outs (component (codes "a") (codes "y"))) into_row counted;
  second =
      carried.within shell_x (component (codes "r_s_k") (codes "x")) (values.outs (component (codes "r_k") (codes "y"))) into_shell
      (carried.connected (component (codes "r_k") (codes "y")) shell_x to_shell);
}
  where
    counted : values.ins row_x ≡ Some (values.outs (component (codes "a") (codes "y")))
    counted = carried.connected (component (codes "a") (codes "y")) row_x to_row
