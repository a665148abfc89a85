-- Worked systems: the canonical lines of one, a system for each rule that one can break, and orders of outputs.
use Rattle.std.specs.Prelude.{◌≡◌, ℕ, true, zero, suc, pos, neg_ℤ, List, [], ◌∷◌, ◌++◌, map, codes, Some, None}
use Rattle.fixed_words.specs.declared.types.Literal.{Literal}
use Rattle.fixed_words.specs.declared.types.Literal.TheVariants as literal
use Rattle.fixed_words.specs.declared.types.Ty.{Ty}
use Rattle.fixed_words.specs.declared.types.Ty.TheVariants as types
use Rattle.unit_tree.specs.Canonical.{canonical_forms, line_text}
use Rattle.unit_tree.specs.Orders.{HasNoCycle, IsFirstWithoutOrder, line_of_output}
use Rattle.unit_tree.specs.Parts as parts
use Rattle.unit_tree.specs.Parts.{Part, UnitPart, unit_of, system_of}
use Rattle.unit_tree.specs.Sites.{Scope, TopScope, UnitScope, StepScope, InstanceScope, sites_of}
use Rattle.unit_tree.specs.SourceLines.{in_canonical_order}
use Rattle.unit_tree.specs.WellFormed.{refusal_of}
use Rattle.unit_tree.specs.declared.expr.BinOp.TheVariants as by
use Rattle.unit_tree.specs.declared.expr.Expr.{Expr}
use Rattle.unit_tree.specs.declared.expr.Expr as expr
use Rattle.unit_tree.specs.declared.expr.UnOp.TheVariants as of
use Rattle.unit_tree.specs.declared.line.Line.{Line}
use Rattle.unit_tree.specs.declared.line.Line as line
use Rattle.unit_tree.specs.declared.system.PortName.{PortName}
use Rattle.unit_tree.specs.declared.system.Setting.{Setting}
use Rattle.unit_tree.specs.declared.system.System.{System}
use Rattle.unit_tree.specs.declared.unit.Unit.{Unit}

-- ---- Parts

abbrev pub number : ℕ → Literal
number n = literal.Number (pos n) 0

abbrev pub n : Expr
n = expr.Var (codes "n")

abbrev pub u : Expr
u = expr.Var (codes "u")

abbrev pub one : Expr
one = expr.Number (pos 1) 0

abbrev pub sum : Expr → Expr → Expr
sum left right = expr.Binary by.Add left right

-- `param k : T = L`, `state n : T = L`, `input u : Int64 = 0`
abbrev pub param_k : Ty → Literal → UnitPart
param_k ty start = parts.HasParam (record { name = codes "k"; ty = ty; start = start })

abbrev pub state_n : Ty → Literal → UnitPart
state_n ty start = parts.HasState (record { name = codes "n"; ty = ty; start = start })

abbrev pub input_u : UnitPart
input_u = parts.HasInput (record { name = codes "u"; ty = types.Int64; start = number 0 })

-- `output y : T needs .. = e`
abbrev pub output_y : Ty → List (List ℕ) → Expr → UnitPart
output_y ty needs value = parts.HasOutput (record { name = codes "y"; ty = ty; needs = needs; value = value })

-- `n := e`
abbrev pub set : List ℕ → Expr → Line
set name value = line.Assign name value

-- `state n : Int64 = 0` and `output y : Int64 = n`
abbrev pub counts : List UnitPart
counts = state_n types.Int64 (number 0) ∷ output_y types.Int64 [] n ∷ []

-- `unit A`, `instance NAME : A`, `connect a.y -> b.u`
abbrev pub unit_a : List UnitPart → Part
unit_a inside = parts.HasUnit (codes "A") inside

abbrev pub instance_with : List ℕ → List Setting → Part
instance_with name settings = parts.HasInstance (record { name = name; unit = codes "A"; settings = settings })

abbrev pub instance : List ℕ → Part
instance name = instance_with name []

abbrev pub port : List ℕ → List ℕ → PortName
port name of_it = record { instance = name; port = of_it }

abbrev pub wire : PortName → PortName → Part
wire from to = parts.Connects (record { from = from; to = to })

abbrev pub a_to_b : Part
a_to_b = wire (port (codes "a") (codes "y")) (port (codes "b") (codes "u"))

-- `stop 3`
abbrev pub stop : Part
stop = parts.Stop (number 3)

-- ---- Canonical lines

abbrev pub lines_of_system : System → List (List ℕ)
lines_of_system system = map line_text (canonical_forms system)

-- A thermostat, whose parts are in another order than the canonical one.
abbrev pub thermostat : List Part
thermostat =
    stop
    ∷ instance_with (codes "room") (record { name = codes "k"; value = literal.Number (pos 250) 2 } ∷ [])
    ∷ parts.HasUnit (codes "A") (
    parts.Step (
    line.If (expr.Binary by.Lt n (expr.Number (pos 0) 1)) (line.Repeat 2 (set (codes "n") (sum n (expr.Unary (of.ToFix 1) one)) ∷ []) ∷ [])
    (Some (line.Accept (expr.Unary of.ToInt (expr.Var (codes "k"))) ∷ []))
    ∷ [])
    ∷ parts.Max (sum expr.Time one)
    ∷ output_y (types.Fixed 1) (codes "u" ∷ codes "v" ∷ []) (expr.Unary of.Neg (sum n n))
    ∷ state_n (types.Fixed 1) (literal.Number (neg_ℤ (pos 5)) 1)
    ∷ parts.Resolution 3
    ∷ param_k (types.Fixed 2) (number 1)
    ∷ input_u
    ∷ parts.HasLocal (record { name = codes "x"; ty = types.Bool })
    ∷ [])
    ∷ parts.Samples (port (codes "room") (codes "y"))
    ∷ parts.Rows 10
    ∷ parts.Longest (literal.Number (pos 25) 2)
    ∷ a_to_b
    ∷ parts.Zero 7
    ∷ []

abbrev pub thermostat_lines : List (List ℕ)
thermostat_lines =
    codes "cosim 1"
    ∷ codes "unit A"
    ∷ codes "resolution 3"
    ∷ codes "param k:Fixed 2=1"
    ∷ codes "state n:Fixed 1=-0.5"
    ∷ codes "local x:Bool"
    ∷ codes "input u:Int64=0"
    ∷ codes "output y:Fixed 1 needs u,v=-(n+n)"
    ∷ codes "max t+1"
    ∷ codes "step"
    ∷ codes "if n<0.0"
    ∷ codes "repeat 2"
    ∷ codes "n:=n+fix 1(1)"
    ∷ codes "end"
    ∷ codes "else"
    ∷ codes "accept int(k)"
    ∷ codes "end"
    ∷ codes "end"
    ∷ codes "end"
    ∷ codes "instance room:A"
    ∷ codes "k=2.50"
    ∷ codes "end"
    ∷ codes "connect a.y->b.u"
    ∷ codes "stop 3"
    ∷ codes "longest 0.25"
    ∷ codes "zero 7"
    ∷ codes "rows 10"
    ∷ codes "sample room.y"
    ∷ []

-- ---- Rules

-- The system breaks the rule, first at the canonical line, and none before it.
abbrev pub Refused : List Part → ℕ → ℕ → Type 0
Refused all rule line = refusal_of (system_of 1 all) ≡ Some (record { by = rule; at = line })

abbrev pub Accepted : List Part → Type 0
Accepted all = refusal_of (system_of 1 all) ≡ None

-- One instance `a` of a unit `A` with these parts, and `stop 3`.
abbrev pub run_of : List UnitPart → List Part
run_of inside = unit_a inside ∷ instance (codes "a") ∷ stop ∷ []

-- So many prefix `-` before `n`.
abbrev pub minuses : ℕ → Expr
minuses zero = n
minuses (suc count) = expr.Unary of.Neg (minuses count)

-- Two instances of a unit whose output needs its input, and `stop 3`.
abbrev pub pair_with : List Part → List Part
pair_with wires =
    unit_a (input_u ∷ output_y types.Int64 (codes "u" ∷ []) u ∷ []) ∷ instance (codes "a") ∷ instance (codes "b") ∷ wires ++ (stop ∷ [])

-- Instances with names of one letter.
abbrev pub instances : List ℕ → List Part
instances letters = map (λ letter. instance (letter ∷ [])) letters

-- A step whose last lines are the `end` of its `if`, its own `end`, and that of its unit.
abbrev pub choosing : List UnitPart
choosing = parts.Step (line.If (expr.Truth true) (line.Accept one ∷ []) None ∷ []) ∷ []

abbrev pub choosing_unit : Unit
choosing_unit = unit_of (codes "A") choosing

abbrev pub choosing_scopes : List Scope
choosing_scopes =
    TopScope
    ∷ TopScope
    ∷ UnitScope choosing_unit
    ∷ StepScope choosing_unit
    ∷ StepScope choosing_unit
    ∷ StepScope choosing_unit
    ∷ UnitScope choosing_unit
    ∷ UnitScope choosing_unit
    ∷ TopScope
    ∷ InstanceScope (record { name = codes "a"; unit = codes "A"; settings = [] })
    ∷ TopScope
    ∷ []

pub record SystemsAreWorked : Type 0 where
  pub thermostat_is : lines_of_system (system_of 1 thermostat) ≡ thermostat_lines
  -- The lines of a text, by number, in canonical order.
  pub step_first : in_canonical_order {A = ℕ} (a_to_b ∷ unit_a (choosing ++ counts) ∷ a_to_b ∷ []) (1 ∷ 2 ∷ 3 ∷ 4 ∷ 5 ∷ 6 ∷ 7 ∷ 8 ∷ 9 ∷ 10 ∷ 11 ∷ 12 ∷ [])
      ≡ 1 ∷ 3 ∷ 9 ∷ 10 ∷ 4 ∷ 5 ∷ 6 ∷ 7 ∷ 8 ∷ 11 ∷ 2 ∷ 12 ∷ []
  -- The scope of each line.
  pub scopes : map (λ site. site.scope) (sites_of (system_of 1 (run_of choosing))) ≡ choosing_scopes
  -- 8: the second of two equal names, in canonical order.
  pub equal_units : Refused (unit_a counts ∷ run_of counts) 8 6
  pub equal_instances : Refused (instance (codes "a") ∷ run_of counts) 8 8
  pub equal_names : Refused (run_of (output_y types.Int64 [] n ∷ parts.HasState (record { name = codes "y"; ty = types.Int64; start = number 0 }) ∷ [])) 8 4
  -- 9: names that do not exist, or are not allowed there.
  pub local_in_max : Refused (run_of (parts.HasLocal (record { name = codes "n"; ty = types.Int64 }) ∷ parts.Max n ∷ [])) 9 4
  pub output_in_step : Refused (run_of (counts ++ (parts.Step (set (codes "n") (expr.Var (codes "y")) ∷ []) ∷ []))) 9 6
  pub no_such_need : Refused (run_of (output_y types.Int64 (codes "u" ∷ []) one ∷ [])) 9 3
  pub no_such_unit : Refused (instance (codes "a") ∷ stop ∷ []) 9 2
  pub no_such_param : Refused (unit_a counts ∷ instance_with (codes "a") (record { name = codes "n"; value = number 1 } ∷ []) ∷ stop ∷ []) 9 7
  pub from_an_input : Refused (pair_with (wire (port (codes "a") (codes "u")) (port (codes "b") (codes "u")) ∷ [])) 9 10
  -- 10: kinds, and forms of literals.
  pub fixed_with_int : Refused (run_of (state_n (types.Fixed 1) (number 0) ∷ output_y (types.Fixed 1) [] (sum n one) ∷ [])) 10 4
  pub bool_output : Refused (run_of (state_n types.Int64 (number 0) ∷ output_y types.Bool [] n ∷ [])) 10 4
  pub decimals_of_int : Refused (run_of (state_n types.Int8 (literal.Number (pos 10) 1) ∷ [])) 10 3
  pub number_as_condition : Refused (run_of (counts ++ (parts.Step (line.If n [] None ∷ []) ∷ []))) 10 6
  pub truth_for_a_param : Refused (run_of (param_k types.Int64 (number 1) ∷ parts.Step (set (codes "k") (expr.Truth true) ∷ []) ∷ [])) 10 5
  -- 11: ranges of types.
  pub one_above_int8 : Refused (run_of (state_n types.Int8 (number 128) ∷ [])) 11 3
  pub least_int8 : Accepted (run_of (state_n types.Int8 (literal.Number (neg_ℤ (pos 128)) 0) ∷ []))
  pub scaled_too_great : Refused (run_of (state_n (types.Fixed 1) (number 9223372036854775807) ∷ [])) 11 3
  -- 12 to 14: needs and connections.
  pub hidden_need : Refused (run_of (input_u ∷ output_y types.Int64 [] u ∷ [])) 12 4
  pub connected_twice : Refused (pair_with (a_to_b ∷ a_to_b ∷ [])) 13 11
  pub other_type : Refused (unit_a (input_u ∷ output_y types.Int32 [] one ∷ []) ∷ instance (codes "a") ∷ instance (codes "b") ∷ a_to_b ∷ stop ∷ []) 14 10
  -- 17: the depth of a tree, counting a leaf.
  pub depth_32 : Accepted (run_of (state_n types.Int64 (number 0) ∷ output_y types.Int64 [] (minuses 31) ∷ []))
  pub depth_33 : Refused (run_of (state_n types.Int64 (number 0) ∷ output_y types.Int64 [] (minuses 32) ∷ [])) 17 4
  -- 19 to 24
  pub no_stop : Refused (unit_a counts ∷ instance (codes "a") ∷ []) 19 1
  pub whole_by_value : Accepted (parts.Longest (literal.Number (pos 500) 3) ∷ run_of (parts.Resolution 1 ∷ counts))
  pub longest_zero : Refused (parts.Longest (number 0) ∷ run_of counts) 20 9
  pub rows_of_eleven : Refused (unit_a counts ∷ parts.Rows 100000 ∷ stop ∷ instances (codes "abcdefghijk")) 21 29
  pub rows_of_ten : Accepted (unit_a counts ∷ parts.Rows 100000 ∷ stop ∷ instances (codes "abcdefghij"))
  pub param_assigned : Refused (run_of (param_k types.Int64 (number 1) ∷ parts.Step (set (codes "k") one ∷ []) ∷ [])) 22 5
  pub no_instance : Refused (stop ∷ []) 23 1
  pub half_a_tick_first : Refused (parts.Stop (literal.Number (pos 5) 1) ∷ []) 20 2
  pub set_twice : Refused
      (unit_a (param_k types.Int64 (number 1) ∷ [])
      ∷ instance_with (codes "a") (record { name = codes "k"; value = number 1 } ∷ record { name = codes "k"; value = number 1 } ∷ []) ∷ stop ∷ []) 24 7
  pub sampled_twice : Refused (parts.Samples (port (codes "a") (codes "y")) ∷ parts.Samples (port (codes "a") (codes "y")) ∷ run_of counts) 24 10
  pub needed_twice : Refused (run_of (input_u ∷ output_y types.Int64 (codes "u" ∷ codes "u" ∷ []) u ∷ [])) 24 4
  -- 9: clocks and variables with their names are two things, though no text distinguishes them.
  pub time_by_param : Refused
      (run_of (parts.HasParam (record { name = codes "t"; ty = types.Int64; start = number 1 }) ∷ output_y types.Int64 [] expr.Time ∷ [])) 9 4
  pub step_by_state : Refused (run_of (parts.HasState (record { name = codes "h"; ty = types.Int64; start = number 1 }) ∷ parts.Max expr.Step ∷ [])) 9 4
  pub variable_t : Refused (run_of (parts.Max (expr.Var (codes "t")) ∷ [])) 9 3
  -- 9: where clocks and locals are allowed, and the other places of names.
  pub time_in_max : Accepted (run_of (parts.Max expr.Time ∷ []))
  pub clocks_in_step : Accepted (run_of (counts ++ (parts.Step (set (codes "n") expr.Time ∷ set (codes "n") expr.Step ∷ []) ∷ [])))
  pub local_in_step : Accepted (run_of (parts.HasLocal (record { name = codes "n"; ty = types.Int64 }) ∷ parts.Step (set (codes "n") n ∷ []) ∷ []))
  pub name_in_if : Refused (run_of (parts.Step (line.If (expr.Var (codes "p")) [] None ∷ []) ∷ [])) 9 4
  pub name_in_accept : Refused (run_of (parts.Step (line.Repeat 2 (line.Accept (expr.Var (codes "p")) ∷ []) ∷ []) ∷ [])) 9 5
  pub no_such_target : Refused (run_of (parts.Step (set (codes "p") one ∷ []) ∷ [])) 9 4
  pub to_an_output : Refused (pair_with (wire (port (codes "a") (codes "y")) (port (codes "b") (codes "y")) ∷ [])) 9 10
  pub input_sampled : Refused (pair_with (parts.Samples (port (codes "a") (codes "u")) ∷ [])) 9 11
  -- 10 and 11: the other places of kinds and of literals.
  pub fixed_max : Refused (run_of (state_n (types.Fixed 1) (number 0) ∷ parts.Max n ∷ [])) 10 4
  pub truth_accepted : Refused (run_of (parts.Step (line.Accept (expr.Truth true) ∷ []) ∷ [])) 10 4
  pub fixed_0_and_int : Refused (run_of (state_n (types.Fixed 0) (number 0) ∷ output_y (types.Fixed 0) [] one ∷ [])) 10 4
  pub fixed_0 : Accepted (run_of (state_n (types.Fixed 0) (number 0) ∷ output_y (types.Fixed 0) [] n ∷ []))
  pub form_of_a_setting : Refused
      (unit_a (param_k types.Int64 (number 1) ∷ []) ∷ instance_with (codes "a") (record { name = codes "k"; value = literal.Truth true } ∷ []) ∷ stop ∷ []) 10 6
  pub form_of_an_input : Refused (run_of (parts.HasInput (record { name = codes "u"; ty = types.Int64; start = literal.Truth true }) ∷ [])) 10 3
  pub range_of_a_param : Refused (run_of (param_k types.UInt8 (literal.Number (neg_ℤ (pos 1)) 0) ∷ [])) 11 3
  -- 18 to 24: the other places and the ends of ranges.
  pub cost_100000 : Accepted
      (run_of (counts ++ (parts.Step (line.Repeat 1000 (line.Repeat 94 [] ∷ set (codes "n") n ∷ []) ∷ line.Repeat 997 [] ∷ line.Repeat 999 [] ∷ []) ∷ [])))
  pub cost_100001 : Refused
      (run_of (counts ++ (parts.Step (line.Repeat 1000 (line.Repeat 94 [] ∷ set (codes "n") n ∷ []) ∷ line.Repeat 998 [] ∷ line.Repeat 999 [] ∷ []) ∷ []))) 18 5
  pub longest_run : Accepted (unit_a counts ∷ instance (codes "a") ∷ parts.Stop (number 1000000000000000) ∷ [])
  pub too_long_a_run : Refused (unit_a counts ∷ instance (codes "a") ∷ parts.Stop (number 1000000000000001) ∷ []) 20 8
  pub stop_zero : Accepted (unit_a counts ∷ instance (codes "a") ∷ parts.Stop (number 0) ∷ [])
  pub negative_stop : Refused (unit_a counts ∷ instance (codes "a") ∷ parts.Stop (literal.Number (neg_ℤ (pos 3)) 0) ∷ []) 20 8
  pub resolution_of_unit_without_instance : Refused
      (parts.HasUnit (codes "B") (parts.Resolution 1 ∷ []) ∷ parts.Longest (literal.Number (pos 5) 1) ∷ run_of counts) 20 12
  pub input_assigned : Refused (run_of (input_u ∷ parts.Step (set (codes "u") one ∷ []) ∷ [])) 22 5
  pub output_assigned : Refused (run_of (counts ++ (parts.Step (set (codes "y") one ∷ []) ∷ []))) 22 6

-- ---- Orders

abbrev pub y_of : List ℕ → PortName
y_of name = port name (codes "y")

abbrev pub joins : List ℕ → List ℕ → Part
joins from to = wire (y_of from) (port to (codes "u"))

-- Two instances whose outputs need each other, and before them a third one that needs the first.
abbrev pub ring : List Part
ring = pair_with (joins (codes "a") (codes "b") ∷ joins (codes "b") (codes "a") ∷ [])

abbrev pub behind_ring : List Part
behind_ring = instance (codes "c") ∷ joins (codes "a") (codes "c") ∷ ring

-- The same two, with outputs that need nothing: the instances form a ring, and their ports do not.
abbrev pub ring_of_instances : List Part
ring_of_instances =
    unit_a (input_u ∷ output_y types.Int64 [] one ∷ []) ∷ instance (codes "a") ∷ instance (codes "b") ∷ joins (codes "a") (codes "b")
    ∷ joins (codes "b") (codes "a") ∷ stop ∷ []

pub record OrdersAreWorked : Type 0 where
  pub chain_has_all : HasNoCycle (system_of 1 (pair_with (joins (codes "b") (codes "a") ∷ [])))
  pub instances_only : HasNoCycle (system_of 1 ring_of_instances)
  pub first_of_ring : IsFirstWithoutOrder (system_of 1 ring) (y_of (codes "a"))
  pub line_of_ring : line_of_output (system_of 1 ring) (y_of (codes "a")) ≡ Some 4
  pub first_behind_ring : IsFirstWithoutOrder (system_of 1 behind_ring) (y_of (codes "c"))
