-- Worked runs: small systems whose traces were worked out by hand.
use Rattle.std.specs.Prelude.{◌≡◌, ℕ, ◌+◌, Bool, true, false, ℤ, pos, List, [], ◌∷◌, map, codes, Some, None}
use Rattle.fixed_words.specs.declared.types.Fault.TheVariants as fault
use Rattle.fixed_words.specs.declared.types.Literal.{Literal}
use Rattle.fixed_words.specs.declared.types.Literal.TheVariants as literal
use Rattle.fixed_words.specs.declared.types.Ty.{Ty}
use Rattle.fixed_words.specs.declared.types.Ty.TheVariants as types
use Rattle.unit_tree.specs.Compositions.{Composition, composition_of, run_of}
use Rattle.unit_tree.specs.Parts as parts
use Rattle.unit_tree.specs.Parts.{Part, UnitPart, system_of}
use Rattle.unit_tree.specs.Ports.{IsPlaceOrder}
use Rattle.unit_tree.specs.Routes.{routes_of}
use Rattle.unit_tree.specs.Successor.{first_position}
use Rattle.worked_facts.specs.WorkedEvents.{pulse_and_tally, plain_pulse_and_tally}
use Rattle.unit_tree.specs.Trace.{Stand, Goes, IsStand, IsTrace, rows_of, cells_of}
use Rattle.unit_tree.specs.declared.ending.Ending.{Ending}
use Rattle.unit_tree.specs.declared.ending.Ending.TheVariants.{Completed, RowBudget, ZeroBudget, UnitFault, StepRefused}
use Rattle.unit_tree.specs.declared.ending.Place.TheVariants as place
use Rattle.unit_tree.specs.declared.expr.BinOp.TheVariants as by
use Rattle.unit_tree.specs.declared.expr.Expr.{Expr}
use Rattle.unit_tree.specs.declared.expr.Expr as expr
use Rattle.unit_tree.specs.declared.expr.UnOp.TheVariants as of
use Rattle.unit_tree.specs.declared.line.Line.{Line}
use Rattle.unit_tree.specs.declared.line.Line as line
use Rattle.unit_tree.specs.declared.order.Routes.{Routes}
use Rattle.unit_tree.specs.declared.system.Setting.{Setting}

-- ---- Parts of systems

abbrev pub whole : ℕ → Literal
whole n = literal.Number (pos n) 0

abbrev pub number : ℕ → Expr
number n = expr.Number (pos n) 0

abbrev pub n : Expr
n = expr.Var (codes "n")

abbrev pub sum : Expr → Expr → Expr
sum left right = expr.Binary by.Add left right

abbrev pub state_of : List ℕ → ℕ → UnitPart
state_of name start = parts.HasState (record { name = name; ty = types.Int64; start = whole start })

abbrev pub input_of : List ℕ → UnitPart
input_of name = parts.HasInput (record { name = name; ty = types.Int64; start = whole 0 })

abbrev pub output_of : List ℕ → List (List ℕ) → Expr → UnitPart
output_of name needs value = parts.HasOutput (record { name = name; ty = types.Int64; needs = needs; value = value })

abbrev pub instance : List ℕ → List ℕ → List Setting → Part
instance name unit settings = parts.HasInstance (record { name = name; unit = unit; settings = settings })

abbrev pub connect : List ℕ → List ℕ → List ℕ → List ℕ → Part
connect from output to input = parts.Connects (record {
  from = record { instance = from; port = output };
  to = record { instance = to; port = input };
})

-- A stand with this number at a point, with these states and these words of all outputs.
abbrev pub stand : ℕ → ℕ → ℕ → List (List ℤ) → List ℤ → Stand
stand number t n states words = record {
  at = record { point = record { t = t; n = n }; states = states; number = number };
  ports = map Some words;
}

-- The stands are the trace of the system with these parts, and it ends in this way.
abbrev pub RunsTo : List Part → List Stand → Ending → Type 0
RunsTo all stands ending = IsTrace (composition_of (system_of 1 all)) stands ending

-- The states of one member with one state.
abbrev pub one : ℕ → List (List ℤ)
one word = (pos word ∷ []) ∷ []

abbrev pub two : ℕ → ℕ → List (List ℤ)
two word other = (pos word ∷ []) ∷ (pos other ∷ []) ∷ []

-- ---- A counter by 1, `n := n + 1`, with more parts

abbrev pub counts_from : Ty → ℕ → List UnitPart → List Part → List Part
counts_from ty start more rest =
    parts.HasUnit (codes "Counter") (
    parts.HasState (record { name = codes "n"; ty = ty; start = whole start })
    ∷ output_of (codes "y") [] n
    ∷ parts.Step (line.Assign (codes "n") (sum n (number 1)) ∷ [])
    ∷ more)
    ∷ instance (codes "a") (codes "Counter") []
    ∷ rest

abbrev pub counts : List UnitPart → List Part → List Part
counts more rest = counts_from types.Int64 0 more rest

-- `stop 3` and `longest 1`
abbrev pub until_three : List Part
until_three = parts.Stop (whole 3) ∷ parts.Longest (whole 1) ∷ []

-- At time k with the state k.
abbrev pub counted : ℕ → Stand
counted k = stand k k 0 (one k) (pos k ∷ [])

-- At time 0 after k steps of length zero.
abbrev pub waiting : ℕ → Stand
waiting k = stand k 0 k (one k) (pos k ∷ [])

-- A state that is counted out of the range of its type, and one out of the range of all words.
abbrev pub greatest : ℕ
greatest = 9223372036854775807

pub record CountersAreWorked : Type 0 where
  pub three : RunsTo (counts [] until_three) (counted 0 ∷ counted 1 ∷ counted 2 ∷ counted 3 ∷ []) Completed
  pub none : RunsTo (counts [] (parts.Stop (whole 0) ∷ [])) (counted 0 ∷ []) Completed
  pub two_rows : RunsTo (counts [] (parts.Rows 2 ∷ until_three)) (counted 0 ∷ counted 1 ∷ []) RowBudget
  pub four_rows : RunsTo (counts [] (parts.Rows 4 ∷ until_three)) (counted 0 ∷ counted 1 ∷ counted 2 ∷ counted 3 ∷ []) Completed
  pub waits : RunsTo (counts (parts.Max (number 0) ∷ []) (parts.Stop (whole 5) ∷ parts.Zero 3 ∷ []))
      (waiting 0 ∷ waiting 1 ∷ waiting 2 ∷ waiting 3 ∷ []) ZeroBudget
  pub beyond_type : RunsTo (counts_from types.Int8 126 [] until_three) (stand 0 0 0 (one 126) (pos 126 ∷ []) ∷ stand 1 1 0 (one 127) (pos 127 ∷ []) ∷ [])
      (UnitFault 0 place.Step fault.Range)
  pub beyond_words : RunsTo (counts_from types.Int64 greatest [] until_three) (stand 0 0 0 (one greatest) (pos greatest ∷ []) ∷ [])
      (UnitFault 0 place.Step fault.Overflow)
  pub negative_max : RunsTo (counts (parts.Max (expr.Unary of.Neg (number 1)) ∷ []) until_three) (counted 0 ∷ []) (UnitFault 0 place.Max fault.Max)

-- ---- A ring of members that is no ring of outputs: the state of one is the input of the other

abbrev pub ring : List Part
ring =
    parts.HasUnit (codes "P") (
    state_of (codes "n") 10
    ∷ input_of (codes "v")
    ∷ output_of (codes "x") [] n
    ∷ parts.Step (line.Assign (codes "n") (expr.Var (codes "v")) ∷ [])
    ∷ [])
    ∷ parts.HasUnit (codes "Q") (input_of (codes "u") ∷ output_of (codes "y") (codes "u" ∷ []) (sum (expr.Var (codes "u")) (number 1)) ∷ [])
    ∷ instance (codes "b") (codes "Q") []
    ∷ instance (codes "a") (codes "P") []
    ∷ connect (codes "a") (codes "x") (codes "b") (codes "u")
    ∷ connect (codes "b") (codes "y") (codes "a") (codes "v")
    ∷ parts.Stop (whole 2)
    ∷ parts.Longest (whole 1)
    ∷ []

abbrev pub in_ring : Composition
in_ring = composition_of (system_of 1 ring)

-- The output of b comes first and needs that of a.
abbrev pub ring_routes : Routes
ring_routes = record {
  outputs =
      record { instance = 0; output = 0; feeds = record { instance = 1; input = 0 } ∷ []; needs = 1 ∷ [] }
      ∷ record { instance = 1; output = 0; feeds = record { instance = 0; input = 0 } ∷ []; needs = [] }
      ∷ [];
  starts = [];
}

abbrev pub ringed : ℕ → Stand
ringed k = stand k k 0 ([] ∷ (pos (10 + k) ∷ []) ∷ []) (pos (11 + k) ∷ pos (10 + k) ∷ [])

-- ---- Outputs that fault: the first by instance needs one that is defined

abbrev pub divides : List Part
divides =
    parts.HasUnit (codes "A") (input_of (codes "u") ∷ output_of (codes "p") (codes "u" ∷ []) (expr.Binary by.Div (number 1) (expr.Var (codes "u"))) ∷ [])
    ∷ parts.HasUnit (codes "B") (
    state_of (codes "z") 0
    ∷ output_of (codes "r") [] (expr.Var (codes "z"))
    ∷ output_of (codes "s") [] (expr.Binary by.Div (number 1) (expr.Var (codes "z")))
    ∷ [])
    ∷ instance (codes "a") (codes "A") []
    ∷ instance (codes "b") (codes "B") []
    ∷ connect (codes "b") (codes "r") (codes "a") (codes "u")
    ∷ parts.Stop (whole 1)
    ∷ []

abbrev pub divided : Stand
divided = record {
  at = record { point = record { t = 0; n = 0 }; states = [] ∷ (pos 0 ∷ []) ∷ []; number = 0 };
  ports = None ∷ Some (pos 0) ∷ None ∷ [];
}

-- ---- A member whose step divides by the output of another one

abbrev pub follows : List Part
follows =
    parts.HasUnit (codes "S")
    (state_of (codes "n") 1 ∷ output_of (codes "y") [] n ∷ parts.Step (line.Assign (codes "n") (expr.Binary by.Min (sum n (number 2)) (number 4)) ∷ []) ∷ [])
    ∷ parts.HasUnit (codes "D")
    (input_of (codes "u") ∷ state_of (codes "v") 0 ∷ output_of (codes "y") [] (expr.Var (codes "v"))
    ∷ parts.Step (line.Assign (codes "v") (expr.Binary by.Div (number 12) (expr.Binary by.Sub (number 5) (expr.Var (codes "u")))) ∷ []) ∷ [])
    ∷ instance (codes "s") (codes "S") []
    ∷ instance (codes "d") (codes "D") []
    ∷ connect (codes "s") (codes "y") (codes "d") (codes "u")
    ∷ until_three

abbrev pub followed : ℕ → ℕ → ℕ → Stand
followed k word other = stand k k 0 (two word other) (pos word ∷ pos other ∷ [])

pub record PortsAreWorked : Type 0 where
  pub order : IsPlaceOrder in_ring (1 ∷ 0 ∷ [])
  pub routes : routes_of in_ring ≡ ring_routes
  pub around : RunsTo ring (ringed 0 ∷ ringed 1 ∷ ringed 2 ∷ []) Completed
  pub first_fault : RunsTo divides (divided ∷ []) (UnitFault 0 (place.Output 0) fault.ZeroDivisor)
  pub no_row : rows_of (composition_of (system_of 1 divides)) (divided ∷ []) ≡ []
  pub along : RunsTo follows (followed 0 1 0 ∷ followed 1 3 3 ∷ followed 2 4 6 ∷ followed 3 4 12 ∷ []) Completed

-- ---- Negotiation. `n := n + h`, and `accept e`

abbrev pub accepts : Expr → UnitPart
accepts length = parts.Step (line.Assign (codes "n") (sum n expr.Step) ∷ line.Accept length ∷ [])

-- A unit that accepts at most its parameter, which is 4.
abbrev pub at_most_c : Part
at_most_c =
    parts.HasUnit (codes "F") (
    parts.HasParam (record { name = codes "c"; ty = types.Int64; start = whole 4 })
    ∷ state_of (codes "n") 0
    ∷ output_of (codes "y") [] n
    ∷ accepts (expr.Binary by.Min expr.Step (expr.Var (codes "c")))
    ∷ [])

-- A unit that accepts 3 ticks of a step of 4.
abbrev pub fewer_of_four : Part
fewer_of_four =
    parts.HasUnit (codes "G") (
    state_of (codes "n") 0
    ∷ output_of (codes "y") [] n
    ∷ accepts (expr.Choose (expr.Binary by.Eq expr.Step (number 4)) (number 3) expr.Step)
    ∷ [])

abbrev pub four_and_seven : List Part
four_and_seven =
    at_most_c
    ∷ instance (codes "a") (codes "F") []
    ∷ instance (codes "b") (codes "F") (record { name = codes "c"; value = whole 7 } ∷ [])
    ∷ parts.Stop (whole 10)
    ∷ []

abbrev pub four_and_three : List Part
four_and_three =
    at_most_c
    ∷ fewer_of_four
    ∷ instance (codes "a") (codes "F") []
    ∷ instance (codes "b") (codes "G") []
    ∷ parts.Stop (whole 10)
    ∷ []

-- Both at the time of the stand.
abbrev pub both_at : ℕ → ℕ → Stand
both_at k t = stand k t 0 (two t t) (pos t ∷ pos t ∷ [])

-- ---- Clocks of different resolutions

abbrev pub clock_of : List ℕ → ℕ → Part
clock_of name resolution =
    parts.HasUnit name (
    parts.Resolution resolution
    ∷ state_of (codes "n") 0
    ∷ output_of (codes "y") [] n
    ∷ parts.Step (line.Assign (codes "n") (sum n expr.Step) ∷ [])
    ∷ [])

abbrev pub clocks : List Part
clocks =
    clock_of (codes "Fine") 3
    ∷ clock_of (codes "Coarse") 2
    ∷ instance (codes "a") (codes "Fine") []
    ∷ instance (codes "b") (codes "Coarse") []
    ∷ parts.Stop (literal.Number (pos 20) 3)
    ∷ parts.Longest (literal.Number (pos 7) 3)
    ∷ []

abbrev pub clocked : ℕ → ℕ → ℕ → Stand
clocked k t coarse = stand k t 0 (two t coarse) (pos t ∷ pos coarse ∷ [])

-- ---- A first step of length zero: `max if first then 0 else 5`

abbrev pub begins : List Part
begins =
    parts.HasUnit (codes "A") (
    parts.HasState (record { name = codes "first"; ty = types.Bool; start = literal.Truth true })
    ∷ state_of (codes "n") 0
    ∷ output_of (codes "y") [] n
    ∷ parts.Max (expr.Choose (expr.Var (codes "first")) (number 0) (number 5))
    ∷ parts.Step (line.Assign (codes "first") (expr.Truth false) ∷ line.Assign (codes "n") (sum n expr.Step) ∷ [])
    ∷ [])
    ∷ instance (codes "a") (codes "A") []
    ∷ parts.Stop (whole 10)
    ∷ []

abbrev pub begun : ℕ → ℕ → ℕ → ℕ → Stand
begun k t n first = stand k t n ((pos first ∷ pos t ∷ []) ∷ []) (pos t ∷ [])

abbrev pub pulsed : ℕ → ℕ → ℕ → ℕ → ℕ → Stand
pulsed k occurs word got shown = stand k k 0 (two k got) (pos occurs ∷ pos word ∷ pos shown ∷ [])

abbrev pub four_and_seven_stands : List Stand
four_and_seven_stands = both_at 0 0 ∷ both_at 1 4 ∷ both_at 2 8 ∷ both_at 3 10 ∷ []

abbrev pub clocks_stands : List Stand
clocks_stands = clocked 0 0 0 ∷ clocked 1 7 0 ∷ clocked 2 14 1 ∷ clocked 3 20 2 ∷ []

abbrev pub divides_by_four : List Part
divides_by_four =
    at_most_c
    ∷ parts.HasUnit (codes "G") (
    state_of (codes "n") 0
    ∷ output_of (codes "y") [] n
    ∷ parts.Step (line.Assign (codes "n") (expr.Binary by.Div (number 1) (expr.Binary by.Sub expr.Step (number 4))) ∷ [])
    ∷ [])
    ∷ instance (codes "a") (codes "F") []
    ∷ instance (codes "b") (codes "G") []
    ∷ parts.Stop (whole 10)
    ∷ []

abbrev pub accepts_none : List Part
accepts_none =
    parts.HasUnit (codes "G") (state_of (codes "n") 0 ∷ output_of (codes "y") [] n ∷ accepts (number 0) ∷ [])
    ∷ instance (codes "a") (codes "G") []
    ∷ parts.Stop (whole 10)
    ∷ parts.Zero 0
    ∷ []

pub record StepsAreWorked : Type 0 where
  pub redo_fault : RunsTo divides_by_four (both_at 0 0 ∷ []) (UnitFault 1 place.Step fault.ZeroDivisor)
  pub redo_cells : cells_of (composition_of (system_of 1 divides_by_four)) (both_at 0 0 ∷ []) ≡ 4
  pub redo_zero : RunsTo accepts_none (counted 0 ∷ []) ZeroBudget
  pub zero_cells : cells_of (composition_of (system_of 1 accepts_none)) (counted 0 ∷ []) ≡ 2
  pub defaults : ((run_of (system_of 2 pulse_and_tally)).zero_budget ≡ 1000) × ((run_of (system_of 2 pulse_and_tally)).row_budget ≡ 10000)
  pub pulse : IsTrace (composition_of (system_of 2 plain_pulse_and_tally))
      (pulsed 0 0 0 0 0 ∷ pulsed 1 1 10 0 0 ∷ pulsed 2 0 0 10 10 ∷ pulsed 3 1 30 10 10 ∷ pulsed 4 0 0 40 40 ∷ []) Completed
  pub shorter : RunsTo four_and_seven four_and_seven_stands Completed
  pub shorter_cells : cells_of (composition_of (system_of 1 four_and_seven)) four_and_seven_stands ≡ 10
  pub refused : RunsTo four_and_three (both_at 0 0 ∷ []) (StepRefused 1 4 3)
  pub held : RunsTo clocks clocks_stands Completed
  pub held_cells : cells_of (composition_of (system_of 1 clocks)) clocks_stands ≡ 5
  pub zero_first : RunsTo begins (begun 0 0 0 1 ∷ begun 1 0 1 0 ∷ begun 2 5 0 0 ∷ begun 3 10 0 0 ∷ []) Completed

-- ---- The heater of a small spacecraft, whose bus has a battery: words have two decimals

abbrev pub hundredths : ℕ → Expr
hundredths n = expr.Number (pos n) 2

abbrev pub fixed_literal : ℕ → Literal
fixed_literal n = literal.Number (pos n) 2

abbrev pub fixed_state : List ℕ → ℕ → UnitPart
fixed_state name start = parts.HasState (record { name = name; ty = types.Fixed 2; start = fixed_literal start })

abbrev pub fixed_param : List ℕ → ℕ → UnitPart
fixed_param name start = parts.HasParam (record { name = name; ty = types.Fixed 2; start = fixed_literal start })

abbrev pub fixed_input : List ℕ → UnitPart
fixed_input name = parts.HasInput (record { name = name; ty = types.Fixed 2; start = whole 0 })

abbrev pub fixed_output : List ℕ → List (List ℕ) → Expr → UnitPart
fixed_output name needs value = parts.HasOutput (record { name = name; ty = types.Fixed 2; needs = needs; value = value })

abbrev pub plate : Part
plate =
    parts.HasUnit (codes "Plate") (
    fixed_param (codes "loss") 50
    ∷ fixed_state (codes "temp") 1820
    ∷ fixed_input (codes "power")
    ∷ fixed_output (codes "deg") [] (expr.Var (codes "temp"))
    ∷ parts.Step (
    line.Assign (codes "temp") (
    sum (expr.Var (codes "temp")) (
    expr.Binary by.Mul (expr.Unary (of.ToFix 2) (expr.Binary by.Div expr.Step (number 60)))
    (expr.Binary by.Sub (expr.Binary by.Mul (expr.Var (codes "power")) (hundredths 10)) (expr.Var (codes "loss")))))
    ∷ [])
    ∷ [])

abbrev pub lights : Bool → List Line
lights told = line.Assign (codes "lit") (expr.Truth told) ∷ []

abbrev pub stat : Part
stat =
    parts.HasUnit (codes "Stat") (
    fixed_param (codes "low") 1800
    ∷ fixed_param (codes "high") 2000
    ∷ fixed_input (codes "deg")
    ∷ parts.HasState (record { name = codes "lit"; ty = types.Bool; start = literal.Truth false })
    ∷ parts.HasOutput (record { name = codes "on"; ty = types.Bool; needs = []; value = expr.Var (codes "lit") })
    ∷ parts.Step (
    line.If (expr.Binary by.Lt (expr.Var (codes "deg")) (expr.Var (codes "low"))) (lights true) None
    ∷ line.If (expr.Binary by.Gt (expr.Var (codes "deg")) (expr.Var (codes "high"))) (lights false) None
    ∷ [])
    ∷ [])

abbrev pub heats : Part
heats =
    parts.HasUnit (codes "Heater") (
    fixed_param (codes "watts") 1200
    ∷ parts.HasInput (record { name = codes "on"; ty = types.Bool; start = literal.Truth false })
    ∷ fixed_output (codes "power") (codes "on" ∷ []) (expr.Choose (expr.Var (codes "on")) (expr.Var (codes "watts")) (hundredths 0))
    ∷ [])

abbrev pub battery : Part
battery =
    parts.HasUnit (codes "Battery") (
    fixed_input (codes "load")
    ∷ fixed_state (codes "charge") 5000
    ∷ fixed_output (codes "wh") [] (expr.Var (codes "charge"))
    ∷ parts.Step (
    line.Assign (codes "charge") (
    expr.Binary by.Sub (expr.Var (codes "charge")) (
    expr.Binary by.Slash (expr.Binary by.Mul (expr.Var (codes "load")) (expr.Unary (of.ToFix 2) expr.Step)) (hundredths 360000)))
    ∷ [])
    ∷ [])

abbrev pub heater : List Part
heater =
    plate
    ∷ stat
    ∷ heats
    ∷ battery
    ∷ instance (codes "plate") (codes "Plate") []
    ∷ instance (codes "stat") (codes "Stat") []
    ∷ instance (codes "heater") (codes "Heater") []
    ∷ instance (codes "bat") (codes "Battery") []
    ∷ connect (codes "plate") (codes "deg") (codes "stat") (codes "deg")
    ∷ connect (codes "stat") (codes "on") (codes "heater") (codes "on")
    ∷ connect (codes "heater") (codes "power") (codes "plate") (codes "power")
    ∷ connect (codes "heater") (codes "power") (codes "bat") (codes "load")
    ∷ parts.Stop (whole 600)
    ∷ parts.Longest (whole 60)
    ∷ []

-- A stand, by number, time, temperature, whether the heater is on, its power, and the battery's charge.
abbrev pub heated : ℕ → ℕ → ℕ → ℕ → ℕ → ℕ → Stand
heated k t temp lit power charge =
    stand k t 0 ((pos temp ∷ []) ∷ (pos lit ∷ []) ∷ [] ∷ (pos charge ∷ []) ∷ []) (pos temp ∷ pos lit ∷ pos power ∷ pos charge ∷ [])

abbrev pub heating : Composition
heating = composition_of (system_of 1 heater)

-- Its first four points.
pub record HeaterIsWorked : Type 0 where
  pub start : (heated 0 0 1820 0 0 5000).at ≡ first_position heating
  pub start_ports : IsStand heating (heated 0 0 1820 0 0 5000)
  pub cools : Goes heating (heated 0 0 1820 0 0 5000) (heated 1 60 1770 0 0 5000)
  pub is_lit : Goes heating (heated 1 60 1770 0 0 5000) (heated 2 120 1720 1 1200 5000)
  pub warms : Goes heating (heated 2 120 1720 1 1200 5000) (heated 3 180 1790 1 1200 4980)
