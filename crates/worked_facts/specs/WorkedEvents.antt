-- Worked systems of version 2: their lines, their plain form, and each rule that events change.
use Rattle.std.specs.Prelude.{◌≡◌, ℕ, zero, suc, Bool, true, false, pos, List, [], ◌∷◌, ◌++◌, codes, Some, None}
use Rattle.std.specs.List.{repeat}
use Rattle.fixed_words.specs.declared.types.Literal.TheVariants as literal
use Rattle.fixed_words.specs.declared.types.Ty.{Ty}
use Rattle.fixed_words.specs.declared.types.Ty.TheVariants as types
use Rattle.unit_tree.specs.Parts as parts
use Rattle.unit_tree.specs.Parts.{Part, UnitPart, system_of, unit_of}
use Rattle.unit_tree.specs.Phrases as phrase
use Rattle.unit_tree.specs.Plain.{plain_form, presence_of, word_expression_of, zero_of}
use Rattle.unit_tree.specs.Printable.{IsRanged, IsPrintable}
use Rattle.unit_tree.specs.Sites.{UnitScope, TopScope}
use Rattle.unit_tree.specs.SourceLines.{in_canonical_order}
use Rattle.unit_tree.specs.WellFormed.{refusal_of, exceeds, mistakes_kind, has_deep_expression}
use Rattle.worked_facts.specs.WorkedPhrases.{Worked}
use Rattle.worked_facts.specs.WorkedSystems.{Refused, n, one, sum, set, number, input_u, state_n, output_y, counts, unit_a, instance, port, wire, a_to_b}
use Rattle.worked_facts.specs.WorkedSystems.{run_of, stop, lines_of_system}
use Rattle.unit_tree.specs.declared.expr.BinOp.TheVariants as by
use Rattle.unit_tree.specs.declared.expr.Expr.{Expr}
use Rattle.unit_tree.specs.declared.expr.Expr as expr
use Rattle.unit_tree.specs.declared.expr.UnOp.TheVariants as of
use Rattle.unit_tree.specs.declared.line.Line as line
use Rattle.unit_tree.specs.declared.line_form.LineForm.{LineForm}
use Rattle.unit_tree.specs.declared.line_form.LineForm.TheVariants as form
use Rattle.unit_tree.specs.declared.unit.EventIn.{EventIn}
use Rattle.unit_tree.specs.declared.unit.EventOut.{EventOut}
use Rattle.unit_tree.specs.declared.unit.Unit.{Unit}

-- ---- Parts

abbrev pub e : Expr
e = expr.Var (codes "e")

-- `event input e : T`, `event output p : T needs .. = value`
abbrev pub event_in : Ty → EventIn
event_in ty = record { name = codes "e"; ty = ty }

abbrev pub event_out : Ty → List (List ℕ) → Expr → EventOut
event_out ty needs value = record { name = codes "p"; ty = ty; needs = needs; value = value }

abbrev pub input_e : UnitPart
input_e = parts.HasEventIn (event_in types.Int64)

abbrev pub output_p : List (List ℕ) → Expr → UnitPart
output_p needs value = parts.HasEventOut (event_out types.Int64 needs value)

-- `if n == 1 then e else absent`
abbrev pub at_times : Expr → Expr
at_times value = expr.Choose (expr.Binary by.Eq n one) value expr.Absent

-- `connect a.p -> b.e`
abbrev pub p_to_e : Part
p_to_e = wire (port (codes "a") (codes "p")) (port (codes "b") (codes "e"))

-- ---- A pulse and a tally

-- `n mod 2 == 1` and `n * 10`
abbrev pub is_odd : Expr
is_odd = expr.Binary by.Eq (expr.Binary by.Mod n (expr.Number (pos 2) 0)) one

abbrev pub tenfold : Expr
tenfold = expr.Binary by.Mul n (expr.Number (pos 10) 0)

abbrev pub pulse : UnitPart
pulse = parts.HasEventOut (record (event_out types.Int64 [] (expr.Choose is_odd tenfold expr.Absent)) { name = codes "e" })

-- `n := n + 1`
abbrev pub counting : UnitPart
counting = parts.Step (set (codes "n") (sum n one) ∷ [])

-- `if present(e)`, `got := got + e`, `end`
abbrev pub tally : UnitPart
tally = parts.Step (line.If (expr.Present (codes "e")) (set (codes "got") (sum (expr.Var (codes "got")) e) ∷ []) None ∷ [])

abbrev pub got : UnitPart
got = parts.HasState (record { name = codes "got"; ty = types.Int64; start = number 0 })

abbrev pub output_k : Expr → UnitPart
output_k value = parts.HasOutput (record { name = codes "k"; ty = types.Int64; needs = []; value = value })

abbrev pub pulse_unit : List UnitPart
pulse_unit = state_n types.Int64 (number 0) ∷ pulse ∷ counting ∷ []

abbrev pub tally_unit : List UnitPart
tally_unit = input_e ∷ got ∷ output_k (expr.Var (codes "got")) ∷ tally ∷ []

abbrev pub pulse_and_tally : List Part
pulse_and_tally =
    parts.HasUnit (codes "Pulse") pulse_unit
    ∷ parts.HasUnit (codes "Tally") tally_unit
    ∷ parts.HasInstance (record { name = codes "p"; unit = codes "Pulse"; settings = [] })
    ∷ parts.HasInstance (record { name = codes "c"; unit = codes "Tally"; settings = [] })
    ∷ wire (port (codes "p") (codes "e")) (port (codes "c") (codes "e"))
    ∷ parts.Stop (number 4)
    ∷ parts.Longest (number 1)
    ∷ []

abbrev pub pulse_and_tally_lines : List (List ℕ)
pulse_and_tally_lines =
    codes "cosim 2"
    ∷ codes "unit Pulse"
    ∷ codes "state n:Int64=0"
    ∷ codes "event output e:Int64=if n mod 2==1 then n*10 else absent"
    ∷ codes "step"
    ∷ codes "n:=n+1"
    ∷ codes "end"
    ∷ codes "end"
    ∷ codes "unit Tally"
    ∷ codes "state got:Int64=0"
    ∷ codes "event input e:Int64"
    ∷ codes "output k:Int64=got"
    ∷ codes "step"
    ∷ codes "if present(e)"
    ∷ codes "got:=got+e"
    ∷ codes "end"
    ∷ codes "end"
    ∷ codes "end"
    ∷ codes "instance p:Pulse"
    ∷ codes "end"
    ∷ codes "instance c:Tally"
    ∷ codes "end"
    ∷ codes "connect p.e->c.e"
    ∷ codes "stop 4"
    ∷ codes "longest 1"
    ∷ []

-- The parts of its plain form, in which `p?` and `e?` are names.
abbrev pub odd_else : Expr → Expr → Expr
odd_else value other = expr.Choose is_odd value other

abbrev pub plain_pulse : List UnitPart
plain_pulse =
    state_n types.Int64 (number 0)
    ∷ parts.HasOutput (record { name = codes "e?"; ty = types.Bool; needs = []; value = odd_else (expr.Truth true) (expr.Truth false) })
    ∷ parts.HasOutput (record { name = codes "e"; ty = types.Int64; needs = []; value = odd_else tenfold (expr.Number (pos 0) 0) })
    ∷ counting
    ∷ []

abbrev pub plain_tally : List UnitPart
plain_tally =
    parts.HasInput (record { name = codes "e?"; ty = types.Bool; start = literal.Truth false })
    ∷ parts.HasInput (record { name = codes "e"; ty = types.Int64; start = number 0 })
    ∷ got
    ∷ output_k (expr.Var (codes "got"))
    ∷ parts.Step (line.If (expr.Var (codes "e?")) (set (codes "got") (sum (expr.Var (codes "got")) e) ∷ []) None ∷ [])
    ∷ []

abbrev pub plain_pulse_and_tally : List Part
plain_pulse_and_tally =
    parts.HasUnit (codes "Pulse") plain_pulse
    ∷ parts.HasUnit (codes "Tally") plain_tally
    ∷ parts.HasInstance (record { name = codes "p"; unit = codes "Pulse"; settings = [] })
    ∷ parts.HasInstance (record { name = codes "c"; unit = codes "Tally"; settings = [] })
    ∷ wire (port (codes "p") (codes "e?")) (port (codes "c") (codes "e?"))
    ∷ wire (port (codes "p") (codes "e")) (port (codes "c") (codes "e"))
    ∷ parts.Stop (number 4)
    ∷ parts.Longest (number 1)
    ∷ parts.Samples (port (codes "p") (codes "e"))
    ∷ parts.Samples (port (codes "c") (codes "k"))
    ∷ []

-- ---- Plain ports and event ports together

-- `if present(e) then .. else ..`
abbrev pub if_present : Expr → Expr → Expr
if_present value other = expr.Choose (expr.Present (codes "e")) value other

-- A unit with ports of both kinds, and every line that has an expression.
abbrev pub mixed_unit : List UnitPart
mixed_unit =
    state_n types.Int64 (number 0)
    ∷ input_u
    ∷ input_e
    ∷ output_y types.Int64 (codes "u" ∷ []) (expr.Var (codes "u"))
    ∷ output_p (codes "e" ∷ []) (if_present e expr.Absent)
    ∷ parts.Max (if_present one n)
    ∷ parts.Step
    (line.If (expr.Present (codes "e")) (line.Repeat 2 (set (codes "n") (if_present e n) ∷ []) ∷ []) (Some (line.Accept (if_present one n) ∷ [])) ∷ [])
    ∷ []

-- Two instances of the unit, with connections of both kinds, and what is sampled.
abbrev pub mixed : List Part
mixed =
    unit_a mixed_unit
    ∷ instance (codes "a")
    ∷ instance (codes "b")
    ∷ a_to_b
    ∷ p_to_e
    ∷ stop
    ∷ parts.Samples (port (codes "a") (codes "p"))
    ∷ []

abbrev pub if_occurs : Expr → Expr → Expr
if_occurs value other = expr.Choose (expr.Var (codes "e?")) value other

abbrev pub plain_mixed_unit : List UnitPart
plain_mixed_unit =
    state_n types.Int64 (number 0)
    ∷ input_u
    ∷ parts.HasInput (record { name = codes "e?"; ty = types.Bool; start = literal.Truth false })
    ∷ parts.HasInput (record { name = codes "e"; ty = types.Int64; start = number 0 })
    ∷ output_y types.Int64 (codes "u" ∷ []) (expr.Var (codes "u"))
    ∷ parts.HasOutput
    (record { name = codes "p?"; ty = types.Bool; needs = codes "e?" ∷ codes "e" ∷ []; value = if_occurs (expr.Truth true) (expr.Truth false) })
    ∷ parts.HasOutput (record { name = codes "p"; ty = types.Int64; needs = codes "e?" ∷ codes "e" ∷ []; value = if_occurs e (expr.Number (pos 0) 0) })
    ∷ parts.Max (if_occurs one n)
    ∷ parts.Step (line.If (expr.Var (codes "e?")) (line.Repeat 2 (set (codes "n") (if_occurs e n) ∷ []) ∷ []) (Some (line.Accept (if_occurs one n) ∷ [])) ∷ [])
    ∷ []

abbrev pub plain_mixed : List Part
plain_mixed =
    unit_a plain_mixed_unit
    ∷ instance (codes "a")
    ∷ instance (codes "b")
    ∷ a_to_b
    ∷ wire (port (codes "a") (codes "p?")) (port (codes "b") (codes "e?"))
    ∷ p_to_e
    ∷ stop
    ∷ parts.Samples (port (codes "a") (codes "p"))
    ∷ []

pub record PlainFormsAreWorked : Type 0 where
  pub lines : lines_of_system (system_of 2 pulse_and_tally) ≡ pulse_and_tally_lines
  pub plain : plain_form (system_of 2 pulse_and_tally) ≡ system_of 2 plain_pulse_and_tally
  pub mixed_plain : plain_form (system_of 2 mixed) ≡ system_of 2 plain_mixed
  -- A system of version 1 is its own plain form.
  pub same : plain_form (system_of 1 (run_of counts)) ≡ system_of 1 (run_of counts)
  -- Needs: an event input becomes two, and a plain input stays one.
  pub needs : lines_of_system
      (plain_form (system_of 2 (unit_a (input_u ∷ input_e ∷ output_y types.Bool (codes "e" ∷ codes "u" ∷ []) (expr.Present (codes "e")) ∷ []) ∷ [])))
      ≡ codes "cosim 2" ∷ codes "unit A" ∷ codes "input u:Int64=0" ∷ codes "input e?:Bool=false" ∷ codes "input e:Int64=0"
      ∷ codes "output y:Bool needs e?,e,u=e?" ∷ codes "end" ∷ []
  -- What an event output becomes: of `absent`, of a choice whose branches are choices, and of any other expression.
  pub presence_of_absent : presence_of expr.Absent ≡ expr.Truth false
  pub presence_of_choices : presence_of (expr.Choose e (at_times n) n)
      ≡ expr.Choose e (expr.Choose (expr.Binary by.Eq n one) (expr.Truth true) (expr.Truth false)) (expr.Truth true)
  pub word_of_choices : word_expression_of (types.Fixed 2) (expr.Choose e (at_times n) n)
      ≡ expr.Choose e (expr.Choose (expr.Binary by.Eq n one) n (expr.Number (pos 0) 2)) n
  -- The zero of each kind.
  pub zero_of_truth : zero_of types.Bool ≡ expr.Truth false
  pub zero_of_fixed_0 : zero_of (types.Fixed 0) ≡ expr.Unary (of.ToFix 0) (expr.Number (pos 0) 0)

-- ---- Rules

-- The system of version 2 breaks the rule, first at the canonical line, and none before it.
abbrev pub Refused2 : List Part → ℕ → ℕ → Type 0
Refused2 all rule at = refusal_of (system_of 2 all) ≡ Some (record { by = rule; at = at })

abbrev pub Accepted2 : List Part → Type 0
Accepted2 all = refusal_of (system_of 2 all) ≡ None

-- Two instances of a unit with an input, an event input and an event output, and `stop 3`.
abbrev pub event_pair : List Part → List Part
event_pair wires =
    unit_a (input_u ∷ input_e ∷ output_p [] one ∷ []) ∷ instance (codes "a") ∷ instance (codes "b") ∷ wires ++ (stop ∷ [])

-- So many choices in each other, with only `absent` in them.
abbrev pub gaps : ℕ → Expr
gaps zero = expr.Absent
gaps (suc count) = expr.Choose (expr.Truth true) expr.Absent (gaps count)

abbrev pub with_e : Unit
with_e = unit_of (codes "A") (state_n types.Int64 (number 0) ∷ input_e ∷ [])

-- An event output of `with_e` has a wrong kind.
abbrev pub is_mistaken : Expr → Bool
is_mistaken value = mistakes_kind (UnitScope with_e) (form.EventOutput (event_out types.Int64 [] value))

-- An event output of it is too deep.
abbrev pub is_deep_event : Ty → Expr → Bool
is_deep_event ty value = has_deep_expression (system_of 2 []) (UnitScope with_e) (form.EventOutput (event_out ty [] value))

-- A connection of these two event ports.
abbrev pub of_events : LineForm
of_events = form.Connect (record { from = port (codes "a") (codes "p"); to = port (codes "b") (codes "e") })

pub record EventsAreWorked : Type 0 where
  pub present_written : Worked (phrase.Unary of.Not (phrase.Present (codes "e"))) (codes "not present(e)") (codes "not present(e)")
  pub absent_written : Worked (phrase.Choose (phrase.Present (codes "e")) phrase.Absent (phrase.Parens phrase.Absent))
      (codes "if present(e)then absent else(absent)") (codes "if present(e)then absent else absent")
  pub accepted : Accepted2 (event_pair (p_to_e ∷ []))
  -- Event ports come after the plain ones, wherever the text has them.
  pub event_first : in_canonical_order {A = ℕ} (unit_a (output_p [] one ∷ input_e ∷ output_y types.Int64 [] one ∷ input_u ∷ []) ∷ [])
      (1 ∷ 2 ∷ 3 ∷ 4 ∷ 5 ∷ 6 ∷ 7 ∷ [])
      ≡ 1 ∷ 2 ∷ 6 ∷ 4 ∷ 5 ∷ 3 ∷ 7 ∷ []
  -- A system of version 1 in range has no event ports, and no text where it has expressions about events.
  pub ports_of_version_1 : IsRanged (system_of 1 (run_of (input_e ∷ []))) → ⊥
  pub absent_of_version_1 : IsPrintable (system_of 1 (run_of (output_y types.Int64 [] expr.Absent ∷ []))) → ⊥
  -- 8: event ports are names of their unit.
  pub equal_names : Refused2 (run_of (input_u ∷ parts.HasEventOut (record { name = codes "u"; ty = types.Int64; needs = []; value = expr.Absent }) ∷ [])) 8 4
  -- 9: `present` of a port that is not an event input. A need, a sample and a connection may be of event ports.
  pub presence_of_input : Refused2 (run_of (input_u ∷ output_p (codes "u" ∷ []) (expr.Present (codes "u")) ∷ [])) 9 4
  pub sampled : Accepted2 (event_pair (parts.Samples (port (codes "a") (codes "p")) ∷ []))
  -- 10: kinds of the choices of an event output, and where `absent` is allowed.
  pub choices : is_mistaken (expr.Choose (expr.Present (codes "e")) expr.Absent n) ≡ false
  pub absent_alone : is_mistaken expr.Absent ≡ false
  pub both_absent : is_mistaken (expr.Choose (expr.Present (codes "e")) expr.Absent expr.Absent) ≡ false
  pub choice_of_other_kind : is_mistaken (expr.Choose (expr.Present (codes "e")) expr.Absent (expr.Truth true)) ≡ true
  pub absent_in_sum : is_mistaken (sum n expr.Absent) ≡ true
  pub absent_as_condition : is_mistaken (expr.Choose expr.Absent n n) ≡ true
  pub absent_in_output : Refused2 (run_of (output_y types.Int64 [] expr.Absent ∷ [])) 10 3
  pub absent_in_max : Refused2 (run_of (parts.Max expr.Absent ∷ [])) 10 3
  pub absent_assigned : Refused2 (run_of (counts ++ (parts.Step (set (codes "n") expr.Absent ∷ []) ∷ []))) 10 6
  pub present_in_version_1 : Refused (run_of (input_e ∷ output_y types.Bool (codes "e" ∷ []) (expr.Present (codes "e")) ∷ [])) 10 4
  -- 12: `present` uses its input, and an event output has needs of its own.
  pub hidden_presence : Refused2 (run_of (input_e ∷ output_y types.Bool [] (expr.Present (codes "e")) ∷ [])) 12 4
  pub needed_presence : Accepted2 (run_of (input_e ∷ output_y types.Bool (codes "e" ∷ []) (expr.Present (codes "e")) ∷ []))
  pub hidden_in_event : Refused2 (run_of (input_u ∷ output_p [] (expr.Var (codes "u")) ∷ [])) 12 4
  -- 14: connections of event ports.
  pub to_a_plain_input : Refused2 (event_pair (wire (port (codes "a") (codes "p")) (port (codes "b") (codes "u")) ∷ [])) 14 11
  pub from_a_plain_output : Refused2
      (unit_a (input_e ∷ output_y types.Int64 [] one ∷ []) ∷ instance (codes "a") ∷ instance (codes "b")
      ∷ wire (port (codes "a") (codes "y")) (port (codes "b") (codes "e")) ∷ stop ∷ []) 14 10
  -- 16: an event port, and a connection of events, count as two. A sample counts as one.
  pub sixteen_events : exceeds (system_of 2 []) (UnitScope with_e) (repeat 15 (form.EventInput (event_in types.Bool) ∷ []))
      (form.EventInput (event_in types.Bool))
      ≡ false
  pub inputs_before : exceeds (system_of 2 []) (UnitScope with_e)
      (repeat 31 (form.Input (record { name = codes "u"; ty = types.Bool; start = literal.Truth true }) ∷ [])) (form.EventInput (event_in types.Bool))
      ≡ true
  pub outputs_before : exceeds (system_of 2 []) (UnitScope with_e)
      (repeat 31 (form.Output (record { name = codes "y"; ty = types.Bool; needs = []; value = one }) ∷ []))
      (form.EventOutput (event_out types.Bool [] expr.Absent))
      ≡ true
  pub connections : exceeds (system_of 2 (event_pair [])) TopScope (repeat 1024 (of_events ∷ [])) of_events ≡ true
  pub last_sample : exceeds (system_of 2 (event_pair [])) TopScope (repeat 2047 (form.Sample (port (codes "a") (codes "p")) ∷ []))
      (form.Sample (port (codes "a") (codes "p")))
      ≡ false
  -- 17: the zero that `absent` becomes is deeper by one where its type is `Fixed 0`.
  pub absent_at_32 : is_deep_event types.Int64 (gaps 31) ≡ false
  pub fixed_0_at_32 : is_deep_event (types.Fixed 0) (gaps 31) ≡ true
  -- 22: an event input is not assigned. 24: two needs have the same name.
  pub event_assigned : Refused2 (run_of (input_e ∷ parts.Step (set (codes "e") one ∷ []) ∷ [])) 22 5
  pub needed_twice : Refused2 (run_of (input_e ∷ output_p (codes "e" ∷ codes "e" ∷ []) one ∷ [])) 24 4
