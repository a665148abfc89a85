-- Worked texts of the whole language: the system of each, or the line and the rule by which it is refused.
use Rattle.std.specs.Prelude.{ℕ, List, [], ◌∷◌, ◌++◌, codes, pos, neg_ℤ, true, false, Some, None}
use Rattle.std.specs.List.{flat_map, repeat}
use Rattle.fixed_words.specs.declared.types.Literal.TheVariants as literal
use Rattle.fixed_words.specs.declared.types.Ty.TheVariants as types
use Rattle.unit_tree.specs.Canonical.{canonical_text}
use Rattle.worked_facts.specs.Counter.{counter}
use Rattle.unit_tree.specs.Parts.{bare_system}
use Rattle.unit_tree.specs.Printable.{IsPrintable}
use Rattle.unit_tree.specs.SourceLines.{ReadsFrom}
use Rattle.unit_tree.specs.Texts.{Reads, IsRefused}
use Rattle.unit_tree.specs.declared.expr.BinOp.TheVariants as by
use Rattle.unit_tree.specs.declared.expr.Expr as expr
use Rattle.unit_tree.specs.declared.expr.UnOp.TheVariants as of
use Rattle.unit_tree.specs.declared.line.Line.{Line}
use Rattle.unit_tree.specs.declared.line.Line as line
use Rattle.unit_tree.specs.declared.system.System.{System}
use Rattle.unit_tree.specs.declared.unit.Unit.{Unit}

-- Lines, each ended by LF.
abbrev pub text_of : List (List ℕ) → List ℕ
text_of lines = flat_map (λ line. line ++ (10 ∷ [])) lines

-- A line with a CR after it.
abbrev pub returned : List ℕ → List ℕ
returned line = line ++ (13 ∷ [])

-- ---- Texts that have a system

-- The counter of the worked trace, with ends by CR and LF, comments, blank lines, indentation and needless zeros.
abbrev pub commented_counter : List ℕ
commented_counter = text_of (
    returned (codes "cosim 01")
    ∷ returned (codes "# 20 C")
    ∷ returned []
    ∷ codes "unit Counter # one state"
    ∷ codes "  state n : Int64 = 00"
    ∷ codes "  output y : Int64 = n"
    ∷ codes "  step"
    ∷ codes "    n := (n) + 1"
    ∷ codes "  end"
    ∷ codes "end"
    ∷ codes "instance a : Counter"
    ∷ codes "end"
    ∷ codes "stop 3"
    ∷ [])
    ++ codes "longest 1"

-- Parts in another order than the canonical one, a literal `-0`, whose sign is lost, needs, and a decimal number.
abbrev pub thermal_unit : Unit
thermal_unit = record {
  name = codes "A";
  resolution = Some 1;
  params = [];
  states = record { name = codes "n"; ty = types.Fixed 1; start = literal.Number (pos 0) 1 } ∷ [];
  locals = [];
  inputs = record { name = codes "u"; ty = types.Int64; start = literal.Number (neg_ℤ (pos 9223372036854775808)) 0 } ∷ [];
  events_in = [];
  outputs =
      record {
        name = codes "y";
        ty = types.Bool;
        needs = codes "u" ∷ [];
        value =
            expr.Binary by.And (expr.Truth true) (expr.Unary of.Not (expr.Binary by.Lt (expr.Var (codes "n")) (expr.Number (pos 5) 1)));
      }
      ∷ [];
  events_out = [];
  max = Some (expr.Var (codes "u"));
  step = None;
}

abbrev pub thermal : System
thermal = record {
  version = 1;
  units = thermal_unit ∷ [];
  instances = record { name = codes "a"; unit = codes "A"; settings = record { name = codes "k"; value = literal.Truth false } ∷ [] } ∷ [];
  wires = record { from = record { instance = codes "a"; port = codes "y" }; to = record { instance = codes "b"; port = codes "u" } } ∷ [];
  stop = Some (literal.Number (pos 5) 1);
  longest = None;
  zero = Some 0;
  rows = Some 100000;
  samples = record { instance = codes "a"; port = codes "y" } ∷ [];
}

abbrev pub thermal_text : List ℕ
thermal_text = text_of (
    codes "cosim 1"
    ∷ codes "sample a.y"
    ∷ codes "stop 0.5"
    ∷ codes "zero 0"
    ∷ codes "unit A"
    ∷ codes "max(u)"
    ∷ codes "output y:Bool needs u=true and not n<0.5"
    ∷ codes "input u:Int64=-9223372036854775808"
    ∷ codes "state n:Fixed 01=- 0.0"
    ∷ codes "resolution 1"
    ∷ codes "end"
    ∷ codes "rows 100000"
    ∷ codes "connect a.y->b.u"
    ∷ codes "instance a:A"
    ∷ codes "k=false"
    ∷ codes "end"
    ∷ [])

-- Every keyword of a step, and every type of integers.
abbrev pub mode_line : Line
mode_line =
    line.If (expr.Binary by.Ge (expr.Var (codes "k")) (expr.Var (codes "l")))
    (line.Repeat 1000
    (line.Assign (codes "x")
    (expr.Binary by.And (expr.Binary by.Gt (expr.Var (codes "m")) (expr.Var (codes "p")))
    (expr.Binary by.Ne (expr.Unary of.Abs (expr.Var (codes "q"))) (expr.Var (codes "r"))))
    ∷ [])
    ∷ [])
    (Some (line.Accept (expr.Binary by.Min expr.Step (expr.Binary by.Max expr.Time (expr.Number (pos 1) 0))) ∷ []))

abbrev pub mode_unit : Unit
mode_unit = record {
  name = codes "Mode";
  resolution = None;
  params = record { name = codes "k"; ty = types.Int8; start = literal.Number (neg_ℤ (pos 128)) 0 }
      ∷ record { name = codes "l"; ty = types.UInt8; start = literal.Number (pos 255) 0 } ∷ [];
  states =
      record { name = codes "m"; ty = types.Int16; start = literal.Number (pos 0) 0 }
      ∷ record { name = codes "p"; ty = types.UInt16; start = literal.Number (pos 0) 0 }
      ∷ record { name = codes "q"; ty = types.Int32; start = literal.Number (pos 0) 0 }
      ∷ record { name = codes "r"; ty = types.UInt32; start = literal.Number (pos 0) 0 }
      ∷ [];
  locals = record { name = codes "x"; ty = types.Bool } ∷ record { name = codes "w"; ty = types.Fixed 9 } ∷ [];
  inputs = [];
  events_in = [];
  outputs = [];
  events_out = [];
  max = None;
  step = Some (mode_line ∷ []);
}

abbrev pub mode : System
mode = record {
  version = 1;
  units = mode_unit ∷ [];
  instances = [];
  wires = [];
  stop = None;
  longest = Some (literal.Number (pos 9223372036854775807) 0);
  zero = None;
  rows = None;
  samples = [];
}

abbrev pub mode_text : List ℕ
mode_text = text_of (
    codes "cosim 1"
    ∷ codes "unit Mode"
    ∷ codes "param k:Int8=-128"
    ∷ codes "param l:UInt8=255"
    ∷ codes "state m:Int16=0"
    ∷ codes "state p:UInt16=0"
    ∷ codes "state q:Int32=0"
    ∷ codes "state r:UInt32=0"
    ∷ codes "local x:Bool"
    ∷ codes "local w:Fixed 9"
    ∷ codes "step"
    ∷ codes "if k>=l"
    ∷ codes "repeat 1000"
    ∷ codes "x:=m>p and abs(q)!=r"
    ∷ codes "end"
    ∷ codes "else"
    ∷ codes "accept min(h,max(t,1))"
    ∷ codes "end"
    ∷ codes "end"
    ∷ codes "end"
    ∷ codes "longest 9223372036854775807"
    ∷ [])

-- A text of version 2 with event ports. An expression makes one of them present or absent. The event output comes before the event
-- input, which is first in canonical order.
abbrev pub relay_text : List ℕ
relay_text = text_of (
    []
    ∷ codes "cosim 2"
    ∷ codes "unit Relay"
    ∷ codes "event output p : Fixed 2 needs e = if present(e) then 0.50 else absent"
    ∷ codes "event input e : Int64"
    ∷ codes "end"
    ∷ codes "stop 3"
    ∷ [])

abbrev pub relay_unit : Unit
relay_unit = record {
  name = codes "Relay";
  resolution = None;
  params = [];
  states = [];
  locals = [];
  inputs = [];
  events_in = record { name = codes "e"; ty = types.Int64 } ∷ [];
  outputs = [];
  events_out =
      record {
        name = codes "p";
        ty = types.Fixed 2;
        needs = codes "e" ∷ [];
        value =
            expr.Choose (expr.Present (codes "e")) (expr.Number (pos 50) 2) expr.Absent;
      }
      ∷ [];
  max = None;
  step = None;
}

abbrev pub relay : System
relay = record {
  version = 2;
  units = relay_unit ∷ [];
  instances = [];
  wires = [];
  stop = Some (literal.Number (pos 3) 0);
  longest = None;
  zero = None;
  rows = None;
  samples = [];
}

-- A letter, so many times.
abbrev pub letters : ℕ → List ℕ
letters count = repeat count (codes "a")

-- A line of a thousand bytes, the last of which is the first of two CR: in a comment it is allowed.
abbrev pub long_line_text : List ℕ
long_line_text = text_of (returned (codes "cosim 1#" ++ letters 991 ++ (13 ∷ [])) ∷ [])

pub record TextsAreRead : Type 0 where
  pub counter_is_read : Reads commented_counter counter
  -- The lines of the text that the canonical lines came from, where its parts are in another order.
  pub thermal_is_read : ReadsFrom thermal_text thermal (1 ∷ 5 ∷ 10 ∷ 9 ∷ 8 ∷ 7 ∷ 6 ∷ 11 ∷ 14 ∷ 15 ∷ 16 ∷ 13 ∷ 3 ∷ 4 ∷ 12 ∷ 2 ∷ [])
  pub mode_is_read : Reads mode_text mode
  pub long_line_is_read : Reads long_line_text (bare_system 1)
  pub relay_is_read : ReadsFrom relay_text relay (2 ∷ 3 ∷ 5 ∷ 4 ∷ 6 ∷ 7 ∷ [])
  -- The counter has a canonical text, and it is read back.
  pub counter_is_printable : IsPrintable counter
  pub canonical_is_read : Reads (canonical_text counter) counter

-- ---- Texts that are refused

pub record TextsAreRefused : Type 0 where
  -- 2: the LF that the last line lacks is counted.
  pub long_text : IsRefused (letters 1048576) 1 2
  -- 7 at line 1 where there are only blank lines.
  pub empty : IsRefused [] 1 7
  pub blank : IsRefused (text_of ([] ∷ codes "# nothing" ∷ [])) 1 7
  -- 1: a byte that is not allowed in code; a second CR is one.
  pub forbidden : IsRefused (200 ∷ []) 1 1
  pub two_returns : IsRefused (text_of (returned (returned (codes "cosim 1")) ∷ [])) 1 1
  -- 3: more than 1,000 bytes without the end.
  pub long_line : IsRefused (text_of ((codes "cosim 1#" ++ letters 993) ∷ [])) 1 3
  -- 4: no form; a number that continues as a word, and the header with decimals.
  pub hello : IsRefused (codes "hello") 1 4
  pub two_ends : IsRefused (codes "end end") 1 4
  pub number_word : IsRefused (codes "1a") 1 4
  pub decimal_header : IsRefused (codes "cosim 1.0") 1 4
  pub long_word : IsRefused (letters 33) 1 4
  pub ten_decimals : IsRefused (codes "0.0000000001") 1 4
  pub above_all_numbers : IsRefused (codes "9223372036854775809") 1 4
  pub bare_point : IsRefused (codes "1.") 1 4
  -- 4: a form of version 2 in a text of version 1, also its header.
  pub later_version : IsRefused (text_of (codes "cosim 1" ∷ codes "cosim 2" ∷ [])) 2 4
  pub event_of_version_1 : IsRefused (text_of (codes "cosim 1" ∷ codes "unit A" ∷ codes "event input e : Int64" ∷ codes "end" ∷ [])) 3 4
  pub third_version : IsRefused (codes "cosim 3") 1 4
  -- 5 before 7: a form that is not allowed there.
  pub stray_end : IsRefused (codes "end") 1 5
  pub second_header : IsRefused (text_of (codes "cosim 1" ∷ codes "cosim 1" ∷ [])) 2 5
  pub earlier_version : IsRefused (text_of (codes "cosim 2" ∷ codes "cosim 1" ∷ [])) 2 5
  -- 7: another form than the header comes first.
  pub no_header : IsRefused (text_of ([] ∷ codes "unit A" ∷ [])) 2 7
  -- 6: a block is open at the end, at the last line, which may be blank.
  pub unended : IsRefused (text_of (codes "cosim 1" ∷ codes "unit A" ∷ [] ∷ [])) 3 6
