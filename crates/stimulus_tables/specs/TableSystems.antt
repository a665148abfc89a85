-- The system of a table: a component that has the words of each moment from its time on.
use Rattle.std.specs.Prelude.{ℕ, ◌+◌, nat_le, ℤ, pos, unsigned_abs, List, [], ◌∷◌, map, codes, Option, Some, None, if◌then◌else◌}
use Rattle.std.specs.Int.{is_negative}
use Rattle.std.specs.List.{filter}
use Rattle.fixed_words.specs.declared.types.Literal.TheVariants as literal
use Rattle.fixed_words.specs.declared.types.Ty.TheVariants.{Int64}
use Rattle.unit_tree.specs.Trace.{Row}
use Rattle.unit_tree.specs.declared.expr.BinOp.TheVariants as by
use Rattle.unit_tree.specs.declared.expr.Expr.{Expr}
use Rattle.unit_tree.specs.declared.expr.Expr as expr
use Rattle.unit_tree.specs.declared.expr.UnOp.TheVariants as of
use Rattle.unit_tree.specs.declared.line.Line.{Line}
use Rattle.unit_tree.specs.declared.line.Line as line
use Rattle.unit_tree.specs.declared.system.Instance.{Instance}
use Rattle.unit_tree.specs.declared.system.System.{System}
use Rattle.unit_tree.specs.declared.unit.Output.{Output}
use Rattle.unit_tree.specs.declared.unit.State.{State}
use Rattle.unit_tree.specs.declared.unit.Unit.{Unit}
use Rattle.stimulus_tables.specs.Tables.{state_name}
use Rattle.stimulus_tables.specs.declared.moment.Moment.{Moment}

-- ---- The words of a table at a time

abbrev pub last_of : {A : Type 0} → A → List A → A
last_of first [] = first
last_of first (second ∷ others) = last_of second others

-- The words at a time: those of the last moment whose time is at most it, or the first words where there is none.
abbrev pub held : List ℤ → List Moment → ℕ → List ℤ
held first moments t = last_of first (map (λ moment. moment.words) (filter (λ moment. nat_le moment.time t) moments))

-- The row at a moment's time: its words are those of the table at this time.
abbrev pub row_at : Moment → List Moment → Moment → Row
row_at first later moment = record { point = record { t = moment.time; n = 0 }; words = held first.words later moment.time }

-- ---- Expressions and lines

-- A word. Numbers in expressions are not negative, so a negative word is the operation `-` of a number.
abbrev pub number : ℤ → Expr
number word = if is_negative word then expr.Unary of.Neg (expr.Number (pos (unsigned_abs word)) 0) else expr.Number word 0

-- `T - t`
abbrev pub until : ℕ → Expr
until time = expr.Binary by.Sub (expr.Number (pos time) 0) expr.Time

-- `t < T`
abbrev pub is_before : ℕ → Expr
is_before time = expr.Binary by.Lt expr.Time (expr.Number (pos time) 0)

-- From before a time, with the moments after it: `if t < T then T - t else ..`, and at the last time `T - t`.
abbrev pub to_next : ℕ → List Moment → Expr
to_next time [] = until time
to_next time (next ∷ later) = expr.Choose (is_before time) (until time) (to_next next.time later)

-- `t + h >= T`
abbrev pub is_reached : ℕ → Expr
is_reached time = expr.Binary by.Ge (expr.Binary by.Add expr.Time expr.Step) (expr.Number (pos time) 0)

-- `sK := word`, for each word, where the first state has this number.
abbrev pub sets_from : ℕ → List ℤ → List Line
sets_from first [] = []
sets_from first (word ∷ words) = line.Assign (state_name first) (number word) ∷ sets_from (first + 1) words

-- `if t + h >= T`, with its lines.
abbrev pub takes : Moment → Line
takes moment = line.If (is_reached moment.time) (sets_from 0 moment.words) None

-- ---- The unit

-- `state sK : Int64 = word`, for each word.
abbrev pub state_with : ℕ → ℤ → State
state_with number word = record { name = state_name number; ty = Int64; start = literal.Number word 0 }

abbrev pub states_from : ℕ → List ℤ → List State
states_from first [] = []
states_from first (word ∷ words) = state_with first word ∷ states_from (first + 1) words

-- `output name : Int64 = sK`, for each name.
abbrev pub output_with : List ℕ → ℕ → Output
output_with name number = record { name = name; ty = Int64; needs = []; value = expr.Var (state_name number) }

abbrev pub outputs_from : ℕ → List (List ℕ) → List Output
outputs_from first [] = []
outputs_from first (name ∷ names) = output_with name first ∷ outputs_from (first + 1) names

-- The limit leads to the next time. With one moment there is no next time, so no `max` and no step.
abbrev pub max_of_moments : List Moment → Option Expr
max_of_moments [] = None
max_of_moments (next ∷ later) = Some (to_next next.time later)

abbrev pub step_of_moments : List Moment → Option (List Line)
step_of_moments [] = None
step_of_moments (next ∷ later) = Some (map takes (next ∷ later))

abbrev pub table_unit : List (List ℕ) → Moment → List Moment → Unit
table_unit names first later = record {
  name = codes "Table";
  resolution = None;
  params = [];
  states = states_from 0 first.words;
  locals = [];
  inputs = [];
  events_in = [];
  outputs = outputs_from 0 names;
  events_out = [];
  max = max_of_moments later;
  step = step_of_moments later;
}

-- ---- The system

abbrev pub last_time : Moment → List Moment → ℕ
last_time first later = (last_of first later).time

-- `instance table : Table`
abbrev pub table_instance : Instance
table_instance = record { name = codes "table"; unit = codes "Table"; settings = [] }

-- The unit and its one instance, which runs until the last time.
abbrev pub table_system : List (List ℕ) → Moment → List Moment → System
table_system names first later = record {
  version = 1;
  units = table_unit names first later ∷ [];
  instances = table_instance ∷ [];
  wires = [];
  stop = Some (literal.Number (pos (last_time first later)) 0);
  longest = None;
  zero = None;
  rows = None;
  samples = [];
}
