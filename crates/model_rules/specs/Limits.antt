-- The limits of texts, systems, components and traces. The code has the same ones in `limits.rt`.
use Rattle.std.specs.Prelude.{ℕ, ◌==◌, if◌then◌else◌}

-- The most bytes of a text, with one end counted for each line.
abbrev pub text_limit : ℕ
text_limit = 1048576

-- The most bytes of a line, without its end.
abbrev pub line_limit : ℕ
line_limit = 1000

-- The most bytes of a name.
abbrev pub name_limit : ℕ
name_limit = 32

-- The most decimals of a number.
abbrev pub decimals_limit : ℕ
decimals_limit = 9

-- The most levels of an expression as a line writes it, with one for each pair of parentheses.
abbrev pub writing_limit : ℕ
writing_limit = 64

-- The most levels of an expression, where one without parts has one level.
abbrev pub depth_limit : ℕ
depth_limit = 32

-- The most blocks around a line of a unit.
abbrev pub block_limit : ℕ
block_limit = 16

-- The most turns of a `repeat`.
abbrev pub turn_limit : ℕ
turn_limit = 1000

-- The most parameters of a unit.
abbrev pub param_limit : ℕ
param_limit = 32

-- The most states of a unit.
abbrev pub state_limit : ℕ
state_limit = 64

-- The most locals of a unit.
abbrev pub local_limit : ℕ
local_limit = 64

-- The most inputs of a unit in its plain form.
abbrev pub input_limit : ℕ
input_limit = 32

-- The most outputs of a unit in its plain form.
abbrev pub output_limit : ℕ
output_limit = 32

-- The most units of a system.
abbrev pub unit_limit : ℕ
unit_limit = 64

-- The most instances of a system.
abbrev pub instance_limit : ℕ
instance_limit = 64

-- The most connections of a system in its plain form.
abbrev pub connection_limit : ℕ
connection_limit = 2048

-- The most ports that a system samples.
abbrev pub sample_limit : ℕ
sample_limit = 2048

-- The greatest cost of one call of a component.
abbrev pub cost_limit : ℕ
cost_limit = 100000

-- The most rows of a trace.
abbrev pub rows_limit : ℕ
rows_limit = 100000

-- The most rows of a trace, times the number of instances.
abbrev pub cell_limit : ℕ
cell_limit = 1000000

-- The most steps without length in one row.
abbrev pub zero_limit : ℕ
zero_limit = 10000

-- The most steps without length in one row, where a text of this version gives none.
abbrev pub default_zeros : ℕ → ℕ
default_zeros version = if version == 2 then 1000 else 100

-- The most rows of a trace, where a text of this version gives none and has so few instances that they are allowed.
abbrev pub default_rows_limit : ℕ → ℕ
default_rows_limit version = if version == 2 then 10000 else rows_limit

-- The most words on the stack of a component's code.
abbrev pub height_limit : ℕ
height_limit = 64

-- The most workers of a run.
abbrev pub worker_limit : ℕ
worker_limit = 16

-- The most rows for which inputs are guessed.
abbrev pub window_limit : ℕ
window_limit = 16

-- The most rounds of two nodes.
abbrev pub round_limit : ℕ
round_limit = 100000
