-- Worked lines of texts: where each line ends, what it has, and where a form is allowed.
use Rattle.std.specs.Prelude.{◌≡◌, Bool, true, false, List, [], ◌∷◌, ◌++◌, codes, pos}
use Rattle.std.specs.List.{repeat}
use Rattle.fixed_words.specs.declared.types.Literal.TheVariants as literal
use Rattle.fixed_words.specs.declared.types.Ty.TheVariants.{Int64}
use Rattle.unit_tree.specs.Blocks.{InUnit, InStep, InElse, no_lines, and_lines, open_blocks, may_stand}
use Rattle.unit_tree.specs.Lines.{source_lines, size_of, code_of, is_blank_line, has_forbidden_byte}
use Rattle.unit_tree.specs.declared.expr.Expr as expr
use Rattle.unit_tree.specs.declared.line_form.LineForm.{LineForm}
use Rattle.unit_tree.specs.declared.line_form.LineForm.TheVariants as form

-- `cosim 1`, `unit A`, `step` and `if true`
abbrev pub header : List LineForm
header = form.Header 1 ∷ []

abbrev pub unit : List LineForm
unit = header ++ (form.Unit (codes "A") ∷ [])

abbrev pub step : List LineForm
step = unit ++ (form.Step ∷ [])

abbrev pub branch : LineForm
branch = form.If (expr.Truth true)

abbrev pub choice : List LineForm
choice = step ++ (branch ∷ [])

-- `stop 3`
abbrev pub stop : LineForm
stop = form.Stop (literal.Number (pos 3) 0)

-- `max 3`
abbrev pub limit : LineForm
limit = form.Max (expr.Number (pos 3) 0)

-- `event input e : Int64`
abbrev pub event : LineForm
event = form.EventInput (record { name = codes "e"; ty = Int64 })

-- Whether a line may follow these.
abbrev pub stands_behind : List LineForm → LineForm → Bool
stands_behind lines line = may_stand (and_lines no_lines lines) line

pub record LinesAreWorked : Type 0 where
  -- A line ends with LF or with the text. One CR before the end is no part of it, and a second one is.
  pub empty_text : source_lines [] ≡ []
  pub blank_lines : source_lines (10 ∷ 10 ∷ []) ≡ [] ∷ [] ∷ []
  pub return_alone : source_lines (13 ∷ []) ≡ [] ∷ []
  pub two_returns : source_lines (97 ∷ 13 ∷ 13 ∷ 10 ∷ 98 ∷ []) ≡ (97 ∷ 13 ∷ []) ∷ codes "b" ∷ []
  pub last_end_counted : size_of (codes "ab") ≡ 3
  pub last_end_there : size_of (97 ∷ 98 ∷ 10 ∷ []) ≡ 3
  -- A comment goes to the end of the line and may have any byte.
  pub code : code_of (codes "stop 3 # a # b") ≡ codes "stop 3 "
  pub comment_is_blank : is_blank_line (32 ∷ 9 ∷ 35 ∷ 200 ∷ []) ≡ true
  pub comment_allows : has_forbidden_byte (97 ∷ 35 ∷ 200 ∷ 13 ∷ []) ≡ false
  pub code_forbids : has_forbidden_byte (200 ∷ 35 ∷ []) ≡ true
  pub tab_allowed : has_forbidden_byte (9 ∷ 126 ∷ 32 ∷ []) ≡ false
  pub delete_forbidden : has_forbidden_byte (127 ∷ []) ≡ true

pub record BlocksAreWorked : Type 0 where
  -- The blocks that lines leave open, the innermost first.
  pub in_else : open_blocks (choice ++ (form.Else ∷ [])) ≡ InElse ∷ InStep ∷ InUnit ∷ []
  pub after_end : open_blocks (choice ++ (form.Else ∷ form.End ∷ [])) ≡ InStep ∷ InUnit ∷ []
  -- A form is allowed only in its block.
  pub max_in_unit : stands_behind unit (form.Max (expr.Truth true)) ≡ true
  pub stop_in_unit : stands_behind unit stop ≡ false
  pub stop_at_top : stands_behind (unit ++ (form.End ∷ [])) stop ≡ true
  pub end_at_top : stands_behind header form.End ≡ false
  pub step_in_step : stands_behind step form.Step ≡ false
  pub assignment_in_choice : stands_behind choice (form.Assign (codes "n") (expr.Truth true)) ≡ true
  pub assignment_in_unit : stands_behind unit (form.Assign (codes "n") (expr.Truth true)) ≡ false
  pub event_in_unit : stands_behind unit event ≡ true
  pub event_in_step : stands_behind step event ≡ false
  -- One `else` in an `if`, and none elsewhere.
  pub else_in_if : stands_behind choice form.Else ≡ true
  pub second_else : stands_behind (choice ++ (form.Else ∷ [])) form.Else ≡ false
  pub else_in_step : stands_behind step form.Else ≡ false
  pub else_of_inner : stands_behind (choice ++ (form.Else ∷ branch ∷ [])) form.Else ≡ true
  -- Lines that are allowed once.
  pub second_header : stands_behind header (form.Header 1) ≡ false
  pub second_stop : stands_behind (header ++ (stop ∷ [])) stop ≡ false
  pub second_max : stands_behind (unit ++ (limit ∷ [])) limit ≡ false
  pub max_of_next_unit : stands_behind (unit ++ (limit ∷ form.End ∷ form.Unit (codes "B") ∷ [])) limit ≡ true
  pub second_step : stands_behind (step ++ (form.End ∷ [])) form.Step ≡ false
  -- Sixteen blocks in each other, not counting those of `unit` and `step`.
  pub sixteenth : stands_behind (step ++ repeat 15 (branch ∷ [])) (form.Repeat 2) ≡ true
  pub seventeenth : stands_behind (step ++ repeat 16 (branch ∷ [])) (form.Repeat 2) ≡ false
