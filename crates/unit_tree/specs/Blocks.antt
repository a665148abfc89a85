-- Blocks: which are open after given lines, and which lines are allowed there.
use Rattle.std.specs.Prelude.{Bool, true, false, not, ◌&&◌, nat_lt, List, [], ◌∷◌, ◌++◌, drop, if◌then◌else◌}
use Rattle.std.specs.List.{fold, list_any, count_by}
use Rattle.model_rules.specs.Limits.{block_limit}
use Rattle.unit_tree.specs.LineForms.{are_alike}
use Rattle.unit_tree.specs.declared.line_form.LineForm.{LineForm}
use Rattle.unit_tree.specs.declared.line_form.LineForm.TheVariants as form

-- A block that is open. For an `if` it is known whether its `else` has come.
pub data Block : Type 0 where
  InUnit : Block
  InStep : Block
  InIf : Block
  InElse : Block
  InRepeat : Block
  InInstance : Block

-- The open blocks after one more line, the innermost first.
abbrev pub behind : List Block → LineForm → List Block
behind blocks (form.Unit name) = InUnit ∷ blocks
behind blocks form.Step = InStep ∷ blocks
behind blocks (form.If cond) = InIf ∷ blocks
behind blocks form.Else = InElse ∷ drop 1 blocks
behind blocks (form.Repeat count) = InRepeat ∷ blocks
behind blocks (form.Instance name unit) = InInstance ∷ blocks
behind blocks form.End = drop 1 blocks
behind blocks _ = blocks

-- ---- The lines before a line

abbrev pub opens_unit : LineForm → Bool
opens_unit (form.Unit name) = true
opens_unit _ = false

-- What comes before a line: the blocks that are open there, the innermost first; the lines since the last `unit`;
-- and all lines.
pub record Before : Type 0 where
  pub open_blocks : List Block
  pub in_unit : List LineForm
  pub in_text : List LineForm

abbrev pub no_lines : Before
no_lines = record { open_blocks = []; in_unit = []; in_text = [] }

-- The same after one more line.
abbrev pub and_line : Before → LineForm → Before
and_line before line = record {
  open_blocks = behind before.open_blocks line;
  in_unit = if opens_unit line then [] else before.in_unit ++ (line ∷ []);
  in_text = before.in_text ++ (line ∷ []);
}

abbrev pub and_lines : Before → List LineForm → Before
and_lines before lines = fold and_line before lines

-- The blocks that are open after these lines.
abbrev pub open_blocks : List LineForm → List Block
open_blocks lines = (and_lines no_lines lines).open_blocks

-- ---- Which lines a block may hold

abbrev pub at_top : List Block → Bool
at_top [] = true
at_top _ = false

abbrev pub in_unit : List Block → Bool
in_unit (InUnit ∷ blocks) = true
in_unit _ = false

abbrev pub in_instance : List Block → Bool
in_instance (InInstance ∷ blocks) = true
in_instance _ = false

-- Step lines are allowed in a `step`, and in the blocks of `if` and `repeat` inside it.
abbrev pub in_step : List Block → Bool
in_step (InStep ∷ blocks) = true
in_step (InIf ∷ blocks) = true
in_step (InElse ∷ blocks) = true
in_step (InRepeat ∷ blocks) = true
in_step _ = false

abbrev pub lacks_else : List Block → Bool
lacks_else (InIf ∷ blocks) = true
lacks_else _ = false

-- The innermost open block may have lines of the form.
abbrev pub holds_form : List Block → LineForm → Bool
holds_form blocks (form.Resolution decimals) = in_unit blocks
holds_form blocks (form.Param param) = in_unit blocks
holds_form blocks (form.State state) = in_unit blocks
holds_form blocks (form.Local local) = in_unit blocks
holds_form blocks (form.Input input) = in_unit blocks
holds_form blocks (form.EventInput event) = in_unit blocks
holds_form blocks (form.Output output) = in_unit blocks
holds_form blocks (form.EventOutput event) = in_unit blocks
holds_form blocks (form.Max value) = in_unit blocks
holds_form blocks form.Step = in_unit blocks
holds_form blocks form.End = not (at_top blocks)
holds_form blocks (form.Assign target value) = in_step blocks
holds_form blocks (form.If cond) = in_step blocks
holds_form blocks form.Else = lacks_else blocks
holds_form blocks (form.Repeat count) = in_step blocks
holds_form blocks (form.Accept value) = in_step blocks
holds_form blocks (form.Setting setting) = in_instance blocks
holds_form blocks _ = at_top blocks

-- ---- Lines that occur at most once

-- The lines before a line none of which may begin with the same keyword: `resolution`, `max` and `step` occur at
-- most once in a unit, and the header, `stop`, `longest`, `zero` and `rows` at most once in a text.
abbrev pub rivals : Before → LineForm → List LineForm
rivals before (form.Resolution decimals) = before.in_unit
rivals before (form.Max value) = before.in_unit
rivals before form.Step = before.in_unit
rivals before (form.Header version) = before.in_text
rivals before (form.Stop seconds) = before.in_text
rivals before (form.Longest seconds) = before.in_text
rivals before (form.Zero count) = before.in_text
rivals before (form.Rows count) = before.in_text
rivals before _ = []

abbrev pub has_rival : Before → LineForm → Bool
has_rival before line = list_any (are_alike line) (rivals before line)

-- ---- Blocks in blocks

abbrev pub is_inner : Block → Bool
is_inner InIf = true
is_inner InElse = true
is_inner InRepeat = true
is_inner _ = false

-- An `if` or a `repeat` is inside at most fifteen open blocks of `if` and `repeat`.
abbrev pub has_room : List Block → LineForm → Bool
has_room blocks (form.If cond) = nat_lt (count_by is_inner blocks) block_limit
has_room blocks (form.Repeat count) = nat_lt (count_by is_inner blocks) block_limit
has_room blocks _ = true

-- The line is allowed after those before it.
abbrev pub may_stand : Before → LineForm → Bool
may_stand before line =
    holds_form before.open_blocks line && (not (has_rival before line) && has_room before.open_blocks line)

-- Each line is allowed after those before it.
abbrev pub are_placed : Before → List LineForm → Bool
are_placed before [] = true
are_placed before (line ∷ lines) = may_stand before line && are_placed (and_line before line) lines
