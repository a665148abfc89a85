-- The draft of a system agrees with the nesting of the lines: with each line that is allowed it is that of one more
-- line, and where a line is not allowed there is none.
use Rattle.std.proofs.Common.{◌≡◌, cond, ℕ, ◌+◌, Bool, true, false, not, List, [], ◌∷◌, ◌++◌, append_assoc, length, Option, Some, None, refl, ap, sym, subst}
use Rattle.std.proofs.Common.{◌∙◌, arith}
use Rattle.std.specs.Prelude.{◌&&◌, is_some, nat_lt, reverse, option_and_then}
use Rattle.std.specs.List.{count_by, flat_map, fold, list_any}
use Rattle.std.specs.Option.{option_map}
use Rattle.std.proofs.lemmas.List.{append-nil, length-reverse, reverse-append}
use Rattle.unit_tree.specs.Blocks as blocks
use Rattle.unit_tree.specs.Blocks.{Block, no_lines, and_lines, holds_form, has_rival, has_room, may_stand, are_placed, is_inner}
use Rattle.unit_tree.specs.LineForms.{are_alike}
use Rattle.unit_tree.specs.Parts as parts
use Rattle.unit_tree.specs.Parts.{Part, UnitPart, line_forms, unit_part_forms, text_forms, unit_of, system_of}
use Rattle.unit_tree.specs.declared.line.Line.{Line}
use Rattle.unit_tree.specs.declared.line_form.LineForm.{LineForm}
use Rattle.unit_tree.specs.declared.line_form.LineForm.TheVariants as form
use Rattle.unit_tree.specs.declared.system.Instance.{Instance}
use Rattle.unit_tree.specs.declared.system.System.{System}
use Rattle.unit_tree.specs.declared.unit.Unit.{Unit}
use Rattle.unit_text.specs.Drafts.{in_block, headed, with_form, once, split_last, turned_by, ended_by}
use Rattle.unit_text.specs.Nesting.{Inner, Open, AtTop, InUnit, InStep, InInstance, Nested, opened, and_form, around_forms, nested_forms, block_of, blocks_of}
use Rattle.unit_text.specs.declared.draft.Around.{Around}
use Rattle.unit_text.specs.declared.draft.Draft.{Draft}
use Rattle.unit_text.specs.declared.draft.Head.{Head}
use Rattle.unit_text.specs.declared.draft.Head.TheVariants.{Then, Else, Times}
use Rattle.unit_text.specs.declared.draft.OpenBlock.{OpenBlock}
use Rattle.unit_text.specs.declared.draft.OpenBlock.TheVariants as block
use Rattle.unit_text.specs.declared.draft.StepSoFar.{StepSoFar}
use Rattle.unit_text.proofs.DraftLemmas.{split_behind}
use Rattle.unit_text.proofs.NestingLaws.{before_next, blocks_are, holding, in_unit_at, in_step_at, in_instance_at, blocks_around, in_step, header_has_rival}
use Rattle.unit_text.proofs.AnswerLaws.{placed_at}
use Rattle.unit_text.proofs.PartsAdded.{first_said, with_last, with_last_inside, system_and_part, unit_and_part}
use Rattle.unit_text.proofs.SaidOnce.{stop_said, longest_said, zero_said, rows_said, resolution_said, max_said, step_said, text_before, unit_before}

-- ---- The draft of what lines nest to

abbrev pub step_of : Inner → StepSoFar
step_of inner = record { lines = inner.lines; around = reverse inner.around }

abbrev pub open_of : Open → OpenBlock
open_of AtTop = block.Top
open_of (InUnit name inside) = block.Unit (unit_of name inside)
open_of (InStep name inside inner) = block.Step (unit_of name inside) (step_of inner)
open_of (InInstance instance) = block.Instance instance

-- The system of the complete parts, and the open block.
abbrev pub draft_of : Nested → Draft
draft_of nested = record { system = system_of nested.version nested.parts; block = open_of nested.block }

-- ---- Whether a line is allowed

abbrev rules_kept : List Block → Bool → LineForm → Bool
rules_kept open_before rival some = holds_form open_before some && (not rival && has_room open_before some)

may_is : (nested : Nested) (some : LineForm) (rival : Bool) → has_rival (before_next nested) some ≡ rival
    → may_stand (before_next nested) some ≡ rules_kept (blocks_of nested.block) rival some
may_is nested some rival is =
    ap (λ open_before. rules_kept open_before (has_rival (before_next nested) some) some) (blocks_are nested)
    ∙ ap (λ told. rules_kept (blocks_of nested.block) told some) is

-- How a line changes the draft of what is nested: it is that of one more line, if the line is allowed.
abbrev Becomes : Nested → LineForm → Bool → Type 0
Becomes nested some may = with_form (draft_of nested) some ≡ cond may (Some (draft_of (and_form nested some))) None

abbrev Goes : Nested → LineForm → Type 0
Goes nested some = Becomes nested some (may_stand (before_next nested) some)

by_rival : (nested : Nested) (some : LineForm) (rival : Bool) → has_rival (before_next nested) some ≡ rival
    → Becomes nested some (rules_kept (blocks_of nested.block) rival some) → Goes nested some
by_rival nested some rival is becomes = subst (Becomes nested some) (sym (may_is nested some rival is)) becomes

-- A line without rivals.
plainly : (nested : Nested) (some : LineForm) → has_rival (before_next nested) some ≡ false
    → Becomes nested some (rules_kept (blocks_of nested.block) false some) → Goes nested some
plainly nested some is becomes = by_rival nested some false is becomes

-- An item that may occur once.
once_said : {A B : Type 0} (said : Option A) (now : B) → once said now ≡ cond (true && (not (is_some said) && true)) (Some now) None
once_said (Some said) now = refl
once_said None now = refl

mapped_once : {A B C : Type 0} (f : B → C) (said : Option A) (now : B) → option_map f (once said now) ≡ once said (f now)
mapped_once f (Some said) now = refl
mapped_once f None now = refl

-- Where there was no such item before, it doesn't matter how the first one is kept.
only_once : {A B : Type 0} (said : Option A) (now : A) (keep : Option A → B) → once said (keep (Some now)) ≡ once said (keep (first_said said now))
only_once (Some said) now keep = refl
only_once None now keep = refl

-- ---- At the top

in_text_rival : (version : ℕ) (all : List Part) (some : LineForm)
    → list_any (are_alike some) (and_lines no_lines (nested_forms (holding version all))).in_text ≡ list_any (are_alike some) (text_forms version all)
in_text_rival version all some = ap (list_any (are_alike some)) (text_before (nested_forms (holding version all)) ∙ append-nil (text_forms version all))

part_goes : (version : ℕ) (all : List Part) (part : Part)
    → draft_of (holding version (all ++ (part ∷ []))) ≡ record { system = with_last part (system_of version all); block = block.Top }
part_goes version all part = ap (λ system. record { system = system; block = block.Top }) (system_and_part version all part)

abbrev top : System → Draft
top system = record { system = system; block = block.Top }

top_goes : (version : ℕ) (all : List Part) (some : LineForm) → Goes (holding version all) some
top_goes version all (form.Header other) = by_rival (holding version all) (form.Header other) true (header_has_rival (holding version all) other) refl
top_goes version all (form.Unit name) = plainly (holding version all) (form.Unit name) refl refl
top_goes version all (form.Resolution decimals) =
    by_rival (holding version all) (form.Resolution decimals) (has_rival (before_next (holding version all)) (form.Resolution decimals)) refl refl
top_goes version all (form.Param param) =
    by_rival (holding version all) (form.Param param) (has_rival (before_next (holding version all)) (form.Param param)) refl refl
top_goes version all (form.State state) =
    by_rival (holding version all) (form.State state) (has_rival (before_next (holding version all)) (form.State state)) refl refl
top_goes version all (form.Local local) =
    by_rival (holding version all) (form.Local local) (has_rival (before_next (holding version all)) (form.Local local)) refl refl
top_goes version all (form.Input input) =
    by_rival (holding version all) (form.Input input) (has_rival (before_next (holding version all)) (form.Input input)) refl refl
top_goes version all (form.EventInput event) =
    by_rival (holding version all) (form.EventInput event) (has_rival (before_next (holding version all)) (form.EventInput event)) refl refl
top_goes version all (form.Output output) =
    by_rival (holding version all) (form.Output output) (has_rival (before_next (holding version all)) (form.Output output)) refl refl
top_goes version all (form.EventOutput event) =
    by_rival (holding version all) (form.EventOutput event) (has_rival (before_next (holding version all)) (form.EventOutput event)) refl refl
top_goes version all (form.Max value) =
    by_rival (holding version all) (form.Max value) (has_rival (before_next (holding version all)) (form.Max value)) refl refl
top_goes version all form.Step = by_rival (holding version all) form.Step (has_rival (before_next (holding version all)) form.Step) refl refl
top_goes version all form.End = by_rival (holding version all) form.End (has_rival (before_next (holding version all)) form.End) refl refl
top_goes version all (form.Assign target value) =
    by_rival (holding version all) (form.Assign target value) (has_rival (before_next (holding version all)) (form.Assign target value)) refl refl
top_goes version all (form.If condition) =
    by_rival (holding version all) (form.If condition) (has_rival (before_next (holding version all)) (form.If condition)) refl refl
top_goes version all form.Else = by_rival (holding version all) form.Else (has_rival (before_next (holding version all)) form.Else) refl refl
top_goes version all (form.Repeat count) =
    by_rival (holding version all) (form.Repeat count) (has_rival (before_next (holding version all)) (form.Repeat count)) refl refl
top_goes version all (form.Accept value) =
    by_rival (holding version all) (form.Accept value) (has_rival (before_next (holding version all)) (form.Accept value)) refl refl
top_goes version all (form.Instance name unit) = plainly (holding version all) (form.Instance name unit) refl refl
top_goes version all (form.Setting setting) =
    by_rival (holding version all) (form.Setting setting) (has_rival (before_next (holding version all)) (form.Setting setting)) refl refl
top_goes version all (form.Connect wire) = plainly (holding version all) (form.Connect wire) refl (ap Some (sym (part_goes version all (parts.Connects wire))))
top_goes version all (form.Stop seconds) =
    by_rival (holding version all) (form.Stop seconds) (is_some (system_of version all).stop)
    (in_text_rival version all (form.Stop seconds) ∙ stop_said version all seconds)
    (mapped_once top (system_of version all).stop (record (system_of version all) { stop = Some seconds })
    ∙ only_once (system_of version all).stop seconds (λ said. top (record (system_of version all) { stop = said }))
    ∙ once_said (system_of version all).stop (top (with_last (parts.Stop seconds) (system_of version all)))
    ∙ ap (λ draft. cond (true && (not (is_some (system_of version all).stop) && true)) (Some draft) None) (sym (part_goes version all (parts.Stop seconds))))
top_goes version all (form.Longest seconds) =
    by_rival (holding version all) (form.Longest seconds) (is_some (system_of version all).longest)
    (in_text_rival version all (form.Longest seconds) ∙ longest_said version all seconds)
    (mapped_once top (system_of version all).longest (record (system_of version all) { longest = Some seconds })
    ∙ only_once (system_of version all).longest seconds (λ said. top (record (system_of version all) { longest = said }))
    ∙ once_said (system_of version all).longest (top (with_last (parts.Longest seconds) (system_of version all)))
    ∙ ap (λ draft. cond (true && (not (is_some (system_of version all).longest) && true)) (Some draft) None)
    (sym (part_goes version all (parts.Longest seconds))))
top_goes version all (form.Zero count) =
    by_rival (holding version all) (form.Zero count) (is_some (system_of version all).zero)
    (in_text_rival version all (form.Zero count) ∙ zero_said version all count)
    (mapped_once top (system_of version all).zero (record (system_of version all) { zero = Some count })
    ∙ only_once (system_of version all).zero count (λ said. top (record (system_of version all) { zero = said }))
    ∙ once_said (system_of version all).zero (top (with_last (parts.Zero count) (system_of version all)))
    ∙ ap (λ draft. cond (true && (not (is_some (system_of version all).zero) && true)) (Some draft) None) (sym (part_goes version all (parts.Zero count))))
top_goes version all (form.Rows count) =
    by_rival (holding version all) (form.Rows count) (is_some (system_of version all).rows)
    (in_text_rival version all (form.Rows count) ∙ rows_said version all count)
    (mapped_once top (system_of version all).rows (record (system_of version all) { rows = Some count })
    ∙ only_once (system_of version all).rows count (λ said. top (record (system_of version all) { rows = said }))
    ∙ once_said (system_of version all).rows (top (with_last (parts.Rows count) (system_of version all)))
    ∙ ap (λ draft. cond (true && (not (is_some (system_of version all).rows) && true)) (Some draft) None) (sym (part_goes version all (parts.Rows count))))
top_goes version all (form.Sample port) = plainly (holding version all) (form.Sample port) refl (ap Some (sym (part_goes version all (parts.Samples port))))

-- ---- In a unit

unit_lines_before : (version : ℕ) (all : List Part) (name : List ℕ) (inside : List UnitPart)
    → (before_next (in_unit_at version all name inside)).in_unit ≡ flat_map unit_part_forms inside
unit_lines_before version all name inside = unit_before (text_forms version all) name inside

unit_rival : (version : ℕ) (all : List Part) (name : List ℕ) (inside : List UnitPart) (some : LineForm)
    → list_any (are_alike some) (before_next (in_unit_at version all name inside)).in_unit ≡ list_any (are_alike some) (flat_map unit_part_forms inside)
unit_rival version all name inside some = ap (list_any (are_alike some)) (unit_lines_before version all name inside)

abbrev within : System → Unit → Draft
within system unit = record { system = system; block = block.Unit unit }

inside_goes : (version : ℕ) (all : List Part) (name : List ℕ) (inside : List UnitPart) (part : UnitPart)
    → draft_of (in_unit_at version all name (inside ++ (part ∷ []))) ≡ within (system_of version all) (with_last_inside part (unit_of name inside))
inside_goes version all name inside part = ap (within (system_of version all)) (unit_and_part name inside part)

unit_goes : (version : ℕ) (all : List Part) (name : List ℕ) (inside : List UnitPart) (some : LineForm) → Goes (in_unit_at version all name inside) some
unit_goes version all name inside (form.Header other) =
    by_rival (in_unit_at version all name inside) (form.Header other)
    (has_rival (before_next (in_unit_at version all name inside)) (form.Header other)) refl refl
unit_goes version all name inside (form.Unit other) =
    by_rival (in_unit_at version all name inside) (form.Unit other) (has_rival (before_next (in_unit_at version all name inside)) (form.Unit other)) refl refl
unit_goes version all name inside (form.Resolution decimals) =
    by_rival (in_unit_at version all name inside) (form.Resolution decimals) (is_some (unit_of name inside).resolution)
    (unit_rival version all name inside (form.Resolution decimals) ∙ resolution_said name inside decimals)
    (mapped_once (within (system_of version all)) (unit_of name inside).resolution (record (unit_of name inside) { resolution = Some decimals })
    ∙ only_once (unit_of name inside).resolution decimals (λ said. within (system_of version all) (record (unit_of name inside) { resolution = said }))
    ∙ once_said (unit_of name inside).resolution (within (system_of version all) (with_last_inside (parts.Resolution decimals) (unit_of name inside)))
    ∙ ap (λ draft. cond (true && (not (is_some (unit_of name inside).resolution) && true)) (Some draft) None)
    (sym (inside_goes version all name inside (parts.Resolution decimals))))
unit_goes version all name inside (form.Param param) =
    plainly (in_unit_at version all name inside) (form.Param param) refl (ap Some (sym (inside_goes version all name inside (parts.HasParam param))))
unit_goes version all name inside (form.State state) =
    plainly (in_unit_at version all name inside) (form.State state) refl (ap Some (sym (inside_goes version all name inside (parts.HasState state))))
unit_goes version all name inside (form.Local local) =
    plainly (in_unit_at version all name inside) (form.Local local) refl (ap Some (sym (inside_goes version all name inside (parts.HasLocal local))))
unit_goes version all name inside (form.Input input) =
    plainly (in_unit_at version all name inside) (form.Input input) refl (ap Some (sym (inside_goes version all name inside (parts.HasInput input))))
unit_goes version all name inside (form.EventInput event) =
    plainly (in_unit_at version all name inside) (form.EventInput event) refl (ap Some (sym (inside_goes version all name inside (parts.HasEventIn event))))
unit_goes version all name inside (form.Output output) =
    plainly (in_unit_at version all name inside) (form.Output output) refl (ap Some (sym (inside_goes version all name inside (parts.HasOutput output))))
unit_goes version all name inside (form.EventOutput event) =
    plainly (in_unit_at version all name inside) (form.EventOutput event) refl (ap Some (sym (inside_goes version all name inside (parts.HasEventOut event))))
unit_goes version all name inside (form.Max value) =
    by_rival (in_unit_at version all name inside) (form.Max value) (is_some (unit_of name inside).max)
    (unit_rival version all name inside (form.Max value) ∙ max_said name inside value)
    (mapped_once (within (system_of version all)) (unit_of name inside).max (record (unit_of name inside) { max = Some value })
    ∙ only_once (unit_of name inside).max value (λ said. within (system_of version all) (record (unit_of name inside) { max = said }))
    ∙ once_said (unit_of name inside).max (within (system_of version all) (with_last_inside (parts.Max value) (unit_of name inside)))
    ∙ ap (λ draft. cond (true && (not (is_some (unit_of name inside).max) && true)) (Some draft) None)
    (sym (inside_goes version all name inside (parts.Max value))))
unit_goes version all name inside form.Step =
    by_rival (in_unit_at version all name inside) form.Step (is_some (unit_of name inside).step)
    (unit_rival version all name inside form.Step ∙ step_said name inside)
    (once_said (unit_of name inside).step
    (record { system = (system_of version all); block = block.Step (unit_of name inside) (record { lines = []; around = [] }) }))
unit_goes version all name inside form.End =
    plainly (in_unit_at version all name inside) form.End refl (ap Some (sym (part_goes version all (parts.HasUnit name inside))))
unit_goes version all name inside (form.Assign target value) =
    by_rival (in_unit_at version all name inside) (form.Assign target value)
    (has_rival (before_next (in_unit_at version all name inside)) (form.Assign target value)) refl refl
unit_goes version all name inside (form.If condition) =
    by_rival (in_unit_at version all name inside) (form.If condition)
    (has_rival (before_next (in_unit_at version all name inside)) (form.If condition)) refl refl
unit_goes version all name inside form.Else =
    by_rival (in_unit_at version all name inside) form.Else (has_rival (before_next (in_unit_at version all name inside)) form.Else) refl refl
unit_goes version all name inside (form.Repeat count) =
    by_rival (in_unit_at version all name inside) (form.Repeat count)
    (has_rival (before_next (in_unit_at version all name inside)) (form.Repeat count)) refl refl
unit_goes version all name inside (form.Accept value) =
    by_rival (in_unit_at version all name inside) (form.Accept value)
    (has_rival (before_next (in_unit_at version all name inside)) (form.Accept value)) refl refl
unit_goes version all name inside (form.Instance other of) =
    by_rival (in_unit_at version all name inside) (form.Instance other of)
    (has_rival (before_next (in_unit_at version all name inside)) (form.Instance other of)) refl refl
unit_goes version all name inside (form.Setting setting) =
    by_rival (in_unit_at version all name inside) (form.Setting setting)
    (has_rival (before_next (in_unit_at version all name inside)) (form.Setting setting)) refl refl
unit_goes version all name inside (form.Connect wire) =
    by_rival (in_unit_at version all name inside) (form.Connect wire)
    (has_rival (before_next (in_unit_at version all name inside)) (form.Connect wire)) refl refl
unit_goes version all name inside (form.Stop seconds) =
    by_rival (in_unit_at version all name inside) (form.Stop seconds)
    (has_rival (before_next (in_unit_at version all name inside)) (form.Stop seconds)) refl refl
unit_goes version all name inside (form.Longest seconds) =
    by_rival (in_unit_at version all name inside) (form.Longest seconds)
    (has_rival (before_next (in_unit_at version all name inside)) (form.Longest seconds)) refl refl
unit_goes version all name inside (form.Zero count) =
    by_rival (in_unit_at version all name inside) (form.Zero count) (has_rival (before_next (in_unit_at version all name inside)) (form.Zero count)) refl refl
unit_goes version all name inside (form.Rows count) =
    by_rival (in_unit_at version all name inside) (form.Rows count) (has_rival (before_next (in_unit_at version all name inside)) (form.Rows count)) refl refl
unit_goes version all name inside (form.Sample port) =
    by_rival (in_unit_at version all name inside) (form.Sample port) (has_rival (before_next (in_unit_at version all name inside)) (form.Sample port)) refl refl

-- ---- In an instance

instance_goes : (version : ℕ) (all : List Part) (instance : Instance) (some : LineForm) → Goes (in_instance_at version all instance) some
instance_goes version all instance (form.Header other) =
    by_rival (in_instance_at version all instance) (form.Header other)
    (has_rival (before_next (in_instance_at version all instance)) (form.Header other)) refl refl
instance_goes version all instance (form.Unit other) =
    by_rival (in_instance_at version all instance) (form.Unit other) (has_rival (before_next (in_instance_at version all instance)) (form.Unit other)) refl refl
instance_goes version all instance (form.Resolution decimals) =
    by_rival (in_instance_at version all instance) (form.Resolution decimals)
    (has_rival (before_next (in_instance_at version all instance)) (form.Resolution decimals)) refl refl
instance_goes version all instance (form.Param param) =
    by_rival (in_instance_at version all instance) (form.Param param)
    (has_rival (before_next (in_instance_at version all instance)) (form.Param param)) refl refl
instance_goes version all instance (form.State state) =
    by_rival (in_instance_at version all instance) (form.State state)
    (has_rival (before_next (in_instance_at version all instance)) (form.State state)) refl refl
instance_goes version all instance (form.Local local) =
    by_rival (in_instance_at version all instance) (form.Local local)
    (has_rival (before_next (in_instance_at version all instance)) (form.Local local)) refl refl
instance_goes version all instance (form.Input input) =
    by_rival (in_instance_at version all instance) (form.Input input)
    (has_rival (before_next (in_instance_at version all instance)) (form.Input input)) refl refl
instance_goes version all instance (form.EventInput event) =
    by_rival (in_instance_at version all instance) (form.EventInput event)
    (has_rival (before_next (in_instance_at version all instance)) (form.EventInput event)) refl refl
instance_goes version all instance (form.Output output) =
    by_rival (in_instance_at version all instance) (form.Output output)
    (has_rival (before_next (in_instance_at version all instance)) (form.Output output)) refl refl
instance_goes version all instance (form.EventOutput event) =
    by_rival (in_instance_at version all instance) (form.EventOutput event)
    (has_rival (before_next (in_instance_at version all instance)) (form.EventOutput event)) refl refl
instance_goes version all instance (form.Max value) =
    by_rival (in_instance_at version all instance) (form.Max value) (has_rival (before_next (in_instance_at version all instance)) (form.Max value)) refl refl
instance_goes version all instance form.Step =
    by_rival (in_instance_at version all instance) form.Step (has_rival (before_next (in_instance_at version all instance)) form.Step) refl refl
instance_goes version all instance form.End =
    plainly (in_instance_at version all instance) form.End refl (ap Some (sym (part_goes version all (parts.HasInstance instance))))
instance_goes version all instance (form.Assign target value) =
    by_rival (in_instance_at version all instance) (form.Assign target value)
    (has_rival (before_next (in_instance_at version all instance)) (form.Assign target value)) refl refl
instance_goes version all instance (form.If condition) =
    by_rival (in_instance_at version all instance) (form.If condition)
    (has_rival (before_next (in_instance_at version all instance)) (form.If condition)) refl refl
instance_goes version all instance form.Else =
    by_rival (in_instance_at version all instance) form.Else (has_rival (before_next (in_instance_at version all instance)) form.Else) refl refl
instance_goes version all instance (form.Repeat count) =
    by_rival (in_instance_at version all instance) (form.Repeat count)
    (has_rival (before_next (in_instance_at version all instance)) (form.Repeat count)) refl refl
instance_goes version all instance (form.Accept value) =
    by_rival (in_instance_at version all instance) (form.Accept value)
    (has_rival (before_next (in_instance_at version all instance)) (form.Accept value)) refl refl
instance_goes version all instance (form.Instance other of) =
    by_rival (in_instance_at version all instance) (form.Instance other of)
    (has_rival (before_next (in_instance_at version all instance)) (form.Instance other of)) refl refl
instance_goes version all instance (form.Setting setting) = plainly (in_instance_at version all instance) (form.Setting setting) refl refl
instance_goes version all instance (form.Connect wire) =
    by_rival (in_instance_at version all instance) (form.Connect wire)
    (has_rival (before_next (in_instance_at version all instance)) (form.Connect wire)) refl refl
instance_goes version all instance (form.Stop seconds) =
    by_rival (in_instance_at version all instance) (form.Stop seconds)
    (has_rival (before_next (in_instance_at version all instance)) (form.Stop seconds)) refl refl
instance_goes version all instance (form.Longest seconds) =
    by_rival (in_instance_at version all instance) (form.Longest seconds)
    (has_rival (before_next (in_instance_at version all instance)) (form.Longest seconds)) refl refl
instance_goes version all instance (form.Zero count) =
    by_rival (in_instance_at version all instance) (form.Zero count) (has_rival (before_next (in_instance_at version all instance)) (form.Zero count)) refl refl
instance_goes version all instance (form.Rows count) =
    by_rival (in_instance_at version all instance) (form.Rows count) (has_rival (before_next (in_instance_at version all instance)) (form.Rows count)) refl refl
instance_goes version all instance (form.Sample port) =
    by_rival (in_instance_at version all instance) (form.Sample port)
    (has_rival (before_next (in_instance_at version all instance)) (form.Sample port)) refl refl

-- ---- In a step

reversed : {A : Type 0} (first : A) (others : List A) → reverse (first ∷ others) ≡ reverse others ++ (first ∷ [])
reversed first others = reverse-append (first ∷ []) others

step_is_held : (around : List Around) → blocks.in_step (blocks_around around) ≡ true
step_is_held [] = refl
step_is_held (block ∷ others) = by_head block.head
  where
    by_head : (head : Head) → blocks.in_step (block_of head ∷ blocks_around others) ≡ true
    by_head (Then condition) = refl
    by_head (Else condition then_lines) = refl
    by_head (Times count) = refl

head_is_inner : (head : Head) → is_inner (block_of head) ≡ true
head_is_inner (Then condition) = refl
head_is_inner (Else condition then_lines) = refl
head_is_inner (Times count) = refl

abbrev counting : ℕ → Block → ℕ
counting count block = count + cond (is_inner block) 1 0

counted : (around : List Around) (count : ℕ) → fold counting count (blocks_around around) ≡ count + length around
counted [] count = omega arith
counted (block ∷ others) count =
    let rest = counted others (count + 1) in
    ap (λ told. fold counting (count + cond told 1 0) (blocks_around others)) (head_is_inner block.head) ∙ rest ∙ omega arith

blocks_are_inner : (around : List Around) → count_by is_inner (blocks_around around) ≡ length around
blocks_are_inner around = counted around 0 ∙ omega arith

abbrev stepping : System → Unit → StepSoFar → Draft
stepping system unit step = record { system = system; block = block.Step unit step }

abbrev at_step : ℕ → List Part → List ℕ → List UnitPart → List Line → List Around → Nested
at_step version all name inside lines around = in_step_at version all name inside (record { lines = lines; around = around })

-- A line that is allowed only in steps, and has no rivals.
held_in_step : (nested : Nested) (around : List Around) (room : Bool) (found : Option Draft) (next : Draft)
    → found ≡ cond (true && (not false && room)) (Some next) None
    → found ≡ cond (blocks.in_step (blocks_around around) && (not false && room)) (Some next) None
held_in_step nested around room found next is = is ∙ ap (λ told. cond (told && (not false && room)) (Some next) None) (sym (step_is_held around))

block_goes : (system : System) (unit : Unit) (lines : List Line) (around : List Around) (head : Head)
    → option_map (stepping system unit) (in_block (record { lines = lines; around = reverse around }) head)
    ≡ cond (blocks.in_step (blocks_around around) && (not false && nat_lt (count_by is_inner (blocks_around around)) 16))
    (Some (stepping system unit (step_of (record { lines = []; around = record { before = lines; head = head } ∷ around })))) None
block_goes system unit lines around head =
    by_room (nat_lt (length (reverse around)) 16) refl
    ∙ ap (λ count. cond (true && (not false && nat_lt count 16)) (Some next) None) (length-reverse around ∙ sym (blocks_are_inner around))
    ∙ ap (λ told. cond (told && (not false && nat_lt (count_by is_inner (blocks_around around)) 16)) (Some next) None) (sym (step_is_held around))
  where
    next : Draft
    next = stepping system unit (step_of (record { lines = []; around = record { before = lines; head = head } ∷ around }))

    begun : Draft
    begun = stepping system unit (record { lines = []; around = reverse around ++ (record { before = lines; head = head } ∷ []) })

    by_room : (room : Bool) → nat_lt (length (reverse around)) 16 ≡ room
        → option_map (stepping system unit)
        (cond room (Some (record { lines = []; around = reverse around ++ (record { before = lines; head = head } ∷ []) })) None)
        ≡ cond (true && (not false && room)) (Some next) None
    by_room true is =
        ap (λ all. Some (stepping system unit (record { lines = []; around = all }))) (sym (reversed (record { before = lines; head = head }) around))
    by_room false is = refl

else_goes : (version : ℕ) (all : List Part) (name : List ℕ) (inside : List UnitPart) (lines : List Line) (around : List Around)
    → Becomes (at_step version all name inside lines around) form.Else (rules_kept (blocks_around around) false form.Else)
else_goes version all name inside lines [] = refl
else_goes version all name inside lines (block ∷ others) =
    ap (λ split. option_map (stepping (system_of version all) (unit_of name inside))
    (option_and_then (λ one. turned_by lines one.0 one.1.before one.1.head) split))
    (ap split_last (reversed block others) ∙ split_behind (reverse others) block)
    ∙ by_head block.head
  where
    by_head : (head : Head)
        → option_map (stepping (system_of version all) (unit_of name inside)) (turned_by lines (reverse others) block.before head)
        ≡ cond (rules_kept (block_of head ∷ blocks_around others) false form.Else)
        (Some (draft_of (and_form (at_step version all name inside lines (record { before = block.before; head = head } ∷ others)) form.Else))) None
    by_head (Then condition) =
        ap (λ around. Some (stepping (system_of version all) (unit_of name inside) (record { lines = []; around = around })))
        (sym (reversed (record { before = block.before; head = Else condition lines }) others))
    by_head (Else condition then_lines) = refl
    by_head (Times count) = refl

end_goes : (version : ℕ) (all : List Part) (name : List ℕ) (inside : List UnitPart) (lines : List Line) (around : List Around)
    → (unit_of name inside).step ≡ None → Becomes (at_step version all name inside lines around) form.End (rules_kept (blocks_around around) false form.End)
end_goes version all name inside lines [] none =
    ap (λ step. Some (within (system_of version all) (record (unit_of name inside) { step = step }))) (ap (λ said. Some_first said) (sym none))
    ∙ ap Some (sym (inside_goes version all name inside (parts.Step lines)))
  where
    Some_first : Option (List Line) → Option (List Line)
    Some_first said = first_said said lines
end_goes version all name inside lines (block ∷ others) none =
    ap (λ split. Some (ended_by (system_of version all) (unit_of name inside) lines split))
    (ap split_last (reversed block others) ∙ split_behind (reverse others) block)
    ∙ by_head block.head
  where
    next : Draft
    next = stepping (system_of version all) (unit_of name inside) (record { lines = block.before ++ (headed block.head lines ∷ []); around = reverse others })

    by_head : (head : Head) → Some next ≡ cond (rules_kept (block_of head ∷ blocks_around others) false form.End) (Some next) None
    by_head (Then condition) = refl
    by_head (Else condition then_lines) = refl
    by_head (Times count) = refl

refused_in_step : (nested : Nested) (some : LineForm) → has_rival (before_next nested) some ≡ has_rival (before_next nested) some
    → holds_form (blocks_of nested.block) some ≡ false → with_form (draft_of nested) some ≡ None → Goes nested some
refused_in_step nested some is held none =
    by_rival nested some (has_rival (before_next nested) some) is
    (none ∙ ap (λ told. cond (told && (not (has_rival (before_next nested) some) && has_room (blocks_of nested.block) some))
    (Some (draft_of (and_form nested some))) None) (sym held))

step_goes : (version : ℕ) (all : List Part) (name : List ℕ) (inside : List UnitPart) (lines : List Line) (around : List Around)
    → (unit_of name inside).step ≡ None → (some : LineForm) → Goes (at_step version all name inside lines around) some
step_goes version all name inside lines around none (form.Assign target value) =
    plainly (at_step version all name inside lines around) (form.Assign target value) refl
    (held_in_step (at_step version all name inside lines around) around true _ _ refl)
step_goes version all name inside lines around none (form.Accept value) =
    plainly (at_step version all name inside lines around) (form.Accept value) refl
    (held_in_step (at_step version all name inside lines around) around true _ _ refl)
step_goes version all name inside lines around none (form.If condition) =
    plainly (at_step version all name inside lines around) (form.If condition) refl
    (block_goes (system_of version all) (unit_of name inside) lines around (Then condition))
step_goes version all name inside lines around none (form.Repeat count) =
    plainly (at_step version all name inside lines around) (form.Repeat count) refl
    (block_goes (system_of version all) (unit_of name inside) lines around (Times count))
step_goes version all name inside lines around none form.Else =
    plainly (at_step version all name inside lines around) form.Else refl (else_goes version all name inside lines around)
step_goes version all name inside lines around none form.End =
    plainly (at_step version all name inside lines around) form.End refl (end_goes version all name inside lines around none)
step_goes version all name inside lines around none (form.Header other) =
    refused_in_step (at_step version all name inside lines around) (form.Header other) refl (in_step around).not_top refl
step_goes version all name inside lines around none (form.Unit other) =
    refused_in_step (at_step version all name inside lines around) (form.Unit other) refl (in_step around).not_top refl
step_goes version all name inside lines around none (form.Resolution decimals) =
    refused_in_step (at_step version all name inside lines around) (form.Resolution decimals) refl (in_step around).not_unit refl
step_goes version all name inside lines around none (form.Param param) =
    refused_in_step (at_step version all name inside lines around) (form.Param param) refl (in_step around).not_unit refl
step_goes version all name inside lines around none (form.State state) =
    refused_in_step (at_step version all name inside lines around) (form.State state) refl (in_step around).not_unit refl
step_goes version all name inside lines around none (form.Local local) =
    refused_in_step (at_step version all name inside lines around) (form.Local local) refl (in_step around).not_unit refl
step_goes version all name inside lines around none (form.Input input) =
    refused_in_step (at_step version all name inside lines around) (form.Input input) refl (in_step around).not_unit refl
step_goes version all name inside lines around none (form.EventInput event) =
    refused_in_step (at_step version all name inside lines around) (form.EventInput event) refl (in_step around).not_unit refl
step_goes version all name inside lines around none (form.Output output) =
    refused_in_step (at_step version all name inside lines around) (form.Output output) refl (in_step around).not_unit refl
step_goes version all name inside lines around none (form.EventOutput event) =
    refused_in_step (at_step version all name inside lines around) (form.EventOutput event) refl (in_step around).not_unit refl
step_goes version all name inside lines around none (form.Max value) =
    refused_in_step (at_step version all name inside lines around) (form.Max value) refl (in_step around).not_unit refl
step_goes version all name inside lines around none form.Step =
    refused_in_step (at_step version all name inside lines around) form.Step refl (in_step around).not_unit refl
step_goes version all name inside lines around none (form.Instance other of) =
    refused_in_step (at_step version all name inside lines around) (form.Instance other of) refl (in_step around).not_top refl
step_goes version all name inside lines around none (form.Setting setting) =
    refused_in_step (at_step version all name inside lines around) (form.Setting setting) refl (in_step around).not_instance refl
step_goes version all name inside lines around none (form.Connect wire) =
    refused_in_step (at_step version all name inside lines around) (form.Connect wire) refl (in_step around).not_top refl
step_goes version all name inside lines around none (form.Stop seconds) =
    refused_in_step (at_step version all name inside lines around) (form.Stop seconds) refl (in_step around).not_top refl
step_goes version all name inside lines around none (form.Longest seconds) =
    refused_in_step (at_step version all name inside lines around) (form.Longest seconds) refl (in_step around).not_top refl
step_goes version all name inside lines around none (form.Zero count) =
    refused_in_step (at_step version all name inside lines around) (form.Zero count) refl (in_step around).not_top refl
step_goes version all name inside lines around none (form.Rows count) =
    refused_in_step (at_step version all name inside lines around) (form.Rows count) refl (in_step around).not_top refl
step_goes version all name inside lines around none (form.Sample port) =
    refused_in_step (at_step version all name inside lines around) (form.Sample port) refl (in_step around).not_top refl

-- ---- In any block

-- While a step is read its unit has no other one, if all lines are allowed.
step_is_only : (version : ℕ) (all : List Part) (name : List ℕ) (inside : List UnitPart) (inner : Inner)
    → are_placed no_lines (nested_forms (in_step_at version all name inside inner)) ≡ true → (unit_of name inside).step ≡ None
step_is_only version all name inside inner placed = none (unit_of name inside).step refl
  where
    nested : Nested
    nested = in_unit_at version all name inside

    lines : List LineForm
    lines = around_forms inner.around ++ flat_map line_forms inner.lines

    may : may_stand (before_next nested) form.Step ≡ true
    may = placed_at (nested_forms nested) form.Step lines no_lines
        (ap (are_placed no_lines) (append_assoc (text_forms version all) (form.Unit name ∷ flat_map unit_part_forms inside) (form.Step ∷ lines)) ∙ placed)

    rival : has_rival (before_next nested) form.Step ≡ is_some (unit_of name inside).step
    rival = unit_rival version all name inside form.Step ∙ step_said name inside

    none : (said : Option (List Line)) → (unit_of name inside).step ≡ said → said ≡ None
    none None is = refl
    none (Some lines) is =
        let kept = sym (may_is nested form.Step true (rival ∙ ap is_some is)) ∙ may in
        absurd (cc)

pub draft_goes : (nested : Nested) (some : LineForm) → are_placed no_lines (nested_forms nested) ≡ true
    → with_form (draft_of nested) some ≡ cond (may_stand (before_next nested) some) (Some (draft_of (and_form nested some))) None
draft_goes nested some placed = by_block nested.block placed
  where
    by_block : (open_block : Open) → are_placed no_lines (nested_forms (opened nested open_block)) ≡ true → Goes (opened nested open_block) some
    by_block AtTop placed = top_goes nested.version nested.parts some
    by_block (InUnit name inside) placed = unit_goes nested.version nested.parts name inside some
    by_block (InStep name inside inner) placed =
        step_goes nested.version nested.parts name inside inner.lines inner.around (step_is_only nested.version nested.parts name inside inner placed) some
    by_block (InInstance instance) placed = instance_goes nested.version nested.parts instance some
