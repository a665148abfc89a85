-- Lines that are allowed after a header, and their parts: one for one.
use Rattle.std.proofs.Common.{◌≡◌, ℕ, true, false, not, List, [], ◌∷◌, ◌++◌, append_assoc, map, Some, None, refl, ap, sym, subst, ◌∙◌}
use Rattle.std.specs.Prelude.{◌&&◌, IsTrue}
use Rattle.std.specs.List.{fold, flat_map, list_any}
use Rattle.std.proofs.lemmas.Bool.{and_parts}
use Rattle.std.proofs.lemmas.Grind.{fold-append, flat_map-append}
use Rattle.std.proofs.lemmas.List.{append-nil, map-append}
use Rattle.unit_tree.specs.Blocks as blocks
use Rattle.unit_tree.specs.Blocks.{Block, Before, no_lines, and_line, and_lines, behind, open_blocks, holds_form, has_rival, has_room, may_stand, are_placed}
use Rattle.unit_tree.specs.LineForms.{are_alike}
use Rattle.unit_tree.specs.Parts as parts
use Rattle.unit_tree.specs.Parts.{Part, UnitPart, block_forms, joined, line_forms, unit_part_forms, part_forms, text_forms}
use Rattle.unit_tree.specs.declared.expr.Expr.{Expr}
use Rattle.unit_tree.specs.declared.line.Line as line
use Rattle.unit_tree.specs.declared.line.Line.{Line}
use Rattle.unit_tree.specs.declared.line.Line.TheFolds.{ind-Line, map-Line}
use Rattle.unit_tree.specs.declared.line.Line.TheOpen.{Line-F}
use Rattle.unit_tree.specs.declared.line.Line.TheVariants.{rolls-Assign, rolls-If, rolls-Repeat, rolls-Accept}
use Rattle.unit_tree.specs.declared.line.Line.TheViews.{roll-Line}
use Rattle.unit_tree.specs.declared.line_form.LineForm.{LineForm}
use Rattle.unit_tree.specs.declared.line_form.LineForm.TheVariants as form
use Rattle.unit_tree.specs.declared.system.Instance.{Instance}
use Rattle.unit_tree.specs.declared.system.Setting.{Setting}
use Rattle.unit_tree.proofs.FoldLemmas.{fold-Assign, fold-If, fold-Repeat, fold-Accept}
use Rattle.language_laws.proofs.OpenBlocks.{blocks_behind, lines_leave, unit_parts_leave, settings_leave, parts_leave, all_in_text}
use Rattle.unit_text.specs.Laws.{NestingIsByParts}
use Rattle.unit_text.specs.Drafts.{headed}
use Rattle.unit_text.specs.Nesting as nesting
use Rattle.unit_text.specs.declared.draft.Around.{Around}
use Rattle.unit_text.specs.declared.draft.Head.{Head}
use Rattle.unit_text.specs.declared.draft.Head.TheVariants.{Then, Else, Times}
use Rattle.unit_text.specs.Nesting.{Inner, Open, AtTop, InUnit, InStep, InInstance, Nested, and_part, opened, block_in, headed_by, nested_by, and_form}
use Rattle.unit_text.specs.Nesting.{head_forms, around_forms, open_forms, nested_forms, block_of, blocks_of}

-- ---- Lines of a step

-- A line of a step is one more line of its innermost block.
abbrev IsAdded : Line → Type 0
IsAdded some =
    (nested : Nested) (name : List ℕ) (unit_parts : List UnitPart) (inner : Inner)
    → fold and_form (opened nested (InStep name unit_parts inner)) (line_forms some) ≡ opened nested (InStep name unit_parts (nesting.and_line inner some))

abbrev Added : Type 0
Added = (some : Line) × IsAdded some

abbrev added_line : Added → Line
added_line one = one.0

abbrev with_lines : Inner → List Line → Inner
with_lines inner lines = record inner { lines = inner.lines ++ lines }

joined_added : (lines : List Added) (nested : Nested) (name : List ℕ) (unit_parts : List UnitPart) (inner : Inner)
    → fold and_form (opened nested (InStep name unit_parts inner)) (joined (map line_forms (map added_line lines)))
    ≡ opened nested (InStep name unit_parts (with_lines inner (map added_line lines)))
joined_added [] nested name unit_parts inner =
    ap (λ lines. opened nested (InStep name unit_parts (record inner { lines = lines }))) (sym (append-nil inner.lines))
joined_added (one ∷ lines) nested name unit_parts inner =
    fold-append and_form (opened nested (InStep name unit_parts inner)) (line_forms one.0) (joined (map line_forms (map added_line lines)))
    ∙ ap (λ more. fold and_form more (joined (map line_forms (map added_line lines)))) (one.1 nested name unit_parts inner)
    ∙ joined_added lines nested name unit_parts (nesting.and_line inner one.0)
    ∙ ap (λ all. opened nested (InStep name unit_parts (record inner { lines = all }))) (append_assoc inner.lines (one.0 ∷ []) (map added_line lines))

added-Repeat : (count : ℕ) (body : List Added) → IsAdded (line.Repeat count (map added_line body))
added-Repeat count body nested name unit_parts inner =
    let within = block_in inner (Times count) in
    ap (fold and_form (opened nested (InStep name unit_parts inner))) (fold-Repeat (List LineForm) block_forms count (map added_line body))
    ∙ fold-append and_form (opened nested (InStep name unit_parts within)) (joined (map line_forms (map added_line body))) (form.End ∷ [])
    ∙ ap (λ more. fold and_form more (form.End ∷ [])) (joined_added body nested name unit_parts within)

added-IfNone : (condition : Expr) (then_lines : List Added) → IsAdded (line.If condition (map added_line then_lines) None)
added-IfNone condition then_lines nested name unit_parts inner =
    let within = block_in inner (Then condition) in
    ap (fold and_form (opened nested (InStep name unit_parts inner))) (fold-If (List LineForm) block_forms condition (map added_line then_lines) None)
    ∙ fold-append and_form (opened nested (InStep name unit_parts within)) (joined (map line_forms (map added_line then_lines)) ++ []) (form.End ∷ [])
    ∙ ap (λ forms. fold and_form (fold and_form (opened nested (InStep name unit_parts within)) forms) (form.End ∷ []))
    (append-nil (joined (map line_forms (map added_line then_lines))))
    ∙ ap (λ more. fold and_form more (form.End ∷ [])) (joined_added then_lines nested name unit_parts within)

added-IfElse : (condition : Expr) (then_lines else_lines : List Added)
    → IsAdded (line.If condition (map added_line then_lines) (Some (map added_line else_lines)))
added-IfElse condition then_lines else_lines nested name unit_parts inner =
    let within = block_in inner (Then condition) in
    let others : Inner = record { lines = []; around = record { before = inner.lines; head = Else condition (map added_line then_lines) } ∷ inner.around } in
    ap (fold and_form (opened nested (InStep name unit_parts inner)))
    (fold-If (List LineForm) block_forms condition (map added_line then_lines) (Some (map added_line else_lines)))
    ∙ fold-append and_form (opened nested (InStep name unit_parts within))
    (joined (map line_forms (map added_line then_lines)) ++ (form.Else ∷ joined (map line_forms (map added_line else_lines)))) (form.End ∷ [])
    ∙ ap (λ more. fold and_form more (form.End ∷ [])) (
    fold-append and_form (opened nested (InStep name unit_parts within)) (joined (map line_forms (map added_line then_lines)))
    (form.Else ∷ joined (map line_forms (map added_line else_lines)))
    ∙ ap (λ more. fold and_form more (form.Else ∷ joined (map line_forms (map added_line else_lines)))) (joined_added then_lines nested name unit_parts within)
    ∙ joined_added else_lines nested name unit_parts others
    )

added_node : (y : Line-F Added) → IsAdded (roll-Line (map-Line Added Line added_line y))
added_node (Line-F.Assign target value) =
    subst IsAdded (sym (rolls-Assign target value))
    (λ nested name unit_parts inner. ap (fold and_form (opened nested (InStep name unit_parts inner))) (fold-Assign (List LineForm) block_forms target value))
added_node (Line-F.If condition then_lines None) = subst IsAdded (sym (rolls-If condition (map added_line then_lines) None)) (added-IfNone condition then_lines)
added_node (Line-F.If condition then_lines (Some else_lines)) =
    subst IsAdded (sym (rolls-If condition (map added_line then_lines) (Some (map added_line else_lines)))) (added-IfElse condition then_lines else_lines)
added_node (Line-F.Repeat count body) = subst IsAdded (sym (rolls-Repeat count (map added_line body))) (added-Repeat count body)
added_node (Line-F.Accept value) =
    subst IsAdded (sym (rolls-Accept value))
    (λ nested name unit_parts inner. ap (fold and_form (opened nested (InStep name unit_parts inner))) (fold-Accept (List LineForm) block_forms value))

line_is_added : (some : Line) → IsAdded some
line_is_added = ind-Line IsAdded (λ x y is. subst (λ z. IsAdded (roll-Line z)) is (added_node y))

lines_are_added : (lines : List Line) (nested : Nested) (name : List ℕ) (unit_parts : List UnitPart) (inner : Inner)
    → fold and_form (opened nested (InStep name unit_parts inner)) (flat_map line_forms lines) ≡ opened nested (InStep name unit_parts (with_lines inner lines))
lines_are_added [] nested name unit_parts inner =
    ap (λ lines. opened nested (InStep name unit_parts (record inner { lines = lines }))) (sym (append-nil inner.lines))
lines_are_added (some ∷ lines) nested name unit_parts inner =
    fold-append and_form (opened nested (InStep name unit_parts inner)) (line_forms some) (flat_map line_forms lines)
    ∙ ap (λ more. fold and_form more (flat_map line_forms lines)) (line_is_added some nested name unit_parts inner)
    ∙ lines_are_added lines nested name unit_parts (nesting.and_line inner some)
    ∙ ap (λ all. opened nested (InStep name unit_parts (record inner { lines = all }))) (append_assoc inner.lines (some ∷ []) lines)

-- ---- Parts

unit_part_is_added : (part : UnitPart) (nested : Nested) (name : List ℕ) (unit_parts : List UnitPart)
    → fold and_form (opened nested (InUnit name unit_parts)) (unit_part_forms part) ≡ opened nested (InUnit name (unit_parts ++ (part ∷ [])))
unit_part_is_added (parts.Resolution decimals) nested name unit_parts = refl
unit_part_is_added (parts.HasParam param) nested name unit_parts = refl
unit_part_is_added (parts.HasState state) nested name unit_parts = refl
unit_part_is_added (parts.HasLocal local) nested name unit_parts = refl
unit_part_is_added (parts.HasInput input) nested name unit_parts = refl
unit_part_is_added (parts.HasEventIn event) nested name unit_parts = refl
unit_part_is_added (parts.HasOutput output) nested name unit_parts = refl
unit_part_is_added (parts.HasEventOut event) nested name unit_parts = refl
unit_part_is_added (parts.Max value) nested name unit_parts = refl
unit_part_is_added (parts.Step lines) nested name unit_parts =
    let within : Inner = record { lines = []; around = [] } in
    fold-append and_form (opened nested (InStep name unit_parts within)) (flat_map line_forms lines) (form.End ∷ [])
    ∙ ap (λ more. fold and_form more (form.End ∷ [])) (lines_are_added lines nested name unit_parts within)

unit_parts_are_added : (more : List UnitPart) (nested : Nested) (name : List ℕ) (unit_parts : List UnitPart)
    → fold and_form (opened nested (InUnit name unit_parts)) (flat_map unit_part_forms more) ≡ opened nested (InUnit name (unit_parts ++ more))
unit_parts_are_added [] nested name unit_parts = ap (λ all. opened nested (InUnit name all)) (sym (append-nil unit_parts))
unit_parts_are_added (part ∷ more) nested name unit_parts =
    fold-append and_form (opened nested (InUnit name unit_parts)) (unit_part_forms part) (flat_map unit_part_forms more)
    ∙ ap (λ now. fold and_form now (flat_map unit_part_forms more)) (unit_part_is_added part nested name unit_parts)
    ∙ unit_parts_are_added more nested name (unit_parts ++ (part ∷ []))
    ∙ ap (λ all. opened nested (InUnit name all)) (append_assoc unit_parts (part ∷ []) more)

settings_are_added : (more : List Setting) (nested : Nested) (instance : Instance)
    → fold and_form (opened nested (InInstance instance)) (map form.Setting more)
    ≡ opened nested (InInstance (record instance { settings = instance.settings ++ more }))
settings_are_added [] nested instance = ap (λ all. opened nested (InInstance (record instance { settings = all }))) (sym (append-nil instance.settings))
settings_are_added (setting ∷ more) nested instance =
    settings_are_added more nested (record instance { settings = instance.settings ++ (setting ∷ []) })
    ∙ ap (λ all. opened nested (InInstance (record instance { settings = all }))) (append_assoc instance.settings (setting ∷ []) more)

part_is_added : (part : Part) (nested : Nested) → fold and_form (opened nested AtTop) (part_forms part) ≡ and_part nested part
part_is_added (parts.HasUnit name unit_parts) nested =
    fold-append and_form (opened nested (InUnit name [])) (flat_map unit_part_forms unit_parts) (form.End ∷ [])
    ∙ ap (λ now. fold and_form now (form.End ∷ [])) (unit_parts_are_added unit_parts nested name [])
part_is_added (parts.HasInstance instance) nested =
    fold-append and_form (opened nested (InInstance (record instance { settings = [] }))) (map form.Setting instance.settings) (form.End ∷ [])
    ∙ ap (λ now. fold and_form now (form.End ∷ [])) (settings_are_added instance.settings nested (record instance { settings = [] }))
part_is_added (parts.Connects wire) nested = refl
part_is_added (parts.Stop seconds) nested = refl
part_is_added (parts.Longest seconds) nested = refl
part_is_added (parts.Zero count) nested = refl
part_is_added (parts.Rows count) nested = refl
part_is_added (parts.Samples port) nested = refl

abbrev pub holding : ℕ → List Part → Nested
holding version all = record { version = version; parts = all; block = AtTop }

parts_are_added : (more all : List Part) (version : ℕ) → fold and_form (holding version all) (flat_map part_forms more) ≡ holding version (all ++ more)
parts_are_added [] all version = ap (holding version) (sym (append-nil all))
parts_are_added (part ∷ more) all version =
    fold-append and_form (holding version all) (part_forms part) (flat_map part_forms more)
    ∙ ap (λ now. fold and_form now (flat_map part_forms more)) (part_is_added part (holding version all))
    ∙ parts_are_added more (all ++ (part ∷ [])) version
    ∙ ap (holding version) (append_assoc all (part ∷ []) more)

-- the lines of parts nest to these parts, and leave no block open
pub parts_are_nested : (version : ℕ) (all : List Part) → nested_by version (flat_map part_forms all) ≡ holding version all
parts_are_nested version all = parts_are_added all [] version

-- texts of the same lines have the same version and parts
pub record SameParts (version by : ℕ) (one other : List Part) : Type 0 where
  pub version_is : version ≡ by
  pub parts_are : one ≡ other

pub same_parts : (version by : ℕ) (one other : List Part) → text_forms version one ≡ text_forms by other → SameParts version by one other
same_parts version by one other is =
    let same : version ≡ by = cc in
    let lines : flat_map part_forms one ≡ flat_map part_forms other = cc in
    record {
      version_is = same;
      parts_are = ap (λ nested. nested.parts) (sym (parts_are_nested version one) ∙ ap (nested_by version) lines ∙ parts_are_nested version other);
    }

-- ---- The block that nested lines leave open

abbrev pub step_blocks : List Block
step_blocks = blocks.InStep ∷ blocks.InUnit ∷ []

head_opens : (head : Head) (open_before : List Block) → fold behind open_before (head_forms head) ≡ block_of head ∷ open_before
head_opens (Then condition) open_before = refl
head_opens (Else condition then_lines) open_before =
    fold-append behind (blocks.InIf ∷ open_before) (flat_map line_forms then_lines) (form.Else ∷ [])
    ∙ ap (λ now. fold behind now (form.Else ∷ [])) (lines_leave then_lines (blocks.InIf ∷ open_before))
head_opens (Times count) open_before = refl

around_opens : (around : List Around) → fold behind step_blocks (around_forms around) ≡ map (λ block. block_of block.head) around ++ step_blocks
around_opens [] = refl
around_opens (block ∷ others) =
    fold-append behind step_blocks (around_forms others ++ flat_map line_forms block.before) (head_forms block.head)
    ∙ ap (λ now. fold behind now (head_forms block.head)) (
    fold-append behind step_blocks (around_forms others) (flat_map line_forms block.before)
    ∙ ap (λ now. fold behind now (flat_map line_forms block.before)) (around_opens others)
    ∙ lines_leave block.before (map (λ one. block_of one.head) others ++ step_blocks)
    )
    ∙ head_opens block.head (map (λ one. block_of one.head) others ++ step_blocks)

open_opens : (block : Open) → fold behind [] (open_forms block) ≡ blocks_of block
open_opens AtTop = refl
open_opens (InUnit name unit_parts) = unit_parts_leave unit_parts
open_opens (InStep name unit_parts inner) =
    fold-append behind (blocks.InUnit ∷ []) (flat_map unit_part_forms unit_parts) (form.Step ∷ around_forms inner.around ++ flat_map line_forms inner.lines)
    ∙ ap (λ now. fold behind now (form.Step ∷ around_forms inner.around ++ flat_map line_forms inner.lines)) (unit_parts_leave unit_parts)
    ∙ fold-append behind step_blocks (around_forms inner.around) (flat_map line_forms inner.lines)
    ∙ ap (λ now. fold behind now (flat_map line_forms inner.lines)) (around_opens inner.around)
    ∙ lines_leave inner.lines (map (λ block. block_of block.head) inner.around ++ step_blocks)
open_opens (InInstance instance) = settings_leave instance.settings

pub blocks_are : (nested : Nested) → open_blocks (nested_forms nested) ≡ blocks_of nested.block
blocks_are nested =
    blocks_behind no_lines (nested_forms nested)
    ∙ fold-append behind [] (flat_map part_forms nested.parts) (open_forms nested.block)
    ∙ ap (λ now. fold behind now (open_forms nested.block)) (parts_leave nested.parts)
    ∙ open_opens nested.block

-- ---- One line more

-- A form that is allowed in the open block, and is not a header.
pub record IsHeld (nested : Nested) (some : LineForm) : Type 0 where
  pub held : holds_form (blocks_of nested.block) some ≡ true
  pub no_header : (version : ℕ) → some ≡ form.Header version → ⊥

-- What is nested then has the same lines and this one.
abbrev Adds : Nested → LineForm → Type 0
Adds nested some = nested_forms (and_form nested some) ≡ nested_forms nested ++ (some ∷ [])

opened_adds : (nested : Nested) (block : Open) (some : LineForm) → open_forms block ≡ open_forms nested.block ++ (some ∷ [])
    → nested_forms (opened nested block) ≡ nested_forms nested ++ (some ∷ [])
opened_adds nested block some is =
    ap (λ lines. text_forms nested.version nested.parts ++ lines) is
    ∙ sym (append_assoc (text_forms nested.version nested.parts) (open_forms nested.block) (some ∷ []))

part_adds : (nested : Nested) (part : Part) (some : LineForm) → part_forms part ≡ open_forms nested.block ++ (some ∷ [])
    → nested_forms (and_part nested part) ≡ nested_forms nested ++ (some ∷ [])
part_adds nested part some is =
    append-nil (text_forms nested.version (nested.parts ++ (part ∷ [])))
    ∙ ap (λ lines. form.Header nested.version ∷ lines) (flat_map-append part_forms nested.parts (part ∷ []))
    ∙ ap (λ lines. text_forms nested.version nested.parts ++ lines) (append-nil (part_forms part) ∙ is)
    ∙ sym (append_assoc (text_forms nested.version nested.parts) (open_forms nested.block) (some ∷ []))

top_adds : (version : ℕ) (all : List Part) (some : LineForm) → IsHeld (holding version all) some → Adds (holding version all) some
top_adds version all (form.Header other) is = absurd (is.no_header other refl)
top_adds version all (form.Unit name) is = opened_adds (holding version all) (InUnit name []) (form.Unit name) refl
top_adds version all (form.Resolution decimals) is = let held = is.held in absurd (cc)
top_adds version all (form.Param param) is = let held = is.held in absurd (cc)
top_adds version all (form.State state) is = let held = is.held in absurd (cc)
top_adds version all (form.Local local) is = let held = is.held in absurd (cc)
top_adds version all (form.Input input) is = let held = is.held in absurd (cc)
top_adds version all (form.EventInput event) is = let held = is.held in absurd (cc)
top_adds version all (form.Output output) is = let held = is.held in absurd (cc)
top_adds version all (form.EventOutput event) is = let held = is.held in absurd (cc)
top_adds version all (form.Max value) is = let held = is.held in absurd (cc)
top_adds version all form.Step is = let held = is.held in absurd (cc)
top_adds version all form.End is = let held = is.held in absurd (cc)
top_adds version all (form.Assign target value) is = let held = is.held in absurd (cc)
top_adds version all (form.If condition) is = let held = is.held in absurd (cc)
top_adds version all form.Else is = let held = is.held in absurd (cc)
top_adds version all (form.Repeat count) is = let held = is.held in absurd (cc)
top_adds version all (form.Accept value) is = let held = is.held in absurd (cc)
top_adds version all (form.Instance name unit) is =
    opened_adds (holding version all) (InInstance (record { name = name; unit = unit; settings = [] })) (form.Instance name unit) refl
top_adds version all (form.Setting setting) is = let held = is.held in absurd (cc)
top_adds version all (form.Connect wire) is = part_adds (holding version all) (parts.Connects wire) (form.Connect wire) refl
top_adds version all (form.Stop seconds) is = part_adds (holding version all) (parts.Stop seconds) (form.Stop seconds) refl
top_adds version all (form.Longest seconds) is = part_adds (holding version all) (parts.Longest seconds) (form.Longest seconds) refl
top_adds version all (form.Zero count) is = part_adds (holding version all) (parts.Zero count) (form.Zero count) refl
top_adds version all (form.Rows count) is = part_adds (holding version all) (parts.Rows count) (form.Rows count) refl
top_adds version all (form.Sample port) is = part_adds (holding version all) (parts.Samples port) (form.Sample port) refl

abbrev pub in_unit_at : ℕ → List Part → List ℕ → List UnitPart → Nested
in_unit_at version all unit inside = opened (holding version all) (InUnit unit inside)

unit_part_adds : (version : ℕ) (all : List Part) (unit : List ℕ) (inside : List UnitPart) (part : UnitPart) (some : LineForm)
    → unit_part_forms part ≡ some ∷ []
    → nested_forms (in_unit_at version all unit (inside ++ (part ∷ []))) ≡ nested_forms (in_unit_at version all unit inside) ++ (some ∷ [])
unit_part_adds version all unit inside part some is =
    opened_adds (in_unit_at version all unit inside) (InUnit unit (inside ++ (part ∷ []))) some
    (ap (λ lines. form.Unit unit ∷ lines) (flat_map-append unit_part_forms inside (part ∷ []))
    ∙ ap (λ lines. form.Unit unit ∷ flat_map unit_part_forms inside ++ lines) (append-nil (unit_part_forms part) ∙ is))

unit_adds : (version : ℕ) (all : List Part) (unit : List ℕ) (inside : List UnitPart) (some : LineForm) → IsHeld (in_unit_at version all unit inside) some
    → Adds (in_unit_at version all unit inside) some
unit_adds version all unit inside (form.Header other) is = absurd (is.no_header other refl)
unit_adds version all unit inside (form.Unit other) is = let held = is.held in absurd (cc)
unit_adds version all unit inside (form.Resolution decimals) is =
    unit_part_adds version all unit inside (parts.Resolution decimals) (form.Resolution decimals) refl
unit_adds version all unit inside (form.Param param) is = unit_part_adds version all unit inside (parts.HasParam param) (form.Param param) refl
unit_adds version all unit inside (form.State state) is = unit_part_adds version all unit inside (parts.HasState state) (form.State state) refl
unit_adds version all unit inside (form.Local local) is = unit_part_adds version all unit inside (parts.HasLocal local) (form.Local local) refl
unit_adds version all unit inside (form.Input input) is = unit_part_adds version all unit inside (parts.HasInput input) (form.Input input) refl
unit_adds version all unit inside (form.EventInput event) is = unit_part_adds version all unit inside (parts.HasEventIn event) (form.EventInput event) refl
unit_adds version all unit inside (form.Output output) is = unit_part_adds version all unit inside (parts.HasOutput output) (form.Output output) refl
unit_adds version all unit inside (form.EventOutput event) is = unit_part_adds version all unit inside (parts.HasEventOut event) (form.EventOutput event) refl
unit_adds version all unit inside (form.Max value) is = unit_part_adds version all unit inside (parts.Max value) (form.Max value) refl
unit_adds version all unit inside form.Step is =
    opened_adds (in_unit_at version all unit inside) (InStep unit inside (record { lines = []; around = [] })) form.Step refl
unit_adds version all unit inside form.End is = part_adds (in_unit_at version all unit inside) (parts.HasUnit unit inside) form.End refl
unit_adds version all unit inside (form.Assign target value) is = let held = is.held in absurd (cc)
unit_adds version all unit inside (form.If condition) is = let held = is.held in absurd (cc)
unit_adds version all unit inside form.Else is = let held = is.held in absurd (cc)
unit_adds version all unit inside (form.Repeat count) is = let held = is.held in absurd (cc)
unit_adds version all unit inside (form.Accept value) is = let held = is.held in absurd (cc)
unit_adds version all unit inside (form.Instance other named) is = let held = is.held in absurd (cc)
unit_adds version all unit inside (form.Setting setting) is = let held = is.held in absurd (cc)
unit_adds version all unit inside (form.Connect wire) is = let held = is.held in absurd (cc)
unit_adds version all unit inside (form.Stop seconds) is = let held = is.held in absurd (cc)
unit_adds version all unit inside (form.Longest seconds) is = let held = is.held in absurd (cc)
unit_adds version all unit inside (form.Zero count) is = let held = is.held in absurd (cc)
unit_adds version all unit inside (form.Rows count) is = let held = is.held in absurd (cc)
unit_adds version all unit inside (form.Sample port) is = let held = is.held in absurd (cc)

abbrev pub in_instance_at : ℕ → List Part → Instance → Nested
in_instance_at version all instance = opened (holding version all) (InInstance instance)

instance_adds : (version : ℕ) (all : List Part) (instance : Instance) (some : LineForm) → IsHeld (in_instance_at version all instance) some
    → Adds (in_instance_at version all instance) some
instance_adds version all instance (form.Header other) is = absurd (is.no_header other refl)
instance_adds version all instance (form.Unit other) is = let held = is.held in absurd (cc)
instance_adds version all instance (form.Resolution decimals) is = let held = is.held in absurd (cc)
instance_adds version all instance (form.Param param) is = let held = is.held in absurd (cc)
instance_adds version all instance (form.State state) is = let held = is.held in absurd (cc)
instance_adds version all instance (form.Local local) is = let held = is.held in absurd (cc)
instance_adds version all instance (form.Input input) is = let held = is.held in absurd (cc)
instance_adds version all instance (form.EventInput event) is = let held = is.held in absurd (cc)
instance_adds version all instance (form.Output output) is = let held = is.held in absurd (cc)
instance_adds version all instance (form.EventOutput event) is = let held = is.held in absurd (cc)
instance_adds version all instance (form.Max value) is = let held = is.held in absurd (cc)
instance_adds version all instance form.Step is = let held = is.held in absurd (cc)
instance_adds version all instance form.End is = part_adds (in_instance_at version all instance) (parts.HasInstance instance) form.End refl
instance_adds version all instance (form.Assign target value) is = let held = is.held in absurd (cc)
instance_adds version all instance (form.If condition) is = let held = is.held in absurd (cc)
instance_adds version all instance form.Else is = let held = is.held in absurd (cc)
instance_adds version all instance (form.Repeat count) is = let held = is.held in absurd (cc)
instance_adds version all instance (form.Accept value) is = let held = is.held in absurd (cc)
instance_adds version all instance (form.Instance other unit) is = let held = is.held in absurd (cc)
instance_adds version all instance (form.Setting setting) is =
    opened_adds (in_instance_at version all instance) (InInstance (record instance { settings = instance.settings ++ (setting ∷ []) })) (form.Setting setting)
    (ap (λ lines. form.Instance instance.name instance.unit ∷ lines) (map-append form.Setting instance.settings (setting ∷ [])))
instance_adds version all instance (form.Connect wire) is = let held = is.held in absurd (cc)
instance_adds version all instance (form.Stop seconds) is = let held = is.held in absurd (cc)
instance_adds version all instance (form.Longest seconds) is = let held = is.held in absurd (cc)
instance_adds version all instance (form.Zero count) is = let held = is.held in absurd (cc)
instance_adds version all instance (form.Rows count) is = let held = is.held in absurd (cc)
instance_adds version all instance (form.Sample port) is = let held = is.held in absurd (cc)

abbrev pub in_step_at : ℕ → List Part → List ℕ → List UnitPart → Inner → Nested
in_step_at version all unit inside inner = opened (holding version all) (InStep unit inside inner)

abbrev pub blocks_around : List Around → List Block
blocks_around around = map (λ block. block_of block.head) around ++ step_blocks

-- A step is not one of the other blocks.
pub record IsInStep (open_before : List Block) : Type 0 where
  pub not_top : blocks.at_top open_before ≡ false
  pub not_unit : blocks.in_unit open_before ≡ false
  pub not_instance : blocks.in_instance open_before ≡ false

pub in_step : (around : List Around) → IsInStep (blocks_around around)
in_step [] = record { not_top = refl; not_unit = refl; not_instance = refl }
in_step (block ∷ others) = by_head block.head
  where
    by_head : (head : Head) → IsInStep (block_of head ∷ blocks_around others)
    by_head (Then condition) = record { not_top = refl; not_unit = refl; not_instance = refl }
    by_head (Else condition then_lines) = record { not_top = refl; not_unit = refl; not_instance = refl }
    by_head (Times count) = record { not_top = refl; not_unit = refl; not_instance = refl }

inner_adds : (version : ℕ) (all : List Part) (unit : List ℕ) (inside : List UnitPart) (inner next : Inner) (some : LineForm)
    → around_forms next.around ++ flat_map line_forms next.lines ≡ (around_forms inner.around ++ flat_map line_forms inner.lines) ++ (some ∷ [])
    → nested_forms (in_step_at version all unit inside next) ≡ nested_forms (in_step_at version all unit inside inner) ++ (some ∷ [])
inner_adds version all unit inside inner next some is =
    opened_adds (in_step_at version all unit inside inner) (InStep unit inside next) some
    (ap (λ lines. form.Unit unit ∷ flat_map unit_part_forms inside ++ (form.Step ∷ lines)) is
    ∙ sym (append_assoc (form.Unit unit ∷ flat_map unit_part_forms inside) (form.Step ∷ around_forms inner.around ++ flat_map line_forms inner.lines)
    (some ∷ [])))

step_line_adds : (inner : Inner) (more : Line) (some : LineForm) → line_forms more ≡ some ∷ []
    → around_forms inner.around ++ flat_map line_forms (inner.lines ++ (more ∷ []))
    ≡ (around_forms inner.around ++ flat_map line_forms inner.lines) ++ (some ∷ [])
step_line_adds inner more some is =
    ap (λ lines. around_forms inner.around ++ lines)
    (flat_map-append line_forms inner.lines (more ∷ []) ∙ ap (λ lines. flat_map line_forms inner.lines ++ lines) (append-nil (line_forms more) ∙ is))
    ∙ sym (append_assoc (around_forms inner.around) (flat_map line_forms inner.lines) (some ∷ []))

turned_by_adds : (front : List LineForm) (condition : Expr) (lines : List Line)
    → (front ++ (form.If condition ∷ flat_map line_forms lines ++ (form.Else ∷ []))) ++ []
    ≡ ((front ++ (form.If condition ∷ [])) ++ flat_map line_forms lines) ++ (form.Else ∷ [])
turned_by_adds front condition lines =
    append-nil (front ++ (form.If condition ∷ flat_map line_forms lines ++ (form.Else ∷ [])))
    ∙ sym (append_assoc (front ++ (form.If condition ∷ [])) (flat_map line_forms lines) (form.Else ∷ [])
    ∙ append_assoc front (form.If condition ∷ []) (flat_map line_forms lines ++ (form.Else ∷ [])))

turned_adds : (lines : List Line) (around : List Around) → blocks.lacks_else (blocks_around around) ≡ true
    → around_forms (nesting.turned lines around) ++ [] ≡ (around_forms around ++ flat_map line_forms lines) ++ (form.Else ∷ [])
turned_adds lines [] lacks = absurd (cc)
turned_adds lines (block ∷ others) lacks = by_head block.head lacks
  where
    by_head : (head : Head) → blocks.lacks_else (block_of head ∷ blocks_around others) ≡ true
        → around_forms (nesting.turned lines (record { before = block.before; head = head } ∷ others)) ++ []
        ≡ (around_forms (record { before = block.before; head = head } ∷ others) ++ flat_map line_forms lines) ++ (form.Else ∷ [])
    by_head (Then condition) told = turned_by_adds (around_forms others ++ flat_map line_forms block.before) condition lines
    by_head (Else condition then_lines) told = absurd (cc)
    by_head (Times count) told = absurd (cc)

joined_is : (lines : List Line) → joined (map line_forms lines) ≡ flat_map line_forms lines
joined_is [] = refl
joined_is (some ∷ lines) = ap (λ others. line_forms some ++ others) (joined_is lines)

headed_forms : (head : Head) (lines : List Line) → line_forms (headed head lines) ≡ head_forms head ++ (flat_map line_forms lines ++ (form.End ∷ []))
headed_forms (Then condition) lines =
    fold-If (List LineForm) block_forms condition lines None
    ∙ ap (λ forms. form.If condition ∷ forms ++ (form.End ∷ [])) (append-nil (joined (map line_forms lines)) ∙ joined_is lines)
headed_forms (Else condition then_lines) lines =
    fold-If (List LineForm) block_forms condition then_lines (Some lines)
    ∙ ap (λ forms. form.If condition ∷ (forms ++ (form.Else ∷ joined (map line_forms lines))) ++ (form.End ∷ [])) (joined_is then_lines)
    ∙ ap (λ forms. form.If condition ∷ (flat_map line_forms then_lines ++ (form.Else ∷ forms)) ++ (form.End ∷ [])) (joined_is lines)
    ∙ ap (λ forms. form.If condition ∷ forms) (
    append_assoc (flat_map line_forms then_lines) (form.Else ∷ flat_map line_forms lines) (form.End ∷ [])
    ∙ sym (append_assoc (flat_map line_forms then_lines) (form.Else ∷ []) (flat_map line_forms lines ++ (form.End ∷ [])))
    )
headed_forms (Times count) lines =
    fold-Repeat (List LineForm) block_forms count lines
    ∙ ap (λ forms. form.Repeat count ∷ forms ++ (form.End ∷ [])) (joined_is lines)

ended_adds : (lines : List Line) (block : Around) (others : List Around)
    → around_forms others ++ flat_map line_forms (block.before ++ (headed block.head lines ∷ []))
    ≡ (around_forms (block ∷ others) ++ flat_map line_forms lines) ++ (form.End ∷ [])
ended_adds lines block others =
    let ending = flat_map line_forms lines ++ (form.End ∷ []) in
    ap (λ forms. around_forms others ++ forms)
    (flat_map-append line_forms block.before (headed block.head lines ∷ [])
    ∙ ap (λ forms. flat_map line_forms block.before ++ forms) (append-nil (line_forms (headed block.head lines)) ∙ headed_forms block.head lines))
    ∙ sym (append_assoc (around_forms (block ∷ others)) (flat_map line_forms lines) (form.End ∷ [])
    ∙ append_assoc (around_forms others ++ flat_map line_forms block.before) (head_forms block.head) ending
    ∙ append_assoc (around_forms others) (flat_map line_forms block.before) (head_forms block.head ++ ending))

step_ends : (version : ℕ) (all : List Part) (unit : List ℕ) (inside : List UnitPart) (lines : List Line) (around : List Around)
    → Adds (in_step_at version all unit inside (record { lines = lines; around = around })) form.End
step_ends version all unit inside lines [] =
    opened_adds (in_step_at version all unit inside (record { lines = lines; around = [] })) (InUnit unit (inside ++ (parts.Step lines ∷ []))) form.End
    (ap (λ forms. form.Unit unit ∷ forms) (flat_map-append unit_part_forms inside (parts.Step lines ∷ []))
    ∙ ap (λ forms. form.Unit unit ∷ flat_map unit_part_forms inside ++ forms) (append-nil (unit_part_forms (parts.Step lines)))
    ∙ sym (append_assoc (form.Unit unit ∷ flat_map unit_part_forms inside) (form.Step ∷ flat_map line_forms lines) (form.End ∷ [])))
step_ends version all unit inside lines (block ∷ others) =
    inner_adds version all unit inside (record { lines = lines; around = block ∷ others })
    (record { lines = block.before ++ (headed block.head lines ∷ []); around = others }) form.End (ended_adds lines block others)

step_adds : (version : ℕ) (all : List Part) (unit : List ℕ) (inside : List UnitPart) (inner : Inner) (some : LineForm)
    → IsHeld (in_step_at version all unit inside inner) some → Adds (in_step_at version all unit inside inner) some
step_adds version all unit inside inner (form.Header other) is = absurd (is.no_header other refl)
step_adds version all unit inside inner (form.Unit other) is = let held = is.held in let other = (in_step inner.around).not_top in absurd (cc)
step_adds version all unit inside inner (form.Resolution decimals) is = let held = is.held in let other = (in_step inner.around).not_unit in absurd (cc)
step_adds version all unit inside inner (form.Param param) is = let held = is.held in let other = (in_step inner.around).not_unit in absurd (cc)
step_adds version all unit inside inner (form.State state) is = let held = is.held in let other = (in_step inner.around).not_unit in absurd (cc)
step_adds version all unit inside inner (form.Local local) is = let held = is.held in let other = (in_step inner.around).not_unit in absurd (cc)
step_adds version all unit inside inner (form.Input input) is = let held = is.held in let other = (in_step inner.around).not_unit in absurd (cc)
step_adds version all unit inside inner (form.EventInput event) is = let held = is.held in let other = (in_step inner.around).not_unit in absurd (cc)
step_adds version all unit inside inner (form.Output output) is = let held = is.held in let other = (in_step inner.around).not_unit in absurd (cc)
step_adds version all unit inside inner (form.EventOutput event) is = let held = is.held in let other = (in_step inner.around).not_unit in absurd (cc)
step_adds version all unit inside inner (form.Max value) is = let held = is.held in let other = (in_step inner.around).not_unit in absurd (cc)
step_adds version all unit inside inner form.Step is = let held = is.held in let other = (in_step inner.around).not_unit in absurd (cc)
step_adds version all unit inside inner form.End is = step_ends version all unit inside inner.lines inner.around
step_adds version all unit inside inner (form.Assign target value) is =
    inner_adds version all unit inside inner (nesting.and_line inner (line.Assign target value)) (form.Assign target value)
    (step_line_adds inner (line.Assign target value) (form.Assign target value) (fold-Assign (List LineForm) block_forms target value))
step_adds version all unit inside inner (form.If condition) is =
    inner_adds version all unit inside inner (block_in inner (Then condition)) (form.If condition)
    (append-nil (around_forms (block_in inner (Then condition)).around))
step_adds version all unit inside inner form.Else is =
    inner_adds version all unit inside inner (record { lines = []; around = nesting.turned inner.lines inner.around }) form.Else
    (turned_adds inner.lines inner.around is.held)
step_adds version all unit inside inner (form.Repeat count) is =
    inner_adds version all unit inside inner (block_in inner (Times count)) (form.Repeat count)
    (append-nil (around_forms (block_in inner (Times count)).around))
step_adds version all unit inside inner (form.Accept value) is =
    inner_adds version all unit inside inner (nesting.and_line inner (line.Accept value)) (form.Accept value)
    (step_line_adds inner (line.Accept value) (form.Accept value) (fold-Accept (List LineForm) block_forms value))
step_adds version all unit inside inner (form.Instance of named) is = let held = is.held in let other = (in_step inner.around).not_top in absurd (cc)
step_adds version all unit inside inner (form.Setting setting) is = let held = is.held in let other = (in_step inner.around).not_instance in absurd (cc)
step_adds version all unit inside inner (form.Connect wire) is = let held = is.held in let other = (in_step inner.around).not_top in absurd (cc)
step_adds version all unit inside inner (form.Stop seconds) is = let held = is.held in let other = (in_step inner.around).not_top in absurd (cc)
step_adds version all unit inside inner (form.Longest seconds) is = let held = is.held in let other = (in_step inner.around).not_top in absurd (cc)
step_adds version all unit inside inner (form.Zero count) is = let held = is.held in let other = (in_step inner.around).not_top in absurd (cc)
step_adds version all unit inside inner (form.Rows count) is = let held = is.held in let other = (in_step inner.around).not_top in absurd (cc)
step_adds version all unit inside inner (form.Sample port) is = let held = is.held in let other = (in_step inner.around).not_top in absurd (cc)

adds_in : (version : ℕ) (all : List Part) (block : Open) (some : LineForm) → IsHeld (opened (holding version all) block) some
    → Adds (opened (holding version all) block) some
adds_in version all AtTop some is = top_adds version all some is
adds_in version all (InUnit unit inside) some is = unit_adds version all unit inside some is
adds_in version all (InStep unit inside inner) some is = step_adds version all unit inside inner some is
adds_in version all (InInstance instance) some is = instance_adds version all instance some is

pub adds : (nested : Nested) (some : LineForm) → IsHeld nested some → nested_forms (and_form nested some) ≡ nested_forms nested ++ (some ∷ [])
adds nested some is = adds_in nested.version nested.parts nested.block some is

-- ---- Lines that are allowed after a header

-- What comes before the next line, after the lines of what is nested.
abbrev pub before_next : Nested → Before
before_next nested = and_lines no_lines (nested_forms nested)

pub header_has_rival : (nested : Nested) (version : ℕ) → has_rival (before_next nested) (form.Header version) ≡ true
header_has_rival nested version = ap (list_any (are_alike (form.Header version))) (all_in_text (nested_forms nested) no_lines)

pub is_held : (nested : Nested) (some : LineForm) → may_stand (before_next nested) some ≡ true → IsHeld nested some
is_held nested some may =
    let both =
    and_parts (holds_form (before_next nested).open_blocks some)
    (not (has_rival (before_next nested) some) && has_room (before_next nested).open_blocks some) may in
    let alone = and_parts (not (has_rival (before_next nested) some)) (has_room (before_next nested).open_blocks some) both.1 in
    record {
      held = subst (λ open_before. holds_form open_before some ≡ true) (blocks_are nested) both.0;
      no_header = λ version is.
          let rival = subst (λ one. not (has_rival (before_next nested) one) ≡ true) is alone.0 in
          let has = header_has_rival nested version in
          absurd (cc);
    }

-- one line more, as what is nested keeps it
pub before_more : (nested : Nested) (some : LineForm) → IsHeld nested some → before_next (and_form nested some) ≡ and_line (before_next nested) some
before_more nested some is = ap (and_lines no_lines) (adds nested some is) ∙ fold-append and_line no_lines (nested_forms nested) (some ∷ [])

pub placed_add : (forms : List LineForm) (nested : Nested) → are_placed (before_next nested) forms ≡ true
    → nested_forms (fold and_form nested forms) ≡ nested_forms nested ++ forms
placed_add [] nested placed = sym (append-nil (nested_forms nested))
placed_add (some ∷ forms) nested placed =
    let both = and_parts (may_stand (before_next nested) some) (are_placed (and_line (before_next nested) some) forms) placed in
    let held = is_held nested some both.0 in
    placed_add forms (and_form nested some) (subst (λ before. are_placed before forms ≡ true) (sym (before_more nested some held)) both.1)
    ∙ ap (λ lines. lines ++ forms) (adds nested some held)
    ∙ append_assoc (nested_forms nested) (some ∷ []) forms

-- a step has a block around its lines
pub around_is_some : (around : List Around) → blocks_around around ≡ [] → ⊥
around_is_some [] is = cc
around_is_some (block ∷ others) is = cc

no_block : (block : Open) → blocks_of block ≡ [] → open_forms block ≡ []
no_block AtTop is = refl
no_block (InUnit unit inside) is = absurd (cc)
no_block (InStep unit inside inner) is = absurd (around_is_some inner.around is)
no_block (InInstance instance) is = absurd (cc)

-- the lines after a header are those of what they nest to
pub lines_are_nested : (version : ℕ) (forms : List LineForm) → IsTrue (are_placed no_lines (form.Header version ∷ forms))
    → nested_forms (nested_by version forms) ≡ form.Header version ∷ forms
lines_are_nested version forms placed =
    placed_add forms (headed_by version)
    (and_parts (may_stand no_lines (form.Header version)) (are_placed (and_line no_lines (form.Header version)) forms) placed).1

-- where no block is open, they are the lines of the parts
pub whole_forms : (nested : Nested) → open_blocks (nested_forms nested) ≡ [] → nested_forms nested ≡ text_forms nested.version nested.parts
whole_forms nested none =
    ap (λ rest. text_forms nested.version nested.parts ++ rest) (no_block nested.block (sym (blocks_are nested) ∙ none))
    ∙ append-nil (text_forms nested.version nested.parts)

pub parts_close : (version : ℕ) (all : List Part) → open_blocks (text_forms version all) ≡ []
parts_close version all = ap open_blocks (sym (append-nil (text_forms version all))) ∙ blocks_are (holding version all)

pub nesting_is_by_parts : NestingIsByParts
nesting_is_by_parts version forms placed = (closed, open_to)
  where
    nested : Nested
    nested = nested_by version forms

    lines : nested_forms nested ≡ form.Header version ∷ forms
    lines = lines_are_nested version forms placed

    closed : open_blocks (form.Header version ∷ forms) ≡ [] → (all : List Part) × (form.Header version ∷ forms ≡ text_forms version all)
    closed none =
        let whole = sym lines ∙ whole_forms nested (ap open_blocks lines ∙ none) in
        let same : version ≡ nested.version = cc in
        (nested.parts, whole ∙ ap (λ by. text_forms by nested.parts) (sym same))

    open_to : (all : List Part) × (form.Header version ∷ forms ≡ text_forms version all) → open_blocks (form.Header version ∷ forms) ≡ []
    open_to (all, is) = ap open_blocks is ∙ parts_close version all
