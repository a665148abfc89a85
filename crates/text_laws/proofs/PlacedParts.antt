-- Parts are allowed where no line that may occur only once came before, and where their steps are not too deep.
use Rattle.std.proofs.Common.{◌≡◌, ℕ, Bool, true, ◌&&◌, not, nat_le, List, [], ◌∷◌, ◌++◌, map, IsTrue, refl, ap, sym, ◌∙◌, arith}
use Rattle.std.specs.List.{flat_map, list_all, fold}
use Rattle.std.proofs.lemmas.Bool.{and_parts, and_from}
use Rattle.std.proofs.lemmas.List.Sums.{fold-append}
use Rattle.unit_tree.specs.Blocks.{Block, InUnit, InStep, InInstance, behind, Before, no_lines, and_line, and_lines, at_top, in_unit, in_instance, has_rival}
use Rattle.unit_tree.specs.Blocks.{may_stand, are_placed}
use Rattle.unit_tree.specs.Parts as parts
use Rattle.unit_tree.specs.Parts.{Part, UnitPart, line_forms, unit_part_forms, part_forms, text_forms, unit_of, system_of}
use Rattle.unit_tree.specs.Printable.{deepest, line_depth, step_depth}
use Rattle.unit_tree.specs.declared.line.Line.{Line}
use Rattle.unit_tree.specs.declared.line_form.LineForm.{LineForm}
use Rattle.unit_tree.specs.declared.line_form.LineForm.TheVariants as form
use Rattle.unit_tree.specs.declared.system.Instance.{Instance}
use Rattle.unit_tree.specs.declared.system.Setting.{Setting}
use Rattle.unit_tree.specs.declared.system.System.{System}
use Rattle.text_laws.proofs.Depths.{placed_of_two, IsStep, lines_placed}
use Rattle.language_laws.proofs.OpenBlocks.{blocks_behind, lines_leave, settings_leave, part_leaves}
use Rattle.list_laws.proofs.Truths.{and_true}

-- ---- Which parts are allowed

-- Each part, which has such lines, is allowed after those before it.
abbrev pub may_follow : {P : Type 0} → (P → List LineForm) → (Before → P → Bool) → Before → List P → Bool
may_follow forms may before [] = true
may_follow forms may before (part ∷ all) = may before part && may_follow forms may (and_lines before (forms part)) all

-- A step is at most sixteen blocks deep.
abbrev pub is_shallow : List Line → Bool
is_shallow lines = nat_le (deepest (map line_depth lines)) 16

-- A part of a unit is allowed after the lines before it.
abbrev pub unit_part_may_stand : Before → UnitPart → Bool
unit_part_may_stand before (parts.Resolution decimals) = not (has_rival before (form.Resolution decimals))
unit_part_may_stand before (parts.Max value) = not (has_rival before (form.Max value))
unit_part_may_stand before (parts.Step lines) = not (has_rival before form.Step) && is_shallow lines
unit_part_may_stand before _ = true

-- The parts of a unit are allowed in a row.
abbrev pub inside_may_stand : Before → List UnitPart → Bool
inside_may_stand = may_follow unit_part_forms unit_part_may_stand

-- A part of a text is allowed after the lines before it.
abbrev pub part_may_stand : Before → Part → Bool
part_may_stand before (parts.HasUnit name inside) = inside_may_stand (and_line before (form.Unit name)) inside
part_may_stand before (parts.Stop seconds) = not (has_rival before (form.Stop seconds))
part_may_stand before (parts.Longest seconds) = not (has_rival before (form.Longest seconds))
part_may_stand before (parts.Zero count) = not (has_rival before (form.Zero count))
part_may_stand before (parts.Rows count) = not (has_rival before (form.Rows count))
part_may_stand before _ = true

-- The parts of a text are allowed in a row.
abbrev pub parts_may_stand : Before → List Part → Bool
parts_may_stand = may_follow part_forms part_may_stand

-- ---- Parts of a unit

-- A unit is open, and has no lines yet.
abbrev unit_blocks : List Block
unit_blocks = InUnit ∷ []

-- A part of one line that is in a unit.
one_placed : (before : Before) (some : LineForm) (told : Bool) → may_stand before some ≡ (in_unit before.open_blocks && told)
    → before.open_blocks ≡ unit_blocks → are_placed before (some ∷ []) ≡ told
one_placed before some told may is = and_true (may_stand before some) ∙ may ∙ ap (λ all. in_unit all && told) is

-- A step is allowed in a unit that has none, if it is shallow.
step_placed : (before : Before) (lines : List Line) → before.open_blocks ≡ unit_blocks
    → are_placed before (unit_part_forms (parts.Step lines)) ≡ (not (has_rival before form.Step) && is_shallow lines)
step_placed before lines is =
    let inside = and_line before form.Step in
    let blocks = InStep ∷ unit_blocks in
    let within : IsStep inside blocks = record { blocks_are = ap (λ all. InStep ∷ all) is; step = refl; room = refl } in
    let after = and_lines inside (flat_map line_forms lines) in
    let after_is : after.open_blocks ≡ blocks = blocks_behind inside (flat_map line_forms lines) ∙ lines_leave lines inside.open_blocks ∙ within.blocks_are in
    ap (λ told. told && are_placed inside (flat_map line_forms lines ++ (form.End ∷ [])))
    (ap (λ all. in_unit all && (not (has_rival before form.Step) && true)) is ∙ and_true (not (has_rival before form.Step)))
    ∙ ap (λ told. not (has_rival before form.Step) && told) (
    placed_of_two inside (flat_map line_forms lines) (form.End ∷ [])
    ∙ ap (λ told. are_placed inside (flat_map line_forms lines) && told) (ap (λ all. (not (at_top all) && true) && true) after_is)
    ∙ and_true (are_placed inside (flat_map line_forms lines))
    ∙ lines_placed lines inside blocks within
    ∙ ap (λ deep. nat_le deep 16) (omega arith)
    )

-- The lines of a part are placed in a unit exactly where the part is allowed.
unit_part_placed : (part : UnitPart) (before : Before) → before.open_blocks ≡ unit_blocks
    → are_placed before (unit_part_forms part) ≡ unit_part_may_stand before part
unit_part_placed (parts.Resolution decimals) before is =
    one_placed before (form.Resolution decimals) (not (has_rival before (form.Resolution decimals)))
    (ap (λ told. in_unit before.open_blocks && told) (and_true (not (has_rival before (form.Resolution decimals))))) is
unit_part_placed (parts.HasParam param) before is = one_placed before (form.Param param) true refl is
unit_part_placed (parts.HasState state) before is = one_placed before (form.State state) true refl is
unit_part_placed (parts.HasLocal local) before is = one_placed before (form.Local local) true refl is
unit_part_placed (parts.HasInput input) before is = one_placed before (form.Input input) true refl is
unit_part_placed (parts.HasEventIn event) before is = one_placed before (form.EventInput event) true refl is
unit_part_placed (parts.HasOutput output) before is = one_placed before (form.Output output) true refl is
unit_part_placed (parts.HasEventOut event) before is = one_placed before (form.EventOutput event) true refl is
unit_part_placed (parts.Max value) before is =
    one_placed before (form.Max value) (not (has_rival before (form.Max value)))
    (ap (λ told. in_unit before.open_blocks && told) (and_true (not (has_rival before (form.Max value))))) is
unit_part_placed (parts.Step lines) before is = step_placed before lines is

-- They leave the unit open.
unit_part_leaves : (part : UnitPart) → fold behind unit_blocks (unit_part_forms part) ≡ unit_blocks
unit_part_leaves (parts.Step lines) =
    fold-append behind (InStep ∷ unit_blocks) (flat_map line_forms lines) (form.End ∷ [])
    ∙ ap (λ all. fold behind all (form.End ∷ [])) (lines_leave lines (InStep ∷ unit_blocks))
unit_part_leaves _ = refl

-- The same after them.
behind_unit_part : (part : UnitPart) (before : Before) → before.open_blocks ≡ unit_blocks → (and_lines before (unit_part_forms part)).open_blocks ≡ unit_blocks
behind_unit_part part before is = blocks_behind before (unit_part_forms part) ∙ ap (λ all. fold behind all (unit_part_forms part)) is ∙ unit_part_leaves part

-- The lines of parts of a unit are placed exactly where the parts are allowed.
inside_placed : (inside : List UnitPart) (before : Before) → before.open_blocks ≡ unit_blocks
    → are_placed before (flat_map unit_part_forms inside) ≡ inside_may_stand before inside
inside_placed [] before is = refl
inside_placed (part ∷ inside) before is =
    let after = and_lines before (unit_part_forms part) in
    placed_of_two before (unit_part_forms part) (flat_map unit_part_forms inside)
    ∙ ap (λ told. told && are_placed after (flat_map unit_part_forms inside)) (unit_part_placed part before is)
    ∙ ap (λ told. unit_part_may_stand before part && told) (inside_placed inside after (behind_unit_part part before is))

-- Lines of parts leave the unit open.
inside_leaves : (inside : List UnitPart) → fold behind unit_blocks (flat_map unit_part_forms inside) ≡ unit_blocks
inside_leaves [] = refl
inside_leaves (part ∷ inside) =
    fold-append behind unit_blocks (unit_part_forms part) (flat_map unit_part_forms inside)
    ∙ ap (λ all. fold behind all (flat_map unit_part_forms inside)) (unit_part_leaves part) ∙ inside_leaves inside

-- ---- Parts of a text

-- The `end` of a block that is still open after its lines.
ended_placed : (lines : List LineForm) (before : Before) (block : Block) → before.open_blocks ≡ block ∷ [] → fold behind (block ∷ []) lines ≡ block ∷ []
    → are_placed before (lines ++ (form.End ∷ [])) ≡ are_placed before lines
ended_placed lines before block is leave =
    placed_of_two before lines (form.End ∷ [])
    ∙ ap (λ told. are_placed before lines && told)
    (ap (λ all. (not (at_top all) && true) && true) (blocks_behind before lines ∙ ap (λ all. fold behind all lines) is ∙ leave))
    ∙ and_true (are_placed before lines)

-- Settings are allowed in an instance.
settings_placed : (settings : List Setting) (before : Before) → before.open_blocks ≡ InInstance ∷ [] → are_placed before (map form.Setting settings) ≡ true
settings_placed [] before is = refl
settings_placed (setting ∷ settings) before is =
    ap (λ all. (in_instance all && true) && are_placed (and_line before (form.Setting setting)) (map form.Setting settings)) is
    ∙ settings_placed settings (and_line before (form.Setting setting)) is

-- The lines of a unit are placed exactly where its parts are allowed.
unit_placed : (name : List ℕ) (inside : List UnitPart) (before : Before) → before.open_blocks ≡ []
    → are_placed before (part_forms (parts.HasUnit name inside)) ≡ inside_may_stand (and_line before (form.Unit name)) inside
unit_placed name inside before is =
    let within = and_line before (form.Unit name) in
    let opened : within.open_blocks ≡ unit_blocks = ap (λ all. InUnit ∷ all) is in
    ap (λ all. (at_top all && true) && are_placed within (flat_map unit_part_forms inside ++ (form.End ∷ []))) is
    ∙ ended_placed (flat_map unit_part_forms inside) within InUnit opened (inside_leaves inside)
    ∙ inside_placed inside within opened

-- The lines of an instance are placed.
instance_placed : (instance : Instance) (before : Before) → before.open_blocks ≡ [] → are_placed before (part_forms (parts.HasInstance instance)) ≡ true
instance_placed instance before is =
    let within = and_line before (form.Instance instance.name instance.unit) in
    let opened : within.open_blocks ≡ InInstance ∷ [] = ap (λ all. InInstance ∷ all) is in
    ap (λ all. (at_top all && true) && are_placed within (map form.Setting instance.settings ++ (form.End ∷ []))) is
    ∙ ended_placed (map form.Setting instance.settings) within InInstance opened (settings_leave instance.settings)
    ∙ settings_placed instance.settings within opened

-- A part of one line that is at the top.
top_placed : (before : Before) (some : LineForm) (told : Bool) → may_stand before some ≡ (at_top before.open_blocks && (told && true))
    → before.open_blocks ≡ [] → are_placed before (some ∷ []) ≡ told
top_placed before some told may is = and_true (may_stand before some) ∙ may ∙ ap (λ all. at_top all && (told && true)) is ∙ and_true told

-- The lines of a part are placed at the top exactly where the part is allowed.
part_placed : (part : Part) (before : Before) → before.open_blocks ≡ [] → are_placed before (part_forms part) ≡ part_may_stand before part
part_placed (parts.HasUnit name inside) before is = unit_placed name inside before is
part_placed (parts.HasInstance instance) before is = instance_placed instance before is
part_placed (parts.Connects wire) before is = top_placed before (form.Connect wire) true refl is
part_placed (parts.Stop seconds) before is = top_placed before (form.Stop seconds) (not (has_rival before (form.Stop seconds))) refl is
part_placed (parts.Longest seconds) before is = top_placed before (form.Longest seconds) (not (has_rival before (form.Longest seconds))) refl is
part_placed (parts.Zero count) before is = top_placed before (form.Zero count) (not (has_rival before (form.Zero count))) refl is
part_placed (parts.Rows count) before is = top_placed before (form.Rows count) (not (has_rival before (form.Rows count))) refl is
part_placed (parts.Samples port) before is = top_placed before (form.Sample port) true refl is

-- The lines of parts are placed at the top exactly where the parts are allowed.
pub parts_placed : (all : List Part) (before : Before) → before.open_blocks ≡ [] → are_placed before (flat_map part_forms all) ≡ parts_may_stand before all
parts_placed [] before is = refl
parts_placed (part ∷ all) before is =
    let after = and_lines before (part_forms part) in
    placed_of_two before (part_forms part) (flat_map part_forms all)
    ∙ ap (λ told. told && are_placed after (flat_map part_forms all)) (part_placed part before is)
    ∙ ap (λ told. part_may_stand before part && told)
    (parts_placed all after (blocks_behind before (part_forms part) ∙ ap (λ blocks. fold behind blocks (part_forms part)) is ∙ part_leaves part))

-- ---- Steps of parts that are placed

-- The first step of a unit is the one that it has.
shallow_with : (name : List ℕ) (inside : List UnitPart) (before : Before) (part : UnitPart) → unit_part_may_stand before part ≡ true
    → nat_le (step_depth (unit_of name inside).step) 16 ≡ true → nat_le (step_depth (unit_of name (part ∷ inside)).step) 16 ≡ true
shallow_with name inside before (parts.Step lines) may later = (and_parts (not (has_rival before form.Step)) (is_shallow lines) may).1
shallow_with name inside before _ may later = later

-- The step of a unit whose parts are allowed is shallow.
unit_is_shallow : (name : List ℕ) (inside : List UnitPart) (before : Before) → inside_may_stand before inside ≡ true
    → nat_le (step_depth (unit_of name inside).step) 16 ≡ true
unit_is_shallow name [] before may = refl
unit_is_shallow name (part ∷ inside) before may =
    let both = and_parts (unit_part_may_stand before part) (inside_may_stand (and_lines before (unit_part_forms part)) inside) may in
    shallow_with name inside before part both.0 (unit_is_shallow name inside (and_lines before (unit_part_forms part)) both.1)

-- The steps of all units are shallow.
abbrev are_shallow : System → Bool
are_shallow system = list_all (λ unit. nat_le (step_depth unit.step) 16) system.units

-- With one part before others.
all_shallow_with : (version : ℕ) (all : List Part) (before : Before) (part : Part) → part_may_stand before part ≡ true
    → are_shallow (system_of version all) ≡ true → are_shallow (system_of version (part ∷ all)) ≡ true
all_shallow_with version all before (parts.HasUnit name inside) may later =
    and_from (nat_le (step_depth (unit_of name inside).step) 16) (are_shallow (system_of version all))
    (unit_is_shallow name inside (and_line before (form.Unit name)) may) later
all_shallow_with version all before _ may later = later

-- The same for those of parts that are allowed.
all_are_shallow : (version : ℕ) (all : List Part) (before : Before) → parts_may_stand before all ≡ true → are_shallow (system_of version all) ≡ true
all_are_shallow version [] before may = refl
all_are_shallow version (part ∷ all) before may =
    let both = and_parts (part_may_stand before part) (parts_may_stand (and_lines before (part_forms part)) all) may in
    all_shallow_with version all before part both.0 (all_are_shallow version all (and_lines before (part_forms part)) both.1)

-- What comes before a line directly after the header.
abbrev pub headed : ℕ → Before
headed version = and_line no_lines (form.Header version)

-- The steps of the system of some parts are at most sixteen blocks deep where the lines of the parts are placed.
pub parts_keep_depth : (version : ℕ) (all : List Part) → IsTrue (are_placed no_lines (text_forms version all))
    → IsTrue (list_all (λ unit. nat_le (step_depth unit.step) 16) (system_of version all).units)
parts_keep_depth version all placed =
    all_are_shallow version all (headed version)
    (sym (parts_placed all (headed version) refl)
    ∙ (and_parts (may_stand no_lines (form.Header version)) (are_placed (headed version) (flat_map part_forms all)) placed).1)
