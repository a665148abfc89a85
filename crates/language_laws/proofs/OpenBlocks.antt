-- What is after given lines: the lines before the next one, and the open blocks; and that a step line is in its step.
use Rattle.std.specs.Prelude.{⊤}
use Rattle.std.proofs.Common.{◌≡◌, ℕ, true, false, List, [], ◌∷◌, ◌++◌, append_assoc, map, Some, None, refl, ap, sym, subst, ◌∙◌, append-nil}
use Rattle.std.specs.List.{flat_map, fold}
use Rattle.std.proofs.lemmas.List.Sums.{fold-append}
use Rattle.unit_tree.specs.Blocks.{Block, InUnit, InStep, InIf, InElse, InRepeat, InInstance, behind, Before, and_line, and_lines, in_step}
use Rattle.unit_tree.specs.Parts as parts
use Rattle.unit_tree.specs.Parts.{Part, UnitPart, block_forms, joined, line_forms, unit_part_forms, part_forms}
use Rattle.unit_tree.specs.Sites.{Scope, StepScope, is_end, is_scope_in}
use Rattle.unit_tree.specs.declared.expr.Expr.{Expr}
use Rattle.unit_tree.specs.declared.line.Line as line
use Rattle.unit_tree.specs.declared.line.Line.{Line}
use Rattle.unit_tree.specs.declared.line.Line.TheFolds.{ind-Line, map-Line}
use Rattle.unit_tree.specs.declared.line.Line.TheOpen.{Line-F}
use Rattle.unit_tree.specs.declared.line.Line.TheVariants.{rolls-Assign, rolls-If, rolls-Repeat, rolls-Accept}
use Rattle.unit_tree.specs.declared.line.Line.TheViews.{roll-Line}
use Rattle.unit_tree.specs.declared.line_form.LineForm.{LineForm}
use Rattle.unit_tree.specs.declared.line_form.LineForm.TheVariants as form
use Rattle.unit_tree.specs.declared.system.Setting.{Setting}
use Rattle.unit_tree.specs.declared.unit.Unit.{Unit}
use Rattle.unit_tree.proofs.FoldLemmas.{fold-Assign, fold-If, fold-Repeat, fold-Accept}

-- All lines of the text so far.
pub all_in_text : (lines : List LineForm) (before : Before) → (and_lines before lines).in_text ≡ before.in_text ++ lines
all_in_text [] before = sym (append-nil before.in_text)
all_in_text (some ∷ lines) before = all_in_text lines (and_line before some) ∙ append_assoc before.in_text (some ∷ []) lines

-- The open blocks after lines depend only on those before them.
pub blocks_behind : (before : Before) (lines : List LineForm) → (and_lines before lines).open_blocks ≡ fold behind before.open_blocks lines
blocks_behind before [] = refl
blocks_behind before (line ∷ lines) = blocks_behind (and_line before line) lines

-- ---- Lines of one scope

-- Each of the lines, after those before it, has the scope.
abbrev pub AreIn : Scope → List Block → List LineForm → Type 0
AreIn scope blocks [] = ⊤
AreIn scope blocks (line ∷ lines) = (is_scope_in blocks scope line ≡ true) × AreIn scope (behind blocks line) lines

-- Lines that have the scope, and leave those blocks open.
pub record Stay (scope : Scope) (blocks : List Block) (lines : List LineForm) (after : List Block) : Type 0 where
  pub leave : fold behind blocks lines ≡ after
  pub are_in : AreIn scope blocks lines

pub are_in_both : (scope : Scope) (blocks : List Block) (xs ys : List LineForm) → AreIn scope blocks xs → AreIn scope (fold behind blocks xs) ys
    → AreIn scope blocks (xs ++ ys)
are_in_both scope blocks [] ys on_xs on_ys = on_ys
are_in_both scope blocks (x ∷ xs) ys on_xs on_ys = (on_xs.0, are_in_both scope (behind blocks x) xs ys on_xs.1 on_ys)

pub stay_both : (scope : Scope) (blocks between after : List Block) (xs ys : List LineForm) → Stay scope blocks xs between → Stay scope between ys after
    → Stay scope blocks (xs ++ ys) after
stay_both scope blocks between after xs ys on_xs on_ys = record {
  leave = fold-append behind blocks xs ys ∙ ap (λ all. fold behind all ys) on_xs.leave ∙ on_ys.leave;
  are_in = are_in_both scope blocks xs ys on_xs.are_in (subst (λ all. AreIn scope all ys) (sym on_xs.leave) on_ys.are_in);
}

-- ---- Step lines

-- A step line closes what it opens. In a step, or in a block there, each of its lines has the scope of the step.
pub record IsInStep (some : Line) : Type 0 where
  pub closed : (blocks : List Block) → fold behind blocks (line_forms some) ≡ blocks
  pub are_in : (unit : Unit) (blocks : List Block) → in_step blocks ≡ true → AreIn (StepScope unit) blocks (line_forms some)

abbrev pub Stepped : Type 0
Stepped = (some : Line) × IsInStep some

abbrev pub line_in : Stepped → Line
line_in one = one.0

abbrev pub forms_in : List Stepped → List LineForm
forms_in lines = joined (map line_forms (map line_in lines))

pub all_closed : (lines : List Stepped) (blocks : List Block) → fold behind blocks (forms_in lines) ≡ blocks
all_closed [] blocks = refl
all_closed (one ∷ lines) blocks =
    fold-append behind blocks (line_forms one.0) (forms_in lines) ∙ ap (λ all. fold behind all (forms_in lines)) (one.1.closed blocks) ∙ all_closed lines blocks

pub all_in : (unit : Unit) (lines : List Stepped) (blocks : List Block) → in_step blocks ≡ true → AreIn (StepScope unit) blocks (forms_in lines)
all_in unit [] blocks is = _
all_in unit (one ∷ lines) blocks is =
    are_in_both (StepScope unit) blocks (line_forms one.0) (forms_in lines) (one.1.are_in unit blocks is)
    (subst (λ all. AreIn (StepScope unit) all (forms_in lines)) (sym (one.1.closed blocks)) (all_in unit lines blocks is))

-- The lines of a block, and the line that closes it.
pub block_closed : (lines : List Stepped) (rest : List LineForm) (blocks after : List Block) → fold behind blocks rest ≡ after
    → fold behind blocks (forms_in lines ++ rest) ≡ after
block_closed lines rest blocks after is = fold-append behind blocks (forms_in lines) rest ∙ ap (λ all. fold behind all rest) (all_closed lines blocks) ∙ is

pub block_in : (unit : Unit) (lines : List Stepped) (rest : List LineForm) (blocks : List Block) → in_step blocks ≡ true → AreIn (StepScope unit) blocks rest
    → AreIn (StepScope unit) blocks (forms_in lines ++ rest)
block_in unit lines rest blocks is on_rest =
    are_in_both (StepScope unit) blocks (forms_in lines) rest (all_in unit lines blocks is)
    (subst (λ all. AreIn (StepScope unit) all rest) (sym (all_closed lines blocks)) on_rest)

pub in_step_scope : (unit : Unit) (blocks : List Block) (line : LineForm) → in_step blocks ≡ true → is_end line ≡ false
    → is_scope_in blocks (StepScope unit) line ≡ true
in_step_scope unit [] line is not_end = absurd (cc is)
in_step_scope unit (InUnit ∷ blocks) line is not_end = absurd (cc is)
in_step_scope unit (InStep ∷ blocks) line is not_end = rw not_end refl
in_step_scope unit (InIf ∷ blocks) line is not_end = refl
in_step_scope unit (InElse ∷ blocks) line is not_end = refl
in_step_scope unit (InRepeat ∷ blocks) line is not_end = refl
in_step_scope unit (InInstance ∷ blocks) line is not_end = absurd (cc is)

pub in_step-Assign : (target : List ℕ) (value : Expr) → IsInStep (line.Assign target value)
in_step-Assign target value =
    let are = fold-Assign (List LineForm) block_forms target value in
    record {
      closed = λ blocks. ap (fold behind blocks) are;
      are_in = λ unit blocks is. subst (AreIn (StepScope unit) blocks) (sym are) (in_step_scope unit blocks (form.Assign target value) is refl, _);
    }

pub in_step-Accept : (value : Expr) → IsInStep (line.Accept value)
in_step-Accept value =
    let are = fold-Accept (List LineForm) block_forms value in
    record {
      closed = λ blocks. ap (fold behind blocks) are;
      are_in = λ unit blocks is. subst (AreIn (StepScope unit) blocks) (sym are) (in_step_scope unit blocks (form.Accept value) is refl, _);
    }

pub in_step-Repeat : (count : ℕ) (body : List Stepped) → IsInStep (line.Repeat count (map line_in body))
in_step-Repeat count body =
    let are = fold-Repeat (List LineForm) block_forms count (map line_in body) in
    record {
      closed = λ blocks. ap (fold behind blocks) are ∙ block_closed body (form.End ∷ []) (InRepeat ∷ blocks) blocks refl;
      are_in = λ unit blocks is.
          subst (AreIn (StepScope unit) blocks) (sym are)
          (in_step_scope unit blocks (form.Repeat count) is refl, block_in unit body (form.End ∷ []) (InRepeat ∷ blocks) refl (refl, _));
    }

-- The lines of an `if`, with what follows the lines of its block, which begins the `else` or is the `end`.
abbrev pub if_forms : Expr → List Stepped → List LineForm → List LineForm
if_forms condition then_lines rest = form.If condition ∷ forms_in then_lines ++ rest

pub in_step-IfNone : (condition : Expr) (then_lines : List Stepped) → IsInStep (line.If condition (map line_in then_lines) None)
in_step-IfNone condition then_lines =
    let are : line_forms (line.If condition (map line_in then_lines) None) ≡ if_forms condition then_lines (form.End ∷ []) =
    fold-If (List LineForm) block_forms condition (map line_in then_lines) None
    ∙ ap (λ lines. form.If condition ∷ lines) (append_assoc (forms_in then_lines) [] (form.End ∷ [])) in
    record {
      closed = λ blocks. ap (fold behind blocks) are ∙ block_closed then_lines (form.End ∷ []) (InIf ∷ blocks) blocks refl;
      are_in = λ unit blocks is.
          subst (AreIn (StepScope unit) blocks) (sym are)
          (in_step_scope unit blocks (form.If condition) is refl, block_in unit then_lines (form.End ∷ []) (InIf ∷ blocks) refl (refl, _));
    }

pub in_step-IfElse : (condition : Expr) (then_lines else_lines : List Stepped)
    → IsInStep (line.If condition (map line_in then_lines) (Some (map line_in else_lines)))
in_step-IfElse condition then_lines else_lines =
    let rest = form.Else ∷ forms_in else_lines ++ (form.End ∷ []) in
    let are : line_forms (line.If condition (map line_in then_lines) (Some (map line_in else_lines))) ≡ if_forms condition then_lines rest =
    fold-If (List LineForm) block_forms condition (map line_in then_lines) (Some (map line_in else_lines))
    ∙ ap (λ lines. form.If condition ∷ lines) (append_assoc (forms_in then_lines) (form.Else ∷ forms_in else_lines) (form.End ∷ [])) in
    record {
      closed = λ blocks. ap (fold behind blocks) are
          ∙ block_closed then_lines rest (InIf ∷ blocks) blocks (block_closed else_lines (form.End ∷ []) (InElse ∷ blocks) blocks refl);
      are_in = λ unit blocks is.
          subst (AreIn (StepScope unit) blocks) (sym are) (
            in_step_scope unit blocks (form.If condition) is refl,
            block_in unit then_lines rest (InIf ∷ blocks) refl (refl, block_in unit else_lines (form.End ∷ []) (InElse ∷ blocks) refl (refl, _)),
          );
    }

pub step_node : (y : Line-F Stepped) → IsInStep (roll-Line (map-Line Stepped Line line_in y))
step_node (Line-F.Assign target value) = subst IsInStep (sym (rolls-Assign target value)) (in_step-Assign target value)
step_node (Line-F.If condition then_lines None) = subst IsInStep (sym (rolls-If condition (map line_in then_lines) None)) (in_step-IfNone condition then_lines)
step_node (Line-F.If condition then_lines (Some else_lines)) =
    subst IsInStep (sym (rolls-If condition (map line_in then_lines) (Some (map line_in else_lines)))) (in_step-IfElse condition then_lines else_lines)
step_node (Line-F.Repeat count body) = subst IsInStep (sym (rolls-Repeat count (map line_in body))) (in_step-Repeat count body)
step_node (Line-F.Accept value) = subst IsInStep (sym (rolls-Accept value)) (in_step-Accept value)

pub is_in_step : (some : Line) → IsInStep some
is_in_step = ind-Line IsInStep (λ x y is. subst (λ z. IsInStep (roll-Line z)) is (step_node y))

pub line_leaves : (some : Line) (blocks : List Block) → fold behind blocks (line_forms some) ≡ blocks
line_leaves some = (is_in_step some).closed

pub joined_leave : (lines : List Line) (blocks : List Block) → fold behind blocks (joined (map line_forms lines)) ≡ blocks
joined_leave [] blocks = refl
joined_leave (one ∷ lines) blocks =
    fold-append behind blocks (line_forms one) (joined (map line_forms lines))
    ∙ ap (λ all. fold behind all (joined (map line_forms lines))) (line_leaves one blocks)
    ∙ joined_leave lines blocks

pub lines_leave : (lines : List Line) (blocks : List Block) → fold behind blocks (flat_map line_forms lines) ≡ blocks
lines_leave [] blocks = refl
lines_leave (one ∷ lines) blocks =
    fold-append behind blocks (line_forms one) (flat_map line_forms lines) ∙ ap (λ all. fold behind all (flat_map line_forms lines)) (line_leaves one blocks)
    ∙ lines_leave lines blocks

pub lines_stay : (unit : Unit) (lines : List Line) (blocks : List Block) → in_step blocks ≡ true
    → Stay (StepScope unit) blocks (flat_map line_forms lines) blocks
lines_stay unit [] blocks is = record { leave = refl; are_in = _ }
lines_stay unit (one ∷ lines) blocks is =
    stay_both (StepScope unit) blocks blocks blocks (line_forms one) (flat_map line_forms lines)
    (record { leave = line_leaves one blocks; are_in = (is_in_step one).are_in unit blocks is }) (lines_stay unit lines blocks is)

-- ---- Parts

pub unit_part_leaves : (part : UnitPart) → fold behind (InUnit ∷ []) (unit_part_forms part) ≡ InUnit ∷ []
unit_part_leaves (parts.Resolution decimals) = refl
unit_part_leaves (parts.HasParam param) = refl
unit_part_leaves (parts.HasState state) = refl
unit_part_leaves (parts.HasLocal local) = refl
unit_part_leaves (parts.HasInput input) = refl
unit_part_leaves (parts.HasEventIn event) = refl
unit_part_leaves (parts.HasOutput output) = refl
unit_part_leaves (parts.HasEventOut event) = refl
unit_part_leaves (parts.Max value) = refl
unit_part_leaves (parts.Step lines) =
    fold-append behind (InStep ∷ InUnit ∷ []) (flat_map line_forms lines) (form.End ∷ [])
    ∙ ap (λ all. fold behind all (form.End ∷ [])) (lines_leave lines (InStep ∷ InUnit ∷ []))

pub unit_parts_leave : (inside : List UnitPart) → fold behind (InUnit ∷ []) (flat_map unit_part_forms inside) ≡ InUnit ∷ []
unit_parts_leave [] = refl
unit_parts_leave (part ∷ inside) =
    fold-append behind (InUnit ∷ []) (unit_part_forms part) (flat_map unit_part_forms inside)
    ∙ ap (λ all. fold behind all (flat_map unit_part_forms inside)) (unit_part_leaves part) ∙ unit_parts_leave inside

pub settings_leave : (settings : List Setting) → fold behind (InInstance ∷ []) (map form.Setting settings) ≡ InInstance ∷ []
settings_leave [] = refl
settings_leave (setting ∷ settings) = settings_leave settings

pub part_leaves : (part : Part) → fold behind [] (part_forms part) ≡ []
part_leaves (parts.HasUnit name inside) =
    fold-append behind (InUnit ∷ []) (flat_map unit_part_forms inside) (form.End ∷ []) ∙ ap (λ all. fold behind all (form.End ∷ [])) (unit_parts_leave inside)
part_leaves (parts.HasInstance instance) =
    fold-append behind (InInstance ∷ []) (map form.Setting instance.settings) (form.End ∷ [])
    ∙ ap (λ all. fold behind all (form.End ∷ [])) (settings_leave instance.settings)
part_leaves (parts.Connects wire) = refl
part_leaves (parts.Stop seconds) = refl
part_leaves (parts.Longest seconds) = refl
part_leaves (parts.Zero count) = refl
part_leaves (parts.Rows count) = refl
part_leaves (parts.Samples port) = refl

pub parts_leave : (all : List Part) → fold behind [] (flat_map part_forms all) ≡ []
parts_leave [] = refl
parts_leave (part ∷ all) =
    fold-append behind [] (part_forms part) (flat_map part_forms all) ∙ ap (λ blocks. fold behind blocks (flat_map part_forms all)) (part_leaves part)
    ∙ parts_leave all
