-- Lines of a step are allowed exactly where their blocks are not too deep.
use Rattle.std.proofs.Common.{◌≡◌, ℕ, suc, ◌+◌, Bool, true, false, ◌&&◌, not, nat_le, nat_lt, max, cond, List, [], ◌∷◌, ◌++◌, append_assoc, map, drop, Some}
use Rattle.std.proofs.Common.{None, refl, ap, sym, subst, ◌∙◌, arith}
use Rattle.std.specs.List.{count_by, fold, flat_map}
use Rattle.std.proofs.lemmas.Bool.Decides.{nat_tests}
use Rattle.std.proofs.lemmas.List.Sums.{sum_by-cons}
use Rattle.unit_tree.specs.Blocks.{Block, InIf, InElse, InRepeat, behind, Before, and_line, and_lines, at_top, in_step, lacks_else, is_inner, may_stand}
use Rattle.unit_tree.specs.Blocks.{are_placed}
use Rattle.unit_tree.specs.Parts.{block_forms, joined, line_forms}
use Rattle.unit_tree.specs.Printable.{deepest, block_depth, line_depth}
use Rattle.unit_tree.specs.declared.expr.Expr.{Expr}
use Rattle.unit_tree.specs.declared.line.Line as line
use Rattle.unit_tree.specs.declared.line.Line.{Line}
use Rattle.unit_tree.specs.declared.line.Line.TheFolds.{ind-Line, map-Line}
use Rattle.unit_tree.specs.declared.line.Line.TheOpen.{Line-F}
use Rattle.unit_tree.specs.declared.line.Line.TheVariants.{rolls-Assign, rolls-If, rolls-Repeat, rolls-Accept}
use Rattle.unit_tree.specs.declared.line.Line.TheViews.{roll-Line}
use Rattle.unit_tree.specs.declared.line_form.LineForm.{LineForm}
use Rattle.unit_tree.specs.declared.line_form.LineForm.TheVariants as form
use Rattle.unit_tree.proofs.FoldLemmas.{fold-Assign, fold-If, fold-Repeat, fold-Accept}
use Rattle.language_laws.proofs.OpenBlocks.{blocks_behind, line_leaves, joined_leave}
use Rattle.list_laws.proofs.Truths.{and_true, and_assoc}

-- ---- Lines in a row

-- Lines are allowed if the first ones are, and the others after them.
pub placed_of_two : (before : Before) (xs ys : List LineForm) → are_placed before (xs ++ ys) ≡ (are_placed before xs && are_placed (and_lines before xs) ys)
placed_of_two before [] ys = refl
placed_of_two before (x ∷ xs) ys =
    ap (λ rest. may_stand before x && rest) (placed_of_two (and_line before x) xs ys)
    ∙ sym (and_assoc (may_stand before x) (are_placed (and_line before x) xs) (are_placed (and_lines (and_line before x) xs) ys))

-- ---- Room

-- How many blocks of `if` and `repeat` are open.
abbrev pub depth_in : List Block → ℕ
depth_in blocks = count_by is_inner blocks

-- Blocks nested this deep have room inside these.
abbrev pub have_room : List Block → ℕ → Bool
have_room blocks deep = nat_le (depth_in blocks + deep) 16

-- A block of a step, which may have lines of a step.
pub record IsStep (before : Before) (blocks : List Block) : Type 0 where
  pub blocks_are : before.open_blocks ≡ blocks
  pub step : in_step blocks ≡ true
  pub room : have_room blocks 0 ≡ true

-- The deepest is found from any start.
deepest_more : (start : ℕ) (depths : List ℕ) → fold max start depths ≡ max start (deepest depths)
deepest_more start [] = omega arith
deepest_more start (depth ∷ depths) =
    let one = deepest_more (max start depth) depths in
    let other = deepest_more (max 0 depth) depths in
    omega (arith, one, other)

-- Two have room where the deeper one has.
two_have_room : (around one other : ℕ) → (nat_le (around + one) 16 && nat_le (around + other) 16) ≡ nat_le (around + max one other) 16
two_have_room around one other = grind (arith, nat_tests)

-- The deepest has room where the first and the deepest of the others have.
room_for_more : (blocks : List Block) (depth : ℕ) (depths : List ℕ)
    → (have_room blocks depth && have_room blocks (deepest depths)) ≡ have_room blocks (deepest (depth ∷ depths))
room_for_more blocks depth depths =
    let more : deepest (depth ∷ depths) ≡ max depth (deepest depths) = omega (arith, deepest_more (max 0 depth) depths) in
    two_have_room (depth_in blocks) depth (deepest depths) ∙ ap (have_room blocks) (sym more)

-- ---- One line of a step

-- A line of a step is allowed in a step exactly where its blocks have room.
record IsDeep (some : Line) : Type 0 where
  placed : (before : Before) (blocks : List Block) → IsStep before blocks → are_placed before (line_forms some) ≡ have_room blocks (line_depth some)

-- A line with its depth, and what is known of it.
abbrev Deep : Type 0
Deep = (some : Line) × IsDeep some

-- The line of a pair.
abbrev line_in : Deep → Line
line_in one = one.0

-- The lines of such pairs.
abbrev forms_in : List Deep → List LineForm
forms_in lines = joined (map line_forms (map line_in lines))

-- The depth of the deepest.
abbrev depth_of : List Deep → ℕ
depth_of lines = deepest (map line_depth (map line_in lines))

-- After such lines the same blocks are open.
left_open : (lines : List Deep) (before : Before) (blocks : List Block) → before.open_blocks ≡ blocks → (and_lines before (forms_in lines)).open_blocks ≡ blocks
left_open lines before blocks is = blocks_behind before (forms_in lines) ∙ ap (λ all. fold behind all (forms_in lines)) is
    ∙ joined_leave (map line_in lines) blocks

-- The same after one line.
line_left_open : (some : Line) (before : Before) (blocks : List Block) → before.open_blocks ≡ blocks
    → (and_lines before (line_forms some)).open_blocks ≡ blocks
line_left_open some before blocks is = blocks_behind before (line_forms some) ∙ ap (λ all. fold behind all (line_forms some)) is ∙ line_leaves some blocks

-- They are allowed in a step exactly where the deepest has room.
all_placed : (lines : List Deep) (before : Before) (blocks : List Block) → IsStep before blocks
    → are_placed before (forms_in lines) ≡ have_room blocks (depth_of lines)
all_placed [] before blocks is = sym is.room
all_placed (one ∷ lines) before blocks is =
    let after = and_lines before (line_forms one.0) in
    let after_is : IsStep after blocks =
    record { blocks_are = line_left_open one.0 before blocks is.blocks_are; step = is.step; room = is.room } in
    placed_of_two before (line_forms one.0) (forms_in lines)
    ∙ ap (λ told. told && are_placed after (forms_in lines)) (one.1.placed before blocks is)
    ∙ ap (λ told. have_room blocks (line_depth one.0) && told) (all_placed lines after blocks after_is)
    ∙ room_for_more blocks (line_depth one.0) (map line_depth (map line_in lines))

-- ---- Blocks

-- The lines of a block, and the lines after them, of which it is known whether they are allowed
-- there.
block_placed : (lines : List Deep) (rest : List LineForm) (before : Before) (blocks : List Block) (told : Bool) → IsStep before blocks
    → ((after : Before) → after.open_blocks ≡ blocks → are_placed after rest ≡ told)
    → are_placed before (forms_in lines ++ rest) ≡ (have_room blocks (depth_of lines) && told)
block_placed lines rest before blocks told is behind_them =
    placed_of_two before (forms_in lines) rest
    ∙ ap (λ first. first && are_placed (and_lines before (forms_in lines)) rest) (all_placed lines before blocks is)
    ∙ ap (λ last. have_room blocks (depth_of lines) && last) (behind_them (and_lines before (forms_in lines)) (left_open lines before blocks is.blocks_are))

-- An `end` is allowed where a block is open.
end_placed : (block : Block) (blocks : List Block) (after : Before) → after.open_blocks ≡ block ∷ blocks → are_placed after (form.End ∷ []) ≡ true
end_placed block blocks after is = ap (λ all. (not (at_top all) && true) && true) is

-- The lines of a block with its `end`.
ended_placed : (lines : List Deep) (before : Before) (block : Block) (blocks : List Block) → IsStep before (block ∷ blocks)
    → are_placed before (forms_in lines ++ (form.End ∷ [])) ≡ have_room (block ∷ blocks) (depth_of lines)
ended_placed lines before block blocks is =
    block_placed lines (form.End ∷ []) before (block ∷ blocks) true is (end_placed block blocks) ∙ and_true (have_room (block ∷ blocks) (depth_of lines))

-- A block of `if` or `repeat` is one deeper than those around it.
one_deeper : (block : Block) (blocks : List Block) (deep : ℕ) → is_inner block ≡ true → have_room (block ∷ blocks) deep ≡ have_room blocks (suc deep)
one_deeper block blocks deep is =
    ap (λ around. nat_le (around + deep) 16) (sum_by-cons (λ one. cond (is_inner one) 1 0) block blocks)
    ∙ ap (λ told. nat_le ((cond told 1 0 + depth_in blocks) + deep) 16) is
    ∙ ap (λ all. nat_le all 16) (omega arith)

-- A line that opens such a block, and the lines after it there.
opened_by_room : (told : Bool) (blocks : List Block) (inside : Bool) (deep : ℕ) → nat_lt (depth_in blocks) 16 ≡ told
    → (nat_lt (depth_in blocks) 16 ≡ true → inside ≡ have_room blocks (suc deep)) → (told && inside) ≡ have_room blocks (suc deep)
opened_by_room true blocks inside deep is within = within is
opened_by_room false blocks inside deep is within = none (depth_in blocks) is
  where
    none : (around : ℕ) → nat_lt around 16 ≡ false → false ≡ nat_le (around + suc deep) 16
    none around is = grind (arith, nat_tests)

-- A line that opens a block of `if` or `repeat`.
record Opens (some : LineForm) (block : Block) : Type 0 where
  behind_is : (blocks : List Block) → behind blocks some ≡ block ∷ blocks
  inner : is_inner block ≡ true
  step : (blocks : List Block) → in_step (block ∷ blocks) ≡ true
  may_be : (before : Before) → may_stand before some ≡ (in_step before.open_blocks && nat_lt (depth_in before.open_blocks) 16)

-- Such a line with its block is allowed exactly where there is room for one block more.
opened_placed : (some : LineForm) (block : Block) (lines : List LineForm) (before : Before) (blocks : List Block) (deep : ℕ) → Opens some block
    → IsStep before blocks → (IsStep (and_line before some) (block ∷ blocks) → are_placed (and_line before some) lines ≡ have_room (block ∷ blocks) deep)
    → are_placed before (some ∷ lines) ≡ have_room blocks (suc deep)
opened_placed some block lines before blocks deep opens is inside =
    ap (λ told. told && are_placed (and_line before some) lines)
    (opens.may_be before ∙ ap (λ all. in_step all && nat_lt (depth_in all) 16) is.blocks_are ∙ ap (λ told. told && nat_lt (depth_in blocks) 16) is.step)
    ∙ opened_by_room (nat_lt (depth_in blocks) 16) blocks (are_placed (and_line before some) lines) deep refl
    (λ less. inside (record {
      blocks_are = opens.behind_is before.open_blocks ∙ ap (λ all. block ∷ all) is.blocks_are;
      step = opens.step blocks;
      room = one_deeper block blocks 0 opens.inner ∙ enough (depth_in blocks) less;
    }) ∙ one_deeper block blocks deep opens.inner)
  where
    enough : (around : ℕ) → nat_lt around 16 ≡ true → nat_le (around + 1) 16 ≡ true
    enough around less = grind (arith, nat_tests)

-- An `if` opens a block.
opens-If : (condition : Expr) → Opens (form.If condition) InIf
opens-If condition = record { behind_is = λ blocks. refl; inner = refl; step = λ blocks. refl; may_be = λ before. refl }

-- A `repeat` opens a block.
opens-Repeat : (count : ℕ) → Opens (form.Repeat count) InRepeat
opens-Repeat count = record { behind_is = λ blocks. refl; inner = refl; step = λ blocks. refl; may_be = λ before. refl }

-- ---- Each line

-- A line with no block.
simple_placed : (some : Line) (own : LineForm) → line_forms some ≡ own ∷ []
    → ((before : Before) → may_stand before own ≡ in_step before.open_blocks) → line_depth some ≡ 0 → IsDeep some
simple_placed some own are may_be depth = record {
  placed = λ before blocks is.
      ap (are_placed before) are
      ∙ ap (λ told. told && true) (may_be before ∙ ap in_step is.blocks_are ∙ is.step)
      ∙ sym (ap (have_room blocks) depth ∙ is.room);
}

-- An assignment has no block.
deep-Assign : (target : List ℕ) (value : Expr) → IsDeep (line.Assign target value)
deep-Assign target value =
    simple_placed (line.Assign target value) (form.Assign target value) (fold-Assign (List LineForm) block_forms target value)
    (λ before. and_true (in_step before.open_blocks)) (fold-Assign ℕ block_depth target value)

-- An `accept` has no block.
deep-Accept : (value : Expr) → IsDeep (line.Accept value)
deep-Accept value =
    simple_placed (line.Accept value) (form.Accept value) (fold-Accept (List LineForm) block_forms value)
    (λ before. and_true (in_step before.open_blocks)) (fold-Accept ℕ block_depth value)

-- A `repeat` is one deeper than its lines.
deep-Repeat : (count : ℕ) (body : List Deep) → IsDeep (line.Repeat count (map line_in body))
deep-Repeat count body =
    let are = fold-Repeat (List LineForm) block_forms count (map line_in body) in
    record {
      placed = λ before blocks is.
          ap (are_placed before) are
          ∙ opened_placed (form.Repeat count) InRepeat (forms_in body ++ (form.End ∷ [])) before blocks (depth_of body) (opens-Repeat count) is
          (ended_placed body (and_line before (form.Repeat count)) InRepeat blocks)
          ∙ ap (have_room blocks) (sym (fold-Repeat ℕ block_depth count (map line_in body)));
    }

-- The lines of an `if`, with what follows the lines of its block, which begins the `else` or is the
-- `end`.
abbrev if_forms : Expr → List Deep → List LineForm → List LineForm
if_forms condition then_lines rest = form.If condition ∷ forms_in then_lines ++ rest

-- An `if` is one deeper than its lines.
deep-IfNone : (condition : Expr) (then_lines : List Deep) → IsDeep (line.If condition (map line_in then_lines) None)
deep-IfNone condition then_lines =
    let are : line_forms (line.If condition (map line_in then_lines) None) ≡ if_forms condition then_lines (form.End ∷ []) =
    fold-If (List LineForm) block_forms condition (map line_in then_lines) None
    ∙ ap (λ lines. form.If condition ∷ lines) (append_assoc (forms_in then_lines) [] (form.End ∷ [])) in
    let depth : line_depth (line.If condition (map line_in then_lines) None) ≡ suc (depth_of then_lines) =
    fold-If ℕ block_depth condition (map line_in then_lines) None ∙ ap suc (omega arith) in
    record {
      placed = λ before blocks is.
          ap (are_placed before) are
          ∙ opened_placed (form.If condition) InIf (forms_in then_lines ++ (form.End ∷ [])) before blocks (depth_of then_lines) (opens-If condition) is
          (ended_placed then_lines (and_line before (form.If condition)) InIf blocks)
          ∙ ap (have_room blocks) (sym depth);
    }

-- `else` with its lines and the `end`, after the lines of an `if`.
else_placed : (else_lines : List Deep) (blocks : List Block) → have_room (InIf ∷ blocks) 0 ≡ true → (after : Before) → after.open_blocks ≡ InIf ∷ blocks
    → are_placed after (form.Else ∷ forms_in else_lines ++ (form.End ∷ [])) ≡ have_room (InIf ∷ blocks) (depth_of else_lines)
else_placed else_lines blocks room after is =
    let within : IsStep (and_line after form.Else) (InElse ∷ blocks) =
    record { blocks_are = ap (λ all. InElse ∷ drop 1 all) is; step = refl; room = as_deep 0 ∙ room } in
    ap (λ all. (lacks_else all && true) && are_placed (and_line after form.Else) (forms_in else_lines ++ (form.End ∷ []))) is
    ∙ ended_placed else_lines (and_line after form.Else) InElse blocks within
    ∙ as_deep (depth_of else_lines)
  where
    as_deep : (deep : ℕ) → have_room (InElse ∷ blocks) deep ≡ have_room (InIf ∷ blocks) deep
    as_deep deep = one_deeper InElse blocks deep refl ∙ sym (one_deeper InIf blocks deep refl)

-- An `if` with an `else` is one deeper than the lines of both.
deep-IfElse : (condition : Expr) (then_lines else_lines : List Deep) → IsDeep (line.If condition (map line_in then_lines) (Some (map line_in else_lines)))
deep-IfElse condition then_lines else_lines =
    let rest = form.Else ∷ forms_in else_lines ++ (form.End ∷ []) in
    let are : line_forms (line.If condition (map line_in then_lines) (Some (map line_in else_lines))) ≡ if_forms condition then_lines rest =
    fold-If (List LineForm) block_forms condition (map line_in then_lines) (Some (map line_in else_lines))
    ∙ ap (λ lines. form.If condition ∷ lines) (append_assoc (forms_in then_lines) (form.Else ∷ forms_in else_lines) (form.End ∷ [])) in
    let depth : line_depth (line.If condition (map line_in then_lines) (Some (map line_in else_lines)))
    ≡ suc (max (depth_of then_lines) (depth_of else_lines)) =
    fold-If ℕ block_depth condition (map line_in then_lines) (Some (map line_in else_lines)) in
    record {
      placed = λ before blocks is.
          ap (are_placed before) are
          ∙ opened_placed (form.If condition) InIf (forms_in then_lines ++ rest) before blocks (max (depth_of then_lines) (depth_of else_lines))
          (opens-If condition) is
          (λ within.
          block_placed then_lines rest (and_line before (form.If condition)) (InIf ∷ blocks) (have_room (InIf ∷ blocks) (depth_of else_lines)) within
          (else_placed else_lines blocks within.room)
          ∙ two_have_room (depth_in (InIf ∷ blocks)) (depth_of then_lines) (depth_of else_lines))
          ∙ ap (have_room blocks) (sym depth);
    }

-- This is true of each line, if it is of the lines of its blocks.
deep_node : (y : Line-F Deep) → IsDeep (roll-Line (map-Line Deep Line line_in y))
deep_node (Line-F.Assign target value) = subst IsDeep (sym (rolls-Assign target value)) (deep-Assign target value)
deep_node (Line-F.If condition then_lines None) = subst IsDeep (sym (rolls-If condition (map line_in then_lines) None)) (deep-IfNone condition then_lines)
deep_node (Line-F.If condition then_lines (Some else_lines)) =
    subst IsDeep (sym (rolls-If condition (map line_in then_lines) (Some (map line_in else_lines)))) (deep-IfElse condition then_lines else_lines)
deep_node (Line-F.Repeat count body) = subst IsDeep (sym (rolls-Repeat count (map line_in body))) (deep-Repeat count body)
deep_node (Line-F.Accept value) = subst IsDeep (sym (rolls-Accept value)) (deep-Accept value)

-- This is true of every line.
is_deep : (some : Line) → IsDeep some
is_deep = ind-Line IsDeep (λ x y is. subst (λ z. IsDeep (roll-Line z)) is (deep_node y))

-- ---- Lines of a step

-- They are allowed in a step exactly where the deepest has room.
pub lines_placed : (lines : List Line) (before : Before) (blocks : List Block) → IsStep before blocks
    → are_placed before (flat_map line_forms lines) ≡ have_room blocks (deepest (map line_depth lines))
lines_placed [] before blocks is = sym is.room
lines_placed (some ∷ lines) before blocks is =
    let after = and_lines before (line_forms some) in
    let deep = is_deep some in
    let after_is : IsStep after blocks = record { blocks_are = line_left_open some before blocks is.blocks_are; step = is.step; room = is.room } in
    placed_of_two before (line_forms some) (flat_map line_forms lines)
    ∙ ap (λ told. told && are_placed after (flat_map line_forms lines)) (deep.placed before blocks is)
    ∙ ap (λ told. have_room blocks (line_depth some) && told) (lines_placed lines after blocks after_is)
    ∙ room_for_more blocks (line_depth some) (map line_depth lines)
