-- The places of a piece are in order at any place of the code: their jumps, loops and heights, the path to them, and their cost.
use Rattle.std.proofs.Common.{◌≡◌, ℕ, suc, ◌+◌, ◌-◌, ◌*◌, ◌<◌, ◌≤◌, List, [], ◌∷◌, ◌++◌, length, Some, refl, sym, ap, ◌∙◌, subst, inl, inr, ⊎_elim, arith}
use Rattle.std.proofs.Common.{length-append, mul-add, mul-one, mul-zero, mul_assoc, mul_comm}
use Rattle.std.proofs.lemmas.Bool.{cases_lt}
use Rattle.std.specs.Prelude.{slice_get, unwrap_or}
use Rattle.unit_vm.specs.declared.instruction.Instruction.{Instruction}
use Rattle.unit_vm.specs.declared.instruction.Instruction.TheVariants.{Jump, JumpFalse, Loop, Next}
use Rattle.unit_vm.specs.declared.instruction.Flow.TheVariants as flow
use Rattle.unit_vm.specs.declared.program.Sizes.{Sizes}
use Rattle.unit_vm.specs.Instructions.{flow_of, takes, leaves}
use Rattle.unit_vm.specs.Loops.{Ring, rest_of, loops_around, turns_of, cost_before}
use Rattle.unit_vm.specs.Valid.{LeadsTo, JumpsTo, IsWay, ClosesLoop}
use Rattle.unit_vm.proofs.LevelMeasure.{around_as}
use Rattle.code_pieces.specs.Pieces.{Piece, Nothing, One, Then, Choice, When, Turns, flat, cost, one_height, height_behind, top_of}
use Rattle.code_pieces.proofs.ItemPlaces.{HasAt, has_front, has_back, has_to}
use Rattle.code_pieces.proofs.PieceShapes.{Made}
use Rattle.code_pieces.proofs.Heights.{left, marks, marks_length, single_told, and_told, popped_told, both_told, under_top, first_mark}

module _ (code : List Instruction) (heights : List ℕ) where
  -- A place is in order, and the next one is reached from it or from an earlier one.
  pub record Placed (place : ℕ) : Type 0 where
    pub instruction : Instruction
    pub stands : slice_get code place ≡ Some instruction
    pub jumps : (to : ℕ) → JumpsTo place (flow_of instruction) to → loops_around code to ≡ loops_around code place
    pub nexts : (distance : ℕ) → flow_of instruction ≡ flow.Back distance → ClosesLoop (loops_around code place) place distance
    pub height : ℕ
    pub high : slice_get heights place ≡ Some height
    pub operand : takes instruction ≤ height
    pub low : height ≤ 64
    pub ways : (to : ℕ) → LeadsTo place (flow_of instruction) to → slice_get heights to ≡ Some (height - takes instruction + leaves instruction)
    pub before : ℕ
    pub earlier : before ≤ place
    pub leads : IsWay code before (suc place)

  -- All places from one to another are in order, the loops after them are those before, and this is their cost in one turn of these
  -- loops.
  pub record Block (from to price : ℕ) : Type 0 where
    pub placed : (k : ℕ) → from ≤ k → k < to → Placed k
    pub same : loops_around code to ≡ loops_around code from
    pub costs : cost_before code to ≡ cost_before code from + turns_of (loops_around code from) * price

  two : (a b c x y : ℕ) → Block a b x → Block b c y → Block a c (x + y)
  two a b c x y one other =
      let turns = turns_of (loops_around code a) in
      let first = one.costs in
      let second = other.costs in
      let moved = ap (λ rings. turns_of rings * y) one.same in
      record {
        placed = λ k low high. ⊎_elim (λ l. one.placed k low l) (λ g. other.placed k g high) (cases_lt k b);
        same = other.same ∙ one.same;
        costs = omega (arith, first, second, moved, mul-add turns x y);
      }

  to_end : (a b c x : ℕ) → b ≡ c → Block a b x → Block a c x
  to_end a b c x e block = subst (λ n. Block a n x) e block

  none : (p : ℕ) → Block p p 0
  none p = record {
    placed = λ k low high. absurd (omega (arith, low, high));
    same = refl;
    costs = (let turns = turns_of (loops_around code p) in let free = mul-zero turns in
        let g : cost_before code p ≡ cost_before code p + turns * 0 = omega (arith, free) in g);
  }

  placed_as : (p k : ℕ) → p ≤ k → k < suc p → Placed p → Placed k
  placed_as p k low high h = let e : p ≡ k = omega (arith, low, high) in subst Placed e h

  only : (p : ℕ) → Placed p → loops_around code (suc p) ≡ loops_around code p → Block p (suc p) 1
  only p h e = record {
    placed = λ k low high. placed_as p k low high h;
    same = e;
    costs = (let turns = turns_of (loops_around code p) in let one = mul-one turns in
        let g : cost_before code p + turns ≡ cost_before code p + turns * 1 = omega (arith, one) in g);
  }

  -- An instruction that goes on.
  placed_on : (p : ℕ) (i : Instruction) (height told : ℕ) → slice_get code p ≡ Some i → flow_of i ≡ flow.On → slice_get heights p ≡ Some height
      → takes i ≤ height → height ≤ 64
      → height - takes i + leaves i ≡ told → slice_get heights (suc p) ≡ Some told → Placed p
  placed_on p i height told stands on high operand low sum behind = record {
    instruction = i;
    stands = stands;
    jumps = λ to j. absurd (let never : JumpsTo p flow.On to = subst (λ f. JumpsTo p f to) on j in never);
    nexts = λ d e. absurd (apart d (sym on ∙ e));
    height = height;
    high = high;
    operand = operand;
    low = low;
    ways = λ to l. let next : to ≡ suc p = subst (λ f. LeadsTo p f to) on l in ap (λ n. slice_get heights n) next ∙ (behind ∙ ap (λ n. Some n) (sym sum));
    before = p;
    earlier = omega arith;
    leads = record { instruction = i; stands = stands; leads = subst (λ f. LeadsTo p f (suc p)) (sym on) refl };
  }
    where
      apart : (d : ℕ) → flow.On ≡ flow.Back d → ⊥
      apart d e = cc

  -- A conditional jump, to where the same loops are around.
  placed_branch : (p d height : ℕ) → slice_get code p ≡ Some (JumpFalse d) → slice_get heights p ≡ Some height → 1 ≤ height → height ≤ 64
      → slice_get heights (suc p) ≡ Some (height - 1) → slice_get heights (p + d) ≡ Some (height - 1) → loops_around code (p + d) ≡ loops_around code p
      → Placed p
  placed_branch p d height stands high operand low next far same =
      let sum : height - 1 ≡ height - 1 + 0 = omega arith in
      record {
        instruction = JumpFalse d;
        stands = stands;
        jumps = λ to j. let there : to ≡ p + d = j in ap (λ n. loops_around code n) there ∙ same;
        nexts = λ other e. absurd (apart other e);
        height = height;
        high = high;
        operand = operand;
        low = low;
        ways = λ to l.
            ⊎_elim (λ (e : to ≡ suc p). ap (λ n. slice_get heights n) e ∙ (next ∙ ap (λ n. Some n) sum))
            (λ (e : to ≡ p + d). ap (λ n. slice_get heights n) e ∙ (far ∙ ap (λ n. Some n) sum)) l;
        before = p;
        earlier = omega arith;
        leads = record { instruction = JumpFalse d; stands = stands; leads = inl refl };
      }
    where
      apart : (other : ℕ) → flow.Branch d ≡ flow.Back other → ⊥
      apart other e = cc

  -- A jump, whose next place is reached from elsewhere.
  placed_jump : (p d height before : ℕ) → slice_get code p ≡ Some (Jump d) → slice_get heights p ≡ Some height → height ≤ 64
      → slice_get heights (p + d) ≡ Some height → loops_around code (p + d) ≡ loops_around code p → before ≤ p → IsWay code before (suc p) → Placed p
  placed_jump p d height before stands high low far same earlier way =
      let sum : height ≡ height - 0 + 0 = omega arith in
      record {
        instruction = Jump d;
        stands = stands;
        jumps = λ to j. let there : to ≡ p + d = j in ap (λ n. loops_around code n) there ∙ same;
        nexts = λ other e. absurd (apart other e);
        height = height;
        high = high;
        operand = omega arith;
        low = low;
        ways = λ to l. let there : to ≡ p + d = l in ap (λ n. slice_get heights n) there ∙ (far ∙ ap (λ n. Some n) sum);
        before = before;
        earlier = earlier;
        leads = way;
      }
    where
      apart : (other : ℕ) → flow.Ahead d ≡ flow.Back other → ⊥
      apart other e = cc

  placed_loop : (p count height : ℕ) → slice_get code p ≡ Some (Loop count) → slice_get heights p ≡ Some height → height ≤ 64
      → slice_get heights (suc p) ≡ Some height → Placed p
  placed_loop p count height stands high low next =
      let sum : height ≡ height - 0 + 0 = omega arith in
      record {
        instruction = Loop count;
        stands = stands;
        jumps = λ to j. absurd j;
        nexts = λ other e. absurd (apart other e);
        height = height;
        high = high;
        operand = omega arith;
        low = low;
        ways = λ to l. let there : to ≡ suc p = l in ap (λ n. slice_get heights n) there ∙ (next ∙ ap (λ n. Some n) sum);
        before = p;
        earlier = omega arith;
        leads = record { instruction = Loop count; stands = stands; leads = refl };
      }
    where
      apart : (other : ℕ) → flow.Open count ≡ flow.Back other → ⊥
      apart other e = cc

  -- The end of a turn, in the loop that it closes.
  placed_next : (p d height : ℕ) → slice_get code p ≡ Some (Next d) → slice_get heights p ≡ Some height → height ≤ 64
      → slice_get heights (suc p) ≡ Some height → slice_get heights (p - d) ≡ Some height
      → ClosesLoop (loops_around code p) p d → Placed p
  placed_next p d height stands high low next back closes =
      let sum : height ≡ height - 0 + 0 = omega arith in
      record {
        instruction = Next d;
        stands = stands;
        jumps = λ to j. absurd j;
        nexts = λ other e. let same = distance_is other e in subst (ClosesLoop (loops_around code p) p) same closes;
        height = height;
        high = high;
        operand = omega arith;
        low = low;
        ways = λ to l.
            ⊎_elim (λ (e : to ≡ p - d). ap (λ n. slice_get heights n) e ∙ (back ∙ ap (λ n. Some n) sum))
            (λ (e : to ≡ suc p). ap (λ n. slice_get heights n) e ∙ (next ∙ ap (λ n. Some n) sum)) l;
        before = p;
        earlier = omega arith;
        leads = record { instruction = Next d; stands = stands; leads = inr refl };
      }
    where
      distance_is : (other : ℕ) → flow.Back d ≡ flow.Back other → d ≡ other
      distance_is other e = cc

  -- A body in its loop.
  looped : (p m count price : ℕ) (rings : List Ring) → loops_around code p ≡ rings → loops_around code (suc p) ≡ record { begin = p; count = count } ∷ rings
      → suc p ≤ m
      → Placed p → Block (suc p) m price → Placed m → loops_around code (suc m) ≡ rings → Block p (suc m) (1 + count * (price + 1))
  looped p m count price rings here within far first body last behind =
      let turns = turns_of rings in
      let inner = body.costs in
      let all = ap (λ rs. turns_of rs * price) within in
      let at_end = ap (λ rs. turns_of rs) (body.same ∙ within) in
      let at_begin = ap (λ rs. turns_of rs) here in
      let whole = ap (λ rs. turns_of rs * (1 + count * (price + 1))) here in
      let product : turns * (count * (price + 1)) ≡ (count * turns) * (price + 1) = sym (mul_assoc turns count (price + 1))
      ∙ ap (λ n. n * (price + 1)) (mul_comm turns count) in
      record {
        placed = λ k low high. ⊎_elim
            (λ l. placed_as p k low l first)
            (λ g. ⊎_elim (λ l. body.placed k g l) (λ e. placed_as m k e high last) (cases_lt k m))
            (cases_lt k (suc p));
        same = behind ∙ sym here;
        costs = (let g : cost_before code m + turns_of (loops_around code m) ≡ cost_before code p + turns_of (loops_around code p) * (1 + count * (price + 1)) =
            omega (
              arith,
              inner,
              all,
              at_end,
              at_begin,
              whole,
              product,
              mul-add turns 1 (count * (price + 1)),
              mul-one turns,
              mul-add (count * turns) price 1,
              mul-one (count * turns),
            ) in
            g);
      }

  pub block : (sizes : Sizes) (piece : Piece) → Made sizes piece → (place height told : ℕ) → HasAt code place (flat piece)
      → HasAt heights place (marks piece height)
      → height_behind piece height ≡ Some told → slice_get heights (place + length (flat piece)) ≡ Some told → top_of piece height ≤ 64
      → Block place (place + length (flat piece)) (cost piece)
  block sizes Nothing m place height told has marked e end low = to_end place place _ 0 (let z : place ≡ place + 0 = omega arith in z) (none place)
  block sizes (One instruction) m place height told has marked e end low =
      let t = single_told instruction height told e in
      let under = under_top (One instruction) height told e in
      let next : suc place ≡ place + 1 = omega arith in
      to_end place (suc place) _ 1 next
      (only place (placed_on place instruction height told has.0 m.0 marked.0 t.0 (omega (arith, under.0, low)) t.1 (ap (λ n. slice_get heights n) next ∙ end))
      (around_as code place instruction flow.On has.0 m.0))
  block sizes (Then first second) m place height told has marked e end low =
      let t = and_told (height_behind first height) (height_behind second) told e in
      let long = length-append (flat first) (flat second) in
      let middle = place + length (flat first) in
      let far : middle + length (flat second) ≡ place + length (flat first ++ flat second) = omega (arith, long) in
      let there : place + length (marks first height) ≡ middle = omega (arith, marks_length first height) in
      let marked_front = has_front heights place (marks first height) (marks second (left first height)) marked in
      let marked_back =
      has_to heights _ middle (marks second (left first height)) there
      (has_back heights place (marks first height) (marks second (left first height)) marked) in
      let end_back = ap (λ n. slice_get heights n) far ∙ end in
      let end_front = first_mark heights middle second (left first height) told marked_back t.1 end_back in
      let one =
      block sizes first m.0 place height (left first height) (has_front code place (flat first) (flat second) has) marked_front t.0 end_front
      (omega (arith, low)) in
      let other =
      block sizes second m.1 middle (left first height) told (has_back code place (flat first) (flat second) has) marked_back t.1 end_back
      (omega (arith, low)) in
      to_end place _ _ _ far (two place middle _ (cost first) (cost second) one other)
  block sizes (Choice first second) m place height told has marked e end low =
      let t = popped_told (λ below. one_height (height_behind first below) (height_behind second below)) height told e in
      let b = both_told (height_behind first (height - 1)) (height_behind second (height - 1)) told t.1 in
      let tail = Jump (length (flat second) + 1) ∷ flat second in
      let long = length-append (flat first) tail in
      let middle = suc place + length (flat first) in
      let rest = has_back code (suc place) (flat first) tail has.1 in
      let behind_first : height_behind first (height - 1) ≡ Some (left first (height - 1)) = b.0 ∙ ap (λ o. Some (unwrap_or o 0)) (sym b.0) in
      let is_told : left first (height - 1) ≡ told = ap (λ o. unwrap_or o 0) b.0 in
      let marks_tail = left first (height - 1) ∷ marks second (height - 1) in
      let there : suc place + length (marks first (height - 1)) ≡ middle = omega (arith, marks_length first (height - 1)) in
      let marked_front = has_front heights (suc place) (marks first (height - 1)) marks_tail marked.1 in
      let marked_back = has_to heights _ middle marks_tail there (has_back heights (suc place) (marks first (height - 1)) marks_tail marked.1) in
      let far : suc middle + length (flat second) ≡ place + length (flat (Choice first second)) = omega (arith, long) in
      let end_second = ap (λ n. slice_get heights n) far ∙ end in
      let at_first = first_mark heights (suc place) first (height - 1) (left first (height - 1)) marked_front behind_first marked_back.0 in
      let at_second = first_mark heights (suc middle) second (height - 1) told marked_back.1 b.1 end_second in
      let one =
      block sizes first m.0 (suc place) (height - 1) (left first (height - 1))
      (has_front code (suc place) (flat first) tail has.1) marked_front behind_first marked_back.0 (omega (arith, low)) in
      let other = block sizes second m.1 (suc middle) (height - 1) told rest.1 marked_back.1 b.1 end_second (omega (arith, low)) in
      let under = under_top (Choice first second) height told e in
      let skips : place + (length (flat first) + 2) ≡ suc middle = omega arith in
      let over : middle + (length (flat second) + 1) ≡ suc middle + length (flat second) = omega arith in
      let around_jump = around_as code middle (Jump (length (flat second) + 1)) (flow.Ahead (length (flat second) + 1)) rest.0 refl in
      let around_branch = around_as code place (JumpFalse (length (flat first) + 2)) (flow.Branch (length (flat first) + 2)) has.0 refl in
      let here =
      placed_branch place (length (flat first) + 2) height has.0 marked.0 t.0 (omega (arith, under.0, low)) at_first
      (ap (λ n. slice_get heights n) skips ∙ at_second)
      (ap (λ n. loops_around code n) skips ∙ (around_jump ∙ (one.same ∙ around_branch))) in
      let jump =
      placed_jump middle (length (flat second) + 1) (left first (height - 1)) place rest.0 marked_back.0 (omega (arith, under.1, is_told, low))
      (ap (λ n. slice_get heights n) over ∙ (end_second ∙ ap (λ n. Some n) (sym is_told)))
      (ap (λ n. loops_around code n) over ∙ (other.same ∙ around_jump)) (omega arith)
      (record { instruction = JumpFalse (length (flat first) + 2); stands = has.0; leads = inr (sym skips) }) in
      to_end place _ _ _ far
      (two place (suc middle) _ (1 + cost first + 1) (cost second)
      (two place middle (suc middle) (1 + cost first) 1 (two place (suc place) middle 1 (cost first) (only place here around_branch) one)
      (only middle jump around_jump)) other)
  block sizes (When body) m place height told has marked e end low =
      let t = popped_told (λ below. one_height (height_behind body below) (Some below)) height told e in
      let b = both_told (height_behind body (height - 1)) (Some (height - 1)) told t.1 in
      let far : suc place + length (flat body) ≡ place + length (flat (When body)) = omega arith in
      let over : place + (length (flat body) + 1) ≡ suc place + length (flat body) = omega arith in
      let end_body = ap (λ n. slice_get heights n) far ∙ end in
      let at_body = first_mark heights (suc place) body (height - 1) told marked.1 b.0 end_body in
      let one = block sizes body m (suc place) (height - 1) told has.1 marked.1 b.0 end_body (omega (arith, low)) in
      let under = under_top (When body) height told e in
      let around_branch = around_as code place (JumpFalse (length (flat body) + 1)) (flow.Branch (length (flat body) + 1)) has.0 refl in
      let here =
      placed_branch place (length (flat body) + 1) height has.0 marked.0 t.0 (omega (arith, under.0, low)) at_body
      (ap (λ n. slice_get heights n) over ∙ (end_body ∙ sym b.1))
      (ap (λ n. loops_around code n) over ∙ (one.same ∙ around_branch)) in
      to_end place _ _ _ far (two place (suc place) _ 1 (cost body) (only place here around_branch) one)
  block sizes (Turns count body) m place height told has marked e end low =
      let b = both_told (height_behind body height) (Some height) told e in
      let tail = Next (length (flat body)) ∷ [] in
      let long = length-append (flat body) tail in
      let middle = suc place + length (flat body) in
      let rest = has_back code (suc place) (flat body) tail has.1 in
      let there : suc place + length (marks body height) ≡ middle = omega (arith, marks_length body height) in
      let marked_front = has_front heights (suc place) (marks body height) (height ∷ []) marked.1 in
      let marked_back = has_to heights _ middle (height ∷ []) there (has_back heights (suc place) (marks body height) (height ∷ []) marked.1) in
      let keeps : height_behind body height ≡ Some height = b.0 ∙ sym b.1 in
      let far : suc middle ≡ place + length (flat (Turns count body)) = omega (arith, long) in
      let behind = ap (λ n. slice_get heights n) far ∙ (end ∙ sym b.1) in
      let at_body = first_mark heights (suc place) body height height marked_front keeps marked_back.0 in
      let one =
      block sizes body m.2 (suc place) height height (has_front code (suc place) (flat body) tail has.1) marked_front keeps marked_back.0
      (omega (arith, low)) in
      let under = under_top (Turns count body) height told e in
      let fine : height ≤ 64 = omega (arith, under.0, low) in
      let rings = loops_around code place in
      let within : loops_around code (suc place) ≡ record { begin = place; count = count } ∷ rings =
      around_as code place (Loop count) (flow.Open count) has.0 refl in
      let at_end = one.same ∙ within in
      let around_next = around_as code middle (Next (length (flat body))) (flow.Back (length (flat body))) rest.0 refl in
      let back : middle - length (flat body) ≡ suc place = omega arith in
      let closes : ClosesLoop (loops_around code middle) middle (length (flat body)) =
      subst (λ rs. ClosesLoop rs middle (length (flat body))) (sym at_end) refl in
      let first = placed_loop place count height has.0 marked.0 fine at_body in
      let last = placed_next middle (length (flat body)) height rest.0 marked_back.0 fine behind (ap (λ n. slice_get heights n) back ∙ at_body) closes in
      to_end place _ _ _ far
      (looped place middle count (cost body) rings refl within (omega arith) first one last (around_next ∙ ap rest_of at_end))
