-- A piece with its end is a valid part.
use Rattle.std.proofs.Common.{◌≡◌, ℕ, zero, suc, ◌+◌, ◌-◌, ◌<◌, ◌≤◌, List, [], ◌∷◌, ◌++◌, length, Some, refl, sym, ap, ◌∙◌, subst, ⊎_elim, arith, length-append}
use Rattle.std.proofs.Common.{one-mul}
use Rattle.std.proofs.lemmas.Bool.{cases_lt}
use Rattle.std.proofs.lemmas.Option.{slice_get_within, same_Some}
use Rattle.std.specs.Prelude.{slice_get}
use Rattle.unit_vm.specs.declared.instruction.Instruction.{Instruction}
use Rattle.unit_vm.specs.declared.instruction.Flow.TheVariants as flow
use Rattle.unit_vm.specs.Instructions.{flow_of, takes, leaves}
use Rattle.unit_vm.specs.Loops.{loops_around, turns_of, cost_before, cost_of}
use Rattle.unit_vm.specs.Valid.{LeadsTo, JumpsTo, ClosesLoop, Reaches}
use Rattle.unit_vm.proofs.LevelMeasure.{around_as}
use Rattle.code_pieces.specs.Pieces.{flat, cost, part_code}
use Rattle.code_pieces.specs.Laws.{PiecePartsAreValid}
use Rattle.code_pieces.proofs.ItemPlaces.{has_front, has_back, has_to, has_itself}
use Rattle.code_pieces.proofs.PieceShapes.{made}
use Rattle.code_pieces.proofs.Heights.{marks, marks_length, under_top, first_mark}
use Rattle.code_pieces.proofs.PieceBlocks.{Placed, Block, block}
use Rattle.code_pieces.proofs.AllowedInstructions.{allowed, allowed_both, allowed_end}

-- Places that are each reached from an earlier one are reached.
reach : (code : List Instruction) (heights : List ℕ) (behind : ℕ) → ((k : ℕ) → k < behind → Placed code heights k) → (bound place : ℕ) → place < bound
    → place ≤ behind → (steps : ℕ) × Reaches code steps place
reach code heights behind placed zero place below within = absurd (omega (arith, below))
reach code heights behind placed (suc bound) zero below within = (0, refl)
reach code heights behind placed (suc bound) (suc k) below within =
    let h = placed k (omega (arith, within)) in
    let earlier = h.earlier in
    let before = reach code heights behind placed bound h.before (omega (arith, earlier, below)) (omega (arith, earlier, within)) in
    (suc before.0, (h.before, before.1, h.leads))

-- A block from the entry on, and then an end.
module _ (code : List Instruction) (heights : List ℕ) (end last price : ℕ) (finish : Instruction) (all : Block code heights 0 end price)
    (is_end : slice_get code end ≡ Some finish) (ends : flow_of finish ≡ flow.End) (high : slice_get heights end ≡ Some last)
    (long : length code ≡ suc end) where
  -- What holds of each placed instruction and of the end holds of every instruction of the code.
  at_each : (P : ℕ → Instruction → Type 0) → ((place : ℕ) (h : Placed code heights place) → P place h.instruction) → P end finish
      → (place : ℕ) (i : Instruction) → slice_get code place ≡ Some i → P place i
  at_each P inner outer place i at = ⊎_elim
      (λ l. let h = all.placed place (omega arith) l in subst (P place) (same_Some h.instruction i (sym h.stands ∙ at)) (inner place h))
      (λ g.
      let within = slice_get_within code place i at in
      let here : end ≡ place = omega (arith, g, within, long) in
      subst (λ k. P k i) here (subst (P end) (same_Some finish i (sym is_end ∙ (ap (λ n. slice_get code n) here ∙ at))) outer))
      (cases_lt place end)

  pub operands : takes finish ≤ last → last ≤ 64 → (place : ℕ) (i : Instruction) (height : ℕ) → slice_get code place ≡ Some i
      → slice_get heights place ≡ Some height → (takes i ≤ height) × (height ≤ 64)
  operands enough low place i height at is =
      at_each (λ place i. (height : ℕ) → slice_get heights place ≡ Some height → (takes i ≤ height) × (height ≤ 64))
      (λ place h height is.
      let same = same_Some h.height height (sym h.high ∙ is) in
      let a = h.operand in
      let b = h.low in
      (omega (arith, same, a), omega (arith, same, b)))
      (λ height is. let same = same_Some last height (sym high ∙ is) in (omega (arith, same, enough), omega (arith, same, low)))
      place i at height is

  pub ways : (from to : ℕ) (i : Instruction) (height : ℕ) → slice_get code from ≡ Some i → slice_get heights from ≡ Some height → LeadsTo from (flow_of i) to
      → slice_get heights to ≡ Some (height - takes i + leaves i)
  ways from to i height at is l =
      at_each (λ place i. (to height : ℕ) → slice_get heights place ≡ Some height → LeadsTo place (flow_of i) to
      → slice_get heights to ≡ Some (height - takes i + leaves i))
      (λ place h to height is l. let same = same_Some h.height height (sym h.high ∙ is) in
      h.ways to l ∙ ap (λ n. Some (n - takes h.instruction + leaves h.instruction)) same)
      (λ to height is l. absurd (let never : LeadsTo end flow.End to = subst (λ f. LeadsTo end f to) ends l in never))
      from i at to height is l

  pub jumps : (from to : ℕ) (i : Instruction) → slice_get code from ≡ Some i → JumpsTo from (flow_of i) to → loops_around code to ≡ loops_around code from
  jumps from to i at j =
      at_each (λ place i. (to : ℕ) → JumpsTo place (flow_of i) to → loops_around code to ≡ loops_around code place)
      (λ place h. h.jumps)
      (λ to j. absurd (let never : JumpsTo end flow.End to = subst (λ f. JumpsTo end f to) ends j in never))
      from i at to j

  pub nexts : (place distance : ℕ) (i : Instruction) → slice_get code place ≡ Some i → flow_of i ≡ flow.Back distance
      → ClosesLoop (loops_around code place) place distance
  nexts place distance i at e =
      at_each (λ place i. (distance : ℕ) → flow_of i ≡ flow.Back distance → ClosesLoop (loops_around code place) place distance)
      (λ place h. h.nexts)
      (λ distance e. absurd (apart distance (sym ends ∙ e)))
      place i at distance e
    where
      apart : (distance : ℕ) → flow.End ≡ flow.Back distance → ⊥
      apart distance e = cc

  pub closed : loops_around code (length code) ≡ []
  closed = ap (λ n. loops_around code n) long ∙ (around_as code end finish flow.End is_end ends ∙ all.same)

  pub reached : (place : ℕ) → place < length code → (steps : ℕ) × Reaches code steps place
  reached place l = reach code heights end (λ k within. all.placed k (omega arith) within) (suc place) place (omega arith) (omega (arith, l, long))

  pub costs : cost_of code ≡ price + 1
  costs =
      let before = all.costs in
      let here = ap turns_of all.same in
      let one = one-mul price in
      let g : cost_before code end + turns_of (loops_around code end) ≡ price + 1 = omega (arith, before, here, one) in
      ap (λ n. cost_before code n) long ∙ g

pub piece_parts_are_valid_lem : PiecePartsAreValid
piece_parts_are_valid_lem sizes role piece finish f =
    let code = part_code piece finish in
    let end = length (flat piece) in
    let heights = marks piece 0 ++ (f.height ∷ []) in
    let from_0 : 0 + end ≡ end = omega arith in
    let marks_to : 0 + length (marks piece 0) ≡ end = omega (arith, marks_length piece 0) in
    let front = has_front code 0 (flat piece) (finish ∷ []) (has_itself code) in
    let back = has_to code (0 + end) end (finish ∷ []) from_0 (has_back code 0 (flat piece) (finish ∷ []) (has_itself code)) in
    let marked = has_front heights 0 (marks piece 0) (f.height ∷ []) (has_itself heights) in
    let at_end =
    has_to heights (0 + length (marks piece 0)) end (f.height ∷ []) marks_to (has_back heights 0 (marks piece 0) (f.height ∷ []) (has_itself heights)) in
    let high = ap (λ n. slice_get heights n) from_0 ∙ at_end.0 in
    let all : Block code heights 0 end (cost piece) =
    subst (λ n. Block code heights 0 n (cost piece)) from_0
    (block code heights sizes piece (made sizes piece f.made) 0 0 f.height front marked f.leaves high f.low) in
    let long : length code ≡ suc end = omega (arith, length-append (flat piece) (finish ∷ [])) in
    let under = under_top piece 0 f.height f.leaves in
    let low = f.low in
    let cheap = f.cheap in
    let allows =
    allowed_both sizes role (flat piece) (finish ∷ []) (allowed sizes role piece (made sizes piece f.made)) (allowed_end sizes role finish f.argued f.fits) in
    let is_cost = costs code heights end f.height (cost piece) finish all back.0 f.ends at_end.0 long in
    record {
      heights = heights;
      valid = record {
        begins = first_mark heights 0 piece 0 f.height marked f.leaves high;
        one_each = omega (arith, length-append (flat piece) (finish ∷ []), length-append (marks piece 0) (f.height ∷ []), marks_length piece 0);
        arguments = allows.arguments;
        endings = allows.endings;
        operands = operands code heights end f.height (cost piece) finish all back.0 f.ends at_end.0 long f.operand (omega (arith, under.1, low));
        ways = ways code heights end f.height (cost piece) finish all back.0 f.ends at_end.0 long;
        jumps = jumps code heights end f.height (cost piece) finish all back.0 f.ends at_end.0 long;
        nexts = nexts code heights end f.height (cost piece) finish all back.0 f.ends at_end.0 long;
        closed = closed code heights end f.height (cost piece) finish all back.0 f.ends at_end.0 long;
        reached = reached code heights end f.height (cost piece) finish all back.0 f.ends at_end.0 long;
        cheap = omega (arith, is_cost, cheap);
      };
      costs = is_cost;
    }
