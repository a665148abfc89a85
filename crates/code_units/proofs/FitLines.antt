-- Pieces of step lines are well-made, keep the stack low, and cost what the lines cost.
use Rattle.std.proofs.Common.{◌≡◌, ℕ, ◌+◌, ◌*◌, ◌≤◌, true, ◌&&◌, nat_le, List, [], ◌∷◌, map, Option, Some, None, refl, sym, ap, ◌∙◌, subst, arith}
use Rattle.std.specs.List.{sum}
use Rattle.std.proofs.Math.Nat.{max-le, mul-le-mul_left}
use Rattle.std.proofs.lemmas.Bool.{and_parts, and_from}
use Rattle.std.proofs.lemmas.List.Sums.{sum_by-cons}
use Rattle.code_units.specs.Expressions.{code_of}
use Rattle.code_units.specs.Scopes.{named}
use Rattle.code_units.specs.StepLines.{LineCoded, LineCoding, is_right_in, nothing, behind, store_code, may_store, target_coded, value_coded, if_coded}
use Rattle.code_units.specs.StepLines.{repeat_coded, all_coded, node_line_code, line_code, lines_code}
use Rattle.code_units.specs.declared.scope.Named.{Named}
use Rattle.code_units.specs.declared.scope.NamePlace.{NamePlace}
use Rattle.code_units.specs.declared.scope.NamePlace.TheVariants.{Constant, Slot}
use Rattle.code_units.specs.declared.scope.CodeScope.{CodeScope}
use Rattle.code_units.proofs.FitPieces.{one_is, then_is, then_top, choice_is, choice_top, NamedFits, Known, type_known, fine}
use Rattle.code_pieces.specs.Pieces.{Piece, One, When, Turns, cost, is_made, one_height, height_behind, top_of}
use Rattle.unit_tree.specs.Costs.{cost_of, part_cost, line_cost}
use Rattle.unit_tree.specs.Names.{depth_of}
use Rattle.unit_tree.specs.Values.{is_ranged}
use Rattle.unit_tree.specs.declared.expr.Expr.{Expr}
use Rattle.unit_tree.specs.declared.line.Line as line
use Rattle.unit_tree.specs.declared.line.Line.{Line}
use Rattle.unit_tree.specs.declared.line.Line.TheFolds.{ind-Line, map-Line}
use Rattle.unit_tree.specs.declared.line.Line.TheViews.{roll-Line}
use Rattle.unit_tree.specs.declared.line.Line.TheOpen.{Line-F}
use Rattle.unit_tree.specs.declared.line.Line.TheVariants.{rolls-Assign, rolls-If, rolls-Repeat, rolls-Accept}
use Rattle.unit_tree.proofs.FoldLemmas.{fold-Assign, fold-If, fold-Repeat, fold-Accept}
use Rattle.unit_vm.specs.declared.instruction.Instruction.TheVariants.{Store, Accept}
use Rattle.unit_vm.specs.declared.program.Sizes.{Sizes}
use Rattle.list_laws.proofs.Truths.{le_told}

-- From one height to another, with at most 64 words on the stack.
pub record Moves (sizes : Sizes) (piece : Piece) (before after : ℕ) : Type 0 where
  pub made : is_made sizes piece ≡ true
  pub height : height_behind piece before ≡ Some after
  pub top : top_of piece before ≤ 64

-- The code of lines of such a cost.
pub record GoodLines (sizes : Sizes) (coded : LineCoded) (before price : ℕ) : Type 0 where
  pub moves : coded.is_right ≡ true → Moves sizes coded.piece before 0
  pub cheap : cost coded.piece ≤ price

module _ (sizes : Sizes) where
  nothing_good : GoodLines sizes nothing 0 0
  nothing_good = record { moves = λ is. record { made = refl; height = refl; top = omega arith }; cheap = omega arith }

  behind_good : (a b : LineCoded) (p q : ℕ) → GoodLines sizes a 0 p → GoodLines sizes b 0 q → GoodLines sizes (behind a b) 0 (p + q)
  behind_good a b p q f g = record {
    moves = λ is.
        let parts = and_parts a.is_right b.is_right is in
        let one = f.moves parts.0 in
        let other = g.moves parts.1 in
        record {
          made = and_from _ _ one.made other.made;
          height = then_is a.piece b.piece 0 0 0 one.height other.height;
          top =
              then_top a.piece b.piece 0 0 64 one.height one.top other.top;
        };
    cheap = let x = f.cheap in let y = g.cheap in omega arith;
  }

  place_good : (place : NamePlace) (found : Named) → found.place ≡ place → NamedFits sizes (Some found)
      → GoodLines sizes (record { piece = store_code place found.ty; is_right = may_store sizes place }) 1 1
  place_good (Constant word) found at fits = record { moves = λ is. absurd (cc); cheap = omega arith }
  place_good (Slot slot) found at fits = record {
    moves = λ is. record {
      made = and_from _ _ refl (and_from _ _ is (type_known found.ty fits.1));
      height = one_is (Store slot found.ty) 1 0 (omega arith) refl;
      top = omega arith;
    };
    cheap = omega arith;
  }

  target_good : (found : Option Named) → NamedFits sizes found → GoodLines sizes (target_coded sizes found) 1 1
  target_good None fits = record { moves = λ is. absurd (cc); cheap = omega arith }
  target_good (Some found) fits = place_good found.place found refl fits

  accept_good : GoodLines sizes (record { piece = One Accept; is_right = true }) 1 1
  accept_good = record {
    moves = λ is. record { made = refl; height = one_is Accept 1 0 (omega arith) refl; top = omega arith };
    cheap = omega arith;
  }

  when_is : (body : Piece) → height_behind body 0 ≡ Some 0 → height_behind (When body) 1 ≡ Some 0
  when_is body is = ap (λ o. one_height o (Some 0)) is

  if_good : (body : LineCoded) (p : ℕ) → GoodLines sizes body 0 p → GoodLines sizes (if_coded body None) 1 (1 + p)
  if_good body p f = record {
    moves = λ is.
        let one = f.moves is in
        record { made = one.made; height = when_is body.piece one.height; top = max-le (omega arith) one.top };
    cheap = let x = f.cheap in omega arith;
  }

  if_else_good : (a b : LineCoded) (p q : ℕ) → GoodLines sizes a 0 p → GoodLines sizes b 0 q → GoodLines sizes (if_coded a (Some b)) 1 (1 + p + (1 + q))
  if_else_good a b p q f g = record {
    moves = λ is.
        let parts = and_parts a.is_right b.is_right is in
        let one = f.moves parts.0 in
        let other = g.moves parts.1 in
        record {
          made = and_from _ _ one.made other.made;
          height = choice_is a.piece b.piece 0 0 one.height other.height;
          top =
              choice_top a.piece b.piece 0 64 (omega arith) one.top other.top;
        };
    cheap = let x = f.cheap in let y = g.cheap in omega arith;
  }

  turns_is : (count : ℕ) (body : Piece) → height_behind body 0 ≡ Some 0 → height_behind (Turns count body) 0 ≡ Some 0
  turns_is count body is = ap (λ o. one_height o (Some 0)) is

  no_dearer : (count m n : ℕ) → m ≤ n → 1 + count * (m + 1) ≤ 1 + count * (n + 1)
  no_dearer count m n le =
      let more : count * (m + 1) ≤ count * (n + 1) = let longer : m + 1 ≤ n + 1 = omega arith in mul-le-mul_left count longer in
      omega arith

  repeat_good : (count : ℕ) (body : LineCoded) (p : ℕ) → GoodLines sizes body 0 p → GoodLines sizes (repeat_coded count body) 0 (1 + count * (p + 1))
  repeat_good count body p f = record {
    moves = λ is.
        let parts = and_parts (nat_le 1 count && nat_le count 1000) body.is_right is in
        let one = f.moves parts.1 in
        record { made = and_from _ _ parts.0 one.made; height = turns_is count body.piece one.height; top = max-le (omega arith) one.top };
    cheap = no_dearer count (cost body.piece) p f.cheap;
  }

module _ (scope : CodeScope) (known : Known scope) where
  value_good : (value : Expr) (next : LineCoded) (q : ℕ) → GoodLines scope.sizes next 1 q
      → GoodLines scope.sizes (behind (value_coded value scope) next) 0 (cost_of value + q)
  value_good value next q g =
      let good = fine scope known value in record {
        moves = λ is.
            let parts = and_parts (is_right_in scope value) next.is_right is in
            let tests = and_parts (code_of value scope).agrees (is_ranged value && nat_le (depth_of value) 32) parts.0 in
            let limits = and_parts (is_ranged value) (nat_le (depth_of value) 32) tests.1 in
            let deep : depth_of value ≤ 32 = le_told (depth_of value) 32 limits.1 in
            let other = g.moves parts.1 in record {
              made = and_from _ _ (good.made limits.0) other.made;
              height = then_is (code_of value scope).piece next.piece 0 1 0 (good.pushes.height 0) other.height;
              top = then_top (code_of value scope).piece next.piece 0 1 64 (good.pushes.height 0) (good.pushes.top 0 64 (omega arith)) other.top;
            };
        cheap = let x = good.cheap in let y = g.cheap in omega arith;
      }

  abbrev pub FineLine : Line → Type 0
  FineLine some = GoodLines scope.sizes (line_code some scope) 0 (line_cost some)

  abbrev Proved : Type 0
  Proved = (some : Line) × FineLine some

  abbrev bare : Proved → Line
  bare p = p.0

  costs_more : (first : ℕ) (others : List ℕ) → sum (first ∷ others) ≡ first + sum others
  costs_more first others = sum_by-cons (λ x. x) first others

  all_fine : (lines : List Proved) → GoodLines scope.sizes (all_coded scope (map line_code (map bare lines))) 0 (sum (map line_cost (map bare lines)))
  all_fine [] = nothing_good scope.sizes
  all_fine (first ∷ others) =
      subst (GoodLines scope.sizes (all_coded scope (map line_code (map bare (first ∷ others)))) 0)
      (sym (costs_more (line_cost (bare first)) (map line_cost (map bare others))))
      (behind_good scope.sizes (line_code (bare first) scope) (all_coded scope (map line_code (map bare others))) (line_cost (bare first))
      (sum (map line_cost (map bare others))) first.1 (all_fine others))

  by_folds : (some : Line) (c : LineCoding) (p q : ℕ) → line_code some ≡ c → line_cost some ≡ p → q ≡ p → GoodLines scope.sizes (c scope) 0 q → FineLine some
  by_folds some c p q is costs same good =
      subst (λ (x : LineCoding). GoodLines scope.sizes (x scope) 0 (line_cost some)) (sym is)
      (subst (GoodLines scope.sizes (c scope) 0) (same ∙ sym costs) good)

  node : (y : Line-F Proved) → FineLine (roll-Line (map-Line Proved Line bare y))
  node (Line-F.Assign target value) =
      subst FineLine (sym (rolls-Assign target value))
      (by_folds (line.Assign target value) _ _ _ (fold-Assign LineCoding node_line_code target value) (fold-Assign ℕ part_cost target value) refl
      (value_good value (target_coded scope.sizes (named scope.names target)) 1 (target_good scope.sizes (named scope.names target) (known.names target))))
  node (Line-F.If cond then_lines None) =
      let inner : ℕ = sum (map line_cost (map bare then_lines)) in
      subst FineLine (sym (rolls-If cond (map bare then_lines) None))
      (by_folds (line.If cond (map bare then_lines) None) _ _ (cost_of cond + (1 + inner)) (fold-If LineCoding node_line_code cond (map bare then_lines) None)
      (fold-If ℕ part_cost cond (map bare then_lines) None) (let same : cost_of cond + (1 + inner) ≡ cost_of cond + 1 + inner + 0 = omega arith in same)
      (value_good cond (if_coded (all_coded scope (map line_code (map bare then_lines))) None) (1 + inner)
      (if_good scope.sizes (all_coded scope (map line_code (map bare then_lines))) inner (all_fine then_lines))))
  node (Line-F.If cond then_lines (Some else_lines)) =
      let inner : ℕ = sum (map line_cost (map bare then_lines)) in
      let other : ℕ = sum (map line_cost (map bare else_lines)) in
      subst FineLine (sym (rolls-If cond (map bare then_lines) (Some (map bare else_lines))))
      (by_folds (line.If cond (map bare then_lines) (Some (map bare else_lines))) _ _ (cost_of cond + (1 + inner + (1 + other)))
      (fold-If LineCoding node_line_code cond (map bare then_lines) (Some (map bare else_lines)))
      (fold-If ℕ part_cost cond (map bare then_lines) (Some (map bare else_lines)))
      (let same : cost_of cond + (1 + inner + (1 + other)) ≡ cost_of cond + 1 + inner + (1 + other) = omega arith in same)
      (value_good cond (if_coded (all_coded scope (map line_code (map bare then_lines))) (Some (all_coded scope (map line_code (map bare else_lines)))))
      (1 + inner + (1 + other))
      (if_else_good scope.sizes (all_coded scope (map line_code (map bare then_lines))) (all_coded scope (map line_code (map bare else_lines))) inner other
      (all_fine then_lines) (all_fine else_lines))))
  node (Line-F.Repeat count body) =
      subst FineLine (sym (rolls-Repeat count (map bare body)))
      (by_folds (line.Repeat count (map bare body)) _ _ _ (fold-Repeat LineCoding node_line_code count (map bare body))
      (fold-Repeat ℕ part_cost count (map bare body)) refl
      (repeat_good scope.sizes count (all_coded scope (map line_code (map bare body))) (sum (map line_cost (map bare body))) (all_fine body)))
  node (Line-F.Accept value) =
      subst FineLine (sym (rolls-Accept value))
      (by_folds (line.Accept value) _ _ _ (fold-Accept LineCoding node_line_code value) (fold-Accept ℕ part_cost value) refl
      (value_good value (record { piece = One Accept; is_right = true }) 1 (accept_good scope.sizes)))

  pub fine_line : (some : Line) → FineLine some
  fine_line = ind-Line FineLine (λ x y is. subst (λ z. FineLine (roll-Line z)) is (node y))

  pub fine_lines : (lines : List Line) → GoodLines scope.sizes (lines_code lines scope) 0 (sum (map line_cost lines))
  fine_lines [] = nothing_good scope.sizes
  fine_lines (first ∷ others) =
      subst (GoodLines scope.sizes (lines_code (first ∷ others) scope) 0) (sym (costs_more (line_cost first) (map line_cost others)))
      (behind_good scope.sizes (line_code first scope) (lines_code others scope) (line_cost first) (sum (map line_cost others)) (fine_line first)
      (fine_lines others))
