-- A test of each node of an expression is a test of its names.
use Rattle.std.proofs.Common.{◌≡◌, Bool, true, false, ◌&&◌, ◌||◌, not, ℕ, List, ◌++◌, append_assoc, refl, ap, sym, ◌∙◌, subst}
use Rattle.std.specs.List.{list_any}
use Rattle.std.proofs.lemmas.List.Folds.{list_all-append, list_any-append}
use Rattle.std.proofs.lemmas.Bool.{or_right}
use Rattle.unit_tree.specs.Names.{Uses, Clocks, node_names, names_in, node_events, events_asked_in, node_clocks, clocks_in, either, are_allowed, is_among}
use Rattle.unit_tree.specs.Names.{are_among, keeps_to}
use Rattle.unit_tree.specs.WellFormed.{uses_other_input}
use Rattle.unit_tree.specs.declared.expr.Expr.{Expr}
use Rattle.unit_tree.specs.declared.expr.Expr.TheFolds.{ind-Expr, map-Expr, fold-roll-Expr}
use Rattle.unit_tree.specs.declared.expr.Expr.TheOpen.{Expr-F}
use Rattle.unit_tree.specs.declared.expr.Expr.TheViews.{roll-Expr}
use Rattle.unit_tree.specs.declared.unit.Unit.{Unit}
use Rattle.unit_names.specs.Uses.{node_keeps, nodes_keep, node_has, nodes_have, is_other_input}
use Rattle.list_laws.proofs.Truths.{crossed, and_true, and_assoc, or_nothing}

-- ---- Some name passes a test

module _ (test : List ℕ → Bool) where
  abbrev Has : Expr → Type 0
  Has value = nodes_have test value ≡ list_any test (names_in value)

  abbrev HasProved : Type 0
  HasProved = (value : Expr) × Has value

  abbrev has_bare : HasProved → Expr
  has_bare p = p.0

  has_two : (one other : Bool) (front behind : List (List ℕ)) → one ≡ list_any test front → other ≡ list_any test behind
      → (one || other) ≡ list_any test (front ++ behind)
  has_two one other front behind is also = ap (λ b. b || other) is ∙ ap (λ b. list_any test front || b) also ∙ sym (list_any-append test front behind)

  has_layer : (y : Expr-F HasProved)
      → node_has test (map-Expr Expr Bool (nodes_have test) (map-Expr HasProved Expr has_bare y))
      ≡ list_any test (node_names (map-Expr Expr (List (List ℕ)) names_in (map-Expr HasProved Expr has_bare y)))
  has_layer (Expr-F.Number number decimals) = refl
  has_layer (Expr-F.Truth told) = refl
  has_layer (Expr-F.Var name) = or_nothing (test name)
  has_layer Expr-F.Time = refl
  has_layer Expr-F.Step = refl
  has_layer (Expr-F.Unary op arg) = arg.1
  has_layer (Expr-F.Binary op left right) = has_two _ _ (names_in left.0) (names_in right.0) left.1 right.1
  has_layer (Expr-F.Clamp value low high) =
      has_two _ _ (names_in value.0 ++ names_in low.0) (names_in high.0) (has_two _ _ (names_in value.0) (names_in low.0) value.1 low.1) high.1
  has_layer (Expr-F.Choose cond chosen other) =
      has_two _ _ (names_in cond.0 ++ names_in chosen.0) (names_in other.0) (has_two _ _ (names_in cond.0) (names_in chosen.0) cond.1 chosen.1) other.1
  has_layer Expr-F.Absent = refl
  has_layer (Expr-F.Present name) = or_nothing (test name)

  has_node : (y : Expr-F HasProved) → Has (roll-Expr (map-Expr HasProved Expr has_bare y))
  has_node y = fold-roll-Expr Bool (node_has test) (map-Expr HasProved Expr has_bare y) ∙ has_layer y
      ∙ ap (list_any test) (sym (fold-roll-Expr (List (List ℕ)) node_names (map-Expr HasProved Expr has_bare y)))

  has_names : (value : Expr) → Has value
  has_names = ind-Expr Has (λ x y is. subst (λ z. Has (roll-Expr z)) is (has_node y))

pub nodes_have_names : (unit : Unit) (needs : List (List ℕ)) (value : Expr) → nodes_have (is_other_input unit needs) value ≡ uses_other_input unit needs value
nodes_have_names unit needs value = has_names (is_other_input unit needs) value

-- ---- All nodes use only what they may

-- Three tests of two parts, grouped by part or by test.
regroup : (a b c d e f : Bool) → ((a && (b && c)) && (d && (e && f))) ≡ ((a && d) && ((b && e) && (c && f)))
regroup false b c d e f = refl
regroup true false c true e f = refl
regroup true false c false e f = refl
regroup true true false true true f = refl
regroup true true false true false f = refl
regroup true true false false e f = refl
regroup true true true d e f = refl

or_not : (a b c : Bool) → (a || not (b || c)) ≡ ((a || not b) && (a || not c))
or_not true b c = refl
or_not false true c = refl
or_not false false c = refl

allowed_two : (allowed one other : Clocks) → are_allowed allowed (either one other) ≡ (are_allowed allowed one && are_allowed allowed other)
allowed_two allowed one other =
    ap (λ b. b && (allowed.step || not (one.step || other.step))) (or_not allowed.time one.time other.time)
    ∙ ap (λ b. ((allowed.time || not one.time) && (allowed.time || not other.time)) && b) (or_not allowed.step one.step other.step)
    ∙ crossed (allowed.time || not one.time) (allowed.time || not other.time) (allowed.step || not one.step) (allowed.step || not other.step)

module _ (uses : Uses) where
  -- The tests of an expression's names, its `present` and its clocks.
  abbrev kept : List (List ℕ) → List (List ℕ) → Clocks → Bool
  kept names events clocks = are_among uses.names names && (are_among uses.events events && are_allowed uses.clocks clocks)

  abbrev Keeps : Expr → Type 0
  Keeps value = nodes_keep uses value ≡ kept (names_in value) (events_asked_in value) (clocks_in value)

  abbrev Proved : Type 0
  Proved = (value : Expr) × Keeps value

  abbrev bare : Proved → Expr
  bare p = p.0

  two : (one other : Bool) (names more : List (List ℕ)) (events others : List (List ℕ)) (clocks used : Clocks)
      → one ≡ kept names events clocks → other ≡ kept more others used → (one && other) ≡ kept (names ++ more) (events ++ others) (either clocks used)
  two one other names more events others clocks used is also =
      ap (λ b. b && other) is ∙ ap (λ b. kept names events clocks && b) also
      ∙ regroup (are_among uses.names names) (are_among uses.events events) (are_allowed uses.clocks clocks) (are_among uses.names more)
      (are_among uses.events others) (are_allowed uses.clocks used)
      ∙ ap (λ b. b && ((are_among uses.events events && are_among uses.events others) && (are_allowed uses.clocks clocks && are_allowed uses.clocks used)))
      (sym (list_all-append (is_among uses.names) names more))
      ∙ ap (λ b. are_among uses.names (names ++ more) && (b && (are_allowed uses.clocks clocks && are_allowed uses.clocks used)))
      (sym (list_all-append (is_among uses.events) events others))
      ∙ ap (λ b. are_among uses.names (names ++ more) && (are_among uses.events (events ++ others) && b)) (sym (allowed_two uses.clocks clocks used))

  -- Three parts: the clocks are joined from the right.
  three : (one other third : Bool) (names more rest : List (List ℕ)) (events others last : List (List ℕ)) (clocks used ticking : Clocks)
      → one ≡ kept names events clocks → other ≡ kept more others used → third ≡ kept rest last ticking
      → (one && other && third) ≡ kept (names ++ more ++ rest) (events ++ others ++ last) (either clocks (either used ticking))
  three one other third names more rest events others last clocks used ticking is also finally =
      and_assoc one other third
      ∙ two one (other && third) names (more ++ rest) events (others ++ last) clocks (either used ticking) is
      (two other third more rest others last used ticking also finally)
      ∙ ap (λ all. kept all (events ++ (others ++ last)) (either clocks (either used ticking))) (sym (append_assoc names more rest))
      ∙ ap (λ all. kept (names ++ more ++ rest) all (either clocks (either used ticking))) (sym (append_assoc events others last))

  no_clock_kept : are_allowed uses.clocks (record { time = false; step = false }) ≡ true
  no_clock_kept = ap (λ b. b && (uses.clocks.step || true)) (or_right uses.clocks.time true refl) ∙ or_right uses.clocks.step true refl

  time_kept : are_allowed uses.clocks (record { time = true; step = false }) ≡ uses.clocks.time
  time_kept = ap (λ b. b && (uses.clocks.step || true)) (sym (or_nothing uses.clocks.time))
      ∙ ap (λ b. uses.clocks.time && b) (or_right uses.clocks.step true refl)
      ∙ and_true uses.clocks.time

  step_kept : are_allowed uses.clocks (record { time = false; step = true }) ≡ uses.clocks.step
  step_kept = ap (λ b. b && (uses.clocks.step || false)) (or_right uses.clocks.time true refl) ∙ sym (or_nothing uses.clocks.step)

  name_kept : (b : Bool) → b ≡ ((b && true) && are_allowed uses.clocks (record { time = false; step = false }))
  name_kept b = sym (ap (λ c. (b && true) && c) no_clock_kept ∙ and_true (b && true) ∙ and_true b)

  present_kept : (b c : Bool) → (b && c) ≡ ((b && true) && ((c && true) && are_allowed uses.clocks (record { time = false; step = false })))
  present_kept b c = ap (λ d. b && d) (name_kept c)
      ∙ ap (λ d. d && ((c && true) && are_allowed uses.clocks (record { time = false; step = false }))) (sym (and_true b))

  layer : (y : Expr-F Proved) → node_keeps uses (map-Expr Expr Bool (nodes_keep uses) (map-Expr Proved Expr bare y))
      ≡ kept (node_names (map-Expr Expr (List (List ℕ)) names_in (map-Expr Proved Expr bare y)))
      (node_events (map-Expr Expr (List (List ℕ)) events_asked_in (map-Expr Proved Expr bare y)))
      (node_clocks (map-Expr Expr Clocks clocks_in (map-Expr Proved Expr bare y)))
  layer (Expr-F.Number number decimals) = sym no_clock_kept
  layer (Expr-F.Truth told) = sym no_clock_kept
  layer (Expr-F.Var name) = name_kept (is_among uses.names name)
  layer Expr-F.Time = sym time_kept
  layer Expr-F.Step = sym step_kept
  layer (Expr-F.Unary op arg) = arg.1
  layer (Expr-F.Binary op left right) =
      two _ _ (names_in left.0) (names_in right.0) (events_asked_in left.0) (events_asked_in right.0) (clocks_in left.0) (clocks_in right.0) left.1 right.1
  layer (Expr-F.Clamp value low high) =
      three _ _ _ (names_in value.0) (names_in low.0) (names_in high.0) (events_asked_in value.0) (events_asked_in low.0) (events_asked_in high.0)
      (clocks_in value.0) (clocks_in low.0) (clocks_in high.0) value.1 low.1 high.1
  layer (Expr-F.Choose cond chosen other) =
      three _ _ _ (names_in cond.0) (names_in chosen.0) (names_in other.0) (events_asked_in cond.0) (events_asked_in chosen.0) (events_asked_in other.0)
      (clocks_in cond.0) (clocks_in chosen.0) (clocks_in other.0) cond.1 chosen.1 other.1
  layer Expr-F.Absent = sym no_clock_kept
  layer (Expr-F.Present name) = present_kept (is_among uses.names name) (is_among uses.events name)

  node : (y : Expr-F Proved) → Keeps (roll-Expr (map-Expr Proved Expr bare y))
  node y =
      let parts = map-Expr Proved Expr bare y in
      fold-roll-Expr Bool (node_keeps uses) parts ∙ layer y
      ∙ ap (λ names. kept names (node_events (map-Expr Expr (List (List ℕ)) events_asked_in parts)) (node_clocks (map-Expr Expr Clocks clocks_in parts)))
      (sym (fold-roll-Expr (List (List ℕ)) node_names parts))
      ∙ ap (λ events. kept (names_in (roll-Expr parts)) events (node_clocks (map-Expr Expr Clocks clocks_in parts)))
      (sym (fold-roll-Expr (List (List ℕ)) node_events parts))
      ∙ ap (λ clocks. kept (names_in (roll-Expr parts)) (events_asked_in (roll-Expr parts)) clocks) (sym (fold-roll-Expr Clocks node_clocks parts))

  -- Each node uses only what it may exactly where the expression does.
  pub nodes_are_kept : (value : Expr) → nodes_keep uses value ≡ keeps_to uses value
  nodes_are_kept = ind-Expr Keeps (λ x y is. subst (λ z. Keeps (roll-Expr z)) is (node y))
