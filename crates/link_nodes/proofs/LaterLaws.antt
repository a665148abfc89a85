-- Node 0 only goes on: its number never falls, and it stays where it ended. So what it shows is a prefix of what it shows later.
use Rattle.std.proofs.Common.{◌≡◌, ◌∙◌, ℕ, zero, suc, ◌≤◌, Bool, true, false, is_some, List, [], ◌∷◌, ◌++◌, take, Option, Some, None, refl, sym, ap}
use Rattle.std.proofs.Common.{arith, append-nil}
use Rattle.std.proofs.lemmas.List.Elements.{filter_map-append}
use Rattle.std.specs.Prelude.{if◌then◌else◌}
use Rattle.link_laws.specs.Boards.{Board}
use Rattle.link_laws.specs.Making.{rule_of}
use Rattle.link_laws.specs.Nodes.{End, Go, Move, Progress, Stay, drops, knowing, making_of, moved, taken, with_making, worked}
use Rattle.link_laws.specs.declared.fact.Fact.{Fact}
use Rattle.link_laws.specs.declared.taken.Taken.TheVariants.{Dropped, Ended}
use Rattle.link_laws.proofs.MoveLaws.{moves_to_next}
use Rattle.link_nodes.specs.ShownRows.{taken_all, taken_twice}
use Rattle.link_nodes.specs.Shown.{committed, lines_shown}
use Rattle.trace_plan.specs.Plans.{Planned}
use Rattle.trace_rows.specs.Lines.{lines_of}
use Rattle.trace_rows.proofs.RunKept.{lines-append}
use Rattle.unit_tree.specs.Compositions.{Composition}
use Rattle.unit_tree.specs.Trace.{Stand, row_at, rows_of}
use Rattle.unit_tree.specs.declared.ending.Ending.{Ending}

pub record IsLater (node later : Progress) : Type 0 where
  pub number : node.at.number ≤ later.at.number
  pub ended : is_some node.ended ≡ true → is_some later.ended ≡ true

pub same_later : (node : Progress) → IsLater node node
same_later node = record { number = omega arith; ended = λ is. is }

pub later_still : (one two three : Progress) → IsLater one two → IsLater two three → IsLater one three
later_still one two three first second = record { number = omega (arith, first.number, second.number); ended = λ is. second.ended (first.ended is) }

-- ---- The effect of a call

module _ (run : Composition) (owners : List ℕ) (me : ℕ) where
  moved_later : (node : Progress) (known : Board) (move : Move) → (rule_of run owners).move me node.at known ≡ move
      → IsLater node (moved (rule_of run owners) node move).0
  moved_later node known Stay is = same_later node
  moved_later node known (Go to) is = let next = moves_to_next run owners me node.at known to is in record { number = omega (arith, next); ended = λ is. is }
  moved_later node known (End ending) is = record { number = omega arith; ended = λ is. refl }

  worked_by : (node : Progress) (test : Bool) → IsLater node
      (if test then (node, Ended) else moved (rule_of run owners) (with_making node (making_of (rule_of run owners) me node))
      ((rule_of run owners).move me node.at (making_of (rule_of run owners) me node).known)).0
  worked_by node true = same_later node
  worked_by node false =
      let made = making_of (rule_of run owners) me node in
      let on = moved_later (with_making node made) made.known ((rule_of run owners).move me node.at made.known) refl in
      record { number = on.number; ended = on.ended }

  pub worked_later : (node : Progress) → IsLater node (worked (rule_of run owners) me node).0
  worked_later node = worked_by node (is_some node.ended)

  pub taken_later : (node : Progress) (fact : Fact) → IsLater node (taken (rule_of run owners) me node fact).0
  taken_later node fact = by_test (drops (rule_of run owners) me node fact)
    where
      by_test : (test : Bool) → IsLater node (if test then (node, Dropped) else worked (rule_of run owners) me (knowing node fact)).0
      by_test true = same_later node
      by_test false = let on = worked_later (knowing node fact) in record { number = on.number; ended = on.ended }

  pub twice_later : (node : Progress) (fact : Fact) → IsLater node (taken_twice (rule_of run owners) me node fact)
  twice_later node fact =
      let once = (taken (rule_of run owners) me node fact).0 in
      later_still node once (taken (rule_of run owners) me once fact).0 (taken_later node fact) (taken_later once fact)

  pub all_later : (node : Progress) (facts : List Fact) → IsLater node (taken_all (rule_of run owners) me node facts)
  all_later node [] = same_later node
  all_later node (fact ∷ facts) =
      let next = taken_twice (rule_of run owners) me node fact in
      later_still node next (taken_all (rule_of run owners) me next facts) (twice_later node fact) (all_later next facts)

-- ---- What it shows

longer : {A : Type 0} (n m : ℕ) (xs : List A) → n ≤ m → (more : List A) × (take m xs ≡ take n xs ++ more)
longer zero m xs most = (take m xs, refl)
longer (suc n) zero xs most = absurd (omega (arith, most))
longer (suc n) (suc m) [] most = ([], refl)
longer (suc n) (suc m) (x ∷ xs) most = let rest = longer n m xs (omega (arith, most)) in (rest.0, ap (λ all. x ∷ all) rest.1)

whole : {A : Type 0} (n : ℕ) (xs : List A) → (more : List A) × (xs ≡ take n xs ++ more)
whole zero xs = (xs, refl)
whole (suc n) [] = ([], refl)
whole (suc n) (x ∷ xs) = let rest = whole n xs in (rest.0, ap (λ all. x ∷ all) rest.1)

committed_more : (stands : List Stand) (one other : Option Ending) (n m : ℕ) → n ≤ m → (is_some one ≡ true → is_some other ≡ true)
    → (more : List Stand) × ((if is_some other then stands else take m stands) ≡ (if is_some one then stands else take n stands) ++ more)
committed_more stands None None n m most ended = longer n m stands most
committed_more stands None (Some ending) n m most ended = whole n stands
committed_more stands (Some end) None n m most ended = absurd (let no = ended refl in cc)
committed_more stands (Some end) (Some ending) n m most ended = ([], sym (append-nil stands))

pub shown_more : (plan : Planned) (node later : Progress) (stands : List Stand) → IsLater node later
    → (more : List ℕ) × (lines_shown plan later stands ≡ lines_shown plan node stands ++ more)
shown_more plan node later stands is =
    let rest = committed_more stands node.ended later.ended node.at.number later.at.number is.number is.ended in (
      lines_of plan.system (rows_of plan.run rest.0),
      ap (λ all. lines_of plan.system (rows_of plan.run all)) rest.1
          ∙ ap (lines_of plan.system) (filter_map-append (row_at plan.run) (committed node stands) rest.0)
          ∙ lines-append plan.system (rows_of plan.run (committed node stands)) (rows_of plan.run rest.0),
    )
