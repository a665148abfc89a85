-- Lists of facts only grow, and what was noted of them stays noted.
use Rattle.std.proofs.Common.{◌≡◌, ◌∙◌, ℕ, zero, suc, ◌+◌, ◌≤◌, Bool, true, false, is_some, List, [], ◌∷◌, ◌++◌, length, take, refl, sym}
use Rattle.std.proofs.Common.{ap, subst, arith, append-nil, append_assoc, length-append}
use Rattle.std.proofs.lemmas.List.{take_all}
use Rattle.std.specs.Prelude.{if◌then◌else◌}
use Rattle.link_laws.specs.Nodes.{End, Go, Move, Progress, Rule, Stay, drops, knowing, making_of, moved, taken, with_making, worked}
use Rattle.link_laws.specs.declared.fact.Fact.{Fact}
use Rattle.link_laws.specs.declared.taken.Taken.TheVariants.{Dropped, Ended}
use Rattle.link_nodes.specs.ShownRows.{AreNoted, IsNoted, taken_all, taken_twice}
use Rattle.link_nodes.specs.declared.spans.Spans.{Spans}

-- The list has got more facts.
pub record HasMore (node next : Progress) : Type 0 where
  pub more : List Fact
  pub is : next.facts ≡ node.facts ++ more

none_more : (node : Progress) → HasMore node node
none_more node = record { more = []; is = sym (append-nil node.facts) }

more_still : (one two three : Progress) → HasMore one two → HasMore two three → HasMore one three
more_still one two three first second = record {
  more = first.more ++ second.more;
  is = second.is ∙ ap (λ all. all ++ second.more) first.is ∙ append_assoc one.facts first.more second.more;
}

module _ (rule : Rule) (me : ℕ) where
  moved_more : (node : Progress) (move : Move) → HasMore node (moved rule (with_making node (making_of rule me node)) move).0
  moved_more node Stay = record { more = (making_of rule me node).facts; is = refl }
  moved_more node (Go to) = record { more = (making_of rule me node).facts; is = refl }
  moved_more node (End ending) = record { more = (making_of rule me node).facts; is = refl }

  pub worked_more : (node : Progress) → HasMore node (worked rule me node).0
  worked_more node = by_test (is_some node.ended)
    where
      by_test : (test : Bool) → HasMore node (if test then (node, Ended) else moved rule (with_making node (making_of rule me node))
          (rule.move me node.at (making_of rule me node).known)).0
      by_test true = none_more node
      by_test false = moved_more node (rule.move me node.at (making_of rule me node).known)

  taken_more : (node : Progress) (fact : Fact) → HasMore node (taken rule me node fact).0
  taken_more node fact = by_test (drops rule me node fact)
    where
      by_test : (test : Bool) → HasMore node (if test then (node, Dropped) else worked rule me (knowing node fact)).0
      by_test true = none_more node
      by_test false = let so = worked_more (knowing node fact) in record { more = so.more; is = so.is }

  pub all_more : (node : Progress) (facts : List Fact) → HasMore node (taken_all rule me node facts)
  all_more node [] = none_more node
  all_more node (fact ∷ facts) =
      let once = (taken rule me node fact).0 in
      let twice = taken_twice rule me node fact in
      more_still node twice (taken_all rule me twice facts) (more_still node once twice (taken_more node fact) (taken_more once fact)) (all_more twice facts)

-- ---- What was noted

take_front : {A : Type 0} (n : ℕ) (xs ys : List A) → n ≤ length xs → take n (xs ++ ys) ≡ take n xs
take_front zero xs ys most = refl
take_front (suc n) [] ys most = absurd (omega (arith, most))
take_front (suc n) (x ∷ xs) ys most = ap (λ rest. x ∷ rest) (take_front n xs ys (omega (arith, most)))

pub still_noted : (spans : Spans) (node next : Progress) → HasMore node next → IsNoted spans node.facts → IsNoted spans next.facts
still_noted spans node next more so =
    let longer : length (node.facts ++ more.more) ≡ length node.facts + length more.more = length-append node.facts more.more in
    let within = so.within in
    subst (IsNoted spans) (sym more.is)
    (record {
      within = omega (arith, within, longer);
      noted = subst (AreNoted spans.rows.items) (sym (take_front spans.noted node.facts more.more so.within)) so.noted;
    })

-- All were noted.
pub all_noted : (spans : Spans) (facts : List Fact) → spans.noted ≡ length facts → AreNoted spans.rows.items facts → IsNoted spans facts
all_noted spans facts all are =
    let most : length facts ≤ spans.noted = omega (arith, all) in
    record {
      within = omega (arith, all);
      noted = subst (AreNoted spans.rows.items) (sym (take_all spans.noted facts most)) are;
    }

-- None were.
pub none_noted : (spans : Spans) (facts : List Fact) → spans.noted ≡ 0 → spans.rows.items ≡ [] → IsNoted spans facts
none_noted spans facts none empty =
    let nothing : take spans.noted facts ≡ [] = ap (λ n. take n facts) none in
    record {
      within = omega (arith, none);
      noted = subst (AreNoted spans.rows.items) (sym nothing)
          (subst (λ rows. AreNoted rows []) (sym empty) (record { each = λ place fact is. absurd (cc (is)); within = tt }));
    }
