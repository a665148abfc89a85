-- Which facts a node drops.
use Rattle.link_laws.specs.Boards.{row_of}
use Rattle.link_laws.specs.Making.{is_held_by, is_own, rule_of}
use Rattle.link_laws.specs.Nodes.{End, Go, Move, Progress, Rule, Stay, drops, has, knowing, making_of, moved, taken, with_making, worked}
use Rattle.link_laws.specs.Progress.{IsOfNoUse, TakesExactly}
use Rattle.link_laws.specs.declared.fact.Fact.{Fact}
use Rattle.link_laws.specs.declared.fact.Fact.TheVariants.{Limit, Reply, Word}
use Rattle.link_laws.specs.declared.taken.Taken.{Taken}
use Rattle.link_laws.specs.declared.taken.Taken.TheVariants.{Dropped, Ended}
use Rattle.list_laws.proofs.Truths.{true_is_false}
use Rattle.std.proofs.Common.{ap, arith, inl, inr, refl, ◌⊎◌}
use Rattle.std.proofs.lemmas.Bool.{eq-eqb, eqb-true, ne_eqb}
use Rattle.std.specs.Prelude.{Bool, List, None, Option, Some, false, if◌then◌else◌, is_some, not, slice_get, true, ℕ, ◌-◌, ◌==◌, ◌||◌, ◌≡◌}
use Rattle.unit_tree.specs.Compositions.{Composition}
use Rattle.unit_tree.specs.declared.ending.Ending.{Ending}

module _ (rule : Rule) (me : ℕ) where
  -- A call that works answers something else than that it dropped.
  works_by : (node : Progress) (move : Move) → (moved rule node move).1 ≡ Dropped → ⊥
  works_by node Stay is = cc
  works_by node (Go at) is = cc
  works_by node (End ending) is = cc

  pub work_is_no_drop : (node : Progress) → (worked rule me node).1 ≡ Dropped → ⊥
  work_is_no_drop node is = by_end node.ended is
    where
      by_end : (ended : Option Ending)
          → (if is_some ended then (node, Ended) else moved rule (with_making node (making_of rule me node))
          (rule.move me node.at (making_of rule me node).known)).1 ≡ Dropped → ⊥
      by_end (Some ending) told = cc
      by_end None told = works_by (with_making node (making_of rule me node)) (rule.move me node.at (making_of rule me node).known) told

  module _ (node : Progress) (fact : Fact) where
    useless_by : (ended same own known : Bool) → (row_of fact == node.at.number) ≡ same
        → (ended || (not same || (not own || known))) ≡ true
        → (ended ≡ true) ⊎ (row_of fact ≡ node.at.number → ⊥) ⊎ (own ≡ false) ⊎ (known ≡ true)
    useless_by true same own known same_is is = inl refl
    useless_by false false own known same_is is =
        inr (inl (λ row. true_is_false (row_of fact == node.at.number) (eq-eqb (row_of fact) node.at.number row) same_is))
    useless_by false true false known same_is is = inr (inr (inl refl))
    useless_by false true true known same_is is = inr (inr (inr is))

    pub is_useless : drops rule me node fact ≡ true → IsOfNoUse rule me node fact
    is_useless is = useless_by (is_some node.ended) (row_of fact == node.at.number) (rule.is_of (1 - me) fact) (has node.known fact) refl is

    drops_by : (ended same own known : Bool) → (row_of fact == node.at.number) ≡ same
        → (ended ≡ true) ⊎ (row_of fact ≡ node.at.number → ⊥) ⊎ (own ≡ false) ⊎ (known ≡ true)
        → (ended || (not same || (not own || known))) ≡ true
    drops_by true same own known same_is is = refl
    drops_by false false own known same_is is = refl
    drops_by false true false known same_is is = refl
    drops_by false true true known same_is (inl ended) = absurd (cc)
    drops_by false true true known same_is (inr (inl other)) = absurd (other (eqb-true (row_of fact) node.at.number same_is))
    drops_by false true true known same_is (inr (inr (inl own))) = absurd (cc)
    drops_by false true true known same_is (inr (inr (inr is))) = is

    pub drops_it : IsOfNoUse rule me node fact → drops rule me node fact ≡ true
    drops_it is = drops_by (is_some node.ended) (row_of fact == node.at.number) (rule.is_of (1 - me) fact) (has node.known fact) refl is

    abbrev does : Bool → Progress × Taken
    does dropped = if dropped then (node, Dropped) else worked rule me (knowing node fact)

    drop_is : (dropped : Bool) → drops rule me node fact ≡ dropped → (does dropped).1 ≡ Dropped → IsOfNoUse rule me node fact
    drop_is true is told = is_useless is
    drop_is false is told = absurd (work_is_no_drop (knowing node fact) told)

    works_on : (dropped : Bool) → drops rule me node fact ≡ dropped → (IsOfNoUse rule me node fact → ⊥) → does dropped ≡ worked rule me (knowing node fact)
    works_on true is useful = absurd (useful (is_useless is))
    works_on false is useful = refl

    pub takes_exactly : TakesExactly rule me node fact
    takes_exactly = record {
      drops = (drop_is (drops rule me node fact) refl, λ is. ap (λ dropped. (does dropped).1) (drops_it is));
      same = λ is. ap (λ dropped. (does dropped).0) (drops_it is);
      works = works_on (drops rule me node fact) refl;
    }

-- ---- Facts of its own

not_both : (me : ℕ) (found : Option ℕ) → is_held_by me found ≡ true → is_held_by (1 - me) found ≡ false
not_both me None own = absurd (cc)
not_both me (Some owner) own = let same = eqb-true owner me own in ne_eqb owner (1 - me) (λ other. omega (arith, same, other))

own_is_no_others : (run : Composition) (owners : List ℕ) (me : ℕ) (fact : Fact) → is_own run owners me fact ≡ true → is_own run owners (1 - me) fact ≡ false
own_is_no_others run owners me (Word row place seen) own = not_both me _ own
own_is_no_others run owners me (Limit row instance asked) own = not_both me (slice_get owners instance) own
own_is_no_others run owners me (Reply row instance redo said) own = not_both me (slice_get owners instance) own

pub own_is_dropped : (run : Composition) (owners : List ℕ) (me : ℕ) (node : Progress) (fact : Fact) → is_own run owners me fact ≡ true
    → (taken (rule_of run owners) me node fact).1 ≡ Dropped
own_is_dropped run owners me node fact own =
    (takes_exactly (rule_of run owners) me node fact).drops.1 (inr (inr (inl (own_is_no_others run owners me fact own))))
