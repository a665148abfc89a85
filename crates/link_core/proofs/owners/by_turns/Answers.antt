use Rattle.std.proofs.Common.{◌≡◌, ◌∙◌, ◌%◌, ◌≤◌, ◌++◌, ◌∷◌, [], length, ap, sym, subst, arith}
use Rattle.std.specs.List.{AllByRecursion}
use Rattle.link_core.proofs.OwnerLaws.{as_many_owners, each_owner, one_owner_more}
use Rattle.link_core.proofs.owners.by_turns.Goals as goal

pub loop-instance-preserved : goal.loop-instance-preserved
loop-instance-preserved c = record {
  bound = omega (arith, c.loop-instance-test.true);
  made =
      c.in_ok-push.ensures.ok ∙ ap (λ front. front ++ (c.loop-instance.instance % 2) ∷ []) c.loop-instance.invariant.made
      ∙ sym (one_owner_more c.loop-instance.instance);
}

pub returns-clause-owners : goal.returns-clause-owners
returns-clause-owners c =
    let same : c.loop-instance.instance ≡ c.instances-instance-end.result = omega (arith, c.loop-instance-test.false, c.loop-instance.invariant.bound) in
    ap length c.loop-instance.invariant.made ∙ as_many_owners c.loop-instance.instance ∙ same ∙ c.instances-instance-end.ensures.count

pub returns-clause-one_or_other : goal.returns-clause-one_or_other
returns-clause-one_or_other c = subst (AllByRecursion (λ owner. owner ≤ 1)) (sym c.loop-instance.invariant.made) (each_owner c.loop-instance.instance)
