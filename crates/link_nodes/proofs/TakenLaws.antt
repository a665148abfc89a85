-- Facts that are taken, beginning with the last one.
use Rattle.std.proofs.Common.{◌≡◌, ◌∙◌, ℕ, List, [], ◌∷◌, ◌++◌, ap, ap₂, subst}
use Rattle.std.proofs.lemmas.List.{reverse-append}
use Rattle.std.specs.Prelude.{reverse}
use Rattle.std.specs.List.{AllByRecursion}
use Rattle.list_laws.proofs.Lists.{each_part}
use Rattle.link_laws.specs.Making.{rule_of}
use Rattle.link_core.specs.NodeStates.{NodeState}
use Rattle.link_laws.specs.Nodes.{Progress, Rule, taken}
use Rattle.link_laws.specs.declared.fact.Fact.{Fact}
use Rattle.link_laws.specs.declared.taken.Taken.{Taken}
use Rattle.link_nodes.specs.ShownRows.{taken_all, taken_twice}
use Rattle.trace_plan.specs.Plans.{Planned}

-- The last one, and then the others.
pub last_taken : (rule : Rule) (me : ℕ) (node : Progress) (transit front : List Fact) (last : Fact) → transit ≡ front ++ last ∷ []
    → taken_all rule me node (reverse transit) ≡ taken_all rule me (taken_twice rule me node last) (reverse front)
last_taken rule me node transit front last is = ap (λ all. taken_all rule me node (reverse all)) is
    ∙ ap (taken_all rule me node) (reverse-append front (last ∷ []))

pub front_each : (P : Fact → Type 0) (transit front : List Fact) (last : Fact) → transit ≡ front ++ last ∷ [] → AllByRecursion P transit
    → AllByRecursion P front × P last
front_each P transit front last is are = let parts = each_part P front (last ∷ []) (subst (AllByRecursion P) is are) in (parts.0, parts.1.0)

-- The effect of a fact on a node, by the plan's own rule.
pub second_taken : (plan : Planned) (owners : List ℕ) (me : ℕ) (node : NodeState) (fact : Fact) → node.plan ≡ plan → node.owners ≡ owners → node.me ≡ me
    → (next : Progress) (came : Taken)
    → (next, came) ≡ taken (rule_of node.plan.run node.owners) node.me node.progress fact → next ≡ (taken (rule_of plan.run owners) me node.progress fact).0
second_taken plan owners me node fact own same_owners same_me next came is =
    ap (λ (did : Progress × Taken). did.0)
    (is ∙ ap₂ (λ (p : Planned) os. taken (rule_of p.run os) node.me node.progress fact) own same_owners
    ∙ ap (λ m. taken (rule_of plan.run owners) m node.progress fact) same_me)
