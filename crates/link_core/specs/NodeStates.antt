-- What contracts see of a node, and of a pair.
use Rattle.std.specs.Prelude.{◌≡◌, ℕ, List}
use Rattle.link_laws.specs.Nodes.{Progress}
use Rattle.link_laws.specs.Pairs.{Pair}
use Rattle.trace_plan.specs.Plans.{Planned}

-- A node: its plan, the owner of each instance, its number, and its progress.
pub record NodeState : Type 0 where
  pub plan : Planned
  pub owners : List ℕ
  pub me : ℕ
  pub progress : Progress

-- It is the same node of the same system.
pub record IsSameNode (old new : NodeState) : Type 0 where
  pub plan : new.plan ≡ old.plan
  pub owners : new.owners ≡ old.owners
  pub me : new.me ≡ old.me

-- A pair: its plan, the owner of each instance, and the progress of both nodes.
pub record PairState : Type 0 where
  pub plan : Planned
  pub owners : List ℕ
  pub both : Pair

-- It is a pair of the same system.
pub record IsSamePair (old new : PairState) : Type 0 where
  pub plan : new.plan ≡ old.plan
  pub owners : new.owners ≡ old.owners
