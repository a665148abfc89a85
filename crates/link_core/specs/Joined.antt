-- Two nodes as a pair.
use Rattle.std.specs.Prelude.{◌≡◌}
use Rattle.link_core.specs.NodeStates.{PairState}
use Rattle.link_core.specs.declared.pair.Pair.TheInside.{Inside}

abbrev pub pair_state : Inside → PairState
pair_state pair = record {
  plan = pair.first.plan;
  owners = pair.first.owners;
  both = record { first = pair.first.progress; second = pair.second.progress };
}

-- They are the nodes 0 and 1 of one system.
pub record IsPair (pair : Inside) : Type 0 where
  pub plan : pair.second.plan ≡ pair.first.plan
  pub owners : pair.second.owners ≡ pair.first.owners
  pub first : pair.first.me ≡ 0
  pub second : pair.second.me ≡ 1
