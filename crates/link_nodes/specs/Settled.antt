-- Rounds that change nothing more that is written or returned.
use Rattle.std.specs.Prelude.{◌≡◌, ℕ, ◌+◌, true, is_some, List, length}
use Rattle.link_laws.specs.Making.{rule_of}
use Rattle.link_laws.specs.Pairs.{Pair, opened_pair}
use Rattle.link_nodes.specs.Rounds.{after_rounds}
use Rattle.link_nodes.specs.Shown.{told_of}
use Rattle.unit_tree.specs.Compositions.{AreMembers, Composition}
use Rattle.unit_tree.specs.Ports.{IsPlaceOrder}

-- Node 0 has ended. Node 1 is at the same row, and so is its saved position.
pub record IsSettled (pair : Pair) : Type 0 where
  pub ended : is_some pair.first.ended ≡ true
  pub there : pair.second.at.number ≡ pair.first.at.number
  pub kept : pair.second.kept.number ≡ pair.first.at.number

-- From then on rounds leave node 0 as it is, and change nothing that is returned.
abbrev pub RoundsSettle : Type 0
RoundsSettle =
    (run : Composition) (order owners : List ℕ) → IsPlaceOrder run order → AreMembers run → length owners ≡ length run.members
    → (seed k more : ℕ) → IsSettled (after_rounds (rule_of run owners) seed k (opened_pair (rule_of run owners) run))
    → ((after_rounds (rule_of run owners) seed (more + k) (opened_pair (rule_of run owners) run)).first
    ≡ (after_rounds (rule_of run owners) seed k (opened_pair (rule_of run owners) run)).first)
    × (told_of (after_rounds (rule_of run owners) seed (more + k) (opened_pair (rule_of run owners) run))
    ≡ told_of (after_rounds (rule_of run owners) seed k (opened_pair (rule_of run owners) run)))
