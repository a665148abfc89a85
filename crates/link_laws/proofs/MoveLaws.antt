-- Where a node moves, without stages.
use Rattle.std.proofs.Common.{◌≡◌, ℕ, suc, List, sym, ap}
use Rattle.link_laws.specs.Boards.{Board}
use Rattle.link_laws.specs.Making.{move_by, rule_of, stage_at}
use Rattle.link_laws.specs.Nodes.{Go, Move}
use Rattle.link_laws.specs.declared.stage.Stage.{Stage}
use Rattle.link_laws.specs.declared.stage.Stage.TheVariants.{Limits, On, Over, Redo, Trial, Words}
use Rattle.unit_tree.specs.Compositions.{Composition}
use Rattle.unit_tree.specs.Successor.{Position}

module _ (run : Composition) (owners : List ℕ) (me : ℕ) (at : Position) (known : Board) where
  abbrev number_in : Move → ℕ
  number_in (Go to) = to.number
  number_in other = 0

  moves_by : (stage : Stage) (to : Position) → move_by run owners me at known stage ≡ Go to → to.number ≡ suc at.number
  moves_by (On h) to is = sym (ap number_in is)
  moves_by Words to is = absurd (cc (is))
  moves_by Limits to is = absurd (cc (is))
  moves_by (Trial h) to is = absurd (cc (is))
  moves_by (Redo h) to is = absurd (cc (is))
  moves_by (Over ending) to is = absurd (cc (is))

  -- To the next row.
  pub moves_to_next : (to : Position) → (rule_of run owners).move me at known ≡ Go to → to.number ≡ suc at.number
  moves_to_next to is = moves_by (stage_at run at known) to is
