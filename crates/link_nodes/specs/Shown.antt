-- What node 0 shows of the trace.
use Rattle.std.specs.Prelude.{◌≡◌, ℕ, List, ◌++◌, take, if◌then◌else◌, is_some, Option}
use Rattle.std.specs.Io.KnownBytes.{Appends}
use Rattle.cosim_io.specs.Pieces.{AppendsPrefix}
use Rattle.link_laws.specs.Nodes.{Progress}
use Rattle.link_laws.specs.Pairs.{Pair}
use Rattle.link_nodes.specs.Rounds.{pair_after}
use Rattle.link_nodes.specs.declared.run.Nodes.{Nodes}
use Rattle.trace_plan.specs.Plans.{Planned}
use Rattle.trace_rows.specs.Lines.{header_of, lines_of}
use Rattle.unit_tree.specs.Trace.{IsTrace, Stand, rows_of}
use Rattle.unit_tree.specs.declared.ending.Ending.{Ending}

-- The stands of a trace that a node has committed: those before its number, or all where it has ended.
abbrev pub committed : Progress → List Stand → List Stand
committed node stands = if is_some node.ended then stands else take node.at.number stands

-- The lines of their rows.
abbrev pub lines_shown : Planned → Progress → List Stand → List ℕ
lines_shown plan node stands = lines_of plan.system (rows_of plan.run (committed node stands))

-- The progress of a pair.
abbrev pub told_of : Pair → Nodes
told_of pair = record { first = pair.first.at.number; second = pair.second.at.number; last = pair.first.at.point; outcome = pair.first.ended }

-- The header and the lines of the rows that node 0 has committed after the rounds, of the one trace, were written, and the progress
-- of both nodes was returned.
pub record ShowsRounds (plan : Planned) (seed rounds : ℕ) (old new : Option (List ℕ)) (nodes : Nodes) : Type 0 where
  pub stands : List Stand
  pub ending : Ending
  pub trace : IsTrace plan.run stands ending
  pub out : Appends old new (header_of plan.system ++ lines_shown plan (pair_after plan.run seed rounds).first stands)
  pub told : nodes ≡ told_of (pair_after plan.run seed rounds)

-- What was written is a prefix of this.
pub record BeginsRounds (plan : Planned) (seed rounds : ℕ) (old new : Option (List ℕ)) : Type 0 where
  pub begins : (stands : List Stand) (ending : Ending) → IsTrace plan.run stands ending
      → AppendsPrefix old new (header_of plan.system ++ lines_shown plan (pair_after plan.run seed rounds).first stands)
