use Rattle.std.proofs.Common.{◌-◌, ◌≤◌, [], length, List}
use Rattle.stimulus_tables.specs.Stimuli.{BeganTable}
use Rattle.stimulus_tables.specs.Records.{Fields}
use Rattle.stimulus_tables.proofs.stimuli.read_moments.Given as goal

abbrev pub invariant-loop-moments : goal.invariant-loop-moments
invariant-loop-moments l = record {
  few : length l.moments ≤ 20;
  began : (records : List Fields) → BeganTable records l.names [] l.fn.reader → BeganTable records l.names l.moments l.reader;
}

abbrev pub decreases-loop-moments : goal.decreases-loop-moments
decreases-loop-moments l = 20 - length l.moments
