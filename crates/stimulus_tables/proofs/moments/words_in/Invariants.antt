use Rattle.std.proofs.Common.{◌-◌, length}
use Rattle.csv.specs.Records.{fields_of}
use Rattle.stimulus_tables.proofs.MomentLaws.{ReadTo}
use Rattle.stimulus_tables.proofs.moments.words_in.Given as goal

abbrev pub invariant-loop-field : goal.invariant-loop-field
invariant-loop-field l = ReadTo (fields_of l.fields) l.place l.words

abbrev pub decreases-loop-field : goal.decreases-loop-field
decreases-loop-field l = length (fields_of l.fields) - l.place
