use Rattle.std.proofs.Common.{◌-◌, length}
use Rattle.csv.specs.Records.{fields_of}
use Rattle.stimulus_tables.proofs.NameLaws.{NamesTo}
use Rattle.stimulus_tables.proofs.names.names_in.Given as goal

abbrev pub invariant-loop-name : goal.invariant-loop-name
invariant-loop-name l = NamesTo (fields_of l.fields) l.place l.names

abbrev pub decreases-loop-name : goal.decreases-loop-name
decreases-loop-name l = length (fields_of l.fields) - l.place
