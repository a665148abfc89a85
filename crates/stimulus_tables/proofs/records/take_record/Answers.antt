use Rattle.stimulus_tables.proofs.ReadingLaws.{read_by}
use Rattle.stimulus_tables.proofs.records.take_record.Goals as goal
use Rattle.stimulus_tables.proofs.records.take_record.Goals.{in-Ok, in-Err}

pub returns : goal.returns
returns c rest gives =
    elim c.match-read_byte_record.branch [
      | in-Ok w ↦
          let e = w.in-Ok.ensures in
          rw w.result-is (read_by _ _ w.in-Ok.found _ rest gives (e.reads gives.untrimmed gives.ready) e.reads_on e.flexible)
      | in-Err w ↦ rw w.result-is tt
    ]
