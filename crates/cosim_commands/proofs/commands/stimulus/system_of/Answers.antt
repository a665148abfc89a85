use Rattle.std.proofs.Common.{arith, subst}
use Rattle.stimulus_tables.specs.Records.{records_of}
use Rattle.stimulus_tables.specs.Stimuli.{MakesSystem, TellsFault}
use Rattle.stimulus_tables.proofs.StimulusLaws.{leaves_early}
use Rattle.cosim_commands.proofs.commands.stimulus.system_of.Goals as goal

-- The number of a record is at most 22.
pub overflow_cast-result : goal.overflow_cast-result
overflow_cast-result c =
    let records = records_of c.args.table.now in
    let told = subst (TellsFault records) c.in-Err-Form.field-0-is (subst (MakesSystem records) c.in-Err-Form.is c.stimulus.ensures) in
    let early = leaves_early records c.in-Err-Form.number told in omega (arith, early)
