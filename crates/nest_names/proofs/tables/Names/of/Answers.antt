use Rattle.std.proofs.Common.{[]}
use Rattle.nest_names.proofs.TableLaws.{told_next_at}
use Rattle.nest_names.proofs.tables.Names.of.Goals as goal

pub loop-place-preserved : goal.loop-place-preserved
loop-place-preserved c =
    told_next_at c.args.names.now (record { ref_ptr = (0, 0); now = [] }) c.loop-place.tables c.add.new.self c.loop-place.place c.loop-place-test.true
    c.loop-place.invariant c.in_ok-add.ensures.first c.in_ok-add.ensures.again
