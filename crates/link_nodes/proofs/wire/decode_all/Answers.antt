use Rattle.link_nodes.proofs.WireLaws.{tells}
use Rattle.link_nodes.proofs.wire.decode_all.Goals as goal

pub returns-in-Some : goal.returns-in-Some
returns-in-Some c =
    tells c.args.bytes.now c.in-Some.fields c.fact_of.result c.fact_of-in-Some.result c.is_written.result c.told_if.result
    c.in-Some.ensures.some c.fact_of.ensures c.fact_of-in-Some.ensures c.is_written.ensures c.told_if.ensures
