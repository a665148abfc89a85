use Rattle.std.proofs.Common.{◌∙◌, ap}
use Rattle.link_nodes.specs.Decoding.{decoded}
use Rattle.link_nodes.proofs.WireLaws.{decodes_back, told_short, told_written}
use Rattle.link_nodes.proofs.wire.decode.Goals as goal

pub returns-clause-written : goal.returns-clause-written
returns-clause-written c = told_written c.args.bytes.now c.decode_all.result c.decode_all.ensures

pub returns-clause-short : goal.returns-clause-short
returns-clause-short c = told_short c.args.bytes.now c.decode_all.result c.decode_all.ensures

pub returns-clause-back : goal.returns-clause-back
returns-clause-back c = λ fact types short is. c.decode_all.ensures ∙ ap decoded is ∙ decodes_back fact types short
