use Rattle.std.proofs.lemmas.Bool.Decides.{Decides-eqb}
use Rattle.std.proofs.lemmas.Slice.Eq.{strip_prefix_is}
use Rattle.trace_verify.proofs.PartingLaws.{word}
use Rattle.trace_verify.proofs.parting.behind_word.Goals as goal

pub returns : goal.returns
returns c = strip_prefix_is Decides-eqb c.args.bytes.now word c.strip_prefix.result c.strip_prefix.ensures.cases
