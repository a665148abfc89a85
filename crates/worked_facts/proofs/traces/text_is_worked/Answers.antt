use Rattle.std.proofs.Common.{refl}
use Rattle.std.specs.Fmt.{digits}
use Rattle.worked_facts.proofs.traces.text_is_worked.Goals as goal

pub returns : goal.returns
unfolding digits
returns c = record {
  columns = refl;
  sampled = refl;
  text = refl;
  text_sampled = refl;
}
