use Rattle.nest_runs.proofs.TextLaws.{text_traces}
use Rattle.nest_runs.proofs.laws.nested_texts_run_flat.Goals as goal

pub returns : goal.returns
returns c = text_traces
