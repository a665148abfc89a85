use Rattle.run_laws.proofs.RunTraces.{one_rest}
use Rattle.run_laws.proofs.laws.positions_have_one_rest.Goals as goal

pub returns : goal.returns
returns c = λ run order at are is_order words within. one_rest run order are is_order at words within
