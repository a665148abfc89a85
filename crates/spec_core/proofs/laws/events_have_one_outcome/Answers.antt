use Rattle.spec_core.proofs.HappenLaws.{happens_once, not_refused}
use Rattle.spec_core.proofs.laws.events_have_one_outcome.Goals as goal

pub returns-clause-once : goal.returns-clause-once
returns-clause-once c = happens_once

pub returns-clause-not_both : goal.returns-clause-not_both
returns-clause-not_both c = not_refused
