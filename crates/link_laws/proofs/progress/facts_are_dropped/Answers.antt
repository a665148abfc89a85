use Rattle.link_laws.proofs.DropLaws.{own_is_dropped, takes_exactly}
use Rattle.link_laws.proofs.progress.facts_are_dropped.Goals as goal

pub returns-clause-exactly : goal.returns-clause-exactly
returns-clause-exactly c = takes_exactly

pub returns-clause-own : goal.returns-clause-own
returns-clause-own c = own_is_dropped
