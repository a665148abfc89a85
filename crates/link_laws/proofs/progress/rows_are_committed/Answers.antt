use Rattle.link_laws.proofs.CommitLaws.{commits_at_once, commits_exactly}
use Rattle.link_laws.proofs.progress.rows_are_committed.Goals as goal

pub returns-clause-commits : goal.returns-clause-commits
returns-clause-commits c = commits_exactly

pub returns-clause-at_once : goal.returns-clause-at_once
returns-clause-at_once c = commits_at_once
