use Rattle.language_laws.proofs.BlockLaws.{stands_behind}
use Rattle.language_laws.proofs.ScopeLaws.{has_scope}
use Rattle.language_laws.proofs.SiteLaws.{sites_are}
use Rattle.language_laws.proofs.laws.sites_are_canonical_lines.Goals as goal

pub returns : goal.returns
returns c = record { lines = sites_are; blocks = stands_behind; scopes = has_scope }
