use Rattle.std.proofs.Common.{◌∙◌, sym}
use Rattle.link_core.proofs.KnownLaws.{known_long}
use Rattle.link_core.proofs.replies.RepliesSteps.count.Goals as goal

-- src/replies.rt:36:5
pub returns : goal.returns
returns c =
    let replies = c.args.self.now in
    replies.long ∙ sym (known_long replies.t replies.h replies.plan.now.run.members replies.said.now replies.long)
