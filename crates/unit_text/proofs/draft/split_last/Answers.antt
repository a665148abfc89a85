use Rattle.std.proofs.Common.{Some, ap, sym, ◌∙◌}
use Rattle.unit_text.specs.Drafts.{split_last}
use Rattle.unit_text.proofs.DraftLemmas.{split_behind}
use Rattle.unit_text.proofs.draft.split_last.Goals as goal

pub returns : goal.returns
returns c =
    ap (λ rest. Some (rest, c.in_ok-innermost.innermost)) c.from_vec.ensures
    ∙ sym (ap split_last (sym c.into_vec-around.ensures ∙ c.in_ok-innermost.ensures.items) ∙ split_behind c.pop.new.self.items c.in_ok-innermost.innermost)
