use Rattle.std.proofs.Common.{refl, ◌∙◌, ap, Some}
use Rattle.std.specs.Option.{option_map}
use Rattle.snap_store.proofs.ViewLemmas.{held, words_of-stored, others_kept}
use Rattle.snap_store.proofs.Snaps.save.Goals as goal

pub returns-clause-new_id : goal.returns-clause-new_id
returns-clause-new_id c =
    held (λ v. v.items) c.self.inside.slots.slots c.self.view_is c.in_ok-key.key ∙ ap (option_map (λ v. v.items)) c.in_ok-key.ensures.was_vacant

pub returns-clause-saved : goal.returns-clause-saved
returns-clause-saved c =
    words_of-stored (λ v. v.items) c.insert.new.self.slots c.in_ok-key.key
    ∙ ap (option_map (λ v. v.items)) c.in_ok-key.ensures.updates.changed
    ∙ ap Some c.in_ok-copy.ensures.items

pub returns-clause-others : goal.returns-clause-others
returns-clause-others c =
    others_kept (λ v. v.items) c.self.inside.slots.slots c.self.view_is c.insert.new.self.slots c.in_ok-key.key _ refl c.in_ok-key.ensures.updates.others
