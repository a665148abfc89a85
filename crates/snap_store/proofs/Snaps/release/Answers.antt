use Rattle.std.proofs.Common.{sym, ◌∙◌, ap}
use Rattle.std.specs.Option.{option_map}
use Rattle.snap_store.specs.Store.{words_of}
use Rattle.snap_store.proofs.ViewLemmas.{view, slot_of_live, words_of-stored, others_kept}
use Rattle.snap_store.proofs.Snaps.release.Goals as goal

pub remove-requires : goal.remove-requires
remove-requires c = slot_of_live (λ v. v.items) c.self.inside.slots.slots c.self.view_is c.args.id _ c.id.view_is c.requires.live

pub returns-clause-released : goal.returns-clause-released
returns-clause-released c =
    ap (words_of (view (λ v. v.items) c.remove.new.self.slots)) (sym c.id.view_is)
    ∙ words_of-stored (λ v. v.items) c.remove.new.self.slots _
    ∙ ap (option_map (λ v. v.items)) c.remove.ensures.updates.changed

pub returns-clause-others : goal.returns-clause-others
returns-clause-others c =
    others_kept (λ v. v.items) c.self.inside.slots.slots c.self.view_is c.remove.new.self.slots c.args.id _ c.id.view_is c.remove.ensures.updates.others
