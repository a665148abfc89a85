use Rattle.std.proofs.Common.{sym, ◌∙◌, ap, Some}
use Rattle.snap_store.proofs.ViewLemmas.{slot_of_live, words_in_slot}
use Rattle.snap_store.proofs.Snaps.words.Goals as goal

pub index-requires : goal.index-requires
index-requires c = slot_of_live (λ v. v.items) c.self.inside.slots.slots c.self.view_is c.args.id _ c.id.view_is c.requires.live

pub returns : goal.returns
returns c = record {
  words =
      words_in_slot (λ v. v.items) c.self.inside.slots.slots c.self.view_is c.args.id _ c.index.result.now c.id.view_is c.index.ensures
      ∙ ap Some (sym c.deref.ensures.value);
}
