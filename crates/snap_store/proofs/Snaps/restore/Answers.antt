use Rattle.std.proofs.Common.{sym, ◌∙◌, ap, length, Some}
use Rattle.snap_store.proofs.ViewLemmas.{slot_of_live, words_in_slot, length_of_live}
use Rattle.snap_store.proofs.Snaps.restore.Goals as goal

pub index-requires : goal.index-requires
index-requires c = slot_of_live (λ v. v.items) c.self.inside.slots.slots c.self.view_is c.args.id _ c.id.view_is c.requires.live

pub copy_from_slice-requires : goal.copy_from_slice-requires
copy_from_slice-requires c =
    let asked =
    length_of_live
    (λ v. v.items) c.self.inside.slots.slots c.self.view_is c.args.id _ _ c.index.result.now c.id.view_is c.index.ensures c.requires.same_length in
    sym (ap length c.deref.ensures.value ∙ asked)

pub returns : goal.returns
returns c = record {
  restored =
      words_in_slot (λ v. v.items) c.self.inside.slots.slots c.self.view_is c.args.id _ c.index.result.now c.id.view_is c.index.ensures
      ∙ ap Some (sym (c.copy_from_slice.ensures.after ∙ c.deref.ensures.value));
}
