use Rattle.std.proofs.Common.{◌∙◌, ap, length, sym, Some}
use Rattle.snap_store.proofs.ViewLemmas.{slot_of_live, length_of_live, words_after_set, others_after_set, put_over}
use Rattle.snap_store.proofs.Snaps.overwrite.Goals as goal

pub index_mut-held-requires : goal.index_mut-held-requires
index_mut-held-requires c = slot_of_live (λ v. v.items) c.self.inside.slots.slots c.self.view_is c.args.id _ c.id.view_is c.requires.live

pub copy_words-requires : goal.copy_words-requires
copy_words-requires c =
    let held = c.index_mut-held.result.now in
    let asked =
    length_of_live
    (λ v. v.items) c.self.inside.slots.slots c.self.view_is c.args.id _ _ held c.id.view_is c.index_mut-held.ensures.value c.requires.same_length in
    ap length c.deref_mut.ensures.value ∙ asked

pub returns-clause-written : goal.returns-clause-written
returns-clause-written c =
    let there = slot_of_live (λ v. v.items) c.self.inside.slots.slots c.self.view_is c.args.id _ c.id.view_is c.requires.live in
    words_after_set (λ v. v.items) c.self.inside.slots.slots c.args.id _ _ c.id.view_is there
    ∙ ap Some
    (put_over c.index_mut-held.result.now.items c.copy_words.new.into c.args.words.now c.index_mut-held.result.now.len c.copy_words.ensures
    (sym (length_of_live
    (λ v. v.items) c.self.inside.slots.slots c.self.view_is c.args.id _ _ c.index_mut-held.result.now c.id.view_is c.index_mut-held.ensures.value
    c.requires.same_length)
    ∙ sym c.index_mut-held.result.now.ok.0))

pub returns-clause-others : goal.returns-clause-others
returns-clause-others c = others_after_set (λ v. v.items) c.self.inside.slots.slots c.self.view_is c.args.id _ _ c.id.view_is
