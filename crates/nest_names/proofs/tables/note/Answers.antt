use Rattle.std.proofs.Common.{rules, ◌≡◌, None, bytes_eq}
use Rattle.std.specs.BTreeMap.{get_by}
use Rattle.std.specs.Cmp.Lexicographic.{bytes_decides, nat_list_eq_equiv, slice_cmp}
use Rattle.std.specs.Ordering.{nat_cmp}
use Rattle.std.proofs.lemmas.Map.Text.{btree_map_updates_str}
use Rattle.list_laws.proofs.Options.{put_behind}
use Rattle.nest_names.proofs.tables.note.Goals as goal

pub returns-in_ok-insert : goal.returns-in_ok-insert
returns-in_ok-insert c = λ q.
    let w = c.args.name in
    let put = btree_map_updates_str w.now c.args.places.now c.insert.new.self _ c.in_ok-insert.ensures.updates q in
    let none : get_by (λ k. slice_cmp nat_cmp w.now k.now) c.args.places.now ≡ None = search rules in
    put_behind (bytes_eq q w.now) (bytes_eq w.now q) _ _ _ (nat_list_eq_equiv.symm q w.now) (λ same. rw ((bytes_decides q w.now).0 same) none) put
