use Rattle.std.proofs.Common.{◌≡◌, ◌∙◌, ◌+◌, ap, sym, refl, arith, length, take, drop, Some, add-one}
use Rattle.std.specs.Prelude.{slice_get}
use Rattle.indexmap.specs.IndexMap.{set_value_at}
use Rattle.guess_board.specs.Slots.{fill_first, slots_in}
use Rattle.guess_board.proofs.SlotLaws.{drop_later, drop_set, get_dropped, length-put, length-set_slot, put_more, put_none, same_slot}
use Rattle.guess_board.proofs.slots.move_answers.Goals as goal

pub loop-place-init : goal.loop-place-init
loop-place-init c = record { as_many = refl; left = refl; put = put_none c.args.into.now.entries }

pub overflow_add-first : goal.overflow_add-first
overflow_add-first c = omega (arith, c.requires.few, c.requires.from)

pub index_mut-requires-in-loop-place : goal.index_mut-requires-in-loop-place
index_mut-requires-in-loop-place c =
    let all = slots_in c.args.from.now.entries in
    let long =
    ap length c.loop-place.invariant.put ∙ length-put c.args.into.now.entries (take c.loop-place.place (drop c.args.first all)) in
    omega (arith, c.requires.into)

pub loop-place-preserved : goal.loop-place-preserved
loop-place-preserved c =
    let l = c.loop-place in
    let from = c.args.from.now.entries in
    let into = c.args.into.now.entries in
    let k = c.args.first + l.place in
    let all = slots_in from in
    let held : slice_get (drop c.args.first all) l.place ≡ Some c.take.result =
    sym (get_dropped all c.args.first l.place) ∙ sym (same_slot l.from.entries from k l.invariant.left) ∙ c.index_mut.ensures.value
    ∙ ap Some (sym c.take.ensures.value) in
    record {
      as_many = length-set_slot l.from.entries k c.take.new.self ∙ l.invariant.as_many;
      left = drop_set l.from.entries k (c.args.first + (l.place + 1)) c.take.new.self (omega arith)
          ∙ drop_later l.from.entries from k (c.args.first + (l.place + 1)) (omega arith) l.invariant.left;
      put = ap (λ es. set_value_at es l.place c.take.result) l.invariant.put
          ∙ put_more into (drop c.args.first all) l.place c.take.result (omega (arith, c.requires.into)) held
          ∙ ap (λ n. fill_first into (take n (drop c.args.first all))) (sym (add-one l.place));
    }
