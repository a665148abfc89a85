use Rattle.std.proofs.Common.{◌<◌, ap, sym, subst, length, arith}
use Rattle.list_laws.proofs.Options.{on_err}
use Rattle.spec_core.proofs.TakeLaws.{from_within, moves_first, other_is, room_kept}
use Rattle.spec_core.proofs.world.move_first.Goals as goal

pub returns-in_err-reserve-clause-kept : goal.returns-in_err-reserve-clause-kept
returns-in_err-reserve-clause-kept c =
    let hands = c.args.hands.now in
    let some = c.requires.some in
    let within = subst (λ n. c.args.to < n) hands.ok.0 c.requires.there in
    on_err c.from_residual.result
    (room_kept hands.items c.args.to c.args.from c.requires.apart within some.ticket some.others some.first c.index_mut.result.now c.reserve.new.self
    c.index_mut.ensures.value c.in_err-reserve.ensures.items)

pub index_mut-requires-2 : goal.index_mut-requires-2
index_mut-requires-2 c =
    let hands = c.args.hands.now in
    let some = c.requires.some in
    let within = subst (λ n. c.args.to < n) hands.ok.0 c.requires.there in
    subst (λ n. c.args.from < n) (sym hands.ok.0)
    (from_within hands.items c.args.to c.args.from c.requires.apart within some.ticket some.others some.first c.index_mut.result.now c.reserve.new.self
    c.index_mut.ensures.value c.in_ok-reserve.ensures.items)

pub remove-ticket-requires : goal.remove-ticket-requires
remove-ticket-requires c =
    let hands = c.args.hands.now in
    let some = c.requires.some in
    let within = subst (λ n. c.args.to < n) hands.ok.0 c.requires.there in
    let items = other_is hands.items c.args.to c.args.from c.requires.apart within some.ticket some.others some.first c.index_mut.result.now
    c.reserve.new.self c.index_mut.ensures.value c.in_ok-reserve.ensures.items c.index_mut-2.result.now c.index_mut-2.ensures.value in
    let long = c.index_mut-2.result.now.ok.0 in
    let all = ap length items in
    omega (arith, long, all)

pub returns-clause-moved : goal.returns-clause-moved
returns-clause-moved c =
    let hands = c.args.hands.now in
    let some = c.requires.some in
    let within = subst (λ n. c.args.to < n) hands.ok.0 c.requires.there in
    moves_first hands.items c.args.to c.args.from c.requires.apart within some.ticket some.others some.first c.index_mut.result.now
    c.reserve.new.self c.index_mut.ensures.value c.in_ok-reserve.ensures.items c.index_mut-2.result.now c.remove-ticket.new.self c.remove-ticket.result
    c.index_mut-2.ensures.value c.remove-ticket.ensures.value c.remove-ticket.ensures.items c.index_mut-3.result.now c.put_last.new.hand
    c.index_mut-3.ensures.value c.put_last.ensures
