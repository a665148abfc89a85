use Rattle.std.proofs.Common.{◌≡◌, ◌<◌, ap, ◌∙◌, ◌==◌, arith, false, length, ◌≤◌}
use Rattle.std.proofs.lemmas.Bool.{eq-eqb, ne_eqb}
use Rattle.guess_board.specs.Journals.{without}
use Rattle.guess_board.proofs.JournalLaws.{found_at, found_none, passed_by}
use Rattle.guess_board.proofs.journal.remove.Goals as goal

pub loop-place-preserved : goal.loop-place-preserved
loop-place-preserved c =
    let l = c.loop-place in
    let as_many = ap (λ v. length v.items) l.invariant.same in
    let within : l.place < length l.outstanding.items = omega (arith, l.outstanding.ok.0, c.args.outstanding.now.ok.0) in
    let apart : (c.index.result.now == c.args.ticket) ≡ false = ne_eqb c.index.result.now c.args.ticket c.if-index-ticket.false in
    record {
      same = l.invariant.same;
      without_is = passed_by c.args.ticket l.outstanding.items l.place c.index.result.now within c.index.ensures apart l.invariant.without_is;
    }

pub returns-then-index-ticket : goal.returns-then-index-ticket
returns-then-index-ticket c =
    let l = c.loop-place in
    let as_many = ap (λ v. length v.items) l.invariant.same in
    let within : l.place < length l.outstanding.items = omega (arith, l.outstanding.ok.0, c.args.outstanding.now.ok.0) in
    c.remove.ensures.items
    ∙ found_at c.args.ticket l.outstanding.items l.place c.index.result.now within c.index.ensures
    (eq-eqb c.index.result.now c.args.ticket c.if-index-ticket.true) l.invariant.without_is
    ∙ ap (λ v. without c.args.ticket v.items) l.invariant.same

pub returns : goal.returns
returns c =
    let l = c.loop-place in
    let as_many = ap (λ v. length v.items) l.invariant.same in
    let past : length l.outstanding.items ≤ l.place = omega (arith, l.outstanding.ok.0, c.args.outstanding.now.ok.0) in
    found_none c.args.ticket l.outstanding.items l.place past l.invariant.without_is
    ∙ ap (λ v. without c.args.ticket v.items) l.invariant.same
