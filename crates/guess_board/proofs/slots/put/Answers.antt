use Rattle.std.proofs.Common.{◌≡◌, ◌∙◌, ap, sym, arith, length, Bool, true, if◌then◌else◌, ◌++◌, ◌∷◌, [], ◌-◌}
use Rattle.std.proofs.lemmas.List.{length_push}
use Rattle.guess_board.specs.Chains.{asks_for, code_of, need_of}
use Rattle.guess_board.specs.Slots.{filled, slots_in}
use Rattle.guess_board.proofs.SlotLaws.{length-entries, next_place, put_at}
use Rattle.guess_board.proofs.slots.put.Goals as goal

pub fill-requires : goal.fill-requires
fill-requires c =
    let line = c.args.line.now in
    let entries = c.args.slots.now.entries in
    let next =
    next_place line entries c.as_slice.result.now c.in-Some.needed.cells.now (c.as_slice.ensures ∙ c.values.ensures.rest) c.in-Some.ensures.from
    c.in-Some.ensures.some in
    let long = ap length c.requires.are ∙ length-entries line (filled (slots_in entries)) in
    omega (arith, next.within)

pub returns-clause-slots : goal.returns-clause-slots
returns-clause-slots c =
    let line = c.args.line.now in
    let entries = c.args.slots.now.entries in
    let next =
    next_place line entries c.as_slice.result.now c.in-Some.needed.cells.now (c.as_slice.ensures ∙ c.values.ensures.rest) c.in-Some.ensures.from
    c.in-Some.ensures.some in
    (put_at line entries c.fill.new.slots.entries (length line - length c.in-Some.needed.cells.now) c.args.one c.requires next c.fill.ensures).slots

pub returns-clause-answers : goal.returns-clause-answers
returns-clause-answers c =
    let line = c.args.line.now in
    let entries = c.args.slots.now.entries in
    let code = code_of c.args.image.now.value in
    let ones = filled (slots_in entries) in
    let same = c.as_slice.ensures ∙ c.values.ensures.rest in
    let next = next_place line entries c.as_slice.result.now c.in-Some.needed.cells.now same c.in-Some.ensures.from c.in-Some.ensures.some in
    let asks : asks_for (need_of code c.args.state.now line ones) c.args.one ≡ true =
    ap (λ need. asks_for need c.args.one) (sym (c.in-Some.ensures.need code ∙ ap (λ slots. need_of code c.args.state.now line (filled slots)) same))
    ∙ sym c.is_next.ensures ∙ c.if-is_next.true in
    (put_at line entries c.fill.new.slots.entries (length line - length c.in-Some.needed.cells.now) c.args.one c.requires next c.fill.ensures).answers
    ∙ sym (ap (λ (b : Bool). if b then ones ++ c.args.one ∷ [] else ones) asks)

pub returns-clause-count : goal.returns-clause-count
returns-clause-count c =
    let line = c.args.line.now in
    let entries = c.args.slots.now.entries in
    let next =
    next_place line entries c.as_slice.result.now c.in-Some.needed.cells.now (c.as_slice.ensures ∙ c.values.ensures.rest) c.in-Some.ensures.from
    c.in-Some.ensures.some in
    let put =
    put_at line entries c.fill.new.slots.entries (length line - length c.in-Some.needed.cells.now) c.args.one c.requires next c.fill.ensures in
    let more = ap length put.answers ∙ length_push (filled (slots_in entries)) c.args.one in
    omega arith
