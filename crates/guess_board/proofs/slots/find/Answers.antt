use Rattle.std.proofs.Common.{◌∙◌, ap, sym, Bool, Option, Some, None, if◌then◌else◌}
use Rattle.guess_board.proofs.SlotLaws.{first_found}
use Rattle.unit_answers.specs.Answers.{Answered}
use Rattle.unit_answers.specs.Keys.{key_of}
use Rattle.guess_board.proofs.slots.find.Goals as goal

pub returns-then-same_key : goal.returns-then-same_key
returns-then-same_key c =
    let one : Answered = c.in_ok-one.one.now in
    let told : Bool → Option Answered = λ b. if b then Some one else None in
    ap told (sym c.if-same_key.true)
    ∙ first_found c.args.slots.now one (key_of c.args.want) c.same_key.result
    (ap Some c.in_ok-one.ensures.value ∙ c.in_ok-first.ensures.value) c.same_key.ensures

pub returns-else-same_key : goal.returns-else-same_key
returns-else-same_key c =
    let one : Answered = c.in_ok-one.one.now in
    let told : Bool → Option Answered = λ b. if b then Some one else None in
    ap told (sym c.if-same_key.false)
    ∙ first_found c.args.slots.now one (key_of c.args.want) c.same_key.result
    (ap Some c.in_ok-one.ensures.value ∙ c.in_ok-first.ensures.value) c.same_key.ensures
