use Rattle.std.proofs.Common.{◌∙◌, ap₂}
use Rattle.std.proofs.lemmas.Int.{to_z-of_z}
use Rattle.std.specs.Int.{w64, int_max, int_min}
use Rattle.word_lanes.proofs.GuessLemmas.{straight_is}
use Rattle.word_lanes.proofs.guess_word.Goals as goal

pub returns : goal.returns
returns c =
    let high = to_z-of_z w64 c.args.high c.ranges.high in
    let low = to_z-of_z w64 c.args.low c.ranges.low in
    to_z-of_z w64 c.clamp.result (record { sfits = c.clamp.type_inv })
    ∙ c.clamp.ensures.value
    ∙ ap₂ int_max low (ap₂ int_min (straight_is c.args.last c.args.before c.ranges.last c.ranges.before) high)
