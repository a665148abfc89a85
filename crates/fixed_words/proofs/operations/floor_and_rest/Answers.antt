use Rattle.std.proofs.Common.{pos, ◌-ℤ◌, ◌+ℤ◌, w64, SFits, rules}
use Rattle.std.specs.Int.RustNames.{int_div, int_rem}
use Rattle.std.proofs.lemmas.Int.{to_z-of_z}
use Rattle.fixed_words.proofs.MendedQuotients.{above_floor, at_floor_by_sign, at_floor_exactly}
use Rattle.fixed_words.proofs.operations.floor_and_rest.Goals as goal
use Rattle.fixed_words.proofs.operations.floor_and_rest.Goals.{else-left-ne0-via-then-left-ne0+else-left-divisor, else-left-ne0-via-else-left-ne0}

pub returns-then-left-divisor-clause-floor : goal.returns-then-left-divisor-clause-floor
returns-then-left-divisor-clause-floor c =
    let dividend_fits = c.ranges.dividend in
    let divisor_fits = c.ranges.divisor in
    let quotient_fits : SFits w64 (int_div c.args.dividend c.args.divisor) = search rules in
    let left_fits : SFits w64 (int_rem c.args.dividend c.args.divisor) = search rules in
    let less_fits : SFits w64 (int_div c.args.dividend c.args.divisor -ℤ pos 1) = search rules in
    let left = simp to_z-of_z at c.if-left-ne0.true in
    let apart = simp to_z-of_z at c.if-left-divisor.true in
    simp to_z-of_z (above_floor c.args.dividend c.args.divisor c.requires.not_zero left apart).floor

pub returns-then-left-divisor-clause-rest : goal.returns-then-left-divisor-clause-rest
returns-then-left-divisor-clause-rest c =
    let dividend_fits = c.ranges.dividend in
    let divisor_fits = c.ranges.divisor in
    let left_fits : SFits w64 (int_rem c.args.dividend c.args.divisor) = search rules in
    let more_fits : SFits w64 (int_rem c.args.dividend c.args.divisor +ℤ c.args.divisor) = search rules in
    let left = simp to_z-of_z at c.if-left-ne0.true in
    let apart = simp to_z-of_z at c.if-left-divisor.true in
    simp to_z-of_z (above_floor c.args.dividend c.args.divisor c.requires.not_zero left apart).rest

pub returns-else-left-ne0-clause-floor : goal.returns-else-left-ne0-clause-floor
returns-else-left-ne0-clause-floor c =
    let dividend_fits = c.ranges.dividend in
    let divisor_fits = c.ranges.divisor in
    let quotient_fits : SFits w64 (int_div c.args.dividend c.args.divisor) = search rules in
    let left_fits : SFits w64 (int_rem c.args.dividend c.args.divisor) = search rules in
    elim c.else-left-ne0.branch [
      | else-left-ne0-via-then-left-ne0+else-left-divisor w ↦
          let same = simp to_z-of_z at w.if-left-divisor.false in
          simp to_z-of_z (at_floor_by_sign c.args.dividend c.args.divisor c.requires.not_zero same).floor
      | else-left-ne0-via-else-left-ne0 w ↦
          let none = simp to_z-of_z at w.if-left-ne0.false in
          simp to_z-of_z (at_floor_exactly c.args.dividend c.args.divisor c.requires.not_zero left_fits none).floor
    ]

pub returns-else-left-ne0-clause-rest : goal.returns-else-left-ne0-clause-rest
returns-else-left-ne0-clause-rest c =
    let dividend_fits = c.ranges.dividend in
    let divisor_fits = c.ranges.divisor in
    let left_fits : SFits w64 (int_rem c.args.dividend c.args.divisor) = search rules in
    elim c.else-left-ne0.branch [
      | else-left-ne0-via-then-left-ne0+else-left-divisor w ↦
          let same = simp to_z-of_z at w.if-left-divisor.false in
          simp to_z-of_z (at_floor_by_sign c.args.dividend c.args.divisor c.requires.not_zero same).rest
      | else-left-ne0-via-else-left-ne0 w ↦
          let none = simp to_z-of_z at w.if-left-ne0.false in
          simp to_z-of_z (at_floor_exactly c.args.dividend c.args.divisor c.requires.not_zero left_fits none).rest
    ]
