use Rattle.std.proofs.Common.{arith, tests}
use Rattle.std.proofs.lemmas.Nat.{one_shl, pow_pos}
use Rattle.std.proofs.lemmas.Nat.Bits.{and_pow, bit_at_above}
use Rattle.nest_ways.proofs.sets.SetWord.has.Goals as goal

pub returns-then-number-ge-WORD_BITS : goal.returns-then-number-ge-WORD_BITS
returns-then-number-ge-WORD_BITS c =
    let within = c.if-number-ge-WORD_BITS.true in
    let none = bit_at_above c.args.self.bits 64 c.args.number (omega (arith, c.well_formed)) (omega (arith, within)) in (
      λ no. absurd (cc),
      λ is. let bit = is.1 in absurd (omega (arith, bit, none)),
    )

pub returns : goal.returns
returns c =
    let within = c.if-number-ge-WORD_BITS.false in (
      λ told. (
        omega (arith, within),
        grind (arith, tests, told, within, one_shl c.args.number 64 (omega (arith, within)), and_pow c.args.self.bits c.args.number, pow_pos c.args.number),
      ),
      λ is.
          let bit = is.1 in
          grind (arith, tests, bit, within, one_shl c.args.number 64 (omega (arith, within)), and_pow c.args.self.bits c.args.number, pow_pos c.args.number),
    )
