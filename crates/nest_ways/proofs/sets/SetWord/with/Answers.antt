use Rattle.std.proofs.Common.{◌≡◌, ◌⊎◌, ◌∙◌, ◌*◌, ◌%◌, ◌^◌, arith, inl, inr, sym, w64}
use Rattle.std.proofs.lemmas.Bool.{cases_eq}
use Rattle.std.proofs.lemmas.Nat.Bits.{bit_at-lt, bit_at_or, bit_at_set_other, bit_at_set_same}
use Rattle.nest_ways.specs.Sets.{IsInWord}
use Rattle.nest_ways.proofs.sets.SetWord.with.Goals as goal

pub returns-clause-there : goal.returns-clause-there
returns-clause-there c within = (within, bit_at_set_same w64 c.args.self.bits c.args.number within)

pub returns-clause-still : goal.returns-clause-still
returns-clause-still c one is =
    let new = 1 * 2 ^ c.args.number % 2 ^ 64 in
    let bit = is.1 in
    (is.0, omega (arith, bit, bit_at_or c.args.self.bits new one, bit_at-lt new one))

pub returns-clause-only : goal.returns-clause-only
returns-clause-only c one is = by (cases_eq one c.args.number)
  where
    by : (one ≡ c.args.number) ⊎ (one ≡ c.args.number → ⊥) → (one ≡ c.args.number) ⊎ IsInWord c.args.self one
    by (inl same) = inl same
    by (inr other) =
        let within = c.if-number-ge-WORD_BITS.false in
        inr (is.0, sym (bit_at_set_other w64 c.args.self.bits c.args.number (omega (arith, within)) one other) ∙ is.1)
