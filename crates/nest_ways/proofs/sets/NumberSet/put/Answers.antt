use Rattle.std.proofs.Common.{◌≡◌, ◌⊎◌, ◌+◌, ◌-◌, ◌*◌, ◌/◌, ◌%◌, arith, inl, inr, refl}
use Rattle.nest_ways.specs.Sets.{HasAt}
use Rattle.nest_ways.proofs.SetLaws.{number_only}
use Rattle.nest_ways.proofs.sets.NumberSet.put.Goals as goal

pub returns-clause-only : goal.returns-clause-only
returns-clause-only c one held =
    let was = c.args.self.now in
    let number = c.args.number in
    let place = number / 64 - was.start in
    let room = c.requires in
    let is : number ≡ (was.start + place) * 64 + number % 64 = omega (arith, room) in
    number_only was (record { start = was.start; words = c.put_bit.new.words }) place (number % 64) number refl is (λ at bit has. before at bit (c.put_bit.ensures.only at bit has))
    one held
  where
    before : (at bit : _) → ((at ≡ c.args.number / 64 - c.args.self.now.start) × (bit ≡ c.args.number % 64)) ⊎ HasAt c.grow_to.new.words.items at bit
        → ((at ≡ c.args.number / 64 - c.args.self.now.start) × (bit ≡ c.args.number % 64)) ⊎ HasAt c.args.self.now.words.items at bit
    before at bit (inl here) = inl here
    before at bit (inr there) = inr (c.in_ok-grow_to.ensures.only at bit there)
