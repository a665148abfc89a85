use Rattle.std.proofs.Common.{◌≡◌, [], ◌∷◌, get_or, sym, ◌∙◌, Some, None}
use Rattle.fixed_words.specs.Digits.{number_of_digits}
use Rattle.fixed_words.proofs.Numbers.{read_one_more, read_all, read_from_digits}
use Rattle.fixed_words.proofs.digits.read_digits.Goals as goal

pub returns-in_err-number : goal.returns-in_err-number
returns-in_err-number c =
    let made : None ≡ number_of_digits c.loop-byte.number (get_or c.args.bytes.now c.loop-byte.byte-index 0 ∷ []) = sym (c.in_err-number.was)
    ∙ c.with_digit.ensures in
    let same : None ≡ number_of_digits c.args.before c.args.bytes.now =
    read_one_more c.loop-byte.number c.args.bytes.now c.loop-byte.byte-index None _ c.loop-byte-test.true made c.loop-byte.invariant.same in
    cc

pub loop-byte-preserved : goal.loop-byte-preserved
loop-byte-preserved c =
    let made : Some c.in_ok-number.number ≡ number_of_digits c.loop-byte.number (get_or c.args.bytes.now c.loop-byte.byte-index 0 ∷ []) =
    sym (c.in_ok-number.was)
    ∙ c.with_digit.ensures in
    record {
      bounded = (read_from_digits c.loop-byte.number (get_or c.args.bytes.now c.loop-byte.byte-index 0 ∷ []) c.in_ok-number.number (sym made)).bounded;
      same = read_one_more c.loop-byte.number c.args.bytes.now c.loop-byte.byte-index
          (Some c.in_ok-number.number) _ c.loop-byte-test.true made c.loop-byte.invariant.same;
    }

pub returns : goal.returns
returns c =
    read_all c.loop-byte.number c.args.bytes.now c.loop-byte.byte-index _ c.loop-byte-test.false c.loop-byte.invariant.bounded c.loop-byte.invariant.same
