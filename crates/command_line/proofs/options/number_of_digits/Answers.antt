use Rattle.std.proofs.Common.{◌≡◌, [], ◌∷◌, get_or, sym, ◌∙◌, Some, None, arith}
use Rattle.command_line.specs.Options.{number_behind}
use Rattle.command_line.proofs.NumberLaws.{leaves_room, grown, one_more, no_more}
use Rattle.command_line.proofs.options.number_of_digits.Goals as goal

pub with_digit-requires : goal.with_digit-requires
with_digit-requires c = leaves_room c.loop-byte.number c.loop-byte.byte-index c.loop-byte.invariant.small (omega arith)

pub returns-in_err-number : goal.returns-in_err-number
returns-in_err-number c =
    let made : None ≡ number_behind c.loop-byte.number (get_or c.args.digits.now c.loop-byte.byte-index 0 ∷ []) = sym (c.in_err-number.was)
    ∙ c.with_digit.ensures in
    let same : None ≡ number_behind 0 c.args.digits.now =
    one_more c.loop-byte.number c.args.digits.now c.loop-byte.byte-index None _ c.loop-byte-test.true made c.loop-byte.invariant.same in
    cc

pub loop-byte-preserved : goal.loop-byte-preserved
loop-byte-preserved c =
    let made : Some c.in_ok-number.number ≡ number_behind c.loop-byte.number (get_or c.args.digits.now c.loop-byte.byte-index 0 ∷ []) =
    sym (c.in_ok-number.was)
    ∙ c.with_digit.ensures in
    record {
      small = grown c.loop-byte.number c.loop-byte.byte-index
          (get_or c.args.digits.now c.loop-byte.byte-index 0) c.in_ok-number.number c.loop-byte.invariant.small (sym made);
      same = one_more c.loop-byte.number c.args.digits.now c.loop-byte.byte-index
          (Some c.in_ok-number.number) _ c.loop-byte-test.true made c.loop-byte.invariant.same;
    }

pub returns : goal.returns
returns c = no_more c.loop-byte.number c.args.digits.now c.loop-byte.byte-index _ c.loop-byte-test.false c.loop-byte.invariant.same
