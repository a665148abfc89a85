use Rattle.list_laws.proofs.Options.{on_err}
use Rattle.fixed_words.proofs.Fractions.{front_stays}
use Rattle.fixed_words.proofs.text.append_fixed.Goals as goal

pub returns-in_err-append_magnitude-clause-err : goal.returns-in_err-append_magnitude-clause-err
returns-in_err-append_magnitude-clause-err c =
    on_err c.from_residual-in_err-append_magnitude.result
    (front_stays c.args.out.now.items _ c.append_sign.new.out.items c.append_magnitude.new.out.items c.in_ok-append_sign.ensures.ok
    c.in_err-append_magnitude.ensures.err)
