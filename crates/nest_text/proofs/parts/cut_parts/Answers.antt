use Rattle.std.proofs.Common.{◌≡◌, subst}
use Rattle.nest_text.specs.Reading.{MainIs, OfLines, first_stray}
use Rattle.nest_text.specs.declared.place.PartPlace.TheVariants.{BeforeParts}
use Rattle.nest_text.proofs.TextCuts.{breaks_stray, cuts_text, no_main}
use Rattle.nest_text.proofs.parts.cut_parts.Goals as goal

pub returns-in_default-clause-cut : goal.returns-in_default-clause-cut
returns-in_default-clause-cut c =
    (c.number.ensures, no_main c.args.text.now (subst (λ found. OfLines 1 c.args.text.now (λ lines. MainIs lines found)) c.in_default.is c.in_ok-cut.ensures.main))

pub returns-in-Some-2-clause-cut : goal.returns-in-Some-2-clause-cut
returns-in-Some-2-clause-cut c =
    let cut = c.in-Some.cut in (
      c.number-in-Some-2.ensures,
      breaks_stray c.args.text.now cut.0.now cut.1 cut.2.now c.in-Some-2.line
          (subst (λ found. OfLines 1 c.args.text.now (λ lines. MainIs lines found)) c.in-Some.is c.in_ok-cut.ensures.main)
          (subst (λ stray. OfLines 1 c.args.text.now (λ lines. stray ≡ first_stray BeforeParts lines)) c.in-Some-2.is c.in_ok-line.ensures),
    )

pub returns-in-None-clause-cut : goal.returns-in-None-clause-cut
returns-in-None-clause-cut c =
    let cut = c.in-Some.cut in
    cuts_text c.args.text.now cut.0.now cut.1 cut.2.now
    (subst (λ found. OfLines 1 c.args.text.now (λ lines. MainIs lines found)) c.in-Some.is c.in_ok-cut.ensures.main)
    (subst (λ stray. OfLines 1 c.args.text.now (λ lines. stray ≡ first_stray BeforeParts lines)) c.in-None.is c.in_ok-line.ensures)
