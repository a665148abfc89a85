use Rattle.std.proofs.Common.{◌≤◌, arith}
use Rattle.std.proofs.lemmas.Bool.Decides.{nat_tests}
use Rattle.text_tokens.proofs.LineLemmas.{length_le_size_of}
use Rattle.unit_tree.specs.Lines.{size_of}
use Rattle.nest_text.specs.Reading.{AnswersNest}
use Rattle.nest_text.proofs.NestAnswers.{groups_failed, handed_on, main_failed, nest_is_read}
use Rattle.nest_text.proofs.reading.read_nest.Goals as goal

pub cut_parts-requires : goal.cut_parts-requires
cut_parts-requires c =
    let short : size_of c.args.text.now ≤ 1048576 = grind (arith, nat_tests, c.size.ensures, c.if-size-gt-LONGEST_TEXT.false) in
    let less = length_le_size_of c.args.text.now in
    omega (arith, short, less)

pub returns-in_err-groups : goal.returns-in_err-groups
returns-in_err-groups c =
    let short : size_of c.args.text.now ≤ 1048576 = grind (arith, nat_tests, c.size.ensures, c.if-size-gt-LONGEST_TEXT.false) in
    let why = c.in_err-groups.field-0.0 in
    record {
      answer = handed_on c.from_residual-in_err-groups.result why (AnswersNest c.args.text.now) c.from_residual-in_err-groups.ensures.1
          (groups_failed c.args.text.now c.in_ok-prefix.prefix.now c.in_ok-prefix.main_line c.in_ok-prefix.rest.now why short c.in_ok-prefix.ensures.cut
          c.in_err-groups.ensures);
    }

pub returns-in_err-main : goal.returns-in_err-main
returns-in_err-main c =
    let short : size_of c.args.text.now ≤ 1048576 = grind (arith, nat_tests, c.size.ensures, c.if-size-gt-LONGEST_TEXT.false) in
    let why = c.in_err-main.field-0.0 in
    record {
      answer = handed_on c.from_residual-in_err-main.result why (AnswersNest c.args.text.now) c.from_residual-in_err-main.ensures.1
          (main_failed c.args.text.now c.in_ok-prefix.prefix.now c.in_ok-prefix.main_line c.in_ok-prefix.rest.now c.in_ok-groups.groups c.in_ok-groups.lines why
          short c.in_ok-prefix.ensures.cut c.in_ok-groups.ensures c.in_err-main.ensures);
    }

pub returns : goal.returns
returns c =
    let short : size_of c.args.text.now ≤ 1048576 = grind (arith, nat_tests, c.size.ensures, c.if-size-gt-LONGEST_TEXT.false) in
    record {
      answer = nest_is_read c.args.text.now c.in_ok-prefix.prefix.now c.in_ok-prefix.main_line c.in_ok-prefix.rest.now c.in_ok-groups.groups c.in_ok-groups.lines
          c.in_ok-main.main short c.in_ok-prefix.ensures.cut c.in_ok-groups.ensures c.in_ok-main.ensures;
    }
