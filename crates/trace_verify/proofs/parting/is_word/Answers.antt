use Rattle.std.proofs.Common.{◌∙◌, sym}
use Rattle.trace_verify.proofs.PartingLaws.{no_word, word_told}
use Rattle.trace_verify.proofs.parting.is_word.Goals as goal

pub returns-in-Some : goal.returns-in-Some
returns-in-Some c =
    word_told c.args.code.now c.in-Some.rest.now c.all_blank.result (sym c.behind_blanks.ensures ∙ c.in-Some.ensures) c.all_blank.ensures

pub returns-in-None : goal.returns-in-None
returns-in-None c = no_word c.args.code.now (λ rest is. c.in-None.ensures rest (c.behind_blanks.ensures ∙ is))
