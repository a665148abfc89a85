use Rattle.std.proofs.Common.{Err, None, subst}
use Rattle.text_tokens.specs.Scanning.{ReadsAs, TokensAre}
use Rattle.nest_text.proofs.KindLaws.{kind_unspelled}
use Rattle.nest_text.proofs.kind.kind_of_line.Goals as goal

pub returns-in-Err-NoForm : goal.returns-in-Err-NoForm
returns-in-Err-NoForm c =
    let none = subst (λ why. ReadsAs (Err why) (TokensAre c.code.result.now)) c.in-Err-NoForm.field-0-is c.in-Err-NoForm.ensures in
    kind_unspelled c.args.line.now (subst (λ code. TokensAre code None) c.code.ensures none)
