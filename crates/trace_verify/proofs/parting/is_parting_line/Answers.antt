use Rattle.std.proofs.Common.{◌∙◌, ap, subst}
use Rattle.trace_verify.specs.Parting.{trace_tokens}
use Rattle.unit_tree.specs.Lines.{code_of}
use Rattle.unit_tree.specs.Tokens.{Spells}
use Rattle.trace_verify.proofs.parting.is_parting_line.Goals as goal
use Rattle.text_tokens.specs.Results.{Decides}

pub returns : goal.returns
returns c =
    subst (λ code. Decides c.is_word.result (Spells trace_tokens code)) (c.code.ensures ∙ ap code_of c.without_return.ensures) c.is_word.ensures
