use Rattle.std.proofs.Common.{◌≡◌, ◌∷◌, [], Err, List, subst}
use Rattle.text_tokens.specs.Scanning.{ReadsAs, TokensAre}
use Rattle.unit_tree.specs.declared.token.Token.{Token}
use Rattle.unit_tree.specs.declared.token.Token.TheVariants as token
use Rattle.stimulus_tables.proofs.NameLaws.{name_told, nothing_spelled}
use Rattle.stimulus_tables.proofs.names.is_name.Goals as goal
use Rattle.text_tokens.specs.Results.{Decides}

pub returns-in-Ok : goal.returns-in-Ok
returns-in-Ok c =
    name_told c.in-Ok.tokens c.args.bytes.now c.are_name.result c.in-Ok.ensures
    (subst (λ all. Decides c.are_name.result (all ≡ token.Name c.args.bytes.now ∷ [])) c.as_slice.ensures c.are_name.ensures)

pub returns-in-Err-NoForm : goal.returns-in-Err-NoForm
returns-in-Err-NoForm c =
    nothing_spelled c.args.bytes.now
    (subst (λ unread. ReadsAs {X = List Token} (Err unread) (TokensAre c.args.bytes.now)) c.in-Err-NoForm.field-0-is c.in-Err-NoForm.ensures)
