use Rattle.std.proofs.Common.{◌∙◌, sym, subst}
use Rattle.stimulus_tables.specs.Tables.{IsTaken}
use Rattle.stimulus_tables.specs.TableFields.{IsNextName}
use Rattle.stimulus_tables.proofs.NameLaws.{among_told, next_told, on_ok}
use Rattle.unit_tree.specs.Tokens.{IsName}
use Rattle.stimulus_tables.proofs.names.is_next_name.Goals as goal
use Rattle.stimulus_tables.proofs.names.is_next_name.Goals.{then-is_taken-via-then-is_taken, then-is_taken-via-else-is_taken+then-is_among}
use Rattle.text_tokens.specs.Results.{Decides}

pub returns-then-is_taken : goal.returns-then-is_taken
returns-then-is_taken c next =
    elim c.then-is_taken.branch [
      | then-is_taken-via-then-is_taken w ↦ next.not_taken (subst (λ told. Decides told (IsTaken c.args.name.now)) w.if-is_taken.true c.is_taken.ensures)
      | then-is_taken-via-else-is_taken+then-is_among w ↦ among_told c.args.before.now c.args.name.now (sym w.is_among.ensures ∙ w.if-is_among.true) next.fresh
    ]

pub returns : goal.returns
returns c =
    on_ok c.is_name.result (λ told. Decides told (IsName c.args.name.now)) (λ told. Decides told (IsNextName c.args.before.now c.args.name.now))
    (λ told is. next_told c.args.before.now c.args.name.now told c.if-before-ge-MOST_NAMES.false
    (subst (λ one. Decides one (IsTaken c.args.name.now)) c.if-is_taken.false c.is_taken.ensures) (sym c.is_among.ensures ∙ c.if-is_among.false) is)
    c.is_name.ensures
