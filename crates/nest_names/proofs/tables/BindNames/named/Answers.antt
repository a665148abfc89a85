use Rattle.std.proofs.Common.{◌∙◌, ap}
use Rattle.std.specs.Borrow.{Bor}
use Rattle.std.specs.Option.{option_map}
use Rattle.nest_text.specs.declared.nest.Bind.{Bind}
use Rattle.nest_names.proofs.TableLaws.{found_none, found_some}
use Rattle.nest_names.proofs.tables.BindNames.named.Goals as goal

pub returns-in_err-first : goal.returns-in_err-first
returns-in_err-first c =
    ap (option_map (λ (found : Bor Bind). found.now)) c.from_residual.ensures
    ∙ found_none (λ (bind : Bind). bind.port) c.self.inside.binds.now c.args.self.now c.args.port.now c.first.result c.self.view_is
    (c.first.ensures ∙ c.self.invariant.first c.args.port.now) c.in_err-first.was

pub returns : goal.returns
returns c =
    c.at.ensures
    ∙ found_some (λ (bind : Bind). bind.port) c.self.inside.binds.now c.args.self.now c.args.port.now c.first.result c.in_ok-first.field-0
    c.self.view_is (c.first.ensures ∙ c.self.invariant.first c.args.port.now) c.in_ok-first.was
