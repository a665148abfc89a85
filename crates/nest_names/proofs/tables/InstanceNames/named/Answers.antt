use Rattle.std.proofs.Common.{◌∙◌, ap}
use Rattle.std.specs.Borrow.{Bor}
use Rattle.std.specs.Option.{option_map}
use Rattle.unit_tree.specs.declared.system.Instance.{Instance}
use Rattle.nest_names.proofs.TableLaws.{found_none, found_some}
use Rattle.nest_names.proofs.tables.InstanceNames.named.Goals as goal

pub returns-in_err-first : goal.returns-in_err-first
returns-in_err-first c =
    ap (option_map (λ (found : Bor Instance). found.now)) c.from_residual.ensures
    ∙ found_none (λ (instance : Instance). instance.name) c.self.inside.instances.now c.args.self.now c.args.name.now c.first.result c.self.view_is
    (c.first.ensures ∙ c.self.invariant.first c.args.name.now) c.in_err-first.was

pub returns : goal.returns
returns c =
    c.at.ensures
    ∙ found_some (λ (instance : Instance). instance.name) c.self.inside.instances.now c.args.self.now c.args.name.now c.first.result c.in_ok-first.field-0
    c.self.view_is (c.first.ensures ∙ c.self.invariant.first c.args.name.now) c.in_ok-first.was
