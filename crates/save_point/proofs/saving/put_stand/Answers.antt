use Rattle.std.proofs.Common.{◌∙◌, ◌++◌, List, ap, length, map}
use Rattle.list_laws.proofs.Options.{on_ok}
use Rattle.save_point.specs.SavedTexts.{ended, state_line, states_of}
use Rattle.save_point.proofs.PutTexts.{instances_there, stand_put}
use Rattle.unit_tree.specs.declared.system.Instance.{Instance}
use Rattle.save_point.proofs.saving.put_stand.Goals as goal

pub put_states-requires : goal.put_states-requires
put_states-requires c =
    ap (λ (all : List Instance). length all) c.as_slice.ensures
    ∙ instances_there c.args.plan.now c.checked-2.result.now c.source-system.result.now c.args.run.now c.checked.ensures.run c.checked-2.ensures.system
    c.system.ensures.ranged c.system.ensures.well_formed (c.source-system.ensures ∙ c.checked.ensures.system) c.requires

pub returns : goal.returns
returns c =
    on_ok c.print_system.result _ _
    (stand_put c.args.plan.now c.source-system.result.now c.args.run.now c.args.text.now.items c.put_point.new.text.items c.put_states.new.text.items
    c.print_system.new.out.items c.number.result c.point.result (c.source-system.ensures ∙ c.checked.ensures.system) c.number.ensures c.point.ensures
    c.in_ok-put_point.ensures
    (c.in_ok-put_states.ensures
    ∙ ap (λ (all : List Instance). c.put_point.new.text.items ++ ended (map state_line (states_of all c.args.run.now.stand.at.states))) c.as_slice.ensures))
    c.print_system.ensures.ok
