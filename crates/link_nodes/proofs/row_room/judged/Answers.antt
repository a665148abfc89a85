use Rattle.std.proofs.Common.{◌≡◌, ◌∙◌, ap, subst, sym}
use Rattle.link_nodes.proofs.row_room.judged.Goals as goal
use Rattle.run_laws.proofs.PositionLaws.{system_has_members}
use Rattle.unit_tree.specs.Compositions.{AreMembers, run_of}
use Rattle.unit_tree.specs.Plain.{plain_form}

pub returns : goal.returns
returns c =
    let same : c.args.plan.now.run ≡ run_of c.checked.result.now = c.checked.ensures.run ∙ ap run_of (sym c.checked.ensures.system) in
    record {
      run = c.checked.ensures.run;
      order = c.order.result.now.places;
      is_order = c.order.ensures.places;
      members = subst AreMembers (sym same) (system_has_members (plain_form c.checked.result.now));
      rows = c.columns.ensures.rows;
    }
