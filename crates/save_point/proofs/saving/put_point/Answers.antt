use Rattle.list_laws.proofs.Options.{on_ok}
use Rattle.save_point.proofs.PutTexts.{point_put}
use Rattle.save_point.proofs.saving.put_point.Goals as goal

pub returns : goal.returns
returns c =
    on_ok c.put_number-3.result _ _
    (point_put c.args.text.now.items c.put_number.new.text.items c.put_number-2.new.text.items c.put_number-3.new.text.items c.args.row c.args.point
    c.in_ok-put_number.ensures c.in_ok-put_number-2.ensures) c.put_number-3.ensures
