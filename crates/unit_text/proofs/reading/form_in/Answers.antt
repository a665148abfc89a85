use Rattle.std.proofs.Common.{inr}
use Rattle.unit_text.proofs.reading.form_in.Goals as goal

pub returns-else-is_form_of : goal.returns-else-is_form_of
returns-else-is_form_of c =
    inr (record { some = c.in_ok-form.form; has_form = c.in_ok-form.ensures; of_other = c.is_form_of.ensures.fails c.if-is_form_of.false })
