-- Each line has one form, or none.
use Rattle.text_lines.proofs.FormsOfLines.{form_of, one_form}
use Rattle.unit_text.proofs.TextWalks.{FormsAreKnown}

pub known : FormsAreKnown
known = record { form_of = form_of; one = one_form }
