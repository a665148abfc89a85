use Rattle.std.proofs.Common.{inl, inr, refl}
use Rattle.save_point.proofs.reading.read_saved.Goals as goal

pub returns-in_default-take_row : goal.returns-in_default-take_row
returns-in_default-take_row c =
    inr (inl (refl, record { rest = c.in-Some.lines.now; begins = (c.in-Some.lines.now, c.in-Some.ensures, refl); lacks = c.in_default-take_row.ensures }))

pub returns-in_default-take_point : goal.returns-in_default-take_point
returns-in_default-take_point c = inr (inr (inl (
  refl,
  record {
    row = c.in-Some-take_row.row;
    rest = c.in-Some-take_row.lines.now;
    begins = (c.in-Some.lines.now, c.in-Some.ensures, (c.in-Some-take_row.lines.now, c.in-Some-take_row.ensures.1, refl));
    row_within = c.in-Some-take_row.ensures.0;
    lacks = c.in_default-take_point.ensures;
  },
)))
