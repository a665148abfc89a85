use Rattle.std.proofs.Common.{refl}
use Rattle.worked_facts.proofs.language.lines_are_worked.Goals as goal

pub returns : goal.returns
returns c = record {
  empty_text = refl;
  blank_lines = refl;
  return_alone = refl;
  two_returns = refl;
  last_end_counted = refl;
  last_end_there = refl;
  code = refl;
  comment_is_blank = refl;
  comment_allows = refl;
  code_forbids = refl;
  tab_allowed = refl;
  delete_forbidden = refl;
}
