use Rattle.worked_facts.proofs.WorkedReads as read
use Rattle.worked_facts.proofs.WorkedRefusals as refusal
use Rattle.worked_facts.proofs.texts.texts_are_worked.Goals as goal

pub returns-clause-read : goal.returns-clause-read
returns-clause-read c = record {
  counter_is_read = read.counter_is_read;
  thermal_is_read = read.thermal_is_read;
  mode_is_read = read.mode_is_read;
  long_line_is_read = read.long_line_is_read;
  relay_is_read = read.relay_is_read;
  counter_is_printable = read.counter_is_printable;
  canonical_is_read = read.canonical_is_read;
}

pub returns-clause-refused : goal.returns-clause-refused
returns-clause-refused c = record {
  long_text = refusal.long_text_is;
  empty = refusal.empty_is;
  blank = refusal.blank_is;
  forbidden = refusal.forbidden_is;
  two_returns = refusal.two_returns_are;
  long_line = refusal.long_line_is;
  hello = refusal.hello_is;
  two_ends = refusal.two_ends_are;
  number_word = refusal.number_word_is;
  decimal_header = refusal.decimal_header_is;
  long_word = refusal.long_word_is;
  ten_decimals = refusal.ten_decimals_is;
  above_all_numbers = refusal.above_all_numbers_is;
  bare_point = refusal.bare_point_is;
  later_version = refusal.later_version_is;
  event_of_version_1 = refusal.event_of_version_1_is;
  third_version = refusal.third_version_is;
  stray_end = refusal.stray_end_is;
  second_header = refusal.second_header_is;
  earlier_version = refusal.earlier_version_is;
  no_header = refusal.no_header_is;
  unended = refusal.unended_is;
}
