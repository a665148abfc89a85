use Rattle.event_csv.proofs.TextLaws.{header_read, line_read, text_read}
use Rattle.event_csv.proofs.laws.trace_texts_are_read.Goals as goal

pub returns : goal.returns
returns c = record { header = header_read; lines = line_read; texts = text_read }
