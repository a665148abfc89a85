-- A system that is read from a text can be printed.
use Rattle.std.proofs.Common.{ℕ, List, Result, Ok, Err}
use Rattle.std.specs.Prelude.{IfOk}
use Rattle.unit_tree.specs.Printable.{IsPrintable}
use Rattle.text_laws.proofs.ReadIsPrintable.{read_is_printable}
use Rattle.unit_text.specs.Reading.{AnswersText}
use Rattle.unit_text.specs.declared.fault.TextFault.{TextFault}
use Rattle.unit_text.specs.declared.reading.ReadText.{ReadText}

pub read_printable : (text : List ℕ) (result : Result ReadText TextFault) → AnswersText text result → IfOk result (λ read. IsPrintable read.system)
read_printable text (Ok read) answer = read_is_printable text read.system answer.reads
read_printable text (Err why) answer = tt
