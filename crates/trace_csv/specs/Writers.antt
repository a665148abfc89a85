-- What a writer of `csv` holds.
use Rattle.std.specs.Prelude.{◌≡◌, ◌≢◌, ◌-◌, ◌^◌, ℕ, true, min, List, [], ◌++◌, length, Option, Some}
use Rattle.std.specs.List.{join_with_byte}
use Rattle.csv.specs.Writing.{default_writer, with_style, with_flexible, field_text, fields_written, text_written, writer_setup, writer_under}
use Rattle.csv.specs.declared.writer.QuoteStyle.{QuoteStyle}
use Rattle.csv.specs.declared.writer.QuoteStyle.TheVariants as style
use Rattle.csv.specs.declared.writer.Writer.{Writer}
use Rattle.csv.specs.declared.writer.WriterBuilder.{WriterBuilder}

-- A writer that quotes in the style. Its lines may differ in their number of fields.
abbrev pub quoting_in : QuoteStyle → WriterBuilder
quoting_in quoting = with_flexible (with_style default_writer quoting) true

-- In the style the field is written without quotes.
abbrev pub IsBare : QuoteStyle → List ℕ → Type 0
IsBare quoting field = field_text (quoting_in quoting) field ≡ field

-- The writer, which quotes in the style, has written some text. After it comes an open line with these fields, joined by
-- commas.
pub record HasFields {W : Type 0} (contents : W → Option (List ℕ)) (quoting : QuoteStyle) (before : List ℕ) (writer : Writer W)
    (fields : List (List ℕ)) : Type 0 where
  pub setup : writer_setup writer ≡ quoting_in quoting
  pub quotes : quoting ≢ style.NonNumeric
  pub count : fields_written writer ≡ min (length fields) (2 ^ 64 - 1)
  pub text : text_written contents writer ≡ Some (before ++ join_with_byte 44 fields)

-- A writer is between two rows: all that it has written has been flushed to the writer below.
abbrev pub IsBetweenRows : {W : Type 0} → (W → List ℕ) → Writer W → Type 0
IsBetweenRows items writer = HasFields (λ below. Some (items below)) style.Necessary (items (writer_under writer)) writer []
