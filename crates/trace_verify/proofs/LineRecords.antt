-- The lines of a trace are the records of its text.
use Rattle.std.proofs.Common.{◌≡◌, ℕ, ◌==◌, ◌||◌, false, List, [], ◌∷◌, ◌++◌, Some, None, refl, sym, ap, ◌∙◌, append_assoc, append-nil, if◌then◌else◌, arith}
use Rattle.std.specs.Prelude.{⊤}
use Rattle.std.specs.List.{AllByRecursion, join_with_byte}
use Rattle.csv.specs.Machine.{next_record, step, in_field, fields_after, field_after, is_end}
use Rattle.csv.specs.Reading.{default_config, strip_bom}
use Rattle.csv.specs.declared.parser.Action.{Action}
use Rattle.csv.specs.declared.parser.Action.TheVariants as act
use Rattle.csv.specs.declared.parser.State.{State}
use Rattle.csv.specs.declared.parser.State.TheVariants as state
use Rattle.std.proofs.lemmas.Bool.{or_parts}
use Rattle.stimulus_tables.specs.Reading.{records_behind}
use Rattle.trace_verify.specs.TraceLines.{IsPlain, IsTraceLine, is_special, line_of, lines_text}
use Rattle.stimulus_tables.specs.Records.{Fields, records_of}
use Rattle.stimulus_tables.proofs.ReadingLaws.{no_record, one_record}

-- ---- Plain bytes

-- A plain byte is not one of the four special ones.
pub record IsNone (byte : ℕ) : Type 0 where
  pub comma : (byte == 44) ≡ false
  pub quote : (byte == 34) ≡ false
  pub return : (byte == 13) ≡ false
  pub feed : (byte == 10) ≡ false

pub none_of_four : (byte : ℕ) → is_special byte ≡ false → IsNone byte
none_of_four byte is =
    let one = or_parts (byte == 44) ((byte == 34) || ((byte == 13) || (byte == 10))) is in
    let two = or_parts (byte == 34) ((byte == 13) || (byte == 10)) one.1 in
    let three = or_parts (byte == 13) (byte == 10) two.1 in
    record { comma = one.0; quote = two.0; return = three.0; feed = three.1 }

-- ---- States

-- A state in which a plain byte continues the present field, and one in which a field of the record has begun.
abbrev IsReady : State → Type 0
IsReady state.StartRecord = ⊤
IsReady state.StartField = ⊤
IsReady state.InField = ⊤
IsReady _ = ⊥

abbrev HasBegun : State → Type 0
HasBegun state.StartField = ⊤
HasBegun state.InField = ⊤
HasBegun _ = ⊥

copies_in : (byte : ℕ) → IsNone byte → in_field default_config byte ≡ (state.InField, act.Copy)
copies_in byte known = rw (known.comma, known.return, known.feed) refl

copies : (at : State) (byte : ℕ) → IsReady at → IsNone byte → step default_config at byte ≡ (state.InField, act.Copy)
copies state.StartRecord byte ready known = rw (known.comma, known.return, known.feed, known.quote) refl
copies state.StartField byte ready known = rw (known.comma, known.return, known.feed, known.quote) refl
copies state.InField byte ready known = copies_in byte known
copies state.InQuoted byte ready known = absurd ready
copies state.InEscape byte ready known = absurd ready
copies state.AfterQuote byte ready known = absurd ready
copies state.InComment byte ready known = absurd ready
copies state.AfterCr byte ready known = absurd ready

parts : (at : State) → IsReady at → step default_config at 44 ≡ (state.StartField, act.EndField)
parts state.StartRecord ready = refl
parts state.StartField ready = refl
parts state.InField ready = refl
parts state.InQuoted ready = absurd ready
parts state.InEscape ready = absurd ready
parts state.AfterQuote ready = absurd ready
parts state.InComment ready = absurd ready
parts state.AfterCr ready = absurd ready

ends_it : (at : State) → HasBegun at → step default_config at 10 ≡ (state.StartRecord, act.EndRecord)
ends_it state.StartRecord begun = absurd begun
ends_it state.StartField begun = refl
ends_it state.InField begun = refl
ends_it state.InQuoted begun = absurd begun
ends_it state.InEscape begun = absurd begun
ends_it state.AfterQuote begun = absurd begun
ends_it state.InComment begun = absurd begun
ends_it state.AfterCr begun = absurd begun

is_ready : (at : State) → HasBegun at → IsReady at
is_ready state.StartRecord begun = tt
is_ready state.StartField begun = tt
is_ready state.InField begun = tt
is_ready state.InQuoted begun = begun
is_ready state.InEscape begun = begun
is_ready state.AfterQuote begun = begun
is_ready state.InComment begun = begun
is_ready state.AfterCr begun = begun

-- ---- Fields

-- The effect of one byte, whose step is known.
one_byte : (at : State) (fields : Fields) (field : List ℕ) (byte : ℕ) (rest : List ℕ) (to : State × Action) → step default_config at byte ≡ to
    → next_record default_config at fields field (byte ∷ rest)
    ≡ (if is_end to.1 then Some (fields_after to.1 fields field, to.0, rest) else next_record default_config to.0 (fields_after to.1 fields field) (field_after to.1 byte field) rest)
unfolding next_record
one_byte at fields field byte rest to is =
    ap (λ (p : State × Action). if is_end p.1 then Some (fields_after p.1 fields field, p.0, rest) else next_record default_config p.0 (fields_after p.1 fields field) (field_after p.1 byte field) rest) is

-- A plain field, and the comma after it.
to_comma : (at : State) (fields : Fields) (field more rest : List ℕ) → IsReady at → IsPlain more
    → next_record default_config at fields field (more ++ (44 ∷ rest)) ≡ next_record default_config state.StartField (fields ++ ((field ++ more) ∷ [])) [] rest
to_comma at fields field [] rest ready plain =
    one_byte at fields field 44 rest (state.StartField, act.EndField) (parts at ready)
    ∙ ap (λ f. next_record default_config state.StartField (fields ++ (f ∷ [])) [] rest) (sym (append-nil field))
to_comma at fields field (byte ∷ more) rest ready plain =
    one_byte at fields field byte (more ++ (44 ∷ rest)) (state.InField, act.Copy) (copies at byte ready (none_of_four byte plain.0))
    ∙ to_comma state.InField fields (field ++ (byte ∷ [])) more rest tt plain.1
    ∙ ap (λ f. next_record default_config state.StartField (fields ++ (f ∷ [])) [] rest) (append_assoc field (byte ∷ []) more)

-- A plain field, and the LF after it.
to_feed : (at : State) (fields : Fields) (field more rest : List ℕ) → HasBegun at → IsPlain more
    → next_record default_config at fields field (more ++ (10 ∷ rest)) ≡ Some (fields ++ ((field ++ more) ∷ []), state.StartRecord, rest)
to_feed at fields field [] rest begun plain =
    one_byte at fields field 10 rest (state.StartRecord, act.EndRecord) (ends_it at begun)
    ∙ ap (λ f. Some (fields ++ (f ∷ []), state.StartRecord, rest)) (sym (append-nil field))
to_feed at fields field (byte ∷ more) rest begun plain =
    one_byte at fields field byte (more ++ (10 ∷ rest)) (state.InField, act.Copy) (copies at byte (is_ready at begun) (none_of_four byte plain.0))
    ∙ to_feed state.InField fields (field ++ (byte ∷ [])) more rest tt plain.1
    ∙ ap (λ f. Some (fields ++ (f ∷ []), state.StartRecord, rest)) (append_assoc field (byte ∷ []) more)

-- ---- Lines

later_fields : (fields : Fields) (first : List ℕ) (others : Fields) (rest : List ℕ) → IsPlain first → AllByRecursion IsPlain others
    → next_record default_config state.StartField fields [] (line_of (first ∷ others) ++ rest) ≡ Some (fields ++ (first ∷ others), state.StartRecord, rest)
later_fields fields first [] rest plain all =
    ap (next_record default_config state.StartField fields []) (append_assoc first (10 ∷ []) rest) ∙ to_feed state.StartField fields [] first rest tt plain
later_fields fields first (second ∷ others) rest plain all =
    ap (λ line. next_record default_config state.StartField fields [] (line ++ rest)) (append_assoc first (44 ∷ join_with_byte 44 (second ∷ others)) (10 ∷ []))
    ∙ ap (next_record default_config state.StartField fields []) (append_assoc first (44 ∷ line_of (second ∷ others)) rest)
    ∙ to_comma state.StartField fields [] first (line_of (second ∷ others) ++ rest) tt plain
    ∙ later_fields (fields ++ (first ∷ [])) second others rest all.0 all.1
    ∙ ap (λ fs. Some (fs, state.StartRecord, rest)) (append_assoc fields (first ∷ []) (second ∷ others))

pub line_is_record : (fields : Fields) (rest : List ℕ) → IsTraceLine fields
    → next_record default_config state.StartRecord [] [] (line_of fields ++ rest) ≡ Some (fields, state.StartRecord, rest)
line_is_record [] rest is = absurd (omega (arith, is.two))
line_is_record (first ∷ []) rest is = absurd (omega (arith, is.two))
line_is_record (first ∷ second ∷ others) rest is =
    ap (λ line. next_record default_config state.StartRecord [] [] (line ++ rest)) (append_assoc first (44 ∷ join_with_byte 44 (second ∷ others)) (10 ∷ []))
    ∙ ap (next_record default_config state.StartRecord [] []) (append_assoc first (44 ∷ line_of (second ∷ others)) rest)
    ∙ to_comma state.StartRecord [] [] first (line_of (second ∷ others) ++ rest) tt is.plain.0
    ∙ later_fields (first ∷ []) second others rest is.plain.1.0 is.plain.1.1

lines_are_records : (lines : List Fields) → AllByRecursion IsTraceLine lines → records_behind state.StartRecord (lines_text lines) ≡ lines
unfolding next_record
lines_are_records [] all = no_record state.StartRecord [] nothing
  where
    nothing : next_record default_config state.StartRecord [] [] [] ≡ None
    nothing = refl
lines_are_records (line ∷ lines) all =
    one_record state.StartRecord (lines_text (line ∷ lines)) (line, state.StartRecord, lines_text lines) tt (line_is_record line (lines_text lines) all.0)
    ∙ ap (λ later. line ∷ later) (lines_are_records lines all.1)

-- A text that does not begin as a byte order mark does.
unmarked : (first : ℕ) (rest : List ℕ) → (first == 239) ≡ false → strip_bom (first ∷ rest) ≡ first ∷ rest
unfolding strip_bom
unmarked first [] is = refl
unmarked first (second ∷ []) is = refl
unmarked first (second ∷ third ∷ rest) is = rw is refl

-- The records of a text of lines of a trace, whose first byte is not that of a mark, are the fields of these lines.
pub lines_read : (first : ℕ) (rest : List ℕ) (lines : List Fields) → (first == 239) ≡ false → first ∷ rest ≡ lines_text lines → AllByRecursion IsTraceLine lines
    → records_of (lines_text lines) ≡ lines
lines_read first rest lines unlike begins all =
    ap (λ text. records_behind state.StartRecord text) (ap strip_bom (sym begins) ∙ unmarked first rest unlike ∙ begins) ∙ lines_are_records lines all
