-- How bytes are decoded: they are read, valid or not, written again, and compared. No promise depends on this.
use Rattle.std.specs.Prelude.{ℕ, ◌==◌, ◌^◌, ◌<◌, Bool, true, false, ◌&&◌, ℤ, unsigned_abs, List, take, drop, slice_index_or, if◌then◌else◌, Option}
use Rattle.std.specs.Prelude.{Some, None, ⊤}
use Rattle.std.specs.Int.{w32, w64, from_be_bytes, cast_signed}
use Rattle.std.specs.Str.{bytes_eq}
use Rattle.fixed_words.specs.declared.types.Fault.{Fault}
use Rattle.fixed_words.specs.declared.types.Fault.TheVariants.{Overflow, Range, ZeroDivisor, Accept, Max}
use Rattle.link_laws.specs.declared.fact.Asked.{Asked}
use Rattle.link_laws.specs.declared.fact.Asked.TheVariants as asked
use Rattle.link_laws.specs.declared.fact.Fact.{Fact}
use Rattle.link_laws.specs.declared.fact.Fact.TheVariants.{Word, Limit, Reply}
use Rattle.link_laws.specs.declared.fact.Said.{Said}
use Rattle.link_laws.specs.declared.fact.Said.TheVariants as said
use Rattle.link_laws.specs.declared.fact.Seen.{Seen}
use Rattle.link_laws.specs.declared.fact.Seen.TheVariants as seen
use Rattle.link_laws.specs.Lengths.{is_short}
use Rattle.link_nodes.specs.Wire.{encoding}
use Rattle.link_nodes.specs.declared.fields.Fields.{Fields}

-- The fact of any fields, read without a test.
abbrev pub fault_tagged : ℕ → Fault
fault_tagged tag = if tag == 1 then Overflow else (if tag == 2 then Range else (if tag == 3 then ZeroDivisor else (if tag == 4 then Accept else Max)))

abbrev pub seen_told : ℕ → ℤ → Seen
seen_told tag number = if tag == 0 then seen.Is number else (if tag == 6 then seen.Undefined else seen.Fault (fault_tagged tag))

abbrev pub asked_told : ℕ → ℤ → Asked
asked_told tag number = if tag == 0 then asked.Max (unsigned_abs number) else (if tag == 7 then asked.Free else asked.Fault (fault_tagged tag))

abbrev pub said_told : ℕ → ℤ → Said
said_told tag number = if tag == 0 then said.Accepted (unsigned_abs number) else said.Fault (fault_tagged tag)

abbrev pub fact_told : Fields → Fact
fact_told f =
    if f.kind == 1 then Word f.row f.place (seen_told f.tag f.number)
    else (if f.kind == 2 then Limit f.row f.place (asked_told f.tag f.number)
    else (if f.kind == 3 then Reply f.row f.place false (said_told f.tag f.number)
    else Reply f.row f.place true (said_told f.tag f.number)))

abbrev pub read : List ℕ → Fields
read bytes = record {
  kind = slice_index_or bytes 0 0;
  row = from_be_bytes w64 (take 8 (drop 1 bytes));
  place = from_be_bytes w32 (take 4 (drop 9 bytes));
  tag = slice_index_or bytes 13 0;
  number = cast_signed w64 (from_be_bytes w64 (take 8 (drop 14 bytes)));
}

-- The lengths of a fact are words.
abbrev pub HasLengths : Fact → Type 0
HasLengths (Limit row instance (asked.Max local)) = local < 2 ^ 63
HasLengths (Reply row instance redo (said.Accepted accepted)) = accepted < 2 ^ 63
HasLengths _ = ⊤

abbrev pub told_if : Bool → Fact → Option Fact
told_if true fact = Some fact
told_if false fact = None

-- The bytes are those of the fact.
abbrev pub is_written : List ℕ → Fact → Bool
is_written bytes fact = is_short fact && bytes_eq bytes (encoding fact)

abbrev pub decoded : List ℕ → Option Fact
decoded bytes = told_if (is_written bytes (fact_told (read bytes))) (fact_told (read bytes))
