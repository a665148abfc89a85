-- Facts as bytes, and back.
use Rattle.std.proofs.Common.{◌≡◌, ◌∙◌, ℕ, ◌<◌, ◌^◌, Bool, true, false, ◌&&◌, ℤ, pos, List, length, Option, Some, None, refl, sym, ap, ap₂, arith, w64, rules}
use Rattle.std.proofs.lemmas.Bool.{and_parts}
use Rattle.std.proofs.lemmas.Bool.Decides.{nat_tests}
use Rattle.std.proofs.Math.Facts.{Fits-of_z}
use Rattle.std.proofs.lemmas.Int.{to_z-of_z}
use Rattle.std.proofs.lemmas.Nat.{from_be_bytes-to_be_bytes_4, from_be_bytes-to_be_bytes_8}
use Rattle.std.proofs.lemmas.Slice.Eq.{bytes_eq-Decides}
use Rattle.std.specs.Prelude.{nat_lt, FitsSigned, unsigned_abs, IfSome}
use Rattle.std.specs.Int.{to_be_bytes, from_be_bytes, cast_signed, cast_unsigned}
use Rattle.std.specs.Str.{bytes_eq}
use Rattle.fixed_words.specs.declared.types.Fault.{Fault}
use Rattle.fixed_words.specs.declared.types.Fault.TheVariants.{Overflow, Range, ZeroDivisor, Accept, Max}
use Rattle.link_laws.specs.declared.fact.Asked.TheVariants as asked
use Rattle.link_laws.specs.declared.fact.Fact.{Fact}
use Rattle.link_laws.specs.declared.fact.Fact.TheVariants.{Word, Limit, Reply}
use Rattle.link_laws.specs.declared.fact.Said.TheVariants as said
use Rattle.link_laws.specs.declared.fact.Seen.TheVariants as seen
use Rattle.link_nodes.specs.Decoding.{fault_tagged, fact_told, read, told_if, is_written, decoded}
use Rattle.link_nodes.specs.Wire.{tag_of, fields_of, written, encoding, HasTypes}
use Rattle.link_laws.specs.Lengths.{is_short}
use Rattle.link_nodes.specs.declared.fields.Fields.{Fields}

read_written : (kind row place tag : ℕ) (number : ℤ) → row < 2 ^ 64 → place < 2 ^ 32 → cast_unsigned w64 number < 2 ^ 64
    → cast_signed w64 (cast_unsigned w64 number) ≡ number
    → read (written (record { kind = kind; row = row; place = place; tag = tag; number = number })) ≡ record {
      kind = kind;
      row = row;
      place = place;
      tag = tag;
      number = number;
    }
read_written kind row place tag number row_fits place_fits number_fits back =
    ap₂ (λ r p. record {
      kind = kind;
      row = r;
      place = p;
      tag = tag;
      number = cast_signed w64 (from_be_bytes w64 (to_be_bytes w64 (cast_unsigned w64 number)));
    })
    (from_be_bytes-to_be_bytes_8 row row_fits) (from_be_bytes-to_be_bytes_4 place place_fits)
    ∙ ap (λ n. record { kind = kind; row = row; place = place; tag = tag; number = n })
    (ap (cast_signed w64) (from_be_bytes-to_be_bytes_8 (cast_unsigned w64 number) number_fits) ∙ back)

fault_back : (fault : Fault) → fault_tagged (tag_of fault) ≡ fault
fault_back Overflow = refl
fault_back Range = refl
fault_back ZeroDivisor = refl
fault_back Accept = refl
fault_back Max = refl

word_fault : (row place : ℕ) (fault : Fault) → fact_told (fields_of (Word row place (seen.Fault fault))) ≡ Word row place (seen.Fault fault)
word_fault row place Overflow = refl
word_fault row place Range = refl
word_fault row place ZeroDivisor = refl
word_fault row place Accept = refl
word_fault row place Max = refl

limit_fault : (row place : ℕ) (fault : Fault) → fact_told (fields_of (Limit row place (asked.Fault fault))) ≡ Limit row place (asked.Fault fault)
limit_fault row place Overflow = refl
limit_fault row place Range = refl
limit_fault row place ZeroDivisor = refl
limit_fault row place Accept = refl
limit_fault row place Max = refl

reply_fault : (row place : ℕ) (redo : Bool) (fault : Fault)
    → fact_told (fields_of (Reply row place redo (said.Fault fault))) ≡ Reply row place redo (said.Fault fault)
reply_fault row place true Overflow = refl
reply_fault row place true Range = refl
reply_fault row place true ZeroDivisor = refl
reply_fault row place true Accept = refl
reply_fault row place true Max = refl
reply_fault row place false Overflow = refl
reply_fault row place false Range = refl
reply_fault row place false ZeroDivisor = refl
reply_fault row place false Accept = refl
reply_fault row place false Max = refl

magnitude : (n : ℕ) → unsigned_abs (pos n) ≡ n
magnitude n = omega arith

told_back : (fact : Fact) → fact_told (fields_of fact) ≡ fact
told_back (Word row place (seen.Is word)) = refl
told_back (Word row place (seen.Fault fault)) = word_fault row place fault
told_back (Word row place seen.Undefined) = refl
told_back (Limit row instance asked.Free) = refl
told_back (Limit row instance (asked.Max local)) = ap (λ n. Limit row instance (asked.Max n)) (magnitude local)
told_back (Limit row instance (asked.Fault fault)) = limit_fault row instance fault
told_back (Reply row instance true (said.Accepted accepted)) = ap (λ n. Reply row instance true (said.Accepted n)) (magnitude accepted)
told_back (Reply row instance false (said.Accepted accepted)) = ap (λ n. Reply row instance false (said.Accepted n)) (magnitude accepted)
told_back (Reply row instance redo (said.Fault fault)) = reply_fault row instance redo fault

-- The fields of a fact fit theirs.
record AreFit (f : Fields) : Type 0 where
  row : f.row < 2 ^ 64
  place : f.place < 2 ^ 32
  number : FitsSigned w64 f.number

row_below : (row : ℕ) → nat_lt row 100000 ≡ true → row < 2 ^ 64
row_below row is = grind (arith, nat_tests)

no_number : FitsSigned w64 (pos 0)
no_number = search rules

length_fits : (n : ℕ) → nat_lt n (2 ^ 63) ≡ true → FitsSigned w64 (pos n)
length_fits n is = let small : n < 2 ^ 63 = grind (arith, nat_tests) in search (rules, small)

unsigned_fits : (z : ℤ) → FitsSigned w64 z → cast_unsigned w64 z < 2 ^ 64
unsigned_fits z fits = (Fits-of_z {w = w64} {z = z} fits).fits

signed_back : (z : ℤ) → FitsSigned w64 z → cast_signed w64 (cast_unsigned w64 z) ≡ z
signed_back z fits = to_z-of_z w64 z fits

are_fit : (fact : Fact) → HasTypes fact → is_short fact ≡ true → AreFit (fields_of fact)
are_fit (Word row place (seen.Is word)) types short = record { row = row_below row short; place = types.0; number = types.1 }
are_fit (Word row place (seen.Fault fault)) types short = record { row = row_below row short; place = types; number = no_number }
are_fit (Word row place seen.Undefined) types short = record { row = row_below row short; place = types; number = no_number }
are_fit (Limit row instance asked.Free) types short = record { row = row_below row short; place = types; number = no_number }
are_fit (Limit row instance (asked.Max local)) types short = let both = and_parts (nat_lt row 100000) (nat_lt local (2 ^ 63)) short in
    record { row = row_below row both.0; place = types; number = length_fits local both.1 }
are_fit (Limit row instance (asked.Fault fault)) types short = record { row = row_below row short; place = types; number = no_number }
are_fit (Reply row instance true (said.Accepted accepted)) types short = let both = and_parts (nat_lt row 100000) (nat_lt accepted (2 ^ 63)) short in
    record { row = row_below row both.0; place = types; number = length_fits accepted both.1 }
are_fit (Reply row instance false (said.Accepted accepted)) types short = let both = and_parts (nat_lt row 100000) (nat_lt accepted (2 ^ 63)) short in
    record { row = row_below row both.0; place = types; number = length_fits accepted both.1 }
are_fit (Reply row instance true (said.Fault fault)) types short = record { row = row_below row short; place = types; number = no_number }
are_fit (Reply row instance false (said.Fault fault)) types short = record { row = row_below row short; place = types; number = no_number }

fact_back : (fact : Fact) → HasTypes fact → is_short fact ≡ true → fact_told (read (encoding fact)) ≡ fact
fact_back fact types short =
    let fit = are_fit fact types short in
    let f = fields_of fact in
    ap fact_told (read_written f.kind f.row f.place f.tag f.number fit.row fit.place (unsigned_fits f.number fit.number) (signed_back f.number fit.number))
    ∙ told_back fact

same_bytes : (xs : List ℕ) → bytes_eq xs xs ≡ true
same_bytes xs = grind (arith, bytes_eq-Decides)

pub decodes_back : (fact : Fact) → HasTypes fact → is_short fact ≡ true → decoded (encoding fact) ≡ Some fact
decodes_back fact types short =
    ap (λ told. told_if (is_short told && bytes_eq (encoding fact) (encoding told)) told) (fact_back fact types short)
    ∙ ap₂ (λ fits same. told_if (fits && same) fact) short (same_bytes (encoding fact))

told_is : (test : Bool) (told fact : Fact) → told_if test told ≡ Some fact → (test ≡ true) × (told ≡ fact)
told_is true told fact is = (refl, cc)
told_is false told fact is = absurd (cc)

bytes_are : (xs ys : List ℕ) → bytes_eq xs ys ≡ true → xs ≡ ys
bytes_are xs ys same = grind (arith, bytes_eq-Decides)

-- The fact that is read is encoded by the bytes.
pub record Tells (bytes : List ℕ) (fact : Fact) : Type 0 where
  pub written : bytes ≡ encoding fact
  pub short : is_short fact ≡ true

pub decodes_encodings : (bytes : List ℕ) (fact : Fact) → decoded bytes ≡ Some fact → Tells bytes fact
decodes_encodings bytes fact is =
    let told = fact_told (read bytes) in
    let found = told_is (is_written bytes told) told fact is in
    let both = and_parts (is_short told) (bytes_eq bytes (encoding told)) found.0 in
    record { written = bytes_are bytes (encoding told) both.1 ∙ ap encoding found.1; short = ap is_short (sym found.1) ∙ both.0 }

-- Bytes of another length are no encoding.
pub no_length : (bytes : List ℕ) → (length bytes ≡ 22 → ⊥) → ◌≡◌ {A = Option Fact} None (decoded bytes)
no_length bytes other = by_test (is_written bytes (fact_told (read bytes))) refl
  where
    by_test : (test : Bool) → is_written bytes (fact_told (read bytes)) ≡ test → ◌≡◌ {A = Option Fact} None (told_if test (fact_told (read bytes)))
    by_test false is = refl
    by_test true is =
        let same = bytes_are bytes (encoding (fact_told (read bytes)))
        (and_parts (is_short (fact_told (read bytes))) (bytes_eq bytes (encoding (fact_told (read bytes)))) is).1 in
        absurd (other (ap length same))

pub tells : (bytes : List ℕ) (fields : Fields) (one other : Fact) (test : Bool) (result : Option Fact) → fields ≡ read bytes → one ≡ fact_told fields
    → other ≡ fact_told fields → test ≡ is_written bytes one → result ≡ told_if test other → result ≡ decoded bytes
tells bytes fields one other test result fields_are one_is other_is test_is result_is =
    let fact = ap fact_told fields_are in
    result_is ∙ ap₂ told_if (test_is ∙ ap (is_written bytes) (one_is ∙ fact)) (other_is ∙ fact)

pub told_written : (bytes : List ℕ) (result : Option Fact) → result ≡ decoded bytes → IfSome result (λ fact. bytes ≡ encoding fact)
told_written bytes None is = tt
told_written bytes (Some fact) is = (decodes_encodings bytes fact (sym is)).written

pub told_short : (bytes : List ℕ) (result : Option Fact) → result ≡ decoded bytes → IfSome result (λ fact. is_short fact ≡ true)
told_short bytes None is = tt
told_short bytes (Some fact) is = (decodes_encodings bytes fact (sym is)).short
