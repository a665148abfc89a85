-- The texts of words need no quotes: all their bytes are the minus sign or greater, and the bytes that need quotes are less.
use Rattle.std.proofs.Common.{◌≡◌, ◌≤◌, ◌<◌, ◌^◌, ◌∷◌, [], ℕ, ℤ, List, Bool, false, refl, ap, cond, arith}
use Rattle.std.proofs.Common.{unsigned_abs}
use Rattle.std.proofs.lemmas.Bool.{ne_eqb}
use Rattle.std.specs.Fmt.{decimal, signed_decimal}
use Rattle.csv.specs.declared.writer.QuoteStyle.TheVariants as style
use Rattle.csv.specs.Writing.{needs_quotes, needs_byte, quoted}
use Rattle.fixed_words.specs.Texts.{fixed_text, text_of}
use Rattle.fixed_words.specs.declared.types.Ty.{Ty}
use Rattle.fixed_words.specs.declared.types.Ty.TheVariants as types
use Rattle.trace_csv.proofs.HighTexts.{AreHigh, high_decimal, high_fixed, high_word}
use Rattle.trace_csv.specs.Writers.{IsBare, quoting_in}

-- ---- High bytes

byte_bare : (byte : ℕ) → 45 ≤ byte → needs_byte (quoting_in style.Necessary) byte ≡ false
byte_bare byte high =
    rw (
      ne_eqb byte 44 (λ e. omega (arith, e)),
      ne_eqb byte 34 (λ e. omega (arith, e)),
      ne_eqb byte 13 (λ e. omega (arith, e)),
      ne_eqb byte 10 (λ e. omega (arith, e)),
    ) refl

all_bare : (bytes : List ℕ) → AreHigh bytes → needs_quotes (quoting_in style.Necessary) bytes ≡ false
all_bare [] high = refl
all_bare (byte ∷ bytes) high = rw (byte_bare byte high.0, all_bare bytes high.1) refl

is_bare : (bytes : List ℕ) → AreHigh bytes → IsBare style.Necessary bytes
is_bare bytes high = ap (λ needs. cond needs (quoted (quoting_in style.Necessary) bytes) bytes) (all_bare bytes high)

-- ---- What a row has

pub word_bare : (ty : Ty) (word : ℤ) → unsigned_abs word < 2 ^ 64 → IsBare style.Necessary (text_of ty word)
word_bare ty word fits = is_bare (text_of ty word) (high_word ty word)

pub time_bare : (resolution ticks : ℕ) → ticks < 2 ^ 64 → IsBare style.Necessary (fixed_text resolution ticks)
time_bare resolution ticks fits = is_bare (fixed_text resolution ticks) (high_fixed resolution ticks)

pub index_bare : (index : ℕ) → index < 2 ^ 64 → IsBare style.Necessary (decimal index)
index_bare index fits = is_bare (decimal index) (high_decimal index)

pub nothing_bare : IsBare style.Necessary []
nothing_bare = refl

pub integer_text : (ty : Ty) (word : ℤ) → (ty ≡ types.Bool → ⊥) → ((decimals : ℕ) → ty ≡ types.Fixed decimals → ⊥) → text_of ty word ≡ signed_decimal word
integer_text types.Bool word not_bool not_fixed = absurd (not_bool refl)
integer_text (types.Fixed decimals) word not_bool not_fixed = absurd (not_fixed decimals refl)
integer_text types.Int8 word not_bool not_fixed = refl
integer_text types.UInt8 word not_bool not_fixed = refl
integer_text types.Int16 word not_bool not_fixed = refl
integer_text types.UInt16 word not_bool not_fixed = refl
integer_text types.Int32 word not_bool not_fixed = refl
integer_text types.UInt32 word not_bool not_fixed = refl
integer_text types.Int64 word not_bool not_fixed = refl
