-- Variables with their words, of a source and of its plain form at once. Each is in both, except the variables `u?`
-- that state whether an event occurs, which are only in the plain form.
use Rattle.std.proofs.Common.{◌≡◌, ℕ, zero, suc, ◌+◌, Bool, true, false, ℤ, List, [], ◌∷◌, take, drop, if◌then◌else◌, Result, Ok, Err, refl, sym, ap, ◌∙◌}
use Rattle.std.proofs.Common.{subst}
use Rattle.std.proofs.lemmas.List.{drop-take}
use Rattle.std.specs.Prelude.{cond, ⊤}
use Rattle.std.specs.Str.{bytes_eq}
use Rattle.fixed_words.specs.Types.{is_word_of, kind_of}
use Rattle.fixed_words.specs.declared.types.Fault.{Fault}
use Rattle.fixed_words.specs.declared.types.Fault.TheVariants.{Range}
use Rattle.fixed_words.specs.declared.types.Ty.TheVariants as types
use Rattle.unit_tree.specs.Components.{variable}
use Rattle.unit_tree.specs.Effects.{stored}
use Rattle.unit_tree.specs.Plain.{presence_name}
use Rattle.unit_tree.specs.Values.{◌>>=◌, value_of_name}
use Rattle.unit_tree.specs.declared.environment.Value.{Value}
use Rattle.unit_tree.specs.declared.environment.Variable.{Variable}
use Rattle.language_laws.proofs.NameLaws.{same_bytes}
use Rattle.language_laws.proofs.PlainNames.{IsPlain}

pub data Slot : Type 0 where
  Same : Variable → ℤ → Slot
  Tells : List ℕ → ℤ → Slot

abbrev pub source_variables : List Slot → List Variable
source_variables [] = []
source_variables (Same one word ∷ slots) = one ∷ source_variables slots
source_variables (Tells name word ∷ slots) = source_variables slots

abbrev pub source_words : List Slot → List ℤ
source_words [] = []
source_words (Same one word ∷ slots) = word ∷ source_words slots
source_words (Tells name word ∷ slots) = source_words slots

abbrev pub plain_variables : List Slot → List Variable
plain_variables [] = []
plain_variables (Same one word ∷ slots) = one ∷ plain_variables slots
plain_variables (Tells name word ∷ slots) = variable (presence_name name) types.Bool ∷ plain_variables slots

abbrev pub words_beside : List Slot → List ℤ
words_beside [] = []
words_beside (Same one word ∷ slots) = word ∷ words_beside slots
words_beside (Tells name word ∷ slots) = word ∷ words_beside slots

abbrev pub plain_value : List Slot → List ℕ → Value
plain_value slots name = value_of_name (plain_variables slots) (words_beside slots) name

-- ---- Names

pub other_bytes_by : (told : Bool) (one other : List ℕ) → bytes_eq one other ≡ told → (one ≡ other → ⊥) → told ≡ false
other_bytes_by true one other is differ = absurd (differ (same_bytes one other is))
other_bytes_by false one other is differ = refl

pub other_bytes : (one other : List ℕ) → (one ≡ other → ⊥) → bytes_eq one other ≡ false
other_bytes one other differ = other_bytes_by (bytes_eq one other) one other refl differ

-- A plain name has the same value in both.
pub value_same : (slots : List Slot) (name : List ℕ) → IsPlain name → plain_value slots name ≡ value_of_name (source_variables slots) (source_words slots) name
value_same [] name plain = refl
value_same (Same one word ∷ slots) name plain =
    ap (λ later. if bytes_eq one.name name then record { kind = kind_of one.ty; word = word } else later) (value_same slots name plain)
value_same (Tells event word ∷ slots) name plain =
    let other : bytes_eq (presence_name event) name ≡ false = other_bytes (presence_name event) name (λ is. plain event (sym is)) in
    ap (λ told. if told then record { kind = kind_of types.Bool; word = word } else plain_value slots name) other
    ∙ value_same slots name plain

-- ---- Words that are stored

abbrev pub Slots : Type 0
Slots = Result (List Slot) Fault

abbrev pub behind : Slot → Slots → Slots
behind first slots = slots >>= λ after. Ok (first ∷ after)

abbrev pub put : List Slot → List ℕ → ℤ → Slots
put [] name word = Ok []
put (Same one old ∷ slots) name word =
    if bytes_eq one.name name then (if is_word_of one.ty word then Ok (Same one word ∷ slots) else Err Range) else behind (Same one old) (put slots name word)
put (Tells event old ∷ slots) name word = behind (Tells event old) (put slots name word)

abbrev pub in_source : Slots → Result (List ℤ) Fault
in_source slots = slots >>= λ after. Ok (source_words after)

abbrev pub in_plain : Slots → Result (List ℤ) Fault
in_plain slots = slots >>= λ after. Ok (words_beside after)

abbrev pub longer : ℤ → Result (List ℤ) Fault → Result (List ℤ) Fault
longer old words = words >>= λ changed. Ok (old ∷ changed)

pub source_behind : (one : Variable) (old : ℤ) (slots : Slots) → longer old (in_source slots) ≡ in_source (behind (Same one old) slots)
source_behind one old (Ok after) = refl
source_behind one old (Err fault) = refl

pub source_told : (event : List ℕ) (old : ℤ) (slots : Slots) → in_source slots ≡ in_source (behind (Tells event old) slots)
source_told event old (Ok after) = refl
source_told event old (Err fault) = refl

pub plain_behind : (one : Variable) (old : ℤ) (slots : Slots) → longer old (in_plain slots) ≡ in_plain (behind (Same one old) slots)
plain_behind one old (Ok after) = refl
plain_behind one old (Err fault) = refl

pub plain_told : (event : List ℕ) (old : ℤ) (slots : Slots) → longer old (in_plain slots) ≡ in_plain (behind (Tells event old) slots)
plain_told event old (Ok after) = refl
plain_told event old (Err fault) = refl

pub source_by : (named fits : Bool) (one : Variable) (old word : ℤ) (slots : List Slot) (name : List ℕ)
    → stored (source_variables slots) (source_words slots) name word ≡ in_source (put slots name word)
    → cond named (cond fits (Ok (word ∷ source_words slots)) (Err Range)) (longer old (stored (source_variables slots) (source_words slots) name word))
    ≡ in_source (cond named (cond fits (Ok (Same one word ∷ slots)) (Err Range)) (behind (Same one old) (put slots name word)))
source_by true true one old word slots name later = refl
source_by true false one old word slots name later = refl
source_by false fits one old word slots name later = ap (longer old) later ∙ source_behind one old (put slots name word)

pub stored_source : (slots : List Slot) (name : List ℕ) (word : ℤ)
    → stored (source_variables slots) (source_words slots) name word ≡ in_source (put slots name word)
stored_source [] name word = refl
stored_source (Same one old ∷ slots) name word =
    source_by (bytes_eq one.name name) (is_word_of one.ty word) one old word slots name (stored_source slots name word)
stored_source (Tells event old ∷ slots) name word = stored_source slots name word ∙ source_told event old (put slots name word)

pub plain_by : (named fits : Bool) (one : Variable) (old word : ℤ) (slots : List Slot) (name : List ℕ)
    → stored (plain_variables slots) (words_beside slots) name word ≡ in_plain (put slots name word)
    → cond named (cond fits (Ok (word ∷ words_beside slots)) (Err Range)) (longer old (stored (plain_variables slots) (words_beside slots) name word))
    ≡ in_plain (cond named (cond fits (Ok (Same one word ∷ slots)) (Err Range)) (behind (Same one old) (put slots name word)))
plain_by true true one old word slots name later = refl
plain_by true false one old word slots name later = refl
plain_by false fits one old word slots name later = ap (longer old) later ∙ plain_behind one old (put slots name word)

pub stored_plain : (slots : List Slot) (name : List ℕ) (word : ℤ) → IsPlain name
    → stored (plain_variables slots) (words_beside slots) name word ≡ in_plain (put slots name word)
stored_plain [] name word plain = refl
stored_plain (Same one old ∷ slots) name word plain =
    plain_by (bytes_eq one.name name) (is_word_of one.ty word) one old word slots name (stored_plain slots name word plain)
stored_plain (Tells event old ∷ slots) name word plain =
    let other : bytes_eq (presence_name event) name ≡ false = other_bytes (presence_name event) name (λ is. plain event (sym is)) in
    ap (λ told. cond told (cond (is_word_of types.Bool word) (Ok (word ∷ words_beside slots)) (Err Range))
    (longer old (stored (plain_variables slots) (words_beside slots) name word))) other
    ∙ ap (longer old) (stored_plain slots name word plain)
    ∙ plain_told event old (put slots name word)

-- ---- What stays when a word is stored

-- The first slots, of this number, are in both.
abbrev pub Fronts : ℕ → List Slot → Type 0
Fronts zero slots = ⊤
Fronts (suc count) [] = ⊤
Fronts (suc count) (Same one word ∷ slots) = Fronts count slots
Fronts (suc count) (Tells name word ∷ slots) = ⊥

pub record Stays (slots after : List Slot) : Type 0 where
  pub source : source_variables after ≡ source_variables slots
  pub plain : plain_variables after ≡ plain_variables slots
  pub tells : (event : List ℕ) → plain_value after (presence_name event) ≡ plain_value slots (presence_name event)
  pub fronts : (count : ℕ) → Fronts count slots → Fronts count after

abbrev pub OkStays : List Slot → Slots → Type 0
OkStays slots (Ok after) = Stays slots after
OkStays slots (Err fault) = ⊤

pub stays_same : (one : Variable) (old : ℤ) (slots after : List Slot) → Stays slots after → Stays (Same one old ∷ slots) (Same one old ∷ after)
stays_same one old slots after stays = record {
  source = ap (λ variables. one ∷ variables) stays.source;
  plain = ap (λ variables. one ∷ variables) stays.plain;
  tells = λ event. ap (λ later. if bytes_eq one.name (presence_name event) then record { kind = kind_of one.ty; word = old } else later) (stays.tells event);
  fronts = fronts_by;
}
  where
    fronts_by : (count : ℕ) → Fronts count (Same one old ∷ slots) → Fronts count (Same one old ∷ after)
    fronts_by zero fronts = tt
    fronts_by (suc count) fronts = stays.fronts count fronts

pub stays_told : (name : List ℕ) (old : ℤ) (slots after : List Slot) → Stays slots after → Stays (Tells name old ∷ slots) (Tells name old ∷ after)
stays_told name old slots after stays = record {
  source = stays.source;
  plain = ap (λ variables. variable (presence_name name) types.Bool ∷ variables) stays.plain;
  tells = λ event. ap (λ later. if bytes_eq (presence_name name) (presence_name event) then record { kind = kind_of types.Bool; word = old } else later)
      (stays.tells event);
  fronts = fronts_by;
}
  where
    fronts_by : (count : ℕ) → Fronts count (Tells name old ∷ slots) → Fronts count (Tells name old ∷ after)
    fronts_by zero fronts = tt
    fronts_by (suc count) fronts = absurd fronts

pub stays_behind : (one : Variable) (old : ℤ) (slots : List Slot) (changed : Slots) → OkStays slots changed
    → OkStays (Same one old ∷ slots) (behind (Same one old) changed)
stays_behind one old slots (Ok after) stays = stays_same one old slots after stays
stays_behind one old slots (Err fault) stays = tt

pub stays_behind_told : (name : List ℕ) (old : ℤ) (slots : List Slot) (changed : Slots) → OkStays slots changed
    → OkStays (Tells name old ∷ slots) (behind (Tells name old) changed)
stays_behind_told name old slots (Ok after) stays = stays_told name old slots after stays
stays_behind_told name old slots (Err fault) stays = tt

pub stays_put : (one : Variable) (old word : ℤ) (slots : List Slot) → IsPlain one.name → Stays (Same one old ∷ slots) (Same one word ∷ slots)
stays_put one old word slots plain = record {
  source = refl;
  plain = refl;
  tells = λ event. ap (λ told. if told then record { kind = kind_of one.ty; word = word } else plain_value slots (presence_name event))
      (other_bytes one.name (presence_name event) (λ is. plain event is))
      ∙ sym (ap (λ told. if told then record { kind = kind_of one.ty; word = old } else plain_value slots (presence_name event))
      (other_bytes one.name (presence_name event) (λ is. plain event is)));
  fronts = fronts_by;
}
  where
    fronts_by : (count : ℕ) → Fronts count (Same one old ∷ slots) → Fronts count (Same one word ∷ slots)
    fronts_by zero fronts = tt
    fronts_by (suc count) fronts = fronts

pub put_by : (named fits : Bool) (one : Variable) (old word : ℤ) (slots : List Slot) (name : List ℕ) → IsPlain name → bytes_eq one.name name ≡ named
    → OkStays slots (put slots name word)
    → OkStays (Same one old ∷ slots) (cond named (cond fits (Ok (Same one word ∷ slots)) (Err Range)) (behind (Same one old) (put slots name word)))
put_by true true one old word slots name plain is later = stays_put one old word slots (subst IsPlain (sym (same_bytes one.name name is)) plain)
put_by true false one old word slots name plain is later = tt
put_by false fits one old word slots name plain is later = stays_behind one old slots (put slots name word) later

pub put_stays : (slots : List Slot) (name : List ℕ) (word : ℤ) → IsPlain name → OkStays slots (put slots name word)
put_stays [] name word plain = record { source = refl; plain = refl; tells = λ event. refl; fronts = λ count fronts. fronts }
put_stays (Same one old ∷ slots) name word plain =
    put_by (bytes_eq one.name name) (is_word_of one.ty word) one old word slots name plain refl (put_stays slots name word plain)
put_stays (Tells event old ∷ slots) name word plain = stays_behind_told event old slots (put slots name word) (put_stays slots name word plain)

-- The first words are the same in both.
pub same_take : (count : ℕ) (slots : List Slot) → Fronts count slots → take count (words_beside slots) ≡ take count (source_words slots)
same_take zero slots fronts = refl
same_take (suc count) [] fronts = refl
same_take (suc count) (Same one word ∷ slots) fronts = ap (λ words. word ∷ words) (same_take count slots fronts)
same_take (suc count) (Tells name word ∷ slots) fronts = absurd fronts

pub same_front : (first count : ℕ) (slots : List Slot) → Fronts (first + count) slots
    → take count (drop first (words_beside slots)) ≡ take count (drop first (source_words slots))
same_front first count slots fronts =
    sym (drop-take first count (words_beside slots))
    ∙ ap (drop first) (same_take (first + count) slots fronts)
    ∙ drop-take first count (source_words slots)
