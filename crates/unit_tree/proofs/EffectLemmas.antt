-- Laws of effects.
use Rattle.std.proofs.Common.{append_assoc, ◌≡◌, ℕ, suc, ◌+◌, ◌-◌, ◌<◌, true, false, ℤ, pos, List, [], ◌∷◌, ◌++◌, length, take, drop, get_or, set, ap, sym, ◌∙◌}
use Rattle.std.proofs.Common.{refl, add-one, arith, Result, Ok, Err}
use Rattle.std.proofs.Math.Seq.{drop-cons, take-suc}
use Rattle.std.proofs.lemmas.List.{set_split}
use Rattle.std.specs.Str.{bytes_eq}
use Rattle.fixed_words.specs.Types.{is_word_of}
use Rattle.fixed_words.specs.declared.types.Fault.{Fault}
use Rattle.fixed_words.specs.declared.types.Fault.TheVariants.{Range}
use Rattle.unit_tree.specs.Values.{◌>>=◌}
use Rattle.unit_tree.specs.Effects.{Effect, stored, times}
use Rattle.unit_tree.specs.declared.environment.Environment.{Environment}
use Rattle.unit_tree.specs.declared.environment.Variable.{Variable}

-- Words after other words, where there was no fault.
abbrev pub behind : List ℤ → Result (List ℤ) Fault → Result (List ℤ) Fault
behind front changed = changed >>= λ words. Ok (front ++ words)

behind-front : (front : List ℤ) (old : ℤ) (changed : Result (List ℤ) Fault)
    → behind front (changed >>= λ words. Ok (old ∷ words)) ≡ behind (front ++ (old ∷ [])) changed
behind-front front old (Ok words) = ap (λ all. Ok all) (sym (append_assoc front (old ∷ []) words))
behind-front front old (Err fault) = refl

-- A variable of another name keeps its word.
pub stored-later : (variables : List Variable) (words : List ℤ) (name : List ℕ) (word : ℤ) (i : ℕ) (variable : Variable) → i < length variables
    → length words ≡ length variables → variable ≡ get_or variables i variable → bytes_eq variable.name name ≡ false
    → behind (take i words) (stored (drop i variables) (drop i words) name word)
    ≡ behind (take (i + 1) words) (stored (drop (i + 1) variables) (drop (i + 1) words) name word)
stored-later variables words name word i variable within one_each is other =
    let within_words : i < length words = omega arith in
    let first : drop i variables ≡ variable ∷ drop (suc i) variables = drop-cons variables i variable within ∙ ap (λ v. v ∷ drop (suc i) variables) (sym is) in
    let old : drop i words ≡ get_or words i (pos 0) ∷ drop (suc i) words = drop-cons words i (pos 0) within_words in
    let longer : take (suc i) words ≡ take i words ++ (get_or words i (pos 0) ∷ []) = take-suc words i (pos 0) within_words in
    rw (first, old, other, add-one, longer)
    (behind-front (take i words) (get_or words i (pos 0)) (stored (drop (suc i) variables) (drop (suc i) words) name word))

-- The first variable of the name gets the word, where it is one of its type.
pub stored-here : (variables : List Variable) (words : List ℤ) (name : List ℕ) (word : ℤ) (i : ℕ) (variable : Variable) → i < length variables
    → length words ≡ length variables → variable ≡ get_or variables i variable → bytes_eq variable.name name ≡ true → is_word_of variable.ty word ≡ true
    → behind (take i words) (stored (drop i variables) (drop i words) name word) ≡ Ok (set words i word)
stored-here variables words name word i variable within one_each is same fits =
    let within_words : i < length words = omega arith in
    let first : drop i variables ≡ variable ∷ drop (suc i) variables = drop-cons variables i variable within ∙ ap (λ v. v ∷ drop (suc i) variables) (sym is) in
    let old : drop i words ≡ get_or words i (pos 0) ∷ drop (suc i) words = drop-cons words i (pos 0) within_words in
    rw (first, old, same, fits) (ap (λ all. Ok all) (sym (set_split words i word within_words)))

-- The first variable of the name gets only words of its type.
pub stored-refused : (variables : List Variable) (words : List ℤ) (name : List ℕ) (word : ℤ) (i : ℕ) (variable : Variable) → i < length variables
    → length words ≡ length variables → variable ≡ get_or variables i variable → bytes_eq variable.name name ≡ true → is_word_of variable.ty word ≡ false
    → behind (take i words) (stored (drop i variables) (drop i words) name word) ≡ Err Range
stored-refused variables words name word i variable within one_each is same outside =
    let within_words : i < length words = omega arith in
    let first : drop i variables ≡ variable ∷ drop (suc i) variables = drop-cons variables i variable within ∙ ap (λ v. v ∷ drop (suc i) variables) (sym is) in
    let old : drop i words ≡ get_or words i (pos 0) ∷ drop (suc i) words = drop-cons words i (pos 0) within_words in
    rw (first, old, same, outside) refl

-- One of the repetitions that are left is done now.
pub times_next : (count done : ℕ) (effect : Effect) (env : Environment) → done < count
    → times (count - done) effect env ≡ (effect env >>= times (count - (done + 1)) effect)
times_next count done effect env more =
    let left : count - done ≡ suc (count - (done + 1)) = omega arith in
    rw left refl
