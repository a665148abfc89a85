-- Laws of values.
use Rattle.std.proofs.Common.{◌≡◌, ℕ, suc, ◌+◌, ◌<◌, false, ℤ, pos, List, ◌∷◌, length, drop, get_or, ap, sym, subst, ◌∙◌, refl, add-one, arith}
use Rattle.std.proofs.Math.Seq.{drop-cons}
use Rattle.std.specs.Str.{bytes_eq}
use Rattle.unit_tree.specs.Values.{value_of_name, AreTyped}
use Rattle.unit_tree.specs.declared.environment.Variable.{Variable}

-- A variable of another name does not give a name its value.
pub value_of_name-later : (variables : List Variable) (words : List ℤ) (name : List ℕ) (i : ℕ) (variable : Variable) → i < length variables
    → length words ≡ length variables → variable ≡ get_or variables i variable → bytes_eq variable.name name ≡ false
    → value_of_name (drop i variables) (drop i words) name ≡ value_of_name (drop (i + 1) variables) (drop (i + 1) words) name
value_of_name-later variables words name i variable within one_each is other =
    let within_words : i < length words = omega arith in
    let first : drop i variables ≡ variable ∷ drop (suc i) variables = drop-cons variables i variable within ∙ ap (λ v. v ∷ drop (suc i) variables) (sym is) in
    let word : drop i words ≡ get_or words i (pos 0) ∷ drop (suc i) words = drop-cons words i (pos 0) within_words in
    rw (first, word, other, add-one) refl

-- What is true of the types of all variables is true of those after the first.
pub AreTyped-later : (variables : List Variable) (i : ℕ) (variable : Variable) → i < length variables → AreTyped (drop i variables)
    → AreTyped (drop (i + 1) variables)
AreTyped-later variables i variable within typed =
    let opened : AreTyped (get_or variables i variable ∷ drop (suc i) variables) = subst AreTyped (drop-cons variables i variable within) typed in
    rw add-one (opened.1)
