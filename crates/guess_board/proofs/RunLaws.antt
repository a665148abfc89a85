-- The answers that are kept for a chain are their longest run that is a prefix of it.
use Rattle.std.proofs.Common.{◌≡◌, ℕ, zero, suc, ◌≤◌, ◌==◌, Bool, true, false, List, [], ◌∷◌, length, map, take, refl, sym, ap, subst, ◌∙◌, arith}
use Rattle.std.proofs.lemmas.Bool.{and_parts, eqb-true, eq-eqb, and_from}
use Rattle.guess_board.specs.Chains.{common, is_next, is_same_key}
use Rattle.guess_board.specs.Laws.{IsLongestRun, asked}
use Rattle.guess_board.proofs.ChainLaws.{chosen, keys_same, same_keys}
use Rattle.unit_answers.specs.Answers.{Answered}

next_asked : (one other : Answered) → is_next other.row other.key one ≡ true → asked one ≡ asked other
next_asked one other is =
    let parts = and_parts (other.row == one.row) (is_same_key other.key one.key) is in
    let row = sym (eqb-true other.row one.row parts.0) in
    let key = sym (keys_same other.key one.key parts.1) in
    λ i. record { row = row i; key = key i }

asked_next : (one other : Answered) → asked one ≡ asked other → is_next other.row other.key one ≡ true
asked_next one other is =
    and_from (other.row == one.row) (is_same_key other.key one.key) (eq-eqb other.row one.row (sym (ap (λ n. n.row) is)))
    (same_keys other.key one.key (sym (ap (λ n. n.key) is)))

none_kept : (ones others : List Answered) → ((n : ℕ) → suc n ≤ length ones → suc n ≤ length others
    → map asked (take (suc n) ones) ≡ map asked (take (suc n) others) → ⊥) → IsLongestRun ones others []
none_kept ones others apart = record { begins = refl; matches = refl; longest = longest }
  where
    longest : (n : ℕ) → n ≤ length ones → n ≤ length others → map asked (take n ones) ≡ map asked (take n others) → n ≤ 0
    longest zero in_ones in_others same = omega arith
    longest (suc n) in_ones in_others same = absurd (apart n in_ones in_others same)

run_more : (one other : Answered) (ones others run : List Answered) → asked one ≡ asked other → IsLongestRun ones others run
    → IsLongestRun (one ∷ ones) (other ∷ others) (one ∷ run)
run_more one other ones others run same rest = record {
  begins = ap (λ more. one ∷ more) rest.begins;
  matches = λ i. same i ∷ rest.matches i;
  longest = longest;
}
  where
    longest : (n : ℕ) → n ≤ suc (length ones) → n ≤ suc (length others) → map asked (take n (one ∷ ones)) ≡ map asked (take n (other ∷ others))
        → n ≤ suc (length run)
    longest zero in_ones in_others all = omega arith
    longest (suc n) in_ones in_others all =
        let tails : map asked (take n ones) ≡ map asked (take n others) = cc in
        let within = rest.longest n (omega arith) (omega arith) tails in
        omega arith

pub longest_run : (ones others : List Answered) → IsLongestRun ones others (common ones others)
longest_run [] others = none_kept [] others (λ n in_ones in_others same. omega arith)
longest_run (one ∷ ones) [] = none_kept (one ∷ ones) [] (λ n in_ones in_others same. omega arith)
longest_run (one ∷ ones) (other ∷ others) = by (is_next other.row other.key one) refl (longest_run ones others)
  where
    by : (b : Bool) → is_next other.row other.key one ≡ b → IsLongestRun ones others (common ones others)
        → IsLongestRun (one ∷ ones) (other ∷ others) (common (one ∷ ones) (other ∷ others))
    by true is rest =
        subst (IsLongestRun (one ∷ ones) (other ∷ others)) (sym (chosen (one ∷ common ones others) true (is_next other.row other.key one) is))
        (run_more one other ones others (common ones others) (next_asked one other is) rest)
    by false is rest =
        subst (IsLongestRun (one ∷ ones) (other ∷ others)) (sym (chosen (one ∷ common ones others) false (is_next other.row other.key one) is))
        (none_kept (one ∷ ones) (other ∷ others) (λ n in_ones in_others same.
        let heads : asked one ≡ asked other = cc in
        let told : true ≡ false = sym (asked_next one other heads) ∙ is in
        absurd (cc)))
