-- Options in another order.
use Rattle.std.proofs.Common.{◌≡◌, ℕ, ◌+◌, List, [], ◌∷◌, map, Option, Some, None, refl, sym, ap, ◌∙◌, zero-add, arith}
use Rattle.std.specs.Prelude.{⊤, IsPermutation}
use Rattle.std.specs.List.{cons_option, filter, filter_map, sum_by}
use Rattle.std.specs.Option.{option_map}
use Rattle.std.proofs.lemmas.List.Sorted.{sum_by-IsPermutation}
use Rattle.std.proofs.lemmas.List.Sums.{sum_by-cons}
use Rattle.command_line.specs.Laws.{OptionsHaveNoOrder}
use Rattle.command_line.specs.Options.{◌>>=◌, at_most_one, given_of, guess_in, instances_in, is_report, rounds_in, row_in, rows_in, seed_in, window_in}
use Rattle.command_line.specs.Options.{workers_in}
use Rattle.guess_board.specs.declared.guesses.Policy.{Policy}
use Rattle.guess_board.specs.declared.guesses.Policy.TheVariants.{Hold, Linear}
use Rattle.command_line.specs.declared.options.CommandOption.{CommandOption}
use Rattle.command_line.specs.declared.options.CommandOption.TheVariants.{Report}
use Rattle.command_line.proofs.OptionLaws.{each, ones, ones_of}

-- A number for a value, where there is one.
abbrev weigh : {A : Type 0} → (A → ℕ) → Option A → ℕ
weigh g None = 0
weigh g (Some value) = g value

weighed_first : {A : Type 0} (g : A → ℕ) (first : Option A) (xs : List A) (total : ℕ) → sum_by g xs ≡ total
    → sum_by g (cons_option first xs) ≡ weigh g first + total
weighed_first g None xs total is = is ∙ sym (zero-add total)
weighed_first g (Some value) xs total is = sum_by-cons g value xs ∙ ap (λ n. g value + n) is

weighed : {A : Type 0} (g : A → ℕ) (kind : CommandOption → Option A) (options : List CommandOption)
    → sum_by g (filter_map kind options) ≡ sum_by (λ s. weigh g (kind s)) options
weighed g kind [] = refl
weighed g kind (first ∷ rest) =
    weighed_first g (kind first) (filter_map kind rest) (sum_by (λ s. weigh g (kind s)) rest) (weighed g kind rest)
    ∙ sym (sum_by-cons (λ s. weigh g (kind s)) first rest)

most_same : {A : Type 0} (g : A → ℕ) → ((a b : A) → g a ≡ g b → a ≡ b) → (xs ys : List A) → sum_by (λ x. 1) xs ≡ sum_by (λ x. 1) ys
    → sum_by g xs ≡ sum_by g ys → at_most_one xs ≡ at_most_one ys
most_same g tells [] [] count total = refl
most_same g tells [] (y ∷ ys) count total = absurd (omega (arith, count, sum_by-cons (λ x. 1) y ys))
most_same g tells (x ∷ xs) [] count total = absurd (omega (arith, count, sum_by-cons (λ x. 1) x xs))
most_same g tells (x ∷ []) (y ∷ []) count total = ap (λ v. Some (Some v)) (tells x y (omega (arith, total)))
most_same g tells (x ∷ []) (y ∷ z ∷ ys) count total =
    absurd (omega (arith, count, sum_by-cons (λ x. 1) y (z ∷ ys), sum_by-cons (λ x. 1) z ys))
most_same g tells (x ∷ w ∷ xs) (y ∷ []) count total =
    absurd (omega (arith, count, sum_by-cons (λ x. 1) x (w ∷ xs), sum_by-cons (λ x. 1) w xs))
most_same g tells (x ∷ w ∷ xs) (y ∷ z ∷ ys) count total = refl

ones_same : {A : Type 0} (g : A → ℕ) → ((a b : A) → g a ≡ g b → a ≡ b) → (kind : CommandOption → Option A) (options other : List CommandOption)
    → IsPermutation options other → ones kind options ≡ ones kind other
ones_same {A} g tells kind options other moves = most_same g tells (filter_map kind options) (filter_map kind other) (same (λ x. 1)) (same g)
  where
    same : (f : A → ℕ) → sum_by f (filter_map kind options) ≡ sum_by f (filter_map kind other)
    same f =
        weighed f kind options ∙ sym (sum_by-IsPermutation (λ s. weigh f (kind s)) options other moves) ∙ sym (weighed f kind other)

policy_number : Policy → ℕ
policy_number Hold = 0
policy_number Linear = 1

same_policy : (a b : Policy) → policy_number a ≡ policy_number b → a ≡ b
unfolding policy_number
same_policy Hold Hold is = refl
same_policy Hold Linear is = absurd (omega (arith, is))
same_policy Linear Hold is = absurd (omega (arith, is))
same_policy Linear Linear is = refl

-- Options `--report` are all equal, so only their number counts.
report_mark : CommandOption → Option ⊤
report_mark Report = Some tt
report_mark _ = None

reports_marked : (options : List CommandOption) → filter is_report options ≡ map (λ _. Report) (filter_map report_mark options)
unfolding report_mark
reports_marked [] = refl
reports_marked (Report ∷ rest) = ap (λ more. Report ∷ more) (reports_marked rest)
reports_marked (first ∷ rest) = reports_marked rest

most_mapped : {A B : Type 0} (f : A → B) (xs : List A) → at_most_one (map f xs) ≡ option_map (option_map f) (at_most_one xs)
most_mapped f [] = refl
most_mapped f (x ∷ []) = refl
most_mapped f (x ∷ y ∷ xs) = refl

reports_same : (options other : List CommandOption) → IsPermutation options other
    → at_most_one (filter is_report options) ≡ at_most_one (filter is_report other)
reports_same options other moves =
    marked options
    ∙ ap (option_map (option_map (λ _. Report))) (ones_same (λ _. 0) (λ a b is. refl) report_mark options other moves)
    ∙ sym (marked other)
  where
    marked : (options : List CommandOption) → at_most_one (filter is_report options) ≡ option_map (option_map (λ _. Report)) (ones report_mark options)
    marked options = ap at_most_one (reports_marked options) ∙ most_mapped (λ _. Report) (filter_map report_mark options)

all_same : (options other : List CommandOption) → IsPermutation options other → ones_of options ≡ ones_of other
all_same options other moves = λ i. record {
  workers = ones_same (λ n. n) (λ a b is. is) workers_in options other moves i;
  window = ones_same (λ n. n) (λ a b is. is) window_in options other moves i;
  guess = ones_same policy_number same_policy guess_in options other moves i;
  seed = ones_same (λ n. n) (λ a b is. is) seed_in options other moves i;
  instances = ones_same (λ n. n) (λ a b is. is) instances_in options other moves i;
  rows = ones_same (λ n. n) (λ a b is. is) rows_in options other moves i;
  row = ones_same (λ n. n) (λ a b is. is) row_in options other moves i;
  rounds = ones_same (λ n. n) (λ a b is. is) rounds_in options other moves i;
  report = reports_same options other moves i;
}

given_same : (options other : List CommandOption) → IsPermutation options other → given_of options ≡ given_of other
unfolding given_of
given_same options other moves = ap each (all_same options other moves)

pub no_order : OptionsHaveNoOrder
no_order words other options reordered reads others moves =
    ap (λ read. read >>= given_of) reads ∙ given_same options reordered moves ∙ sym (ap (λ read. read >>= given_of) others)
