-- Values of expressions are words, where the numbers in them and the words of their names are.
use Rattle.std.proofs.Common.{◌≡◌, ◌∙◌, ℕ, cond, Bool, true, false, ◌&&◌, ◌||◌, ◌-◌, nat_le, ℤ, ◌+ℤ◌, ◌-ℤ◌, ◌*ℤ◌, neg_ℤ, pos, List, [], ◌∷◌}
use Rattle.std.proofs.Common.{Result, Ok, Err, refl, sym, subst}
use Rattle.std.proofs.lemmas.Bool.{and_parts}
use Rattle.std.specs.Prelude.{⊤, unsigned_abs, int_le, int_lt, not}
use Rattle.std.specs.Int.{int_min}
use Rattle.std.specs.List.{AllByRecursion}
use Rattle.std.specs.Ordering.{int_eq}
use Rattle.std.specs.Str.{bytes_eq}
use Rattle.fixed_words.specs.Operations.{Outcome, clamped, difference, floor_quotient, is_zero, magnitude, negated, quotient}
use Rattle.fixed_words.specs.Operations.{remainder, scaled_down, scaled_up, sum, ten_to, word_of}
use Rattle.fixed_words.specs.Types.{is_word_of}
use Rattle.fixed_words.specs.declared.types.Fault.{Fault}
use Rattle.fixed_words.specs.declared.types.Fault.TheVariants.{Overflow, ZeroDivisor}
use Rattle.fixed_words.specs.declared.types.Kind.{Kind}
use Rattle.fixed_words.specs.declared.types.Kind.TheVariants as kinds
use Rattle.fixed_words.specs.declared.types.Ty.TheVariants.{Int64}
use Rattle.link_laws.specs.Lengths.{has_words, node_has_words}
use Rattle.unit_tree.specs.Values.{◌>>=◌, Meaning, as_kind, binary_value, clamped_value, holds, node_meaning, product_of, ratio_of, truth}
use Rattle.unit_tree.specs.Values.{unary_value, value_of}
use Rattle.unit_tree.specs.Values.{value_of_name, whole_part, with_decimals}
use Rattle.unit_tree.specs.declared.environment.Environment.{Environment}
use Rattle.unit_tree.specs.declared.environment.Value.{Value}
use Rattle.unit_tree.specs.declared.environment.Variable.{Variable}
use Rattle.unit_tree.specs.declared.expr.BinOp.{BinOp}
use Rattle.unit_tree.specs.declared.expr.BinOp.TheVariants as by
use Rattle.unit_tree.specs.declared.expr.Expr as expr
use Rattle.unit_tree.specs.declared.expr.Expr.{Expr}
use Rattle.unit_tree.specs.declared.expr.Expr.TheFolds.{ind-Expr, map-Expr}
use Rattle.unit_tree.specs.declared.expr.Expr.TheOpen.{Expr-F}
use Rattle.unit_tree.specs.declared.expr.Expr.TheVariants.{rolls-Number, rolls-Truth, rolls-Var, rolls-Time, rolls-Step, rolls-Unary}
use Rattle.unit_tree.specs.declared.expr.Expr.TheVariants.{rolls-Binary, rolls-Clamp}
use Rattle.unit_tree.specs.declared.expr.Expr.TheVariants.{rolls-Choose, rolls-Absent, rolls-Present}
use Rattle.unit_tree.specs.declared.expr.Expr.TheViews.{roll-Expr}
use Rattle.unit_tree.specs.declared.expr.UnOp.{UnOp}
use Rattle.unit_tree.specs.declared.expr.UnOp.TheVariants as of
use Rattle.unit_tree.proofs.FoldLemmas.{fold-Number, fold-Truth, fold-Var, fold-Time, fold-Step, fold-Unary, fold-Binary, fold-Clamp}
use Rattle.unit_tree.proofs.FoldLemmas.{fold-Choose, fold-Absent}
use Rattle.unit_tree.proofs.FoldLemmas.{fold-Present}

abbrev pub IsWord : ℤ → Type 0
IsWord word = is_word_of Int64 word ≡ true

-- The result of an operation is a word, or a fault.
abbrev pub GivesWord : Outcome → Type 0
GivesWord (Ok word) = IsWord word
GivesWord (Err fault) = ⊤

abbrev pub HasWord : Result Value Fault → Type 0
HasWord (Ok value) = IsWord value.word
HasWord (Err fault) = ⊤

-- ---- Operations

fits_by : (fits : Bool) (exact : ℤ) → is_word_of Int64 exact ≡ fits → GivesWord (cond fits (Ok exact) (Err Overflow))
fits_by true exact is = is
fits_by false exact is = tt

fits_so : (exact : ℤ) → GivesWord (word_of exact)
fits_so exact = fits_by (is_word_of Int64 exact) exact refl

unless_zero : (zero : Bool) (outcome : Outcome) → GivesWord outcome → GivesWord (cond zero (Err ZeroDivisor) outcome)
unless_zero true outcome gives = tt
unless_zero false outcome gives = gives

of_kind : (kind : Kind) (outcome : Outcome) → GivesWord outcome → HasWord (as_kind kind outcome)
of_kind kind (Ok word) gives = gives
of_kind kind (Err fault) gives = tt

truth_fits : (told : Bool) → IsWord (truth told).word
truth_fits true = refl
truth_fits false = refl

one_of : (first : Bool) (one other : ℤ) → IsWord one → IsWord other → IsWord (cond first one other)
one_of true one other is or = is
one_of false one other is or = or

whole_fits : (kind : Kind) (word : ℤ) → IsWord word → GivesWord (whole_part kind word)
whole_fits kinds.Bool word is = is
whole_fits kinds.Int word is = is
whole_fits (kinds.Fixed decimals) word is = fits_so (floor_quotient word (ten_to decimals))

with_decimals_by : (more : Bool) (up down : ℕ) (word : ℤ) → GivesWord (cond more (scaled_up up word) (scaled_down down word))
with_decimals_by true up down word = fits_so (word *ℤ ten_to up)
with_decimals_by false up down word = fits_so (floor_quotient word (ten_to down))

decimals_fit : (decimals : ℕ) (kind : Kind) (word : ℤ) → GivesWord (with_decimals decimals kind word)
decimals_fit decimals kinds.Bool word = fits_so (word *ℤ ten_to decimals)
decimals_fit decimals kinds.Int word = fits_so (word *ℤ ten_to decimals)
decimals_fit decimals (kinds.Fixed had) word = with_decimals_by (nat_le had decimals) (decimals - had) (had - decimals) word

unary_fits : (op : UnOp) (x : Value) → IsWord x.word → HasWord (unary_value op x)
unary_fits of.Neg x is = of_kind x.kind (negated x.word) (fits_so (neg_ℤ x.word))
unary_fits of.Not x is = truth_fits (not (holds x))
unary_fits of.Abs x is = of_kind x.kind (magnitude x.word) (fits_so (pos (unsigned_abs x.word)))
unary_fits of.ToInt x is = of_kind kinds.Int (whole_part x.kind x.word) (whole_fits x.kind x.word is)
unary_fits (of.ToFix decimals) x is = of_kind (kinds.Fixed decimals) (with_decimals decimals x.kind x.word) (decimals_fit decimals x.kind x.word)

product_fits : (kind : Kind) (left right : ℤ) → GivesWord (product_of kind left right)
product_fits kinds.Bool left right = fits_so (left *ℤ right)
product_fits kinds.Int left right = fits_so (left *ℤ right)
product_fits (kinds.Fixed decimals) left right = fits_so (floor_quotient (left *ℤ right) (ten_to decimals))

quotient_fits : (left right : ℤ) → GivesWord (quotient left right)
quotient_fits left right = unless_zero (is_zero right) (word_of (floor_quotient left right)) (fits_so (floor_quotient left right))

ratio_fits : (kind : Kind) (left right : ℤ) → GivesWord (ratio_of kind left right)
ratio_fits kinds.Bool left right = quotient_fits left right
ratio_fits kinds.Int left right = quotient_fits left right
ratio_fits (kinds.Fixed decimals) left right =
    unless_zero (is_zero right) (word_of (floor_quotient (left *ℤ ten_to decimals) right)) (fits_so (floor_quotient (left *ℤ ten_to decimals) right))

remainder_fits : (left right : ℤ) → GivesWord (remainder left right)
remainder_fits left right = unless_zero (is_zero right) (word_of (left -ℤ (right *ℤ floor_quotient left right)))
    (fits_so (left -ℤ (right *ℤ floor_quotient left right)))

binary_fits : (op : BinOp) (x y : Value) → IsWord x.word → IsWord y.word → HasWord (binary_value op x y)
binary_fits by.Add x y is or = of_kind x.kind (sum x.word y.word) (fits_so (x.word +ℤ y.word))
binary_fits by.Sub x y is or = of_kind x.kind (difference x.word y.word) (fits_so (x.word -ℤ y.word))
binary_fits by.Mul x y is or = of_kind x.kind (product_of x.kind x.word y.word) (product_fits x.kind x.word y.word)
binary_fits by.Slash x y is or = of_kind x.kind (ratio_of x.kind x.word y.word) (ratio_fits x.kind x.word y.word)
binary_fits by.Div x y is or = of_kind x.kind (quotient x.word y.word) (quotient_fits x.word y.word)
binary_fits by.Mod x y is or = of_kind x.kind (remainder x.word y.word) (remainder_fits x.word y.word)
binary_fits by.Eq x y is or = truth_fits (int_eq x.word y.word)
binary_fits by.Ne x y is or = truth_fits (not (int_eq x.word y.word))
binary_fits by.Lt x y is or = truth_fits (int_lt x.word y.word)
binary_fits by.Le x y is or = truth_fits (int_le x.word y.word)
binary_fits by.Gt x y is or = truth_fits (int_lt y.word x.word)
binary_fits by.Ge x y is or = truth_fits (int_le y.word x.word)
binary_fits by.And x y is or = truth_fits (holds x && holds y)
binary_fits by.Or x y is or = truth_fits (holds x || holds y)
binary_fits by.Min x y is or = one_of (int_lt y.word x.word) y.word x.word or is
binary_fits by.Max x y is or = one_of (int_lt y.word x.word) x.word y.word is or

clamped_fits : (word low high : ℤ) → IsWord word → IsWord low → IsWord high → IsWord (clamped word low high)
clamped_fits word low high is low_is high_is =
    let inner : IsWord (int_min word high) = one_of (int_lt high word) high word high_is is in
    one_of (int_lt (int_min word high) low) low (int_min word high) low_is inner

-- ---- Environments

-- The words of an environment and its times are words of 64 bits.
pub record AreWords (env : Environment) : Type 0 where
  pub words : AllByRecursion IsWord env.words
  pub time : IsWord (pos env.time)
  pub step : IsWord (pos env.step)

named_by : (same : Bool) (kind : Kind) (word : ℤ) (other : Value) → IsWord word → IsWord other.word
    → IsWord (cond same (record { kind = kind; word = word }) other).word
named_by true kind word other is or = is
named_by false kind word other is or = or

named_fits : (variables : List Variable) (words : List ℤ) (name : List ℕ) → AllByRecursion IsWord words
    → IsWord (value_of_name variables words name).word
named_fits [] words name are = refl
named_fits (variable ∷ variables) [] name are = refl
named_fits (variable ∷ variables) (word ∷ words) name are =
    named_by (bytes_eq variable.name name) _ word (value_of_name variables words name) are.0 (named_fits variables words name are.1)

-- ---- Expressions

abbrev pub MeansWords : Meaning → Type 0
MeansWords meaning = (env : Environment) → AreWords env → HasWord (meaning env)

abbrev Claim : Expr → Type 0
Claim value = has_words value ≡ true → MeansWords (value_of value)

abbrev Proved : Type 0
Proved = (value : Expr) × Claim value

abbrev bare : Proved → Expr
bare value = value.0

followed : (first : Result Value Fault) (next : Value → Result Value Fault) → HasWord first
    → ((value : Value) → IsWord value.word → HasWord (next value)) → HasWord (first >>= next)
followed (Ok value) next gives then_is = then_is value gives
followed (Err fault) next gives then_is = tt

means-Number : (word : ℤ) (decimals : ℕ) → Claim (expr.Number word decimals)
means-Number word decimals has =
    subst MeansWords (sym (fold-Number Meaning node_meaning word decimals)) (λ env are. sym (fold-Number Bool node_has_words word decimals) ∙ has)

means-Unary : (op : UnOp) (arg : Expr) → Claim arg → Claim (expr.Unary op arg)
means-Unary op arg on has =
    let arg_is = on (sym (fold-Unary Bool node_has_words op arg) ∙ has) in
    subst MeansWords (sym (fold-Unary Meaning node_meaning op arg))
    (λ env are. followed (value_of arg env) (unary_value op) (arg_is env are) (unary_fits op))

means-Binary : (op : BinOp) (left right : Expr) → Claim left → Claim right → Claim (expr.Binary op left right)
means-Binary op left right on_left on_right has =
    let both = and_parts (has_words left) (has_words right) (sym (fold-Binary Bool node_has_words op left right) ∙ has) in
    subst MeansWords (sym (fold-Binary Meaning node_meaning op left right))
    (λ env are. followed (value_of left env) (λ x. value_of right env >>= λ y. binary_value op x y) (on_left both.0 env are)
    (λ x x_is. followed (value_of right env) (binary_value op x) (on_right both.1 env are) (λ y y_is. binary_fits op x y x_is y_is)))

clamp_fits : (value low high : Result Value Fault) → HasWord value → HasWord low → HasWord high → HasWord (clamped_value value low high)
clamp_fits (Ok value) (Ok low) (Ok high) is low_is high_is = clamped_fits value.word low.word high.word is low_is high_is
clamp_fits (Ok value) (Ok low) (Err fault) is low_is high_is = tt
clamp_fits (Ok value) (Err fault) high is low_is high_is = tt
clamp_fits (Err fault) low high is low_is high_is = tt

means-Clamp : (value low high : Expr) → Claim value → Claim low → Claim high → Claim (expr.Clamp value low high)
means-Clamp value low high on_value on_low on_high has =
    let all = and_parts (has_words value) (has_words low && has_words high) (sym (fold-Clamp Bool node_has_words value low high) ∙ has) in
    let bounds = and_parts (has_words low) (has_words high) all.1 in
    subst MeansWords (sym (fold-Clamp Meaning node_meaning value low high))
    (λ env are. clamp_fits (value_of value env) (value_of low env) (value_of high env) (on_value all.0 env are) (on_low bounds.0 env are)
    (on_high bounds.1 env are))

chosen_fits : (told : Bool) (one other : Result Value Fault) → HasWord one → HasWord other → HasWord (cond told one other)
chosen_fits true one other is or = is
chosen_fits false one other is or = or

means-Choose : (condition chosen other : Expr) → Claim condition → Claim chosen → Claim other → Claim (expr.Choose condition chosen other)
means-Choose condition chosen other on_condition on_chosen on_other has =
    let all =
    and_parts (has_words condition) (has_words chosen && has_words other) (sym (fold-Choose Bool node_has_words condition chosen other) ∙ has) in
    let parts = and_parts (has_words chosen) (has_words other) all.1 in
    subst MeansWords (sym (fold-Choose Meaning node_meaning condition chosen other))
    (λ env are. followed (value_of condition env) (λ c. cond (holds c) (value_of chosen env) (value_of other env)) (on_condition all.0 env are)
    (λ c c_is. chosen_fits (holds c) (value_of chosen env) (value_of other env) (on_chosen parts.0 env are) (on_other parts.1 env are)))

node : (y : Expr-F Proved) → Claim (roll-Expr (map-Expr Proved Expr bare y))
node (Expr-F.Number word decimals) = subst Claim (sym (rolls-Number word decimals)) (means-Number word decimals)
node (Expr-F.Truth told) = subst Claim (sym (rolls-Truth told))
    (λ has. subst MeansWords (sym (fold-Truth Meaning node_meaning told)) (λ env are. truth_fits told))
node (Expr-F.Var name) = subst Claim (sym (rolls-Var name))
    (λ has. subst MeansWords (sym (fold-Var Meaning node_meaning name)) (λ env are. named_fits env.variables env.words name are.words))
node Expr-F.Time = subst Claim (sym rolls-Time) (λ has. subst MeansWords (sym (fold-Time Meaning node_meaning)) (λ env are. are.time))
node Expr-F.Step = subst Claim (sym rolls-Step) (λ has. subst MeansWords (sym (fold-Step Meaning node_meaning)) (λ env are. are.step))
node (Expr-F.Unary op arg) = subst Claim (sym (rolls-Unary op (bare arg))) (means-Unary op (bare arg) arg.1)
node (Expr-F.Binary op left right) =
    subst Claim (sym (rolls-Binary op (bare left) (bare right))) (means-Binary op (bare left) (bare right) left.1 right.1)
node (Expr-F.Clamp value low high) =
    subst Claim (sym (rolls-Clamp (bare value) (bare low) (bare high))) (means-Clamp (bare value) (bare low) (bare high) value.1 low.1 high.1)
node (Expr-F.Choose condition chosen other) =
    subst Claim (sym (rolls-Choose (bare condition) (bare chosen) (bare other)))
    (means-Choose (bare condition) (bare chosen) (bare other) condition.1 chosen.1 other.1)
node Expr-F.Absent = subst Claim (sym rolls-Absent) (λ has. subst MeansWords (sym (fold-Absent Meaning node_meaning)) (λ env are. refl))
node (Expr-F.Present name) = subst Claim (sym (rolls-Present name))
    (λ has. subst MeansWords (sym (fold-Present Meaning node_meaning name)) (λ env are. refl))

pub values_are_words : (value : Expr) → has_words value ≡ true → (env : Environment) → AreWords env → HasWord (value_of value env)
values_are_words = ind-Expr Claim (λ x y is. subst (λ z. Claim (roll-Expr z)) is (node y))
