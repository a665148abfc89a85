-- Value of an expression in an environment: a word with its kind, or the first fault from the left.
use Rattle.std.specs.Prelude.{◌≡◌, ◌<◌, ◌^◌, length, ℕ, zero, ◌-◌, Bool, true, false, not, ◌&&◌, ◌||◌, ℤ, pos, List, [], ◌∷◌, if◌then◌else◌, nat_le, ◌≤◌, ⊤}
use Rattle.std.specs.Prelude.{int_lt, int_le, Result, Ok, Err}
use Rattle.std.specs.Str.{bytes_eq}
use Rattle.std.specs.Ordering.{int_eq}
use Rattle.std.specs.Int.{int_min, int_max}
use Rattle.model_rules.specs.Limits.{decimals_limit}
use Rattle.fixed_words.specs.Types.{kind_of}
use Rattle.fixed_words.specs.Operations.{Outcome, is_zero, sum, difference, product, quotient, remainder, fixed_product, fixed_quotient, negated, magnitude}
use Rattle.fixed_words.specs.Operations.{scaled_up, scaled_down, clamped}
use Rattle.fixed_words.specs.declared.types.Fault.{Fault}
use Rattle.fixed_words.specs.declared.types.Kind.{Kind}
use Rattle.fixed_words.specs.declared.types.Kind.TheVariants as kinds
use Rattle.unit_tree.specs.declared.environment.Environment.{Environment}
use Rattle.unit_tree.specs.declared.environment.Value.{Value}
use Rattle.unit_tree.specs.declared.environment.Variable.{Variable}
use Rattle.unit_tree.specs.declared.expr.BinOp.{BinOp}
use Rattle.unit_tree.specs.declared.expr.BinOp.TheVariants as by
use Rattle.unit_tree.specs.declared.expr.UnOp.{UnOp}
use Rattle.unit_tree.specs.declared.expr.UnOp.TheVariants as of
use Rattle.unit_tree.specs.declared.expr.Expr.{Expr, fold-Expr}
use Rattle.unit_tree.specs.declared.expr.Expr.TheOpen.{Expr-F}

-- The result of the second where the first has no fault; else the fault of the first.
infixl 10 ◌>>=◌
abbrev pub ◌>>=◌ : {A B : Type 0} → Result A Fault → (A → Result B Fault) → Result B Fault
(Ok x) >>= next = next x
(Err fault) >>= next = Err fault

-- An outcome as a value of the kind: its word, or its fault.
abbrev pub as_kind : Kind → Outcome → Result Value Fault
as_kind kind (Ok word) = Ok (record { kind = kind; word = word })
as_kind kind (Err fault) = Err fault

-- A truth value: the word 1 is true and 0 is false. Any other word counts as true.
abbrev pub truth : Bool → Value
truth true = record { kind = kinds.Bool; word = pos 1 }
truth false = record { kind = kinds.Bool; word = pos 0 }

abbrev pub holds : Value → Bool
holds value = not (is_zero value.word)

-- The kind of a number that is written with this many decimals: Int for none, else fixed point.
abbrev pub kind_of_number : ℕ → Kind
kind_of_number zero = kinds.Int
kind_of_number decimals = kinds.Fixed decimals

-- The value of a name: the word of the first variable with this name, in its type's kind. A name that no
-- variable has gives the Int 0.
abbrev pub value_of_name : List Variable → List ℤ → List ℕ → Value
value_of_name (variable ∷ variables) (word ∷ words) name =
    if bytes_eq variable.name name then record { kind = kind_of variable.ty; word = word } else value_of_name variables words name
value_of_name _ _ name = record { kind = kinds.Int; word = pos 0 }

-- The word of the kind, converted to this many decimals. An integer has no decimals.
abbrev pub with_decimals : ℕ → Kind → ℤ → Outcome
with_decimals decimals (kinds.Fixed had) word =
    if nat_le had decimals then scaled_up (decimals - had) word else scaled_down (had - decimals) word
with_decimals decimals _ word = scaled_up decimals word

-- The whole part of a word of the kind, rounded towards minus infinity.
abbrev pub whole_part : Kind → ℤ → Outcome
whole_part (kinds.Fixed decimals) word = scaled_down decimals word
whole_part _ word = Ok word

-- `*`, which has another meaning for fixed-point operands.
abbrev pub product_of : Kind → ℤ → ℤ → Outcome
product_of (kinds.Fixed decimals) left right = fixed_product decimals left right
product_of _ left right = product left right

-- `/`, which is only for fixed-point operands.
abbrev pub ratio_of : Kind → ℤ → ℤ → Outcome
ratio_of (kinds.Fixed decimals) left right = fixed_quotient decimals left right
ratio_of _ left right = quotient left right

-- A kind has at most 9 decimals.
abbrev pub IsKind : Kind → Type 0
IsKind (kinds.Fixed decimals) = decimals ≤ decimals_limit
IsKind _ = ⊤

-- `fix N` has an N of at most 9.
abbrev pub IsUnary : UnOp → Type 0
IsUnary (of.ToFix decimals) = decimals ≤ decimals_limit
IsUnary _ = ⊤

-- Numbers of decimals in an expression are at most 9: the test of one node, where its parts are given as their
-- tests, and of the whole expression.
abbrev pub unary_is_ranged : UnOp → Bool
unary_is_ranged (of.ToFix decimals) = nat_le decimals decimals_limit
unary_is_ranged _ = true

abbrev pub node_is_ranged : Expr-F Bool → Bool
node_is_ranged (Expr-F.Number word decimals) = nat_le decimals decimals_limit
node_is_ranged (Expr-F.Unary op arg) = unary_is_ranged op && arg
node_is_ranged (Expr-F.Binary op left right) = left && right
node_is_ranged (Expr-F.Clamp value low high) = value && (low && high)
node_is_ranged (Expr-F.Choose cond then_part else_part) = cond && (then_part && else_part)
node_is_ranged _ = true

abbrev pub is_ranged : Expr → Bool
is_ranged = fold-Expr Bool node_is_ranged

-- The types of variables have at most 9 decimals.
abbrev pub AreTyped : List Variable → Type 0
AreTyped [] = ⊤
AreTyped (variable ∷ variables) = IsKind (kind_of variable.ty) × AreTyped variables

-- An environment has a word for each variable, and its times fit words.
pub record IsSound (env : Environment) : Type 0 where
  pub typed : AreTyped env.variables
  pub one_each : length env.words ≡ length env.variables
  pub time : env.time < 2 ^ 63
  pub step : env.step < 2 ^ 63

-- The result of an operation on one value.
abbrev pub unary_value : UnOp → Value → Result Value Fault
unary_value of.Neg x = as_kind x.kind (negated x.word)
unary_value of.Not x = Ok (truth (not (holds x)))
unary_value of.Abs x = as_kind x.kind (magnitude x.word)
unary_value of.ToInt x = as_kind kinds.Int (whole_part x.kind x.word)
unary_value (of.ToFix decimals) x = as_kind (kinds.Fixed decimals) (with_decimals decimals x.kind x.word)

-- The result of an operation on two values.
abbrev pub binary_value : BinOp → Value → Value → Result Value Fault
binary_value by.Add x y = as_kind x.kind (sum x.word y.word)
binary_value by.Sub x y = as_kind x.kind (difference x.word y.word)
binary_value by.Mul x y = as_kind x.kind (product_of x.kind x.word y.word)
binary_value by.Slash x y = as_kind x.kind (ratio_of x.kind x.word y.word)
binary_value by.Div x y = as_kind x.kind (quotient x.word y.word)
binary_value by.Mod x y = as_kind x.kind (remainder x.word y.word)
binary_value by.Eq x y = Ok (truth (int_eq x.word y.word))
binary_value by.Ne x y = Ok (truth (not (int_eq x.word y.word)))
binary_value by.Lt x y = Ok (truth (int_lt x.word y.word))
binary_value by.Le x y = Ok (truth (int_le x.word y.word))
binary_value by.Gt x y = Ok (truth (int_lt y.word x.word))
binary_value by.Ge x y = Ok (truth (int_le y.word x.word))
binary_value by.And x y = Ok (truth (holds x && holds y))
binary_value by.Or x y = Ok (truth (holds x || holds y))
binary_value by.Min x y = as_kind x.kind (Ok (int_min x.word y.word))
binary_value by.Max x y = as_kind x.kind (Ok (int_max x.word y.word))

-- A value limited by two bounds, or the first fault of the three.
abbrev pub clamped_value : Result Value Fault → Result Value Fault → Result Value Fault → Result Value Fault
clamped_value value low high =
    value >>= λ x. (low >>= λ l. (high >>= λ h. Ok (record { kind = x.kind; word = clamped x.word l.word h.word })))

-- The meaning of a tree: in each environment a value or a fault.
abbrev pub Meaning : Type 0
Meaning = Environment → Result Value Fault

-- One node, whose parts are given as their meanings. Operands are evaluated from left to right, and the first
-- fault is the result; `if` evaluates its condition and then one of the two others. An environment has words
-- and no events: in it all event inputs are absent, and `absent` has the word 0.
abbrev pub node_meaning : Expr-F Meaning → Meaning
node_meaning (Expr-F.Number word decimals) env = Ok (record { kind = kind_of_number decimals; word = word })
node_meaning (Expr-F.Truth told) env = Ok (truth told)
node_meaning (Expr-F.Var name) env = Ok (value_of_name env.variables env.words name)
node_meaning Expr-F.Time env = Ok (record { kind = kinds.Int; word = pos env.time })
node_meaning Expr-F.Step env = Ok (record { kind = kinds.Int; word = pos env.step })
node_meaning (Expr-F.Unary op arg) env = arg env >>= λ x. unary_value op x
node_meaning (Expr-F.Binary op left right) env = left env >>= λ x. (right env >>= λ y. binary_value op x y)
node_meaning (Expr-F.Clamp value low high) env = clamped_value (value env) (low env) (high env)
node_meaning (Expr-F.Choose cond then_part else_part) env =
    cond env >>= λ c. (if holds c then then_part env else else_part env)
node_meaning Expr-F.Absent env = Ok (record { kind = kinds.Int; word = pos 0 })
node_meaning (Expr-F.Present name) env = Ok (truth false)

-- The value of an expression in an environment.
abbrev pub value_of : Expr → Meaning
value_of = fold-Expr Meaning node_meaning
