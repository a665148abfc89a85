-- Infix operations: the operation of a token, and an expression read as its first operand and the operations after
-- it.
use Rattle.std.proofs.Common.{◌≡◌, ℕ, suc, zero, ◌+◌, ◌<◌, ◌≤◌, Bool, true, false, cond, List, [], ◌∷◌, ◌++◌, Option, Some, None, refl, ap, sym, ◌∙◌, arith}
use Rattle.std.proofs.Common.{◌&&◌}
use Rattle.std.specs.Prelude.{IfSome, option_and_then}
use Rattle.std.proofs.lemmas.Bool.Decides.{nat_tests}
use Rattle.unit_tree.specs.Phrases.{Level, Whole, Or, And, Not, Comparison, Sum, Product, Negation, Primary, strength, binary_level, left_level, right_level}
use Rattle.unit_tree.specs.Phrases.{allows, operation, binary_tokens}
use Rattle.unit_tree.specs.declared.expr.BinOp.{BinOp}
use Rattle.unit_tree.specs.declared.expr.BinOp.TheVariants as by
use Rattle.unit_tree.specs.declared.expr.Expr as expr
use Rattle.unit_tree.specs.declared.token.Keyword.TheVariants as word
use Rattle.unit_tree.specs.declared.token.Symbol.TheVariants as sign
use Rattle.unit_tree.specs.declared.token.Token.{Token}
use Rattle.unit_tree.specs.declared.token.Token.TheVariants as token
use Rattle.text_lines.specs.Expressions.{Reader, Front, infix_symbol, infix_keyword, infix_of, infix_at, with_right, climb, within, read, deeper, operand_at}

-- ---- Operations

-- Whether an operation is written between its operands.
abbrev pub is_infix : BinOp → Bool
is_infix by.Min = false
is_infix by.Max = false
is_infix _ = true

-- The right side of an infix operation is one level stronger.
pub rises : (op : BinOp) → is_infix op ≡ true → strength (right_level (binary_level op)) ≡ suc (strength (binary_level op))
rises by.Min is = absurd (cc)
rises by.Max is = absurd (cc)
rises _ is = refl

-- An infix operation is written between its operands.
pub infix_tokens : (op : BinOp) (left right : List Token) → is_infix op ≡ true → binary_tokens op left right ≡ left ++ (operation op ∷ right)
infix_tokens by.Min left right is = absurd (cc)
infix_tokens by.Max left right is = absurd (cc)
infix_tokens _ left right is = refl

-- The token of an infix operation is read as it.
pub infix_again : (op : BinOp) → is_infix op ≡ true → infix_of (operation op) ≡ Some op
infix_again by.Min is = absurd (cc)
infix_again by.Max is = absurd (cc)
infix_again by.Add is = refl
infix_again by.Sub is = refl
infix_again by.Mul is = refl
infix_again by.Slash is = refl
infix_again by.Div is = refl
infix_again by.Mod is = refl
infix_again by.Eq is = refl
infix_again by.Ne is = refl
infix_again by.Lt is = refl
infix_again by.Le is = refl
infix_again by.Gt is = refl
infix_again by.Ge is = refl
infix_again by.And is = refl
infix_again by.Or is = refl

-- A token is the infix operation that it is read as.
abbrev pub Reads : Token → BinOp → Type 0
Reads first op = (operation op ≡ first) × (is_infix op ≡ true)

-- A symbol, and a keyword, is the operation that it is read as.
infix_symbol_is : (symbol : _) → IfSome (infix_symbol symbol) (Reads (token.Symbol symbol))
infix_symbol_is sign.Plus = (refl, refl)
infix_symbol_is sign.Minus = (refl, refl)
infix_symbol_is sign.Star = (refl, refl)
infix_symbol_is sign.Slash = (refl, refl)
infix_symbol_is sign.Equals = (refl, refl)
infix_symbol_is sign.Differs = (refl, refl)
infix_symbol_is sign.Less = (refl, refl)
infix_symbol_is sign.AtMost = (refl, refl)
infix_symbol_is sign.Greater = (refl, refl)
infix_symbol_is sign.AtLeast = (refl, refl)
infix_symbol_is _ = tt

infix_keyword_is : (keyword : _) → IfSome (infix_keyword keyword) (Reads (token.Keyword keyword))
infix_keyword_is word.Div = (refl, refl)
infix_keyword_is word.Mod = (refl, refl)
infix_keyword_is word.And = (refl, refl)
infix_keyword_is word.Or = (refl, refl)
infix_keyword_is _ = tt

-- The same for each token.
pub infix_is : (first : Token) → IfSome (infix_of first) (Reads first)
infix_is (token.Symbol symbol) = infix_symbol_is symbol
infix_is (token.Keyword keyword) = infix_keyword_is keyword
infix_is _ = tt

-- A level allows each level that is not weaker.
pub allows_is : (asked level : Level) → allows asked level ≡ true → strength asked ≤ strength level
allows_is asked level is = grind (arith, nat_tests)

pub allows_from : (asked level : Level) → strength asked ≤ strength level → allows asked level ≡ true
allows_from asked level is = grind (arith, nat_tests)

-- No level is stronger than the last.
pub strongest : (level : Level) → strength level ≤ 8
strongest Whole = omega arith
strongest Or = omega arith
strongest And = omega arith
strongest Not = omega arith
strongest Comparison = omega arith
strongest Sum = omega arith
strongest Product = omega arith
strongest Negation = omega arith
strongest Primary = omega arith

-- ---- The operation that comes first

-- An operation that comes first is spelled there, and is allowed where the grammar requires the level.
pub record Takes (asked left : Level) (tokens : List Token) (found : BinOp × List Token) : Type 0 where
  pub spelled : tokens ≡ operation found.0 ∷ found.1
  pub between : is_infix found.0 ≡ true
  pub asked_for : allows asked (binary_level found.0) ≡ true
  pub left_fits : allows (left_level (binary_level found.0)) left ≡ true

-- An operation is taken where both tests pass.
takes_test : (asked left : Level) (first : Token) (rest : List Token) (op : BinOp) (one other : Bool) → Reads first op → allows asked (binary_level op) ≡ one
    → allows (left_level (binary_level op)) left ≡ other → IfSome (cond (one && other) (Some (op, rest)) None) (Takes asked left (first ∷ rest))
takes_test asked left first rest op true true is one other =
    record { spelled = ap (λ t. t ∷ rest) (sym is.0); between = is.1; asked_for = one; left_fits = other }
takes_test asked left first rest op true false is one other = tt
takes_test asked left first rest op false other is one same = tt

-- The same for the operation that the first token is read as.
takes_by : (asked left : Level) (first : Token) (rest : List Token) (found : Option BinOp) → IfSome found (Reads first)
    → IfSome (option_and_then (λ op. cond (allows asked (binary_level op) && allows (left_level (binary_level op)) left) (Some (op, rest)) None) found)
    (Takes asked left (first ∷ rest))
takes_by asked left first rest None is = tt
takes_by asked left first rest (Some op) is =
    takes_test asked left first rest op (allows asked (binary_level op)) (allows (left_level (binary_level op)) left) is refl refl

-- The same for the first of any tokens.
pub infix_at_is : (asked left : Level) (tokens : List Token) → IfSome (infix_at asked left tokens) (Takes asked left tokens)
infix_at_is asked left [] = tt
infix_at_is asked left (first ∷ rest) = takes_by asked left first rest (infix_of first) (infix_is first)

-- The right side of an operation that is found is on a stronger level than the required one.
rises_by : (asked left : Level) (tokens : List Token) (found : Option (BinOp × List Token)) (op : BinOp) (rest : List Token)
    → IfSome found (Takes asked left tokens) → found ≡ Some (op, rest) → strength asked < strength (right_level (binary_level op))
rises_by asked left tokens None op rest is same = absurd (cc)
rises_by asked left tokens (Some other) op rest is same =
    let one : other.0 ≡ op = ap (λ (o : Option (BinOp × List Token)). elim o [ None ↦ op | Some x ↦ x.0 ]) same in
    let up = rises other.0 is.between in
    let within = allows_is asked (binary_level other.0) is.asked_for in
    rw (← one) (omega arith)

-- The same for the operation that comes first.
pub infix_at_rises : (asked left : Level) (tokens : List Token) (op : BinOp) (rest : List Token) → infix_at asked left tokens ≡ Some (op, rest)
    → strength asked < strength (right_level (binary_level op))
infix_at_rises asked left tokens op rest same = rises_by asked left tokens (infix_at asked left tokens) op rest (infix_at_is asked left tokens) same

-- ---- Reading step by step

-- Two functions that agree give the same after one reading.
pub then_same : {A B : Type 0} (found : Option A) (f g : A → Option B) → ((x : A) → f x ≡ g x) → option_and_then f found ≡ option_and_then g found
then_same None f g same = refl
then_same (Some x) f g same = same x

-- Two readers that agree on every right side that is required.
abbrev Agree : Reader → Reader → Level → Type 0
Agree one other asked = (op : BinOp) (tokens : List Token) → is_infix op ≡ true → allows asked (binary_level op) ≡ true
    → one (right_level (binary_level op)) tokens ≡ other (right_level (binary_level op)) tokens

-- With one more operation two readers that agree give the same.
agree_by : (one other : Reader) (asked : Level) (f g : Front → Option Front) (left : Front) (found : Option (BinOp × List Token)) → Agree one other asked
    → ((x : Front) → f x ≡ g x) → IfSome found (Takes asked left.1 left.2) → with_right one f left found ≡ with_right other g left found
agree_by one other asked f g left None same next is = refl
agree_by one other asked f g left (Some (op, behind)) same next is =
    let on : (right : Front)
    → f (expr.Binary op left.0 right.0, binary_level op, right.2) ≡ g (expr.Binary op left.0 right.0, binary_level op, right.2) =
    λ right. next (expr.Binary op left.0 right.0, binary_level op, right.2) in
    ap (option_and_then (λ (right : Front). f (expr.Binary op left.0 right.0, binary_level op, right.2))) (same op behind is.between is.asked_for)
    ∙ then_same (other (right_level (binary_level op)) behind) (λ right. f (expr.Binary op left.0 right.0, binary_level op, right.2))
    (λ right. g (expr.Binary op left.0 right.0, binary_level op, right.2)) on

-- Two readers that agree give the same with all the operations after a left side.
climb_agree : (one other : Reader) (asked : Level) (turns : List Token) (left : Front) → Agree one other asked
    → climb one asked turns left ≡ climb other asked turns left
climb_agree one other asked [] left same = refl
climb_agree one other asked (turn ∷ turns) left same =
    agree_by one other asked (climb one asked turns) (climb other asked turns) left (infix_at asked left.1 left.2) same
    (λ x. climb_agree one other asked turns x same) (infix_at_is asked left.1 left.2)

-- More levels than there are left change nothing.
steady : (inner : Reader) (levels_left : ℕ) (asked : Level) (tokens : List Token) → 8 < levels_left + strength asked
    → within inner (suc levels_left) asked tokens ≡ within inner levels_left asked tokens
unfolding within
steady inner zero asked tokens enough = let bound = strongest asked in absurd (omega arith)
steady inner (suc levels_left) asked tokens enough =
    then_same (operand_at inner asked tokens) (λ left. climb (within inner (suc levels_left)) asked left.2 left)
    (λ left. climb (within inner levels_left) asked left.2 left) (λ left.
    climb_agree (within inner (suc levels_left)) (within inner levels_left) asked left.2 left (λ op behind between allowed.
    let up = rises op between in
    let bound = allows_is asked (binary_level op) allowed in
    steady inner levels_left (right_level (binary_level op)) behind (omega arith)))

-- An expression is its first operand with the infix operations after it.
pub read_step : (budget : ℕ) (asked : Level) (tokens : List Token)
    → read budget asked tokens ≡ option_and_then (λ left. climb (read budget) asked left.2 left) (operand_at (deeper budget) asked tokens)
unfolding read within
read_step zero asked tokens = sym (steady (λ level behind. None) 9 asked tokens (omega arith))
read_step (suc budget) asked tokens = sym (steady (read budget) 9 asked tokens (omega arith))
