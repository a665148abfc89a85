-- An expression is read from the tokens that it is written with.
use Rattle.std.proofs.Common.{◌≡◌, ℕ, suc, zero, ◌<◌, ◌≤◌, Bool, true, false, cond, ◌&&◌, max, List, [], ◌∷◌, ◌++◌, length, Option, Some, None, refl, ap, sym}
use Rattle.std.proofs.Common.{subst, ◌∙◌, arith, append_assoc, nat_le}
use Rattle.std.specs.Prelude.{IfSome, option_and_then, ⊤}
use Rattle.std.proofs.lemmas.Bool.{and_parts}
use Rattle.std.proofs.lemmas.Bool.Decides.{nat_tests}
use Rattle.std.proofs.lemmas.List.{length-append}
use Rattle.std.proofs.lemmas.Option.{IfSome_then}
use Rattle.unit_tree.specs.Phrases as phrase
use Rattle.unit_tree.specs.Phrases.{Phrase, Level, Whole, Or, And, Not, Negation, Primary, strength, level_of, unary_level}
use Rattle.unit_tree.specs.Phrases.{binary_level, left_level, right_level, allows, stands, nesting, numbers_fit, tree_of, phrase_tokens}
use Rattle.unit_tree.specs.Phrases.{operation, in_parens, keyword, symbol, whole}
use Rattle.unit_tree.specs.declared.expr.BinOp.{BinOp}
use Rattle.unit_tree.specs.declared.expr.BinOp.TheVariants as by
use Rattle.unit_tree.specs.declared.expr.Expr.{Expr}
use Rattle.unit_tree.specs.declared.expr.Expr as expr
use Rattle.unit_tree.specs.declared.expr.UnOp.{UnOp}
use Rattle.unit_tree.specs.declared.expr.UnOp.TheVariants as of
use Rattle.unit_tree.specs.declared.token.Keyword.TheVariants as word
use Rattle.unit_tree.specs.declared.token.Symbol.TheVariants as sign
use Rattle.unit_tree.specs.declared.token.Token.{Token}
use Rattle.unit_tree.specs.declared.token.Token.TheVariants as token
use Rattle.text_lines.specs.Expressions.{Reader, Front, grouped_at, call_at, fix_at, prefix_at, pair_at, clamp_at, choice_at, present_at, operand_at, infix_of}
use Rattle.text_lines.specs.Expressions.{infix_at, with_right, climb, read, deeper}
use Rattle.text_lines.proofs.InfixOperations.{is_infix, rises, infix_tokens, infix_again, infix_is, infix_at_is, Reads, Takes, allows_is, allows_from}
use Rattle.text_lines.proofs.InfixOperations.{read_step}
use Rattle.text_lines.proofs.PhraseTokens.{group_tokens, pair_tokens, clamp_tokens, choice_tokens}
use Rattle.text_lines.proofs.ReadExpressions.{IsFront, IsSound, read_is, stands_allowed, stands_where, infix_nesting}

-- ---- Where reading stops

-- An infix operation that comes next may have an expression of the level on its left.
abbrev pub Follows : Level → List Token → Type 0
Follows level [] = ⊤
Follows level (first ∷ rest) = IfSome (infix_of first) (λ op. allows (left_level (binary_level op)) level ≡ true)

-- What may follow an expression may follow a stronger one.
follows_stronger : (weak strong : Level) (rest : List Token) → strength weak ≤ strength strong → Follows weak rest → Follows strong rest
follows_stronger weak strong [] order follows = tt
follows_stronger weak strong (first ∷ rest) order follows =
    IfSome_then (infix_of first) follows (λ op is.
    let within = allows_is (left_level (binary_level op)) weak is in
    allows_from (left_level (binary_level op)) strong (omega arith))

-- No operation that may follow the one level is allowed where the other is required.
abbrev Never : Level → Level → Type 0
Never asked bound = (op : BinOp) → is_infix op ≡ true → allows (left_level (binary_level op)) bound ≡ true → allows asked (binary_level op) ≡ false

-- After the last part of a choice, and after the operand of `not` and of the prefix `-`, no operation is allowed that
-- may follow the whole expression.
never_whole : Never Whole Whole
never_whole by.Min between follows = absurd (cc)
never_whole by.Max between follows = absurd (cc)
never_whole _ between follows = absurd (cc)

never_not : Never Not Not
never_not by.Min between follows = absurd (cc)
never_not by.Max between follows = absurd (cc)
never_not by.Or between follows = refl
never_not by.And between follows = refl
never_not _ between follows = absurd (cc)

never_negation : Never Negation Negation
never_negation by.Min between follows = absurd (cc)
never_negation by.Max between follows = absurd (cc)
never_negation _ between follows = refl

-- The left side of an infix operation is no weaker.
left_within : (op : BinOp) → is_infix op ≡ true → strength (binary_level op) ≤ strength (left_level (binary_level op))
left_within by.Min between = absurd (cc)
left_within by.Max between = absurd (cc)
left_within _ between = omega arith

-- The same after the right side of an infix operation.
never_right : (op : BinOp) → is_infix op ≡ true → Never (right_level (binary_level op)) (binary_level op)
never_right op is next between follows =
    let up = rises op is in
    let bound = left_within next between in
    let within = allows_is (left_level (binary_level next)) (binary_level op) follows in
    grind (arith, nat_tests)

-- Where no operation is allowed, none is found.
ends_by : (asked left bound : Level) (first : Token) (rest : List Token) (found : Option BinOp) → Never asked bound → IfSome found (Reads first)
    → IfSome found (λ op. allows (left_level (binary_level op)) bound ≡ true)
    → option_and_then {U = BinOp × List Token}
    (λ op. cond (allows asked (binary_level op) && allows (left_level (binary_level op)) left) (Some (op, rest)) None) found
    ≡ None
ends_by asked left bound first rest None never reads follows = refl
ends_by asked left bound first rest (Some op) never reads follows = rw (never op reads.1 follows) refl

-- The same for the first of any tokens.
ends : (asked left bound : Level) (rest : List Token) → Never asked bound → Follows bound rest → infix_at asked left rest ≡ None
ends asked left bound [] never follows = refl
ends asked left bound (first ∷ rest) never follows = ends_by asked left bound first rest (infix_of first) never (infix_is first) follows

-- Where no operation is found, the left side is all.
climb_ends : (reader : Reader) (asked : Level) (turns : List Token) (front : Front) → infix_at asked front.1 front.2 ≡ None
    → climb reader asked turns front ≡ Some front
climb_ends reader asked [] front none = refl
climb_ends reader asked (turn ∷ turns) front none = ap (with_right reader (climb reader asked turns) front) none

-- ---- Turns

-- What is left after a beginning that was read is no longer than the tokens.
shorter : (limit : ℕ) (asked : Level) (tokens : List Token) (front : Front) → IsFront limit asked tokens front → length front.2 ≤ length tokens
shorter limit asked tokens front is =
    let same = ap length is.spelled in
    let both = length-append (phrase_tokens is.written) front.2 in
    omega arith

-- From no tokens no operation is found.
none_left : (asked left : Level) (tokens : List Token) → length tokens ≤ 0 → infix_at asked left tokens ≡ None
none_left asked left [] empty = refl
none_left asked left (first ∷ rest) empty = absurd (omega arith)

-- Two functions that agree where a fact is true give the same after one reading.
same_where : {A B : Type 0} (found : Option A) (f g : A → Option B) (P : A → Type 0) → IfSome found P → ((x : A) → P x → f x ≡ g x)
    → option_and_then f found ≡ option_and_then g found
same_where None f g P is same = refl
same_where (Some x) f g P is same = same x is

-- With one more operation fewer tokens are left.
turns_by : (limit : ℕ) (reader : Reader) (asked : Level) (f g : Front → Option Front) (front : Front) (found : Option (BinOp × List Token))
    → IsSound limit reader
    → ((x : Front) → length x.2 < length front.2 → f x ≡ g x) → IfSome found (Takes asked front.1 front.2)
    → with_right reader f front found ≡ with_right reader g front found
turns_by limit reader asked f g front None sound same takes = refl
turns_by limit reader asked f g front (Some (op, behind)) sound same takes =
    same_where (reader (right_level (binary_level op)) behind) (λ right. f (expr.Binary op front.0 right.0, binary_level op, right.2))
    (λ right. g (expr.Binary op front.0 right.0, binary_level op, right.2)) (IsFront limit (right_level (binary_level op)) behind)
    (sound (right_level (binary_level op)) behind) (λ right is.
    let less = shorter limit (right_level (binary_level op)) behind right is in
    let taken = ap length takes.spelled in
    same (expr.Binary op front.0 right.0, binary_level op, right.2) (omega arith))

-- As many turns as there are tokens are enough.
climb_turns : (limit : ℕ) (reader : Reader) (asked : Level) (turns others : List Token) (front : Front) → IsSound limit reader → length front.2 ≤ length turns
    → length front.2 ≤ length others → climb reader asked turns front ≡ climb reader asked others front
climb_turns limit reader asked [] others front sound one other = sym (climb_ends reader asked others front (none_left asked front.1 front.2 one))
climb_turns limit reader asked (turn ∷ turns) [] front sound one other = climb_ends reader asked (turn ∷ turns) front (none_left asked front.1 front.2 other)
climb_turns limit reader asked (turn ∷ turns) (turn' ∷ others) front sound one other =
    turns_by limit reader asked (climb reader asked turns) (climb reader asked others) front (infix_at asked front.1 front.2) sound
    (λ x less. climb_turns limit reader asked turns others x sound (omega arith) (omega arith)) (infix_at_is asked front.1 front.2)

-- ---- Operands

-- Reading gives the expression from its tokens, and goes on after it.
abbrev Again : Phrase → Type 0
Again written = (budget : ℕ) (asked : Level) (rest : List Token) → stands asked written ≡ true → nesting written ≤ budget → numbers_fit written ≡ true
    → Follows (level_of written) rest
    → read budget asked (phrase_tokens written ++ rest) ≡ climb (read budget) asked rest (tree_of written, level_of written, rest)

-- An operand is read, and reading goes on after it.
by_operand : (written : Phrase) (budget : ℕ) (asked : Level) (rest : List Token)
    → operand_at (deeper budget) asked (phrase_tokens written ++ rest) ≡ Some (tree_of written, level_of written, rest)
    → read budget asked (phrase_tokens written ++ rest) ≡ climb (read budget) asked rest (tree_of written, level_of written, rest)
by_operand written budget asked rest given = read_step budget asked (phrase_tokens written ++ rest)
    ∙ ap (option_and_then (λ left. climb (read budget) asked left.2 left)) given

-- A part that no operation follows.
part_again : (written : Phrase) → Again written → (budget : ℕ) (asked bound : Level) (rest : List Token) → Never asked bound
    → strength bound ≤ strength (level_of written) → Follows bound rest → stands asked written ≡ true → nesting written < budget → numbers_fit written ≡ true
    → deeper budget asked (phrase_tokens written ++ rest) ≡ Some (tree_of written, level_of written, rest)
part_again written again zero asked bound rest never order follows so deep fits = absurd (omega arith)
part_again written again (suc budget) asked bound rest never order follows so deep fits =
    again budget asked rest so (omega arith) fits (follows_stronger bound (level_of written) rest order follows)
    ∙ climb_ends (read budget) asked rest (tree_of written, level_of written, rest) (ends asked (level_of written) bound rest never follows)

-- A whole part, with a token after it that is not an infix operation.
whole_again : (written : Phrase) → Again written → (budget : ℕ) (rest : List Token) → Follows Whole rest → stands Whole written ≡ true
    → nesting written < budget → numbers_fit written ≡ true
    → deeper budget Whole (phrase_tokens written ++ rest) ≡ Some (tree_of written, level_of written, rest)
whole_again written again budget rest follows so deep fits = part_again written again budget Whole Whole rest never_whole (omega arith) follows so deep fits

-- Each form is read again, where its parts are.
pub grouped_again : (inner : Reader) (tokens rest : List Token) (tree : Expr) (level : Level)
    → inner Whole (tokens ++ (symbol sign.Close ∷ rest)) ≡ Some (tree, level, symbol sign.Close ∷ rest)
    → grouped_at inner (in_parens tokens ++ rest) ≡ Some (tree, rest)
unfolding grouped_at
grouped_again inner tokens rest tree level given = ap (grouped_at inner) (group_tokens tokens rest) ∙ rw given refl

call_again : (inner : Reader) (op : UnOp) (tokens rest : List Token) (tree : Expr) (level : Level)
    → inner Whole (tokens ++ (symbol sign.Close ∷ rest)) ≡ Some (tree, level, symbol sign.Close ∷ rest)
    → call_at inner op (in_parens tokens ++ rest) ≡ Some (expr.Unary op tree, Primary, rest)
unfolding call_at
call_again inner op tokens rest tree level given = rw (grouped_again inner tokens rest tree level given) refl

fix_again : (inner : Reader) (decimals : ℕ) (tokens rest : List Token) (tree : Expr) (level : Level) → nat_le decimals 9 ≡ true
    → inner Whole (tokens ++ (symbol sign.Close ∷ rest)) ≡ Some (tree, level, symbol sign.Close ∷ rest)
    → fix_at inner (whole decimals ∷ in_parens tokens ++ rest) ≡ Some (expr.Unary (of.ToFix decimals) tree, Primary, rest)
unfolding fix_at
fix_again inner decimals tokens rest tree level small given = rw small (call_again inner (of.ToFix decimals) tokens rest tree level given)

prefix_again : (inner : Reader) (asked : Level) (op : UnOp) (tokens rest : List Token) (tree : Expr) (level : Level) → allows asked (unary_level op) ≡ true
    → inner (unary_level op) (tokens ++ rest) ≡ Some (tree, level, rest)
    → prefix_at inner asked op (tokens ++ rest) ≡ Some (expr.Unary op tree, unary_level op, rest)
unfolding prefix_at
prefix_again inner asked op tokens rest tree level allowed given = rw (allowed, given) refl

pair_again : (inner : Reader) (op : BinOp) (left right rest : List Token) (one other : Expr) (level below : Level)
    → inner Whole (left ++ (symbol sign.Comma ∷ (right ++ (symbol sign.Close ∷ rest))))
    ≡ Some (one, level, symbol sign.Comma ∷ (right ++ (symbol sign.Close ∷ rest)))
    → inner Whole (right ++ (symbol sign.Close ∷ rest)) ≡ Some (other, below, symbol sign.Close ∷ rest)
    → pair_at inner op (in_parens (left ++ (symbol sign.Comma ∷ right)) ++ rest) ≡ Some (expr.Binary op one other, Primary, rest)
unfolding pair_at
pair_again inner op left right rest one other level below first second = ap (pair_at inner op) (pair_tokens left right rest) ∙ rw (first, second) refl

clamp_again : (inner : Reader) (value low high rest : List Token) (value_tree low_tree high_tree : Expr) (one two three : Level)
    → inner Whole (value ++ (symbol sign.Comma ∷ (low ++ (symbol sign.Comma ∷ (high ++ (symbol sign.Close ∷ rest))))))
    ≡ Some (value_tree, one, symbol sign.Comma ∷ (low ++ (symbol sign.Comma ∷ (high ++ (symbol sign.Close ∷ rest)))))
    → inner Whole (low ++ (symbol sign.Comma ∷ (high ++ (symbol sign.Close ∷ rest))))
    ≡ Some (low_tree, two, symbol sign.Comma ∷ (high ++ (symbol sign.Close ∷ rest)))
    → inner Whole (high ++ (symbol sign.Close ∷ rest)) ≡ Some (high_tree, three, symbol sign.Close ∷ rest)
    → clamp_at inner (in_parens (value ++ (symbol sign.Comma ∷ (low ++ (symbol sign.Comma ∷ high)))) ++ rest)
    ≡ Some (expr.Clamp value_tree low_tree high_tree, Primary, rest)
unfolding clamp_at
clamp_again inner value low high rest value_tree low_tree high_tree one two three first second third = ap (clamp_at inner) (clamp_tokens value low high rest)
    ∙ rw (first, second, third) refl

choice_again : (inner : Reader) (condition chosen other rest : List Token) (condition_tree chosen_tree other_tree : Expr) (one two three : Level)
    → inner Whole (condition ++ (keyword word.Then ∷ (chosen ++ (keyword word.Else ∷ (other ++ rest)))))
    ≡ Some (condition_tree, one, keyword word.Then ∷ (chosen ++ (keyword word.Else ∷ (other ++ rest))))
    → inner Whole (chosen ++ (keyword word.Else ∷ (other ++ rest))) ≡ Some (chosen_tree, two, keyword word.Else ∷ (other ++ rest))
    → inner Whole (other ++ rest) ≡ Some (other_tree, three, rest)
    → choice_at inner ((condition ++ (keyword word.Then ∷ (chosen ++ (keyword word.Else ∷ other)))) ++ rest)
    ≡ Some (expr.Choose condition_tree chosen_tree other_tree, Whole, rest)
unfolding choice_at
choice_again inner condition chosen other rest condition_tree chosen_tree other_tree one two three first second third =
    ap (choice_at inner) (choice_tokens condition chosen other rest)
    ∙ rw (first, second, third) refl

present_again : (name : List ℕ) (rest : List Token) → present_at (in_parens (token.Name name ∷ []) ++ rest) ≡ Some (expr.Present name, Primary, rest)
unfolding present_at
present_again name rest = refl

-- ---- Expressions

-- Parts in parentheses, and operands.
again-Parens : (inner : Phrase) → Again inner → Again (phrase.Parens inner)
unfolding operand_at
again-Parens inner given budget asked rest so deep fits follows =
    by_operand (phrase.Parens inner) budget asked rest
    (rw (grouped_again (deeper budget) (phrase_tokens inner) rest (tree_of inner) (level_of inner)
    (whole_again inner given budget (symbol sign.Close ∷ rest) tt so deep fits)) refl)

again-Unary : (op : UnOp) (arg : Phrase) → Again arg → Again (phrase.Unary op arg)
unfolding operand_at
again-Unary of.Neg arg given budget asked rest so deep fits follows =
    let parts = and_parts (allows asked Negation) _ so in
    let order = allows_is Negation (level_of arg) (stands_allowed Negation arg parts.1) in
    by_operand (phrase.Unary of.Neg arg) budget asked rest
    (prefix_again (deeper budget) asked of.Neg (phrase_tokens arg) rest (tree_of arg) (level_of arg) parts.0
    (part_again arg given budget Negation Negation rest never_negation order follows parts.1 deep fits))
again-Unary of.Not arg given budget asked rest so deep fits follows =
    let parts = and_parts (allows asked Not) _ so in
    let order = allows_is Not (level_of arg) (stands_allowed Not arg parts.1) in
    by_operand (phrase.Unary of.Not arg) budget asked rest
    (prefix_again (deeper budget) asked of.Not (phrase_tokens arg) rest (tree_of arg) (level_of arg) parts.0
    (part_again arg given budget Not Not rest never_not order follows parts.1 deep fits))
again-Unary of.Abs arg given budget asked rest so deep fits follows =
    let parts = and_parts (allows asked Primary) _ so in
    by_operand (phrase.Unary of.Abs arg) budget asked rest
    (call_again (deeper budget) of.Abs (phrase_tokens arg) rest (tree_of arg) (level_of arg)
    (whole_again arg given budget (symbol sign.Close ∷ rest) tt parts.1 deep fits))
again-Unary of.ToInt arg given budget asked rest so deep fits follows =
    let parts = and_parts (allows asked Primary) _ so in
    by_operand (phrase.Unary of.ToInt arg) budget asked rest
    (call_again (deeper budget) of.ToInt (phrase_tokens arg) rest (tree_of arg) (level_of arg)
    (whole_again arg given budget (symbol sign.Close ∷ rest) tt parts.1 deep fits))
again-Unary (of.ToFix decimals) arg given budget asked rest so deep fits follows =
    let parts = and_parts (allows asked Primary) _ so in
    let numbers = and_parts (nat_le decimals 9) _ fits in
    by_operand (phrase.Unary (of.ToFix decimals) arg) budget asked rest
    (fix_again (deeper budget) decimals (phrase_tokens arg) rest (tree_of arg) (level_of arg) numbers.0
    (whole_again arg given budget (symbol sign.Close ∷ rest) tt parts.1 deep numbers.1))

-- An infix operation is found before the tokens after it.
follows_operation : (op : BinOp) (level : Level) (rest : List Token) → is_infix op ≡ true → allows (left_level (binary_level op)) level ≡ true
    → Follows level (operation op ∷ rest)
follows_operation op level rest between allowed =
    subst (λ found. IfSome found (λ next. allows (left_level (binary_level next)) level ≡ true)) (sym (infix_again op between)) allowed

-- The same where the grammar requires a level.
infix_at_again : (asked level : Level) (op : BinOp) (rest : List Token) → is_infix op ≡ true → allows asked (binary_level op) ≡ true
    → allows (left_level (binary_level op)) level ≡ true → infix_at asked level (operation op ∷ rest) ≡ Some (op, rest)
infix_at_again asked level op rest between one other = rw (infix_again op between) (rw (one, other) refl)

-- An infix operation: its left side is read first, then the operation is found, and then its right side is read.
again-infix : (op : BinOp) (left right : Phrase) → Again left → Again right → is_infix op ≡ true → Again (phrase.Binary op left right)
again-infix op left right on_left on_right between budget asked rest so deep fits follows =
    let level : Level = binary_level op in
    let here = and_parts (allows asked level) _ so in
    let both = and_parts (stands (left_level level) left) _ here.1 in
    let numbers = and_parts (numbers_fit left) _ fits in
    let same = infix_nesting op (max (nesting left) (nesting right)) between in
    let left_allowed = stands_allowed (left_level level) left both.0 in
    let right_order = allows_is (right_level level) (level_of right) (stands_allowed (right_level level) right both.1) in
    let up = rises op between in
    let asked_order = allows_is asked level here.0 in
    let left_order = allows_is (left_level level) (level_of left) left_allowed in
    let left_bound = left_within op between in
    let behind : List Token = phrase_tokens right ++ rest in
    let found : Front = (expr.Binary op (tree_of left) (tree_of right), level, rest) in
    ap (λ all. read budget asked (all ++ rest)) (infix_tokens op (phrase_tokens left) (phrase_tokens right) between)
    ∙ ap (read budget asked) (append_assoc (phrase_tokens left) (operation op ∷ phrase_tokens right) rest)
    ∙ on_left budget asked (operation op ∷ behind) (stands_where (left_level level) asked left both.0 (allows_from asked (level_of left) (omega arith)))
    (omega arith) numbers.0 (follows_operation op (level_of left) behind between left_allowed)
    ∙ ap (with_right (read budget) (climb (read budget) asked behind) (tree_of left, level_of left, operation op ∷ behind))
    (infix_at_again asked (level_of left) op behind between here.0 left_allowed)
    ∙ ap (option_and_then (λ (x : Front). climb (read budget) asked behind (expr.Binary op (tree_of left) x.0, level, x.2)))
    (on_right budget (right_level level) rest both.1 (omega arith) numbers.1 (follows_stronger level (level_of right) rest (omega arith) follows)
    ∙ climb_ends (read budget) (right_level level) rest (tree_of right, level_of right, rest)
    (ends (right_level level) (level_of right) level rest (never_right op between) follows))
    ∙ climb_turns (suc budget) (read budget) asked behind rest found (read_is budget) (omega (arith, length-append (phrase_tokens right) rest)) (omega arith)

-- A call of two operands.
again-call : (op : BinOp) (left right : Phrase) → Again left → Again right → is_infix op ≡ false → Again (phrase.Binary op left right)
unfolding operand_at
again-call by.Min left right on_left on_right called budget asked rest so deep fits follows =
    let here = and_parts (allows asked Primary) _ so in
    let both = and_parts (stands Whole left) _ here.1 in
    let numbers = and_parts (numbers_fit left) _ fits in
    by_operand (phrase.Binary by.Min left right) budget asked rest
    (pair_again (deeper budget) by.Min (phrase_tokens left) (phrase_tokens right) rest (tree_of left) (tree_of right) (level_of left) (level_of right)
    (whole_again left on_left budget (symbol sign.Comma ∷ (phrase_tokens right ++ (symbol sign.Close ∷ rest))) tt both.0 (omega arith) numbers.0)
    (whole_again right on_right budget (symbol sign.Close ∷ rest) tt both.1 (omega arith) numbers.1))
again-call by.Max left right on_left on_right called budget asked rest so deep fits follows =
    let here = and_parts (allows asked Primary) _ so in
    let both = and_parts (stands Whole left) _ here.1 in
    let numbers = and_parts (numbers_fit left) _ fits in
    by_operand (phrase.Binary by.Max left right) budget asked rest
    (pair_again (deeper budget) by.Max (phrase_tokens left) (phrase_tokens right) rest (tree_of left) (tree_of right) (level_of left) (level_of right)
    (whole_again left on_left budget (symbol sign.Comma ∷ (phrase_tokens right ++ (symbol sign.Close ∷ rest))) tt both.0 (omega arith) numbers.0)
    (whole_again right on_right budget (symbol sign.Close ∷ rest) tt both.1 (omega arith) numbers.1))
again-call by.Add left right on_left on_right called budget asked rest so deep fits follows = absurd (cc)
again-call _ left right on_left on_right called budget asked rest so deep fits follows = absurd (cc)

-- An operation on two operands is the one or the other.
again-Binary : (op : BinOp) (left right : Phrase) (between : Bool) → is_infix op ≡ between → Again left → Again right → Again (phrase.Binary op left right)
again-Binary op left right true is on_left on_right = again-infix op left right on_left on_right is
again-Binary op left right false is on_left on_right = again-call op left right on_left on_right is

-- A call of `clamp`, and a choice.
again-Clamp : (value low high : Phrase) → Again value → Again low → Again high → Again (phrase.Clamp value low high)
unfolding operand_at
again-Clamp value low high on_value on_low on_high budget asked rest so deep fits follows =
    let first = and_parts (stands Whole value) _ so in
    let others = and_parts (stands Whole low) _ first.1 in
    let number = and_parts (numbers_fit value) _ fits in
    let numbers = and_parts (numbers_fit low) _ number.1 in
    let last : List Token = symbol sign.Comma ∷ (phrase_tokens high ++ (symbol sign.Close ∷ rest)) in
    by_operand (phrase.Clamp value low high) budget asked rest
    (clamp_again (deeper budget) (phrase_tokens value) (phrase_tokens low) (phrase_tokens high) rest (tree_of value) (tree_of low) (tree_of high)
    (level_of value) (level_of low) (level_of high)
    (whole_again value on_value budget (symbol sign.Comma ∷ (phrase_tokens low ++ last)) tt first.0 (omega arith) number.0)
    (whole_again low on_low budget last tt others.0 (omega arith) numbers.0)
    (whole_again high on_high budget (symbol sign.Close ∷ rest) tt others.1 (omega arith) numbers.1))

again-Choose : (condition chosen other : Phrase) → Again condition → Again chosen → Again other → Again (phrase.Choose condition chosen other)
unfolding operand_at
again-Choose condition chosen other on_condition on_chosen on_other budget asked rest so deep fits follows =
    let here = and_parts (allows asked Whole) _ so in
    let first = and_parts (stands Whole condition) _ here.1 in
    let others = and_parts (stands Whole chosen) _ first.1 in
    let number = and_parts (numbers_fit condition) _ fits in
    let numbers = and_parts (numbers_fit chosen) _ number.1 in
    let last : List Token = keyword word.Else ∷ (phrase_tokens other ++ rest) in
    by_operand (phrase.Choose condition chosen other) budget asked rest
    (rw here.0
    (choice_again (deeper budget) (phrase_tokens condition) (phrase_tokens chosen) (phrase_tokens other) rest (tree_of condition) (tree_of chosen)
    (tree_of other) (level_of condition) (level_of chosen) (level_of other)
    (whole_again condition on_condition budget (keyword word.Then ∷ (phrase_tokens chosen ++ last)) tt first.0 (omega arith) number.0)
    (whole_again chosen on_chosen budget last tt others.0 (omega arith) numbers.0)
    (whole_again other on_other budget rest follows others.1 (omega arith) numbers.1)))

-- Any expression of the grammar is read again from its tokens, wherever it is allowed.
pub read_again : (written : Phrase) → Again written
unfolding operand_at
read_again (phrase.Number digits decimals) =
    λ budget asked rest so deep fits follows. by_operand (phrase.Number digits decimals) budget asked rest (rw fits refl)
read_again (phrase.Truth true) = λ budget asked rest so deep fits follows. by_operand (phrase.Truth true) budget asked rest refl
read_again (phrase.Truth false) = λ budget asked rest so deep fits follows. by_operand (phrase.Truth false) budget asked rest refl
read_again (phrase.Var name) = λ budget asked rest so deep fits follows. by_operand (phrase.Var name) budget asked rest refl
read_again phrase.Time = λ budget asked rest so deep fits follows. by_operand phrase.Time budget asked rest refl
read_again phrase.Step = λ budget asked rest so deep fits follows. by_operand phrase.Step budget asked rest refl
read_again (phrase.Parens inner) = again-Parens inner (read_again inner)
read_again (phrase.Unary op arg) = again-Unary op arg (read_again arg)
read_again (phrase.Binary op left right) = again-Binary op left right (is_infix op) refl (read_again left) (read_again right)
read_again (phrase.Clamp value low high) = again-Clamp value low high (read_again value) (read_again low) (read_again high)
read_again (phrase.Choose condition chosen other) = again-Choose condition chosen other (read_again condition) (read_again chosen) (read_again other)
read_again phrase.Absent = λ budget asked rest so deep fits follows. by_operand phrase.Absent budget asked rest refl
read_again (phrase.Present name) = λ budget asked rest so deep fits follows. by_operand (phrase.Present name) budget asked rest (present_again name rest)
