-- The steps of the component of a table.
use Rattle.std.proofs.Common.{◌≡◌, ℕ, suc, ◌+◌, ◌-◌, ◌^◌, ◌<◌, ◌≤◌, nat_le, nat_lt, Bool, true, false, ℤ, pos, negsuc, List, [], ◌∷◌, ◌++◌, map, length, length-append, unsigned_abs, if◌then◌else◌, None, Ok, Err, refl, sym, ap, ap₂, subst, ◌∙◌, append_assoc, arith}
use Rattle.std.specs.Prelude.{◌-ℤ◌, neg_ℤ, int_le, int_lt}
use Rattle.std.specs.List.{AllByRecursion, filter}
use Rattle.std.specs.Int.{is_negative}
use Rattle.std.specs.Str.{bytes_eq}
use Rattle.std.proofs.lemmas.Int.{ints}
use Rattle.language_laws.proofs.LineLaws.{same_name}
use Rattle.fixed_words.specs.Operations.{sum, difference, negated, word_of}
use Rattle.fixed_words.specs.Types.{is_word_of}
use Rattle.fixed_words.specs.declared.types.Fault.TheVariants.{Range, Overflow}
use Rattle.fixed_words.specs.declared.types.Kind.TheVariants as kinds
use Rattle.fixed_words.specs.declared.types.Ty.TheVariants as types
use Rattle.unit_tree.specs.Components.{variable}
use Rattle.unit_tree.specs.Effects.{effect_of, effect_of_lines, in_sequence, stored, assigned, otherwise}
use Rattle.unit_tree.specs.Values.{◌>>=◌, value_of, truth, holds, as_kind}
use Rattle.unit_tree.specs.declared.environment.Environment.{Environment}
use Rattle.unit_tree.specs.declared.environment.Value.{Value}
use Rattle.unit_tree.specs.declared.environment.Variable.{Variable}
use Rattle.unit_tree.specs.declared.expr.BinOp.TheVariants as by
use Rattle.unit_tree.specs.declared.expr.Expr as expr
use Rattle.unit_tree.specs.declared.expr.UnOp.TheVariants as of
use Rattle.unit_tree.specs.declared.line.Line as line
use Rattle.unit_tree.specs.declared.unit.State.{State}
use Rattle.language_laws.proofs.MeaningLemmas.{value-Number, value-Time, value-Step, value-Unary, value-Binary, value-Choose, effect-Assign, effect-If}
use Rattle.stimulus_tables.specs.TableSystems.{last_of, held, number, until, is_before, is_reached, to_next, sets_from, states_from, takes}
use Rattle.stimulus_tables.specs.Tables.{state_name}
use Rattle.stimulus_tables.specs.declared.moment.Moment.{Moment}
use Rattle.stimulus_tables.proofs.StateNames.{other_state}
use Rattle.list_laws.proofs.Truths.{not_negative}

-- ---- Words

small_word : (n : ℕ) → n ≤ 2000000000 → is_word_of types.Int64 (pos n) ≡ true
small_word n le = grind (arith, ints)

pub entry_is_word : (word : ℤ) → unsigned_abs word ≤ 10 ^ 15 → is_word_of types.Int64 word ≡ true
entry_is_word (pos n) small = grind (arith, ints)
entry_is_word (negsuc n) small = grind (arith, ints)

abbrev int : ℤ → Value
int word = record { kind = kinds.Int; word = word }

-- ---- The chain

until_value : (time : ℕ) (env : Environment) → time ≤ 1000000000 → env.time < time → value_of (until time) env ≡ Ok (record { kind = kinds.Int; word = pos (time - env.time) })
until_value time env small later =
    value-Binary by.Sub (expr.Number (pos time) 0) expr.Time env
    ∙ ap₂ (λ one other. one >>= λ x. (other >>= λ y. as_kind x.kind (difference x.word y.word))) (value-Number (pos time) 0 env) (value-Time env)
    ∙ ap (λ z. as_kind kinds.Int (word_of z)) exact
    ∙ ap (λ b. as_kind kinds.Int (if b then Ok (pos (time - env.time)) else Err Overflow)) (small_word (time - env.time) (omega (arith, small)))
  where
    exact : pos time -ℤ pos env.time ≡ pos (time - env.time)
    exact = omega (arith, ints)

before_value : (time : ℕ) (env : Environment) → value_of (expr.Binary by.Lt expr.Time (expr.Number (pos time) 0)) env ≡ Ok (truth (nat_lt env.time time))
before_value time env =
    value-Binary by.Lt expr.Time (expr.Number (pos time) 0) env
    ∙ ap₂ (λ one other. one >>= λ x. (other >>= λ y. Ok (truth (int_lt x.word y.word)))) (value-Time env) (value-Number (pos time) 0 env)

holds_truth : (b : Bool) → holds (truth b) ≡ b
holds_truth true = refl
holds_truth false = refl

-- The next time after a time: the first one that is later, and the last one where none is.
abbrev pub next_time : ℕ → List Moment → ℕ → ℕ
next_time first [] t = first
next_time first (second ∷ others) t = if nat_lt t first then first else next_time second.time others t

abbrev pub IsTimely : Moment → Type 0
IsTimely moment = moment.time ≤ 1000000000

pub chain_value : (first : ℕ) (others : List Moment) (env : Environment) → first ≤ 1000000000 → AllByRecursion IsTimely others → env.time < next_time first others env.time
    → value_of (to_next first others) env ≡ Ok (record { kind = kinds.Int; word = pos (next_time first others env.time - env.time) })
chain_value first [] env small smalls later = until_value first env small later
chain_value first (second ∷ others) env small smalls later =
    value-Choose (is_before first) (until first) (to_next second.time others) env
    ∙ ap (λ one. one >>= λ c. (if holds c then value_of (until first) env else value_of (to_next second.time others) env)) (before_value first env)
    ∙ ap (λ b. if b then value_of (until first) env else value_of (to_next second.time others) env) (holds_truth (nat_lt env.time first))
    ∙ choose (λ l. until_value first env small l) (chain_value second.time others env smalls.0 smalls.1) (nat_lt env.time first) refl
  where
    choose : (env.time < first → value_of (until first) env ≡ Ok (int (pos (first - env.time))))
        → (env.time < next_time second.time others env.time → value_of (to_next second.time others) env ≡ Ok (int (pos (next_time second.time others env.time - env.time))))
        → (b : Bool) → nat_lt env.time first ≡ b
        → (if b then value_of (until first) env else value_of (to_next second.time others) env)
        ≡ Ok (int (pos ((if nat_lt env.time first then first else next_time second.time others env.time) - env.time)))
    choose here on true e = here (grind (arith, e)) ∙ ap (λ c. Ok (int (pos ((if c then first else next_time second.time others env.time) - env.time)))) (sym e)
    choose here on false e =
        on (subst (λ c. env.time < (if c then first else next_time second.time others env.time)) e later)
        ∙ ap (λ c. Ok (int (pos ((if c then first else next_time second.time others env.time) - env.time)))) (sym e)

-- ---- The lines

negative : (n : ℕ) → is_negative (negsuc n) ≡ true
negative n = grind (arith, ints)

number_value : (word : ℤ) (env : Environment) → unsigned_abs word ≤ 10 ^ 15 → value_of (number word) env ≡ Ok (record { kind = kinds.Int; word = word })
number_value (pos n) env is = ap (λ b. value_of (if b then expr.Unary of.Neg (expr.Number (pos (unsigned_abs (pos n))) 0) else expr.Number (pos n) 0) env) (not_negative n) ∙ value-Number (pos n) 0 env
number_value (negsuc n) env is =
    ap (λ b. value_of (if b then expr.Unary of.Neg (expr.Number (pos (unsigned_abs (negsuc n))) 0) else expr.Number (negsuc n) 0) env) (negative n)
    ∙ value-Unary of.Neg (expr.Number (pos (unsigned_abs (negsuc n))) 0) env
    ∙ ap (λ one. one >>= λ x. as_kind x.kind (negated x.word)) (value-Number (pos (unsigned_abs (negsuc n))) 0 env)
    ∙ ap (λ k. as_kind kinds.Int (word_of (neg_ℤ (pos k)))) magnitude
    ∙ ap (λ b. as_kind kinds.Int (if b then Ok (negsuc n) else Err Overflow)) (entry_is_word (negsuc n) is)
  where
    magnitude : unsigned_abs (negsuc n) ≡ suc n
    magnitude = omega arith

-- ---- States

-- The variables of states, the first of which has this number.
abbrev pub slots : ℕ → List ℤ → List Variable
slots first [] = []
slots first (word ∷ words) = variable (state_name first) types.Int64 ∷ slots (first + 1) words

pub slots_are : (first : ℕ) (words : List ℤ) → map (λ (state : State). variable state.name state.ty) (states_from first words) ≡ slots first words
slots_are first [] = refl
slots_are first (word ∷ words) = ap (λ rest. variable (state_name first) types.Int64 ∷ rest) (slots_are (first + 1) words)

pub same_slots : (first : ℕ) (one other : List ℤ) → length one ≡ length other → slots first one ≡ slots first other
same_slots first [] [] same = refl
same_slots first [] (word ∷ other) same = absurd (omega arith)
same_slots first (word ∷ one) [] same = absurd (omega arith)
same_slots first (word ∷ one) (next ∷ other) same = ap (λ rest. variable (state_name first) types.Int64 ∷ rest) (same_slots (first + 1) one other (omega arith))

-- No variable has the name of a state from this number on.
abbrev pub AreBefore : ℕ → List Variable → Type 0
AreBefore first front = AllByRecursion (λ (v : Variable). (at : ℕ) → first ≤ at → at < 64 → bytes_eq v.name (state_name at) ≡ false) front

pub one_before : (first : ℕ) (front : List Variable) → AreBefore first front → first < 64 → AreBefore (first + 1) (front ++ (variable (state_name first) types.Int64 ∷ []))
one_before first [] before few = (λ at from below. other_state first at few below (λ same. absurd (omega arith)), tt)
one_before first (v ∷ front) before few = (λ at from below. before.0 at (omega arith) below, one_before first front before.1 few)

stored_behind : (front rest : List Variable) (name : List ℕ) (before : List ℤ) (old word : ℤ) (later : List ℤ)
    → AllByRecursion (λ (v : Variable). bytes_eq v.name name ≡ false) front → length before ≡ length front → is_word_of types.Int64 word ≡ true
    → stored (front ++ (variable name types.Int64 ∷ rest)) (before ++ (old ∷ later)) name word ≡ Ok (before ++ (word ∷ later))
stored_behind [] rest name [] old word later differ one_each is =
    ap (λ b. if b then (if is_word_of types.Int64 word then Ok (word ∷ later) else Err Range) else (stored rest later name word >>= λ changed. Ok (old ∷ changed))) (same_name name)
    ∙ ap (λ b. if b then Ok (word ∷ later) else Err Range) is
stored_behind [] rest name (b ∷ before) old word later differ one_each is = absurd (omega arith)
stored_behind (other ∷ front) rest name [] old word later differ one_each is = absurd (omega arith)
stored_behind (other ∷ front) rest name (b ∷ before) old word later differ one_each is =
    ap (λ c. if c then (if is_word_of other.ty word then Ok (word ∷ (before ++ (old ∷ later))) else Err Range) else (stored (front ++ (variable name types.Int64 ∷ rest)) (before ++ (old ∷ later)) name word >>= λ changed. Ok (b ∷ changed))) differ.0
    ∙ ap (λ r. r >>= λ changed. Ok (b ∷ changed)) (stored_behind front rest name before old word later differ.1 (omega arith) is)

differs_here : (first : ℕ) (front : List Variable) → AreBefore first front → first < 64 → AllByRecursion (λ (v : Variable). bytes_eq v.name (state_name first) ≡ false) front
differs_here first [] before few = tt
differs_here first (v ∷ front) before few = (before.0 first (omega arith) few, differs_here first front before.1 few)

abbrev pub AreEntries : List ℤ → Type 0
AreEntries words = AllByRecursion (λ word. unsigned_abs word ≤ 10 ^ 15) words

pub sets_words : (first : ℕ) (front : List Variable) (before old new : List ℤ) (env : Environment) → AreBefore first front → first + length new ≤ 64
    → env.variables ≡ front ++ slots first old → env.words ≡ before ++ old → length before ≡ length front → length new ≡ length old → AreEntries new
    → effect_of_lines (sets_from first new) env ≡ Ok (record env { words = before ++ new })
sets_words first front before [] [] env apart few vars words one_each many are = ap (λ ws. Ok (record env { words = ws })) words
sets_words first front before (o ∷ old) [] env apart few vars words one_each many are = absurd (omega arith)
sets_words first front before [] (w ∷ new) env apart few vars words one_each many are = absurd (omega arith)
sets_words first front before (o ∷ old) (w ∷ new) env apart few vars words one_each many are =
    ap (λ r. r >>= in_sequence (map effect_of (sets_from (first + 1) new))) here
    ∙ sets_words (first + 1) (front ++ (variable (state_name first) types.Int64 ∷ [])) (before ++ (w ∷ [])) old new (record env { words = before ++ (w ∷ old) })
    (one_before first front apart (omega (arith, few))) (omega (arith, few))
    (vars ∙ sym (append_assoc front (variable (state_name first) types.Int64 ∷ []) (slots (first + 1) old)))
    (sym (append_assoc before (w ∷ []) old))
    (omega (arith, length-append before (w ∷ []), length-append front (variable (state_name first) types.Int64 ∷ []), one_each)) (omega (arith, many)) are.1
    ∙ ap (λ ws. Ok (record env { words = ws })) (append_assoc before (w ∷ []) new)
  where
    here : effect_of (line.Assign (state_name first) (number w)) env ≡ Ok (record env { words = before ++ (w ∷ old) })
    here =
        effect-Assign (state_name first) (number w) env
        ∙ ap (λ r. r >>= λ v. assigned (state_name first) v.word env) (number_value w env are.0)
        ∙ ap₂ (λ vs ws. stored vs ws (state_name first) w >>= λ changed. Ok (record env { words = changed })) vars words
        ∙ ap (λ r. r >>= λ changed. Ok (record env { words = changed }))
        (stored_behind front (slots (first + 1) old) (state_name first) before o w old (differs_here first front apart (omega (arith, few))) one_each (entry_is_word w are.0))

reached_value : (time : ℕ) (env : Environment) → env.time + env.step ≤ 1000000000 → value_of (is_reached time) env ≡ Ok (truth (nat_le time (env.time + env.step)))
reached_value time env small =
    value-Binary by.Ge (expr.Binary by.Add expr.Time expr.Step) (expr.Number (pos time) 0) env
    ∙ ap₂ (λ one other. one >>= λ x. (other >>= λ y. Ok (truth (int_le y.word x.word)))) added (value-Number (pos time) 0 env)
  where
    added : value_of (expr.Binary by.Add expr.Time expr.Step) env ≡ Ok (record { kind = kinds.Int; word = pos (env.time + env.step) })
    added =
        value-Binary by.Add expr.Time expr.Step env
        ∙ ap₂ (λ one other. one >>= λ x. (other >>= λ y. as_kind x.kind (sum x.word y.word))) (value-Time env) (value-Step env)
        ∙ ap (λ b. as_kind kinds.Int (if b then Ok (pos (env.time + env.step)) else Err Overflow)) (small_word (env.time + env.step) (omega (arith, small)))

-- A moment with so many words, which are not too large.
pub record IsTaken (many : ℕ) (moment : Moment) : Type 0 where
  pub many_words : length moment.words ≡ many
  pub timely : moment.time ≤ 1000000000
  pub words : AreEntries moment.words

takes_effect : (many : List ℤ) (moment : Moment) (env : Environment) → length many ≤ 16 → IsTaken (length many) moment → env.variables ≡ slots 0 many
    → length env.words ≡ length many → env.time + env.step ≤ 1000000000
    → effect_of (takes moment) env ≡ Ok (record env { words = if nat_le moment.time (env.time + env.step) then moment.words else env.words })
takes_effect many moment env few is vars one_each small =
    effect-If (is_reached moment.time) (sets_from 0 moment.words) env
    ∙ ap (λ r. r >>= λ c. (if holds c then effect_of_lines (sets_from 0 moment.words) env else otherwise None env)) (reached_value moment.time env small)
    ∙ ap (λ b. if b then effect_of_lines (sets_from 0 moment.words) env else Ok env) (holds_truth (nat_le moment.time (env.time + env.step)))
    ∙ choose (nat_le moment.time (env.time + env.step))
  where
    choose : (b : Bool) → (if b then effect_of_lines (sets_from 0 moment.words) env else Ok env) ≡ Ok (record env { words = if b then moment.words else env.words })
    choose true =
        sets_words 0 [] [] env.words moment.words env tt (omega (arith, is.many_words, few)) (vars ∙ same_slots 0 many env.words (sym one_each)) refl refl
        (is.many_words ∙ sym one_each) is.words
    choose false = refl

pub held_more : (first : List ℤ) (moment : Moment) (moments : List Moment) (t : ℕ) → held (if nat_le moment.time t then moment.words else first) moments t ≡ held first (moment ∷ moments) t
held_more first moment moments t = by_test (nat_le moment.time t) refl
  where
    words_of : List Moment → List (List ℤ)
    words_of moments = map (λ (m : Moment). m.words) moments

    by_test : (b : Bool) → nat_le moment.time t ≡ b → held (if b then moment.words else first) moments t ≡ held first (moment ∷ moments) t
    by_test true e = sym (ap (λ b. last_of first (words_of (if b then moment ∷ filter (λ m. nat_le m.time t) moments else filter (λ m. nat_le m.time t) moments))) e)
    by_test false e = sym (ap (λ b. last_of first (words_of (if b then moment ∷ filter (λ m. nat_le m.time t) moments else filter (λ m. nat_le m.time t) moments))) e)

pub step_holds : (many : List ℤ) (moments : List Moment) (env : Environment) → length many ≤ 16 → AllByRecursion (IsTaken (length many)) moments
    → env.variables ≡ slots 0 many → length env.words ≡ length many → env.time + env.step ≤ 1000000000
    → effect_of_lines (map takes moments) env ≡ Ok (record env { words = held env.words moments (env.time + env.step) })
step_holds many [] env few are vars one_each small = refl
step_holds many (moment ∷ moments) env few are vars one_each small =
    ap (λ r. r >>= in_sequence (map effect_of (map takes moments))) (takes_effect many moment env few are.0 vars one_each small)
    ∙ step_holds many moments (record env { words = if nat_le moment.time (env.time + env.step) then moment.words else env.words }) few are.1 vars
    (as_many (nat_le moment.time (env.time + env.step))) small
    ∙ ap (λ ws. Ok (record env { words = ws })) (held_more env.words moment moments (env.time + env.step))
  where
    as_many : (b : Bool) → length (if b then moment.words else env.words) ≡ length many
    as_many true = are.0.many_words
    as_many false = one_each
