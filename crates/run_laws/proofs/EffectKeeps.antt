-- Step lines keep words in their types, and accept at most the whole step.
use Rattle.std.proofs.Common.{◌≡◌, ℕ, zero, suc, ◌≤◌, cond, Bool, true, false, ◌⊎◌, ℤ, pos, negsuc, List, [], ◌∷◌, ◌++◌, map, length, take, drop, Option, Some}
use Rattle.std.proofs.Common.{None, Result, Ok, Err, append_assoc, inl, inr, refl, ap, sym, subst, ◌∙◌, arith}
use Rattle.std.specs.Prelude.{⊤, int_le, unsigned_abs}
use Rattle.std.specs.List.{AllByRecursion}
use Rattle.std.specs.Option.{IfSome}
use Rattle.std.specs.Str.{bytes_eq}
use Rattle.std.proofs.lemmas.Bool.{and_parts, false≢true}
use Rattle.std.proofs.lemmas.List.{length-map}
use Rattle.std.proofs.lemmas.Bool.Decides.{nat_tests}
use Rattle.fixed_words.specs.Types.{is_word_of, is_between}
use Rattle.fixed_words.specs.declared.types.Fault.{Fault}
use Rattle.fixed_words.specs.declared.types.Fault.TheVariants.{Range, Accept}
use Rattle.unit_tree.specs.Components.{Component, Moved, variable, environment_of, state_in, moved_by, step_of}
use Rattle.unit_tree.specs.Effects.{Effect, stored, assigned, accepting, in_sequence, times, otherwise, line_effect, effect_of, effect_of_lines}
use Rattle.run_laws.specs.RunLaws.{KeepsWords}
use Rattle.unit_tree.specs.Trace.{AreWordsOf}
use Rattle.unit_tree.specs.Values.{◌>>=◌, holds, value_of}
use Rattle.unit_tree.specs.declared.environment.Environment.{Environment}
use Rattle.unit_tree.specs.declared.environment.Variable.{Variable}
use Rattle.unit_tree.specs.declared.line.Line.{Line}
use Rattle.unit_tree.specs.declared.line.Line.TheFolds.{ind-Line, map-Line, fold-roll-Line}
use Rattle.unit_tree.specs.declared.line.Line.TheViews.{roll-Line}
use Rattle.unit_tree.specs.declared.line.Line.TheOpen.{Line-F}
use Rattle.unit_tree.specs.declared.unit.State.{State}

-- The step after a result that had no fault.
pub record Bound {A B : Type 0} (first : Result A Fault) (next : A → Result B Fault) (last : B) : Type 0 where
  pub between : A
  pub was : first ≡ Ok between
  pub then_is : next between ≡ Ok last

pub bound : {A B : Type 0} (first : Result A Fault) (next : A → Result B Fault) (last : B) → (first >>= next) ≡ Ok last → Bound first next last
bound (Ok between) next last is = record { between = between; was = refl; then_is = is }
bound (Err fault) next last is = absurd (cc)

abbrev pub done : {A : Type 0} → A → Result A Fault
done result = Ok result

pub done_is : {A : Type 0} (one other : A) → done one ≡ done other → one ≡ other
done_is one other is = cc

-- ---- Words

-- Each word of variables is unchanged, or is one of its variable's type.
abbrev pub Kept : List Variable → List ℤ → List ℤ → Type 0
Kept (first ∷ variables) (old ∷ olds) (new ∷ news) = ((new ≡ old) ⊎ (is_word_of first.ty new ≡ true)) × Kept variables olds news
Kept (first ∷ variables) (old ∷ olds) [] = ⊥
Kept (first ∷ variables) [] news = news ≡ []
Kept [] olds news = news ≡ olds

pub kept_same : (variables : List Variable) (words : List ℤ) → Kept variables words words
kept_same [] words = refl
kept_same (first ∷ variables) [] = refl
kept_same (first ∷ variables) (word ∷ words) = (inl refl, kept_same variables words)

pub kept_one : (first : Variable) (old between new : ℤ) → (between ≡ old) ⊎ (is_word_of first.ty between ≡ true)
    → (new ≡ between) ⊎ (is_word_of first.ty new ≡ true) → (new ≡ old) ⊎ (is_word_of first.ty new ≡ true)
kept_one first old between new one (inr fits) = inr fits
kept_one first old between new (inl same) (inl is) = inl (is ∙ same)
kept_one first old between new (inr fits) (inl is) = inr (ap (is_word_of first.ty) is ∙ fits)

pub kept_both : (variables : List Variable) (olds betweens news : List ℤ) → Kept variables olds betweens → Kept variables betweens news
    → Kept variables olds news
kept_both [] olds betweens news one other = other ∙ one
kept_both (first ∷ variables) [] [] news one other = other
kept_both (first ∷ variables) [] (between ∷ betweens) news one other = absurd (cc)
kept_both (first ∷ variables) (old ∷ olds) [] news one other = absurd one
kept_both (first ∷ variables) (old ∷ olds) (between ∷ betweens) [] one other = absurd other
kept_both (first ∷ variables) (old ∷ olds) (between ∷ betweens) (new ∷ news) one other =
    (kept_one first old between new one.0 other.0, kept_both variables olds betweens news one.1 other.1)

-- With whether the first variable has the name, and whether the word is one of its type.
pub stored_by : (named fits : Bool) (first : Variable) (variables : List Variable) (old : ℤ) (words changed : List ℤ) (name : List ℕ) (word : ℤ)
    → is_word_of first.ty word ≡ fits → ((rest : List ℤ) → stored variables words name word ≡ Ok rest → Kept variables words rest)
    → cond named (cond fits (Ok (word ∷ words)) (Err Range)) (stored variables words name word >>= λ rest. Ok (old ∷ rest)) ≡ Ok changed
    → Kept (first ∷ variables) (old ∷ words) changed
stored_by true true first variables old words changed name word is later done =
    let same : word ∷ words ≡ changed = cc in
    subst (Kept (first ∷ variables) (old ∷ words)) same (inr is, kept_same variables words)
stored_by true false first variables old words changed name word is later done = absurd (cc)
stored_by false fits first variables old words changed name word is later done =
    let rest = bound (stored variables words name word) (λ rest. Ok (old ∷ rest)) changed done in
    subst (Kept (first ∷ variables) (old ∷ words)) (done_is (old ∷ rest.between) changed rest.then_is) (inl refl, later rest.between rest.was)

pub stored_keeps : (variables : List Variable) (words changed : List ℤ) (name : List ℕ) (word : ℤ) → stored variables words name word ≡ Ok changed
    → Kept variables words changed
stored_keeps [] words changed name word is = cc
stored_keeps (first ∷ variables) [] changed name word is = cc
stored_keeps (first ∷ variables) (old ∷ words) changed name word is =
    stored_by (bytes_eq first.name name) (is_word_of first.ty word) first variables old words changed name word refl
    (λ rest. stored_keeps variables words rest name word) is

-- ---- Effects

-- What an effect does not change in an environment.
pub record KeepsEnv (env after : Environment) : Type 0 where
  pub variables : after.variables ≡ env.variables
  pub words : Kept env.variables env.words after.words
  pub step : after.step ≡ env.step
  pub accepted : env.accepted ≤ env.step → after.accepted ≤ after.step

abbrev pub Keeps : Effect → Type 0
Keeps effect = (env after : Environment) → effect env ≡ Ok after → KeepsEnv env after

pub env_same : (env : Environment) → KeepsEnv env env
env_same env = record { variables = refl; words = kept_same env.variables env.words; step = refl; accepted = λ within. within }

pub env_both : (env between after : Environment) → KeepsEnv env between → KeepsEnv between after → KeepsEnv env after
env_both env between after one other = record {
  variables = other.variables ∙ one.variables;
  words = kept_both env.variables env.words between.words after.words one.words
      (subst (λ variables. Kept variables between.words after.words) one.variables other.words);
  step = other.step ∙ one.step;
  accepted = λ within. other.accepted (one.accepted within);
}

pub env_is : (env one other : Environment) → done one ≡ done other → KeepsEnv env one → KeepsEnv env other
env_is env one other is keeps = subst (KeepsEnv env) (done_is one other is) keeps

pub in_sequence_keeps : (effects : List Effect) → AllByRecursion Keeps effects → Keeps (in_sequence effects)
in_sequence_keeps [] all env after is = env_is env env after is (env_same env)
in_sequence_keeps (effect ∷ effects) all env after is =
    let first = bound (effect env) (in_sequence effects) after is in
    env_both env first.between after (all.0 env first.between first.was) (in_sequence_keeps effects all.1 first.between after first.then_is)

pub times_keeps : (count : ℕ) (effect : Effect) → Keeps effect → Keeps (times count effect)
times_keeps zero effect keeps env after is = env_is env env after is (env_same env)
times_keeps (suc count) effect keeps env after is =
    let first = bound (effect env) (times count effect) after is in
    env_both env first.between after (keeps env first.between first.was) (times_keeps count effect keeps first.between after first.then_is)

pub assigned_keeps : (name : List ℕ) (word : ℤ) → Keeps (assigned name word)
assigned_keeps name word env after is =
    let changed = bound (stored env.variables env.words name word) (λ changed. Ok (record env { words = changed })) after is in
    env_is env (record env { words = changed.between }) after changed.then_is (record {
      variables = refl;
      words = stored_keeps env.variables env.words changed.between name word changed.was;
      step = refl;
      accepted = λ within. within;
    })

pub length_within : (length : ℤ) (step : ℕ) → is_between (pos 0) (pos step) length ≡ true → unsigned_abs length ≤ step
length_within (pos k) step within =
    let both = and_parts (int_le (pos 0) (pos k)) (int_le (pos k) (pos step)) within in
    let told = both.1 in
    grind (arith, nat_tests)
length_within (negsuc k) step within =
    let both = and_parts (int_le (pos 0) (negsuc k)) (int_le (negsuc k) (pos step)) within in
    absurd (false≢true both.0)

-- With whether the length is allowed.
pub accepting_by : (allowed : Bool) (length : ℤ) (env after : Environment) → is_between (pos 0) (pos env.step) length ≡ allowed
    → cond allowed (Ok (record env { accepted = unsigned_abs length })) (Err Accept) ≡ Ok after → KeepsEnv env after
accepting_by true length env after within is =
    env_is env (record env { accepted = unsigned_abs length }) after is (record {
      variables = refl;
      words = kept_same env.variables env.words;
      step = refl;
      accepted = λ _. length_within length env.step within;
    })
accepting_by false length env after within is = absurd (cc)

pub accepting_keeps : (length : ℤ) → Keeps (accepting length)
accepting_keeps length env after is = accepting_by (is_between (pos 0) (pos env.step) length) length env after refl is

pub otherwise_keeps : (effects : Option (List Effect)) → IfSome effects (AllByRecursion Keeps) → Keeps (otherwise effects)
otherwise_keeps None all env after is = env_is env env after is (env_same env)
otherwise_keeps (Some effects) all env after is = in_sequence_keeps effects all env after is

-- ---- Lines

pub branch_keeps : (told : Bool) (then_lines : List Effect) (else_lines : Option (List Effect)) → AllByRecursion Keeps then_lines
    → IfSome else_lines (AllByRecursion Keeps) → (env after : Environment) → cond told (in_sequence then_lines env) (otherwise else_lines env) ≡ Ok after
    → KeepsEnv env after
branch_keeps true then_lines else_lines on_then on_else env after is = in_sequence_keeps then_lines on_then env after is
branch_keeps false then_lines else_lines on_then on_else env after is = otherwise_keeps else_lines on_else env after is

-- The effects of the lines of blocks are given.
abbrev pub BlocksKeep : Line-F Effect → Type 0
BlocksKeep (Line-F.Assign target value) = ⊤
BlocksKeep (Line-F.If cond then_lines else_lines) = AllByRecursion Keeps then_lines × IfSome else_lines (AllByRecursion Keeps)
BlocksKeep (Line-F.Repeat count body) = AllByRecursion Keeps body
BlocksKeep (Line-F.Accept value) = ⊤

pub line_keeps : (open_line : Line-F Effect) → BlocksKeep open_line → Keeps (line_effect open_line)
line_keeps (Line-F.Assign target value) blocks env after is =
    let word = bound (value_of value env) (λ v. assigned target v.word env) after is in
    assigned_keeps target word.between.word env after word.then_is
line_keeps (Line-F.If condition then_lines else_lines) blocks env after is =
    let told = bound (value_of condition env) (λ c. cond (holds c) (in_sequence then_lines env) (otherwise else_lines env)) after is in
    branch_keeps (holds told.between) then_lines else_lines blocks.0 blocks.1 env after told.then_is
line_keeps (Line-F.Repeat count body) blocks env after is = times_keeps count (in_sequence body) (in_sequence_keeps body blocks) env after is
line_keeps (Line-F.Accept value) blocks env after is =
    let length = bound (value_of value env) (λ v. accepting v.word env) after is in
    accepting_keeps length.between.word env after length.then_is

abbrev pub Claim : Line → Type 0
Claim line = Keeps (effect_of line)

abbrev pub Proved : Type 0
Proved = (line : Line) × Claim line

abbrev pub bare : Proved → Line
bare line = line.0

pub all_proved : (lines : List Proved) → AllByRecursion Keeps (map effect_of (map bare lines))
all_proved [] = tt
all_proved (line ∷ lines) = (line.1, all_proved lines)

pub blocks_keep : (y : Line-F Proved) → BlocksKeep (map-Line Line Effect effect_of (map-Line Proved Line bare y))
blocks_keep (Line-F.Assign target value) = tt
blocks_keep (Line-F.If condition then_lines None) = (all_proved then_lines, tt)
blocks_keep (Line-F.If condition then_lines (Some else_lines)) = (all_proved then_lines, all_proved else_lines)
blocks_keep (Line-F.Repeat count body) = all_proved body
blocks_keep (Line-F.Accept value) = tt

pub node : (y : Line-F Proved) → Claim (roll-Line (map-Line Proved Line bare y))
node y =
    subst Keeps (sym (fold-roll-Line Effect line_effect (map-Line Proved Line bare y)))
    (line_keeps (map-Line Line Effect effect_of (map-Line Proved Line bare y)) (blocks_keep y))

pub effect_keeps : (line : Line) → Keeps (effect_of line)
effect_keeps = ind-Line Claim (λ x y is. subst (λ z. Claim (roll-Line z)) is (node y))

pub all_keep : (lines : List Line) → AllByRecursion Keeps (map effect_of lines)
all_keep [] = tt
all_keep (line ∷ lines) = (effect_keeps line, all_keep lines)

pub lines_keep : (lines : List Line) → Keeps (effect_of_lines lines)
lines_keep lines = in_sequence_keeps (map effect_of lines) (all_keep lines)

-- ---- States

pub kept_behind : (front variables : List Variable) (words olds news : List ℤ) → length words ≡ length front → Kept (front ++ variables) (words ++ olds) news
    → Kept variables olds (drop (length words) news)
kept_behind [] variables [] olds news same kept = kept
kept_behind [] variables (word ∷ words) olds news same kept = absurd (omega (arith, same))
kept_behind (first ∷ front) variables [] olds news same kept = absurd (omega (arith, same))
kept_behind (first ∷ front) variables (word ∷ words) olds [] same kept = absurd kept
kept_behind (first ∷ front) variables (word ∷ words) olds (new ∷ news) same kept = kept_behind front variables words olds news (omega (arith, same)) kept.1

pub fits_still : (state : State) (old new : ℤ) → is_word_of state.ty old ≡ true → (new ≡ old) ⊎ (is_word_of state.ty new ≡ true)
    → is_word_of state.ty new ≡ true
fits_still state old new fits (inl same) = ap (is_word_of state.ty) same ∙ fits
fits_still state old new fits (inr is) = is

pub states_keep : (states : List State) (variables : List Variable) (words olds news : List ℤ) → AreWordsOf states words
    → Kept (map (λ state. variable state.name state.ty) states ++ variables) (words ++ olds) news → AreWordsOf states (take (length states) news)
states_keep [] variables words olds news are kept = tt
states_keep (state ∷ states) variables [] olds news are kept = absurd are
states_keep (state ∷ states) variables (word ∷ words) olds [] are kept = absurd kept
states_keep (state ∷ states) variables (word ∷ words) olds (new ∷ news) are kept =
    (fits_still state word new are.0 kept.0, states_keep states variables words olds news are.1 kept.1)

pub four_lists : {A : Type 0} (one two three four : List A) → ((one ++ two) ++ three) ++ four ≡ one ++ (two ++ (three ++ four))
four_lists one two three four = append_assoc (one ++ two) three four ∙ append_assoc one two (three ++ four)

pub moved_keeps : (lines : Option (List Line)) (component : Component) (state inputs : List ℤ) (time step : ℕ) (moved : Moved)
    → length component.params ≡ length component.unit.params → AreWordsOf component.unit.states state
    → moved_by lines component state (environment_of component state inputs time step) ≡ Ok moved → KeepsWords component step moved
moved_keeps None component state inputs time step moved one_each are is =
    let same : record { state = state; accepted = step } ≡ moved = cc in
    subst (KeepsWords component step) same (record { words = are; accepted = omega arith })
moved_keeps (Some lines) component state inputs time step moved one_each are is =
    let env : Environment = environment_of component state inputs time step in
    let after = bound (effect_of_lines lines env) (λ after. Ok (record { state = state_in component after; accepted = after.accepted })) moved is in
    let keeps : KeepsEnv env after.between = lines_keep lines env after.between after.was in
    let names : List Variable = map (λ param. variable param.name param.ty) component.unit.params in
    let others : List Variable =
    map (λ input. variable input.name input.ty) component.unit.inputs ++ map (λ local. variable local.name local.ty) component.unit.locals in
    let behind : List ℤ = inputs ++ map (λ local. pos 0) component.unit.locals in
    let front : length component.params ≡ length names = one_each ∙ sym (length-map component.unit.params (λ param. variable param.name param.ty)) in
    let all : Kept (names ++ (map (λ state. variable state.name state.ty) component.unit.states ++ others))
    (component.params ++ (state ++ behind)) after.between.words =
    subst (λ words. Kept (names ++ (map (λ state. variable state.name state.ty) component.unit.states ++ others)) words after.between.words)
    (four_lists component.params state inputs (map (λ local. pos 0) component.unit.locals))
    (subst (λ variables. Kept variables env.words after.between.words)
    (four_lists names (map (λ state. variable state.name state.ty) component.unit.states) (map (λ input. variable input.name input.ty) component.unit.inputs)
    (map (λ local. variable local.name local.ty) component.unit.locals)) keeps.words) in
    let kept : Kept (map (λ state. variable state.name state.ty) component.unit.states ++ others) (state ++ behind)
    (drop (length component.params) after.between.words) =
    kept_behind names (map (λ state. variable state.name state.ty) component.unit.states ++ others) component.params
    (state ++ behind) after.between.words front all in
    let whole : after.between.accepted ≤ after.between.step = keeps.accepted (omega arith) in
    let same_step : after.between.step ≡ step = keeps.step in
    subst (KeepsWords component step) (done_is (record { state = state_in component after.between; accepted = after.between.accepted }) moved after.then_is)
    (record {
      words = states_keep component.unit.states others state behind (drop (length component.params) after.between.words) are kept;
      accepted = omega arith;
    })

pub step_keeps : (component : Component) (state inputs : List ℤ) (time step : ℕ) (moved : Moved) → length component.params ≡ length component.unit.params
    → AreWordsOf component.unit.states state → step_of component state inputs time step ≡ Ok moved → KeepsWords component step moved
step_keeps component state inputs time step moved one_each are is = moved_keeps component.unit.step component state inputs time step moved one_each are is
