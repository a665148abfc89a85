-- The effect of step lines: the environment after them with the accepted length, or the first fault.
use Rattle.std.specs.Prelude.{◌≡◌, ℕ, zero, suc, Bool, true, ◌&&◌, ℤ, pos, unsigned_abs, List, [], ◌∷◌, map, if◌then◌else◌, Option, Some, None, Result, Ok, Err}
use Rattle.std.specs.Prelude.{OnOk, IfErr}
use Rattle.std.specs.Str.{bytes_eq}
use Rattle.std.specs.List.{list_all}
use Rattle.fixed_words.specs.Types.{is_word_of, is_between}
use Rattle.fixed_words.specs.declared.types.Fault.{Fault}
use Rattle.fixed_words.specs.declared.types.Fault.TheVariants.{Range, Accept}
use Rattle.unit_tree.specs.Values.{◌>>=◌, holds, value_of, is_ranged, IsSound}
use Rattle.unit_tree.specs.declared.environment.Environment.{Environment}
use Rattle.unit_tree.specs.declared.environment.Variable.{Variable}
use Rattle.unit_tree.specs.declared.line.Line.{Line, fold-Line}
use Rattle.unit_tree.specs.declared.line.Line.TheOpen.{Line-F}

-- An effect: gives for each environment the one after it, or a fault.
abbrev pub Effect : Type 0
Effect = Environment → Result Environment Fault

-- The words of variables after a word is stored in the first variable of the name; the fault Range where it is
-- not a word of its type. Where no variable has the name, nothing is stored.
abbrev pub stored : List Variable → List ℤ → List ℕ → ℤ → Result (List ℤ) Fault
stored (variable ∷ variables) (old ∷ words) name word =
    if bytes_eq variable.name name
    then (if is_word_of variable.ty word then Ok (word ∷ words) else Err Range)
    else (stored variables words name word >>= λ changed. Ok (old ∷ changed))
stored _ words name word = Ok words

-- An assignment.
abbrev pub assigned : List ℕ → ℤ → Effect
assigned name word env = stored env.variables env.words name word >>= λ changed. Ok (record env { words = changed })

-- `accept`: a length from 0 to the step, both included, or the fault Accept. The last one counts.
abbrev pub accepting : ℤ → Effect
accepting length env = if is_between (pos 0) (pos env.step) length then Ok (record env { accepted = unsigned_abs length }) else Err Accept

-- Effects in turn, each from the environment after the one before.
abbrev pub in_sequence : List Effect → Effect
in_sequence [] env = Ok env
in_sequence (effect ∷ effects) env = effect env >>= in_sequence effects

-- An effect, repeated this many times.
abbrev pub times : ℕ → Effect → Effect
times zero effect env = Ok env
times (suc count) effect env = effect env >>= times count effect

abbrev pub otherwise : Option (List Effect) → Effect
otherwise None env = Ok env
otherwise (Some effects) env = in_sequence effects env

-- One line, where the lines of its blocks are given as their effects.
abbrev pub line_effect : Line-F Effect → Effect
line_effect (Line-F.Assign target value) env = value_of value env >>= λ v. assigned target v.word env
line_effect (Line-F.If cond then_lines else_lines) env =
    value_of cond env >>= λ c. (if holds c then in_sequence then_lines env else otherwise else_lines env)
line_effect (Line-F.Repeat count body) env = times count (in_sequence body) env
line_effect (Line-F.Accept value) env = value_of value env >>= λ v. accepting v.word env

-- The effect of a line.
abbrev pub effect_of : Line → Effect
effect_of = fold-Line Effect line_effect

-- The effect of lines, in their order.
abbrev pub effect_of_lines : List Line → Effect
effect_of_lines lines = in_sequence (map effect_of lines)

-- ---- Running lines in place

-- Numbers of decimals in lines are at most 9: the test of one line, where the lines of its blocks are given as
-- their tests, and of all lines.
abbrev pub part_is_ranged : Line-F Bool → Bool
part_is_ranged (Line-F.Assign target value) = is_ranged value
part_is_ranged (Line-F.If cond then_lines else_lines) = is_ranged cond && (list_all (λ b. b) then_lines && else_is_ranged else_lines)
  where
    else_is_ranged : Option (List Bool) → Bool
    else_is_ranged None = true
    else_is_ranged (Some lines) = list_all (λ b. b) lines
part_is_ranged (Line-F.Repeat count body) = list_all (λ b. b) body
part_is_ranged (Line-F.Accept value) = is_ranged value

abbrev pub line_is_ranged : Line → Bool
line_is_ranged = fold-Line Bool part_is_ranged

abbrev pub lines_are_ranged : List Line → Bool
lines_are_ranged lines = list_all (λ b. b) (map line_is_ranged lines)

-- How code that runs an effect in place has changed an environment: its result is that of the effect, and after
-- success the environment is the one after the effect and is sound. After a fault nothing is known of the
-- environment.
pub record Runs (effect : Effect) (old : Environment) (result : Result (Unit {0}) Fault) (new : Environment) : Type 0 where
  pub done : OnOk result (effect old ≡ Ok new)
  pub failed : IfErr result (λ fault. effect old ≡ Err fault)
  pub sound : OnOk result (IsSound new)
  pub variables : OnOk result (new.variables ≡ old.variables)
  pub step : OnOk result (new.step ≡ old.step)
