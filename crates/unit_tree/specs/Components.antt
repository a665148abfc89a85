-- Calls of a component, for a unit with the words of its parameters (Broman et al., EMSOFT 2013: the
-- initial state, get and doStep; `max` is this language's own).
use Rattle.std.specs.Prelude.{ℕ, ℤ, pos, List, ◌++◌, map, length, take, drop, Option, Some, None, if◌then◌else◌, Result, Ok, Err}
use Rattle.std.specs.Int.{is_negative}
use Rattle.std.specs.Prelude.{unsigned_abs}
use Rattle.fixed_words.specs.Types.{is_word_of}
use Rattle.fixed_words.specs.Operations.{Outcome}
use Rattle.fixed_words.specs.Literals.{word_of_literal}
use Rattle.fixed_words.specs.declared.types.Fault.{Fault}
use Rattle.fixed_words.specs.declared.types.Fault.TheVariants.{Range, Max}
use Rattle.fixed_words.specs.declared.types.Literal.{Literal}
use Rattle.fixed_words.specs.declared.types.Ty.{Ty}
use Rattle.unit_tree.specs.Values.{◌>>=◌, value_of}
use Rattle.unit_tree.specs.Effects.{effect_of_lines}
use Rattle.unit_tree.specs.declared.environment.Environment.{Environment}
use Rattle.unit_tree.specs.declared.environment.Value.{Value}
use Rattle.unit_tree.specs.declared.expr.Expr.{Expr}
use Rattle.unit_tree.specs.declared.environment.Variable.{Variable}
use Rattle.unit_tree.specs.declared.line.Line.{Line}
use Rattle.unit_tree.specs.declared.unit.Output.{Output}
use Rattle.unit_tree.specs.declared.unit.Unit.{Unit}

-- A unit with the words of its parameters, in their order.
pub record Component : Type 0 where
  pub unit : Unit
  pub params : List ℤ

abbrev pub or_zero : {E : Type 0} → Result ℤ E → ℤ
or_zero (Ok word) = word
or_zero (Err fault) = pos 0

-- The start word of a declaration with a literal. Where the literal has no word of the type it is 0; such
-- a system is never run.
abbrev pub start_word : Ty → Literal → ℤ
start_word ty literal = or_zero (word_of_literal ty literal)

-- The initial state: the start words of the states, in their order.
abbrev pub initial : Component → List ℤ
initial component = map (λ state. start_word state.ty state.start) component.unit.states

abbrev pub variable : List ℕ → Ty → Variable
variable name ty = record { name = name; ty = ty }

-- The variables of a unit: parameters, states, inputs and locals. All names are different, so their order
-- does not matter.
abbrev pub variables_of : Unit → List Variable
variables_of unit =
    map (λ param. variable param.name param.ty) unit.params
    ++ map (λ state. variable state.name state.ty) unit.states
    ++ map (λ input. variable input.name input.ty) unit.inputs
    ++ map (λ local. variable local.name local.ty) unit.locals

-- The words of these variables. The word of each local is 0 at first.
abbrev pub words_of : Component → List ℤ → List ℤ → List ℤ
words_of component state inputs = component.params ++ state ++ inputs ++ map (λ local. pos 0) component.unit.locals

-- What an expression or a step can read at a local time, for a local step. The whole local step is
-- accepted until a line accepts another length.
abbrev pub environment_of : Component → List ℤ → List ℤ → ℕ → ℕ → Environment
environment_of component state inputs time step = record {
  variables = variables_of component.unit;
  words = words_of component state inputs;
  time = time;
  step = step;
  accepted = step;
}

-- A word as one of the type; the fault Range where it is not.
abbrev pub given_as : Ty → Value → Outcome
given_as ty value = if is_word_of ty value.word then Ok value.word else Err Range

-- get: the value of an output.
abbrev pub get_of : Component → List ℤ → List ℤ → Output → Outcome
get_of component state inputs output =
    value_of output.value (environment_of component state inputs 0 0) >>= given_as output.ty

-- The result of `max` as a limit: a number from 0 up, or the fault Max.
abbrev pub as_limit : Value → Result (Option ℕ) Fault
as_limit value = if is_negative value.word then Err Max else Ok (Some (unsigned_abs value.word))

-- max: the longest step that the component accepts at a local time, in local ticks; `None` is no limit.
abbrev pub limit_by : Option Expr → Environment → Result (Option ℕ) Fault
limit_by None env = Ok None
limit_by (Some limit) env = value_of limit env >>= as_limit

abbrev pub max_of : Component → List ℤ → List ℤ → ℕ → Result (Option ℕ) Fault
max_of component state inputs time = limit_by component.unit.max (environment_of component state inputs time 0)

-- A state after a step, and the length that was accepted, in local ticks.
pub record Moved : Type 0 where
  pub state : List ℤ
  pub accepted : ℕ

-- The words of the states in an environment: those that follow the parameters' words.
abbrev pub state_in : Component → Environment → List ℤ
state_in component env = take (length component.unit.states) (drop (length component.params) env.words)

-- doStep by its lines. Without lines the state stays and the whole step is accepted.
abbrev pub moved_by : Option (List Line) → Component → List ℤ → Environment → Result Moved Fault
moved_by None component state env = Ok (record { state = state; accepted = env.step })
moved_by (Some lines) component state env =
    effect_of_lines lines env >>= λ after. Ok (record { state = state_in component after; accepted = after.accepted })

-- doStep: at a local time, by a local step.
abbrev pub step_of : Component → List ℤ → List ℤ → ℕ → ℕ → Result Moved Fault
step_of component state inputs time step =
    moved_by component.unit.step component state (environment_of component state inputs time step)
