-- The words of all states, one after the other: how they are tested, and what follows.
use Rattle.std.specs.Prelude.{ℕ, ◌<◌, ◌≤◌, ℤ, List, [], ◌∷◌, length, take, drop, if◌then◌else◌, Option, Some, None}
use Rattle.std.specs.List.{flat_map}
use Rattle.fixed_words.specs.Types.{is_word_of}
use Rattle.super_time.specs.declared.point.Point.{Point}
use Rattle.trace_units.specs.Fleets.{Fleet}
use Rattle.unit_tree.specs.Compositions.{Member, Composition}
use Rattle.unit_tree.specs.Names.{unit_of_instance}
use Rattle.unit_tree.specs.Trace.{AreWordsOf}
use Rattle.unit_tree.specs.declared.system.Instance.{Instance}
use Rattle.unit_tree.specs.declared.system.System.{System}
use Rattle.unit_tree.specs.declared.unit.State.{State}
use Rattle.unit_tree.specs.declared.unit.Unit.{Unit}

-- All states of members, by member and then by declaration.
abbrev pub states_in : List Member → List State
states_in members = flat_map (λ member. member.component.unit.states) members

-- The states of a unit, where there is one.
abbrev pub states_had : Option Unit → List State
states_had None = []
states_had (Some unit) = unit.states

-- The states of an instance: those of its unit.
abbrev pub instance_states : System → Instance → List State
instance_states system instance = states_had (unit_of_instance system instance)

-- All states of a system, by instance and then by declaration.
abbrev pub system_states : System → List State
system_states system = flat_map (instance_states system) system.instances

-- The words left after one for each state, where each of these is of its type.
abbrev pub words_behind : List State → List ℤ → Option (List ℤ)
words_behind [] words = Some words
words_behind (state ∷ states) [] = None
words_behind (state ∷ states) (word ∷ words) = if is_word_of state.ty word then words_behind states words else None

-- Words as the states of members: each takes as many as it declares states, in turn.
abbrev pub parted : List Member → List ℤ → List (List ℤ)
parted [] words = []
parted (member ∷ members) words =
    take (length member.component.unit.states) words ∷ parted members (drop (length member.component.unit.states) words)

-- The units with these words as their states.
abbrev pub with_words : Fleet → List ℤ → Fleet
with_words units words = record units { states = parted units.plan.run.members words }

-- The row and the point are within the bounds of the run, and there is exactly one word for each state, of its type.
pub record MayOpen (run : Composition) (row : ℕ) (point : Point) (words : List ℤ) : Type 0 where
  pub stop : point.t ≤ run.stop
  pub zeros : point.n ≤ run.zero_budget
  pub rows : row < run.row_budget
  pub each : AreWordsOf (states_in run.members) words
