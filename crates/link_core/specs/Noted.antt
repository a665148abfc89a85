-- Notes as the code has them: the board, the facts, and memory for as many more as there are unknown items. No promise depends on them.
use Rattle.std.specs.Prelude.{◌≡◌, ℕ, suc, ◌+◌, ◌≤◌, ◌<◌, ◌==◌, Bool, true, false, ◌&&◌, is_none, ℤ, List, [], ◌∷◌, map, zip, length}
use Rattle.std.specs.Prelude.{slice_set, vec_capacity, if◌then◌else◌, Option, Some, None, Result, Ok, Err, ⊤}
use Rattle.std.specs.Option.{option_map}
use Rattle.fixed_words.specs.declared.types.Fault.{Fault}
use Rattle.link_laws.specs.Boards.{Agrees, Board, asked_of, board_of, entry, said_of, are_nothing}
use Rattle.link_laws.specs.Keeping.{IsPlace}
use Rattle.link_laws.specs.Making.{own_states, part_of, put_said, said_entry, with_made}
use Rattle.link_laws.specs.Nodes.{Making, with_fact}
use Rattle.link_laws.specs.declared.fact.Fact.{Fact}
use Rattle.link_laws.specs.declared.fact.Fact.TheVariants.{Limit, Reply, Word}
use Rattle.link_laws.specs.declared.fact.Said.{Said}
use Rattle.link_laws.specs.declared.fact.Said.TheVariants.{Accepted, Fault as StepFault}
use Rattle.link_laws.specs.declared.fact.Seen.{Seen}
use Rattle.link_laws.specs.declared.fact.Seen.TheVariants.{Is}
use Rattle.link_core.specs.declared.notes.Notes.{Notes}
use Rattle.link_laws.specs.declared.stage.Stage.{Stage}
use Rattle.link_laws.specs.declared.stage.Stage.TheVariants.{Limits, Trial, Redo, On}
use Rattle.port_solve.specs.Sound.{IsWordOf}
use Rattle.super_time.specs.declared.point.Point.{Point}
use Rattle.unit_tree.specs.Compositions.{Composition}
use Rattle.unit_tree.specs.Negotiation.{all_inputs, max_at, state_after, step_at}
use Rattle.unit_tree.specs.Ports.{Ports, Standing}
use Rattle.unit_tree.specs.Routes.{routes_of}
use Rattle.unit_tree.specs.Successor.{Position}
use Rattle.unit_tree.specs.Trace.{Stand}

abbrev pub making_in : Notes → Making
making_in notes = record {
  known = record { words = notes.words.items; limits = notes.limits.items; replies = notes.replies.items; redos = notes.redos.items };
  facts = notes.facts.items;
}

-- How many items are not known.
abbrev pub empties : {A : Type 0} → List (Option A) → ℕ
empties [] = 0
empties (None ∷ entries) = suc (empties entries)
empties (Some one ∷ entries) = empties entries

-- Nothing is known, and the facts stay.
abbrev pub forgotten : Making → Making
forgotten making = record {
  known = record {
    words = are_nothing making.known.words;
    limits = are_nothing making.known.limits;
    replies = are_nothing making.known.replies;
    redos = are_nothing making.known.redos;
  };
  facts = making.facts;
}

abbrev pub lacking : Notes → ℕ
lacking notes = empties notes.words.items + (empties notes.limits.items + (empties notes.replies.items + empties notes.redos.items))

abbrev pub HasRoom : Notes → Type 0
HasRoom notes = length notes.facts.items + lacking notes ≤ vec_capacity notes.facts

abbrev pub is_defined : Option Seen → Bool
is_defined (Some (Is word)) = true
is_defined _ = false

-- There is an item for each output and each instance.
pub record AreNotes (run : Composition) (notes : Notes) : Type 0 where
  pub words : length notes.words.items ≡ length (routes_of run).outputs
  pub limits : length notes.limits.items ≡ length run.members
  pub replies : length notes.replies.items ≡ length run.members
  pub redos : length notes.redos.items ≡ length run.members
  pub defined : notes.defined.items ≡ map is_defined notes.words.items

-- The notes after an output was learnt.
abbrev pub with_seen : ℕ → Seen → Making → Making
with_seen place seen making = record { known = record making.known { words = slice_set making.known.words place (Some seen) }; facts = making.facts }

-- ---- The position of a node

-- A position without states.
abbrev pub position_at : Point → ℕ → Position
position_at point number = record { point = point; states = []; number = number }

abbrev pub place_of : Point → Position
place_of point = position_at point 0

-- A node's part of a position, from the states of its units.
abbrev pub part_at : List ℕ → ℕ → Point → ℕ → List (List ℤ) → Position
part_at owners me point number states = record { point = point; states = own_states owners me states; number = number }

-- The step of a stage does not pass the stop.
abbrev pub AllowsStep : Composition → Point → Stage → Type 0
AllowsStep run point (Trial h) = point.t + h ≤ run.stop
AllowsStep run point (Redo h) = point.t + h ≤ run.stop
AllowsStep run point (On h) = point.t + h ≤ run.stop
AllowsStep run point other = ⊤

-- ---- Words

-- An output may have this word.
abbrev pub IsWordSeen : Composition → ℕ → Seen → Type 0
IsWordSeen run place (Is word) = IsWordOf run place word
IsWordSeen run place other = ⊤

-- Ports with the word of an output, where it has one.
abbrev pub with_port : Ports → ℕ → Seen → Ports
with_port ports place (Is word) = slice_set ports place (Some word)
with_port ports place other = ports

-- ---- The facts of an instance

-- A position is a node's part, from the states of its units.
pub record IsPartOf (owners : List ℕ) (me : ℕ) (states : List (List ℤ)) (row t : ℕ) (at : Position) : Type 0 where
  pub states_are : at.states ≡ own_states owners me states
  pub number : at.number ≡ row
  pub time : at.point.t ≡ t

-- The facts with the limit of an instance, where the node owns it and the limit isn't known.
abbrev pub limit_if : Bool → ℕ → ℕ → Ports → Standing → ℕ → Making → Making
limit_if own row t ports standing instance making =
    if own && is_none (entry making.known.limits instance) then with_made (Limit row instance (asked_of (max_at t ports standing))) making else making

abbrev pub said_given : Result ℕ Fault → Said
said_given (Ok accepted) = Accepted accepted
said_given (Err fault) = StepFault fault

-- The facts with the reply of an instance, where the node owns it and the reply isn't known.
abbrev pub reply_if : Bool → Bool → ℕ → ℕ → ℕ → Ports → Standing → ℕ → Making → Making
reply_if redo own row t h ports standing instance making =
    if own && is_none (said_entry redo making.known instance) then put_said redo row instance (option_map said_of (step_at t h ports standing)) making
    else making

-- The state of an instance after a step, where the node owns it.
abbrev pub stepped_if : Bool → ℕ → ℕ → Ports → Standing → List ℤ
stepped_if own t h ports (member, state) = if own then state_after (state, step_at t h ports (member, state)) else state

abbrev pub stepped_one : ℕ → ℕ → ℕ → Ports → ℕ × Standing → List ℤ
stepped_one me t h ports (owner, standing) = stepped_if (owner == me) t h ports standing

abbrev pub stepped : Composition → List ℕ → ℕ → ℕ → ℕ → Ports → List (List ℤ) → List (List ℤ)
stepped run owners me t h ports states = map (stepped_one me t h ports) (zip owners (zip run.members states))

-- ---- What is known is true

-- It is true at the place of the trace with this point and number, where the node's own units have the states.
pub record IsTrue (run : Composition) (owners : List ℕ) (me : ℕ) (point : Point) (row : ℕ) (states : List (List ℤ)) (known : Board) : Type 0 where
  pub stand : Stand
  pub place : IsPlace run stand
  pub part : part_at owners me point row states ≡ part_of owners me stand.at
  pub agrees : Agrees (board_of run stand) known

-- Where the words of a row are known, and it goes on, the inputs have them.
abbrev pub AreFed : Composition → List (List ℤ) → Ports → Stage → Type 0
AreFed run inputs ports Limits = inputs ≡ all_inputs run ports
AreFed run inputs ports (Trial h) = inputs ≡ all_inputs run ports
AreFed run inputs ports (Redo h) = inputs ≡ all_inputs run ports
AreFed run inputs ports (On h) = inputs ≡ all_inputs run ports
AreFed run inputs ports other = ⊤

-- ---- Facts that arrive

-- What is known after a fact.
abbrev pub knowing_fact : Fact → Making → Making
knowing_fact fact making = record { known = with_fact making.known fact; facts = making.facts }

-- There is such an item, and an output may have this word.
abbrev pub IsItemOf : Composition → Fact → Type 0
IsItemOf run (Word row place seen) = (place < length (routes_of run).outputs) × IsWordSeen run place seen
IsItemOf run (Limit row instance asked) = instance < length run.members
IsItemOf run (Reply row instance redo said) = instance < length run.members
