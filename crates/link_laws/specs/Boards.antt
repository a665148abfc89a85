-- Boards: the facts of a position, item by item; and boards of what is known of a row, compared with the true ones.
use Rattle.fixed_words.specs.Operations.{Outcome}
use Rattle.fixed_words.specs.declared.types.Fault.{Fault}
use Rattle.link_laws.specs.declared.fact.Asked.{Asked}
use Rattle.link_laws.specs.declared.fact.Asked.TheVariants.{Fault as MaxFault, Free, Max as AtMost}
use Rattle.link_laws.specs.declared.fact.Fact.{Fact}
use Rattle.link_laws.specs.declared.fact.Fact.TheVariants.{Limit, Reply, Word}
use Rattle.link_laws.specs.declared.fact.Said.{Said}
use Rattle.link_laws.specs.declared.fact.Said.TheVariants.{Accepted, Fault as StepFault}
use Rattle.link_laws.specs.declared.fact.Seen.{Seen}
use Rattle.link_laws.specs.declared.fact.Seen.TheVariants.{Fault as Faulted, Is, Undefined}
use Rattle.std.specs.List.{AllZip}
use Rattle.std.specs.Option.{option_and_then, option_map}
use Rattle.std.specs.Prelude.{Bool, Err, IfSome, List, None, Ok, Option, Result, Some, [], false, if◌then◌else◌, is_none, map, slice_get, true, ℕ, ◌&&◌, ◌∷◌}
use Rattle.std.specs.Prelude.{◌≡◌}
use Rattle.unit_tree.specs.Components.{Moved}
use Rattle.unit_tree.specs.Compositions.{Composition}
use Rattle.unit_tree.specs.Negotiation.{max_at}
use Rattle.unit_tree.specs.Ports.{first_some, given_at, outlets, port_fault}
use Rattle.unit_tree.specs.Successor.{agreed, is_redone, max_end, row_end, standings, steps_by, stop_end, trial, trial_end, when}
use Rattle.unit_tree.specs.Trace.{Stand}

-- ---- Facts of a result

-- The fact of an output, from its outcome. It is undefined where an input in its needs has no word.
abbrev pub seen_of : Option Outcome → Seen
seen_of None = Undefined
seen_of (Some (Ok word)) = Is word
seen_of (Some (Err fault)) = Faulted fault

-- The fact of a `max`, from its result.
abbrev pub asked_of : Result (Option ℕ) Fault → Asked
asked_of (Ok None) = Free
asked_of (Ok (Some local)) = AtMost local
asked_of (Err fault) = MaxFault fault

-- The fact of a step, from its result.
abbrev pub said_of : Result Moved Fault → Said
said_of (Ok moved) = Accepted moved.accepted
said_of (Err fault) = StepFault fault

-- The facts of a row, item by item: words by places, the others by instances.
pub record Board : Type 0 where
  pub words : List (Option Seen)
  pub limits : List (Option Asked)
  pub replies : List (Option Said)
  pub redos : List (Option Said)

-- ---- The facts of a stand

-- No output faults there, the run is not at its stop, and its budget allows more rows.
abbrev pub before_limits : Composition → Stand → Bool
before_limits run stand = is_none (first_some (port_fault run stand.at.states stand.ports ∷ stop_end run stand.at ∷ row_end run stand.at ∷ []))

-- Also no `max` faults.
abbrev pub before_trial : Composition → Stand → Bool
before_trial run stand = before_limits run stand && is_none (max_end run stand.at stand.ports)

-- Also no step of the trial faults, and a redo is due.
abbrev pub before_redo : Composition → Stand → Bool
before_redo run stand = before_trial run stand && (is_none (trial_end run stand.at stand.ports) && is_redone run stand.at stand.ports)

-- A held member has no fact of a step.
abbrev pub said_where : Bool → Option (Result Moved Fault) → Option Said
said_where there step = if there then option_map said_of step else None

-- The facts of a stand: of each output; and, where the run comes so far, of the `max` of each instance, of its step in the trial, and
-- of its step in the redo.
abbrev pub board_of : Composition → Stand → Board
board_of run stand = record {
  words = map (λ outlet. Some (seen_of (given_at stand.ports outlet))) (outlets run stand.at.states);
  limits = map (λ standing. when (before_limits run stand) (asked_of (max_at stand.at.point.t stand.ports standing))) (standings run stand.at);
  replies = map (said_where (before_trial run stand)) (trial run stand.at stand.ports);
  redos = map (said_where (before_redo run stand)) (steps_by run stand.at stand.ports (agreed run stand.at stand.ports));
}

-- ---- Facts

-- What a list has for an item.
abbrev pub entry : {A : Type 0} → List (Option A) → ℕ → Option A
entry entries place = option_and_then (λ one. one) (slice_get entries place)

abbrev pub row_of : Fact → ℕ
row_of (Word row place seen) = row
row_of (Limit row instance asked) = row
row_of (Reply row instance redo said) = row

-- The board has the fact.
abbrev pub IsOn : Board → Fact → Type 0
IsOn board (Word row place seen) = entry board.words place ≡ Some seen
IsOn board (Limit row instance asked) = entry board.limits instance ≡ Some asked
IsOn board (Reply row instance true said) = entry board.redos instance ≡ Some said
IsOn board (Reply row instance false said) = entry board.replies instance ≡ Some said

-- Facts of one item in one row.
abbrev pub IsAlike : Fact → Fact → Type 0
IsAlike (Word row place seen) (Word other at' told) = (row ≡ other) × (place ≡ at')
IsAlike (Limit row instance asked) (Limit other at' told) = (row ≡ other) × (instance ≡ at')
IsAlike (Reply row instance redo said) (Reply other at' again told) = (row ≡ other) × (instance ≡ at') × (redo ≡ again)
IsAlike _ _ = ⊥

-- ---- What is known, and what is true

-- What is known of an item is its fact, where it has one.
abbrev pub IsSo : {A : Type 0} → Option A → Option A → Type 0
IsSo so known = IfSome so (λ one. IfSome known (λ other. other ≡ one))

-- It is known, where there is a fact.
abbrev pub IsKnown : {A : Type 0} → Option A → Option A → Type 0
IsKnown so known = IfSome so (λ one. known ≡ Some one)

-- All that is known is true.
pub record Agrees (so known : Board) : Type 0 where
  pub words : AllZip IsSo so.words known.words
  pub limits : AllZip IsSo so.limits known.limits
  pub replies : AllZip IsSo so.replies known.replies
  pub redos : AllZip IsSo so.redos known.redos

-- No fact is missing.
pub record LacksNone (so known : Board) : Type 0 where
  pub words : AllZip IsKnown so.words known.words
  pub limits : AllZip IsKnown so.limits known.limits
  pub replies : AllZip IsKnown so.replies known.replies
  pub redos : AllZip IsKnown so.redos known.redos

-- A list of the same length in which nothing is known.
abbrev pub are_nothing : {A : Type 0} → List (Option A) → List (Option A)
are_nothing entries = map (λ one. None) entries
