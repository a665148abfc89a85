-- Laws of tickets: a ticket that a lane makes fits its image.
use Rattle.std.proofs.Common.{◌≡◌, ℕ, ◌==◌, ℤ, Bool, true, false, if◌then◌else◌, List, [], ◌∷◌, ◌++◌, length, take, drop, Option, Some, None, Result, Ok, Err}
use Rattle.std.proofs.Common.{sym, ap, subst, ◌∙◌}
use Rattle.std.proofs.lemmas.List.{take-append-drop}
use Rattle.std.specs.List.{AllByRecursion}
use Rattle.std.specs.Option.{option_map}
use Rattle.std.specs.Prelude.{◌||◌, IfSome, IfOk, is_some}
use Rattle.fixed_words.specs.declared.types.Fault.{Fault}
use Rattle.guess_board.specs.Cells.{FitsCell}
use Rattle.guess_board.specs.Chains.{Begins, Need, ahead, answer_at, chain, chain_of, code_of, key_at, need_at, need_of, state_of_whole, whole_state}
use Rattle.guess_board.specs.Events.{is_full, ticket_for, ticket_of}
use Rattle.guess_board.specs.Lanes.{FitsImage, IsLane, LaneState, lane_need}
use Rattle.guess_board.specs.declared.cell.Cell.{Cell}
use Rattle.guess_board.proofs.ChainLaws.{begins_split, linked}
use Rattle.list_laws.proofs.Lists.{each_part}
use Rattle.unit_answers.specs.Answers.{Answered, IsProven}
use Rattle.unit_answers.specs.Keys.{StepKey, meaning}
use Rattle.unit_tree.specs.Components.{Moved}

-- A state of so many words, where there is one.
abbrev pub IsLong : ℕ → Option (List ℤ) → Type 0
IsLong n state = IfSome state (λ words. length words ≡ n)

pub whole_long : (n m step : ℕ) (answer : Result Moved Fault) → IfOk answer (λ moved. length moved.state ≡ m) → m ≡ n
    → IsLong n (state_of_whole step answer)
whole_long n m step (Err fault) long is = tt
whole_long n m step (Ok moved) long is = by (moved.accepted == step)
  where
    by : (b : Bool) → IsLong n (if b then Some moved.state else None)
    by true = long ∙ is
    by false = tt

state_linked : (row : ℕ) (key : StepKey) (told : Option (Result Moved Fault)) (one : Answered) → option_map (answer_at row key) told ≡ Some one
    → one.key.state ≡ key.state
state_linked row key None one is = absurd (cc)
state_linked row key (Some answer) one is = let same : answer_at row key answer ≡ one = cc in ap (λ (o : Answered). o.key.state) (sym same)

module _ (meaning : StepKey → Option (Result Moved Fault)) where
  ahead_long : (code : List ℤ) (n : ℕ) (state : Option (List ℤ)) (line : List Cell) (ones rest : List Answered) → IsLong n state
      → AllByRecursion IsProven ones → chain meaning code state line ≡ ones ++ rest → IsLong n (ahead state ones)
  ahead_long code n None line [] rest long each is = tt
  ahead_long code n None line (one ∷ ones) rest long each is = tt
  ahead_long code n (Some state) line [] rest long each is = long
  ahead_long code n (Some state) [] (one ∷ ones) rest long each is = absurd (cc)
  ahead_long code n (Some state) (cell ∷ cells) (one ∷ ones) rest long each is =
      let next = linked meaning code state cell cells one (ones ++ rest) is in
      let same = state_linked cell.row (key_at code state cell) (meaning (key_at code state cell)) one next.first in
      ahead_long code n (whole_state one) cells ones rest
      (whole_long n (length one.key.state) one.key.step one.answer each.0.each_state (ap length same ∙ long)) each.1 next.others

needed_long : (code : List ℤ) (n : ℕ) (state : Option (List ℤ)) (cells : List Cell) → IsLong n state
    → IfSome (need_at code state cells) (λ need. length need.key.state ≡ n)
needed_long code n None [] long = tt
needed_long code n None (cell ∷ cells) long = tt
needed_long code n (Some state) [] long = tt
needed_long code n (Some state) (cell ∷ cells) long = long

need_long : (code state : List ℤ) (n : ℕ) (line : List Cell) (answers : List Answered) → length state ≡ n → AllByRecursion IsProven answers
    → Begins answers (chain_of code state line) → IfSome (need_of code state line answers) (λ need. length need.key.state ≡ n)
unfolding chain_of
need_long code state n line answers long each begins =
    let all = chain meaning code (Some state) line in
    needed_long code n (ahead (Some state) answers) (drop (length answers) line)
    (ahead_long meaning code n (Some state) line answers (drop (length answers) all) long each (begins_split answers all begins))

given_fits : (lane : LaneState) (none : Bool) (need : Option Need) → IfSome need (λ need. length need.key.state ≡ lane.image.program.sizes.states)
    → AllByRecursion (FitsCell lane.image.program.sizes.inputs) (drop (length lane.answers) lane.line)
    → IfSome (if none then None else option_map (ticket_for lane) need) (FitsImage lane.image)
given_fits lane true need long cells = tt
given_fits lane false None long cells = tt
given_fits lane false (Some need) long cells = record { each_state = long; cells = cells }

pub ticket_fits : (lane : LaneState) → IsLane lane → IfSome (ticket_of lane) (FitsImage lane.image)
ticket_fits lane is =
    let fits = FitsCell lane.image.program.sizes.inputs in
    let count = length lane.answers in
    given_fits lane (is_full lane || is_some lane.journal.current) (lane_need lane)
    (need_long (code_of lane.image) lane.state lane.image.program.sizes.states lane.line lane.answers is.line.each_state is.proven is.chained)
    (each_part fits (take count lane.line) (drop count lane.line)
    (subst (AllByRecursion fits) (sym (take-append-drop count lane.line)) is.line.cells)).1
