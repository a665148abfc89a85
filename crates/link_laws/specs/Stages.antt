-- Stages of a row: what it requires next, by what is known.
use Rattle.fixed_words.specs.declared.types.Fault.{Fault}
use Rattle.link_laws.specs.Boards.{Board}
use Rattle.link_laws.specs.declared.fact.Asked.{Asked}
use Rattle.link_laws.specs.declared.fact.Asked.TheVariants.{Fault as MaxFault, Free, Max as AtMost}
use Rattle.link_laws.specs.declared.fact.Said.{Said}
use Rattle.link_laws.specs.declared.fact.Said.TheVariants.{Accepted, Fault as StepFault}
use Rattle.link_laws.specs.declared.fact.Seen.{Seen}
use Rattle.link_laws.specs.declared.fact.Seen.TheVariants.{Fault as Faulted}
use Rattle.link_laws.specs.declared.stage.Stage.{Stage}
use Rattle.link_laws.specs.declared.stage.Stage.TheVariants.{Limits, On, Over, Redo, Trial, Words}
use Rattle.std.specs.List.{filter_map, list_all}
use Rattle.std.specs.Option.{option_map}
use Rattle.std.specs.Prelude.{Bool, Err, List, None, Ok, Option, Result, Some, [], if◌then◌else◌, is_some, map, nat_lt, true, zip, ℕ, ◌&&◌, ◌==◌, ◌∷◌}
use Rattle.unit_tree.specs.Components.{Moved}
use Rattle.unit_tree.specs.Compositions.{Composition, Member}
use Rattle.unit_tree.specs.Negotiation.{is_held, least_of, limit_told, proposal_of, reply_at}
use Rattle.unit_tree.specs.Ports.{first_some}
use Rattle.unit_tree.specs.Successor.{Position, first_told, max_end_of, redo_end_of, row_end, step_end_of, stop_end}
use Rattle.unit_tree.specs.declared.ending.Ending.{Ending}
use Rattle.unit_tree.specs.declared.ending.Ending.TheVariants.{UnitFault, ZeroBudget}
use Rattle.unit_tree.specs.declared.ending.Place.TheVariants as place

abbrev pub over_or : Option Ending → Stage → Stage
over_or (Some ending) stage = Over ending
over_or None stage = stage

-- ---- Steps, by replies

abbrev pub moved_by : Said → Result Moved Fault
moved_by (Accepted accepted) = Ok (record { state = []; accepted = accepted })
moved_by (StepFault fault) = Err fault

abbrev pub step_in : ℕ → ℕ → Member × Option Said → Option (Result Moved Fault)
step_in t h (member, said) = if is_held member.factor t h then None else option_map moved_by said

abbrev pub steps_in : ℕ → ℕ → List Member → List (Option Said) → List (Option (Result Moved Fault))
steps_in t h members replies = map (step_in t h) (zip members replies)

abbrev pub is_answered : ℕ → ℕ → Member × Option Said → Bool
is_answered t h (member, said) = if is_held member.factor t h then true else is_some said

abbrev pub are_answered : ℕ → ℕ → List Member → List (Option Said) → Bool
are_answered t h members replies = list_all (is_answered t h) (zip members replies)

-- ---- Limits and words, by facts

abbrev pub max_by : Option Asked → Result (Option ℕ) Fault
max_by None = Ok None
max_by (Some Free) = Ok None
max_by (Some (AtMost local)) = Ok (Some local)
max_by (Some (MaxFault fault)) = Err fault

abbrev pub limit_in : ℕ → Member × Option Asked → Option ℕ
limit_in t (member, asked) = limit_told member.factor t (max_by asked)

abbrev pub word_end : (ℕ × ℕ) × Option Seen → Option Ending
word_end ((instance, number), Some (Faulted fault)) = Some (UnitFault instance (place.Output number) fault)
word_end ((instance, number), _) = None

-- ---- The stage

abbrev pub stage_on : Composition → Position → ℕ → Stage
stage_on run at h = if (h == 0) && (at.point.n == run.zero_budget) then Over ZeroBudget else On h

abbrev pub stage_of_redo : Composition → Position → List (Option Said) → ℕ → Stage
stage_of_redo run at redos h =
    if are_answered at.point.t h run.members redos
    then over_or (first_told (redo_end_of at.point.t h) (zip run.members (steps_in at.point.t h run.members redos))) (stage_on run at h)
    else Redo h

-- The least of the step and of the replies to it.
abbrev pub least_in : Composition → Position → List (Option Said) → ℕ → ℕ
least_in run at replies h = least_of h (map (reply_at at.point.t h) (zip run.members (steps_in at.point.t h run.members replies)))

abbrev pub stage_by : Composition → Position → List (Option Said) → ℕ → ℕ → Stage
stage_by run at redos h least = if nat_lt least h then stage_of_redo run at redos least else stage_on run at least

abbrev pub stage_of_trial : Composition → Position → List (Option Said) → List (Option Said) → ℕ → Stage
stage_of_trial run at replies redos h =
    if are_answered at.point.t h run.members replies
    then over_or (first_told step_end_of (steps_in at.point.t h run.members replies)) (stage_by run at redos h (least_in run at replies h))
    else Trial h

abbrev pub stage_of_limits : Composition → Position → Board → Stage
stage_of_limits run at board =
    if list_all is_some board.limits
    then over_or (first_told max_end_of (map max_by board.limits))
    (stage_of_trial run at board.replies board.redos (proposal_of run.stop run.longest at.point.t
    (filter_map (limit_in at.point.t) (zip run.members board.limits))))
    else Limits

-- `names` has the instance of each output and its number there, by places.
abbrev pub stage_of : Composition → List (ℕ × ℕ) → Position → Board → Stage
stage_of run names at board =
    if list_all is_some board.words
    then over_or (first_some (first_some (map word_end (zip names board.words)) ∷ stop_end run at ∷ row_end run at ∷ []))
    (stage_of_limits run at board)
    else Words
