-- Negotiation of a step: the limits of members, the proposed step, the result of each member's step, the replies,
-- and the agreed step. Lengths are in ticks of the system, except where they are called local.
use Rattle.std.specs.Prelude.{ℕ, ◌-◌, ◌==◌, min, Bool, not, ◌&&◌, ℤ, pos, List, [], ◌∷◌, map, if◌then◌else◌, Option, Some, None, Result, Ok}
use Rattle.std.specs.Option.{unwrap_or}
use Rattle.fixed_words.specs.declared.types.Fault.{Fault}
use Rattle.super_time.specs.LocalTime.{local_time, local_step, limit_of}
use Rattle.unit_tree.specs.Components.{Moved, max_of, step_of}
use Rattle.unit_tree.specs.Compositions.{Member, Composition}
use Rattle.unit_tree.specs.Ports.{Ports, Standing, input_word}

-- ---- The rules of step lengths

-- The least of a number and a list of numbers.
abbrev pub least_of : ℕ → List ℕ → ℕ
least_of first [] = first
least_of first (other ∷ others) = min first (least_of other others)

-- The proposed step: the longest step that does not pass the stop and that `longest` and every limit allow.
abbrev pub proposal_of : ℕ → ℕ → ℕ → List ℕ → ℕ
proposal_of stop longest t limits = least_of (stop - t) (longest ∷ limits)

-- A member is held in a step of length h from t if no local tick of it ends there. In a step of length zero no
-- member is held.
abbrev pub is_held : ℕ → ℕ → ℕ → Bool
is_held factor t h = not (h == 0) && (local_step factor t h == 0)

-- The reply of a member to a step of length h from t: h where it accepted its whole local step, and else the ticks
-- until the local ticks that it accepted have passed.
abbrev pub reply_of : ℕ → ℕ → ℕ → ℕ → ℕ
reply_of factor t h accepted = if accepted == local_step factor t h then h else limit_of factor t accepted

-- The agreed step: the least reply. Without a reply it is the proposed step.
abbrev pub agreed_step : ℕ → List ℕ → ℕ
agreed_step h [] = h
agreed_step h (reply ∷ replies) = least_of reply replies

-- ---- Members at a time, with the ports assigned

-- The words of a member's inputs. An undefined output counts as 0 here; such an output ends the run before this
-- matters.
abbrev pub inputs_at : Ports → Member → List ℤ
inputs_at ports member = map (λ source. unwrap_or (input_word ports source) (pos 0)) member.sources

-- The words of all inputs, member by member.
abbrev pub all_inputs : Composition → Ports → List (List ℤ)
all_inputs run ports = map (inputs_at ports) run.members

-- The result of a member's `max`: its longest local step, no limit, or a fault.
abbrev pub max_at : ℕ → Ports → Standing → Result (Option ℕ) Fault
max_at t ports (member, state) = max_of member.component state (inputs_at ports member) (local_time member.factor t)

abbrev pub limit_told : ℕ → ℕ → Result (Option ℕ) Fault → Option ℕ
limit_told factor t (Ok (Some local)) = Some (limit_of factor t local)
limit_told factor t _ = None

-- The limit that a member sets to a step.
abbrev pub limit_at : ℕ → Ports → Standing → Option ℕ
limit_at t ports (member, state) = limit_told member.factor t (max_at t ports (member, state))

-- The result of a member's step of length h: `None` where it is held, and else that of its doStep for its local
-- step.
abbrev pub step_at : ℕ → ℕ → Ports → Standing → Option (Result Moved Fault)
step_at t h ports (member, state) =
    if is_held member.factor t h then None else Some
    (step_of member.component state (inputs_at ports member) (local_time member.factor t) (local_step member.factor t h))

-- A member's reply to a step of length h, from the result of its step. The reply of a held member is h. So is that
-- of a member with a fault, which ends the run before its reply matters.
abbrev pub reply_at : ℕ → ℕ → Member × Option (Result Moved Fault) → ℕ
reply_at t h (member, Some (Ok moved)) = reply_of member.factor t h moved.accepted
reply_at t h _ = h

-- The state of a member after a step. A held one keeps its state.
abbrev pub state_after : List ℤ × Option (Result Moved Fault) → List ℤ
state_after (state, Some (Ok moved)) = moved.state
state_after (state, _) = state
