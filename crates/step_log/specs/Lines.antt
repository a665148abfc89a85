-- The lines of a step log.
use Rattle.std.specs.Prelude.{ℕ, nat_lt, List, [], ◌∷◌, codes, Option, Some, None}
use Rattle.std.specs.Fmt.{decimal}
use Rattle.fixed_words.specs.Texts.{truth_text}
use Rattle.step_counts.specs.Fields.{name_of, seconds_in}
use Rattle.step_counts.specs.declared.step.AgreedStep.{AgreedStep}
use Rattle.step_counts.specs.declared.step.Limiter.{Limiter}
use Rattle.step_counts.specs.declared.step.Limiter.TheVariants.{Instance, Longest, Stop}
use Rattle.step_counts.specs.declared.step.Shortening.{Shortening}
use Rattle.trace_csv.specs.Lines.{line_of}
use Rattle.unit_tree.specs.declared.system.System.{System}

abbrev pub log_header : List ℕ
log_header =
    line_of
    (codes "time"
    ∷ codes "index"
    ∷ codes "proposed"
    ∷ codes "limited_by"
    ∷ codes "agreed"
    ∷ codes "shortened_by"
    ∷ codes "accepted"
    ∷ codes "redone"
    ∷ codes "held"
    ∷ [])

-- What limits the proposed step. No instance is named `stop` or `longest`, since these words are reserved.
abbrev pub limiter_text : System → Limiter → List ℕ
limiter_text system (Instance instance) = name_of system instance
limiter_text system Stop = codes "stop"
limiter_text system Longest = codes "longest"

-- Who accepted less, and how many local ticks. Both are empty where no one did.
abbrev pub shortener_text : System → Option Shortening → List ℕ
shortener_text system None = []
shortener_text system (Some shortening) = name_of system shortening.instance

abbrev pub accepted_text : Option Shortening → List ℕ
accepted_text None = []
accepted_text (Some shortening) = decimal shortening.accepted

-- The line of a step. `redone` is true where the agreed step is shorter than the proposed one: then it is made again.
abbrev pub step_line : System → AgreedStep → List ℕ
step_line system step =
    line_of
    (seconds_in system step.point.t
    ∷ decimal step.point.n
    ∷ seconds_in system step.proposed
    ∷ limiter_text system step.limiter
    ∷ seconds_in system step.agreed
    ∷ shortener_text system step.shortening
    ∷ accepted_text step.shortening
    ∷ truth_text (nat_lt step.agreed step.proposed)
    ∷ decimal step.held
    ∷ [])

-- The line of a step, where there is one.
abbrev pub line_if : System → Option AgreedStep → List ℕ
line_if system None = []
line_if system (Some step) = step_line system step
