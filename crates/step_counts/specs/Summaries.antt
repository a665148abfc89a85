-- The summary of the steps of a run: a table with a line for all steps, for the stop and the longest step of the system, and for the
-- instances to look at first.
use Rattle.std.specs.Prelude.{ℕ, List, [], ◌∷◌, ◌++◌, codes, count_by, is_some, length, if◌then◌else◌, Option, Some, None}
use Rattle.std.specs.Fmt.{decimal}
use Rattle.std.specs.List.{flat_map}
use Rattle.step_counts.specs.Counts.{all_counts, below, is_longest, is_redone, is_stop}
use Rattle.step_counts.specs.Fields.{name_of, seconds_in}
use Rattle.step_counts.specs.Ranks.{at_rank, faults_of}
use Rattle.step_counts.specs.declared.counts.InstanceCounts.{InstanceCounts}
use Rattle.step_counts.specs.declared.step.AgreedStep.{AgreedStep}
use Rattle.trace_csv.specs.Lines.{line_of}
use Rattle.unit_tree.specs.declared.ending.Ending.{Ending}
use Rattle.unit_tree.specs.declared.ending.Ending.TheVariants.{UnitFault}
use Rattle.unit_tree.specs.declared.system.System.{System}

abbrev pub summary_header : List ℕ
summary_header = line_of (codes "name" ∷ codes "limited" ∷ codes "shortened" ∷ codes "least_limit" ∷ codes "faults" ∷ [])

-- The most instances that a summary lists, so that it has at most twenty lines.
abbrev pub listed_limit : ℕ
listed_limit = 16

-- The instance that ended a run by its fault, if one did.
abbrev pub faulted_by : Ending → Option ℕ
faulted_by (UnitFault instance place fault) = Some instance
faulted_by _ = None

-- A limit in seconds, or nothing where there is none.
abbrev pub limit_text : System → Option ℕ → List ℕ
limit_text system None = []
limit_text system (Some limit) = seconds_in system limit

-- A line: a name, how many steps it limits and shortens, its least limit, and how many faults it has.
abbrev pub counts_line : System → List ℕ → ℕ → ℕ → Option ℕ → ℕ → List ℕ
counts_line system name limited shortened least faults =
    line_of (name ∷ decimal limited ∷ decimal shortened ∷ limit_text system least ∷ decimal faults ∷ [])

-- The line of an instance, if there is one.
abbrev pub instance_line : System → Option ℕ → Option InstanceCounts → List ℕ
instance_line system faulted None = []
instance_line system faulted (Some counts) =
    counts_line system (name_of system counts.instance) counts.limited counts.shortened counts.least_limit (faults_of faulted counts.instance)

-- The lines of the instances of the least ranks.
abbrev pub instance_lines : System → Option ℕ → List InstanceCounts → List ℕ
instance_lines system faulted instances = flat_map (λ rank. instance_line system faulted (at_rank faulted instances rank)) (below listed_limit)

-- The lines that no instance has: the header, and the counts of all steps and of those that the stop and the longest step limit. The
-- line `step` has how many steps there are, how many were made again, and the fault that ended the run.
abbrev pub totals : System → ℕ → ℕ → ℕ → ℕ → ℕ → List ℕ
totals system faults steps redone to_stop longest =
    summary_header
    ++ (counts_line system (codes "step") steps redone None faults
    ++ (counts_line system (codes "stop") to_stop 0 None 0 ++ counts_line system (codes "longest") longest 0 None 0))

-- The summary of the steps of a run that ended so.
abbrev pub summary_of : System → List AgreedStep → Ending → List ℕ
summary_of system steps ending =
    totals system (if is_some (faulted_by ending) then 1 else 0) (length steps) (count_by is_redone steps) (count_by (λ step. is_stop step.limiter) steps)
    (count_by (λ step. is_longest step.limiter) steps)
    ++ instance_lines system (faulted_by ending) (all_counts (length system.instances) steps)
