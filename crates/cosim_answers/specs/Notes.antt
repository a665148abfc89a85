-- Notes: the lines that commands write to standard error.
use Rattle.std.specs.Prelude.{ℕ, List, [], ◌∷◌, ◌++◌, codes, Option, Some, None, slice_get}
use Rattle.std.specs.Option.{option_and_then, option_map, unwrap_or}
use Rattle.std.specs.Fmt.{decimal}
use Rattle.cosim_call.specs.Notes.{line_end, note}
use Rattle.fixed_words.specs.declared.types.Fault.{Fault}
use Rattle.fixed_words.specs.declared.types.Fault.TheVariants.{Overflow, Range, ZeroDivisor, Accept, Max}
use Rattle.spec_core.specs.declared.counts.Counts.{Counts}
use Rattle.super_time.specs.Seconds.{seconds_text_of}
use Rattle.trace_rows.specs.declared.report.Report.{Report}
use Rattle.unit_tree.specs.Names.{output_ports, unit_of_instance}
use Rattle.unit_tree.specs.declared.ending.Ending.{Ending}
use Rattle.unit_tree.specs.declared.ending.Ending.TheVariants.{Completed, RowBudget, ZeroBudget, UnitFault, StepRefused}
use Rattle.unit_tree.specs.declared.ending.Place.{Place}
use Rattle.unit_tree.specs.declared.ending.Place.TheVariants as place
use Rattle.super_time.specs.declared.point.Point.{Point}
use Rattle.unit_tree.specs.declared.system.System.{System}
use Rattle.unit_tree.specs.declared.unit.Unit.{Unit}

abbrev pub fault_number : Fault → ℕ
fault_number Overflow = 1
fault_number Range = 2
fault_number ZeroDivisor = 3
fault_number Accept = 4
fault_number Max = 5

abbrev pub name_or_none : Option (List ℕ) → List ℕ
name_or_none None = []
name_or_none (Some name) = name

-- The name of an instance by its number.
abbrev pub instance_name : System → ℕ → List ℕ
instance_name system instance = name_or_none (option_and_then (λ i. Some i.name) (slice_get system.instances instance))

-- The name of an output of a unit by its number, among plain outputs and then event outputs.
abbrev pub name_in : Unit → ℕ → List ℕ
name_in unit number = name_or_none (option_and_then (λ o. Some o.name) (slice_get (output_ports unit) number))

-- The same by the number of an instance. Where there is no such instance, or its unit is not declared, the name is empty.
abbrev pub output_name : System → ℕ → ℕ → List ℕ
output_name system instance number =
    unwrap_or (option_map (λ unit. name_in unit number) (option_and_then (unit_of_instance system) (slice_get system.instances instance))) []

abbrev pub place_text : System → ℕ → Place → List ℕ
place_text system instance (place.Output number) = codes " output " ++ output_name system instance number
place_text system instance place.Max = codes " max"
place_text system instance place.Step = codes " step"

-- A point: its time in seconds with exactly the decimals of the resolution, and its index.
abbrev pub point_text : ℕ → Point → List ℕ
point_text resolution point = seconds_text_of resolution point.t ++ codes "," ++ decimal point.n

-- A fault of an instance, its place in the instance, and its point.
abbrev pub fault_text : ℕ → List ℕ → List ℕ → Fault → Point → List ℕ
fault_text resolution instance place fault point =
    note (codes "fault " ++ decimal (fault_number fault) ++ codes " of " ++ instance ++ place ++ codes " at " ++ point_text resolution point)

-- A budget that was spent at a point.
abbrev pub budget_text : ℕ → List ℕ → Point → List ℕ
budget_text resolution budget point = note (budget ++ codes " budget at " ++ point_text resolution point)

-- The length of a step that was refused, and how much of it was accepted, in local ticks.
abbrev pub lengths_text : ℕ → ℕ → List ℕ
lengths_text asked accepted = codes " refused " ++ decimal asked ++ codes ", accepted " ++ decimal accepted

-- A step that an instance refused at a point.
abbrev pub step_refused_text : ℕ → List ℕ → ℕ → ℕ → Point → List ℕ
step_refused_text resolution instance asked accepted point =
    note (instance ++ lengths_text asked accepted ++ codes ", at " ++ point_text resolution point)

-- The lines for how a run of a system ended at its last point. There are none where it came to its stop.
abbrev pub ending_notes : System → ℕ → Ending → Point → List (List ℕ)
ending_notes system resolution Completed point = []
ending_notes system resolution RowBudget point = budget_text resolution (codes "row") point ∷ []
ending_notes system resolution ZeroBudget point = budget_text resolution (codes "zero") point ∷ []
ending_notes system resolution (UnitFault instance where_ fault) point =
    fault_text resolution (instance_name system instance) (place_text system instance where_) fault point ∷ []
ending_notes system resolution (StepRefused instance asked accepted) point =
    step_refused_text resolution (instance_name system instance) asked accepted point ∷ []

-- A count with its name.
abbrev pub count_text : List ℕ → ℕ → List ℕ
count_text name count = codes " " ++ name ++ codes " " ++ decimal count

-- How the steps of a run were made: from answers that were found, or by the run itself.
abbrev pub steps_text : ℕ → ℕ → List ℕ
steps_text found own = count_text (codes "found") found ++ count_text (codes "own") own

-- How many tickets there were, and how they ended.
abbrev pub tickets_text : ℕ → ℕ → ℕ → ℕ → List ℕ
tickets_text tickets posted back lapsed =
    count_text (codes "tickets") tickets ++ count_text (codes "posted") posted ++ count_text (codes "back") back ++ count_text (codes "lapsed") lapsed

-- The line of a replay's counts: how many events there were and how many were refused, the steps, the tickets, and how many answers
-- were appended.
abbrev pub counts_text : Counts → List ℕ
counts_text counts =
    codes "cosim:"
    ++ count_text (codes "events") counts.events
    ++ count_text (codes "refused") counts.refused
    ++ steps_text counts.found counts.own
    ++ tickets_text counts.tickets counts.posted counts.back counts.lapsed
    ++ count_text (codes "appended") counts.appended
    ++ line_end

-- The line of a run's report: how many rows were written, the steps, and the tickets.
abbrev pub report_text : Report → List ℕ
report_text report =
    codes "cosim:"
    ++ count_text (codes "rows") report.rows
    ++ steps_text report.found report.own
    ++ tickets_text report.tickets report.posted report.back report.lapsed
    ++ line_end

-- The line with the rows of two nodes.
abbrev pub nodes_text : ℕ → ℕ → List ℕ
nodes_text first second = note (codes "node 0 row " ++ decimal first ++ codes ", node 1 row " ++ decimal second)
