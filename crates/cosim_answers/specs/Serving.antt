-- The effects of the parts of commands on a text and on the plan of a run.
use Rattle.std.specs.Prelude.{◌≡◌, ℕ, ◌+◌, ◌<◌, ◌≤◌, List, [], ◌∷◌, ◌++◌, length, Result, Ok, Err, ⊤, Vec}
use Rattle.std.specs.declared.alloc.Global.{Global}
use Rattle.link_nodes.specs.Shown.{BeginsRounds, ShowsRounds}
use Rattle.link_nodes.specs.declared.run.Nodes.{Nodes}
use Rattle.nest_text.specs.Nests.{IsNestOf, RefusesNest}
use Rattle.nest_text.specs.declared.nest.Nest.{Nest}
use Rattle.save_point.specs.SavedTexts.{BreaksAtLine, IsSaved, saved_text}
use Rattle.save_point.specs.Saving.{FitsNone, HasNoPosition, IsOpenedBy}
use Rattle.save_point.specs.declared.reading.Saved.{Saved}
use Rattle.spec_core.specs.Replays.{IsReplayed, PutsTrace}
use Rattle.spec_core.specs.declared.counts.Counts.{Counts}
use Rattle.nest_names.specs.Flattening.{flat_of}
use Rattle.sub_flat.specs.NestRules.{BreaksNest, IsRefusedNest}
use Rattle.text_accept.specs.Accepting.{IsAcceptedAs, IsRefusedAt}
use Rattle.text_accept.specs.declared.accepting.AcceptedText.{AcceptedText}
use Rattle.trace_core.specs.Runs.{RunState, Stands}
use Rattle.trace_plan.specs.Plans.{Planned}
use Rattle.trace_rows.specs.Reports.{AppendsTracePrefix, AppendsRestPrefix, ReportsRest, ReportsTrace}
use Rattle.trace_rows.specs.declared.report.Report.{Report}
use Rattle.trace_verify.specs.Parting.{IsParted}
use Rattle.stimulus_tables.specs.Stimuli.{IsSystemOf}
use Rattle.stimulus_tables.specs.Records.{records_of}
use Rattle.trace_verify.specs.declared.parting.Parted.{Parted}
use Rattle.unit_tree.specs.Compositions.{run_of}
use Rattle.unit_tree.specs.Routes.{IsOrderOf}
use Rattle.unit_tree.specs.Successor.{Position}
use Rattle.model_rules.specs.Limits.{text_limit}
use Rattle.unit_tree.specs.Trace.{IsPositionOf}
use Rattle.unit_tree.specs.declared.system.System.{System}
use Rattle.unit_upgrade.specs.Upgrades.{upgraded}
use Rattle.command_line.specs.declared.replaying.Replaying.{Replaying}
use Rattle.command_line.specs.declared.running.Running.{Running}
use Rattle.command_line.specs.declared.splitting.Splitting.{Splitting}
use Rattle.cosim_call.specs.Calls.{Stream, Fails}
use Rattle.cosim_call.specs.declared.coming.Served.{Served}
use Rattle.cosim_call.specs.declared.coming.Stopped.TheVariants as stopped
use Rattle.cosim_call.specs.declared.coming.Stopped.{Stopped}
use Rattle.cosim_answers.specs.Accepted.{printed_text, status_of, traced_notes}
use Rattle.cosim_answers.specs.Answer.{report_lines}
use Rattle.cosim_answers.specs.NodesAnswers.{node_status, told_notes}
use Rattle.cosim_answers.specs.Notes.{counts_text}
use Rattle.cosim_answers.specs.SavedAnswers.{lines_before, text_behind}
use Rattle.cosim_answers.specs.SourcePlaces.{source_end}
use Rattle.cosim_answers.specs.TableAnswers.{LacksTable, LeavesTable}

-- Why a text was not accepted: its refusal, or lack of memory, which says nothing of the text.
abbrev pub IsUnaccepted : List ℕ → Stopped → Type 0
IsUnaccepted text (stopped.Refused line rule) = IsRefusedAt text line rule
IsUnaccepted text stopped.NoMemory = ⊤
IsUnaccepted text _ = ⊥

-- The system as which a text was accepted, with an order of its outputs, or why it was not.
abbrev pub Accepts : List ℕ → Result AcceptedText Stopped → Type 0
Accepts text (Ok read) = IsAcceptedAs text read.checked read.lines × IsOrderOf (run_of read.checked) read.order
Accepts text (Err why) = IsUnaccepted text why

-- The text is accepted as the system.
abbrev pub IsAccepted : List ℕ → System → Type 0
IsAccepted text system = (lines : List ℕ) × IsAcceptedAs text system lines

-- A system was upgraded, or why it was not: its text would be too long, or memory was refused.
abbrev pub Upgrades : System → Result System Stopped → Type 0
Upgrades system (Ok made) = (made ≡ upgraded system) × (length (printed_text (upgraded system)) ≤ text_limit)
Upgrades system (Err (stopped.Refused line rule)) = (line ≡ 1) × (rule ≡ 37) × (text_limit < length (printed_text (upgraded system)))
Upgrades system (Err stopped.NoMemory) = ⊤
Upgrades system (Err _) = ⊥

-- A system was run: the text of the trace of its plain form was written, and the report is that of this trace. Or the run was given up,
-- and what was written is a prefix of that text.
abbrev pub Runs : System → Stream → Stream → Result Report Stopped → Type 0
Runs system out out' (Ok report) = ReportsTrace system out.bytes out'.bytes report × (out'.faults ≡ out.faults)
Runs system out out' (Err stopped.WriteFault) = AppendsTracePrefix system out.bytes out'.bytes × Fails out out'
Runs system out out' (Err stopped.NoMemory) = AppendsTracePrefix system out.bytes out'.bytes × (out'.faults ≡ out.faults)
Runs system out out' (Err _) = ⊥

-- The end of a run of the system is reported by its status, and its notes with the names of the system, and with the line of the report
-- where one is asked for. Or there was no memory for these.
abbrev pub TellsEnding : System → Running → Report → Result Served Stopped → Type 0
TellsEnding system asked report (Ok served) =
    (served.status ≡ status_of report.outcome)
    × (served.notes ≡ traced_notes system (source_end system report.outcome) report.last ++ report_lines asked report)
TellsEnding system asked report (Err why) = why ≡ stopped.NoMemory

-- A plan was replayed: the text of the trace of its plain form was written, the trace ended in this way, and the counts are those of
-- the replay. Or it was given up, and what was written is a prefix of that text.
abbrev pub Replays : Planned → Replaying → Stream → Stream → Result Counts Stopped → Type 0
Replays plan asked out out' (Ok counts) =
    PutsTrace plan.system counts.last counts.outcome out.bytes out'.bytes × IsReplayed plan asked.seed asked.workers counts × (out'.faults ≡ out.faults)
Replays plan asked out out' (Err stopped.WriteFault) = AppendsTracePrefix plan.system out.bytes out'.bytes × Fails out out'
Replays plan asked out out' (Err stopped.NoMemory) = AppendsTracePrefix plan.system out.bytes out'.bytes × (out'.faults ≡ out.faults)
Replays plan asked out out' (Err _) = ⊥

-- The end of a replay is reported as that of a run, and then the line of its counts.
abbrev pub TellsReplayed : System → Counts → Result Served Stopped → Type 0
TellsReplayed system counts (Ok served) =
    (served.status ≡ status_of counts.outcome)
    × (served.notes ≡ traced_notes system (source_end system counts.outcome) counts.last ++ counts_text counts ∷ [])
TellsReplayed system counts (Err why) = why ≡ stopped.NoMemory

-- ---- Saved texts

-- The saved text of the position with this number in the plan's trace was made; or there is no such position; or memory was refused.
abbrev pub MakesSaved : Planned → ℕ → Result (Vec ℕ Global) Stopped → Type 0
MakesSaved plan row (Ok bytes) = (at : Position) × IsPositionOf plan.run row at × (bytes.items ≡ saved_text plan.system at)
MakesSaved plan row (Err (stopped.Refused line rule)) = (line ≡ 1) × (rule ≡ 31) × HasNoPosition plan.run row
MakesSaved plan row (Err stopped.NoMemory) = ⊤
MakesSaved plan row (Err _) = ⊥

-- What a text saves was read, or the line at which it breaks; or memory was refused.
abbrev pub FindsSaved : List ℕ → Result Saved Stopped → Type 0
FindsSaved text (Ok saved) = IsSaved text saved
FindsSaved text (Err (stopped.Refused line rule)) = BreaksAtLine text line × (rule ≡ 32)
FindsSaved text (Err stopped.NoMemory) = ⊤
FindsSaved text (Err _) = ⊥

-- Why the text after the saved position was not accepted: its refusal, at a line of the whole text, or lack of memory.
abbrev pub IsRefusedBehind : List ℕ → Saved → Stopped → Type 0
IsRefusedBehind text saved (stopped.Refused line rule) =
    (behind : ℕ) × IsRefusedAt (text_behind text saved) behind rule × (line ≡ lines_before saved + behind)
IsRefusedBehind text saved stopped.NoMemory = ⊤
IsRefusedBehind text saved _ = ⊥

-- A run was opened at the saved position, or no position fits what is saved, or memory was refused.
abbrev pub OpensSaved : Planned → Saved → Result RunState Stopped → Type 0
OpensSaved plan saved (Ok run) = IsOpenedBy plan saved run × Stands run
OpensSaved plan saved (Err (stopped.Refused line rule)) = (line ≡ 1) × (rule ≡ 33) × FitsNone plan saved
OpensSaved plan saved (Err stopped.NoMemory) = ⊤
OpensSaved plan saved (Err _) = ⊥

-- A run went on from a position: the lines of its rest were written, and the report is that of this rest. Or it was given up, and what
-- was written is a prefix of these lines.
abbrev pub GoesOn : Planned → Position → Stream → Stream → Result Report Stopped → Type 0
GoesOn plan at out out' (Ok report) = ReportsRest plan at out.bytes out'.bytes report × (out'.faults ≡ out.faults)
GoesOn plan at out out' (Err stopped.WriteFault) = AppendsRestPrefix plan at out.bytes out'.bytes × Fails out out'
GoesOn plan at out out' (Err stopped.NoMemory) = AppendsRestPrefix plan at out.bytes out'.bytes × (out'.faults ≡ out.faults)
GoesOn plan at out out' (Err _) = ⊥

-- Its end is reported as that of a run.
abbrev pub TellsResumed : System → Report → Result Served Stopped → Type 0
TellsResumed system report (Ok served) =
    (served.status ≡ status_of report.outcome) × (served.notes ≡ traced_notes system (source_end system report.outcome) report.last)
TellsResumed system report (Err why) = why ≡ stopped.NoMemory

-- ---- Tables

-- The input was cut into a text and the table after it, or it has no line between them.
abbrev pub FindsParts : List ℕ → Result Parted Stopped → Type 0
FindsParts input (Ok parts) = IsParted input parts.model.now parts.table.now
FindsParts input (Err (stopped.Refused line rule)) = LacksTable input line rule
FindsParts input (Err _) = ⊥

-- The system that plays a table was made, or the table doesn't have the form; or memory was refused.
abbrev pub FindsTable : List ℕ → Result System Stopped → Type 0
FindsTable table (Ok system) = IsSystemOf (records_of table) system
FindsTable table (Err (stopped.Refused line rule)) = LeavesTable table line rule
FindsTable table (Err stopped.NoMemory) = ⊤
FindsTable table (Err _) = ⊥

-- ---- Nested texts

-- The nest of a text was read, or the text is refused; or memory was refused.
abbrev pub FindsNest : List ℕ → Result Nest Stopped → Type 0
FindsNest text (Ok nest) = IsNestOf text nest
FindsNest text (Err (stopped.Refused line rule)) = RefusesNest text line rule
FindsNest text (Err stopped.NoMemory) = ⊤
FindsNest text (Err _) = ⊥

-- The canonical text of the flat system of a nest was made, or the nest breaks a rule of groups; or memory was refused.
abbrev pub FindsFlat : Nest → Result (Vec ℕ Global) Stopped → Type 0
FindsFlat nest (Ok flat) = (flat.items ≡ printed_text (flat_of nest)) × ((line rule : ℕ) → BreaksNest nest line rule → ⊥)
FindsFlat nest (Err (stopped.Refused line rule)) = IsRefusedNest nest line rule
FindsFlat nest (Err stopped.NoMemory) = ⊤
FindsFlat nest (Err _) = ⊥

-- ---- Two nodes

-- Two nodes made their rounds: what node 0 shows was written, and their progress is returned. Or they were given up, and what was
-- written is a prefix of that.
abbrev pub RunsNodes : Planned → Splitting → Stream → Stream → Result Nodes Stopped → Type 0
RunsNodes plan asked out out' (Ok nodes) = ShowsRounds plan asked.seed asked.rounds out.bytes out'.bytes nodes × (out'.faults ≡ out.faults)
RunsNodes plan asked out out' (Err stopped.WriteFault) = BeginsRounds plan asked.seed asked.rounds out.bytes out'.bytes × Fails out out'
RunsNodes plan asked out out' (Err stopped.NoMemory) = BeginsRounds plan asked.seed asked.rounds out.bytes out'.bytes × (out'.faults ≡ out.faults)
RunsNodes plan asked out out' (Err _) = ⊥

-- How node 0 ended, where it did, and the progress of both nodes are reported; or memory was refused.
abbrev pub TellsRounds : System → Nodes → Result Served Stopped → Type 0
TellsRounds system nodes (Ok served) = (served.status ≡ node_status nodes.outcome) × (served.notes ≡ told_notes system nodes)
TellsRounds system nodes (Err why) = why ≡ stopped.NoMemory
