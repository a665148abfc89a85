-- The answers of a command to what another one printed.
use Rattle.std.proofs.Common.{◌≡◌, ℕ, ◌≤◌, ◌==◌, Bool, true, false, if◌then◌else◌, List, [], ◌∷◌, ◌++◌, length, map, take, drop, append_assoc, append-nil}
use Rattle.std.proofs.Common.{take-append-drop, is_some, refl, sym, ap, subst, ◌∙◌, inl, inr}
use Rattle.std.proofs.lemmas.List.Concat.{flat_map-append}
use Rattle.std.proofs.lemmas.List.Elements.{filter_map-append}
use Rattle.command_line.specs.Commands.{verify_limit}
use Rattle.command_line.specs.Generations.{Asked, CanGive, system_asked}
use Rattle.command_line.specs.declared.commands.Command.TheVariants.{Run}
use Rattle.command_line.specs.declared.running.Running.{Running}
use Rattle.cosim_answers.specs.NodesAnswers.{nodes_answer}
use Rattle.cosim_answers.proofs.NodesLaws.{nodes_are, plain_nodes, stands_are}
use Rattle.cosim_answers.proofs.SavedLaws.{has_one_trace}
use Rattle.cosim_answers.proofs.CommandLaws.{traces_same}
use Rattle.cosim_answers.proofs.Lawful.{determined_within, lawful_within}
use Rattle.cosim_answers.proofs.RunLaws.{text_is, trace_told}
use Rattle.cosim_answers.proofs.TableLaws.{verdicts_once, verify_lawful}
use Rattle.cosim_answers.proofs.TraceLaws.{IsWhole, whole_asked, whole_of}
use Rattle.cosim_answers.specs.Accepted.{TellsTrace, printed_text, run_answer, status_of, traced_notes, traced_text}
use Rattle.cosim_answers.specs.Answer.{Answers, AnswersRun, TellsReported, report_lines}
use Rattle.cosim_answers.specs.Pipelines.{FlatRunsAreNested, GeneratedRunsHaveFigures, NodesPrintAPrefix, PrintsRunAlike, RunAlike, RunsAreVerified, TablesArePrinted, UpgradesRunAlike}
use Rattle.cosim_answers.specs.TableAnswers.{AnswersTable, AnswersVerify, RefusesTable, verdict_text}
use Rattle.cosim_call.specs.Answers.{Answer, piece_answer}
use Rattle.cosim_gen.proofs.Printing.{is_printable as generated_is_printable}
use Rattle.event_runs.specs.EventRuns.{IsEventTraceOf}
use Rattle.event_runs.specs.EventTrace.{EventRow}
use Rattle.event_runs.specs.Readings.{read_end, read_rows}
use Rattle.link_laws.specs.Nodes.{Progress}
use Rattle.link_nodes.specs.Rounds.{pair_after}
use Rattle.link_nodes.specs.Shown.{committed}
use Rattle.nest_names.specs.Flattening.{flat_of}
use Rattle.nest_runs.specs.NestTrace.{IsNestTraceOf}
use Rattle.nest_text.specs.Nests.{IsNestOf}
use Rattle.nest_text.specs.declared.nest.Nest.{Nest}
use Rattle.sub_flat.specs.NestRules.{BreaksNest}
use Rattle.nest_runs.proofs.TextLaws.{text_traces}
use Rattle.stimulus_tables.proofs.OutputLaws.{no_cycle}
use Rattle.stimulus_tables.proofs.PlayedLaws.{table_played}
use Rattle.stimulus_tables.proofs.Printing.{is_printable as table_is_printable}
use Rattle.stimulus_tables.proofs.StimulusLaws.{table_is_stimulus}
use Rattle.stimulus_tables.proofs.WellFormedTables.{is_well_formed as table_is_well_formed}
use Rattle.stimulus_tables.specs.Records.{Fields, records_of}
use Rattle.stimulus_tables.specs.TableSystems.{last_time, row_at as row_of_moment, table_system}
use Rattle.super_time.specs.declared.point.Point.{Point}
use Rattle.text_accept.proofs.Acceptance.{judged_once}
use Rattle.text_accept.specs.Accepting.{IsAcceptedAs}
use Rattle.text_laws.proofs.ReadBack.{read_back}
use Rattle.text_laws.proofs.ReadIsPrintable.{read_is_printable}
use Rattle.trace_rows.proofs.RowLaws.{text_is as header_and_lines}
use Rattle.trace_rows.specs.Lines.{header_of, lines_of}
use Rattle.trace_verify.proofs.VerdictLaws.{verdict_right}
use Rattle.trace_verify.specs.Parting.{IsParted}
use Rattle.trace_verify.specs.Verdicts.{IsRight, verdict_of}
use Rattle.trace_verify.specs.declared.verdict.Verdict.{Verdict}
use Rattle.trace_verify.specs.declared.verdict.Verdict.TheVariants.{Yes, No}
use Rattle.unit_tree.specs.Canonical.{canonical_text}
use Rattle.unit_tree.specs.Compositions.{Composition, run_of}
use Rattle.unit_tree.specs.Lines.{source_lines}
use Rattle.unit_tree.specs.Orders.{HasNoCycle}
use Rattle.unit_tree.specs.Printable.{IsPrintable}
use Rattle.unit_tree.specs.SourceLines.{in_canonical_order, numbers_of}
use Rattle.unit_tree.specs.Trace.{IsTraceOf, Row, Stand, last_point, row_at, rows_of}
use Rattle.unit_tree.specs.WellFormed.{IsWellFormed}
use Rattle.model_rules.specs.Limits.{text_limit}
use Rattle.unit_tree.specs.declared.ending.Ending.{Ending}
use Rattle.unit_tree.specs.declared.ending.Ending.TheVariants.{Completed}
use Rattle.unit_tree.specs.declared.system.System.{System}
use Rattle.unit_upgrade.proofs.PrintedUpgrades.{upgrades_are_printable}
use Rattle.unit_upgrade.proofs.RulesKept.{upgrades_are_well_formed}
use Rattle.unit_upgrade.proofs.SameRuns.{upgrades_have_no_cycle, upgrades_run_the_same}
use Rattle.unit_upgrade.specs.Upgrades.{in_version_2, upgraded}

-- ---- What is printed is accepted

-- The canonical text of a printable system that keeps all rules is accepted as the system.
printed_accepted : (system : System) → IsPrintable system → IsWellFormed system → HasNoCycle system
    → (lines : List ℕ) × IsAcceptedAs (printed_text system) system lines
unfolding printed_text
printed_accepted system printable kept ordered =
    let reads = read_back system printable in (
      in_canonical_order reads.parts (numbers_of (source_lines (canonical_text system))),
      record { reads = record { reads = reads; are_lines = refl }; well_formed = kept; ordered = ordered },
    )

-- ---- Runs of an accepted text

-- The answer of a run of a text that is accepted as a system has the system's trace.
run_tells : (asked : Running) (text : List ℕ) (system : System) (lines : List ℕ) → IsAcceptedAs text system lines → (run : Answer)
    → Answers (Run asked) text run → TellsReported asked system run
run_tells asked text system lines accepted run (inl refusal) =
    absurd ((judged_once text).not_both system lines refusal.line refusal.rule accepted refusal.refused)
run_tells asked text system lines accepted run (inr runs) =
    subst (λ (s : System). TellsReported asked s run)
    ((judged_once text).one_system runs.system system runs.lines lines runs.accepted accepted).0 runs.is

-- The same for a printed system.
printed_run : (asked : Running) (system : System) → IsPrintable system → IsWellFormed system → HasNoCycle system → (out : List ℕ) → out ≡ printed_text system
    → (run : Answer) → Answers (Run asked) out run → TellsReported asked system run
printed_run asked system printable kept ordered out is run answers =
    let accepted = printed_accepted system printable kept ordered in
    run_tells asked (printed_text system) system accepted.0 accepted.1 run (subst (λ bytes. Answers (Run asked) bytes run) is answers)

-- What a run prints and how it ends, by any trace of the system.
by_trace : (asked : Running) (system : System) → IsWhole system → (run : Answer) → TellsReported asked system run → (trace : Answer) → TellsTrace system trace
    → (run.out ≡ trace.out) × (run.status ≡ trace.status)
by_trace asked system whole run tells trace other =
    let same = traces_same system whole tells.trace trace tells.tells other in (
      ap (λ (a : Answer). a.out) tells.is ∙ ap (λ (a : Answer). a.out) same,
      ap (λ (a : Answer). a.status) tells.is ∙ ap (λ (a : Answer). a.status) same,
    )

-- Also by the trace of the plain form.
by_rows : (asked : Running) (system : System) → IsWhole system → (run : Answer) → TellsReported asked system run → (rows : List Row) (last : Point) (ending : Ending)
    → IsTraceOf system rows last ending → (run.out ≡ header_of system ++ lines_of system rows) × (run.status ≡ status_of (read_end system ending))
by_rows asked system whole run tells rows last ending trace =
    let by = by_trace asked system whole run tells (run_answer system (read_rows system rows) last (read_end system ending))
    (trace_told system whole rows last ending trace) in
    (by.0 ∙ sym (text_is system whole rows last ending trace) ∙ sym (header_and_lines system rows), by.1)

-- ---- Texts that run as another one

module _ (asked also : Running) (system : System) (whole : IsWhole system) (one other : Answer) (a : TellsReported asked system one)
    (also_on : System) (b : TellsReported also also_on other) (tells : TellsTrace system b.trace) where
  same : a.trace ≡ b.trace
  same = traces_same system whole a.trace b.trace a.tells tells

  alike : RunAlike asked also one other
  alike = record {
    out = ap (λ (x : Answer). x.out) a.is ∙ ap (λ (x : Answer). x.out) same ∙ sym (ap (λ (x : Answer). x.out) b.is);
    status = ap (λ (x : Answer). x.status) a.is ∙ ap (λ (x : Answer). x.status) same ∙ sym (ap (λ (x : Answer). x.status) b.is);
    notes = (
      b.trace.notes,
      inr (a.report, ap (λ (x : Answer). x.notes) a.is ∙ ap (λ (x : Answer). x.notes ++ report_lines asked a.report) same),
      inr (b.report, ap (λ (x : Answer). x.notes) b.is),
    );
  }

pub prints_run_alike : PrintsRunAlike
prints_run_alike asked also text printed run other of on_text on_printed =
    let whole = whole_of text of.system of.lines of.accepted in
    let mine = run_tells asked text of.system of.lines of.accepted run on_text in
    let yours = printed_run also of.system (read_is_printable text of.system of.accepted.reads.reads) whole.well_formed whole.ordered printed.out
    (ap (λ (x : Answer). x.out) of.is) other on_printed in
    alike asked also of.system whole run other mine of.system yours yours.tells

-- The answer for a trace is the same for an upgraded system.
same_answer : (system : System) (rows : List EventRow) (last : Point) (ending : Ending)
    → run_answer (upgraded system) rows last ending ≡ run_answer system rows last ending
unfolding traced_text traced_notes
same_answer system rows last ending = by (system.version == 1)
  where
    by : (first : Bool) → run_answer (if first then in_version_2 system else system) rows last ending ≡ run_answer system rows last ending
    by true = refl
    by false = refl

upgraded_tells : (system : System) (trace : Answer) → TellsTrace (upgraded system) trace → TellsTrace system trace
upgraded_tells system trace tells = record {
  rows = tells.rows;
  last = tells.last;
  ending = tells.ending;
  trace = (upgrades_run_the_same system tells.rows tells.last tells.ending).0 tells.trace;
  is = tells.is ∙ same_answer system tells.rows tells.last tells.ending;
}

-- An upgraded system whose text is short enough is printable.
short_printable : (system : System) → IsPrintable system → IsWellFormed system → length (printed_text (upgraded system)) ≤ text_limit
    → IsPrintable (upgraded system)
unfolding printed_text
short_printable system printable kept fits = upgrades_are_printable system printable kept fits

pub upgrades_run_alike : UpgradesRunAlike
upgrades_run_alike asked also text made run other of on_text on_made =
    let system = of.system in
    let whole = whole_of text system of.lines of.accepted in
    let printable = read_is_printable text system of.accepted.reads.reads in
    let mine = run_tells asked text system of.lines of.accepted run on_text in
    let yours = printed_run also (upgraded system) (short_printable system printable whole.well_formed of.is.fits)
    (upgrades_are_well_formed system whole.well_formed) (upgrades_have_no_cycle system whole.ordered) made.out
    (ap (λ (x : Answer). x.out) of.is.is) other on_made in
    alike asked also system whole run other mine (upgraded system) yours (upgraded_tells system yours.trace yours.tells)

-- ---- `run | verify`

-- The verdict on records and the same records.
verdict_self : (records : List Fields) → verdict_of records records ≡ Yes
verdict_self records = by (verdict_of records records) (verdict_right records records)
  where
    by : (told : Verdict) → IsRight records records told → told ≡ Yes
    by Yes right = refl
    by (No number column) right = absurd (right.0.apart refl)

module _ (asked : Running) (text input : List ℕ) (run : Answer) (runs : AnswersRun asked text run) (parted : IsParted input text run.out)
    (short : length input ≤ verify_limit) where
  out_is : run.out ≡ traced_text runs.system runs.is.tells.rows
  out_is = ap (λ (x : Answer). x.out) runs.is.is ∙ ap (λ (x : Answer). x.out) runs.is.tells.is

  verified : AnswersVerify input (piece_answer (verdict_text Yes))
  verified = record {
    within = short;
    serves = record {
      model = text;
      table = run.out;
      parted = parted;
      told = record {
        system = runs.system;
        lines = runs.lines;
        accepted = runs.accepted;
        is = record {
          rows = runs.is.tells.rows;
          last = runs.is.tells.last;
          ending = runs.is.tells.ending;
          trace = runs.is.tells.trace;
          is = ap (λ verdict. piece_answer (verdict_text verdict))
              (sym (verdict_self (records_of (traced_text runs.system runs.is.tells.rows)))
              ∙ ap (λ table. verdict_of (records_of (traced_text runs.system runs.is.tells.rows)) (records_of table)) (sym out_is));
        };
      };
    };
  }

pub runs_are_verified : RunsAreVerified
runs_are_verified asked text input run verdict runs parted short (inl refusal) =
    absurd ((lawful_within verify_limit RefusesTable AnswersTable verify_lawful).not_both input refusal.line refusal.rule
    (piece_answer (verdict_text Yes)) refusal.refused (verified asked text input run runs parted short))
runs_are_verified asked text input run verdict runs parted short (inr serves) =
    determined_within verify_limit AnswersTable verdicts_once input verdict (piece_answer (verdict_text Yes)) serves
    (verified asked text input run runs parted short)

-- ---- `flatten | run`

-- The trace of a flat system is that of the nest.
nested : (text : List ℕ) (nest : Nest) (system : System) (lines : List ℕ) → IsNestOf text nest → ((line rule : ℕ) → BreaksNest nest line rule → ⊥)
    → IsAcceptedAs (printed_text (flat_of nest)) system lines → (rows : List EventRow) (last : Point) (ending : Ending)
    → IsEventTraceOf system rows last ending → IsNestTraceOf nest rows last ending
unfolding printed_text
nested text nest system lines says kept accepted rows last ending trace = (text_traces text nest system lines says kept accepted rows last ending).1 trace

pub flat_runs_are_nested : FlatRunsAreNested
flat_runs_are_nested asked text flat run of answers =
    let nest = of.flattens.nest in
    let flat_is = ap (λ (x : Answer). x.out) of.is ∙ of.flattens.is in
    let accepted = subst (λ bytes. IsAcceptedAs bytes of.system of.lines) of.flattens.is of.accepted in
    let tells = run_tells asked (printed_text (flat_of nest)) of.system of.lines accepted run (subst (λ bytes. Answers (Run asked) bytes run) flat_is answers) in
    record {
      nest = nest;
      says = of.flattens.says;
      system = of.system;
      lines = of.lines;
      flat = accepted;
      rows = tells.tells.rows;
      last = tells.tells.last;
      ending = tells.tells.ending;
      trace = nested text nest of.system of.lines of.flattens.says of.flattens.kept accepted tells.tells.rows tells.tells.last tells.tells.ending tells.tells.trace;
      out = ap (λ (x : Answer). x.out) tells.is ∙ ap (λ (x : Answer). x.out) tells.tells.is;
      status = ap (λ (x : Answer). x.status) tells.is ∙ ap (λ (x : Answer). x.status) tells.tells.is;
    }

-- ---- `stimulus | run`

pub tables_are_printed : TablesArePrinted
tables_are_printed asked table made run of answers =
    let played = of.serves in
    let t = played.plays in
    let stimulus = table_is_stimulus (records_of table) t.names t.first t.later t.is_table in
    let system = table_system t.names t.first t.later in
    let printable = table_is_printable t.names t.first t.later stimulus in
    let kept = table_is_well_formed t.names t.first t.later stimulus in
    let ordered = no_cycle t.names t.first t.later stimulus.are_names.differ in
    let whole : IsWhole system = record { ranged = printable.ranged; well_formed = kept; ordered = ordered } in
    let tells = printed_run asked system printable kept ordered made.out
    (ap (λ (x : Answer). x.out) played.is ∙ ap printed_text t.is) run answers in
    let rows = map (row_of_moment t.first t.later) (t.first ∷ t.later) in
    let told = by_rows asked system whole run tells rows (record { t = last_time t.first t.later; n = 0 }) Completed
    (table_played t.names t.first t.later stimulus) in
    record { names = t.names; first = t.first; later = t.later; is_table = t.is_table; out = told.0; status = told.1 }

-- ---- `gen | run` and `bench`

generated_printable : (given : Asked) → CanGive given → IsPrintable (system_asked given)
unfolding system_asked
generated_printable given can = generated_is_printable given.seed given.instances given.rows can

pub generated_runs_have_figures : GeneratedRunsHaveFigures
generated_runs_have_figures given asked made figures run can generated benched answers =
    let system = system_asked given in
    let whole = whole_asked given can in
    let tells = printed_run asked system (generated_printable given can) whole.well_formed whole.ordered made.out
    (ap (λ (x : Answer). x.out) generated) run answers in
    record {
      rows = benched.rows;
      last = benched.last;
      out = (by_rows asked system whole run tells benched.rows benched.last benched.ending benched.trace).0;
      figures_are = benched.is;
    }

-- ---- `nodes` and `run`

-- The rows of the first stands come first.
committed_first : (run : Composition) (node : Progress) (stands : List Stand)
    → (rest : List Row) × (rows_of run stands ≡ rows_of run (committed node stands) ++ rest)
committed_first run node stands = by (is_some node.ended)
  where
    by : (all : Bool) → (rest : List Row) × (rows_of run stands ≡ rows_of run (if all then stands else take node.at.number stands) ++ rest)
    by true = ([], sym (append-nil (rows_of run stands)))
    by false = (
      rows_of run (drop node.at.number stands),
      ap (rows_of run) (sym (take-append-drop node.at.number stands))
          ∙ filter_map-append (row_at run) (take node.at.number stands) (drop node.at.number stands),
    )

lines_more : (system : System) (front rest : List Row) → lines_of system (front ++ rest) ≡ lines_of system front ++ lines_of system rest
unfolding lines_of
lines_more system front rest = flat_map-append _ front rest

pub nodes_print_a_prefix : NodesPrintAPrefix
nodes_print_a_prefix asked split text nodes run of runs =
    let system = of.system in
    let whole = whole_of text system of.lines of.accepted in
    let tells = run_tells asked text system of.lines of.accepted run (inr runs) in
    let node = (pair_after (run_of system) split.seed split.rounds).first in
    let plain = has_one_trace system whole in
    let stands = plain.stands in
    let pair = pair_after (run_of system) split.seed split.rounds in
    let answer_is : nodes ≡ plain_nodes system pair stands =
    of.is.is
    ∙ ap (nodes_answer system pair) (stands_are system whole stands plain.ending plain.is_trace of.is.stands of.is.ending of.is.trace)
    ∙ sym (nodes_are system whole stands plain.ending plain.is_trace pair) in
    let rows = rows_of (run_of system) stands in
    let trace : IsTraceOf system rows (last_point stands) plain.ending =
    record { stands = stands; trace = plain.is_trace; rows_are = refl; last_is = refl } in
    let cut = committed_first (run_of system) node stands in
    let shown = rows_of (run_of system) (committed node stands) in (
      lines_of system cut.0,
      (by_rows asked system whole run tells rows (last_point stands) plain.ending trace).0
          ∙ ap (λ rows. header_of system ++ lines_of system rows) cut.1
          ∙ ap (λ lines. header_of system ++ lines) (lines_more system shown cut.0)
          ∙ sym (append_assoc (header_of system) (lines_of system shown) (lines_of system cut.0))
          ∙ ap (λ bytes. bytes ++ lines_of system cut.0) (ap (λ (x : Answer). x.out) (sym answer_is)),
    )
