-- A run that is saved and resumed writes the same as the run.
use Rattle.std.proofs.Common.{◌≡◌, ℕ, ◌+◌, ◌≤◌, List, ◌∷◌, ◌++◌, length, map, take, refl, sym, ap, subst, ◌∙◌, inl, inr, arith}
use Rattle.std.specs.List.{flat_map}
use Rattle.std.proofs.Math.Seq.{take-append_seam}
use Rattle.std.proofs.Transfers.{drop-appended}
use Rattle.std.proofs.lemmas.List.Concat.{flat_map-append}
use Rattle.std.proofs.lemmas.List.{length-append, length-map, map-append, take-map}
use Rattle.text_accept.specs.Accepting.{IsAcceptedAs}
use Rattle.text_accept.proofs.Acceptance.{judged_once}
use Rattle.text_laws.proofs.ReadBack.{read_back}
use Rattle.text_laws.proofs.ReadIsPrintable.{read_is_printable}
use Rattle.run_laws.proofs.PositionLaws.{system_has_members}
use Rattle.run_laws.proofs.RunOrders.{runs_have_orders}
use Rattle.run_laws.proofs.Rests.{rest_ends_trace}
use Rattle.run_laws.specs.RestLaws.{EndsWithRest}
use Rattle.command_line.specs.Commands.{saved_limit}
use Rattle.command_line.specs.declared.commands.Command.TheVariants.{Resume}
use Rattle.save_point.specs.Laws.{CanBeResumed, saved_of}
use Rattle.save_point.specs.SavedTexts.{IsSaved, ended, named_states, saved_lines, saved_text}
use Rattle.save_point.specs.Saving.{FitsSaved}
use Rattle.save_point.proofs.PositionsOnce.{fits_one_or_none}
use Rattle.save_point.proofs.RowsBefore.{rows_before}
use Rattle.save_point.proofs.SavedOnce.{saves_or_breaks}
use Rattle.save_point.proofs.SavedTraces.{can_be_resumed}
use Rattle.event_csv.specs.EventText.{event_header, event_line}
use Rattle.event_runs.specs.EventRests.{IsEventPositionOf, IsReadFrom}
use Rattle.event_runs.specs.EventRuns.{event_members_of, event_run_of}
use Rattle.event_runs.specs.EventTrace.{EventRow, EventStand, event_rows_of}
use Rattle.event_runs.specs.Readings.{read_end, read_row, read_rows, read_stand}
use Rattle.event_runs.proofs.RestLaws.{rest_fits, stands_read}
use Rattle.unit_tree.specs.Canonical.{canonical_text}
use Rattle.unit_tree.specs.Compositions.{run_of}
use Rattle.unit_tree.specs.Plain.{plain_form}
use Rattle.unit_tree.specs.SourceLines.{in_canonical_order, numbers_of}
use Rattle.unit_tree.specs.Lines.{source_lines}
use Rattle.unit_tree.specs.Successor.{Position}
use Rattle.unit_tree.specs.Trace.{IsPositionOf, IsTrace, IsTraceOf, Row, Stand, rows_of}
use Rattle.unit_tree.specs.declared.system.System.{System}
use Rattle.cosim_call.specs.Answers.{Answer}
use Rattle.cosim_answers.specs.Accepted.{OnAccepted, TellsTrace, planned, run_answer, traced_notes, traced_text}
use Rattle.cosim_answers.specs.Answer.{Answers, report_lines}
use Rattle.cosim_answers.specs.Laws.{SavedRunsGoOn}
use Rattle.cosim_answers.specs.SavedAnswers.{AnswersResume, AnswersSave, FitsSystem, SavesIn, TellsRest, text_behind}
use Rattle.cosim_answers.proofs.CommandLaws.{traces_same}
use Rattle.cosim_answers.proofs.OutputNames.{ends_alike, same_status}
use Rattle.cosim_answers.proofs.RunLaws.{trace_told}
use Rattle.cosim_answers.proofs.PlainFits.{fits_plain, fits_read}
use Rattle.cosim_answers.proofs.PlainRests.{TellsPlainRest, lines_read, plain_position}
use Rattle.cosim_answers.proofs.SavedLaws.{as_plain, own_rest_there, resume_lawful}
use Rattle.cosim_answers.proofs.TraceLaws.{IsWhole, whole_of}

-- ---- The text after the lines of a saved text

-- The canonical text of the system of an accepted text is accepted as this system.
canonical_accepted : (text : List ℕ) (system : System) (lines : List ℕ) → IsAcceptedAs text system lines
    → (lines : List ℕ) × IsAcceptedAs (canonical_text system) system lines
canonical_accepted text system lines accepted =
    let reads = read_back system (read_is_printable text system accepted.reads.reads) in (
      in_canonical_order reads.parts (numbers_of (source_lines (canonical_text system))),
      record {
        reads = record { reads = reads; are_lines = refl };
        well_formed = accepted.well_formed;
        ordered = accepted.ordered;
      },
    )

-- It comes after the lines of a position.
canonical_behind : (system : System) (at : Position) → text_behind (saved_text system at) (saved_of system at) ≡ canonical_text system
unfolding saved_text
canonical_behind system at =
    drop-appended (ended (saved_lines at.number at.point (named_states system at))) (saved_text system at) (canonical_text system) refl

module _ (row : ℕ) (text : List ℕ) (saved resumed run : Answer) (of : AnswersSave row text saved) (on : AnswersResume saved.out resumed)
    (runs : OnAccepted TellsTrace text run) where
  abbrev system : System
  system = of.system

  abbrev at : Position
  at = of.is.at

  whole : IsWhole system
  whole = whole_of text system of.lines of.accepted

  position : IsPositionOf (run_of system) row at
  position = plain_position system whole row at of.is.is_position

  fits : FitsSaved (planned system) (saved_of system at) at
  fits = (can_be_resumed system row at whole.ranged whole.well_formed position).fits

  saves : IsSaved (saved_text system at) (saved_of system at)
  saves = (can_be_resumed system row at whole.ranged whole.well_formed position).saved

  text_saved : saved.out ≡ saved_text system at
  text_saved = ap (λ (a : Answer). a.out) of.is.is

  same_saved : on.saved ≡ saved_of system at
  same_saved =
      (saves_or_breaks (saved_text system at)).saved_once on.saved (saved_of system at)
      (subst (λ bytes. IsSaved bytes on.saved) text_saved on.saves.saves) saves

  behind : text_behind saved.out on.saved ≡ canonical_text system
  behind = ap (λ bytes. text_behind bytes on.saved) text_saved ∙ ap (text_behind (saved_text system at)) same_saved ∙ canonical_behind system at

  same_system : on.system ≡ system
  same_system =
      let canonical = canonical_accepted text system of.lines of.accepted in
      ((judged_once (canonical_text system)).one_system on.system system on.saves.lines canonical.0
      (subst (λ bytes. IsAcceptedAs bytes on.system on.saves.lines) behind on.saves.accepted) canonical.1).0

  same_position : on.at ≡ at
  same_position =
      (fits_one_or_none (planned system) (saved_of system at)).once on.at at
      (fits_plain system whole (saved_of system at) on.at
      (subst (λ s. FitsSystem system s on.at) same_saved (subst (λ s. FitsSystem s on.saved on.at) same_system on.fits)))
      fits

  told : TellsRest system at resumed
  told = subst (λ p. TellsRest system p resumed) same_position (subst (λ s. TellsRest s on.at resumed) same_system on.tells)

  tells : TellsPlainRest system at resumed
  tells = as_plain system (saved_of system at) at whole fits resumed told

  ends : EndsWithRest (run_of system) position.before (position.before ++ (position.here ∷ position.later)) position.ending tells.rows tells.last tells.ending
  ends =
      let order = runs_have_orders system whole.ranged whole.well_formed whole.ordered in
      rest_ends_trace (run_of system) order.0 row at tells.rows tells.last tells.ending (system_has_members (plain_form system)) order.1 position tells.rest

  -- The stands of the trace, and its rows before the position.
  abbrev stands : List Stand
  stands = position.before ++ (position.here ∷ position.later)

  abbrev plain_before : List Row
  plain_before = rows_of (run_of system) position.before

  trace : IsTraceOf system (plain_before ++ tells.rows) tells.last tells.ending
  trace = record {
    stands = stands;
    trace = subst (IsTrace (run_of system) stands) ends.ending_is position.trace;
    rows_are = sym ends.rows_are;
    last_is = sym ends.last_is;
  }

  -- The answer of the run for this trace.
  run_is : run ≡ run_answer system (read_rows system (plain_before ++ tells.rows)) tells.last (read_end system tells.ending)
  run_is =
      traces_same system whole run (run_answer system (read_rows system (plain_before ++ tells.rows)) tells.last (read_end system tells.ending))
      (subst (λ s. TellsTrace s run) ((judged_once text).one_system runs.system system runs.lines of.lines runs.accepted of.accepted).0 runs.is)
      (trace_told system whole (plain_before ++ tells.rows) tells.last tells.ending trace)

  -- ---- The rows of the system as it is written

  abbrev own : IsEventPositionOf system row at
  own = of.is.is_position

  abbrev before : List EventRow
  before = event_rows_of (event_run_of system) own.before

  abbrev read : Stand → EventStand
  read = read_stand (event_members_of system)

  stands_told : IsReadFrom system stands position.ending
  stands_told = stands_read system whole.ranged whole.well_formed whole.ordered stands position.ending position.trace

  -- The first stands, as many as the number of the position.
  own_first : own.before ≡ take row (own.before ++ (own.here ∷ own.later))
  own_first =
      sym (take-append_seam own.before (own.here ∷ own.later)) ∙ ap (λ count. take count (own.before ++ (own.here ∷ own.later))) (sym own.place)

  plain_first : take row stands ≡ position.before
  plain_first = ap (λ count. take count stands) position.place ∙ take-append_seam position.before (position.here ∷ position.later)

  stands_are : own.before ≡ map read (take row stands)
  stands_are =
      own_first
      ∙ ap (take row) (stands_told.is_only (own.before ++ (own.here ∷ own.later)) own.ending own.trace).0
      ∙ take-map read row stands

  before_read : before ≡ read_rows system plain_before
  before_read =
      ap (event_rows_of (event_run_of system)) stands_are
      ∙ stands_told.rows row
      ∙ ap (λ first. read_rows system (rows_of (run_of system) first)) plain_first

  many : length before ≡ row
  many =
      ap length before_read ∙ length-map plain_before (read_row (event_members_of system)) ∙ rows_before (run_of system) row at position

  -- What `resume` prints.
  rest_shown : flat_map (event_line system) (read_rows system tells.rows) ≡ resumed.out
  rest_shown =
      sym (lines_read system whole tells.rows (rest_fits system whole.ranged whole.well_formed whole.ordered at tells.rows tells.last tells.ending fits.position.has_words tells.rest))
      ∙ ap (λ (a : Answer). a.out) (sym tells.is)

  lines_are : flat_map (event_line system) (read_rows system (plain_before ++ tells.rows)) ≡ flat_map (event_line system) before ++ resumed.out
  lines_are =
      ap (flat_map (event_line system)) (map-append (read_row (event_members_of system)) plain_before tells.rows)
      ∙ flat_map-append (event_line system) (read_rows system plain_before) (read_rows system tells.rows)
      ∙ ap (λ rows. flat_map (event_line system) rows ++ flat_map (event_line system) (read_rows system tells.rows)) (sym before_read)
      ∙ ap (λ lines. flat_map (event_line system) before ++ lines) rest_shown

  out_is : run.out ≡ event_header system ++ (flat_map (event_line system) before ++ resumed.out)
  unfolding traced_text
  out_is = ap (λ (a : Answer). a.out) run_is ∙ ap (λ lines. event_header system ++ lines) lines_are

  notes_are : run.notes ≡ resumed.notes
  notes_are =
      ap (λ (a : Answer). a.notes) run_is
      ∙ ap (λ ending. traced_notes system ending tells.last) (sym (ends_alike system whole tells.ending))
      ∙ ap (λ (a : Answer). a.notes) (sym tells.is)

  status_is : run.status ≡ resumed.status
  status_is = ap (λ (a : Answer). a.status) run_is ∙ sym (same_status system tells.ending) ∙ ap (λ (a : Answer). a.status) (sym tells.is)

-- ---- What `save` writes is not refused

-- A saved text is its lines and the canonical text.
saved_length : (system : System) (at : Position)
    → length (saved_text system at) ≡ length (ended (saved_lines at.number at.point (named_states system at))) + length (canonical_text system)
unfolding saved_text
saved_length system at = length-append (ended (saved_lines at.number at.point (named_states system at))) (canonical_text system)

module _ (row : ℕ) (text : List ℕ) (saved : Answer) (of : AnswersSave row text saved) where
  abbrev place : Position
  place = of.is.at

  put : saved.out ≡ saved_text of.system place
  put = ap (λ (a : Answer). a.out) of.is.is

  resumable : CanBeResumed of.system place
  resumable =
      let whole = whole_of text of.system of.lines of.accepted in
      can_be_resumed of.system row place whole.ranged whole.well_formed (plain_position of.system whole row place of.is.is_position)

  short : length saved.out ≤ saved_limit
  short =
      let lines = resumable.short in
      let rest = (read_is_printable text of.system of.accepted.reads.reads).text in
      omega (arith, ap length put, saved_length of.system place, lines, rest)

  saves_it : IsSaved saved.out (saved_of of.system place)
  saves_it = subst (λ bytes. IsSaved bytes (saved_of of.system place)) (sym put) resumable.saved

  canonical : (lines : List ℕ) × IsAcceptedAs (text_behind saved.out (saved_of of.system place)) of.system lines
  canonical =
      let accepted = canonical_accepted text of.system of.lines of.accepted in (
        accepted.0,
        subst (λ bytes. IsAcceptedAs bytes of.system accepted.0)
            (sym (ap (λ bytes. text_behind bytes (saved_of of.system place)) put ∙ canonical_behind of.system place)) accepted.1,
      )

  saves_in : SavesIn saved.out (saved_of of.system place) of.system
  saves_in = record { within = short; saves = saves_it; lines = canonical.0; accepted = canonical.1 }

  rests : TellsRest of.system place (own_rest_there of.system (saved_of of.system place) place (whole_of text of.system of.lines of.accepted) resumable.fits).0
  rests = (own_rest_there of.system (saved_of of.system place) place (whole_of text of.system of.lines of.accepted) resumable.fits).1

  served : (answer : Answer) × AnswersResume saved.out answer
  served = (
    (own_rest_there of.system (saved_of of.system place) place (whole_of text of.system of.lines of.accepted) resumable.fits).0,
    record {
      saved = saved_of of.system place;
      system = of.system;
      saves = saves_in;
      at = place;
      fits = fits_read of.system (whole_of text of.system of.lines of.accepted) (saved_of of.system place) place resumable.fits;
      tells = rests;
    },
  )

  serves : (resumed : Answer) → Answers Resume saved.out resumed → AnswersResume saved.out resumed
  serves resumed (inl refusal) = absurd (resume_lawful.not_both saved.out refusal.line refusal.rule served.0 refusal.refused served.1)
  serves resumed (inr on) = on

pub saved_runs_go_on : SavedRunsGoOn
saved_runs_go_on row asked text saved resumed run of on (inl refusal) =
    absurd ((judged_once text).not_both of.system of.lines refusal.line refusal.rule of.accepted refusal.refused)
saved_runs_go_on row asked text saved resumed run of on (inr runs) =
    let trace = runs.is.trace in
    let told : OnAccepted TellsTrace text trace =
    record { system = runs.system; lines = runs.lines; accepted = runs.accepted; is = runs.is.tells } in
    let on' = serves row text saved of resumed on in
    record {
      before = before row text saved resumed trace of on' told;
      before_are = refl;
      as_many = many row text saved resumed trace of on' told;
      out = ap (λ (a : Answer). a.out) runs.is.is ∙ out_is row text saved resumed trace of on' told;
      notes = inr (
        runs.is.report,
        ap (λ (a : Answer). a.notes) runs.is.is
            ∙ ap (λ notes. notes ++ report_lines asked runs.is.report) (notes_are row text saved resumed trace of on' told),
      );
      status = ap (λ (a : Answer). a.status) runs.is.is ∙ status_is row text saved resumed trace of on' told;
    }
