-- The rest of a position of the plain form, as an answer. It is the answer by the rest of the system.
use Rattle.std.proofs.Common.{◌≡◌, ℕ, List, [], ◌∷◌, ◌++◌, sym, ap, ◌∙◌, refl}
use Rattle.std.specs.List.{AllByRecursion, flat_map}
use Rattle.event_csv.specs.EventText.{event_header, event_line, event_text}
use Rattle.event_csv.proofs.TextLaws.{header_read, line_read}
use Rattle.event_runs.specs.EventRests.{IsEventPositionOf}
use Rattle.event_runs.specs.EventRuns.{event_members_of}
use Rattle.event_runs.specs.Readings.{HasShape, read_end, read_row, read_rows, system_shape}
use Rattle.event_runs.proofs.RestLaws.{position_plain, position_read, rest_fits, rest_only, rest_read}
use Rattle.super_time.specs.declared.point.Point.{Point}
use Rattle.trace_csv.specs.Columns.{columns_of}
use Rattle.trace_csv.specs.TraceText.{row_line}
use Rattle.trace_rows.specs.Lines.{header_of, lines_of}
use Rattle.unit_tree.specs.Compositions.{run_of}
use Rattle.unit_tree.specs.Successor.{Position}
use Rattle.unit_tree.specs.Trace.{HasWords, IsPositionOf, IsRest, Row}
use Rattle.unit_tree.specs.WellFormed.{resolution_of}
use Rattle.unit_tree.specs.declared.ending.Ending.{Ending}
use Rattle.unit_tree.specs.declared.system.System.{System}
use Rattle.cosim_call.specs.Answers.{Answer}
use Rattle.cosim_answers.specs.Accepted.{status_of, traced_notes}
use Rattle.cosim_answers.specs.SavedAnswers.{TellsRest, resumed_answer}
use Rattle.cosim_answers.specs.SourcePlaces.{source_end}
use Rattle.cosim_answers.proofs.OutputNames.{ends_alike, same_status}
use Rattle.cosim_answers.proofs.TraceLaws.{IsWhole}

-- The lines of rows of the plain form, and how and where its run ended.
abbrev pub plain_answer : System → List Row → Point → Ending → Answer
plain_answer system rows last ending = record {
  out = lines_of system rows;
  notes = traced_notes system (source_end system ending) last;
  status = status_of ending;
}

-- The answer is the rest of the position in the plain form.
pub record TellsPlainRest (system : System) (at : Position) (answer : Answer) : Type 0 where
  pub rows : List Row
  pub last : Point
  pub ending : Ending
  pub rest : IsRest (run_of system) at rows last ending
  pub is : answer ≡ plain_answer system rows last ending

module _ (system : System) (whole : IsWhole system) where
  pub lines_read : (rows : List Row) → AllByRecursion (λ row. HasShape (system_shape system) row.words) rows
      → lines_of system rows ≡ flat_map (event_line system) (read_rows system rows)
  unfolding lines_of
  lines_read [] fit = refl
  lines_read (row ∷ rows) fit =
      ap (λ line. line ++ flat_map (λ one. row_line (resolution_of system) (columns_of system) one.point one.words) rows)
      (line_read system whole.ranged whole.well_formed row fit.0)
      ∙ ap (λ lines. event_line system (read_row (event_members_of system) row) ++ lines) (lines_read rows fit.1)

  -- The header and the lines of rows of the plain form are the text of these rows.
  pub text_shown : (rows : List Row) → AllByRecursion (λ row. HasShape (system_shape system) row.words) rows
      → header_of system ++ lines_of system rows ≡ event_text system (read_rows system rows)
  unfolding header_of
  text_shown rows fit =
      ap (λ header. header ++ lines_of system rows) (header_read system whole.ranged whole.well_formed)
      ∙ ap (λ lines. event_header system ++ lines) (lines_read rows fit)

  module _ (at : Position) (words : HasWords (run_of system) at) where
    plain_is : (rows : List Row) (last : Point) (ending : Ending) → IsRest (run_of system) at rows last ending
        → plain_answer system rows last ending ≡ resumed_answer system (read_rows system rows) last (read_end system ending)
    plain_is rows last ending rest =
        let lines = lines_read rows (rest_fits system whole.ranged whole.well_formed whole.ordered at rows last ending words rest) in
        let notes = ap (λ end. traced_notes system end last) (ends_alike system whole ending) in
        let status = same_status system ending in
        λ i. record { out = lines i; notes = notes i; status = status i }

    -- So it is the rest of the system.
    pub rest_told : (answer : Answer) → TellsPlainRest system at answer → TellsRest system at answer
    rest_told answer tells = record {
      rows = read_rows system tells.rows;
      last = tells.last;
      ending = read_end system tells.ending;
      rest = rest_read system whole.ranged whole.well_formed whole.ordered at tells.rows tells.last tells.ending words tells.rest;
      is = tells.is ∙ plain_is tells.rows tells.last tells.ending tells.rest;
    }

    -- Where there is a rest of the plain form, each rest of the system is it.
    pub rest_plain : (there : Answer) → TellsPlainRest system at there → (answer : Answer) → TellsRest system at answer → TellsPlainRest system at answer
    rest_plain there plain answer tells =
        let only = rest_only system whole.ranged whole.well_formed whole.ordered at plain.rows plain.last plain.ending words plain.rest
        tells.rows tells.last tells.ending tells.rest in
        record {
          rows = plain.rows;
          last = plain.last;
          ending = plain.ending;
          rest = plain.rest;
          is =
              tells.is
              ∙ ap (λ rows. resumed_answer system rows tells.last tells.ending) only.0
              ∙ ap (λ last. resumed_answer system (read_rows system plain.rows) last tells.ending) only.1
              ∙ ap (resumed_answer system (read_rows system plain.rows) plain.last) only.2
              ∙ sym (plain_is plain.rows plain.last plain.ending plain.rest);
        }

  -- ---- Positions

  pub position_told : (row : ℕ) (at : Position) → IsPositionOf (run_of system) row at → IsEventPositionOf system row at
  position_told row at is = position_read system whole.ranged whole.well_formed whole.ordered row at is

  pub plain_position : (row : ℕ) (at : Position) → IsEventPositionOf system row at → IsPositionOf (run_of system) row at
  plain_position row at is = position_plain system whole.ranged whole.well_formed whole.ordered row at is
