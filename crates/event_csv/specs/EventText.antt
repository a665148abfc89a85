-- The text of the trace of a system as it is written: the header and the rows as CSV. An event output without an event has an
-- empty field.
use Rattle.std.specs.Prelude.{ℕ, List, [], ◌∷◌, ◌++◌, map, codes, slice_index_or}
use Rattle.std.specs.Fmt.{decimal}
use Rattle.std.specs.List.{filter_map, flat_map}
use Rattle.std.specs.Option.{option_map}
use Rattle.fixed_words.specs.Texts.{text_of}
use Rattle.fixed_words.specs.declared.types.Ty.{Ty}
use Rattle.super_time.specs.Seconds.{seconds_text_of}
use Rattle.trace_csv.specs.Lines.{line_of}
use Rattle.unit_tree.specs.Compositions.{place_of}
use Rattle.unit_tree.specs.Names.{Port, output_at}
use Rattle.unit_tree.specs.Plain.{samples_or_all}
use Rattle.unit_tree.specs.WellFormed.{resolution_of}
use Rattle.unit_tree.specs.declared.system.PortName.{PortName}
use Rattle.unit_tree.specs.declared.system.System.{System}
use Rattle.event_runs.specs.EventTrace.{EventRow}
use Rattle.event_runs.specs.Events.{Signal, Occurs, Absent}

-- ---- Columns

-- A column: its title, the place of its output among all outputs of the system, and its type.
pub record EventColumn : Type 0 where
  pub title : List ℕ
  pub place : ℕ
  pub ty : Ty

-- The column of an output, whose title is `instance.output`.
abbrev pub event_column : System → PortName → Port → EventColumn
event_column system port output =
    record { title = port.instance ++ codes "." ++ port.port; place = place_of system port; ty = output.ty }

-- The columns: the sampled outputs in the order of their lines or, where nothing is sampled, all outputs by instance and by
-- declaration.
abbrev pub event_columns_of : System → List EventColumn
event_columns_of system = filter_map (λ port. option_map (event_column system port) (output_at system port)) (samples_or_all system)

-- ---- Lines

-- The field of a signal: its word, or empty where no event occurs.
abbrev pub signal_text : Ty → Signal → List ℕ
signal_text ty (Occurs word) = text_of ty word
signal_text ty Absent = []

abbrev pub event_field : List Signal → EventColumn → List ℕ
event_field signals column = signal_text column.ty (slice_index_or signals column.place Absent)

-- `time`, `index`, and the titles of the columns.
abbrev pub event_header : System → List ℕ
event_header system = line_of (codes "time" ∷ codes "index" ∷ map (λ column. column.title) (event_columns_of system))

-- The time in seconds with exactly the decimals of the resolution, the index, and the fields of the columns.
abbrev pub event_line : System → EventRow → List ℕ
event_line system row =
    line_of
    (seconds_text_of (resolution_of system) row.point.t
    ∷ decimal row.point.n
    ∷ map (event_field row.signals) (event_columns_of system))

-- The text: the header, and a line for each row.
abbrev pub event_text : System → List EventRow → List ℕ
event_text system rows = event_header system ++ flat_map (event_line system) rows
