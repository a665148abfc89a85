-- The text of the trace of the plain form is that of the system's own trace.
use Rattle.std.proofs.Common.{◌≡◌, ℕ, zero, suc, ◌+◌, ◌-◌, Bool, true, false, cond, ℤ, pos, List, [], ◌∷◌, ◌++◌, map, Option, Some, None, refl, ap}
use Rattle.std.proofs.Common.{sym, subst, ◌∙◌, arith}
use Rattle.std.specs.Prelude.{◌&&◌, codes, is_none, slice_get, slice_index_or, if◌then◌else◌, unwrap_or}
use Rattle.std.specs.Fmt.{decimal}
use Rattle.std.specs.List.{AllByRecursion, cons_option, filter_map, flat_map}
use Rattle.std.specs.Option.{option_and_then, option_map}
use Rattle.std.specs.Ordering.{int_eq}
use Rattle.std.specs.Str.{bytes_eq}
use Rattle.std.proofs.lemmas.List.Folds.{find_at}
use Rattle.fixed_words.specs.Texts.{text_of}
use Rattle.fixed_words.specs.declared.types.Ty.{Ty}
use Rattle.super_time.specs.Seconds.{seconds_text_of}
use Rattle.trace_csv.specs.Columns.{column_of, columns_of, output_number, port_title, title_of}
use Rattle.trace_csv.specs.Lines.{line_of}
use Rattle.trace_csv.specs.TraceText.{header_line, field_of, row_line, trace_text}
use Rattle.unit_tree.specs.Compositions.{place_of}
use Rattle.unit_tree.specs.Names.{Port, output_at, unit_of_instance}
use Rattle.unit_tree.specs.Orders.{IsIn, outputs_of}
use Rattle.unit_tree.specs.Plain.{plain_form, samples_or_all}
use Rattle.unit_tree.specs.Printable.{IsRanged}
use Rattle.unit_tree.specs.Trace.{Row}
use Rattle.unit_tree.specs.WellFormed.{IsWellFormed, resolution_of}
use Rattle.unit_tree.specs.declared.system.Column.{Column}
use Rattle.unit_tree.specs.declared.system.Instance.{Instance}
use Rattle.unit_tree.specs.declared.system.PortName.{PortName}
use Rattle.unit_tree.specs.declared.system.System.{System}
use Rattle.unit_tree.specs.declared.unit.Output.{Output}
use Rattle.unit_tree.specs.declared.unit.Unit.{Unit}
use Rattle.language_laws.proofs.NameLaws.{same_bytes}
use Rattle.run_laws.proofs.PlaceOrders.{has_in}
use Rattle.run_laws.proofs.PortLaws.{output_has}
use Rattle.trace_plan.proofs.ShownOutputs.{shown_of}
use Rattle.event_runs.specs.Readings.{plain_place, HasShape, read_words}
use Rattle.event_runs.specs.EventTrace.{EventRow}
use Rattle.event_runs.specs.Events.{Signal, Occurs, Absent}
use Rattle.event_runs.proofs.SystemTraces.{rows_shaped}
use Rattle.event_runs.proofs.SplitPlaces.{event, shape, place_of_plain, place_of_event, shape_at_place}
use Rattle.event_runs.proofs.SystemMembers.{place_kept, shape_is}
use Rattle.list_laws.proofs.Members.{found_passes}
use Rattle.event_csv.specs.Laws.{HeadersAreRead, LinesAreRead, TextsAreRead}
use Rattle.event_csv.specs.EventText.{EventColumn, event_column, event_field, event_header, event_line, event_text, signal_text}

-- ---- Words of a row

-- The signal of an output of the shape, from the words of the plain form.
abbrev signal_by : List Bool → List ℤ → ℕ → Bool → Signal
signal_by shape words place false = Occurs (slice_index_or words (plain_place shape place) (pos 0))
signal_by shape words place true =
    if int_eq (slice_index_or words (plain_place shape place) (pos 0)) (pos 0)
    then Absent
    else Occurs (slice_index_or words (suc (plain_place shape place)) (pos 0))

read_at : (shape : List Bool) (words : List ℤ) (place : ℕ) (told : Bool) → HasShape shape words → slice_get shape place ≡ Some told
    → slice_index_or (read_words shape words) place Absent ≡ signal_by shape words place told
read_at [] words place told fits is = absurd (cc)
read_at (false ∷ shape) [] place told fits is = absurd fits
read_at (false ∷ shape) (word ∷ words) zero true fits is = absurd (cc)
read_at (false ∷ shape) (word ∷ words) zero false fits is = refl
read_at (false ∷ shape) (word ∷ words) (suc place) true fits is = read_at shape words place true fits is
read_at (false ∷ shape) (word ∷ words) (suc place) false fits is = read_at shape words place false fits is
read_at (true ∷ shape) [] place told fits is = absurd fits
read_at (true ∷ shape) (tells ∷ []) place told fits is = absurd fits
read_at (true ∷ shape) (tells ∷ word ∷ words) zero true fits is = refl
read_at (true ∷ shape) (tells ∷ word ∷ words) zero false fits is = absurd (cc)
read_at (true ∷ shape) (tells ∷ word ∷ words) (suc place) true fits is = read_at shape words place true fits.1 is
read_at (true ∷ shape) (tells ∷ word ∷ words) (suc place) false fits is = read_at shape words place false fits.1 is

one_less : (place : ℕ) → suc place - 1 ≡ place
one_less place = omega arith

-- The text of a signal, from two words.
text_by : (ty : Ty) (absent : Bool) (word : ℤ) → cond absent [] (text_of ty word) ≡ signal_text ty (cond absent Absent (Occurs word))
text_by ty true word = refl
text_by ty false word = refl

module _ (system : System) (ranged : IsRanged system) (kept : IsWellFormed system) where
  abbrev run : System
  run = plain_form system

  abbrev told : List Bool
  told = shape system ranged kept

  there : (port : PortName) (output : Port) → output_at system port ≡ Some output → IsIn (outputs_of system) port
  there port output is = has_in (outputs_of system) port (output_has system port (ap is_none is))

  told_is : (port : PortName) (output : Port) → output_at system port ≡ Some output → event system ranged kept port ≡ output.is_event
  told_is port output is = ap (λ given. unwrap_or (option_map (λ (o : Port). o.is_event) given) false) is

  -- ---- Titles

  title_is : (port : PortName) (output : Port) → output_at system port ≡ Some output
      → title_of system (column_of system port output) ≡ Some (port.instance ++ codes "." ++ port.port)
  title_is port output is =
      let shown = (shown_of system ranged kept port output is).shown in
      let at = shown.placed in
      let instance_name : shown.instance.name ≡ port.instance =
      same_bytes shown.instance.name port.instance
      (found_passes (λ (i : Instance). bytes_eq i.name port.instance) run.instances shown.instance
      (find_at (λ (i : Instance). bytes_eq i.name port.instance) run.instances ∙ at.is_instance)) in
      let output_name : shown.made.name ≡ port.port =
      same_bytes shown.made.name port.port
      (found_passes (λ (o : Output). bytes_eq o.name port.port) shown.unit.outputs shown.made
      (find_at (λ (o : Output). bytes_eq o.name port.port) shown.unit.outputs
      ∙ ap (slice_get shown.unit.outputs) (sym at.number) ∙ at.is_output)) in
      ap (option_and_then (λ instance.
      option_and_then (λ (unit : Unit). option_map (port_title instance) (slice_get unit.outputs (output_number run port)))
      (unit_of_instance run instance))) at.is_instance
      ∙ ap (option_and_then (λ (unit : Unit). option_map (port_title shown.instance) (slice_get unit.outputs (output_number run port)))) at.is_unit
      ∙ ap (option_map (port_title shown.instance)) at.is_output
      ∙ ap (λ name. Some (name ++ codes "." ++ shown.made.name)) instance_name
      ∙ ap (λ name. Some (port.instance ++ codes "." ++ name)) output_name

  titles_by : (port : PortName) (given : Option Port) (columns : List Column) (others : List EventColumn) → output_at system port ≡ given
      → filter_map (title_of system) columns ≡ map (λ (c : EventColumn). c.title) others
      → filter_map (title_of system) (cons_option (option_map (column_of system port) given) columns)
      ≡ map (λ (c : EventColumn). c.title) (cons_option (option_map (event_column system port) given) others)
  titles_by port None columns others is same = same
  titles_by port (Some output) columns others is same =
      ap (λ title. cons_option title (filter_map (title_of system) columns)) (title_is port output is)
      ∙ ap (λ rest. (port.instance ++ codes "." ++ port.port) ∷ rest) same

  titles_are : (ports : List PortName)
      → filter_map (title_of system) (filter_map (λ port. option_map (column_of system port) (output_at system port)) ports)
      ≡ map (λ (c : EventColumn). c.title) (filter_map (λ port. option_map (event_column system port) (output_at system port)) ports)
  titles_are [] = refl
  titles_are (port ∷ ports) =
      titles_by port (output_at system port) (filter_map (λ p. option_map (column_of system p) (output_at system p)) ports)
      (filter_map (λ p. option_map (event_column system p) (output_at system p)) ports) refl (titles_are ports)

  -- ---- Fields

  -- The field of an output by the words at its places.
  field_at : (port : PortName) (output : Port) (words : List ℤ) (is_event : Bool) → output_at system port ≡ Some output → output.is_event ≡ is_event
      → cond (is_event && int_eq (slice_index_or words (place_of run port - 1) (pos 0)) (pos 0)) []
      (text_of output.ty (slice_index_or words (place_of run port) (pos 0)))
      ≡ signal_text output.ty (signal_by told words (place_of system port) is_event)
  field_at port output words false is plain =
      ap (λ place. text_of output.ty (slice_index_or words place (pos 0)))
      (sym (place_kept system ranged kept port) ∙ place_of_plain system ranged kept port (there port output is) (told_is port output is ∙ plain))
  field_at port output words true is event_is =
      ap (λ place. cond (int_eq (slice_index_or words (place - 1) (pos 0)) (pos 0)) [] (text_of output.ty (slice_index_or words place (pos 0))))
      (sym (place_kept system ranged kept port) ∙ place_of_event system ranged kept port (there port output is) (told_is port output is ∙ event_is))
      ∙ ap (λ before. cond (int_eq (slice_index_or words before (pos 0)) (pos 0)) []
      (text_of output.ty (slice_index_or words (suc (plain_place told (place_of system port))) (pos 0)))) (one_less (plain_place told (place_of system port)))
      ∙ text_by output.ty (int_eq (slice_index_or words (plain_place told (place_of system port)) (pos 0)) (pos 0))
      (slice_index_or words (suc (plain_place told (place_of system port))) (pos 0))

  field_is : (port : PortName) (output : Port) (words : List ℤ) → output_at system port ≡ Some output → HasShape told words
      → field_of words (column_of system port output) ≡ event_field (read_words told words) (event_column system port output)
  field_is port output words is fits =
      field_at port output words output.is_event is refl
      ∙ sym (ap (signal_text output.ty)
      (read_at told words (place_of system port) output.is_event fits
      (shape_at_place system ranged kept port (there port output is) ∙ ap Some (told_is port output is))))

  fields_by : (words : List ℤ) (port : PortName) (given : Option Port) (columns : List Column) (others : List EventColumn) → output_at system port ≡ given
      → HasShape told words → map (field_of words) columns ≡ map (event_field (read_words told words)) others
      → map (field_of words) (cons_option (option_map (column_of system port) given) columns)
      ≡ map (event_field (read_words told words)) (cons_option (option_map (event_column system port) given) others)
  fields_by words port None columns others is fits same = same
  fields_by words port (Some output) columns others is fits same =
      ap (λ field. field ∷ map (field_of words) columns) (field_is port output words is fits)
      ∙ ap (λ rest. event_field (read_words told words) (event_column system port output) ∷ rest) same

  fields_are : (words : List ℤ) (ports : List PortName) → HasShape told words
      → map (field_of words) (filter_map (λ port. option_map (column_of system port) (output_at system port)) ports)
      ≡ map (event_field (read_words told words)) (filter_map (λ port. option_map (event_column system port) (output_at system port)) ports)
  fields_are words [] fits = refl
  fields_are words (port ∷ ports) fits =
      fields_by words port (output_at system port) (filter_map (λ p. option_map (column_of system p) (output_at system p)) ports)
      (filter_map (λ p. option_map (event_column system p) (output_at system p)) ports) refl fits (fields_are words ports fits)

  -- ---- Lines

  abbrev read : Row → EventRow
  read row = record { point = row.point; signals = read_words told row.words }

  line_is : (row : Row) → HasShape told row.words → row_line (resolution_of system) (columns_of system) row.point row.words ≡ event_line system (read row)
  line_is row fits =
      ap (λ fields. line_of (seconds_text_of (resolution_of system) row.point.t ∷ decimal row.point.n ∷ fields))
      (fields_are row.words (samples_or_all system) fits)

  lines_are : (rows : List Row) → AllByRecursion (λ row. HasShape told row.words) rows
      → flat_map (λ row. row_line (resolution_of system) (columns_of system) row.point row.words) rows ≡ flat_map (event_line system) (map read rows)
  lines_are [] fit = refl
  lines_are (row ∷ rows) fit =
      ap (λ line. line ++ flat_map (λ r. row_line (resolution_of system) (columns_of system) r.point r.words) rows) (line_is row fit.0)
      ∙ ap (λ rest. event_line system (read row) ++ rest) (lines_are rows fit.1)

  header_is : header_line system (columns_of system) ≡ event_header system
  header_is = ap (λ titles. line_of (codes "time" ∷ codes "index" ∷ titles)) (titles_are (samples_or_all system))

  text_by_shape : (rows : List Row) → AllByRecursion (λ row. HasShape told row.words) rows → trace_text system rows ≡ event_text system (map read rows)
  text_by_shape rows fit =
      ap (λ header. header ++ flat_map (λ row. row_line (resolution_of system) (columns_of system) row.point row.words) rows) header_is
      ∙ ap (λ lines. event_header system ++ lines) (lines_are rows fit)

pub header_read : HeadersAreRead
header_read system ranged kept = header_is system ranged kept

pub line_read : LinesAreRead
line_read system ranged kept row fits =
    let same = shape_is system ranged kept in
    line_is system ranged kept row (subst (λ s. HasShape s row.words) (sym same) fits)
    ∙ ap (λ s. event_line system (record { point = row.point; signals = read_words s row.words })) same

pub text_read : TextsAreRead
text_read system ranged kept no_cycle rows last ending of =
    let same = shape_is system ranged kept in
    text_by_shape system ranged kept rows
    (subst (λ s. AllByRecursion (λ row. HasShape s row.words) rows) (sym same) (rows_shaped system ranged kept no_cycle rows last ending of))
    ∙ ap (λ s. event_text system (map (λ row. record { point = row.point; signals = read_words s row.words }) rows)) same
