-- The rows of a plain form, read as signals, are those of the source.
use Rattle.std.proofs.Common.{◌≡◌, ℕ, Bool, true, false, if◌then◌else◌, pos, List, [], ◌∷◌, map, length, Option, Some, None, refl, sym, ap, ◌∙◌, subst}
use Rattle.std.specs.Prelude.{is_some}
use Rattle.std.specs.List.{AllByRecursion, flat_map, filter_map, list_all, cons_option}
use Rattle.std.specs.Option.{option_map}
use Rattle.std.specs.Ordering.{int_eq}
use Rattle.std.proofs.lemmas.Slice.Zip.{AllZip-long}
use Rattle.event_runs.specs.Events.{Occurs, Absent}
use Rattle.unit_tree.specs.Compositions.{Composition, AreMembers}
use Rattle.unit_tree.specs.Ports.{Ports, IsPlaceOrder, port_fault}
use Rattle.unit_tree.specs.Trace.{Row, Stand, IsStand, Follows, IsTrace, HasWords, row_unless, row_at, rows_of}
use Rattle.unit_tree.specs.declared.ending.Ending.{Ending}
use Rattle.run_laws.proofs.AssignmentLaws.{undefined_faults}
use Rattle.run_laws.proofs.PositionLaws.{positions_keep}
use Rattle.run_laws.proofs.RunTraces.{goes_keeps}
use Rattle.event_runs.specs.EventPorts.{EventMember}
use Rattle.event_runs.specs.Readings.{shape_of, read_ports, HasShape, read_ending, read_stand, read_words, read_row, pace_of}
use Rattle.event_runs.specs.Laws.{AreTidy, IsPlainRun}
use Rattle.event_runs.specs.EventTrace.{EventRow, event_port_fault, event_row_unless, event_rows_of}
use Rattle.event_runs.proofs.FaultLaws.{fault_is_read}
use Rattle.event_runs.proofs.RunLaws.{assignment_is_read}
use Rattle.event_runs.proofs.TraceLaws.{fits}

pub words_read : (shape : List Bool) (ports : Ports) → AreTidy shape ports → list_all is_some ports ≡ true
    → filter_map (λ signal. signal) (read_ports shape ports) ≡ read_words shape (filter_map (λ word. word) ports)
words_read [] [] tidy all = refl
words_read [] (first ∷ ports) tidy all = absurd tidy
words_read (false ∷ shape) [] tidy all = absurd tidy
words_read (false ∷ shape) (None ∷ ports) tidy all = absurd (cc)
words_read (false ∷ shape) (Some word ∷ ports) tidy all = ap (λ rest. Occurs word ∷ rest) (words_read shape ports tidy all)
words_read (true ∷ shape) [] tidy all = absurd tidy
words_read (true ∷ shape) (tells ∷ []) tidy all = absurd tidy
words_read (true ∷ shape) (None ∷ word ∷ ports) tidy all = absurd (cc)
words_read (true ∷ shape) (Some tells ∷ None ∷ ports) tidy all = absurd (cc)
words_read (true ∷ shape) (Some tells ∷ Some word ∷ ports) tidy all =
    ap (λ rest. (if int_eq tells (pos 0) then Absent else Occurs word) ∷ rest) (words_read shape ports tidy.1 all)

shaped : (shape : List Bool) (ports : Ports) → AreTidy shape ports → list_all is_some ports ≡ true → HasShape shape (filter_map (λ word. word) ports)
shaped [] [] tidy all = tt
shaped [] (first ∷ ports) tidy all = absurd tidy
shaped (false ∷ shape) [] tidy all = absurd tidy
shaped (false ∷ shape) (None ∷ ports) tidy all = absurd (cc)
shaped (false ∷ shape) (Some word ∷ ports) tidy all = shaped shape ports tidy all
shaped (true ∷ shape) [] tidy all = absurd tidy
shaped (true ∷ shape) (tells ∷ []) tidy all = absurd tidy
shaped (true ∷ shape) (None ∷ word ∷ ports) tidy all = absurd (cc)
shaped (true ∷ shape) (Some tells ∷ None ∷ ports) tidy all = absurd (cc)
shaped (true ∷ shape) (Some tells ∷ Some word ∷ ports) tidy all = (tidy.0, shaped shape ports tidy.1 all)

pub cons_map : {A B : Type 0} (f : A → B) (x : Option A) (xs : List A) → cons_option (option_map f x) (map f xs) ≡ map f (cons_option x xs)
cons_map f None xs = refl
cons_map f (Some x) xs = refl

module _ (members : List EventMember) (run : Composition) (order : List ℕ) (plain : IsPlainRun members run) (are : AreMembers run)
    (ordered : IsPlaceOrder run order) where
  abbrev pub row_of : Stand → Option EventRow
  row_of stand = event_row_unless (event_port_fault members stand.at.states (read_stand members stand).signals) stand.at.point
      (read_stand members stand).signals

  row_by : (fault : Option Ending) (stand : Stand) → HasWords run stand.at → IsStand run stand → port_fault run stand.at.states stand.ports ≡ fault
      → row_of stand ≡ option_map (read_row members) (row_unless fault stand.at.point stand.ports)
  row_by (Some ending) stand words is told =
      let fit = fits members run order plain are ordered stand.at words in
      let tidy = (assignment_is_read members run stand.at.states plain fit stand.ports is).0 in
      ap (λ fault. event_row_unless fault stand.at.point (read_stand members stand).signals)
      (fault_is_read members run stand.at.states stand.ports plain fit tidy ∙ ap (option_map (read_ending members)) told)
  row_by None stand words is told =
      let fit = fits members run order plain are ordered stand.at words in
      let tidy = (assignment_is_read members run stand.at.states plain fit stand.ports is).0 in
      let count : length stand.at.states ≡ length run.members = AllZip-long _ run.members stand.at.states words in
      let defined : list_all is_some stand.ports ≡ true = (undefined_faults run order stand.at.states stand.ports ordered count is).0 told in
      ap (λ fault. event_row_unless fault stand.at.point (read_stand members stand).signals)
      (fault_is_read members run stand.at.states stand.ports plain fit tidy ∙ ap (option_map (read_ending members)) told)
      ∙ ap (λ signals. Some (record { point = stand.at.point; signals = signals })) (words_read (flat_map shape_of members) stand.ports tidy defined)

  pub row_read : (stand : Stand) → HasWords run stand.at → IsStand run stand → row_of stand ≡ option_map (read_row members) (row_at run stand)
  row_read stand words is = row_by (port_fault run stand.at.states stand.ports) stand words is refl

  pub follow_rows : (here : Stand) (stands : List Stand) (ending : Ending) → HasWords run here.at → IsStand run here → Follows run here stands ending
      → event_rows_of (record { members = members; pace = pace_of run }) (map (read_stand members) (here ∷ stands))
      ≡ map (read_row members) (rows_of run (here ∷ stands))
  follow_rows here [] ending words is follows = ap (λ row. cons_option row []) (row_read here words is) ∙ cons_map (read_row members) (row_at run here) []
  follow_rows here (next ∷ stands) ending words is follows =
      ap (λ row. cons_option row (event_rows_of (record { members = members; pace = pace_of run }) (map (read_stand members) (next ∷ stands))))
      (row_read here words is)
      ∙ ap (cons_option (option_map (read_row members) (row_at run here)))
      (follow_rows next stands ending (goes_keeps run here next are words follows.0) follows.0.1 follows.1)
      ∙ cons_map (read_row members) (row_at run here) (rows_of run (next ∷ stands))

  pub rows_read : (stands : List Stand) (ending : Ending) → IsTrace run stands ending
      → event_rows_of (record { members = members; pace = pace_of run }) (map (read_stand members) stands) ≡ map (read_row members) (rows_of run stands)
  rows_read [] ending trace = refl
  rows_read (first ∷ stands) ending trace = follow_rows first stands ending (subst (HasWords run) (sym trace.0) (positions_keep run are).first) trace.1 trace.2

  -- ---- Words of a row

  pub fit_by : (fault : Option Ending) (stand : Stand) (rest : List Row) → HasWords run stand.at → IsStand run stand
      → port_fault run stand.at.states stand.ports ≡ fault → AllByRecursion (λ row. HasShape (flat_map shape_of members) row.words) rest
      → AllByRecursion (λ row. HasShape (flat_map shape_of members) row.words) (cons_option (row_unless fault stand.at.point stand.ports) rest)
  fit_by (Some ending) stand rest words is told all = all
  fit_by None stand rest words is told all =
      let fit = fits members run order plain are ordered stand.at words in
      let tidy = (assignment_is_read members run stand.at.states plain fit stand.ports is).0 in
      let count : length stand.at.states ≡ length run.members = AllZip-long _ run.members stand.at.states words in
      (shaped (flat_map shape_of members) stand.ports tidy ((undefined_faults run order stand.at.states stand.ports ordered count is).0 told), all)

  pub follow_fit : (here : Stand) (stands : List Stand) (ending : Ending) → HasWords run here.at → IsStand run here → Follows run here stands ending
      → AllByRecursion (λ row. HasShape (flat_map shape_of members) row.words) (rows_of run (here ∷ stands))
  follow_fit here [] ending words is follows = fit_by (port_fault run here.at.states here.ports) here [] words is refl tt
  follow_fit here (next ∷ stands) ending words is follows =
      fit_by (port_fault run here.at.states here.ports) here (rows_of run (next ∷ stands)) words is refl
      (follow_fit next stands ending (goes_keeps run here next are words follows.0) follows.0.1 follows.1)

  -- Each row of a trace has one word for each plain output, and two for each event output.
  pub rows_fit : (stands : List Stand) (ending : Ending) → IsTrace run stands ending
      → AllByRecursion (λ row. HasShape (flat_map shape_of members) row.words) (rows_of run stands)
  rows_fit [] ending trace = tt
  rows_fit (first ∷ stands) ending trace =
      follow_fit first stands ending (subst (HasWords run) (sym trace.0) (positions_keep run are).first) trace.1 trace.2
