-- Rows of a trace that are written.
use Rattle.std.proofs.Common.{◌≡◌, ◌∙◌, ℕ, List, [], ◌∷◌, length, Option, Some, None, refl, sym, ap, subst, append-nil}
use Rattle.std.proofs.lemmas.Slice.Zip.{AllZip-long}
use Rattle.std.specs.List.{AllByRecursion, filter_map}
use Rattle.link_laws.specs.Keeping.{IsRowOfTrace}
use Rattle.link_laws.proofs.RuleLaws.{place_stands, place_words}
use Rattle.link_nodes.specs.ShownRows.{IsJudged}
use Rattle.run_laws.proofs.AssignmentLaws.{undefined_faults}
use Rattle.super_time.specs.declared.point.Point.{Point}
use Rattle.trace_csv.specs.Columns.{columns_of}
use Rattle.trace_csv.specs.TraceText.{HasWord, row_line}
use Rattle.trace_plan.specs.Plans.{Planned}
use Rattle.trace_rows.specs.Lines.{lines_of}
use Rattle.unit_tree.specs.Compositions.{Composition}
use Rattle.unit_tree.specs.Ports.{IsAssignment, Ports, port_fault}
use Rattle.unit_tree.specs.Trace.{AreWordsOf, IsStand, Row as TraceRow, row_unless}
use Rattle.unit_tree.specs.WellFormed.{resolution_of}
use Rattle.unit_tree.specs.declared.ending.Ending.{Ending}
use Rattle.unit_tree.specs.declared.system.Column.{Column}
use Rattle.unit_tree.specs.declared.system.System.{System}

words_told : (point : Point) (ports : Ports) (row : TraceRow) → row_unless None point ports ≡ Some row → filter_map (λ word. word) ports ≡ row.words
words_told point ports row is = let same : record { point = point; words = filter_map (λ word. word) ports } ≡ row = cc in ap (λ (r : TraceRow). r.words) same

module _ (plan : Planned) (judged : IsJudged plan) (row : TraceRow) (of : IsRowOfTrace plan.run row) where
  as_many : length of.stand.at.states ≡ length plan.run.members
  as_many = AllZip-long (λ member state. AreWordsOf member.component.unit.states state) plan.run.members of.stand.at.states
      (place_words plan.run judged.order judged.members judged.is_order of.stand of.place)

  is_stand : IsStand plan.run of.stand
  is_stand = place_stands plan.run judged.order judged.members judged.is_order of.stand of.place

  words_by : (fault : Option Ending) → port_fault plan.run of.stand.at.states of.stand.ports ≡ fault
      → row_unless fault of.stand.at.point of.stand.ports ≡ Some row → AllByRecursion (HasWord row.words) (columns_of plan.system)
  words_by (Some ending) fault is = absurd (cc)
  words_by None fault is =
      let there = (undefined_faults plan.run judged.order of.stand.at.states of.stand.ports judged.is_order as_many is_stand).0 fault in
      subst (λ words. AllByRecursion (HasWord words) (columns_of plan.system)) (words_told of.stand.at.point of.stand.ports row is)
      (judged.rows of.stand.at.states of.stand.ports (as_many ∙ ap (λ (run : Composition). length run.members) judged.run)
      (subst (λ run. IsAssignment run of.stand.at.states of.stand.ports) judged.run is_stand) there)

  -- The columns have their words in it.
  pub row_words : (columns : List Column) → columns ≡ columns_of plan.system → AllByRecursion (HasWord row.words) columns
  row_words columns are = subst (AllByRecursion (HasWord row.words)) (sym are) (words_by (port_fault plan.run of.stand.at.states of.stand.ports) refl of.is)

-- The line of one row.
pub one_line : (system : System) (resolution : ℕ) (columns : List Column) (row : TraceRow) → resolution ≡ resolution_of system → columns ≡ columns_of system
    → row_line resolution columns row.point row.words ≡ lines_of system (row ∷ [])
unfolding lines_of
one_line system resolution columns row same_resolution same_columns =
    ap (λ r. row_line r columns row.point row.words) same_resolution ∙ ap (λ c. row_line (resolution_of system) c row.point row.words) same_columns
    ∙ sym (append-nil (row_line (resolution_of system) (columns_of system) row.point row.words))
