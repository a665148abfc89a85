-- A nested text runs as the canonical text of its flat system.
use Rattle.std.proofs.Common.{◌≡◌, ℕ, List, length, sym, ap, subst, ◌∙◌}
use Rattle.std.specs.Prelude.{◌↔◌}
use Rattle.std.proofs.lemmas.List.{length-map}
use Rattle.std.proofs.lemmas.Slice.Zip.{AllZip-long}
use Rattle.super_time.specs.declared.point.Point.{Point}
use Rattle.unit_tree.specs.Canonical.{canonical_text}
use Rattle.unit_tree.specs.WellFormed.{IsWellFormed}
use Rattle.unit_tree.specs.declared.ending.Ending.{Ending}
use Rattle.unit_tree.specs.declared.system.System.{System}
use Rattle.event_runs.specs.EventRuns.{IsEventTraceOf}
use Rattle.event_runs.specs.EventTrace.{EventRow}
use Rattle.nest_text.specs.Nests.{GroupLines, IsGroupOf, IsNestOf, groups_of}
use Rattle.nest_text.specs.declared.nest.Nest.{Nest}
use Rattle.nest_names.specs.Flattening.{flat_of}
use Rattle.sub_flat.specs.NestRules.{BreaksNest}
use Rattle.text_accept.specs.Accepting.{IsAcceptedAs}
use Rattle.text_laws.proofs.ReadBack.{read_back}
use Rattle.unit_text.proofs.AnswerLaws.{answered_once}
use Rattle.unit_text.proofs.KnownForms.{known}
use Rattle.nest_runs.specs.NestTrace.{IsNestTraceOf}
use Rattle.nest_runs.specs.SoundNests.{IsSound}
use Rattle.nest_runs.proofs.SoundLaws.{flat_printable}
use Rattle.nest_runs.proofs.TraceLaws.{same_traces}

pub lines_long : (text : List ℕ) (nest : Nest) → IsNestOf text nest → length nest.lines ≡ length nest.groups
lines_long text nest says =
    ap length says.lines ∙ length-map (groups_of says.cut.prefix) (λ (lines : GroupLines). lines.head)
    ∙ sym (AllZip-long IsGroupOf (groups_of says.cut.prefix) nest.groups says.groups)

module _ (text : List ℕ) (nest : Nest) (system : System) (lines : List ℕ) (says : IsNestOf text nest)
    (unbroken : (line rule : ℕ) → BreaksNest nest line rule → ⊥) (accepted : IsAcceptedAs (canonical_text (flat_of nest)) system lines) where
  is_flat : flat_of nest ≡ system
  is_flat = (answered_once known (canonical_text (flat_of nest))).one_system (flat_of nest) system
      (read_back (flat_of nest) (flat_printable nest unbroken)) accepted.reads.reads

  sound : IsSound nest
  sound = record {
    lines = lines_long text nest says;
    unbroken = unbroken;
    well_formed = subst IsWellFormed (sym is_flat) accepted.well_formed;
  }

  pub text_traces : (rows : List EventRow) (last : Point) (ending : Ending)
      → IsNestTraceOf nest rows last ending ↔ IsEventTraceOf system rows last ending
  text_traces rows last ending =
      subst (λ s. IsNestTraceOf nest rows last ending ↔ IsEventTraceOf s rows last ending) is_flat (same_traces nest sound rows last ending)
