-- The lines of the two units keep all rules, for any components.
use Rattle.std.proofs.Common.{◌≡◌, ℕ, ◌-◌, true, List, [], ◌∷◌, Some, None, refl}
use Rattle.std.specs.Prelude.{codes}
use Rattle.std.specs.List.{list_all}
use Rattle.unit_tree.specs.Canonical.{unit_parts}
use Rattle.unit_tree.specs.Parts as parts
use Rattle.unit_tree.specs.Sites.{TopScope, Site, sites, headed_part}
use Rattle.unit_tree.specs.WellFormed.{rules}
use Rattle.unit_tree.specs.declared.expr.Expr.{the_lemmas as expr_lemmas}
use Rattle.unit_tree.specs.declared.line.Line.{the_lemmas as line_lemmas}
use Rattle.unit_tree.specs.declared.line_form.LineForm.{LineForm}
use Rattle.unit_tree.specs.declared.line_form.LineForm.TheVariants as form
use Rattle.unit_tree.specs.declared.system.Instance.{Instance}
use Rattle.unit_tree.specs.declared.system.System.{System}
use Rattle.unit_tree.specs.declared.system.Wire.{Wire}
use Rattle.language_laws.proofs.KindLemmas.{kind_laws}
use Rattle.language_laws.proofs.PlainLemmas.{plain_measures}
use Rattle.cosim_gen.specs.Generated.{number, source_unit, mixer_unit}
use Rattle.text_laws.proofs.KeptRules.{keeps}

-- A system of the two units.
abbrev pub made : List Instance → List Wire → ℕ → System
made instances wires rows = record {
  version = 1;
  units = source_unit ∷ mixer_unit ∷ [];
  instances = instances;
  wires = wires;
  stop = Some (number (rows - 1));
  longest = Some (number 1);
  zero = None;
  rows = Some rows;
  samples = [];
}

abbrev pub header : List LineForm
header = form.Header 1 ∷ []

abbrev pub source_sites : List Site
source_sites = sites TopScope header (headed_part (parts.HasUnit (codes "src") (unit_parts source_unit)))

abbrev pub behind_source : List LineForm
behind_source = form.Header 1 ∷ form.Unit (codes "src") ∷ []

abbrev pub mixer_sites : List Site
mixer_sites = sites TopScope behind_source (headed_part (parts.HasUnit (codes "mix") (unit_parts mixer_unit)))

pub source_keeps : (instances : List Instance) (wires : List Wire) (rows : ℕ) → list_all (keeps rules (made instances wires rows)) source_sites ≡ true
source_keeps instances wires rows = simp line_lemmas (simp plain_measures (simp (kind_laws, expr_lemmas) refl))

pub mixer_keeps : (instances : List Instance) (wires : List Wire) (rows : ℕ) → list_all (keeps rules (made instances wires rows)) mixer_sites ≡ true
mixer_keeps instances wires rows = simp line_lemmas (simp plain_measures (simp (kind_laws, expr_lemmas) refl))
