-- The canonical lines of a system in parts: those up to its longest step, its two budgets, and its samples.
use Rattle.std.proofs.Common.{◌≡◌, ℕ, List, ◌∷◌, ◌++◌, append_assoc, map, flat_map, Option, ap, ◌∙◌}
use Rattle.std.proofs.lemmas.Grind.{flat_map-append}
use Rattle.unit_tree.specs.Canonical.{canonical_forms, canonical_parts, optional, unit_parts}
use Rattle.unit_tree.specs.Parts as parts
use Rattle.unit_tree.specs.Parts.{Part, part_forms}
use Rattle.unit_tree.specs.Sites.{Headed, headed_part}
use Rattle.unit_tree.specs.declared.line_form.LineForm.{LineForm}
use Rattle.unit_tree.specs.declared.line_form.LineForm.TheVariants as form
use Rattle.unit_tree.specs.declared.system.System.{System}

abbrev pub parts_to_longest : System → List Part
parts_to_longest system =
    map (λ unit. parts.HasUnit unit.name (unit_parts unit)) system.units
    ++ map parts.HasInstance system.instances
    ++ map parts.Connects system.wires
    ++ optional parts.Stop system.stop
    ++ optional parts.Longest system.longest

abbrev pub sample_parts : System → List Part
sample_parts system = map parts.Samples system.samples

regrouped : {B : Type 0} (front zeros rows samples : List B) → ((front ++ zeros) ++ rows) ++ samples ≡ front ++ (zeros ++ (rows ++ samples))
regrouped front zeros rows samples = append_assoc (front ++ zeros) rows samples ∙ append_assoc front zeros (rows ++ samples)

parted : {B : Type 0} (f : Part → List B) (front zeros rows samples : List Part)
    → flat_map f (((front ++ zeros) ++ rows) ++ samples) ≡ flat_map f front ++ (flat_map f zeros ++ (flat_map f rows ++ flat_map f samples))
parted f front zeros rows samples =
    flat_map-append f ((front ++ zeros) ++ rows) samples
    ∙ ap (λ all. all ++ flat_map f samples) (flat_map-append f (front ++ zeros) rows)
    ∙ ap (λ all. (all ++ flat_map f rows) ++ flat_map f samples) (flat_map-append f front zeros)
    ∙ regrouped (flat_map f front) (flat_map f zeros) (flat_map f rows) (flat_map f samples)

-- ---- Lines

abbrev pub front_lines : System → List LineForm
front_lines system = flat_map part_forms (parts_to_longest system)

abbrev pub zero_lines : Option ℕ → List LineForm
zero_lines given = flat_map part_forms (optional parts.Zero given)

abbrev pub row_lines : Option ℕ → List LineForm
row_lines given = flat_map part_forms (optional parts.Rows given)

abbrev pub sample_lines : System → List LineForm
sample_lines system = flat_map part_forms (sample_parts system)

pub lines_are : (system : System)
    → canonical_forms system
    ≡ form.Header system.version ∷ (front_lines system ++ (zero_lines system.zero ++ (row_lines system.rows ++ sample_lines system)))
lines_are system =
    ap (λ rest. form.Header system.version ∷ rest)
    (parted part_forms (parts_to_longest system) (optional parts.Zero system.zero) (optional parts.Rows system.rows) (sample_parts system))

-- ---- Lines with their blocks

abbrev pub front_heads : System → List Headed
front_heads system = flat_map headed_part (parts_to_longest system)

abbrev pub zero_heads : Option ℕ → List Headed
zero_heads given = flat_map headed_part (optional parts.Zero given)

abbrev pub row_heads : Option ℕ → List Headed
row_heads given = flat_map headed_part (optional parts.Rows given)

abbrev pub sample_heads : System → List Headed
sample_heads system = flat_map headed_part (sample_parts system)

pub heads_are : (system : System)
    → flat_map headed_part (canonical_parts system)
    ≡ front_heads system ++ (zero_heads system.zero ++ (row_heads system.rows ++ sample_heads system))
heads_are system = parted headed_part (parts_to_longest system) (optional parts.Zero system.zero) (optional parts.Rows system.rows) (sample_parts system)
