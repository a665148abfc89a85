-- The lines of a text, in canonical order, are the canonical lines of its system.
use Rattle.std.proofs.Common.{◌≡◌, ℕ, ◌≤◌, List, [], ◌∷◌, ◌++◌, map, length, drop, Option, Some, None, refl, ap, sym}
use Rattle.std.proofs.Common.{◌∙◌}
use Rattle.std.specs.Prelude.{IsTrue, ◌==◌}
use Rattle.std.specs.List.{flat_map, filter}
use Rattle.std.proofs.lemmas.List.{append-nil}
use Rattle.std.proofs.Math.Seq.{drop-append_seam}
use Rattle.std.proofs.lemmas.Grind.{flat_map-append}
use Rattle.unit_tree.specs.Blocks.{no_lines, are_placed}
use Rattle.unit_tree.specs.Canonical.{optional, unit_parts, canonical_parts, canonical_forms}
use Rattle.unit_tree.specs.Parts as parts
use Rattle.unit_tree.specs.Parts.{Part, UnitPart, unit_part_forms, part_forms, text_forms, unit_of, system_of}
use Rattle.unit_tree.specs.SourceLines.{part_rank, by_rank, each_ranked, part_lines_in_order, in_canonical_order}
use Rattle.unit_tree.specs.declared.line_form.LineForm.{LineForm}
use Rattle.unit_tree.specs.declared.line_form.LineForm.TheVariants as form
use Rattle.unit_tree.specs.declared.unit.Unit.{Unit}
use Rattle.language_laws.proofs.PartLaws.{grouped}
use Rattle.language_laws.proofs.UnitsInOrder.{own_lines, of_own, at_most_one, unit_in_order}
use Rattle.language_laws.proofs.PartsSaidOnce.{UnitSaysOnce, UnitsSayOnce, TextSaysOnce, text_says_once}

eight_lists : {a b c d e f g h a' b' c' d' e' f' g' h' : List LineForm} → a ≡ a' → b ≡ b' → c ≡ c' → d ≡ d' → e ≡ e' → f ≡ f' → g ≡ g' → h ≡ h'
    → a ++ (b ++ (c ++ (d ++ (e ++ (f ++ (g ++ (h ++ []))))))) ≡ a' ++ (b' ++ (c' ++ (d' ++ (e' ++ (f' ++ (g' ++ (h' ++ [])))))))
eight_lists pa pb pc pd pe pf pg ph = rw (pa, pb, pc, pd, pe, pf, pg, ph) refl

eight_flat : {P : Type 0} (of : P → List LineForm) (a b c d e f g h : List P)
    → flat_map of a ++ (flat_map of b ++ (flat_map of c ++ (flat_map of d ++ (flat_map of e ++ (flat_map of f ++ (flat_map of g ++ (flat_map of h ++ [])))))))
    ≡ flat_map of (a ++ (b ++ (c ++ (d ++ (e ++ (f ++ (g ++ h)))))))
eight_flat of a b c d e f g h =
    ap (λ more. flat_map of a ++ more)
    (ap (λ more. flat_map of b ++ more)
    (ap (λ more. flat_map of c ++ more)
    (ap (λ more. flat_map of d ++ more)
    (ap (λ more. flat_map of e ++ more)
    (ap (λ more. flat_map of f ++ more) (ap (λ more. flat_map of g ++ more) (append-nil (flat_map of h)) ∙ sym (flat_map-append of g (h)))
    ∙ sym (flat_map-append of f (g ++ h)))
    ∙ sym (flat_map-append of e (f ++ (g ++ h))))
    ∙ sym (flat_map-append of d (e ++ (f ++ (g ++ h)))))
    ∙ sym (flat_map-append of c (d ++ (e ++ (f ++ (g ++ h))))))
    ∙ sym (flat_map-append of b (c ++ (d ++ (e ++ (f ++ (g ++ h)))))))
    ∙ sym (flat_map-append of a (b ++ (c ++ (d ++ (e ++ (f ++ (g ++ h)))))))

-- ---- The parts of a text, kind by kind

unit_name : (name : List ℕ) (all : List UnitPart) → (unit_of name all).name ≡ name
unit_name name [] = refl
unit_name name (parts.Resolution decimals ∷ all) = unit_name name all
unit_name name (parts.HasParam param ∷ all) = unit_name name all
unit_name name (parts.HasState state ∷ all) = unit_name name all
unit_name name (parts.HasLocal local ∷ all) = unit_name name all
unit_name name (parts.HasInput input ∷ all) = unit_name name all
unit_name name (parts.HasEventIn event ∷ all) = unit_name name all
unit_name name (parts.HasOutput output ∷ all) = unit_name name all
unit_name name (parts.HasEventOut event ∷ all) = unit_name name all
unit_name name (parts.Max value ∷ all) = unit_name name all
unit_name name (parts.Step lines ∷ all) = unit_name name all

-- The lines of a part in canonical order.
abbrev ordered : Part → List LineForm
ordered part = part_lines_in_order part (part_forms part)

abbrev unit_part : Unit → Part
unit_part unit = parts.HasUnit unit.name (unit_parts unit)

ordered_unit : (name : List ℕ) (inside : List UnitPart) → UnitSaysOnce inside
    → ordered (parts.HasUnit name inside) ≡ part_forms (unit_part (unit_of name inside))
ordered_unit name inside once =
    ap (λ lines. form.Unit name ∷ lines ++ drop (length (flat_map unit_part_forms inside)) (flat_map unit_part_forms inside ++ (form.End ∷ [])))
    (unit_in_order name inside (form.End ∷ []) once)
    ∙ ap (λ end. form.Unit name ∷ flat_map unit_part_forms (unit_parts (unit_of name inside)) ++ end)
    (drop-append_seam (flat_map unit_part_forms inside) (form.End ∷ []))
    ∙ ap (λ called. form.Unit called ∷ flat_map unit_part_forms (unit_parts (unit_of name inside)) ++ (form.End ∷ [])) (sym (unit_name name inside))

units_in_order : (version : ℕ) (all : List Part) → UnitsSayOnce all
    → flat_map ordered (filter (λ part. part_rank part == 0) all) ≡ flat_map part_forms (map unit_part (system_of version all).units)
units_in_order version [] once = refl
units_in_order version (parts.HasUnit name inside ∷ all) once =
    ap (λ lines. lines ++ flat_map ordered (filter (λ part. part_rank part == 0) all)) (ordered_unit name inside once.0)
    ∙ ap (λ rest. part_forms (unit_part (unit_of name inside)) ++ rest) (units_in_order version all once.1)
units_in_order version (parts.HasInstance instance ∷ all) once = units_in_order version all once
units_in_order version (parts.Connects wire ∷ all) once = units_in_order version all once
units_in_order version (parts.Stop seconds ∷ all) once = units_in_order version all once
units_in_order version (parts.Longest seconds ∷ all) once = units_in_order version all once
units_in_order version (parts.Zero count ∷ all) once = units_in_order version all once
units_in_order version (parts.Rows count ∷ all) once = units_in_order version all once
units_in_order version (parts.Samples port ∷ all) once = units_in_order version all once

instances_are : (version : ℕ) (all : List Part) → filter (λ part. part_rank part == 1) all ≡ map parts.HasInstance (system_of version all).instances
instances_are version [] = refl
instances_are version (parts.HasUnit name inside ∷ all) = instances_are version all
instances_are version (parts.HasInstance instance ∷ all) = ap (λ rest. parts.HasInstance instance ∷ rest) (instances_are version all)
instances_are version (parts.Connects wire ∷ all) = instances_are version all
instances_are version (parts.Stop seconds ∷ all) = instances_are version all
instances_are version (parts.Longest seconds ∷ all) = instances_are version all
instances_are version (parts.Zero count ∷ all) = instances_are version all
instances_are version (parts.Rows count ∷ all) = instances_are version all
instances_are version (parts.Samples port ∷ all) = instances_are version all

instances_ordered : (given : List _) → flat_map ordered (map parts.HasInstance given) ≡ flat_map part_forms (map parts.HasInstance given)
instances_ordered [] = refl
instances_ordered (x ∷ given) = ap (λ rest. part_forms (parts.HasInstance x) ++ rest) (instances_ordered given)

wires_are : (version : ℕ) (all : List Part) → filter (λ part. part_rank part == 2) all ≡ map parts.Connects (system_of version all).wires
wires_are version [] = refl
wires_are version (parts.HasUnit name inside ∷ all) = wires_are version all
wires_are version (parts.HasInstance instance ∷ all) = wires_are version all
wires_are version (parts.Connects wire ∷ all) = ap (λ rest. parts.Connects wire ∷ rest) (wires_are version all)
wires_are version (parts.Stop seconds ∷ all) = wires_are version all
wires_are version (parts.Longest seconds ∷ all) = wires_are version all
wires_are version (parts.Zero count ∷ all) = wires_are version all
wires_are version (parts.Rows count ∷ all) = wires_are version all
wires_are version (parts.Samples port ∷ all) = wires_are version all

wires_ordered : (given : List _) → flat_map ordered (map parts.Connects given) ≡ flat_map part_forms (map parts.Connects given)
wires_ordered [] = refl
wires_ordered (x ∷ given) = ap (λ rest. part_forms (parts.Connects x) ++ rest) (wires_ordered given)

stop_is : (version : ℕ) (all : List Part) → length (filter (λ part. part_rank part == 3) all) ≤ 1
    → filter (λ part. part_rank part == 3) all ≡ optional parts.Stop (system_of version all).stop
stop_is version [] few = refl
stop_is version (parts.HasUnit name inside ∷ all) few = stop_is version all few
stop_is version (parts.HasInstance instance ∷ all) few = stop_is version all few
stop_is version (parts.Connects wire ∷ all) few = stop_is version all few
stop_is version (parts.Stop seconds ∷ all) few =
    ap (λ rest. parts.Stop seconds ∷ rest) (at_most_one (parts.Stop seconds) (filter (λ part. part_rank part == 3) all) few)
stop_is version (parts.Longest seconds ∷ all) few = stop_is version all few
stop_is version (parts.Zero count ∷ all) few = stop_is version all few
stop_is version (parts.Rows count ∷ all) few = stop_is version all few
stop_is version (parts.Samples port ∷ all) few = stop_is version all few

stop_ordered : (given : Option _) → flat_map ordered (optional parts.Stop given) ≡ flat_map part_forms (optional parts.Stop given)
stop_ordered None = refl
stop_ordered (Some x) = refl

longest_is : (version : ℕ) (all : List Part) → length (filter (λ part. part_rank part == 4) all) ≤ 1
    → filter (λ part. part_rank part == 4) all ≡ optional parts.Longest (system_of version all).longest
longest_is version [] few = refl
longest_is version (parts.HasUnit name inside ∷ all) few = longest_is version all few
longest_is version (parts.HasInstance instance ∷ all) few = longest_is version all few
longest_is version (parts.Connects wire ∷ all) few = longest_is version all few
longest_is version (parts.Stop seconds ∷ all) few = longest_is version all few
longest_is version (parts.Longest seconds ∷ all) few =
    ap (λ rest. parts.Longest seconds ∷ rest) (at_most_one (parts.Longest seconds) (filter (λ part. part_rank part == 4) all) few)
longest_is version (parts.Zero count ∷ all) few = longest_is version all few
longest_is version (parts.Rows count ∷ all) few = longest_is version all few
longest_is version (parts.Samples port ∷ all) few = longest_is version all few

longest_ordered : (given : Option _) → flat_map ordered (optional parts.Longest given) ≡ flat_map part_forms (optional parts.Longest given)
longest_ordered None = refl
longest_ordered (Some x) = refl

zero_is : (version : ℕ) (all : List Part) → length (filter (λ part. part_rank part == 5) all) ≤ 1
    → filter (λ part. part_rank part == 5) all ≡ optional parts.Zero (system_of version all).zero
zero_is version [] few = refl
zero_is version (parts.HasUnit name inside ∷ all) few = zero_is version all few
zero_is version (parts.HasInstance instance ∷ all) few = zero_is version all few
zero_is version (parts.Connects wire ∷ all) few = zero_is version all few
zero_is version (parts.Stop seconds ∷ all) few = zero_is version all few
zero_is version (parts.Longest seconds ∷ all) few = zero_is version all few
zero_is version (parts.Zero count ∷ all) few =
    ap (λ rest. parts.Zero count ∷ rest) (at_most_one (parts.Zero count) (filter (λ part. part_rank part == 5) all) few)
zero_is version (parts.Rows count ∷ all) few = zero_is version all few
zero_is version (parts.Samples port ∷ all) few = zero_is version all few

zero_ordered : (given : Option _) → flat_map ordered (optional parts.Zero given) ≡ flat_map part_forms (optional parts.Zero given)
zero_ordered None = refl
zero_ordered (Some x) = refl

rows_is : (version : ℕ) (all : List Part) → length (filter (λ part. part_rank part == 6) all) ≤ 1
    → filter (λ part. part_rank part == 6) all ≡ optional parts.Rows (system_of version all).rows
rows_is version [] few = refl
rows_is version (parts.HasUnit name inside ∷ all) few = rows_is version all few
rows_is version (parts.HasInstance instance ∷ all) few = rows_is version all few
rows_is version (parts.Connects wire ∷ all) few = rows_is version all few
rows_is version (parts.Stop seconds ∷ all) few = rows_is version all few
rows_is version (parts.Longest seconds ∷ all) few = rows_is version all few
rows_is version (parts.Zero count ∷ all) few = rows_is version all few
rows_is version (parts.Rows count ∷ all) few =
    ap (λ rest. parts.Rows count ∷ rest) (at_most_one (parts.Rows count) (filter (λ part. part_rank part == 6) all) few)
rows_is version (parts.Samples port ∷ all) few = rows_is version all few

rows_ordered : (given : Option _) → flat_map ordered (optional parts.Rows given) ≡ flat_map part_forms (optional parts.Rows given)
rows_ordered None = refl
rows_ordered (Some x) = refl

samples_are : (version : ℕ) (all : List Part) → filter (λ part. part_rank part == 7) all ≡ map parts.Samples (system_of version all).samples
samples_are version [] = refl
samples_are version (parts.HasUnit name inside ∷ all) = samples_are version all
samples_are version (parts.HasInstance instance ∷ all) = samples_are version all
samples_are version (parts.Connects wire ∷ all) = samples_are version all
samples_are version (parts.Stop seconds ∷ all) = samples_are version all
samples_are version (parts.Longest seconds ∷ all) = samples_are version all
samples_are version (parts.Zero count ∷ all) = samples_are version all
samples_are version (parts.Rows count ∷ all) = samples_are version all
samples_are version (parts.Samples port ∷ all) = ap (λ rest. parts.Samples port ∷ rest) (samples_are version all)

samples_ordered : (given : List _) → flat_map ordered (map parts.Samples given) ≡ flat_map part_forms (map parts.Samples given)
samples_ordered [] = refl
samples_ordered (x ∷ given) = ap (λ rest. part_forms (parts.Samples x) ++ rest) (samples_ordered given)

pub version_is : (version : ℕ) (all : List Part) → (system_of version all).version ≡ version
version_is version [] = refl
version_is version (parts.HasUnit name inside ∷ all) = version_is version all
version_is version (parts.HasInstance instance ∷ all) = version_is version all
version_is version (parts.Connects wire ∷ all) = version_is version all
version_is version (parts.Stop seconds ∷ all) = version_is version all
version_is version (parts.Longest seconds ∷ all) = version_is version all
version_is version (parts.Zero count ∷ all) = version_is version all
version_is version (parts.Rows count ∷ all) = version_is version all
version_is version (parts.Samples port ∷ all) = version_is version all

text_in_order : (version : ℕ) (all : List Part) → TextSaysOnce all → in_canonical_order all (text_forms version all) ≡ canonical_forms (system_of version all)
text_in_order version all once =
    let system = system_of version all in
    ap (λ lines. form.Header version
    ∷ by_rank (0 ∷ 1 ∷ 2 ∷ 3 ∷ 4 ∷ 5 ∷ 6 ∷ 7 ∷ []) (each_ranked part_rank (λ part. length (part_forms part)) part_lines_in_order all lines))
    (sym (append-nil (flat_map part_forms all)))
    ∙ ap (λ lists. form.Header version ∷ by_rank (0 ∷ 1 ∷ 2 ∷ 3 ∷ 4 ∷ 5 ∷ 6 ∷ 7 ∷ []) lists) (own_lines part_rank part_forms part_lines_in_order all [])
    ∙ ap (λ lines. form.Header version ∷ lines) (
    eight_lists (of_own part_rank ordered all 0 ∙ units_in_order version all once.units)
    (of_own part_rank ordered all 1 ∙ ap (flat_map ordered) (instances_are version all) ∙ instances_ordered system.instances)
    (of_own part_rank ordered all 2 ∙ ap (flat_map ordered) (wires_are version all) ∙ wires_ordered system.wires)
    (of_own part_rank ordered all 3 ∙ ap (flat_map ordered) (stop_is version all once.stop) ∙ stop_ordered system.stop)
    (of_own part_rank ordered all 4 ∙ ap (flat_map ordered) (longest_is version all once.longest) ∙ longest_ordered system.longest)
    (of_own part_rank ordered all 5 ∙ ap (flat_map ordered) (zero_is version all once.zero) ∙ zero_ordered system.zero)
    (of_own part_rank ordered all 6 ∙ ap (flat_map ordered) (rows_is version all once.rows) ∙ rows_ordered system.rows)
    (of_own part_rank ordered all 7 ∙ ap (flat_map ordered) (samples_are version all) ∙ samples_ordered system.samples)
    ∙ eight_flat part_forms (map unit_part system.units) (map parts.HasInstance system.instances) (map parts.Connects system.wires)
    (optional parts.Stop system.stop) (optional parts.Longest system.longest) (optional parts.Zero system.zero) (optional parts.Rows system.rows)
    (map parts.Samples system.samples)
    ∙ ap (flat_map part_forms)
    (sym (grouped (map unit_part system.units) (map parts.HasInstance system.instances) (map parts.Connects system.wires) (optional parts.Stop system.stop)
    (optional parts.Longest system.longest) (optional parts.Zero system.zero) (optional parts.Rows system.rows) (map parts.Samples system.samples))))
    ∙ ap (λ v. form.Header v ∷ flat_map part_forms (canonical_parts system)) (sym (version_is version all))

pub forms_are : (version : ℕ) (all : List Part) → IsTrue (are_placed no_lines (text_forms version all))
    → in_canonical_order all (text_forms version all) ≡ canonical_forms (system_of version all)
forms_are version all placed = text_in_order version all (text_says_once version all placed)
