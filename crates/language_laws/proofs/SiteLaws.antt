-- The sites of a system are its canonical lines.
use Rattle.std.proofs.Common.{◌≡◌, List, [], ◌∷◌, ◌++◌, map, refl, ap, ◌∙◌}
use Rattle.std.specs.List.{flat_map}
use Rattle.std.proofs.lemmas.Grind.{flat_map-append}
use Rattle.std.proofs.lemmas.List.{append-nil, map-append}
use Rattle.unit_tree.specs.Canonical.{canonical_parts, canonical_forms}
use Rattle.unit_tree.specs.Parts as parts
use Rattle.unit_tree.specs.Parts.{Part, UnitPart, line_forms, unit_part_forms, part_forms, unit_of}
use Rattle.unit_tree.specs.Sites.{Scope, TopScope, UnitScope, StepScope, InstanceScope, Site, Headed, alone, sites, headed_unit_part, headed_part, sites_of}
use Rattle.unit_tree.specs.declared.line_form.LineForm.{LineForm}
use Rattle.unit_tree.specs.declared.line_form.LineForm.TheVariants as form
use Rattle.unit_tree.specs.declared.system.System.{System}
use Rattle.unit_tree.specs.declared.unit.Unit.{Unit}

abbrev pub line_at : Site → LineForm
line_at site = site.line

-- A line with the lines of its block.
abbrev pub all_of : Headed → List LineForm
all_of headed = headed.head ∷ map line_at headed.block

pub lines_in : (scope : Scope) (earlier : List LineForm) (headed : List Headed) → map line_at (sites scope earlier headed) ≡ flat_map all_of headed
lines_in scope earlier [] = refl
lines_in scope earlier (first ∷ others) =
    ap (λ rest. first.head ∷ rest)
    (map-append line_at first.block (sites scope (earlier ++ (first.head ∷ [])) others)
    ∙ ap (λ rest. map line_at first.block ++ rest) (lines_in scope (earlier ++ (first.head ∷ [])) others))

pub each_alone : (lines : List LineForm) → flat_map all_of (map alone lines) ≡ lines
each_alone [] = refl
each_alone (line ∷ lines) = ap (λ rest. line ∷ rest) (each_alone lines)

pub alone_in : (scope : Scope) (lines : List LineForm) → map line_at (sites scope [] (map alone lines)) ≡ lines
alone_in scope lines = lines_in scope [] (map alone lines) ∙ each_alone lines

pub unit_part_is : (unit : Unit) (part : UnitPart) → flat_map all_of (headed_unit_part unit part) ≡ unit_part_forms part
unit_part_is unit (parts.Resolution decimals) = refl
unit_part_is unit (parts.HasParam param) = refl
unit_part_is unit (parts.HasState state) = refl
unit_part_is unit (parts.HasLocal local) = refl
unit_part_is unit (parts.HasInput input) = refl
unit_part_is unit (parts.HasEventIn event) = refl
unit_part_is unit (parts.HasOutput output) = refl
unit_part_is unit (parts.HasEventOut event) = refl
unit_part_is unit (parts.Max value) = refl
unit_part_is unit (parts.Step lines) = ap (λ inside. form.Step ∷ inside ++ (form.End ∷ [])) (alone_in (StepScope unit) (flat_map line_forms lines))

pub unit_parts_are : (unit : Unit) (all : List UnitPart) → flat_map all_of (flat_map (headed_unit_part unit) all) ≡ flat_map unit_part_forms all
unit_parts_are unit [] = refl
unit_parts_are unit (part ∷ all) =
    flat_map-append all_of (headed_unit_part unit part) (flat_map (headed_unit_part unit) all) ∙ rw (unit_part_is unit part, unit_parts_are unit all) refl

pub unit_is : (unit : Unit) (inside : List UnitPart)
    → map line_at (sites (UnitScope unit) [] (flat_map (headed_unit_part unit) inside ++ (alone form.End ∷ [])))
    ≡ flat_map unit_part_forms inside ++ (form.End ∷ [])
unit_is unit inside =
    lines_in (UnitScope unit) [] (flat_map (headed_unit_part unit) inside ++ (alone form.End ∷ []))
    ∙ flat_map-append all_of (flat_map (headed_unit_part unit) inside) (alone form.End ∷ [])
    ∙ ap (λ front. front ++ (form.End ∷ [])) (unit_parts_are unit inside)

pub part_is : (part : Part) → flat_map all_of (headed_part part) ≡ part_forms part
part_is (parts.HasUnit name inside) = ap (λ block. form.Unit name ∷ block) (append-nil _ ∙ unit_is (unit_of name inside) inside)
part_is (parts.HasInstance instance) =
    ap (λ block. form.Instance instance.name instance.unit ∷ block)
    (append-nil _ ∙ alone_in (InstanceScope instance) (map form.Setting instance.settings ++ (form.End ∷ [])))
part_is (parts.Connects wire) = refl
part_is (parts.Stop seconds) = refl
part_is (parts.Longest seconds) = refl
part_is (parts.Zero count) = refl
part_is (parts.Rows count) = refl
part_is (parts.Samples port) = refl

pub parts_are : (all : List Part) → flat_map all_of (flat_map headed_part all) ≡ flat_map part_forms all
parts_are [] = refl
parts_are (part ∷ all) =
    flat_map-append all_of (headed_part part) (flat_map headed_part all)
    ∙ ap (λ front. front ++ flat_map all_of (flat_map headed_part all)) (part_is part)
    ∙ ap (λ rest. part_forms part ++ rest) (parts_are all)

pub sites_are : (system : System) → map line_at (sites_of system) ≡ canonical_forms system
sites_are system =
    lines_in TopScope [] (alone (form.Header system.version) ∷ flat_map headed_part (canonical_parts system))
    ∙ ap (λ rest. form.Header system.version ∷ rest) (parts_are (canonical_parts system))
