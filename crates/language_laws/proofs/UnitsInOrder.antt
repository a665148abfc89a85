-- The lines of a unit, in canonical order, are the canonical lines of the unit.
use Rattle.std.proofs.Common.{◌≡◌, ℕ, ◌≤◌, Bool, true, false, List, [], ◌∷◌, ◌++◌, append_assoc, map, length, drop, refl, ap, sym}
use Rattle.std.proofs.Common.{◌∙◌, arith}
use Rattle.std.specs.Prelude.{◌==◌}
use Rattle.std.specs.List.{flat_map, filter}
use Rattle.std.proofs.lemmas.List.{append-nil}
use Rattle.std.proofs.Math.Seq.{drop-append_seam, take-append_seam}
use Rattle.std.proofs.lemmas.Grind.{flat_map-append}
use Rattle.unit_tree.specs.Canonical.{optional, unit_parts}
use Rattle.unit_tree.specs.Parts as parts
use Rattle.unit_tree.specs.Parts.{UnitPart, unit_part_forms, unit_of}
use Rattle.unit_tree.specs.SourceLines.{unit_part_rank, of_rank, by_rank, each_ranked, unit_lines_in_order}
use Rattle.unit_tree.specs.declared.line_form.LineForm.{LineForm}
use Rattle.language_laws.proofs.PartLaws.{grouped_ten}
use Rattle.language_laws.proofs.PartsSaidOnce.{UnitSaysOnce}

-- ---- The lines of parts, as a list with an element for each line

-- Each part with its own lines, whatever follows them.
pub own_lines : {P : Type 0} (rank : P → ℕ) (forms : P → List LineForm) (inside : P → List LineForm → List LineForm) (all : List P) (extra : List LineForm)
    → each_ranked rank (λ part. length (forms part)) inside all (flat_map forms all ++ extra) ≡ map (λ part. (rank part, inside part (forms part))) all
own_lines rank forms inside [] extra = refl
own_lines rank forms inside (part ∷ all) extra =
    let whole : flat_map forms (part ∷ all) ++ extra ≡ forms part ++ (flat_map forms all ++ extra) = append_assoc (forms part) (flat_map forms all) extra in
    ap (each_ranked rank (λ p. length (forms p)) inside (part ∷ all)) whole
    ∙ ap (λ lines. (rank part, inside part lines)
    ∷ each_ranked rank (λ p. length (forms p)) inside all (drop (length (forms part)) (forms part ++ (flat_map forms all ++ extra))))
    (take-append_seam (forms part) (flat_map forms all ++ extra))
    ∙ ap (λ lines. (rank part, inside part (forms part)) ∷ each_ranked rank (λ p. length (forms p)) inside all lines)
    (drop-append_seam (forms part) (flat_map forms all ++ extra))
    ∙ ap (λ rest. (rank part, inside part (forms part)) ∷ rest) (own_lines rank forms inside all extra)

of_own_by : {P : Type 0} (test : Bool) (rank : P → ℕ) (lines : P → List LineForm) (part : P) (all : List P) (asked : ℕ) → (rank part == asked) ≡ test
    → of_rank (map (λ p. (rank p, lines p)) all) asked ≡ flat_map lines (filter (λ p. rank p == asked) all)
    → of_rank (map (λ p. (rank p, lines p)) (part ∷ all)) asked ≡ flat_map lines (filter (λ p. rank p == asked) (part ∷ all))
of_own_by true rank lines part all asked is rest = rw is (ap (λ more. lines part ++ more) rest)
of_own_by false rank lines part all asked is rest = rw is rest

pub of_own : {P : Type 0} (rank : P → ℕ) (lines : P → List LineForm) (all : List P) (asked : ℕ)
    → of_rank (map (λ p. (rank p, lines p)) all) asked ≡ flat_map lines (filter (λ p. rank p == asked) all)
of_own rank lines [] asked = refl
of_own rank lines (part ∷ all) asked = of_own_by (rank part == asked) rank lines part all asked refl (of_own rank lines all asked)

-- Joined lists are equal where their pieces are.
ten_lists : {a b c d e f g h i j a' b' c' d' e' f' g' h' i' j' : List LineForm} → a ≡ a' → b ≡ b' → c ≡ c' → d ≡ d' → e ≡ e' → f ≡ f' → g ≡ g' → h ≡ h'
    → i ≡ i' → j ≡ j'
    → a ++ (b ++ (c ++ (d ++ (e ++ (f ++ (g ++ (h ++ (i ++ (j ++ []))))))))) ≡ a' ++ (b' ++ (c' ++ (d' ++ (e' ++ (f' ++ (g' ++ (h' ++ (i' ++ (j' ++ [])))))))))
ten_lists pa pb pc pd pe pf pg ph pi pj = rw (pa, pb, pc, pd, pe, pf, pg, ph, pi, pj) refl

ten_flat : {P : Type 0} (of : P → List LineForm) (a b c d e f g h i j : List P)
    → flat_map of a
    ++ (flat_map of b
    ++ (flat_map of c
    ++ (flat_map of d ++ (flat_map of e ++ (flat_map of f ++ (flat_map of g ++ (flat_map of h ++ (flat_map of i ++ (flat_map of j ++ [])))))))))
    ≡ flat_map of (a ++ (b ++ (c ++ (d ++ (e ++ (f ++ (g ++ (h ++ (i ++ j)))))))))
ten_flat of a b c d e f g h i j =
    ap (λ more. flat_map of a ++ more)
    (ap (λ more. flat_map of b ++ more)
    (ap (λ more. flat_map of c ++ more)
    (ap (λ more. flat_map of d ++ more)
    (ap (λ more. flat_map of e ++ more)
    (ap (λ more. flat_map of f ++ more)
    (ap (λ more. flat_map of g ++ more)
    (ap (λ more. flat_map of h ++ more) (ap (λ more. flat_map of i ++ more) (append-nil (flat_map of j)) ∙ sym (flat_map-append of i (j)))
    ∙ sym (flat_map-append of h (i ++ j)))
    ∙ sym (flat_map-append of g (h ++ (i ++ j))))
    ∙ sym (flat_map-append of f (g ++ (h ++ (i ++ j)))))
    ∙ sym (flat_map-append of e (f ++ (g ++ (h ++ (i ++ j))))))
    ∙ sym (flat_map-append of d (e ++ (f ++ (g ++ (h ++ (i ++ j)))))))
    ∙ sym (flat_map-append of c (d ++ (e ++ (f ++ (g ++ (h ++ (i ++ j))))))))
    ∙ sym (flat_map-append of b (c ++ (d ++ (e ++ (f ++ (g ++ (h ++ (i ++ j)))))))))
    ∙ sym (flat_map-append of a (b ++ (c ++ (d ++ (e ++ (f ++ (g ++ (h ++ (i ++ j)))))))))

-- ---- The parts of a unit, kind by kind

pub at_most_one : {A : Type 0} (x : A) (xs : List A) → length (x ∷ xs) ≤ 1 → xs ≡ []
at_most_one x [] few = refl
at_most_one x (y ∷ xs) few = absurd (omega arith)

resolution_is : (name : List ℕ) (all : List UnitPart) → length (filter (λ part. unit_part_rank part == 0) all) ≤ 1
    → filter (λ part. unit_part_rank part == 0) all ≡ optional parts.Resolution (unit_of name all).resolution
resolution_is name [] few = refl
resolution_is name (parts.Resolution decimals ∷ all) few =
    ap (λ rest. parts.Resolution decimals ∷ rest) (at_most_one (parts.Resolution decimals) (filter (λ part. unit_part_rank part == 0) all) few)
resolution_is name (parts.HasParam param ∷ all) few = resolution_is name all few
resolution_is name (parts.HasState state ∷ all) few = resolution_is name all few
resolution_is name (parts.HasLocal local ∷ all) few = resolution_is name all few
resolution_is name (parts.HasInput input ∷ all) few = resolution_is name all few
resolution_is name (parts.HasEventIn event ∷ all) few = resolution_is name all few
resolution_is name (parts.HasOutput output ∷ all) few = resolution_is name all few
resolution_is name (parts.HasEventOut event ∷ all) few = resolution_is name all few
resolution_is name (parts.Max value ∷ all) few = resolution_is name all few
resolution_is name (parts.Step lines ∷ all) few = resolution_is name all few

params_are : (name : List ℕ) (all : List UnitPart) → filter (λ part. unit_part_rank part == 1) all ≡ map parts.HasParam (unit_of name all).params
params_are name [] = refl
params_are name (parts.Resolution decimals ∷ all) = params_are name all
params_are name (parts.HasParam param ∷ all) = ap (λ rest. parts.HasParam param ∷ rest) (params_are name all)
params_are name (parts.HasState state ∷ all) = params_are name all
params_are name (parts.HasLocal local ∷ all) = params_are name all
params_are name (parts.HasInput input ∷ all) = params_are name all
params_are name (parts.HasEventIn event ∷ all) = params_are name all
params_are name (parts.HasOutput output ∷ all) = params_are name all
params_are name (parts.HasEventOut event ∷ all) = params_are name all
params_are name (parts.Max value ∷ all) = params_are name all
params_are name (parts.Step lines ∷ all) = params_are name all

states_are : (name : List ℕ) (all : List UnitPart) → filter (λ part. unit_part_rank part == 2) all ≡ map parts.HasState (unit_of name all).states
states_are name [] = refl
states_are name (parts.Resolution decimals ∷ all) = states_are name all
states_are name (parts.HasParam param ∷ all) = states_are name all
states_are name (parts.HasState state ∷ all) = ap (λ rest. parts.HasState state ∷ rest) (states_are name all)
states_are name (parts.HasLocal local ∷ all) = states_are name all
states_are name (parts.HasInput input ∷ all) = states_are name all
states_are name (parts.HasEventIn event ∷ all) = states_are name all
states_are name (parts.HasOutput output ∷ all) = states_are name all
states_are name (parts.HasEventOut event ∷ all) = states_are name all
states_are name (parts.Max value ∷ all) = states_are name all
states_are name (parts.Step lines ∷ all) = states_are name all

locals_are : (name : List ℕ) (all : List UnitPart) → filter (λ part. unit_part_rank part == 3) all ≡ map parts.HasLocal (unit_of name all).locals
locals_are name [] = refl
locals_are name (parts.Resolution decimals ∷ all) = locals_are name all
locals_are name (parts.HasParam param ∷ all) = locals_are name all
locals_are name (parts.HasState state ∷ all) = locals_are name all
locals_are name (parts.HasLocal local ∷ all) = ap (λ rest. parts.HasLocal local ∷ rest) (locals_are name all)
locals_are name (parts.HasInput input ∷ all) = locals_are name all
locals_are name (parts.HasEventIn event ∷ all) = locals_are name all
locals_are name (parts.HasOutput output ∷ all) = locals_are name all
locals_are name (parts.HasEventOut event ∷ all) = locals_are name all
locals_are name (parts.Max value ∷ all) = locals_are name all
locals_are name (parts.Step lines ∷ all) = locals_are name all

inputs_are : (name : List ℕ) (all : List UnitPart) → filter (λ part. unit_part_rank part == 4) all ≡ map parts.HasInput (unit_of name all).inputs
inputs_are name [] = refl
inputs_are name (parts.Resolution decimals ∷ all) = inputs_are name all
inputs_are name (parts.HasParam param ∷ all) = inputs_are name all
inputs_are name (parts.HasState state ∷ all) = inputs_are name all
inputs_are name (parts.HasLocal local ∷ all) = inputs_are name all
inputs_are name (parts.HasInput input ∷ all) = ap (λ rest. parts.HasInput input ∷ rest) (inputs_are name all)
inputs_are name (parts.HasEventIn event ∷ all) = inputs_are name all
inputs_are name (parts.HasOutput output ∷ all) = inputs_are name all
inputs_are name (parts.HasEventOut event ∷ all) = inputs_are name all
inputs_are name (parts.Max value ∷ all) = inputs_are name all
inputs_are name (parts.Step lines ∷ all) = inputs_are name all

events_in_are : (name : List ℕ) (all : List UnitPart) → filter (λ part. unit_part_rank part == 5) all ≡ map parts.HasEventIn (unit_of name all).events_in
events_in_are name [] = refl
events_in_are name (parts.Resolution decimals ∷ all) = events_in_are name all
events_in_are name (parts.HasParam param ∷ all) = events_in_are name all
events_in_are name (parts.HasState state ∷ all) = events_in_are name all
events_in_are name (parts.HasLocal local ∷ all) = events_in_are name all
events_in_are name (parts.HasInput input ∷ all) = events_in_are name all
events_in_are name (parts.HasEventIn event ∷ all) = ap (λ rest. parts.HasEventIn event ∷ rest) (events_in_are name all)
events_in_are name (parts.HasOutput output ∷ all) = events_in_are name all
events_in_are name (parts.HasEventOut event ∷ all) = events_in_are name all
events_in_are name (parts.Max value ∷ all) = events_in_are name all
events_in_are name (parts.Step lines ∷ all) = events_in_are name all

outputs_are : (name : List ℕ) (all : List UnitPart) → filter (λ part. unit_part_rank part == 6) all ≡ map parts.HasOutput (unit_of name all).outputs
outputs_are name [] = refl
outputs_are name (parts.Resolution decimals ∷ all) = outputs_are name all
outputs_are name (parts.HasParam param ∷ all) = outputs_are name all
outputs_are name (parts.HasState state ∷ all) = outputs_are name all
outputs_are name (parts.HasLocal local ∷ all) = outputs_are name all
outputs_are name (parts.HasInput input ∷ all) = outputs_are name all
outputs_are name (parts.HasEventIn event ∷ all) = outputs_are name all
outputs_are name (parts.HasOutput output ∷ all) = ap (λ rest. parts.HasOutput output ∷ rest) (outputs_are name all)
outputs_are name (parts.HasEventOut event ∷ all) = outputs_are name all
outputs_are name (parts.Max value ∷ all) = outputs_are name all
outputs_are name (parts.Step lines ∷ all) = outputs_are name all

events_out_are : (name : List ℕ) (all : List UnitPart) → filter (λ part. unit_part_rank part == 7) all ≡ map parts.HasEventOut (unit_of name all).events_out
events_out_are name [] = refl
events_out_are name (parts.Resolution decimals ∷ all) = events_out_are name all
events_out_are name (parts.HasParam param ∷ all) = events_out_are name all
events_out_are name (parts.HasState state ∷ all) = events_out_are name all
events_out_are name (parts.HasLocal local ∷ all) = events_out_are name all
events_out_are name (parts.HasInput input ∷ all) = events_out_are name all
events_out_are name (parts.HasEventIn event ∷ all) = events_out_are name all
events_out_are name (parts.HasOutput output ∷ all) = events_out_are name all
events_out_are name (parts.HasEventOut event ∷ all) = ap (λ rest. parts.HasEventOut event ∷ rest) (events_out_are name all)
events_out_are name (parts.Max value ∷ all) = events_out_are name all
events_out_are name (parts.Step lines ∷ all) = events_out_are name all

max_is : (name : List ℕ) (all : List UnitPart) → length (filter (λ part. unit_part_rank part == 8) all) ≤ 1
    → filter (λ part. unit_part_rank part == 8) all ≡ optional parts.Max (unit_of name all).max
max_is name [] few = refl
max_is name (parts.Resolution decimals ∷ all) few = max_is name all few
max_is name (parts.HasParam param ∷ all) few = max_is name all few
max_is name (parts.HasState state ∷ all) few = max_is name all few
max_is name (parts.HasLocal local ∷ all) few = max_is name all few
max_is name (parts.HasInput input ∷ all) few = max_is name all few
max_is name (parts.HasEventIn event ∷ all) few = max_is name all few
max_is name (parts.HasOutput output ∷ all) few = max_is name all few
max_is name (parts.HasEventOut event ∷ all) few = max_is name all few
max_is name (parts.Max value ∷ all) few =
    ap (λ rest. parts.Max value ∷ rest) (at_most_one (parts.Max value) (filter (λ part. unit_part_rank part == 8) all) few)
max_is name (parts.Step lines ∷ all) few = max_is name all few

step_is : (name : List ℕ) (all : List UnitPart) → length (filter (λ part. unit_part_rank part == 9) all) ≤ 1
    → filter (λ part. unit_part_rank part == 9) all ≡ optional parts.Step (unit_of name all).step
step_is name [] few = refl
step_is name (parts.Resolution decimals ∷ all) few = step_is name all few
step_is name (parts.HasParam param ∷ all) few = step_is name all few
step_is name (parts.HasState state ∷ all) few = step_is name all few
step_is name (parts.HasLocal local ∷ all) few = step_is name all few
step_is name (parts.HasInput input ∷ all) few = step_is name all few
step_is name (parts.HasEventIn event ∷ all) few = step_is name all few
step_is name (parts.HasOutput output ∷ all) few = step_is name all few
step_is name (parts.HasEventOut event ∷ all) few = step_is name all few
step_is name (parts.Max value ∷ all) few = step_is name all few
step_is name (parts.Step lines ∷ all) few =
    ap (λ rest. parts.Step lines ∷ rest) (at_most_one (parts.Step lines) (filter (λ part. unit_part_rank part == 9) all) few)

pub unit_in_order : (name : List ℕ) (all : List UnitPart) (extra : List LineForm) → UnitSaysOnce all
    → unit_lines_in_order all (flat_map unit_part_forms all ++ extra) ≡ flat_map unit_part_forms (unit_parts (unit_of name all))
unit_in_order name all extra once =
    let unit = unit_of name all in
    ap (by_rank (0 ∷ 1 ∷ 2 ∷ 3 ∷ 4 ∷ 5 ∷ 6 ∷ 7 ∷ 8 ∷ 9 ∷ [])) (own_lines unit_part_rank unit_part_forms (λ part inside. inside) all extra)
    ∙ ten_lists (of_own unit_part_rank unit_part_forms all 0 ∙ ap (flat_map unit_part_forms) (resolution_is name all once.resolution))
    (of_own unit_part_rank unit_part_forms all 1 ∙ ap (flat_map unit_part_forms) (params_are name all))
    (of_own unit_part_rank unit_part_forms all 2 ∙ ap (flat_map unit_part_forms) (states_are name all))
    (of_own unit_part_rank unit_part_forms all 3 ∙ ap (flat_map unit_part_forms) (locals_are name all))
    (of_own unit_part_rank unit_part_forms all 4 ∙ ap (flat_map unit_part_forms) (inputs_are name all))
    (of_own unit_part_rank unit_part_forms all 5 ∙ ap (flat_map unit_part_forms) (events_in_are name all))
    (of_own unit_part_rank unit_part_forms all 6 ∙ ap (flat_map unit_part_forms) (outputs_are name all))
    (of_own unit_part_rank unit_part_forms all 7 ∙ ap (flat_map unit_part_forms) (events_out_are name all))
    (of_own unit_part_rank unit_part_forms all 8 ∙ ap (flat_map unit_part_forms) (max_is name all once.max))
    (of_own unit_part_rank unit_part_forms all 9 ∙ ap (flat_map unit_part_forms) (step_is name all once.step))
    ∙ ten_flat unit_part_forms (optional parts.Resolution unit.resolution) (map parts.HasParam unit.params) (map parts.HasState unit.states)
    (map parts.HasLocal unit.locals) (map parts.HasInput unit.inputs) (map parts.HasEventIn unit.events_in) (map parts.HasOutput unit.outputs)
    (map parts.HasEventOut unit.events_out) (optional parts.Max unit.max) (optional parts.Step unit.step)
    ∙ ap (flat_map unit_part_forms)
    (sym (grouped_ten (optional parts.Resolution unit.resolution) (map parts.HasParam unit.params) (map parts.HasState unit.states)
    (map parts.HasLocal unit.locals) (map parts.HasInput unit.inputs) (map parts.HasEventIn unit.events_in) (map parts.HasOutput unit.outputs)
    (map parts.HasEventOut unit.events_out) (optional parts.Max unit.max) (optional parts.Step unit.step)))
