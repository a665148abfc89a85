-- One component more, by the draws after those of the components before it.
use Rattle.std.proofs.Common.{◌≡◌, ℕ, suc, ◌+◌, ◌-◌, ◌*◌, ◌%◌, ◌≤◌, List, [], ◌∷◌, ◌++◌, map, ap, sym, ◌∙◌, arith}
use Rattle.std.specs.Prelude.{codes}
use Rattle.std.specs.List.{range_with_len}
use Rattle.std.proofs.lemmas.List.FromFn.{map-range_with_len_more}
use Rattle.draw_numbers.specs.Draws.{draw, next_draw}
use Rattle.unit_tree.specs.declared.system.Instance.{Instance}
use Rattle.unit_tree.specs.declared.system.Wire.{Wire}
use Rattle.cosim_gen.specs.Generated.{instance_with, wire_between, instance_in, wire_to}

-- Its `k` is by the next draw, and its source by the draw after that.
pub k_draw : (seed place : ℕ) → 1 ≤ place → next_draw (draw seed (2 * (place - 1))) ≡ draw seed (2 * place - 1)
k_draw seed place some = let next : suc (2 * (place - 1)) ≡ 2 * place - 1 = omega arith in ap (draw seed) next

pub source_draw : (seed place : ℕ) → 1 ≤ place → next_draw (draw seed (2 * place - 1)) ≡ draw seed (2 * place)
source_draw seed place some = let next : suc (2 * place - 1) ≡ 2 * place = omega arith in ap (draw seed) next

-- The elements for each place, followed by that for the next place.
made_more : {A : Type 0} (f : ℕ → A) (place : ℕ) → 1 ≤ place
    → map f (range_with_len 1 (place - 1)) ++ (f place ∷ []) ≡ map f (range_with_len 1 (place + 1 - 1))
made_more f place some =
    let next : place - 1 + 1 ≡ place + 1 - 1 = omega arith in
    sym (map-range_with_len_more f 1 (place - 1) place (omega arith)) ∙ ap (λ count. map f (range_with_len 1 count)) next

pub more_instances : (seed place drawn : ℕ) (all whole : List Instance) (new : Instance) → 1 ≤ place → drawn ≡ draw seed (2 * place - 1)
    → all ≡ instance_in seed (codes "src") 0 ∷ map (instance_in seed (codes "mix")) (range_with_len 1 (place - 1))
    → new ≡ instance_with place (codes "mix") (drawn % 1000) → whole ≡ all ++ (new ∷ [])
    → whole ≡ instance_in seed (codes "src") 0 ∷ map (instance_in seed (codes "mix")) (range_with_len 1 (place + 1 - 1))
more_instances seed place drawn all whole new some is_draw before is joined =
    let f : ℕ → Instance = instance_in seed (codes "mix") in
    let is_next : new ≡ f place = is ∙ ap (λ number. instance_with place (codes "mix") (number % 1000)) is_draw in
    joined ∙ ap (λ front. front ++ (new ∷ [])) before
    ∙ ap (λ one. instance_in seed (codes "src") 0 ∷ map f (range_with_len 1 (place - 1)) ++ (one ∷ [])) is_next
    ∙ ap (λ rest. instance_in seed (codes "src") 0 ∷ rest) (made_more f place some)

pub more_wires : (seed place drawn : ℕ) (all whole : List Wire) (new : Wire) → 1 ≤ place → drawn ≡ draw seed (2 * place)
    → all ≡ map (wire_to seed) (range_with_len 1 (place - 1)) → new ≡ wire_between (drawn % place) place → whole ≡ all ++ (new ∷ [])
    → whole ≡ map (wire_to seed) (range_with_len 1 (place + 1 - 1))
more_wires seed place drawn all whole new some is_draw before is joined =
    let is_next : new ≡ wire_to seed place = is ∙ ap (λ number. wire_between (number % place) place) is_draw in
    joined ∙ ap (λ front. front ++ (new ∷ [])) before ∙ ap (λ one. map (wire_to seed) (range_with_len 1 (place - 1)) ++ (one ∷ [])) is_next
    ∙ made_more (wire_to seed) place some
