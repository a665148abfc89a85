-- A vector whose items were written through a slice.
use Rattle.std.proofs.Common.{◌≡◌, ◌∙◌, ◌≤◌, List, ◌++◌, length, take, Vec, Global, ap, arith, append-nil}
use Rattle.std.proofs.lemmas.List.{take_all, drop_all}
use Rattle.std.specs.Vec.{with_items}

pub items_put : {X : Type 0} (v : Vec X Global) (items : List X) → length items ≡ length v.items → (with_items v items).items ≡ items
items_put v items long =
    let most : length v.items ≤ length items = omega (arith, long) in
    let all : length items ≤ v.len = omega (arith, long, v.ok.0) in
    ap (λ rest. take v.len (items ++ rest)) (drop_all (length items) v.items most) ∙ ap (take v.len) (append-nil items) ∙ take_all v.len items all
