-- Owners by turns.
use Rattle.std.proofs.Common.{◌≡◌, ℕ, ◌+◌, ◌%◌, ◌≤◌, ◌∷◌, [], ◌++◌, length, arith}
use Rattle.std.proofs.lemmas.List.FromFn.{length-map-range_with_len, map-range_with_len_more}
use Rattle.std.specs.List.{AllByRecursion, range_with_len}
use Rattle.link_laws.specs.Nodes.{by_turns}
use Rattle.list_laws.proofs.Lists.{each_map}

pub one_owner_more : (count : ℕ) → by_turns (count + 1) ≡ by_turns count ++ (count % 2) ∷ []
one_owner_more count = let same : 0 + count ≡ count = omega arith in map-range_with_len_more (λ instance. instance % 2) 0 count count same

pub as_many_owners : (count : ℕ) → length (by_turns count) ≡ count
as_many_owners count = length-map-range_with_len (λ instance. instance % 2) 0 count

pub each_owner : (count : ℕ) → AllByRecursion (λ owner. owner ≤ 1) (by_turns count)
each_owner count = each_map (λ owner. owner ≤ 1) (λ instance. instance % 2) (range_with_len 0 count) at_most
  where
    at_most : (instance : ℕ) → instance % 2 ≤ 1
    at_most instance = omega arith
