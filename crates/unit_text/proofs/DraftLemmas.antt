-- The last element of a list, as the code takes it off.
use Rattle.std.proofs.Common.{◌≡◌, ◌<◌, List, [], ◌∷◌, ◌++◌, length, Option, Some, None, refl, ap, ◌∙◌, arith}
use Rattle.std.specs.Prelude.{◌↔◌, IsSome}
use Rattle.std.specs.Option.{option_map, option_to_list}
use Rattle.unit_text.specs.Drafts.{split_from, split_last}

split_one : {A : Type 0} (first : A) (others : List A) (last : A) → split_from first (others ++ (last ∷ [])) ≡ (first ∷ others, last)
split_one first [] last = refl
split_one first (next ∷ others) last = ap (λ split. (first ∷ split.0, split.1)) (split_one next others last)

pub split_behind : {A : Type 0} (xs : List A) (last : A) → split_last (xs ++ (last ∷ [])) ≡ Some (xs, last)
split_behind [] last = refl
split_behind (first ∷ others) last = ap Some (split_one first others last)

pub split_pop : {A : Type 0} (old new : List A) (last : Option A) → old ≡ new ++ option_to_list last → (IsSome last ↔ (0 < length old))
    → split_last old ≡ option_map (λ one. (new, one)) last
split_pop old new (Some last) is some = ap split_last is ∙ split_behind new last
split_pop [] new None is some = refl
split_pop (first ∷ others) new None is some = let has = some.1 (omega arith) in absurd (cc)
