-- Scopes that are equal, and scopes inside instances, by tables.
use Rattle.std.proofs.Common.{◌≡◌, ◌+◌, ℕ, List, [], ◌∷◌, ◌++◌, length, Option, Some, None, refl, sym, ap, ◌∙◌, subst}
use Rattle.std.specs.Prelude.{slice_get}
use Rattle.std.specs.Option.{option_and_then, option_map, option_to_list, unwrap_or}
use Rattle.list_laws.proofs.Members.{at_push}
use Rattle.nest_text.specs.declared.nest.Nest.{Nest}
use Rattle.nest_names.specs.Flattening.{spot_in}
use Rattle.nest_names.specs.declared.scope.GroupScope.{GroupScope}
use Rattle.nest_names.specs.declared.scope.Spot.{Spot}
use Rattle.nest_ways.specs.Reaching.{AreAlike, AreAllAlike, AreAllInside, AreInside, IsAlike, LeadsTo, ReadsAlike, input_at, ins_of}
use Rattle.nest_ways.specs.declared.ends.End.{End}
use Rattle.nest_ways.specs.declared.scopes.Inner.{Inner}

-- ---- Tables

pub alike_itself : (scopes : List GroupScope) (group offset : ℕ) → IsAlike scopes group offset offset
alike_itself scopes group offset base scope at of_group = refl

pub alike_more : (scopes : List GroupScope) (group : ℕ) (firsts firsts' : List ℕ) (offset one : ℕ) → AreAlike scopes group firsts
    → length firsts ≡ offset → IsAlike scopes group offset one → firsts' ≡ firsts ++ one ∷ [] → AreAlike scopes group firsts'
alike_more scopes group firsts firsts' offset one are long is more place first there =
    at_push (IsAlike scopes group) firsts one are (subst (λ n. IsAlike scopes group n one) (sym long) is) place first
    (sym (ap (λ all. slice_get all place) more) ∙ there)

pub all_alike_more : (scopes : List GroupScope) (lists lists' : List (List ℕ)) (group : ℕ) (firsts : List ℕ) → AreAllAlike scopes lists
    → length lists ≡ group → AreAlike scopes group firsts → lists' ≡ lists ++ firsts ∷ [] → AreAllAlike scopes lists'
all_alike_more scopes lists lists' group firsts are long is more place all there =
    at_push (AreAlike scopes) lists firsts are (subst (λ n. AreAlike scopes n firsts) (sym long) is) place all
    (sym (ap (λ those. slice_get those place) more) ∙ there)

pub none_alike : (scopes : List GroupScope) (group : ℕ) → AreAlike scopes group []
none_alike scopes group offset first there = let never : None ≡ Some first = there in absurd (cc)

-- ---- Scopes inside instances

pub inside_more : (scopes : List GroupScope) (group : ℕ) (inner inner' : List Inner) (one : Inner) → AreInside scopes group inner
    → LeadsTo scopes group one.name.now one.place one.offset → inner' ≡ inner ++ one ∷ [] → AreInside scopes group inner'
inside_more scopes group inner inner' one are leads more k each there =
    at_push (λ (k : ℕ) (each : Inner). LeadsTo scopes group each.name.now each.place each.offset) inner one are leads k each
    (sym (ap (λ all. slice_get all k) more) ∙ there)

pub all_inside_more : (scopes : List GroupScope) (lists lists' : List (List Inner)) (group : ℕ) (inner : List Inner) → AreAllInside scopes lists
    → length lists ≡ group → AreInside scopes group inner → lists' ≡ lists ++ inner ∷ [] → AreAllInside scopes lists'
all_inside_more scopes lists lists' group inner are long is more place all there =
    at_push (AreInside scopes) lists inner are (subst (λ n. AreInside scopes n inner) (sym long) is) place all
    (sym (ap (λ those. slice_get those place) more) ∙ there)

-- ---- Inputs

pub reads_alike : (nest : Nest) (scopes : List GroupScope) (group : ℕ) (firsts : List ℕ) (base : ℕ) (scope : GroupScope) → AreAlike scopes group firsts
    → slice_get scopes base ≡ Some scope → scope.group ≡ Some group → ReadsAlike firsts (input_at nest scopes base)
reads_alike nest scopes group firsts base scope are at of_group offset first line there =
    ap
    (λ found. option_to_list (option_and_then (λ (one : GroupScope). option_map (spot_in one) (slice_get (ins_of nest one.group) line)) found))
    (are offset first there base scope at of_group)

-- The input at the first equal scope.
pub first_input : (f : End → List Spot) (firsts : List ℕ) (offset line : ℕ) → ReadsAlike firsts f
    → f (record { scope = unwrap_or (slice_get firsts offset) offset; line = line }) ≡ f (record { scope = offset; line = line })
first_input f firsts offset line reads = by (slice_get firsts offset) refl
  where
    by : (found : Option ℕ) → slice_get firsts offset ≡ found
        → f (record { scope = unwrap_or (slice_get firsts offset) offset; line = line }) ≡ f (record { scope = offset; line = line })
    by None at = ap (λ found. f (record { scope = unwrap_or found offset; line = line })) at
    by (Some first) at = ap (λ found. f (record { scope = unwrap_or found offset; line = line })) at ∙ sym (reads offset first line at)

-- The first equal scope, by a table.
pub first_scope : (scopes : List GroupScope) (group : ℕ) (firsts : List ℕ) (base : ℕ) (scope : GroupScope) (offset : ℕ) → AreAlike scopes group firsts
    → slice_get scopes base ≡ Some scope → scope.group ≡ Some group
    → slice_get scopes (base + unwrap_or (slice_get firsts offset) offset) ≡ slice_get scopes (base + offset)
first_scope scopes group firsts base scope offset are at of_group = by (slice_get firsts offset) refl
  where
    by : (found : Option ℕ) → slice_get firsts offset ≡ found
        → slice_get scopes (base + unwrap_or (slice_get firsts offset) offset) ≡ slice_get scopes (base + offset)
    by None there = ap (λ found. slice_get scopes (base + unwrap_or found offset)) there
    by (Some first) there = ap (λ found. slice_get scopes (base + unwrap_or found offset)) there ∙ sym (are offset first there base scope at of_group)
