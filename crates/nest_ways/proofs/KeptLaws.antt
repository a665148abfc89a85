-- Lists of ports with each port once, and inputs that are visited in turn or level by level.
use Rattle.std.proofs.Common.{◌≡◌, ◌⊎◌, ℕ, zero, suc, Bool, true, false, List, [], ◌∷◌, ◌++◌, map, inl, inr, refl, sym, ap, ◌∙◌, append_assoc}
use Rattle.std.proofs.Common.{append-nil, Option, Some, None}
use Rattle.std.specs.Prelude.{◌||◌, if◌then◌else◌, is_none}
use Rattle.std.specs.List.{flat_map, list_all, list_any}
use Rattle.std.specs.Option.{option_map, unwrap_or}
use Rattle.std.proofs.lemmas.Bool.{and_parts}
use Rattle.std.proofs.lemmas.Grind.{flat_map-append}
use Rattle.std.proofs.lemmas.List.Folds.{list_any-append}
use Rattle.nest_text.specs.declared.nest.Nest.{Nest}
use Rattle.nest_names.specs.Flattening.{distinct, expand, ins_in, is_component, place_at, reach, same_spot, spot_in, inside}
use Rattle.nest_ways.specs.Reaching.{IsIn, SameKept, all_ends}
use Rattle.nest_names.specs.declared.scope.GroupScope.{GroupScope}
use Rattle.nest_names.specs.declared.scope.Spot.{Spot}
use Rattle.nest_names.proofs.SameSpots.{spot_is, spot_self}

-- ---- Ports in a list

or_true : (one other : Bool) → other ≡ true → (one || other) ≡ true
or_true true other is = refl
or_true false other is = is

either : (one other : Bool) → (one || other) ≡ true → (one ≡ true) ⊎ (other ≡ true)
either true other is = inl refl
either false other is = inr is

pub in_front : (one : Spot) (front behind : List Spot) → IsIn one front → IsIn one (front ++ behind)
in_front one front behind is = list_any-append (same_spot one) front behind ∙ ap (λ told. told || list_any (same_spot one) behind) is

pub in_behind : (one : Spot) (front behind : List Spot) → IsIn one behind → IsIn one (front ++ behind)
in_behind one front behind is =
    list_any-append (same_spot one) front behind ∙ or_true (list_any (same_spot one) front) (list_any (same_spot one) behind) is

pub in_either : (one : Spot) (front behind : List Spot) → IsIn one (front ++ behind) → IsIn one front ⊎ IsIn one behind
in_either one front behind is =
    either (list_any (same_spot one) front) (list_any (same_spot one) behind) (sym (list_any-append (same_spot one) front behind) ∙ is)

pub in_first : (one : Spot) (others : List Spot) → IsIn one (one ∷ others)
in_first one others = ap (λ told. told || list_any (same_spot one) others) (spot_self one)

in_one : (one other : Spot) → IsIn one (other ∷ []) → one ≡ other
in_one one other is = by (same_spot one other) refl is
  where
    by : (told : Bool) → same_spot one other ≡ told → (told || false) ≡ true → one ≡ other
    by true told is = spot_is one other told
    by false told is = let never : false ≡ true = is in absurd (cc)

-- ---- What is kept

-- One more port, which is kept already or isn't.
kept_on : (kept : List Spot) (one : Spot) (others : List Spot) → list_any (same_spot one) kept ≡ true → distinct kept (one ∷ others) ≡ distinct kept others
kept_on kept one others told = ap (λ test. if test then distinct kept others else (one ∷ distinct (kept ++ (one ∷ [])) others)) told

kept_more : (kept : List Spot) (one : Spot) (others : List Spot) → list_any (same_spot one) kept ≡ false
    → distinct kept (one ∷ others) ≡ one ∷ distinct (kept ++ (one ∷ [])) others
kept_more kept one others told = ap (λ test. if test then distinct kept others else (one ∷ distinct (kept ++ (one ∷ [])) others)) told

-- Each port is kept in the end.
all_kept : (kept others : List Spot) (one : Spot) → IsIn one others → IsIn one (kept ++ distinct kept others)
all_kept kept [] one is = let never : false ≡ true = is in absurd (cc)
all_kept kept (first ∷ others) one is =
    by (all_kept kept others one) (all_kept (kept ++ (first ∷ [])) others one) (list_any (same_spot first) kept) refl
    (in_either one (first ∷ []) others is)
  where
    by : (IsIn one others → IsIn one (kept ++ distinct kept others))
        → (IsIn one others → IsIn one ((kept ++ (first ∷ [])) ++ distinct (kept ++ (first ∷ [])) others))
        → (told : Bool) → list_any (same_spot first) kept ≡ told → IsIn one (first ∷ []) ⊎ IsIn one others
        → IsIn one (kept ++ distinct kept (first ∷ others))
    by same more true told (inl here) =
        in_front one kept (distinct kept (first ∷ others)) (ap (λ spot. list_any (same_spot spot) kept) (in_one one first here) ∙ told)
    by same more true told (inr later) = ap (λ rest. list_any (same_spot one) (kept ++ rest)) (kept_on kept first others told) ∙ same later
    by same more false told (inl here) =
        let rest = distinct (kept ++ (first ∷ [])) others in
        ap (λ all. list_any (same_spot one) (kept ++ all)) (kept_more kept first others told)
        ∙ in_behind one kept (first ∷ rest) (in_front one (first ∷ []) rest here)
    by same more false told (inr later) =
        let rest = distinct (kept ++ (first ∷ [])) others in
        ap (λ all. list_any (same_spot one) (kept ++ all)) (kept_more kept first others told)
        ∙ ap (list_any (same_spot one)) (sym (append_assoc kept (first ∷ []) rest))
        ∙ more later

pub distinct-append : (kept ones others : List Spot) → distinct kept (ones ++ others) ≡ distinct kept ones ++ distinct (kept ++ distinct kept ones) others
distinct-append kept [] others = ap (λ all. distinct all others) (sym (append-nil kept))
distinct-append kept (one ∷ ones) others =
    by (distinct-append kept ones others) (distinct-append (kept ++ (one ∷ [])) ones others) (list_any (same_spot one) kept) refl
  where
    Joins : List Spot → Type 0
    Joins now = distinct now (ones ++ others) ≡ distinct now ones ++ distinct (now ++ distinct now ones) others

    by : Joins kept → Joins (kept ++ (one ∷ [])) → (told : Bool) → list_any (same_spot one) kept ≡ told
        → distinct kept ((one ∷ ones) ++ others) ≡ distinct kept (one ∷ ones) ++ distinct (kept ++ distinct kept (one ∷ ones)) others
    by same more true told =
        kept_on kept one (ones ++ others) told ∙ same
        ∙ ap (λ front. front ++ distinct (kept ++ front) others) (sym (kept_on kept one ones told))
    by same more false told =
        let now = kept ++ (one ∷ []) in
        kept_more kept one (ones ++ others) told ∙ ap (λ rest. one ∷ rest) more
        ∙ ap (λ all. one ∷ (distinct now ones ++ distinct all others)) (append_assoc kept (one ∷ []) (distinct now ones))
        ∙ ap (λ front. front ++ distinct (kept ++ front) others) (sym (kept_more kept one ones told))

-- Only ports of the list are kept.
kept_from : (kept others : List Spot) (one : Spot) → IsIn one (distinct kept others) → IsIn one others
kept_from kept [] one is = is
kept_from kept (first ∷ others) one is =
    by (kept_from kept others one) (kept_from (kept ++ (first ∷ [])) others one) (list_any (same_spot first) kept) refl is
  where
    by : (IsIn one (distinct kept others) → IsIn one others)
        → (IsIn one (distinct (kept ++ (first ∷ [])) others) → IsIn one others)
        → (told : Bool) → list_any (same_spot first) kept ≡ told → IsIn one (distinct kept (first ∷ others)) → IsIn one (first ∷ others)
    by same more true told there =
        in_behind one (first ∷ []) others (same (sym (ap (list_any (same_spot one)) (kept_on kept first others told)) ∙ there))
    by same more false told there =
        which (in_either one (first ∷ []) rest (sym (ap (list_any (same_spot one)) (kept_more kept first others told)) ∙ there))
      where
        rest : List Spot
        rest = distinct (kept ++ (first ∷ [])) others

        which : IsIn one (first ∷ []) ⊎ IsIn one rest → IsIn one (first ∷ others)
        which (inl here) = in_front one (first ∷ []) others here
        which (inr later) = in_behind one (first ∷ []) others (more later)

-- Nothing is kept of what is kept already.
nothing_kept : (kept others : List Spot) → ((one : Spot) → IsIn one others → IsIn one kept) → distinct kept others ≡ []
nothing_kept kept [] all = refl
nothing_kept kept (one ∷ others) all =
    kept_on kept one others (all one (in_first one others))
    ∙ nothing_kept kept others (λ other is. all other (in_behind other (one ∷ []) others is))

-- ---- Lists with the same ports

pub same_both : (ones ones' others others' : List Spot) → SameKept ones ones' → SameKept others others' → SameKept (ones ++ others) (ones' ++ others')
same_both ones ones' others others' front behind kept =
    distinct-append kept ones others ∙ ap (λ all. all ++ distinct (kept ++ all) others) (front kept)
    ∙ ap (λ rest. distinct kept ones' ++ rest) (behind (kept ++ distinct kept ones'))
    ∙ sym (distinct-append kept ones' others')

pub same_covered : (ones others : List Spot) → ((one : Spot) → IsIn one others → IsIn one ones) → SameKept ones (ones ++ others)
same_covered ones others all kept =
    sym (distinct-append kept ones others
    ∙ ap (λ rest. distinct kept ones ++ rest) (nothing_kept (kept ++ distinct kept ones) others (λ one is. all_kept kept ones one (all one is)))
    ∙ append-nil (distinct kept ones))

-- Lists that keep the same ports have the same ports.
pub same_there : (ones others : List Spot) (one : Spot) → SameKept ones others → IsIn one others → IsIn one ones
same_there ones others one same is =
    kept_from [] ones one (ap (list_any (same_spot one)) (same []) ∙ all_kept [] others one is)

-- Ports that were given before add nothing when they are given again.
same_given : (f : Spot → List Spot) (given kept ones : List Spot) → ((one other : Spot) → IsIn one given → IsIn other (f one) → IsIn other kept)
    → distinct kept (flat_map f (distinct given ones)) ≡ distinct kept (flat_map f ones)
same_given f given kept [] all = refl
same_given f given kept (one ∷ ones) all =
    by (same_given f given kept ones all) (same_given f (given ++ (one ∷ [])) now ones more) (list_any (same_spot one) given) refl
  where
    now : List Spot
    now = kept ++ distinct kept (f one)

    more : (other another : Spot) → IsIn other (given ++ (one ∷ [])) → IsIn another (f other) → IsIn another now
    more other another is gives = which (in_either other given (one ∷ []) is)
      where
        which : IsIn other given ⊎ IsIn other (one ∷ []) → IsIn another now
        which (inl before) = in_front another kept (distinct kept (f one)) (all other another before gives)
        which (inr here) = all_kept kept (f one) another (ap (λ spot. list_any (same_spot another) (f spot)) (sym (in_one other one here)) ∙ gives)

    Same : List Spot → List Spot → Type 0
    Same before those = distinct those (flat_map f (distinct before ones)) ≡ distinct those (flat_map f ones)

    by : Same given kept → Same (given ++ (one ∷ [])) now → (told : Bool) → list_any (same_spot one) given ≡ told
        → distinct kept (flat_map f (distinct given (one ∷ ones))) ≡ distinct kept (f one ++ flat_map f ones)
    by same further true told =
        let none = nothing_kept kept (f one) (λ other gives. all one other told gives) in
        ap (λ spots. distinct kept (flat_map f spots)) (kept_on given one ones told) ∙ same
        ∙ ap (λ spots. distinct spots (flat_map f ones)) (sym (append-nil kept))
        ∙ ap (λ front. front ++ distinct (kept ++ front) (flat_map f ones)) (sym none)
        ∙ sym (distinct-append kept (f one) (flat_map f ones))
    by same further false told =
        let rest = distinct (given ++ (one ∷ [])) ones in
        ap (λ spots. distinct kept (flat_map f spots)) (kept_more given one ones told)
        ∙ distinct-append kept (f one) (flat_map f rest)
        ∙ ap (λ spots. distinct kept (f one) ++ spots) further
        ∙ sym (distinct-append kept (f one) (flat_map f ones))

pub distinct-flat_map : (f : Spot → List Spot) (ones : List Spot) → distinct [] (flat_map f (distinct [] ones)) ≡ distinct [] (flat_map f ones)
distinct-flat_map f ones = same_given f [] [] ones (λ one other is gives. let never : false ≡ true = is in absurd (cc))

flat_map-itself : (ones : List Spot) → flat_map (λ one. one ∷ []) ones ≡ ones
flat_map-itself [] = refl
flat_map-itself (one ∷ ones) = ap (λ rest. one ∷ rest) (flat_map-itself ones)

flat_map-flat_map : (f g : Spot → List Spot) (ones : List Spot) → flat_map g (flat_map f ones) ≡ flat_map (λ one. flat_map g (f one)) ones
flat_map-flat_map f g [] = refl
flat_map-flat_map f g (one ∷ ones) =
    flat_map-append g (f one) (flat_map f ones) ∙ ap (λ rest. flat_map g (f one) ++ rest) (flat_map-flat_map f g ones)

distinct-twice : (ones : List Spot) → distinct [] (distinct [] ones) ≡ distinct [] ones
distinct-twice ones =
    ap (distinct []) (sym (flat_map-itself (distinct [] ones))) ∙ distinct-flat_map (λ one. one ∷ []) ones ∙ ap (distinct []) (flat_map-itself ones)

-- ---- Inputs of components

none_at : (found : Option ℕ) → is_none found ≡ true → found ≡ None
none_at None is = refl
none_at (Some place) is = let never : false ≡ true = is in absurd (cc)

expand_component : (nest : Nest) (spot : Spot) → place_at nest spot.scope.group spot.port.instance ≡ None → expand nest spot ≡ spot ∷ []
expand_component nest spot at =
    ap
    (λ found. unwrap_or (option_map (λ (scope : GroupScope). map (spot_in scope) (ins_in nest scope spot.port.port))
    (option_map (inside spot.scope spot.port.instance) found)) (spot ∷ [])) at

pub ends_component : (nest : Nest) (depth : ℕ) (spot : Spot) → place_at nest spot.scope.group spot.port.instance ≡ None → all_ends nest depth spot ≡ spot ∷ []
ends_component nest zero spot at = refl
ends_component nest (suc depth) spot at =
    ap (flat_map (all_ends nest depth)) (expand_component nest spot at) ∙ append-nil (all_ends nest depth spot) ∙ ends_component nest depth spot at

ends_components : (nest : Nest) (depth : ℕ) (spots : List Spot) → list_all (is_component nest) spots ≡ true → flat_map (all_ends nest depth) spots ≡ spots
ends_components nest depth [] all = refl
ends_components nest depth (spot ∷ spots) all =
    let first = is_component nest spot in
    let others = list_all (is_component nest) spots in
    let both = and_parts first others all in
    ap (λ front. front ++ flat_map (all_ends nest depth) spots)
    (ends_component nest depth spot (none_at (place_at nest spot.scope.group spot.port.instance) both.0))
    ∙ ap (λ rest. spot ∷ rest) (ends_components nest depth spots both.1)

-- The same inputs are reached level by level, with each port once, as path by path.
reach_all : (nest : Nest) (depth : ℕ) (spots : List Spot) → reach nest depth (distinct [] spots) ≡ distinct [] (flat_map (all_ends nest depth) spots)
reach_all nest zero spots = ap (distinct []) (sym (flat_map-itself spots))
reach_all nest (suc depth) spots = by (reach_all nest depth (flat_map (expand nest) spots)) (list_all (is_component nest) once) refl
  where
    once : List Spot
    once = distinct [] spots

    next : List Spot
    next = distinct [] (flat_map (expand nest) once)

    by : reach nest depth (distinct [] (flat_map (expand nest) spots)) ≡ distinct [] (flat_map (all_ends nest depth) (flat_map (expand nest) spots))
        → (told : Bool) → list_all (is_component nest) once ≡ told → reach nest (suc depth) once ≡ distinct [] (flat_map (all_ends nest (suc depth)) spots)
    by deeper true told =
        ap (λ test. if test then once else reach nest depth next) told
        ∙ sym (distinct-twice spots)
        ∙ ap (distinct []) (sym (ends_components nest (suc depth) once told))
        ∙ distinct-flat_map (all_ends nest (suc depth)) spots
    by deeper false told =
        ap (λ test. if test then once else reach nest depth next) told
        ∙ ap (reach nest depth) (distinct-flat_map (expand nest) spots)
        ∙ deeper
        ∙ ap (distinct []) (flat_map-flat_map (expand nest) (all_ends nest depth) spots)

pub reach_one : (nest : Nest) (depth : ℕ) (spot : Spot) → reach nest depth (spot ∷ []) ≡ distinct [] (all_ends nest depth spot)
reach_one nest depth spot = reach_all nest depth (spot ∷ []) ∙ ap (distinct []) (append-nil (all_ends nest depth spot))
