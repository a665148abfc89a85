-- Elements that are appended within a limit, one after the other.
use Rattle.std.proofs.Common.{◌≡◌, ◌≤◌, ◌<◌, ℕ, zero, suc, ◌+◌, List, [], ◌∷◌, ◌++◌, length, map, drop, get_or, refl, sym, ap, ◌∙◌, arith, length-append, append_assoc, append-nil}
use Rattle.std.specs.List.{flat_map}
use Rattle.std.proofs.lemmas.List.{at_drop_more, drop_all}
use Rattle.nest_text.specs.declared.nest.Nest.{Nest}
use Rattle.nest_names.specs.Flattening.{flat_wire, flat_wires, instances_of, leaves, named_in, wires_of}
use Rattle.sub_flat.specs.FlatReading.{MadeOver, PutsOver, leaves_inside, wires_inside}
use Rattle.nest_names.specs.declared.scope.GroupScope.{GroupScope}
use Rattle.sub_flat.specs.declared.fault.Unflat.{Unflat}
use Rattle.sub_flat.specs.declared.fault.Unflat.TheVariants as unflat

-- The elements that were added, and those that the rest gives, are all.
abbrev pub PutSoFar : {A : Type 0} → ℕ → List A → List A → List A → List A → Type 0
PutSoFar limit old now rest all = (now ++ rest ≡ old ++ all) × (length now ≤ limit)

pub put_begin : {A : Type 0} (limit : ℕ) (old all : List A) → length old ≤ limit → PutSoFar limit old old all all
put_begin limit old all within = (refl, within)

at_next : {A X : Type 0} (f : X → List A) (now : List A) (items : List X) (place : ℕ) (item : X) → place < length items → item ≡ get_or items place item
    → now ++ flat_map f (drop place items) ≡ now ++ (f item ++ flat_map f (drop (place + 1) items))
at_next f now items place item within is =
    at_drop_more (λ rest. now ++ flat_map f rest) items place item within
    ∙ ap (λ one. now ++ (f one ++ flat_map f (drop (place + 1) items))) (sym is)

pub put_next : {A X : Type 0} (f : X → List A) (limit : ℕ) (old now new all : List A) (items : List X) (place : ℕ) (item : X)
    → place < length items → item ≡ get_or items place item → PutSoFar limit old now (flat_map f (drop place items)) all
    → (new ≡ now ++ f item) × (length new ≤ limit) → PutSoFar limit old new (flat_map f (drop (place + 1) items)) all
put_next f limit old now new all items place item within is so_far puts = (
  ap (λ front. front ++ flat_map f (drop (place + 1) items)) puts.0
      ∙ append_assoc now (f item) (flat_map f (drop (place + 1) items))
      ∙ sym (at_next f now items place item within is) ∙ so_far.0,
  puts.1,
)

pub put_failed : {A X : Type 0} (f : X → List A) (limit : ℕ) (old now all : List A) (items : List X) (place : ℕ) (item : X) (why : Unflat)
    → place < length items → item ≡ get_or items place item → PutSoFar limit old now (flat_map f (drop place items)) all
    → PutsOver limit now (f item) why → PutsOver limit old all why
put_failed f limit old now all items place item unflat.NoMemory within is so_far over = tt
put_failed f limit old now all items place item unflat.TooLarge within is so_far over =
    let whole = ap length (sym (at_next f now items place item within is) ∙ so_far.0) in
    let left = length-append now (f item ++ flat_map f (drop (place + 1) items)) in
    let behind = length-append (f item) (flat_map f (drop (place + 1) items)) in
    let right = length-append old all in
    omega (arith, whole, left, behind, right, over)

-- Parts that are appended in turn.
pub put_more_failed : {A : Type 0} (limit : ℕ) (old more all rest : List A) (why : Unflat) → all ≡ more ++ rest
    → PutsOver limit old more why → PutsOver limit old all why
put_more_failed limit old more all rest unflat.NoMemory is over = tt
put_more_failed limit old more all rest unflat.TooLarge is over =
    let whole = ap length is in let parts = length-append more rest in omega (arith, whole, parts, over)

pub made_failed : {A : Type 0} (limit : ℕ) (all : List A) (why : Unflat) → PutsOver limit [] all why → MadeOver limit all why
made_failed limit all unflat.NoMemory over = tt
made_failed limit all unflat.TooLarge over = omega (arith, over)

-- One for each.
pub one_each : {A X : Type 0} (f : X → A) (items : List X) → map f items ≡ flat_map (λ item. f item ∷ []) items
one_each f [] = refl
one_each f (item ∷ items) = ap (λ rest. f item ∷ rest) (one_each f items)

pub put_end : {A X : Type 0} (f : X → List A) (limit : ℕ) (old now all all' : List A) (items : List X) (place : ℕ) → length items ≤ place
    → PutSoFar limit old now (flat_map f (drop place items)) all → all ≡ all' → (now ≡ old ++ all') × (length now ≤ limit)
put_end f limit old now all all' items place past so_far is = (
  sym (append-nil now) ∙ ap (λ rest. now ++ flat_map f rest) (sym (drop_all place items past)) ∙ so_far.0 ∙ ap (λ more. old ++ more) is,
  so_far.1,
)

-- What is too much after a list is too much after any prefix of it.
pub put_behind_failed : {A : Type 0} (limit : ℕ) (old middle more rest : List A) (why : Unflat) → middle ≡ old ++ more → PutsOver limit middle rest why
    → PutsOver limit old (more ++ rest) why
put_behind_failed limit old middle more rest unflat.NoMemory is over = tt
put_behind_failed limit old middle more rest unflat.TooLarge is over =
    let whole = ap length is in let front = length-append old more in let parts = length-append more rest in omega (arith, whole, front, parts, over)

-- ---- Components and connections by instances

pub leaves_each : (nest : Nest) (depth : ℕ) (scope : GroupScope)
    → leaves nest depth scope ≡ flat_map (leaves_inside nest depth scope) (instances_of nest scope.group)
leaves_each nest zero scope = one_each (named_in scope) (instances_of nest scope.group)
leaves_each nest (suc depth) scope = refl

abbrev nothing : {A X : Type 0} → X → List A
nothing item = []

nothing_each : {A X : Type 0} (items : List X) → flat_map (nothing {A = A}) items ≡ []
nothing_each [] = refl
nothing_each (item ∷ items) = nothing_each items

pub wires_each : (nest : Nest) (depth : ℕ) (scope : GroupScope)
    → flat_wires nest depth scope
    ≡ flat_map (flat_wire nest scope) (wires_of nest scope.group) ++ flat_map (wires_inside nest depth scope) (instances_of nest scope.group)
wires_each nest zero scope =
    let own = flat_map (flat_wire nest scope) (wires_of nest scope.group) in
    sym (append-nil own) ∙ ap (λ rest. own ++ rest) (sym (nothing_each (instances_of nest scope.group)))
wires_each nest (suc depth) scope = refl
