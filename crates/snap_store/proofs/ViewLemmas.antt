-- What the store of a slab has under an id is what the slab has under that key.
use Rattle.std.proofs.Common.{◌≡◌, ◌≢◌, ℕ, zero, suc, ◌+◌, ◌<◌, ℤ, pos, true, false, cond, List, [], ◌∷◌, ◌++◌, take, drop, map, length, get_or, set}
use Rattle.std.proofs.Common.{get_or-set_same, get_or-set_other, subst, Option, Some, None, refl, sym, ap, ◌∙◌, arith, add-zero, zero-add}
use Rattle.std.proofs.Math.Seq.{take-append_seam}
use Rattle.std.proofs.lemmas.Bool.Decides.{nat_tests}
use Rattle.std.specs.Cmp.{nat_cmp_total}
use Rattle.std.specs.FinMap as finite
use Rattle.std.specs.Option.{option_map, IsSome}
use Rattle.std.specs.Ordering.{nat_cmp, eq_by_cmp}
use Rattle.snap_store.specs.Store.{Store, words_of, IsLive, HasLength, KeepsOthers}
use Rattle.snap_store.specs.View.{stored_from}

same_id : (id : ℕ) → eq_by_cmp nat_cmp id id ≡ true
same_id id = grind (arith, nat_tests)

other_id : (id other : ℕ) → other ≢ id → eq_by_cmp nat_cmp other id ≡ false
other_id id other differs = grind (arith, nat_tests)

insert_here : (store : Store) (id : ℕ) (words : List ℤ) → words_of (finite.insert store id words) id ≡ Some words
insert_here store id words = finite.get-insert nat_cmp_total store id words id ∙ ap (λ b. cond b (Some words) (words_of store id)) (same_id id)

insert_elsewhere : (store : Store) (id : ℕ) (words : List ℤ) (other : ℕ) → other ≢ id → words_of (finite.insert store id words) other ≡ words_of store other
insert_elsewhere store id words other differs =
    finite.get-insert nat_cmp_total store id words other ∙ ap (λ b. cond b (Some words) (words_of store other)) (other_id id other differs)

none_before : (first : ℕ) (slots : List (Option (List ℤ))) (id : ℕ) → id < first → words_of (stored_from first slots) id ≡ None
none_before first [] id before = finite.get-empty nat_cmp id
none_before first (None ∷ slots) id before = none_before (first + 1) slots id (omega arith)
none_before first (Some words ∷ slots) id before =
    let differs : id ≢ first = omega arith in
    insert_elsewhere (stored_from (first + 1) slots) first words id differs ∙ none_before (first + 1) slots id (omega arith)

words_at : (first : ℕ) (slots : List (Option (List ℤ))) (place : ℕ) → words_of (stored_from first slots) (first + place) ≡ get_or slots place None
words_at first [] place = finite.get-empty nat_cmp (first + place)
words_at first (None ∷ slots) zero = none_before (first + 1) slots (first + zero) (omega arith)
words_at first (None ∷ slots) (suc place) =
    let shift : first + suc place ≡ first + 1 + place = omega arith in rw shift (words_at (first + 1) slots place)
words_at first (Some words ∷ slots) zero = rw add-zero (insert_here (stored_from (first + 1) slots) first words)
words_at first (Some words ∷ slots) (suc place) =
    let shift : first + suc place ≡ first + 1 + place = omega arith in
    let differs : first + 1 + place ≢ first = omega arith in
    rw shift (insert_elsewhere (stored_from (first + 1) slots) first words (first + 1 + place) differs ∙ words_at (first + 1) slots place)

module _ {X : Type 0} (f : X → List ℤ) where
  some_from_map : (o : Option X) → IsSome (option_map f o) → IsSome o
  some_from_map None live = live
  some_from_map (Some x) live = live

  get_or-map_slots : (slots : List (Option X)) (id : ℕ) → get_or (map (option_map f) slots) id None ≡ option_map f (get_or slots id None)
  get_or-map_slots [] id = refl
  get_or-map_slots (slot ∷ slots) zero = refl
  get_or-map_slots (slot ∷ slots) (suc id) = get_or-map_slots slots id

  -- The store of a slab whose values have these words.
  pub words_of-stored : (slots : List (Option X)) (id : ℕ) → words_of (stored_from 0 (map (option_map f) slots)) id ≡ option_map f (get_or slots id None)
  words_of-stored slots id = rw zero-add at (words_at 0 (map (option_map f) slots) id) ∙ get_or-map_slots slots id

  abbrev pub view : List (Option X) → Store
  view slots = stored_from 0 (map (option_map f) slots)

  module _ (slots : List (Option X)) {store : Store} (is : view slots ≡ store) where
    pub held : (id : ℕ) → words_of store id ≡ option_map f (get_or slots id None)
    held id = ap (λ s. words_of s id) (sym is) ∙ words_of-stored slots id

    -- A live id is a key of the slab.
    pub slot_of_live : (id key : ℕ) → key ≡ id → IsLive store id → IsSome (get_or slots key None)
    slot_of_live id key same live =
        some_from_map (get_or slots key None) (subst (λ o. IsSome o) (held id ∙ ap (λ k. option_map f (get_or slots k None)) (sym same)) live)

    -- The words under a key of the slab are those under the id in the store.
    pub words_in_slot : (id key : ℕ) (x : X) → key ≡ id → get_or slots key None ≡ Some x → words_of store id ≡ Some (f x)
    words_in_slot id key x same found = held id ∙ ap (λ k. option_map f (get_or slots k None)) (sym same) ∙ ap (option_map f) found

    -- The length of a live id is that of its words.
    pub length_of_live : (id key count : ℕ) (x : X) → key ≡ id → get_or slots key None ≡ Some x → HasLength store id count → length (f x) ≡ count
    length_of_live id key count x same found asked = asked (f x) (words_in_slot id key x same found)

    -- Where only one key changes, every other id keeps its words.
    pub others_kept : (new : List (Option X)) (id key : ℕ) → key ≡ id → ((other : ℕ) → other ≢ key → get_or new other None ≡ get_or slots other None)
        → KeepsOthers store (view new) id
    others_kept new id key same kept other differs =
        let apart : other ≢ key = λ e. differs (e ∙ same) in
        words_of-stored new other ∙ ap (option_map f) (kept other apart) ∙ sym (held other)

    pub others_after_set : (id key : ℕ) (slot : Option X) → key ≡ id → KeepsOthers store (view (set slots key slot)) id
    others_after_set id key slot same = others_kept (set slots key slot) id key same (λ other differs. get_or-set_other slots key other slot None differs)

  within : (slots : List (Option X)) (key : ℕ) → IsSome (get_or slots key None) → key < length slots
  within [] key there = cc
  within (slot ∷ slots) zero there = omega arith
  within (slot ∷ slots) (suc key) there = let rest = within slots key there in omega arith

  -- A key whose value was overwritten.
  pub words_after_set : (slots : List (Option X)) (id key : ℕ) (x : X) → key ≡ id → IsSome (get_or slots key None)
      → words_of (view (set slots key (Some x))) id ≡ Some (f x)
  words_after_set slots id key x same there =
      ap (words_of (view (set slots key (Some x)))) (sym same)
      ∙ words_of-stored (set slots key (Some x)) key
      ∙ ap (option_map f) (get_or-set_same slots key (Some x) None (within slots key there))

-- Words that overwrite as many are all that is left.
pub put_over : (old new words : List ℤ) (count : ℕ) → new ≡ words → length words ≡ count → take count (new ++ drop (length new) old) ≡ words
put_over old new words count is long =
    ap (λ n. take n (new ++ drop (length new) old)) (sym (ap length is ∙ long)) ∙ take-append_seam new (drop (length new) old) ∙ is

-- One word that overwrites one.
pub one_word : (old words : List ℤ) → length words ≡ 1 → length old ≡ length words → set old 0 (get_or words 0 (pos 0)) ≡ words
one_word old [] one same = absurd (omega (arith, one))
one_word [] (word ∷ words) one same = absurd (let g : 0 ≡ suc (length words) = same in omega (arith, g))
one_word (x ∷ old) (word ∷ []) one same = none old (let g : suc (length old) ≡ 1 = same in omega (arith, g))
  where
    none : (old : List ℤ) → length old ≡ 0 → word ∷ old ≡ word ∷ []
    none [] e = refl
    none (y ∷ old) e = absurd (let g : suc (length old) ≡ 0 = e in omega (arith, g))
one_word (x ∷ old) (word ∷ (other ∷ words)) one same = absurd (let g : suc (suc (length words)) ≡ 1 = one in omega (arith, g))
