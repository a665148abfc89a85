-- Each step keeps the rule of a deque.
use Rattle.std.proofs.Common.{◌≡◌, ◌==◌, ℕ, zero, suc, ◌+◌, ◌<◌, cond, List, [], ◌∷◌, ◌++◌, length, drop, set, sym, refl, ap, ◌∙◌, subst, arith, append_assoc}
use Rattle.std.proofs.Common.{length-append, zero-add, rules}
use Rattle.std.specs.Prelude.{All, count_by, slice_get, Option, Some, None, MatchOption, IfSome, IsPermutation}
use Rattle.std.proofs.lemmas.List.{drop-append-le}
use Rattle.std.proofs.lemmas.List.Elements.{All-nil, All-cons, All-head, All-tail, All-set, All-push, All-weaker, All-take, All-drop}
use Rattle.std.proofs.lemmas.List.Sorted.{All-permutation, sum_by-IsPermutation, IsPermutation-refl, IsPermutation-sym, IsPermutation-trans}
use Rattle.std.proofs.lemmas.List.Sorted.{IsPermutation-middle, IsPermutation-append}
use Rattle.std.proofs.lemmas.List.Sums.{sum_by-cons}
use Rattle.std.proofs.lemmas.Bool.Decides.{nat_tests}
use native.Mathlib.Decide.{ℕ_discrete}
use mathlib.Core.Option.{some, some-injective, some-ne-none}
use lib.Seq.{take-append_seam, drop-append_seam}
use lib.ListN.{get_elem?}
use Rattle.crossbeam_deque.specs.Tasks.{Pushes, Takes, Finds, FindsFew, Admits}
use Rattle.list_laws.proofs.Members.{all_at, at_front}
use Rattle.ticket_deque.specs.Rule.{taken, all_taken, IsThief, IsInOrder}
use Rattle.ticket_deque.specs.Steps.{after_put, after_take, IsPut, WasEmpty, WasFirst, TakesFirst}
use Rattle.ticket_deque.specs.Steps as steps
use Rattle.ticket_deque.specs.Ends.{HandState, HandTakes}
use Rattle.ticket_deque.specs.HandFields.{owner_state}
use Rattle.ticket_deque.specs.declared.view.View.{View}
use Rattle.ticket_deque.specs.declared.view.View.TheVariants.{Owner, Thief}

module _ {T : Type 0} where
  abbrev pub Owned : List T → List (View T) → Type 0
  Owned puts views = (got : List (ℕ × T)) × (others : List (View T)) × (views ≡ Owner puts got ∷ others) × All IsThief others

  -- A new deque.
  pub begins : IsInOrder {T = T} [] (Owner [] [] ∷ [])
  begins = record {
    puts = [];
    front = 0;
    owner = ([], [], refl, All-nil _);
    queued = (search rules, refl);
    below = All-nil _;
    once =
        λ place h. absurd (omega arith);
    matching = All-nil _;
  }

  -- An end that takes one more item adds one to what all took.
  grows : (views : List (View T)) (port : ℕ) (v w : View T) (e : ℕ × T) → get_elem? views port ≡ some v → taken w ≡ taken v ++ e ∷ []
      → IsPermutation (e ∷ all_taken views) (all_taken (set views port w))
  grows [] port v w e at add = absurd (some-ne-none v (sym at))
  grows (u ∷ us) zero v w e at add =
      let is : u ≡ v = some-injective u v at in
      let all : taken w ++ all_taken us ≡ taken u ++ e ∷ all_taken us = ap (λ l. l ++ all_taken us) (add ∙ ap (λ (y : View T). taken y ++ e ∷ []) (sym is))
      ∙ append_assoc (taken u) (e ∷ []) (all_taken us) in
      subst (λ l. IsPermutation (e ∷ (taken u ++ all_taken us)) l) (sym all) (IsPermutation-sym _ _ (IsPermutation-middle (taken u) e (all_taken us)))
  grows (u ∷ us) (suc port) v w e at add =
      IsPermutation-trans _ (taken u ++ e ∷ all_taken us) _ (IsPermutation-sym _ _ (IsPermutation-middle (taken u) e (all_taken us)))
      (IsPermutation-append _ _ _ _ (IsPermutation-refl (taken u)) (grows us port v w e at add))

  -- An end that takes nothing adds nothing.
  stays : (views : List (View T)) (port : ℕ) (v w : View T) → get_elem? views port ≡ some v → taken w ≡ taken v → all_taken (set views port w) ≡ all_taken views
  stays [] port v w at same = refl
  stays (u ∷ us) zero v w at same = ap (λ l. l ++ all_taken us) (same ∙ ap taken (sym (some-injective u v at)))
  stays (u ∷ us) (suc port) v w at same = ap (λ l. taken u ++ l) (stays us port v w at same)

  joins : (views : List (View T)) → all_taken (views ++ Thief [] ∷ []) ≡ all_taken views
  joins [] = refl
  joins (u ∷ us) = ap (λ l. taken u ++ l) (joins us)

  -- What holds of all that was taken holds of what one end took.
  mine : (P : ℕ × T → Type 0) (views : List (View T)) (port : ℕ) (v : View T) → All P (all_taken views) → get_elem? views port ≡ some v → All P (taken v)
  mine P [] port v all at = absurd (some-ne-none v (sym at))
  mine P (u ∷ us) zero v all at =
      subst (λ (y : View T). All P (taken y)) (some-injective u v at)
      (subst (All P) (take-append_seam (taken u) (all_taken us)) (All-take P (length (taken u)) _ all))
  mine P (u ∷ us) (suc port) v all at = mine P us port v (subst (All P) (drop-append_seam (taken u) (all_taken us)) (All-drop P (length (taken u)) _ all)) at

  -- The first item that is left is the one that was added at its place.
  first_of : (puts : List T) (k : ℕ) (x : T) (items : List T) → x ∷ items ≡ drop k puts
      → (k < length puts) × (items ≡ drop (suc k) puts) × (slice_get puts k ≡ Some x)
  first_of [] zero x items e = cc
  first_of [] (suc k) x items e = cc
  first_of (y ∷ ys) zero x items e = (omega arith, cc, cc)
  first_of (y ∷ ys) (suc k) x items e = let r = first_of ys k x items e in (omega arith, r.1, r.2)

  taken-after_take : (v : View T) (place : ℕ) (x : T) → taken (after_take v place x) ≡ taken v ++ (place, x) ∷ []
  taken-after_take (Owner puts got) place x = refl
  taken-after_take (Thief got) place x = refl

  thief_after : (v : View T) (place : ℕ) (x : T) → IsThief v → IsThief (after_take v place x)
  thief_after (Owner puts got) place x t = t
  thief_after (Thief got) place x t = tt

  thief_put : (v : View T) (place : ℕ) (x : T) → IsThief v → IsPut v place x
  thief_put (Owner puts got) place x t = absurd t
  thief_put (Thief got) place x t = tt

  abbrev pub Before : ℕ → ℕ × T → Type 0
  Before front e = e.0 < front

  abbrev pub IsAt : ℕ → ℕ × T → ℕ
  IsAt place e = cond (e.0 == place) 1 0

  -- No place below `front` is `front`.
  none_at : (es : List (ℕ × T)) (front : ℕ) → All (Before front) es → count_by (λ e. e.0 == front) es ≡ 0
  none_at [] front all = refl
  none_at (e ∷ es) front all =
      let here : e.0 < front = All-head (Before front) e es all in
      let rest : count_by (λ (x : ℕ × T). x.0 == front) es ≡ 0 = none_at es front (All-tail (Before front) e es all) in
      let no : IsAt front e ≡ 0 = grind (arith, nat_tests) in
      sum_by-cons (IsAt front) e es ∙ ap (λ (n : ℕ). n + count_by (λ (x : ℕ × T). x.0 == front) es) no ∙ zero-add _ ∙ rest

  counted_cases : (es : List (ℕ × T)) (front place : ℕ) → All (Before front) es → ((place : ℕ) → place < front → count_by (λ e. e.0 == place) es ≡ 1)
      → place < front + 1 → Dec (front ≡ place) → cond (front == place) 1 0 + count_by (λ (e : ℕ × T). e.0 == place) es ≡ 1
  counted_cases es front place below once less (yes same) =
      let none : count_by (λ (e : ℕ × T). e.0 == front) es ≡ 0 = none_at es front below in
      let none' : count_by (λ (e : ℕ × T). e.0 == place) es ≡ 0 = ap (λ (k : ℕ). count_by (λ (e : ℕ × T). e.0 == k) es) (sym same) ∙ none in
      let is : cond {A = ℕ} (front == place) 1 0 ≡ 1 = grind (arith, nat_tests) in omega arith
  counted_cases es front place below once less (no other) =
      let one : count_by (λ (e : ℕ × T). e.0 == place) es ≡ 1 = once place (omega arith) in
      let is : cond {A = ℕ} (front == place) 1 0 ≡ 0 = grind (arith, nat_tests) in omega arith

  counted : (es : List (ℕ × T)) (front : ℕ) (x : T) → All (Before front) es → ((place : ℕ) → place < front → count_by (λ e. e.0 == place) es ≡ 1)
      → (place : ℕ) → place < front + 1 → count_by (λ e. e.0 == place) ((front, x) ∷ es) ≡ 1
  counted es front x below once place less = sum_by-cons (IsAt place) (front, x) es ∙ counted_cases es front place below once less (ℕ_discrete front place)

  takes_at : (x : T) (items : List T) (views : List (View T)) (h : IsInOrder (x ∷ items) views) (port : ℕ) (v : View T) → get_elem? views port ≡ some v
      → Owned h.puts (set views port (after_take v h.front x)) → IsInOrder items (set views port (after_take v h.front x))
  takes_at x items views h port v at owned =
      let w : View T = after_take v h.front x in
      let on : suc h.front ≡ h.front + 1 = omega arith in
      let next = first_of h.puts h.front x items h.queued.1 in
      let more : IsPermutation ((h.front, x) ∷ all_taken views) (all_taken (set views port w)) =
      grows views port v w (h.front, x) at (taken-after_take v h.front x) in
      record {
        puts = h.puts;
        front = h.front + 1;
        owner = owned;
        queued = (omega (arith, next.0), next.1 ∙ ap (λ (k : ℕ). drop k h.puts) on);
        below = All-permutation (Before (h.front + 1)) _ _ more
            (All-cons (Before (h.front + 1)) (h.front, x) (all_taken views) (omega arith)
            (All-weaker (Before h.front) (Before (h.front + 1)) (λ e less. omega arith) _ h.below));
        once = λ place less. sum_by-IsPermutation (IsAt place) _ _ more ∙ counted (all_taken views) h.front x h.below h.once place less;
        matching =
            All-permutation (λ (e : ℕ × T). slice_get h.puts e.0 ≡ Some e.1) _ _ more
            (All-cons (λ (e : ℕ × T). slice_get h.puts e.0 ≡ Some e.1) (h.front, x) (all_taken views) next.2 h.matching);
      }

  owned_take : (puts : List T) (got : List (ℕ × T)) (others : List (View T)) (port : ℕ) (v : View T) (place : ℕ) (x : T) → All IsThief others
      → slice_get puts place ≡ Some x
      → get_elem? (Owner puts got ∷ others) port ≡ some v → Owned puts (set (Owner puts got ∷ others) port (after_take v place x)) × IsPut v place x
  owned_take puts got others zero v place x thieves is at =
      let same : Owner puts got ≡ v = some-injective (Owner puts got) v at in
      let P : View T → Type 0 = λ y. Owned puts (after_take y place x ∷ others) × IsPut y place x in
      subst P same ((got ++ (place, x) ∷ [], others, refl, thieves), is)
  owned_take puts got others (suc n) v place x thieves is at =
      let thief : IsThief v = all_at IsThief others n v thieves at in (
        (got, set others n (after_take v place x), refl, All-set IsThief others n (after_take v place x) (thief_after v place x thief) thieves),
        thief_put v place x thief,
      )

  -- Taking the first item keeps the rule, at any end.
  pub takes : (port : ℕ) (v : View T) → Takes IsInOrder port v 1 (steps.Takes v)
  takes port v [] items views some_left few h at = absurd (omega arith)
  takes port v (x ∷ y ∷ xs) items views some_left few h at = absurd (omega arith)
  takes port v (x ∷ []) items views some_left few h at =
      let w : View T = after_take v h.front x in
      let is : slice_get h.puts h.front ≡ Some x = (first_of h.puts h.front x items h.queued.1).2 in
      let P : List (View T) → Type 0 = λ vs. get_elem? vs port ≡ some v → Owned h.puts (set vs port w) × IsPut v h.front x in
      let o = subst P (sym h.owner.2) (owned_take h.puts h.owner.0 h.owner.1 port v h.front x h.owner.3 is) at in (
        w,
        takes_at x items views h port v at o.0,
        record {
          place = h.front;
          after = refl;
          later = mine (Before h.front) views port v h.below at;
          is_put = o.1;
          first = record { queue = items; views = views; port = port; at = at; state = h; place_is = refl };
        },
      )

  -- Adding an item by the first end keeps the rule.
  puts_first : (xs items : List T) (views : List (View T)) (h : IsInOrder items views) (v : View T) → get_elem? views 0 ≡ some v
      → IsInOrder (items ++ xs) (set views 0 (after_put v xs))
  puts_first xs items views h v at =
      let P : List (View T) → Type 0 = λ vs. get_elem? vs 0 ≡ some v → Owned (h.puts ++ xs) (set vs 0 (after_put v xs)) × (taken (after_put v xs) ≡ taken v) in
      let owned = λ (e : get_elem? (Owner h.puts h.owner.0 ∷ h.owner.1) 0 ≡ some v).
      let Q : View T → Type 0 = λ y. Owned (h.puts ++ xs) (after_put y xs ∷ h.owner.1) × (taken (after_put y xs) ≡ taken y) in
      subst Q (some-injective (Owner h.puts h.owner.0) v e) ((h.owner.0, h.owner.1, refl, h.owner.3), refl) in
      let o = subst P (sym h.owner.2) owned at in
      let same : all_taken (set views 0 (after_put v xs)) ≡ all_taken views = stays views 0 v (after_put v xs) at o.1 in record {
        puts = h.puts ++ xs;
        front = h.front;
        owner = o.0;
        queued = (omega (arith, h.queued.0, length-append h.puts xs), ap (λ l. l ++ xs) h.queued.1 ∙ sym (drop-append-le h.front h.puts xs h.queued.0));
        below = subst (All (Before h.front)) (sym same) h.below;
        once = λ place less. ap (λ (l : List (ℕ × T)). count_by (λ e. e.0 == place) l) same ∙ h.once place less;
        matching =
            subst (All (λ (e : ℕ × T). slice_get (h.puts ++ xs) e.0 ≡ Some e.1)) (sym same)
            (All-weaker (λ (e : ℕ × T). slice_get h.puts e.0 ≡ Some e.1) (λ (e : ℕ × T). slice_get (h.puts ++ xs) e.0 ≡ Some e.1)
            (λ e is. at_front h.puts xs e.0 e.1 is) _ h.matching);
      }

  pub puts : (port : ℕ) (v : View T) (xs : List T) → port ≡ 0 → Pushes IsInOrder port v xs (λ w. w ≡ after_put v xs)
  puts port v xs first items views h at =
      let P : ℕ → Type 0 = λ k. get_elem? views k ≡ some v → IsInOrder (items ++ xs) (set views k (after_put v xs)) in
      (after_put v xs, subst P (sym first) (puts_first xs items views h v) at, refl)

  -- A new end, which has taken nothing, keeps the rule.
  pub admits : Admits (IsInOrder {T = T}) (Thief [])
  admits items views h =
      let same : all_taken (views ++ Thief [] ∷ []) ≡ all_taken views = joins views in record {
        puts = h.puts;
        front = h.front;
        owner = (h.owner.0, h.owner.1 ++ Thief [] ∷ [], ap (λ l. l ++ Thief [] ∷ []) h.owner.2, All-push IsThief h.owner.1 (Thief []) h.owner.3 tt);
        queued = h.queued;
        below = subst (All (Before h.front)) (sym same) h.below;
        once = λ place less. ap (λ (l : List (ℕ × T)). count_by (λ e. e.0 == place) l) same ∙ h.once place less;
        matching = subst (All (λ (e : ℕ × T). slice_get h.puts e.0 ≡ Some e.1)) (sym same) h.matching;
      }

  -- Where the queue is empty, an end learns it.
  pub finds : (port : ℕ) (v : View T) → Finds IsInOrder port v (WasEmpty v)
  finds port v views h at = record { views = views; port = port; at = at; state = h }

  pub finds_few : (most port : ℕ) (v : View T) → most ≡ 0 → FindsFew IsInOrder most port v (WasEmpty v)
  finds_few most port v none [] views few h at = finds port v views h at
  finds_few most port v none (x ∷ items) views few h at = absurd (omega arith)

  -- The effect of a take of an owner's end on the hand.
  pub hand_takes : (deque deque' : ℕ × ℕ) (v w : View T) (puts : List T) (got : List (ℕ × T)) (x : T) → deque' ≡ deque → v ≡ Owner puts got → TakesFirst v x w
      → HandTakes (owner_state deque v) (owner_state deque' w) x
  hand_takes deque deque' v w puts got x same is t =
      let P : View T → Type 0 = λ y. TakesFirst y x w → HandTakes (owner_state deque y) (owner_state deque' w) x in
      subst P (sym is) (λ (s : TakesFirst (Owner puts got) x w). record {
        place = s.place;
        added = ap (λ (d : ℕ × ℕ). owner_state d w) same ∙ ap (owner_state deque) s.after;
        later = s.later;
        is_put = s.is_put;
        first = s.first;
      }) t

  pub hand_next : (r : Option T) (E : Type 0) (deque deque' : ℕ × ℕ) (v w : View T) (puts : List T) (got : List (ℕ × T)) (old : HandState T)
      → owner_state deque v ≡ old → deque' ≡ deque → v ≡ Owner puts got → MatchOption r E (λ x. TakesFirst v x w)
      → IfSome r (HandTakes old (owner_state deque' w))
  hand_next None E deque deque' v w puts got old seen same is m = tt
  hand_next (Some x) E deque deque' v w puts got old seen same is m =
      subst (λ (s : HandState T). HandTakes s (owner_state deque' w) x) seen (hand_takes deque deque' v w puts got x same is m)
