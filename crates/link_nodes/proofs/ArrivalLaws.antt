-- Facts that are sent, and what arrives.
use Rattle.std.proofs.Common.{◌≡◌, ◌∙◌, ℕ, ◌+◌, Bool, true, false, cond, List, [], ◌∷◌, ◌++◌, length, map}
use Rattle.std.proofs.Common.{Some, refl, sym, ap, subst, arith, append_assoc, length-append}
use Rattle.std.proofs.lemmas.Grind.{reverse_onto}
use Rattle.std.proofs.lemmas.List.{map-append}
use Rattle.std.specs.Prelude.{reverse, slice_get}
use Rattle.std.specs.List.{AllByRecursion, enumerate_from, filter, flat_map}
use Rattle.link_laws.specs.Nodes.{Rule, taken}
use Rattle.link_laws.specs.Pairs.{Pair, after_events, delivered, event_step}
use Rattle.link_laws.specs.declared.fact.Fact.{Fact}
use Rattle.link_laws.specs.declared.pair_event.PairEvent.TheVariants.{Deliver}
use Rattle.link_nodes.specs.Rounds.{arrivals, is_sent, numbered_sent}
use Rattle.link_nodes.specs.ShownRows.{taken_all, taken_twice}
use Rattle.list_laws.proofs.Lists.{each_append}
use Rattle.list_laws.proofs.Members.{at_seam}

-- ---- Numbered facts

abbrev pub fact_of : ℕ × Fact → Fact
fact_of one = one.1

abbrev pub IsListed : List Fact → ℕ × Fact → Type 0
IsListed facts one = slice_get facts one.0 ≡ Some one.1

numbered_listed : (from : ℕ) (front facts : List Fact) → from ≡ length front → AllByRecursion (IsListed (front ++ facts)) (enumerate_from from facts)
numbered_listed from front [] at = tt
numbered_listed from front (fact ∷ facts) at = (
  ap (slice_get (front ++ fact ∷ facts)) at ∙ at_seam front fact facts,
  subst (λ all. AllByRecursion (IsListed all) (enumerate_from (from + 1) facts)) (append_assoc front (fact ∷ []) facts)
      (numbered_listed (from + 1) (front ++ fact ∷ []) facts (omega (arith, at, length-append front (fact ∷ [])))),
)

filter_by : {A : Type 0} (P : A → Type 0) (told : Bool) (x : A) (xs : List A) → P x → AllByRecursion P xs → AllByRecursion P (cond told (x ∷ xs) xs)
filter_by P true x xs one are = (one, are)
filter_by P false x xs one are = are

filtered : {A : Type 0} (P : A → Type 0) (test : A → Bool) (xs : List A) → AllByRecursion P xs → AllByRecursion P (filter test xs)
filtered P test [] are = tt
filtered P test (x ∷ xs) are = filter_by P (test x) x (filter test xs) are.0 (filtered P test xs are.1)

reversed : {A : Type 0} (P : A → Type 0) (xs : List A) → AllByRecursion P xs → AllByRecursion P (reverse xs)
reversed P [] are = tt
reversed P (x ∷ xs) are = subst (AllByRecursion P) (sym (reverse_onto xs x [])) (each_append P (reverse xs) (x ∷ []) (reversed P xs are.1) (are.0, tt))

pub reverse_map : {A B : Type 0} (f : A → B) (xs : List A) → map f (reverse xs) ≡ reverse (map f xs)
reverse_map f [] = refl
reverse_map f (x ∷ xs) = ap (map f) (reverse_onto xs x []) ∙ map-append f (reverse xs) (x ∷ []) ∙ ap (λ all. all ++ f x ∷ []) (reverse_map f xs)
    ∙ sym (reverse_onto (map f xs) (f x) [])

-- ---- What arrives

module _ (rule : Rule) where
  first_by : (pair : Pair) (numbered : List (ℕ × Fact)) → AllByRecursion (IsListed pair.second.facts) numbered
      → after_events rule pair (flat_map (λ (one : ℕ × Fact).
      Deliver 0 one.0 ∷ Deliver 0 one.0 ∷ []) numbered) ≡ record pair { first = taken_all rule 0 pair.first (map fact_of numbered) }
  first_by pair [] are = refl
  first_by pair (one ∷ numbered) are =
      let once : (event_step rule pair (Deliver 0 one.0)).0 ≡ record pair { first = (taken rule 0 pair.first one.1).0 } = by_found pair one are.0 in
      let then = record pair { first = (taken rule 0 pair.first one.1).0 } in
      let twice : (event_step rule then (Deliver 0 one.0)).0 ≡ record pair { first = taken_twice rule 0 pair.first one.1 } = by_found then one are.0 in
      ap (λ (now : Pair). after_events rule (event_step rule now (Deliver 0 one.0)).0
      (flat_map (λ (item : ℕ × Fact). Deliver 0 item.0 ∷ Deliver 0 item.0 ∷ []) numbered)) once
      ∙ ap (λ now. after_events rule now (flat_map (λ (item : ℕ × Fact). Deliver 0 item.0 ∷ Deliver 0 item.0 ∷ []) numbered)) twice
      ∙ first_by (record pair { first = taken_twice rule 0 pair.first one.1 }) numbered are.1
    where
      by_found : (pair : Pair) (one : ℕ × Fact) → IsListed pair.second.facts one
          → (event_step rule pair (Deliver 0 one.0)).0 ≡ record pair { first = (taken rule 0 pair.first one.1).0 }
      by_found pair one is = ap (λ found. record pair { first = (delivered rule 0 pair.first found).0 }) is

  second_by : (pair : Pair) (numbered : List (ℕ × Fact)) → AllByRecursion (IsListed pair.first.facts) numbered
      → after_events rule pair (flat_map (λ (one : ℕ × Fact).
      Deliver 1 one.0 ∷ Deliver 1 one.0 ∷ []) numbered) ≡ record pair { second = taken_all rule 1 pair.second (map fact_of numbered) }
  second_by pair [] are = refl
  second_by pair (one ∷ numbered) are =
      let once : (event_step rule pair (Deliver 1 one.0)).0 ≡ record pair { second = (taken rule 1 pair.second one.1).0 } = by_found pair one are.0 in
      let then = record pair { second = (taken rule 1 pair.second one.1).0 } in
      let twice : (event_step rule then (Deliver 1 one.0)).0 ≡ record pair { second = taken_twice rule 1 pair.second one.1 } = by_found then one are.0 in
      ap (λ (now : Pair). after_events rule (event_step rule now (Deliver 1 one.0)).0
      (flat_map (λ (item : ℕ × Fact). Deliver 1 item.0 ∷ Deliver 1 item.0 ∷ []) numbered)) once
      ∙ ap (λ now. after_events rule now (flat_map (λ (item : ℕ × Fact). Deliver 1 item.0 ∷ Deliver 1 item.0 ∷ []) numbered)) twice
      ∙ second_by (record pair { second = taken_twice rule 1 pair.second one.1 }) numbered are.1
    where
      by_found : (pair : Pair) (one : ℕ × Fact) → IsListed pair.first.facts one
          → (event_step rule pair (Deliver 1 one.0)).0 ≡ record pair { second = (taken rule 1 pair.second one.1).0 }
      by_found pair one is = ap (λ found. record pair { second = (delivered rule 1 pair.second found).0 }) is

  module _ (seed k : ℕ) (pair : Pair) where
    sent_listed : (row : ℕ) (facts : List Fact) → AllByRecursion (IsListed facts) (reverse (numbered_sent seed k row facts))
    sent_listed row facts = reversed (IsListed facts) (numbered_sent seed k row facts)
        (filtered (IsListed facts) (is_sent seed k row) (enumerate_from 0 facts) (numbered_listed 0 [] facts refl))

    pub first_told : (transit : List Fact) → transit ≡ map fact_of (numbered_sent seed k pair.first.at.number pair.second.facts)
        → after_events rule pair (arrivals 0 (numbered_sent seed k pair.first.at.number pair.second.facts)) ≡ record pair {
          first = taken_all rule 0 pair.first
              (reverse transit);
        }
    first_told transit is =
        let sent = numbered_sent seed k pair.first.at.number pair.second.facts in
        first_by pair (reverse sent) (sent_listed pair.first.at.number pair.second.facts)
        ∙ ap (λ facts. record pair { first = taken_all rule 0 pair.first facts }) (reverse_map fact_of sent ∙ ap reverse (sym is))

    pub second_told : (transit : List Fact) → transit ≡ map fact_of (numbered_sent seed k pair.second.at.number pair.first.facts)
        → after_events rule pair
        (arrivals 1 (numbered_sent seed k pair.second.at.number pair.first.facts)) ≡ record pair { second = taken_all rule 1 pair.second (reverse transit) }
    second_told transit is =
        let sent = numbered_sent seed k pair.second.at.number pair.first.facts in
        second_by pair (reverse sent) (sent_listed pair.second.at.number pair.first.facts)
        ∙ ap (λ facts. record pair { second = taken_all rule 1 pair.second facts }) (reverse_map fact_of sent ∙ ap reverse (sym is))

-- Facts that are sent are of the list.
numbered_each : (P : Fact → Type 0) (from : ℕ) (facts : List Fact) → AllByRecursion P facts
    → AllByRecursion (λ (one : ℕ × Fact). P one.1) (enumerate_from from facts)
numbered_each P from [] are = tt
numbered_each P from (fact ∷ facts) are = (are.0, numbered_each P (from + 1) facts are.1)

mapped_each : (P : Fact → Type 0) (numbered : List (ℕ × Fact)) → AllByRecursion (λ (one : ℕ × Fact). P one.1) numbered → AllByRecursion P (map fact_of numbered)
mapped_each P [] are = tt
mapped_each P (one ∷ numbered) are = (are.0, mapped_each P numbered are.1)

pub sent_each : (P : Fact → Type 0) (seed k row : ℕ) (facts : List Fact) → AllByRecursion P facts
    → AllByRecursion P (map fact_of (numbered_sent seed k row facts))
sent_each P seed k row facts are = mapped_each P (numbered_sent seed k row facts)
    (filtered (λ (one : ℕ × Fact). P one.1) (is_sent seed k row) (enumerate_from 0 facts) (numbered_each P 0 facts are))
