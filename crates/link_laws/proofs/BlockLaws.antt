-- Where each fact that can be made is known, none is missing.
use Rattle.link_laws.proofs.HeldLaws.{held_are_outlets, outlet_in, owner_in}
use Rattle.link_laws.proofs.KnownLaws.{each_known, is_there, so_at}
use Rattle.link_laws.proofs.PairLaws.{found_is}
use Rattle.link_laws.proofs.RuleLaws.{no_states_long, place_long}
use Rattle.link_laws.specs.Boards.{Agrees, Board, IsOn, IsSo, LacksNone, asked_of, before_limits, before_redo, before_trial, board_of, entry}
use Rattle.link_laws.specs.Boards.{said_where, seen_of}
use Rattle.link_laws.specs.Keeping.{IsPlace}
use Rattle.link_laws.specs.Laws.{AreWordsKnown}
use Rattle.link_laws.specs.Making.{held, held_outlets, is_held_by, is_own, is_undefined, no_states}
use Rattle.link_laws.specs.Progress.{AreLimitsKnown, AreRepliesKnown, CanBeMade}
use Rattle.link_laws.specs.declared.fact.Fact.{Fact}
use Rattle.link_laws.specs.declared.fact.Fact.TheVariants.{Limit, Reply, Word}
use Rattle.link_laws.specs.declared.fact.Seen.{Seen}
use Rattle.list_laws.proofs.Lists.{each_append, each_map, each_more}
use Rattle.list_laws.proofs.Members.{at_place}
use Rattle.run_laws.proofs.AssignmentLaws.{outlet_at, outlets_count}
use Rattle.run_laws.proofs.EquationLaws.{all_among, each_place}
use Rattle.std.proofs.Common.{ap, arith, inl, inr, refl, sym, ◌+◌, ◌<◌, ◌∙◌, ◌≤◌, ◌⊎◌}
use Rattle.std.proofs.lemmas.List.{length-map}
use Rattle.std.proofs.lemmas.Option.{slice_get-map}
use Rattle.std.proofs.lemmas.Slice.Zip.{AllZip-long, length-zip}
use Rattle.std.specs.List.{AllByRecursion, enumerate_from, flat_map, list_all, list_any}
use Rattle.std.specs.Option.{option_and_then, option_map}
use Rattle.std.specs.Prelude.{List, Option, Some, [], false, is_some, length, map, slice_get, suc, true, zero, zip, ℕ, ℤ, ◌&&◌, ◌++◌, ◌==◌}
use Rattle.std.specs.Prelude.{◌||◌, ◌∷◌, ◌≡◌}
use Rattle.unit_tree.specs.Compositions.{AreMembers, Composition, Member}
use Rattle.unit_tree.specs.Negotiation.{max_at, step_at}
use Rattle.unit_tree.specs.Ports.{IsOrderedAfter, IsPlaceOrder, Outlet, Standing, given_at, needs_at, outlets, outlets_of}
use Rattle.unit_tree.specs.Successor.{agreed, proposed, standings, steps_by, trial, when}
use Rattle.unit_tree.specs.Trace.{Stand}

within_map : {A B : Type 0} (f : A → Option B) (xs : List A) (place : ℕ) (one : B) → entry (map f xs) place ≡ Some one → place < length xs
within_map f [] place one is = absurd (cc)
within_map f (x ∷ xs) zero one is = omega arith
within_map f (x ∷ xs) (suc place) one is = let rest = within_map f xs place one is in omega (arith, rest)

module _ (run : Composition) (order : List ℕ) (is_order : IsPlaceOrder run order) (are : AreMembers run) (stand : Stand) (known : Board)
    (place : IsPlace run stand) (so : Agrees (board_of run stand) known)
    (all : (fact : Fact) → IsOn (board_of run stand) fact → CanBeMade run stand known fact → IsOn known fact) where
  abbrev board : Board
  board = board_of run stand

  abbrev outs : List Outlet
  outs = outlets run stand.at.states

  long : length stand.at.states ≡ length run.members
  long = place_long run order are is_order stand place

  -- ---- Words, in the order of places

  abbrev Known : ℕ → Type 0
  Known at = is_some (entry known.words at) ≡ true

  needs_known : (needs : List ℕ) → AllByRecursion Known needs → list_all (λ at. is_some (entry known.words at)) needs ≡ true
  needs_known [] are = refl
  needs_known (at ∷ needs) are = ap (λ one. one && list_all (λ other. is_some (entry known.words other)) needs) are.0 ∙ needs_known needs are.1

  known_next : (at : ℕ) (outlet : Outlet) → slice_get outs at ≡ Some outlet → AllByRecursion Known (needs_at run at) → Known at
  known_next at outlet there needs =
      ap is_some (all (Word 0 at (seen_of (given_at stand.ports outlet)))
      (ap (option_and_then (λ one. one)) (slice_get-map (λ (one : Outlet). Some (seen_of (given_at stand.ports one))) outs at
      ∙ ap (option_map (λ (one : Outlet). Some (seen_of (given_at stand.ports one)))) there))
      (ap (λ one. one || list_any (λ other. is_undefined (entry known.words other)) (needs_at run at)) (needs_known (needs_at run at) needs)))

  known_along : (before later : List ℕ) → IsOrderedAfter run before later → AllByRecursion Known before → AllByRecursion Known later
  known_along before [] ordered those = tt
  known_along before (at ∷ later) ordered those =
      let here = outlet_at run stand.at.states at long ordered.0 in
      let now = known_next at here.outlet here.is (all_among Known before (needs_at run at) those ordered.2) in
      (now, known_along (before ++ at ∷ []) later ordered.3 (each_more Known before at those now))

  word_known : (at : ℕ) (seen : Seen) → entry board.words at ≡ Some seen → entry known.words at ≡ Some seen
  word_known at seen on =
      let within = within_map (λ outlet. Some (seen_of (given_at stand.ports outlet))) outs at seen on in
      let told = is_there (entry known.words at) (each_place Known order at (known_along [] order is_order.ordered tt)
      (is_order.all at (omega (arith, within, outlets_count run stand.at.states long)))) in
      so_at board.words known.words at seen told.0 so.words on told.1

  -- ---- All kinds

  words_known : AreWordsKnown run stand known
  words_known = each_known board.words known.words (sym (AllZip-long IsSo board.words known.words so.words)) word_known

  limits_known : AreLimitsKnown run stand known
  limits_known = each_known board.limits known.limits (sym (AllZip-long IsSo board.limits known.limits so.limits))
      (λ instance asked on. all (Limit 0 instance asked) on words_known)

  replies_known : AreRepliesKnown run stand known
  replies_known = each_known board.replies known.replies (sym (AllZip-long IsSo board.replies known.replies so.replies))
      (λ instance said on. all (Reply 0 instance false said) on (words_known, limits_known))

  pub none_missing : LacksNone board known
  none_missing = record {
    words = words_known;
    limits = limits_known;
    replies = replies_known;
    redos = each_known board.redos known.redos (sym (AllZip-long IsSo board.redos known.redos so.redos))
        (λ instance said on. all (Reply 0 instance true said) on (words_known, limits_known, replies_known));
  }

-- ---- Each fact is of one of two nodes

owner_is : (owner : ℕ) → owner ≤ 1 → ((owner == 0) ≡ true) ⊎ ((owner == 1) ≡ true)
owner_is zero at_most = inl refl
owner_is (suc zero) at_most = inr refl
owner_is (suc (suc owner)) at_most = absurd (omega (arith, at_most))

module _ (run : Composition) (owners : List ℕ) (owns : length owners ≡ length run.members) (two : AllByRecursion (λ owner. owner ≤ 1) owners) where
  held_by_two : (from : ℕ) (few : List ℕ) (members : List Member) (states : List (List ℤ)) → AllByRecursion (λ owner. owner ≤ 1) few
      → AllByRecursion (λ (one : ℕ × Outlet). one.0 ≤ 1) (flat_map held_outlets (zip few (enumerate_from from (zip members states))))
  held_by_two from [] members states are = tt
  held_by_two from (owner ∷ few) [] states are = tt
  held_by_two from (owner ∷ few) (member ∷ members) [] are = tt
  held_by_two from (owner ∷ few) (member ∷ members) (state ∷ states) are =
      each_append (λ (one : ℕ × Outlet). one.0 ≤ 1) (held_outlets (owner, (from, (member, state))))
      (flat_map held_outlets (zip few (enumerate_from (from + 1) (zip members states))))
      (each_map (λ (one : ℕ × Outlet). one.0 ≤ 1) (λ outlet. (owner, outlet)) (outlets_of (from, (member, state))) (λ outlet. are.0))
      (held_by_two (from + 1) few members states are.1)

  by_owner : (found : Option ℕ) (owner : ℕ) → found ≡ Some owner → owner ≤ 1 → (is_held_by 0 found ≡ true) ⊎ (is_held_by 1 found ≡ true)
  by_owner found owner is at_most = elim (owner_is owner at_most) [
    | inl first ↦ inl (ap (is_held_by 0) is ∙ first)
    | inr second ↦ inr (ap (is_held_by 1) is ∙ second)
  ]

  instance_owned : (instance : ℕ) → instance < length owners
      → (is_held_by 0 (slice_get owners instance) ≡ true) ⊎ (is_held_by 1 (slice_get owners instance) ≡ true)
  instance_owned instance within =
      let one = at_place owners instance within in
      by_owner (slice_get owners instance) one.0 one.1 (found_is (λ owner. owner ≤ 1) owners instance one.0 two one.1)

  module _ (stand : Stand) (long : length stand.at.states ≡ length run.members) where
    place_owned : (place : ℕ) → place < length (outlets run stand.at.states)
        → (is_held_by 0 (option_map owner_in (slice_get (held run owners (no_states run)) place)) ≡ true)
        ⊎ (is_held_by 1 (option_map owner_in (slice_get (held run owners (no_states run)) place)) ≡ true)
    place_owned place within =
        let no_long = no_states_long run.members in
        let as_many : length (outlets run (no_states run)) ≡ length (held run owners (no_states run)) =
        ap length (sym (held_are_outlets run owners (no_states run) owns no_long)) ∙ length-map (held run owners (no_states run)) outlet_in in
        let one = at_place (held run owners (no_states run)) place
        (omega (arith, within, as_many, outlets_count run stand.at.states long, outlets_count run (no_states run) no_long)) in
        by_owner (option_map owner_in (slice_get (held run owners (no_states run)) place)) one.0.0 (ap (option_map owner_in) one.1)
        (found_is (λ (item : ℕ × Outlet). item.0 ≤ 1) (held run owners (no_states run)) place one.0
        (held_by_two 0 owners run.members (no_states run) two) one.1)

    standing_within : (instance : ℕ) → instance < length (standings run stand.at) → instance < length owners
    standing_within instance within = omega (arith, within, length-zip run.members stand.at.states, owns, long)

    step_within : {A : Type 0} (step : Standing → A) (instance : ℕ) → instance < length (map step (standings run stand.at)) → instance < length owners
    step_within step instance within = standing_within instance (omega (arith, within, length-map (standings run stand.at) step))

    pub fact_owned : (fact : Fact) → IsOn (board_of run stand) fact → (is_own run owners 0 fact ≡ true) ⊎ (is_own run owners 1 fact ≡ true)
    fact_owned (Word row place seen) on =
        place_owned place (within_map (λ outlet. Some (seen_of (given_at stand.ports outlet))) (outlets run stand.at.states) place seen on)
    fact_owned (Limit row instance asked) on =
        instance_owned instance (standing_within instance
        (within_map (λ standing. when (before_limits run stand) (asked_of (max_at stand.at.point.t stand.ports standing))) (standings run stand.at) instance asked on))
    fact_owned (Reply row instance false said) on =
        instance_owned instance (step_within (step_at stand.at.point.t (proposed run stand.at stand.ports) stand.ports) instance
        (within_map (said_where (before_trial run stand)) (trial run stand.at stand.ports) instance said on))
    fact_owned (Reply row instance true said) on =
        instance_owned instance (step_within (step_at stand.at.point.t (agreed run stand.at stand.ports) stand.ports) instance
        (within_map (said_where (before_redo run stand)) (steps_by run stand.at stand.ports (agreed run stand.at stand.ports)) instance said on))
