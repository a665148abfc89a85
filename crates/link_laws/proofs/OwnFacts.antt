-- A pass over the outputs, or over the instances, makes each fact of the node's own.
use Rattle.link_laws.proofs.KnownLaws.{Grows, each_reaches, each_stays, grows_not, grows_on, has_counted, is_there, set_grows, set_is}
use Rattle.link_laws.proofs.NeedsLaws.{needs_determine}
use Rattle.link_laws.proofs.PassLaws.{passes_close}
use Rattle.link_laws.specs.Boards.{asked_of, entry, said_of}
use Rattle.link_laws.specs.Making.{determined, each, held, is_undefined, passes, put_said, put_word, with_limit, with_made, with_said, with_word, words_made}
use Rattle.link_laws.specs.Nodes.{Making}
use Rattle.link_laws.specs.Progress.{are_needs_known}
use Rattle.link_laws.specs.declared.fact.Asked.{Asked}
use Rattle.link_laws.specs.declared.fact.Fact.TheVariants.{Limit}
use Rattle.link_laws.specs.declared.fact.Said.{Said}
use Rattle.link_laws.specs.declared.fact.Seen.{Seen}
use Rattle.list_laws.proofs.Members.{Has}
use Rattle.run_laws.proofs.AssignmentLaws.{needs_of}
use Rattle.std.proofs.Common.{ap, arith, refl, subst, ◌<◌, ◌∙◌}
use Rattle.std.proofs.lemmas.Bool.{and_parts}
use Rattle.std.proofs.lemmas.Option.{slice_get_within}
use Rattle.std.specs.List.{enumerate_from, list_all, list_any}
use Rattle.std.specs.Option.{option_map}
use Rattle.std.specs.Prelude.{Bool, List, None, Option, Some, [], false, if◌then◌else◌, is_none, is_some, length, slice_get, suc, true, zero, ℕ}
use Rattle.std.specs.Prelude.{◌&&◌, ◌==◌, ◌||◌, ◌∷◌, ◌≡◌}
use Rattle.unit_tree.specs.Compositions.{Composition}
use Rattle.unit_tree.specs.Negotiation.{max_at, step_at}
use Rattle.unit_tree.specs.Ports.{Outlet, Ports, Standing}
use Rattle.unit_tree.specs.Successor.{Position}

-- ---- Words

module _ (me number : ℕ) where
  pub word_grows : (making : Making) (item : ℕ × (ℕ × Outlet)) → Grows making.known.words (with_word me number making item).known.words
  word_grows making (place, (owner, outlet)) = by_test (owner == me) (entry making.known.words place) refl
    where
      put_grows : (found : Option Seen) → is_none (entry making.known.words place) ≡ true
          → Grows making.known.words (put_word number place found making).known.words
      put_grows None none = grows_not making.known.words
      put_grows (Some seen) none = set_grows making.known.words place seen none

      by_test : (own : Bool) (found : Option Seen) → entry making.known.words place ≡ found
          → Grows making.known.words (if own && is_none found then put_word number place (determined making.known.words outlet) making else making).known.words
      by_test false found is = grows_not making.known.words
      by_test true (Some seen) is = grows_not making.known.words
      by_test true None is = put_grows (determined making.known.words outlet) (ap is_none is)

  -- An output of the node's own is known after its turn, where its needs are known.
  pub word_made : (making : Making) (place owner : ℕ) (outlet : Outlet) → (owner == me) ≡ true → place < length making.known.words
      → are_needs_known making.known.words (needs_of outlet) ≡ true
      → is_some (entry (with_word me number making (place, (owner, outlet))).known.words place) ≡ true
  word_made making place owner outlet own within known = by_test (owner == me) (entry making.known.words place) own refl
    where
      put_made : (found : Option Seen) (seen : Seen) → found ≡ Some seen → is_some (entry (put_word number place found making).known.words place) ≡ true
      put_made None seen is = absurd (cc)
      put_made (Some one) seen is = ap is_some (set_is making.known.words place one within)

      by_test : (mine : Bool) (found : Option Seen) → mine ≡ true → entry making.known.words place ≡ found
          → is_some (entry (if mine && is_none found then put_word number place (determined making.known.words outlet) making else making).known.words place) ≡ true
      by_test false found mine is = absurd (cc)
      by_test true (Some seen) mine is = ap is_some is
      by_test true None mine is =
          let told = needs_determine making.known.words outlet known in
          put_made (determined making.known.words outlet) told.0 told.1

-- ---- Needs that are known stay known

some_stays : {A : Type 0} (old new : List (Option A)) (place : ℕ) → Grows old new → is_some (entry old place) ≡ true → is_some (entry new place) ≡ true
some_stays old new place grows is =
    let told = is_there (entry old place) is in
    ap is_some (grows.stays place told.0 told.1)

module _ (old new : List (Option Seen)) (grows : Grows old new) where
  undefined_stays : (place : ℕ) (found : Option Seen) → entry old place ≡ found → is_undefined found ≡ true → is_undefined (entry new place) ≡ true
  undefined_stays place None is undefined = absurd (cc)
  undefined_stays place (Some seen) is undefined = ap is_undefined (grows.stays place seen is) ∙ undefined

  all_stay : (needs : List ℕ) → list_all (λ place. is_some (entry old place)) needs ≡ true → list_all (λ place. is_some (entry new place)) needs ≡ true
  all_stay [] are = refl
  all_stay (place ∷ needs) are =
      let both = and_parts (is_some (entry old place)) (list_all (λ one. is_some (entry old one)) needs) are in
      ap (λ one. one && list_all (λ other. is_some (entry new other)) needs) (some_stays old new place grows both.0) ∙ all_stay needs both.1

  or_true : (one other : Bool) (P : Type 0) → (one || other) ≡ true → (one ≡ true → P) → (other ≡ true → P) → P
  or_true true other P is first second = first refl
  or_true false other P is first second = second is

  or_second : (one : Bool) → (one || true) ≡ true
  or_second true = refl
  or_second false = refl

  any_stays : (needs : List ℕ) → list_any (λ place. is_undefined (entry old place)) needs ≡ true
      → list_any (λ place. is_undefined (entry new place)) needs ≡ true
  any_stays [] are = absurd (cc)
  any_stays (place ∷ needs) are =
      or_true (is_undefined (entry old place)) (list_any (λ one. is_undefined (entry old one)) needs)
      (list_any (λ one. is_undefined (entry new one)) (place ∷ needs) ≡ true) are
      (λ first. ap (λ one. one || list_any (λ other. is_undefined (entry new other)) needs) (undefined_stays place (entry old place) refl first))
      (λ later. ap (λ one. is_undefined (entry new place) || one) (any_stays needs later) ∙ or_second (is_undefined (entry new place)))

  needs_stay : (needs : List ℕ) → are_needs_known old needs ≡ true → are_needs_known new needs ≡ true
  needs_stay needs are =
      or_true (list_all (λ place. is_some (entry old place)) needs) (list_any (λ place. is_undefined (entry old place)) needs)
      (are_needs_known new needs ≡ true) are
      (λ all. ap (λ one. one || list_any (λ place. is_undefined (entry new place)) needs) (all_stay needs all))
      (λ any. ap (λ one. list_all (λ place. is_some (entry new place)) needs || one) (any_stays needs any)
      ∙ or_second (list_all (λ place. is_some (entry new place)) needs))

-- ---- All passes

module _ (run : Composition) (owners : List ℕ) (me : ℕ) (at : Position) where
  abbrev items : List (ℕ × (ℕ × Outlet))
  items = enumerate_from 0 (held run owners at.states)

  passes_grow : (more : ℕ) (making : Making) → Grows making.known.words (passes me at.number items more making).known.words
  passes_grow zero making = grows_not making.known.words
  passes_grow (suc more) making =
      let next = each (with_word me at.number) making items in
      let one : Grows making.known.words next.known.words =
      each_stays (λ (other : Making). Grows making.known.words other.known.words) (with_word me at.number) items making
      (λ other item grows. grows_on making.known.words other.known.words (with_word me at.number other item).known.words grows
      (word_grows me at.number other item))
      (grows_not making.known.words) in
      grows_on making.known.words next.known.words (passes me at.number items more next).known.words one (passes_grow more next)

  -- An output of the node's own whose needs are known is known.
  pub words_are_made : (making : Making) (place owner : ℕ) (outlet : Outlet) → length making.known.words ≡ length (held run owners at.states)
      → slice_get (held run owners at.states) place ≡ Some (owner, outlet) → (owner == me) ≡ true
      → are_needs_known (words_made run owners me at making).known.words (needs_of outlet) ≡ true
      → is_some (entry (words_made run owners me at making).known.words place) ≡ true
  words_are_made making place owner outlet long there own known =
      let one = words_made run owners me at making in
      let grown : Grows making.known.words one.known.words = passes_grow (length (held run owners at.states)) making in
      subst (λ (other : Making). is_some (entry other.known.words place) ≡ true) (passes_close run owners me at making long)
      (each_reaches (λ (other : Making). Grows one.known.words other.known.words) (λ (other : Making). is_some (entry other.known.words place) ≡ true)
      (with_word me at.number) items one (place, (owner, outlet))
      (λ other item grows. grows_on one.known.words other.known.words (with_word me at.number other item).known.words grows
      (word_grows me at.number other item))
      (λ other item is. some_stays other.known.words (with_word me at.number other item).known.words place (word_grows me at.number other item) is)
      (λ other grows. word_made me at.number other place owner outlet own
      (omega (arith, slice_get_within (held run owners at.states) place (owner, outlet) there, grows.long, grown.long, long))
      (needs_stay one.known.words other.known.words grows (needs_of outlet) known))
      (has_counted (held run owners at.states) 0 place place (owner, outlet) (omega arith) there)
      (grows_not one.known.words))

-- ---- Limits

module _ (me : ℕ) (at : Position) (ports : Ports) where
  limit_grows : (making : Making) (item : ℕ × (ℕ × Standing)) → Grows making.known.limits (with_limit me at ports making item).known.limits
  limit_grows making (instance, (owner, standing)) = by_test (owner == me) (entry making.known.limits instance) refl
    where
      by_test : (own : Bool) (found : Option Asked) → entry making.known.limits instance ≡ found → Grows making.known.limits
          (if own && is_none found then with_made (Limit at.number instance (asked_of (max_at at.point.t ports standing))) making else making).known.limits
      by_test false found is = grows_not making.known.limits
      by_test true (Some asked) is = grows_not making.known.limits
      by_test true None is = set_grows making.known.limits instance (asked_of (max_at at.point.t ports standing)) (ap is_none is)

  limit_made : (making : Making) (instance owner : ℕ) (standing : Standing) → (owner == me) ≡ true → instance < length making.known.limits
      → is_some (entry (with_limit me at ports making (instance, (owner, standing))).known.limits instance) ≡ true
  limit_made making instance owner standing own within = by_test (owner == me) (entry making.known.limits instance) own refl
    where
      by_test : (mine : Bool) (found : Option Asked) → mine ≡ true → entry making.known.limits instance ≡ found
          → is_some (entry (if mine && is_none found then with_made (Limit at.number instance (asked_of (max_at at.point.t ports standing))) making
          else making).known.limits instance) ≡ true
      by_test false found mine is = absurd (cc)
      by_test true (Some asked) mine is = ap is_some is
      by_test true None mine is = ap is_some (set_is making.known.limits instance (asked_of (max_at at.point.t ports standing)) within)

  pub limits_are_made : (items : List (ℕ × (ℕ × Standing))) (making : Making) (instance owner : ℕ) (standing : Standing)
      → instance < length making.known.limits → (owner == me) ≡ true → Has items (instance, (owner, standing))
      → is_some (entry (each (with_limit me at ports) making items).known.limits instance) ≡ true
  limits_are_made items making instance owner standing within own has =
      each_reaches (λ (other : Making). instance < length other.known.limits) (λ (other : Making). is_some (entry other.known.limits instance) ≡ true)
      (with_limit me at ports) items making (instance, (owner, standing))
      (λ other item is. let grows = limit_grows other item in omega (arith, is, grows.long))
      (λ other item is. some_stays other.known.limits (with_limit me at ports other item).known.limits instance (limit_grows other item) is)
      (λ other is. limit_made other instance owner standing own is) has within

-- ---- Replies, in the trial and in the redo

module _ (me : ℕ) (at : Position) (ports : Ports) (h : ℕ) where
  reply_grows : (making : Making) (item : ℕ × (ℕ × Standing)) → Grows making.known.replies (with_said false me at ports h making item).known.replies
  reply_grows making (instance, (owner, standing)) = by_test (owner == me) (entry making.known.replies instance) refl
    where
      put_grows : (found : Option Said) → is_none (entry making.known.replies instance) ≡ true
          → Grows making.known.replies (put_said false at.number instance found making).known.replies
      put_grows None none = grows_not making.known.replies
      put_grows (Some said) none = set_grows making.known.replies instance said none

      by_test : (own : Bool) (found : Option Said) → entry making.known.replies instance ≡ found → Grows making.known.replies
          (if own && is_none found then put_said false at.number instance (option_map said_of (step_at at.point.t h ports standing)) making
          else making).known.replies
      by_test false found is = grows_not making.known.replies
      by_test true (Some said) is = grows_not making.known.replies
      by_test true None is = put_grows (option_map said_of (step_at at.point.t h ports standing)) (ap is_none is)

  reply_made : (making : Making) (instance owner : ℕ) (standing : Standing) (said : Said) → (owner == me) ≡ true → instance < length making.known.replies
      → option_map said_of (step_at at.point.t h ports standing) ≡ Some said
      → is_some (entry (with_said false me at ports h making (instance, (owner, standing))).known.replies instance) ≡ true
  reply_made making instance owner standing said own within there = by_test (owner == me) (entry making.known.replies instance) own refl
    where
      by_test : (mine : Bool) (found : Option Said) → mine ≡ true → entry making.known.replies instance ≡ found
          → is_some (entry (if mine && is_none found
          then put_said false at.number instance (option_map said_of (step_at at.point.t h ports standing)) making else making).known.replies instance) ≡ true
      by_test false found mine is = absurd (cc)
      by_test true (Some one) mine is = ap is_some is
      by_test true None mine is =
          ap (λ found. is_some (entry (put_said false at.number instance found making).known.replies instance)) there
          ∙ ap is_some (set_is making.known.replies instance said within)

  pub replies_are_made : (items : List (ℕ × (ℕ × Standing))) (making : Making) (instance owner : ℕ) (standing : Standing) (said : Said)
      → instance < length making.known.replies → (owner == me) ≡ true → option_map said_of (step_at at.point.t h ports standing) ≡ Some said
      → Has items (instance, (owner, standing)) → is_some (entry (each (with_said false me at ports h) making items).known.replies instance) ≡ true
  replies_are_made items making instance owner standing said within own there has =
      each_reaches (λ (other : Making). instance < length other.known.replies) (λ (other : Making). is_some (entry other.known.replies instance) ≡ true)
      (with_said false me at ports h) items making (instance, (owner, standing))
      (λ other item is. let grows = reply_grows other item in omega (arith, is, grows.long))
      (λ other item is. some_stays other.known.replies (with_said false me at ports h other item).known.replies instance (reply_grows other item) is)
      (λ other is. reply_made other instance owner standing said own is there) has within

  redo_grows : (making : Making) (item : ℕ × (ℕ × Standing)) → Grows making.known.redos (with_said true me at ports h making item).known.redos
  redo_grows making (instance, (owner, standing)) = by_test (owner == me) (entry making.known.redos instance) refl
    where
      put_grows : (found : Option Said) → is_none (entry making.known.redos instance) ≡ true
          → Grows making.known.redos (put_said true at.number instance found making).known.redos
      put_grows None none = grows_not making.known.redos
      put_grows (Some said) none = set_grows making.known.redos instance said none

      by_test : (own : Bool) (found : Option Said) → entry making.known.redos instance ≡ found → Grows making.known.redos
          (if own && is_none found then put_said true at.number instance (option_map said_of (step_at at.point.t h ports standing)) making
          else making).known.redos
      by_test false found is = grows_not making.known.redos
      by_test true (Some said) is = grows_not making.known.redos
      by_test true None is = put_grows (option_map said_of (step_at at.point.t h ports standing)) (ap is_none is)

  redo_made : (making : Making) (instance owner : ℕ) (standing : Standing) (said : Said) → (owner == me) ≡ true → instance < length making.known.redos
      → option_map said_of (step_at at.point.t h ports standing) ≡ Some said
      → is_some (entry (with_said true me at ports h making (instance, (owner, standing))).known.redos instance) ≡ true
  redo_made making instance owner standing said own within there = by_test (owner == me) (entry making.known.redos instance) own refl
    where
      by_test : (mine : Bool) (found : Option Said) → mine ≡ true → entry making.known.redos instance ≡ found
          → is_some (entry (if mine && is_none found
          then put_said true at.number instance (option_map said_of (step_at at.point.t h ports standing)) making else making).known.redos instance) ≡ true
      by_test false found mine is = absurd (cc)
      by_test true (Some one) mine is = ap is_some is
      by_test true None mine is =
          ap (λ found. is_some (entry (put_said true at.number instance found making).known.redos instance)) there
          ∙ ap is_some (set_is making.known.redos instance said within)

  pub redos_are_made : (items : List (ℕ × (ℕ × Standing))) (making : Making) (instance owner : ℕ) (standing : Standing) (said : Said)
      → instance < length making.known.redos → (owner == me) ≡ true → option_map said_of (step_at at.point.t h ports standing) ≡ Some said
      → Has items (instance, (owner, standing)) → is_some (entry (each (with_said true me at ports h) making items).known.redos instance) ≡ true
  redos_are_made items making instance owner standing said within own there has =
      each_reaches (λ (other : Making). instance < length other.known.redos) (λ (other : Making). is_some (entry other.known.redos instance) ≡ true)
      (with_said true me at ports h) items making (instance, (owner, standing))
      (λ other item is. let grows = redo_grows other item in omega (arith, is, grows.long))
      (λ other item is. some_stays other.known.redos (with_said true me at ports h other item).known.redos instance (redo_grows other item) is)
      (λ other is. redo_made other instance owner standing said own is there) has within

-- ---- The other lists stay

module _ (me : ℕ) (at : Position) (ports : Ports) where
  pub limit_same : (making : Making) (item : ℕ × (ℕ × Standing)) → (with_limit me at ports making item).known.words ≡ making.known.words
  limit_same making (instance, (owner, standing)) = by_test ((owner == me) && is_none (entry making.known.limits instance))
    where
      by_test : (test : Bool) → (if test then with_made (Limit at.number instance (asked_of (max_at at.point.t ports standing))) making else making).known.words
          ≡ making.known.words
      by_test false = refl
      by_test true = refl

  module _ (h : ℕ) where
    pub reply_same : (making : Making) (item : ℕ × (ℕ × Standing)) → ((with_said false me at ports h making item).known.words ≡ making.known.words)
        × ((with_said false me at ports h making item).known.limits ≡ making.known.limits)
    reply_same making (instance, (owner, standing)) =
        by_test ((owner == me) && is_none (entry making.known.replies instance)) (option_map said_of (step_at at.point.t h ports standing))
      where
        by_test : (test : Bool) (found : Option Said)
            → ((if test then put_said false at.number instance found making else making).known.words ≡ making.known.words)
            × ((if test then put_said false at.number instance found making else making).known.limits ≡ making.known.limits)
        by_test false found = (refl, refl)
        by_test true None = (refl, refl)
        by_test true (Some said) = (refl, refl)

    pub redo_same : (making : Making) (item : ℕ × (ℕ × Standing)) → ((with_said true me at ports h making item).known.words ≡ making.known.words)
        × ((with_said true me at ports h making item).known.limits ≡ making.known.limits)
        × ((with_said true me at ports h making item).known.replies ≡ making.known.replies)
    redo_same making (instance, (owner, standing)) =
        by_test ((owner == me) && is_none (entry making.known.redos instance)) (option_map said_of (step_at at.point.t h ports standing))
      where
        by_test : (test : Bool) (found : Option Said)
            → ((if test then put_said true at.number instance found making else making).known.words ≡ making.known.words)
            × ((if test then put_said true at.number instance found making else making).known.limits ≡ making.known.limits)
            × ((if test then put_said true at.number instance found making else making).known.replies ≡ making.known.replies)
        by_test false found = (refl, refl, refl)
        by_test true None = (refl, refl, refl)
        by_test true (Some said) = (refl, refl, refl)
