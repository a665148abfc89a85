-- A node lists what it makes: new facts of its own.
use Rattle.link_laws.proofs.HeldLaws.{owner_in, owners_are}
use Rattle.link_laws.proofs.RuleLaws.{IsAtPlace, each_keeps, no_states_long, placed}
use Rattle.link_laws.specs.Boards.{Board, asked_of, entry, said_of}
use Rattle.link_laws.specs.Making.{determined, each, held, held_standings, is_held_by, is_own, limits_by, limits_made, made, no_states, passes}
use Rattle.link_laws.specs.Making.{ports_in, put_said, put_word, redos_by, replies_by, replies_made, rule_of, stage_at, with_limit, with_made}
use Rattle.link_laws.specs.Making.{with_said, with_word, words_made}
use Rattle.link_laws.specs.Nodes.{Making, has, with_fact}
use Rattle.link_laws.specs.Progress.{AreOwnAndNew, with_facts}
use Rattle.link_laws.specs.declared.fact.Asked.{Asked}
use Rattle.link_laws.specs.declared.fact.Fact.{Fact}
use Rattle.link_laws.specs.declared.fact.Fact.TheVariants.{Limit, Reply, Word}
use Rattle.link_laws.specs.declared.fact.Said.{Said}
use Rattle.link_laws.specs.declared.fact.Seen.{Seen}
use Rattle.link_laws.specs.declared.stage.Stage.{Stage}
use Rattle.link_laws.specs.declared.stage.Stage.TheVariants.{Limits, On, Over, Redo, Trial, Words}
use Rattle.std.proofs.Common.{ap, arith, refl, subst, sym, ◌∙◌}
use Rattle.std.proofs.lemmas.Option.{slice_get-map}
use Rattle.std.specs.List.{AllByRecursion, AllZip, enumerate_from}
use Rattle.std.specs.Option.{option_map}
use Rattle.std.specs.Prelude.{Bool, List, None, Option, Some, [], false, if◌then◌else◌, is_none, is_some, length, slice_get, suc, true, zero, zip, ℕ, ℤ}
use Rattle.std.specs.Prelude.{◌&&◌, ◌++◌, ◌==◌, ◌∷◌, ◌≡◌}
use Rattle.unit_tree.specs.Compositions.{Composition, Member}
use Rattle.unit_tree.specs.Negotiation.{max_at, step_at}
use Rattle.unit_tree.specs.Ports.{Outlet, Ports, Standing}
use Rattle.unit_tree.specs.Successor.{Position, standings}

facts_more : (known : Board) (facts : List Fact) (fact : Fact) → with_facts known (facts ++ fact ∷ []) ≡ with_fact (with_facts known facts) fact
facts_more known [] fact = refl
facts_more known (first ∷ facts) fact = facts_more (with_fact known first) facts fact

all_same : {A : Type 0} (xs : List A) → AllZip (λ (x y : A). x ≡ y) xs xs
all_same [] = tt
all_same (x ∷ xs) = (refl, all_same xs)

-- Each instance comes with its owner.
owners_beside : (owners : List ℕ) (members : List Member) (states : List (List ℤ)) → length owners ≡ length members → length states ≡ length members
    → AllZip (λ (one : ℕ × Standing) owner. one.0 ≡ owner) (zip owners (zip members states)) owners
owners_beside [] members states owns long = tt
owners_beside (owner ∷ owners) [] states owns long = absurd (omega arith)
owners_beside (owner ∷ owners) (member ∷ members) [] owns long = absurd (omega arith)
owners_beside (owner ∷ owners) (member ∷ members) (state ∷ states) owns long = (refl, owners_beside owners members states (omega arith) (omega arith))

module _ (run : Composition) (owners : List ℕ) (me : ℕ) (at : Position) (owns : length owners ≡ length run.members)
    (long : length at.states ≡ length run.members) (known : Board) where
  abbrev New : Board → List Fact → Type 0
  New = AreOwnAndNew (rule_of run owners) me

  abbrev Lists : Making → Type 0
  Lists making = (making.known ≡ with_facts known making.facts) × New known making.facts

  new_more : (before : Board) (facts : List Fact) (fact : Fact) → New before facts → is_own run owners me fact ≡ true
      → has (with_facts before facts) fact ≡ false → New before (facts ++ fact ∷ [])
  new_more before [] fact are own lacks = (own, lacks, tt)
  new_more before (first ∷ facts) fact are own lacks = (are.0, are.1, new_more (with_fact before first) facts fact are.2 own lacks)

  add_fact : (making : Making) (fact : Fact) → Lists making → is_own run owners me fact ≡ true → has making.known fact ≡ false → Lists (with_made fact making)
  add_fact making fact lists own lacks = (
    ap (λ board. with_fact board fact) lists.0 ∙ sym (facts_more known making.facts fact),
    new_more known making.facts fact lists.1 own (subst (λ board. has board fact ≡ false) lists.0 lacks),
  )

  -- ---- Words

  abbrev IsHeld : ℕ × (ℕ × Outlet) → Type 0
  IsHeld item = IsAtPlace (λ (one other : ℕ × Outlet). one ≡ other) (held run owners at.states) item

  own_word : (place owner : ℕ) (outlet : Outlet) → slice_get (held run owners at.states) place ≡ Some (owner, outlet) → (owner == me) ≡ true
      → is_held_by me (option_map owner_in (slice_get (held run owners (no_states run)) place)) ≡ true
  own_word place owner outlet there own =
      subst (λ found. is_held_by me found ≡ true)
      (sym (sym (slice_get-map owner_in (held run owners (no_states run)) place)
      ∙ ap (λ all. slice_get all place) (owners_are run owners (no_states run) at.states owns (no_states_long run.members) long)
      ∙ slice_get-map owner_in (held run owners at.states) place ∙ ap (option_map owner_in) there)) own

  word_lists : (making : Making) (item : ℕ × (ℕ × Outlet)) → Lists making → IsHeld item → Lists (with_word me at.number making item)
  word_lists making (place, (owner, outlet)) lists (other, there, same) =
      by_test (owner == me) (entry making.known.words place) (determined making.known.words outlet) refl refl
    where
      by_test : (own : Bool) (found seen : Option Seen) → (owner == me) ≡ own → entry making.known.words place ≡ found
          → Lists (if own && is_none found then put_word at.number place seen making else making)
      by_test false found seen own is = lists
      by_test true (Some one) seen own is = lists
      by_test true None None own is = lists
      by_test true None (Some seen) own is =
          add_fact making (Word at.number place seen) lists (own_word place owner outlet (there ∙ ap (λ one. Some one) (sym same)) own) (ap is_some is)

  items_held : AllByRecursion IsHeld (enumerate_from 0 (held run owners at.states))
  items_held = placed (λ (one other : ℕ × Outlet). one ≡ other) (held run owners at.states) (held run owners at.states) (all_same (held run owners at.states))

  pub passes_list : (more : ℕ) (making : Making) → Lists making → Lists (passes me at.number (enumerate_from 0 (held run owners at.states)) more making)
  passes_list zero making lists = lists
  passes_list (suc more) making lists =
      passes_list more (each (with_word me at.number) making (enumerate_from 0 (held run owners at.states)))
      (each_keeps Lists IsHeld (with_word me at.number) (enumerate_from 0 (held run owners at.states)) making word_lists items_held lists)

  -- ---- Limits and replies

  abbrev IsOwned : ℕ × (ℕ × Standing) → Type 0
  IsOwned item = IsAtPlace (λ (one : ℕ × Standing) owner. one.0 ≡ owner) owners item

  items_owned : AllByRecursion IsOwned (held_standings run owners at)
  items_owned = placed (λ (one : ℕ × Standing) owner. one.0 ≡ owner) (zip owners (standings run at)) owners (owners_beside owners run.members at.states owns long)

  own_item : (instance owner : ℕ) (standing : Standing) → IsOwned (instance, (owner, standing)) → (owner == me) ≡ true
      → is_held_by me (slice_get owners instance) ≡ true
  own_item instance owner standing (other, there, same) own =
      subst (λ found. is_held_by me found ≡ true) (sym (there ∙ ap (λ one. Some one) (sym same))) own

  limit_lists : (ports : Ports) (making : Making) (item : ℕ × (ℕ × Standing)) → Lists making → IsOwned item → Lists (with_limit me at ports making item)
  limit_lists ports making (instance, (owner, standing)) lists owned = by_test (owner == me) (entry making.known.limits instance) refl refl
    where
      by_test : (own : Bool) (found : Option Asked) → (owner == me) ≡ own → entry making.known.limits instance ≡ found
          → Lists (if own && is_none found then with_made (Limit at.number instance (asked_of (max_at at.point.t ports standing))) making else making)
      by_test false found own is = lists
      by_test true (Some one) own is = lists
      by_test true None own is =
          add_fact making (Limit at.number instance (asked_of (max_at at.point.t ports standing))) lists (own_item instance owner standing owned own)
          (ap is_some is)

  reply_lists : (ports : Ports) (h : ℕ) (making : Making) (item : ℕ × (ℕ × Standing)) → Lists making → IsOwned item
      → Lists (with_said false me at ports h making item)
  reply_lists ports h making (instance, (owner, standing)) lists owned =
      by_test (owner == me) (entry making.known.replies instance) (option_map said_of (step_at at.point.t h ports standing)) refl refl
    where
      by_test : (own : Bool) (found said : Option Said) → (owner == me) ≡ own → entry making.known.replies instance ≡ found
          → Lists (if own && is_none found then put_said false at.number instance said making else making)
      by_test false found said own is = lists
      by_test true (Some one) said own is = lists
      by_test true None None own is = lists
      by_test true None (Some said) own is =
          add_fact making (Reply at.number instance false said) lists (own_item instance owner standing owned own) (ap is_some is)

  redo_lists : (ports : Ports) (h : ℕ) (making : Making) (item : ℕ × (ℕ × Standing)) → Lists making → IsOwned item
      → Lists (with_said true me at ports h making item)
  redo_lists ports h making (instance, (owner, standing)) lists owned =
      by_test (owner == me) (entry making.known.redos instance) (option_map said_of (step_at at.point.t h ports standing)) refl refl
    where
      by_test : (own : Bool) (found said : Option Said) → (owner == me) ≡ own → entry making.known.redos instance ≡ found
          → Lists (if own && is_none found then put_said true at.number instance said making else making)
      by_test false found said own is = lists
      by_test true (Some one) said own is = lists
      by_test true None None own is = lists
      by_test true None (Some said) own is =
          add_fact making (Reply at.number instance true said) lists (own_item instance owner standing owned own) (ap is_some is)

  limits_list : (making : Making) (stage : Stage) → Lists making → Lists (limits_by run owners me at stage making)
  limits_list making Words lists = lists
  limits_list making (Trial h) lists = lists
  limits_list making (Redo h) lists = lists
  limits_list making (Over ending) lists = lists
  limits_list making (On h) lists = lists
  limits_list making Limits lists =
      each_keeps Lists IsOwned (with_limit me at (ports_in making.known.words)) (held_standings run owners at) making
      (limit_lists (ports_in making.known.words)) items_owned lists

  replies_list : (making : Making) (stage : Stage) → Lists making → Lists (replies_by run owners me at stage making)
  replies_list making Words lists = lists
  replies_list making Limits lists = lists
  replies_list making (Redo h) lists = lists
  replies_list making (Over ending) lists = lists
  replies_list making (On h) lists = lists
  replies_list making (Trial h) lists =
      each_keeps Lists IsOwned (with_said false me at (ports_in making.known.words) h) (held_standings run owners at) making
      (reply_lists (ports_in making.known.words) h) items_owned lists

  redos_list : (making : Making) (stage : Stage) → Lists making → Lists (redos_by run owners me at stage making)
  redos_list making Words lists = lists
  redos_list making Limits lists = lists
  redos_list making (Trial h) lists = lists
  redos_list making (Over ending) lists = lists
  redos_list making (On h) lists = lists
  redos_list making (Redo h) lists =
      each_keeps Lists IsOwned (with_said true me at (ports_in making.known.words) h) (held_standings run owners at) making
      (redo_lists (ports_in making.known.words) h) items_owned lists

  pub made_lists : Lists (made run owners me at known)
  made_lists =
      let start : Making = record { known = known; facts = [] } in
      let one = words_made run owners me at start in
      let two = limits_made run owners me at one in
      let three = replies_made run owners me at two in
      redos_list three (stage_at run at three.known) (replies_list two (stage_at run at two.known) (limits_list one (stage_at run at one.known)
      (passes_list (length (held run owners at.states)) start (refl, tt))))
