-- A node makes all facts of its own that can be made.
use Rattle.link_laws.proofs.BoardLaws.{known_whole, members_in, steps_covered, steps_known}
use Rattle.link_laws.proofs.HeldLaws.{held_are_outlets, outlet_in, owner_in, owners_are}
use Rattle.link_laws.proofs.KnownLaws.{each_stays, in_range, is_there, known_at, so_at, whole_at}
use Rattle.link_laws.proofs.OwnFacts.{limits_are_made, limit_same, redo_same, redos_are_made, replies_are_made, reply_same, words_are_made}
use Rattle.link_laws.proofs.RuleLaws.{Q, limits_keep, makes_right, map_map, no_states_long, passes_keep, ports_are, replies_keep, right_stage, standings_are}
use Rattle.link_laws.proofs.RuleLaws.{there_is}
use Rattle.link_laws.proofs.StageLaws.{proposed_is}
use Rattle.link_laws.proofs.StageTells.{Tells, proposal, stage_tells}
use Rattle.link_laws.specs.Boards.{Agrees, Board, IsKnown, IsOn, IsSo, LacksNone, asked_of, before_limits, before_redo, before_trial, board_of, entry, said_of}
use Rattle.link_laws.specs.Boards.{said_where, seen_of}
use Rattle.link_laws.specs.Keeping.{IsMade}
use Rattle.link_laws.specs.Laws.{AreWordsKnown, IsRightStage}
use Rattle.link_laws.specs.Making.{held, held_standings, is_held_by, is_own, limits_by, limits_made, names_of, no_states, own_states, part_of}
use Rattle.link_laws.specs.Making.{ports_in, redos_by, redos_made, replies_by, replies_made, stage_at, with_limit, with_said, words_made}
use Rattle.link_laws.specs.Nodes.{Making}
use Rattle.link_laws.specs.Progress.{AreLimitsKnown, AreRepliesKnown, CanBeMade, are_needs_known}
use Rattle.link_laws.specs.Stages.{are_answered}
use Rattle.link_laws.specs.declared.fact.Asked.{Asked}
use Rattle.link_laws.specs.declared.fact.Fact.{Fact}
use Rattle.link_laws.specs.declared.fact.Fact.TheVariants.{Limit, Reply, Word}
use Rattle.link_laws.specs.declared.fact.Said.{Said}
use Rattle.link_laws.specs.declared.fact.Seen.{Seen}
use Rattle.link_laws.specs.declared.stage.Stage.{Stage}
use Rattle.link_laws.specs.declared.stage.Stage.TheVariants.{Limits, On, Over, Redo, Trial, Words}
use Rattle.list_laws.proofs.Members.{Has, each_has}
use Rattle.list_laws.proofs.Truths.{true_is_false}
use Rattle.run_laws.proofs.AssignmentLaws.{needs_here, outlets_count}
use Rattle.std.proofs.Common.{ap, arith, inl, inr, refl, subst, sym, ◌+◌, ◌<◌, ◌∙◌, ◌≤◌}
use Rattle.std.proofs.lemmas.Bool.{and_parts}
use Rattle.std.proofs.lemmas.Option.{slice_get-map}
use Rattle.std.proofs.lemmas.List.{length-map}
use Rattle.std.proofs.lemmas.Slice.Zip.{AllZip-long, firsts-zip}
use Rattle.std.specs.List.{AllZip, enumerate_from, list_all}
use Rattle.std.specs.Option.{option_map}
use Rattle.std.specs.Prelude.{Bool, List, None, Option, Result, Some, [], false, is_none, is_some, length, map, slice_get, suc, true, zero, zip, ℕ, ℤ}
use Rattle.std.specs.Prelude.{◌==◌, ◌∷◌, ◌≡◌}
use Rattle.fixed_words.specs.declared.types.Fault.{Fault}
use Rattle.unit_tree.specs.Components.{Moved}
use Rattle.unit_tree.specs.Compositions.{Composition, Member}
use Rattle.unit_tree.specs.Negotiation.{max_at, step_at}
use Rattle.unit_tree.specs.Ports.{Outlet, Standing, given_at, needs_at, outlets}
use Rattle.unit_tree.specs.Successor.{Position, agreed, proposed, standings, trial, when}
use Rattle.unit_tree.specs.Trace.{IsStand, Stand}

-- ---- The item of an instance of the node's own

pub own_long : (me : ℕ) (owners : List ℕ) (states : List (List ℤ)) → length owners ≡ length states → length (own_states owners me states) ≡ length states
own_long me [] [] long = refl
own_long me [] (state ∷ states) long = absurd (omega arith)
own_long me (owner ∷ owners) [] long = absurd (omega arith)
own_long me (owner ∷ owners) (state ∷ states) long = let rest = own_long me owners states (omega arith) in omega (arith, rest)

-- An instance of the node's own among the items over which it goes.
pub record OwnItem (me number : ℕ) (items : List (ℕ × (ℕ × Standing))) : Type 0 where
  pub owner : ℕ
  pub standing : Standing
  pub own : (owner == me) ≡ true
  pub has : Has items (number, (owner, standing))

item_from : (me from instance number : ℕ) (owners : List ℕ) (members : List Member) (states : List (List ℤ)) → number ≡ from + instance
    → length owners ≡ length members → length states ≡ length members → is_held_by me (slice_get owners instance) ≡ true
    → OwnItem me number (enumerate_from from (zip owners (zip members states)))
item_from me from instance number [] members states at owns long own = absurd (cc)
item_from me from instance number (owner ∷ owners) [] states at owns long own = absurd (omega arith)
item_from me from instance number (owner ∷ owners) (member ∷ members) [] at owns long own = absurd (omega arith)
item_from me from zero number (owner ∷ owners) (member ∷ members) (state ∷ states) at owns long own =
    let same : from ≡ number = omega (arith, at) in
    record { owner = owner; standing = (member, state); own = own; has = inl (ap (λ k. (k, (owner, (member, state)))) same) }
item_from me from (suc instance) number (owner ∷ owners) (member ∷ members) (state ∷ states) at owns long own =
    let rest = item_from me (from + 1) instance number owners members states (omega (arith, at)) (omega arith) (omega arith) own in
    record { owner = rest.owner; standing = rest.standing; own = rest.own; has = inr rest.has }

-- ---- Facts are there where the run comes so far

none_at : {A B : Type 0} (g : A → Option B) (xs : List A) (place : ℕ) (one : B) → ((x : A) → g x ≡ None) → entry (map g xs) place ≡ Some one → ⊥
none_at g [] place one none is = cc
none_at g (x ∷ xs) zero one none is = cc (none x)
none_at g (x ∷ xs) (suc place) one none is = none_at g xs place one none is

said_there : (there : Bool) (steps : List (Option (Result Moved Fault))) (place : ℕ) (said : Said) → entry (map (said_where there) steps) place ≡ Some said
    → there ≡ true
said_there true steps place said is = refl
said_there false steps place said is = absurd (none_at (said_where false) steps place said (λ step. refl) is)

asked_there : (there : Bool) (ask : Standing → Asked) (ones : List Standing) (place : ℕ) (asked : Asked)
    → entry (map (λ standing. when there (ask standing)) ones) place ≡ Some asked → there ≡ true
asked_there true ask ones place asked is = refl
asked_there false ask ones place asked is = absurd (none_at (λ standing. when false (ask standing)) ones place asked (λ standing. refl) is)

is_nothing : {A : Type 0} (found : Option A) → is_none found ≡ true → found ≡ None
is_nothing None is = refl
is_nothing (Some one) is = absurd (cc)

module _ (run : Composition) (owners : List ℕ) (me : ℕ) (stand : Stand) (is_stand : IsStand run stand) (long : length stand.at.states ≡ length run.members)
    (at_most : agreed run stand.at stand.ports ≤ proposed run stand.at stand.ports) (owns : length owners ≡ length run.members) where
  abbrev at' : Position
  at' = part_of owners me stand.at

  abbrev board : Board
  board = board_of run stand

  abbrev t : ℕ
  t = stand.at.point.t

  abbrev h : ℕ
  h = proposed run stand.at stand.ports

  abbrev items : List (ℕ × (ℕ × Standing))
  items = held_standings run owners at'

  part_long : length at'.states ≡ length run.members
  part_long = own_long me owners stand.at.states (omega (arith, owns, long)) ∙ long

  item_at : (instance : ℕ) → is_held_by me (slice_get owners instance) ≡ true → OwnItem me instance items
  item_at instance own = item_from me 0 instance instance owners run.members at'.states (omega arith) owns part_long own

  -- ---- All of one kind

  words_whole : (known : Board) → AreWordsKnown run stand known → list_all is_some known.words ≡ true
  words_whole known are = known_whole (λ outlet. seen_of (given_at stand.ports outlet)) (outlets run stand.at.states) known.words are

  limits_whole : (known : Board) → before_limits run stand ≡ true → AreLimitsKnown run stand known → list_all is_some known.limits ≡ true
  limits_whole known asks are =
      known_whole (λ standing. asked_of (max_at t stand.ports standing)) (standings run stand.at) known.limits
      (subst (λ there. AllZip IsKnown (map (λ standing. when there (asked_of (max_at t stand.ports standing))) (standings run stand.at)) known.limits) asks are)

  members_are : members_in (standings run stand.at) ≡ run.members
  members_are = firsts-zip run.members stand.at.states long

  replies_whole : (known : Board) → before_trial run stand ≡ true → AreRepliesKnown run stand known → are_answered t h run.members known.replies ≡ true
  replies_whole known tries are =
      subst (λ members. are_answered t h members known.replies ≡ true) members_are
      (steps_known t h stand.ports (standings run stand.at) known.replies
      (subst (λ there. AllZip IsKnown (map (said_where there) (trial run stand.at stand.ports)) known.replies) tries are))

  asks_where : before_trial run stand ≡ true → before_limits run stand ≡ true
  asks_where tries = (and_parts (before_limits run stand) _ tries).0

  tries_where : before_redo run stand ≡ true → before_trial run stand ≡ true
  tries_where redoes = (and_parts (before_trial run stand) _ redoes).0

  -- ---- Words

  owner_there : (place : ℕ) → is_held_by me (option_map owner_in (slice_get (held run owners (no_states run)) place)) ≡ true
      → is_held_by me (option_map owner_in (slice_get (held run owners at'.states) place)) ≡ true
  owner_there place own =
      subst (λ found. is_held_by me found ≡ true)
      (sym (slice_get-map owner_in (held run owners (no_states run)) place)
      ∙ ap (λ all. slice_get all place) (owners_are run owners (no_states run) at'.states owns (no_states_long run.members) part_long)
      ∙ slice_get-map owner_in (held run owners at'.states) place) own

  word_known : (making : Making) (place : ℕ) (seen : Seen) → Agrees board making.known → length making.known.words ≡ length (held run owners at'.states)
      → is_held_by me (option_map owner_in (slice_get (held run owners (no_states run)) place)) ≡ true
      → are_needs_known (words_made run owners me at' making).known.words (needs_at run place) ≡ true
      → is_some (entry (words_made run owners me at' making).known.words place) ≡ true
  word_known making place seen so as_long own known = by_found (slice_get (held run owners at'.states) place) refl (owner_there place own)
    where
      by_found : (found : Option (ℕ × Outlet)) → slice_get (held run owners at'.states) place ≡ found → is_held_by me (option_map owner_in found) ≡ true
          → is_some (entry (words_made run owners me at' making).known.words place) ≡ true
      by_found None there is = absurd (cc)
      by_found (Some (owner, outlet)) there is =
          let outlet_is : slice_get (outlets run at'.states) place ≡ Some outlet =
          ap (λ all. slice_get all place) (sym (held_are_outlets run owners at'.states owns part_long))
          ∙ slice_get-map outlet_in (held run owners at'.states) place ∙ ap (option_map outlet_in) there in
          words_are_made run owners me at' making place owner outlet as_long there is
          (subst (λ needs. are_needs_known (words_made run owners me at' making).known.words needs ≡ true)
          (needs_here run at'.states place outlet part_long outlet_is) known)

  -- ---- Limits

  limit_known : (making : Making) (instance : ℕ) (asked : Asked) → Agrees board making.known → entry board.limits instance ≡ Some asked
      → is_held_by me (slice_get owners instance) ≡ true → AreWordsKnown run stand making.known
      → is_some (entry (limits_made run owners me at' making).known.limits instance) ≡ true
  limit_known making instance asked so on own words =
      by_stage (stage_at run at' making.known) (right_stage run owners me stand is_stand long at_most owns making.known so)
      (stage_tells run at' making.known (names_of run))
    where
      within : instance < length making.known.limits
      within = in_range IsSo board.limits making.known.limits instance asked so.limits on

      all_there : LacksNone board making.known → is_some (entry making.known.limits instance) ≡ true
      all_there none = ap is_some (known_at board.limits making.known.limits instance asked none.limits on)

      by_stage : (stage : Stage) → IsRightStage run stand making.known stage → Tells run at' making.known stage
          → is_some (entry (limits_by run owners me at' stage making).known.limits instance) ≡ true
      by_stage Words right tells = true_is_false (list_all is_some making.known.words) (words_whole making.known words) tells
      by_stage Limits right tells =
          let item = item_at instance own in
          limits_are_made me at' (ports_in making.known.words) items making instance item.owner item.standing within item.own item.has
      by_stage (Trial step) right tells = whole_at making.known.limits instance tells.0 within
      by_stage (Redo step) right tells = whole_at making.known.limits instance tells.0 within
      by_stage (Over ending) right tells = all_there right.0
      by_stage (On step) right tells = all_there right.0

  -- ---- Replies

  -- The fact of a step is that of the item's own.
  step_said : (there : Bool) (step instance : ℕ) (said : Said) (item : OwnItem me instance items) → there ≡ true
      → entry (map (said_where there) (map (step_at t step stand.ports) (standings run stand.at))) instance ≡ Some said
      → option_map said_of (step_at t step stand.ports item.standing) ≡ Some said
  step_said there step instance said item is on =
      let here = each_has (Q run owners me stand is_stand long at_most owns) items (instance, (item.owner, item.standing))
      (standings_are run owners me stand is_stand long at_most owns) item.has in
      ap (λ (one : Standing). option_map said_of (step_at t step stand.ports one)) (here.2 item.own)
      ∙ ap (λ test. said_where test (step_at t step stand.ports here.0)) (sym is)
      ∙ sym (there_is run owners me stand is_stand long at_most owns (λ one. said_where there (step_at t step stand.ports one)) instance here.0 here.1)
      ∙ sym (ap (λ entries. entry entries instance)
      (map_map run owners me stand is_stand long at_most owns (step_at t step stand.ports) (said_where there) (standings run stand.at)))
      ∙ on

  reply_known : (making : Making) (instance : ℕ) (said : Said) → Agrees board making.known → entry board.replies instance ≡ Some said
      → is_held_by me (slice_get owners instance) ≡ true → AreWordsKnown run stand making.known → AreLimitsKnown run stand making.known
      → is_some (entry (replies_made run owners me at' making).known.replies instance) ≡ true
  reply_known making instance said so on own words limits =
      by_stage (stage_at run at' making.known) (right_stage run owners me stand is_stand long at_most owns making.known so)
      (stage_tells run at' making.known (names_of run))
    where
      tries : before_trial run stand ≡ true
      tries = said_there (before_trial run stand) (trial run stand.at stand.ports) instance said on

      within : instance < length making.known.replies
      within = in_range IsSo board.replies making.known.replies instance said so.replies on

      all_there : AllZip IsKnown board.replies making.known.replies → is_some (entry making.known.replies instance) ≡ true
      all_there known = ap is_some (known_at board.replies making.known.replies instance said known on)

      proposal_is : list_all is_some making.known.limits ≡ true → proposal run at' making.known ≡ h
      proposal_is whole = proposed_is run stand making.known long at_most so (words_whole making.known words)
          (is_nothing _ (asks_where tries)) whole

      by_stage : (stage : Stage) → IsRightStage run stand making.known stage → Tells run at' making.known stage
          → is_some (entry (replies_by run owners me at' stage making).known.replies instance) ≡ true
      by_stage Words right tells = true_is_false (list_all is_some making.known.words) (words_whole making.known words) tells
      by_stage Limits right tells = true_is_false (list_all is_some making.known.limits) (limits_whole making.known (asks_where tries) limits) tells
      by_stage (Trial step) right tells =
          let item = item_at instance own in
          replies_are_made me at' (ports_in making.known.words) step items making instance item.owner item.standing said within item.own
          (ap (λ ports. option_map said_of (step_at t step ports item.standing)) (ports_are run owners me stand is_stand long at_most owns making.known words)
          ∙ ap (λ length. option_map said_of (step_at t length stand.ports item.standing)) right.3
          ∙ step_said (before_trial run stand) h instance said item tries on) item.has
      by_stage (Redo step) right tells =
          all_there (subst (λ there. AllZip IsKnown (map (said_where there) (trial run stand.at stand.ports)) making.known.replies) (sym tries)
          (steps_covered t h stand.ports (standings run stand.at) making.known.replies
          (subst (λ there. AllZip IsSo (map (said_where there) (trial run stand.at stand.ports)) making.known.replies) tries so.replies)
          (subst (λ members. are_answered t h members making.known.replies ≡ true) (sym members_are)
          (subst (λ length. are_answered t length run.members making.known.replies ≡ true) (proposal_is tells.0) tells.1))))
      by_stage (Over ending) right tells = all_there right.0.replies
      by_stage (On step) right tells = all_there right.0.replies

  redo_known : (making : Making) (instance : ℕ) (said : Said) → Agrees board making.known → entry board.redos instance ≡ Some said
      → is_held_by me (slice_get owners instance) ≡ true → AreWordsKnown run stand making.known → AreLimitsKnown run stand making.known
      → AreRepliesKnown run stand making.known → is_some (entry (redos_made run owners me at' making).known.redos instance) ≡ true
  redo_known making instance said so on own words limits replies =
      by_stage (stage_at run at' making.known) (right_stage run owners me stand is_stand long at_most owns making.known so)
      (stage_tells run at' making.known (names_of run))
    where
      redoes : before_redo run stand ≡ true
      redoes = said_there (before_redo run stand) (map (step_at t (agreed run stand.at stand.ports) stand.ports) (standings run stand.at)) instance said on

      within : instance < length making.known.redos
      within = in_range IsSo board.redos making.known.redos instance said so.redos on

      all_there : AllZip IsKnown board.redos making.known.redos → is_some (entry making.known.redos instance) ≡ true
      all_there known = ap is_some (known_at board.redos making.known.redos instance said known on)

      by_stage : (stage : Stage) → IsRightStage run stand making.known stage → Tells run at' making.known stage
          → is_some (entry (redos_by run owners me at' stage making).known.redos instance) ≡ true
      by_stage Words right tells = true_is_false (list_all is_some making.known.words) (words_whole making.known words) tells
      by_stage Limits right tells =
          true_is_false (list_all is_some making.known.limits) (limits_whole making.known (asks_where (tries_where redoes)) limits) tells
      by_stage (Trial step) right tells =
          true_is_false (are_answered t h run.members making.known.replies) (replies_whole making.known (tries_where redoes) replies)
          (subst (λ length. are_answered t length run.members making.known.replies ≡ false) right.3 tells.1)
      by_stage (Redo step) right tells =
          let item = item_at instance own in
          redos_are_made me at' (ports_in making.known.words) step items making instance item.owner item.standing said within item.own
          (ap (λ ports. option_map said_of (step_at t step ports item.standing)) (ports_are run owners me stand is_stand long at_most owns making.known words)
          ∙ ap (λ length. option_map said_of (step_at t length stand.ports item.standing)) right.3
          ∙ step_said (before_redo run stand) (agreed run stand.at stand.ports) instance said item redoes on) item.has
      by_stage (Over ending) right tells = all_there right.0.redos
      by_stage (On step) right tells = all_there right.0.redos

  -- ---- What later facts leave as it was

  limits_same : (making : Making) (stage : Stage) → (limits_by run owners me at' stage making).known.words ≡ making.known.words
  limits_same making Words = refl
  limits_same making (Trial step) = refl
  limits_same making (Redo step) = refl
  limits_same making (Over ending) = refl
  limits_same making (On step) = refl
  limits_same making Limits =
      each_stays (λ (other : Making). other.known.words ≡ making.known.words) (with_limit me at' (ports_in making.known.words)) items making
      (λ other item is. limit_same me at' (ports_in making.known.words) other item ∙ is) refl

  abbrev SameForReplies : Making → Making → Type 0
  SameForReplies one other = (other.known.words ≡ one.known.words) × (other.known.limits ≡ one.known.limits)

  replies_same : (making : Making) (stage : Stage) → SameForReplies making (replies_by run owners me at' stage making)
  replies_same making Words = (refl, refl)
  replies_same making Limits = (refl, refl)
  replies_same making (Redo step) = (refl, refl)
  replies_same making (Over ending) = (refl, refl)
  replies_same making (On step) = (refl, refl)
  replies_same making (Trial step) =
      each_stays (SameForReplies making) (with_said false me at' (ports_in making.known.words) step) items making
      (λ other item is. let same = reply_same me at' (ports_in making.known.words) step other item in (same.0 ∙ is.0, same.1 ∙ is.1)) (refl, refl)

  abbrev SameForRedos : Making → Making → Type 0
  SameForRedos one other =
      (other.known.words ≡ one.known.words) × (other.known.limits ≡ one.known.limits) × (other.known.replies ≡ one.known.replies)

  redos_same : (making : Making) (stage : Stage) → SameForRedos making (redos_by run owners me at' stage making)
  redos_same making Words = (refl, refl, refl)
  redos_same making Limits = (refl, refl, refl)
  redos_same making (Trial step) = (refl, refl, refl)
  redos_same making (Over ending) = (refl, refl, refl)
  redos_same making (On step) = (refl, refl, refl)
  redos_same making (Redo step) =
      each_stays (SameForRedos making) (with_said true me at' (ports_in making.known.words) step) items making
      (λ other item is. let same = redo_same me at' (ports_in making.known.words) step other item in (same.0 ∙ is.0, same.1 ∙ is.1, same.2 ∙ is.2))
      (refl, refl, refl)

  -- ---- All facts

  as_many_held : (known : Board) → Agrees board known → length known.words ≡ length (held run owners at'.states)
  as_many_held known so =
      AllZip-long IsSo board.words known.words so.words
      ∙ length-map (outlets run stand.at.states) (λ outlet. Some (seen_of (given_at stand.ports outlet)))
      ∙ outlets_count run stand.at.states long ∙ sym (outlets_count run at'.states part_long)
      ∙ ap length (sym (held_are_outlets run owners at'.states owns part_long)) ∙ length-map (held run owners at'.states) outlet_in

  module _ (known : Board) (so : Agrees board known) where
    abbrev start : Making
    start = record { known = known; facts = [] }

    abbrev one : Making
    one = words_made run owners me at' start

    abbrev two : Making
    two = limits_made run owners me at' one

    abbrev three : Making
    three = replies_made run owners me at' two

    abbrev four : Making
    four = redos_made run owners me at' three

    one_is : IsMade run stand one
    one_is = passes_keep run owners me stand is_stand long at_most owns (length (held run owners at'.states)) start (record { agrees = so; facts = tt })

    two_is : IsMade run stand two
    two_is = limits_keep run owners me stand is_stand long at_most owns one (stage_at run at' one.known) one_is
        (right_stage run owners me stand is_stand long at_most owns one.known one_is.agrees)

    three_is : IsMade run stand three
    three_is = replies_keep run owners me stand is_stand long at_most owns two (stage_at run at' two.known) two_is
        (right_stage run owners me stand is_stand long at_most owns two.known two_is.agrees)

    four_is : IsMade run stand four
    four_is = makes_right run owners me stand is_stand long at_most owns known so

    in_two : two.known.words ≡ one.known.words
    in_two = limits_same one (stage_at run at' one.known)

    in_three : SameForReplies two three
    in_three = replies_same two (stage_at run at' two.known)

    in_four : SameForRedos three four
    in_four = redos_same three (stage_at run at' three.known)

    words_from : AreWordsKnown run stand four.known → (words : List (Option Seen)) → four.known.words ≡ words → AllZip IsKnown board.words words
    words_from are words is = subst (AllZip IsKnown board.words) is are

    limits_from : AreLimitsKnown run stand four.known → (limits : List (Option Asked)) → four.known.limits ≡ limits → AllZip IsKnown board.limits limits
    limits_from are limits is = subst (AllZip IsKnown board.limits) is are

    pub all_made : (fact : Fact) → IsOn board fact → is_own run owners me fact ≡ true → CanBeMade run stand four.known fact → IsOn four.known fact
    all_made (Word row place seen) on own can =
        let same : four.known.words ≡ one.known.words = in_four.0 ∙ in_three.0 ∙ in_two in
        let told = is_there (entry one.known.words place) (word_known start place seen so (as_many_held known so) own
        (subst (λ words. are_needs_known words (needs_at run place) ≡ true) same can)) in
        so_at board.words four.known.words place seen told.0 four_is.agrees.words on (ap (λ words. entry words place) same ∙ told.1)
    all_made (Limit row instance asked) on own can =
        let same : four.known.limits ≡ two.known.limits = in_four.1 ∙ in_three.1 in
        let told = is_there (entry two.known.limits instance) (limit_known one instance asked one_is.agrees on own
        (words_from can one.known.words (in_four.0 ∙ in_three.0 ∙ in_two))) in
        so_at board.limits four.known.limits instance asked told.0 four_is.agrees.limits on (ap (λ limits. entry limits instance) same ∙ told.1)
    all_made (Reply row instance false said) on own can =
        let told = is_there (entry three.known.replies instance) (reply_known two instance said two_is.agrees on own
        (words_from can.0 two.known.words (in_four.0 ∙ in_three.0)) (limits_from can.1 two.known.limits (in_four.1 ∙ in_three.1))) in
        so_at board.replies four.known.replies instance said told.0 four_is.agrees.replies on
        (ap (λ replies. entry replies instance) in_four.2 ∙ told.1)
    all_made (Reply row instance true said) on own can =
        let told = is_there (entry four.known.redos instance) (redo_known three instance said three_is.agrees on own
        (words_from can.0 three.known.words in_four.0) (limits_from can.1 three.known.limits in_four.1)
        (subst (AllZip IsKnown board.replies) in_four.2 can.2)) in
        so_at board.redos four.known.redos instance said told.0 four_is.agrees.redos on told.1
