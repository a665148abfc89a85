-- Every event keeps the invariant of a pair.
use Rattle.link_laws.specs.Boards.{Agrees, Board, IsOn, IsSo, LacksNone, board_of, entry, row_of}
use Rattle.link_laws.specs.Keeping.{IsHonest, IsMade, IsNewFact, IsPlace, IsRightMove, IsRightRule, IsRowOfTrace, IsSoOn, IsTrueFact, KeepsTo, PairKeepsTo}
use Rattle.link_laws.specs.Keeping.{StandsAt}
use Rattle.link_laws.specs.Laws.{AnswersRightly, MovesRightly, ShowsRow, Works}
use Rattle.link_laws.specs.Nodes.{End, Go, Move, Progress, Rule, Stay, drops, has, keeping, knowing, making_of, moved, opened, restarted, taken, with_fact}
use Rattle.link_laws.specs.Nodes.{with_making, worked}
use Rattle.link_laws.specs.Pairs.{Pair, after_events, delivered, event_step, happened, node_of, opened_pair, step_of_node}
use Rattle.link_laws.specs.declared.fact.Fact.{Fact}
use Rattle.link_laws.specs.declared.fact.Fact.TheVariants.{Limit, Reply, Word}
use Rattle.link_laws.specs.declared.pair_event.PairEvent.{PairEvent}
use Rattle.link_laws.specs.declared.pair_event.PairEvent.TheVariants.{Deliver, Keep, Restart, Work}
use Rattle.link_laws.specs.declared.taken.Taken.{Taken}
use Rattle.link_laws.specs.declared.taken.Taken.TheVariants.{Dropped, Ended}
use Rattle.std.proofs.Common.{ap, refl, subst, sym, ◌∙◌}
use Rattle.std.proofs.lemmas.Bool.{eqb-true}
use Rattle.std.specs.List.{AllByRecursion, AllZip}
use Rattle.std.specs.Prelude.{Bool, IfSome, List, None, Option, Some, [], false, if◌then◌else◌, is_some, not, slice_get, slice_set, suc, true, zero, ℕ, ◌++◌}
use Rattle.std.specs.Prelude.{◌-◌, ◌==◌, ◌||◌, ◌∷◌, ◌≡◌}
use Rattle.unit_tree.specs.Compositions.{Composition}
use Rattle.unit_tree.specs.Ports.{first_some}
use Rattle.unit_tree.specs.Successor.{Position, after, ends, ends_at, ends_or, first_position, goes, successor}
use Rattle.unit_tree.specs.Trace.{Goes, IsStand, Reaches, Row as TraceRow, Stand, row_at}
use Rattle.unit_tree.specs.declared.ending.Ending.{Ending}
use Rattle.list_laws.proofs.Lists.{each_append}

-- ---- Lists

set_honest : {A : Type 0} (so known : List (Option A)) (place : ℕ) (one : A) → AllZip IsSo so known → IsSo (entry so place) (Some one)
    → AllZip IsSo so (slice_set known place (Some one))
set_honest [] [] place one are is = are
set_honest [] (old ∷ known) place one are is = absurd are
set_honest (first ∷ so) [] place one are is = absurd are
set_honest (first ∷ so) (old ∷ known) zero one are is = (is, are.1)
set_honest (first ∷ so) (old ∷ known) (suc place) one are is = (are.0, set_honest so known place one are.1 is)

there_so : {A : Type 0} (found : Option A) (one : A) → found ≡ Some one → IsSo found (Some one)
there_so found one is = subst (λ fact. IsSo fact (Some one)) (sym is) refl

pub set_so : {A : Type 0} (so known : List (Option A)) (place : ℕ) (one : A) → AllZip IsSo so known → entry so place ≡ Some one
    → AllZip IsSo so (slice_set known place (Some one))
set_so so known place one are is = set_honest so known place one are (there_so (entry so place) one is)

pub on_so : (board : Board) (fact : Fact) → IsOn board fact → IsSoOn board fact
on_so board (Word row place seen) on = there_so (entry board.words place) seen on
on_so board (Limit row instance asked) on = there_so (entry board.limits instance) asked on
on_so board (Reply row instance true said) on = there_so (entry board.redos instance) said on
on_so board (Reply row instance false said) on = there_so (entry board.replies instance) said on

pub fact_so : (so known : Board) (fact : Fact) → Agrees so known → IsSoOn so fact → Agrees so (with_fact known fact)
fact_so so known (Word row place seen) are on = record {
  words = set_honest so.words known.words place seen are.words on;
  limits = are.limits;
  replies = are.replies;
  redos = are.redos;
}
fact_so so known (Limit row instance asked) are on =
    record { words = are.words; limits = set_honest so.limits known.limits instance asked are.limits on; replies = are.replies; redos = are.redos }
fact_so so known (Reply row instance true said) are on =
    record { words = are.words; limits = are.limits; replies = are.replies; redos = set_honest so.redos known.redos instance said are.redos on }
fact_so so known (Reply row instance false said) are on =
    record { words = are.words; limits = are.limits; replies = set_honest so.replies known.replies instance said are.replies on; redos = are.redos }

pub found_is : {A : Type 0} (P : A → Type 0) (xs : List A) (place : ℕ) (one : A) → AllByRecursion P xs → slice_get xs place ≡ Some one → P one
found_is P [] place one are is = absurd (cc)
found_is P (x ∷ xs) zero one are is = let same : x ≡ one = cc in subst P same are.0
found_is P (x ∷ xs) (suc place) one are is = found_is P xs place one are.1 is

-- ---- From a place to the next

pub goes_after : (found : Option Ending) (to next : Position) → ends_or found to ≡ goes next → to ≡ next
goes_after None to next is = cc
goes_after (Some ending) to next is = absurd (cc)

pub next_place : (run : Composition) (stand next : Stand) → IsPlace run stand → Goes run stand next → IsPlace run next
next_place run stand next place to =
    let number : suc stand.at.number ≡ next.at.number =
    ap (λ (at : Position). at.number) (goes_after (first_some (ends_at run stand.at stand.ports)) (after run stand.at stand.ports) next.at to.0) in
    record {
      from = place.from;
      last = stand;
      opening = place.opening;
      is_stand = place.is_stand;
      reached = subst (λ count. Reaches run count stand place.from next) number (place.last, place.reached, to);
    }

first_place : (run : Composition) (first : Stand) → first.at ≡ first_position run → IsStand run first → IsPlace run first
first_place run first is stands = record {
  from = first;
  last = first;
  opening = is;
  is_stand = stands;
  reached = subst (λ count. Reaches run count first first first) (sym (ap (λ (at : Position). at.number) is)) (refl, refl);
}

module _ (run : Composition) (rule : Rule) (right : IsRightRule run rule) where
  -- ---- Facts

  new_facts : (stand : Stand) (facts : List Fact) → IsPlace run stand → AllByRecursion (IsNewFact run stand) facts → AllByRecursion (IsTrueFact run) facts
  new_facts stand [] place are = tt
  new_facts stand (fact ∷ facts) place are = (record { stand = stand; place = place; row = are.0.0; on = are.0.1 }, new_facts stand facts place are.1)

  pub true_is_honest : (fact : Fact) → IsTrueFact run fact → IsHonest run fact
  true_is_honest fact so stand place row =
      subst (λ (one : Stand). IsSoOn (board_of run one) fact) (right.one so.stand stand so.place place (sym so.row ∙ row))
      (on_so (board_of run so.stand) fact so.on)

  -- ---- Work

  module _ (me : ℕ) where
    made_of : (node : Progress) (keeps : KeepsTo run rule me node) → IsMade run keeps.stand (making_of rule me node)
    made_of node keeps = subst (λ at. IsMade run keeps.stand (rule.make me at node.known)) (sym keeps.stands.part)
        (right.makes me keeps.stand node.known keeps.stands.place keeps.agrees)

    pub move_of : (node : Progress) (keeps : KeepsTo run rule me node)
        → IsRightMove run rule me keeps.stand (making_of rule me node).known (rule.move me node.at (making_of rule me node).known)
    move_of node keeps =
        subst (λ at. IsRightMove run rule me keeps.stand (making_of rule me node).known (rule.move me at (making_of rule me node).known))
        (sym keeps.stands.part)
        (right.moves me keeps.stand (making_of rule me node).known keeps.stands.place (made_of node keeps).agrees)

    shown_is : (node : Progress) (keeps : KeepsTo run rule me node) (known : Board) → Agrees (board_of run keeps.stand) known
        → LacksNone (board_of run keeps.stand) known → rule.shown node.at known ≡ row_at run keeps.stand
    shown_is node keeps known agrees none = ap (λ at. rule.shown at known) keeps.stands.part ∙ right.shows me keeps.stand known keeps.stands.place agrees none

    row_kept : (stand : Stand) (found : Option TraceRow) → IsPlace run stand → found ≡ row_at run stand → IfSome found (IsRowOfTrace run)
    row_kept stand None place is = tt
    row_kept stand (Some row) place is = record { stand = stand; place = place; is = sym is }

    moves_keep : (node : Progress) (keeps : KeepsTo run rule me node) (move : Move) → node.ended ≡ None → IsRightMove run rule me keeps.stand node.known move
        → KeepsTo run rule me (moved rule node move).0
    moves_keep node keeps Stay going is = keeps
    moves_keep node keeps (Go at) going (none, (next, to, part)) =
        let place = next_place run keeps.stand next keeps.stands.place to in
        record {
          stand = next;
          stands = record { place = place; part = part };
          agrees = right.nothing next place;
          ended = subst (λ found. IfSome found (λ ending. successor run next.at next.ports ≡ ends ending)) (sym going) tt;
          kept_stand = keeps.kept_stand;
          kept = keeps.kept;
          facts = keeps.facts;
          row = row_kept keeps.stand (rule.shown node.at node.known) keeps.stands.place (shown_is node keeps node.known keeps.agrees none);
        }
    moves_keep node keeps (End ending) going (none, is) = record {
      stand = keeps.stand;
      stands = keeps.stands;
      agrees = keeps.agrees;
      ended = is;
      kept_stand = keeps.kept_stand;
      kept = keeps.kept;
      facts = keeps.facts;
      row = row_kept keeps.stand (rule.shown node.at node.known) keeps.stands.place (shown_is node keeps node.known keeps.agrees none);
    }

    making_keeps : (node : Progress) (keeps : KeepsTo run rule me node) → KeepsTo run rule me (with_making node (making_of rule me node))
    making_keeps node keeps = record {
      stand = keeps.stand;
      stands = keeps.stands;
      agrees = (made_of node keeps).agrees;
      ended = keeps.ended;
      kept_stand = keeps.kept_stand;
      kept = keeps.kept;
      facts = each_append (IsTrueFact run) node.facts (making_of rule me node).facts keeps.facts
          (new_facts keeps.stand (making_of rule me node).facts keeps.stands.place (made_of node keeps).facts);
      row = keeps.row;
    }

    abbrev does : Progress → Progress × Taken
    does node = moved rule (with_making node (making_of rule me node)) (rule.move me node.at (making_of rule me node).known)

    works_by : (node : Progress) (found : Option Ending) → node.ended ≡ found → KeepsTo run rule me node
        → KeepsTo run rule me (if is_some found then (node, Ended) else does node).0
    unfolding making_keeps
    works_by node (Some ending) is keeps = keeps
    works_by node None is keeps = moves_keep (with_making node (making_of rule me node)) (making_keeps node keeps)
        (rule.move me node.at (making_of rule me node).known) is (move_of node keeps)

    pub work_keeps : (node : Progress) → KeepsTo run rule me node → KeepsTo run rule me (worked rule me node).0
    work_keeps node keeps = works_by node node.ended refl keeps

    -- ---- When it commits

    answers_by : (node : Progress) (keeps : KeepsTo run rule me node) (move : Move) → IsRightMove run rule me keeps.stand (making_of rule me node).known move
        → AnswersRightly run keeps.stand (making_of rule me node).known (moved rule (with_making node (making_of rule me node)) move).1
    answers_by node keeps Stay is = is
    answers_by node keeps (Go at) (none, (next, to, part)) = (none, (next, to))
    answers_by node keeps (End ending) (none, is) = (none, (ending, is))

    facts_by : (node : Progress) (move : Move) → (moved rule (with_making node (making_of rule me node)) move).0.facts ≡ node.facts ++
        (making_of rule me node).facts
    facts_by node Stay = refl
    facts_by node (Go at) = refl
    facts_by node (End ending) = refl

    shows_by : (node : Progress) (keeps : KeepsTo run rule me node) (move : Move) → IsRightMove run rule me keeps.stand (making_of rule me node).known move
        → ShowsRow run keeps.stand (moved rule (with_making node (making_of rule me node)) move)
    shows_by node keeps Stay is = tt
    shows_by node keeps (Go at) is = shown_is node keeps (making_of rule me node).known (made_of node keeps).agrees is.0
    shows_by node keeps (End ending) is = shown_is node keeps (making_of rule me node).known (made_of node keeps).agrees is.0

    moves_by : (node : Progress) (keeps : KeepsTo run rule me node) (move : Move) → IsRightMove run rule me keeps.stand (making_of rule me node).known move
        → MovesRightly run rule me node.at keeps.stand (moved rule (with_making node (making_of rule me node)) move)
    moves_by node keeps Stay is = refl
    moves_by node keeps (Go at) is = is.1
    moves_by node keeps (End ending) is = (ending, is.1, refl)

    commits_by : (node : Progress) (found : Option Ending) (keeps : KeepsTo run rule me node) → found ≡ None
        → Works run rule me node keeps.stand (if is_some found then (node, Ended) else does node)
    commits_by node (Some ending) keeps going = absurd (cc)
    commits_by node None keeps going = record {
      facts = facts_by node (rule.move me node.at (making_of rule me node).known);
      answers = answers_by node keeps (rule.move me node.at (making_of rule me node).known) (move_of node keeps);
      row = shows_by node keeps (rule.move me node.at (making_of rule me node).known) (move_of node keeps);
      moves = moves_by node keeps (rule.move me node.at (making_of rule me node).known) (move_of node keeps);
    }

    pub work_commits : (node : Progress) (keeps : KeepsTo run rule me node) → node.ended ≡ None → Works run rule me node keeps.stand (worked rule me node)
    work_commits node keeps going = commits_by node node.ended keeps going

    -- ---- Facts that arrive

    pub row_is : (node : Progress) (fact : Fact) → drops rule me node fact ≡ false → row_of fact ≡ node.at.number
    row_is node fact is = by_tests (is_some node.ended) (row_of fact == node.at.number) (not (rule.is_of (1 - me) fact) || has node.known fact) is refl
      where
        by_tests : (ended same other : Bool) → (ended || (not same || other)) ≡ false → (row_of fact == node.at.number) ≡ same → row_of fact ≡ node.at.number
        by_tests true same other is same_is = absurd (cc)
        by_tests false false other is same_is = absurd (cc)
        by_tests false true other is same_is = eqb-true (row_of fact) node.at.number same_is

    pub knowing_keeps : (node : Progress) → KeepsTo run rule me node → (fact : Fact) → IsHonest run fact → drops rule me node fact ≡ false
        → KeepsTo run rule me (knowing node fact)
    knowing_keeps node keeps fact honest is =
        let number : row_of fact ≡ keeps.stand.at.number = row_is node fact is ∙ ap (λ (at : Position). at.number) keeps.stands.part
        ∙ right.numbers me keeps.stand.at in
        record {
          stand = keeps.stand;
          stands = keeps.stands;
          agrees = fact_so (board_of run keeps.stand) node.known fact keeps.agrees (honest keeps.stand keeps.stands.place number);
          ended = keeps.ended;
          kept_stand = keeps.kept_stand;
          kept = keeps.kept;
          facts = keeps.facts;
          row = keeps.row;
        }

    taken_by : (node : Progress) (fact : Fact) (dropped : Bool) → KeepsTo run rule me node → IsHonest run fact → drops rule me node fact ≡ dropped
        → KeepsTo run rule me (if dropped then (node, Dropped) else worked rule me (knowing node fact)).0
    taken_by node fact true keeps honest is = keeps
    taken_by node fact false keeps honest is = work_keeps (knowing node fact) (knowing_keeps node keeps fact honest is)

    pub take_keeps : (node : Progress) (fact : Fact) → KeepsTo run rule me node → IsHonest run fact → KeepsTo run rule me (taken rule me node fact).0
    take_keeps node fact keeps honest = taken_by node fact (drops rule me node fact) keeps honest refl

    -- A fact that isn't dropped arrives at a node that hasn't ended.
    going_on : (ended : Option Ending) (others : Bool) → (is_some ended || others) ≡ false → ended ≡ None
    going_on None others is = refl
    going_on (Some ending) others is = absurd (cc)

    take_commits_by : (node : Progress) (fact : Fact) (dropped : Bool) (keeps : KeepsTo run rule me node) → IsHonest run fact
        → drops rule me node fact ≡ false → dropped ≡ false
        → Works run rule me (knowing node fact) keeps.stand (if dropped then (node, Dropped) else worked rule me (knowing node fact))
    unfolding knowing_keeps
    take_commits_by node fact true keeps honest is was = absurd (cc)
    take_commits_by node fact false keeps honest is was = work_commits (knowing node fact) (knowing_keeps node keeps fact honest is)
        (going_on node.ended (not (row_of fact == node.at.number) || (not (rule.is_of (1 - me) fact) || has node.known fact)) is)

    pub take_commits : (node : Progress) (fact : Fact) (keeps : KeepsTo run rule me node) → IsHonest run fact → drops rule me node fact ≡ false
        → Works run rule me (knowing node fact) keeps.stand (taken rule me node fact)
    take_commits node fact keeps honest is = take_commits_by node fact (drops rule me node fact) keeps honest is is

    deliver_keeps : (node : Progress) (facts : List Fact) (place : ℕ) (found : Option Fact) → slice_get facts place ≡ found → KeepsTo run rule me node
        → AllByRecursion (IsTrueFact run) facts → KeepsTo run rule me (delivered rule me node found).0
    deliver_keeps node facts place None is keeps so = keeps
    deliver_keeps node facts place (Some fact) is keeps so = take_keeps node fact keeps (true_is_honest fact (found_is (IsTrueFact run) facts place fact so is))

    -- ---- Keep and restart

    keep_keeps : (node : Progress) → KeepsTo run rule me node → KeepsTo run rule me (keeping node)
    keep_keeps node keeps = record {
      stand = keeps.stand;
      stands = keeps.stands;
      agrees = keeps.agrees;
      ended = keeps.ended;
      kept_stand = keeps.stand;
      kept = keeps.stands;
      facts = keeps.facts;
      row = keeps.row;
    }

    pub restart_keeps : (node : Progress) → KeepsTo run rule me node → KeepsTo run rule me (restarted rule node)
    restart_keeps node keeps = record {
      stand = keeps.kept_stand;
      stands = keeps.kept;
      agrees = right.nothing keeps.kept_stand keeps.kept.place;
      ended = tt;
      kept_stand = keeps.kept_stand;
      kept = keeps.kept;
      facts = keeps.facts;
      row = tt;
    }

    happening_keeps : (node other : Progress) (event : PairEvent) → KeepsTo run rule me node → AllByRecursion (IsTrueFact run) other.facts
        → KeepsTo run rule me (happened rule me node other event).0
    happening_keeps node other (Work at) keeps so = work_keeps node keeps
    happening_keeps node other (Deliver at place) keeps so = deliver_keeps node other.facts place (slice_get other.facts place) refl keeps so
    happening_keeps node other (Keep at) keeps so = keep_keeps node keeps
    happening_keeps node other (Restart at) keeps so = restart_keeps node keeps

    pub opened_keeps : KeepsTo run rule me (opened rule me (first_position run))
    opened_keeps =
        let place = first_place run right.first right.first_is right.first_stands in
        let stands : StandsAt run rule me (rule.part me (first_position run)) right.first =
        record { place = place; part = ap (rule.part me) (sym right.first_is) } in
        record {
          stand = right.first;
          stands = stands;
          agrees = right.nothing right.first place;
          ended = tt;
          kept_stand = right.first;
          kept = stands;
          facts = tt;
          row = tt;
        }

  -- ---- Pairs

  event_keeps : (pair : Pair) (number : ℕ) (event : PairEvent) → PairKeepsTo run rule pair → PairKeepsTo run rule (step_of_node rule pair number event).0
  event_keeps pair zero event keeps = record { first = happening_keeps 0 pair.first pair.second event keeps.first keeps.second.facts; second = keeps.second }
  event_keeps pair (suc zero) event keeps = record {
    first = keeps.first;
    second = happening_keeps 1 pair.second pair.first event keeps.second keeps.first.facts;
  }
  event_keeps pair (suc (suc node)) event keeps = keeps

  pub events_keep : (pair : Pair) (events : List PairEvent) → PairKeepsTo run rule pair → PairKeepsTo run rule (after_events rule pair events)
  events_keep pair [] keeps = keeps
  events_keep pair (event ∷ events) keeps = events_keep (event_step rule pair event).0 events (event_keeps pair (node_of event) event keeps)

  pub all_events_keep : (events : List PairEvent) → PairKeepsTo run rule (after_events rule (opened_pair rule run) events)
  all_events_keep events = events_keep (opened_pair rule run) events (record { first = opened_keeps 0; second = opened_keeps 1 })
