-- The rule of a run is right: the facts that a node makes are true, and it moves as the successor does.
use Rattle.fixed_words.specs.Operations.{Outcome}
use Rattle.link_laws.proofs.BoardLaws.{known_all, words_end}
use Rattle.link_laws.proofs.MakeLaws.{Below, Lacks, all_seen, determined_is, ports_below, ports_lack}
use Rattle.link_laws.proofs.PairLaws.{fact_so, on_so}
use Rattle.link_laws.proofs.StageLaws.{stage_is_right}
use Rattle.link_laws.specs.Boards.{Agrees, Board, IsKnown, IsOn, IsSo, asked_of, before_limits, before_redo, before_trial, board_of, entry, row_of, said_of}
use Rattle.link_laws.specs.Boards.{said_where, seen_of}
use Rattle.link_laws.specs.Keeping.{IsMade, IsNewFact, IsPlace, IsRightMove, IsRightRule}
use Rattle.link_laws.specs.Laws.{AreWordsKnown, IsRightStage}
use Rattle.link_laws.specs.Making.{determined, each, held, held_outlets, held_standings, limits_by, limits_made, made, move_by, name_of, no_states}
use Rattle.link_laws.specs.Making.{nothing_known, own_after, own_state, own_states, part_of, passes, port_in, ports_in, put_said, put_word, redos_by}
use Rattle.link_laws.specs.Making.{replies_by, replies_made, row_shown, rule_of, stage_at, with_limit, with_made, with_said, with_word}
use Rattle.link_laws.specs.Making.{words_made}
use Rattle.link_laws.specs.Nodes.{Making}
use Rattle.link_laws.specs.Stages.{stage_of, word_end}
use Rattle.link_laws.specs.declared.fact.Fact.{Fact}
use Rattle.link_laws.specs.declared.fact.Fact.TheVariants.{Limit, Reply, Word}
use Rattle.link_laws.specs.declared.fact.Said.{Said}
use Rattle.link_laws.specs.declared.fact.Seen.{Seen}
use Rattle.link_laws.specs.declared.stage.Stage.{Stage}
use Rattle.link_laws.specs.declared.stage.Stage.TheVariants.{Limits, On, Over, Redo, Trial, Words}
use Rattle.run_laws.proofs.AssignmentLaws.{one_assignment}
use Rattle.run_laws.proofs.PositionLaws.{agreed_is_at_most, positions_keep}
use Rattle.run_laws.proofs.RunTraces.{goes_keeps, goes_same, same_stand}
use Rattle.std.proofs.Common.{Err, Ok, ap, append_assoc, ap₂, arith, refl, subst, sym, ◌+◌, ◌∙◌, ◌≤◌}
use Rattle.std.proofs.lemmas.Bool.{and_parts}
use Rattle.std.proofs.lemmas.Option.{slice_get-map}
use Rattle.std.proofs.lemmas.Slice.Zip.{AllZip-long}
use Rattle.std.specs.List.{AllByRecursion, AllZip, enumerate_from, flat_map}
use Rattle.std.specs.Option.{option_and_then, option_map}
use Rattle.std.specs.Prelude.{Bool, List, None, Option, Some, [], false, if◌then◌else◌, is_none, length, map, slice_get, suc, true, zero, zip, ℕ, ℤ}
use Rattle.std.specs.Prelude.{◌&&◌, ◌++◌, ◌==◌, ◌∷◌, ◌≡◌}
use Rattle.std.specs.Result.{result_ok}
use Rattle.unit_tree.specs.Compositions.{AreMembers, Composition, Member}
use Rattle.unit_tree.specs.Negotiation.{max_at, state_after, step_at}
use Rattle.unit_tree.specs.Ports.{IsAssignment, IsPlaceOrder, Outlet, Ports, Standing, first_some, given_at, outlets, outlets_of, word_at}
use Rattle.unit_tree.specs.Successor.{Position, after, agreed, first_position, point_after, proposed, standings, when}
use Rattle.unit_tree.specs.Trace.{AreWordsOf, Goes, HasWords, IsStand, Reaches, Stand, row_at, row_unless}
use Rattle.unit_tree.specs.declared.unit.Output.{Output}
use Rattle.list_laws.proofs.Pairs.{zip_append}
use Rattle.list_laws.proofs.Lists.{each_append}

-- ---- Lists

-- The place of each is that of its partner.
abbrev pub IsAtPlace : {A B : Type 0} → (A → B → Type 0) → List B → ℕ × A → Type 0
IsAtPlace {A} {B} R all (place, x) = (y : B) × (slice_get all place ≡ Some y) × R x y

here_is : {B : Type 0} (front : List B) (y : B) (rest : List B) → slice_get (front ++ y ∷ rest) (length front) ≡ Some y
here_is [] y rest = refl
here_is (one ∷ front) y rest = here_is front y rest

longer : {B : Type 0} (front : List B) (y : B) (from : ℕ) → from ≡ length front → from + 1 ≡ length (front ++ y ∷ [])
longer [] y from is = omega (arith, is)
longer (one ∷ front) y from is = let rest = longer front y (length front) refl in omega (arith, is, rest)

placed_from : {A B : Type 0} (R : A → B → Type 0) (front : List B) (from : ℕ) (xs : List A) (ys : List B) → from ≡ length front → AllZip R xs ys
    → AllByRecursion (IsAtPlace R (front ++ ys)) (enumerate_from from xs)
placed_from R front from [] [] at are = tt
placed_from R front from [] (y ∷ ys) at are = tt
placed_from R front from (x ∷ xs) [] at are = absurd are
placed_from R front from (x ∷ xs) (y ∷ ys) at are = (
  (y, ap (slice_get (front ++ y ∷ ys)) at ∙ here_is front y ys, are.0),
  subst (λ all. AllByRecursion (IsAtPlace R all) (enumerate_from (from + 1) xs)) (append_assoc front (y ∷ []) ys)
      (placed_from R (front ++ y ∷ []) (from + 1) xs ys (longer front y from at) are.1),
)

pub placed : {A B : Type 0} (R : A → B → Type 0) (xs : List A) (ys : List B) → AllZip R xs ys → AllByRecursion (IsAtPlace R ys) (enumerate_from 0 xs)
placed R xs ys are = placed_from R [] 0 xs ys refl are

-- ---- A fold keeps what each of its steps keeps

pub each_keeps : {X : Type 0} (P : Making → Type 0) (Q : X → Type 0) (make : Making → X → Making) (items : List X) (making : Making)
    → ((one : Making) (x : X) → P one → Q x → P (make one x)) → AllByRecursion Q items → P making → P (each make making items)
each_keeps P Q make [] making step are keeps = keeps
each_keeps P Q make (item ∷ items) making step are keeps = each_keeps P Q make items (make making item) step are.1 (step making item keeps are.0)

-- ---- The partner of a node's item

-- An item of an owner, and that of the whole position: they are equal, where the node is the owner.
abbrev pub IsSame : {A : Type 0} → ℕ → ℕ × A → A → Type 0
IsSame me (owner, one) other = (owner == me) ≡ true → one ≡ other

own_is : (me owner : ℕ) (state : List ℤ) → (owner == me) ≡ true → own_state me (owner, state) ≡ state
own_is me owner state is = ap (λ test. if test then state else []) is

standings_same : (me : ℕ) (owners : List ℕ) (members : List Member) (states : List (List ℤ)) → length owners ≡ length members → length states ≡ length members
    → AllZip (IsSame me) (zip owners (zip members (own_states owners me states))) (zip members states)
standings_same me [] [] states owns long = tt
standings_same me (owner ∷ owners) [] states owns long = absurd (omega arith)
standings_same me [] (member ∷ members) states owns long = absurd (omega arith)
standings_same me (owner ∷ owners) (member ∷ members) [] owns long = absurd (omega arith)
standings_same me (owner ∷ owners) (member ∷ members) (state ∷ states) owns long =
    ((λ is. ap (λ one. (member, one)) (own_is me owner state is)), standings_same me owners members states (omega arith) (omega arith))

abbrev outlet_by : ℕ → Standing → ℕ × Output → Outlet
outlet_by instance standing counted = record { standing = standing; instance = instance; output = counted.1; number = counted.0 }

outlets_same : (me owner instance : ℕ) (member : Member) (state : List ℤ) (counted : List (ℕ × Output))
    → AllZip (IsSame me) (map (λ outlet. (owner, outlet)) (map (outlet_by instance (member, own_state me (owner, state))) counted))
    (map (outlet_by instance (member, state)) counted)
outlets_same me owner instance member state [] = tt
outlets_same me owner instance member state (one ∷ counted) =
    ((λ is. ap (λ own. outlet_by instance (member, own) one) (own_is me owner state is)), outlets_same me owner instance member state counted)

pub held_same : (me from : ℕ) (owners : List ℕ) (members : List Member) (states : List (List ℤ)) → length owners ≡ length members
    → length states ≡ length members → AllZip (IsSame me)
    (flat_map held_outlets (zip owners (enumerate_from from (zip members (own_states owners me states)))))
    (flat_map outlets_of (enumerate_from from (zip members states)))
held_same me from [] [] states owns long = tt
held_same me from (owner ∷ owners) [] states owns long = absurd (omega arith)
held_same me from [] (member ∷ members) states owns long = absurd (omega arith)
held_same me from (owner ∷ owners) (member ∷ members) [] owns long = absurd (omega arith)
held_same me from (owner ∷ owners) (member ∷ members) (state ∷ states) owns long =
    zip_append (IsSame me) (held_outlets (owner, (from, (member, own_state me (owner, state)))))
    (flat_map held_outlets (zip owners (enumerate_from (from + 1) (zip members (own_states owners me states))))) (outlets_of (from, (member, state)))
    (flat_map outlets_of (enumerate_from (from + 1) (zip members states)))
    (outlets_same me owner from member state (enumerate_from 0 member.component.unit.outputs))
    (held_same me (from + 1) owners members states (omega arith) (omega arith))

-- ---- Names don't depend on states

map-more : {A B : Type 0} (f : A → B) (xs ys : List A) → map f (xs ++ ys) ≡ map f xs ++ map f ys
map-more f [] ys = refl
map-more f (x ∷ xs) ys = ap (λ rest. f x ∷ rest) (map-more f xs ys)

names_counted : (instance : ℕ) (one other : Standing) (counted : List (ℕ × Output))
    → map name_of (map (outlet_by instance one) counted) ≡ map name_of (map (outlet_by instance other) counted)
names_counted instance one other [] = refl
names_counted instance one other (first ∷ counted) = ap (λ rest. (instance, first.0) ∷ rest) (names_counted instance one other counted)

names_from : (from : ℕ) (members : List Member) (states others : List (List ℤ)) → length states ≡ length members → length others ≡ length members
    → map name_of (flat_map outlets_of (enumerate_from from (zip members states))) ≡ map name_of
    (flat_map outlets_of (enumerate_from from (zip members others)))
names_from from [] states others long as_long = refl
names_from from (member ∷ members) [] others long as_long = absurd (omega arith)
names_from from (member ∷ members) (state ∷ states) [] long as_long = absurd (omega arith)
names_from from (member ∷ members) (state ∷ states) (other ∷ others) long as_long =
    map-more name_of (outlets_of (from, (member, state))) (flat_map outlets_of (enumerate_from (from + 1) (zip members states)))
    ∙ ap₂ (λ front rest. front ++ rest) (names_counted from (member, state) (member, other) (enumerate_from 0 member.component.unit.outputs))
    (names_from (from + 1) members states others (omega arith) (omega arith))
    ∙ sym (map-more name_of (outlets_of (from, (member, other))) (flat_map outlets_of (enumerate_from (from + 1) (zip members others))))

abbrev none_of : Member → List ℤ
none_of member = []

pub no_states_long : (members : List Member) → length (map none_of members) ≡ length members
no_states_long [] = refl
no_states_long (member ∷ members) = let rest = no_states_long members in omega (arith, rest)

-- ---- Stands of a trace

module _ (run : Composition) (order : List ℕ) (are : AreMembers run) (is_order : IsPlaceOrder run order) where
  pub reach_words : (count : ℕ) (last from to : Stand) → HasWords run from.at → Reaches run count last from to → HasWords run to.at
  reach_words zero last from to words reached = subst (λ (stand : Stand). HasWords run stand.at) reached.0 words
  reach_words (suc count) last from to words (earlier, before, on) = goes_keeps run last to are (reach_words count earlier from last words before) on

  reach_same : (count : ℕ) (last from to last' to' : Stand) → HasWords run from.at → Reaches run count last from to → Reaches run count last' from to'
      → to ≡ to'
  reach_same zero last from to last' to' words one other = sym one.0 ∙ other.0
  reach_same (suc count) last from to last' to' words (earlier, before, on) (earlier', before', on') =
      let same = reach_same count earlier from last earlier' last' words before before' in
      goes_same run order are is_order last to to' (reach_words count earlier from last words before) on
      (subst (λ (stand : Stand). Goes run stand to') (sym same) on')

  reach_stands : (count : ℕ) (last from to : Stand) → IsStand run from → Reaches run count last from to → IsStand run to
  reach_stands zero last from to stands reached = subst (IsStand run) reached.0 stands
  reach_stands (suc count) last from to stands (earlier, before, on) = on.1

  pub place_words : (stand : Stand) → IsPlace run stand → HasWords run stand.at
  place_words stand place = reach_words stand.at.number place.last place.from stand
      (subst (HasWords run) (sym place.opening) (positions_keep run are).first) place.reached

  pub place_stands : (stand : Stand) → IsPlace run stand → IsStand run stand
  place_stands stand place = reach_stands stand.at.number place.last place.from stand place.is_stand place.reached

  pub one_place : (stand other : Stand) → IsPlace run stand → IsPlace run other → stand.at.number ≡ other.at.number → stand ≡ other
  one_place stand other one two same =
      let words = subst (HasWords run) (sym one.opening) (positions_keep run are).first in
      let from : one.from ≡ two.from = same_stand run order are is_order one.from two.from words one.is_stand two.is_stand (one.opening ∙ sym two.opening) in
      reach_same stand.at.number one.last one.from stand two.last other words one.reached
      (subst (λ (start : Stand). Reaches run stand.at.number two.last start other) (sym from)
      (subst (λ count. Reaches run count two.last two.from other) (sym same) two.reached))

  pub place_long : (stand : Stand) → IsPlace run stand → length stand.at.states ≡ length run.members
  place_long stand place = AllZip-long (λ member state. AreWordsOf member.component.unit.states state) run.members stand.at.states (place_words stand place)

  pub place_at_most : (stand : Stand) → IsPlace run stand → agreed run stand.at stand.ports ≤ proposed run stand.at stand.ports
  place_at_most stand place = agreed_is_at_most run stand.at stand.ports are (place_words stand place)

-- ---- What a node makes

module _ (run : Composition) (owners : List ℕ) (me : ℕ) (stand : Stand) (is_stand : IsStand run stand) (long : length stand.at.states ≡ length run.members)
    (at_most : agreed run stand.at stand.ports ≤ proposed run stand.at stand.ports) (owns : length owners ≡ length run.members) where
  abbrev at' : Position
  at' = part_of owners me stand.at

  abbrev number : ℕ
  number = stand.at.number

  abbrev board : Board
  board = board_of run stand

  abbrev P : Making → Type 0
  P making = IsMade run stand making

  if_keeps : (test : Bool) (one other : Making) → (test ≡ true → P one) → P other → P (if test then one else other)
  if_keeps true one other first second = first refl
  if_keeps false one other first second = second

  add_fact : (making : Making) (fact : Fact) → P making → row_of fact ≡ number → IsOn board fact → P (with_made fact making)
  add_fact making fact keeps row on = record {
    agrees = fact_so board making.known fact keeps.agrees (on_so board fact on);
    facts = each_append (IsNewFact run stand) making.facts (fact ∷ []) keeps.facts ((row, on), tt);
  }

  add_reply : (making : Making) (instance : ℕ) (said : Option Said) → P making → entry board.replies instance ≡ said
      → P (put_said false number instance said making)
  add_reply making instance None keeps on = keeps
  add_reply making instance (Some said) keeps on = add_fact making (Reply number instance false said) keeps refl on

  add_redo : (making : Making) (instance : ℕ) (said : Option Said) → P making → entry board.redos instance ≡ said
      → P (put_said true number instance said making)
  add_redo making instance None keeps on = keeps
  add_redo making instance (Some said) keeps on = add_fact making (Reply number instance true said) keeps refl on

  -- ---- Words

  abbrev outs : List Outlet
  outs = outlets run stand.at.states

  word_there : (place : ℕ) (outlet : Outlet) → slice_get outs place ≡ Some outlet → entry board.words place ≡ Some (seen_of (given_at stand.ports outlet))
  word_there place outlet is =
      ap (option_and_then (λ one. one)) (slice_get-map (λ (one : Outlet). Some (seen_of (given_at stand.ports one))) outs place ∙ ap
      (option_map (λ (one : Outlet). Some (seen_of (given_at stand.ports one)))) is)

  put_keeps : (making : Making) (place : ℕ) (outlet : Outlet) (found : Option Seen) → P making → slice_get outs place ≡ Some outlet
      → determined making.known.words outlet ≡ found → P (put_word number place found making)
  put_keeps making place outlet None keeps is told = keeps
  put_keeps making place outlet (Some seen) keeps is told =
      let below = subst (AllZip Below (ports_in making.known.words)) (sym is_stand) (ports_below stand.ports outs making.known.words keeps.agrees.words) in
      let lacks = subst (AllZip Lacks making.known.words) (sym is_stand) (ports_lack stand.ports outs making.known.words keeps.agrees.words) in
      add_fact making (Word number place seen) keeps refl (word_there place outlet is ∙ ap (λ one. Some one)
      (sym (determined_is making.known.words stand.ports outlet seen below lacks told)))

  word_keeps : (making : Making) (item : ℕ × (ℕ × Outlet)) → P making → IsAtPlace (IsSame me) outs item → P (with_word me number making item)
  word_keeps making (place, (owner, outlet)) keeps (other, there, same) =
      if_keeps ((owner == me) && is_none (entry making.known.words place)) (put_word number place (determined making.known.words outlet) making) making
      (λ test. put_keeps making place outlet (determined making.known.words outlet) keeps
      (there ∙ ap (λ one. Some one) (sym (same (and_parts (owner == me) (is_none (entry making.known.words place)) test).0))) refl)
      keeps

  items_are : AllByRecursion (IsAtPlace (IsSame me) outs) (enumerate_from 0 (held run owners at'.states))
  items_are = placed (IsSame me) (held run owners at'.states) outs (held_same me 0 owners run.members stand.at.states owns long)

  pass_keeps : (making : Making) → P making → P (each (with_word me number) making (enumerate_from 0 (held run owners at'.states)))
  pass_keeps making keeps = each_keeps P (IsAtPlace (IsSame me) outs) (with_word me number)
      (enumerate_from 0 (held run owners at'.states)) making word_keeps items_are keeps

  pub passes_keep : (more : ℕ) (making : Making) → P making → P (passes me number (enumerate_from 0 (held run owners at'.states)) more making)
  passes_keep zero making keeps = keeps
  passes_keep (suc more) making keeps = passes_keep more (each (with_word me number) making (enumerate_from 0 (held run owners at'.states)))
      (pass_keeps making keeps)

  -- ---- Limits and replies, where all words are known

  ports_known : (outlets : List Outlet) (known : List (Option Seen))
      → AllZip IsKnown (map (λ outlet. Some (seen_of (given_at stand.ports outlet))) outlets) known → ports_in known ≡ map (word_at stand.ports) outlets
  ports_known [] [] are = refl
  ports_known [] (one ∷ known) are = absurd are
  ports_known (outlet ∷ outlets) [] are = absurd are
  ports_known (outlet ∷ outlets) (one ∷ known) are =
      ap₂ (λ first rest. first ∷ rest) (ap port_in are.0 ∙ port_is (given_at stand.ports outlet)) (ports_known outlets known are.1)
    where
      port_is : (given : Option Outcome) → port_in (Some (seen_of given)) ≡ option_and_then result_ok given
      port_is None = refl
      port_is (Some (Ok word)) = refl
      port_is (Some (Err fault)) = refl

  pub ports_are : (known : Board) → AreWordsKnown run stand known → ports_in known.words ≡ stand.ports
  ports_are known words = ports_known outs known.words words ∙ sym is_stand

  abbrev pub Q : ℕ × (ℕ × Standing) → Type 0
  Q item = IsAtPlace (IsSame me) (standings run stand.at) item

  pub standings_are : AllByRecursion Q (held_standings run owners at')
  standings_are = placed (IsSame me) (zip owners (standings run at')) (standings run stand.at) (standings_same me owners run.members stand.at.states owns long)

  pub there_is : {A : Type 0} (f : Standing → Option A) (instance : ℕ) (standing : Standing) → slice_get (standings run stand.at) instance ≡ Some standing
      → entry (map f (standings run stand.at)) instance ≡ f standing
  there_is f instance standing is = ap (option_and_then (λ one. one)) (slice_get-map f (standings run stand.at) instance ∙ ap (option_map f) is)

  pub map_map : {A B C : Type 0} (f : A → B) (g : B → C) (xs : List A) → map g (map f xs) ≡ map (λ x. g (f x)) xs
  map_map f g [] = refl
  map_map f g (x ∷ xs) = ap (λ rest. g (f x) ∷ rest) (map_map f g xs)

  limit_keeps : before_limits run stand ≡ true → (making : Making) (item : ℕ × (ℕ × Standing)) → P making → Q item
      → P (with_limit me at' stand.ports making item)
  limit_keeps asks making (instance, (owner, standing)) keeps (other, there, same) =
      if_keeps ((owner == me) && is_none (entry making.known.limits instance)) _ making
      (λ test. add_fact making (Limit number instance (asked_of (max_at stand.at.point.t stand.ports standing))) keeps refl
      (there_is (λ one. when (before_limits run stand) (asked_of (max_at stand.at.point.t stand.ports one))) instance standing
      (there ∙ ap (λ one. Some one) (sym (same (and_parts (owner == me) (is_none (entry making.known.limits instance)) test).0)))
      ∙ ap (λ so. when so (asked_of (max_at stand.at.point.t stand.ports standing))) asks))
      keeps

  reply_keeps : (h : ℕ) → before_trial run stand ≡ true → h ≡ proposed run stand.at stand.ports → (making : Making) (item : ℕ × (ℕ × Standing)) → P making
      → Q item → P (with_said false me at' stand.ports h making item)
  reply_keeps h tries is making (instance, (owner, standing)) keeps (other, there, same) =
      if_keeps ((owner == me) && is_none (entry making.known.replies instance)) _ making
      (λ test. add_reply making instance (option_map said_of (step_at stand.at.point.t h stand.ports standing)) keeps
      (ap (λ entries. entry entries instance) (map_map (step_at stand.at.point.t (proposed run stand.at stand.ports) stand.ports)
      (said_where (before_trial run stand)) (standings run stand.at))
      ∙ there_is (λ one. said_where (before_trial run stand) (step_at stand.at.point.t (proposed run stand.at stand.ports) stand.ports one)) instance standing
      (there ∙ ap (λ one. Some one) (sym (same (and_parts (owner == me) (is_none (entry making.known.replies instance)) test).0)))
      ∙ ap₂ (λ so step. said_where so (step_at stand.at.point.t step stand.ports standing)) tries (sym is)))
      keeps

  redo_keeps : (h : ℕ) → before_redo run stand ≡ true → h ≡ agreed run stand.at stand.ports → (making : Making) (item : ℕ × (ℕ × Standing)) → P making → Q item
      → P (with_said true me at' stand.ports h making item)
  redo_keeps h redoes is making (instance, (owner, standing)) keeps (other, there, same) =
      if_keeps ((owner == me) && is_none (entry making.known.redos instance)) _ making
      (λ test. add_redo making instance (option_map said_of (step_at stand.at.point.t h stand.ports standing)) keeps
      (ap (λ entries. entry entries instance) (map_map (step_at stand.at.point.t (agreed run stand.at stand.ports) stand.ports)
      (said_where (before_redo run stand)) (standings run stand.at))
      ∙ there_is (λ one. said_where (before_redo run stand) (step_at stand.at.point.t (agreed run stand.at stand.ports) stand.ports one)) instance standing
      (there ∙ ap (λ one. Some one) (sym (same (and_parts (owner == me) (is_none (entry making.known.redos instance)) test).0)))
      ∙ ap₂ (λ so step. said_where so (step_at stand.at.point.t step stand.ports standing)) redoes (sym is)))
      keeps

  -- ---- By stages

  pub right_stage : (known : Board) → Agrees board known → IsRightStage run stand known (stage_at run at' known)
  right_stage known so =
      subst (λ names. IsRightStage run stand known (stage_of run names stand.at known))
      (names_from 0 run.members stand.at.states (no_states run) long (no_states_long run.members))
      (stage_is_right run stand known long at_most so)

  pub limits_keep : (making : Making) (stage : Stage) → P making → IsRightStage run stand making.known stage → P (limits_by run owners me at' stage making)
  limits_keep making Words keeps right = keeps
  limits_keep making (Trial h) keeps right = keeps
  limits_keep making (Redo h) keeps right = keeps
  limits_keep making (Over ending) keeps right = keeps
  limits_keep making (On h) keeps right = keeps
  limits_keep making Limits keeps (lacks, words, asks) =
      subst (λ ports. P (each (with_limit me at' ports) making (held_standings run owners at'))) (sym (ports_are making.known words))
      (each_keeps P Q (with_limit me at' stand.ports) (held_standings run owners at') making (limit_keeps asks) standings_are keeps)

  pub replies_keep : (making : Making) (stage : Stage) → P making → IsRightStage run stand making.known stage → P (replies_by run owners me at' stage making)
  replies_keep making Words keeps right = keeps
  replies_keep making Limits keeps right = keeps
  replies_keep making (Redo h) keeps right = keeps
  replies_keep making (Over ending) keeps right = keeps
  replies_keep making (On h) keeps right = keeps
  replies_keep making (Trial h) keeps (lacks, words, tries, is) =
      subst (λ ports. P (each (with_said false me at' ports h) making (held_standings run owners at'))) (sym (ports_are making.known words))
      (each_keeps P Q (with_said false me at' stand.ports h) (held_standings run owners at') making (reply_keeps h tries is) standings_are keeps)

  pub redos_keep : (making : Making) (stage : Stage) → P making → IsRightStage run stand making.known stage → P (redos_by run owners me at' stage making)
  redos_keep making Words keeps right = keeps
  redos_keep making Limits keeps right = keeps
  redos_keep making (Trial h) keeps right = keeps
  redos_keep making (Over ending) keeps right = keeps
  redos_keep making (On h) keeps right = keeps
  redos_keep making (Redo h) keeps (lacks, words, redoes, is) =
      subst (λ ports. P (each (with_said true me at' ports h) making (held_standings run owners at'))) (sym (ports_are making.known words))
      (each_keeps P Q (with_said true me at' stand.ports h) (held_standings run owners at') making (redo_keeps h redoes is) standings_are keeps)

  pub makes_right : (known : Board) → Agrees board known → P (made run owners me at' known)
  makes_right known so =
      let start : Making = record { known = known; facts = [] } in
      let words = passes_keep (length (held run owners at'.states)) start (record { agrees = so; facts = tt }) in
      let one = words_made run owners me at' start in
      let limits = limits_keep one (stage_at run at' one.known) words (right_stage one.known words.agrees) in
      let two = limits_made run owners me at' one in
      let replies = replies_keep two (stage_at run at' two.known) limits (right_stage two.known limits.agrees) in
      let three = replies_made run owners me at' two in
      redos_keep three (stage_at run at' three.known) replies (right_stage three.known replies.agrees)

  -- ---- Moving

  own_step : (owner h : ℕ) (ports : Ports) (member : Member) (state : List ℤ)
      → own_state me (owner, state_after (own_state me (owner, state), step_at stand.at.point.t h ports (member, own_state me (owner, state)))) ≡ own_state me
      (owner, state_after (state, step_at stand.at.point.t h ports (member, state)))
  own_step owner h ports member state = by_test (owner == me)
    where
      by_test : (test : Bool) → (if test then state_after (if test then state else [], step_at stand.at.point.t h ports (member, if test then state else []))
          else []) ≡ (if test then state_after (state, step_at stand.at.point.t h ports (member, state)) else [])
      by_test true = refl
      by_test false = refl

  pub own_steps : (h : ℕ) (ports : Ports) (owners : List ℕ) (members : List Member) (states : List (List ℤ)) → length owners ≡ length members
      → length states ≡ length members
      → own_states owners me (map state_after (zip (own_states owners me states)
      (map (step_at stand.at.point.t h ports) (zip members (own_states owners me states))))) ≡ own_states owners me
      (map state_after (zip states (map (step_at stand.at.point.t h ports) (zip members states))))
  own_steps h ports [] members states owns long = refl
  own_steps h ports (owner ∷ owners) [] states owns long = absurd (omega arith)
  own_steps h ports (owner ∷ owners) (member ∷ members) [] owns long = absurd (omega arith)
  own_steps h ports (owner ∷ owners) (member ∷ members) (state ∷ states) owns long =
      ap₂ (λ first rest. first ∷ rest) (own_step owner h ports member state) (own_steps h ports owners members states (omega arith) (omega arith))

  own_after_is : (h : ℕ) (ports : Ports) → h ≡ agreed run stand.at stand.ports → ports ≡ stand.ports
      → own_after run owners me at' ports h ≡ part_of owners me (after run stand.at stand.ports)
  own_after_is h ports is same =
      ap₂ (λ step words. own_after run owners me at' words step) is same
      ∙ ap (λ states. record { point = point_after stand.at.point (agreed run stand.at stand.ports); states = states; number = suc stand.at.number })
      (own_steps (agreed run stand.at stand.ports) stand.ports owners run.members stand.at.states owns long)

  move_right : (known : Board) (stage : Stage) → ((next : Position) → next ≡ after run stand.at stand.ports →
      (ports : Ports) × IsAssignment run next.states ports) → IsRightStage run stand known stage
      → IsRightMove run (rule_of run owners) me stand known (move_by run owners me at' known stage)
  move_right known Words assigned right = right
  move_right known Limits assigned right = right.0
  move_right known (Trial h) assigned right = right.0
  move_right known (Redo h) assigned right = right.0
  move_right known (Over ending) assigned right = right
  move_right known (On h) assigned (none, is, on) =
      let found = assigned (after run stand.at stand.ports) refl in
      let next : Stand = record { at = after run stand.at stand.ports; ports = found.0 } in
      (none, (next, (on, found.1), own_after_is h (ports_in known.words) is (ports_are known none.words)))

  -- ---- The row to which it comes

  pub shows_right : (known : Board) → AreWordsKnown run stand known → row_shown run at' known ≡ row_at run stand
  shows_right known words =
      ap (λ names. row_unless (first_some (map word_end (zip names known.words))) stand.at.point (ports_in known.words))
      (names_from 0 run.members (no_states run) stand.at.states (no_states_long run.members) long)
      ∙ ap (λ told. row_unless (first_some (map word_end (zip (map name_of outs) told))) stand.at.point (ports_in known.words)) (all_known known.words words)
      ∙ ap₂ (λ found ports. row_unless found stand.at.point ports) (words_end stand.ports outs) (ports_are known words)
    where
      all_known : (told : List (Option Seen)) → AllZip IsKnown (all_seen stand.ports outs) told → told ≡ all_seen stand.ports outs
      all_known told known = known_all (λ outlet. seen_of (given_at stand.ports outlet)) outs told known

  -- ---- Nothing known

  no_words : (outs : List Outlet) → AllZip IsSo (map (λ outlet. Some (seen_of (given_at stand.ports outlet))) outs) (map (λ name. None) (map name_of outs))
  no_words [] = tt
  no_words (outlet ∷ outs) = (tt, no_words outs)

  none_so : {A : Type 0} (so : Option A) → IsSo so None
  none_so None = tt
  none_so (Some one) = tt

  no_others : {A : Type 0} (f : Standing → Option A) (members : List Member) (states : List (List ℤ)) → length states ≡ length members
      → AllZip IsSo (map f (zip members states)) (map (λ member. None) members)
  no_others f [] states long = tt
  no_others f (member ∷ members) [] long = absurd (omega arith)
  no_others f (member ∷ members) (state ∷ states) long = (none_so (f (member, state)), no_others f members states (omega arith))

  nothing_right : Agrees board (nothing_known run)
  nothing_right = record {
    words = subst (λ names. AllZip IsSo board.words (map (λ name. None) names))
        (names_from 0 run.members stand.at.states (no_states run) long (no_states_long run.members)) (no_words outs);
    limits = no_others (λ standing. when (before_limits run stand) (asked_of (max_at stand.at.point.t stand.ports standing))) run.members stand.at.states long;
    replies = subst (λ entries. AllZip IsSo entries (map (λ member. None) run.members))
        (sym (map_map (step_at stand.at.point.t (proposed run stand.at stand.ports) stand.ports) (said_where (before_trial run stand))
        (standings run stand.at))) (no_others (λ standing. said_where (before_trial run stand)
        (step_at stand.at.point.t (proposed run stand.at stand.ports) stand.ports standing)) run.members stand.at.states long);
    redos = subst (λ entries. AllZip IsSo entries (map (λ member. None) run.members))
        (sym (map_map (step_at stand.at.point.t (agreed run stand.at stand.ports) stand.ports) (said_where (before_redo run stand)) (standings run stand.at)))
        (no_others (λ standing. said_where (before_redo run stand)
        (step_at stand.at.point.t (agreed run stand.at stand.ports) stand.ports standing)) run.members stand.at.states long);
  }

-- ---- The rule

pub rule_is_right : (run : Composition) (order owners : List ℕ) → IsPlaceOrder run order → AreMembers run → length owners ≡ length run.members
    → IsRightRule run (rule_of run owners)
rule_is_right run order owners is_order are owns =
    let words = (positions_keep run are).first in
    let assigned = one_assignment run order (first_position run).states is_order (AllZip-long _ run.members (first_position run).states words) in
    record {
      numbers = λ me at. refl;
      first = record { at = first_position run; ports = assigned.ports };
      first_is = refl;
      first_stands = assigned.is_assignment;
      nothing = λ stand place. nothing_right run owners 0 stand (place_stands run order are is_order stand place)
          (place_long run order are is_order stand place) (place_at_most run order are is_order stand place) owns;
      one = one_place run order are is_order;
      makes = λ me stand known place so. makes_right run owners me stand (place_stands run order are is_order stand place)
          (place_long run order are is_order stand place) (place_at_most run order are is_order stand place) owns known so;
      moves = λ me stand known place so.
          let stands = place_stands run order are is_order stand place in
          let long = place_long run order are is_order stand place in
          let kept = (positions_keep run are).next stand.at stand.ports (place_words run order are is_order stand place) in
          move_right run owners me stand stands long (place_at_most run order are is_order stand place) owns known
          (stage_at run (part_of owners me stand.at) known)
          (λ next is.
          let found = one_assignment run order next.states is_order (AllZip-long _ run.members next.states (subst (HasWords run) (sym is) kept)) in
          (found.ports, found.is_assignment))
          (right_stage run owners me stand stands long (place_at_most run order are is_order stand place) owns known so);
      shows = λ me stand known place so none.
          shows_right run owners me stand (place_stands run order are is_order stand place) (place_long run order are is_order stand place)
          (place_at_most run order are is_order stand place) owns known none.words;
    }
