-- Facts that arrive: whose instance they are of, and a node after it learnt one.
use Rattle.std.proofs.Common.{◌≡◌, ◌∙◌, ℕ, zero, suc, ◌-◌, ◌<◌, ◌≤◌, ◌==◌, Bool, true, false, is_some, ℤ, List, [], ◌∷◌, length, map, Option}
use Rattle.std.proofs.Common.{Some, None, Ok, Err, refl, sym, ap, ap₂, subst, arith}
use Rattle.std.proofs.lemmas.Option.{same_Some, slice_get_past, slice_get_within}
use Rattle.std.specs.Prelude.{if◌then◌else◌, slice_get, IfSome}
use Rattle.std.specs.List.{AllByRecursion}
use Rattle.std.specs.Option.{option_map}
use Rattle.fixed_words.specs.Operations.{Outcome}
use Rattle.link_laws.specs.Boards.{IsSo, board_of, entry, row_of, seen_of}
use Rattle.link_core.specs.Inner.{IsSet}
use Rattle.link_laws.specs.Keeping.{IsHonest, IsTrueFact, KeepsTo}
use Rattle.link_laws.specs.Making.{held, is_held_by, is_own, no_states, own_states, ports_in, rule_of}
use Rattle.link_laws.specs.Nodes.{Making, Progress, drops, has, knowing, taken, worked}
use Rattle.link_core.specs.Noted.{AreNotes, IsItemOf, IsWordSeen, knowing_fact, making_in}
use Rattle.link_core.specs.Ready.{IsJudged, is_dropped, progress_in}
use Rattle.link_core.specs.declared.course.NodePosition.{NodePosition}
use Rattle.link_core.specs.declared.course.Kept.{Kept}
use Rattle.link_laws.specs.declared.fact.Fact.{Fact}
use Rattle.link_laws.specs.declared.fact.Fact.TheVariants.{Limit, Reply, Word}
use Rattle.link_laws.specs.declared.fact.Seen.{Seen}
use Rattle.link_core.specs.declared.notes.Notes.{Notes}
use Rattle.link_laws.specs.declared.taken.Taken.{Taken}
use Rattle.link_laws.specs.declared.taken.Taken.TheVariants.{Dropped}
use Rattle.link_core.proofs.PassBodies.{held_at, items_count}
use Rattle.link_laws.proofs.PairLaws.{knowing_keeps, row_is, true_is_honest}
use Rattle.link_laws.proofs.RuleLaws.{no_states_long, place_long}
use Rattle.link_core.proofs.WordLaws.{given_fits}
use Rattle.link_core.proofs.WorkLaws.{right}
use Rattle.list_laws.proofs.Lists.{each_so}
use Rattle.list_laws.proofs.Members.{at_place}
use Rattle.list_laws.proofs.Truths.{not_false, true_is_false, either_false}
use Rattle.port_solve.specs.Solved.{HaveTheirWords}
use Rattle.port_solve.proofs.OutputPlaces.{outlet_of}
use Rattle.run_laws.proofs.AssignmentLaws.{outlets_count}
use Rattle.trace_plan.specs.Plans.{Planned}
use Rattle.trace_units.specs.Fleets.{Fleet}
use Rattle.unit_tree.specs.Compositions.{Composition, Member}
use Rattle.unit_tree.specs.Ports.{Outlet, Ports, given_at, outlets}
use Rattle.unit_tree.specs.Routes.{routes_of}
use Rattle.unit_tree.specs.Trace.{Stand}
use Rattle.unit_tree.specs.declared.order.Route.{Route}
use Rattle.unit_tree.proofs.RouteLaws.{count_is}

-- ---- The instance of a fact

nothing_owned : (me : ℕ) (owners : List ℕ) (members : List Member) → length owners ≡ length members
    → own_states owners me (map (λ member. []) members) ≡ map (λ member. []) members
nothing_owned me [] [] owns = refl
nothing_owned me [] (member ∷ members) owns = absurd (omega (arith, owns))
nothing_owned me (owner ∷ owners) [] owns = absurd (omega (arith, owns))
nothing_owned me (owner ∷ owners) (member ∷ members) owns =
    ap₂ (λ first rest. first ∷ rest) (by_owner (owner == me)) (nothing_owned me owners members (omega (arith, owns)))
  where
    by_owner : (own : Bool) → ◌≡◌ {A = List ℤ} (if own then [] else []) []
    by_owner true = refl
    by_owner false = refl

module _ (run : Composition) (owners : List ℕ) (node : ℕ) (owns : length owners ≡ length run.members) where
  abbrev items : List (ℕ × Outlet)
  items = held run owners (no_states run)

  abbrev all_items : List (ℕ × Outlet)
  all_items = held run owners (own_states owners node (no_states run))

  same_items : all_items ≡ items
  same_items = ap (held run owners) (nothing_owned node owners run.members owns)

  pub item_count : length items ≡ length (routes_of run).outputs
  item_count = ap length (sym same_items) ∙ items_count run owners node (no_states run) owns (no_states_long run.members)

  -- The owner of the output at a place, or that there is none.
  pub output_owned : (place found : ℕ) → place < length (routes_of run).outputs
      → IfSome (slice_get (routes_of run).outputs place) (λ route. slice_get owners route.instance ≡ Some found)
      → (found == node) ≡ is_held_by node (option_map (λ (one : ℕ × Outlet). one.0) (slice_get items place))
  output_owned place found within owner_is =
      let route = at_place (routes_of run).outputs place within in
      let out = outlet_of run (no_states run) place route.0 (no_states_long run.members) route.1 in
      let at = held_at run owners node (no_states run) owns (no_states_long run.members) place out.outlet out.is in
      let owned : slice_get owners route.0.instance ≡ Some found =
      subst (λ one. IfSome one (λ (r : Route). slice_get owners r.instance ≡ Some found)) route.1 owner_is in
      let same_owner : found ≡ at.owner = same_Some found at.owner (sym owned ∙ sym (ap (slice_get owners) out.instance) ∙ at.owned) in
      let there : slice_get items place ≡ Some (at.owner, at.one) = ap (λ all. slice_get all place) (sym same_items) ∙ at.is in
      ap (λ one. one == node) same_owner
      ∙ sym (ap (λ one. is_held_by node (option_map (λ (pair : ℕ × Outlet). pair.0) one)) there)

  pub output_missing : (place : ℕ) → length (routes_of run).outputs ≤ place
      → false ≡ is_held_by node (option_map (λ (one : ℕ × Outlet). one.0) (slice_get items place))
  output_missing place past =
      sym (ap (λ one. is_held_by node (option_map (λ (pair : ℕ × Outlet). pair.0) one)) (slice_get_past items place (omega (arith, past, item_count))))

  -- A fact of an owned instance is one of an existing item.
  held_there : {X : Type 0} (all : List X) (place : ℕ) (owner_of : X → ℕ) → is_held_by node (option_map owner_of (slice_get all place)) ≡ true
      → place < length all
  held_there all place owner_of is = by_found (slice_get all place) refl
    where
      by_found : (found : Option _) → slice_get all place ≡ found → place < length all
      by_found None there = absurd (true_is_false _ is (ap (λ one. is_held_by node (option_map owner_of one)) there))
      by_found (Some one) there = slice_get_within all place one there

  instance_there : (instance : ℕ) → is_held_by node (slice_get owners instance) ≡ true → instance < length run.members
  instance_there instance is = by_found (slice_get owners instance) refl
    where
      by_found : (found : Option ℕ) → slice_get owners instance ≡ found → instance < length run.members
      by_found None there = absurd (true_is_false _ is (ap (is_held_by node) there))
      by_found (Some owner) there = let within = slice_get_within owners instance owner there in omega (arith, within, owns)

  place_there : (place : ℕ) → is_held_by node (option_map (λ (one : ℕ × Outlet). one.0) (slice_get items place)) ≡ true → place < length (routes_of run).outputs
  place_there place is = let within = held_there items place (λ one. one.0) is in omega (arith, within, item_count)

-- ---- A word that arrives

seen_fits : (run : Composition) (states : List (List ℤ)) (place : ℕ) (outlet : Outlet) (ports : Ports) (given : Option Outcome)
    → length states ≡ length run.members
    → slice_get (outlets run states) place ≡ Some outlet → given_at ports outlet ≡ given → IsWordSeen run place (seen_of given)
seen_fits run states place outlet ports None long there is = tt
seen_fits run states place outlet ports (Some (Err fault)) long there is = tt
seen_fits run states place outlet ports (Some (Ok word)) long there is = given_fits run states place outlet ports word long there is

mapped_entry : {A X : Type 0} (tell : A → Option X) (all : List A) (place : ℕ) (one : A) → slice_get all place ≡ Some one
    → entry (map tell all) place ≡ tell one
mapped_entry tell [] place one is = absurd (cc)
mapped_entry tell (first ∷ all) zero one is = ap tell (same_Some first one is)
mapped_entry tell (first ∷ all) (suc place) one is = mapped_entry tell all place one is

word_is : (run : Composition) (stand : Stand) (place : ℕ) (seen : Seen) → length stand.at.states ≡ length run.members → place < length (routes_of run).outputs
    → IsSo (entry (board_of run stand).words place) (Some seen) → IsWordSeen run place seen
word_is run stand place seen long within so =
    let count : length (outlets run stand.at.states) ≡ length (routes_of run).outputs = outlets_count run stand.at.states long ∙ sym (count_is run) in
    let out = at_place (outlets run stand.at.states) place (omega (arith, within, count)) in
    let there = mapped_entry (λ (outlet : Outlet). Some (seen_of (given_at stand.ports outlet))) (outlets run stand.at.states) place out.0 out.1 in
    let same : seen ≡ seen_of (given_at stand.ports out.0) = subst (λ one. IsSo one (Some seen)) there so in
    subst (IsWordSeen run place) (sym same) (seen_fits run stand.at.states place out.0 stand.ports (given_at stand.ports out.0) long out.1 refl)

-- ---- A node that takes a fact

pub taken_is : (run : Composition) (owners : List ℕ) (me : ℕ) (node : Progress) (fact : Fact) (test : Bool) (did : Progress × Taken)
    → test ≡ drops (rule_of run owners) me node fact → test ≡ false
    → did ≡ worked (rule_of run owners) me (knowing node fact) → did ≡ taken (rule_of run owners) me node fact
taken_is run owners me node fact test did is so worked_is =
    worked_is ∙ sym (ap (λ one. if one then (node, Dropped) else worked (rule_of run owners) me (knowing node fact)) (sym is ∙ so))

module _ (plan : Planned) (judged : IsJudged plan.run) (owners : List ℕ) (me : ℕ) (units : Fleet) (notes : Notes) (course : NodePosition) (kept : Kept)
    (before : List (List ℤ)) (set : IsSet plan owners me units notes course kept before)
    (keeps : KeepsTo plan.run (rule_of plan.run owners) me (progress_in owners me units.states notes course kept)) (fact : Fact)
    (honest : IsHonest plan.run fact)
    (going : is_dropped plan.run owners me course (making_in notes).known fact ≡ false) where
  abbrev node : Progress
  node = progress_in owners me units.states notes course kept

  parts : (is_some course.ended ≡ false) × ((is_own plan.run owners (1 - me) fact ≡ true) × (has (making_in notes).known fact ≡ false))
  parts =
      let one = either_false (is_some course.ended) _ going in
      let two = either_false _ _ one.1 in
      let three = either_false _ _ two.1 in
      (one.0, (not_false (is_own plan.run owners (1 - me) fact) three.0, three.1))

  pub is_item : IsItemOf plan.run fact
  is_item = by_fact fact honest (row_is plan.run (rule_of plan.run owners) (right plan.run judged owners me set.owned) me node fact going) parts.1.0
    where
      number : node.at.number ≡ keeps.stand.at.number
      number = ap (λ at. at.number) keeps.stands.part

      long : length keeps.stand.at.states ≡ length plan.run.members
      long = place_long plan.run judged.order judged.members judged.is_order keeps.stand keeps.stands.place

      by_fact : (one : Fact) → IsHonest plan.run one → row_of one ≡ node.at.number → is_own plan.run owners (1 - me) one ≡ true → IsItemOf plan.run one
      by_fact (Word row place seen) so same own =
          let within = place_there plan.run owners (1 - me) set.owned place own in
          (within, word_is plan.run keeps.stand place seen long within (so keeps.stand keeps.stands.place (same ∙ number)))
      by_fact (Limit row instance asked) so same own = instance_there plan.run owners (1 - me) set.owned instance own
      by_fact (Reply row instance redo said) so same own = instance_there plan.run owners (1 - me) set.owned instance own

  -- The fact was learnt.
  module _ (learnt_units : Fleet) (learnt : Notes) (making : making_in learnt ≡ knowing_fact fact (making_in notes))
      (states : learnt_units.states ≡ units.states) where
    pub learnt_is : progress_in owners me learnt_units.states learnt course kept ≡ knowing node fact
    learnt_is =
        ap₂ (λ all (m : Making). record (progress_in owners me all notes course kept) { known = m.known; facts = m.facts }) states making

    pub keeps_learnt : KeepsTo plan.run (rule_of plan.run owners) me (progress_in owners me learnt_units.states learnt course kept)
    keeps_learnt =
        subst (KeepsTo plan.run (rule_of plan.run owners) me) (sym learnt_is)
        (knowing_keeps plan.run (rule_of plan.run owners) (right plan.run judged owners me set.owned) me node keeps fact honest going)

    pub set_learnt : AreNotes plan.run learnt → HaveTheirWords plan.run (ports_in learnt.words.items) learnt_units.inputs → learnt_units.plan ≡ units.plan
        → IsSet plan owners me learnt_units learnt course kept before
    set_learnt noted words same_plan = record {
      tied = same_plan ∙ set.tied;
      owned = set.owned;
      one_or_other = set.one_or_other;
      me_is = set.me_is;
      few = set.few;
      noted = noted;
      words = words;
      kept_long = set.kept_long;
      before_long = set.before_long;
      room = set.room;
    }

-- ---- The facts of a node

-- The node may take each of them.
pub facts_honest : (run : Composition) (judged : IsJudged run) (owners : List ℕ) (me : ℕ) (node : Progress) → length owners ≡ length run.members
    → KeepsTo run (rule_of run owners) me node
    → AllByRecursion (IsHonest run) node.facts
facts_honest run judged owners me node owns keeps =
    each_so (IsTrueFact run) (IsHonest run) (true_is_honest run (rule_of run owners) (right run judged owners me owns)) node.facts keeps.facts
