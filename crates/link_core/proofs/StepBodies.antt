-- The facts that the node's own instances make, and their steps.
use Rattle.std.proofs.Common.{◌≡◌, ◌∙◌, ℕ, zero, suc, ◌+◌, ◌<◌, ◌==◌, Bool, true, false, ◌&&◌, is_none, ℤ, List, [], ◌∷◌, ◌++◌, length, map, get_or}
use Rattle.std.proofs.Common.{Some, refl, sym, ap, ap₂, arith}
use Rattle.std.proofs.lemmas.Option.{same_Some, slice_get-get_or}
use Rattle.std.specs.Prelude.{if◌then◌else◌, zip, slice_get, slice_set}
use Rattle.std.specs.Option.{option_map}
use Rattle.link_laws.specs.Boards.{asked_of, entry, said_of}
use Rattle.link_laws.specs.Making.{limits_by, own_state, own_states, put_said, said_entry, with_limit, with_said}
use Rattle.link_laws.specs.declared.stage.Stage.{Stage}
use Rattle.link_laws.specs.declared.stage.Stage.TheVariants.{Words, Limits, Trial, Redo, Over, On}
use Rattle.link_laws.specs.Nodes.{Making}
use Rattle.std.proofs.lemmas.List.{length-map}
use Rattle.link_core.specs.Noted.{IsPartOf, limit_if, part_at, reply_if, stepped, stepped_if, stepped_one}
use Rattle.link_laws.specs.declared.fact.Fact.TheVariants.{Limit}
use Rattle.link_core.proofs.PassBodies.{Going, goes_on}
use Rattle.link_core.proofs.StageItems.{as_many_zipped}
use Rattle.step_rule.proofs.AlongLaws.{mapped_at}
use Rattle.super_time.specs.declared.point.Point.{Point}
use Rattle.list_laws.proofs.Members.{at_place}
use Rattle.list_laws.proofs.Pairs.{zip_there}
use Rattle.unit_tree.specs.Compositions.{Composition, Member}
use Rattle.unit_tree.specs.Negotiation.{all_inputs, inputs_at, max_at, state_after, step_at}
use Rattle.unit_tree.specs.Ports.{Ports, Standing}
use Rattle.unit_tree.specs.Successor.{Position, standings}

pub inputs_there : (run : Composition) (ports : Ports) (inputs : List (List ℤ)) (instance : ℕ) (member : Member) → inputs ≡ all_inputs run ports
    → slice_get run.members instance ≡ Some member
    → slice_get inputs instance ≡ Some (inputs_at ports member)
inputs_there run ports inputs instance member are there = ap (λ all. slice_get all instance) are ∙ mapped_at (inputs_at ports) run.members instance member there

-- ---- The item of an instance

-- An instance with its owner, its member and its state.
pub record At (run : Composition) (owners : List ℕ) (states : List (List ℤ)) (instance : ℕ) : Type 0 where
  pub owner : ℕ
  pub owned : slice_get owners instance ≡ Some owner
  pub member : Member
  pub member_is : slice_get run.members instance ≡ Some member
  pub state : List ℤ
  pub state_is : slice_get states instance ≡ Some state

pub at_instance : (run : Composition) (owners : List ℕ) (states : List (List ℤ)) (instance : ℕ) → length owners ≡ length run.members
    → length states ≡ length run.members → instance < length run.members
    → At run owners states instance
at_instance run owners states instance owns long within =
    let owner = at_place owners instance (omega (arith, owns, within)) in
    let member = at_place run.members instance within in
    let state = at_place states instance (omega (arith, long, within)) in
    record { owner = owner.0; owned = owner.1; member = member.0; member_is = member.1; state = state.0; state_is = state.1 }

-- An element of a list, by how it is read.
pub get_is : {X : Type 0} (xs : List X) (k : ℕ) (x y : X) → slice_get xs k ≡ Some x → y ≡ get_or xs k y → y ≡ x
get_is [] k x y is read = absurd (cc)
get_is (first ∷ xs) zero x y is read = read ∙ cc
get_is (first ∷ xs) (suc k) x y is read = get_is xs k x y is read

module _ (run : Composition) (owners : List ℕ) (me : ℕ) (states : List (List ℤ)) (instance : ℕ) (one : At run owners states instance) where
  abbrev pub own_standing : Standing
  own_standing = (one.member, own_state me (one.owner, one.state))

  pub item_is : (at : Position) → at.states ≡ own_states owners me states → slice_get (zip owners (standings run at)) instance ≡ Some (one.owner, own_standing)
  item_is at are =
      let own : slice_get at.states instance ≡ Some (own_state me (one.owner, one.state)) =
      ap (λ all. slice_get all instance) are ∙ mapped_at (own_state me) (zip owners states) instance (one.owner, one.state)
      (zip_there owners states instance one.owner one.state one.owned one.state_is) in
      zip_there owners (standings run at) instance one.owner own_standing one.owned
      (zip_there run.members at.states instance one.member (own_state me (one.owner, one.state)) one.member_is own)

  -- Where the node owns the instance, its state is that of its unit.
  own_same : (one.owner == me) ≡ true → own_standing ≡ (one.member, one.state)
  own_same is = ap (λ test. (one.member, if test then one.state else [])) is

  -- What is made by a test of the owner is made of the item.
  by_owner : (test : Bool) (make : Standing → Making) (now : Making) (empty : Bool) → (test ≡ true → own_standing ≡ (one.member, one.state))
      → (if test && empty then make (one.member, one.state) else now) ≡ (if test && empty then make own_standing else now)
  by_owner false make now empty same = refl
  by_owner true make now empty same = ap (λ standing. if empty then make standing else now) (sym (same refl))

  pub limit_is : (at : Position) (ports : Ports) (row t : ℕ) (own : Bool) (now next : Making) → IsPartOf owners me states row t at → own ≡ (one.owner == me)
      → next ≡ limit_if own row t ports (one.member, one.state) instance now → next ≡ with_limit me at ports now (instance, (one.owner, own_standing))
  limit_is at ports row t own now next part own_is is =
      is
      ∙ ap (λ test. limit_if test row t ports (one.member, one.state) instance now) own_is
      ∙ by_owner (one.owner == me) (λ standing. record {
        known = record now.known {
          limits = slice_set now.known.limits instance
              (Some (asked_of (max_at t ports standing)));
        };
        facts = now.facts ++ Limit row instance (asked_of (max_at t ports standing)) ∷ [];
      }) now
      (is_none (entry now.known.limits instance)) own_same
      ∙ ap₂ (λ time number. limit_if (one.owner == me) number time ports own_standing instance now) (sym part.time) (sym part.number)

  pub reply_is_made : (at : Position) (ports : Ports) (redo : Bool) (row t h : ℕ) (own : Bool) (now next : Making) → IsPartOf owners me states row t at
      → own ≡ (one.owner == me)
      → next ≡ reply_if redo own row t h ports (one.member, one.state) instance now
      → next ≡ with_said redo me at ports h now (instance, (one.owner, own_standing))
  reply_is_made at ports redo row t h own now next part own_is is =
      is
      ∙ ap (λ test. reply_if redo test row t h ports (one.member, one.state) instance now) own_is
      ∙ by_owner (one.owner == me) (λ standing. put_said redo row instance (option_map said_of (step_at t h ports standing)) now) now
      (is_none (said_entry redo now.known instance)) own_same
      ∙ ap₂ (λ time number. reply_if redo (one.owner == me) number time h ports own_standing instance now) (sym part.time) (sym part.number)
      ∙ by_redo redo
    where
      by_redo : (redo : Bool) → reply_if redo (one.owner == me) at.number at.point.t h ports own_standing instance now ≡ with_said redo me at ports h now
          (instance, (one.owner, own_standing))
      by_redo true = refl
      by_redo false = refl

  pub stepped_at : (t h : ℕ) (ports : Ports) → slice_get (stepped run owners me t h ports states) instance ≡ Some
      (stepped_if (one.owner == me) t h ports (one.member, one.state))
  stepped_at t h ports =
      mapped_at (stepped_one me t h ports) (zip owners (zip run.members states)) instance (one.owner, (one.member, one.state))
      (zip_there owners (zip run.members states) instance one.owner (one.member, one.state) one.owned
      (zip_there run.members states instance one.member one.state one.member_is one.state_is))

-- ---- The node's own states after a step

pub own_stepped : (me t h : ℕ) (ports : Ports) (owners : List ℕ) (members : List Member) (states : List (List ℤ)) → length owners ≡ length members
    → length states ≡ length members
    → own_states owners me (map (stepped_one me t h ports) (zip owners (zip members states))) ≡ own_states owners me
    (map state_after (zip states (map (step_at t h ports) (zip members states))))
own_stepped me t h ports [] members states owns long = refl
own_stepped me t h ports (owner ∷ owners) [] states owns long = absurd (omega (arith, owns))
own_stepped me t h ports (owner ∷ owners) (member ∷ members) [] owns long = absurd (omega (arith, long))
own_stepped me t h ports (owner ∷ owners) (member ∷ members) (state ∷ states) owns long =
    ap₂ (λ first rest. first ∷ rest) (by_test (owner == me)) (own_stepped me t h ports owners members states (omega (arith, owns)) (omega (arith, long)))
  where
    by_test : (test : Bool) → (if test then (if test then state_after (state, step_at t h ports (member, state)) else state) else []) ≡
        (if test then state_after (state, step_at t h ports (member, state)) else [])
    by_test true = refl
    by_test false = refl

-- ---- One more instance

module _ (run : Composition) (owners : List ℕ) (me : ℕ) (states now_states : List (List ℤ)) (owns : length owners ≡ length run.members)
    (long : length states ≡ length run.members) (states_are : now_states ≡ states)
    (instance : ℕ) (within : instance < length run.members) (d : ℕ) where
  abbrev one : At run owners states instance
  one = at_instance run owners states instance owns long within

  own_is : (get_or owners instance d == me) ≡ (one.owner == me)
  own_is = ap (λ o. o == me) (same_Some (get_or owners instance d) one.owner
      (sym (slice_get-get_or owners instance d (omega (arith, within, owns))) ∙ one.owned))

  state_there : slice_get now_states instance ≡ Some one.state
  state_there = ap (λ all. slice_get all instance) states_are ∙ one.state_is

  pub limit_step : (point : Point) (row : ℕ) (ports : Ports) (start now next : Making)
      → ((member : Member) (state : List ℤ) → slice_get run.members instance ≡ Some member → slice_get now_states instance ≡ Some state
      → next ≡ limit_if (get_or owners instance d == me) row point.t ports (member, state) instance now)
      → Going (with_limit me (part_at owners me point row states) ports) (zip owners (standings run (part_at owners me point row states))) start now instance
      → Going (with_limit me (part_at owners me point row states) ports) (zip owners (standings run (part_at owners me point row states))) start next
      (instance + 1)
  limit_step point row ports start now next made so =
      let at = part_at owners me point row states in
      goes_on (with_limit me at ports) (zip owners (standings run at)) start now next instance (one.owner, own_standing run owners me states instance one)
      (item_is run owners me states instance one at refl)
      (limit_is run owners me states instance one at ports row point.t (get_or owners instance d == me) now next
      (record { states_are = refl; number = refl; time = refl }) own_is (made one.member one.state one.member_is state_there)) so

  pub reply_step : (redo : Bool) (point : Point) (row h : ℕ) (ports : Ports) (start now next : Making)
      → ((member : Member) (state : List ℤ) → slice_get run.members instance ≡ Some member → slice_get now_states instance ≡ Some state
      → next ≡ reply_if redo (get_or owners instance d == me) row point.t h ports (member, state) instance now)
      → Going (with_said redo me (part_at owners me point row states) ports h)
      (zip owners (standings run (part_at owners me point row states))) start now instance
      → Going (with_said redo me (part_at owners me point row states) ports h) (zip owners (standings run (part_at owners me point row states))) start next
      (instance + 1)
  reply_step redo point row h ports start now next made so =
      let at = part_at owners me point row states in
      goes_on (with_said redo me at ports h) (zip owners (standings run at)) start now next instance
      (one.owner, own_standing run owners me states instance one) (item_is run owners me states instance one at refl)
      (reply_is_made run owners me states instance one at ports redo row point.t h (get_or owners instance d == me) now next
      (record { states_are = refl; number = refl; time = refl }) own_is (made one.member one.state one.member_is state_there)) so

pub items_long : (run : Composition) (owners : List ℕ) (me : ℕ) (point : Point) (row : ℕ) (states : List (List ℤ)) → length owners ≡ length run.members
    → length states ≡ length run.members
    → length (zip owners (standings run (part_at owners me point row states))) ≡ length run.members
items_long run owners me point row states owns long =
    let own = length-map (zip owners states) (own_state me) ∙ as_many_zipped owners states (long ∙ sym owns) in
    as_many_zipped owners (standings run (part_at owners me point row states))
    (as_many_zipped run.members (own_states owners me states) (own ∙ owns) ∙ sym owns) ∙ owns

-- ---- What isn't required isn't made

pub limits_stay : (run : Composition) (owners : List ℕ) (me : ℕ) (at : Position) (stage : Stage) (making : Making) → (stage ≡ Limits → ⊥)
    → making ≡ limits_by run owners me at stage making
limits_stay run owners me at Limits making other = absurd (other refl)
limits_stay run owners me at Words making other = refl
limits_stay run owners me at (Trial h) making other = refl
limits_stay run owners me at (Redo h) making other = refl
limits_stay run owners me at (Over ending) making other = refl
limits_stay run owners me at (On h) making other = refl
