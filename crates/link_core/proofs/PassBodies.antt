-- Loops that make facts, item by item.
use Rattle.std.proofs.Common.{◌≡◌, ◌∙◌, ℕ, zero, suc, ◌+◌, ◌-◌, ◌<◌, ◌≤◌, ◌==◌, Bool, true, false, ◌&&◌, is_none, ℤ, List, [], ◌∷◌, ◌++◌, length, map, drop}
use Rattle.std.proofs.Common.{Some, refl, sym, ap, ap₂, subst, arith, append_assoc}
use Rattle.std.proofs.lemmas.Option.{same_Some, slice_get_within}
use Rattle.std.proofs.lemmas.Slice.Zip.{AllZip-long}
use Rattle.std.specs.Prelude.{zip, if◌then◌else◌, slice_get, IfSome}
use Rattle.port_solve.proofs.OutputPlaces.{outlet_of}
use Rattle.run_laws.proofs.AssignmentLaws.{outlets_count}
use Rattle.unit_tree.specs.Routes.{routes_of}
use Rattle.unit_tree.specs.declared.order.Route.{Route}
use Rattle.unit_tree.proofs.RouteLaws.{count_is}
use Rattle.std.specs.List.{AllZip, enumerate_from, flat_map}
use Rattle.link_laws.specs.Boards.{entry}
use Rattle.link_laws.specs.Making.{own_state, own_states, held_outlets, held, determined, put_word, with_word, each, passes}
use Rattle.link_laws.specs.Nodes.{Making}
use Rattle.link_laws.proofs.RuleLaws.{held_same, IsSame}
use Rattle.list_laws.proofs.Members.{at_seam, at_place}
use Rattle.list_laws.proofs.Pairs.{zip_append, zip_at}
use Rattle.unit_tree.specs.Compositions.{Composition, Member}
use Rattle.unit_tree.specs.Ports.{Outlet, Standing, outlets, outlets_of}
use Rattle.unit_tree.specs.declared.unit.Output.{Output}

-- ---- Numbered items

pub numbered_next : {X : Type 0} (xs : List X) (from k : ℕ) (x : X) → slice_get xs k ≡ Some x
    → drop k (enumerate_from from xs) ≡ (from + k, x) ∷ drop (suc k) (enumerate_from from xs)
numbered_next [] from k x is = absurd (cc)
numbered_next (first ∷ xs) from zero x is =
    let same : first ≡ x = cc in
    let at : from ≡ from + 0 = omega arith in
    ap₂ (λ number one. (number, one) ∷ enumerate_from (from + 1) xs) at same
numbered_next (first ∷ xs) from (suc k) x is =
    let at : from + 1 + k ≡ from + suc k = omega arith in
    numbered_next xs (from + 1) k x is ∙ ap (λ number. (number, x) ∷ drop (suc k) (enumerate_from (from + 1) xs)) at

numbered_end : {X : Type 0} (xs : List X) (from k : ℕ) → length xs ≤ k → drop k (enumerate_from from xs) ≡ []
numbered_end [] from zero past = refl
numbered_end [] from (suc k) past = refl
numbered_end (x ∷ xs) from zero past = absurd (omega (arith, past))
numbered_end (x ∷ xs) from (suc k) past = numbered_end xs (from + 1) k (omega (arith, past))

-- Making what is left, after what was made so far, makes all that had to be made.
pub record Going {X : Type 0} (make : Making → ℕ × X → Making) (xs : List X) (start now : Making) (k : ℕ) : Type 0 where
  pub rest : each make now (drop k (enumerate_from 0 xs)) ≡ each make start (enumerate_from 0 xs)

pub goes_on : {X : Type 0} (make : Making → ℕ × X → Making) (xs : List X) (start now next : Making) (k : ℕ) (x : X) → slice_get xs k ≡ Some x
    → next ≡ make now (k, x) → Going make xs start now k → Going make xs start next (k + 1)
goes_on make xs start now next k x is made so = record {
  rest =
      ap₂ (λ one count. each make one (drop count (enumerate_from 0 xs))) made (more k)
      ∙ sym (ap (each make now) (numbered_next xs 0 k x is ∙ ap (λ number. (number, x) ∷ drop (suc k) (enumerate_from 0 xs)) (none_before k)))
      ∙ so.rest;
}
  where
    more : (k : ℕ) → k + 1 ≡ suc k
    more k = omega arith

    none_before : (k : ℕ) → 0 + k ≡ k
    none_before k = omega arith

pub gone : {X : Type 0} (make : Making → ℕ × X → Making) (xs : List X) (start now : Making) (k : ℕ) → length xs ≤ k → Going make xs start now k
    → now ≡ each make start (enumerate_from 0 xs)
gone make xs start now k past so = sym (ap (each make now) (numbered_end xs 0 k past)) ∙ so.rest

-- ---- Outputs and their owners

abbrev IsOwned : List ℕ → ℕ × Outlet → Outlet → Type 0
IsOwned owners (owner, one) outlet = slice_get owners outlet.instance ≡ Some owner

abbrev outlet_by : ℕ → Standing → ℕ × Output → Outlet
outlet_by instance standing counted = record { standing = standing; instance = instance; output = counted.1; number = counted.0 }

outlets_owned : (owners : List ℕ) (owner instance : ℕ) (one other : Standing) (counted : List (ℕ × Output)) → slice_get owners instance ≡ Some owner
    → AllZip (IsOwned owners) (map (λ outlet. (owner, outlet)) (map (outlet_by instance one) counted)) (map (outlet_by instance other) counted)
outlets_owned owners owner instance one other [] is = tt
outlets_owned owners owner instance one other (first ∷ counted) is = (is, outlets_owned owners owner instance one other counted is)

held_owned : (me from : ℕ) (front owners : List ℕ) (members : List Member) (states : List (List ℤ)) → from ≡ length front → length owners ≡ length members
    → length states ≡ length members
    → AllZip (IsOwned (front ++ owners)) (flat_map held_outlets (zip owners (enumerate_from from (zip members (own_states owners me states)))))
    (flat_map outlets_of (enumerate_from from (zip members states)))
held_owned me from front [] [] states at owns long = tt
held_owned me from front (owner ∷ owners) [] states at owns long = absurd (omega arith)
held_owned me from front [] (member ∷ members) states at owns long = absurd (omega arith)
held_owned me from front (owner ∷ owners) (member ∷ members) [] at owns long = absurd (omega arith)
held_owned me from front (owner ∷ owners) (member ∷ members) (state ∷ states) at owns long =
    zip_append (IsOwned (front ++ owner ∷ owners)) (held_outlets (owner, (from, (member, own_state me (owner, state)))))
    (flat_map held_outlets (zip owners (enumerate_from (from + 1) (zip members (own_states owners me states))))) (outlets_of (from, (member, state)))
    (flat_map outlets_of (enumerate_from (from + 1) (zip members states)))
    (outlets_owned (front ++ owner ∷ owners) owner from (member, own_state me (owner, state)) (member, state) (enumerate_from 0 member.component.unit.outputs)
    (ap (slice_get (front ++ owner ∷ owners)) at ∙ at_seam front owner owners))
    (subst (λ all. AllZip (IsOwned all) (flat_map held_outlets (zip owners (enumerate_from (from + 1) (zip members (own_states owners me states)))))
    (flat_map outlets_of (enumerate_from (from + 1) (zip members states)))) (append_assoc front (owner ∷ []) owners)
    (held_owned me (from + 1) (front ++ owner ∷ []) owners members states (longer front owner from at) (omega arith) (omega arith)))
  where
    longer : (front : List ℕ) (y from : ℕ) → from ≡ length front → from + 1 ≡ length (front ++ y ∷ [])
    longer [] y from is = omega (arith, is)
    longer (one ∷ front) y from is = let rest = longer front y (length front) refl in omega (arith, is, rest)

module _ (run : Composition) (owners : List ℕ) (me : ℕ) (states : List (List ℤ)) (owns : length owners ≡ length run.members)
    (long : length states ≡ length run.members) where
  abbrev pub items : List (ℕ × Outlet)
  items = held run owners (own_states owners me states)

  same : AllZip (IsSame me) items (outlets run states)
  same = held_same me 0 owners run.members states owns long

  pub as_many_held : length items ≡ length (outlets run states)
  as_many_held = sym (AllZip-long (IsSame me) items (outlets run states) same)

  -- The item at the place of an output.
  pub record HeldAt (place : ℕ) (outlet : Outlet) : Type 0 where
    pub owner : ℕ
    pub one : Outlet
    pub is : slice_get items place ≡ Some (owner, one)
    pub owned : slice_get owners outlet.instance ≡ Some owner
    pub same : (owner == me) ≡ true → one ≡ outlet

  pub held_at : (place : ℕ) (outlet : Outlet) → slice_get (outlets run states) place ≡ Some outlet → HeldAt place outlet
  held_at place outlet there =
      let within : place < length items = omega (arith, slice_get_within (outlets run states) place outlet there, as_many_held) in
      let item = at_place items place within in
      let beside = zip_at (IsSame me) items (outlets run states) place item.0 same item.1 in
      let owned = zip_at (IsOwned owners) items (outlets run states) place item.0 (held_owned me 0 [] owners run.members states refl owns long) item.1 in
      record {
        owner = item.0.0;
        one = item.0.1;
        is = item.1;
        owned = subst (λ (o : Outlet). slice_get owners o.instance ≡ Some item.0.0) (same_Some owned.other outlet (sym owned.is ∙ there)) owned.related;
        same = λ own. beside.related own ∙ same_Some beside.other outlet (sym beside.is ∙ there);
      }

  -- The fact of an output is that of its item.
  pub word_is : (row place : ℕ) (outlet : Outlet) (at : HeldAt place outlet) (own : Bool) (now next : Making) → own ≡ (at.owner == me)
      → next ≡ (if own && is_none (entry now.known.words place) then put_word row place (determined now.known.words outlet) now else now)
      → next ≡ with_word me row now (place, (at.owner, at.one))
  word_is row place outlet at own now next own_is is =
      is ∙ ap (λ test. if test && is_none (entry now.known.words place) then put_word row place (determined now.known.words outlet) now else now) own_is
      ∙ by_test (at.owner == me) at.same
    where
      by_test : (test : Bool) → (test ≡ true → at.one ≡ outlet)
          → (if test && is_none (entry now.known.words place) then put_word row place (determined now.known.words outlet) now else now)
          ≡ (if test && is_none (entry now.known.words place) then put_word row place (determined now.known.words at.one) now else now)
      by_test false there = refl
      by_test true there = ap (λ one. if is_none (entry now.known.words place) then put_word row place (determined now.known.words one) now else now)
          (sym (there refl))

  -- One more output.
  pub pass_step : (row place number found : ℕ) (now_states : List (List ℤ)) (start now next : Making) → number ≡ place → now_states ≡ states
      → place < length (routes_of run).outputs
      → IfSome (slice_get (routes_of run).outputs place) (λ route. slice_get owners route.instance ≡ Some found)
      → ((outlet : Outlet) → slice_get (outlets run now_states) number ≡ Some outlet
      → next ≡ (if (found == me) && is_none (entry now.known.words number) then put_word row number (determined now.known.words outlet) now else now))
      → Going (with_word me row) items start now place → Going (with_word me row) items start next (place + 1)
  pass_step row place number found now_states start now next number_is states_are within owner_is made so =
      let route = at_place (routes_of run).outputs place within in
      let out = outlet_of run states place route.0 long route.1 in
      let at = held_at place out.outlet out.is in
      let owned : slice_get owners route.0.instance ≡ Some found =
      subst (λ one. IfSome one (λ (r : Route). slice_get owners r.instance ≡ Some found)) route.1 owner_is in
      let same_owner : found ≡ at.owner = same_Some found at.owner (sym owned ∙ sym (ap (slice_get owners) out.instance) ∙ at.owned) in
      let there : slice_get (outlets run now_states) number ≡ Some out.outlet = ap₂ (λ all p. slice_get (outlets run all) p) states_are number_is ∙ out.is in
      let made_at : next ≡ (if (found == me) && is_none (entry now.known.words place) then put_word row place (determined now.known.words out.outlet) now
      else now) =
      made out.outlet there ∙ ap (λ p. if (found == me) && is_none (entry now.known.words p) then put_word row p (determined now.known.words out.outlet) now
      else now) number_is in
      goes_on (with_word me row) items start now next place (at.owner, at.one) at.is
      (word_is row place out.outlet at (found == me) now next (ap (λ o. o == me) same_owner) made_at) so

  pub items_count : length items ≡ length (routes_of run).outputs
  items_count = as_many_held ∙ outlets_count run states long ∙ sym (count_is run)

-- ---- From pass to pass

-- As many passes as are left lead from what was made so far to the result of all passes.
pub record Turning (me row : ℕ) (outs : List (ℕ × (ℕ × Outlet))) (count : ℕ) (start now : Making) (turn : ℕ) : Type 0 where
  pub rest : (left : ℕ) → left + turn ≡ count → passes me row outs left now ≡ passes me row outs count start

pub turns_on : (me row : ℕ) (outs : List (ℕ × (ℕ × Outlet))) (count : ℕ) (start now next : Making) (turn : ℕ) → next ≡ each (with_word me row) now outs
    → Turning me row outs count start now turn → Turning me row outs count start next (turn + 1)
turns_on me row outs count start now next turn is so = record { rest = λ left sum. ap (passes me row outs left) is ∙ so.rest (suc left) (omega (arith, sum)) }

stays : (me row : ℕ) (outs : List (ℕ × (ℕ × Outlet))) (more : ℕ) (making : Making) → each (with_word me row) making outs ≡ making
    → passes me row outs more making ≡ making
stays me row outs zero making is = refl
stays me row outs (suc more) making is = ap (passes me row outs more) is ∙ stays me row outs more making is

pub turned : (me row : ℕ) (outs : List (ℕ × (ℕ × Outlet))) (count : ℕ) (start now : Making) (turn : ℕ) → count ≤ turn → turn ≤ count
    → Turning me row outs count start now turn
    → now ≡ passes me row outs count start
turned me row outs count start now turn past within so = so.rest 0 (omega (arith, past, within))

pub stopped : (me row : ℕ) (outs : List (ℕ × (ℕ × Outlet))) (count : ℕ) (start now next : Making) (turn : ℕ) → turn ≤ count
    → next ≡ each (with_word me row) now outs → next ≡ now
    → Turning me row outs count start now turn → next ≡ passes me row outs count start
stopped me row outs count start now next turn within is same so =
    same ∙ sym (stays me row outs (count - turn) now (sym is ∙ same)) ∙ so.rest (count - turn) (omega (arith, within))
