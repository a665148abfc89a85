-- Loops over all instances: lists that are changed element by element, limits and snapshots.
use Rattle.std.proofs.Common.{◌≡◌, ◌∙◌, Bool, true, false, nat_eq, ℕ, zero, suc, ◌+◌, ◌<◌, ◌≤◌, ℤ, List, [], ◌∷◌, ◌++◌, length, map, take, drop, get_or, set}
use Rattle.std.proofs.Common.{◌-◌, min, is_some, Option, Some, None, Result, Ok, Err, refl, ap, sym, subst, arith, append_assoc, length-set, get_or-set_same}
use Rattle.std.proofs.Common.{get_or-set_other}
use Rattle.std.proofs.lemmas.List.{drop_more, drop_all, take_more, set_at, get_or_at, length-take-le, length-map}
use Rattle.std.proofs.lemmas.List.{get_or-map}
use Rattle.std.proofs.lemmas.Bool.Decides.{nat_tests}
use Rattle.std.proofs.lemmas.Slice.Zip.{length-zip}
use Rattle.std.proofs.lemmas.Option.{same_Some, get_or_from_slice_get}
use Rattle.std.specs.Prelude.{zip, slice_get, IsSome, if◌then◌else◌}
use Rattle.std.specs.List.{AllByRecursion, AllZip}
use Rattle.fixed_words.specs.declared.types.Fault.{Fault}
use Rattle.snap_store.specs.Store.{Store, words_of, IsLive, HasLength, KeepsOthers}
use Rattle.port_solve.specs.Solved.{HaveStates, HaveInputs}
use Rattle.super_time.specs.LocalTime.{local_time}
use Rattle.trace_core.specs.Seats.{AreAsLong, AreSaved, saved, HaveOwnIds, IsCommitted, max_told, all_told}
use Rattle.trace_core.specs.Seats.{limit_by_told, limits_told, asked}
use Rattle.step_rule.specs.Limits.{with_limit}
use Rattle.step_rule.specs.Steps.{ending_or}
use Rattle.step_rule.proofs.LimitLaws.{Proposes, none_proposed, proposed_is, proposes_next}
use Rattle.step_rule.proofs.StepLaws.{EndFrom, end_here, end_next, end_none}
use Rattle.trace_plan.specs.Plans.{Planned, ForMember, places_from, has_max}
use Rattle.trace_units.specs.Fleets.{Fleet, ForUnit, with_state}
use Rattle.trace_core.specs.declared.seat.Seat.{Seat}
use Rattle.unit_tree.specs.Compositions.{Member, Composition}
use Rattle.unit_tree.specs.Components.{max_of, limit_by, environment_of}
use Rattle.unit_tree.specs.Negotiation.{limit_told, proposal_of}
use Rattle.unit_tree.specs.Successor.{max_end_of}
use Rattle.unit_tree.specs.declared.ending.Ending.{Ending}
use Rattle.list_laws.proofs.Members.{at_place}
use Rattle.list_laws.proofs.Pairs.{zip_at, zip_there}
use Rattle.list_laws.proofs.Options.{none_told}

-- ---- A list that is changed element by element

module _ {A : Type 0} (R : ℕ → A → A → Type 0) where
  -- The elements before a place are changed, and the others are as they were.
  pub record Turned (old now : List A) (place : ℕ) : Type 0 where
    pub as_many : length now ≡ length old
    pub changed : (k : ℕ) (default : A) → k < place → k < length old → R k (get_or old k default) (get_or now k default)
    pub kept : (k : ℕ) (default : A) → place ≤ k → get_or now k default ≡ get_or old k default

  pub none_turned : (old : List A) → Turned old old 0
  none_turned old = record { as_many = refl; changed = λ k default before. absurd (omega (arith, before)); kept = λ k default behind. refl }

  pub one_turned : (old now : List A) (place : ℕ) (new : A) → place < length old → Turned old now place
      → ((default : A) → R place (get_or old place default) new) → Turned old (set now place new) (place + 1)
  one_turned old now place new within so_far is = record {
    as_many = length-set now place new ∙ so_far.as_many;
    changed =
        λ k default before there. grind
        (arith, so_far.changed k default, is default, get_or-set_same now place new default, get_or-set_other now place k new default, so_far.as_many);
    kept = λ k default behind. grind (arith, get_or-set_other now place k new default, so_far.kept k default);
  }

-- With the members that the elements belong to.
pub zip_of : {M A : Type 0} (S : M → A → A → Type 0) (members : List M) (old new : List A) → length old ≡ length members → length new ≡ length old
    → ((k : ℕ) (default : A) → k < length old → (member : M) → slice_get members k ≡ Some member → S member (get_or old k default) (get_or new k default))
    → AllZip (λ member pair. S member pair.0 pair.1) members (zip old new)
zip_of S [] [] new many as_many each = tt
zip_of S [] (one ∷ old) new many as_many each = absurd (omega (arith, many))
zip_of S (member ∷ members) [] new many as_many each = absurd (omega (arith, many))
zip_of S (member ∷ members) (one ∷ old) [] many as_many each = absurd (omega (arith, as_many))
zip_of S (member ∷ members) (one ∷ old) (other ∷ new) many as_many each = (
  each 0 one (omega arith) member refl,
  zip_of S members old new (omega (arith, many)) (omega (arith, as_many)) (λ k default within. each (suc k) default (omega (arith, within))),
)

-- ---- Lists with one element for each

pub zip_read : {A B : Type 0} (R : A → B → Type 0) (xs : List A) (ys : List B) (k : ℕ) (x : A) (y : B) → AllZip R xs ys → k < length xs
    → R (get_or xs k x) (get_or ys k y)
zip_read R [] ys k x y all within = absurd (omega (arith, within))
zip_read R (one ∷ xs) [] k x y all within = absurd all
zip_read R (one ∷ xs) (other ∷ ys) zero x y all within = all.0
zip_read R (one ∷ xs) (other ∷ ys) (suc k) x y all within = zip_read R xs ys k x y all.1 (omega (arith, within))

pub zip_made : {A B : Type 0} (R : A → B → Type 0) (xs : List A) (ys : List B) (y : B) → length ys ≡ length xs
    → ((k : ℕ) (x : A) → k < length xs → R (get_or xs k x) (get_or ys k y)) → AllZip R xs ys
zip_made R [] [] y many each = tt
zip_made R [] (other ∷ ys) y many each = absurd (omega (arith, many))
zip_made R (one ∷ xs) [] y many each = absurd (omega (arith, many))
zip_made R (one ∷ xs) (other ∷ ys) y many each =
    (each 0 one (omega arith), zip_made R xs ys y (omega (arith, many)) (λ k x within. each (suc k) x (omega (arith, within))))

pub all_read : {A : Type 0} (P : A → Type 0) (xs : List A) (k : ℕ) (x : A) → AllByRecursion P xs → k < length xs → P (get_or xs k x)
all_read P [] k x all within = absurd (omega (arith, within))
all_read P (one ∷ xs) zero x all within = all.0
all_read P (one ∷ xs) (suc k) x all within = all_read P xs k x all.1 (omega (arith, within))

pub long_at : (ones others : List (List ℤ)) (k : ℕ) → AreAsLong ones others → length (get_or ones k []) ≡ length (get_or others k [])
long_at [] [] k same = refl
long_at [] (other ∷ others) k same = absurd (cc)
long_at (one ∷ ones) [] k same = absurd (cc)
long_at (one ∷ ones) (other ∷ others) zero same = cc
long_at (one ∷ ones) (other ∷ others) (suc k) same = long_at ones others k (cc)

pub long_as : (ones others : List (List ℤ)) → AreAsLong ones others → length ones ≡ length others
long_as ones others same = sym (length-map ones length) ∙ ap length same ∙ length-map others length

-- ---- The limits of all instances

told_at : (t : ℕ) (members : List Member) (states inputs : List (List ℤ)) (k : ℕ) (member : Member) (state words : List ℤ) → slice_get members k ≡ Some member
    → slice_get states k ≡ Some state → slice_get inputs k ≡ Some words
    → slice_get (all_told t members states inputs) k ≡ Some (max_told t (member, (state, words)))
told_at t [] states inputs k member state words member_is state_is words_are = absurd (cc)
told_at t (one ∷ members) [] inputs k member state words member_is state_is words_are = absurd (cc)
told_at t (one ∷ members) (had ∷ states) [] k member state words member_is state_is words_are = absurd (cc)
told_at t (one ∷ members) (had ∷ states) (fed ∷ inputs) zero member state words member_is state_is words_are =
    ap (λ some. Some (max_told t (some, (had, fed)))) (same_Some one member member_is)
    ∙ ap (λ some. Some (max_told t (member, (some, fed)))) (same_Some had state state_is)
    ∙ ap (λ some. Some (max_told t (member, (state, some)))) (same_Some fed words words_are)
told_at t (one ∷ members) (had ∷ states) (fed ∷ inputs) (suc k) member state words member_is state_is words_are =
    told_at t members states inputs k member state words member_is state_is words_are

-- The result of an instance, with its member.
pub record HasTold (t instance factor : ℕ) (members : List Member) (told : List (Result (Option ℕ) Fault)) (one : Result (Option ℕ) Fault) : Type 0 where
  pub member : Member
  pub member_is : slice_get members instance ≡ Some member
  pub factor_is : factor ≡ member.factor
  pub told_is : slice_get told instance ≡ Some one

has_told : (t instance factor : ℕ) (run : Composition) (states inputs : List (List ℤ)) (one : Result (Option ℕ) Fault) → HaveStates run states
    → HaveInputs run inputs → instance < length run.members → ForMember run instance (λ member. factor ≡ member.factor)
    → ((member : Member) (state words : List ℤ) → slice_get run.members instance ≡ Some member → slice_get states instance ≡ Some state
    → slice_get inputs instance ≡ Some words → max_of member.component state words (local_time factor t) ≡ one)
    → HasTold t instance factor run.members (all_told t run.members states inputs) one
has_told t instance factor run states inputs one have_states have_inputs within factors gives =
    let at = at_place run.members instance within in
    let state =
    zip_at (λ (member : Member) (state : List ℤ). length state ≡ length member.component.unit.states) run.members states instance at.0 have_states at.1 in
    let fed =
    zip_at (λ (member : Member) (words : List ℤ). length words ≡ length member.component.unit.inputs) run.members inputs instance at.0 have_inputs at.1 in
    let factor_is : factor ≡ at.0.factor = factors at.0 at.1 in
    let is : max_told t (at.0, (state.other, fed.other)) ≡ one =
    ap (λ n. max_of at.0.component state.other fed.other (local_time n t)) (sym factor_is) ∙ gives at.0 state.other fed.other at.1 state.is fed.is in
    record {
      member = at.0;
      member_is = at.1;
      factor_is = factor_is;
      told_is = told_at t run.members states inputs instance at.0 state.other fed.other at.1 state.is fed.is ∙ ap Some is;
    }

-- The limit of a unit of a plan is computed at its member's local time.
pub unit_told : (t instance factor time : ℕ) (plan : Planned) (fleet now : Fleet) (one : Result (Option ℕ) Fault) → fleet.plan ≡ plan → now ≡ fleet
    → time ≡ local_time factor t → HaveStates fleet.plan.run fleet.states → HaveInputs fleet.plan.run fleet.inputs → instance < length fleet.plan.run.members
    → ForMember plan.run instance (λ member. factor ≡ member.factor)
    → ForUnit now instance (λ member state words. max_of member.component state words time ≡ one)
    → HasTold t instance factor plan.run.members (all_told t plan.run.members fleet.states fleet.inputs) one
unit_told t instance factor time plan fleet now one tied kept time_is have_states have_inputs within factors gives =
    let gives_then : ForUnit fleet instance (λ member state words. max_of member.component state words (local_time factor t) ≡ one) =
    subst (λ n. ForUnit fleet instance (λ member state words. max_of member.component state words n ≡ one)) time_is
    (subst (λ some. ForUnit some instance (λ member state words. max_of member.component state words time ≡ one)) kept gives) in
    has_told t instance factor plan.run fleet.states fleet.inputs one (subst (λ (p : Planned). HaveStates p.run fleet.states) tied have_states)
    (subst (λ (p : Planned). HaveInputs p.run fleet.inputs) tied have_inputs)
    (subst (λ (p : Planned). instance < length p.run.members) tied within) factors
    (λ member state words member_is. gives_then member state words
    (subst (λ (p : Planned). slice_get p.run.members instance ≡ Some member) (sym tied) member_is))

-- No instance before a place ended the run, and this is the proposed step by their limits.
pub record AskedSoFar (t : ℕ) (members : List Member) (told : List (Result (Option ℕ) Fault)) (first place least : ℕ) : Type 0 where
  pub no_end : EndFrom max_end_of told place
  pub proposes : Proposes (limit_by_told t) (zip members told) first place least

pub one_asked : (t : ℕ) (members : List Member) (told : List (Result (Option ℕ) Fault)) (first place least factor : ℕ) (one : Result (Option ℕ) Fault)
    → HasTold t place factor members told one → max_end_of (place, one) ≡ None → AskedSoFar t members told first place least
    → AskedSoFar t members told first (place + 1) (with_limit least (limit_told factor t one))
one_asked t members told first place least factor one has none so_far = record {
  no_end = end_next max_end_of told place one has.told_is (ap is_some none) so_far.no_end;
  proposes =
      subst (λ f. Proposes (limit_by_told t) (zip members told) first (place + 1) (with_limit least (limit_told f t one))) (sym has.factor_is)
      (proposes_next (limit_by_told t) (zip members told) first place least (has.member, one)
      (zip_there members told place has.member one has.member_is has.told_is) so_far.proposes);
}

pub asked_fault : (run : Composition) (t first place least factor : ℕ) (told : List (Result (Option ℕ) Fault)) (one : Result (Option ℕ) Fault) (ending : Ending)
    → HasTold t place factor run.members told one → max_end_of (place, one) ≡ Some ending → AskedSoFar t run.members told first place least
    → Err ending ≡ asked run t told
asked_fault run t first place least factor told one ending has ends so_far =
    ap (λ end. ending_or end (proposal_of run.stop run.longest t (limits_told t run.members told)))
    (sym ends ∙ end_here max_end_of told place one has.told_is (ap is_some ends) so_far.no_end)

pub all_asked : (run : Composition) (t place least : ℕ) (told : List (Result (Option ℕ) Fault)) → length run.members ≤ place → length told ≤ place
    → AskedSoFar t run.members told (min (run.stop - t) run.longest) place least → Ok least ≡ asked run t told
all_asked run t place least told past told_past so_far =
    ap (λ l. Ok l)
    (proposed_is (limit_by_told t) (zip run.members told) run.stop run.longest t place least (omega (arith, length-zip run.members told, past))
    so_far.proposes)
    ∙ ap (λ end. ending_or end (proposal_of run.stop run.longest t (limits_told t run.members told)))
    (end_none max_end_of told place told_past so_far.no_end)

pub told_many : (t : ℕ) (members : List Member) (states inputs : List (List ℤ)) → length (all_told t members states inputs) ≤ length members
told_many t [] states inputs = omega arith
told_many t (member ∷ members) [] inputs = omega arith
told_many t (member ∷ members) (state ∷ states) [] = omega arith
told_many t (member ∷ members) (state ∷ states) (words ∷ inputs) = let fewer = told_many t members states inputs in omega arith

-- ---- Those that set no limit

-- The limits of all instances before a place were computed, or they set none. Those that are left are the ones from there on with a limit.
pub record Asking (t : ℕ) (members : List Member) (told : List (Result (Option ℕ) Fault)) (waiting : List ℕ) (first least : ℕ) : Type 0 where
  pub place : ℕ
  pub within : place ≤ length members
  pub are : waiting ≡ places_from place (map has_max (drop place members))
  pub so_far : AskedSoFar t members told first place least

-- The limit of the next one is computed.
pub record AskedNext (t : ℕ) (members : List Member) (told : List (Result (Option ℕ) Fault)) (instance : ℕ) (waiting : List ℕ)
    (first least : ℕ) : Type 0 where
  pub within : instance < length members
  pub are : waiting ≡ places_from (instance + 1) (map has_max (drop (instance + 1) members))
  pub so_far : AskedSoFar t members told first instance least

module _ (t : ℕ) (run : Composition) (states inputs : List (List ℤ)) (have_states : HaveStates run states) (have_inputs : HaveInputs run inputs)
    (first least : ℕ) where
  abbrev all : List (Result (Option ℕ) Fault)
  all = all_told t run.members states inputs

  quiet : (place : ℕ) (member : Member) → place < length run.members → slice_get run.members place ≡ Some member → has_max member ≡ false
      → HasTold t place member.factor run.members all (Ok None)
  quiet place member within is no_max =
      has_told t place member.factor run states inputs (Ok None) have_states have_inputs within
      (λ (one : Member) one_is. ap (λ (m : Member). m.factor) (same_Some member one (sym is ∙ one_is)))
      (λ (one : Member) state words one_is state_is words_are.
      ap (λ limit. limit_by limit (environment_of one.component state words (local_time member.factor t) 0))
      (none_told one.component.unit.max (ap has_max (sym (same_Some member one (sym is ∙ one_is))) ∙ no_max)))

  member_here : (place : ℕ) (member : Member) (left : List Member) → drop place run.members ≡ member ∷ left
      → (place < length run.members) × (slice_get run.members place ≡ Some member) × (drop (place + 1) run.members ≡ left)
  member_here place member left is = here_in run.members place is
    where
      here_in : (members : List Member) (k : ℕ) → drop k members ≡ member ∷ left
          → (k < length members) × (slice_get members k ≡ Some member) × (drop (k + 1) members ≡ left)
      here_in [] zero is = absurd (let none : [] ≡ member ∷ left = is in cc)
      here_in [] (suc k) is = absurd (let none : [] ≡ member ∷ left = is in cc)
      here_in (first ∷ members) zero is = (omega arith, cc, cc)
      here_in (first ∷ members) (suc k) is =
          let behind = here_in members k is in
          let same : suc (k + 1) ≡ suc k + 1 = omega arith in
          (omega (arith, behind.0), behind.1, subst (λ n. drop n (first ∷ members) ≡ left) same behind.2)

  passed : (place : ℕ) (member : Member) (left : List Member) → drop place run.members ≡ member ∷ left → has_max member ≡ false
      → AskedSoFar t run.members all first place least → AskedSoFar t run.members all first (place + 1) least
  passed place member left is no_max so_far =
      let here = member_here place member left is in
      one_asked t run.members all first place least member.factor (Ok None) (quiet place member here.0 here.1 no_max) refl so_far

  -- The instances that are left, by whether the first member sets a limit.
  places_by : (place : ℕ) (member : Member) (left : List Member) (so : Bool) → has_max member ≡ so
      → places_from place (map has_max (member ∷ left))
      ≡ (if so then place ∷ places_from (place + 1) (map has_max left) else places_from (place + 1) (map has_max left))
  places_by place member left so is =
      let next : suc place ≡ place + 1 = omega arith in
      ap (λ b. if b then place ∷ places_from (suc place) (map has_max left) else places_from (suc place) (map has_max left)) is
      ∙ ap (λ k. if so then place ∷ places_from k (map has_max left) else places_from k (map has_max left)) next

  abbrev Further : (left : List Member) (place instance : ℕ) (waiting : List ℕ) → Type 0
  Further left place instance waiting = instance ∷ waiting ≡ places_from place (map has_max left) → AskedSoFar t run.members all first place least
      → AskedNext t run.members all instance waiting first least

  next_by : (member : Member) (left : List Member) (place instance : ℕ) (waiting : List ℕ) (so : Bool) → has_max member ≡ so
      → drop place run.members ≡ member ∷ left → Further left (place + 1) instance waiting → Further (member ∷ left) place instance waiting
  next_by member left place instance waiting true so is further are so_far =
      let here = member_here place member left is in
      let told : instance ∷ waiting ≡ place ∷ places_from (place + 1) (map has_max left) = are ∙ places_by place member left true so in
      let instance_is : instance ≡ place = cc in
      let behind : waiting ≡ places_from (place + 1) (map has_max left) = cc in
      subst (λ k. AskedNext t run.members all k waiting first least) (sym instance_is)
      (record { within = here.0; are = behind ∙ ap (λ some. places_from (place + 1) (map has_max some)) (sym here.2); so_far = so_far })
  next_by member left place instance waiting false so is further are so_far =
      further (are ∙ places_by place member left false so) (passed place member left is so so_far)

  next_from : (left : List Member) (place instance : ℕ) (waiting : List ℕ) → drop place run.members ≡ left → Further left place instance waiting
  next_from [] place instance waiting is are so_far = absurd (let none : instance ∷ waiting ≡ [] = are in cc)
  next_from (member ∷ left) place instance waiting is are so_far =
      next_by member left place instance waiting (has_max member) refl is
      (next_from left (place + 1) instance waiting (member_here place member left is).2) are so_far

  pub next_asked : (instance : ℕ) (waiting : List ℕ) → Asking t run.members all (instance ∷ waiting) first least
      → AskedNext t run.members all instance waiting first least
  next_asked instance waiting asking = next_from (drop asking.place run.members) asking.place instance waiting refl asking.are asking.so_far

  abbrev Past : Type 0
  Past = (past : ℕ) × (length run.members ≤ past) × AskedSoFar t run.members all first past least

  none_by : (member : Member) (left : List Member) (place : ℕ) (so : Bool) → has_max member ≡ so → drop place run.members ≡ member ∷ left
      → ([] ≡ places_from (place + 1) (map has_max left) → AskedSoFar t run.members all first (place + 1) least → Past)
      → [] ≡ places_from place (map has_max (member ∷ left)) → AskedSoFar t run.members all first place least → Past
  none_by member left place true so is further are so_far =
      let told : [] ≡ place ∷ places_from (place + 1) (map has_max left) = are ∙ places_by place member left true so in
      absurd (cc)
  none_by member left place false so is further are so_far = further (are ∙ places_by place member left false so) (passed place member left is so so_far)

  past_all : (members : List Member) (k : ℕ) → drop k members ≡ [] → length members ≤ k
  past_all [] k is = omega arith
  past_all (first ∷ members) zero is = absurd (let some : first ∷ members ≡ [] = is in cc)
  past_all (first ∷ members) (suc k) is = let behind = past_all members k is in omega (arith, behind)

  none_from : (left : List Member) (place : ℕ) → drop place run.members ≡ left → [] ≡ places_from place (map has_max left)
      → AskedSoFar t run.members all first place least → Past
  none_from [] place is are so_far = (place, past_all run.members place is, so_far)
  none_from (member ∷ left) place is are so_far =
      none_by member left place (has_max member) refl is (none_from left (place + 1) (member_here place member left is).2) are so_far

  pub none_waits : Asking t run.members all [] first least → Past
  none_waits asking = none_from (drop asking.place run.members) asking.place refl asking.are asking.so_far

pub none_asked : (t : ℕ) (members : List Member) (told : List (Result (Option ℕ) Fault)) (first : ℕ) → AskedSoFar t members told first 0 first
none_asked t members told first = record { no_end = record { is = refl }; proposes = none_proposed (limit_by_told t) (zip members told) first }

-- The limits of the units of a plan, along the list of those that set a limit.
module _ (t : ℕ) (plan : Planned) (fleet : Fleet) (tied : fleet.plan ≡ plan) (have_states : HaveStates fleet.plan.run fleet.states)
    (have_inputs : HaveInputs fleet.plan.run fleet.inputs) (first least : ℕ) (items : List ℕ) (index : ℕ)
    (asking : Asking t plan.run.members (all_told t plan.run.members fleet.states fleet.inputs) (drop index items) first least) where
  states_there : HaveStates plan.run fleet.states
  states_there = subst (λ (p : Planned). HaveStates p.run fleet.states) tied have_states

  inputs_there : HaveInputs plan.run fleet.inputs
  inputs_there = subst (λ (p : Planned). HaveInputs p.run fleet.inputs) tied have_inputs

  pub unit_next : index < length items
      → AskedNext t plan.run.members (all_told t plan.run.members fleet.states fleet.inputs) (get_or items index 0) (drop (index + 1) items) first least
  unit_next within =
      next_asked t plan.run fleet.states fleet.inputs states_there inputs_there first least (get_or items index 0) (drop (index + 1) items)
      (subst (λ waiting. Asking t plan.run.members (all_told t plan.run.members fleet.states fleet.inputs) waiting first least)
      (drop_more items index 0 within) asking)

  pub units_asked : length items ≤ index → first ≡ min (plan.run.stop - t) plan.run.longest
      → Ok least ≡ asked plan.run t (all_told t plan.run.members fleet.states fleet.inputs)
  units_asked past first_is =
      let none =
      none_waits t plan.run fleet.states fleet.inputs states_there inputs_there first least
      (subst (λ waiting. Asking t plan.run.members (all_told t plan.run.members fleet.states fleet.inputs) waiting first least)
      (drop_all index items past) asking) in
      let told_past : length (all_told t plan.run.members fleet.states fleet.inputs) ≤ none.0 = let many =
      told_many t plan.run.members fleet.states fleet.inputs in
      let past_members = none.1 in omega (arith, many, past_members) in
      all_asked plan.run t none.0 least (all_told t plan.run.members fleet.states fleet.inputs) none.1 told_past
      (subst (λ from. AskedSoFar t plan.run.members (all_told t plan.run.members fleet.states fleet.inputs) from none.0 least) first_is none.2)

-- ---- States that are restored

pub restored_one : (saved_states old : List (List ℤ)) (place : ℕ) (words : List ℤ) → place < length saved_states → AreAsLong saved_states old
    → words ≡ get_or saved_states place []
    → set (take place saved_states ++ drop place old) place words ≡ take (place + 1) saved_states ++ drop (place + 1) old
restored_one saved_states old place words within long is =
    let many = long_as saved_states old long in
    ap (λ rest. set (take place saved_states ++ rest) place words) (drop_more old place [] (omega arith))
    ∙ set_at (take place saved_states) (get_or old place []) (drop (place + 1) old) words place (length-take-le place saved_states (omega arith))
    ∙ sym (append_assoc (take place saved_states) (words ∷ []) (drop (place + 1) old))
    ∙ ap (λ word. (take place saved_states ++ word ∷ []) ++ drop (place + 1) old) is
    ∙ ap (λ front. front ++ drop (place + 1) old) (sym (take_more saved_states place [] within))

-- The state that is overwritten by a restored one has the same length.
pub restored_long : (saved_states old : List (List ℤ)) (place : ℕ) → place < length saved_states → AreAsLong saved_states old
    → length (get_or saved_states place []) ≡ length (get_or (take place saved_states ++ drop place old) place [])
restored_long saved_states old place within long =
    let many = long_as saved_states old long in
    long_at saved_states old place long
    ∙ ap length (sym (ap (λ rest. get_or (take place saved_states ++ rest) place []) (drop_more old place [] (omega arith))
    ∙ get_or_at (take place saved_states) (get_or old place []) (drop (place + 1) old) [] place (length-take-le place saved_states (omega arith))))

-- ---- Snapshots

pub saved_at : (store : Store) (seats : List Seat) (states : List (List ℤ)) (place : ℕ) (default : Seat) → AreSaved store seats states → place < length seats
    → words_of store (get_or seats place default).id ≡ Some (get_or states place [])
saved_at store seats states place default are within = zip_read (λ seat state. words_of store seat.id ≡ Some state) seats states place default [] are within

pub live_words : (store : Store) (id : ℕ) (words : List ℤ) → words_of store id ≡ Some words → IsLive store id
live_words store id words is = subst IsSome (sym is) refl

pub long_words : (store : Store) (id count : ℕ) (words : List ℤ) → words_of store id ≡ Some words → length words ≡ count → HasLength store id count
long_words store id count words is long other other_is = ap length (same_Some other words (sym other_is ∙ is)) ∙ long

pub length_saved : (store : Store) (seats : List Seat) → length (saved store seats) ≡ length seats
length_saved store seats = length-map seats _

-- The seats before a place have new states in their snapshots, and those from there on the old ones.
pub record SavedSoFar (seats : List Seat) (old new : List (List ℤ)) (place : ℕ) (store : Store) : Type 0 where
  pub written : (k : ℕ) (default : Seat) → k < place → k < length seats → words_of store (get_or seats k default).id ≡ Some (get_or new k [])
  pub left : (k : ℕ) (default : Seat) → place ≤ k → k < length seats → words_of store (get_or seats k default).id ≡ Some (get_or old k [])

pub none_saved : (seats : List Seat) (old new : List (List ℤ)) (store : Store) → AreSaved store seats old → SavedSoFar seats old new 0 store
none_saved seats old new store are = record {
  written = λ k default before within. absurd (omega (arith, before));
  left = λ k default behind within. saved_at store seats old k default are within;
}

pub one_saved : (seats : List Seat) (old new : List (List ℤ)) (place id : ℕ) (store next : Store) → HaveOwnIds seats → place < length seats
    → ((default : Seat) → (get_or seats place default).id ≡ id) → words_of next id ≡ Some (get_or new place []) → KeepsOthers store next id
    → SavedSoFar seats old new place store → SavedSoFar seats old new (place + 1) next
one_saved seats old new place id store next own within is written others so_far = record {
  written = λ k default before there. by_place k default before there (nat_eq k place) refl;
  left = λ k default behind there.
      others (get_or seats k default).id (λ same. own default place k (omega (arith, behind)) there (is default ∙ sym same))
      ∙ so_far.left k default (omega (arith, behind)) there;
}
  where
    by_place : (k : ℕ) (default : Seat) → k < place + 1 → k < length seats → (same : Bool) → nat_eq k place ≡ same
        → words_of next (get_or seats k default).id ≡ Some (get_or new k [])
    by_place k default before there true told =
        let at : k ≡ place = grind (arith, nat_tests) in
        subst (λ n. words_of next (get_or seats n default).id ≡ Some (get_or new n [])) (sym at) (ap (words_of next) (is default) ∙ written)
    by_place k default before there false told =
        let below : k < place = grind (arith, nat_tests) in
        others (get_or seats k default).id (λ same. own default k place below within (same ∙ sym (is default))) ∙ so_far.written k default below there

-- A seat that is still to be committed is as it was.
pub id_kept : (old_seats seats : List Seat) (inputs : List (List ℤ)) (place : ℕ) (default : Seat)
    → Turned (λ k one other. IsCommitted (get_or inputs k []) one other) old_seats seats place
    → (get_or seats place default).id ≡ (get_or old_seats place default).id
id_kept old_seats seats inputs place default turned = ap (λ (seat : Seat). seat.id) (turned.kept place default (omega arith))

pub before_long : (old_seats seats : List Seat) (inputs : List (List ℤ)) (place : ℕ) (default : Seat) (words : List ℤ) → place < length old_seats
    → AreAsLong (map (λ seat. seat.before.items) old_seats) inputs → Turned (λ k one other. IsCommitted (get_or inputs k []) one other) old_seats seats place
    → slice_get inputs place ≡ Some words → length (get_or seats place default).before.items ≡ length words
before_long old_seats seats inputs place default words within long turned is =
    ap (λ (seat : Seat). length seat.before.items) (turned.kept place default (omega arith))
    ∙ ap length (sym (get_or-map (λ (seat : Seat). seat.before.items) old_seats place default [] within))
    ∙ long_at (map (λ (seat : Seat). seat.before.items) old_seats) inputs place long
    ∙ ap length (get_or_from_slice_get inputs place words [] is)

module _ (old_seats seats : List Seat) (inputs : List (List ℤ)) (place : ℕ) (past : length old_seats ≤ place)
    (turned : Turned (λ k one other. IsCommitted (get_or inputs k []) one other) old_seats seats place) where
  commits : (k : ℕ) (default : Seat) → k < length old_seats → IsCommitted (get_or inputs k []) (get_or old_seats k default) (get_or seats k default)
  commits k default within = turned.changed k default (omega (arith, past, within)) within

  pub all_saved : (old new : List (List ℤ)) (store : Store) → length new ≡ length old_seats → SavedSoFar old_seats old new place store
      → AreSaved store seats new
  all_saved old new store many so_far =
      zip_made (λ seat state. words_of store seat.id ≡ Some state) seats new [] (many ∙ sym turned.as_many) (λ k default within.
      let there : k < length old_seats = subst (λ count. k < count) turned.as_many within in
      ap (words_of store) (commits k default there).id ∙ so_far.written k default (omega (arith, past, there)) there)

  pub own_ids : HaveOwnIds old_seats → HaveOwnIds seats
  own_ids own default one other below within same =
      let there : other < length old_seats = subst (λ count. other < count) turned.as_many within in
      own default one other below there (sym (commits one default (omega (arith, below, there))).id ∙ same ∙ (commits other default there).id)

  pub all_before : length inputs ≡ length old_seats → map (λ seat. seat.before.items) seats ≡ inputs
  all_before many =
      befores seats inputs (many ∙ sym turned.as_many) (λ k default within. (commits k default (subst (λ count. k < count) turned.as_many within)).before)
    where
      befores : (some : List Seat) (words : List (List ℤ)) → length words ≡ length some
          → ((k : ℕ) (default : Seat) → k < length some → (get_or some k default).before.items ≡ get_or words k [])
          → map (λ seat. seat.before.items) some ≡ words
      befores [] [] as_many each = refl
      befores [] (one ∷ words) as_many each = absurd (omega (arith, as_many))
      befores (seat ∷ some) [] as_many each = absurd (omega (arith, as_many))
      befores (seat ∷ some) (one ∷ words) as_many each =
          ap (λ first. first ∷ map (λ (other : Seat). other.before.items) some) (each 0 seat (omega arith))
          ∙ ap (λ later. one ∷ later) (befores some words (omega (arith, as_many)) (λ k default within. each (suc k) default (omega (arith, within))))

-- The units in the middle of a loop that restores them, as contracts see them.
abbrev pub restored_so_far : Fleet → List (List ℤ) → ℕ → Fleet
restored_so_far fleet states place = record fleet { states = take place states ++ drop place fleet.states }

pub next_restored : (fleet now : Fleet) (states : List (List ℤ)) (place : ℕ) (words : List ℤ) → place < length states → AreAsLong states fleet.states
    → words ≡ get_or states place [] → now ≡ restored_so_far fleet states place → with_state now place words ≡ restored_so_far fleet states (place + 1)
next_restored fleet now states place words within long is so_far =
    ap (λ some. with_state some place words) so_far ∙ ap (λ some. record fleet { states = some }) (restored_one states fleet.states place words within long is)
