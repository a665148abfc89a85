-- Counts with one step more.
use Rattle.std.proofs.Common.{◌≡◌, ◌∙◌, ◌+◌, ◌<◌, ◌≤◌, ℕ, zero, suc, Bool, true, false, cond, List, [], ◌∷◌, ◌++◌, map, length, Option, Some, None, refl, ap, sym, subst, length-append, arith, append-nil, set}
use Rattle.std.proofs.lemmas.List.{map-append}
use Rattle.std.proofs.lemmas.List.Elements.{filter-append}
use Rattle.std.proofs.lemmas.List.Sums.{count_by-le-length, sum_by_push}
use Rattle.std.proofs.lemmas.Option.{same_Some}
use Rattle.std.specs.Prelude.{filter, slice_get}
use Rattle.std.specs.List.{AllByRecursion, count_by}
use Rattle.model_rules.specs.Limits.{rows_limit}
use Rattle.step_counts.specs.Counts.{IsCountOf, all_counts, below, counts_of, is_limited_by, is_longest, is_redone, is_shortened_by, is_stop, least, lesser}
use Rattle.step_counts.specs.Counting.{HasRoom, IsBelowRows, once, with_step}
use Rattle.step_counts.specs.declared.counts.InstanceCounts.{InstanceCounts}
use Rattle.step_counts.specs.declared.counts.StepCounts.{StepCounts}
use Rattle.step_counts.specs.declared.step.AgreedStep.{AgreedStep}

-- ---- Numbers

pub counted_more : {A : Type 0} (test : A → Bool) (items : List A) (item : A) → count_by test (items ++ item ∷ []) ≡ count_by test items + once (test item)
counted_more test items item = sum_by_push (λ one. cond (test one) 1 0) items item

lesser_again : (others : Option ℕ) (one number : ℕ) → lesser (Some (lesser others one)) number ≡ lesser (Some (lesser others number)) one
lesser_again None one number = omega arith
lesser_again (Some other) one number = omega arith

pub least_more : (numbers : List ℕ) (number : ℕ) → least (numbers ++ number ∷ []) ≡ Some (lesser (least numbers) number)
least_more [] number = refl
least_more (first ∷ numbers) number =
    ap (λ found. Some (lesser found first)) (least_more numbers number) ∙ ap Some (lesser_again (least numbers) number first)

-- ---- An instance

-- The proposed steps that an instance limits.
abbrev limits : ℕ → List AgreedStep → List ℕ
limits instance steps = map (λ step. step.proposed) (filter (is_limited_by instance) steps)

limits_more : (instance : ℕ) (steps : List AgreedStep) (step : AgreedStep)
    → limits instance (steps ++ step ∷ []) ≡ limits instance steps ++ limits instance (step ∷ [])
limits_more instance steps step =
    ap (map (λ one. one.proposed)) (filter-append (is_limited_by instance) steps (step ∷ []))
    ∙ map-append (λ (one : AgreedStep). one.proposed) (filter (is_limited_by instance) steps) (filter (is_limited_by instance) (step ∷ []))

-- The least limit, where the instance limits the step or not.
least_with : (instance : ℕ) (steps : List AgreedStep) (step : AgreedStep) (told : Bool) → is_limited_by instance step ≡ told
    → least (limits instance (steps ++ step ∷ [])) ≡ cond told (Some (lesser (least (limits instance steps)) step.proposed)) (least (limits instance steps))
least_with instance steps step true is =
    ap least (limits_more instance steps step ∙ ap (λ b. limits instance steps ++ map (λ one. one.proposed) (cond b (step ∷ []) [])) is)
    ∙ least_more (limits instance steps) step.proposed
least_with instance steps step false is =
    ap least
    (limits_more instance steps step ∙ ap (λ b. limits instance steps ++ map (λ one. one.proposed) (cond b (step ∷ []) [])) is
    ∙ append-nil (limits instance steps))

pub one_more : (steps : List AgreedStep) (step : AgreedStep) (instance : ℕ) → with_step (counts_of steps instance) step ≡ counts_of (steps ++ step ∷ []) instance
one_more steps step instance =
    ap (λ n. record (with_step (counts_of steps instance) step) { limited = n }) (sym (counted_more (is_limited_by instance) steps step))
    ∙ ap (λ n. record (with_step (counts_of steps instance) step) { limited = count_by (is_limited_by instance) (steps ++ step ∷ []); shortened = n })
    (sym (counted_more (is_shortened_by instance) steps step))
    ∙ ap (λ l. record (counts_of (steps ++ step ∷ []) instance) { least_limit = l }) (sym (least_with instance steps step (is_limited_by instance step) refl))

-- ---- All instances

pub all_more : (instances : ℕ) (steps : List AgreedStep) (step : AgreedStep)
    → map (λ counts. with_step counts step) (all_counts instances steps) ≡ all_counts instances (steps ++ step ∷ [])
all_more zero steps step = refl
all_more (suc instances) steps step =
    ap (map (λ counts. with_step counts step)) (map-append (counts_of steps) (below instances) (instances ∷ []))
    ∙ map-append (λ counts. with_step counts step) (all_counts instances steps) (counts_of steps instances ∷ [])
    ∙ ap (λ front. front ++ with_step (counts_of steps instances) step ∷ []) (all_more instances steps step)
    ∙ ap (λ one. all_counts instances (steps ++ step ∷ []) ++ one ∷ []) (one_more steps step instances)
    ∙ sym (map-append (counts_of (steps ++ step ∷ [])) (below instances) (instances ∷ []))

-- The counts of an instance more.
pub instance_more : (instances : ℕ) (steps : List AgreedStep) → all_counts (suc instances) steps ≡ all_counts instances steps ++ counts_of steps instances ∷ []
instance_more instances steps = map-append (counts_of steps) (below instances) (instances ∷ [])

-- ---- All counts

pub count_more : (instances : ℕ) (steps : List AgreedStep) (step : AgreedStep) (old new : StepCounts) → new.steps ≡ old.steps + 1
    → new.redone ≡ old.redone + once (is_redone step) → new.to_stop ≡ old.to_stop + once (is_stop step.limiter)
    → new.longest ≡ old.longest + once (is_longest step.limiter) → new.instances.items ≡ map (λ counts. with_step counts step) old.instances.items
    → IsCountOf instances steps old → IsCountOf instances (steps ++ step ∷ []) new
count_more instances steps step old new one redone to_stop longest each is = record {
  steps = let many = length-append steps (step ∷ []) in let before = is.steps in omega (arith, one, many, before);
  redone = redone ∙ ap (λ n. n + once (is_redone step)) is.redone ∙ sym (counted_more is_redone steps step);
  to_stop = to_stop ∙ ap (λ n. n + once (is_stop step.limiter)) is.to_stop ∙ sym (counted_more (λ one. is_stop one.limiter) steps step);
  longest = longest ∙ ap (λ n. n + once (is_longest step.limiter)) is.longest ∙ sym (counted_more (λ one. is_longest one.limiter) steps step);
  instances = each ∙ ap (map (λ counts. with_step counts step)) is.instances ∙ all_more instances steps step;
}

-- ---- Room for one step more

few : {A : Type 0} (test : A → Bool) (items : List A) → length items < rows_limit → count_by test items < rows_limit
few test items less = let most = count_by-le-length test items in omega (arith, less, most)

all_few : (numbers : List ℕ) (steps : List AgreedStep) → length steps < rows_limit → AllByRecursion IsBelowRows (map (counts_of steps) numbers)
all_few [] steps less = tt
all_few (instance ∷ numbers) steps less =
    (record { limited = few (is_limited_by instance) steps less; shortened = few (is_shortened_by instance) steps less }, all_few numbers steps less)

-- Counts of fewer steps than the greatest number of rows have room.
pub has_room : (instances : ℕ) (steps : List AgreedStep) (counts : StepCounts) → IsCountOf instances steps counts → length steps < rows_limit → HasRoom counts
has_room instances steps counts is less = record {
  steps = subst (λ n. n < rows_limit) (sym is.steps) less;
  redone = subst (λ n. n < rows_limit) (sym is.redone) (few is_redone steps less);
  to_stop = subst (λ n. n < rows_limit) (sym is.to_stop) (few (λ step. is_stop step.limiter) steps less);
  longest = subst (λ n. n < rows_limit) (sym is.longest) (few (λ step. is_longest step.limiter) steps less);
  instances = subst (AllByRecursion IsBelowRows) (sym is.instances) (all_few (below instances) steps less);
}

-- ---- Counting for one instance after the other

-- The counts of no instance.
abbrev pub nothing : InstanceCounts
nothing = record { instance = 0; limited = 0; shortened = 0; least_limit = None }

-- The first items are changed, and the others aren't.
abbrev pub changed_first : {A : Type 0} → (A → A) → ℕ → List A → List A
changed_first change zero items = items
changed_first change (suc count) [] = []
changed_first change (suc count) (item ∷ items) = change item ∷ changed_first change count items

pub changed_next : {A : Type 0} (change : A → A) (items : List A) (place : ℕ) (item : A) → slice_get (changed_first change place items) place ≡ Some item
    → set (changed_first change place items) place (change item) ≡ changed_first change (suc place) items
changed_next change [] zero item there = absurd (cc)
changed_next change [] (suc place) item there = absurd (cc)
changed_next change (first ∷ items) zero item there = ap (λ one. change one ∷ items) (sym (same_Some first item there))
changed_next change (first ∷ items) (suc place) item there = ap (λ rest. change first ∷ rest) (changed_next change items place item there)

pub changed_all : {A : Type 0} (change : A → A) (items : List A) (count : ℕ) → length items ≤ count → changed_first change count items ≡ map change items
changed_all change [] zero past = refl
changed_all change [] (suc count) past = refl
changed_all change (first ∷ items) zero past = absurd (omega (arith, past))
changed_all change (first ∷ items) (suc count) past = ap (λ rest. change first ∷ rest) (changed_all change items count (omega (arith, past)))

pub length-changed : {A : Type 0} (change : A → A) (items : List A) (count : ℕ) → length (changed_first change count items) ≡ length items
length-changed change items zero = refl
length-changed change [] (suc count) = refl
length-changed change (first ∷ items) (suc count) = ap suc (length-changed change items count)

-- What holds of all items holds of the next one.
pub next_holds : {A : Type 0} (P : A → Type 0) (change : A → A) (items : List A) (place : ℕ) (item : A) → AllByRecursion P items
    → slice_get (changed_first change place items) place ≡ Some item → P item
next_holds P change [] zero item all there = absurd (cc)
next_holds P change [] (suc place) item all there = absurd (cc)
next_holds P change (first ∷ items) zero item all there = subst P (same_Some first item there) all.0
next_holds P change (first ∷ items) (suc place) item all there = next_holds P change items place item all.1 there
