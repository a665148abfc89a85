-- Where all replies are known, the steps that are known lead where the negotiation of the members leads.
use Rattle.std.proofs.Common.{◌≡◌, ◌∙◌, ℕ, ◌≤◌, ◌<◌, Bool, true, false, ◌&&◌, List, [], ◌∷◌, length, map, zip, get_or, Option, Some, None, Result, Ok, Err}
use Rattle.std.proofs.Common.{is_some, refl, sym, ap, ap₂, subst, arith, ◌==◌}
use Rattle.std.proofs.lemmas.List.{length-map}
use Rattle.std.proofs.lemmas.Bool.Decides.{nat_tests}
use Rattle.std.proofs.lemmas.Option.{slice_get-get_or}
use Rattle.std.proofs.lemmas.Slice.Zip.{length-zip}
use Rattle.std.specs.Prelude.{if◌then◌else◌, nat_lt, slice_get}
use Rattle.std.specs.List.{list_all}
use Rattle.std.specs.Option.{option_map}
use Rattle.link_core.specs.KnownSteps.{slot_known, step_known, steps_known}
use Rattle.link_laws.specs.Stages.{are_answered, least_in, moved_by, over_or, stage_by, stage_of_redo, stage_of_trial, stage_on, step_in, steps_in}
use Rattle.link_laws.specs.declared.fact.Said.{Said}
use Rattle.link_laws.specs.declared.fact.Said.TheVariants.{Accepted, Fault as StepFault}
use Rattle.link_laws.specs.declared.stage.Stage.{Stage}
use Rattle.link_laws.specs.declared.stage.Stage.TheVariants.{On, Over, Redo, Trial}
use Rattle.list_laws.proofs.Members.{at_place}
use Rattle.list_laws.proofs.Pairs.{zip_there}
use Rattle.step_rule.proofs.AlongLaws.{mapped_at}
use Rattle.step_rule.proofs.MemberLaws.{redo_by_results, trial_by_results}
use Rattle.step_rule.specs.Courses.{course_after, course_by, course_of_redo, course_of_trial, course_on, end_or}
use Rattle.step_rule.specs.Steps.{AreAsked, ending_or, is_full, is_made, member_steps, result_slot}
use Rattle.step_rule.specs.declared.courses.Course.{Course}
use Rattle.step_rule.specs.declared.courses.Course.TheVariants as course
use Rattle.step_rule.specs.declared.rules.NextPoint.TheVariants.{Next, ZeroBudget}
use Rattle.step_rule.specs.declared.steps.Slot.{Slot}
use Rattle.step_rule.specs.declared.steps.Step.{Step}
use Rattle.super_time.specs.LocalTime.{local_step}
use Rattle.trace_plan.specs.Plans.{ForMember}
use Rattle.unit_tree.specs.Compositions.{Composition, Member}
use Rattle.super_time.specs.declared.point.Point.{Point}
use Rattle.fixed_words.specs.declared.types.Fault.{Fault as RunFault}
use Rattle.unit_tree.specs.Components.{Moved}
use Rattle.unit_tree.specs.Negotiation.{is_held, least_of, reply_at}
use Rattle.unit_tree.specs.Successor.{Position, first_told, point_after, redo_end_of, step_end_of}
use Rattle.unit_tree.specs.declared.ending.Ending.TheVariants.{ZeroBudget as EndedByZeros}
use Rattle.unit_tree.specs.declared.ending.Ending.{Ending}

-- ---- One step

pub known_long : (t h : ℕ) (members : List Member) (replies : List (Option Said)) → length replies ≡ length members
    → length (steps_known t h members replies) ≡ length members
known_long t h members replies long = omega (arith, length-map (zip members replies) (step_known t h), length-zip members replies, long)

pub known_there : (run : Composition) (t h k factor asked : ℕ) (held : Bool) (slot : Slot) (replies : List (Option Said)) (d : Option Said)
    → k < length run.members → ForMember run k (λ member. factor ≡ member.factor) → length replies ≡ length run.members
    → asked ≡ local_step factor t h → held ≡ is_held factor t h → slot ≡ slot_known held (get_or replies k d)
    → slice_get (steps_known t h run.members replies) k ≡ Some (record { factor = factor; asked = asked; slot = slot })
known_there run t h k factor asked held slot replies d within factor_is long asked_is held_is slot_is =
    let member = at_place run.members k within in
    let said = get_or replies k d in
    let own = factor_is member.0 member.1 in
    let its_asked : asked ≡ local_step member.0.factor t h = asked_is ∙ ap (λ f. local_step f t h) own in
    let its_slot : slot ≡ slot_known (is_held member.0.factor t h) said = slot_is ∙ ap (λ one. slot_known one said) (held_is ∙ ap (λ f. is_held f t h) own) in
    let step : Step = record { factor = factor; asked = asked; slot = slot } in
    let same : step ≡ step_known t h (member.0, said) = λ i. record { factor = own i; asked = its_asked i; slot = its_slot i } in
    mapped_at (step_known t h) (zip run.members replies) k (member.0, said)
    (zip_there run.members replies k member.0 said member.1 (slice_get-get_or replies k d (omega (arith, within, long))))
    ∙ ap (λ one. Some one) (sym same)

module _ (t h : ℕ) where
  -- A member is asked for its local step.
  pub known_asked : (pairs : List (Member × Option Said)) → AreAsked t h (map (step_known t h) pairs)
  known_asked [] = tt
  known_asked (pair ∷ pairs) = (refl, known_asked pairs)

  made_is : (held : Bool) (said : Option Said) → is_full (slot_known held said) ≡ (if held then true else is_some said)
  made_is true said = refl
  made_is false None = refl
  made_is false (Some (Accepted accepted)) = refl
  made_is false (Some (StepFault fault)) = refl

  -- All steps are made where all replies are known that are required.
  pub all_made_is : (members : List Member) (replies : List (Option Said))
      → list_all is_made (steps_known t h members replies) ≡ are_answered t h members replies
  all_made_is [] replies = refl
  all_made_is (member ∷ members) [] = refl
  all_made_is (member ∷ members) (said ∷ replies) =
      ap₂ (λ one all. one && all) (made_is (is_held member.factor t h) said) (all_made_is members replies)

  slot_is : (held : Bool) (said : Option Said) → is_full (slot_known held said) ≡ true
      → slot_known held said ≡ result_slot (if held then None else option_map moved_by said)
  slot_is true said full = refl
  slot_is false None full = absurd (cc)
  slot_is false (Some (Accepted accepted)) full = refl
  slot_is false (Some (StepFault fault)) full = refl

  first_of : (one all : Bool) → (one && all) ≡ true → one ≡ true
  first_of true all both = refl
  first_of false all both = absurd (cc)

  rest_of : (one all : Bool) → (one && all) ≡ true → all ≡ true
  rest_of true all both = both
  rest_of false all both = absurd (cc)

  -- Where all steps are made, they are those of the members by the results that the replies state.
  pub known_is : (members : List Member) (replies : List (Option Said)) → list_all is_made (steps_known t h members replies) ≡ true
      → steps_known t h members replies ≡ member_steps t h members (steps_in t h members replies)
  known_is [] replies made = refl
  known_is (member ∷ members) [] made = refl
  known_is (member ∷ members) (said ∷ replies) made =
      let step = step_known t h (member, said) in
      let all = list_all is_made (steps_known t h members replies) in
      ap₂ (λ slot steps. record { factor = member.factor; asked = local_step member.factor t h; slot = slot } ∷ steps)
      (slot_is (is_held member.factor t h) said (first_of (is_made step) all made)) (known_is members replies (rest_of (is_made step) all made))

-- ---- The stages

-- The stage that a course leads to, from a redo or a trial of h.
abbrev pub stage_after : ℕ → Course → Stage
stage_after h (course.Redo least) = Redo least
stage_after h (course.On point) = On h
stage_after h (course.End ending) = Over ending

-- From a trial, whose redo may be known.
abbrev pub stage_led : Composition → Position → List (Option Said) → ℕ → Course → Stage
stage_led run at redos h (course.Redo least) = stage_of_redo run at redos least
stage_led run at redos h (course.On point) = On h
stage_led run at redos h (course.End ending) = Over ending

least_most : (first : ℕ) (numbers : List ℕ) → least_of first numbers ≤ first
least_most first [] = omega arith
least_most first (next ∷ numbers) = let rest = least_most next numbers in omega (arith, rest)

module _ (run : Composition) (at : Position) (h : ℕ) where
  abbrev is_spent : Bool
  is_spent = (h == 0) && (at.point.n == run.zero_budget)

  on_is : (spent : Bool) → stage_after h (course_after (if spent then ZeroBudget else Next (point_after at.point h))) ≡
      (if spent then Over EndedByZeros else On h)
  on_is true = refl
  on_is false = refl

  led_on_is : (redos : List (Option Said)) (spent : Bool)
      → stage_led run at redos h (course_after (if spent then ZeroBudget else Next (point_after at.point h))) ≡ (if spent then Over EndedByZeros else On h)
  led_on_is redos true = refl
  led_on_is redos false = refl

  redo_led : (end : Option Ending) → stage_after h (end_or end (course_on run.zero_budget at.point h)) ≡ over_or end (stage_on run at h)
  redo_led (Some ending) = refl
  redo_led None = on_is is_spent

  whole_led : (redos : List (Option Said)) (least : ℕ) (shorter : Bool) → nat_lt least h ≡ shorter → least ≤ h
      → stage_led run at redos h (if shorter then course.Redo least else course_on run.zero_budget at.point h) ≡
      (if shorter then stage_of_redo run at redos least else stage_on run at least)
  whole_led redos least true is most = refl
  whole_led redos least false is most = led_on_is redos is_spent ∙ ap (stage_on run at) (same least h is most)
    where
      same : (least h : ℕ) → nat_lt least h ≡ false → least ≤ h → h ≡ least
      same least h is most = grind (arith, nat_tests)

  trial_led : (redos : List (Option Said)) (end : Option Ending) (least : ℕ) → least ≤ h
      → stage_led run at redos h (course_by run.zero_budget at.point h (ending_or end least)) ≡ over_or end (stage_by run at redos h least)
  trial_led redos (Some ending) least most = refl
  trial_led redos None least most = whole_led redos least (nat_lt least h) refl most

module _ (run : Composition) (at : Position) (replies : List (Option Said)) (h : ℕ) where
  abbrev known : List Step
  known = steps_known at.point.t h run.members replies

  abbrev results : List (Option (Result Moved RunFault))
  results = steps_in at.point.t h run.members replies

  results_long : length replies ≡ length run.members → length results ≡ length run.members
  results_long long = omega (arith, length-map (zip run.members replies) (step_in at.point.t h), length-zip run.members replies, long)

  pub trial_missing : (redos : List (Option Said)) (made : Bool) → made ≡ list_all is_made known → made ≡ false → Trial h ≡ stage_of_trial run at replies redos h
  trial_missing redos made is none =
      sym (ap (λ all. if all then over_or (first_told step_end_of results) (stage_by run at redos h (least_in run at replies h)) else Trial h)
      (sym (all_made_is at.point.t h run.members replies) ∙ sym is ∙ none))

  -- The course of a trial decides its stage.
  pub trial_read : (redos : List (Option Said)) (made : Bool) (to : Course) → length replies ≡ length run.members → made ≡ list_all is_made known
      → made ≡ true → to ≡ course_of_trial run.zero_budget at.point h known → stage_led run at redos h to ≡ stage_of_trial run at replies redos h
  trial_read redos made to long is all to_is =
      let made_all : list_all is_made known ≡ true = sym is ∙ all in
      ap (stage_led run at redos h)
      (to_is ∙ ap (course_of_trial run.zero_budget at.point h) (known_is at.point.t h run.members replies made_all)
      ∙ ap (course_by run.zero_budget at.point h) (trial_by_results at.point.t h run.members results (results_long long)))
      ∙ trial_led run at h redos (first_told step_end_of results) (least_in run at replies h)
      (least_most h (map (reply_at at.point.t h) (zip run.members results)))
      ∙ sym (ap (λ test. if test then over_or (first_told step_end_of results) (stage_by run at redos h (least_in run at replies h)) else Trial h)
      (sym (all_made_is at.point.t h run.members replies) ∙ made_all))

  pub redo_missing : (made : Bool) → made ≡ list_all is_made known → made ≡ false → Redo h ≡ stage_of_redo run at replies h
  redo_missing made is none =
      sym (ap (λ all. if all then over_or (first_told (redo_end_of at.point.t h) (zip run.members results)) (stage_on run at h) else Redo h)
      (sym (all_made_is at.point.t h run.members replies) ∙ sym is ∙ none))

  -- The course of a redo decides its stage.
  pub redo_read : (made : Bool) (to : Course) → made ≡ list_all is_made known → made ≡ true
      → to ≡ course_of_redo run.zero_budget at.point h known → stage_after h to ≡ stage_of_redo run at replies h
  redo_read made to is all to_is =
      let made_all : list_all is_made known ≡ true = sym is ∙ all in
      ap (stage_after h)
      (to_is ∙ ap (course_of_redo run.zero_budget at.point h) (known_is at.point.t h run.members replies made_all)
      ∙ ap (λ end. end_or end (course_on run.zero_budget at.point h)) (redo_by_results at.point.t h run.members results))
      ∙ redo_led run at h (first_told (redo_end_of at.point.t h) (zip run.members results))
      ∙ sym (ap (λ test. if test then over_or (first_told (redo_end_of at.point.t h) (zip run.members results)) (stage_on run at h) else Redo h)
      (sym (all_made_is at.point.t h run.members replies) ∙ made_all))

-- ---- The length of a redo

-- A redo is shorter than its trial.
pub redo_less : (budget : ℕ) (point : Point) (h least : ℕ) (read : Result ℕ Ending) → course.Redo least ≡ course_by budget point h read → least ≤ h
redo_less budget point h least (Err ending) is = absurd (cc)
redo_less budget point h least (Ok length) is = by (nat_lt length h) refl is
  where
    by_spent : (spent : Bool) → course.Redo least ≡ course_after (if spent then ZeroBudget else Next (point_after point h)) → ⊥
    by_spent true is = cc
    by_spent false is = cc

    less : (length : ℕ) → nat_lt length h ≡ true → length ≤ h
    less length is = grind (arith, nat_tests)

    by : (shorter : Bool) → nat_lt length h ≡ shorter → course.Redo least ≡ (if shorter then course.Redo length else course_on budget point h) → least ≤ h
    by true shorter is = let same : least ≡ length = cc in subst (λ n. n ≤ h) (sym same) (less length shorter)
    by false shorter is = absurd (by_spent ((h == 0) && (point.n == budget)) is)

-- A redo that is known doesn't lead to another one.
pub no_redo : (budget : ℕ) (point : Point) (h least : ℕ) (end : Option Ending) → course.Redo least ≡ end_or end (course_on budget point h) → ⊥
no_redo budget point h least (Some ending) is = cc
no_redo budget point h least None is = by ((h == 0) && (point.n == budget)) is
  where
    by : (spent : Bool) → course.Redo least ≡ course_after (if spent then ZeroBudget else Next (point_after point h)) → ⊥
    by true is = cc
    by false is = cc
