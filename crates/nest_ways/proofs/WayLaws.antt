-- Known inputs of groups, line by line.
use Rattle.std.proofs.Common.{◌≡◌, ◌≤◌, ◌<◌, ℕ, zero, suc, ◌+◌, false, List, [], ◌∷◌, ◌++◌, map, length, take, drop, get_or, inl, inr, refl, sym, ap}
use Rattle.std.proofs.Common.{◌∙◌, subst, append_assoc, append-nil, take-append-drop, arith, Option, Some, None}
use Rattle.std.specs.Prelude.{slice_get}
use Rattle.std.specs.List.{AllZip, cons_option, filter_map, flat_map}
use Rattle.std.specs.Option.{SomeIff, option_and_then, option_map, option_to_list}
use Rattle.std.proofs.lemmas.Grind.{flat_map-append}
use Rattle.std.proofs.lemmas.List.{map-append, take_more}
use Rattle.std.proofs.lemmas.List.Elements.{filter_map-append}
use Rattle.std.proofs.lemmas.Option.{same_Some}
use Rattle.list_laws.proofs.Members.{at_front, at_push}
use Rattle.list_laws.proofs.Pairs.{zip_append}
use Rattle.nest_text.specs.declared.nest.Bind.{Bind}
use Rattle.nest_text.specs.declared.nest.Nest.{Nest}
use Rattle.nest_names.specs.Flattening.{distinct, ins_in, inside, place_at, reach, spot_in}
use Rattle.nest_ways.specs.Reaching.{AreAlike, AreKnown, AreSteps, IsIn, IsKnown, IsPast, IsStep, KeepsAll, LeadsAlike, LeadsHere, LeadsInside, LeadsTo}
use Rattle.nest_ways.specs.Reaching.{Puts, PutsOnce, PutsUpTo, ReadsAlike, SameKept, all_ends, ends_of, input_at, inputs_at, ins_of, lines_of, onward}
use Rattle.nest_ways.specs.Walking.{reached_inside}
use Rattle.nest_names.specs.Tables.{items_at}
use Rattle.nest_names.specs.declared.scope.GroupScope.{GroupScope}
use Rattle.nest_names.specs.declared.scope.Spot.{Spot}
use Rattle.nest_ways.specs.declared.ends.End.{End}
use Rattle.nest_ways.specs.declared.steps.Inside.{Inside}
use Rattle.nest_ways.specs.declared.steps.Known.{Known}
use Rattle.nest_ways.specs.declared.steps.WayStep.{WayStep}
use Rattle.nest_ways.specs.declared.steps.WayStep.TheVariants as step_is
use Rattle.nest_names.proofs.FlatLaws.{expand_group}
use Rattle.nest_ways.proofs.AlikeLaws.{reads_alike}
use Rattle.nest_ways.proofs.KeptLaws.{ends_component, in_behind, in_front, reach_one, same_both, same_covered}

pub same_of : (ones others : List Spot) → ones ≡ others → SameKept ones others
same_of ones others is kept = ap (distinct kept) is

pub same_then : (ones others more : List Spot) → SameKept ones others → SameKept others more → SameKept ones more
same_then ones others more first then_ kept = first kept ∙ then_ kept

-- The value of a result that has one.
pub some_is : {A : Type 0} (P : Type 0) (value : A) (result : Option A) (found : A) → result ≡ Some found → SomeIff result P value → found ≡ value
some_is P value result found is told = (subst (λ one. SomeIff one P value) is told).1

pub only_one : {A : Type 0} (items : List A) (one : A) → length items ≡ 1 → slice_get items 0 ≡ Some one → items ≡ one ∷ []
only_one [] one long there = let never : None ≡ Some one = there in absurd (cc)
only_one (item ∷ []) one long there =
    let some : Some item ≡ Some one = there in
    let same : item ≡ one = cc in ap (λ first. first ∷ []) same
only_one (item ∷ (other ∷ items)) one long there = absurd (omega (arith, long))

-- ---- Inputs that are added once

given : (f : End → List Spot) (ends : List End) (place : ℕ) (end : End) (one : Spot) → slice_get ends place ≡ Some end → IsIn one (f end)
    → IsIn one (flat_map f ends)
given f [] place end one there is = let never : None ≡ Some end = there in absurd (cc)
given f (first ∷ ends) zero end one there is =
    let some : Some first ≡ Some end = there in
    let same : first ≡ end = cc in in_front one (f first) (flat_map f ends) (subst (λ from. IsIn one (f from)) (sym same) is)
given f (first ∷ ends) (suc place) end one there is = in_behind one (f first) (flat_map f ends) (given f ends place end one there is)

pub put_once_same : (f : End → List Spot) (end : End) (old new : List End) → PutsOnce end old new → SameKept (flat_map f new) (flat_map f old ++ f end)
put_once_same f end old new (inl more) =
    same_of (flat_map f new) (flat_map f old ++ f end)
    (ap (flat_map f) more ∙ flat_map-append f old (end ∷ []) ∙ ap (λ last. flat_map f old ++ last) (append-nil (f end)))
put_once_same f end old new (inr (same, place, there)) =
    same_then (flat_map f new) (flat_map f old) (flat_map f old ++ f end) (same_of (flat_map f new) (flat_map f old) (ap (flat_map f) same))
    (same_covered (flat_map f old) (f end) (λ one is. given f old place end one there is))

-- One of several, added with its offset.
pub onward_next : (f : End → List Spot) (offset : ℕ) (old now new inner : List End) (place : ℕ) (none one : End) → place < length inner
    → PutsOnce one now new → f one ≡ f (onward offset (get_or inner place none))
    → SameKept (flat_map f now) (flat_map f (old ++ map (onward offset) (take place inner)))
    → SameKept (flat_map f new) (flat_map f (old ++ map (onward offset) (take (place + 1) inner)))
onward_next f offset old now new inner place none one within puts alike so_far =
    let before = map (onward offset) (take place inner) in
    let last = onward offset (get_or inner place none) in
    let all = flat_map f (old ++ map (onward offset) (take (place + 1) inner)) in
    let more : map (onward offset) (take (place + 1) inner) ≡ before ++ last ∷ [] =
    ap (map (onward offset)) (take_more inner place none within) ∙ map-append (onward offset) (take place inner) (get_or inner place none ∷ []) in
    same_then (flat_map f new) (flat_map f now ++ f one) all (put_once_same f one now new puts)
    (same_then (flat_map f now ++ f one) (flat_map f (old ++ before) ++ f last) all
    (same_both (flat_map f now) (flat_map f (old ++ before)) (f one) (f last) so_far (same_of (f one) (f last) alike))
    (same_of (flat_map f (old ++ before) ++ f last) all
    (ap (λ end. flat_map f (old ++ before) ++ end) (sym (append-nil (f last)))
    ∙ sym (flat_map-append f (old ++ before) (last ∷ []))
    ∙ ap (flat_map f) (append_assoc old before (last ∷ []) ∙ ap (λ ends. old ++ ends) (sym more)))))

-- The rest of several is not added.
pub onward_stop : (f : End → List Spot) (offset : ℕ) (old now inner : List End) (place : ℕ)
    → SameKept (flat_map f now) (flat_map f (old ++ map (onward offset) (take place inner)))
    → PutsUpTo false (flat_map f now) (flat_map f (old ++ map (onward offset) inner))
onward_stop f offset old now inner place so_far =
    let before = map (onward offset) (take place inner) in
    let left = map (onward offset) (drop place inner) in
    let whole : map (onward offset) inner ≡ before ++ left =
    ap (map (onward offset)) (sym (take-append-drop place inner)) ∙ map-append (onward offset) (take place inner) (drop place inner) in (
      flat_map f left,
      same_then (flat_map f now ++ flat_map f left) (flat_map f (old ++ before) ++ flat_map f left) (flat_map f (old ++ map (onward offset) inner))
          (same_both (flat_map f now) (flat_map f (old ++ before)) (flat_map f left) (flat_map f left) so_far (λ kept. refl))
          (same_of (flat_map f (old ++ before) ++ flat_map f left) (flat_map f (old ++ map (onward offset) inner))
          (sym (flat_map-append f (old ++ before) left)
          ∙ ap (flat_map f) (append_assoc old before left ∙ ap (λ ends. old ++ ends) (sym whole)))),
    )

-- ---- Lines in turn

pub ends_append : (nest : Nest) (depth : ℕ) (scope : GroupScope) (ones others : List Bind)
    → ends_of nest depth scope (ones ++ others) ≡ ends_of nest depth scope ones ++ ends_of nest depth scope others
ends_append nest depth scope ones others =
    ap (flat_map (all_ends nest depth)) (map-append (spot_in scope) ones others)
    ∙ flat_map-append (all_ends nest depth) (map (spot_in scope) ones) (map (spot_in scope) others)

pub puts_nothing : (nest : Nest) (scopes : List GroupScope) (group height : ℕ) (ends : List End) → Puts nest scopes group height ends ends []
puts_nothing nest scopes group height ends base scope depth at is within =
    same_of (inputs_at nest scopes base ends) (inputs_at nest scopes base ends ++ []) (sym (append-nil (inputs_at nest scopes base ends)))

pub puts_more : (nest : Nest) (scopes : List GroupScope) (group height : ℕ) (old now new : List End) (first then_ all : List Bind)
    → Puts nest scopes group height old now first → Puts nest scopes group height now new then_ → all ≡ first ++ then_
    → Puts nest scopes group height old new all
puts_more nest scopes group height old now new first then_ all puts more is base scope depth at of_group within =
    let f = inputs_at nest scopes base in
    let g = ends_of nest depth scope in
    let joined : g all ≡ g first ++ g then_ = ap g is ∙ ends_append nest depth scope first then_ in
    same_then (f new) (f now ++ g then_) (f old ++ g all) (more base scope depth at of_group within)
    (same_then (f now ++ g then_) ((f old ++ g first) ++ g then_) (f old ++ g all)
    (same_both (f now) (f old ++ g first) (g then_) (g then_) (puts base scope depth at of_group within) (λ kept. refl))
    (same_of ((f old ++ g first) ++ g then_) (f old ++ g all)
    (append_assoc (f old) (g first) (g then_) ∙ ap (λ binds. f old ++ binds) (sym joined))))

-- ---- A line that leads to a component

same_spot_in : (scope : GroupScope) (bind : Bind) (found : Option Bind) → option_map (λ (one : Bind). one.inner) found ≡ Some bind.inner
    → option_map (spot_in scope) found ≡ Some (spot_in scope bind)
same_spot_in scope bind None is = let never : None ≡ Some bind.inner = is in absurd (cc)
same_spot_in scope bind (Some one) is =
    let some : Some one.inner ≡ Some bind.inner = is in
    let same : one.inner ≡ bind.inner = cc in ap (λ port. Some (record { scope = scope; port = port })) same

pub component_at : (nest : Nest) (scopes : List GroupScope) (base group depth line : ℕ) (scope : GroupScope) (bind : Bind) (end : End)
    → slice_get scopes (base + end.scope) ≡ Some scope → scope.group ≡ Some group → end.line ≡ line → LeadsHere nest group line bind
    → input_at nest scopes base end ≡ ends_of nest depth scope (bind ∷ [])
component_at nest scopes base group depth line scope bind end at of_group is leads =
    ap
    (λ found.
    option_to_list (option_and_then (λ (one : GroupScope). option_map (spot_in one) (slice_get (ins_of nest one.group) end.line)) found))
    at
    ∙ ap option_to_list (same_spot_in scope bind (slice_get (ins_of nest scope.group) end.line)
    (ap (λ own. option_map (λ (one : Bind). one.inner) (slice_get (ins_of nest own) end.line)) of_group
    ∙ ap (λ at. option_map (λ (one : Bind). one.inner) (slice_get (ins_of nest (Some group)) at)) is
    ∙ leads.there))
    ∙ sym (append-nil (all_ends nest depth (spot_in scope bind))
    ∙ ends_component nest depth (spot_in scope bind) (ap (λ own. place_at nest own bind.inner.instance) of_group ∙ leads.component))

pub puts_component : (nest : Nest) (scopes : List GroupScope) (group height : ℕ) (bind : Bind) (end : End) (old new : List End)
    → (end.scope ≡ 0) → LeadsHere nest group end.line bind → PutsOnce end old new → Puts nest scopes group height old new (bind ∷ [])
puts_component nest scopes group height bind end old new here leads puts base scope depth at of_group within =
    let place : base + end.scope ≡ base = omega (arith, here) in
    let f = inputs_at nest scopes base in
    let one = input_at nest scopes base end in
    let all = ends_of nest depth scope (bind ∷ []) in
    same_then (f new) (f old ++ one) (f old ++ all) (put_once_same (input_at nest scopes base) end old new puts)
    (same_of (f old ++ one) (f old ++ all)
    (ap (λ more. f old ++ more)
    (component_at nest scopes base group depth end.line scope bind end (ap (slice_get scopes) place ∙ at) of_group refl leads)))

-- ---- A line that leads into a group

pub onward_at : (nest : Nest) (scopes : List GroupScope) (base offset : ℕ) (ends : List End)
    → inputs_at nest scopes base (map (onward offset) ends) ≡ inputs_at nest scopes (base + offset) ends
onward_at nest scopes base offset [] = refl
onward_at nest scopes base offset (end ∷ ends) =
    let place : base + (end.scope + offset) ≡ base + offset + end.scope = omega arith in
    ap
    (λ at.
    option_to_list (option_and_then (λ (one : GroupScope). option_map (spot_in one) (slice_get (ins_of nest one.group) end.line)) (slice_get scopes at))
    ++ inputs_at nest scopes base (map (onward offset) ends)) place
    ∙ ap (λ rest. input_at nest scopes (base + offset) end ++ rest) (onward_at nest scopes base offset ends)

pub ends_inside : (nest : Nest) (scope : GroupScope) (bind : Bind) (place depth : ℕ) → place_at nest scope.group bind.inner.instance ≡ Some place
    → all_ends nest (suc depth) (spot_in scope bind)
    ≡ flat_map (all_ends nest depth)
    (map (spot_in (inside scope bind.inner.instance place)) (ins_in nest (inside scope bind.inner.instance place) bind.inner.port))
ends_inside nest scope bind place depth at = ap (flat_map (all_ends nest depth)) (expand_group nest (spot_in scope bind) place at)

-- The line reaches what the inner input reaches.
leads_ends : (nest : Nest) (group : ℕ) (bind : Bind) (inner : Known) (scope : GroupScope) (depth : ℕ)
    → place_at nest (Some group) bind.inner.instance ≡ Some inner.group → inner.port.now ≡ bind.inner.port → scope.group ≡ Some group
    → ends_of nest (suc depth) scope (bind ∷ [])
    ≡ ends_of nest depth (inside scope bind.inner.instance inner.group) (lines_of nest inner.group inner.port.now)
leads_ends nest group bind inner scope depth at named of_group =
    let place = inner.group in
    append-nil (all_ends nest (suc depth) (spot_in scope bind))
    ∙ ends_inside nest scope bind place depth (ap (λ own. place_at nest own bind.inner.instance) of_group ∙ at)
    ∙ ap (λ port. ends_of nest depth (inside scope bind.inner.instance place) (lines_of nest place port)) (sym named)

pub leads_inside : (nest : Nest) (scopes : List GroupScope) (all : List Known) (group height : ℕ) (step : Inside) (bind : Bind) (inner : Known)
    → slice_get all step.input ≡ Some inner → inner.height < height → place_at nest (Some group) bind.inner.instance ≡ Some inner.group
    → inner.port.now ≡ bind.inner.port → LeadsTo scopes group bind.inner.instance inner.group step.offset
    → LeadsInside nest scopes all group height step bind
leads_inside nest scopes all group height step bind inner there low at named leads = record { inner = inner; there = there; leads = by }
  where
    by : (base : ℕ) (scope : GroupScope) (depth : ℕ) → slice_get scopes base ≡ Some scope → scope.group ≡ Some group → height ≤ depth
        → LeadsAlike nest scopes base step.offset depth scope bind inner
    by base scope zero here of_group within = absurd (omega (arith, low, within))
    by base scope (suc depth) here of_group within = record {
      onward = inside scope bind.inner.instance inner.group;
      there = leads base scope here of_group;
      of_group = refl;
      left = depth;
      within = omega (arith, low, within);
      same = leads_ends nest group bind inner scope depth at named of_group;
    }

past_first : (nest : Nest) (scopes : List GroupScope) (all : List Known) (group height : ℕ) (step past : Inside) (bind : Bind)
    (first : LeadsInside nest scopes all group height step bind) → IsKnown nest scopes all first.inner → IsPast first.inner.steps.items step past
    → LeadsInside nest scopes all group height past bind
past_first nest scopes all group height step past bind first known (inl same) =
    subst (λ one. LeadsInside nest scopes all group height one bind) (sym same) first
past_first nest scopes all group height step past bind first known (inr (onward, only, is)) =
    by (lines_of nest middle.group middle.port.now) refl
    (subst (λ those. AreSteps nest scopes all middle.group middle.height those (lines_of nest middle.group middle.port.now)) only known.steps)
  where
    middle : Known
    middle = first.inner

    by : (lines : List Bind) → lines_of nest middle.group middle.port.now ≡ lines
        → AreSteps nest scopes all middle.group middle.height (step_is.Inside onward ∷ []) lines → LeadsInside nest scopes all group height past bind
    by [] lines_are are = absurd are
    by (next ∷ (other ∷ lines)) lines_are are = absurd are.1
    by (next ∷ []) lines_are are = record {
      inner = second.inner;
      there = ap (λ (one : Inside). slice_get all one.input) is ∙ second.there;
      leads = further;
    }
      where
        second : LeadsInside nest scopes all middle.group middle.height onward next
        second = are.0

        further : (base : ℕ) (scope : GroupScope) (depth : ℕ) → slice_get scopes base ≡ Some scope → scope.group ≡ Some group → height ≤ depth
            → LeadsAlike nest scopes base past.offset depth scope bind second.inner
        further base scope depth here of_group within =
            let one = first.leads base scope depth here of_group within in
            let two = second.leads (base + step.offset) one.onward one.left one.there one.of_group one.within in
            let both : past.offset ≡ step.offset + onward.offset = ap (λ (last : Inside). last.offset) is in
            let place : base + past.offset ≡ base + step.offset + onward.offset = omega (arith, both) in record {
              onward = two.onward;
              there = ap (slice_get scopes) place ∙ two.there;
              of_group = two.of_group;
              left = two.left;
              within = two.within;
              same = one.same ∙ ap (ends_of nest one.left one.onward) lines_are ∙ two.same;
            }

-- Past an input whose only line leads into a group.
pub leads_past : (nest : Nest) (scopes : List GroupScope) (all : List Known) (group height : ℕ) (step past : Inside) (bind : Bind) (middle : Known)
    → LeadsInside nest scopes all group height step bind → slice_get all step.input ≡ Some middle → IsKnown nest scopes all middle
    → IsPast middle.steps.items step past → LeadsInside nest scopes all group height past bind
leads_past nest scopes all group height step past bind middle first there known is_past =
    let same : middle ≡ first.inner = same_Some middle first.inner (sym there ∙ first.there) in
    past_first nest scopes all group height step past bind first (subst (IsKnown nest scopes all) same known)
    (subst (λ (one : Known). IsPast one.steps.items step past) same is_past)

pub puts_inside : (nest : Nest) (scopes : List GroupScope) (all : List Known) (firsts : List ℕ) (group height : ℕ) (step : Inside) (bind : Bind)
    (kept old new : List End) → AreAlike scopes group firsts → (leads : LeadsInside nest scopes all group height step bind)
    → KeepsAll nest scopes leads.inner kept
    → ((f : End → List Spot) → ReadsAlike firsts f → SameKept (flat_map f new) (flat_map f (old ++ map (onward step.offset) kept)))
    → Puts nest scopes group height old new (bind ∷ [])
puts_inside nest scopes all firsts group height step bind kept old new alike leads keeps puts base scope depth at of_group within =
    let f = inputs_at nest scopes base in
    let offset = step.offset in
    let there = inputs_at nest scopes (base + offset) kept in
    let inner = leads.leads base scope depth at of_group within in
    let ends = ends_of nest inner.left inner.onward (lines_of nest leads.inner.group leads.inner.port.now) in
    let all_of = ends_of nest depth scope (bind ∷ []) in
    let knows : SameKept there ends = keeps (base + offset) inner.onward inner.left inner.there inner.of_group inner.within in
    same_then (f new) (f (old ++ map (onward offset) kept)) (f old ++ all_of)
    (puts (input_at nest scopes base) (reads_alike nest scopes group firsts base scope alike at of_group))
    (same_then (f (old ++ map (onward offset) kept)) (f old ++ there) (f old ++ all_of)
    (same_of (f (old ++ map (onward offset) kept)) (f old ++ there)
    (flat_map-append (input_at nest scopes base) old (map (onward offset) kept)
    ∙ ap (λ more. f old ++ more) (onward_at nest scopes base offset kept)))
    (same_both (f old) (f old) there all_of (λ kept. refl)
    (same_then there ends all_of knows (same_of ends all_of (sym inner.same)))))

-- ---- More known inputs

step_more : (nest : Nest) (scopes : List GroupScope) (all behind : List Known) (group low high : ℕ) → low ≤ high → (step : WayStep) (bind : Bind)
    → IsStep nest scopes all group low step bind → IsStep nest scopes (all ++ behind) group high step bind
step_more nest scopes all behind group low high less (step_is.Component line) bind leads = leads
step_more nest scopes all behind group low high less (step_is.Inside step) bind leads =
    record {
      inner = leads.inner;
      there = at_front all behind step.input leads.inner leads.there;
      leads = λ base scope depth at of_group within. leads.leads base scope depth at of_group (omega (arith, less, within));
    }

pub steps_more : (nest : Nest) (scopes : List GroupScope) (all behind : List Known) (group low high : ℕ) (steps : List WayStep) (binds : List Bind)
    → low ≤ high → AreSteps nest scopes all group low steps binds → AreSteps nest scopes (all ++ behind) group high steps binds
steps_more nest scopes all behind group low high [] [] less are = tt
steps_more nest scopes all behind group low high [] (bind ∷ binds) less are = absurd are
steps_more nest scopes all behind group low high (step ∷ steps) [] less are = absurd are
steps_more nest scopes all behind group low high (step ∷ steps) (bind ∷ binds) less are =
    (step_more nest scopes all behind group low high less step bind are.0, steps_more nest scopes all behind group low high steps binds less are.1)

-- One step more.
pub steps_next : (nest : Nest) (scopes : List GroupScope) (all : List Known) (group low one high : ℕ) (steps steps' : List WayStep) (step : WayStep)
    (binds binds' : List Bind) (bind : Bind) → AreSteps nest scopes all group low steps binds → IsStep nest scopes all group one step bind
    → low ≤ high → one ≤ high → steps' ≡ steps ++ step ∷ [] → binds' ≡ binds ++ bind ∷ [] → AreSteps nest scopes all group high steps' binds'
steps_next nest scopes all group low one high steps steps' step binds binds' bind are is less more made led =
    let R = IsStep nest scopes all group high in
    let front : AllZip R steps binds =
    subst (λ those. AreSteps nest scopes those group high steps binds) (append-nil all) (steps_more nest scopes all [] group low high steps binds less are) in
    let last : R step bind =
    subst (λ those. IsStep nest scopes those group high step bind) (append-nil all) (step_more nest scopes all [] group one high more step bind is) in
    subst (λ those. AllZip R those binds') (sym made)
    (subst (λ those. AllZip R (steps ++ step ∷ []) those) (sym led) (zip_append R steps (step ∷ []) binds (bind ∷ []) front (last, tt)))

pub known_more : (nest : Nest) (scopes : List GroupScope) (all all' : List Known) (one : Known) → AreKnown nest scopes all
    → AreSteps nest scopes all one.group one.height one.steps.items (lines_of nest one.group one.port.now)
    → ((kept : List End) → one.ends ≡ Some kept → KeepsAll nest scopes one kept) → all' ≡ all ++ one ∷ [] → AreKnown nest scopes all'
known_more nest scopes all all' one are steps ends more place known there =
    subst (λ those. IsKnown nest scopes those known) (sym more)
    (at_push (λ (k : ℕ) (each : Known). IsKnown nest scopes (all ++ one ∷ []) each) all one (λ k each at. still each (are k each at))
    (still one (record { steps = steps; ends = ends })) place known (sym (ap (λ those. slice_get those place) more) ∙ there))
  where
    still : (each : Known) → IsKnown nest scopes all each → IsKnown nest scopes (all ++ one ∷ []) each
    still each is = record {
      steps = steps_more nest scopes all (one ∷ []) each.group each.height each.height each.steps.items (lines_of nest each.group each.port.now) (omega arith) is.steps;
      ends = is.ends;
    }

-- ---- All steps of an input

take_none : (count : ℕ) → take {A = Bind} count [] ≡ []
take_none zero = refl
take_none (suc count) = refl

-- One line more, where there is one.
pub line_next : (binds : List Bind) (place : ℕ) → take (place + 1) binds ≡ take place binds ++ option_to_list (slice_get binds place)
line_next [] place = take_none (place + 1) ∙ sym (ap (λ front. front ++ []) (take_none place))
line_next (bind ∷ binds) zero = refl
line_next (bind ∷ binds) (suc place) =
    let more : suc place + 1 ≡ suc (place + 1) = omega arith in
    ap (λ count. take count (bind ∷ binds)) more ∙ ap (λ rest. bind ∷ rest) (line_next binds place)

-- Lines up to one, that one, and those after it.
pub lines_split : (binds : List Bind) (place : ℕ) → binds ≡ (take place binds ++ option_to_list (slice_get binds place)) ++ drop (place + 1) binds
lines_split binds place = sym (take-append-drop (place + 1) binds) ∙ ap (λ front. front ++ drop (place + 1) binds) (line_next binds place)

-- There is one line for each step.
pub lines_end : (nest : Nest) (scopes : List GroupScope) (all : List Known) (group height : ℕ) (steps : List WayStep) (binds : List Bind) (place : ℕ)
    → AreSteps nest scopes all group height steps binds → length steps ≤ place → take place binds ≡ binds
lines_end nest scopes all group height [] [] zero are long = refl
lines_end nest scopes all group height [] [] (suc place) are long = refl
lines_end nest scopes all group height [] (bind ∷ binds) place are long = absurd are
lines_end nest scopes all group height (step ∷ steps) [] place are long = absurd are
lines_end nest scopes all group height (step ∷ steps) (bind ∷ binds) zero are long = absurd (omega (arith, long))
lines_end nest scopes all group height (step ∷ steps) (bind ∷ binds) (suc place) are long =
    ap (λ rest. bind ∷ rest) (lines_end nest scopes all group height steps binds place are.1 (omega (arith, long)))

list_of : {A : Type 0} (found : Option A) → cons_option found [] ≡ option_to_list found
list_of None = refl
list_of (Some one) = refl

pub lines_next : (ins : List Bind) (lines : List ℕ) (place : ℕ) → place < length lines
    → items_at ins (take (place + 1) lines) ≡ items_at ins (take place lines) ++ option_to_list (slice_get ins (get_or lines place 0))
lines_next ins lines place within =
    let line = get_or lines place 0 in
    ap (filter_map (slice_get ins)) (take_more lines place 0 within)
    ∙ filter_map-append (slice_get ins) (take place lines) (line ∷ [])
    ∙ ap (λ last. items_at ins (take place lines) ++ last) (list_of (slice_get ins line))

-- ---- What a target reaches

pub target_reached : (nest : Nest) (spot : Spot) (place : ℕ) → place_at nest spot.scope.group spot.port.instance ≡ Some place
    → reached_inside nest (inside spot.scope spot.port.instance place) place spot.port.port ≡ reach nest 33 (spot ∷ [])
target_reached nest spot place at =
    sym (reach_one nest 33 spot ∙ ap (λ spots. distinct [] (flat_map (all_ends nest 32) spots)) (expand_group nest spot place at))
