-- What an input of a group reaches in one scope, step by step.
use Rattle.std.proofs.Common.{◌≡◌, ◌≤◌, ℕ, zero, suc, ◌+◌, Bool, true, false, List, [], ◌∷◌, ◌++◌, map, length}
use Rattle.std.proofs.Common.{refl, sym, ap, ◌∙◌, subst, append_assoc, append-nil, arith, length-append, Some}
use Rattle.std.proofs.Common.{Result, Ok, Err, ◌⊎◌, inl, inr}
use Rattle.std.specs.Prelude.{IfOk, slice_get}
use Rattle.std.specs.List.{flat_map}
use Rattle.std.proofs.lemmas.Grind.{flat_map-append}
use Rattle.std.proofs.lemmas.Option.{same_Some}
use Rattle.nest_text.specs.declared.nest.Bind.{Bind}
use Rattle.nest_text.specs.declared.nest.Nest.{Nest}
use Rattle.nest_names.specs.Flattening.{distinct}
use Rattle.nest_names.specs.declared.scope.GroupScope.{GroupScope}
use Rattle.nest_names.specs.declared.scope.Spot.{Spot}
use Rattle.nest_ways.specs.Reaching.{AreAlike, IsIn, KeepsAll, LeadsHere, LeadsInside, PutsIf, PutsOnce, PutsUpTo, ReadsAlike, SameKept}
use Rattle.nest_ways.specs.Reaching.{ends_of, input_at, inputs_at, lines_of, onward}
use Rattle.nest_ways.specs.Sets.{HasAll, HasAt, HasNumber, HasOnly, HasNumberAt, IsAmong}
use Rattle.nest_ways.specs.Walking.{AreDone, IsDone, IsInletAt, IsNumbered, IsScopeAt, WalksOn, WalksWhole}
use Rattle.nest_ways.specs.declared.done.GroupScopes.{GroupScopes}
use Rattle.nest_ways.specs.declared.ends.End.{End}
use Rattle.nest_ways.specs.declared.numbers.KeptSets.{KeptSets}
use Rattle.nest_ways.specs.declared.sets.NumberSet.{NumberSet}
use Rattle.nest_ways.specs.declared.steps.Inside.{Inside}
use Rattle.nest_ways.specs.declared.steps.Known.{Known}
use Rattle.nest_ways.specs.declared.walk.Inlet.{Inlet}
use Rattle.nest_ways.specs.declared.walk.Walk.{Walk}
use Rattle.nest_ways.proofs.AlikeLaws.{reads_alike}
use Rattle.nest_ways.proofs.KeptLaws.{distinct-append, in_behind, in_either, in_front, same_both, same_covered, same_there}
use Rattle.nest_ways.proofs.WayLaws.{component_at, ends_append, onward_at, put_once_same, same_of, same_then}

pub ok_more : {A E : Type 0} (P Q : A → Type 0) (result : Result A E) → IfOk result P → ((value : A) → P value → Q value) → IfOk result Q
ok_more P Q (Ok value) is more = more value is
ok_more P Q (Err why) is more = tt

-- ---- Complete and incomplete lists

pub upto_same : (whole : Bool) (put all all' : List Spot) → PutsUpTo whole put all → SameKept all all' → PutsUpTo whole put all'
upto_same true put all all' puts same = same_then put all all' puts same
upto_same false put all all' puts same = (puts.0, same_then (put ++ puts.0) all all' puts.1 same)

-- What is added after a complete list.
pub upto_then : (whole : Bool) (old now new one other : List Spot) → SameKept now (old ++ one) → PutsUpTo whole new (now ++ other)
    → PutsUpTo whole new (old ++ (one ++ other))
upto_then whole old now new one other first puts =
    upto_same whole new (now ++ other) (old ++ (one ++ other)) puts
    (same_then (now ++ other) ((old ++ one) ++ other) (old ++ (one ++ other)) (same_both now (old ++ one) other other first (λ kept. refl))
    (same_of ((old ++ one) ++ other) (old ++ (one ++ other)) (append_assoc old one other)))

-- After an incomplete list nothing is added.
pub upto_stop : (put all more : List Spot) → PutsUpTo false put all → PutsUpTo false put (all ++ more)
upto_stop put all more puts = (
  puts.0 ++ more,
  same_then (put ++ (puts.0 ++ more)) ((put ++ puts.0) ++ more) (all ++ more)
      (same_of (put ++ (puts.0 ++ more)) ((put ++ puts.0) ++ more) (sym (append_assoc put puts.0 more)))
      (same_both (put ++ puts.0) all more more puts.1 (λ kept. refl)),
)

pub upto_none : (old more : List Spot) → PutsUpTo false old (old ++ more)
upto_none old more = (more, λ kept. refl)

-- ---- Finished inputs

done_by : (nest : Nest) (scopes : List GroupScope) (base offset : ℕ) (known : Known) (old new : List End) (more : List Spot)
    → SameKept (inputs_at nest scopes base new) (inputs_at nest scopes base old ++ more) → IsDone nest scopes base old offset known
    → IsDone nest scopes base new offset known
done_by nest scopes base offset known old new more same done scope depth one at of_group within leads =
    let before = inputs_at nest scopes base old in
    same_there (inputs_at nest scopes base new) (before ++ more) one same (in_front one before more (done scope depth one at of_group within leads))

-- What is finished stays finished when more is added.
pub done_more : (nest : Nest) (scopes : List GroupScope) (group_scopes : GroupScopes) (kept_sets : KeptSets) (all : List Known) (base group place : ℕ) (old new : Walk)
    (more : GroupScope → List Spot) → IsScopeAt scopes place group → new.done ≡ old.done → new.put ≡ old.put
    → ((scope : GroupScope) → slice_get scopes place ≡ Some scope → scope.group ≡ Some group
    → SameKept (inputs_at nest scopes base new.ends) (inputs_at nest scopes base old.ends ++ more scope))
    → AreDone nest scopes group_scopes kept_sets all base old → AreDone nest scopes group_scopes kept_sets all base new
done_more nest scopes group_scopes kept_sets all base group place old new more there still still_put puts are = record {
  inputs = λ input number offset known held found at.
      done_by nest scopes base offset known old.ends new.ends (more there.scope) same
      (are.inputs input number offset known (subst (λ done. HasAt done.sets.items input number) still held) found at);
  ends = λ offset number end one held numbered is.
      same_there (inputs_at nest scopes base new.ends) (before ++ more there.scope) one same
      (in_front one before (more there.scope)
      (are.ends offset number end one (subst (λ put. HasNumberAt put.sets.items offset number) still_put held) numbered is));
}
  where
    before : List Spot
    before = inputs_at nest scopes base old.ends

    same : SameKept (inputs_at nest scopes base new.ends) (before ++ more there.scope)
    same = puts there.scope there.there there.of_group

-- ---- Inputs that are kept

pub kept_puts : (nest : Nest) (scopes : List GroupScope) (firsts : List ℕ) (base group offset : ℕ) (known : Known) (kept old new : List End) (whole : Bool)
    → AreAlike scopes group firsts → IsScopeAt scopes base group → KeepsAll nest scopes known kept
    → ((f : End → List Spot) → ReadsAlike firsts f → PutsUpTo whole (flat_map f new) (flat_map f (old ++ map (onward offset) kept)))
    → (scope : GroupScope) (depth : ℕ) → slice_get scopes (base + offset) ≡ Some scope → scope.group ≡ Some known.group → known.height ≤ depth
    → PutsUpTo whole (inputs_at nest scopes base new)
    (inputs_at nest scopes base old ++ ends_of nest depth scope (lines_of nest known.group known.port.now))
kept_puts nest scopes firsts base group offset known kept old new whole alike start keeps puts scope depth at of_group within =
    let f = input_at nest scopes base in
    let before = inputs_at nest scopes base old in
    let inner = inputs_at nest scopes (base + offset) kept in
    let more = ends_of nest depth scope (lines_of nest known.group known.port.now) in
    let put = flat_map f (old ++ map (onward offset) kept) in
    let joined : put ≡ before ++ inner =
    flat_map-append f old (map (onward offset) kept) ∙ ap (λ rest. before ++ rest) (onward_at nest scopes base offset kept) in
    upto_same whole (flat_map f new) put (before ++ more)
    (puts f (reads_alike nest scopes group firsts base start.scope alike start.there start.of_group))
    (same_then put (before ++ inner) (before ++ more) (same_of put (before ++ inner) joined)
    (same_both before before inner more (λ kept. refl) (keeps (base + offset) scope depth at of_group within)))

-- ---- A step to a component

pub component_puts : (nest : Nest) (scopes : List GroupScope) (base offset line : ℕ) (known : Known) (bind : Bind) (end : End) (old new : List End)
    → end.scope ≡ offset → end.line ≡ line → LeadsHere nest known.group line bind → PutsOnce end old new
    → (scope : GroupScope) (depth : ℕ) → slice_get scopes (base + offset) ≡ Some scope → scope.group ≡ Some known.group
    → SameKept (inputs_at nest scopes base new) (inputs_at nest scopes base old ++ ends_of nest depth scope (bind ∷ []))
component_puts nest scopes base offset line known bind end old new here is leads puts scope depth at of_group =
    let before = inputs_at nest scopes base old in
    let one = input_at nest scopes base end in
    let all = ends_of nest depth scope (bind ∷ []) in
    same_then (inputs_at nest scopes base new) (before ++ one) (before ++ all) (put_once_same (input_at nest scopes base) end old new puts)
    (same_of (before ++ one) (before ++ all)
    (ap (λ more. before ++ more)
    (component_at nest scopes base known.group depth line scope bind end (ap (λ n. slice_get scopes (base + n)) here ∙ at) of_group is leads)))

-- Nothing was added.
pub walks_none : (nest : Nest) (scopes : List GroupScope) (group_scopes : GroupScopes) (kept_sets : KeptSets) (all : List Known) (base offset : ℕ) (known : Known) (walk : Walk) (binds : List Bind)
    → WalksOn nest scopes group_scopes kept_sets all base offset known walk walk false binds
walks_none nest scopes group_scopes kept_sets all base offset known walk binds = record {
  puts = λ scope depth at of_group within. upto_none (inputs_at nest scopes base walk.ends) (ends_of nest depth scope binds);
  done = λ told. let never : false ≡ true = told in absurd (cc);
}

pub component_walks : (nest : Nest) (scopes : List GroupScope) (group_scopes : GroupScopes) (kept_sets : KeptSets) (all : List Known) (base offset line : ℕ) (known : Known) (bind : Bind) (end : End)
    (old new : Walk) (whole : Bool) → IsScopeAt scopes (base + offset) known.group → AreDone nest scopes group_scopes kept_sets all base old
    → end.scope ≡ offset → end.line ≡ line → LeadsHere nest known.group line bind → PutsIf whole end old.ends new.ends
    → new.done ≡ old.done → new.put ≡ old.put → WalksOn nest scopes group_scopes kept_sets all base offset known old new whole (bind ∷ [])
component_walks nest scopes group_scopes kept_sets all base offset line known bind end old new true there are here is leads puts still still_put =
    let by = component_puts nest scopes base offset line known bind end old.ends new.ends here is leads puts in
    record {
      puts = λ scope depth at of_group within. by scope depth at of_group;
      done = λ told.
          done_more nest scopes group_scopes kept_sets all base known.group (base + offset) old new (λ scope. ends_of nest known.height scope (bind ∷ [])) there still still_put
          (λ scope at of_group. by scope known.height at of_group) are;
    }
component_walks nest scopes group_scopes kept_sets all base offset line known bind end old new false there are here is leads puts still still_put = record {
  puts = λ scope depth at of_group within.
      subst (λ ends. PutsUpTo false (inputs_at nest scopes base ends) (inputs_at nest scopes base old.ends ++ ends_of nest depth scope (bind ∷ [])))
      (sym puts) (upto_none (inputs_at nest scopes base old.ends) (ends_of nest depth scope (bind ∷ [])));
  done = λ told. let never : false ≡ true = told in absurd (cc);
}

-- ---- A step into a group

pub inside_walks : (nest : Nest) (scopes : List GroupScope) (group_scopes : GroupScopes) (kept_sets : KeptSets) (all : List Known) (base offset : ℕ) (known : Known) (step : Inside) (bind : Bind)
    (inlet : Inlet) (old new : Walk) (whole : Bool) → inlet.input ≡ step.input
    → slice_get scopes (base + inlet.scope) ≡ slice_get scopes (base + (offset + step.offset))
    → LeadsInside nest scopes all known.group known.height step bind → WalksWhole nest scopes group_scopes kept_sets all base inlet old new whole
    → WalksOn nest scopes group_scopes kept_sets all base offset known old new whole (bind ∷ [])
inside_walks nest scopes group_scopes kept_sets all base offset known step bind inlet old new whole input same leads walks = record {
  puts = by;
  done = inner.done;
}
  where
    inner : WalksOn nest scopes group_scopes kept_sets all base inlet.scope leads.inner old new whole (lines_of nest leads.inner.group leads.inner.port.now)
    inner = walks leads.inner (ap (slice_get all) input ∙ leads.there)

    by : (scope : GroupScope) (depth : ℕ) → slice_get scopes (base + offset) ≡ Some scope → scope.group ≡ Some known.group → known.height ≤ depth
        → PutsUpTo whole (inputs_at nest scopes base new.ends) (inputs_at nest scopes base old.ends ++ ends_of nest depth scope (bind ∷ []))
    by scope depth at of_group within =
        let alike = leads.leads (base + offset) scope depth at of_group within in
        let place : base + (offset + step.offset) ≡ base + offset + step.offset = omega arith in
        subst (λ more. PutsUpTo whole (inputs_at nest scopes base new.ends) (inputs_at nest scopes base old.ends ++ more)) (sym alike.same)
        (inner.puts alike.onward alike.left (same ∙ ap (slice_get scopes) place ∙ alike.there) alike.of_group alike.within)

-- The scope inside is one of its group.
pub inside_there : (nest : Nest) (scopes : List GroupScope) (all : List Known) (base offset : ℕ) (known : Known) (step : Inside) (bind : Bind) (inlet : Inlet)
    → inlet.input ≡ step.input → slice_get scopes (base + inlet.scope) ≡ slice_get scopes (base + (offset + step.offset))
    → LeadsInside nest scopes all known.group known.height step bind → IsScopeAt scopes (base + offset) known.group → IsInletAt scopes all base inlet
inside_there nest scopes all base offset known step bind inlet input same leads at one found =
    let inner_is : leads.inner ≡ one = same_Some leads.inner one (sym leads.there ∙ sym (ap (slice_get all) input) ∙ found) in
    let place : base + (offset + step.offset) ≡ base + offset + step.offset = omega arith in
    let alike = leads.leads (base + offset) at.scope known.height at.there at.of_group (omega arith) in record {
      scope = alike.onward;
      there = same ∙ ap (slice_get scopes) place ∙ alike.there;
      of_group = alike.of_group ∙ ap (λ (k : Known). Some k.group) inner_is;
    }

-- ---- Steps in turn

pub walks_nothing : (nest : Nest) (scopes : List GroupScope) (group_scopes : GroupScopes) (kept_sets : KeptSets) (all : List Known) (base offset : ℕ) (known : Known) (walk : Walk) → AreDone nest scopes group_scopes kept_sets all base walk
    → WalksOn nest scopes group_scopes kept_sets all base offset known walk walk true []
walks_nothing nest scopes group_scopes kept_sets all base offset known walk done = record {
  puts = λ scope depth at of_group within.
      same_of (inputs_at nest scopes base walk.ends) (inputs_at nest scopes base walk.ends ++ [])
      (sym (append-nil (inputs_at nest scopes base walk.ends)));
  done = λ told. done;
}

pub walks_more : (nest : Nest) (scopes : List GroupScope) (group_scopes : GroupScopes) (kept_sets : KeptSets) (all : List Known) (base offset : ℕ) (known : Known) (old now new : Walk) (whole : Bool)
    (ones others both : List Bind) → WalksOn nest scopes group_scopes kept_sets all base offset known old now true ones
    → WalksOn nest scopes group_scopes kept_sets all base offset known now new whole others → both ≡ ones ++ others → WalksOn nest scopes group_scopes kept_sets all base offset known old new whole both
walks_more nest scopes group_scopes kept_sets all base offset known old now new whole ones others both first then_ is = record {
  puts = λ scope depth at of_group within.
      let f = inputs_at nest scopes base in
      let g = ends_of nest depth scope in
      subst (λ more. PutsUpTo whole (f new.ends) (f old.ends ++ more)) (sym (ap g is ∙ ends_append nest depth scope ones others))
      (upto_then whole (f old.ends) (f now.ends) (f new.ends) (g ones) (g others) (first.puts scope depth at of_group within)
      (then_.puts scope depth at of_group within));
  done = then_.done;
}

pub walks_stop : (nest : Nest) (scopes : List GroupScope) (group_scopes : GroupScopes) (kept_sets : KeptSets) (all : List Known) (base offset : ℕ) (known : Known) (old new : Walk)
    (ones others both : List Bind) → WalksOn nest scopes group_scopes kept_sets all base offset known old new false ones → both ≡ ones ++ others
    → WalksOn nest scopes group_scopes kept_sets all base offset known old new false both
walks_stop nest scopes group_scopes kept_sets all base offset known old new ones others both walks is = record {
  puts = λ scope depth at of_group within.
      let f = inputs_at nest scopes base in
      let g = ends_of nest depth scope in
      subst (PutsUpTo false (f new.ends))
      (append_assoc (f old.ends) (g ones) (g others)
      ∙ ap (λ more. f old.ends ++ more) (sym (ap g is ∙ ends_append nest depth scope ones others)))
      (upto_stop (f new.ends) (f old.ends ++ g ones) (g others) (walks.puts scope depth at of_group within));
  done = λ told. let never : false ≡ true = told in absurd (cc);
}

-- ---- Inputs that are finished

pub walks_done : (nest : Nest) (scopes : List GroupScope) (group_scopes : GroupScopes) (kept_sets : KeptSets) (all : List Known) (base offset : ℕ) (known : Known) (walk : Walk)
    → AreDone nest scopes group_scopes kept_sets all base walk → IsDone nest scopes base walk.ends offset known
    → WalksOn nest scopes group_scopes kept_sets all base offset known walk walk true (lines_of nest known.group known.port.now)
walks_done nest scopes group_scopes kept_sets all base offset known walk are done = record {
  puts = λ scope depth at of_group within.
      same_covered (inputs_at nest scopes base walk.ends) (ends_of nest depth scope (lines_of nest known.group known.port.now))
      (λ one is. done scope depth one at of_group within is);
  done = λ told. are;
}

-- An input for which all was added is finished.
pub is_done_now : (nest : Nest) (scopes : List GroupScope) (group_scopes : GroupScopes) (kept_sets : KeptSets) (all : List Known) (base offset : ℕ) (known : Known) (old new : Walk)
    → WalksOn nest scopes group_scopes kept_sets all base offset known old new true (lines_of nest known.group known.port.now) → IsDone nest scopes base new.ends offset known
is_done_now nest scopes group_scopes kept_sets all base offset known old new walks scope depth one at of_group within is =
    let before = inputs_at nest scopes base old.ends in
    let leads = ends_of nest depth scope (lines_of nest known.group known.port.now) in
    same_there (inputs_at nest scopes base new.ends) (before ++ leads) one (walks.puts scope depth at of_group within) (in_behind one before leads is)

-- A number of a group belongs to one scope.
same_offset : (group_scopes : GroupScopes) (group number base one other : ℕ) → IsNumbered group_scopes group number (base + one)
    → IsNumbered group_scopes group number (base + other) → one ≡ other
same_offset group_scopes group number base one other here there =
    let same : base + one ≡ base + other = same_Some (base + one) (base + other) (sym here ∙ there) in omega (arith, same)

-- One more input is finished, in one scope.
pub done_with : (nest : Nest) (scopes : List GroupScope) (group_scopes : GroupScopes) (kept_sets : KeptSets) (all : List Known) (base number : ℕ) (old new : Walk) (inlet : Inlet)
    → AreDone nest scopes group_scopes kept_sets all base old
    → ((known : Known) → slice_get all inlet.input ≡ Some known → IsDone nest scopes base old.ends inlet.scope known)
    → ((known : Known) → slice_get all inlet.input ≡ Some known → IsNumbered group_scopes known.group number (base + inlet.scope))
    → new.ends ≡ old.ends → new.put ≡ old.put
    → ((input one : ℕ) → HasAt new.done.sets.items input one → ((input ≡ inlet.input) × (one ≡ number)) ⊎ HasAt old.done.sets.items input one)
    → AreDone nest scopes group_scopes kept_sets all base new
done_with nest scopes group_scopes kept_sets all base number old new inlet are is numbered ends put has = record {
  inputs = λ input one offset known held found at.
      subst (λ those. IsDone nest scopes base those offset known) (sym ends) (by input one offset known found at (has input one held));
  ends = λ offset one end spot held there in_.
      subst (λ those. IsIn spot (inputs_at nest scopes base those)) (sym ends)
      (are.ends offset one end spot (subst (λ sets. HasNumberAt sets.sets.items offset one) put held) there in_);
}
  where
    by : (input one offset : ℕ) (known : Known) → slice_get all input ≡ Some known → IsNumbered group_scopes known.group one (base + offset)
        → ((input ≡ inlet.input) × (one ≡ number)) ⊎ HasAt old.done.sets.items input one → IsDone nest scopes base old.ends offset known
    by input one offset known found at (inr before) = are.inputs input one offset known before found at
    by input one offset known found at (inl here) =
        let same_input = here.0 in
        let there : slice_get all inlet.input ≡ Some known = ap (slice_get all) (sym same_input) ∙ found in
        let place = same_offset group_scopes known.group number base inlet.scope offset (numbered known there)
        (subst (λ n. IsNumbered group_scopes known.group n (base + offset)) here.1 at) in
        subst (λ n. IsDone nest scopes base old.ends n known) place (is known there)

-- ---- What is added by numbers

-- What one element gives is among what all give.
in_flat : (f : End → List Spot) (ends : List End) (end : End) (one : Spot) → IsAmong end ends → IsIn one (f end) → IsIn one (flat_map f ends)
in_flat f [] end one among is = let never = among.1 in absurd (cc)
in_flat f (first ∷ ends) end one (zero, at) is =
    in_front one (f first) (flat_map f ends) (subst (λ each. IsIn one (f each)) (sym (same_Some first end at)) is)
in_flat f (first ∷ ends) end one (suc place, at) is = in_behind one (f first) (flat_map f ends) (in_flat f ends end one (place, at) is)

-- An element that all give is given by one of them.
flat_from : (f : End → List Spot) (ends : List End) (one : Spot) → IsIn one (flat_map f ends) → (end : End) × IsAmong end ends × IsIn one (f end)
flat_from f [] one is = let never : false ≡ true = is in absurd (cc)
flat_from f (first ∷ ends) one is = by (flat_from f ends one) (in_either one (f first) (flat_map f ends) is)
  where
    by : (IsIn one (flat_map f ends) → (end : End) × IsAmong end ends × IsIn one (f end)) → IsIn one (f first) ⊎ IsIn one (flat_map f ends)
        → (end : End) × IsAmong end (first ∷ ends) × IsIn one (f end)
    by further (inl here) = (first, (zero, refl), here)
    by further (inr later) = let from = further later in (from.0, (suc from.1.0, from.1.1), from.2)

-- The kept inputs of one more input were added, in one scope.
pub put_with : (nest : Nest) (scopes : List GroupScope) (group_scopes : GroupScopes) (kept_sets : KeptSets) (all : List Known) (base offset : ℕ) (known : Known)
    (kept : List End) (set : NumberSet) (old new : Walk) → IsScopeAt scopes (base + offset) known.group → KeepsAll nest scopes known kept
    → HasOnly kept_sets.numbered set kept → IsDone nest scopes base old.ends offset known → new.ends ≡ old.ends → new.done ≡ old.done
    → ((other number : ℕ) → HasNumberAt new.put.sets.items other number → ((other ≡ offset) × HasNumber set number) ⊎ HasNumberAt old.put.sets.items other number)
    → AreDone nest scopes group_scopes kept_sets all base old → AreDone nest scopes group_scopes kept_sets all base new
put_with nest scopes group_scopes kept_sets all base offset known kept set old new there keeps only done ends still has are = record {
  inputs = λ input number other each held found at.
      subst (λ those. IsDone nest scopes base those other each) (sym ends)
      (are.inputs input number other each (subst (λ marks. HasAt marks.sets.items input number) still held) found at);
  ends = λ other number end one held numbered is.
      subst (λ those. IsIn one (inputs_at nest scopes base those)) (sym ends) (by other number end one numbered is (has other number held));
}
  where
    leads : List Spot
    leads = ends_of nest known.height there.scope (lines_of nest known.group known.port.now)

    inner : List Spot
    inner = inputs_at nest scopes (base + offset) kept

    now : (end : End) (one : Spot) → IsAmong end kept → IsIn one (input_at nest scopes (base + offset) end) → IsIn one (inputs_at nest scopes base old.ends)
    now end one among is =
        done there.scope known.height one there.there there.of_group (omega arith)
        (same_there leads inner one (λ those. sym (keeps (base + offset) there.scope known.height there.there there.of_group (omega arith) those))
        (in_flat (input_at nest scopes (base + offset)) kept end one among is))

    by : (other number : ℕ) (end : End) (one : Spot) → slice_get kept_sets.numbered number ≡ Some end → IsIn one (input_at nest scopes (base + other) end)
        → ((other ≡ offset) × HasNumber set number) ⊎ HasNumberAt old.put.sets.items other number → IsIn one (inputs_at nest scopes base old.ends)
    by other number end one numbered is (inr before) = are.ends other number end one before numbered is
    by other number end one numbered is (inl here) =
        let own = only number here.1 in
        let same : own.0 ≡ end = same_Some own.0 end (sym own.1 ∙ numbered) in
        now end one (subst (λ each. IsAmong each kept) same own.2) (subst (λ n. IsIn one (input_at nest scopes (base + n) end)) here.0 is)

-- Where all that is kept for an input was added, all that it reaches was.
pub put_whole : (nest : Nest) (scopes : List GroupScope) (group_scopes : GroupScopes) (kept_sets : KeptSets) (all : List Known) (base offset : ℕ) (known : Known)
    (kept : List End) (set : NumberSet) (walk : Walk) → KeepsAll nest scopes known kept → HasAll kept_sets.numbered set kept
    → ((number : ℕ) → HasNumber set number → HasNumberAt walk.put.sets.items offset number)
    → AreDone nest scopes group_scopes kept_sets all base walk → IsDone nest scopes base walk.ends offset known
put_whole nest scopes group_scopes kept_sets all base offset known kept set walk keeps has put are scope depth one at of_group within leads =
    let inner = inputs_at nest scopes (base + offset) kept in
    let ends = ends_of nest depth scope (lines_of nest known.group known.port.now) in
    let from = flat_from (input_at nest scopes (base + offset)) kept one
    (same_there inner ends one (keeps (base + offset) scope depth at of_group within) leads) in
    let number = has from.0 from.1 in
    are.ends offset number.0 from.0 one (put number.0 number.1) number.2 from.2

-- The walk after that is the same, except for its records.
pub walks_same : (nest : Nest) (scopes : List GroupScope) (group_scopes : GroupScopes) (kept_sets : KeptSets) (all : List Known) (base offset : ℕ) (known : Known) (old now new : Walk) (binds : List Bind)
    → WalksOn nest scopes group_scopes kept_sets all base offset known old now true binds → new.ends ≡ now.ends → AreDone nest scopes group_scopes kept_sets all base new
    → WalksOn nest scopes group_scopes kept_sets all base offset known old new true binds
walks_same nest scopes group_scopes kept_sets all base offset known old now new binds walks same done = record {
  puts = λ scope depth at of_group within.
      subst (λ ends. SameKept (inputs_at nest scopes base ends) (inputs_at nest scopes base old.ends ++ ends_of nest depth scope binds))
      (sym same) (walks.puts scope depth at of_group within);
  done = λ told. done;
}

-- A property of the input at the place is one of each input that is found there.
pub whole_of : (nest : Nest) (scopes : List GroupScope) (group_scopes : GroupScopes) (kept_sets : KeptSets) (all : List Known) (base : ℕ) (inlet : Inlet) (known : Known) (old new : Walk) (whole : Bool)
    → slice_get all inlet.input ≡ Some known
    → WalksOn nest scopes group_scopes kept_sets all base inlet.scope known old new whole (lines_of nest known.group known.port.now)
    → WalksWhole nest scopes group_scopes kept_sets all base inlet old new whole
whole_of nest scopes group_scopes kept_sets all base inlet known old new whole found walks one there =
    subst (λ (each : Known). WalksOn nest scopes group_scopes kept_sets all base inlet.scope each old new whole (lines_of nest each.group each.port.now))
    (same_Some known one (sym found ∙ there)) walks

pub more_kept : (put all rest : List Spot) → SameKept (put ++ rest) all → length (distinct [] put) ≤ length (distinct [] all)
more_kept put all rest same =
    let whole = ap length (sym (same []) ∙ distinct-append [] put rest) in
    let parts = length-append (distinct [] put) (distinct (distinct [] put) rest) in omega (arith, whole, parts)
