-- How the inputs are found that an input of a group reaches in one scope, without a limit on their number.
use Rattle.std.specs.Prelude.{◌≡◌, ◌≤◌, ◌<◌, ℕ, ◌+◌, ◌-◌, Bool, IsTrue, List, [], ◌∷◌, ◌++◌, length, map, Option, Some, None, slice_get, ⊤}
use Rattle.nest_text.specs.declared.nest.Bind.{Bind}
use Rattle.nest_text.specs.declared.nest.Nest.{Nest}
use Rattle.nest_names.specs.Flattening.{distinct, levels, reach}
use Rattle.nest_names.specs.Tables.{inside_of}
use Rattle.nest_names.specs.declared.scope.GroupScope.{GroupScope}
use Rattle.nest_names.specs.declared.scope.Spot.{Spot}
use Rattle.nest_ways.specs.Reaching.{AreKnown, FindsKnown, IsIn, LeadsInside, PutsUpTo, ends_of, input_at, inputs_at, lines_of}
use Rattle.nest_ways.specs.Sets.{KeepsByNumbers, HasAt, HasNumberAt}
use Rattle.nest_ways.specs.declared.done.GroupScopes.{GroupScopes}
use Rattle.nest_ways.specs.declared.ends.End.{End}
use Rattle.nest_ways.specs.declared.known.Ways.{Ways}
use Rattle.nest_ways.specs.declared.numbers.KeptSets.{KeptSets}
use Rattle.nest_ways.specs.declared.steps.Inside.{Inside}
use Rattle.nest_ways.specs.declared.steps.Known.{Known}
use Rattle.nest_ways.specs.declared.targets.Reach.{Reach}
use Rattle.nest_ways.specs.declared.targets.Reach.TheVariants as reach_is
use Rattle.nest_ways.specs.declared.walk.Inlet.{Inlet}
use Rattle.nest_ways.specs.declared.walk.Start.{Start}
use Rattle.nest_ways.specs.declared.walk.Walk.{Walk}

-- ---- What is known

-- The ways of a nest: the known inputs of groups that its connections lead to, and the sets of numbers for them.
pub record AreWays (nest : Nest) (ways : Ways) : Type 0 where
  pub known : AreKnown nest ways.scopes ways.known.items
  pub kept : KeepsByNumbers ways.kept_sets ways.known.items

-- ---- The places of a walk

-- A scope of the group is at the place.
pub record IsScopeAt (scopes : List GroupScope) (place group : ℕ) : Type 0 where
  pub scope : GroupScope
  pub there : slice_get scopes place ≡ Some scope
  pub of_group : scope.group ≡ Some group

-- A scope of the input's group is `inlet.scope` places after the base.
abbrev pub IsInletAt : List GroupScope → List Known → ℕ → Inlet → Type 0
IsInletAt scopes all base inlet = (known : Known) → slice_get all inlet.input ≡ Some known → IsScopeAt scopes (base + inlet.scope) known.group

-- ---- Numbers of scopes

-- The table of the group has the place for this number.
abbrev pub IsNumbered : GroupScopes → ℕ → ℕ → ℕ → Type 0
IsNumbered group_scopes group number place = slice_get (inside_of (map (λ one. one.items) group_scopes.places.items) group) number ≡ Some place

-- ---- Finished inputs

-- All inputs of components that a known input of a group reaches, over all its levels, are in the list.
abbrev pub IsDone : Nest → List GroupScope → ℕ → List End → ℕ → Known → Type 0
IsDone nest scopes base ends offset known =
    (scope : GroupScope) (depth : ℕ) (one : Spot) → slice_get scopes (base + offset) ≡ Some scope → scope.group ≡ Some known.group → known.height ≤ depth
    → IsIn one (ends_of nest depth scope (lines_of nest known.group known.port.now)) → IsIn one (inputs_at nest scopes base ends)

-- The records of a walk are right. If the set of an input has the number of a scope of its group, all that the input
-- reaches there was added. If the set of a scope has a number, the input with this number was added, counted from this
-- scope.
pub record AreDone (nest : Nest) (scopes : List GroupScope) (group_scopes : GroupScopes) (kept_sets : KeptSets) (all : List Known) (base : ℕ) (walk : Walk) : Type 0 where
  pub inputs : (input number offset : ℕ) (known : Known) → HasAt walk.done.sets.items input number → slice_get all input ≡ Some known
      → IsNumbered group_scopes known.group number (base + offset) → IsDone nest scopes base walk.ends offset known
  pub ends : (offset number : ℕ) (end : End) (one : Spot) → HasNumberAt walk.put.sets.items offset number
      → slice_get kept_sets.numbered number ≡ Some end → IsIn one (input_at nest scopes (base + offset) end)
      → IsIn one (inputs_at nest scopes base walk.ends)

-- A walk from a scope of the group, which uses the known inputs and has right records.
pub record IsWalk (nest : Nest) (scopes : List GroupScope) (group_scopes : GroupScopes) (kept_sets : KeptSets) (all : List Known) (base group : ℕ) (walk : Walk) : Type 0 where
  pub known : AreKnown nest scopes all
  pub kept : KeepsByNumbers kept_sets all
  pub start : IsScopeAt scopes base group
  pub done : AreDone nest scopes group_scopes kept_sets all base walk

-- ---- Steps of a walk

-- From the scope of an input, what its lines reach over all their levels was added to the list. If `whole` is true, all
-- of it was added and the records are right; else a part of it may be missing.
pub record WalksOn (nest : Nest) (scopes : List GroupScope) (group_scopes : GroupScopes) (kept_sets : KeptSets) (all : List Known) (base offset : ℕ) (known : Known)
    (old new : Walk) (whole : Bool) (binds : List Bind) : Type 0 where
  pub puts : (scope : GroupScope) (depth : ℕ) → slice_get scopes (base + offset) ≡ Some scope → scope.group ≡ Some known.group → known.height ≤ depth
      → PutsUpTo whole (inputs_at nest scopes base new.ends) (inputs_at nest scopes base old.ends ++ ends_of nest depth scope binds)
  pub done : IsTrue whole → AreDone nest scopes group_scopes kept_sets all base new

-- The same for all lines of a known input.
abbrev pub WalksWhole : Nest → List GroupScope → GroupScopes → KeptSets → List Known → ℕ → Inlet → Walk → Walk → Bool → Type 0
WalksWhole nest scopes group_scopes kept_sets all base inlet old new whole =
    (known : Known) → slice_get all inlet.input ≡ Some known
    → WalksOn nest scopes group_scopes kept_sets all base inlet.scope known old new whole (lines_of nest known.group known.port.now)

-- ---- The same from a start

-- A scope of the group is `offset` places after that of the start.
abbrev pub IsBehind : Start → ℕ → ℕ → Type 0
IsBehind start offset group = IsScopeAt start.ways.now.scopes (start.base + offset) group

-- A walk from the scope of the start.
abbrev pub IsWalkFrom : Start → Walk → Type 0
IsWalkFrom start walk = IsWalk start.names.now start.ways.now.scopes start.ways.now.group_scopes start.ways.now.kept_sets start.ways.now.known.items start.base start.group walk

-- The table of the group has, for this number, the place that is `offset` places after that of the start.
abbrev pub IsNumberedFrom : Start → ℕ → ℕ → ℕ → Type 0
IsNumberedFrom start offset group number = IsNumbered start.ways.now.group_scopes group number (start.base + offset)

-- The scope of the inlet is one of its input's group.
abbrev pub IsInletFrom : Start → Inlet → Type 0
IsInletFrom start inlet = IsInletAt start.ways.now.scopes start.ways.now.known.items start.base inlet

-- The step leads to what the line of the known input's group reaches.
abbrev pub LeadsFrom : Start → Known → Inside → Bind → Type 0
LeadsFrom start known step bind =
    LeadsInside start.names.now start.ways.now.scopes start.ways.now.known.items known.group known.height step bind

-- All that an input reaches was added.
abbrev pub IsDoneFrom : Start → List End → ℕ → Known → Type 0
IsDoneFrom start ends offset known = IsDone start.names.now start.ways.now.scopes start.base ends offset known

-- The records of a walk are right.
abbrev pub AreDoneFrom : Start → Walk → Type 0
AreDoneFrom start walk = AreDone start.names.now start.ways.now.scopes start.ways.now.group_scopes start.ways.now.kept_sets start.ways.now.known.items start.base walk

-- What these lines of a known input reach was added: all of it, or a part.
abbrev pub GoesOn : Start → ℕ → Known → Walk → Walk → Bool → List Bind → Type 0
GoesOn start offset known old new whole binds =
    WalksOn start.names.now start.ways.now.scopes start.ways.now.group_scopes start.ways.now.kept_sets start.ways.now.known.items start.base offset known old new whole binds

-- The same for all lines of the input of an inlet.
abbrev pub GoesWhole : Start → Inlet → Walk → Walk → Bool → Type 0
GoesWhole start inlet old new whole =
    WalksWhole start.names.now start.ways.now.scopes start.ways.now.group_scopes start.ways.now.kept_sets start.ways.now.known.items start.base inlet old new whole

-- ---- The result

-- The inlet of the input of this name, of the group, in the scope from which a walk begins. It needs fewer levels than
-- there may be.
pub record IsFirst (all : List Known) (group : ℕ) (port : List ℕ) (inlet : Inlet) : Type 0 where
  pub finds : FindsKnown all group port inlet.input
  pub low : finds.known.height < levels
  pub here : inlet.scope ≡ 0

-- The inputs of components that an input of a group reaches in a scope, each once.
abbrev pub reached_inside : Nest → GroupScope → ℕ → List ℕ → List Spot
reached_inside nest scope group port = distinct [] (ends_of nest (levels - 1) scope (lines_of nest group port))

-- The result has all that is reached, or states that this is more than `most`. `Unknown` states nothing: nothing was
-- known of the input, or the walk ended early.
abbrev pub Reaches : ℕ → List Spot → Reach → Type 0
Reaches most all (reach_is.All spots) = spots ≡ all
Reaches most all reach_is.TooMany = most < length all
Reaches most all reach_is.Unknown = ⊤

-- The result has the inputs of components that an input reaches, or states that there are more than `most`.
abbrev pub IsReached : Nest → ℕ → Spot → Option (List Spot) → Type 0
IsReached nest most spot (Some spots) = spots ≡ reach nest levels (spot ∷ [])
IsReached nest most spot None = most < length (reach nest levels (spot ∷ []))
