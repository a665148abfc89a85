-- How the inputs of components are found that an input of a group reaches: this is computed once, for all scopes of the
-- group.
use Rattle.std.specs.Prelude.{◌≡◌, ◌⊎◌, ◌≤◌, ℕ, zero, suc, ◌+◌, Bool, true, false, List, [], ◌∷◌, ◌++◌, map, Option, Some, None, slice_get}
use Rattle.std.specs.List.{AllZip, filter, flat_map, list_any}
use Rattle.std.specs.Option.{option_and_then, option_map, option_to_list}
use Rattle.std.specs.Str.{bytes_eq}
use Rattle.nest_text.specs.declared.nest.Bind.{Bind}
use Rattle.nest_text.specs.declared.nest.Group.{Group}
use Rattle.nest_text.specs.declared.nest.Nest.{Nest}
use Rattle.nest_names.specs.Flattening.{binds_of, distinct, expand, inside, place_at, same_spot, spot_in}
use Rattle.nest_names.specs.declared.scope.GroupScope.{GroupScope}
use Rattle.nest_names.specs.declared.scope.Spot.{Spot}
use Rattle.nest_ways.specs.declared.ends.End.{End}
use Rattle.nest_ways.specs.declared.scopes.Inner.{Inner}
use Rattle.nest_ways.specs.declared.steps.Inside.{Inside}
use Rattle.nest_ways.specs.declared.steps.Known.{Known}
use Rattle.nest_ways.specs.declared.steps.WayStep.{WayStep}
use Rattle.nest_ways.specs.declared.steps.WayStep.TheVariants as step_is

-- ---- Lists of ports with each port once

-- Both lists are the same once each port is kept once, whatever was kept before.
abbrev pub SameKept : List Spot → List Spot → Type 0
SameKept one other = (kept : List Spot) → distinct kept one ≡ distinct kept other

-- Whether a list that was made so far is complete. True: it has the same ports as all. False: it has them only
-- together with some rest, which may be empty.
abbrev pub PutsUpTo : Bool → List Spot → List Spot → Type 0
PutsUpTo true put all = SameKept put all
PutsUpTo false put all = (rest : List Spot) × SameKept (put ++ rest) all

abbrev pub IsIn : Spot → List Spot → Type 0
IsIn one all = list_any (same_spot one) all ≡ true

-- The inputs of components that an input reaches over `depth` levels, once for each path to them.
abbrev pub all_ends : Nest → ℕ → Spot → List Spot
all_ends nest zero spot = spot ∷ []
all_ends nest (suc depth) spot = flat_map (all_ends nest depth) (expand nest spot)

abbrev pub ins_of : Nest → Option ℕ → List Bind
ins_of nest group = binds_of nest (λ (one : Group). one.ins) group

-- The `in` lines of an input of a group.
abbrev pub lines_of : Nest → ℕ → List ℕ → List Bind
lines_of nest group port = filter (λ bind. bytes_eq bind.port port) (ins_of nest (Some group))

-- The inputs of components that lines of a scope reach, once for each path to them.
abbrev pub ends_of : Nest → ℕ → GroupScope → List Bind → List Spot
ends_of nest depth scope binds = flat_map (all_ends nest depth) (map (spot_in scope) binds)

-- ---- Inputs by numbers

-- The input that an `End` stands for, counted from the scope at place `base`: the inner input of its line in the scope
-- that is `end.scope` places later. None where there is no such scope or line.
abbrev pub input_at : Nest → List GroupScope → ℕ → End → List Spot
input_at nest scopes base end =
    option_to_list
    (option_and_then (λ scope. option_map (spot_in scope) (slice_get (ins_of nest scope.group) end.line)) (slice_get scopes (base + end.scope)))

abbrev pub inputs_at : Nest → List GroupScope → ℕ → List End → List Spot
inputs_at nest scopes base ends = flat_map (input_at nest scopes base) ends

-- The same `End`, counted from a scope that is `offset` places earlier.
abbrev pub onward : ℕ → End → End
onward offset end = record { scope = end.scope + offset; line = end.line }

-- An input was added at the end, or is in the list already.
abbrev pub PutsOnce : End → List End → List End → Type 0
PutsOnce end old new = (new ≡ old ++ end ∷ []) ⊎ ((new ≡ old) × (place : ℕ) × (slice_get old place ≡ Some end))

-- True: an input was added or is in the list already. False: the list is unchanged.
abbrev pub PutsIf : Bool → End → List End → List End → Type 0
PutsIf true end old new = PutsOnce end old new
PutsIf false end old new = new ≡ old

-- ---- Scopes that are equal

-- For each scope of the group, the scope that is `offset` places later is equal to the one that is `first` places
-- later.
abbrev pub IsAlike : List GroupScope → ℕ → ℕ → ℕ → Type 0
IsAlike scopes group offset first =
    (base : ℕ) (scope : GroupScope) → slice_get scopes base ≡ Some scope → scope.group ≡ Some group
    → slice_get scopes (base + offset) ≡ slice_get scopes (base + first)

abbrev pub AreAlike : List GroupScope → ℕ → List ℕ → Type 0
AreAlike scopes group firsts = (offset first : ℕ) → slice_get firsts offset ≡ Some first → IsAlike scopes group offset first

abbrev pub AreAllAlike : List GroupScope → List (List ℕ) → Type 0
AreAllAlike scopes lists = (group : ℕ) (firsts : List ℕ) → slice_get lists group ≡ Some firsts → AreAlike scopes group firsts

-- Equal scopes have the same input at the same line.
abbrev pub ReadsAlike : List ℕ → (End → List Spot) → Type 0
ReadsAlike firsts input =
    (offset first line : ℕ) → slice_get firsts offset ≡ Some first
    → input (record { scope = offset; line = line }) ≡ input (record { scope = first; line = line })

-- The scope inside the instance `name` of the group is `offset` places after each scope of the group.
abbrev pub LeadsTo : List GroupScope → ℕ → List ℕ → ℕ → ℕ → Type 0
LeadsTo scopes group name place offset =
    (base : ℕ) (scope : GroupScope) → slice_get scopes base ≡ Some scope → scope.group ≡ Some group
    → slice_get scopes (base + offset) ≡ Some (inside scope name place)

-- The scopes inside instances of the group are at the offsets in this list, after each scope of the group.
abbrev pub AreInside : List GroupScope → ℕ → List Inner → Type 0
AreInside scopes group inner = (k : ℕ) (one : Inner) → slice_get inner k ≡ Some one → LeadsTo scopes group one.name.now one.place one.offset

abbrev pub AreAllInside : List GroupScope → List (List Inner) → Type 0
AreAllInside scopes lists = (group : ℕ) (inner : List Inner) → slice_get lists group ≡ Some inner → AreInside scopes group inner

-- ---- Steps

-- The line of the group has an input of a component as its inner port, and the line at this place has the same inner
-- port.
pub record LeadsHere (nest : Nest) (group line : ℕ) (bind : Bind) : Type 0 where
  pub there : option_map (λ (one : Bind). one.inner) (slice_get (ins_of nest (Some group)) line) ≡ Some bind.inner
  pub component : place_at nest (Some group) bind.inner.instance ≡ None

-- Over `depth` levels, the line reaches from this scope what a known input reaches from the scope that is `offset`
-- places after the base. At least as many levels are left as the known input requires.
pub record LeadsAlike (nest : Nest) (scopes : List GroupScope) (base offset depth : ℕ) (scope : GroupScope) (bind : Bind) (inner : Known) : Type 0 where
  pub onward : GroupScope
  pub there : slice_get scopes (base + offset) ≡ Some onward
  pub of_group : onward.group ≡ Some inner.group
  pub left : ℕ
  pub within : inner.height ≤ left
  pub same : ends_of nest depth scope (bind ∷ []) ≡ ends_of nest left onward (lines_of nest inner.group inner.port.now)

-- Over at most `height` levels, the line of the group reaches what a known input of an inner group reaches, and so in
-- each scope of the group.
pub record LeadsInside (nest : Nest) (scopes : List GroupScope) (all : List Known) (group height : ℕ) (step : Inside) (bind : Bind) : Type 0 where
  pub inner : Known
  pub there : slice_get all step.input ≡ Some inner
  pub leads : (base : ℕ) (scope : GroupScope) (depth : ℕ) → slice_get scopes base ≡ Some scope → scope.group ≡ Some group → height ≤ depth
      → LeadsAlike nest scopes base step.offset depth scope bind inner

-- The step itself; or, where the input at its end has only one step and this leads into a group, the two steps joined.
abbrev pub IsPast : List WayStep → Inside → Inside → Type 0
IsPast steps step past =
    (past ≡ step)
    ⊎ ((onward : Inside) × (steps ≡ step_is.Inside onward ∷ []) × (past ≡ record { offset = step.offset + onward.offset; input = onward.input }))

-- The step leads to what the line of the group reaches.
abbrev pub IsStep : Nest → List GroupScope → List Known → ℕ → ℕ → WayStep → Bind → Type 0
IsStep nest scopes all group height (step_is.Component line) bind = LeadsHere nest group line bind
IsStep nest scopes all group height (step_is.Inside step) bind = LeadsInside nest scopes all group height step bind

abbrev pub AreSteps : Nest → List GroupScope → List Known → ℕ → ℕ → List WayStep → List Bind → Type 0
AreSteps nest scopes all group height steps binds = AllZip (IsStep nest scopes all group height) steps binds

-- ---- What is known

-- In each scope of the group, the inputs were added that these lines reach over at most `height` levels.
abbrev pub Puts : Nest → List GroupScope → ℕ → ℕ → List End → List End → List Bind → Type 0
Puts nest scopes group height old new binds =
    (base : ℕ) (scope : GroupScope) (depth : ℕ) → slice_get scopes base ≡ Some scope → scope.group ≡ Some group → height ≤ depth
    → SameKept (inputs_at nest scopes base new) (inputs_at nest scopes base old ++ ends_of nest depth scope binds)

-- The inputs that are kept for an input of a group are those that it reaches, in each scope of the group.
abbrev pub KeepsAll : Nest → List GroupScope → Known → List End → Type 0
KeepsAll nest scopes known ends = Puts nest scopes known.group known.height [] ends (lines_of nest known.group known.port.now)

-- A known input of a group: its steps lead to what its lines reach, and the inputs of components that are kept for it,
-- if any, are all that it reaches.
pub record IsKnown (nest : Nest) (scopes : List GroupScope) (all : List Known) (known : Known) : Type 0 where
  pub steps : AreSteps nest scopes all known.group known.height known.steps.items (lines_of nest known.group known.port.now)
  pub ends : (kept : List End) → known.ends ≡ Some kept → KeepsAll nest scopes known kept

abbrev pub AreKnown : Nest → List GroupScope → List Known → Type 0
AreKnown nest scopes all = (place : ℕ) (known : Known) → slice_get all place ≡ Some known → IsKnown nest scopes all known

-- The known input at the place is the one with this name, of this group.
pub record FindsKnown (all : List Known) (group : ℕ) (port : List ℕ) (place : ℕ) : Type 0 where
  pub known : Known
  pub there : slice_get all place ≡ Some known
  pub of_group : known.group ≡ group
  pub named : known.port.now ≡ port
