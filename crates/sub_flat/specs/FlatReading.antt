-- How flattening works: early ends, and results.
use Rattle.std.specs.Prelude.{◌≡◌, ◌⊎◌, ◌≤◌, ◌<◌, ℕ, zero, suc, ◌+◌, Bool, true, nat_lt, IsTrue, List, [], ◌∷◌, ◌++◌, length, Option, Some, None, Result, Ok, Err, ⊤}
use Rattle.std.specs.Option.{option_map, unwrap_or}
use Rattle.model_rules.specs.Numbers.{number_of}
use Rattle.model_rules.specs.declared.rule.Rule.{Rule}
use Rattle.model_rules.specs.declared.rule.Rule.TheVariants as all
use Rattle.model_rules.specs.Limits.{connection_limit, instance_limit}
use Rattle.unit_tree.specs.Printable.{IsPrintable}
use Rattle.unit_tree.specs.declared.system.Instance.{Instance}
use Rattle.unit_tree.specs.declared.system.System.{System}
use Rattle.unit_tree.specs.declared.system.Wire.{Wire}
use Rattle.nest_names.specs.Flattening.{flat_of, flat_port, flat_wires, leaves, levels, named_in, scope_of, top}
use Rattle.sub_flat.specs.GroupTests.{main_misses_port}
use Rattle.sub_flat.specs.NestRules.{AtGroup, BreaksNest, IsRefusedNest, IsTooLarge}
use Rattle.nest_text.specs.declared.fault.NestFault.{NestFault}
use Rattle.nest_text.specs.declared.fault.NestFault.TheVariants as fault
use Rattle.sub_flat.specs.declared.fault.Unflat.{Unflat}
use Rattle.sub_flat.specs.declared.fault.Unflat.TheVariants as unflat
use Rattle.sub_flat.specs.declared.flat.FlatParts.{FlatParts}
use Rattle.nest_names.specs.declared.scope.GroupScope.{GroupScope}
use Rattle.nest_names.specs.declared.scope.Spot.{Spot}
use Rattle.sub_flat.specs.declared.judge.GroupRule.{GroupRule}
use Rattle.sub_flat.specs.declared.judge.GroupRule.TheVariants as rules
use Rattle.nest_text.specs.declared.nest.Nest.{Nest}

-- More elements are appended, and the list stays within a limit; or there are too many.
abbrev pub PutsOver : {A : Type 0} → ℕ → List A → List A → Unflat → Type 0
PutsOver limit old more unflat.TooLarge = limit < length old + length more
PutsOver limit old more unflat.NoMemory = ⊤

abbrev pub PutsWithin : {A X : Type 0} → ℕ → List A → List A → List A → Result X Unflat → Type 0
PutsWithin limit old new more (Ok done) = (new ≡ old ++ more) × (length new ≤ limit)
PutsWithin limit old new more (Err why) = PutsOver limit old more why

-- A list that stays within a limit, or that it is longer.
abbrev pub MadeOver : {A : Type 0} → ℕ → List A → Unflat → Type 0
MadeOver limit all unflat.TooLarge = limit < length all
MadeOver limit all unflat.NoMemory = ⊤

abbrev pub MadeWithin : {A : Type 0} → ℕ → List A → Result (List A) Unflat → Type 0
MadeWithin limit all (Ok made) = (made ≡ all) × (length made ≤ limit)
MadeWithin limit all (Err why) = MadeOver limit all why

-- The system, which is printable, or that it isn't.
abbrev pub IsKeptPrintable : System → Result System Unflat → Type 0
IsKeptPrintable system (Ok kept) = (kept ≡ system) × IsPrintable system
IsKeptPrintable system (Err unflat.TooLarge) = IsPrintable system → ⊥
IsKeptPrintable system (Err unflat.NoMemory) = ⊤

-- The components of the flat system that an instance of a scope becomes.
abbrev pub leaves_inside : Nest → ℕ → GroupScope → Instance → List Instance
leaves_inside nest zero scope instance = named_in scope instance ∷ []
leaves_inside nest (suc depth) scope instance =
    unwrap_or (option_map (leaves nest depth) (scope_of nest scope instance)) (named_in scope instance ∷ [])

-- The connections inside an instance of a scope.
abbrev pub wires_inside : Nest → ℕ → GroupScope → Instance → List Wire
wires_inside nest zero scope instance = []
wires_inside nest (suc depth) scope instance = unwrap_or (option_map (flat_wires nest depth) (scope_of nest scope instance)) []

abbrev pub wire_between : Spot → Spot → Wire
wire_between from to = record { from = flat_port from; to = flat_port to }

-- The components of the flat system, which are at most 64; or that it is too large.
abbrev pub MakesLeaves : Nest → Result (List Instance) Unflat → Type 0
MakesLeaves nest (Ok made) = (made ≡ leaves nest levels top) × (length made ≤ instance_limit)
MakesLeaves nest (Err unflat.TooLarge) = IsTooLarge nest
MakesLeaves nest (Err unflat.NoMemory) = ⊤

-- A system with other components, connections and samples.
abbrev pub with_parts : System → FlatParts → System
with_parts main parts = record main { instances = parts.instances; wires = parts.wires; samples = parts.samples }

-- The parts of the flat system, with at most 64 instances and 2,048 connections; or that it is too large.
abbrev pub MakesParts : Nest → Result FlatParts Unflat → Type 0
MakesParts nest (Ok parts) = (with_parts nest.main parts ≡ flat_of nest) × (length parts.instances ≤ instance_limit) × (length parts.wires ≤ connection_limit)
MakesParts nest (Err unflat.TooLarge) = IsTooLarge nest
MakesParts nest (Err unflat.NoMemory) = ⊤

-- The least line at which a property holds, or that it holds at none.
abbrev pub IsLeast : (ℕ → Type 0) → Option ℕ → Type 0
IsLeast HoldsAt None = (line : ℕ) → HoldsAt line → ⊥
IsLeast HoldsAt (Some line) = HoldsAt line × ((other : ℕ) → HoldsAt other → line ≤ other)

abbrev pub is_less : ℕ → Option ℕ → Bool
is_less line None = true
is_less line (Some least) = nat_lt line least

-- The rule among all, and its number.
abbrev pub rule_of : GroupRule → Rule
rule_of rules.Names = all.GroupIsNamed
rule_of rules.Nesting = all.GroupsEnd
rule_of rules.Ports = all.GroupPortsAreThere

abbrev pub rule_number : GroupRule → ℕ
rule_number some = number_of (rule_of some)

-- A refusal by a rule, at the least line that breaks it.
abbrev pub RefusesLeast : (ℕ → Type 0) → ℕ → NestFault → Type 0
RefusesLeast BreaksAt number (fault.Line line rule) = (rule ≡ number) × IsLeast BreaksAt (Some line)
RefusesLeast BreaksAt number fault.NoMemory = ⊤

abbrev pub JudgesLeast : {X : Type 0} → (ℕ → Type 0) → ℕ → Result X NestFault → Type 0
JudgesLeast BreaksAt number (Ok kept) = IsLeast BreaksAt None
JudgesLeast BreaksAt number (Err why) = RefusesLeast BreaksAt number why

-- The refusal at a line, if there is one.
abbrev pub Refuses : {X : Type 0} → ℕ → Option ℕ → Result X NestFault → Type 0
Refuses number least (Ok kept) = least ≡ None
Refuses number least (Err (fault.Line line rule)) = (rule ≡ number) × (least ≡ Some line)
Refuses number least (Err fault.NoMemory) = ⊥

-- The line of a group, or of `main`, where a port doesn't exist.
abbrev pub MissesAt : Nest → ℕ → Type 0
MissesAt nest line = AtGroup nest rules.Ports line ⊎ (IsTrue (main_misses_port nest) × (line ≡ nest.main_line))

-- The refusal of a nest whose flat system is too large, at the line `main`.
abbrev pub refusal_of : ℕ → Unflat → NestFault
refusal_of main_line unflat.TooLarge = fault.Line main_line 30
refusal_of main_line unflat.NoMemory = fault.NoMemory

-- A refusal names the least rule of groups that the nest breaks, at the least line.
abbrev pub IsRefusedBy : Nest → NestFault → Type 0
IsRefusedBy nest (fault.Line line rule) = IsRefusedNest nest line rule
IsRefusedBy nest fault.NoMemory = ⊤

abbrev pub JudgesNest : {X : Type 0} → Nest → Result X NestFault → Type 0
JudgesNest nest (Ok kept) = (line rule : ℕ) → BreaksNest nest line rule → rule ≡ 30
JudgesNest nest (Err why) = IsRefusedBy nest why

-- The parts of the flat system of a nest that breaks none of the rules 27 to 29, and whose parts are not too many; or
-- the rule that it breaks.
abbrev pub JudgesParts : Nest → Result FlatParts NestFault → Type 0
JudgesParts nest (Ok parts) = MakesParts nest (Ok parts) × ((line rule : ℕ) → BreaksNest nest line rule → rule ≡ 30)
JudgesParts nest (Err why) = IsRefusedBy nest why

-- The result of flattening: the flat system of a nest that breaks no rule, or the least rule that it breaks, at the
-- least line. Without memory nothing is stated.
abbrev pub AnswersFlat : Nest → Result System NestFault → Type 0
AnswersFlat nest (Ok flat) = (flat ≡ flat_of nest) × ((line rule : ℕ) → BreaksNest nest line rule → ⊥)
AnswersFlat nest (Err why) = IsRefusedBy nest why
