-- Rules 27 to 30, worked out by hand. For each rule there are nests that break it, one of them with the line, and a nest that is
-- close to these and keeps it. That a nest keeps rule 27 or 29 is stated by the test of one group or of `main`, that it keeps
-- rule 28 for all lines, and that it keeps rule 30 by its size.
use Rattle.std.specs.Prelude.{◌≡◌, ℕ, pos, true, false, List, [], ◌∷◌, codes, map}
use Rattle.std.specs.List.{repeat}
use Rattle.fixed_words.specs.declared.types.Literal.TheVariants as literal
use Rattle.unit_tree.specs.declared.system.Instance.{Instance}
use Rattle.unit_tree.specs.declared.system.PortName.{PortName}
use Rattle.nest_text.specs.declared.nest.Bind.{Bind}
use Rattle.nest_text.specs.declared.nest.Group.{Group}
use Rattle.nest_text.specs.declared.nest.Nest.{Nest}
use Rattle.nest_runs.specs.WorkedNest.{instance_of, port, system_with}
use Rattle.sub_flat.specs.Cycles.{ContainsItself}
use Rattle.sub_flat.specs.GroupTests.{is_misnamed, main_misses_port, misses_port}
use Rattle.sub_flat.specs.NestRules.{BreaksNest, IsTooLarge}
use Rattle.worked_answers.specs.WorkedNests.{bind_of}

-- A group around one component, with these lines.
abbrev pub group_with : List Bind → List Bind → List (PortName × PortName) → Group
group_with ins outs wires = record {
  name = codes "G";
  ins = ins;
  outs = outs;
  instances = instance_of (codes "k") (codes "Next") ∷ [];
  wires = map (λ wire. record { from = wire.0; to = wire.1 }) wires;
}

-- `in x -> k.x` and `out y = k.y`
abbrev pub whole : Group
whole = group_with (bind_of (codes "x") (codes "k") (codes "x") ∷ []) (bind_of (codes "y") (codes "k") (codes "y") ∷ []) []

-- Groups, the first of which begins at line 3, and `main` with one instance of `G`, at line 20.
abbrev pub nest_of : List Group → List Instance → List (PortName × PortName) → List PortName → Nest
nest_of groups instances wires samples = record { main = system_with instances wires samples; groups = groups; lines = 3 ∷ 9 ∷ []; main_line = 20 }

abbrev pub one_of_g : List Instance
one_of_g = instance_of (codes "r") (codes "G") ∷ []

abbrev pub nest_with_group : Group → Nest
nest_with_group group = nest_of (group ∷ []) one_of_g [] []

-- ---- Rule 27: names, and groups without instances

pub record NamesAreWorked : Type 0 where
  pub right : is_misnamed (nest_with_group whole) whole ≡ false
  pub name_of_unit : is_misnamed (nest_with_group (record whole { name = codes "Next" })) (record whole { name = codes "Next" }) ≡ true
  pub name_of_group : is_misnamed (nest_of (whole ∷ whole ∷ []) one_of_g [] []) whole ≡ true
  pub no_instance : is_misnamed (nest_with_group (record whole { instances = [] })) (record whole { instances = [] }) ≡ true
  -- The refusal is at the line of the group.
  pub at_line : BreaksNest (nest_with_group (record whole { instances = [] })) 3 27

-- ---- Rule 28: a group that contains itself

-- A group with an instance of the group of this name.
abbrev pub around : List ℕ → List ℕ → Group
around name inner = record { name = name; ins = []; outs = []; instances = instance_of (codes "k") inner ∷ []; wires = [] }

-- `G` has an instance of `H`, and `H` has a component.
abbrev pub in_a_row : Nest
in_a_row = nest_of (around (codes "G") (codes "H") ∷ around (codes "H") (codes "Next") ∷ []) one_of_g [] []

-- `G` has an instance of `H`, which contains itself.
abbrev pub around_another : Nest
around_another = nest_of (around (codes "G") (codes "H") ∷ around (codes "H") (codes "H") ∷ []) one_of_g [] []

pub record NestingIsWorked : Type 0 where
  pub itself : ContainsItself (nest_of (around (codes "G") (codes "G") ∷ []) one_of_g [] []) 0
  -- Two groups contain each other. The first of them is at line 3.
  pub each_other : ContainsItself (nest_of (around (codes "G") (codes "H") ∷ around (codes "H") (codes "G") ∷ []) one_of_g [] []) 0
  pub at_line : BreaksNest (nest_of (around (codes "G") (codes "H") ∷ around (codes "H") (codes "G") ∷ []) one_of_g [] []) 3 28
  -- One group is in another: the rule is kept.
  pub kept : (line : ℕ) → BreaksNest in_a_row line 28 → ⊥
  -- A group that has such a group inside is not named: the rule is broken at the line of the inner one alone.
  pub inner_alone : BreaksNest around_another 9 28
  pub not_outer : ContainsItself around_another 0 → ⊥

-- ---- Rule 29: ports of groups

pub record PortsOfGroupsAreWorked : Type 0 where
  pub right : misses_port (nest_with_group whole) whole ≡ false
  -- `in x -> k.z`, where the component has no input `z`; and `in x -> k.y`, since `y` is an output.
  pub no_input : (group : Group) → group ≡ group_with (bind_of (codes "x") (codes "k") (codes "z") ∷ []) [] [] → misses_port (nest_with_group group) group ≡ true
  pub an_output : (group : Group) → group ≡ group_with (bind_of (codes "x") (codes "k") (codes "y") ∷ []) [] [] → misses_port (nest_with_group group) group ≡ true
  -- `in x -> b.x`, where there is no instance `b`.
  pub no_instance : (group : Group) → group ≡ group_with (bind_of (codes "x") (codes "b") (codes "x") ∷ []) [] [] → misses_port (nest_with_group group) group ≡ true
  -- `out y = k.x`, since `x` is an input; and `out y` twice.
  pub no_output : (group : Group) → group ≡ group_with [] (bind_of (codes "y") (codes "k") (codes "x") ∷ []) [] → misses_port (nest_with_group group) group ≡ true
  pub out_twice : (group : Group)
      → group ≡ group_with [] (bind_of (codes "y") (codes "k") (codes "y") ∷ bind_of (codes "y") (codes "k") (codes "y") ∷ []) []
      → misses_port (nest_with_group group) group ≡ true
  -- `in x` twice is right: one input of a group may lead to several inputs.
  pub in_twice : (group : Group)
      → group ≡ group_with (bind_of (codes "x") (codes "k") (codes "x") ∷ bind_of (codes "x") (codes "k") (codes "x") ∷ []) [] []
      → misses_port (nest_with_group group) group ≡ false
  -- In `main`: a connection from an output, or to an input, that the group doesn't have.
  pub main_right : main_misses_port (nest_of (whole ∷ []) one_of_g ((port (codes "r") (codes "y"), port (codes "r") (codes "x")) ∷ []) []) ≡ false
  pub main_output : main_misses_port (nest_of (whole ∷ []) one_of_g ((port (codes "r") (codes "x"), port (codes "r") (codes "x")) ∷ []) []) ≡ true
  pub main_input : main_misses_port (nest_of (whole ∷ []) one_of_g ((port (codes "r") (codes "y"), port (codes "r") (codes "z")) ∷ []) []) ≡ true
  -- A sample of a port that the group doesn't have.
  pub main_sample : main_misses_port (nest_of (whole ∷ []) one_of_g [] (port (codes "r") (codes "x") ∷ [])) ≡ true
  -- An instance of a group has a setting.
  pub main_setting : main_misses_port
      (nest_of (whole ∷ []) (record (instance_of (codes "r") (codes "G")) { settings = record { name = codes "p"; value = literal.Number (pos 1) 0 } ∷ [] } ∷ []) [] [])
      ≡ true
  -- A connection from an instance that doesn't exist is judged by the rules of the flat system.
  pub main_nobody : main_misses_port (nest_of (whole ∷ []) one_of_g ((port (codes "b") (codes "y"), port (codes "r") (codes "x")) ∷ []) []) ≡ false
  pub at_main : BreaksNest (nest_of (whole ∷ []) one_of_g [] (port (codes "r") (codes "x") ∷ [])) 20 29

-- ---- Rule 30: flat systems that are too large

-- A group around so many components.
abbrev pub many : ℕ → Group
many count = record { name = codes "G"; ins = []; outs = []; instances = repeat count (instance_of (codes "k") (codes "Next") ∷ []); wires = [] }

-- One instance of a group with so many components.
abbrev pub one_with : ℕ → Nest
one_with count = nest_of (many count ∷ []) one_of_g [] []

pub record SizesAreWorked : Type 0 where
  -- 64 components are not too many, and 65 are.
  pub at_limit : IsTooLarge (one_with 64) → ⊥
  pub above_limit : IsTooLarge (one_with 65)
  -- Two instances of a group with 33 components make 66.
  pub too_many : IsTooLarge (nest_of (many 33 ∷ []) (instance_of (codes "r") (codes "G") ∷ instance_of (codes "s") (codes "G") ∷ []) [] [])
  pub at_main : BreaksNest (nest_of (many 33 ∷ []) (instance_of (codes "r") (codes "G") ∷ instance_of (codes "s") (codes "G") ∷ []) [] []) 20 30

pub record GroupRulesAreWorked : Type 0 where
  pub names : NamesAreWorked
  pub nesting : NestingIsWorked
  pub ports : PortsOfGroupsAreWorked
  pub sizes : SizesAreWorked
