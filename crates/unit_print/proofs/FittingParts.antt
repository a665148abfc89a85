-- The tests of blocks, parts and systems, from the tests of their lines.
use Rattle.std.proofs.Common.{◌≡◌, ◌≤◌, ℕ, Bool, true, false, ◌&&◌, List, [], ◌∷◌, ◌++◌, map, Option, Some, None, refl, sym, ap, ◌∙◌, arith}
use Rattle.std.specs.Prelude.{nat_le, not, ◌||◌, ◌==◌}
use Rattle.std.specs.List.{list_all, flat_map}
use Rattle.std.proofs.lemmas.Bool.Decides.{nat_tests}
use Rattle.std.proofs.lemmas.List.Folds.{list_all-append, list_all-map}
use Rattle.fixed_words.specs.declared.types.Literal.{Literal}
use Rattle.unit_tree.specs.Canonical.{optional, unit_parts, canonical_forms}
use Rattle.unit_tree.specs.Parts as parts
use Rattle.unit_tree.specs.Parts.{part_forms, unit_part_forms, block_forms, joined, line_forms}
use Rattle.unit_tree.specs.declared.expr.Expr.{Expr}
use Rattle.unit_tree.specs.declared.line.Line as line
use Rattle.unit_tree.specs.declared.line.Line.{Line}
use Rattle.unit_tree.specs.declared.line_form.LineForm.{LineForm}
use Rattle.unit_tree.specs.declared.line_form.LineForm.TheVariants as form
use Rattle.unit_tree.specs.declared.system.Instance.{Instance}
use Rattle.unit_tree.specs.declared.system.System.{System}
use Rattle.unit_tree.specs.declared.unit.Unit.{Unit}
use Rattle.unit_tree.proofs.FoldLemmas.{fold-If, fold-Repeat}
use Rattle.unit_print.specs.Fitting.{is_name, expression_fits, line_fits, instance_fits, unit_parts_fit, parts_fit}
use Rattle.list_laws.proofs.Truths.{and_true, and_assoc}
use Rattle.list_laws.proofs.Lists.{flat_all, mapped_all}

-- ---- Lists

-- The same where each part is one line.
mapped_one : {A B C : Type 0} (test : C → Bool) (forms : B → List C) (part : A → B) (line : A → C) → ((x : A) → forms (part x) ≡ line x ∷ [])
    → (xs : List A) → list_all test (flat_map forms (map part xs)) ≡ list_all (λ x. test (line x)) xs
mapped_one test forms part line is [] = refl
mapped_one test forms part line is (x ∷ xs) =
    list_all-append test (forms (part x)) (flat_map forms (map part xs))
    ∙ ap (λ lines. list_all test lines && list_all test (flat_map forms (map part xs))) (is x)
    ∙ ap (λ here. here && list_all test (flat_map forms (map part xs))) (and_true (test (line x)))
    ∙ ap (λ rest. test (line x) && rest) (mapped_one test forms part line is xs)

-- Two lists of parts in a row, each with its test.
flat_cut : {A B : Type 0} (test : B → Bool) (f : A → List B) (xs ys : List A) (one other : Bool) → list_all test (flat_map f xs) ≡ one
    → list_all test (flat_map f ys) ≡ other → list_all test (flat_map f (xs ++ ys)) ≡ (one && other)
flat_cut test f xs ys one other here rest =
    flat_all test f (xs ++ ys)
    ∙ list_all-append (λ x. list_all test (f x)) xs ys
    ∙ ap (λ told. told && list_all (λ x. list_all test (f x)) ys) (sym (flat_all test f xs) ∙ here)
    ∙ ap (λ told. one && told) (sym (flat_all test f ys) ∙ rest)

-- ---- Steps

-- Lines of a step, with the lines of their blocks.
abbrev pub steps_fit : ℕ → List Line → Bool
steps_fit version lines = list_all (λ line. list_all (line_fits version) (line_forms line)) lines

joined_fit : (version : ℕ) (lines : List Line) → list_all (line_fits version) (joined (map line_forms lines)) ≡ steps_fit version lines
joined_fit version [] = refl
joined_fit version (line ∷ lines) = list_all-append (line_fits version) (line_forms line) (joined (map line_forms lines))
    ∙ ap (λ rest. list_all (line_fits version) (line_forms line) && rest) (joined_fit version lines)

-- A block up to its end.
block_fits : (version : ℕ) (lines : List LineForm) (told : Bool) → list_all (line_fits version) lines ≡ told
    → list_all (line_fits version) (lines ++ (form.End ∷ [])) ≡ told
block_fits version lines told is = list_all-append (line_fits version) lines (form.End ∷ []) ∙ and_true (list_all (line_fits version) lines) ∙ is

pub if_fits : (version : ℕ) (whole : Line) (cond : Expr) (chosen : List Line) → whole ≡ line.If cond chosen None
    → list_all (line_fits version) (line_forms whole) ≡ (expression_fits version cond && steps_fit version chosen)
if_fits version whole cond chosen is =
    ap (λ one. list_all (line_fits version) (line_forms one)) is
    ∙ ap (list_all (line_fits version)) (fold-If (List LineForm) block_forms cond chosen None)
    ∙ ap (λ rest. (expression_fits version cond && true) && rest) (block_fits version (joined (map line_forms chosen) ++ []) _ (list_all-append
    (line_fits version) (joined (map line_forms chosen)) [] ∙ and_true _ ∙ joined_fit version chosen))
    ∙ ap (λ here. here && steps_fit version chosen) (and_true (expression_fits version cond))

pub if_else_fits : (version : ℕ) (whole : Line) (cond : Expr) (chosen otherwise : List Line) → whole ≡ line.If cond chosen (Some otherwise)
    → list_all (line_fits version) (line_forms whole) ≡ (expression_fits version cond && (steps_fit version chosen && steps_fit version otherwise))
if_else_fits version whole cond chosen otherwise is =
    let inner = joined (map line_forms chosen) in
    let behind = form.Else ∷ joined (map line_forms otherwise) in
    ap (λ one. list_all (line_fits version) (line_forms one)) is
    ∙ ap (list_all (line_fits version)) (fold-If (List LineForm) block_forms cond chosen (Some otherwise))
    ∙ ap (λ rest. (expression_fits version cond && true) && rest)
    (block_fits version (inner ++ behind) _ (list_all-append (line_fits version) inner behind ∙ ap (λ here. here && list_all
    (line_fits version) behind) (joined_fit version chosen) ∙ ap (λ rest. steps_fit version chosen && rest) (joined_fit version otherwise)))
    ∙ ap (λ here. here && (steps_fit version chosen && steps_fit version otherwise)) (and_true (expression_fits version cond))

pub repeat_fits : (version : ℕ) (whole : Line) (count : ℕ) (body : List Line) → whole ≡ line.Repeat count body
    → list_all (line_fits version) (line_forms whole) ≡ ((nat_le 1 count && nat_le count 1000) && steps_fit version body)
repeat_fits version whole count body is =
    ap (λ one. list_all (line_fits version) (line_forms one)) is
    ∙ ap (list_all (line_fits version)) (fold-Repeat (List LineForm) block_forms count body)
    ∙ ap (λ rest. ((nat_le 1 count && nat_le count 1000) && true) && rest) (block_fits version (joined (map line_forms body)) _ (joined_fit version body))
    ∙ ap (λ here. here && steps_fit version body) (and_true (nat_le 1 count && nat_le count 1000))

-- Which test is left where the first tests hold, and where one of them fails.
pub third_decides : (one other third told : Bool) → one ≡ true → other ≡ true → told ≡ third → told ≡ (one && (other && third))
third_decides one other third told first second is = is ∙ sym (ap (λ here. here && (other && third)) first ∙ ap (λ here. here && third) second)

pub second_decides : (one other told : Bool) → one ≡ true → told ≡ other → told ≡ (one && other)
second_decides one other told first is = is ∙ sym (ap (λ here. here && other) first)

pub first_fails : (one other third : Bool) → one ≡ false → false ≡ (one && (other && third))
first_fails one other third is = sym (ap (λ here. here && (other && third)) is)

pub second_fails : (one other third : Bool) → one ≡ true → other ≡ false → false ≡ (one && (other && third))
second_fails one other third first second = sym (ap (λ here. here && (other && third)) first ∙ ap (λ here. here && third) second)

pub count_fits : (count : ℕ) → 1 ≤ count → nat_le count 1000 ≡ true → (nat_le 1 count && nat_le count 1000) ≡ true
count_fits count least most = grind (arith, nat_tests)

pub step_fits : (version : ℕ) (lines : List Line) → unit_parts_fit version (optional parts.Step (Some lines)) ≡ steps_fit version lines
step_fits version lines =
    list_all-append (line_fits version) (form.Step ∷ flat_map line_forms lines ++ (form.End ∷ [])) []
    ∙ and_true _
    ∙ block_fits version (flat_map line_forms lines) _ (flat_all (line_fits version) line_forms lines)

-- ---- Units

-- A header, and what follows it.
behind_header : (range second told rest : Bool) → told ≡ rest → ((range && (not second || second)) && told) ≡ (range && rest)
behind_header false second told rest is = refl
behind_header true false told rest is = is
behind_header true true told rest is = is

-- A head with one name, and what follows it.
behind_name : (name told rest : Bool) → told ≡ rest → (((name && true) && true) && told) ≡ (name && rest)
behind_name true told rest is = is
behind_name false told rest is = refl

-- Ten tests in a row as three groups, and eight tests as three.
unit_groups : (declared one two three four five six : Bool)
    → ((((((declared && one) && two) && three) && four) && five) && six) ≡ ((declared && (((one && two) && three) && four)) && (five && six))
unit_groups false one two three four five six = refl
unit_groups true one two three four five six = and_assoc (((one && two) && three) && four) five six

system_groups : (components one two three four five : Bool)
    → (((((components && one) && two) && three) && four) && five) ≡ ((components && (((one && two) && three) && four)) && five)
system_groups false one two three four five = refl
system_groups true one two three four five = refl

pub unit_fits : (version : ℕ) (unit : Unit) → list_all (line_fits version) (part_forms (parts.HasUnit unit.name (unit_parts unit)))
    ≡ (is_name unit.name && (((((
    unit_parts_fit version (optional parts.Resolution unit.resolution)
    && list_all (λ param. line_fits version (form.Param param)) unit.params)
    && list_all (λ state. line_fits version (form.State state)) unit.states)
    && list_all (λ local. line_fits version (form.Local local)) unit.locals)
    && (((list_all (λ input. line_fits version (form.Input input)) unit.inputs
    && list_all (λ event. line_fits version (form.EventInput event)) unit.events_in)
    && list_all (λ output. line_fits version (form.Output output)) unit.outputs)
    && list_all (λ event. line_fits version (form.EventOutput event)) unit.events_out))
    && (unit_parts_fit version (optional parts.Max unit.max)
    && unit_parts_fit version (optional parts.Step unit.step))))
unit_fits version unit =
    let t = line_fits version in
    let cut = flat_cut t unit_part_forms in
    let to_params = optional parts.Resolution unit.resolution ++ map parts.HasParam unit.params in
    let to_states = to_params ++ map parts.HasState unit.states in
    let to_locals = to_states ++ map parts.HasLocal unit.locals in
    let to_inputs = to_locals ++ map parts.HasInput unit.inputs in
    let to_events_in = to_inputs ++ map parts.HasEventIn unit.events_in in
    let to_outputs = to_events_in ++ map parts.HasOutput unit.outputs in
    let to_events_out = to_outputs ++ map parts.HasEventOut unit.events_out in
    let to_max = to_events_out ++ optional parts.Max unit.max in
    let params = cut (optional parts.Resolution unit.resolution) (map parts.HasParam unit.params) _ _ refl
    (mapped_one t unit_part_forms parts.HasParam form.Param (λ x. refl) unit.params) in
    let states = cut to_params (map parts.HasState unit.states) _ _ params (mapped_one t unit_part_forms parts.HasState form.State
    (λ x. refl) unit.states) in
    let locals = cut to_states (map parts.HasLocal unit.locals) _ _ states (mapped_one t unit_part_forms parts.HasLocal form.Local
    (λ x. refl) unit.locals) in
    let inputs = cut to_locals (map parts.HasInput unit.inputs) _ _ locals (mapped_one t unit_part_forms parts.HasInput form.Input
    (λ x. refl) unit.inputs) in
    let events_in = cut to_inputs (map parts.HasEventIn unit.events_in) _ _ inputs (mapped_one t unit_part_forms parts.HasEventIn form.EventInput
    (λ x. refl) unit.events_in) in
    let outputs = cut to_events_in (map parts.HasOutput unit.outputs) _ _ events_in (mapped_one t unit_part_forms parts.HasOutput form.Output
    (λ x. refl) unit.outputs) in
    let events_out = cut to_outputs (map parts.HasEventOut unit.events_out) _ _ outputs
    (mapped_one t unit_part_forms parts.HasEventOut form.EventOutput (λ x. refl) unit.events_out) in
    let greatest = cut to_events_out (optional parts.Max unit.max) _ _ events_out refl in
    let all = cut to_max (optional parts.Step unit.step) _ _ greatest refl in
    behind_name (is_name unit.name) _ _ (block_fits version (flat_map unit_part_forms (unit_parts unit)) _ (all ∙ unit_groups
    (((unit_parts_fit version (optional parts.Resolution unit.resolution) && list_all (λ param. t (form.Param param)) unit.params) && list_all
    (λ state. t (form.State state)) unit.states)
    && list_all (λ local. t (form.Local local)) unit.locals)
    (list_all (λ input. t (form.Input input)) unit.inputs) (list_all (λ event. t (form.EventInput event)) unit.events_in)
    (list_all (λ output. t (form.Output output)) unit.outputs) (list_all (λ event. t (form.EventOutput event)) unit.events_out)
    (unit_parts_fit version (optional parts.Max unit.max)) (unit_parts_fit version (optional parts.Step unit.step))))

-- ---- Systems

instance_lines_fit : (version : ℕ) (instance : Instance) → list_all (line_fits version) (part_forms (parts.HasInstance instance)) ≡ instance_fits instance
instance_lines_fit version instance =
    let names : ((is_name instance.name && (is_name instance.unit && true)) && true) ≡ (is_name instance.name && is_name instance.unit) =
    and_true (is_name instance.name && (is_name instance.unit && true)) ∙ ap (λ told. is_name instance.name && told) (and_true (is_name instance.unit)) in
    ap (λ rest. ((is_name instance.name && (is_name instance.unit && true)) && true) && rest)
    (block_fits version (map form.Setting instance.settings) _ (list_all-map (line_fits version) form.Setting instance.settings))
    ∙ ap (λ here. here && list_all (λ setting. line_fits version (form.Setting setting)) instance.settings) names

instances_fit : (version : ℕ) (instances : List Instance)
    → list_all (λ instance. list_all (line_fits version) (part_forms (parts.HasInstance instance))) instances ≡ list_all instance_fits instances
instances_fit version [] = refl
instances_fit version (instance ∷ instances) =
    ap (λ here. here && list_all (λ one. list_all (line_fits version) (part_forms (parts.HasInstance one))) instances) (instance_lines_fit version instance)
    ∙ ap (λ rest. instance_fits instance && rest) (instances_fit version instances)

-- The limits of a run have the same form in both versions.
stop_fits : (version : ℕ) (given : Option Literal) → parts_fit version (optional parts.Stop given) ≡ parts_fit 1 (optional parts.Stop given)
stop_fits version None = refl
stop_fits version (Some seconds) = refl

longest_fits : (version : ℕ) (given : Option Literal) → parts_fit version (optional parts.Longest given) ≡ parts_fit 1 (optional parts.Longest given)
longest_fits version None = refl
longest_fits version (Some seconds) = refl

zero_fits : (version : ℕ) (given : Option ℕ) → parts_fit version (optional parts.Zero given) ≡ parts_fit 1 (optional parts.Zero given)
zero_fits version None = refl
zero_fits version (Some count) = refl

rows_fit : (version : ℕ) (given : Option ℕ) → parts_fit version (optional parts.Rows given) ≡ parts_fit 1 (optional parts.Rows given)
rows_fit version None = refl
rows_fit version (Some count) = refl

-- Four tests: all but the last are true, or one of these is false.
pub fourth_decides : (one two three four told : Bool) → one ≡ true → two ≡ true → three ≡ true → told ≡ four → told ≡ (one && ((two && three) && four))
fourth_decides one two three four told first second third is =
    is ∙ sym (ap (λ here. here && ((two && three) && four)) first ∙ ap (λ here. (here && three) && four) second ∙ ap (λ here. here && four) third)

pub some_fails : (one two three four : Bool) → (one && (two && three)) ≡ false → false ≡ (one && ((two && three) && four))
some_fails false two three four fails = refl
some_fails true two three four fails = sym (ap (λ here. here && four) fails)

pub all_but : (one two three : Bool) → one ≡ true → two ≡ true → three ≡ false → (one && (two && three)) ≡ false
all_but one two three first second third = ap (λ here. here && (two && three)) first ∙ ap (λ here. here && three) second ∙ third

pub one_but : (one two three : Bool) → one ≡ true → two ≡ false → (one && (two && three)) ≡ false
one_but one two three first second = ap (λ here. here && (two && three)) first ∙ ap (λ here. here && three) second

pub system_fits : (system : System) → list_all (line_fits system.version) (canonical_forms system)
    ≡ ((nat_le 1 system.version && nat_le system.version 2) && ((((
    list_all (λ unit. list_all (line_fits system.version) (part_forms (parts.HasUnit unit.name (unit_parts unit)))) system.units
    && list_all instance_fits system.instances)
    && list_all (λ wire. line_fits system.version (form.Connect wire)) system.wires)
    && (((parts_fit 1 (optional parts.Stop system.stop)
    && parts_fit 1 (optional parts.Longest system.longest))
    && parts_fit 1 (optional parts.Zero system.zero))
    && parts_fit 1 (optional parts.Rows system.rows)))
    && list_all (λ port. line_fits system.version (form.Sample port)) system.samples))
system_fits system =
    let t = line_fits system.version in
    let cut = flat_cut t part_forms in
    let units = map (λ (unit : Unit). parts.HasUnit unit.name (unit_parts unit)) system.units in
    let to_instances = units ++ map parts.HasInstance system.instances in
    let to_wires = to_instances ++ map parts.Connects system.wires in
    let to_stop = to_wires ++ optional parts.Stop system.stop in
    let to_longest = to_stop ++ optional parts.Longest system.longest in
    let to_zero = to_longest ++ optional parts.Zero system.zero in
    let to_rows = to_zero ++ optional parts.Rows system.rows in
    let instances = cut units (map parts.HasInstance system.instances) _ _ (mapped_all t part_forms (λ (unit : Unit). parts.HasUnit unit.name
    (unit_parts unit)) system.units) (mapped_all t part_forms parts.HasInstance system.instances ∙ instances_fit system.version system.instances) in
    let wires = cut to_instances (map parts.Connects system.wires) _ _ instances (mapped_one t part_forms parts.Connects form.Connect
    (λ x. refl) system.wires) in
    let stop = cut to_wires (optional parts.Stop system.stop) _ _ wires (stop_fits system.version system.stop) in
    let longest = cut to_stop (optional parts.Longest system.longest) _ _ stop (longest_fits system.version system.longest) in
    let least = cut to_longest (optional parts.Zero system.zero) _ _ longest (zero_fits system.version system.zero) in
    let rows = cut to_zero (optional parts.Rows system.rows) _ _ least (rows_fit system.version system.rows) in
    let samples = cut to_rows (map parts.Samples system.samples) _ _ rows (mapped_one t part_forms parts.Samples form.Sample (λ x. refl) system.samples) in
    behind_header (nat_le 1 system.version && nat_le system.version 2) (system.version == 2) _ _ (samples ∙ system_groups
    ((list_all (λ (unit : Unit). list_all t (part_forms (parts.HasUnit unit.name (unit_parts unit)))) system.units
    && list_all instance_fits system.instances) && list_all (λ wire. t (form.Connect wire)) system.wires)
    (parts_fit 1 (optional parts.Stop system.stop)) (parts_fit 1 (optional parts.Longest system.longest))
    (parts_fit 1 (optional parts.Zero system.zero)) (parts_fit 1 (optional parts.Rows system.rows))
    (list_all (λ port. t (form.Sample port)) system.samples))
