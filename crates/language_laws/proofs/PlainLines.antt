-- The lines that the lines of a system become in the plain form are the canonical lines of the plain form.
use Rattle.std.proofs.Common.{◌≡◌, ℕ, ◌==◌, true, List, [], ◌∷◌, ◌++◌, append_assoc, map, Option, Some, None, if◌then◌else◌, refl, ap, sym, subst, ◌∙◌}
use Rattle.std.specs.List.{flat_map}
use Rattle.std.specs.Option.{option_map}
use Rattle.std.proofs.lemmas.Grind.{flat_map-append}
use Rattle.std.proofs.lemmas.List.{append-nil, map-append}
use Rattle.unit_tree.specs.Canonical.{optional, unit_parts, canonical_parts, canonical_forms}
use Rattle.unit_tree.specs.Parts as parts
use Rattle.unit_tree.specs.Parts.{Part, UnitPart, joined, block_forms, line_forms, unit_part_forms, part_forms, unit_of}
use Rattle.unit_tree.specs.Plain.{plain_expression, node_plain_line, plain_line, plain_inputs, plain_output, plain_outputs, plain_unit, plain_wires}
use Rattle.unit_tree.specs.Plain.{samples_or_all, plain_form, plain_forms}
use Rattle.unit_tree.specs.Sites.{Scope, TopScope, UnitScope, StepScope, InstanceScope, Site, Headed, alone, sites, headed_unit_part, headed_part, sites_of}
use Rattle.unit_tree.specs.declared.expr.Expr.{Expr}
use Rattle.unit_tree.specs.declared.line.Line as line
use Rattle.unit_tree.specs.declared.line.Line.{Line}
use Rattle.unit_tree.specs.declared.line.Line.TheFolds.{ind-Line, map-Line}
use Rattle.unit_tree.specs.declared.line.Line.TheOpen.{Line-F}
use Rattle.unit_tree.specs.declared.line.Line.TheVariants.{rolls-Assign, rolls-If, rolls-Repeat, rolls-Accept}
use Rattle.unit_tree.specs.declared.line.Line.TheViews.{roll-Line}
use Rattle.unit_tree.specs.declared.line_form.LineForm.{LineForm}
use Rattle.unit_tree.specs.declared.line_form.LineForm.TheVariants as form
use Rattle.unit_tree.specs.declared.system.Instance.{Instance}
use Rattle.unit_tree.specs.declared.system.Setting.{Setting}
use Rattle.unit_tree.specs.declared.system.System.{System}
use Rattle.unit_tree.specs.declared.system.Wire.{Wire}
use Rattle.unit_tree.specs.declared.unit.Unit.{Unit}
use Rattle.unit_tree.proofs.FoldLemmas.{fold-Assign, fold-If, fold-Repeat, fold-Accept}
use Rattle.language_laws.proofs.PartLaws.{unit_is}

-- ---- Along the sites

abbrev pub becomes : System → Site → List LineForm
becomes system site = plain_forms system site.scope site.line

-- What a line becomes, with what those of its block become.
abbrev pub all_becomes : System → Scope → Headed → List LineForm
all_becomes system scope headed = plain_forms system scope headed.head ++ flat_map (becomes system) headed.block

pub along : (system : System) (scope : Scope) (earlier : List LineForm) (headed : List Headed)
    → flat_map (becomes system) (sites scope earlier headed) ≡ flat_map (all_becomes system scope) headed
along system scope earlier [] = refl
along system scope earlier (first ∷ others) =
    let rest = sites scope (earlier ++ (first.head ∷ [])) others in
    ap (λ inside. plain_forms system scope first.head ++ inside)
    (flat_map-append (becomes system) first.block rest
    ∙ ap (λ behind. flat_map (becomes system) first.block ++ behind) (along system scope (earlier ++ (first.head ∷ [])) others))
    ∙ sym (append_assoc (plain_forms system scope first.head) (flat_map (becomes system) first.block) (flat_map (all_becomes system scope) others))

pub each_alone : (system : System) (scope : Scope) (lines : List LineForm)
    → flat_map (all_becomes system scope) (map alone lines) ≡ flat_map (plain_forms system scope) lines
each_alone system scope [] = refl
each_alone system scope (line ∷ lines) =
    ap (λ front. front ++ flat_map (all_becomes system scope) (map alone lines)) (append-nil (plain_forms system scope line))
    ∙ ap (λ rest. plain_forms system scope line ++ rest) (each_alone system scope lines)

pub along_alone : (system : System) (scope : Scope) (lines : List LineForm)
    → flat_map (becomes system) (sites scope [] (map alone lines)) ≡ flat_map (plain_forms system scope) lines
along_alone system scope lines = along system scope [] (map alone lines) ∙ each_alone system scope lines

-- ---- Step lines

abbrev pub in_step : System → Unit → LineForm → List LineForm
in_step system unit some = plain_forms system (StepScope unit) some

abbrev pub IsPlain : Line → Type 0
IsPlain some = (system : System) (unit : Unit) → flat_map (in_step system unit) (line_forms some) ≡ line_forms (plain_line some)

abbrev pub Proved : Type 0
Proved = (some : Line) × IsPlain some

abbrev pub line_in : Proved → Line
line_in one = one.0

-- What the lines of a block become, before they are joined with those around it.
pub joined_are : (system : System) (unit : Unit) (lines : List Proved)
    → flat_map (in_step system unit) (joined (map line_forms (map line_in lines))) ≡ joined (map line_forms (map plain_line (map line_in lines)))
joined_are system unit [] = refl
joined_are system unit (one ∷ lines) =
    flat_map-append (in_step system unit) (line_forms one.0) (joined (map line_forms (map line_in lines)))
    ∙ ap (λ front. front ++ flat_map (in_step system unit) (joined (map line_forms (map line_in lines)))) (one.1 system unit)
    ∙ ap (λ rest. line_forms (plain_line one.0) ++ rest) (joined_are system unit lines)

pub plain-Assign : (target : List ℕ) (value : Expr) → IsPlain (line.Assign target value)
plain-Assign target value system unit =
    ap (flat_map (in_step system unit)) (fold-Assign (List LineForm) block_forms target value)
    ∙ sym (ap line_forms (fold-Assign Line node_plain_line target value) ∙ fold-Assign (List LineForm) block_forms target (plain_expression value))

pub plain-Accept : (value : Expr) → IsPlain (line.Accept value)
plain-Accept value system unit =
    ap (flat_map (in_step system unit)) (fold-Accept (List LineForm) block_forms value)
    ∙ sym (ap line_forms (fold-Accept Line node_plain_line value) ∙ fold-Accept (List LineForm) block_forms (plain_expression value))

pub plain-Repeat : (count : ℕ) (body : List Proved) → IsPlain (line.Repeat count (map line_in body))
plain-Repeat count body system unit =
    ap (flat_map (in_step system unit)) (fold-Repeat (List LineForm) block_forms count (map line_in body))
    ∙ ap (λ rest. form.Repeat count ∷ rest)
    (flat_map-append (in_step system unit) (joined (map line_forms (map line_in body))) (form.End ∷ [])
    ∙ ap (λ inside. inside ++ (form.End ∷ [])) (joined_are system unit body))
    ∙ sym (ap line_forms (fold-Repeat Line node_plain_line count (map line_in body))
    ∙ fold-Repeat (List LineForm) block_forms count (map plain_line (map line_in body)))

pub plain-IfNone : (condition : Expr) (then_lines : List Proved) → IsPlain (line.If condition (map line_in then_lines) None)
plain-IfNone condition then_lines system unit =
    let inside = joined (map line_forms (map line_in then_lines)) in
    ap (flat_map (in_step system unit)) (fold-If (List LineForm) block_forms condition (map line_in then_lines) None)
    ∙ ap (λ rest. form.If (plain_expression condition) ∷ rest)
    (flat_map-append (in_step system unit) (inside ++ []) (form.End ∷ [])
    ∙ ap (λ front. front ++ (form.End ∷ [])) (flat_map-append (in_step system unit) inside [] ∙ ap (λ front. front ++ []) (joined_are system unit then_lines)))
    ∙ sym (ap line_forms (fold-If Line node_plain_line condition (map line_in then_lines) None)
    ∙ fold-If (List LineForm) block_forms (plain_expression condition) (map plain_line (map line_in then_lines)) None)

pub plain-IfElse : (condition : Expr) (then_lines else_lines : List Proved)
    → IsPlain (line.If condition (map line_in then_lines) (Some (map line_in else_lines)))
plain-IfElse condition then_lines else_lines system unit =
    let inside = joined (map line_forms (map line_in then_lines)) in
    let other = joined (map line_forms (map line_in else_lines)) in
    ap (flat_map (in_step system unit)) (fold-If (List LineForm) block_forms condition (map line_in then_lines) (Some (map line_in else_lines)))
    ∙ ap (λ rest. form.If (plain_expression condition) ∷ rest)
    (flat_map-append (in_step system unit) (inside ++ (form.Else ∷ other)) (form.End ∷ [])
    ∙ ap (λ front. front ++ (form.End ∷ []))
    (flat_map-append (in_step system unit) inside (form.Else ∷ other) ∙ rw (joined_are system unit then_lines, joined_are system unit else_lines) refl))
    ∙ sym (ap line_forms (fold-If Line node_plain_line condition (map line_in then_lines) (Some (map line_in else_lines)))
    ∙ fold-If (List LineForm) block_forms (plain_expression condition) (map plain_line (map line_in then_lines))
    (Some (map plain_line (map line_in else_lines))))

pub line_node : (y : Line-F Proved) → IsPlain (roll-Line (map-Line Proved Line line_in y))
line_node (Line-F.Assign target value) = subst IsPlain (sym (rolls-Assign target value)) (plain-Assign target value)
line_node (Line-F.If condition then_lines None) = subst IsPlain (sym (rolls-If condition (map line_in then_lines) None)) (plain-IfNone condition then_lines)
line_node (Line-F.If condition then_lines (Some else_lines)) =
    subst IsPlain (sym (rolls-If condition (map line_in then_lines) (Some (map line_in else_lines)))) (plain-IfElse condition then_lines else_lines)
line_node (Line-F.Repeat count body) = subst IsPlain (sym (rolls-Repeat count (map line_in body))) (plain-Repeat count body)
line_node (Line-F.Accept value) = subst IsPlain (sym (rolls-Accept value)) (plain-Accept value)

pub line_is : (some : Line) → IsPlain some
line_is = ind-Line IsPlain (λ x y is. subst (λ z. IsPlain (roll-Line z)) is (line_node y))

pub lines_are : (system : System) (unit : Unit) (lines : List Line)
    → flat_map (in_step system unit) (flat_map line_forms lines) ≡ flat_map line_forms (map plain_line lines)
lines_are system unit [] = refl
lines_are system unit (one ∷ lines) =
    flat_map-append (in_step system unit) (line_forms one) (flat_map line_forms lines)
    ∙ ap (λ front. front ++ flat_map (in_step system unit) (flat_map line_forms lines)) (line_is one system unit)
    ∙ ap (λ rest. line_forms (plain_line one) ++ rest) (lines_are system unit lines)

-- ---- A unit

-- The parts of the plain unit that a part becomes.
abbrev pub plain_unit_part : Unit → UnitPart → List UnitPart
plain_unit_part unit (parts.HasEventIn event) = map parts.HasInput (plain_inputs event)
plain_unit_part unit (parts.HasOutput output) = parts.HasOutput (plain_output unit output) ∷ []
plain_unit_part unit (parts.HasEventOut event) = map parts.HasOutput (plain_outputs unit event)
plain_unit_part unit (parts.Max value) = parts.Max (plain_expression value) ∷ []
plain_unit_part unit (parts.Step lines) = parts.Step (map plain_line lines) ∷ []
plain_unit_part unit part = part ∷ []

pub unit_part_is : (system : System) (unit : Unit) (part : UnitPart)
    → flat_map (all_becomes system (UnitScope unit)) (headed_unit_part unit part) ≡ flat_map unit_part_forms (plain_unit_part unit part)
unit_part_is system unit (parts.Resolution decimals) = refl
unit_part_is system unit (parts.HasParam param) = refl
unit_part_is system unit (parts.HasState state) = refl
unit_part_is system unit (parts.HasLocal local) = refl
unit_part_is system unit (parts.HasInput input) = refl
unit_part_is system unit (parts.HasEventIn event) = refl
unit_part_is system unit (parts.HasOutput output) = refl
unit_part_is system unit (parts.HasEventOut event) = refl
unit_part_is system unit (parts.Max value) = refl
unit_part_is system unit (parts.Step lines) =
    ap (λ inside. form.Step ∷ inside ++ (form.End ∷ [])) (along_alone system (StepScope unit) (flat_map line_forms lines) ∙ lines_are system unit lines)
    ∙ sym (append-nil (form.Step ∷ flat_map line_forms (map plain_line lines) ++ (form.End ∷ [])))

pub unit_parts_are : (system : System) (unit : Unit) (all : List UnitPart)
    → flat_map (all_becomes system (UnitScope unit)) (flat_map (headed_unit_part unit) all) ≡ flat_map unit_part_forms (flat_map (plain_unit_part unit) all)
unit_parts_are system unit [] = refl
unit_parts_are system unit (part ∷ all) =
    flat_map-append (all_becomes system (UnitScope unit)) (headed_unit_part unit part) (flat_map (headed_unit_part unit) all)
    ∙ ap (λ front. front ++ flat_map (all_becomes system (UnitScope unit)) (flat_map (headed_unit_part unit) all)) (unit_part_is system unit part)
    ∙ ap (λ rest. flat_map unit_part_forms (plain_unit_part unit part) ++ rest) (unit_parts_are system unit all)
    ∙ sym (flat_map-append unit_part_forms (plain_unit_part unit part) (flat_map (plain_unit_part unit) all))

pub in_unit : (system : System) (unit : Unit) (inside : List UnitPart)
    → flat_map (becomes system) (sites (UnitScope unit) [] (flat_map (headed_unit_part unit) inside ++ (alone form.End ∷ [])))
    ≡ flat_map unit_part_forms (flat_map (plain_unit_part unit) inside) ++ (form.End ∷ [])
in_unit system unit inside =
    along system (UnitScope unit) [] (flat_map (headed_unit_part unit) inside ++ (alone form.End ∷ []))
    ∙ flat_map-append (all_becomes system (UnitScope unit)) (flat_map (headed_unit_part unit) inside) (alone form.End ∷ [])
    ∙ ap (λ front. front ++ (form.End ∷ [])) (unit_parts_are system unit inside)

-- Parts of one kind, each of which becomes parts of one kind.
pub kept : {A P : Type 0} (become : P → List P) (part : A → P) → ((x : A) → become (part x) ≡ part x ∷ []) → (xs : List A)
    → flat_map become (map part xs) ≡ map part xs
kept become part one [] = refl
kept become part one (x ∷ xs) = ap (λ front. front ++ flat_map become (map part xs)) (one x) ∙ ap (λ rest. part x ∷ rest) (kept become part one xs)

pub changed : {A P : Type 0} (become : P → List P) (part : A → P) (change : A → A) → ((x : A) → become (part x) ≡ part (change x) ∷ []) → (xs : List A)
    → flat_map become (map part xs) ≡ map part (map change xs)
changed become part change one [] = refl
changed become part change one (x ∷ xs) =
    ap (λ front. front ++ flat_map become (map part xs)) (one x) ∙ ap (λ rest. part (change x) ∷ rest) (changed become part change one xs)

pub spread : {A B P : Type 0} (become : P → List P) (part : A → P) (new : B → P) (change : A → List B) → ((x : A) → become (part x) ≡ map new (change x))
    → (xs : List A) → flat_map become (map part xs) ≡ map new (flat_map change xs)
spread become part new change one [] = refl
spread become part new change one (x ∷ xs) =
    ap (λ front. front ++ flat_map become (map part xs)) (one x)
    ∙ ap (λ rest. map new (change x) ++ rest) (spread become part new change one xs)
    ∙ sym (map-append new (change x) (flat_map change xs))

pub optional_kept : {A P : Type 0} (become : P → List P) (part : A → P) → ((x : A) → become (part x) ≡ part x ∷ []) → (given : Option A)
    → flat_map become (optional part given) ≡ optional part given
optional_kept become part one None = refl
optional_kept become part one (Some x) = ap (λ front. front ++ []) (one x)

pub optional_changed : {A P : Type 0} (become : P → List P) (part : A → P) (change : A → A) → ((x : A) → become (part x) ≡ part (change x) ∷ [])
    → (given : Option A) → flat_map become (optional part given) ≡ optional part (option_map change given)
optional_changed become part change one None = refl
optional_changed become part change one (Some x) = ap (λ front. front ++ []) (one x)

pub flat_ten : {A B : Type 0} (f : A → List B) (a b c d e g h i j k : List A)
    → flat_map f (a ++ b ++ c ++ d ++ e ++ g ++ h ++ i ++ j ++ k)
    ≡ flat_map f a ++ flat_map f b ++ flat_map f c ++ flat_map f d ++ flat_map f e ++ flat_map f g ++ flat_map f h ++ flat_map f i ++ flat_map f j
    ++ flat_map f k
flat_ten f a b c d e g h i j k = simp flat_map-append refl

pub flat_eight : {A B : Type 0} (f : A → List B) (a b c d e g h i : List A)
    → flat_map f (a ++ b ++ c ++ d ++ e ++ g ++ h ++ i)
    ≡ flat_map f a ++ flat_map f b ++ flat_map f c ++ flat_map f d ++ flat_map f e ++ flat_map f g ++ flat_map f h ++ flat_map f i
flat_eight f a b c d e g h i = simp flat_map-append refl

-- The ports of events come after the plain ones of their kind.
pub regrouped : {A I O : Type 0} (input : I → A) (output : O → A) (a b c d : List A) (e f : List I) (g h : List O) (i j : List A)
    → a ++ b ++ c ++ d ++ map input e ++ map input f ++ map output g ++ map output h ++ i ++ j
    ≡ a ++ b ++ c ++ d ++ map input (e ++ f) ++ [] ++ map output (g ++ h) ++ [] ++ i ++ j
regrouped input output a b c d e f g h i j = simp (map-append, append_assoc, append-nil) refl

pub plain_parts_are : (unit : Unit) → flat_map (plain_unit_part unit) (unit_parts unit) ≡ unit_parts (plain_unit unit)
plain_parts_are unit =
    let become = plain_unit_part unit in
    flat_ten become (optional parts.Resolution unit.resolution) (map parts.HasParam unit.params) (map parts.HasState unit.states)
    (map parts.HasLocal unit.locals) (map parts.HasInput unit.inputs) (map parts.HasEventIn unit.events_in) (map parts.HasOutput unit.outputs)
    (map parts.HasEventOut unit.events_out) (optional parts.Max unit.max) (optional parts.Step unit.step)
    ∙ rw (
      optional_kept become parts.Resolution (λ x. refl) unit.resolution,
      kept become parts.HasParam (λ x. refl) unit.params,
      kept become parts.HasState (λ x. refl) unit.states,
      kept become parts.HasLocal (λ x. refl) unit.locals,
      kept become parts.HasInput (λ x. refl) unit.inputs,
      spread become parts.HasEventIn parts.HasInput plain_inputs (λ x. refl) unit.events_in,
      changed become parts.HasOutput (plain_output unit) (λ x. refl) unit.outputs,
      spread become parts.HasEventOut parts.HasOutput (plain_outputs unit) (λ x. refl) unit.events_out,
      optional_changed become parts.Max plain_expression (λ x. refl) unit.max,
      optional_changed become parts.Step (map plain_line) (λ x. refl) unit.step,
    ) (regrouped parts.HasInput parts.HasOutput (optional parts.Resolution unit.resolution) (map parts.HasParam unit.params) (map parts.HasState unit.states)
    (map parts.HasLocal unit.locals) unit.inputs (flat_map plain_inputs unit.events_in) (map (plain_output unit) unit.outputs)
    (flat_map (plain_outputs unit) unit.events_out) (optional parts.Max (option_map plain_expression unit.max))
    (optional parts.Step (option_map (map plain_line) unit.step)))

-- ---- A system

-- The parts of the plain form that a part becomes.
abbrev pub plain_part : System → Part → List Part
plain_part system (parts.HasUnit name inside) = parts.HasUnit name (flat_map (plain_unit_part (unit_of name inside)) inside) ∷ []
plain_part system (parts.Connects wire) = map parts.Connects (plain_wires system wire)
plain_part system part = part ∷ []

pub wires_forms : (wires : List Wire) → flat_map part_forms (map parts.Connects wires) ≡ map form.Connect wires
wires_forms [] = refl
wires_forms (wire ∷ wires) = ap (λ rest. form.Connect wire ∷ rest) (wires_forms wires)

pub settings_are : (system : System) (instance : Instance) (settings : List Setting)
    → flat_map (plain_forms system (InstanceScope instance)) (map form.Setting settings ++ (form.End ∷ [])) ≡ map form.Setting settings ++ (form.End ∷ [])
settings_are system instance [] = refl
settings_are system instance (one ∷ settings) = ap (λ rest. form.Setting one ∷ rest) (settings_are system instance settings)

pub part_is : (system : System) (part : Part) → flat_map (all_becomes system TopScope) (headed_part part) ≡ flat_map part_forms (plain_part system part)
part_is system (parts.HasUnit name inside) =
    ap (λ block. form.Unit name ∷ block ++ []) (in_unit system (unit_of name inside) inside)
part_is system (parts.HasInstance instance) =
    ap (λ block. form.Instance instance.name instance.unit ∷ block ++ [])
    (along_alone system (InstanceScope instance) (map form.Setting instance.settings ++ (form.End ∷ [])) ∙ settings_are system instance instance.settings)
part_is system (parts.Connects wire) = append-nil _ ∙ append-nil _ ∙ sym (wires_forms (plain_wires system wire))
part_is system (parts.Stop seconds) = refl
part_is system (parts.Longest seconds) = refl
part_is system (parts.Zero count) = refl
part_is system (parts.Rows count) = refl
part_is system (parts.Samples port) = refl

pub parts_are : (system : System) (all : List Part)
    → flat_map (all_becomes system TopScope) (flat_map headed_part all) ≡ flat_map part_forms (flat_map (plain_part system) all)
parts_are system [] = refl
parts_are system (part ∷ all) =
    flat_map-append (all_becomes system TopScope) (headed_part part) (flat_map headed_part all)
    ∙ ap (λ front. front ++ flat_map (all_becomes system TopScope) (flat_map headed_part all)) (part_is system part)
    ∙ ap (λ rest. flat_map part_forms (plain_part system part) ++ rest) (parts_are system all)
    ∙ sym (flat_map-append part_forms (plain_part system part) (flat_map (plain_part system) all))

abbrev pub canonical_unit : Unit → Part
canonical_unit unit = parts.HasUnit unit.name (unit_parts unit)

pub unit_becomes : (system : System) (unit : Unit) → plain_part system (canonical_unit unit) ≡ canonical_unit (plain_unit unit) ∷ []
unit_becomes system unit =
    ap (λ said. parts.HasUnit unit.name (flat_map (plain_unit_part said) (unit_parts unit)) ∷ []) (unit_is unit)
    ∙ ap (λ inside. parts.HasUnit unit.name inside ∷ []) (plain_parts_are unit)

-- The plain form, except for the sampled outputs.
abbrev pub plain_system : System → System
plain_system system = record system {
  units = map plain_unit system.units;
  wires = flat_map (plain_wires system) system.wires;
}

pub system_parts_are : (system : System) → flat_map (plain_part system) (canonical_parts system) ≡ canonical_parts (plain_system system)
system_parts_are system =
    let become = plain_part system in
    flat_eight become (map canonical_unit system.units) (map parts.HasInstance system.instances) (map parts.Connects system.wires)
    (optional parts.Stop system.stop) (optional parts.Longest system.longest) (optional parts.Zero system.zero) (optional parts.Rows system.rows)
    (map parts.Samples system.samples)
    ∙ rw (
      changed become canonical_unit plain_unit (unit_becomes system) system.units,
      kept become parts.HasInstance (λ x. refl) system.instances,
      spread become parts.Connects parts.Connects (plain_wires system) (λ x. refl) system.wires,
      optional_kept become parts.Stop (λ x. refl) system.stop,
      optional_kept become parts.Longest (λ x. refl) system.longest,
      optional_kept become parts.Zero (λ x. refl) system.zero,
      optional_kept become parts.Rows (λ x. refl) system.rows,
      kept become parts.Samples (λ x. refl) system.samples,
    ) refl

pub plain_lines_are : (system : System) → system.version ≡ 2
    → flat_map (becomes system) (sites_of system) ≡ canonical_forms (record (plain_form system) { samples = system.samples })
plain_lines_are system is =
    along system TopScope [] (alone (form.Header system.version) ∷ flat_map headed_part (canonical_parts system))
    ∙ ap (λ rest. form.Header system.version ∷ rest) (parts_are system (canonical_parts system) ∙ ap (flat_map part_forms) (system_parts_are system))
    ∙ sym (ap
    (λ b. canonical_forms
    (record (if b then record (plain_system system) { samples = samples_or_all system } else system) { samples = system.samples })) version_is)
  where
    version_is : (system.version == 2) ≡ true
    version_is = ap (λ v. v == 2) is
