-- The canonical parts of a system give this system.
use Rattle.std.proofs.Common.{◌≡◌, ℕ, List, [], ◌∷◌, ◌++◌, append_assoc, map, Option, Some, None, refl, ap, sym, ◌∙◌}
use Rattle.std.proofs.lemmas.List.{append-nil}
use Rattle.std.specs.Option.{option_or}
use Rattle.fixed_words.specs.declared.types.Literal.{Literal}
use Rattle.unit_tree.specs.Canonical.{optional, unit_parts, canonical_parts}
use Rattle.unit_tree.specs.Parts as parts
use Rattle.unit_tree.specs.Parts.{Part, UnitPart, bare_unit, with_unit_part, unit_of, bare_system, with_part, system_of}
use Rattle.unit_tree.specs.declared.expr.Expr.{Expr}
use Rattle.unit_tree.specs.declared.line.Line.{Line}
use Rattle.unit_tree.specs.declared.system.Instance.{Instance}
use Rattle.unit_tree.specs.declared.system.PortName.{PortName}
use Rattle.unit_tree.specs.declared.system.System.{System}
use Rattle.unit_tree.specs.declared.system.Wire.{Wire}
use Rattle.unit_tree.specs.declared.unit.EventIn.{EventIn}
use Rattle.unit_tree.specs.declared.unit.EventOut.{EventOut}
use Rattle.unit_tree.specs.declared.unit.Input.{Input}
use Rattle.unit_tree.specs.declared.unit.Local.{Local}
use Rattle.unit_tree.specs.declared.unit.Output.{Output}
use Rattle.unit_tree.specs.declared.unit.Param.{Param}
use Rattle.unit_tree.specs.declared.unit.State.{State}
use Rattle.unit_tree.specs.declared.unit.Unit.{Unit}
use Rattle.list_laws.proofs.Options.{or_none}

-- ---- Parts before others whose system is known

-- The system of parts of one kind, where each adds its own element before the others.
listed : {A P S : Type 0} (of : List P → S) (part : A → P) (put : List A → S → S) → ((s : S) → put [] s ≡ s)
    → ((x : A) (others : List P) → of (part x ∷ others) ≡ put (x ∷ []) (of others))
    → ((x : A) (xs : List A) (s : S) → put (x ∷ []) (put xs s) ≡ put (x ∷ xs) s) → (xs : List A) (rest : List P) (s : S) → of rest ≡ s
    → of (map part xs ++ rest) ≡ put xs s
listed of part put none one join [] rest s is = is ∙ sym (none s)
listed of part put none one join (x ∷ xs) rest s is =
    one x (map part xs ++ rest) ∙ ap (put (x ∷ [])) (listed of part put none one join xs rest s is) ∙ join x xs s

pub grouped : {A : Type 0} (a b c d e f g h : List A) → a ++ b ++ c ++ d ++ e ++ f ++ g ++ h ≡ a ++ (b ++ (c ++ (d ++ (e ++ (f ++ (g ++ h))))))
grouped a b c d e f g h = simp append_assoc

pub grouped_ten : {A : Type 0} (a b c d e f g h i j : List A)
    → a ++ b ++ c ++ d ++ e ++ f ++ g ++ h ++ i ++ j ≡ a ++ (b ++ (c ++ (d ++ (e ++ (f ++ (g ++ (h ++ (i ++ j))))))))
grouped_ten a b c d e f g h i j = simp append_assoc

-- ---- A unit

resolution_said : (name : List ℕ) (given : Option ℕ) (rest : List UnitPart) (unit : Unit) → unit_of name rest ≡ unit
    → unit_of name (optional parts.Resolution given ++ rest) ≡ record unit { resolution = option_or given unit.resolution }
resolution_said name None rest unit is = is
resolution_said name (Some x) rest unit is = ap (with_unit_part (parts.Resolution x)) is

params_said : (name : List ℕ) (xs : List Param) (rest : List UnitPart) (unit : Unit) → unit_of name rest ≡ unit
    → unit_of name (map parts.HasParam xs ++ rest) ≡ record unit { params = xs ++ unit.params }
params_said name = listed (unit_of name) parts.HasParam (λ xs u. record u { params = xs ++ u.params }) (λ u. refl) (λ x others. refl) (λ x xs u. refl)

states_said : (name : List ℕ) (xs : List State) (rest : List UnitPart) (unit : Unit) → unit_of name rest ≡ unit
    → unit_of name (map parts.HasState xs ++ rest) ≡ record unit { states = xs ++ unit.states }
states_said name = listed (unit_of name) parts.HasState (λ xs u. record u { states = xs ++ u.states }) (λ u. refl) (λ x others. refl) (λ x xs u. refl)

locals_said : (name : List ℕ) (xs : List Local) (rest : List UnitPart) (unit : Unit) → unit_of name rest ≡ unit
    → unit_of name (map parts.HasLocal xs ++ rest) ≡ record unit { locals = xs ++ unit.locals }
locals_said name = listed (unit_of name) parts.HasLocal (λ xs u. record u { locals = xs ++ u.locals }) (λ u. refl) (λ x others. refl) (λ x xs u. refl)

inputs_said : (name : List ℕ) (xs : List Input) (rest : List UnitPart) (unit : Unit) → unit_of name rest ≡ unit
    → unit_of name (map parts.HasInput xs ++ rest) ≡ record unit { inputs = xs ++ unit.inputs }
inputs_said name = listed (unit_of name) parts.HasInput (λ xs u. record u { inputs = xs ++ u.inputs }) (λ u. refl) (λ x others. refl) (λ x xs u. refl)

events_in_said : (name : List ℕ) (xs : List EventIn) (rest : List UnitPart) (unit : Unit) → unit_of name rest ≡ unit
    → unit_of name (map parts.HasEventIn xs ++ rest) ≡ record unit { events_in = xs ++ unit.events_in }
events_in_said name =
    listed (unit_of name) parts.HasEventIn (λ xs u. record u { events_in = xs ++ u.events_in }) (λ u. refl) (λ x others. refl) (λ x xs u. refl)

outputs_said : (name : List ℕ) (xs : List Output) (rest : List UnitPart) (unit : Unit) → unit_of name rest ≡ unit
    → unit_of name (map parts.HasOutput xs ++ rest) ≡ record unit { outputs = xs ++ unit.outputs }
outputs_said name = listed (unit_of name) parts.HasOutput (λ xs u. record u { outputs = xs ++ u.outputs }) (λ u. refl) (λ x others. refl) (λ x xs u. refl)

events_out_said : (name : List ℕ) (xs : List EventOut) (rest : List UnitPart) (unit : Unit) → unit_of name rest ≡ unit
    → unit_of name (map parts.HasEventOut xs ++ rest) ≡ record unit { events_out = xs ++ unit.events_out }
events_out_said name =
    listed (unit_of name) parts.HasEventOut (λ xs u. record u { events_out = xs ++ u.events_out }) (λ u. refl) (λ x others. refl) (λ x xs u. refl)

max_said : (name : List ℕ) (given : Option Expr) (rest : List UnitPart) (unit : Unit) → unit_of name rest ≡ unit
    → unit_of name (optional parts.Max given ++ rest) ≡ record unit { max = option_or given unit.max }
max_said name None rest unit is = is
max_said name (Some x) rest unit is = ap (with_unit_part (parts.Max x)) is

step_said : (name : List ℕ) (given : Option (List Line)) → unit_of name (optional parts.Step given) ≡ record (bare_unit name) { step = given }
step_said name None = refl
step_said name (Some lines) = refl

pub unit_is : (unit : Unit) → unit_of unit.name (unit_parts unit) ≡ unit
unit_is unit =
    ap (unit_of unit.name)
    (grouped_ten (optional parts.Resolution unit.resolution) (map parts.HasParam unit.params) (map parts.HasState unit.states)
    (map parts.HasLocal unit.locals) (map parts.HasInput unit.inputs) (map parts.HasEventIn unit.events_in) (map parts.HasOutput unit.outputs)
    (map parts.HasEventOut unit.events_out) (optional parts.Max unit.max) (optional parts.Step unit.step))
    ∙ resolution_said unit.name unit.resolution _ _
    (params_said unit.name unit.params _ _ (states_said unit.name unit.states _ _ (locals_said unit.name unit.locals _ _
    (inputs_said unit.name unit.inputs _ _
    (events_in_said unit.name unit.events_in _ _ (outputs_said unit.name unit.outputs _ _ (events_out_said unit.name unit.events_out _ _
    (max_said unit.name unit.max _ _ (step_said unit.name unit.step)))))))))
    ∙ simp (append-nil, or_none) refl

-- ---- A system

abbrev canonical_unit : Unit → Part
canonical_unit unit = parts.HasUnit unit.name (unit_parts unit)

abbrev said_unit : Unit → Unit
said_unit unit = unit_of unit.name (unit_parts unit)

units_are : (units : List Unit) → map said_unit units ≡ units
units_are [] = refl
units_are (unit ∷ units) = rw (unit_is unit, units_are units) refl

units_said : (version : ℕ) (units : List Unit) (rest : List Part) (system : System) → system_of version rest ≡ system
    → system_of version (map canonical_unit units ++ rest) ≡ record system { units = map said_unit units ++ system.units }
units_said version =
    listed (system_of version) canonical_unit (λ units s. record s { units = map said_unit units ++ s.units }) (λ s. refl) (λ x others. refl) (λ x xs s. refl)

instances_said : (version : ℕ) (xs : List Instance) (rest : List Part) (system : System) → system_of version rest ≡ system
    → system_of version (map parts.HasInstance xs ++ rest) ≡ record system { instances = xs ++ system.instances }
instances_said version =
    listed (system_of version) parts.HasInstance (λ xs s. record s { instances = xs ++ s.instances }) (λ s. refl) (λ x others. refl) (λ x xs s. refl)

wires_said : (version : ℕ) (xs : List Wire) (rest : List Part) (system : System) → system_of version rest ≡ system
    → system_of version (map parts.Connects xs ++ rest) ≡ record system { wires = xs ++ system.wires }
wires_said version = listed (system_of version) parts.Connects (λ xs s. record s { wires = xs ++ s.wires }) (λ s. refl) (λ x others. refl) (λ x xs s. refl)

stop_said : (version : ℕ) (given : Option Literal) (rest : List Part) (system : System) → system_of version rest ≡ system
    → system_of version (optional parts.Stop given ++ rest) ≡ record system { stop = option_or given system.stop }
stop_said version None rest system is = is
stop_said version (Some x) rest system is = ap (with_part (parts.Stop x)) is

longest_said : (version : ℕ) (given : Option Literal) (rest : List Part) (system : System) → system_of version rest ≡ system
    → system_of version (optional parts.Longest given ++ rest) ≡ record system { longest = option_or given system.longest }
longest_said version None rest system is = is
longest_said version (Some x) rest system is = ap (with_part (parts.Longest x)) is

zero_said : (version : ℕ) (given : Option ℕ) (rest : List Part) (system : System) → system_of version rest ≡ system
    → system_of version (optional parts.Zero given ++ rest) ≡ record system { zero = option_or given system.zero }
zero_said version None rest system is = is
zero_said version (Some x) rest system is = ap (with_part (parts.Zero x)) is

rows_said : (version : ℕ) (given : Option ℕ) (rest : List Part) (system : System) → system_of version rest ≡ system
    → system_of version (optional parts.Rows given ++ rest) ≡ record system { rows = option_or given system.rows }
rows_said version None rest system is = is
rows_said version (Some x) rest system is = ap (with_part (parts.Rows x)) is

samples_said : (version : ℕ) (samples : List PortName) → system_of version (map parts.Samples samples) ≡ record (bare_system version) { samples = samples }
samples_said version [] = refl
samples_said version (port ∷ samples) = ap (with_part (parts.Samples port)) (samples_said version samples)

pub system_is : (system : System) → system_of system.version (canonical_parts system) ≡ system
system_is system =
    let v = system.version in
    ap (system_of v)
    (grouped (map canonical_unit system.units) (map parts.HasInstance system.instances) (map parts.Connects system.wires) (optional parts.Stop system.stop)
    (optional parts.Longest system.longest) (optional parts.Zero system.zero) (optional parts.Rows system.rows) (map parts.Samples system.samples))
    ∙ units_said v system.units _ _
    (instances_said v system.instances _ _ (wires_said v system.wires _ _ (stop_said v system.stop _ _ (longest_said v system.longest _ _
    (zero_said v system.zero _ _ (rows_said v system.rows _ _ (samples_said v system.samples)))))))
    ∙ simp (append-nil, or_none, units_are) refl
