-- A system of version 1 uses neither `absent` nor `present`, so each of its units is run as it is.
use Rattle.std.proofs.Common.{◌≡◌, Bool, false, ℕ, List, [], ◌∷◌, ◌++◌, map, Option, Some, None, refl, sym, ap, ◌∙◌, subst}
use Rattle.std.specs.Prelude.{◌==◌, ◌&&◌, cond}
use Rattle.std.specs.List.{AllByRecursion, flat_map}
use Rattle.std.specs.Option.{option_map}
use Rattle.std.proofs.lemmas.Grind.{flat_map-append}
use Rattle.std.proofs.lemmas.List.{append-nil}
use Rattle.std.proofs.lemmas.Bool.{or_parts, true≢false}
use Rattle.unit_tree.specs.Canonical.{optional}
use Rattle.unit_tree.specs.LineForms.{tail_of, tail_speaks_of_events, node_speaks_of_events, speaks_of_events, HasForm, is_of_version_2}
use Rattle.unit_tree.specs.Names.{is_among}
use Rattle.unit_tree.specs.Parts as parts
use Rattle.unit_tree.specs.Parts.{UnitPart, joined, block_forms, line_forms}
use Rattle.unit_tree.specs.Plain.{plain_expression, node_plain_line, plain_line, plain_inputs, plain_need, plain_needs, plain_output, plain_outputs, plain_unit}
use Rattle.unit_tree.specs.Sites.{UnitScope, StepScope, Site, Headed, alone, sites, headed_unit_part}
use Rattle.unit_tree.specs.declared.expr.Expr as expr
use Rattle.unit_tree.specs.declared.expr.Expr.{Expr}
use Rattle.unit_tree.specs.declared.expr.Expr.TheVariants.{rolls-Number, rolls-Truth, rolls-Var, rolls-Time, rolls-Step, rolls-Unary, rolls-Binary, rolls-Clamp}
use Rattle.unit_tree.specs.declared.expr.Expr.TheVariants.{rolls-Choose, rolls-Absent, rolls-Present}
use Rattle.unit_tree.specs.declared.expr.Expr.TheFolds.{ind-Expr, map-Expr}
use Rattle.unit_tree.specs.declared.expr.Expr.TheViews.{roll-Expr}
use Rattle.unit_tree.specs.declared.expr.Expr.TheOpen.{Expr-F}
use Rattle.unit_tree.specs.declared.line.Line as line
use Rattle.unit_tree.specs.declared.line.Line.{Line}
use Rattle.unit_tree.specs.declared.line.Line.TheFolds.{ind-Line, map-Line}
use Rattle.unit_tree.specs.declared.line.Line.TheViews.{roll-Line}
use Rattle.unit_tree.specs.declared.line.Line.TheOpen.{Line-F}
use Rattle.unit_tree.specs.declared.line.Line.TheVariants.{rolls-Assign, rolls-If, rolls-Repeat, rolls-Accept}
use Rattle.unit_tree.specs.declared.line_form.LineForm.{LineForm}
use Rattle.unit_tree.specs.declared.line_form.LineForm.TheVariants as form
use Rattle.unit_tree.specs.declared.system.System.{System}
use Rattle.unit_tree.specs.declared.unit.Output.{Output}
use Rattle.unit_tree.specs.declared.unit.Unit.{Unit}
use Rattle.unit_tree.specs.Texts.{HasFormIn}
use Rattle.unit_tree.proofs.FoldLemmas.{fold-Unary, fold-Binary, fold-Clamp, fold-Choose, fold-Absent, fold-Present, fold-Assign, fold-If, fold-Repeat}
use Rattle.unit_tree.proofs.FoldLemmas.{fold-Accept}
use Rattle.language_laws.proofs.NameLaws.{Hold}
use Rattle.language_laws.proofs.PlainLemmas.{plain-Number, plain-Truth, plain-Var, plain-Time, plain-Step, plain-Unary, plain-Binary, plain-Clamp, plain-Choose}
use Rattle.language_laws.proofs.Declarations.{Declares, AtLine}
use Rattle.language_laws.proofs.UnitSites.{Passes}
use Rattle.list_laws.proofs.Members.{Has, map_same}
use Rattle.list_laws.proofs.Lists.{each_part}

-- ---- Expressions

abbrev Stays : Expr → Type 0
Stays value = speaks_of_events value ≡ false → plain_expression value ≡ value

abbrev Proved : Type 0
Proved = (e : Expr) × Stays e

abbrev bare : Proved → Expr
bare p = p.0

node : (y : Expr-F Proved) → Stays (roll-Expr (map-Expr Proved Expr bare y))
node (Expr-F.Number number decimals) = subst Stays (sym (rolls-Number number decimals)) (λ silent. plain-Number number decimals)
node (Expr-F.Truth told) = subst Stays (sym (rolls-Truth told)) (λ silent. plain-Truth told)
node (Expr-F.Var name) = subst Stays (sym (rolls-Var name)) (λ silent. plain-Var name)
node Expr-F.Time = subst Stays (sym rolls-Time) (λ silent. plain-Time)
node Expr-F.Step = subst Stays (sym rolls-Step) (λ silent. plain-Step)
node (Expr-F.Unary op a) = subst Stays (sym (rolls-Unary op (bare a))) (λ silent.
    plain-Unary op (bare a) ∙ ap (expr.Unary op) (a.1 (sym (fold-Unary Bool node_speaks_of_events op (bare a)) ∙ silent)))
node (Expr-F.Binary op a b) = subst Stays (sym (rolls-Binary op (bare a) (bare b))) (λ silent.
    let parts = or_parts _ _ (sym (fold-Binary Bool node_speaks_of_events op (bare a) (bare b)) ∙ silent) in
    plain-Binary op (bare a) (bare b) ∙ ap (λ x. expr.Binary op x (plain_expression (bare b))) (a.1 parts.0) ∙ ap (expr.Binary op (bare a)) (b.1 parts.1))
node (Expr-F.Clamp a b c) = subst Stays (sym (rolls-Clamp (bare a) (bare b) (bare c))) (λ silent.
    let parts = or_parts _ _ (sym (fold-Clamp Bool node_speaks_of_events (bare a) (bare b) (bare c)) ∙ silent) in
    let rest = or_parts _ _ parts.1 in
    plain-Clamp (bare a) (bare b) (bare c) ∙ ap (λ x. expr.Clamp x (plain_expression (bare b)) (plain_expression (bare c))) (a.1 parts.0)
    ∙ ap (λ x. expr.Clamp (bare a) x (plain_expression (bare c))) (b.1 rest.0) ∙ ap (expr.Clamp (bare a) (bare b)) (c.1 rest.1))
node (Expr-F.Choose c a b) = subst Stays (sym (rolls-Choose (bare c) (bare a) (bare b))) (λ silent.
    let parts = or_parts _ _ (sym (fold-Choose Bool node_speaks_of_events (bare c) (bare a) (bare b)) ∙ silent) in
    let rest = or_parts _ _ parts.1 in
    plain-Choose (bare c) (bare a) (bare b) ∙ ap (λ x. expr.Choose x (plain_expression (bare a)) (plain_expression (bare b))) (c.1 parts.0)
    ∙ ap (λ x. expr.Choose (bare c) x (plain_expression (bare b))) (a.1 rest.0) ∙ ap (expr.Choose (bare c) (bare a)) (b.1 rest.1))
node Expr-F.Absent = subst Stays (sym rolls-Absent) (λ silent. absurd (true≢false (sym (fold-Absent Bool node_speaks_of_events) ∙ silent)))
node (Expr-F.Present name) =
    subst Stays (sym (rolls-Present name)) (λ silent. absurd (true≢false (sym (fold-Present Bool node_speaks_of_events name) ∙ silent)))

expression_stays : (value : Expr) → Stays value
expression_stays = ind-Expr Stays (λ x y is. subst (λ z. Stays (roll-Expr z)) is (node y))

-- ---- Step lines

abbrev Silent : LineForm → Type 0
Silent line = tail_speaks_of_events (tail_of line) ≡ false

abbrev LineStays : Line → Type 0
LineStays some = AllByRecursion Silent (line_forms some) → plain_line some ≡ some

abbrev ProvedLine : Type 0
ProvedLine = (some : Line) × LineStays some

abbrev bare_line : ProvedLine → Line
bare_line p = p.0

all_stay : (lines : List ProvedLine) → AllByRecursion Silent (joined (map line_forms (map bare_line lines)))
    → map plain_line (map bare_line lines) ≡ map bare_line lines
all_stay [] all = refl
all_stay (first ∷ others) all =
    let parts = each_part Silent (line_forms (bare_line first)) (joined (map line_forms (map bare_line others))) all in
    ap (λ x. x ∷ map plain_line (map bare_line others)) (first.1 parts.0) ∙ ap (λ xs. bare_line first ∷ xs) (all_stay others parts.1)

line_node : (y : Line-F ProvedLine) → LineStays (roll-Line (map-Line ProvedLine Line bare_line y))
line_node (Line-F.Assign target value) = subst LineStays (sym (rolls-Assign target value)) (λ all.
    let here = subst (AllByRecursion Silent) (fold-Assign (List LineForm) block_forms target value) all in
    fold-Assign Line node_plain_line target value ∙ ap (line.Assign target) (expression_stays value here.0))
line_node (Line-F.If cond then_lines None) = subst LineStays (sym (rolls-If cond (map bare_line then_lines) None)) (λ all.
    let here = subst (AllByRecursion Silent) (fold-If (List LineForm) block_forms cond (map bare_line then_lines) None) all in
    let inside = each_part Silent (joined (map line_forms (map bare_line then_lines)) ++ []) (form.End ∷ []) here.1 in
    let then_all = each_part Silent (joined (map line_forms (map bare_line then_lines))) [] inside.0 in
    fold-If Line node_plain_line cond (map bare_line then_lines) None
    ∙ ap (λ c. line.If c (map plain_line (map bare_line then_lines)) None) (expression_stays cond here.0)
    ∙ ap (λ xs. line.If cond xs None) (all_stay then_lines then_all.0))
line_node (Line-F.If cond then_lines (Some else_lines)) =
    subst LineStays (sym (rolls-If cond (map bare_line then_lines) (Some (map bare_line else_lines)))) (λ all.
    let here = subst (AllByRecursion Silent) (fold-If (List LineForm) block_forms cond (map bare_line then_lines) (Some (map bare_line else_lines))) all in
    let inside =
    each_part Silent (joined (map line_forms (map bare_line then_lines)) ++ (form.Else ∷ joined (map line_forms (map bare_line else_lines))))
    (form.End ∷ []) here.1 in
    let branches =
    each_part Silent (joined (map line_forms (map bare_line then_lines))) (form.Else ∷ joined (map line_forms (map bare_line else_lines))) inside.0 in
    fold-If Line node_plain_line cond (map bare_line then_lines) (Some (map bare_line else_lines))
    ∙ ap (λ c. line.If c (map plain_line (map bare_line then_lines)) (Some (map plain_line (map bare_line else_lines)))) (expression_stays cond here.0)
    ∙ ap (λ xs. line.If cond xs (Some (map plain_line (map bare_line else_lines)))) (all_stay then_lines branches.0)
    ∙ ap (λ xs. line.If cond (map bare_line then_lines) (Some xs)) (all_stay else_lines branches.1.1))
line_node (Line-F.Repeat count body) = subst LineStays (sym (rolls-Repeat count (map bare_line body))) (λ all.
    let here = subst (AllByRecursion Silent) (fold-Repeat (List LineForm) block_forms count (map bare_line body)) all in
    let inside = each_part Silent (joined (map line_forms (map bare_line body))) (form.End ∷ []) here.1 in
    fold-Repeat Line node_plain_line count (map bare_line body) ∙ ap (line.Repeat count) (all_stay body inside.0))
line_node (Line-F.Accept value) = subst LineStays (sym (rolls-Accept value)) (λ all.
    let here = subst (AllByRecursion Silent) (fold-Accept (List LineForm) block_forms value) all in
    fold-Accept Line node_plain_line value ∙ ap line.Accept (expression_stays value here.0))

line_stays : (some : Line) → LineStays some
line_stays = ind-Line LineStays (λ x y is. subst (λ z. LineStays (roll-Line z)) is (line_node y))

lines_stay : (lines : List Line) → AllByRecursion Silent (flat_map line_forms lines) → map plain_line lines ≡ lines
lines_stay [] all = refl
lines_stay (first ∷ others) all =
    let parts = each_part Silent (line_forms first) (flat_map line_forms others) all in
    ap (λ x. x ∷ map plain_line others) (line_stays first parts.0) ∙ ap (λ xs. first ∷ xs) (lines_stay others parts.1)

-- ---- Units

needs_stay : (unit : Unit) → unit.events_in ≡ [] → (needs : List (List ℕ)) → plain_needs unit needs ≡ needs
needs_stay unit none [] = refl
needs_stay unit none (need ∷ needs) =
    let here : plain_need unit need ≡ need ∷ [] = ap (λ events. cond (is_among (map (λ e. e.name) events) need) (plain_of need) (need ∷ [])) none in
    ap (λ xs. xs ++ plain_needs unit needs) here ∙ ap (λ xs. need ∷ xs) (needs_stay unit none needs)
  where
    plain_of : List ℕ → List (List ℕ)
    plain_of name = (name ++ (63 ∷ [])) ∷ name ∷ []

module _ (system : System) (first : system.version ≡ 1) (unit : Unit) (declared : Declares (Passes system) unit) where
  silent : (site : Site) → Passes system site → Silent site.line
  silent site passes =
      let kinds = or_parts _ _ passes.kinded in
      let events = or_parts _ _ kinds.1 in
      sym (ap (λ (v : ℕ). (v == 1) && tail_speaks_of_events (tail_of site.line)) first) ∙ events.0

  output_stays : unit.events_in ≡ [] → (output : Output) → AtLine (Passes system) unit (form.Output output) → plain_output unit output ≡ output
  output_stays none output at =
      ap (λ needs. record output { needs = needs; value = plain_expression output.value }) (needs_stay unit none output.needs)
      ∙ ap (λ value. record output { value = value }) (expression_stays output.value (silent _ at.1))

  outputs_stay : unit.events_in ≡ [] → ((output : Output) → Has unit.outputs output → AtLine (Passes system) unit (form.Output output))
      → map (plain_output unit) unit.outputs ≡ unit.outputs
  outputs_stay none at = map_same (plain_output unit) unit.outputs (λ output has. output_stays none output (at output has))

  forms_silent : (earlier forms : List LineForm) → AllByRecursion (Passes system) (sites (StepScope unit) earlier (map alone forms))
      → AllByRecursion Silent forms
  forms_silent earlier [] all = tt
  forms_silent earlier (line ∷ forms) all = (silent _ all.0, forms_silent (earlier ++ (line ∷ [])) forms all.1)

  abbrev Tail : List LineForm → List Headed → Type 0
  Tail earlier headed = Hold (Passes system) (UnitScope unit) earlier headed

  max_stays : (earlier : List LineForm) (given : Option Expr) (rest : List Headed)
      → Tail earlier (flat_map (headed_unit_part unit) (optional parts.Max given) ++ rest)
      → (option_map plain_expression given ≡ given) × ((before : List LineForm) × Tail before rest)
  max_stays earlier None rest hold = (refl, (earlier, hold))
  max_stays earlier (Some value) rest hold = (ap Some (expression_stays value (silent _ hold.0)), (earlier ++ (form.Max value ∷ []), hold.2))

  step_stays : (earlier : List LineForm) (given : Option (List Line)) → Tail earlier (flat_map (headed_unit_part unit) (optional parts.Step given))
      → option_map (map plain_line) given ≡ given
  step_stays earlier None hold = refl
  step_stays earlier (Some lines) hold = ap Some (lines_stay lines (forms_silent [] (flat_map line_forms lines) hold.1))

  pub unit_stays : unit.events_in ≡ [] → unit.events_out ≡ []
      → ((output : Output) → Has unit.outputs output → AtLine (Passes system) unit (form.Output output)) → plain_unit unit ≡ unit
  unit_stays none_in none_out at =
      let headed : UnitPart → List Headed = headed_unit_part unit in
      let tail =
      max_stays declared.before_tail unit.max (flat_map headed (optional parts.Step unit.step))
      (subst (Tail declared.before_tail) (flat_map-append headed (optional parts.Max unit.max) (optional parts.Step unit.step)) declared.tail) in
      let step = step_stays tail.1.0 unit.step tail.1.1 in
      let inputs : unit.inputs ++ flat_map plain_inputs unit.events_in ≡ unit.inputs = ap (λ events. unit.inputs ++ flat_map plain_inputs events) none_in
      ∙ append-nil unit.inputs in
      let outputs : map (plain_output unit) unit.outputs ++ flat_map (plain_outputs unit) unit.events_out ≡ unit.outputs =
      ap (λ events. map (plain_output unit) unit.outputs ++ flat_map (plain_outputs unit) events) none_out ∙ append-nil (map (plain_output unit) unit.outputs)
      ∙ outputs_stay none_in at in
      ap (λ x. record (plain_unit unit) { inputs = x }) inputs
      ∙ ap (λ x. record (plain_unit unit) { inputs = unit.inputs; outputs = x }) outputs
      ∙ ap (λ x. record (plain_unit unit) { inputs = unit.inputs; outputs = unit.outputs; max = x }) tail.0
      ∙ ap (λ x. record (plain_unit unit) { inputs = unit.inputs; outputs = unit.outputs; max = unit.max; step = x }) step
      ∙ ap (λ x. record unit { events_in = x; events_out = [] }) (sym none_in)
      ∙ ap (λ x. record unit { events_out = x }) (sym none_out)

-- ---- Lines

-- A form that both versions have is one of any text.
pub old_form : (text : List (List ℕ)) (line : List ℕ) (some : LineForm) → HasForm some line → is_of_version_2 some ≡ false → HasFormIn text some line
old_form text line some has old = record { has_form = has; of_version = λ told. absurd (true≢false (sym told ∙ old)) }
