-- The plain form of step lines does what the lines do.
use Rattle.std.proofs.Common.{◌≡◌, ℕ, zero, suc, Bool, true, false, ℤ, pos, List, [], ◌∷◌, ◌++◌, map, if◌then◌else◌, Option, Some, None, Result, Ok, Err, refl}
use Rattle.std.proofs.Common.{sym, ap, ◌∙◌, subst}
use Rattle.std.specs.Prelude.{cond, ⊤, unsigned_abs}
use Rattle.std.specs.List.{AllByRecursion}
use Rattle.fixed_words.specs.Types.{is_between}
use Rattle.fixed_words.specs.declared.types.Fault.{Fault}
use Rattle.fixed_words.specs.declared.types.Fault.TheVariants.{Accept}
use Rattle.unit_tree.specs.Effects.{Effect, assigned, accepting, in_sequence, times, otherwise, line_effect, effect_of}
use Rattle.unit_tree.specs.Names.{is_among, are_among, names_in, events_asked_in}
use Rattle.unit_tree.specs.Parts.{joined, block_forms, line_forms}
use Rattle.unit_tree.specs.Plain.{presence_name, plain_expression, node_plain_line, plain_line}
use Rattle.unit_tree.specs.Printable.{names_on}
use Rattle.unit_tree.specs.Tokens.{IsWord}
use Rattle.unit_tree.specs.Values.{◌>>=◌, truth, holds, value_of}
use Rattle.unit_tree.specs.declared.environment.Environment.{Environment}
use Rattle.unit_tree.specs.declared.environment.Value.{Value}
use Rattle.unit_tree.specs.declared.expr.Expr.{Expr}
use Rattle.unit_tree.specs.declared.line.Line as line
use Rattle.unit_tree.specs.declared.line.Line.{Line}
use Rattle.unit_tree.specs.declared.line.Line.TheFolds.{ind-Line, map-Line}
use Rattle.unit_tree.specs.declared.line.Line.TheOpen.{Line-F}
use Rattle.unit_tree.specs.declared.line.Line.TheVariants.{rolls-Assign, rolls-If, rolls-Repeat, rolls-Accept}
use Rattle.unit_tree.specs.declared.line.Line.TheViews.{roll-Line}
use Rattle.unit_tree.specs.declared.line_form.LineForm.{LineForm}
use Rattle.unit_tree.specs.declared.line_form.LineForm.TheVariants as form
use Rattle.unit_tree.proofs.FoldLemmas.{fold-Assign, fold-If, fold-Repeat, fold-Accept}
use Rattle.language_laws.proofs.MeaningLemmas.{effect-Assign, effect-Accept, effect-Repeat, effect-If, effect-IfElse}
use Rattle.language_laws.proofs.PlainNames.{word_is_plain}
use Rattle.list_laws.proofs.Lists.{each_part}
use Rattle.event_runs.specs.Events.{Occurring, value_in, line_effect_in, effect_in}
use Rattle.event_runs.specs.Laws.{Speaks, Shows, FormSpeaks, LineSpeaks}
use Rattle.event_runs.proofs.SlotLaws.{Slot, source_variables, source_words, plain_variables, words_beside, plain_value, value_same, Slots, put, in_source}
use Rattle.event_runs.proofs.SlotLaws.{in_plain, stored_source, stored_plain, Fronts, OkStays, put_stays}
use Rattle.event_runs.proofs.ValueLaws.{Given, same}

-- ---- Two environments at once

pub record Both : Type 0 where
  pub slots : List Slot
  pub time : ℕ
  pub step : ℕ
  pub accepted : ℕ

abbrev pub source_env : Both → Environment
source_env both = record {
  variables = source_variables both.slots;
  words = source_words both.slots;
  time = both.time;
  step = both.step;
  accepted =
      both.accepted;
}

abbrev pub plain_env : Both → Environment
plain_env both = record {
  variables = plain_variables both.slots;
  words = words_beside both.slots;
  time = both.time;
  step = both.step;
  accepted =
      both.accepted;
}

-- The names and events that a block uses, line by line.
pub of_joined : (P : LineForm → Type 0) (lines : List Line) → AllByRecursion P (joined (map line_forms lines))
    → AllByRecursion (λ some. AllByRecursion P (line_forms some)) lines
of_joined P [] all = tt
of_joined P (some ∷ lines) all =
    let both = each_part P (line_forms some) (joined (map line_forms lines)) all in
    (both.0, of_joined P lines both.1)

module _ (occurring : Occurring) (events : List (List ℕ)) (count : ℕ) where
  -- The plain variables `u?` state which events occur, and the first slots, of this number, are in
  -- both environments.
  pub record IsBoth (both : Both) : Type 0 where
    pub tells : (name : List ℕ) → is_among events name ≡ true → plain_value both.slots (presence_name name) ≡ truth (occurring name)
    pub fronts : Fronts count both.slots

  pub shows : (both : Both) → IsBoth both → Shows occurring events (source_env both) (plain_env both)
  shows both is = record {
    names = λ name word. value_same both.slots name (word_is_plain name word);
    tells = is.tells;
    time = refl;
    step = refl;
  }

  -- Both environments after an effect.
  pub record After (plain source : Environment) : Type 0 where
    pub both : Both
    pub is : IsBoth both
    pub plain_is : plain ≡ plain_env both
    pub source_is : source ≡ source_env both

  abbrev pub Alike : Result Environment Fault → Result Environment Fault → Type 0
  Alike (Ok plain) (Ok source) = After plain source
  Alike (Err fault) (Err other) = fault ≡ other
  Alike _ _ = ⊥

  abbrev pub EffectsAlike : Effect → Effect → Type 0
  EffectsAlike plain source = (both : Both) → IsBoth both → Alike (plain (plain_env both)) (source (source_env both))

  pub alike_here : (both : Both) → IsBoth both → Alike (Ok (plain_env both)) (Ok (source_env both))
  alike_here both is = record { both = both; is = is; plain_is = refl; source_is = refl }

  pub alike_next : (one one' : Result Environment Fault) (next next' : Effect) → Alike one one' → EffectsAlike next next'
      → Alike (one >>= next) (one' >>= next')
  alike_next (Ok plain) (Ok source) next next' alike then_alike =
      subst (λ env. Alike (next env) (next' source)) (sym alike.plain_is)
      (subst (λ env. Alike (next (plain_env alike.both)) (next' env)) (sym alike.source_is) (then_alike alike.both alike.is))
  alike_next (Ok plain) (Err fault) next next' alike then_alike = absurd alike
  alike_next (Err fault) (Ok source) next next' alike then_alike = absurd alike
  alike_next (Err fault) (Err other) next next' alike then_alike = alike

  abbrev pub AllAlike : List Effect → List Effect → Type 0
  AllAlike [] [] = ⊤
  AllAlike (plain ∷ plains) (source ∷ sources) = EffectsAlike plain source × AllAlike plains sources
  AllAlike _ _ = ⊥

  pub sequence_alike : (plains sources : List Effect) → AllAlike plains sources → EffectsAlike (in_sequence plains) (in_sequence sources)
  sequence_alike [] [] all both is = alike_here both is
  sequence_alike [] (source ∷ sources) all both is = absurd all
  sequence_alike (plain ∷ plains) [] all both is = absurd all
  sequence_alike (plain ∷ plains) (source ∷ sources) all both is =
      alike_next (plain (plain_env both)) (source (source_env both)) (in_sequence plains) (in_sequence sources) (all.0 both is)
      (sequence_alike plains sources all.1)

  pub times_alike : (turns : ℕ) (plain source : Effect) → EffectsAlike plain source → EffectsAlike (times turns plain) (times turns source)
  times_alike zero plain source alike both is = alike_here both is
  times_alike (suc turns) plain source alike both is =
      alike_next (plain (plain_env both)) (source (source_env both)) (times turns plain) (times turns source) (alike both is)
      (times_alike turns plain source alike)

  abbrev pub OtherwiseAlike : Option (List Effect) → Option (List Effect) → Type 0
  OtherwiseAlike None None = ⊤
  OtherwiseAlike (Some plains) (Some sources) = AllAlike plains sources
  OtherwiseAlike _ _ = ⊥

  pub otherwise_alike : (plains sources : Option (List Effect)) → OtherwiseAlike plains sources → EffectsAlike (otherwise plains) (otherwise sources)
  otherwise_alike None None all both is = alike_here both is
  otherwise_alike None (Some sources) all both is = absurd all
  otherwise_alike (Some plains) None all both is = absurd all
  otherwise_alike (Some plains) (Some sources) all both is = sequence_alike plains sources all both is

  -- ---- Single lines

  pub stored_alike : (both : Both) (changed : Slots) → IsBoth both → OkStays both.slots changed
      → Alike (in_plain changed >>= λ words. Ok (record (plain_env both) { words = words }))
      (in_source changed >>= λ words. Ok (record (source_env both) { words = words }))
  stored_alike both (Ok after) is stays = record {
    both = record both { slots = after };
    is = record { tells = λ name among. stays.tells name ∙ is.tells name among; fronts = stays.fronts count is.fronts };
    plain_is = ap (λ variables. record (plain_env both) { variables = variables; words = words_beside after }) (sym stays.plain);
    source_is = ap (λ variables. record (source_env both) { variables = variables; words = source_words after }) (sym stays.source);
  }
  stored_alike both (Err fault) is stays = refl

  pub assigned_alike : (target : List ℕ) (word : ℤ) → IsWord target → EffectsAlike (assigned target word) (assigned target word)
  assigned_alike target word named both is =
      let plain = word_is_plain target named in
      subst (λ words. Alike (words >>= λ changed. Ok (record (plain_env both) { words = changed })) (assigned target word (source_env both)))
      (sym (stored_plain both.slots target word plain))
      (subst (λ words. Alike (in_plain (put both.slots target word) >>= λ changed. Ok (record (plain_env both) { words = changed }))
      (words >>= λ changed. Ok (record (source_env both) { words = changed }))) (sym (stored_source both.slots target word))
      (stored_alike both (put both.slots target word) is (put_stays both.slots target word plain)))

  pub accepting_by : (allowed : Bool) (length : ℤ) (both : Both) → IsBoth both
      → Alike (cond allowed (Ok (record (plain_env both) { accepted = unsigned_abs length })) (Err Accept))
      (cond allowed (Ok (record (source_env both) { accepted = unsigned_abs length })) (Err Accept))
  accepting_by true length both is =
      record { both = record both { accepted = unsigned_abs length }; is = record { tells = is.tells; fronts = is.fronts }; plain_is = refl; source_is = refl }
  accepting_by false length both is = refl

  pub accepting_alike : (length : ℤ) → EffectsAlike (accepting length) (accepting length)
  accepting_alike length both is = accepting_by (is_between (pos 0) (pos both.step) length) length both is

  -- The step after the value of an expression.
  pub value_next : (value : Expr) (next next' : Value → Effect) → Speaks events value → ((given : Value) → EffectsAlike (next given) (next' given))
      → EffectsAlike (λ env. value_of (plain_expression value) env >>= λ given. next given env)
      (λ env. value_in occurring value env >>= λ given. next' given env)
  value_next value next next' said alike both is =
      subst (λ given. Alike (given >>= λ v. next v (plain_env both)) (value_in occurring value (source_env both) >>= λ v. next' v (source_env both)))
      (sym (same occurring events (source_env both) (plain_env both) (shows both is) value said))
      (by_value (value_in occurring value (source_env both)))
    where
      by_value : (given : Given) → Alike (given >>= λ v. next v (plain_env both)) (given >>= λ v. next' v (source_env both))
      by_value (Ok v) = alike v both is
      by_value (Err fault) = refl

  -- Effects agree if others do that give the same in each environment.
  pub alike_of : (plain plain' source source' : Effect) → ((env : Environment) → plain env ≡ plain' env) → ((env : Environment) → source env ≡ source' env)
      → EffectsAlike plain' source' → EffectsAlike plain source
  alike_of plain plain' source source' on_plain on_source alike both is =
      subst (λ result. Alike result (source (source_env both))) (sym (on_plain (plain_env both)))
      (subst (λ result. Alike (plain' (plain_env both)) result) (sym (on_source (source_env both))) (alike both is))

  -- ---- Lines

  abbrev pub Claim : Line → Type 0
  Claim some = LineSpeaks events some → EffectsAlike (effect_of (plain_line some)) (effect_in occurring some)

  abbrev pub Proved : Type 0
  Proved = (some : Line) × Claim some

  abbrev pub bare : Proved → Line
  bare one = one.0

  abbrev pub plain_effects : List Line → List Effect
  plain_effects lines = map effect_of (map plain_line lines)

  abbrev pub source_effects : List Line → List Effect
  source_effects lines = map (effect_in occurring) lines

  pub all_alike : (lines : List Proved) → AllByRecursion (LineSpeaks events) (map bare lines)
      → AllAlike (plain_effects (map bare lines)) (source_effects (map bare lines))
  all_alike [] said = tt
  all_alike (one ∷ lines) said = (one.1 said.0, all_alike lines said.1)

  -- What is known from the form of a line alone.
  pub says : (some : LineForm) (value : Expr) (front : List (List ℕ)) → names_on some ≡ front ++ names_in value → AllByRecursion IsWord (names_on some)
      → are_among events (events_asked_in value) ≡ true → AllByRecursion IsWord front × Speaks events value
  says some value front is words asked =
      let both = each_part IsWord front (names_in value) (subst (AllByRecursion IsWord) is words) in
      (both.0, record { names = both.1; asked = asked })

  pub claim-Assign : (target : List ℕ) (value : Expr) → Claim (line.Assign target value)
  claim-Assign target value said =
      let forms : LineSpeaks events (line.Assign target value) = said in
      let first : FormSpeaks events (form.Assign target value) =
      (subst (AllByRecursion (FormSpeaks events)) (fold-Assign (List LineForm) block_forms target value) forms).0 in
      let says_both = says (form.Assign target value) value (target ∷ []) refl first.names first.asked in
      alike_of (effect_of (plain_line (line.Assign target value))) (line_effect (Line-F.Assign target (plain_expression value)))
      (effect_in occurring (line.Assign target value)) (line_effect_in occurring (Line-F.Assign target value))
      (λ env. ap (λ some. effect_of some env) (fold-Assign Line node_plain_line target value) ∙ effect-Assign target (plain_expression value) env)
      (λ env. ap (λ (effect : Effect). effect env) (fold-Assign Effect (line_effect_in occurring) target value))
      (value_next value (λ v. assigned target v.word) (λ v. assigned target v.word) says_both.1 (λ v. assigned_alike target v.word says_both.0.0))

  pub claim-Accept : (value : Expr) → Claim (line.Accept value)
  claim-Accept value said =
      let first : FormSpeaks events (form.Accept value) = (subst (AllByRecursion (FormSpeaks events)) (fold-Accept (List LineForm) block_forms value) said).0 in
      let says_both = says (form.Accept value) value [] refl first.names first.asked in
      alike_of (effect_of (plain_line (line.Accept value))) (line_effect (Line-F.Accept (plain_expression value))) (effect_in occurring (line.Accept value))
      (line_effect_in occurring (Line-F.Accept value))
      (λ env. ap (λ some. effect_of some env) (fold-Accept Line node_plain_line value) ∙ effect-Accept (plain_expression value) env)
      (λ env. ap (λ (effect : Effect). effect env) (fold-Accept Effect (line_effect_in occurring) value))
      (value_next value (λ v. accepting v.word) (λ v. accepting v.word) says_both.1 (λ v. accepting_alike v.word))

  pub claim-Repeat : (turns : ℕ) (body : List Proved) → Claim (line.Repeat turns (map bare body))
  claim-Repeat turns body said =
      let lines = map bare body in
      let inside : AllByRecursion (FormSpeaks events) (joined (map line_forms lines) ++ (form.End ∷ [])) =
      (subst (AllByRecursion (FormSpeaks events)) (fold-Repeat (List LineForm) block_forms turns lines) said).1 in
      let speaks = of_joined (FormSpeaks events) lines (each_part (FormSpeaks events) (joined (map line_forms lines)) (form.End ∷ []) inside).0 in
      alike_of (effect_of (plain_line (line.Repeat turns lines))) (line_effect (Line-F.Repeat turns (plain_effects lines)))
      (effect_in occurring (line.Repeat turns lines)) (line_effect_in occurring (Line-F.Repeat turns (source_effects lines)))
      (λ env. ap (λ some. effect_of some env) (fold-Repeat Line node_plain_line turns lines) ∙ effect-Repeat turns (map plain_line lines) env)
      (λ env. ap (λ (effect : Effect). effect env) (fold-Repeat Effect (line_effect_in occurring) turns lines))
      (times_alike turns (in_sequence (plain_effects lines)) (in_sequence (source_effects lines))
      (sequence_alike (plain_effects lines) (source_effects lines) (all_alike body speaks)))

  pub branch_alike : (told : Bool) (plains sources : List Effect) (plains' sources' : Option (List Effect)) → AllAlike plains sources
      → OtherwiseAlike plains' sources'
      → EffectsAlike (λ env. if told then in_sequence plains env else otherwise plains' env)
      (λ env. if told then in_sequence sources env else otherwise sources' env)
  branch_alike true plains sources plains' sources' on_then on_else = sequence_alike plains sources on_then
  branch_alike false plains sources plains' sources' on_then on_else = otherwise_alike plains' sources' on_else

  pub claim-If : (condition : Expr) (then_lines : List Proved) → Claim (line.If condition (map bare then_lines) None)
  claim-If condition then_lines said =
      let lines = map bare then_lines in
      let all : AllByRecursion (FormSpeaks events) (form.If condition ∷ joined (map line_forms lines) ++ [] ++ (form.End ∷ [])) =
      subst (AllByRecursion (FormSpeaks events)) (fold-If (List LineForm) block_forms condition lines None) said in
      let says_both = says (form.If condition) condition [] refl all.0.names all.0.asked in
      let inside = each_part (FormSpeaks events) (joined (map line_forms lines) ++ []) (form.End ∷ []) all.1 in
      let speaks = of_joined (FormSpeaks events) lines (each_part (FormSpeaks events) (joined (map line_forms lines)) [] inside.0).0 in
      alike_of (effect_of (plain_line (line.If condition lines None))) (line_effect (Line-F.If (plain_expression condition) (plain_effects lines) None))
      (effect_in occurring (line.If condition lines None)) (line_effect_in occurring (Line-F.If condition (source_effects lines) None))
      (λ env. ap (λ some. effect_of some env) (fold-If Line node_plain_line condition lines None)
      ∙ effect-If (plain_expression condition) (map plain_line lines) env)
      (λ env. ap (λ (effect : Effect). effect env) (fold-If Effect (line_effect_in occurring) condition lines None))
      (value_next condition (λ c env. if holds c then in_sequence (plain_effects lines) env else otherwise None env)
      (λ c env. if holds c then in_sequence (source_effects lines) env else otherwise None env) says_both.1
      (λ c. branch_alike (holds c) (plain_effects lines) (source_effects lines) None None (all_alike then_lines speaks) tt))

  pub claim-IfElse : (condition : Expr) (then_lines else_lines : List Proved) → Claim (line.If condition (map bare then_lines) (Some (map bare else_lines)))
  claim-IfElse condition then_lines else_lines said =
      let lines = map bare then_lines in
      let others = map bare else_lines in
      let all : AllByRecursion (FormSpeaks events)
      (form.If condition ∷ joined (map line_forms lines) ++ (form.Else ∷ joined (map line_forms others)) ++ (form.End ∷ [])) =
      subst (AllByRecursion (FormSpeaks events)) (fold-If (List LineForm) block_forms condition lines (Some others)) said in
      let says_both = says (form.If condition) condition [] refl all.0.names all.0.asked in
      let inside = each_part (FormSpeaks events) (joined (map line_forms lines) ++ (form.Else ∷ joined (map line_forms others))) (form.End ∷ []) all.1 in
      let blocks = each_part (FormSpeaks events) (joined (map line_forms lines)) (form.Else ∷ joined (map line_forms others)) inside.0 in
      let on_then = all_alike then_lines (of_joined (FormSpeaks events) lines blocks.0) in
      let on_else = all_alike else_lines (of_joined (FormSpeaks events) others blocks.1.1) in
      alike_of (effect_of (plain_line (line.If condition lines (Some others))))
      (line_effect (Line-F.If (plain_expression condition) (plain_effects lines) (Some (plain_effects others))))
      (effect_in occurring (line.If condition lines (Some others)))
      (line_effect_in occurring (Line-F.If condition (source_effects lines) (Some (source_effects others))))
      (λ env. ap (λ some. effect_of some env) (fold-If Line node_plain_line condition lines (Some others))
      ∙ effect-IfElse (plain_expression condition) (map plain_line lines) (map plain_line others) env)
      (λ env. ap (λ (effect : Effect). effect env) (fold-If Effect (line_effect_in occurring) condition lines (Some others)))
      (value_next condition (λ c env. if holds c then in_sequence (plain_effects lines) env else otherwise (Some (plain_effects others)) env)
      (λ c env. if holds c then in_sequence (source_effects lines) env else otherwise (Some (source_effects others)) env) says_both.1
      (λ c. branch_alike (holds c) (plain_effects lines) (source_effects lines) (Some (plain_effects others)) (Some (source_effects others)) on_then on_else))

  pub node : (y : Line-F Proved) → Claim (roll-Line (map-Line Proved Line bare y))
  node (Line-F.Assign target value) = subst Claim (sym (rolls-Assign target value)) (claim-Assign target value)
  node (Line-F.If condition then_lines None) = subst Claim (sym (rolls-If condition (map bare then_lines) None)) (claim-If condition then_lines)
  node (Line-F.If condition then_lines (Some else_lines)) =
      subst Claim (sym (rolls-If condition (map bare then_lines) (Some (map bare else_lines)))) (claim-IfElse condition then_lines else_lines)
  node (Line-F.Repeat turns body) = subst Claim (sym (rolls-Repeat turns (map bare body))) (claim-Repeat turns body)
  node (Line-F.Accept value) = subst Claim (sym (rolls-Accept value)) (claim-Accept value)

  pub line_alike : (some : Line) → Claim some
  line_alike = ind-Line Claim (λ x y is. subst (λ z. Claim (roll-Line z)) is (node y))

  pub lines_all_alike : (lines : List Line) → AllByRecursion (LineSpeaks events) lines → AllAlike (plain_effects lines) (source_effects lines)
  lines_all_alike [] said = tt
  lines_all_alike (some ∷ lines) said = (line_alike some said.0, lines_all_alike lines said.1)

  pub lines_alike : (lines : List Line) → AllByRecursion (LineSpeaks events) lines
      → EffectsAlike (in_sequence (plain_effects lines)) (in_sequence (source_effects lines))
  lines_alike lines said = sequence_alike (plain_effects lines) (source_effects lines) (lines_all_alike lines said)
