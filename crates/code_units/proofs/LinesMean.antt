-- The pieces of step lines do what the lines mean: they leave the words and the accepted length, or meet the fault.
use Rattle.std.proofs.Common.{◌≡◌, ℕ, zero, suc, ◌+◌, ◌-◌, Bool, true, false, ◌&&◌, nat_le, ℤ, pos, List, [], ◌∷◌, ◌++◌, map, length, append_assoc, Some, None}
use Rattle.std.proofs.Common.{get_or, Result, Ok, Err, refl, sym, ap, ◌∙◌, subst, arith}
use Rattle.std.specs.Prelude.{if◌then◌else◌, not, unsigned_abs}
use Rattle.std.proofs.Math.Seq.{get_or-append_seam}
use Rattle.std.proofs.lemmas.Bool.{and_parts}
use Rattle.std.proofs.lemmas.List.{length-append}
use Rattle.fixed_words.specs.Operations.{is_zero}
use Rattle.fixed_words.specs.Types.{is_between}
use Rattle.fixed_words.specs.declared.types.Fault.{Fault}
use Rattle.fixed_words.specs.declared.types.Fault.TheVariants as fault
use Rattle.code_units.specs.Expressions.{code_of}
use Rattle.code_units.proofs.Frames.{CallWords, environment_at, work_at}
use Rattle.code_units.specs.Scopes.{scope_of, named}
use Rattle.code_units.specs.StepLines.{LineCoded, LineCoding, is_right_in, nothing, behind, target_coded, value_coded, if_coded, repeat_coded, all_coded}
use Rattle.code_units.specs.StepLines.{node_line_code, line_code, lines_code}
use Rattle.code_units.specs.declared.scope.CodeScope.{CodeScope}
use Rattle.code_units.proofs.ExpressionsMean.{means, Gives}
use Rattle.code_units.proofs.NamesInSlots.{Fits, sees, ChangesBehind, stores}
use Rattle.code_pieces.specs.Pieces.{Piece, One, and_then, repeated, does}
use Rattle.unit_tree.specs.Components.{Component, variables_of}
use Rattle.unit_tree.specs.Effects.{Effect, stored, assigned, accepting, in_sequence, times, line_effect, effect_of, effect_of_lines}
use Rattle.unit_tree.specs.Values.{◌>>=◌, holds, value_of}
use Rattle.unit_tree.specs.declared.environment.Environment.{Environment}
use Rattle.unit_tree.specs.declared.environment.Value.{Value}
use Rattle.unit_tree.specs.declared.expr.Expr.{Expr}
use Rattle.unit_tree.specs.declared.line.Line as line
use Rattle.unit_tree.specs.declared.line.Line.{Line}
use Rattle.unit_tree.specs.declared.line.Line.TheFolds.{ind-Line, map-Line}
use Rattle.unit_tree.specs.declared.line.Line.TheViews.{roll-Line}
use Rattle.unit_tree.specs.declared.line.Line.TheOpen.{Line-F}
use Rattle.unit_tree.specs.declared.line.Line.TheVariants.{rolls-Assign, rolls-If, rolls-Repeat, rolls-Accept}
use Rattle.unit_tree.proofs.FoldLemmas.{fold-Assign, fold-If, fold-Repeat, fold-Accept}
use Rattle.unit_vm.specs.Machine.{Did, Does, Fails, length_in_slots}
use Rattle.unit_vm.specs.declared.instruction.Instruction.TheVariants.{Accept}

-- The step's length is last.
pub step_is : (words : List ℤ) (one other : ℤ) → length_in_slots (words ++ (one ∷ other ∷ [])) ≡ other
step_is words one other =
    let size : length (words ++ (one ∷ other ∷ [])) ≡ length words + 2 = length-append words (one ∷ other ∷ []) in
    let front : length (words ++ (one ∷ [])) ≡ length words + 1 = length-append words (one ∷ []) in
    let last : length (words ++ (one ∷ other ∷ [])) - 1 ≡ length (words ++ (one ∷ [])) = omega arith in
    ap (λ n. get_or (words ++ (one ∷ other ∷ [])) n (pos 0)) last
    ∙ ap (λ xs. get_or xs (length (words ++ (one ∷ []))) (pos 0)) (sym (append_assoc words (one ∷ []) (other ∷ [])))
    ∙ get_or-append_seam (words ++ (one ∷ [])) other [] (pos 0)

module _ (component : Component) (time step : ℕ) where
  abbrev scope : CodeScope
  scope = scope_of component.unit component.params

  -- Work that led from some words to others.
  pub record Reaches (stack : List ℤ) (did : Did) (after : Environment) : Type 0 where
    pub held : CallWords
    pub fits : Fits component held
    pub by_names : after ≡ environment_at component time step held
    pub in_slots : did ≡ Does (work_at time step stack held)

  -- The work is the effect: it leaves its environment, or is its fault.
  abbrev pub Leaves : List ℤ → Did → Result Environment Fault → Type 0
  Leaves stack did (Ok after) = Reaches stack did after
  Leaves stack did (Err failed) = did ≡ Fails failed

  -- Code does what lines mean, for all words and on every stack.
  abbrev pub Follows : LineCoded → Effect → Type 0
  Follows coded effect =
      coded.is_right ≡ true → (held : CallWords) → Fits component held → (stack : List ℤ)
      → Leaves stack (does coded.piece (work_at time step stack held)) (effect (environment_at component time step held))

  -- ---- One after the other

  then_leaves : (next : Piece) (effect : Effect) (stack : List ℤ) (did : Did) (result : Result Environment Fault) → Leaves stack did result
      → ((held : CallWords) → Fits component held → Leaves stack (does next (work_at time step stack held)) (effect (environment_at component time step held)))
      → Leaves stack (and_then did (does next)) (result >>= effect)
  then_leaves next effect stack did (Ok after) one other =
      subst (λ d. Leaves stack (and_then d (does next)) (effect after)) (sym one.in_slots)
      (subst (λ env. Leaves stack (does next (work_at time step stack one.held)) (effect env)) (sym one.by_names) (other one.held one.fits))
  then_leaves next effect stack did (Err failed) one other = ap (λ d. and_then d (does next)) one

  nothing_follows : Follows nothing (λ env. Ok env)
  nothing_follows right held fits stack = record { held = held; fits = fits; by_names = refl; in_slots = refl }

  behind_follows : (a b : LineCoded) (one other : Effect) → Follows a one → Follows b other → Follows (behind a b) (λ env. one env >>= other)
  behind_follows a b one other f g right held fits stack =
      let parts = and_parts a.is_right b.is_right right in
      then_leaves b.piece other stack (does a.piece (work_at time step stack held)) (one (environment_at component time step held))
      (f parts.0 held fits stack) (λ after fit. g parts.1 after fit stack)

  -- ---- Values

  -- What follows from a value on the stack.
  value_leads : (value : Expr) (next : LineCoded) (effect : Value → Effect)
      → ((v : Value) (held : CallWords) → Fits component held → (stack : List ℤ) → next.is_right ≡ true
      → Leaves stack (does next.piece (work_at time step (v.word ∷ stack) held)) (effect v (environment_at component time step held)))
      → Follows (behind (value_coded value scope) next) (λ env. value_of value env >>= λ v. effect v env)
  value_leads value next effect leads right held fits stack =
      let parts = and_parts (is_right_in scope value) next.is_right right in
      let agrees : (code_of value scope).agrees ≡ true = (and_parts (code_of value scope).agrees _ parts.0).0 in
      led (value_of value (environment_at component time step held))
      (means (held.words ++ (pos time ∷ pos step ∷ [])) held.accepted scope (environment_at component time step held)
      (sees component time step held fits) value agrees stack)
      parts.1
    where
      led : (result : Result Value Fault)
          → Gives (held.words ++ (pos time ∷ pos step ∷ [])) held.accepted (code_of value scope).kind stack
          (does (code_of value scope).piece (work_at time step stack held)) result
          → next.is_right ≡ true
          → Leaves stack (and_then (does (code_of value scope).piece (work_at time step stack held)) (does next.piece))
          (result >>= λ v. effect v (environment_at component time step held))
      led (Ok v) is so =
          subst (λ d. Leaves stack (and_then d (does next.piece)) (effect v (environment_at component time step held))) (sym is.0) (leads v held fits stack so)
      led (Err failed) is so = ap (λ d. and_then d (does next.piece)) is

  -- ---- Assignments

  assigned_leaves : (name : List ℕ) (word : ℤ) (held : CallWords) (stack : List ℤ) (did : Did) (changed : Result (List ℤ) Fault) → Fits component held
      → ChangesBehind component.params (pos time ∷ pos step ∷ []) held.accepted stack (length held.words) did changed
      → Leaves stack did (changed >>= λ words. Ok (record (environment_at component time step held) { words = words }))
  assigned_leaves name word held stack did (Ok changed) fits is = record {
    held = record { words = is.0; accepted = held.accepted };
    fits = record { params = fits.params; words = is.3 ∙ fits.words };
    by_names = ap (λ words. record (environment_at component time step held) { words = words }) is.1;
    in_slots = is.2;
  }
  assigned_leaves name word held stack did (Err failed) fits is = is

  assign_follows : (target : List ℕ) (value : Expr)
      → Follows (behind (value_coded value scope) (target_coded scope.sizes (named scope.names target)))
      (λ env. value_of value env >>= λ v. assigned target v.word env)
  assign_follows target value =
      value_leads value (target_coded scope.sizes (named scope.names target)) (λ v env. assigned target v.word env)
      (λ v held fits stack right.
      assigned_leaves target v.word held stack _ (stored (variables_of component.unit) (component.params ++ held.words) target v.word) fits
      (stores component time step held target v.word stack fits right))

  -- ---- Accepted lengths

  accept_leaves : (inside : Bool) (word : ℤ) (held : CallWords) (stack : List ℤ) → Fits component held
      → Leaves stack (if inside then Does (work_at time step stack (record { words = held.words; accepted = unsigned_abs word })) else Fails fault.Accept)
      (if inside then Ok (record (environment_at component time step held) { accepted = unsigned_abs word }) else Err fault.Accept)
  accept_leaves true word held stack fits = record {
    held = record { words = held.words; accepted = unsigned_abs word };
    fits = record { params = fits.params; words = fits.words };
    by_names = refl;
    in_slots = refl;
  }
  accept_leaves false word held stack fits = refl

  abbrev accept_coded : LineCoded
  accept_coded = record { piece = One Accept; is_right = true }

  accept_follows : (value : Expr) → Follows (behind (value_coded value scope) accept_coded) (λ env. value_of value env >>= λ v. accepting v.word env)
  accept_follows value =
      value_leads value accept_coded (λ v env. accepting v.word env)
      (λ v held fits stack right.
      subst
      (λ length. Leaves stack
      (if is_between (pos 0) length v.word then Does
      (work_at time step stack (record { words = held.words; accepted = unsigned_abs v.word })) else Fails fault.Accept)
      (accepting v.word (environment_at component time step held)))
      (sym (step_is held.words (pos time) (pos step)))
      (accept_leaves (is_between (pos 0) (pos step) v.word) v.word held stack fits))

  -- ---- Blocks

  when_leaves : (zero : Bool) (body : LineCoded) (effect : Effect) (held : CallWords) (stack : List ℤ) → Fits component held → body.is_right ≡ true
      → Follows body effect
      → Leaves stack ((if zero then (λ rest. Does rest) else does body.piece) (work_at time step stack held))
      (if not zero then effect (environment_at component time step held) else Ok (environment_at component time step held))
  when_leaves true body effect held stack fits right follows = record { held = held; fits = fits; by_names = refl; in_slots = refl }
  when_leaves false body effect held stack fits right follows = follows right held fits stack

  choice_leaves : (zero : Bool) (a b : LineCoded) (one other : Effect) (held : CallWords) (stack : List ℤ) → Fits component held → a.is_right ≡ true
      → b.is_right ≡ true → Follows a one → Follows b other
      → Leaves stack ((if zero then does b.piece else does a.piece) (work_at time step stack held))
      (if not zero then one (environment_at component time step held) else other (environment_at component time step held))
  choice_leaves true a b one other held stack fits right also f g = g also held fits stack
  choice_leaves false a b one other held stack fits right also f g = f right held fits stack

  if_follows : (cond : Expr) (then_lines : LineCoded) (effect : Effect) → Follows then_lines effect
      → Follows (behind (value_coded cond scope) (if_coded then_lines None)) (λ env. value_of cond env >>= λ c. (if holds c then effect env else Ok env))
  if_follows cond then_lines effect follows =
      value_leads cond (if_coded then_lines None) (λ c env. if holds c then effect env else Ok env)
      (λ c held fits stack right. when_leaves (is_zero c.word) then_lines effect held stack fits right follows)

  if_else_follows : (cond : Expr) (then_lines else_lines : LineCoded) (one other : Effect) → Follows then_lines one → Follows else_lines other
      → Follows (behind (value_coded cond scope) (if_coded then_lines (Some else_lines)))
      (λ env. value_of cond env >>= λ c. (if holds c then one env else other env))
  if_else_follows cond then_lines else_lines one other f g =
      value_leads cond (if_coded then_lines (Some else_lines)) (λ c env. if holds c then one env else other env)
      (λ c held fits stack right.
      let parts = and_parts then_lines.is_right else_lines.is_right right in
      choice_leaves (is_zero c.word) then_lines else_lines one other held stack fits parts.0 parts.1 f g)

  turns_leave : (count : ℕ) (body : LineCoded) (effect : Effect) (held : CallWords) (stack : List ℤ) → Fits component held → body.is_right ≡ true
      → Follows body effect
      → Leaves stack (repeated count (does body.piece) (work_at time step stack held)) (times count effect (environment_at component time step held))
  turns_leave zero body effect held stack fits right follows = record { held = held; fits = fits; by_names = refl; in_slots = refl }
  turns_leave (suc count) body effect held stack fits right follows =
      once (does body.piece (work_at time step stack held)) (effect (environment_at component time step held)) (follows right held fits stack)
      (λ later fit. turns_leave count body effect later stack fit right follows)
    where
      once : (did : Did) (result : Result Environment Fault) → Leaves stack did result
          → ((later : CallWords) → Fits component later
          → Leaves stack (repeated count (does body.piece) (work_at time step stack later)) (times count effect (environment_at component time step later)))
          → Leaves stack (and_then did (repeated count (does body.piece))) (result >>= times count effect)
      once did (Ok after) one others =
          subst (λ d. Leaves stack (and_then d (repeated count (does body.piece))) (times count effect after)) (sym one.in_slots)
          (subst (λ env. Leaves stack (repeated count (does body.piece) (work_at time step stack one.held)) (times count effect env)) (sym one.by_names)
          (others one.held one.fits))
      once did (Err failed) one others = ap (λ d. and_then d (repeated count (does body.piece))) one

  repeat_follows : (count : ℕ) (body : LineCoded) (effect : Effect) → Follows body effect → Follows (repeat_coded count body) (times count effect)
  repeat_follows count body effect follows right held fits stack =
      turns_leave count body effect held stack fits (and_parts (nat_le 1 count && nat_le count 1000) body.is_right right).1 follows

  -- ---- Lines

  abbrev pub Here : Line → Type 0
  Here some = Follows (line_code some scope) (effect_of some)

  abbrev Proved : Type 0
  Proved = (some : Line) × Here some

  abbrev bare : Proved → Line
  bare p = p.0

  all_follow : (lines : List Proved) → Follows (all_coded scope (map line_code (map bare lines))) (in_sequence (map effect_of (map bare lines)))
  all_follow [] = nothing_follows
  all_follow (first ∷ others) =
      behind_follows (line_code (bare first) scope) (all_coded scope (map line_code (map bare others))) (effect_of (bare first))
      (in_sequence (map effect_of (map bare others))) first.1 (all_follow others)

  by_folds : (some : Line) (c : LineCoding) (m : Effect) → line_code some ≡ c → effect_of some ≡ m → Follows (c scope) m → Here some
  by_folds some c m is means mean = subst (λ (x : LineCoding). Follows (x scope) (effect_of some)) (sym is) (subst (Follows (c scope)) (sym means) mean)

  node : (y : Line-F Proved) → Here (roll-Line (map-Line Proved Line bare y))
  node (Line-F.Assign target value) =
      subst Here (sym (rolls-Assign target value))
      (by_folds (line.Assign target value) _ _ (fold-Assign LineCoding node_line_code target value) (fold-Assign Effect line_effect target value)
      (assign_follows target value))
  node (Line-F.If cond then_lines None) =
      subst Here (sym (rolls-If cond (map bare then_lines) None))
      (by_folds (line.If cond (map bare then_lines) None) _ _ (fold-If LineCoding node_line_code cond (map bare then_lines) None)
      (fold-If Effect line_effect cond (map bare then_lines) None)
      (if_follows cond (all_coded scope (map line_code (map bare then_lines))) (in_sequence (map effect_of (map bare then_lines))) (all_follow then_lines)))
  node (Line-F.If cond then_lines (Some else_lines)) =
      subst Here (sym (rolls-If cond (map bare then_lines) (Some (map bare else_lines))))
      (by_folds (line.If cond (map bare then_lines) (Some (map bare else_lines))) _ _
      (fold-If LineCoding node_line_code cond (map bare then_lines) (Some (map bare else_lines)))
      (fold-If Effect line_effect cond (map bare then_lines) (Some (map bare else_lines)))
      (if_else_follows cond (all_coded scope (map line_code (map bare then_lines))) (all_coded scope (map line_code (map bare else_lines)))
      (in_sequence (map effect_of (map bare then_lines))) (in_sequence (map effect_of (map bare else_lines))) (all_follow then_lines)
      (all_follow else_lines)))
  node (Line-F.Repeat count body) =
      subst Here (sym (rolls-Repeat count (map bare body)))
      (by_folds (line.Repeat count (map bare body)) _ _ (fold-Repeat LineCoding node_line_code count (map bare body))
      (fold-Repeat Effect line_effect count (map bare body))
      (repeat_follows count (all_coded scope (map line_code (map bare body))) (in_sequence (map effect_of (map bare body))) (all_follow body)))
  node (Line-F.Accept value) =
      subst Here (sym (rolls-Accept value))
      (by_folds (line.Accept value) _ _ (fold-Accept LineCoding node_line_code value) (fold-Accept Effect line_effect value) (accept_follows value))

  -- The code of a line does what the line means.
  pub line_follows : (some : Line) → Here some
  line_follows = ind-Line Here (λ x y is. subst (λ z. Here (roll-Line z)) is (node y))

  pub lines_follow : (lines : List Line) → Follows (lines_code lines scope) (effect_of_lines lines)
  lines_follow [] = nothing_follows
  lines_follow (first ∷ others) =
      behind_follows (line_code first scope) (lines_code others scope) (effect_of first) (effect_of_lines others) (line_follows first) (lines_follow others)
