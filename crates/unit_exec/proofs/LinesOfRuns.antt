-- Step lines whose forms are right have right code in the plain form.
use Rattle.std.proofs.Common.{◌≡◌, ◌≤◌, true, List, [], ◌∷◌, ◌++◌, map, Some, None, refl, sym, ap, ◌∙◌, subst}
use Rattle.std.specs.Prelude.{⊤}
use Rattle.std.specs.List.{AllByRecursion, flat_map}
use Rattle.std.proofs.lemmas.Bool.{and_from}
use Rattle.code_units.specs.Scopes.{named}
use Rattle.code_units.specs.StepLines.{LineCoding, is_right_in, target_coded, all_coded, node_line_code, line_code, lines_code}
use Rattle.code_units.specs.declared.scope.CodeScope.{CodeScope}
use Rattle.unit_tree.specs.Parts.{joined, block_forms, line_forms}
use Rattle.unit_tree.specs.Plain.{plain_expression, node_plain_line, plain_line}
use Rattle.unit_tree.specs.declared.line.Line as line
use Rattle.unit_tree.specs.declared.line.Line.{Line}
use Rattle.unit_tree.specs.declared.line.Line.TheFolds.{ind-Line, map-Line}
use Rattle.unit_tree.specs.declared.line.Line.TheViews.{roll-Line}
use Rattle.unit_tree.specs.declared.line.Line.TheOpen.{Line-F}
use Rattle.unit_tree.specs.declared.line.Line.TheVariants.{rolls-Assign, rolls-If, rolls-Repeat, rolls-Accept}
use Rattle.unit_tree.specs.declared.line_form.LineForm.{LineForm}
use Rattle.unit_tree.specs.declared.line_form.LineForm.TheVariants as form
use Rattle.unit_tree.proofs.FoldLemmas.{fold-Assign, fold-If, fold-Repeat, fold-Accept}
use Rattle.list_laws.proofs.Lists.{each_part}
use Rattle.list_laws.proofs.Truths.{le_asked}

module _ (scope : CodeScope) where
  -- What the code of a line requires of its form.
  abbrev pub FormRight : LineForm → Type 0
  FormRight (form.Assign target value) =
      (is_right_in scope (plain_expression value) ≡ true) × ((target_coded scope.sizes (named scope.names target)).is_right ≡ true)
  FormRight (form.If cond) = is_right_in scope (plain_expression cond) ≡ true
  FormRight (form.Repeat count) = (1 ≤ count) × (count ≤ 1000)
  FormRight (form.Accept value) = is_right_in scope (plain_expression value) ≡ true
  FormRight _ = ⊤

  abbrev Right : Line → Type 0
  Right some = AllByRecursion FormRight (line_forms some) → (line_code (plain_line some) scope).is_right ≡ true

  abbrev Proved : Type 0
  Proved = (some : Line) × Right some

  abbrev bare : Proved → Line
  bare p = p.0

  all_right : (lines : List Proved) → AllByRecursion FormRight (joined (map line_forms (map bare lines)))
      → (all_coded scope (map line_code (map plain_line (map bare lines)))).is_right ≡ true
  all_right [] all = refl
  all_right (first ∷ others) all =
      let parts = each_part FormRight (line_forms (bare first)) (joined (map line_forms (map bare others))) all in
      and_from _ _ (first.1 parts.0) (all_right others parts.1)

  by_code : (some plain : Line) (coded : LineCoding) → plain_line some ≡ plain → line_code plain ≡ coded → (coded scope).is_right ≡ true
      → (line_code (plain_line some) scope).is_right ≡ true
  by_code some plain coded is code right = ap (λ (l : Line). (line_code l scope).is_right) is ∙ ap (λ (c : LineCoding). (c scope).is_right) code ∙ right

  forms_of : (some : Line) (forms : List LineForm) → line_forms some ≡ forms → AllByRecursion FormRight (line_forms some) → AllByRecursion FormRight forms
  forms_of some forms is all = subst (AllByRecursion FormRight) is all

  node : (y : Line-F Proved) → Right (roll-Line (map-Line Proved Line bare y))
  node (Line-F.Assign target value) = subst Right (sym (rolls-Assign target value)) (λ all.
      let here = forms_of (line.Assign target value) _ (fold-Assign (List LineForm) block_forms target value) all in
      by_code (line.Assign target value) (line.Assign target (plain_expression value)) _ (fold-Assign Line node_plain_line target value)
      (fold-Assign LineCoding node_line_code target (plain_expression value))
      (and_from _ _ here.0.0 here.0.1))
  node (Line-F.If cond then_lines None) = subst Right (sym (rolls-If cond (map bare then_lines) None)) (λ all.
      let here = forms_of (line.If cond (map bare then_lines) None) _ (fold-If (List LineForm) block_forms cond (map bare then_lines) None) all in
      let inside = each_part FormRight (joined (map line_forms (map bare then_lines)) ++ []) (form.End ∷ []) here.1 in
      let then_all = each_part FormRight (joined (map line_forms (map bare then_lines))) [] inside.0 in
      by_code (line.If cond (map bare then_lines) None) (line.If (plain_expression cond) (map plain_line (map bare then_lines)) None) _
      (fold-If Line node_plain_line cond (map bare then_lines) None)
      (fold-If LineCoding node_line_code (plain_expression cond) (map plain_line (map bare then_lines)) None)
      (and_from _ _ here.0 (all_right then_lines then_all.0)))
  node (Line-F.If cond then_lines (Some else_lines)) = subst Right (sym (rolls-If cond (map bare then_lines) (Some (map bare else_lines)))) (λ all.
      let here =
      forms_of (line.If cond (map bare then_lines) (Some (map bare else_lines))) _
      (fold-If (List LineForm) block_forms cond (map bare then_lines) (Some (map bare else_lines))) all in
      let inside =
      each_part FormRight (joined (map line_forms (map bare then_lines)) ++ (form.Else ∷ joined (map line_forms (map bare else_lines))))
      (form.End ∷ []) here.1 in
      let branches = each_part FormRight (joined (map line_forms (map bare then_lines))) (form.Else ∷ joined (map line_forms (map bare else_lines))) inside.0 in
      by_code (line.If cond (map bare then_lines) (Some (map bare else_lines)))
      (line.If (plain_expression cond) (map plain_line (map bare then_lines)) (Some (map plain_line (map bare else_lines)))) _
      (fold-If Line node_plain_line cond (map bare then_lines) (Some (map bare else_lines)))
      (fold-If LineCoding node_line_code (plain_expression cond) (map plain_line (map bare then_lines)) (Some (map plain_line (map bare else_lines))))
      (and_from _ _ here.0 (and_from _ _ (all_right then_lines branches.0) (all_right else_lines branches.1.1))))
  node (Line-F.Repeat count body) = subst Right (sym (rolls-Repeat count (map bare body))) (λ all.
      let here = forms_of (line.Repeat count (map bare body)) _ (fold-Repeat (List LineForm) block_forms count (map bare body)) all in
      let inside = each_part FormRight (joined (map line_forms (map bare body))) (form.End ∷ []) here.1 in
      by_code (line.Repeat count (map bare body)) (line.Repeat count (map plain_line (map bare body))) _
      (fold-Repeat Line node_plain_line count (map bare body)) (fold-Repeat LineCoding node_line_code count (map plain_line (map bare body)))
      (and_from _ _ (and_from _ _ (le_asked 1 count here.0.0) (le_asked count 1000 here.0.1)) (all_right body inside.0)))
  node (Line-F.Accept value) = subst Right (sym (rolls-Accept value)) (λ all.
      let here = forms_of (line.Accept value) _ (fold-Accept (List LineForm) block_forms value) all in
      by_code (line.Accept value) (line.Accept (plain_expression value)) _ (fold-Accept Line node_plain_line value)
      (fold-Accept LineCoding node_line_code (plain_expression value))
      (and_from _ _ here.0 refl))

  line_right : (some : Line) → Right some
  line_right = ind-Line Right (λ x y is. subst (λ z. Right (roll-Line z)) is (node y))

  pub lines_right : (lines : List Line) → AllByRecursion FormRight (flat_map line_forms lines) → (lines_code (map plain_line lines) scope).is_right ≡ true
  lines_right [] all = refl
  lines_right (first ∷ others) all =
      let parts = each_part FormRight (line_forms first) (flat_map line_forms others) all in
      and_from _ _ (line_right first parts.0) (lines_right others parts.1)
