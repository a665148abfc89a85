-- Walks over lines whose places are counted from a first number.
use Rattle.std.proofs.Common.{◌≡◌, ℕ, ◌+◌, ◌-◌, List, [], ◌∷◌, ◌++◌, map, length, Ok, Some, None, append_assoc, refl, ap, sym, ◌∙◌, subst, arith}
use Rattle.std.specs.List.{flat_map}
use Rattle.std.proofs.lemmas.List.{append-nil, length-append}
use Rattle.unit_check.proofs.SiteWalks.{line_sites, line_sites_on, line_sites_count, onward_same, onward_none, walk, walk_on, counted}
use Rattle.unit_check.specs.Walks.{Test, Walk, test_at, place_of, onward, past, past_from, ◌>=>◌, in_turn, each, else_walk, node_walk, line_walk}
use Rattle.unit_tree.specs.Parts.{joined, block_forms, line_forms}
use Rattle.unit_tree.specs.Sites.{Scope, StepScope}
use Rattle.unit_tree.specs.declared.line.Line.{Line, roll-Line}
use Rattle.unit_tree.specs.declared.line.Line.TheFolds.{ind-Line, map-Line, fold-roll-Line}
use Rattle.unit_tree.specs.declared.line.Line.TheOpen.{Line-F}
use Rattle.unit_tree.specs.declared.line_form.LineForm.{LineForm}
use Rattle.unit_tree.specs.declared.line_form.LineForm.TheVariants as form
use Rattle.unit_tree.specs.declared.unit.Unit.{Unit}

-- Lines of one scope, each of which counts for the next ones.
module _ (test : Test) (scope : Scope) (count : List LineForm → ℕ)
    (adds : (front behind : List LineForm) → count (front ++ behind) ≡ count front + count behind) (first : ℕ) where
  -- A walk goes over these lines after earlier ones.
  abbrev pub Counts : List LineForm → Walk → List LineForm → Type 0
  Counts earlier walked lines = (number : ℕ) → number ≡ first + count earlier → walked number ≡ walk (test_at test) number (line_sites scope earlier lines)

  pub both : (earlier front behind : List LineForm) (one next : Walk) → count front ≡ length front → Counts earlier one front
      → Counts (earlier ++ front) next behind → Counts earlier (one >=> next) (front ++ behind)
  both earlier front behind one next each_counts goes on number at =
      let t = test_at test in
      let met = walk t number (line_sites scope earlier front) in
      let further : (n : ℕ) → met ≡ Ok n → next n ≡ walk t n (line_sites scope (earlier ++ front) behind) =
      λ n is.
      let behind_is = counted t number n (line_sites scope earlier front) is in
      let many = line_sites_count scope earlier front in
      let all = adds earlier front in
      on n (omega arith) in
      ap (λ r. onward r next) (goes number at)
      ∙ onward_same met next (λ n. walk t n (line_sites scope (earlier ++ front) behind)) further
      ∙ sym (walk_on t number (line_sites scope earlier front) (line_sites scope (earlier ++ front) behind))
      ∙ ap (walk t number) (sym (line_sites_on scope earlier front behind))

  pub one : (earlier : List LineForm) (line : LineForm) → place_of scope earlier line ≡ count earlier
      → Counts earlier (past_from (test scope) first line) (line ∷ [])
  one earlier line placed number at =
      let place : number - first ≡ place_of scope earlier line = omega arith in
      ap (λ n. past (test scope n line) number) place ∙ sym (onward_none (past (test scope (place_of scope earlier line) line) number))

  -- Lines of one form.
  module _ {A : Type 0} (said : A → LineForm) (placed : (earlier : List LineForm) (x : A) → place_of scope earlier (said x) ≡ count earlier)
      (counts : (x : A) → count (said x ∷ []) ≡ 1) where
    pub all_of : (earlier : List LineForm) (xs : List A) → Counts earlier (each (λ x. past_from (test scope) first (said x)) xs) (map said xs)
    all_of earlier [] = λ number at. refl
    all_of earlier (x ∷ xs) =
        both earlier (said x ∷ []) (map said xs) (past_from (test scope) first (said x)) (each (λ y. past_from (test scope) first (said y)) xs) (counts x)
        (one earlier (said x) (placed earlier x)) (all_of (earlier ++ (said x ∷ [])) xs)

    pub all_count : count [] ≡ 0 → (xs : List A) → count (map said xs) ≡ length (map said xs)
    all_count none [] = none
    all_count none (x ∷ xs) =
        let here = counts x in
        let rest = all_count none xs in
        let whole = adds (said x ∷ []) (map said xs) in
        omega arith

-- ---- Step lines

module _ (test : Test) (unit : Unit) (first : ℕ) where
  abbrev Goes : Walk → List LineForm → Type 0
  Goes walked lines = (earlier : List LineForm) → Counts test (StepScope unit) length length-append first earlier walked lines

  abbrev past_line : LineForm → Walk
  past_line line = past_from (test (StepScope unit)) first line

  then_on : (one next : Walk) (front behind : List LineForm) → Goes one front → Goes next behind → Goes (one >=> next) (front ++ behind)
  then_on one next front behind goes on earlier =
      both test (StepScope unit) length length-append first earlier front behind one next refl (goes earlier) (on (earlier ++ front))

  line_goes : (line : LineForm) → Goes (past_line line) (line ∷ [])
  line_goes line earlier = one test (StepScope unit) length length-append first earlier line refl

  abbrev Claim : Line → Type 0
  Claim line = Goes (line_walk past_line line) (line_forms line)

  abbrev Proved : Type 0
  Proved = (line : Line) × Claim line

  abbrev bare : (line : Line) × Claim line → Line
  bare p = p.0

  turns : (lines : List ((line : Line) × Claim line)) → Goes (in_turn (map (line_walk past_line) (map bare lines))) (joined (map line_forms (map bare lines)))
  turns [] = λ earlier number at. refl
  turns (head ∷ others) =
      then_on (line_walk past_line head.0) (in_turn (map (line_walk past_line) (map bare others))) (line_forms head.0)
      (joined (map line_forms (map bare others))) head.1 (turns others)

  layer : (y : Line-F Proved)
      → Goes (node_walk past_line (map-Line Line Walk (line_walk past_line) (map-Line Proved Line bare y)))
      (block_forms (map-Line Line (List LineForm) line_forms (map-Line Proved Line bare y)))
  layer (Line-F.Assign target value) = line_goes (form.Assign target value)
  layer (Line-F.If condition then_lines None) =
      let lines = joined (map line_forms (map bare then_lines)) in
      then_on (past_line (form.If condition)) _ (form.If condition ∷ []) _ (line_goes (form.If condition))
      (subst (λ l. Goes (in_turn (map (line_walk past_line) (map bare then_lines)) >=> past_line form.End) (l ++ (form.End ∷ []))) (sym (append-nil lines))
      (then_on _ (past_line form.End) _ (form.End ∷ []) (turns then_lines) (line_goes form.End)))
  layer (Line-F.If condition then_lines (Some else_lines)) =
      let lines = joined (map line_forms (map bare then_lines)) in
      let others = joined (map line_forms (map bare else_lines)) in
      then_on (past_line (form.If condition)) _ (form.If condition ∷ []) _ (line_goes (form.If condition))
      (subst (Goes (in_turn (map (line_walk past_line) (map bare then_lines)) >=> else_walk past_line (Some (map (line_walk past_line) (map bare else_lines)))))
      (sym (append_assoc lines (form.Else ∷ others) (form.End ∷ [])))
      (then_on _ _ _ _ (turns then_lines)
      (then_on (past_line form.Else) _ (form.Else ∷ []) _ (line_goes form.Else)
      (then_on _ (past_line form.End) _ (form.End ∷ []) (turns else_lines) (line_goes form.End)))))
  layer (Line-F.Repeat times body) =
      then_on (past_line (form.Repeat times)) _ (form.Repeat times ∷ []) _ (line_goes (form.Repeat times))
      (then_on _ (past_line form.End) _ (form.End ∷ []) (turns body) (line_goes form.End))
  layer (Line-F.Accept value) = line_goes (form.Accept value)

  node : (y : Line-F Proved) → Claim (roll-Line (map-Line Proved Line bare y))
  node y earlier number at =
      ap (λ (walked : Walk). walked number) (fold-roll-Line Walk (node_walk past_line) (map-Line Proved Line bare y))
      ∙ layer y earlier number at
      ∙ ap (λ lines. walk (test_at test) number (line_sites (StepScope unit) earlier lines))
      (sym (fold-roll-Line (List LineForm) block_forms (map-Line Proved Line bare y)))

  along : (line : Line) → Claim line
  along = ind-Line Claim (λ x y is. subst (λ z. Claim (roll-Line z)) is (node y))

  pub all_along : (lines : List Line) → Goes (each (line_walk past_line) lines) (flat_map line_forms lines)
  all_along [] = λ earlier number at. refl
  all_along (line ∷ lines) =
      then_on (line_walk past_line line) (each (line_walk past_line) lines) (line_forms line) (flat_map line_forms lines) (along line) (all_along lines)
