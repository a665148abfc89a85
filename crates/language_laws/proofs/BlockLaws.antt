-- Each site of a system is in its block, after the line that opens it.
use Rattle.std.proofs.Common.{◌≡◌, ℕ, suc, Bool, true, false, cond, List, [], ◌∷◌, ◌++◌, append_assoc, map, length, Option, Some, None, ◌⊎◌, inl, inr, refl, ap}
use Rattle.std.proofs.Common.{sym, subst, ◌∙◌}
use Rattle.std.specs.List.{AllByRecursion, slice_get, flat_map, filter, list_all}
use Rattle.std.proofs.lemmas.Bool.{and_parts}
use Rattle.std.proofs.lemmas.List.{append-nil}
use Rattle.unit_tree.specs.Canonical.{optional, unit_parts, canonical_parts}
use Rattle.unit_tree.specs.Parts as parts
use Rattle.unit_tree.specs.Parts.{Part, UnitPart, block_forms, joined, line_forms, unit_of}
use Rattle.unit_tree.specs.Sites.{Scope, TopScope, UnitScope, StepScope, InstanceScope, Site, Headed, alone, sites, headed_unit_part, headed_part, sites_of}
use Rattle.unit_tree.specs.Sites.{is_step_line, holds, is_unit_line, is_instance_line, IsOpenedBy, Opens, IsWithin, are_level, StandsBehind}
use Rattle.unit_tree.specs.declared.expr.Expr.{Expr}
use Rattle.unit_tree.specs.declared.line.Line as line
use Rattle.unit_tree.specs.declared.line.Line.{Line}
use Rattle.unit_tree.specs.declared.line.Line.TheFolds.{ind-Line, map-Line}
use Rattle.unit_tree.specs.declared.line.Line.TheOpen.{Line-F}
use Rattle.unit_tree.specs.declared.line.Line.TheVariants.{rolls-Assign, rolls-If, rolls-Repeat, rolls-Accept}
use Rattle.unit_tree.specs.declared.line.Line.TheViews.{roll-Line}
use Rattle.unit_tree.specs.declared.line_form.LineForm.{LineForm}
use Rattle.unit_tree.specs.declared.line_form.LineForm.TheVariants as form
use Rattle.unit_tree.specs.declared.system.Instance.{Instance}
use Rattle.unit_tree.specs.declared.system.System.{System}
use Rattle.unit_tree.specs.declared.unit.Unit.{Unit}
use Rattle.unit_tree.proofs.FoldLemmas.{fold-Assign, fold-If, fold-Repeat, fold-Accept}
use Rattle.language_laws.proofs.PartLaws.{grouped, unit_is}
use Rattle.list_laws.proofs.Lists.{all_of_two, each_append, none_cut, each_map}

-- ---- Lists that are split at a member

record InFront {A : Type 0} (xs before : List A) (x : A) : Type 0 where
  rest : List A
  cut : xs ≡ before ++ (x ∷ rest)

record Behind {A : Type 0} (xs ys before later : List A) (x : A) : Type 0 where
  front : List A
  before_is : before ≡ xs ++ front
  cut : ys ≡ front ++ (x ∷ later)

cut_of_two : {A : Type 0} (xs ys before later : List A) (x : A) → xs ++ ys ≡ before ++ (x ∷ later) → InFront xs before x ⊎ Behind xs ys before later x
cut_of_two [] ys before later x is = inr (record { front = before; before_is = refl; cut = is })
cut_of_two (first ∷ xs) ys [] later x is = let here : first ≡ x = cc in inl (record { rest = xs; cut = ap (λ f. f ∷ xs) here })
cut_of_two (first ∷ xs) ys (b ∷ before) later x is =
    let here : first ≡ b = cc in
    let tail : xs ++ ys ≡ before ++ (x ∷ later) = cc in
    elim (cut_of_two xs ys before later x tail) [
      | inl found ↦ inl (record { rest = found.rest; cut = ap (λ f. f ∷ xs) here ∙ ap (λ all. b ∷ all) found.cut })
      | inr found ↦ inr (record { front = found.front; before_is = ap (λ f. f ∷ before) (sym here) ∙ ap (λ all. first ∷ all) found.before_is; cut = found.cut })
    ]

record Mapped {A B : Type 0} (f : A → B) (xs : List A) (before later : List B) (y : B) : Type 0 where
  front : List A
  x : A
  behind : List A
  cut : xs ≡ front ++ (x ∷ behind)
  front_is : before ≡ map f front
  is : f x ≡ y

cut_of_map : {A B : Type 0} (f : A → B) (xs : List A) (before later : List B) (y : B) → map f xs ≡ before ++ (y ∷ later) → Mapped f xs before later y
cut_of_map f [] [] later y is = absurd (cc)
cut_of_map f [] (b ∷ before) later y is = absurd (cc)
cut_of_map f (x ∷ xs) [] later y is = let here : f x ≡ y = cc in record { front = []; x = x; behind = xs; cut = refl; front_is = refl; is = here }
cut_of_map f (x ∷ xs) (b ∷ before) later y is =
    let here : b ≡ f x = cc in
    let tail : map f xs ≡ before ++ (y ∷ later) = cc in
    let found = cut_of_map f xs before later y tail in
    record {
      front = x ∷ found.front;
      x = found.x;
      behind = found.behind;
      cut = ap (λ all. x ∷ all) found.cut;
      front_is = ap (λ f. f ∷ before) here ∙ ap (λ all. f x ∷ all) found.front_is;
      is = found.is;
    }

-- ---- One level of sites

abbrev pub heads : List Headed → List LineForm
heads headed = map (λ one. one.head) headed

abbrev pub site_at : Scope → List LineForm → List Headed → Headed → Site
site_at scope earlier before this = record { scope = scope; earlier = earlier ++ heads before; line = this.head }

-- A site of a list is a head after others, or is in the block of a head after others.
record AtHead (scope : Scope) (earlier : List LineForm) (headed : List Headed) (before : List Site) (site : Site) : Type 0 where
  front : List Headed
  this : Headed
  others : List Headed
  cut : headed ≡ front ++ (this ∷ others)
  before_is : before ≡ sites scope earlier front
  site_is : site ≡ site_at scope earlier front this

record InBlock (scope : Scope) (earlier : List LineForm) (headed : List Headed) (before : List Site) (site : Site) : Type 0 where
  front : List Headed
  this : Headed
  others : List Headed
  inner : List Site
  rest : List Site
  cut : headed ≡ front ++ (this ∷ others)
  block : this.block ≡ inner ++ (site ∷ rest)
  before_is : before ≡ sites scope earlier front ++ (site_at scope earlier front this ∷ inner)

pub one_more : (scope : Scope) (earlier : List LineForm) (first : Headed) (front : List Headed) (this : Headed)
    → site_at scope (earlier ++ (first.head ∷ [])) front this ≡ site_at scope earlier (first ∷ front) this
one_more scope earlier first front this =
    ap (λ all. record { scope = scope; earlier = all; line = this.head }) (append_assoc earlier (first.head ∷ []) (heads front))

found_at : (scope : Scope) (earlier : List LineForm) (headed : List Headed) (before later : List Site) (site : Site)
    → sites scope earlier headed ≡ before ++ (site ∷ later) → AtHead scope earlier headed before site ⊎ InBlock scope earlier headed before site
found_at scope earlier [] [] later site is = absurd (cc)
found_at scope earlier [] (b ∷ before) later site is = absurd (cc)
found_at scope earlier (first ∷ others) [] later site is =
    let here : site ≡ record { scope = scope; earlier = earlier; line = first.head } = cc in
    inl (record {
      front = [];
      this = first;
      others = others;
      cut = refl;
      before_is = refl;
      site_is = here
          ∙ ap (λ all. record { scope = scope; earlier = all; line = first.head }) (sym (append-nil earlier));
    })
found_at scope earlier (first ∷ others) (b ∷ before) later site is =
    let here : b ≡ record { scope = scope; earlier = earlier; line = first.head } = cc in
    let tail : first.block ++ sites scope (earlier ++ (first.head ∷ [])) others ≡ before ++ (site ∷ later) = cc in
    elim (cut_of_two first.block (sites scope (earlier ++ (first.head ∷ [])) others) before later site tail) [
      | inl found ↦ inr (record {
        front = [];
        this = first;
        others = others;
        inner = before;
        rest = found.rest;
        cut = refl;
        block = found.cut;
        before_is = ap (λ f. f ∷ before) (here ∙ ap (λ all. record { scope = scope; earlier = all; line = first.head }) (sym (append-nil earlier)));
      })
      | inr found ↦ elim (found_at scope (earlier ++ (first.head ∷ [])) others found.front later site found.cut) [
        | inl at ↦ inl (record {
          front = first ∷ at.front;
          this = at.this;
          others = at.others;
          cut = ap (λ all. first ∷ all) at.cut;
          before_is = ap (λ f. f ∷ before) here
              ∙ ap (λ all. record { scope = scope; earlier = earlier; line = first.head } ∷ all)
              (found.before_is ∙ ap (λ all. first.block ++ all) at.before_is);
          site_is = at.site_is ∙ one_more scope earlier first at.front at.this;
        })
        | inr at ↦ inr (record {
          front = first ∷ at.front;
          this = at.this;
          others = at.others;
          inner = at.inner;
          rest = at.rest;
          cut = ap (λ all. first ∷ all) at.cut;
          block = at.block;
          before_is =
              ap (λ f. f ∷ before) here
              ∙ ap (λ all. record { scope = scope; earlier = earlier; line = first.head } ∷ all)
              (found.before_is ∙ ap (λ all. first.block ++ all) at.before_is
              ∙ sym (append_assoc first.block (sites scope (earlier ++ (first.head ∷ [])) at.front)
              (site_at scope (earlier ++ (first.head ∷ [])) at.front at.this ∷ at.inner))
              ∙ ap (λ s. (first.block ++ sites scope (earlier ++ (first.head ∷ [])) at.front) ++ (s ∷ at.inner))
              (one_more scope earlier first at.front at.this));
        })
      ]
    ]

-- ---- The sites of one level among those before

-- No site of a block is on the level of a scope.
abbrev IsBelow : Scope → Headed → Type 0
IsBelow scope headed = AllByRecursion (λ site. are_level scope site.scope ≡ false) headed.block

abbrev on_level : Scope → List Site → List LineForm
on_level scope all = map (λ other. other.line) (filter (λ other. are_level scope other.scope) all)

one_on_level : (test : Bool) (scope : Scope) (x : Site) (xs ys : List Site) → are_level scope x.scope ≡ test
    → on_level scope (xs ++ ys) ≡ on_level scope xs ++ on_level scope ys → on_level scope (x ∷ xs ++ ys) ≡ on_level scope (x ∷ xs) ++ on_level scope ys
one_on_level true scope x xs ys is rest = rw is (ap (λ all. x.line ∷ all) rest)
one_on_level false scope x xs ys is rest = rw is rest

on_level-append : (scope : Scope) (xs ys : List Site) → on_level scope (xs ++ ys) ≡ on_level scope xs ++ on_level scope ys
on_level-append scope [] ys = refl
on_level-append scope (x ∷ xs) ys = one_on_level (are_level scope x.scope) scope x xs ys refl (on_level-append scope xs ys)

none_on_level : (scope : Scope) (all : List Site) → AllByRecursion (λ site. are_level scope site.scope ≡ false) all → on_level scope all ≡ []
none_on_level scope [] below = refl
none_on_level scope (x ∷ xs) below = rw (below.0) (none_on_level scope xs below.1)

level_itself : (scope : Scope) → are_level scope scope ≡ true
level_itself TopScope = refl
level_itself (UnitScope unit) = refl
level_itself (StepScope unit) = refl
level_itself (InstanceScope instance) = refl

heads_on_level : (scope : Scope) (earlier : List LineForm) (headed : List Headed) → AllByRecursion (IsBelow scope) headed
    → on_level scope (sites scope earlier headed) ≡ heads headed
heads_on_level scope earlier [] below = refl
heads_on_level scope earlier (first ∷ others) below =
    rw (level_itself scope)
    (ap (λ all. first.head ∷ all)
    (on_level-append scope first.block (sites scope (earlier ++ (first.head ∷ [])) others)
    ∙ rw (none_on_level scope first.block below.0) (heads_on_level scope (earlier ++ (first.head ∷ [])) others below.1)))

-- ---- A fact of each element

pub each_front : {A : Type 0} (P : A → Type 0) (xs : List A) (y : A) (ys : List A) → AllByRecursion P (xs ++ (y ∷ ys)) → AllByRecursion P xs × P y
each_front P [] y ys all = (_, all.0)
each_front P (x ∷ xs) y ys all = let rest = each_front P xs y ys all.1 in ((all.0, rest.0), rest.1)

each_site : (P : Site → Type 0) (scope : Scope) (earlier : List LineForm) (headed : List Headed)
    → ((before : List LineForm) (one : LineForm) → P (record { scope = scope; earlier = before; line = one }))
    → AllByRecursion (λ one. AllByRecursion P one.block) headed → AllByRecursion P (sites scope earlier headed)
each_site P scope earlier [] at_heads in_blocks = _
each_site P scope earlier (first ∷ others) at_heads in_blocks = (
  at_heads earlier first.head,
  each_append P first.block (sites scope (earlier ++ (first.head ∷ [])) others) in_blocks.0
      (each_site P scope (earlier ++ (first.head ∷ [])) others at_heads in_blocks.1),
)

-- Lines without blocks.
each_alone : (P : Headed → Type 0) (lines : List LineForm) → ((one : LineForm) → P (alone one)) → AllByRecursion P (map alone lines)
each_alone P [] is = _
each_alone P (one ∷ lines) is = (is one, each_alone P lines is)

-- ---- Step lines are allowed in steps

abbrev AreStepLines : Line → Type 0
AreStepLines some = list_all is_step_line (line_forms some) ≡ true

abbrev Stepped : Type 0
Stepped = (some : Line) × AreStepLines some

abbrev line_in : Stepped → Line
line_in one = one.0

joined_are : (lines : List Stepped) → list_all is_step_line (joined (map line_forms (map line_in lines))) ≡ true
joined_are [] = refl
joined_are (one ∷ lines) = all_of_two is_step_line (line_forms one.0) (joined (map line_forms (map line_in lines))) one.1 (joined_are lines)

steps-Repeat : (count : ℕ) (body : List Stepped) → AreStepLines (line.Repeat count (map line_in body))
steps-Repeat count body =
    ap (list_all is_step_line) (fold-Repeat (List LineForm) block_forms count (map line_in body))
    ∙ all_of_two is_step_line (joined (map line_forms (map line_in body))) (form.End ∷ []) (joined_are body) refl

steps-IfNone : (condition : Expr) (then_lines : List Stepped) → AreStepLines (line.If condition (map line_in then_lines) None)
steps-IfNone condition then_lines =
    ap (list_all is_step_line) (fold-If (List LineForm) block_forms condition (map line_in then_lines) None)
    ∙ all_of_two is_step_line (joined (map line_forms (map line_in then_lines)) ++ []) (form.End ∷ [])
    (all_of_two is_step_line (joined (map line_forms (map line_in then_lines))) [] (joined_are then_lines) refl) refl

steps-IfElse : (condition : Expr) (then_lines else_lines : List Stepped)
    → AreStepLines (line.If condition (map line_in then_lines) (Some (map line_in else_lines)))
steps-IfElse condition then_lines else_lines =
    ap (list_all is_step_line) (fold-If (List LineForm) block_forms condition (map line_in then_lines) (Some (map line_in else_lines)))
    ∙ all_of_two is_step_line (joined (map line_forms (map line_in then_lines)) ++ (form.Else ∷ joined (map line_forms (map line_in else_lines))))
    (form.End ∷ [])
    (all_of_two is_step_line (joined (map line_forms (map line_in then_lines))) (form.Else ∷ joined (map line_forms (map line_in else_lines)))
    (joined_are then_lines) (joined_are else_lines)) refl

step_node : (y : Line-F Stepped) → AreStepLines (roll-Line (map-Line Stepped Line line_in y))
step_node (Line-F.Assign target value) =
    subst AreStepLines (sym (rolls-Assign target value)) (ap (list_all is_step_line) (fold-Assign (List LineForm) block_forms target value))
step_node (Line-F.If condition then_lines None) =
    subst AreStepLines (sym (rolls-If condition (map line_in then_lines) None)) (steps-IfNone condition then_lines)
step_node (Line-F.If condition then_lines (Some else_lines)) =
    subst AreStepLines (sym (rolls-If condition (map line_in then_lines) (Some (map line_in else_lines)))) (steps-IfElse condition then_lines else_lines)
step_node (Line-F.Repeat count body) = subst AreStepLines (sym (rolls-Repeat count (map line_in body))) (steps-Repeat count body)
step_node (Line-F.Accept value) = subst AreStepLines (sym (rolls-Accept value)) (ap (list_all is_step_line) (fold-Accept (List LineForm) block_forms value))

are_step_lines : (some : Line) → AreStepLines some
are_step_lines = ind-Line AreStepLines (λ x y is. subst (λ z. AreStepLines (roll-Line z)) is (step_node y))

pub all_step_lines : (lines : List Line) → list_all is_step_line (flat_map line_forms lines) ≡ true
all_step_lines [] = refl
all_step_lines (one ∷ lines) = all_of_two is_step_line (line_forms one) (flat_map line_forms lines) (are_step_lines one) (all_step_lines lines)

-- ---- A step

-- A site of lines that have no blocks.
alone_at : (scope : Scope) (lines : List LineForm) (before later : List Site) (site : Site) → sites scope [] (map alone lines) ≡ before ++ (site ∷ later)
    → AtHead scope [] (map alone lines) before site
alone_at scope lines before later site is =
    elim (found_at scope [] (map alone lines) before later site is) [
      | inl at ↦ at
      | inr at ↦
          let no_block : at.this.block ≡ [] =
          (each_front (λ one. one.block ≡ []) at.front at.this at.others
          (subst (AllByRecursion (λ one. one.block ≡ [])) at.cut (each_alone (λ one. one.block ≡ []) lines (λ one. refl)))).1 in
          absurd (none_cut at.inner site at.rest (sym no_block ∙ at.block))
    ]

-- What is known of a site in a block that the site `head` opens, after `front`.
in_alone_block : (system : System) (front : List Site) (head : Site) (scope : Scope) (lines : List LineForm) (inner rest : List Site) (site : Site)
    → sites scope [] (map alone lines) ≡ inner ++ (site ∷ rest) → ((at : Site) → at.scope ≡ scope → Opens system at.scope (front ++ (head ∷ [])))
    → ((one : LineForm) (before : List LineForm) → IsWithin scope scope) → list_all (holds scope) lines ≡ true
    → StandsBehind system (front ++ (head ∷ inner)) site
in_alone_block system front head scope lines inner rest site is opens within held =
    let at = alone_at scope lines inner rest site is in
    let found = cut_of_map alone lines at.front at.others at.this at.cut in
    let scope_is : site.scope ≡ scope = ap (λ s. s.scope) at.site_is in
    let line_is : site.line ≡ found.x = ap (λ s. s.line) at.site_is ∙ ap (λ h. h.head) (sym found.is) in
    let no_blocks =
    each_front (IsBelow scope) at.front at.this at.others (subst (AllByRecursion (IsBelow scope)) at.cut (each_alone (IsBelow scope) lines (λ one. _))) in
    record {
      outside = front ++ (head ∷ []);
      inside = inner;
      cut = sym (append_assoc front (head ∷ []) inner);
      opened = opens site scope_is;
      within =
          rw (scope_is)
          (subst (AllByRecursion (λ other. IsWithin scope other.scope)) (sym at.before_is)
          (each_site (λ other. IsWithin scope other.scope) scope [] at.front (λ before one. within one before)
          (each_front (λ one. AllByRecursion (λ other. IsWithin scope other.scope) one.block) at.front at.this at.others
          (subst (AllByRecursion (λ one. AllByRecursion (λ other. IsWithin scope other.scope) one.block)) at.cut
          (each_alone (λ one. AllByRecursion (λ other. IsWithin scope other.scope) one.block) lines (λ one. _)))).0));
      earlier =
          rw (scope_is) (ap (λ s. s.earlier) at.site_is ∙ sym (ap (on_level scope) at.before_is ∙ heads_on_level scope [] at.front no_blocks.0));
      held = rw (scope_is, line_is) (held_at lines found.front found.behind found.x found.cut held);
    }
  where
    held_at : (all front behind : List LineForm) (one : LineForm) → all ≡ front ++ (one ∷ behind) → list_all (holds scope) all ≡ true → holds scope one ≡ true
    held_at all [] behind one is told = (and_parts (holds scope one) (list_all (holds scope) behind) (ap (list_all (holds scope)) (sym is) ∙ told)).0
    held_at all (x ∷ front) behind one is told =
        held_at (front ++ (one ∷ behind)) front behind one refl
        (and_parts (holds scope x) (list_all (holds scope) (front ++ (one ∷ behind))) (ap (list_all (holds scope)) (sym is) ∙ told)).1

-- ---- A unit

-- A line of a unit: it has no block, or opens the step.
record IsUnitHead (unit : Unit) (headed : Headed) : Type 0 where
  held : holds (UnitScope unit) headed.head ≡ true
  block : (headed.block ≡ [])
      ⊎ ((headed.head ≡ form.Step) × ((lines : List Line) × (headed.block ≡ sites (StepScope unit) [] (map alone (flat_map line_forms lines)))))

unit_part_heads : (unit : Unit) (part : UnitPart) → AllByRecursion (IsUnitHead unit) (headed_unit_part unit part)
unit_part_heads unit (parts.Resolution decimals) = (record { held = refl; block = inl refl }, _)
unit_part_heads unit (parts.HasParam param) = (record { held = refl; block = inl refl }, _)
unit_part_heads unit (parts.HasState state) = (record { held = refl; block = inl refl }, _)
unit_part_heads unit (parts.HasLocal local) = (record { held = refl; block = inl refl }, _)
unit_part_heads unit (parts.HasInput input) = (record { held = refl; block = inl refl }, _)
unit_part_heads unit (parts.HasEventIn event) = (record { held = refl; block = inl refl }, _)
unit_part_heads unit (parts.HasOutput output) = (record { held = refl; block = inl refl }, _)
unit_part_heads unit (parts.HasEventOut event) = (record { held = refl; block = inl refl }, _)
unit_part_heads unit (parts.Max value) = (record { held = refl; block = inl refl }, _)
unit_part_heads unit (parts.Step lines) = (record { held = refl; block = inr (refl, (lines, refl)) }, (record { held = refl; block = inl refl }, _))

unit_heads : (unit : Unit) (inside : List UnitPart) → AllByRecursion (IsUnitHead unit) (flat_map (headed_unit_part unit) inside)
unit_heads unit [] = _
unit_heads unit (part ∷ inside) =
    each_append (IsUnitHead unit) (headed_unit_part unit part) (flat_map (headed_unit_part unit) inside) (unit_part_heads unit part) (unit_heads unit inside)

abbrev pub in_unit : Unit → List UnitPart → List Headed
in_unit unit inside = flat_map (headed_unit_part unit) inside ++ (alone form.End ∷ [])

all_unit_heads : (unit : Unit) (inside : List UnitPart) → AllByRecursion (IsUnitHead unit) (in_unit unit inside)
all_unit_heads unit inside =
    each_append (IsUnitHead unit) (flat_map (headed_unit_part unit) inside) (alone form.End ∷ []) (unit_heads unit inside)
    (record { held = refl; block = inl refl }, _)

-- A fact of the sites of a step is true in the block of each line of a unit.
in_step_block : (P : Site → Type 0) (unit : Unit)
    → ((before : List LineForm) (one : LineForm) → P (record { scope = StepScope unit; earlier = before; line = one })) → (headed : Headed)
    → IsUnitHead unit headed → AllByRecursion P headed.block
in_step_block P unit on_step headed is =
    elim (is.block) [
      | inl none ↦ subst (AllByRecursion P) (sym none) _
      | inr step ↦
          subst (AllByRecursion P) (sym step.1.1)
          (each_site P (StepScope unit) [] (map alone (flat_map line_forms step.1.0)) on_step
          (each_alone (λ one. AllByRecursion P one.block) (flat_map line_forms step.1.0) (λ one. _)))
    ]

each_in_step : (P : Site → Type 0) (unit : Unit)
    → ((before : List LineForm) (one : LineForm) → P (record { scope = StepScope unit; earlier = before; line = one })) → (all : List Headed)
    → AllByRecursion (IsUnitHead unit) all → AllByRecursion (λ one. AllByRecursion P one.block) all
each_in_step P unit on_step [] are = _
each_in_step P unit on_step (one ∷ all) are = (in_step_block P unit on_step one are.0, each_in_step P unit on_step all are.1)

-- What is known of a site in the block of a unit that the site `head` opens, after `front`.
in_unit_block : (system : System) (front : List Site) (head : Site) (unit : Unit) (inside : List UnitPart) (inner rest : List Site) (site : Site)
    → IsOpenedBy system (UnitScope unit) head → sites (UnitScope unit) [] (in_unit unit inside) ≡ inner ++ (site ∷ rest)
    → StandsBehind system (front ++ (head ∷ inner)) site
in_unit_block system front head unit inside inner rest site opened is =
    elim (found_at (UnitScope unit) [] (in_unit unit inside) inner rest site is) [
      | inl at ↦
          let are = each_front (IsUnitHead unit) at.front at.this at.others (subst (AllByRecursion (IsUnitHead unit)) at.cut (all_unit_heads unit inside)) in
          let scope_is : site.scope ≡ UnitScope unit = ap (λ s. s.scope) at.site_is in
          let line_is : site.line ≡ at.this.head = ap (λ s. s.line) at.site_is in
          record {
            outside = front ++ (head ∷ []);
            inside = inner;
            cut = sym (append_assoc front (head ∷ []) inner);
            opened = rw (scope_is) (front, head, refl, opened);
            within = rw (scope_is)
                (subst (AllByRecursion (λ other. IsWithin (UnitScope unit) other.scope)) (sym at.before_is)
                (each_site (λ other. IsWithin (UnitScope unit) other.scope) (UnitScope unit) [] at.front (λ before one. inl refl)
                (each_in_step (λ other. IsWithin (UnitScope unit) other.scope) unit (λ before one. inr refl) at.front are.0)));
            earlier =
                rw (scope_is)
                (ap (λ s. s.earlier) at.site_is
                ∙ sym (ap (on_level (UnitScope unit)) at.before_is
                ∙ heads_on_level (UnitScope unit) [] at.front
                (each_in_step (λ other. are_level (UnitScope unit) other.scope ≡ false) unit (λ before one. refl) at.front are.0)));
            held = rw (scope_is, line_is) (are.1.held);
          }
      | inr at ↦
          let are = each_front (IsUnitHead unit) at.front at.this at.others (subst (AllByRecursion (IsUnitHead unit)) at.cut (all_unit_heads unit inside)) in
          elim (are.1.block) [
            | inl none ↦ absurd (none_cut at.inner site at.rest (sym none ∙ at.block))
            | inr step ↦
                let opener = site_at (UnitScope unit) [] at.front at.this in
                let outside = front ++ (head ∷ sites (UnitScope unit) [] at.front) in
                let behind : StandsBehind system (outside ++ (opener ∷ at.inner)) site =
                in_alone_block system outside opener (StepScope unit) (flat_map line_forms step.1.0) at.inner at.rest site (sym step.1.1 ∙ at.block)
                (λ one same. subst (λ s. Opens system s (outside ++ (opener ∷ []))) (sym same) (outside, opener, refl, (refl, step.0)))
                (λ one before. refl)
                (all_step_lines step.1.0) in
                subst (λ b. StandsBehind system b site)
                (append_assoc front (head ∷ sites (UnitScope unit) [] at.front) (opener ∷ at.inner) ∙ ap (λ b. front ++ (head ∷ b)) (sym at.before_is)) behind
          ]
    ]

-- ---- A text

-- Each part of a text is one line with its block.
abbrev pub headed_of : Part → Headed
headed_of (parts.HasUnit name inside) =
    record { head = form.Unit name; block = sites (UnitScope (unit_of name inside)) [] (in_unit (unit_of name inside) inside) }
headed_of (parts.HasInstance instance) = record {
  head = form.Instance instance.name instance.unit;
  block = sites (InstanceScope instance) [] (map alone (map form.Setting instance.settings ++ (form.End ∷ [])));
}
headed_of (parts.Connects wire) = alone (form.Connect wire)
headed_of (parts.Stop seconds) = alone (form.Stop seconds)
headed_of (parts.Longest seconds) = alone (form.Longest seconds)
headed_of (parts.Zero count) = alone (form.Zero count)
headed_of (parts.Rows count) = alone (form.Rows count)
headed_of (parts.Samples port) = alone (form.Sample port)

one_headed : (part : Part) → headed_part part ≡ headed_of part ∷ []
one_headed (parts.HasUnit name inside) = refl
one_headed (parts.HasInstance instance) = refl
one_headed (parts.Connects wire) = refl
one_headed (parts.Stop seconds) = refl
one_headed (parts.Longest seconds) = refl
one_headed (parts.Zero count) = refl
one_headed (parts.Rows count) = refl
one_headed (parts.Samples port) = refl

pub each_headed : (all : List Part) → flat_map headed_part all ≡ map headed_of all
each_headed [] = refl
each_headed (part ∷ all) = rw (one_headed part, each_headed all) refl

record IsTopHead (headed : Headed) : Type 0 where
  held : holds TopScope headed.head ≡ true
  below : IsBelow TopScope headed

settings_are : (instance : Instance) → list_all (holds (InstanceScope instance)) (map form.Setting instance.settings ++ (form.End ∷ [])) ≡ true
settings_are instance = all_settings instance.settings
  where
    all_settings : (settings : List _) → list_all (holds (InstanceScope instance)) (map form.Setting settings ++ (form.End ∷ [])) ≡ true
    all_settings [] = refl
    all_settings (x ∷ xs) = all_settings xs

top_head : (part : Part) → IsTopHead (headed_of part)
top_head (parts.HasUnit name inside) = record {
  held = refl;
  below = each_site (λ other. are_level TopScope other.scope ≡ false) (UnitScope (unit_of name inside)) [] (in_unit (unit_of name inside) inside)
      (λ before one. refl)
      (each_in_step (λ other. are_level TopScope other.scope ≡ false) (unit_of name inside) (λ before one. refl) (in_unit (unit_of name inside) inside)
      (all_unit_heads (unit_of name inside) inside));
}
top_head (parts.HasInstance instance) = record {
  held = refl;
  below = each_site (λ other. are_level TopScope other.scope ≡ false) (InstanceScope instance) []
      (map alone (map form.Setting instance.settings ++ (form.End ∷ []))) (λ before one. refl)
      (each_alone (λ one. AllByRecursion (λ other. are_level TopScope other.scope ≡ false) one.block) (map form.Setting instance.settings ++ (form.End ∷ []))
      (λ one. _));
}
top_head (parts.Connects wire) = record { held = refl; below = _ }
top_head (parts.Stop seconds) = record { held = refl; below = _ }
top_head (parts.Longest seconds) = record { held = refl; below = _ }
top_head (parts.Zero count) = record { held = refl; below = _ }
top_head (parts.Rows count) = record { held = refl; below = _ }
top_head (parts.Samples port) = record { held = refl; below = _ }

top_heads : (all : List Part) → AllByRecursion IsTopHead (map headed_of all)
top_heads [] = _
top_heads (part ∷ all) = (top_head part, top_heads all)

each_below : (all : List Headed) → AllByRecursion IsTopHead all → AllByRecursion (IsBelow TopScope) all
each_below [] are = _
each_below (one ∷ all) are = (are.0.below, each_below all are.1)

all_within : (all : List Site) → AllByRecursion (λ other. IsWithin TopScope other.scope) all
all_within [] = _
all_within (x ∷ xs) = (_, all_within xs)

-- ---- Which unit, and which instance

abbrev pub unit_part : Unit → Part
unit_part unit = parts.HasUnit unit.name (unit_parts unit)

abbrev is_unit_part : Part → Bool
is_unit_part (parts.HasUnit name inside) = true
is_unit_part _ = false

abbrev is_instance_part : Part → Bool
is_instance_part (parts.HasInstance instance) = true
is_instance_part _ = false

same_units : (part : Part) → is_unit_line (headed_of part).head ≡ is_unit_part part
same_units (parts.HasUnit name inside) = refl
same_units (parts.HasInstance instance) = refl
same_units (parts.Connects wire) = refl
same_units (parts.Stop seconds) = refl
same_units (parts.Longest seconds) = refl
same_units (parts.Zero count) = refl
same_units (parts.Rows count) = refl
same_units (parts.Samples port) = refl

same_instances : (part : Part) → is_instance_line (headed_of part).head ≡ is_instance_part part
same_instances (parts.HasUnit name inside) = refl
same_instances (parts.HasInstance instance) = refl
same_instances (parts.Connects wire) = refl
same_instances (parts.Stop seconds) = refl
same_instances (parts.Longest seconds) = refl
same_instances (parts.Zero count) = refl
same_instances (parts.Rows count) = refl
same_instances (parts.Samples port) = refl

count_one : (first second : Bool) (xs : List LineForm) (ys : List Part) (x : LineForm) (y : Part) → first ≡ second → length xs ≡ length ys
    → length (cond first (x ∷ xs) xs) ≡ length (cond second (y ∷ ys) ys)
count_one true true xs ys x y same rest = ap suc rest
count_one false false xs ys x y same rest = rest
count_one true false xs ys x y same rest = absurd (cc same)
count_one false true xs ys x y same rest = absurd (cc same)

same_count : (test : LineForm → Bool) (of_part : Part → Bool) → ((part : Part) → test (headed_of part).head ≡ of_part part) → (all : List Part)
    → length (filter test (heads (map headed_of all))) ≡ length (filter of_part all)
same_count test of_part same [] = refl
same_count test of_part same (part ∷ all) =
    count_one (test (headed_of part).head) (of_part part) (filter test (heads (map headed_of all))) (filter of_part all) (headed_of part).head part
    (same part) (same_count test of_part same all)

-- The unit of a part that is among the canonical parts.
record UnitAt (units : List Unit) (before : List Part) (name : List ℕ) (inside : List UnitPart) : Type 0 where
  unit : Unit
  at : slice_get units (length (filter is_unit_part before)) ≡ Some unit
  name_is : name ≡ unit.name
  inside_is : inside ≡ unit_parts unit

unit_at : (units : List Unit) (others before later : List Part) (name : List ℕ) (inside : List UnitPart)
    → AllByRecursion (λ part. is_unit_part part ≡ false) others → map unit_part units ++ others ≡ before ++ (parts.HasUnit name inside ∷ later)
    → UnitAt units before name inside
unit_at [] others before later name inside none is = let found =
    each_front (λ part. is_unit_part part ≡ false) before (parts.HasUnit name inside) later
    (subst (AllByRecursion (λ part. is_unit_part part ≡ false)) is none) in
    absurd (cc found.1)
unit_at (unit ∷ units) others [] later name inside none is =
    let names : name ≡ unit.name = cc in
    let insides : inside ≡ unit_parts unit = cc in
    record { unit = unit; at = refl; name_is = names; inside_is = insides }
unit_at (unit ∷ units) others (x ∷ before) later name inside none is =
    let here : x ≡ unit_part unit = cc in
    let tail : map unit_part units ++ others ≡ before ++ (parts.HasUnit name inside ∷ later) = cc in
    let found = unit_at units others before later name inside none tail in
    record {
      unit = found.unit;
      at =
          subst (λ p. slice_get (unit ∷ units) (length (filter is_unit_part (p ∷ before))) ≡ Some found.unit) (sym here) found.at;
      name_is =
          found.name_is;
      inside_is = found.inside_is;
    }

instance_at : (instances : List Instance) (others before later : List Part) (instance : Instance)
    → AllByRecursion (λ part. is_instance_part part ≡ false) others
    → map parts.HasInstance instances ++ others ≡ before ++ (parts.HasInstance instance ∷ later)
    → slice_get instances (length (filter is_instance_part before)) ≡ Some instance
instance_at [] others before later instance none is = let found =
    each_front (λ part. is_instance_part part ≡ false) before (parts.HasInstance instance) later
    (subst (AllByRecursion (λ part. is_instance_part part ≡ false)) is none) in
    absurd (cc found.1)
instance_at (first ∷ instances) others [] later instance none is = let here : first ≡ instance = cc in ap Some here
instance_at (first ∷ instances) others (x ∷ before) later instance none is =
    let here : x ≡ parts.HasInstance first = cc in
    let tail : map parts.HasInstance instances ++ others ≡ before ++ (parts.HasInstance instance ∷ later) = cc in
    subst (λ p. slice_get (first ∷ instances) (length (filter is_instance_part (p ∷ before))) ≡ Some instance) (sym here)
    (instance_at instances others before later instance none tail)

instance_behind : (units : List Unit) (instances : List Instance) (others before later : List Part) (instance : Instance)
    → AllByRecursion (λ part. is_instance_part part ≡ false) others
    → map unit_part units ++ (map parts.HasInstance instances ++ others) ≡ before ++ (parts.HasInstance instance ∷ later)
    → slice_get instances (length (filter is_instance_part before)) ≡ Some instance
instance_behind [] instances others before later instance none is = instance_at instances others before later instance none is
instance_behind (unit ∷ units) instances others [] later instance none is = absurd (cc)
instance_behind (unit ∷ units) instances others (x ∷ before) later instance none is =
    let here : x ≡ unit_part unit = cc in
    let tail : map unit_part units ++ (map parts.HasInstance instances ++ others) ≡ before ++ (parts.HasInstance instance ∷ later) = cc in
    subst (λ p. slice_get instances (length (filter is_instance_part (p ∷ before))) ≡ Some instance) (sym here)
    (instance_behind units instances others before later instance none tail)

each_optional : {A : Type 0} (P : Part → Type 0) (f : A → Part) (given : Option A) → ((x : A) → P (f x)) → AllByRecursion P (optional f given)
each_optional P f None on = _
each_optional P f (Some x) on = (on x, _)

abbrev pub parts_behind : System → List Part
parts_behind system =
    map parts.Connects system.wires
    ++ (optional parts.Stop system.stop
    ++ (optional parts.Longest system.longest ++ (optional parts.Zero system.zero ++ (optional parts.Rows system.rows ++ map parts.Samples system.samples))))

pub canonical_are : (system : System) → canonical_parts system ≡ map unit_part system.units ++ (map parts.HasInstance system.instances ++ parts_behind system)
canonical_are system =
    grouped (map unit_part system.units) (map parts.HasInstance system.instances) (map parts.Connects system.wires) (optional parts.Stop system.stop)
    (optional parts.Longest system.longest) (optional parts.Zero system.zero) (optional parts.Rows system.rows) (map parts.Samples system.samples)

behind_are : (test : Part → Bool) (system : System) → ((x : _) → test (parts.Connects x) ≡ false) → ((x : _) → test (parts.Stop x) ≡ false)
    → ((x : _) → test (parts.Longest x) ≡ false) → ((x : ℕ) → test (parts.Zero x) ≡ false) → ((x : ℕ) → test (parts.Rows x) ≡ false)
    → ((x : _) → test (parts.Samples x) ≡ false) → AllByRecursion (λ part. test part ≡ false) (parts_behind system)
behind_are test system connects stop longest zero rows samples =
    each_append (λ part. test part ≡ false) _ _ (each_map (λ part. test part ≡ false) parts.Connects system.wires connects)
    (each_append (λ part. test part ≡ false) _ _ (each_optional (λ part. test part ≡ false) parts.Stop system.stop stop)
    (each_append (λ part. test part ≡ false) _ _ (each_optional (λ part. test part ≡ false) parts.Longest system.longest longest)
    (each_append (λ part. test part ≡ false) _ _ (each_optional (λ part. test part ≡ false) parts.Zero system.zero zero)
    (each_append (λ part. test part ≡ false) _ _ (each_optional (λ part. test part ≡ false) parts.Rows system.rows rows)
    (each_map (λ part. test part ≡ false) parts.Samples system.samples samples)))))

-- A site in the block of a part, after the header and other parts.
in_part : (system : System) (front : List Part) (part : Part) (later : List Part) (inner rest : List Site) (site : Site)
    → map unit_part system.units ++ (map parts.HasInstance system.instances ++ parts_behind system) ≡ front ++ (part ∷ later)
    → (headed_of part).block ≡ inner ++ (site ∷ rest)
    → StandsBehind system
    (sites TopScope [] (alone (form.Header system.version) ∷ map headed_of front)
    ++ (site_at TopScope [] (alone (form.Header system.version) ∷ map headed_of front) (headed_of part) ∷ inner)) site
in_part system front (parts.HasUnit name inside) later inner rest site is block =
    let none = behind_are is_unit_part system (λ x. refl) (λ x. refl) (λ x. refl) (λ x. refl) (λ x. refl) (λ x. refl) in
    let found =
    unit_at system.units (map parts.HasInstance system.instances ++ parts_behind system) front later name inside
    (each_append (λ part. is_unit_part part ≡ false) (map parts.HasInstance system.instances) (parts_behind system)
    (each_map (λ part. is_unit_part part ≡ false) parts.HasInstance system.instances (λ x. refl)) none) is in
    let said : unit_of name inside ≡ found.unit = ap (λ n. unit_of n inside) found.name_is ∙ ap (unit_of found.unit.name) found.inside_is
    ∙ unit_is found.unit in
    in_unit_block system (sites TopScope [] (alone (form.Header system.version) ∷ map headed_of front))
    (site_at TopScope [] (alone (form.Header system.version) ∷ map headed_of front) (headed_of (parts.HasUnit name inside)))
    (unit_of name inside) inside inner rest site (
      refl,
      ap form.Unit (found.name_is ∙ ap (λ u. u.name) (sym said)),
      ap (slice_get system.units) (same_count is_unit_line is_unit_part same_units front)
          ∙ found.at ∙ ap Some (sym said),
    )
    block
in_part system front (parts.HasInstance instance) later inner rest site is block =
    let none = behind_are is_instance_part system (λ x. refl) (λ x. refl) (λ x. refl) (λ x. refl) (λ x. refl) (λ x. refl) in
    let at = instance_behind system.units system.instances (parts_behind system) front later instance none is in
    let outside = sites TopScope [] (alone (form.Header system.version) ∷ map headed_of front) in
    let opener = site_at TopScope [] (alone (form.Header system.version) ∷ map headed_of front) (headed_of (parts.HasInstance instance)) in
    in_alone_block system outside opener (InstanceScope instance) (map form.Setting instance.settings ++ (form.End ∷ [])) inner rest site block
    (λ one same.
    subst (λ s. Opens system s (outside ++ (opener ∷ []))) (sym same)
    (outside, opener, refl, (refl, refl, ap (slice_get system.instances) (same_count is_instance_line is_instance_part same_instances front) ∙ at)))
    (λ one before. refl)
    (settings_are instance)
in_part system front (parts.Connects wire) later inner rest site is block = absurd (none_cut inner site rest block)
in_part system front (parts.Stop seconds) later inner rest site is block = absurd (none_cut inner site rest block)
in_part system front (parts.Longest seconds) later inner rest site is block = absurd (none_cut inner site rest block)
in_part system front (parts.Zero count) later inner rest site is block = absurd (none_cut inner site rest block)
in_part system front (parts.Rows count) later inner rest site is block = absurd (none_cut inner site rest block)
in_part system front (parts.Samples port) later inner rest site is block = absurd (none_cut inner site rest block)

-- The same, where only the list of heads is known.
in_head : (system : System) (front : List Headed) (this : Headed) (others : List Headed) (inner rest : List Site) (site : Site)
    → alone (form.Header system.version) ∷ map headed_of (canonical_parts system) ≡ front ++ (this ∷ others) → this.block ≡ inner ++ (site ∷ rest)
    → StandsBehind system (sites TopScope [] front ++ (site_at TopScope [] front this ∷ inner)) site
in_head system [] this others inner rest site is block =
    let here : this ≡ alone (form.Header system.version) = cc in
    absurd (none_cut inner site rest (ap (λ h. h.block) (sym here) ∙ block))
in_head system (first ∷ front) this others inner rest site is block =
    let here : alone (form.Header system.version) ≡ first = cc in
    let tail : map headed_of (canonical_parts system) ≡ front ++ (this ∷ others) = cc in
    let found = cut_of_map headed_of (canonical_parts system) front others this tail in
    let known = in_part system found.front found.x found.behind inner rest site (sym (canonical_are system) ∙ found.cut) (ap (λ h. h.block) found.is ∙ block) in
    subst (λ one. StandsBehind system (sites TopScope [] (one ∷ front) ++ (site_at TopScope [] (one ∷ front) this ∷ inner)) site) here
    (subst
    (λ all. StandsBehind system
    (sites TopScope [] (alone (form.Header system.version) ∷ all) ++ (site_at TopScope [] (alone (form.Header system.version) ∷ all) this ∷ inner)) site)
    (sym found.front_is)
    (subst
    (λ one. StandsBehind system
    (sites TopScope [] (alone (form.Header system.version) ∷ map headed_of found.front)
    ++ (site_at TopScope [] (alone (form.Header system.version) ∷ map headed_of found.front) one ∷ inner)) site) found.is known))

at_top : (system : System) (before : List Site) (site : Site)
    → AtHead TopScope [] (alone (form.Header system.version) ∷ map headed_of (canonical_parts system)) before site → StandsBehind system before site
at_top system before site at =
    let all : AllByRecursion IsTopHead (alone (form.Header system.version) ∷ map headed_of (canonical_parts system)) =
    (record { held = refl; below = _ }, top_heads (canonical_parts system)) in
    let are = each_front IsTopHead at.front at.this at.others (subst (AllByRecursion IsTopHead) at.cut all) in
    let scope_is : site.scope ≡ TopScope = ap (λ s. s.scope) at.site_is in
    let line_is : site.line ≡ at.this.head = ap (λ s. s.line) at.site_is in
    record {
      outside = [];
      inside = before;
      cut = refl;
      opened = rw (scope_is) refl;
      within = rw (scope_is) (all_within before);
      earlier =
          rw (scope_is)
          (ap (λ s. s.earlier) at.site_is ∙ sym (ap (on_level TopScope) at.before_is ∙ heads_on_level TopScope [] at.front (each_below at.front are.0)));
      held = rw (scope_is, line_is) (are.1.held);
    }

pub stands_behind : (system : System) (before later : List Site) (site : Site) → sites_of system ≡ before ++ (site ∷ later) → StandsBehind system before site
stands_behind system before later site is =
    let known : sites TopScope [] (alone (form.Header system.version) ∷ map headed_of (canonical_parts system)) ≡ before ++ (site ∷ later) =
    ap (λ all. sites TopScope [] (alone (form.Header system.version) ∷ all)) (sym (each_headed (canonical_parts system))) ∙ is in
    elim (found_at TopScope [] (alone (form.Header system.version) ∷ map headed_of (canonical_parts system)) before later site known) [
      | inl at ↦ at_top system before site at
      | inr at ↦ subst (λ b. StandsBehind system b site) (sym at.before_is) (in_head system at.front at.this at.others at.inner at.rest site at.cut at.block)
    ]
