-- Each site of a system has the scope that the lines before it leave open.
use Rattle.std.specs.Prelude.{⊤}
use Rattle.std.proofs.Common.{◌≡◌, true, List, [], ◌∷◌, ◌++◌, map, refl, ap, sym, subst, ◌∙◌}
use Rattle.std.specs.List.{flat_map, fold}
use Rattle.std.proofs.lemmas.List.{map-append}
use Rattle.std.proofs.lemmas.List.Sums.{fold-append}
use Rattle.unit_tree.specs.Blocks.{Block, InUnit, InStep, InInstance, behind, no_lines, open_blocks}
use Rattle.unit_tree.specs.Canonical.{canonical_parts}
use Rattle.unit_tree.specs.Parts as parts
use Rattle.unit_tree.specs.Parts.{Part, UnitPart, line_forms, unit_of}
use Rattle.unit_tree.specs.Sites.{Scope, TopScope, UnitScope, StepScope, InstanceScope, Site, alone, sites, headed_unit_part, headed_part, sites_of}
use Rattle.unit_tree.specs.Sites.{is_scope_in}
use Rattle.unit_tree.specs.declared.line.Line.{Line}
use Rattle.unit_tree.specs.declared.line_form.LineForm.{LineForm}
use Rattle.unit_tree.specs.declared.line_form.LineForm.TheVariants as form
use Rattle.unit_tree.specs.declared.system.Instance.{Instance}
use Rattle.unit_tree.specs.declared.system.Setting.{Setting}
use Rattle.unit_tree.specs.declared.system.System.{System}
use Rattle.unit_tree.specs.declared.unit.Unit.{Unit}
use Rattle.language_laws.proofs.OpenBlocks.{blocks_behind, AreIn, Stay, lines_stay}
use Rattle.language_laws.proofs.SiteLaws.{line_at, alone_in}

-- Each of the sites, after those before it, has its scope.
abbrev pub AreScoped : List Block → List Site → Type 0
AreScoped blocks [] = ⊤
AreScoped blocks (site ∷ all) = (is_scope_in blocks site.scope site.line ≡ true) × AreScoped (behind blocks site.line) all

-- Such sites, and the blocks that they leave open.
pub record Pass (blocks : List Block) (all : List Site) (after : List Block) : Type 0 where
  pub leave : fold behind blocks (map line_at all) ≡ after
  pub scoped : AreScoped blocks all

pub both_scoped : (blocks : List Block) (xs ys : List Site) → AreScoped blocks xs → AreScoped (fold behind blocks (map line_at xs)) ys
    → AreScoped blocks (xs ++ ys)
both_scoped blocks [] ys on_xs on_ys = on_ys
both_scoped blocks (x ∷ xs) ys on_xs on_ys = (on_xs.0, both_scoped (behind blocks x.line) xs ys on_xs.1 on_ys)

pub pass_both : (blocks between after : List Block) (xs ys : List Site) → Pass blocks xs between → Pass between ys after → Pass blocks (xs ++ ys) after
pass_both blocks between after xs ys on_xs on_ys = record {
  leave =
      ap (fold behind blocks) (map-append line_at xs ys)
      ∙ fold-append behind blocks (map line_at xs) (map line_at ys)
      ∙ ap (λ all. fold behind all (map line_at ys)) on_xs.leave
      ∙ on_ys.leave;
  scoped = both_scoped blocks xs ys on_xs.scoped (subst (λ all. AreScoped all ys) (sym on_xs.leave) on_ys.scoped);
}

pub pass_one : (blocks after : List Block) (site : Site) (all : List Site) → is_scope_in blocks site.scope site.line ≡ true
    → Pass (behind blocks site.line) all after → Pass blocks (site ∷ all) after
pass_one blocks after site all is rest = record { leave = rest.leave; scoped = (is, rest.scoped) }

pub pass_none : (blocks : List Block) → Pass blocks [] blocks
pass_none blocks = record { leave = refl; scoped = _ }

-- Lines without blocks.
pub alone_scoped : (scope : Scope) (earlier : List LineForm) (blocks : List Block) (lines : List LineForm) → AreIn scope blocks lines
    → AreScoped blocks (sites scope earlier (map alone lines))
alone_scoped scope earlier blocks [] are = _
alone_scoped scope earlier blocks (line ∷ lines) are = (are.0, alone_scoped scope (earlier ++ (line ∷ [])) (behind blocks line) lines are.1)

pub alone_pass : (scope : Scope) (blocks after : List Block) (lines : List LineForm) → Stay scope blocks lines after
    → Pass blocks (sites scope [] (map alone lines)) after
alone_pass scope blocks after lines stay =
    record { leave = ap (fold behind blocks) (alone_in scope lines) ∙ stay.leave; scoped = alone_scoped scope [] blocks lines stay.are_in }

-- ---- A unit

pub step_pass : (unit : Unit) (lines : List Line)
    → Pass (InStep ∷ InUnit ∷ []) (sites (StepScope unit) [] (map alone (flat_map line_forms lines))) (InStep ∷ InUnit ∷ [])
step_pass unit lines =
    alone_pass (StepScope unit) (InStep ∷ InUnit ∷ []) (InStep ∷ InUnit ∷ []) (flat_map line_forms lines) (lines_stay unit lines (InStep ∷ InUnit ∷ []) refl)

pub unit_pass : (unit : Unit) (earlier : List LineForm) (inside : List UnitPart)
    → Pass (InUnit ∷ []) (sites (UnitScope unit) earlier (flat_map (headed_unit_part unit) inside ++ (alone form.End ∷ []))) []
unit_pass unit earlier [] = record { leave = refl; scoped = (refl, _) }
unit_pass unit earlier (parts.Resolution decimals ∷ inside) =
    pass_one (InUnit ∷ []) [] _ _ refl (unit_pass unit (earlier ++ (form.Resolution decimals ∷ [])) inside)
unit_pass unit earlier (parts.HasParam param ∷ inside) = pass_one (InUnit ∷ []) [] _ _ refl (unit_pass unit (earlier ++ (form.Param param ∷ [])) inside)
unit_pass unit earlier (parts.HasState state ∷ inside) = pass_one (InUnit ∷ []) [] _ _ refl (unit_pass unit (earlier ++ (form.State state ∷ [])) inside)
unit_pass unit earlier (parts.HasLocal local ∷ inside) = pass_one (InUnit ∷ []) [] _ _ refl (unit_pass unit (earlier ++ (form.Local local ∷ [])) inside)
unit_pass unit earlier (parts.HasInput input ∷ inside) = pass_one (InUnit ∷ []) [] _ _ refl (unit_pass unit (earlier ++ (form.Input input ∷ [])) inside)
unit_pass unit earlier (parts.HasEventIn event ∷ inside) = pass_one (InUnit ∷ []) [] _ _ refl (unit_pass unit (earlier ++ (form.EventInput event ∷ [])) inside)
unit_pass unit earlier (parts.HasOutput output ∷ inside) = pass_one (InUnit ∷ []) [] _ _ refl (unit_pass unit (earlier ++ (form.Output output ∷ [])) inside)
unit_pass unit earlier (parts.HasEventOut event ∷ inside) =
    pass_one (InUnit ∷ []) [] _ _ refl (unit_pass unit (earlier ++ (form.EventOutput event ∷ [])) inside)
unit_pass unit earlier (parts.Max value ∷ inside) = pass_one (InUnit ∷ []) [] _ _ refl (unit_pass unit (earlier ++ (form.Max value ∷ [])) inside)
unit_pass unit earlier (parts.Step lines ∷ inside) =
    pass_one (InUnit ∷ []) [] _ _ refl
    (pass_both (InStep ∷ InUnit ∷ []) (InStep ∷ InUnit ∷ []) [] (sites (StepScope unit) [] (map alone (flat_map line_forms lines))) _ (step_pass unit lines)
    (pass_one (InStep ∷ InUnit ∷ []) [] _ _ refl (unit_pass unit ((earlier ++ (form.Step ∷ [])) ++ (form.End ∷ [])) inside)))

-- ---- A text

pub settings_stay : (instance : Instance) (settings : List Setting)
    → Stay (InstanceScope instance) (InInstance ∷ []) (map form.Setting settings ++ (form.End ∷ [])) []
settings_stay instance [] = record { leave = refl; are_in = (refl, _) }
settings_stay instance (setting ∷ settings) = let rest = settings_stay instance settings in record { leave = rest.leave; are_in = (refl, rest.are_in) }

pub text_pass : (earlier : List LineForm) (all : List Part) → Pass [] (sites TopScope earlier (flat_map headed_part all)) []
text_pass earlier [] = pass_none []
text_pass earlier (parts.HasUnit name inside ∷ all) =
    pass_one [] [] _ _ refl
    (pass_both (InUnit ∷ []) [] []
    (sites (UnitScope (unit_of name inside)) [] (flat_map (headed_unit_part (unit_of name inside)) inside ++ (alone form.End ∷ []))) _
    (unit_pass (unit_of name inside) [] inside) (text_pass (earlier ++ (form.Unit name ∷ [])) all))
text_pass earlier (parts.HasInstance instance ∷ all) =
    pass_one [] [] _ _ refl
    (pass_both (InInstance ∷ []) [] [] (sites (InstanceScope instance) [] (map alone (map form.Setting instance.settings ++ (form.End ∷ [])))) _
    (alone_pass (InstanceScope instance) (InInstance ∷ []) [] (map form.Setting instance.settings ++ (form.End ∷ []))
    (settings_stay instance instance.settings))
    (text_pass (earlier ++ (form.Instance instance.name instance.unit ∷ [])) all))
text_pass earlier (parts.Connects wire ∷ all) = pass_one [] [] _ _ refl (text_pass (earlier ++ (form.Connect wire ∷ [])) all)
text_pass earlier (parts.Stop seconds ∷ all) = pass_one [] [] _ _ refl (text_pass (earlier ++ (form.Stop seconds ∷ [])) all)
text_pass earlier (parts.Longest seconds ∷ all) = pass_one [] [] _ _ refl (text_pass (earlier ++ (form.Longest seconds ∷ [])) all)
text_pass earlier (parts.Zero count ∷ all) = pass_one [] [] _ _ refl (text_pass (earlier ++ (form.Zero count ∷ [])) all)
text_pass earlier (parts.Rows count ∷ all) = pass_one [] [] _ _ refl (text_pass (earlier ++ (form.Rows count ∷ [])) all)
text_pass earlier (parts.Samples port ∷ all) = pass_one [] [] _ _ refl (text_pass (earlier ++ (form.Sample port ∷ [])) all)

pub system_pass : (system : System) → Pass [] (sites_of system) []
system_pass system = pass_one [] [] _ _ refl (text_pass (form.Header system.version ∷ []) (canonical_parts system))

-- ---- One site

pub scoped_at : (blocks : List Block) (before later : List Site) (site : Site) → AreScoped blocks (before ++ (site ∷ later))
    → is_scope_in (fold behind blocks (map line_at before)) site.scope site.line ≡ true
scoped_at blocks [] later site all = all.0
scoped_at blocks (one ∷ before) later site all = scoped_at (behind blocks one.line) before later site all.1

pub has_scope : (system : System) (before later : List Site) (site : Site) → sites_of system ≡ before ++ (site ∷ later)
    → is_scope_in (open_blocks (map (λ one. one.line) before)) site.scope site.line ≡ true
has_scope system before later site is =
    subst (λ blocks. is_scope_in blocks site.scope site.line ≡ true) (sym (blocks_behind no_lines (map line_at before)))
    (scoped_at [] before later site (subst (AreScoped []) is (system_pass system).scoped))
