-- Rules in turn.
use Rattle.std.proofs.Common.{◌≡◌, List, [], ◌∷◌, map, Some, None, refl, ap, sym, subst, ◌∙◌}
use Rattle.unit_check.specs.Rules.{Tells, TellsRule, IsFaultOf, breaks_of, defined, judged, number_of}
use Rattle.unit_check.specs.declared.checking.CheckFault.{CheckFault}
use Rattle.unit_check.specs.declared.checking.CheckFault.TheVariants as fault
use Rattle.unit_check.specs.declared.rules.SystemRule.{SystemRule}
use Rattle.unit_tree.specs.WellFormed.{IsWellFormed, lines_breaking, or_later, refusal_by, rules}
use Rattle.unit_tree.specs.declared.system.System.{System}
use Rattle.language_laws.proofs.JudgementLaws.{well_formed}

-- A rule that no line breaks is passed over.
pub passed : (rule : SystemRule) (later : List SystemRule) (system : System) → lines_breaking (defined rule) system ≡ []
    → refusal_by (map defined (rule ∷ later)) system ≡ refusal_by (map defined later) system
passed rule later system none = ap (or_later (defined rule) (refusal_by (map defined later) system)) none

-- A rule that a line breaks is the refusal.
pub stopped : (why : CheckFault) (rule : SystemRule) (later : List SystemRule) (system : System)
    → TellsRule (number_of rule) (lines_breaking (defined rule) system) why → Tells why (refusal_by (map defined (rule ∷ later)) system)
stopped (fault.Line item number) rule later system (is, (others, broken)) =
    ap (or_later (defined rule) (refusal_by (map defined later) system)) broken
    ∙ ap (λ n. Some (record { by = n; at = item })) (let back : number_of rule ≡ number = cc in back)
stopped fault.NoMemory rule later system told = _

-- The rules that are judged are all rules.
judged_is : judged ≡ rules
unfolding breaks_of
judged_is = refl

-- A system that breaks none of them is well-formed.
pub kept : (system : System) → refusal_by judged system ≡ None → IsWellFormed system
kept system none = (well_formed system).1 (ap (λ all. refusal_by all system) (sym judged_is) ∙ none)

-- A fault that is the refusal by these rules is that of the system.
pub refused : (system : System) (why : CheckFault) → Tells why (refusal_by judged system) → IsFaultOf system why
refused system why told = subst (λ all. Tells why (refusal_by all system)) judged_is told
