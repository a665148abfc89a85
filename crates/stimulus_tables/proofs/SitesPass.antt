-- A line that no rule refuses.
use Rattle.std.proofs.Common.{◌≡◌, false, refl}
use Rattle.text_laws.proofs.KeptRules.{Keeps}
use Rattle.unit_tree.specs.Sites.{Site}
use Rattle.unit_tree.specs.WellFormed.{assigns_read_only, connects_again, costs_too_much, exceeds, has_deep_expression, has_too_many_rows, hides_need, is_of_wrong_kind, is_out_of_range, joins_other_types, lacks_instance, lacks_stop, misnames, mistimes, redeclares, repeats_itself}
use Rattle.unit_tree.specs.declared.system.System.{System}

-- The line of a site breaks no rule.
pub record Passes (system : System) (site : Site) : Type 0 where
  pub new : redeclares system site ≡ false
  pub named : misnames system site.scope site.line ≡ false
  pub kinded : is_of_wrong_kind system site ≡ false
  pub in_range : is_out_of_range system site ≡ false
  pub needed : hides_need site.scope site.line ≡ false
  pub free : connects_again system site ≡ false
  pub joined : joins_other_types system site.line ≡ false
  pub few : exceeds system site.scope site.earlier site.line ≡ false
  pub shallow : has_deep_expression system site.scope site.line ≡ false
  pub cheap : costs_too_much system site.scope site.line ≡ false
  pub stopped : lacks_stop system site.line ≡ false
  pub timed : mistimes system site.line ≡ false
  pub narrow : has_too_many_rows system site.line ≡ false
  pub writable : assigns_read_only site.scope site.line ≡ false
  pub peopled : lacks_instance system site.line ≡ false
  pub once : repeats_itself system site ≡ false

pub passed : (system : System) (site : Site) → Passes system site → Keeps system site
passed system site passes =
    rw (passes.new, passes.named, passes.kinded, passes.in_range, passes.needed, passes.free, passes.joined, passes.few, passes.shallow, passes.cheap, passes.stopped, passes.timed, passes.narrow, passes.writable, passes.peopled, passes.once) refl
