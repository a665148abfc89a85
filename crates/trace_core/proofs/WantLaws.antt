-- The required step of an instance fits its code.
use Rattle.std.proofs.Common.{◌≡◌, ◌∙◌, ℕ, zero, suc, ℤ, List, [], ◌∷◌, length, Some, sym, ap}
use Rattle.std.proofs.lemmas.Option.{same_Some}
use Rattle.std.specs.Prelude.{slice_get}
use Rattle.std.specs.List.{AllZip}
use Rattle.code_units.specs.Calls.{HasWordsFor}
use Rattle.unit_exec.specs.Images.{Compiled, IsImageOf}
use Rattle.unit_tree.specs.Components.{Component}
use Rattle.unit_tree.specs.Compositions.{Member}

-- The list of a member has the length that belongs to the member.
pub long_at : (count : Member → ℕ) (members : List Member) (lists : List (List ℤ)) (instance : ℕ) (member : Member) (one : List ℤ)
    → AllZip (λ some list. length list ≡ count some) members lists → slice_get members instance ≡ Some member → slice_get lists instance ≡ Some one
    → length one ≡ count member
long_at count [] lists instance member one all member_is one_is = absurd (cc)
long_at count (first ∷ members) [] instance member one all member_is one_is = absurd (cc)
long_at count (first ∷ members) (list ∷ lists) zero member one all member_is one_is =
    ap length (sym (same_Some list one one_is)) ∙ all.0 ∙ ap count (same_Some first member member_is)
long_at count (first ∷ members) (list ∷ lists) (suc instance) member one all member_is one_is =
    long_at count members lists instance member one all.1 member_is one_is

-- The words of a component's states and inputs are as many as its image needs.
pub words_fit : (component : Component) (image : Compiled) (state inputs : List ℤ) → IsImageOf component image
    → length state ≡ length component.unit.states → length inputs ≡ length component.unit.inputs → HasWordsFor image.program state inputs
words_fit component image state inputs is each_state each_input = record {
  each_state = each_state ∙ sym (ap (λ sizes. sizes.states) is.sizes);
  each_input = each_input ∙ sym (ap (λ sizes. sizes.inputs) is.sizes);
}
