-- The words of inputs after some were set: the one that was set, or the one before.
use Rattle.std.proofs.Common.{◌≡◌, ◌∙◌, ◌≢◌, ℕ, ◌<◌, ℤ, pos, List, [], ◌∷◌, length, get_or, set, Option, Some, None, inl, inr, refl, ap, sym, subst, ◌⊎◌, arith}
use Rattle.std.proofs.lemmas.Bool.Decides.{eqb_tells}
use Rattle.std.proofs.lemmas.List.{get_or-set_same, get_or-set_other, length-set}
use Rattle.std.proofs.lemmas.Option.{slice_get_within, get_or_from_slice_get}
use Rattle.std.specs.Prelude.{slice_get}
use Rattle.std.specs.Option.{option_and_then}
use Rattle.port_solve.specs.Solved.{HaveInputs, word_in, with_words}
use Rattle.unit_tree.specs.Compositions.{InputSource, Member, Composition}
use Rattle.unit_tree.specs.Given.{with_input}
use Rattle.unit_tree.specs.declared.order.InputAt.{InputAt}
use Rattle.unit_tree.specs.declared.order.StartWord.{StartWord}
use Rattle.port_solve.proofs.InputPlaces.{source_at}
use Rattle.list_laws.proofs.Members.{Has}
use Rattle.list_laws.proofs.Pairs.{zip_at, zip_set}

-- ---- One input

same_or_other : (one other : InputAt) → (one ≡ other) ⊎ (one ≢ other)
same_or_other one other = elim (eqb_tells one.instance other.instance) [
  | inl same_instance ↦ elim (eqb_tells one.input other.input) [
    | inl same_input ↦
        inl (ap (λ i. record { instance = i; input = one.input }) same_instance.1 ∙ ap (λ i. record { instance = other.instance; input = i }) same_input.1)
    | inr other_input ↦ inr (λ is. other_input.1 (ap (λ (at : InputAt). at.input) is))
  ]
  | inr other_instance ↦ inr (λ is. other_instance.1 (ap (λ (at : InputAt). at.instance) is))
]

-- The input exists.
pub record IsThere (inputs : List (List ℤ)) (at : InputAt) : Type 0 where
  pub instance : at.instance < length inputs
  pub input : at.input < length (get_or inputs at.instance [])

abbrev set_at : List (List ℤ) → InputAt → ℤ → List (List ℤ)
set_at inputs at word = with_input inputs at.instance at.input word

set_same : (inputs : List (List ℤ)) (at : InputAt) (word : ℤ) → IsThere inputs at → word_in (set_at inputs at word) at ≡ word
set_same inputs at word there =
    ap (λ words. get_or words at.input (pos 0)) (get_or-set_same inputs at.instance (set (get_or inputs at.instance []) at.input word) [] there.instance)
    ∙ get_or-set_same (get_or inputs at.instance []) at.input word (pos 0) there.input

set_other : (inputs : List (List ℤ)) (at other : InputAt) (word : ℤ) → IsThere inputs other → other ≢ at
    → word_in (set_at inputs at word) other ≡ word_in inputs other
set_other inputs at other word there differ = elim (eqb_tells other.instance at.instance) [
  | inl same ↦
      let other_input : other.input ≢ at.input =
      λ same_input. differ
      (ap (λ i. record { instance = i; input = other.input }) same.1 ∙ ap (λ i. record { instance = at.instance; input = i }) same_input) in
      let within : at.instance < length inputs = subst (λ i. i < length inputs) same.1 there.instance in
      ap (λ i. get_or (get_or (set_at inputs at word) i []) other.input (pos 0)) same.1
      ∙ ap (λ words. get_or words other.input (pos 0)) (get_or-set_same inputs at.instance (set (get_or inputs at.instance []) at.input word) [] within)
      ∙ get_or-set_other (get_or inputs at.instance []) at.input other.input word (pos 0) other_input
      ∙ ap (λ i. get_or (get_or inputs i []) other.input (pos 0)) (sym same.1)
  | inr other_instance ↦
      ap (λ words. get_or words other.input (pos 0))
      (get_or-set_other inputs at.instance other.instance (set (get_or inputs at.instance []) at.input word) [] other_instance.1)
]

-- ---- Shapes

abbrev HasLength : Member → List ℤ → Type 0
HasLength member words = length words ≡ length member.component.unit.inputs

pub shape_set : (run : Composition) (inputs : List (List ℤ)) (at : InputAt) (word : ℤ) → HaveInputs run inputs
    → HaveInputs run (with_input inputs at.instance at.input word)
shape_set run inputs at word shape =
    zip_set HasLength run.members inputs at.instance [] (set (get_or inputs at.instance []) at.input word) shape
    (λ member is. length-set (get_or inputs at.instance []) at.input word ∙ is)

pub shape_after : (run : Composition) (starts : List StartWord) (inputs : List (List ℤ)) → HaveInputs run inputs → HaveInputs run (with_words inputs starts)
shape_after run [] inputs shape = shape
shape_after run (first ∷ starts) inputs shape = shape_after run starts (set_at inputs first.at first.word) (shape_set run inputs first.at first.word shape)

-- ---- Inputs with a source exist

pub record SourceIn (run : Composition) (inputs : List (List ℤ)) (at : InputAt) (source : InputSource) : Type 0 where
  pub member : Member
  pub member_is : slice_get run.members at.instance ≡ Some member
  pub is : slice_get member.sources at.input ≡ Some source
  pub words : List ℤ
  pub words_are : slice_get inputs at.instance ≡ Some words
  pub same : length words ≡ length member.component.unit.inputs

source_by : (run : Composition) (inputs : List (List ℤ)) (at : InputAt) (source : InputSource) (found : Option Member) → HaveInputs run inputs
    → slice_get run.members at.instance ≡ found → option_and_then (λ (member : Member). slice_get member.sources at.input) found ≡ Some source
    → SourceIn run inputs at source
source_by run inputs at source None shape found is = absurd (cc)
source_by run inputs at source (Some member) shape found is =
    let beside = zip_at HasLength run.members inputs at.instance member shape found in
    record { member = member; member_is = found; is = is; words = beside.other; words_are = beside.is; same = beside.related }

pub source_in : (run : Composition) (inputs : List (List ℤ)) (at : InputAt) (source : InputSource) → HaveInputs run inputs → source_at run at ≡ Some source
    → SourceIn run inputs at source
source_in run inputs at source shape is = source_by run inputs at source (slice_get run.members at.instance) shape refl is

pub is_there : (run : Composition) (inputs : List (List ℤ)) (at : InputAt) (source : InputSource)
    → ((member : Member) → slice_get run.members at.instance ≡ Some member → length member.sources ≡ length member.component.unit.inputs)
    → HaveInputs run inputs → source_at run at ≡ Some source → IsThere inputs at
is_there run inputs at source one_each shape is =
    let from = source_in run inputs at source shape is in
    let words : get_or inputs at.instance [] ≡ from.words = get_or_from_slice_get inputs at.instance from.words [] from.words_are in
    record {
      instance = slice_get_within inputs at.instance from.words from.words_are;
      input = omega (arith, ap length words, from.same, one_each from.member from.member_is, slice_get_within from.member.sources at.input source from.is);
    }

-- ---- All inputs that are set

module _ (run : Composition)
    (one_each : (at : ℕ) (member : Member) → slice_get run.members at ≡ Some member → length member.sources ≡ length member.component.unit.inputs)
    (at : InputAt) (source : InputSource) (is : source_at run at ≡ Some source) (word : ℤ) where
  there_now : (inputs : List (List ℤ)) → HaveInputs run inputs → IsThere inputs at
  there_now inputs shape = is_there run inputs at source (one_each at.instance) shape is

  after_one : (inputs : List (List ℤ)) (first : StartWord) → HaveInputs run inputs → (first.at ≡ at → first.word ≡ word)
      → (word_in inputs at ≡ word) ⊎ (first.at ≡ at) → word_in (set_at inputs first.at first.word) at ≡ word
  after_one inputs first shape agrees before = elim (same_or_other first.at at) [
    | inl same ↦ ap (λ a. word_in (set_at inputs a first.word) at) same ∙ set_same inputs at first.word (there_now inputs shape) ∙ agrees same
    | inr differ ↦
        elim before [
          | inl was ↦ set_other inputs first.at at first.word (there_now inputs shape) (λ same. differ (sym same)) ∙ was
          | inr same ↦ absurd (differ same)
        ]
  ]

  -- The input has the word where every word that is set there is this one, and either one is set or the input had it before.
  pub word_after : (starts : List StartWord) (inputs : List (List ℤ)) → HaveInputs run inputs
      → ((start : StartWord) → Has starts start → start.at ≡ at → start.word ≡ word)
      → (word_in inputs at ≡ word) ⊎ ((start : StartWord) × Has starts start × (start.at ≡ at)) → word_in (with_words inputs starts) at ≡ word
  word_after [] inputs shape agrees (inl was) = was
  word_after [] inputs shape agrees (inr set_there) = absurd set_there.1
  word_after (first ∷ starts) inputs shape agrees before =
      let now = shape_set run inputs first.at first.word shape in
      let agrees_later = λ (start : StartWord) (has : Has starts start). agrees start (inr has) in
      let once : (word_in inputs at ≡ word) ⊎ (first.at ≡ at) → word_in (with_words inputs (first ∷ starts)) at ≡ word =
      λ here. word_after starts (set_at inputs first.at first.word) now agrees_later (inl (after_one inputs first shape (agrees first (inl refl)) here)) in
      elim before [
        | inl was ↦ once (inl was)
        | inr set_there ↦
            elim set_there.1 [
              | inl same ↦ once (inr (ap (λ (s : StartWord). s.at) same ∙ set_there.2))
              | inr has ↦ word_after starts (set_at inputs first.at first.word) now agrees_later (inr (set_there.0, has, set_there.2))
            ]
      ]
