-- When all outputs were computed, the result is the port assignment, and the inputs have their words.
use Rattle.std.proofs.Common.{◌≡◌, ◌∙◌, ℕ, zero, suc, ◌<◌, Bool, true, false, ℤ, pos, List, [], ◌∷◌, ◌++◌, length, take, drop, get_or, Option, Some, None, refl}
use Rattle.std.proofs.Common.{ap, sym, subst, arith, append_assoc}
use Rattle.std.proofs.lemmas.List.{length-map, append-nil}
use Rattle.std.proofs.lemmas.Option.{slice_get-map, slice_get_within, slice_get-get_or, get_or_from_slice_get}
use Rattle.std.specs.Prelude.{slice_get, is_some, unwrap_or, IfSome}
use Rattle.std.specs.List.{AllByRecursion, list_all}
use Rattle.std.specs.Option.{option_map, option_and_then}
use Rattle.std.proofs.lemmas.Slice.Zip.{AllZip-long}
use Rattle.port_solve.specs.Solved.{HaveStates, HaveInputs, HaveTheirWords, HasItsWord, word_in, ports_told}
use Rattle.port_solve.specs.Sound.{types_of_places, IsSoundMember, IsSound}
use Rattle.unit_tree.specs.Compositions.{InputSource, Start, AtPlace, Member, Composition}
use Rattle.unit_tree.specs.Negotiation.{inputs_at, all_inputs}
use Rattle.unit_tree.specs.Ports.{Ports, IsAmong, IsAssignment, IsOrderedAfter, IsPlaceOrder, input_word, needs_of_places, needs_at}
use Rattle.unit_tree.specs.Routes.{inputs_of}
use Rattle.unit_tree.specs.declared.order.InputAt.{InputAt}
use Rattle.run_laws.proofs.AssignmentLaws.{are_equations, outlets_count}
use Rattle.run_laws.proofs.EquationLaws.{each_place, same_lists}
use Rattle.port_solve.proofs.Fronts.{Known, Agreed, IsFront, HasWords, one_state, sound_member, suits_at}
use Rattle.port_solve.proofs.InputPlaces.{source_at, source_is, has_source}
use Rattle.port_solve.proofs.OutputPlaces.{types_count}
use Rattle.list_laws.proofs.Members.{Has, at_place, all_has, each_has}
use Rattle.list_laws.proofs.Pairs.{zip_at}

-- ---- Along an order

ordered_from : (run : Composition) (before order : List ℕ) (k : ℕ) → IsOrderedAfter run before order
    → IsOrderedAfter run (before ++ take k order) (drop k order)
ordered_from run before order zero ordered = subst (λ front. IsOrderedAfter run front order) (sym (append-nil before)) ordered
ordered_from run before [] (suc k) ordered = tt
ordered_from run before (place ∷ order) (suc k) ordered =
    subst (λ front. IsOrderedAfter run front (drop k order)) (append_assoc before (place ∷ []) (take k order))
    (ordered_from run (before ++ (place ∷ [])) order k ordered.3)

-- The next place of an order.
pub record IsNext (run : Composition) (front : List ℕ) (place : ℕ) : Type 0 where
  pub within : place < length (needs_of_places run)
  pub apart : IsAmong front place → ⊥
  pub behind : AllByRecursion (IsAmong front) (needs_at run place)

next_of : (run : Composition) (front order : List ℕ) (k : ℕ) → k < length order → IsOrderedAfter run front (drop k order) → IsNext run front (get_or order k 0)
next_of run front [] k within ordered = absurd (omega (arith, within))
next_of run front (place ∷ order) zero within ordered = record { within = ordered.0; apart = ordered.1; behind = ordered.2 }
next_of run front (place ∷ order) (suc k) within ordered = next_of run front order k (omega (arith, within)) ordered

pub next_place : (run : Composition) (order : List ℕ) (k : ℕ) → IsPlaceOrder run order → k < length order → IsNext run (take k order) (get_or order k 0)
next_place run order k is_order within = next_of run (take k order) order k within (ordered_from run [] order k is_order.ordered)

-- ---- The start

-- With only start words the prefix is empty.
pub start_front : (run : Composition) (right told : Ports) (inputs : List (List ℤ)) → HaveTheirWords run [] inputs → HaveInputs run inputs
    → IsFront run right [] told inputs
start_front run right told inputs have shape = record { words = tt; fed = fed; shape = shape }
  where
    fed : (at : InputAt) (source : InputSource) (word : ℤ) → source_at run at ≡ Some source → Known right [] source word → word_in inputs at ≡ word
    fed at (Start start) word is is_known = each_has (HasItsWord [] inputs) (inputs_of run) (at, Start start) have (has_source run at (Start start) is)
        ∙ is_known
    fed at (AtPlace place) word is is_known = absurd is_known.0

-- ---- The end

module _ (run : Composition) (states : List (List ℤ)) (right told : Ports) (inputs : List (List ℤ)) (order : List ℕ) (is_order : IsPlaceOrder run order)
    (same_states : length states ≡ length run.members) (is_right : IsAssignment run states right) (is_front : IsFront run right order told inputs)
    (count : length told ≡ length (needs_of_places run)) where
  right_count : length right ≡ length (needs_of_places run)
  right_count = ap length is_right ∙ (are_equations run states same_states).count right

  pub told_right : told ≡ right
  told_right =
      same_lists told right (length (needs_of_places run)) count right_count
      (λ place within. each_place (Agreed told right) order place is_front.words (is_order.all place within))

  found_word : (at : InputAt) (place : ℕ) (found : Option (Option ℤ)) → source_at run at ≡ Some (AtPlace place) → slice_get right place ≡ found
      → IfSome (option_and_then (λ word. word) found) (λ word. word_in inputs at ≡ word)
  found_word at place None is there = tt
  found_word at place (Some None) is there = tt
  found_word at place (Some (Some word)) is there =
      is_front.fed at (AtPlace place) word is (is_order.all place (omega (arith, slice_get_within right place (Some word) there, right_count)), there)

  its_word : (at : InputAt) (source : InputSource) → Has (inputs_of run) (at, source) → HasItsWord right inputs (at, source)
  its_word at (Start start) has = is_front.fed at (Start start) start (source_is run at (Start start) has) refl
  its_word at (AtPlace place) has = found_word at place (slice_get right place) (source_is run at (AtPlace place) has) refl

  pub their_words : HaveTheirWords run told inputs
  their_words =
      subst (λ ports. HaveTheirWords run ports inputs) (sym told_right)
      (all_has (HasItsWord right inputs) (inputs_of run) (λ pair has. its_word pair.0 pair.1 has))

-- ---- All is known

pub known_all : (known : List Bool) (words : List ℤ) → length known ≡ length words → list_all is_some (ports_told known words) ≡ true
    → list_all (λ told. told) known ≡ true
known_all [] words same all = refl
known_all (k ∷ known) [] same all = absurd (omega (arith, same))
known_all (true ∷ known) (w ∷ words) same all = known_all known words (omega (arith, same)) all
known_all (false ∷ known) (w ∷ words) same all = absurd (cc)

pub told_count : (known : List Bool) (words : List ℤ) → length known ≡ length words → length (ports_told known words) ≡ length words
told_count [] [] same = refl
told_count [] (w ∷ words) same = absurd (omega (arith, same))
told_count (k ∷ known) [] same = absurd (omega (arith, same))
told_count (k ∷ known) (w ∷ words) same = ap suc (told_count known words (omega (arith, same)))

all_there_at : (ports : Ports) (place : ℕ) → list_all is_some ports ≡ true → place < length ports → (word : ℤ) × (slice_get ports place ≡ Some (Some word))
all_there_at [] place all within = absurd (omega (arith, within))
all_there_at (None ∷ ports) place all within = absurd (cc)
all_there_at (Some word ∷ ports) zero all within = (word, refl)
all_there_at (Some word ∷ ports) (suc place) all within = all_there_at ports place all (omega (arith, within))

module _ (run : Composition) (states : List (List ℤ)) (sound : IsSound run) (have : HaveStates run states) (told : Ports) (inputs : List (List ℤ))
    (count : length told ≡ length (needs_of_places run)) (all : list_all is_some told ≡ true) (their : HaveTheirWords run told inputs)
    (shape : HaveInputs run inputs) where
  source_word : (member : Member) (instance k : ℕ) (source : InputSource) → slice_get run.members instance ≡ Some member
      → slice_get member.sources k ≡ Some source → (word : ℤ) × (input_word told source ≡ Some word)
  source_word member instance k (Start word) member_is is = (word, refl)
  source_word member instance k (AtPlace place) member_is is =
      let member_sound = sound_member run sound instance member member_is in
      let within : k < length member.component.unit.inputs = omega (arith, slice_get_within member.sources k (AtPlace place) is, member_sound.sources) in
      let input = at_place member.component.unit.inputs k within in
      let suits = suits_at (types_of_places run) member.component.unit.inputs member.sources k input.0 (AtPlace place) member_sound.suits input.1 is in
      let in_range : place < length told =
      omega (
        arith,
        slice_get_within (types_of_places run) place suits.0 suits.1,
        types_count run states (one_state run states sound have),
        outlets_count run states (one_state run states sound have),
        count,
      ) in
      let there = all_there_at told place all in_range in
      (there.0, ap (option_and_then (λ word. word)) there.1)

  module _ (instance : ℕ) (member : Member) (member_is : slice_get run.members instance ≡ Some member) (words : List ℤ)
      (words_are : slice_get inputs instance ≡ Some words) (same : length words ≡ length member.component.unit.inputs) where
    member_sound : IsSoundMember (types_of_places run) member
    member_sound = sound_member run sound instance member member_is

    word_is : (k : ℕ) (source : InputSource) → slice_get member.sources k ≡ Some source → get_or words k (pos 0) ≡ unwrap_or (input_word told source) (pos 0)
    word_is k source is =
        let word = source_word member instance k source member_is is in
        let at : InputAt = record { instance = instance; input = k } in
        let source_there : source_at run at ≡ Some source = ap (option_and_then (λ (m : Member). slice_get m.sources k)) member_is ∙ is in
        let its = each_has (HasItsWord told inputs) (inputs_of run) (at, source) their (has_source run at source source_there) in
        let there : word_in inputs at ≡ word.0 = subst (λ w. IfSome w (λ v. word_in inputs at ≡ v)) word.1 its in
        sym (ap (λ ws. get_or ws k (pos 0)) (get_or_from_slice_get inputs instance words [] words_are)) ∙ there ∙ sym (ap (λ w. unwrap_or w (pos 0)) word.1)

    words_right : words ≡ inputs_at told member
    words_right =
        same_lists words (inputs_at told member) (length words) refl
        (length-map member.sources (λ source. unwrap_or (input_word told source) (pos 0)) ∙ member_sound.sources ∙ sym same)
        (λ k within.
        let source = at_place member.sources k (omega (arith, within, same, member_sound.sources)) in
        slice_get-get_or words k (pos 0) within
        ∙ ap Some (word_is k source.0 source.1)
        ∙ sym (slice_get-map (λ source. unwrap_or (input_word told source) (pos 0)) member.sources k
        ∙ ap (option_map (λ source. unwrap_or (input_word told source) (pos 0))) source.1))

  pub all_right : inputs ≡ all_inputs run told
  all_right =
      same_lists inputs (all_inputs run told) (length inputs) refl
      (length-map run.members (inputs_at told) ∙ sym (AllZip-long HasWords run.members inputs shape))
      (λ instance within.
      let member = at_place run.members instance (omega (arith, within, AllZip-long HasWords run.members inputs shape)) in
      let beside = zip_at HasWords run.members inputs instance member.0 shape member.1 in
      beside.is
      ∙ ap Some (words_right instance member.0 member.1 beside.other beside.is beside.related)
      ∙ sym (slice_get-map (inputs_at told) run.members instance ∙ ap (option_map (inputs_at told)) member.1))
