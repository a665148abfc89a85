-- Ports one by one: the outcome of an output for known words, and inputs that are fed with a word from elsewhere.
use Rattle.std.proofs.Common.{◌≡◌, ◌∙◌, ◌≢◌, ℕ, zero, suc, Bool, ℤ, List, [], ◌∷◌, length, set, Option, Some, None, inl, inr, refl, ap, sym, subst}
use Rattle.std.proofs.lemmas.Bool.Decides.{eqb_tells}
use Rattle.std.proofs.lemmas.Option.{same_Some}
use Rattle.std.specs.Prelude.{slice_get, IfSome}
use Rattle.std.specs.List.{AllByRecursion}
use Rattle.std.specs.Option.{option_and_then}
use Rattle.port_solve.specs.Solved.{HaveStates, HaveInputs, HaveTheirWords, HasItsWord, word_in, ports_told, given_there, with_words, all_with}
use Rattle.port_solve.specs.Sound.{IsSound, IsWordOf}
use Rattle.port_solve.specs.Steps.{asked}
use Rattle.unit_tree.specs.Compositions.{InputSource, Start, AtPlace, Composition}
use Rattle.unit_tree.specs.Given.{IsInputWord}
use Rattle.unit_tree.specs.Ports.{Ports, IsAmong, given_at, needs_at}
use Rattle.unit_tree.specs.Routes.{inputs_of, feeds_of, routes_of}
use Rattle.unit_tree.specs.declared.order.InputAt.{InputAt}
use Rattle.unit_tree.specs.declared.order.Route.{Route}
use Rattle.unit_tree.specs.declared.order.StartWord.{StartWord}
use Rattle.language_laws.proofs.PlainNames.{map_has}
use Rattle.port_solve.proofs.Fronts.{Known, Agreed, IsFront, same_sources, feed_fits, one_state, asked_is}
use Rattle.port_solve.proofs.InputPlaces.{source_at, source_is, has_source, feed_is, has_feed}
use Rattle.port_solve.proofs.OutputPlaces.{outlet_of}
use Rattle.port_solve.proofs.SetWords.{word_after}
use Rattle.list_laws.proofs.Members.{Has, has_map, all_has, each_has, set_elsewhere}

-- ---- The outcome of one output

among_more : (first : ℕ) (places some : List ℕ) → AllByRecursion (IsAmong places) some → AllByRecursion (IsAmong (first ∷ places)) some
among_more first places [] all = tt
among_more first places (one ∷ some) all = (inr all.0, among_more first places some all.1)

all_among_them : (places : List ℕ) → AllByRecursion (IsAmong places) places
all_among_them [] = tt
all_among_them (first ∷ places) = (inl refl, among_more first places places (all_among_them places))

module _ (run : Composition) (told : Ports) (inputs : List (List ℤ)) (their : HaveTheirWords run told inputs) (shape : HaveInputs run inputs) where
  has_word : (at : InputAt) (source : InputSource) → source_at run at ≡ Some source → HasItsWord told inputs (at, source)
  has_word at source is = each_has (HasItsWord told inputs) (inputs_of run) (at, source) their (has_source run at source is)

  known_fed : (front : List ℕ) (at : InputAt) (source : InputSource) (word : ℤ) → source_at run at ≡ Some source → Known told front source word
      → word_in inputs at ≡ word
  known_fed front at (Start start) word is is_known = has_word at (Start start) is ∙ is_known
  known_fed front at (AtPlace place) word is is_known =
      subst (λ found. IfSome (option_and_then (λ w. w) found) (λ w. word_in inputs at ≡ w)) is_known.1 (has_word at (AtPlace place) is)

  agree_themselves : (front : List ℕ) → AllByRecursion (Agreed told told) front
  agree_themselves [] = tt
  agree_themselves (first ∷ front) = (refl, agree_themselves front)

  -- For any places as the prefix, the known words are right there, and the inputs have them.
  known_front : (front : List ℕ) → IsFront run told front told inputs
  known_front front = record { words = agree_themselves front; fed = known_fed front; shape = shape }

module _ (run : Composition) (states : List (List ℤ)) (sound : IsSound run) (have : HaveStates run states) where
  -- The outcome of an output, for the known words.
  pub asked_there : (known : List Bool) (words : List ℤ) (inputs : List (List ℤ)) (place : ℕ) (route : Route) → length words ≡ length known
      → HaveTheirWords run (ports_told known words) inputs → HaveInputs run inputs → slice_get (routes_of run).outputs place ≡ Some route
      → asked run states inputs known route ≡ given_there run states (ports_told known words) place
  asked_there known words inputs place route same their shape is_route =
      let told = ports_told known words in
      let needs = needs_at run place in
      let at = outlet_of run states place route (one_state run states sound have) is_route in
      let front = known_front run told inputs their shape needs in
      asked_is run states sound have told needs known words inputs front (sym same) place route is_route (all_among_them needs)
      ∙ sym (ap (option_and_then (given_at told)) at.is)

-- ---- A word from elsewhere

-- After a place got a word, only this is known of it.
set_there : (ports : Ports) (place : ℕ) (word : ℤ) (Holds : ℤ → Type 0) → Holds word
    → IfSome (option_and_then (λ w. w) (slice_get (set ports place (Some word)) place)) Holds
set_there [] place word Holds holds = tt
set_there (port ∷ ports) zero word Holds holds = holds
set_there (port ∷ ports) (suc place) word Holds holds = set_there ports place word Holds holds

kept_there : (found : Option (Option ℤ)) (Held Holds : ℤ → Type 0) → ((word : ℤ) → Held word → Holds word) → IfSome (option_and_then (λ w. w) found) Held
    → IfSome (option_and_then (λ w. w) found) Holds
kept_there None Held Holds keeps held = tt
kept_there (Some None) Held Holds keeps held = tt
kept_there (Some (Some word)) Held Holds keeps held = keeps word held

module _ (run : Composition) (sound : IsSound run) (place : ℕ) (word : ℤ) where
  -- The inputs that an output feeds may be set to a word of its type.
  pub feeds_fit : IsWordOf run place word → AllByRecursion (λ at. IsInputWord run at.instance at.input word) (feeds_of run place)
  feeds_fit fits =
      all_has (λ at. IsInputWord run at.instance at.input word) (feeds_of run place)
      (λ at has. feed_fits run sound at place word (feed_is run place at has) fits)

  record IsFed (start : StartWord) : Type 0 where
    source : source_at run start.at ≡ Some (AtPlace place)
    word_is : start.word ≡ word

  abbrev to_word : InputAt → StartWord
  to_word at = record { at = at; word = word }

  abbrev sets : List StartWord
  sets = all_with word (feeds_of run place)

  fed_of : (start : StartWord) → Has sets start → IsFed start
  fed_of start has =
      let from = map_has to_word (feeds_of run place) start has in
      record {
        source = ap (λ (one : StartWord). source_at run one.at) (sym from.is) ∙ feed_is run place from.one from.has;
        word_is = sym (ap (λ (one : StartWord). one.word) from.is);
      }

  module _ (inputs : List (List ℤ)) (shape : HaveInputs run inputs) where
    abbrev now : List (List ℤ)
    now = with_words inputs sets

    -- An input that the output does not feed keeps its word.
    kept : (at : InputAt) (source : InputSource) (had : ℤ) → source_at run at ≡ Some source → source ≢ AtPlace place → word_in inputs at ≡ had
        → word_in now at ≡ had
    kept at source had is differ was =
        word_after run (same_sources run sound) at source is had sets inputs shape (λ start has same. absurd (differ (same_source start has same))) (inl was)
      where
        same_source : (start : StartWord) → Has sets start → start.at ≡ at → source ≡ AtPlace place
        same_source start has same = same_Some source (AtPlace place) (sym is ∙ ap (source_at run) (sym same) ∙ (fed_of start has).source)

    -- An input that it feeds has the word.
    fed : (at : InputAt) → source_at run at ≡ Some (AtPlace place) → word_in now at ≡ word
    fed at is =
        word_after run (same_sources run sound) at (AtPlace place) is word sets inputs shape (λ start has same. (fed_of start has).word_is)
        (inr (to_word at, has_map to_word (feeds_of run place) at (has_feed run place at is), refl))

    module _ (ports : Ports) (their : HaveTheirWords run ports inputs) where
      its_word : (at : InputAt) (source : InputSource) → source_at run at ≡ Some source → HasItsWord (set ports place (Some word)) now (at, source)
      its_word at (Start start) is = kept at (Start start) start is (λ same. cc) (has_word run ports inputs their shape at (Start start) is)
      its_word at (AtPlace other) is = elim (eqb_tells place other) [
        | inl same ↦
            subst (λ p. IfSome (option_and_then (λ w. w) (slice_get (set ports place (Some word)) p)) (λ w. word_in now at ≡ w)) same.1
            (set_there ports place word (λ w. word_in now at ≡ w) (fed at (is ∙ ap (λ p. Some (AtPlace p)) (sym same.1))))
        | inr differ ↦
            subst (λ found. IfSome (option_and_then (λ w. w) found) (λ w. word_in now at ≡ w))
            (sym (set_elsewhere ports place other (Some word) (λ same. differ.1 (sym same))))
            (kept_there (slice_get ports other) (λ w. word_in inputs at ≡ w) (λ w. word_in now at ≡ w)
            (λ w was. kept at (AtPlace other) w is (λ same. differ.1 (place_of same)) was)
            (has_word run ports inputs their shape at (AtPlace other) is))
      ]
        where
          place_of : AtPlace other ≡ AtPlace place → place ≡ other
          place_of same = cc

      -- Inputs have the words of the ports with this additional word.
      pub fed_words : HaveTheirWords run (set ports place (Some word)) now
      fed_words = all_has (HasItsWord (set ports place (Some word)) now) (inputs_of run) (λ pair has. its_word pair.0 pair.1 (source_is run pair.0 pair.1 has))
