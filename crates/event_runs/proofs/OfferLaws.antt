-- Where no output is undefined, the results of members' calls in the source are those in the plain
-- form.
use Rattle.std.proofs.Common.{◌≡◌, ℕ, zero, suc, Bool, true, ℤ, pos, List, [], ◌∷◌, ◌++◌, map, length, if◌then◌else◌, Option, Some, None, inl, inr, refl, sym}
use Rattle.std.proofs.Common.{ap, ◌∙◌, subst}
use Rattle.std.specs.Prelude.{zip, slice_get, is_some}
use Rattle.std.specs.List.{AllByRecursion, flat_map, list_all}
use Rattle.std.specs.Option.{option_and_then, unwrap_or}
use Rattle.std.proofs.lemmas.Bool.{and_parts}
use Rattle.std.proofs.lemmas.List.{length-map, map-append}
use Rattle.super_time.specs.LocalTime.{local_time, local_step}
use Rattle.unit_tree.specs.Compositions.{InputSource, Composition}
use Rattle.unit_tree.specs.Negotiation.{inputs_at, is_held, max_at, step_at}
use Rattle.unit_tree.specs.Ports.{Ports, input_word}
use Rattle.unit_tree.specs.Successor.{Position}
use Rattle.event_runs.specs.EventPorts.{Signals, EventMember, word_from, signal_from}
use Rattle.event_runs.specs.Readings.{shape_of, read_pair, read_ports, plain_place, plain_source, plain_feed, plain_member, words_of_signal, plain_component}
use Rattle.event_runs.specs.Readings.{plain_words}
use Rattle.event_runs.specs.Laws.{IsTidyPair, AreTidy, SourceFits, FeedFits, IsWired, IsPlainRun, StatesFit, GiveTheSame, HasPlainCalls}
use Rattle.event_runs.specs.EventTrace.{seen_at, event_max_at, event_step_at}
use Rattle.event_runs.specs.Events.{Absent}
use Rattle.unit_tree.specs.Components.{max_of, step_of}
use Rattle.event_runs.proofs.CallLaws.{plain_calls}
use Rattle.event_runs.proofs.PortLaws.{source_word, event_at}

defined_at : (ports : Ports) (place : ℕ) (given : Option ℤ) → list_all is_some ports ≡ true → slice_get ports place ≡ Some given → is_some given ≡ true
defined_at [] place given all is = absurd (cc)
defined_at (first ∷ ports) zero given all is =
    let same : first ≡ given = cc in
    ap is_some (sym same) ∙ (and_parts (is_some first) (list_all is_some ports) all).0
defined_at (first ∷ ports) (suc place) given all is = defined_at ports place given (and_parts (is_some first) (list_all is_some ports) all).1 is

abbrev or_nothing : Option ℤ → ℤ
or_nothing given = unwrap_or given (pos 0)

pair_words : (tells word : Option ℤ) → IsTidyPair tells word → is_some tells ≡ true → is_some word ≡ true
    → or_nothing tells ∷ or_nothing word ∷ [] ≡ words_of_signal (unwrap_or (read_pair tells word) Absent)
pair_words None word tidy one other = absurd (cc)
pair_words (Some tells) None tidy one other = absurd (cc)
pair_words (Some tells) (Some word) (inl is) one other =
    subst (λ t. t ∷ word ∷ [] ≡ words_of_signal (unwrap_or (read_pair (Some t) (Some word)) Absent)) (sym is) refl
pair_words (Some tells) (Some word) (inr are) one other =
    subst (λ t. t ∷ word ∷ [] ≡ words_of_signal (unwrap_or (read_pair (Some t) (Some word)) Absent)) (sym are.0)
    (subst (λ w. pos 0 ∷ w ∷ [] ≡ words_of_signal (unwrap_or (read_pair (Some (pos 0)) (Some w)) Absent)) (sym are.1) refl)

module _ (shape : List Bool) (ports : Ports) (tidy : AreTidy shape ports) (defined : list_all is_some ports ≡ true) where
  abbrev signals : Signals
  signals = read_ports shape ports

  abbrev shown : InputSource → ℤ
  shown source = or_nothing (input_word ports source)

  plains : (sources : List InputSource) → AllByRecursion (SourceFits shape) sources
      → map shown (map (plain_source shape) sources) ≡ map (λ source. unwrap_or (word_from signals source) (pos 0)) sources
  plains [] fit = refl
  plains (source ∷ sources) fit =
      ap (λ word. or_nothing word ∷ map shown (map (plain_source shape) sources)) (source_word shape ports tidy source fit.0)
      ∙ ap (λ rest. or_nothing (word_from signals source) ∷ rest) (plains sources fit.1)

  feed_is : (feed : Option ℕ) → FeedFits shape feed → map shown (plain_feed shape feed) ≡ words_of_signal (unwrap_or (signal_from signals feed) Absent)
  feed_is None fit = refl
  feed_is (Some place) fit =
      let at = event_at shape ports place tidy fit in
      let p = plain_place shape place in
      ap (λ found. or_nothing (option_and_then (λ word. word) found) ∷ or_nothing (option_and_then (λ word. word) (slice_get ports (suc p))) ∷ []) at.tells_is
      ∙ ap (λ found. or_nothing at.tells ∷ or_nothing (option_and_then (λ word. word) found) ∷ []) at.word_is
      ∙ pair_words at.tells at.word at.tidy (defined_at ports p at.tells defined at.tells_is) (defined_at ports (suc p) at.word defined at.word_is)
      ∙ sym (ap (λ found. words_of_signal (unwrap_or (option_and_then (λ signal. signal) found) Absent)) at.read)

  feeds_are : (feeds : List (Option ℕ)) → AllByRecursion (FeedFits shape) feeds
      → map shown (flat_map (plain_feed shape) feeds) ≡ flat_map words_of_signal (map (λ feed. unwrap_or (signal_from signals feed) Absent) feeds)
  feeds_are [] fit = refl
  feeds_are (feed ∷ feeds) fit =
      map-append shown (plain_feed shape feed) (flat_map (plain_feed shape) feeds)
      ∙ ap (λ front. front ++ map shown (flat_map (plain_feed shape) feeds)) (feed_is feed fit.0)
      ∙ ap (λ rest. words_of_signal (unwrap_or (signal_from signals feed) Absent) ++ rest) (feeds_are feeds fit.1)

  inputs_are : (one : EventMember) → IsWired shape one → inputs_at ports (plain_member shape one) ≡ plain_words (seen_at signals one)
  inputs_are one wired =
      map-append shown (map (plain_source shape) one.member.sources) (flat_map (plain_feed shape) one.feeds)
      ∙ ap (λ front. front ++ map shown (flat_map (plain_feed shape) one.feeds)) (plains one.member.sources wired.sources)
      ∙ ap (λ rest. map (λ source. unwrap_or (word_from signals source) (pos 0)) one.member.sources ++ rest) (feeds_are one.feeds wired.feeds)

  calls_of : (one : EventMember) (state : List ℤ) → IsWired shape one → length state ≡ length one.member.component.unit.states
      → HasPlainCalls one.member.component state (seen_at signals one)
  calls_of one state wired fit = plain_calls one.member.component state (seen_at signals one) wired.said (record {
    params = wired.params;
    states = fit;
    words = length-map one.member.sources (λ source. unwrap_or (word_from signals source) (pos 0)) ∙ wired.count;
    signals = length-map one.feeds (λ feed. unwrap_or (signal_from signals feed) Absent) ∙ wired.events;
  })

  max_is : (t : ℕ) (one : EventMember) (state : List ℤ) → IsWired shape one → length state ≡ length one.member.component.unit.states
      → max_at t ports (plain_member shape one, state) ≡ event_max_at t signals (one, state)
  max_is t one state wired fit =
      ap (λ inputs. max_of (plain_component one.member.component) state inputs (local_time one.member.factor t)) (inputs_are one wired)
      ∙ (calls_of one state wired fit).limit (local_time one.member.factor t)

  step_is : (t h : ℕ) (one : EventMember) (state : List ℤ) → IsWired shape one → length state ≡ length one.member.component.unit.states
      → step_at t h ports (plain_member shape one, state) ≡ event_step_at t h signals (one, state)
  step_is t h one state wired fit =
      ap (λ moved. if is_held one.member.factor t h then None else Some moved)
      (ap (λ inputs. step_of (plain_component one.member.component) state inputs (local_time one.member.factor t) (local_step one.member.factor t h))
      (inputs_are one wired)
      ∙ (calls_of one state wired fit).step (local_time one.member.factor t) (local_step one.member.factor t h))

  limits_same : (t : ℕ) (members : List EventMember) (states : List (List ℤ)) → AllByRecursion (IsWired shape) members → StatesFit members states
      → map (max_at t ports) (zip (map (plain_member shape) members) states) ≡ map (event_max_at t signals) (zip members states)
  limits_same t [] states wired fit = refl
  limits_same t (one ∷ members) [] wired fit = refl
  limits_same t (one ∷ members) (state ∷ states) wired fit =
      ap (λ first. first ∷ map (max_at t ports) (zip (map (plain_member shape) members) states)) (max_is t one state wired.0 fit.0)
      ∙ ap (λ rest. event_max_at t signals (one, state) ∷ rest) (limits_same t members states wired.1 fit.1)

  steps_same : (t h : ℕ) (members : List EventMember) (states : List (List ℤ)) → AllByRecursion (IsWired shape) members → StatesFit members states
      → map (step_at t h ports) (zip (map (plain_member shape) members) states) ≡ map (event_step_at t h signals) (zip members states)
  steps_same t h [] states wired fit = refl
  steps_same t h (one ∷ members) [] wired fit = refl
  steps_same t h (one ∷ members) (state ∷ states) wired fit =
      ap (λ first. first ∷ map (step_at t h ports) (zip (map (plain_member shape) members) states)) (step_is t h one state wired.0 fit.0)
      ∙ ap (λ rest. event_step_at t h signals (one, state) ∷ rest) (steps_same t h members states wired.1 fit.1)

pub give_the_same : (members : List EventMember) (run : Composition) (at : Position) (ports : Ports) → IsPlainRun members run → StatesFit members at.states
    → AreTidy (flat_map shape_of members) ports → list_all is_some ports ≡ true → GiveTheSame members run at ports
give_the_same members run at ports plain fit tidy defined = record {
  limits = ap (λ all. map (max_at at.point.t ports) (zip all at.states)) plain.members_are
      ∙ limits_same (flat_map shape_of members) ports tidy defined at.point.t members at.states plain.wired fit;
  steps = λ h. ap (λ all. map (step_at at.point.t h ports) (zip all at.states)) plain.members_are
      ∙ steps_same (flat_map shape_of members) ports tidy defined at.point.t h members at.states plain.wired fit;
}
