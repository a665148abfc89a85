-- Members that read the same, from signals in different places, have the same results.
use Rattle.std.proofs.Common.{◌≡◌, ℕ, ◌+◌, ℤ, pos, List, [], ◌∷◌, ◌++◌, map, if◌then◌else◌, Option, Some, None, refl, sym, ap, ap₂, ◌∙◌, subst}
use Rattle.std.specs.Prelude.{zip}
use Rattle.std.specs.List.{AllZip, flat_map, enumerate_from}
use Rattle.std.specs.Option.{option_and_then, option_map, unwrap_or}
use Rattle.std.specs.Result.{result_err, result_ok}
use Rattle.std.proofs.lemmas.Simd.{map-map}
use Rattle.super_time.specs.LocalTime.{local_time, local_step}
use Rattle.unit_tree.specs.Components.{Component, start_word}
use Rattle.unit_tree.specs.Compositions.{InputSource}
use Rattle.unit_tree.specs.Names.{is_among}
use Rattle.unit_tree.specs.Negotiation.{is_held}
use Rattle.unit_tree.specs.Ports.{all_there, first_some}
use Rattle.unit_tree.specs.Successor.{Position}
use Rattle.unit_tree.specs.declared.ending.Ending.TheVariants.{UnitFault}
use Rattle.unit_tree.specs.declared.ending.Place.TheVariants as place
use Rattle.unit_tree.specs.declared.unit.EventIn.{EventIn}
use Rattle.unit_tree.specs.declared.unit.Input.{Input}
use Rattle.event_runs.specs.EventPorts.{Signals, EventMember, Out, outs_of, needs_in, get_out, word_from, signal_from}
use Rattle.event_runs.specs.EventPorts.{seen_both, seen_for, signal_of, signals_at, event_sides}
use Rattle.event_runs.specs.EventTrace.{event_fault_at, event_faults_at, event_port_fault, seen_at, event_max_at, event_step_at, event_offers}
use Rattle.event_runs.specs.Events.{Signal, Absent, max_in, step_in}

pub record SeesAlike (signals others : Signals) (one other : EventMember) : Type 0 where
  pub other_is : other ≡ record { member = record one.member { sources = other.member.sources }; feeds = other.feeds }
  pub words : map (word_from signals) one.member.sources ≡ map (word_from others) other.member.sources
  pub feeds : map (signal_from signals) one.feeds ≡ map (signal_from others) other.feeds

abbrev pub SeeAlike : Signals → Signals → List EventMember → List EventMember → Type 0
SeeAlike signals others ones = AllZip (SeesAlike signals others) ones

-- ---- Results for equal lists

none_mapped : {A B : Type 0} (f : A → B) (x : B) (xs : List B) → map f [] ≡ x ∷ xs → ⊥
none_mapped f x xs is = absurd (cc)

module _ {X Y W D : Type 0} (f : X → W) (g : Y → W) (given : D → W → W) where
  -- With other items next to them.
  beside : (items : List D) (xs : List X) (ys : List Y) → map f xs ≡ map g ys
      → map (λ (pair : D × X). given pair.0 (f pair.1)) (zip items xs) ≡ map (λ (pair : D × Y). given pair.0 (g pair.1)) (zip items ys)
  beside [] xs ys same = refl
  beside (item ∷ items) [] [] same = refl
  beside (item ∷ items) [] (y ∷ ys) same = absurd (cc)
  beside (item ∷ items) (x ∷ xs) [] same = absurd (cc)
  beside (item ∷ items) (x ∷ xs) (y ∷ ys) same =
      let first : f x ≡ g y = cc in
      let rest : map f xs ≡ map g ys = cc in
      ap₂ (λ one others. given item one ∷ others) first (beside items xs ys rest)

module _ {X Y W V : Type 0} (f : X → W) (g : Y → W) (h : W → V) where
  through : (xs : List X) (ys : List Y) → map f xs ≡ map g ys → map (λ x. h (f x)) xs ≡ map (λ y. h (g y)) ys
  through xs ys same = sym (map-map h f xs) ∙ ap (map h) same ∙ map-map h g ys

-- ---- One member

abbrev member_of : Component → ℕ → List InputSource → List (Option ℕ) → EventMember
member_of component factor sources feeds =
    record { member = record { component = component; factor = factor; sources = sources }; feeds = feeds }

module _ (signals others : Signals) (component : Component) (factor : ℕ) (sources sources' : List InputSource) (feeds feeds' : List (Option ℕ))
    (words : map (word_from signals) sources ≡ map (word_from others) sources')
    (fed : map (signal_from signals) feeds ≡ map (signal_from others) feeds') where
  abbrev first_member : EventMember
  first_member = member_of component factor sources feeds

  abbrev second_member : EventMember
  second_member = member_of component factor sources' feeds'

  abbrev word_or_start : List (List ℕ) → Input → Option ℤ → Option ℤ
  word_or_start needs input word = if is_among needs input.name then word else Some (start_word input.ty input.start)

  abbrev signal_or_none : List (List ℕ) → EventIn → Option Signal → Option Signal
  signal_or_none needs event signal = if is_among needs event.name then signal else Some Absent

  seen_same : (needs : List (List ℕ)) → seen_for signals needs first_member ≡ seen_for others needs second_member
  seen_same needs =
      ap₂ (λ plain events. seen_both (all_there plain) (all_there events))
      (beside (word_from signals) (word_from others) (word_or_start needs) component.unit.inputs sources sources' words)
      (beside (signal_from signals) (signal_from others) (signal_or_none needs) component.unit.events_in feeds feeds' fed)

  shown_same : seen_at signals first_member ≡ seen_at others second_member
  shown_same =
      ap₂ (λ plain events. record { words = plain; signals = events })
      (through (word_from signals) (word_from others) (λ word. unwrap_or word (pos 0)) sources sources' words)
      (through (signal_from signals) (signal_from others) (λ signal. unwrap_or signal Absent) feeds feeds' fed)

  signals_same : (state : List ℤ) (outs : List Out)
      → map (signal_of signals (first_member, state)) outs ≡ map (signal_of others (second_member, state)) outs
  signals_same state [] = refl
  signals_same state (out ∷ outs) =
      ap₂ (λ signal rest. signal ∷ rest)
      (ap (λ seen. option_and_then result_ok (option_map (λ s. get_out component state s out) seen)) (seen_same (needs_in out)))
      (signals_same state outs)

  faults_same : (state : List ℤ) (instance number : ℕ) (outs : List Out)
      → map (event_fault_at signals instance (first_member, state)) (enumerate_from number outs)
      ≡ map (event_fault_at others instance (second_member, state)) (enumerate_from number outs)
  faults_same state instance number [] = refl
  faults_same state instance number (out ∷ outs) =
      ap₂ (λ fault rest. fault ∷ rest)
      (ap
      (λ seen. option_map (UnitFault instance (place.Output number))
      (option_and_then result_err (option_map (λ s. get_out component state s out) seen)))
      (seen_same (needs_in out)))
      (faults_same state instance (number + 1) outs)

  max_same : (t : ℕ) (state : List ℤ) → event_max_at t signals (first_member, state) ≡ event_max_at t others (second_member, state)
  max_same t state = ap (λ seen. max_in component state seen (local_time factor t)) shown_same

  step_same : (t h : ℕ) (state : List ℤ) → event_step_at t h signals (first_member, state) ≡ event_step_at t h others (second_member, state)
  step_same t h state =
      ap (λ seen. if is_held factor t h then None else Some (step_in component state seen (local_time factor t) (local_step factor t h))) shown_same

-- ---- All members

module _ (signals others : Signals) where
  -- Two members that read the same, with the second given by the first.
  module _ (P : EventMember → EventMember → Type 0)
      (same : (component : Component) (factor : ℕ) (sources sources' : List InputSource) (feeds feeds' : List (Option ℕ))
      → map (word_from signals) sources ≡ map (word_from others) sources' → map (signal_from signals) feeds ≡ map (signal_from others) feeds'
      → P (member_of component factor sources feeds) (member_of component factor sources' feeds')) where
    of_alike : (one other : EventMember) → SeesAlike signals others one other → P one other
    of_alike one other alike =
        subst (P one) (sym alike.other_is)
        (same one.member.component one.member.factor one.member.sources other.member.sources one.feeds other.feeds alike.words alike.feeds)

  -- The same is computed for two members that read the same.
  module _ {B : Type 0} (f g : EventMember × List ℤ → B)
      (same : (one other : EventMember) (state : List ℤ) → SeesAlike signals others one other → f (one, state) ≡ g (other, state)) where
    each_same : (ones them : List EventMember) (states : List (List ℤ)) → SeeAlike signals others ones them
        → map f (zip ones states) ≡ map g (zip them states)
    each_same [] [] states alike = refl
    each_same [] (other ∷ them) states alike = absurd alike
    each_same (one ∷ ones) [] states alike = absurd alike
    each_same (one ∷ ones) (other ∷ them) [] alike = refl
    each_same (one ∷ ones) (other ∷ them) (state ∷ states) alike =
        ap₂ (λ first rest. first ∷ rest) (same one other state alike.0) (each_same ones them states alike.1)

  member_signals : (one other : EventMember) → SeesAlike signals others one other → (state : List ℤ)
      → signals_at signals (one, state) ≡ signals_at others (other, state)
  member_signals =
      of_alike (λ one other. (state : List ℤ) → signals_at signals (one, state) ≡ signals_at others (other, state))
      (λ component factor sources sources' feeds feeds' words fed state.
      signals_same signals others component factor sources sources' feeds feeds' words fed state (outs_of component.unit))

  member_faults : (one other : EventMember) → SeesAlike signals others one other → (instance : ℕ) (state : List ℤ)
      → event_faults_at signals (instance, (one, state)) ≡ event_faults_at others (instance, (other, state))
  member_faults =
      of_alike (λ one other. (instance : ℕ) (state : List ℤ)
      → event_faults_at signals (instance, (one, state)) ≡ event_faults_at others (instance, (other, state)))
      (λ component factor sources sources' feeds feeds' words fed instance state.
      faults_same signals others component factor sources sources' feeds feeds' words fed state instance 0 (outs_of component.unit))

  member_max : (t : ℕ) (one other : EventMember) → SeesAlike signals others one other → (state : List ℤ)
      → event_max_at t signals (one, state) ≡ event_max_at t others (other, state)
  member_max t =
      of_alike (λ one other. (state : List ℤ) → event_max_at t signals (one, state) ≡ event_max_at t others (other, state))
      (λ component factor sources sources' feeds feeds' words fed state.
      max_same signals others component factor sources sources' feeds feeds' words fed t state)

  member_step : (t h : ℕ) (one other : EventMember) → SeesAlike signals others one other → (state : List ℤ)
      → event_step_at t h signals (one, state) ≡ event_step_at t h others (other, state)
  member_step t h =
      of_alike (λ one other. (state : List ℤ) → event_step_at t h signals (one, state) ≡ event_step_at t h others (other, state))
      (λ component factor sources sources' feeds feeds' words fed state.
      step_same signals others component factor sources sources' feeds feeds' words fed t h state)

  pub sides_same : (ones them : List EventMember) (states : List (List ℤ)) → SeeAlike signals others ones them
      → event_sides ones states signals ≡ event_sides them states others
  sides_same [] [] states alike = refl
  sides_same [] (other ∷ them) states alike = absurd alike
  sides_same (one ∷ ones) [] states alike = absurd alike
  sides_same (one ∷ ones) (other ∷ them) [] alike = refl
  sides_same (one ∷ ones) (other ∷ them) (state ∷ states) alike =
      ap₂ (λ first rest. first ++ rest) (member_signals one other alike.0 state) (sides_same ones them states alike.1)

  all_faults : (instance : ℕ) (ones them : List EventMember) (states : List (List ℤ)) → SeeAlike signals others ones them
      → flat_map (event_faults_at signals) (enumerate_from instance (zip ones states))
      ≡ flat_map (event_faults_at others) (enumerate_from instance (zip them states))
  all_faults instance [] [] states alike = refl
  all_faults instance [] (other ∷ them) states alike = absurd alike
  all_faults instance (one ∷ ones) [] states alike = absurd alike
  all_faults instance (one ∷ ones) (other ∷ them) [] alike = refl
  all_faults instance (one ∷ ones) (other ∷ them) (state ∷ states) alike =
      ap₂ (λ first rest. first ++ rest) (member_faults one other alike.0 instance state) (all_faults (instance + 1) ones them states alike.1)

  pub fault_same : (ones them : List EventMember) (states : List (List ℤ)) → SeeAlike signals others ones them
      → event_port_fault ones states signals ≡ event_port_fault them states others
  fault_same ones them states alike = ap first_some (all_faults 0 ones them states alike)

  -- The results of their calls.
  pub limits_same : (at : Position) (ones them : List EventMember) → SeeAlike signals others ones them
      → (event_offers ones at signals).limits ≡ (event_offers them at others).limits
  limits_same at ones them alike =
      each_same (event_max_at at.point.t signals) (event_max_at at.point.t others)
      (λ one other state is. member_max at.point.t one other is state) ones them at.states alike

  pub steps_same : (at : Position) (ones them : List EventMember) → SeeAlike signals others ones them → (h : ℕ)
      → (event_offers ones at signals).steps h ≡ (event_offers them at others).steps h
  steps_same at ones them alike h =
      each_same (event_step_at at.point.t h signals) (event_step_at at.point.t h others)
      (λ one other state is. member_step at.point.t h one other is state) ones them at.states alike
