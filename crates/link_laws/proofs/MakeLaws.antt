-- The facts that a node makes are true.
use Rattle.fixed_words.specs.Operations.{Outcome}
use Rattle.link_laws.specs.Boards.{IsSo, entry, seen_of}
use Rattle.link_laws.specs.Making.{determined, is_undefined, port_in, ports_in}
use Rattle.link_laws.specs.declared.fact.Seen.{Seen}
use Rattle.link_laws.specs.declared.fact.Seen.TheVariants.{Fault as Faulted, Is, Undefined}
use Rattle.std.proofs.Common.{Err, Ok, ap, refl, subst, sym, ◌∙◌}
use Rattle.std.specs.List.{AllZip, cons_option, filter_map, list_any}
use Rattle.std.specs.Option.{option_and_then, option_map}
use Rattle.std.specs.Prelude.{Bool, IfSome, List, None, Option, Some, [], false, if◌then◌else◌, map, suc, true, zero, zip, ℕ, ℤ, ◌||◌, ◌∷◌, ◌≡◌}
use Rattle.std.specs.Result.{result_ok}
use Rattle.unit_tree.specs.Components.{get_of, start_word}
use Rattle.unit_tree.specs.Compositions.{AtPlace, InputSource, Start}
use Rattle.unit_tree.specs.Names.{is_among}
use Rattle.unit_tree.specs.Ports.{Outlet, Ports, all_there, given_at, in_front, input_word, inputs_for, place_in, place_needed, places_needed, seen_by, word_at}
use Rattle.unit_tree.specs.declared.unit.Input.{Input}
use Rattle.unit_tree.specs.declared.unit.Output.{Output}

-- ---- Words that are known are those of the ports

abbrev pub Below : {A : Type 0} → Option A → Option A → Type 0
Below small great = IfSome small (λ one. great ≡ Some one)

-- An output that is known to be undefined has no word.
abbrev pub Lacks : Option Seen → Option ℤ → Type 0
Lacks known port = is_undefined known ≡ true → port ≡ None

below_by : (given : Option Outcome) (known : Option Seen) → IsSo (Some (seen_of given)) known → Below (port_in known) (option_and_then result_ok given)
below_by given None so = tt
below_by None (Some (Is word)) so = absurd (cc)
below_by (Some (Ok told)) (Some (Is word)) so = ap (λ (w : Option ℤ). w) (told_is told word so)
  where
    told_is : (told word : ℤ) → Is word ≡ Is told → ◌≡◌ {A = Option ℤ} (Some told) (Some word)
    told_is told word is = cc
below_by (Some (Err fault)) (Some (Is word)) so = absurd (cc)
below_by given (Some (Faulted fault)) so = tt
below_by given (Some Undefined) so = tt

lacks_by : (given : Option Outcome) (known : Option Seen) → IsSo (Some (seen_of given)) known → Lacks known (option_and_then result_ok given)
lacks_by given None so is = absurd (cc)
lacks_by None (Some one) so is = refl
lacks_by (Some (Err fault)) (Some one) so is = refl
lacks_by (Some (Ok word)) (Some (Is other)) so is = absurd (cc)
lacks_by (Some (Ok word)) (Some Undefined) so is = absurd (cc)
lacks_by (Some (Ok word)) (Some (Faulted fault)) so is = absurd (cc)

abbrev pub all_seen : Ports → List Outlet → List (Option Seen)
all_seen ports outs = map (λ outlet. Some (seen_of (given_at ports outlet))) outs

pub ports_below : (ports : Ports) (outs : List Outlet) (known : List (Option Seen)) → AllZip IsSo (all_seen ports outs) known
    → AllZip Below (ports_in known) (map (word_at ports) outs)
ports_below ports [] [] so = tt
ports_below ports [] (one ∷ known) so = absurd so
ports_below ports (outlet ∷ outs) [] so = absurd so
ports_below ports (outlet ∷ outs) (one ∷ known) so = (below_by (given_at ports outlet) one so.0, ports_below ports outs known so.1)

pub ports_lack : (ports : Ports) (outs : List Outlet) (known : List (Option Seen)) → AllZip IsSo (all_seen ports outs) known
    → AllZip Lacks known (map (word_at ports) outs)
ports_lack ports [] [] so = tt
ports_lack ports [] (one ∷ known) so = absurd so
ports_lack ports (outlet ∷ outs) [] so = absurd so
ports_lack ports (outlet ∷ outs) (one ∷ known) so = (lacks_by (given_at ports outlet) one so.0, ports_lack ports outs known so.1)

-- ---- What an output sees grows with the ports

entry_below : (small great : Ports) (place : ℕ) → AllZip Below small great → Below (entry small place) (entry great place)
entry_below [] great place are = tt
entry_below (one ∷ small) [] place are = absurd are
entry_below (one ∷ small) (other ∷ great) zero are = are.0
entry_below (one ∷ small) (other ∷ great) (suc place) are = entry_below small great place are.1

entry_lacks : (known : List (Option Seen)) (ports : Ports) (place : ℕ) → AllZip Lacks known ports → Lacks (entry known place) (entry ports place)
entry_lacks [] [] place are is = refl
entry_lacks [] (port ∷ ports) place are is = absurd are
entry_lacks (one ∷ known) [] place are is = absurd are
entry_lacks (one ∷ known) (port ∷ ports) zero are is = are.0 is
entry_lacks (one ∷ known) (port ∷ ports) (suc place) are is = entry_lacks known ports place are.1 is

module _ (small great : Ports) (are : AllZip Below small great) where
  source_below : (source : InputSource) → Below (input_word small source) (input_word great source)
  source_below (Start word) = refl
  source_below (AtPlace place) = entry_below small great place are

  seen_below : (needed : Bool) (start : ℤ) (source : InputSource)
      → Below (if needed then input_word small source else Some start) (if needed then input_word great source else Some start)
  seen_below true start source = source_below source
  seen_below false start source = refl

  front_below : (first : ℤ) (small_rest great_rest : Option (List ℤ)) → Below small_rest great_rest
      → Below (in_front first small_rest) (in_front first great_rest)
  front_below first None great_rest is = tt
  front_below first (Some rest) great_rest is = ap (in_front first) is

  all_below : (one other : Option ℤ) (rest last : List (Option ℤ)) → Below one other → Below (all_there rest) (all_there last)
      → Below (all_there (one ∷ rest)) (all_there (other ∷ last))
  all_below None other rest last first later = tt
  all_below (Some word) other rest last first later =
      subst (λ found. Below (in_front word (all_there rest)) (all_there (found ∷ last))) (sym first) (front_below word (all_there rest) (all_there last) later)

  inputs_below : (output : Output) (pairs : List (Input × InputSource))
      → Below (all_there (map (seen_by small output) pairs)) (all_there (map (seen_by great output) pairs))
  inputs_below output [] = refl
  inputs_below output ((input, source) ∷ pairs) =
      all_below (seen_by small output (input, source)) (seen_by great output (input, source)) (map (seen_by small output) pairs)
      (map (seen_by great output) pairs)
      (seen_below (is_among output.needs input.name) (start_word input.ty input.start) source) (inputs_below output pairs)

  given_by_inputs : {A : Type 0} (get : List ℤ → A) (one other : Option (List ℤ)) → Below one other → Below (option_map get one) (option_map get other)
  given_by_inputs get None other is = tt
  given_by_inputs get (Some inputs) other is = ap (option_map get) is

  pub given_below : (outlet : Outlet) → Below (given_at small outlet) (given_at great outlet)
  given_below outlet =
      given_by_inputs (λ inputs. get_of outlet.standing.0.component outlet.standing.1 inputs outlet.output) (inputs_for small outlet) (inputs_for great outlet)
      (inputs_below outlet.output (zip outlet.standing.0.component.unit.inputs outlet.standing.0.sources))

-- ---- An output with a need that is undefined

module _ (known : List (Option Seen)) (ports : Ports) (are : AllZip Lacks known ports) where
  abbrev test : ℕ → Bool
  test place = is_undefined (entry known place)

  none_first : (one : Option ℤ) (rest : List (Option ℤ)) → one ≡ None → all_there (one ∷ rest) ≡ None
  none_first one rest is = ap (λ found. all_there (found ∷ rest)) is

  none_later : (one : Option ℤ) (rest : List (Option ℤ)) → all_there rest ≡ None → all_there (one ∷ rest) ≡ None
  none_later None rest is = refl
  none_later (Some word) rest is = ap (in_front word) is

  either : (one other : Bool) (P : Type 0) → (one || other) ≡ true → (one ≡ true → P) → (other ≡ true → P) → P
  either true other P is first second = first refl
  either false other P is first second = second is

  lacks_needed : (needed : Bool) (start : ℤ) (source : InputSource) (rest : List ℕ) (seen : List (Option ℤ))
      → (list_any test rest ≡ true → all_there seen ≡ None) → list_any test (cons_option (if needed then place_in source else None) rest) ≡ true
      → all_there ((if needed then input_word ports source else Some start) ∷ seen) ≡ None
  lacks_needed false start source rest seen later is = none_later (Some start) seen (later is)
  lacks_needed true start (Start word) rest seen later is = none_later (Some word) seen (later is)
  lacks_needed true start (AtPlace place) rest seen later is =
      either (test place) (list_any test rest) (all_there (entry ports place ∷ seen) ≡ None) is
      (λ undefined. none_first (entry ports place) seen (entry_lacks known ports place are undefined))
      (λ others. none_later (entry ports place) seen (later others))

  lacks_inputs : (output : Output) (pairs : List (Input × InputSource)) → list_any test (filter_map (place_needed output) pairs) ≡ true
      → all_there (map (seen_by ports output) pairs) ≡ None
  lacks_inputs output [] is = absurd (cc)
  lacks_inputs output ((input, source) ∷ pairs) is =
      lacks_needed (is_among output.needs input.name) (start_word input.ty input.start) source (filter_map (place_needed output) pairs)
      (map (seen_by ports output) pairs) (lacks_inputs output pairs) is

  pub given_lacks : (outlet : Outlet) → list_any test (places_needed outlet.standing.0 outlet.output) ≡ true → given_at ports outlet ≡ None
  given_lacks outlet is =
      ap (option_map (λ inputs. get_of outlet.standing.0.component outlet.standing.1 inputs outlet.output))
      (lacks_inputs outlet.output (zip outlet.standing.0.component.unit.inputs outlet.standing.0.sources) is)

-- ---- What is determined is true

pub determined_is : (known : List (Option Seen)) (ports : Ports) (outlet : Outlet) (seen : Seen) → AllZip Below (ports_in known) ports
    → AllZip Lacks known ports → determined known outlet ≡ Some seen → seen ≡ seen_of (given_at ports outlet)
determined_is known ports outlet seen below lacks is =
    by_test (list_any (λ place. is_undefined (entry known place)) (places_needed outlet.standing.0 outlet.output)) refl is
  where
    some_is : {A : Type 0} (one other : A) → ◌≡◌ {A = Option A} (Some one) (Some other) → one ≡ other
    some_is one other e = cc

    given_is : (given : Option Outcome) → Below given (given_at ports outlet) → option_map (λ one. seen_of (Some one)) given ≡ Some seen
        → seen ≡ seen_of (given_at ports outlet)
    given_is None under told = absurd (cc)
    given_is (Some one) under told = sym (some_is (seen_of (Some one)) seen told) ∙ ap seen_of (sym under)

    by_test : (undefined : Bool) → list_any (λ place. is_undefined (entry known place)) (places_needed outlet.standing.0 outlet.output) ≡ undefined
        → (if undefined then Some Undefined else option_map (λ given. seen_of (Some given)) (given_at (ports_in known) outlet)) ≡ Some seen
        → seen ≡ seen_of (given_at ports outlet)
    by_test true there told = sym (some_is Undefined seen told) ∙ ap seen_of (sym (given_lacks known ports lacks outlet there))
    by_test false none told = given_is (given_at (ports_in known) outlet) (given_below (ports_in known) ports below outlet) told
