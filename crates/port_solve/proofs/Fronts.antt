-- A prefix of an order: the outputs that were computed so far. The outcome of the next output, where all that it needs are known, is
-- that of the port assignment.
use Rattle.std.proofs.Common.{◌≡◌, ◌∙◌, ℕ, zero, suc, ◌<◌, Bool, true, false, cond, ℤ, pos, List, [], ◌∷◌, ◌++◌, map, length, get_or, set, Option, Some, None}
use Rattle.std.proofs.Common.{Ok, Err, inl, inr, refl, ap, sym, subst, ◌⊎◌, arith}
use Rattle.std.proofs.lemmas.Bool.{and_parts}
use Rattle.std.proofs.lemmas.Option.{get_or_from_slice_get, slice_get_within, same_Some, none-some}
use Rattle.std.specs.Prelude.{slice_get, zip, IfSome, IsSome}
use Rattle.std.specs.List.{AllByRecursion, list_all, filter_map, cons_option}
use Rattle.std.specs.Option.{option_map, option_and_then}
use Rattle.std.specs.Result.{result_ok, result_err}
use Rattle.std.proofs.lemmas.Slice.Zip.{AllZip-long}
use Rattle.fixed_words.specs.Operations.{Outcome}
use Rattle.fixed_words.specs.Types.{lowest, highest, is_between, is_word_of}
use Rattle.fixed_words.specs.declared.types.Ty.{Ty}
use Rattle.port_solve.specs.Solved.{HaveStates, HaveInputs, word_in, ports_told, with_words, all_with}
use Rattle.port_solve.specs.Sound.{types_of_places, Suits, IsSoundMember, IsSound, IsWordOf}
use Rattle.port_solve.specs.Steps.{set_from, asked, word_asked, fault_asked, FitsFeeds, fault_there}
use Rattle.unit_tree.specs.Components.{start_word, get_of}
use Rattle.unit_tree.specs.Compositions.{InputSource, Start, AtPlace, Member, Composition}
use Rattle.unit_tree.specs.Given.{input_numbered, given_by, IsInputWord}
use Rattle.unit_tree.specs.Names.{is_among}
use Rattle.unit_tree.specs.Ports.{Ports, Outlet, IsAmong, IsAssignment, input_word, seen_by, in_front, all_there, inputs_for, given_at, word_at, place_in}
use Rattle.unit_tree.specs.Ports.{place_needed, needs_at}
use Rattle.unit_tree.specs.Routes.{feeds_of, routes_of}
use Rattle.run_laws.specs.RunLaws.{AgreeOn}
use Rattle.unit_tree.specs.WellFormed.{uses_other_input}
use Rattle.unit_tree.specs.declared.order.InputAt.{InputAt}
use Rattle.unit_tree.specs.declared.order.Route.{Route}
use Rattle.unit_tree.specs.declared.order.StartWord.{StartWord}
use Rattle.unit_tree.specs.declared.unit.Input.{Input}
use Rattle.unit_tree.specs.declared.unit.Output.{Output}
use Rattle.run_laws.proofs.AssignmentLaws.{Defined, needs_of, needs_here, all_seen, side_at}
use Rattle.run_laws.proofs.EquationLaws.{all_among, among_either}
use Rattle.language_laws.proofs.PlainNames.{map_has}
use Rattle.run_laws.proofs.SeenLaws.{get_same, get_fits}
use Rattle.port_solve.proofs.InputPlaces.{source_at, feed_is, has_feed}
use Rattle.port_solve.proofs.SetWords.{word_after, shape_after}
use Rattle.port_solve.proofs.OutputPlaces.{OutletAt, outlet_of, given_is, type_is}
use Rattle.list_laws.proofs.Members.{Has, has_map, has_at, at_place, all_has, each_has, set_there, set_elsewhere}
use Rattle.list_laws.proofs.Pairs.{Beside, zip_at}
use Rattle.list_laws.proofs.Lists.{each_more}

-- ---- What is known at a prefix

-- A source has its word: a start word, or one of an output of the prefix.
abbrev pub Known : Ports → List ℕ → InputSource → ℤ → Type 0
Known right front (Start start) word = start ≡ word
Known right front (AtPlace place) word = IsAmong front place × (slice_get right place ≡ Some (Some word))

abbrev pub Agreed : Ports → Ports → ℕ → Type 0
Agreed told right place = slice_get told place ≡ slice_get right place

-- The outputs of the prefix are right, and the inputs that they feed have their words.
pub record IsFront (run : Composition) (right : Ports) (front : List ℕ) (told : Ports) (inputs : List (List ℤ)) : Type 0 where
  pub words : AllByRecursion (Agreed told right) front
  pub fed : (at : InputAt) (source : InputSource) (word : ℤ) → source_at run at ≡ Some source → Known right front source word → word_in inputs at ≡ word
  pub shape : HaveInputs run inputs

-- ---- Options

some_some : (found : Option (Option ℤ)) (word : ℤ) → option_and_then (λ w. w) found ≡ Some word → found ≡ Some (Some word)
some_some None word is = absurd (cc)
some_some (Some None) word is = absurd (cc)
some_some (Some (Some w)) word is = ap Some is

ok_there : (given : Option Outcome) (word : ℤ) → option_and_then result_ok given ≡ Some word → given ≡ Some (Ok word)
ok_there None word is = absurd (cc)
ok_there (Some (Err fault)) word is = absurd (cc)
ok_there (Some (Ok w)) word is = let same : w ≡ word = cc in ap (λ z. Some (Ok z)) same

pub record Mapped {A B : Type 0} (f : A → B) (given : Option A) (y : B) : Type 0 where
  pub one : A
  pub is : given ≡ Some one
  pub made : f one ≡ y

pub mapped : {A B : Type 0} (f : A → B) (given : Option A) (y : B) → option_map f given ≡ Some y → Mapped f given y
mapped f None y is = absurd (cc)
mapped f (Some x) y is = let same : f x ≡ y = cc in record { one = x; is = refl; made = same }

-- ---- Needs that are known

told_true : (known : List Bool) (words : List ℤ) (place : ℕ) (word : ℤ) → slice_get (ports_told known words) place ≡ Some (Some word)
    → get_or known place false ≡ true
told_true [] words place word is = absurd (cc)
told_true (k ∷ known) [] place word is = absurd (cc)
told_true (true ∷ known) (w ∷ words) zero word is = refl
told_true (false ∷ known) (w ∷ words) zero word is = absurd (cc)
told_true (k ∷ known) (w ∷ words) (suc place) word is = told_true known words place word is

true_told : (known : List Bool) (words : List ℤ) (place : ℕ) → length known ≡ length words → get_or known place false ≡ true
    → (word : ℤ) × (slice_get (ports_told known words) place ≡ Some (Some word))
true_told [] words place same is = absurd (cc)
true_told (k ∷ known) [] place same is = absurd (omega (arith, same))
true_told (true ∷ known) (w ∷ words) zero same is = (w, refl)
true_told (false ∷ known) (w ∷ words) zero same is = absurd (cc)
true_told (k ∷ known) (w ∷ words) (suc place) same is = true_told known words place (omega (arith, same)) is

all_known : (right : Ports) (known : List Bool) (words : List ℤ) (needs : List ℕ) → AllByRecursion (Agreed (ports_told known words) right) needs
    → AllByRecursion (Defined right) needs → list_all (λ need. get_or known need false) needs ≡ true
all_known right known words [] agree defined = refl
all_known right known words (need ∷ needs) agree defined =
    rw (told_true known words need defined.0.0 (agree.0 ∙ defined.0.1)) (all_known right known words needs agree.1 defined.1)

known_defined : (right : Ports) (known : List Bool) (words : List ℤ) (needs : List ℕ) → length known ≡ length words
    → AllByRecursion (Agreed (ports_told known words) right) needs → list_all (λ need. get_or known need false) needs ≡ true
    → AllByRecursion (Defined right) needs
known_defined right known words [] same agree all = tt
known_defined right known words (need ∷ needs) same agree all =
    let both = and_parts (get_or known need false) (list_all (λ n. get_or known n false) needs) all in
    let told = true_told known words need same both.0 in
    ((told.0, sym agree.0 ∙ told.1), known_defined right known words needs same agree.1 both.1)

-- ---- What an output sees

record FirstThere (seen : Option ℤ) (rest : List (Option ℤ)) (words : List ℤ) : Type 0 where
  one : ℤ
  others : List ℤ
  one_is : seen ≡ Some one
  others_are : all_there rest ≡ Some others
  words_are : one ∷ others ≡ words

front_there : (seen : ℤ) (rest : List (Option ℤ)) (words : List ℤ) (later : Option (List ℤ)) → all_there rest ≡ later → in_front seen later ≡ Some words
    → FirstThere (Some seen) rest words
front_there seen rest words None later_is is = absurd (cc)
front_there seen rest words (Some others) later_is is = record { one = seen; others = others; one_is = refl; others_are = later_is; words_are = cc }

first_there : (seen : Option ℤ) (rest : List (Option ℤ)) (words : List ℤ) → all_there (seen ∷ rest) ≡ Some words → FirstThere seen rest words
first_there None rest words is = absurd (cc)
first_there (Some seen) rest words is = front_there seen rest words (all_there rest) refl is

-- An input, needed or not.
defined_one : (right : Ports) (needed : Bool) (source : InputSource) (start one : ℤ) (rest : List ℕ)
    → cond needed (input_word right source) (Some start) ≡ Some one → AllByRecursion (Defined right) rest
    → AllByRecursion (Defined right) (cons_option (cond needed (place_in source) None) rest)
defined_one right true (Start word) start one rest seen all = all
defined_one right true (AtPlace place) start one rest seen all = ((one, some_some (slice_get right place) one seen), all)
defined_one right false source start one rest seen all = all

seen_defined : (right : Ports) (output : Output) (pairs : List (Input × InputSource)) (words : List ℤ)
    → all_there (map (seen_by right output) pairs) ≡ Some words → AllByRecursion (Defined right) (filter_map (place_needed output) pairs)
seen_defined right output [] words is = tt
seen_defined right output ((input, source) ∷ pairs) words is =
    let first = first_there (seen_by right output (input, source)) (map (seen_by right output) pairs) words is in
    defined_one right (is_among output.needs input.name) source (start_word input.ty input.start) first.one
    (filter_map (place_needed output) pairs) first.one_is (seen_defined right output pairs first.others first.others_are)

agree_one : (right : Ports) (front : List ℕ) (needed : Bool) (source : InputSource) (start one word : ℤ) (rest : List ℕ)
    → cond needed (input_word right source) (Some start) ≡ Some one → AllByRecursion (IsAmong front) (cons_option (cond needed (place_in source) None) rest)
    → ((w : ℤ) → Known right front source w → word ≡ w) → (needed ≡ true → one ≡ word) × AllByRecursion (IsAmong front) rest
agree_one right front true (Start begin) start one word rest seen among at = (λ is. sym (at one (cc)), among)
agree_one right front true (AtPlace place) start one word rest seen among at =
    (λ is. sym (at one (among.0, some_some (slice_get right place) one seen)), among.1)
agree_one right front false source start one word rest seen among at = (λ is. absurd (cc), among)

agree_along : (right : Ports) (front : List ℕ) (output : Output) (inputs : List Input) (sources : List InputSource) (seen words : List ℤ)
    → length sources ≡ length inputs → length words ≡ length inputs
    → all_there (map (seen_by right output) (zip inputs sources)) ≡ Some seen
    → AllByRecursion (IsAmong front) (filter_map (place_needed output) (zip inputs sources))
    → ((k : ℕ) (source : InputSource) (word : ℤ) → slice_get sources k ≡ Some source → Known right front source word → get_or words k (pos 0) ≡ word)
    → AgreeOn output.needs inputs seen words
agree_along right front output [] sources [] [] same_sources same_words is among at = tt
agree_along right front output [] sources [] (word ∷ words) same_sources same_words is among at = absurd (omega (arith, same_words))
agree_along right front output [] [] (one ∷ seen) words same_sources same_words is among at = absurd (cc)
agree_along right front output [] (source ∷ sources) (one ∷ seen) words same_sources same_words is among at = absurd (omega (arith, same_sources))
agree_along right front output (input ∷ inputs) [] seen words same_sources same_words is among at = absurd (omega (arith, same_sources))
agree_along right front output (input ∷ inputs) (source ∷ sources) seen [] same_sources same_words is among at = absurd (omega (arith, same_words))
agree_along right front output (input ∷ inputs) (source ∷ sources) seen (word ∷ words) same_sources same_words is among at =
    let first = first_there (seen_by right output (input, source)) (map (seen_by right output) (zip inputs sources)) seen is in
    let here =
    agree_one right front (is_among output.needs input.name) source (start_word input.ty input.start) first.one word
    (filter_map (place_needed output) (zip inputs sources)) first.one_is among (λ w known. at 0 source w refl known) in
    let rest =
    agree_along right front output inputs sources first.others words (omega (arith, same_sources)) (omega (arith, same_words)) first.others_are here.1
    (λ k s w there known. at (suc k) s w there known) in
    subst (λ all. AgreeOn output.needs (input ∷ inputs) all (word ∷ words)) first.words_are (here.0, rest)

-- ---- The next output

pub suits_at : (types : List Ty) (inputs : List Input) (sources : List InputSource) (k : ℕ) (input : Input) (source : InputSource)
    → AllByRecursion (Suits types) (zip inputs sources) → slice_get inputs k ≡ Some input → slice_get sources k ≡ Some source → Suits types (input, source)
suits_at types [] sources k input source all input_is source_is = absurd (cc)
suits_at types (i ∷ inputs) [] k input source all input_is source_is = absurd (cc)
suits_at types (i ∷ inputs) (s ∷ sources) zero input source all input_is source_is =
    let same_input : i ≡ input = cc in
    let same_source : s ≡ source = cc in
    subst (λ x. Suits types (x, source)) same_input (subst (λ y. Suits types (i, y)) same_source all.0)
suits_at types (i ∷ inputs) (s ∷ sources) (suc k) input source all input_is source_is = suits_at types inputs sources k input source all.1 input_is source_is

is_between_same : (ty other : Ty) (word : ℤ) → lowest ty ≡ lowest other → highest ty ≡ highest other → is_word_of ty word ≡ true → is_word_of other word ≡ true
is_between_same ty other word low high is = sym (ap (λ l. is_between l (highest ty) word) low ∙ ap (λ h. is_between (lowest other) h word) high) ∙ is

abbrev pub HasState : Member → List ℤ → Type 0
HasState member state = length state ≡ length member.component.unit.states

abbrev pub HasWords : Member → List ℤ → Type 0
HasWords member words = length words ≡ length member.component.unit.inputs

module _ (run : Composition) (sound : IsSound run) where
  pub sound_member : (instance : ℕ) (member : Member) → slice_get run.members instance ≡ Some member → IsSoundMember (types_of_places run) member
  sound_member instance member is = each_has (IsSoundMember (types_of_places run)) run.members member sound (has_at run.members instance member is)

  pub same_sources : (instance : ℕ) (member : Member) → slice_get run.members instance ≡ Some member
      → length member.sources ≡ length member.component.unit.inputs
  same_sources instance member is = (sound_member instance member is).sources

  -- ---- Words for inputs

  record InputOf (at : InputAt) (source : InputSource) : Type 0 where
    input : Input
    is_there : input_numbered run at.instance at.input ≡ Some input
    suits : Suits (types_of_places run) (input, source)

  input_by : (at : InputAt) (source : InputSource) (found : Option Member) → slice_get run.members at.instance ≡ found
      → option_and_then (λ (member : Member). slice_get member.sources at.input) found ≡ Some source → InputOf at source
  input_by at source None found is = absurd (cc)
  input_by at source (Some member) found is =
      let member_sound = sound_member at.instance member found in
      let within : at.input < length member.component.unit.inputs = omega (arith, slice_get_within member.sources at.input source is, member_sound.sources) in
      let input = at_place member.component.unit.inputs at.input within in
      record {
        input = input.0;
        is_there = ap (option_and_then (λ (m : Member). slice_get m.component.unit.inputs at.input)) found ∙ input.1;
        suits = suits_at (types_of_places run) member.component.unit.inputs member.sources at.input input.0 source member_sound.suits input.1 is;
      }

  input_of : (at : InputAt) (source : InputSource) → source_at run at ≡ Some source → InputOf at source
  input_of at source is = input_by at source (slice_get run.members at.instance) refl is

  -- A start word has the type of its input.
  pub start_fits : (at : InputAt) (word : ℤ) → source_at run at ≡ Some (Start word) → IsInputWord run at.instance at.input word
  start_fits at word is =
      let of = input_of at (Start word) is in
      record { input = of.input; is_there = of.is_there; fits = of.suits }

  -- A word of an output's type has the type of each input that it feeds.
  pub feed_fits : (at : InputAt) (place : ℕ) (word : ℤ) → source_at run at ≡ Some (AtPlace place) → IsWordOf run place word
      → IsInputWord run at.instance at.input word
  feed_fits at place word is fits =
      let of = input_of at (AtPlace place) is in
      record {
        input = of.input;
        is_there = of.is_there;
        fits =
            is_between_same of.suits.0 of.input.ty word of.suits.2.0 of.suits.2.1
            (subst (λ found. IfSome found (λ ty. is_word_of ty word ≡ true)) of.suits.1 fits);
      }

module _ (run : Composition) (states : List (List ℤ)) (sound : IsSound run) (have : HaveStates run states) where
  abbrev pub one_state : length states ≡ length run.members
  one_state = AllZip-long HasState run.members states have

  -- An output can be computed where there are words for all inputs.
  pub can_be_asked : (inputs : List (List ℤ)) (place : ℕ) (route : Route) → HaveInputs run inputs → slice_get (routes_of run).outputs place ≡ Some route
      → IsSome (given_by run states inputs route.instance route.output)
  can_be_asked inputs place route shape is_route =
      let at = outlet_of run states place route one_state is_route in
      let words = zip_at HasWords run.members inputs route.instance at.outlet.standing.0 shape at.member in
      rw (given_is run states place route at inputs words.other words.is) refl

  -- ---- The next output

  module _ (right : Ports) (front : List ℕ) (known : List Bool) (words : List ℤ) (inputs : List (List ℤ))
      (is_front : IsFront run right front (ports_told known words) inputs) (same : length known ≡ length words) (place : ℕ) (route : Route)
      (is_route : slice_get (routes_of run).outputs place ≡ Some route) (behind : AllByRecursion (IsAmong front) (needs_at run place)) where
    abbrev pub at : OutletAt run states place route
    at = outlet_of run states place route one_state is_route

    abbrev pub outlet : Outlet
    outlet = at.outlet

    abbrev member : Member
    member = outlet.standing.0

    abbrev output : Output
    output = outlet.output

    abbrev member_sound : IsSoundMember (types_of_places run) member
    member_sound = sound_member run sound route.instance member at.member

    needs_are : needs_at run place ≡ needs_of outlet
    needs_are = needs_here run states place outlet one_state at.is

    needs_behind : AllByRecursion (IsAmong front) (needs_of outlet)
    needs_behind = subst (AllByRecursion (IsAmong front)) needs_are behind

    needs_agree : AllByRecursion (Agreed (ports_told known words) right) (needs_of outlet)
    needs_agree = all_among (Agreed (ports_told known words) right) front (needs_of outlet) is_front.words needs_behind

    state_length : length outlet.standing.1 ≡ length member.component.unit.states
    state_length =
        let beside = zip_at HasState run.members states route.instance member have at.member in
        let same_state : beside.other ≡ outlet.standing.1 = same_Some beside.other outlet.standing.1 (sym beside.is ∙ at.state) in
        subst (λ (s : List ℤ). length s ≡ length member.component.unit.states) same_state beside.related

    abbrev words_there : Beside HasWords member inputs route.instance
    words_there = zip_at HasWords run.members inputs route.instance member is_front.shape at.member

    abbrev actual : List ℤ
    actual = words_there.other

    given : given_by run states inputs route.instance route.output ≡ Some (get_of member.component outlet.standing.1 actual output)
    given = given_is run states place route at inputs actual words_there.is

    -- The output can be computed.
    pub is_given : IsSome (given_by run states inputs route.instance route.output)
    is_given = can_be_asked inputs place route is_front.shape is_route

    word_of_input : (k : ℕ) (source : InputSource) (word : ℤ) → slice_get member.sources k ≡ Some source → Known right front source word
        → get_or actual k (pos 0) ≡ word
    word_of_input k source word there is_known =
        let source_is : source_at run (record { instance = route.instance; input = k }) ≡ Some source =
        ap (option_and_then (λ (m : Member). slice_get m.sources k)) at.member
        ∙ there in
        sym (ap (λ ws. get_or ws k (pos 0)) (get_or_from_slice_get inputs route.instance actual [] words_there.is))
        ∙ is_front.fed (record { instance = route.instance; input = k }) source word source_is is_known

    same_given : (seen : List ℤ) → inputs_for right outlet ≡ Some seen
        → get_of member.component outlet.standing.1 seen output ≡ get_of member.component outlet.standing.1 actual output
    same_given seen is =
        get_same member.component outlet.standing.1 seen actual output member_sound.params state_length
        (agree_along right front output member.component.unit.inputs member.sources seen actual member_sound.sources words_there.related is needs_behind
        word_of_input)
        (each_has (λ (o : Output). uses_other_input member.component.unit o.needs o.value ≡ false) member.component.unit.outputs output member_sound.needs
        (has_at member.component.unit.outputs route.output output at.output))

    abbrev are_known : Bool
    are_known = list_all (λ need. get_or known need false) route.needs

    known_if : (seen : List ℤ) → inputs_for right outlet ≡ Some seen → are_known ≡ true
    known_if seen is =
        ap (list_all (λ need. get_or known need false)) at.needs
        ∙ all_known right known words (needs_of outlet) needs_agree (seen_defined right output (zip member.component.unit.inputs member.sources) seen is)

    seen_if : are_known ≡ true → (seen : List ℤ) × (inputs_for right outlet ≡ Some seen)
    seen_if all =
        all_seen right output (zip member.component.unit.inputs member.sources)
        (known_defined right known words (needs_of outlet) same needs_agree (sym (ap (list_all (λ need. get_or known need false)) at.needs) ∙ all))

    by_known : (told : Bool) → are_known ≡ told → inputs_for right outlet ≡ None → asked run states inputs known route ≡ given_at right outlet
    by_known true all none = let seen = seen_if all in absurd (none-some seen.0 (sym none ∙ seen.1))
    by_known false all none =
        ap (λ told. cond told (given_by run states inputs route.instance route.output) None) all
        ∙ sym (ap (option_map (λ seen. get_of member.component outlet.standing.1 seen output)) none)

    by_seen : (seen : Option (List ℤ)) → inputs_for right outlet ≡ seen → asked run states inputs known route ≡ given_at right outlet
    by_seen None is = by_known are_known refl is
    by_seen (Some seen) is =
        ap (λ told. cond told (given_by run states inputs route.instance route.output) None) (known_if seen is)
        ∙ given
        ∙ ap Some (sym (same_given seen is))
        ∙ sym (ap (option_map (λ all. get_of member.component outlet.standing.1 all output)) is)

    -- Its outcome is that of the assignment.
    pub asked_is : asked run states inputs known route ≡ given_at right outlet
    asked_is = by_seen (inputs_for right outlet) refl

    pub word_is : word_asked run states inputs known route ≡ word_at right outlet
    word_is = ap (option_and_then result_ok) asked_is

    -- So is its fault.
    pub fault_is : fault_asked run states inputs known route ≡ fault_there run states right place
    fault_is = ap (option_and_then result_err) (asked_is ∙ sym (ap (option_and_then (given_at right)) at.is))

    fits_by : (word : ℤ) → word_at right outlet ≡ Some word → AllByRecursion (λ at. IsInputWord run at.instance at.input word) route.feeds
    fits_by word is =
        let is_ok = ok_there (given_at right outlet) word is in
        let seen = mapped (λ all. get_of member.component outlet.standing.1 all output) (inputs_for right outlet) (Ok word) is_ok in
        let fits = get_fits member.component outlet.standing.1 seen.one output word seen.made in
        let fits_there : IsWordOf run place word =
        subst (λ found. IfSome found (λ ty. is_word_of ty word ≡ true)) (sym (type_is run states place outlet one_state at.is)) fits in
        subst (AllByRecursion (λ a. IsInputWord run a.instance a.input word)) (sym at.feeds)
        (all_has (λ a. IsInputWord run a.instance a.input word) (feeds_of run place)
        (λ a has. feed_fits run sound a place word (feed_is run place a has) fits_there))

    by_word : (word : Option ℤ) → word_at right outlet ≡ word → IfSome word (λ w. AllByRecursion (λ a. IsInputWord run a.instance a.input w) route.feeds)
    by_word None is = tt
    by_word (Some word) is = fits_by word is

    -- The inputs that it feeds may be set to its word.
    pub fits_feeds : FitsFeeds run route.feeds (word_asked run states inputs known route)
    fits_feeds =
        subst (λ word. IfSome word (λ w. AllByRecursion (λ a. IsInputWord run a.instance a.input w) route.feeds)) (sym word_is)
        (by_word (word_at right outlet) refl)

    -- ---- The prefix with it

    module _ (is_right : IsAssignment run states right) (apart : IsAmong front place → ⊥) (within : place < length (ports_told known words)) where
      right_is : slice_get right place ≡ Some (word_at right outlet)
      right_is = ap (λ ports. slice_get ports place) is_right ∙ side_at run states right place outlet at.is

      abbrev now : Ports
      now = set (ports_told known words) place (word_at right outlet)

      still_agree : (some : List ℕ) → AllByRecursion (Agreed (ports_told known words) right) some → (IsAmong some place → ⊥)
          → AllByRecursion (Agreed now right) some
      still_agree [] all not_there = tt
      still_agree (first ∷ some) all not_there = (
        set_elsewhere (ports_told known words) place first (word_at right outlet) (λ is. not_there (inl is)) ∙ all.0,
        still_agree some all.1 (λ there. not_there (inr there)),
      )

      all_agree : AllByRecursion (Agreed now right) (front ++ (place ∷ []))
      all_agree =
          each_more (Agreed now right) front place (still_agree front is_front.words apart)
          (set_there (ports_told known words) place (word_at right outlet) within ∙ sym right_is)

      abbrev sets : Option ℤ → List StartWord
      sets word = set_from word route.feeds

      -- Where it has no word, nothing changes.
      none_fed : word_at right outlet ≡ None → (a : InputAt) (source : InputSource) (word : ℤ) → source_at run a ≡ Some source
          → Known right (front ++ (place ∷ [])) source word → word_in inputs a ≡ word
      none_fed none a (Start start) word is is_known = is_front.fed a (Start start) word is is_known
      none_fed none a (AtPlace q) word is is_known = elim (among_either front place q is_known.0) [
        | inl there ↦ is_front.fed a (AtPlace q) word is (there, is_known.1)
        | inr here ↦ absurd (differ (sym (right_is ∙ ap Some none) ∙ ap (slice_get right) here ∙ is_known.1))
      ]
        where
          differ : Some None ≡ Some (Some word) → ⊥
          differ is = cc

      module _ (v : ℤ) (v_is : word_at right outlet ≡ Some v) where
        same_word : (word : ℤ) → slice_get right place ≡ Some (Some word) → v ≡ word
        same_word word is = some_same (sym (right_is ∙ ap Some v_is) ∙ is)
          where
            some_same : Some (Some v) ≡ Some (Some word) → v ≡ word
            some_same is = cc

        before : (a : InputAt) (source : InputSource) (word : ℤ) → source_at run a ≡ Some source → Known right (front ++ (place ∷ [])) source word
            → (word_in inputs a ≡ word) ⊎ ((start : StartWord) × Has (all_with v route.feeds) start × (start.at ≡ a))
        before a (Start start) word is is_known = inl (is_front.fed a (Start start) word is is_known)
        before a (AtPlace q) word is is_known = elim (among_either front place q is_known.0) [
          | inl there ↦ inl (is_front.fed a (AtPlace q) word is (there, is_known.1))
          | inr here ↦
              let fed : source_at run a ≡ Some (AtPlace place) = is ∙ ap (λ p. Some (AtPlace p)) (sym here) in
              let has : Has route.feeds a = subst (λ feeds. Has feeds a) (sym at.feeds) (has_feed run place a fed) in
              inr (record { at = a; word = v }, has_map (λ x. record { at = x; word = v }) route.feeds a has, refl)
        ]

        agrees : (a : InputAt) (source : InputSource) (word : ℤ) → source_at run a ≡ Some source → Known right (front ++ (place ∷ [])) source word
            → (start : StartWord) → Has (all_with v route.feeds) start → start.at ≡ a → start.word ≡ word
        agrees a source word is is_known start has same_at =
            let from = map_has (λ x. record { at = x; word = v }) route.feeds start has in
            let fed = feed_is run place from.one (subst (λ feeds. Has feeds from.one) at.feeds from.has) in
            let from_is : from.one ≡ a = ap (λ (s : StartWord). s.at) from.is ∙ same_at in
            let source_is : source ≡ AtPlace place = same_Some source (AtPlace place) (sym is ∙ ap (source_at run) (sym from_is) ∙ fed) in
            let there : Known right (front ++ (place ∷ [])) (AtPlace place) word = subst (λ s. Known right (front ++ (place ∷ [])) s word) source_is is_known in
            sym (ap (λ (s : StartWord). s.word) from.is) ∙ same_word word there.1

        some_fed : (a : InputAt) (source : InputSource) (word : ℤ) → source_at run a ≡ Some source → Known right (front ++ (place ∷ [])) source word
            → word_in (with_words inputs (all_with v route.feeds)) a ≡ word
        some_fed a source word is is_known =
            word_after run (same_sources run sound) a source is word (all_with v route.feeds) inputs is_front.shape (agrees a source word is is_known)
            (before a source word is is_known)

      fed_by : (word : Option ℤ) → word_at right outlet ≡ word → (a : InputAt) (source : InputSource) (w : ℤ) → source_at run a ≡ Some source
          → Known right (front ++ (place ∷ [])) source w → word_in (with_words inputs (sets word)) a ≡ w
      fed_by None is = none_fed is
      fed_by (Some v) is = some_fed v is

      next : IsFront run right (front ++ (place ∷ [])) now (with_words inputs (sets (word_at right outlet)))
      next = record {
        words = all_agree;
        fed = fed_by (word_at right outlet) refl;
        shape = shape_after run (sets (word_at right outlet)) inputs is_front.shape;
      }

      -- With its known word, and the inputs that it sets.
      pub next_front : (told : Ports) (later : List (List ℤ)) → told ≡ set (ports_told known words) place (word_asked run states inputs known route)
          → later ≡ with_words inputs (set_from (word_asked run states inputs known route) route.feeds) → IsFront run right (front ++ (place ∷ [])) told later
      next_front told later told_is later_is =
          let told_right : now ≡ told = sym (told_is ∙ ap (set (ports_told known words) place) word_is) in
          let later_right : with_words inputs (sets (word_at right outlet)) ≡ later = sym (later_is ∙ ap (λ word. with_words inputs (sets word)) word_is) in
          subst (λ t. IsFront run right (front ++ (place ∷ [])) t later) told_right (subst (IsFront run right (front ++ (place ∷ [])) now) later_right next)
