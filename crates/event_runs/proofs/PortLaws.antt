-- The equations of the source's outputs are those of the plain form's, read as signals.
use Rattle.std.proofs.Common.{◌≡◌, ℕ, zero, suc, Bool, true, false, ℤ, pos, List, [], ◌∷◌, ◌++◌, map, length, if◌then◌else◌, Option, Some, None, Ok, Err, inl}
use Rattle.std.proofs.Common.{inr, refl, sym, ap, ◌∙◌, subst, arith}
use Rattle.std.specs.Prelude.{◌||◌, slice_get, zip}
use Rattle.std.specs.List.{AllByRecursion, flat_map}
use Rattle.std.specs.Option.{option_map, option_and_then}
use Rattle.std.specs.Str.{bytes_eq}
use Rattle.std.proofs.lemmas.Bool.Decides.{nat_tests}
use Rattle.std.proofs.lemmas.Int.{ints}
use Rattle.std.specs.Prelude.{nat_le, ◌-◌, ◌*ℤ◌}
use Rattle.fixed_words.specs.Literals.{within_type}
use Rattle.fixed_words.specs.Operations.{ten_to}
use Rattle.fixed_words.specs.declared.types.LiteralFault.TheVariants.{Form}
use Rattle.unit_tree.specs.Components.{or_zero}
use Rattle.fixed_words.specs.declared.types.Ty.{Ty}
use Rattle.fixed_words.specs.declared.types.Ty.TheVariants as types
use Rattle.unit_tree.specs.Components.{start_word}
use Rattle.unit_tree.specs.Compositions.{InputSource, Start, AtPlace}
use Rattle.unit_tree.specs.Names.{is_among, event_input_names}
use Rattle.unit_tree.specs.Plain.{presence_name, plain_inputs, plain_needs, no_event}
use Rattle.unit_tree.specs.Ports.{Ports, input_word, seen_by, in_front, all_there}
use Rattle.unit_tree.specs.Tokens.{IsWord}
use Rattle.unit_tree.specs.declared.unit.EventIn.{EventIn}
use Rattle.unit_tree.specs.declared.unit.Input.{Input}
use Rattle.unit_tree.specs.declared.unit.Output.{Output}
use Rattle.unit_tree.specs.declared.unit.Unit.{Unit}
use Rattle.language_laws.proofs.NameLaws.{same_bytes, bytes_of}
use Rattle.language_laws.proofs.PlainNames.{IsPlain, word_is_plain, same_presence}
use Rattle.list_laws.proofs.Truths.{true_is_false}
use Rattle.event_runs.specs.EventPorts.{Signals, word_from, signal_from, word_needed, signal_needed, seen_both}
use Rattle.event_runs.specs.Readings.{read_pair, read_ports, plain_place, plain_source, plain_feed, words_of_signal, plain_words}
use Rattle.event_runs.specs.Laws.{IsTidyPair, AreTidy, SourceFits, FeedFits}
use Rattle.event_runs.specs.Events.{Signal, Occurs, Absent, Seen, word_seen}
use Rattle.event_runs.proofs.CallLaws.{one_less, none_over, none_under}
use Rattle.event_runs.proofs.SlotLaws.{other_bytes}

-- ---- Lists of the elements that are there

abbrev pub joined : {A : Type 0} → Option (List A) → Option (List A) → Option (List A)
joined (Some xs) (Some ys) = Some (xs ++ ys)
joined _ _ = None

pub nothing_joined : {A : Type 0} (ys : Option (List A)) → ys ≡ joined (Some []) ys
nothing_joined None = refl
nothing_joined (Some ys) = refl

pub front_joined : {A : Type 0} (x : A) (xs ys : Option (List A)) → in_front x (joined xs ys) ≡ joined (in_front x xs) ys
front_joined x None ys = refl
front_joined x (Some xs) None = refl
front_joined x (Some xs) (Some ys) = refl

pub there_append : {A : Type 0} (xs ys : List (Option A)) → all_there (xs ++ ys) ≡ joined (all_there xs) (all_there ys)
there_append [] ys = nothing_joined (all_there ys)
there_append (None ∷ xs) ys = refl
there_append (Some x ∷ xs) ys = ap (in_front x) (there_append xs ys) ∙ front_joined x (all_there xs) (all_there ys)

pub zip_append : {A B : Type 0} (xs xs' : List A) (ys ys' : List B) → length ys ≡ length xs → zip (xs ++ xs') (ys ++ ys') ≡ zip xs ys ++ zip xs' ys'
zip_append [] xs' [] ys' is = refl
zip_append [] xs' (b ∷ ys) ys' is = absurd (none_under b ys is)
zip_append (a ∷ xs) xs' [] ys' is = absurd (none_over a xs is)
zip_append (a ∷ xs) xs' (b ∷ ys) ys' is = ap (λ rest. (a, b) ∷ rest) (zip_append xs xs' ys ys' (one_less b ys a xs is))

pub front_length : {C : Type 0} (count : ℕ) (x : C) (given : Option (List C)) (zs : List C) → in_front x given ≡ Some zs
    → ((rest : List C) → given ≡ Some rest → length rest ≡ count) → length zs ≡ suc count
front_length count x None zs is later = absurd (cc)
front_length count x (Some rest) zs is later =
    let same : x ∷ rest ≡ zs = cc in
    let shorter = later rest refl in
    sym (ap length same) ∙ (omega (arith, shorter))

pub there_length_by : {C : Type 0} (count : ℕ) (first : Option C) (rest : List (Option C)) (zs : List C) → all_there (first ∷ rest) ≡ Some zs
    → ((later : List C) → all_there rest ≡ Some later → length later ≡ count) → length zs ≡ suc count
there_length_by count None rest zs is later = absurd (cc)
there_length_by count (Some x) rest zs is later = front_length count x (all_there rest) zs is later

pub there_length : {A B C : Type 0} (f : A × B → Option C) (xs : List A) (ys : List B) (zs : List C) → length ys ≡ length xs
    → all_there (map f (zip xs ys)) ≡ Some zs → length zs ≡ length xs
there_length f [] [] zs count is = let same : [] ≡ zs = cc in sym (ap length same)
there_length f [] (b ∷ ys) zs count is = absurd (none_under b ys count)
there_length f (a ∷ xs) [] zs count is = absurd (none_over a xs count)
there_length f (a ∷ xs) (b ∷ ys) zs count is =
    there_length_by (length xs) (f (a, b)) (map f (zip xs ys)) zs is (λ later told. there_length f xs ys later (one_less b ys a xs count) told)

-- ---- Two ports as a signal

pub tidy_pair : (tells word : Option ℤ) → IsTidyPair tells word → all_there (tells ∷ word ∷ []) ≡ option_map words_of_signal (read_pair tells word)
tidy_pair None word tidy = refl
tidy_pair (Some tells) None tidy = refl
tidy_pair (Some tells) (Some word) (inl is) =
    subst (λ t. all_there (Some t ∷ Some word ∷ []) ≡ option_map words_of_signal (read_pair (Some t) (Some word))) (sym is) refl
tidy_pair (Some tells) (Some word) (inr are) =
    subst (λ t. all_there (Some t ∷ Some word ∷ []) ≡ option_map words_of_signal (read_pair (Some t) (Some word))) (sym are.0)
    (subst (λ w. all_there (Some (pos 0) ∷ Some w ∷ []) ≡ option_map words_of_signal (read_pair (Some (pos 0)) (Some w))) (sym are.1) refl)

pub plain_at : (shape : List Bool) (ports : Ports) (place : ℕ) → AreTidy shape ports → slice_get shape place ≡ Some false
    → slice_get (read_ports shape ports) place ≡ option_map (option_map Occurs) (slice_get ports (plain_place shape place))
plain_at [] ports place tidy is = absurd (cc)
plain_at (false ∷ shape) [] place tidy is = absurd tidy
plain_at (false ∷ shape) (word ∷ ports) zero tidy is = refl
plain_at (false ∷ shape) (word ∷ ports) (suc place) tidy is = plain_at shape ports place tidy is
plain_at (true ∷ shape) [] place tidy is = absurd tidy
plain_at (true ∷ shape) (tells ∷ []) place tidy is = absurd tidy
plain_at (true ∷ shape) (tells ∷ word ∷ ports) zero tidy is = absurd (cc)
plain_at (true ∷ shape) (tells ∷ word ∷ ports) (suc place) tidy is = plain_at shape ports place tidy.1 is

pub record PairAt (shape : List Bool) (ports : Ports) (place : ℕ) : Type 0 where
  pub tells : Option ℤ
  pub word : Option ℤ
  pub tells_is : slice_get ports (plain_place shape place) ≡ Some tells
  pub word_is : slice_get ports (suc (plain_place shape place)) ≡ Some word
  pub read : slice_get (read_ports shape ports) place ≡ Some (read_pair tells word)
  pub tidy : IsTidyPair tells word

pub event_at : (shape : List Bool) (ports : Ports) (place : ℕ) → AreTidy shape ports → slice_get shape place ≡ Some true → PairAt shape ports place
event_at [] ports place tidy is = absurd (cc)
event_at (false ∷ shape) [] place tidy is = absurd tidy
event_at (false ∷ shape) (word ∷ ports) zero tidy is = absurd (cc)
event_at (false ∷ shape) (word ∷ ports) (suc place) tidy is =
    let at = event_at shape ports place tidy is in
    record { tells = at.tells; word = at.word; tells_is = at.tells_is; word_is = at.word_is; read = at.read; tidy = at.tidy }
event_at (true ∷ shape) [] place tidy is = absurd tidy
event_at (true ∷ shape) (tells ∷ []) place tidy is = absurd tidy
event_at (true ∷ shape) (tells ∷ word ∷ ports) zero tidy is = record { tells = tells; word = word; tells_is = refl; word_is = refl; read = refl; tidy = tidy.0 }
event_at (true ∷ shape) (tells ∷ word ∷ ports) (suc place) tidy is =
    let at = event_at shape ports place tidy.1 is in
    record { tells = at.tells; word = at.word; tells_is = at.tells_is; word_is = at.word_is; read = at.read; tidy = at.tidy }

-- ---- Needs

pub among_by : (told : Bool) (unit : Unit) (need name : List ℕ) (rest : List (List ℕ)) (later : Bool) → IsPlain name → is_among rest name ≡ later
    → is_among ((if told then presence_name need ∷ need ∷ [] else need ∷ []) ++ rest) name ≡ (bytes_eq name need || later)
among_by true unit need name rest later plain is =
    ap (λ first. first || (bytes_eq name need || is_among rest name)) (other_bytes name (presence_name need) (λ same. plain need same))
    ∙ ap (λ b. bytes_eq name need || b) is
among_by false unit need name rest later plain is = ap (λ b. bytes_eq name need || b) is

pub among_plain : (unit : Unit) (needs : List (List ℕ)) (name : List ℕ) → IsPlain name → is_among (plain_needs unit needs) name ≡ is_among needs name
among_plain unit [] name plain = refl
among_plain unit (need ∷ needs) name plain =
    among_by (is_among (event_input_names unit) need) unit need name (plain_needs unit needs) (is_among needs name) plain (among_plain unit needs name plain)

pub presence_bytes_by : (told : Bool) (one other : List ℕ) → bytes_eq one other ≡ told → bytes_eq (presence_name one) (presence_name other) ≡ told
presence_bytes_by true one other is = bytes_of (presence_name one) (presence_name other) (ap presence_name (same_bytes one other is))
presence_bytes_by false one other is =
    other_bytes (presence_name one) (presence_name other) (λ same. true_is_false (bytes_eq one other) (bytes_of one other (same_presence one other same)) is)

pub presence_bytes : (one other : List ℕ) → bytes_eq (presence_name one) (presence_name other) ≡ bytes_eq one other
presence_bytes one other = presence_bytes_by (bytes_eq one other) one other refl

pub presence_by : (told : Bool) (unit : Unit) (need name : List ℕ) (rest : List (List ℕ)) (later : Bool) → IsPlain need
    → (told ≡ false → bytes_eq name need ≡ false) → is_among rest (presence_name name) ≡ later
    → is_among ((if told then presence_name need ∷ need ∷ [] else need ∷ []) ++ rest) (presence_name name) ≡ (bytes_eq name need || later)
presence_by true unit need name rest later plain differ is =
    let other : bytes_eq (presence_name name) need ≡ false = other_bytes (presence_name name) need (λ same. plain name (sym same)) in
    ap (λ first. first || (bytes_eq (presence_name name) need || is_among rest (presence_name name))) (presence_bytes name need)
    ∙ ap (λ b. bytes_eq name need || (b || is_among rest (presence_name name))) other
    ∙ ap (λ b. bytes_eq name need || b) is
presence_by false unit need name rest later plain differ is =
    let other : bytes_eq (presence_name name) need ≡ false = other_bytes (presence_name name) need (λ same. plain name (sym same)) in
    ap (λ b. b || is_among rest (presence_name name)) other ∙ is ∙ sym (ap (λ b. b || later) (differ refl))

pub among_presence : (unit : Unit) (needs : List (List ℕ)) (name : List ℕ) → AllByRecursion IsWord needs → is_among (event_input_names unit) name ≡ true
    → is_among (plain_needs unit needs) (presence_name name) ≡ is_among needs name
among_presence unit [] name words event = refl
among_presence unit (need ∷ needs) name words event =
    presence_by (is_among (event_input_names unit) need) unit need name (plain_needs unit needs) (is_among needs name) (word_is_plain need words.0) differ
    (among_presence unit needs name words.1 event)
  where
    differ : is_among (event_input_names unit) need ≡ false → bytes_eq name need ≡ false
    differ none =
        other_bytes name need (λ same.
        true_is_false (is_among (event_input_names unit) need) (ap (is_among (event_input_names unit)) (sym same) ∙ event) none)

-- ---- What an output reads

module _ (shape : List Bool) (ports : Ports) (tidy : AreTidy shape ports) where
  abbrev pub signals : Signals
  signals = read_ports shape ports

  pub word_by : (found : Option (Option ℤ))
      → option_and_then (λ word. word) found ≡ option_map word_seen (option_and_then (λ signal. signal) (option_map (option_map Occurs) found))
  word_by None = refl
  word_by (Some None) = refl
  word_by (Some (Some word)) = refl

  pub source_word : (source : InputSource) → SourceFits shape source → input_word ports (plain_source shape source) ≡ word_from signals source
  source_word (Start word) fits = refl
  source_word (AtPlace place) fits =
      word_by (slice_get ports (plain_place shape place))
      ∙ sym (ap (λ found. option_map word_seen (option_and_then (λ signal. signal) found)) (plain_at shape ports place tidy fits))

  pub feed_words : (feed : Option ℕ) → FeedFits shape feed
      → all_there (map (input_word ports) (plain_feed shape feed)) ≡ option_map words_of_signal (signal_from signals feed)
  feed_words None fits = refl
  feed_words (Some place) fits =
      let at = event_at shape ports place tidy fits in
      ap (λ found. all_there
      (option_and_then (λ word. word) found ∷ option_and_then (λ word. word) (slice_get ports (suc (plain_place shape place))) ∷ [])) at.tells_is
      ∙ ap (λ found. all_there (at.tells ∷ option_and_then (λ word. word) found ∷ [])) at.word_is
      ∙ tidy_pair at.tells at.word at.tidy
      ∙ sym (ap (λ found. option_map words_of_signal (option_and_then (λ signal. signal) found)) at.read)

  module _ (unit : Unit) (needs : List (List ℕ)) (words : AllByRecursion IsWord needs) (output : Output)
      (needs_is : output.needs ≡ plain_needs unit needs) where
    pub plain_seen : (inputs : List Input) (sources : List InputSource) → AllByRecursion (λ input. IsWord input.name) inputs
        → AllByRecursion (SourceFits shape) sources
        → map (seen_by ports output) (zip inputs (map (plain_source shape) sources)) ≡ map (word_needed signals needs) (zip inputs sources)
    plain_seen [] sources named fits = refl
    plain_seen (input ∷ inputs) [] named fits = refl
    plain_seen (input ∷ inputs) (source ∷ sources) named fits =
        let among : is_among output.needs input.name ≡ is_among needs input.name = ap (λ all. is_among all input.name) needs_is
        ∙ among_plain unit needs input.name (word_is_plain input.name named.0) in
        ap (λ told. (if told then input_word ports (plain_source shape source) else Some (start_word input.ty input.start))
        ∷ map (seen_by ports output) (zip inputs (map (plain_source shape) sources))) among
        ∙ ap (λ word. (if is_among needs input.name then word else Some (start_word input.ty input.start))
        ∷ map (seen_by ports output) (zip inputs (map (plain_source shape) sources))) (source_word source fits.0)
        ∙ ap (λ rest. word_needed signals needs (input, source) ∷ rest) (plain_seen inputs sources named.1 fits.1)

    -- An event input that is not needed is read as 0 and 0.
    abbrev pub StartsAtZero : EventIn → Type 0
    StartsAtZero event = start_word event.ty (no_event event.ty) ≡ pos 0

    pub pair_by : (told : Bool) (event : EventIn) (feed : Option ℕ) (one other : InputSource) → plain_feed shape feed ≡ one ∷ other ∷ [] → FeedFits shape feed
        → StartsAtZero event → all_there
        ((if told then input_word ports one else Some (pos 0)) ∷ (if told then input_word ports other else Some (start_word event.ty (no_event event.ty))) ∷ [])
        ≡ option_map words_of_signal (if told then signal_from signals feed else Some Absent)
    pair_by true event feed one other is fits zero_start = sym (ap (λ sources. all_there (map (input_word ports) sources)) is) ∙ feed_words feed fits
    pair_by false event feed one other is fits zero_start = ap (λ word. all_there (Some (pos 0) ∷ Some word ∷ [])) zero_start

    -- The elements of the pair, by the source of the input.
    pub pair_seen : (event : EventIn) (feed : Option ℕ) (one other : InputSource) → plain_feed shape feed ≡ one ∷ other ∷ [] → FeedFits shape feed
        → StartsAtZero event → IsWord event.name → is_among (event_input_names unit) event.name ≡ true
        → all_there (map (seen_by ports output) (zip (plain_inputs event) (one ∷ other ∷ [])))
        ≡ option_map words_of_signal (signal_needed signals needs (event, feed))
    pair_seen event feed one other is fits zero_start named event_named =
        let tells_among : is_among output.needs (presence_name event.name) ≡ is_among needs event.name =
        ap (λ all. is_among all (presence_name event.name)) needs_is ∙ among_presence unit needs event.name words event_named in
        let word_among : is_among output.needs event.name ≡ is_among needs event.name = ap (λ all. is_among all event.name) needs_is
        ∙ among_plain unit needs event.name (word_is_plain event.name named) in
        ap (λ told. all_there
        ((if told then input_word ports one else Some (pos 0))
        ∷ (if is_among output.needs event.name then input_word ports other else Some (start_word event.ty (no_event event.ty))) ∷ [])) tells_among
        ∙ ap (λ told. all_there
        ((if is_among needs event.name then input_word ports one else Some (pos 0))
        ∷ (if told then input_word ports other else Some (start_word event.ty (no_event event.ty))) ∷ [])) word_among
        ∙ pair_by (is_among needs event.name) event feed one other is fits zero_start

    pub two_sources : (feed : Option ℕ) → (one : InputSource) × (other : InputSource) × (plain_feed shape feed ≡ one ∷ other ∷ [])
    two_sources None = (Start (pos 0), Start (pos 0), refl)
    two_sources (Some place) = (AtPlace (plain_place shape place), AtPlace (suc (plain_place shape place)), refl)

    abbrev pub widened : Option (List Signal) → Option (List ℤ)
    widened given = option_map (λ all. flat_map words_of_signal all) given

    pub joined_widened : (first : Option Signal) (rest : List (Option Signal))
        → joined (option_map words_of_signal first) (widened (all_there rest)) ≡ widened (all_there (first ∷ rest))
    joined_widened None rest = refl
    joined_widened (Some first) rest = by_rest (all_there rest)
      where
        by_rest : (given : Option (List Signal)) → joined (Some (words_of_signal first)) (widened given) ≡ widened (in_front first given)
        by_rest None = refl
        by_rest (Some later) = refl

    pub events_seen : (events : List EventIn) (feeds : List (Option ℕ))
        → AllByRecursion (λ event. IsWord event.name × StartsAtZero event × (is_among (event_input_names unit) event.name ≡ true)) events
        → AllByRecursion (FeedFits shape) feeds
        → all_there (map (seen_by ports output) (zip (flat_map plain_inputs events) (flat_map (plain_feed shape) feeds)))
        ≡ widened (all_there (map (signal_needed signals needs) (zip events feeds)))
    events_seen [] feeds named fits = refl
    events_seen (event ∷ events) [] named fits = refl
    events_seen (event ∷ events) (feed ∷ feeds) named fits =
        let sources = two_sources feed in
        let later = zip (flat_map plain_inputs events) (flat_map (plain_feed shape) feeds) in
        ap (λ front. all_there
        (map (seen_by ports output) (zip (plain_inputs event ++ flat_map plain_inputs events) (front ++ flat_map (plain_feed shape) feeds)))) sources.2
        ∙ there_append (map (seen_by ports output) (zip (plain_inputs event) (sources.0 ∷ sources.1 ∷ []))) (map (seen_by ports output) later)
        ∙ ap (λ front. joined front (all_there (map (seen_by ports output) later)))
        (pair_seen event feed sources.0 sources.1 sources.2 fits.0 named.0.1 named.0.0 named.0.2)
        ∙ ap (joined (option_map words_of_signal (signal_needed signals needs (event, feed)))) (events_seen events feeds named.1 fits.1)
        ∙ joined_widened (signal_needed signals needs (event, feed)) (map (signal_needed signals needs) (zip events feeds))

    pub seen_joined : (given : Option (List ℤ)) (events : Option (List Signal))
        → joined given (widened events) ≡ option_map plain_words (seen_both given events)
    seen_joined None events = refl
    seen_joined (Some given) None = refl
    seen_joined (Some given) (Some events) = refl

-- ---- The start word of a plain input that an event input becomes

pub times_zero : (n : ℤ) → pos 0 *ℤ n ≡ pos 0
times_zero n = grind (arith, ints)

pub zero_start : (ty : Ty) → start_word ty (no_event ty) ≡ pos 0
zero_start types.Int8 = refl
zero_start types.UInt8 = refl
zero_start types.Int16 = refl
zero_start types.UInt16 = refl
zero_start types.Int32 = refl
zero_start types.UInt32 = refl
zero_start types.Int64 = refl
zero_start types.Bool = refl
zero_start (types.Fixed decimals) =
    let least : nat_le 0 decimals ≡ true = grind (arith, nat_tests) in
    let product : pos 0 *ℤ ten_to (decimals - 0) ≡ pos 0 = times_zero (ten_to (decimals - 0)) in
    ap (λ told. or_zero (within_type (types.Fixed decimals) (if told then Ok (pos 0 *ℤ ten_to (decimals - 0)) else Err Form))) least
    ∙ ap (λ word. or_zero (within_type (types.Fixed decimals) (Ok word))) product

-- ---- Both parts of what is read

pub record SeenParts (words : Option (List ℤ)) (events : Option (List Signal)) (seen : Seen) : Type 0 where
  pub words_are : words ≡ Some seen.words
  pub events_are : events ≡ Some seen.signals

pub seen_parts : (words : Option (List ℤ)) (events : Option (List Signal)) (seen : Seen) → seen_both words events ≡ Some seen → SeenParts words events seen
seen_parts None events seen is = absurd (cc)
seen_parts (Some words) None seen is = absurd (cc)
seen_parts (Some words) (Some events) seen is =
    let same : record { words = words; signals = events } ≡ seen = cc in
    record { words_are = ap (λ (s : Seen). Some s.words) same; events_are = ap (λ (s : Seen). Some s.signals) same }
