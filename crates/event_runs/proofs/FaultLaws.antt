-- The port fault of a source is that of its plain form.
use Rattle.std.proofs.Common.{◌≡◌, ℕ, suc, ◌+◌, Bool, true, false, ℤ, List, [], ◌∷◌, ◌++◌, map, length, Option, Some, None, Result, Ok, Err, inl, inr, refl}
use Rattle.std.proofs.Common.{sym, ap, ◌∙◌, arith}
use Rattle.std.specs.Prelude.{zip, slice_get}
use Rattle.std.specs.List.{AllByRecursion, flat_map, enumerate_from}
use Rattle.std.specs.Option.{option_map, option_and_then, unwrap_or}
use Rattle.std.specs.Result.{result_err}
use Rattle.std.proofs.lemmas.List.{map-append}
use Rattle.fixed_words.specs.Operations.{Outcome}
use Rattle.fixed_words.specs.declared.types.Fault.{Fault}
use Rattle.unit_tree.specs.Components.{get_of}
use Rattle.unit_tree.specs.Compositions.{Composition}
use Rattle.unit_tree.specs.Names.{event_input_names}
use Rattle.unit_tree.specs.Plain.{plain_output, plain_outputs}
use Rattle.unit_tree.specs.Ports.{Ports, Outlet, fault_at, port_fault, first_some, outlets_of}
use Rattle.unit_tree.specs.Tokens.{IsWord}
use Rattle.unit_tree.specs.Values.{◌>>=◌}
use Rattle.unit_tree.specs.declared.ending.Ending.{Ending}
use Rattle.unit_tree.specs.declared.ending.Ending.TheVariants.{UnitFault}
use Rattle.unit_tree.specs.declared.ending.Place.TheVariants as place
use Rattle.unit_tree.specs.declared.unit.EventOut.{EventOut}
use Rattle.unit_tree.specs.declared.unit.Output.{Output}
use Rattle.unit_tree.specs.declared.unit.Unit.{Unit}
use Rattle.event_runs.specs.EventPorts.{Signals, EventMember, Out, Plain, Event, needs_in, get_out, seen_for}
use Rattle.event_runs.specs.Readings.{is_event, shape_of, read_ports, plain_member, output_read, shape_at, read_ending, plain_component, plain_words}
use Rattle.event_runs.specs.Laws.{AreTidy, IsWired, IsPlainRun, StatesFit, Speaks, AreTwoGets}
use Rattle.event_runs.specs.EventTrace.{event_fault_at, event_faults_at, event_port_fault}
use Rattle.event_runs.specs.Events.{Signal, Occurs, Absent, Seen, get_in, get_event}
use Rattle.event_runs.proofs.CallLaws.{get_same, event_same}
use Rattle.event_runs.proofs.SideLaws.{first_of, second_of, seen_is, fits_seen}

-- ---- The first of several

abbrev pub or_first : {A : Type 0} → Option A → Option A → Option A
or_first None other = other
or_first (Some first) other = Some first

pub first_append : {A : Type 0} (xs ys : List (Option A)) → first_some (xs ++ ys) ≡ or_first (first_some xs) (first_some ys)
first_append [] ys = refl
first_append (None ∷ xs) ys = first_append xs ys
first_append (Some x ∷ xs) ys = refl

pub first_front : {A : Type 0} (x : Option A) (xs : List (Option A)) → first_some (x ∷ xs) ≡ or_first x (first_some xs)
first_front None xs = refl
first_front (Some x) xs = refl

pub or_map : {A B : Type 0} (f : A → B) (x y : Option A) → option_map f (or_first x y) ≡ or_first (option_map f x) (option_map f y)
or_map f None y = refl
or_map f (Some x) y = refl

-- ---- One member

module _ (shape : List Bool) (ports : Ports) (are_tidy : AreTidy shape ports) (one : EventMember) (state : List ℤ) (wired : IsWired shape one)
    (state_fits : length state ≡ length one.member.component.unit.states) (instance : ℕ) (tell : Ending → Ending) (read : ℕ → ℕ)
    (tells : (number : ℕ) (fault : Fault) → tell (UnitFault instance (place.Output number) fault) ≡ UnitFault instance (place.Output (read number)) fault) where
  abbrev pub unit : Unit
  unit = one.member.component.unit

  abbrev pub signals : Signals
  signals = read_ports shape ports

  abbrev pub outlet : ℕ × Output → Outlet
  outlet counted = record { standing = (plain_member shape one, state); instance = instance; output = counted.1; number = counted.0 }

  abbrev pub plain_fault : ℕ → Output → Option Ending
  plain_fault number output = fault_at ports (outlet (number, output))

  abbrev pub source_fault : ℕ → Out → Option Ending
  source_fault number out = event_fault_at signals instance (one, state) (number, out)

  abbrev pub at_number : ℕ → Option Fault → Option Ending
  at_number number fault = option_map (UnitFault instance (place.Output number)) fault

  pub told_at : (number source : ℕ) (fault : Option Fault) → read number ≡ source → option_map tell (at_number number fault) ≡ at_number source fault
  told_at number source None is = refl
  told_at number source (Some fault) is = ap Some (tells number fault ∙ ap (λ n. UnitFault instance (place.Output n) fault) is)

  pub plain_by : (output : Output) (seen : Option Seen) → Speaks (event_input_names unit) output.value → seen_for signals output.needs one ≡ seen
      → option_and_then result_err
      (option_map (λ inputs. get_of (plain_component one.member.component) state inputs (plain_output unit output)) (option_map plain_words seen))
      ≡ option_and_then result_err (option_map (λ s. get_out one.member.component state s (Plain output)) seen)
  plain_by output None said is = refl
  plain_by output (Some seen) said is =
      ap result_err (get_same one.member.component state seen
      (fits_seen shape ports one state wired are_tidy state_fits output.needs seen is) wired.said.variables output said)
      ∙ by_given (get_in one.member.component state seen output)
    where
      by_given : (given : Outcome) → result_err given ≡ result_err (given >>= λ word. Ok (Occurs word))
      by_given (Ok word) = refl
      by_given (Err fault) = refl

  pub plain_told : (number source : ℕ) (output : Output) → read number ≡ source → AllByRecursion IsWord output.needs
      → Speaks (event_input_names unit) output.value → option_map tell (plain_fault number (plain_output unit output)) ≡ source_fault source (Plain output)
  plain_told number source output is words said =
      ap (λ inputs. option_map tell
      (at_number number (option_and_then result_err
      (option_map (λ i. get_of (plain_component one.member.component) state i (plain_output unit output)) inputs))))
      (seen_is shape ports one state wired are_tidy output.needs (plain_output unit output) words refl)
      ∙ ap (λ fault. option_map tell (at_number number fault)) (plain_by output (seen_for signals output.needs one) said refl)
      ∙ told_at number source
      (option_and_then result_err (option_map (λ s. get_out one.member.component state s (Plain output)) (seen_for signals output.needs one))) is

  -- Of the two gets of an event output, the first that faults has its fault.
  pub two_told : (number source : ℕ) (event : Result Signal Fault) (first second : Outcome) → read number ≡ source → read (number + 1) ≡ source
      → AreTwoGets event first second
      → option_map tell (or_first (at_number number (result_err first)) (at_number (number + 1) (result_err second))) ≡ at_number source (result_err event)
  two_told number source (Ok Absent) first second is is_next are =
      ap (λ g. option_map tell (or_first (at_number number (result_err g)) (at_number (number + 1) (result_err second)))) are.0
      ∙ ap (λ g. option_map tell (at_number (number + 1) (result_err g))) are.1
  two_told number source (Ok (Occurs word)) first second is is_next are =
      ap (λ g. option_map tell (or_first (at_number number (result_err g)) (at_number (number + 1) (result_err second)))) are.0
      ∙ ap (λ g. option_map tell (at_number (number + 1) (result_err g))) are.1
  two_told number source (Err fault) first second is is_next (inl told, word) =
      ap (λ g. option_map tell (or_first (at_number number (result_err g)) (at_number (number + 1) (result_err second)))) told
      ∙ told_at number source (Some fault) is
  two_told number source (Err fault) first second is is_next (inr told, word) =
      ap (λ g. option_map tell (or_first (at_number number (result_err g)) (at_number (number + 1) (result_err second)))) told
      ∙ ap (λ g. option_map tell (at_number (number + 1) (result_err g))) word
      ∙ told_at (number + 1) source (Some fault) is_next

  abbrev pub tells_of : EventOut → Output
  tells_of event = first_of shape ports one state wired event

  abbrev pub word_of : EventOut → Output
  word_of event = second_of shape ports one state wired event

  abbrev pub err_of : Output → Option (List ℤ) → Option Fault
  err_of output inputs = option_and_then result_err (option_map (λ i. get_of (plain_component one.member.component) state i output) inputs)

  pub event_by : (number source : ℕ) (event : EventOut) (seen : Option Seen) → read number ≡ source → read (number + 1) ≡ source
      → Speaks (event_input_names unit) event.value → seen_for signals event.needs one ≡ seen
      → option_map tell (or_first (at_number number (err_of (tells_of event) (option_map plain_words seen)))
      (at_number (number + 1) (err_of (word_of event) (option_map plain_words seen))))
      ≡ at_number source (option_and_then result_err (option_map (λ s. get_out one.member.component state s (Event event)) seen))
  event_by number source event None is is_next said seen_is_it = refl
  event_by number source event (Some seen) is is_next said seen_is_it =
      two_told number source (get_event one.member.component state seen event)
      (get_of (plain_component one.member.component) state (plain_words seen) (tells_of event))
      (get_of (plain_component one.member.component) state (plain_words seen) (word_of event)) is is_next
      (event_same one.member.component state seen
      (fits_seen shape ports one state wired are_tidy state_fits event.needs seen seen_is_it) wired.said.variables event (tells_of event)
      (word_of event) refl refl refl refl said)

  pub event_told : (number source : ℕ) (event : EventOut) → read number ≡ source → read (number + 1) ≡ source → AllByRecursion IsWord event.needs
      → Speaks (event_input_names unit) event.value
      → option_map tell (or_first (plain_fault number (tells_of event)) (plain_fault (number + 1) (word_of event))) ≡ source_fault source (Event event)
  event_told number source event is is_next words said =
      ap (λ inputs. option_map tell (or_first (at_number number (err_of (tells_of event) inputs)) (plain_fault (number + 1) (word_of event))))
      (seen_is shape ports one state wired are_tidy event.needs (tells_of event) words refl)
      ∙ ap (λ inputs. option_map tell
      (or_first (at_number number (err_of (tells_of event) (option_map plain_words (seen_for signals event.needs one))))
      (at_number (number + 1) (err_of (word_of event) inputs)))) (seen_is shape ports one state wired are_tidy event.needs (word_of event) words refl)
      ∙ event_by number source event (seen_for signals event.needs one) is is_next said refl

  -- ---- All outputs of it

  abbrev pub plain_faults : ℕ → List Output → List (Option Ending)
  plain_faults from outputs = map (fault_at ports) (map outlet (enumerate_from from outputs))

  abbrev pub source_faults : ℕ → List Out → List (Option Ending)
  source_faults from outs = map (event_fault_at signals instance (one, state)) (enumerate_from from outs)

  -- From here on, numbers of the plain form are read as those of the source.
  abbrev pub Reads : ℕ → ℕ → List Bool → Type 0
  Reads number source shape' = (j : ℕ) → read (number + j) ≡ source + output_read shape' j

  pub reads_here : (number source : ℕ) (told : Bool) (shape' : List Bool) → Reads number source (told ∷ shape') → read number ≡ source
  reads_here number source false shape' reads = ap read (omega arith) ∙ reads 0 ∙ omega arith
  reads_here number source true shape' reads = ap read (omega arith) ∙ reads 0 ∙ omega arith

  pub reads_next : (number source : ℕ) (shape' : List Bool) → Reads number source (true ∷ shape') → read (number + 1) ≡ source
  reads_next number source shape' reads = reads 1 ∙ omega arith

  pub reads_plain : (number source : ℕ) (shape' : List Bool) → Reads number source (false ∷ shape') → Reads (number + 1) (source + 1) shape'
  reads_plain number source shape' reads j = ap read (omega arith) ∙ reads (suc j) ∙ omega arith

  pub reads_event : (number source : ℕ) (shape' : List Bool) → Reads number source (true ∷ shape') → Reads (number + 1 + 1) (source + 1) shape'
  reads_event number source shape' reads j = ap read (omega arith) ∙ reads (suc (suc j)) ∙ omega arith

  pub events_told : (number source : ℕ) (events : List EventOut) → Reads number source (map is_event (map Event events))
      → AllByRecursion (λ event. Speaks (event_input_names unit) event.value) events
      → AllByRecursion (λ out. AllByRecursion IsWord (needs_in out)) (map Event events)
      → option_map tell (first_some (plain_faults number (flat_map (plain_outputs unit) events))) ≡ first_some (source_faults source (map Event events))
  events_told number source [] reads said words = refl
  events_told number source (event ∷ events) reads said words =
      let rest = plain_faults (number + 1 + 1) (flat_map (plain_outputs unit) events) in
      let first = plain_fault number (tells_of event) in
      let second = plain_fault (number + 1) (word_of event) in
      ap (option_map tell) (first_append (first ∷ second ∷ []) rest
      ∙ ap (λ both. or_first both (first_some rest)) (first_front first (second ∷ []) ∙ ap (or_first first) (first_front second [] ∙ alone second)))
      ∙ or_map tell (or_first first second) (first_some rest)
      ∙ ap (λ told. or_first told (option_map tell (first_some rest)))
      (event_told number source event (reads_here number source true (map is_event (map Event events)) reads)
      (reads_next number source (map is_event (map Event events)) reads) words.0 said.0)
      ∙ ap (or_first (source_fault source (Event event)))
      (events_told (number + 1 + 1) (source + 1) events (reads_event number source (map is_event (map Event events)) reads) said.1 words.1)
      ∙ sym (first_front (source_fault source (Event event)) (source_faults (source + 1) (map Event events)))
    where
      alone : (given : Option Ending) → or_first given None ≡ given
      alone None = refl
      alone (Some ending) = refl

  pub all_told : (number source : ℕ) (outputs : List Output) (events : List EventOut)
      → Reads number source (map is_event (map Plain outputs ++ map Event events))
      → AllByRecursion (λ output. Speaks (event_input_names unit) output.value) outputs
      → AllByRecursion (λ event. Speaks (event_input_names unit) event.value) events
      → AllByRecursion (λ out. AllByRecursion IsWord (needs_in out)) (map Plain outputs ++ map Event events)
      → option_map tell (first_some (plain_faults number (map (plain_output unit) outputs ++ flat_map (plain_outputs unit) events)))
      ≡ first_some (source_faults source (map Plain outputs ++ map Event events))
  all_told number source [] events reads said events_said words = events_told number source events reads events_said words
  all_told number source (output ∷ outputs) events reads said events_said words =
      let rest = plain_faults (number + 1) (map (plain_output unit) outputs ++ flat_map (plain_outputs unit) events) in
      let shape' = map is_event (map Plain outputs ++ map Event events) in
      ap (option_map tell) (first_front (plain_fault number (plain_output unit output)) rest)
      ∙ or_map tell (plain_fault number (plain_output unit output)) (first_some rest)
      ∙ ap (λ told. or_first told (option_map tell (first_some rest)))
      (plain_told number source output (reads_here number source false shape' reads) words.0 said.0)
      ∙ ap (or_first (source_fault source (Plain output)))
      (all_told (number + 1) (source + 1) outputs events (reads_plain number source shape' reads) said.1 events_said words.1)
      ∙ sym (first_front (source_fault source (Plain output)) (source_faults (source + 1) (map Plain outputs ++ map Event events)))

-- ---- All members

pub zeros : (one other : List Bool) (j : ℕ) → one ≡ other → output_read one (0 + j) ≡ 0 + output_read other j
zeros one other j is =
    let before : 0 + j ≡ j = omega arith in
    let behind : 0 + output_read other j ≡ output_read other j = omega arith in
    ap (output_read one) before ∙ ap (λ s. output_read s j) is ∙ sym behind

module _ (all : List EventMember) (shape : List Bool) (ports : Ports) (are_tidy : AreTidy shape ports) where
  abbrev pub tell_all : Ending → Ending
  tell_all ending = read_ending all ending

  pub later_on : (from j : ℕ) → slice_get all (from + 1 + j) ≡ slice_get all (from + suc j)
  later_on from j =
      let same : from + 1 + j ≡ from + suc j = omega arith in
      ap (slice_get all) same

  pub members_told : (from : ℕ) (members : List EventMember) (states : List (List ℤ)) → ((j : ℕ) → slice_get all (from + j) ≡ slice_get members j)
      → AllByRecursion (IsWired shape) members → StatesFit members states
      → option_map tell_all (first_some (map (fault_at ports) (flat_map outlets_of (enumerate_from from (zip (map (plain_member shape) members) states)))))
      ≡ first_some (flat_map (event_faults_at (read_ports shape ports)) (enumerate_from from (zip members states)))
  members_told from [] states here wired fit = refl
  members_told from (one ∷ members) [] here wired fit = refl
  members_told from (one ∷ members) (state ∷ states) here wired fit =
      let unit = one.member.component.unit in
      let mine = outlets_of (from, (plain_member shape one, state)) in
      let others = flat_map outlets_of (enumerate_from (from + 1) (zip (map (plain_member shape) members) states)) in
      let at_from : from ≡ from + 0 = omega arith in
      let at_here : slice_get all from ≡ Some one = ap (slice_get all) at_from ∙ here 0 in
      let shape_is : shape_at all from ≡ shape_of one = ap (λ found. unwrap_or (option_map shape_of found) []) at_here in
      ap (λ faults. option_map tell_all (first_some faults)) (map-append (fault_at ports) mine others)
      ∙ ap (option_map tell_all) (first_append (map (fault_at ports) mine) (map (fault_at ports) others))
      ∙ or_map tell_all (first_some (map (fault_at ports) mine)) (first_some (map (fault_at ports) others))
      ∙ ap (λ told. or_first told (option_map tell_all (first_some (map (fault_at ports) others))))
      (all_told shape ports are_tidy one state wired.0 fit.0 from tell_all (output_read (shape_at all from))
      (λ number fault. refl) 0 0 unit.outputs unit.events_out
      (λ j. zeros (shape_at all from) (shape_of one) j shape_is) wired.0.said.outputs wired.0.said.events wired.0.needs)
      ∙ ap (or_first (first_some (event_faults_at (read_ports shape ports) (from, (one, state)))))
      (members_told (from + 1) members states (λ j. later_on from j ∙ here (suc j)) wired.1 fit.1)
      ∙ sym (first_append (event_faults_at (read_ports shape ports) (from, (one, state)))
      (flat_map (event_faults_at (read_ports shape ports)) (enumerate_from (from + 1) (zip members states))))

pub from_zero : (members : List EventMember) (j : ℕ) → slice_get members (0 + j) ≡ slice_get members j
from_zero members j =
    let same : 0 + j ≡ j = omega arith in
    ap (slice_get members) same

pub fault_is_read : (members : List EventMember) (run : Composition) (states : List (List ℤ)) (ports : Ports) → IsPlainRun members run
    → StatesFit members states → AreTidy (flat_map shape_of members) ports
    → event_port_fault members states (read_ports (flat_map shape_of members) ports) ≡ option_map (read_ending members) (port_fault run states ports)
fault_is_read members run states ports plain fit tidy =
    sym (ap (λ all. option_map (read_ending members)
    (first_some (map (fault_at ports) (flat_map outlets_of (enumerate_from 0 (zip all states)))))) plain.members_are
    ∙ members_told members (flat_map shape_of members) ports tidy 0 members states (from_zero members) plain.wired fit)
