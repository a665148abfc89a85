-- Units that run as members: the outcomes of one of them, what stays after a change of one, and units at their start.
use Rattle.std.proofs.Common.{◌≡◌, ◌∙◌, ℕ, zero, suc, ◌+◌, ◌<◌, ◌≤◌, ℤ, List, [], ◌∷◌, ◌++◌, length, map, drop, get_or, set, Option, Some, None, refl, ap, sym}
use Rattle.std.proofs.Common.{subst, arith, append_assoc, append-nil}
use Rattle.std.proofs.lemmas.List.{map-set, drop_more, drop_all, length-map}
use Rattle.std.proofs.lemmas.Option.{slice_get-map, slice_get_within, same_Some}
use Rattle.std.proofs.lemmas.Slice.Zip.{AllZip-long}
use Rattle.std.specs.Prelude.{slice_get, slice_index_or, IsSome}
use Rattle.std.specs.List.{AllZip}
use Rattle.std.specs.Option.{option_map, option_and_then}
use Rattle.fixed_words.specs.Operations.{Outcome}
use Rattle.port_solve.specs.Solved.{HaveStates, HaveInputs}
use Rattle.trace_units.specs.Members.{IsRunOf, RunMembers, states_held, inputs_held}
use Rattle.code_units.specs.Calls.{output_by}
use Rattle.unit_exec.specs.Images.{Compiled, IsImageOf, start_inputs_of}
use Rattle.unit_exec.specs.Running.{Running, opened}
use Rattle.unit_tree.specs.Components.{Component, get_of, initial}
use Rattle.unit_tree.specs.Compositions.{Member, Composition}
use Rattle.unit_tree.specs.Given.{given_by, IsInputWord}
use Rattle.unit_tree.specs.declared.unit.Input.{Input}
use Rattle.unit_tree.specs.declared.unit.Output.{Output}
use Rattle.list_laws.proofs.Pairs.{zip_set}
use Rattle.list_laws.proofs.Members.{at_place, set_same}

abbrev pub RunsMember : Member → Running → Type 0
RunsMember member unit = IsRunOf member.component unit

inputs_count : (component : Component) (unit : Running) → IsRunOf component unit → length unit.inputs ≡ length component.unit.inputs
inputs_count component unit runs = runs.words.each_input ∙ ap (λ sizes. sizes.inputs) runs.image.sizes

state_count : (component : Component) (unit : Running) → IsRunOf component unit → length unit.state ≡ length component.unit.states
state_count component unit runs = runs.words.each_state ∙ ap (λ sizes. sizes.states) runs.image.sizes

-- ---- All units

states_had : (members : List Member) (units : List Running) → AllZip RunsMember members units
    → AllZip (λ member state. length state ≡ length member.component.unit.states) members (states_held units)
states_had [] [] all = tt
states_had [] (unit ∷ units) all = absurd all
states_had (member ∷ members) [] all = absurd all
states_had (member ∷ members) (unit ∷ units) all = (state_count member.component unit all.0, states_had members units all.1)

inputs_had : (members : List Member) (units : List Running) → AllZip RunsMember members units
    → AllZip (λ member words. length words ≡ length member.component.unit.inputs) members (inputs_held units)
inputs_had [] [] all = tt
inputs_had [] (unit ∷ units) all = absurd all
inputs_had (member ∷ members) [] all = absurd all
inputs_had (member ∷ members) (unit ∷ units) all = (inputs_count member.component unit all.0, inputs_had members units all.1)

pub have_states : (run : Composition) (units : List Running) → RunMembers run units → HaveStates run (states_held units)
have_states run units runs = states_had run.members units runs

pub have_inputs : (run : Composition) (units : List Running) → RunMembers run units → HaveInputs run (inputs_held units)
have_inputs run units runs = inputs_had run.members units runs

pub as_many : (run : Composition) (units : List Running) → RunMembers run units → length units ≡ length run.members
as_many run units runs = AllZip-long RunsMember run.members units runs

-- ---- The unit of an instance

state_at : (units : List Running) (instance : ℕ) (unit : Running) → slice_get units instance ≡ Some unit
    → slice_get (states_held units) instance ≡ Some unit.state
state_at units instance unit is = slice_get-map (λ (u : Running). u.state) units instance ∙ ap (option_map (λ (u : Running). u.state)) is

inputs_at : (units : List Running) (instance : ℕ) (unit : Running) → slice_get units instance ≡ Some unit
    → slice_get (inputs_held units) instance ≡ Some unit.inputs
inputs_at units instance unit is = slice_get-map (λ (u : Running). u.inputs) units instance ∙ ap (option_map (λ (u : Running). u.inputs)) is

-- A unit that is read at an instance, with its member.
pub record IsAt (members : List Member) (units : List Running) (instance : ℕ) (unit : Running) : Type 0 where
  pub member : Member
  pub member_is : slice_get members instance ≡ Some member
  pub state_is : slice_get (states_held units) instance ≡ Some unit.state
  pub inputs_are : slice_get (inputs_held units) instance ≡ Some unit.inputs
  pub runs : IsRunOf member.component unit

pub unit_at : (members : List Member) (units : List Running) (instance : ℕ) (unit : Running) → AllZip RunsMember members units → instance < length members
    → unit ≡ get_or units instance unit → IsAt members units instance unit
unit_at [] units instance unit runs within is = absurd (omega (arith, within))
unit_at (member ∷ members) [] instance unit runs within is = absurd runs
unit_at (member ∷ members) (first ∷ units) zero unit runs within is = record {
  member = member;
  member_is = refl;
  state_is = ap (λ (u : Running). Some u.state) (sym is);
  inputs_are = ap (λ (u : Running). Some u.inputs) (sym is);
  runs = subst (IsRunOf member.component) (sym is) runs.0;
}
unit_at (member ∷ members) (first ∷ units) (suc instance) unit runs within is =
    let later = unit_at members units instance unit runs.1 (omega (arith, within)) is in
    record { member = later.member; member_is = later.member_is; state_is = later.state_is; inputs_are = later.inputs_are; runs = later.runs }

-- ---- One unit changes

-- The unit has the same image and as many words as before.
pub record KeepsSizes (old new : Running) : Type 0 where
  pub image : new.image ≡ old.image
  pub states : length new.state ≡ length old.state
  pub inputs : length new.inputs ≡ length old.inputs

still_one : (old new : Running) (component : Component) → KeepsSizes old new → IsRunOf component old → IsRunOf component new
still_one old new component keeps runs = record {
  image = subst (IsImageOf component) (sym keeps.image) runs.image;
  words = record {
    each_state = keeps.states ∙ runs.words.each_state ∙ ap (λ (image : Compiled). image.program.sizes.states) (sym keeps.image);
    each_input = keeps.inputs ∙ runs.words.each_input ∙ ap (λ (image : Compiled). image.program.sizes.inputs) (sym keeps.image);
  };
}

pub still_run : (run : Composition) (units : List Running) (instance : ℕ) (old new : Running) → old ≡ get_or units instance old → KeepsSizes old new
    → RunMembers run units → RunMembers run (set units instance new)
still_run run units instance old new is keeps runs =
    zip_set RunsMember run.members units instance old new runs
    (λ member had. still_one old new member.component keeps (subst (IsRunOf member.component) (sym is) had))

-- Its state changes.
pub states_with : (units : List Running) (instance : ℕ) (new : Running) → states_held (set units instance new) ≡ set (states_held units) instance new.state
states_with units instance new = map-set (λ (u : Running). u.state) units instance new

pub inputs_with : (units : List Running) (instance : ℕ) (new : Running) → inputs_held (set units instance new) ≡ set (inputs_held units) instance new.inputs
inputs_with units instance new = map-set (λ (u : Running). u.inputs) units instance new

pub inputs_stay : (members : List Member) (units : List Running) (instance : ℕ) (old new : Running) → IsAt members units instance old
    → new.inputs ≡ old.inputs → inputs_held (set units instance new) ≡ inputs_held units
inputs_stay members units instance old new at same =
    inputs_with units instance new ∙ ap (set (inputs_held units) instance) same ∙ set_same (inputs_held units) instance old.inputs at.inputs_are

pub states_stay : (members : List Member) (units : List Running) (instance : ℕ) (old new : Running) → IsAt members units instance old → new.state ≡ old.state
    → states_held (set units instance new) ≡ states_held units
states_stay members units instance old new at same =
    states_with units instance new ∙ ap (set (states_held units) instance) same ∙ set_same (states_held units) instance old.state at.state_is

index_or : {A : Type 0} (xs : List A) (k : ℕ) (x default : A) → slice_get xs k ≡ Some x → slice_index_or xs k default ≡ x
index_or [] k x default is = absurd (cc)
index_or (first ∷ xs) zero x default is = same_Some first x is
index_or (first ∷ xs) (suc k) x default is = index_or xs k x default is

index_set : {A : Type 0} (xs : List A) (k : ℕ) (x old default : A) → slice_get xs k ≡ Some old → slice_index_or (set xs k x) k default ≡ x
index_set [] k x old default is = absurd (cc)
index_set (first ∷ xs) zero x old default is = refl
index_set (first ∷ xs) (suc k) x old default is = index_set xs k x old default is

-- The state that an instance has after its unit changed.
pub state_of_changed : (members : List Member) (units : List Running) (instance : ℕ) (old new : Running) → IsAt members units instance old
    → slice_index_or (states_held (set units instance new)) instance [] ≡ new.state
state_of_changed members units instance old new at =
    ap (λ states. slice_index_or states instance []) (states_with units instance new)
    ∙ index_set (states_held units) instance new.state old.state [] at.state_is

pub state_there : (members : List Member) (units : List Running) (instance : ℕ) (unit : Running) → IsAt members units instance unit
    → slice_index_or (states_held units) instance [] ≡ unit.state
state_there members units instance unit at = index_or (states_held units) instance unit.state [] at.state_is

pub inputs_there : (members : List Member) (units : List Running) (instance : ℕ) (unit : Running) → IsAt members units instance unit
    → slice_index_or (inputs_held units) instance [] ≡ unit.inputs
inputs_there members units instance unit at = index_or (inputs_held units) instance unit.inputs [] at.inputs_are

-- ---- Calls of a unit by its number

module _ (run : Composition) (units : List Running) (instance : ℕ) where
  -- The outcome of a member that was found, from its state and its words.
  abbrev of_words : ℕ → Member → List ℤ → Option (List ℤ) → Option Outcome
  of_words number member state found =
      option_and_then (λ words. option_map (get_of member.component state words) (slice_get member.component.unit.outputs number)) found

  abbrev of_state : ℕ → Member → Option (List ℤ) → Option Outcome
  of_state number member found = option_and_then (λ state. of_words number member state (slice_get (inputs_held units) instance)) found

  abbrev of_member : ℕ → Option Member → Option Outcome
  of_member number found = option_and_then (λ member. of_state number member (slice_get (states_held units) instance)) found

  given_is : (number : ℕ) (unit : Running) (at : IsAt run.members units instance unit)
      → given_by run (states_held units) (inputs_held units) instance number
      ≡ option_map (get_of at.member.component unit.state unit.inputs) (slice_get at.member.component.unit.outputs number)
  given_is number unit at =
      ap (of_member number) at.member_is ∙ ap (of_state number at.member) at.state_is ∙ ap (of_words number at.member unit.state) at.inputs_are

  -- An output that can be computed: its unit has it, and its outcome is that of the component.
  pub record Asks (unit : Running) (number : ℕ) : Type 0 where
    pub within : number < length unit.image.program.outputs
    pub gives : given_by run (states_held units) (inputs_held units) instance number ≡ output_by unit.image.program unit.state unit.inputs number

  asks_by : (number : ℕ) (unit : Running) (at : IsAt run.members units instance unit) (found : Option Output)
      → slice_get at.member.component.unit.outputs number ≡ found → IsSome (option_map (get_of at.member.component unit.state unit.inputs) found)
      → Asks unit number
  asks_by number unit at None output_is there = absurd (cc)
  asks_by number unit at (Some output) output_is there = record {
    within = subst (λ n. number < n) (sym at.runs.image.outputs) (slice_get_within at.member.component.unit.outputs number output output_is);
    gives =
        given_is number unit at ∙ ap (option_map (get_of at.member.component unit.state unit.inputs)) output_is
        ∙ sym (at.runs.image.computes.get unit.state unit.inputs at.runs.words number output output_is);
  }

  pub asks : (number : ℕ) (unit : Running) → IsAt run.members units instance unit
      → IsSome (given_by run (states_held units) (inputs_held units) instance number)
      → Asks unit number
  asks number unit at there = asks_by number unit at (slice_get at.member.component.unit.outputs number) refl (subst IsSome (given_is number unit at) there)

  instance_by : (number : ℕ) (found : Option Member) → slice_get run.members instance ≡ found → IsSome (of_member number found) → instance < length run.members
  instance_by number None is there = absurd (cc)
  instance_by number (Some member) is there = slice_get_within run.members instance member is

  -- An output can be computed, and an input set, only of an existing instance.
  pub asked_within : (number : ℕ) → IsSome (given_by run (states_held units) (inputs_held units) instance number) → instance < length run.members
  asked_within number there = instance_by number (slice_get run.members instance) refl there

  found_within : (number : ℕ) (input : Input) (found : Option Member) → slice_get run.members instance ≡ found
      → option_and_then (λ (member : Member). slice_get member.component.unit.inputs number) found ≡ Some input → instance < length run.members
  found_within number input None is there = absurd (cc)
  found_within number input (Some member) is there = slice_get_within run.members instance member is

  pub set_within : (number : ℕ) (word : ℤ) → IsInputWord run instance number word → instance < length run.members
  set_within number word is = found_within number is.input (slice_get run.members instance) refl is.is_there

  pub takes : (number : ℕ) (word : ℤ) (unit : Running) → IsAt run.members units instance unit → IsInputWord run instance number word
      → number < length unit.inputs
  takes number word unit at is =
      let there : slice_get at.member.component.unit.inputs number ≡ Some is.input =
      sym (ap (option_and_then (λ (member : Member). slice_get member.component.unit.inputs number)) at.member_is) ∙ is.is_there in
      subst (λ n. number < n) (sym (inputs_count at.member.component unit at.runs)) (slice_get_within at.member.component.unit.inputs number is.input there)

-- ---- The start

-- The unit of a member at its start.
pub record Starts (member : Member) (unit : Running) : Type 0 where
  pub image : Compiled
  pub is_image : IsImageOf member.component image
  pub is : unit ≡ opened image

-- The units so far are those of the members before some place. With those from there on, they are all.
abbrev pub IsFront : List Member → ℕ → List Running → Type 0
IsFront members place units = (rest : List Running) → AllZip Starts (drop place members) rest → AllZip Starts members (units ++ rest)

next_of : (members : List Member) (place : ℕ) (member : Member) → slice_get members place ≡ Some member → drop place members ≡ member ∷ drop (place + 1) members
next_of members place member is =
    drop_more members place member (slice_get_within members place member is)
    ∙ ap (λ one. one ∷ drop (place + 1) members) (index_or members place member member is)

pub one_more : (members : List Member) (place : ℕ) (units : List Running) (image : Compiled) → place < length members
    → ((member : Member) → slice_get members place ≡ Some member → IsImageOf member.component image) → IsFront members place units
    → IsFront members (place + 1) (units ++ opened image ∷ [])
one_more members place units image within is_image front rest all =
    let at = at_place members place within in
    let starts : Starts at.0 (opened image) = record { image = image; is_image = is_image at.0 at.1; is = refl } in
    subst (AllZip Starts members) (sym (append_assoc units (opened image ∷ []) rest))
    (front (opened image ∷ rest) (subst (λ left. AllZip Starts left (opened image ∷ rest)) (sym (next_of members place at.0 at.1)) (starts, all)))

pub all_start : (members : List Member) (place : ℕ) (units : List Running) → length members ≤ place → IsFront members place units → AllZip Starts members units
all_start members place units past front =
    subst (AllZip Starts members) (append-nil units) (front [] (subst (λ left. AllZip Starts left []) (sym (drop_all place members past)) tt))

start_runs : (member : Member) (unit : Running) → Starts member unit → IsRunOf member.component unit
start_runs member unit starts = subst (IsRunOf member.component) (sym starts.is) (record {
  image = starts.is_image;
  words = record {
    each_state = ap length starts.is_image.starts ∙ length-map member.component.unit.states _ ∙ sym (ap (λ sizes. sizes.states) starts.is_image.sizes);
    each_input = ap length starts.is_image.inputs_start ∙ length-map member.component.unit.inputs _ ∙ sym (ap (λ sizes. sizes.inputs) starts.is_image.sizes);
  };
})

starts_run : (members : List Member) (units : List Running) → AllZip Starts members units → AllZip RunsMember members units
starts_run [] [] all = tt
starts_run [] (unit ∷ units) all = absurd all
starts_run (member ∷ members) [] all = absurd all
starts_run (member ∷ members) (unit ∷ units) all = (start_runs member unit all.0, starts_run members units all.1)

pub all_run : (run : Composition) (units : List Running) → AllZip Starts run.members units → RunMembers run units
all_run run units all = starts_run run.members units all

pub all_states : (members : List Member) (units : List Running) → AllZip Starts members units
    → states_held units ≡ map (λ member. initial member.component) members
all_states [] [] all = refl
all_states [] (unit ∷ units) all = absurd all
all_states (member ∷ members) [] all = absurd all
all_states (member ∷ members) (unit ∷ units) all =
    let first : unit.state ≡ initial member.component = ap (λ (u : Running). u.state) all.0.is ∙ all.0.is_image.starts in
    ap (λ state. state ∷ states_held units) first ∙ ap (λ states. initial member.component ∷ states) (all_states members units all.1)

pub all_inputs : (members : List Member) (units : List Running) → AllZip Starts members units
    → inputs_held units ≡ map (λ member. start_inputs_of member.component.unit) members
all_inputs [] [] all = refl
all_inputs [] (unit ∷ units) all = absurd all
all_inputs (member ∷ members) [] all = absurd all
all_inputs (member ∷ members) (unit ∷ units) all =
    let first : unit.inputs ≡ start_inputs_of member.component.unit = ap (λ (u : Running). u.inputs) all.0.is ∙ all.0.is_image.inputs_start in
    ap (λ words. words ∷ inputs_held units) first ∙ ap (λ words. start_inputs_of member.component.unit ∷ words) (all_inputs members units all.1)
