-- The cells of a run have the meanings of the keys of their steps.
use Rattle.std.proofs.Common.{◌≡◌, ◌∙◌, ℕ, Bool, true, false, ℤ, List, length, Some, None, Result, sym, ap}
use Rattle.std.proofs.lemmas.List.{length-map}
use Rattle.std.proofs.lemmas.Option.{same_Some, slice_get-map}
use Rattle.std.proofs.lemmas.Slice.Zip.{AllZip-long}
use Rattle.std.specs.Prelude.{slice_get, if◌then◌else◌}
use Rattle.std.specs.Option.{option_and_then, option_map}
use Rattle.code_units.specs.Calls.{HasWordsFor, meaning_of}
use Rattle.fixed_words.specs.Types.{is_word_of}
use Rattle.fixed_words.specs.declared.types.Fault.{Fault}
use Rattle.super_time.specs.LocalTime.{local_time, local_step}
use Rattle.trace_core.specs.Runs.{RunState, Filled, Stands, HoldMeanings, IsKeyAt, step_length}
use Rattle.trace_core.proofs.WantLaws.{words_fit}
use Rattle.trace_plan.specs.Plans.{HasImage, HaveImages}
use Rattle.unit_answers.specs.Keys.{StepKey, meaning}
use Rattle.unit_tree.specs.Components.{Moved, step_of}
use Rattle.unit_tree.specs.Compositions.{Member, Composition, AreMembers, IsMember}
use Rattle.unit_tree.specs.Negotiation.{is_held, inputs_at, all_inputs, step_at}
use Rattle.unit_tree.specs.Ports.{Ports}
use Rattle.unit_tree.specs.Successor.{Position}
use Rattle.unit_tree.specs.Trace.{AreWordsOf, HasWords}
use Rattle.unit_tree.specs.declared.unit.State.{State}
use Rattle.unit_vm.specs.Programs.{program_words}
use Rattle.unit_vm.specs.Reading.{program_in}
use Rattle.list_laws.proofs.Members.{each_has, has_at}
use Rattle.list_laws.proofs.Pairs.{zip_at, zip_there}

-- ---- How many words a member has

pub state_long : (run : Composition) (at : Position) (instance : ℕ) (member : Member) (state : List ℤ) → HasWords run at
    → slice_get run.members instance ≡ Some member → slice_get at.states instance ≡ Some state → length state ≡ length member.component.unit.states
state_long run at instance member state words member_is state_is =
    let beside = zip_at (λ (one : Member) had. AreWordsOf one.component.unit.states had) run.members at.states instance member words member_is in
    let same : beside.other ≡ state = same_Some beside.other state (sym beside.is ∙ state_is) in
    ap length (sym same)
    ∙ AllZip-long (λ (one : State) word. is_word_of one.ty word ≡ true) member.component.unit.states beside.other beside.related

-- The words of a member's inputs are those of its place among all.
pub inputs_there : (run : Composition) (ports : Ports) (instance : ℕ) (member : Member) (inputs : List ℤ) → slice_get run.members instance ≡ Some member
    → slice_get (all_inputs run ports) instance ≡ Some inputs → inputs_at ports member ≡ inputs
inputs_there run ports instance member inputs member_is inputs_is =
    same_Some (inputs_at ports member) inputs
    (sym (slice_get-map (inputs_at ports) run.members instance ∙ ap (option_map (inputs_at ports)) member_is) ∙ inputs_is)

pub inputs_long_at : (run : Composition) (ports : Ports) (instance : ℕ) (member : Member) (inputs : List ℤ) → AreMembers run
    → slice_get run.members instance ≡ Some member → slice_get (all_inputs run ports) instance ≡ Some inputs
    → length inputs ≡ length member.component.unit.inputs
inputs_long_at run ports instance member inputs members member_is inputs_is =
    ap length (sym (inputs_there run ports instance member inputs member_is inputs_is)) ∙ length-map member.sources _
    ∙ (each_has IsMember run.members member members (has_at run.members instance member member_is)).sources

-- ---- What a filled cell holds

made_so : (held : Bool) (made step : Result Moved Fault) → (if held then None else Some made) ≡ Some step → made ≡ step
made_so true made step e = absurd (cc)
made_so false made step e = same_Some made step e

module _ (r : RunState) (stands : Stands r) (images : HaveImages r.plan.run) (instance : ℕ) (step : Result Moved Fault) (key : StepKey)
    (filled : slice_get r.cells instance ≡ Some (Filled step)) (is : IsKeyAt r instance key) where
  given : step_at r.stand.at.point.t (step_length r.phase) r.stand.ports (is.member, key.state) ≡ Some step
  given =
      ap (option_and_then (step_at r.stand.at.point.t (step_length r.phase) r.stand.ports))
      (sym (zip_there r.plan.run.members r.stand.at.states instance is.member key.state is.is_there is.state))
      ∙ stands.steps instance step filled

  made : step_of is.member.component key.state (inputs_at r.stand.ports is.member) (local_time is.member.factor r.stand.at.point.t)
      (local_step is.member.factor r.stand.at.point.t (step_length r.phase)) ≡ step
  made = made_so (is_held is.member.factor r.stand.at.point.t (step_length r.phase)) _ step given

  by_key : step_of is.member.component key.state key.inputs key.time key.step ≡ step
  by_key =
      ap (λ inputs. step_of is.member.component key.state inputs key.time key.step)
      (sym (inputs_there r.plan.run r.stand.ports instance is.member key.inputs is.is_there is.inputs))
      ∙ ap (λ time. step_of is.member.component key.state (inputs_at r.stand.ports is.member) time key.step) is.time
      ∙ ap (λ h. step_of is.member.component key.state (inputs_at r.stand.ports is.member) (local_time is.member.factor r.stand.at.point.t) h) is.step
      ∙ made

  image : HasImage is.member
  image = images instance is.member is.is_there

  written : program_in key.code ≡ image.image.program
  written = ap program_in (is.code ∙ ap program_words (sym image.is_image.is_program)) ∙ image.is_image.is_read

  fits : HasWordsFor image.image.program key.state key.inputs
  fits =
      words_fit is.member.component image.image key.state key.inputs image.is_image
      (state_long r.plan.run r.stand.at instance is.member key.state stands.words is.is_there is.state)
      (inputs_long_at r.plan.run r.stand.ports instance is.member key.inputs stands.members is.is_there is.inputs)

  pub holds_meaning : meaning key ≡ Some step
  holds_meaning =
      ap (λ program. meaning_of program key.state key.inputs key.time key.step) written
      ∙ image.is_image.computes.step key.state key.inputs fits key.time key.step ∙ ap Some by_key

pub hold_meanings : (r : RunState) → Stands r → HaveImages r.plan.run → HoldMeanings r
hold_meanings r stands images instance step key filled is = holds_meaning r stands images instance step key filled is
