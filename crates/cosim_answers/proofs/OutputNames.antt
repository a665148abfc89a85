-- Names of outputs by their numbers in the plain form.
use Rattle.std.proofs.Common.{◌≡◌, ℕ, zero, suc, ◌+◌, ◌/◌, List, [], ◌∷◌, ◌++◌, map, length, Option, Some, None, refl, ap, sym, ◌∙◌, arith}
use Rattle.std.specs.Prelude.{Bool, is_none, false, slice_get}
use Rattle.std.specs.List.{AllByRecursion, filter_map, cons_option}
use Rattle.std.specs.Option.{option_and_then, option_map, unwrap_or}
use Rattle.event_runs.specs.EventPorts.{EventMember, Plain, Event}
use Rattle.event_runs.specs.Readings.{is_event, shape_of, event_shape, read_end, output_read}
use Rattle.event_runs.specs.EventRuns.{with_feeds}
use Rattle.trace_plan.proofs.SystemLines.{units_declared}
use Rattle.unit_tree.specs.Compositions.{member_with}
use Rattle.unit_tree.specs.Names.{Port, unit_of_instance}
use Rattle.unit_tree.specs.declared.ending.Ending.{Ending}
use Rattle.unit_tree.specs.declared.ending.Ending.TheVariants.{Completed, RowBudget, ZeroBudget, UnitFault, StepRefused}
use Rattle.unit_tree.specs.declared.ending.Place.TheVariants as place
use Rattle.unit_tree.specs.declared.system.Instance.{Instance}
use Rattle.unit_tree.specs.declared.system.System.{System}
use Rattle.unit_tree.specs.declared.unit.EventOut.{EventOut}
use Rattle.unit_tree.specs.declared.unit.Output.{Output}
use Rattle.unit_tree.specs.declared.unit.Unit.{Unit}
use Rattle.language_laws.proofs.PlainNames.{of_output, of_event}
use Rattle.cosim_answers.specs.Accepted.{status_of}
use Rattle.cosim_answers.specs.Notes.{name_or_none}
use Rattle.cosim_answers.specs.SourcePlaces.{source_end}
use Rattle.cosim_answers.proofs.TraceLaws.{IsWhole}

-- ---- Names in a unit

abbrev name_at : List Output → List EventOut → ℕ → List ℕ
name_at outputs events number =
    name_or_none (option_and_then (λ (o : Port). Some o.name)
    (slice_get (map of_output outputs ++ map of_event events) (output_read (map is_event (map Plain outputs ++ map Event events)) number)))

abbrev pub event_name : Option EventOut → List ℕ
event_name given = name_or_none (option_map (λ (e : EventOut). e.name) given)

pub plain_name : (outputs : List Output) (events : List EventOut) (number : ℕ) (output : Output) → slice_get outputs number ≡ Some output
    → name_at outputs events number ≡ output.name
plain_name [] events number output is = absurd (cc)
plain_name (first ∷ outputs) events zero output is = let same : first ≡ output = cc in ap (λ (o : Output). o.name) same
plain_name (first ∷ outputs) events (suc number) output is = plain_name outputs events number output is

halved : (number : ℕ) → suc (suc number) / 2 ≡ suc (number / 2)
halved number = omega arith

events_name : (events : List EventOut) (behind : ℕ) → name_at [] events behind ≡ event_name (slice_get events (behind / 2))
events_name [] behind = refl
events_name (first ∷ events) zero = refl
events_name (first ∷ events) (suc zero) = refl
events_name (first ∷ events) (suc (suc behind)) =
    events_name events behind ∙ ap (λ half. event_name (slice_get (first ∷ events) half)) (sym (halved behind))

-- After the plain outputs come two for each event output.
pub name_behind : (outputs : List Output) (events : List EventOut) (number behind : ℕ) → number ≡ length outputs + behind
    → name_at outputs events number ≡ event_name (slice_get events (behind / 2))
name_behind [] events number behind is = ap (name_at [] events) (is ∙ (omega arith)) ∙ events_name events behind
name_behind (first ∷ outputs) events zero behind is = absurd (omega (arith, is))
name_behind (first ∷ outputs) events (suc number) behind is = name_behind outputs events number behind (omega (arith, is))

-- ---- Ends

module _ (system : System) where
  abbrev made : Instance → Option EventMember
  made instance = option_map (with_feeds system instance) (member_with system instance (unit_of_instance system instance))

  abbrev shape_among : List Instance → ℕ → List Bool
  shape_among instances number = unwrap_or (option_map event_shape (option_and_then (unit_of_instance system) (slice_get instances number))) []

  abbrev members_shape : List EventMember → ℕ → List Bool
  members_shape members number = unwrap_or (option_map shape_of (slice_get members number)) []

  first_by : (instance : Instance) (instances : List Instance) (given : Option Unit) (number : ℕ) → unit_of_instance system instance ≡ given
      → is_none given ≡ false → shape_among instances number ≡ members_shape (filter_map made instances) number
      → members_shape (cons_option (option_map (with_feeds system instance) (member_with system instance given)) (filter_map made instances)) (suc number)
      ≡ shape_among instances number
  first_by instance instances None number is some later = absurd (cc)
  first_by instance instances (Some unit) number is some later = sym later

  here_by : (instance : Instance) (members : List EventMember) (given : Option Unit) → is_none given ≡ false
      → members_shape (cons_option (option_map (with_feeds system instance) (member_with system instance given)) members) zero
      ≡ unwrap_or (option_map event_shape given) []
  here_by instance members None some = absurd (cc)
  here_by instance members (Some unit) some = refl

  shapes_among : (instances : List Instance) (number : ℕ) → AllByRecursion (λ instance. is_none (unit_of_instance system instance) ≡ false) instances
      → shape_among instances number ≡ members_shape (filter_map made instances) number
  shapes_among [] number all = refl
  shapes_among (instance ∷ instances) zero all = sym (here_by instance (filter_map made instances) (unit_of_instance system instance) all.0)
  shapes_among (instance ∷ instances) (suc number) all =
      sym (first_by instance instances (unit_of_instance system instance) number refl all.0 (shapes_among instances number all.1))

-- The members of a judged system are those of its instances, so the end is that of the same output.
pub ends_alike : (system : System) → IsWhole system → (ending : Ending) → source_end system ending ≡ read_end system ending
ends_alike system whole Completed = refl
ends_alike system whole RowBudget = refl
ends_alike system whole ZeroBudget = refl
ends_alike system whole (StepRefused instance asked accepted) = refl
ends_alike system whole (UnitFault instance place.Max fault) = refl
ends_alike system whole (UnitFault instance place.Step fault) = refl
ends_alike system whole (UnitFault instance (place.Output number) fault) =
    ap (λ shape. UnitFault instance (place.Output (output_read shape number)) fault)
    (shapes_among system system.instances instance (units_declared system whole.well_formed))

pub same_status : (system : System) (ending : Ending) → status_of ending ≡ status_of (read_end system ending)
same_status system Completed = refl
same_status system RowBudget = refl
same_status system ZeroBudget = refl
same_status system (StepRefused instance asked accepted) = refl
same_status system (UnitFault instance place.Max fault) = refl
same_status system (UnitFault instance place.Step fault) = refl
same_status system (UnitFault instance (place.Output number) fault) = refl
