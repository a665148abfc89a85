-- Columns that are added one after the other, and the numbers of one.
use Rattle.std.proofs.Common.{◌≡◌, ◌<◌, ◌^◌, ℕ, ◌+◌, Bool, List, [], ◌∷◌, ◌++◌, map, drop, get_or, length, Option, Some, None, refl, ap, sym, subst, ◌∙◌}
use Rattle.std.proofs.Common.{append_assoc, append-nil}
use Rattle.std.proofs.lemmas.Option.{get_or_from_slice_get, slice_get_within, same_Some}
use Rattle.std.specs.Prelude.{slice_get, slice_index_or, IsSome}
use Rattle.std.specs.List.{filter_map, cons_option, position_or_len}
use Rattle.std.specs.Option.{option_map}
use Rattle.std.specs.Str.{bytes_eq}
use Rattle.fixed_words.specs.declared.types.Ty.{Ty}
use Rattle.port_solve.proofs.InputsSet.{left}
use Rattle.trace_csv.specs.Columns.{instance_number, output_number}
use Rattle.trace_plan.specs.Shown.{IsPlaced, plain_column, type_and_event, starts_from}
use Rattle.trace_plan.proofs.ShownOutputs.{placed_of}
use Rattle.unit_tree.specs.Compositions.{place_of}
use Rattle.unit_tree.specs.Names.{Port, unit_of_instance, output_at}
use Rattle.unit_tree.specs.Plain.{plain_form}
use Rattle.unit_tree.specs.Printable.{IsRanged}
use Rattle.unit_tree.specs.WellFormed.{IsWellFormed}
use Rattle.unit_tree.specs.declared.system.Column.{Column}
use Rattle.unit_tree.specs.declared.system.Instance.{Instance}
use Rattle.unit_tree.specs.declared.system.PortName.{PortName}
use Rattle.unit_tree.specs.declared.system.System.{System}
use Rattle.unit_tree.specs.declared.unit.Output.{Output}
use Rattle.unit_tree.specs.declared.unit.Unit.{Unit}

-- ---- The numbers of a column

module _ (system : System) (starts : List ℕ) (port : PortName) (placed : IsPlaced system starts port) (number : ℕ) (instances : List Instance)
    (instances_are : instances ≡ system.instances) (is : number ≡ position_or_len (λ (i : Instance). bytes_eq i.name port.instance) instances) where
  pub number_is : number ≡ instance_number system port
  number_is = is ∙ ap (position_or_len (λ (i : Instance). bytes_eq i.name port.instance)) instances_are

  -- Its instance is read.
  module _ (read : List Instance) (read_is : read ≡ system.instances) (one : Instance) (got : one ≡ get_or read number one) where
    at_number : slice_get read number ≡ Some placed.instance
    at_number = ap (λ all. slice_get all number) read_is ∙ ap (slice_get system.instances) number_is ∙ placed.is_instance

    one_is : one ≡ placed.instance
    one_is = got ∙ get_or_from_slice_get read number placed.instance one at_number

    pub unit_is : unit_of_instance system one ≡ Some placed.unit
    unit_is = ap (unit_of_instance system) one_is ∙ placed.is_unit

    -- So is its output.
    module _ (unit : Unit) (named : Some unit ≡ unit_of_instance system one) (output : ℕ) (outputs : List Output) (outputs_are : outputs ≡ unit.outputs)
        (output_is : output ≡ position_or_len (λ (o : Output). bytes_eq o.name port.port) outputs) where
      same_unit : unit ≡ placed.unit
      same_unit = same_Some unit placed.unit (named ∙ unit_is)

      pub output_number_is : output ≡ output_number system port
      output_number_is =
          output_is ∙ ap (position_or_len (λ (o : Output). bytes_eq o.name port.port)) outputs_are
          ∙ ap (λ (u : Unit). position_or_len (λ (o : Output). bytes_eq o.name port.port) u.outputs) same_unit
          ∙ sym placed.number

      start_is : slice_index_or starts number 0 ≡ placed.start
      start_is = get_or_from_slice_get starts number placed.start 0 (ap (slice_get starts) number_is ∙ placed.is_start)

      pub place_is : slice_index_or starts number 0 + output ≡ place_of system port
      place_is = ap (λ s. s + output) start_is ∙ ap (λ o. placed.start + o) output_number_is ∙ sym placed.place

      pub place_low : slice_index_or starts number 0 + output < 2 ^ 11
      place_low = subst (λ place. place < 2 ^ 11) (sym place_is) placed.few_places

      pub output_low : output < 32
      output_low = subst (λ o. o < 32) (sym output_number_is) placed.few_outputs

      pub column_is : (ty : Ty) (event : Bool)
          → record { instance = number; output = output; place = slice_index_or starts number 0 + output; ty = ty; event = event }
          ≡ plain_column system port ty event
      column_is ty event =
          ap (λ n. record { instance = n; output = output; place = slice_index_or starts number 0 + output; ty = ty; event = event }) number_is
          ∙ ap (λ n. record {
            instance = instance_number system port;
            output = n;
            place = slice_index_or starts number 0 + output;
            ty = ty;
            event =
                event;
          }) output_number_is
          ∙ ap (λ n. record { instance = instance_number system port; output = output_number system port; place = n; ty = ty; event = event }) place_is

  pub start_within : number < length starts
  start_within = slice_get_within starts number placed.start (ap (slice_get starts) number_is ∙ placed.is_start)

  pub number_low : number < 64
  number_low = subst (λ n. n < 64) (sym number_is) placed.few_instances

-- A lent element exists where its value does.
pub some_there : {A B : Type 0} (f : A → B) (given : Option A) (value : B) → option_map f given ≡ Some value → IsSome given
some_there f None value is = absurd (cc)
some_there f (Some x) value is = refl

-- ---- One column

-- An output whose type is known.
output_there : (given : Option Port) (told : Ty × Bool) → option_map type_and_event given ≡ Some told → (output : Port) × (given ≡ Some output)
output_there None told is = absurd (cc)
output_there (Some output) told is = (output, refl)

pub placed_by : (system made : System) (starts : List ℕ) (port : PortName) (told : Ty × Bool) → IsRanged system → IsWellFormed system
    → made ≡ plain_form system → starts ≡ starts_from (plain_form system) 0 (plain_form system).instances
    → option_map type_and_event (output_at system port) ≡ Some told → IsPlaced made starts port
placed_by system made starts port told ranged kept made_is starts_are is =
    let output = output_there (output_at system port) told is in
    subst (λ (s : System). IsPlaced s starts port) (sym made_is)
    (subst (λ all. IsPlaced (plain_form system) all port) (sym starts_are) (placed_of system ranged kept port output.0 output.1))

-- ---- One after the other

both_told : (before rest : List Column) (given : Option Column) → (before ++ cons_option given []) ++ rest ≡ before ++ cons_option given rest
both_told before rest None = ap (λ all. all ++ rest) (append-nil before)
both_told before rest (Some column) = append_assoc before (column ∷ []) rest

pub one_put : {A : Type 0} (named : A → PortName) (f : PortName → Option Column) (ports : List A) (place : ℕ) (default : A) → place < length ports
    → (all before after : List Column) (given : Option Column) → before ++ filter_map f (map named (drop place ports)) ≡ all
    → given ≡ f (named (get_or ports place default)) → after ≡ before ++ cons_option given []
    → after ++ filter_map f (map named (drop (place + 1) ports)) ≡ all
one_put named f ports place default within all before after given so_far told put =
    ap (λ front. front ++ filter_map f (map named (drop (place + 1) ports))) put
    ∙ both_told before (filter_map f (map named (drop (place + 1) ports))) given
    ∙ ap (λ some. before ++ cons_option some (filter_map f (map named (drop (place + 1) ports)))) told
    ∙ ap (λ some. before ++ filter_map f (map named some)) (sym (left ports place default within))
    ∙ so_far
