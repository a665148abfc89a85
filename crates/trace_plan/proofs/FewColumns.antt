-- A trace has at most 2,048 columns: as many as samples are allowed, or as 64 instances have outputs.
use Rattle.std.proofs.Common.{◌≡◌, ◌≤◌, ℕ, ◌+◌, ◌*◌, Bool, true, false, cond, List, [], ◌∷◌, length, map, length-append, Option, Some, None, inl, inr, refl}
use Rattle.std.proofs.Common.{ap, sym, subst, ◌∙◌, arith}
use Rattle.std.proofs.lemmas.List.{length-map}
use Rattle.std.specs.Prelude.{◌==◌}
use Rattle.std.specs.List.{cons_option, filter_map, flat_map}
use Rattle.std.specs.Option.{option_map}
use Rattle.model_rules.specs.Limits.{output_limit, sample_limit}
use Rattle.trace_csv.specs.Columns.{column_of, columns_of}
use Rattle.trace_plan.specs.Shown.{output_count}
use Rattle.unit_tree.specs.Names.{is_empty, output_at, output_ports, unit_of_instance}
use Rattle.unit_tree.specs.Orders.{outputs_in, outputs_of, port_of}
use Rattle.unit_tree.specs.Plain.{plain_output, plain_outputs, plain_unit, samples_or_all}
use Rattle.unit_tree.specs.Printable.{IsRanged}
use Rattle.unit_tree.specs.WellFormed.{IsWellFormed}
use Rattle.unit_tree.specs.declared.system.Instance.{Instance}
use Rattle.unit_tree.specs.declared.system.System.{System}
use Rattle.unit_tree.specs.declared.unit.Unit.{Unit}
use Rattle.language_laws.proofs.PlainNames.{of_event, of_output}
use Rattle.run_laws.proofs.EventLaws.{plain_form_1, version_1_without_events}
use Rattle.run_laws.proofs.PlainOrders.{named_has, plain_named, plain_of}
use Rattle.trace_plan.proofs.ShownOutputs.{few_outputs}
use Rattle.trace_plan.proofs.SystemLines.{few_instances, few_samples}
use Rattle.list_laws.proofs.Members.{each_has}
use Rattle.list_laws.proofs.Truths.{one_or_two}

-- ---- Lengths of lists

one_at_most : {B : Type 0} (found : Option B) (rest : List B) → length (cons_option found rest) ≤ 1 + length rest
one_at_most None rest = omega arith
one_at_most (Some b) rest = omega arith

filtered_few : {A B : Type 0} (f : A → Option B) (xs : List A) → length (filter_map f xs) ≤ length xs
filtered_few f [] = omega arith
filtered_few f (x ∷ xs) =
    let rest = filtered_few f xs in
    let here = one_at_most (f x) (filter_map f xs) in
    omega (arith, rest, here)

flat_few : {A B : Type 0} (most : ℕ) (f : A → List B) → ((x : A) → length (f x) ≤ most) → (xs : List A) → length (flat_map f xs) ≤ length xs * most
flat_few most f each [] = omega arith
flat_few most f each (x ∷ xs) =
    let rest = flat_few most f each xs in
    let here = each x in
    let all = length-append (f x) (flat_map f xs) in
    omega (arith, rest, here, all)

flat_many : {A B : Type 0} (f : A → List B) → ((x : A) → 1 ≤ length (f x)) → (xs : List A) → length xs ≤ length (flat_map f xs)
flat_many f each [] = omega arith
flat_many f each (x ∷ xs) =
    let rest = flat_many f each xs in
    let here = each x in
    let all = length-append (f x) (flat_map f xs) in
    omega (arith, rest, here, all)

-- ---- The outputs of an instance

ports_long : (unit : Unit) → length (output_ports unit) ≡ length unit.outputs + length unit.events_out
ports_long unit =
    length-append (map of_output unit.outputs) (map of_event unit.events_out)
    ∙ ap (λ n. n + length (map of_event unit.events_out)) (length-map unit.outputs of_output)
    ∙ ap (λ n. length unit.outputs + n) (length-map unit.events_out of_event)

module _ (system : System) (ranged : IsRanged system) (kept : IsWellFormed system) where
  -- Without event ports.
  first_few : (given : Option Unit) → ((unit : Unit) → given ≡ Some unit → unit.events_out ≡ []) → output_count given ≤ output_limit
      → length (outputs_in given) ≤ output_limit
  first_few None none few = omega arith
  first_few (Some unit) none few = let long = ports_long unit in let events = ap length (none unit refl) in omega (arith, few, long, events)

  -- An event output becomes two outputs of the plain form.
  second_few : (given : Option Unit) → output_count (option_map plain_unit given) ≤ output_limit → length (outputs_in given) ≤ output_limit
  second_few None few = omega arith
  second_few (Some unit) few =
      let long = ports_long unit in
      let plain = length-append (map (plain_output unit) unit.outputs) (flat_map (plain_outputs unit) unit.events_out) in
      let ones = length-map unit.outputs (plain_output unit) in
      let twos = flat_many (plain_outputs unit) (λ event. omega arith) unit.events_out in
      omega (arith, few, long, plain, ones, twos)

  few_ports : (instance : Instance) → length (outputs_in (unit_of_instance system instance)) ≤ output_limit
  few_ports instance = elim (one_or_two system.version ranged.version.0 ranged.version.1) [
    | inl first ↦
        first_few (unit_of_instance system instance)
        (λ unit is. (each_has (λ (u : Unit). (u.events_in ≡ []) × (u.events_out ≡ [])) system.units unit (version_1_without_events system ranged first)
        (named_has system.units instance.unit unit is)).1)
        (subst (λ run. output_count (unit_of_instance run instance) ≤ output_limit) (plain_form_1 system first) (few_outputs system ranged kept instance))
    | inr second ↦
        second_few (unit_of_instance system instance)
        (subst (λ given. output_count given ≤ output_limit) (plain_named system.units instance.unit)
        (subst (λ version. output_count (unit_of_instance (cond (version == 2) (plain_of system) system) instance) ≤ output_limit) second
        (few_outputs system ranged kept instance)))
  ]

  -- ---- The columns

  all_few : length (outputs_of system) ≤ sample_limit
  all_few =
      let each = flat_few output_limit
      (λ instance. map (λ output. port_of instance output.name) (outputs_in (unit_of_instance system instance)))
      (λ instance. subst (λ n. n ≤ output_limit) (sym (length-map (outputs_in (unit_of_instance system instance)) (λ output. port_of instance output.name)))
      (few_ports instance)) system.instances in
      omega (arith, each, few_instances system kept)

  shown_few : (all : Bool) → length (cond all (outputs_of system) system.samples) ≤ sample_limit
  shown_few true = all_few
  shown_few false = few_samples system kept

  pub few_columns : length (columns_of system) ≤ sample_limit
  few_columns =
      let shown = shown_few (is_empty system.samples) in
      let columns = filtered_few (λ port. option_map (column_of system port) (output_at system port)) (samples_or_all system) in
      omega (arith, shown, columns)
