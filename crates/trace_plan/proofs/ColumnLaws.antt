-- The columns of a judged system are outputs, and have words where the ports do.
use Rattle.std.proofs.Common.{◌≡◌, ◌<◌, ℕ, zero, suc, true, ℤ, pos, List, [], ◌∷◌, length, Option, Some, None, refl, ap, sym, subst, ◌∙◌, arith}
use Rattle.std.proofs.lemmas.Option.{slice_get-map, slice_get_within, same_Some}
use Rattle.std.specs.Prelude.{slice_get, is_some, IsSome, slice_index_or, Ok, Err}
use Rattle.std.specs.List.{AllByRecursion, filter_map, cons_option, list_all}
use Rattle.std.specs.Option.{option_map, option_and_then}
use Rattle.std.specs.Result.{result_ok}
use Rattle.fixed_words.specs.Operations.{Outcome}
use Rattle.fixed_words.specs.Types.{is_word_of, AreDecimals}
use Rattle.fixed_words.specs.declared.types.Ty.{Ty}
use Rattle.port_solve.specs.Sound.{types_of_places}
use Rattle.port_solve.proofs.OutputPlaces.{type_is, types_count}
use Rattle.trace_csv.specs.Columns.{output_number, column_of, columns_of, port_title, title_in, IsOutput}
use Rattle.trace_csv.specs.TraceText.{HasWord}
use Rattle.trace_plan.specs.Laws.{HeadersCanBePrinted, RowsCanBePrinted}
use Rattle.unit_tree.specs.Components.{get_of}
use Rattle.unit_tree.specs.Compositions.{Composition, run_of, place_of}
use Rattle.unit_tree.specs.Names.{Port, unit_of_instance, output_at}
use Rattle.unit_tree.specs.Plain.{plain_form, samples_or_all}
use Rattle.unit_tree.specs.Ports.{Ports, Outlet, outlets, inputs_for, word_at, IsAssignment}
use Rattle.unit_tree.specs.Printable.{IsRanged}
use Rattle.unit_tree.specs.WellFormed.{IsWellFormed}
use Rattle.unit_tree.specs.declared.system.Column.{Column}
use Rattle.unit_tree.specs.declared.system.Instance.{Instance}
use Rattle.unit_tree.specs.declared.system.PortName.{PortName}
use Rattle.unit_tree.specs.declared.system.System.{System}
use Rattle.unit_tree.specs.declared.unit.Output.{Output}
use Rattle.unit_tree.specs.declared.unit.Unit.{Unit}
use Rattle.run_laws.proofs.PlainOrders.{named_has}
use Rattle.run_laws.proofs.SeenLaws.{get_fits}
use Rattle.trace_plan.proofs.ShownOutputs.{shown_of, unit_limited}
use Rattle.list_laws.proofs.Members.{has_at, at_place, each_has}

-- ---- Each column by its port

module _ {A B : Type 0} (P : B → Type 0) (f : A → Option B) where
  filtered_by : (given : Option B) (rest : List B) → ((y : B) → given ≡ Some y → P y) → AllByRecursion P rest → AllByRecursion P (cons_option given rest)
  filtered_by None rest each all = all
  filtered_by (Some y) rest each all = (each y refl, all)

  filtered : (xs : List A) → ((x : A) (y : B) → f x ≡ Some y → P y) → AllByRecursion P (filter_map f xs)
  filtered [] each = tt
  filtered (x ∷ xs) each = filtered_by (f x) (filter_map f xs) (λ y is. each x y is) (filtered xs each)

module _ (system : System) (P : Column → Type 0)
    (each : (port : PortName) (output : Port) → output_at system port ≡ Some output → P (column_of system port output)) where
  of_port : (port : PortName) (given : Option Port) (column : Column) → output_at system port ≡ given → option_map (column_of system port) given ≡ Some column
      → P column
  of_port port None column is shown = absurd (cc)
  of_port port (Some output) column is shown =
      let same : column_of system port output ≡ column = cc in
      subst P same (each port output is)

  each_column : AllByRecursion P (columns_of system)
  each_column =
      filtered P (λ port. option_map (column_of system port) (output_at system port)) (samples_or_all system)
      (λ port column shown. of_port port (output_at system port) column refl shown)

-- ---- Words

all_words : (ports : Ports) (place : ℕ) (given : Option ℤ) → list_all is_some ports ≡ true → slice_get ports place ≡ Some given
    → given ≡ Some (slice_index_or (filter_map (λ word. word) ports) place (pos 0))
all_words [] place given all is = absurd (cc)
all_words (None ∷ ports) place given all is = absurd (cc)
all_words (Some word ∷ ports) zero given all is = let same : Some word ≡ given = cc in sym same
all_words (Some word ∷ ports) (suc place) given all is = all_words ports place given all is

word_count : (ports : Ports) → list_all is_some ports ≡ true → length (filter_map (λ (word : Option ℤ). word) ports) ≡ length ports
word_count [] all = refl
word_count (None ∷ ports) all = absurd (cc)
word_count (Some word ∷ ports) all = ap suc (word_count ports all)

ok_by : (outcome : Outcome) (word : ℤ) → result_ok outcome ≡ Some word → outcome ≡ Ok word
ok_by (Ok other) word is = let same : other ≡ word = cc in ap Ok same
ok_by (Err fault) word is = absurd (cc)

module _ (outlet : Outlet) (word : ℤ) where
  fits_by : (inputs : Option (List ℤ))
      → option_and_then result_ok (option_map (λ words. get_of outlet.standing.0.component outlet.standing.1 words outlet.output) inputs) ≡ Some word
      → is_word_of outlet.output.ty word ≡ true
  fits_by None is = absurd (cc)
  fits_by (Some words) is =
      get_fits outlet.standing.0.component outlet.standing.1 words outlet.output word
      (ok_by (get_of outlet.standing.0.component outlet.standing.1 words outlet.output) word is)

-- The word at a place has the type of the place.
module _ (run : Composition) (states : List (List ℤ)) (ports : Ports) (each_state : length states ≡ length run.members)
    (assigned : IsAssignment run states ports) (all : list_all is_some ports ≡ true) where
  abbrev words : List ℤ
  words = filter_map (λ (word : Option ℤ). word) ports

  pub record Fits (place : ℕ) (ty : Ty) : Type 0 where
    pub within : place < length words
    pub is_word : is_word_of ty (slice_index_or words place (pos 0)) ≡ true

  fits_at : (place : ℕ) (ty : Ty) → slice_get (types_of_places run) place ≡ Some ty → Fits place ty
  fits_at place ty is =
      let in_types = slice_get_within (types_of_places run) place ty is in
      let count = types_count run states each_state in
      let at = at_place (outlets run states) place (omega (arith, in_types, count)) in
      let same : ty ≡ at.0.output.ty = same_Some ty at.0.output.ty (sym is ∙ type_is run states place at.0 each_state at.1) in
      let port_is : slice_get ports place ≡ Some (word_at ports at.0) = ap (λ (p : Ports). slice_get p place) assigned
      ∙ slice_get-map (word_at ports) (outlets run states) place ∙ ap (option_map (word_at ports)) at.1 in
      let word_is = all_words ports place (word_at ports at.0) all port_is in
      let in_ports = slice_get_within ports place (word_at ports at.0) port_is in
      record {
        within = omega (arith, in_ports, word_count ports all);
        is_word =
            subst (λ t. is_word_of t (slice_index_or words place (pos 0)) ≡ true) (sym same)
            (fits_by at.0 (slice_index_or words place (pos 0)) (inputs_for ports at.0) word_is);
      }

-- ---- Systems

module _ (system : System) (ranged : IsRanged system) (kept : IsWellFormed system) where
  abbrev plain : System
  plain = plain_form system

  titled : (port : PortName) (output : Port) → output_at system port ≡ Some output → IsOutput system (column_of system port output)
  titled port output is =
      let of = shown_of system ranged kept port output is in
      let at = of.shown.placed in
      let title : title_in plain (column_of system port output) ≡ Some (port_title of.shown.instance of.shown.made) =
      ap (option_and_then
      (λ (instance : Instance). option_and_then (λ (unit : Unit). option_map (port_title instance) (slice_get unit.outputs (output_number plain port)))
      (unit_of_instance plain instance))) at.is_instance
      ∙ ap (option_and_then (λ (unit : Unit). option_map (port_title of.shown.instance) (slice_get unit.outputs (output_number plain port)))) at.is_unit
      ∙ ap (option_map (port_title of.shown.instance)) at.is_output in
      subst IsSome (sym title) refl

  worded : (states : List (List ℤ)) (ports : Ports) → length states ≡ length (run_of system).members → IsAssignment (run_of system) states ports
      → list_all is_some ports ≡ true → (port : PortName) (output : Port) → output_at system port ≡ Some output
      → HasWord (filter_map (λ word. word) ports) (column_of system port output)
  worded states ports each_state assigned all port output is =
      let of = shown_of system ranged kept port output is in
      let at = of.shown.placed in
      let fits = fits_at (run_of system) states ports each_state assigned all (place_of plain port) of.shown.made.ty at.is_type in
      let unit_has = named_has plain.units of.shown.instance.unit of.shown.unit at.is_unit in
      let decimals =
      each_has (λ (o : Output). AreDecimals o.ty) of.shown.unit.outputs of.shown.made (unit_limited system ranged kept of.shown.unit unit_has).decimals
      (has_at of.shown.unit.outputs (output_number plain port) of.shown.made at.is_output) in
      record {
        within = fits.within;
        is_word =
            subst (λ ty. is_word_of ty (slice_index_or (filter_map (λ (word : Option ℤ). word) ports) (place_of plain port) (pos 0))
            ≡ true) of.shown.type_is fits.is_word;
        decimals = subst AreDecimals of.shown.type_is decimals;
        before = λ event. omega (arith, at.place, of.shown.behind event);
      }

pub headers_can_be_printed_lem : HeadersCanBePrinted
headers_can_be_printed_lem = λ system ranged kept. each_column system (IsOutput system) (titled system ranged kept)

pub rows_can_be_printed_lem : RowsCanBePrinted
rows_can_be_printed_lem =
    λ system ranged kept states ports each_state assigned all. each_column system (HasWord (filter_map (λ word. word) ports))
    (worded system ranged kept states ports each_state assigned all)
