-- No rule refuses a line of a table's unit.
use Rattle.std.proofs.Common.{◌≡◌, ℕ, ◌+◌, ◌<◌, ◌≤◌, Bool, true, false, cond, ℤ, unsigned_abs, List, [], ◌∷◌, ◌++◌, map, length, Some, Ok, Err, refl, ap, ap₂, arith, ◌^◌, ◌∙◌}
use Rattle.std.specs.Prelude.{◌&&◌, ◌||◌, not, nat_lt, is_none}
use Rattle.std.specs.List.{AllByRecursion, count_by, filter_map, flat_map, list_any}
use Rattle.std.specs.Option.{option_map}
use Rattle.std.proofs.lemmas.Bool.{and_from}
use Rattle.std.proofs.lemmas.Bool.Decides.{nat_tests}
use Rattle.std.proofs.lemmas.Grind.{flat_map-append}
use Rattle.std.proofs.lemmas.List.{length-append}
use Rattle.std.proofs.lemmas.List.Sums.{count_by-le-length}
use Rattle.fixed_words.specs.Types.{kind_of}
use Rattle.fixed_words.specs.declared.types.Kind.TheVariants as kinds
use Rattle.fixed_words.specs.declared.types.LiteralFault.TheVariants.{Range}
use Rattle.fixed_words.specs.declared.types.Ty.TheVariants.{Int64}
use Rattle.language_laws.proofs.KindLemmas.{kind-Var}
use Rattle.language_laws.proofs.PlainLemmas.{plain_cost, plain_depth}
use Rattle.list_laws.proofs.Lists.{any_front, each_so}
use Rattle.unit_tree.specs.Components.{variable}
use Rattle.unit_tree.specs.Costs.{cost_of}
use Rattle.unit_tree.specs.Kinds.{has_kind, is_of_kind}
use Rattle.unit_tree.specs.LineForms.{are_alike}
use Rattle.unit_tree.specs.Names.{Port, depth_of, is_among, input_names, kinds_in, max_uses, output_ports, output_uses, shared_names, step_uses, type_in}
use Rattle.unit_tree.specs.Plain.{plain_expression, plain_forms, plain_output}
use Rattle.unit_tree.specs.Sites.{Scope, StepScope, UnitScope}
use Rattle.unit_tree.specs.WellFormed.{is_beyond, is_misformed, name_declared}
use Rattle.unit_tree.specs.declared.expr.Expr as expr
use Rattle.unit_tree.specs.declared.expr.Expr.{Expr}
use Rattle.unit_tree.specs.declared.line_form.LineForm.{LineForm}
use Rattle.unit_tree.specs.declared.line_form.LineForm.TheVariants as form
use Rattle.unit_tree.specs.declared.system.System.{System}
use Rattle.unit_tree.specs.declared.unit.Unit.{Unit}
use Rattle.stimulus_tables.specs.Laws.{IsStimulus}
use Rattle.stimulus_tables.specs.TableSystems.{is_reached, number, output_with, state_with, table_system, table_unit, to_next}
use Rattle.stimulus_tables.specs.Tables.{IsMoment, state_name}
use Rattle.stimulus_tables.specs.declared.moment.Moment.{Moment}
use Rattle.stimulus_tables.proofs.SitesPass.{Passes}
use Rattle.stimulus_tables.proofs.StepLaws.{entry_is_word}
use Rattle.stimulus_tables.proofs.TableMeasures.{chain_kind, chain_measures, keeps_from, name_measures, number_kind, number_measures, reached_kind, reached_measures, step_cheap}
use Rattle.stimulus_tables.proofs.TableNames.{no_output, state_among, state_free, state_names, state_variables, states_typed, type_front}

-- ---- Limits

not_above : (limit count : ℕ) → count ≤ limit → nat_lt limit count ≡ false
not_above limit count few = grind (arith, nat_tests)

no_other : (test : Bool) → test ≡ false → (test || false) ≡ false
no_other test is = rw is refl

not_deep : (value : Expr) → depth_of value ≤ 32 → (nat_lt 32 (depth_of (plain_expression value)) || false) ≡ false
not_deep value few = no_other _ (not_above 32 (depth_of (plain_expression value)) (omega (arith, plain_depth value, few)))

not_dear : (value : Expr) → cost_of value ≤ 1000 → (nat_lt 100000 (cost_of (plain_expression value) + 1) || false) ≡ false
not_dear value few = no_other _ (not_above 100000 (cost_of (plain_expression value) + 1) (omega (arith, plain_cost value, few)))

module _ (names : List (List ℕ)) (first : Moment) (later : List Moment) (is : IsStimulus names first later) where
  abbrev pub system : System
  system = table_system names first later

  abbrev pub unit : Unit
  unit = table_unit names first later

  abbrev pub in_unit : Scope
  in_unit = UnitScope unit

  abbrev pub in_step : Scope
  in_step = StepScope unit

  pub all_narrow : AllByRecursion (λ (m : Moment). length m.words ≤ 16) (first ∷ later)
  all_narrow =
      each_so (IsMoment names) (λ (m : Moment). length m.words ≤ 16) (λ moment one. omega (arith, one.one_each, is.are_names.few)) (first ∷ later) is.are_moments

  -- ---- Names

  type_is : (at : ℕ) → at < length first.words → type_in unit (state_name at) ≡ Some Int64
  type_is at below =
      let some = state_variables 0 first.words in
      let few : length first.words ≤ 16 = all_narrow.0 in
      let ports = map (λ (port : Port). variable port.name port.ty) (output_ports unit) in
      let a = states_typed 0 first.words at (omega arith) (omega (arith, below)) (omega (arith, few)) in
      let b = type_front some [] (state_name at) Int64 a in
      let c = type_front (some ++ []) [] (state_name at) Int64 b in
      let d = type_front ((some ++ []) ++ []) [] (state_name at) Int64 c in
      type_front (((some ++ []) ++ []) ++ []) ports (state_name at) Int64 d

  kind_is : (at : ℕ) → at < length first.words → kinds_in unit (state_name at) ≡ Some kinds.Int
  kind_is at below = ap (option_map kind_of) (type_is at below)

  shared : (at : ℕ) → at < length first.words → is_among (shared_names unit) (state_name at) ≡ true
  shared at below = any_front _ (state_names 0 first.words) [] (state_among 0 first.words at (omega arith) (omega (arith, below)))

  -- ---- Counts

  abbrev pub plain : Scope → List LineForm → List LineForm
  plain scope lines = flat_map (plain_forms system scope) lines

  pub one_more : (scope : Scope) (earlier : List LineForm) (line : LineForm)
      → length (plain scope (earlier ++ (line ∷ []))) ≡ length (plain scope earlier) + length (plain_forms system scope line)
  one_more scope earlier line =
      omega (
        arith,
        ap length (flat_map-append (plain_forms system scope) earlier (line ∷ [])),
        length-append (plain scope earlier) (plain scope (line ∷ [])),
        length-append (plain_forms system scope line) [],
      )

  not_many : (limit : ℕ) (earlier : List LineForm) (line like : LineForm) → length (plain_forms system in_unit line) ≡ 1
      → length (plain in_unit earlier) < limit → (nat_lt limit (count_by (are_alike like) (plain in_unit (earlier ++ (line ∷ [])))) || false) ≡ false
  not_many limit earlier line like one few =
      let all = plain in_unit (earlier ++ (line ∷ [])) in
      no_other _
      (not_above limit (count_by (are_alike like) all) (omega (arith, count_by-le-length (are_alike like) all, one_more in_unit earlier line, one, few)))

  -- ---- Lines of the unit

  pub state_passes : (earlier : List LineForm) (at : ℕ) (word : ℤ) → unsigned_abs word ≤ 10 ^ 15
      → is_among (filter_map name_declared earlier) (state_name at) ≡ false → length (plain in_unit earlier) < 64
      → Passes system (record { scope = in_unit; earlier = earlier; line = form.State (state_with at word) })
  state_passes earlier at word small unsaid few = record {
    new = unsaid;
    named = refl;
    kinded = ap (λ fits. is_misformed (cond fits (Ok word) (Err Range))) (entry_is_word word small);
    in_range = ap (λ fits. is_beyond (cond fits (Ok word) (Err Range))) (entry_is_word word small);
    needed = refl;
    free = refl;
    joined = refl;
    few = not_many 64 earlier (form.State (state_with at word)) (form.State (state_with at word)) refl few;
    shallow = refl;
    cheap = refl;
    stopped = refl;
    timed = refl;
    narrow = refl;
    writable = refl;
    peopled = refl;
    once = refl;
  }

  pub output_passes : (earlier : List LineForm) (name : List ℕ) (at : ℕ) → at < length first.words
      → is_among (filter_map name_declared earlier) name ≡ false → length (plain in_unit earlier) < 32
      → Passes system (record { scope = in_unit; earlier = earlier; line = form.Output (output_with name at) })
  output_passes earlier name at below unsaid few =
      let value = expr.Var (state_name at) in
      let measures = name_measures (state_name at) in
      let used =
      keeps_from (output_uses unit) value (state_name at ∷ []) _ 1 1 measures (and_from _ _ (shared at below) refl) refl in
      let kinded : has_kind (Some kinds.Int) value (kinds_in unit) ≡ true =
      ap (λ kind. is_of_kind kind (Some kinds.Int)) (kind-Var (state_name at) (kinds_in unit) ∙ kind_is at below) in
      record {
        new = unsaid;
        named = ap (λ keeps. not keeps || false) used;
        kinded = ap₂ (λ has old. not has || ((true && old) || false)) kinded measures.old;
        in_range = refl;
        needed = ap (list_any (λ used_name. is_among (input_names unit) used_name && not (is_among [] used_name))) measures.named;
        free = refl;
        joined = refl;
        few = not_many 32 earlier (form.Output (output_with name at)) (form.Output (plain_output unit (output_with name at))) refl few;
        shallow = not_deep value (omega (arith, measures.deep));
        cheap = not_dear value (omega (arith, measures.dear));
        stopped = refl;
        timed = refl;
        narrow = refl;
        writable = refl;
        peopled = refl;
        once = refl;
      }

  pub max_passes : (earlier : List LineForm) (time : ℕ) (more : List Moment) → length more < 20
      → Passes system (record { scope = in_unit; earlier = earlier; line = form.Max (to_next time more) })
  max_passes earlier time more few =
      let value = to_next time more in
      let measures = chain_measures time more in
      let used = keeps_from (max_uses unit) value [] _ (2 + length more) _ measures refl refl in
      let kinded : has_kind (Some kinds.Int) value (kinds_in unit) ≡ true =
      ap (λ kind. is_of_kind kind (Some kinds.Int)) (chain_kind time more (kinds_in unit)) in
      record {
        new = refl;
        named = ap not used;
        kinded = ap₂ (λ has old. not has || ((true && old) || false)) kinded measures.old;
        in_range = refl;
        needed = refl;
        free = refl;
        joined = refl;
        few = refl;
        shallow = not_deep value (omega (arith, measures.deep, few));
        cheap = not_dear value (omega (arith, measures.dear, few));
        stopped = refl;
        timed = refl;
        narrow = refl;
        writable = refl;
        peopled = refl;
        once = refl;
      }

  pub step_passes : (earlier : List LineForm) → Passes system (record { scope = in_unit; earlier = earlier; line = form.Step })
  step_passes earlier = record {
    new = refl;
    named = refl;
    kinded = refl;
    in_range = refl;
    needed = refl;
    free = refl;
    joined = refl;
    few = refl;
    shallow = refl;
    cheap = no_other _ (not_above 100000 _ (omega (arith, step_cheap later all_narrow.1, is.few)));
    stopped = refl;
    timed = refl;
    narrow = refl;
    writable = refl;
    peopled = refl;
    once = refl;
  }

  -- ---- Lines of the step

  -- A line is accepted after fewer than 500 others, and is one line of the plain form.
  pub record StepPasses (line : LineForm) : Type 0 where
    pub passes : (earlier : List LineForm) → length (plain in_step earlier) < 500
        → Passes system (record { scope = in_step; earlier = earlier; line = line })
    pub single : length (plain_forms system in_step line) ≡ 1

  short : (earlier : List LineForm) (line : LineForm) → length (plain_forms system in_step line) ≡ 1 → length (plain in_step earlier) < 500
      → (nat_lt 500 (length (plain in_step (earlier ++ (line ∷ [])))) || false) ≡ false
  short earlier line one few = no_other _ (not_above 500 _ (omega (arith, one_more in_step earlier line, one, few)))

  pub reached_passes : (time : ℕ) → StepPasses (form.If (is_reached time))
  reached_passes time =
      let value = is_reached time in
      let measures = reached_measures time in
      let used = keeps_from (step_uses unit) value [] _ 3 5 measures refl refl in
      let kinded : has_kind (Some kinds.Bool) value (kinds_in unit) ≡ true =
      ap (λ kind. is_of_kind kind (Some kinds.Bool)) (reached_kind time (kinds_in unit)) in
      record {
        passes = λ earlier few. record {
          new = refl;
          named = ap not used;
          kinded = ap₂ (λ has old. not has || ((true && old) || false)) kinded measures.old;
          in_range = refl;
          needed = refl;
          free = refl;
          joined = refl;
          few = short earlier (form.If value) refl few;
          shallow = not_deep value (omega (arith, measures.deep));
          cheap = refl;
          stopped = refl;
          timed = refl;
          narrow = refl;
          writable = refl;
          peopled = refl;
          once = refl;
        };
        single = refl;
      }

  pub set_passes : (at : ℕ) (word : ℤ) → at < length first.words → StepPasses (form.Assign (state_name at) (number word))
  set_passes at word below =
      let value = number word in
      let measures = number_measures word in
      let few_words : length first.words ≤ 16 = all_narrow.0 in
      let used = keeps_from (step_uses unit) value [] _ 2 2 measures refl refl in
      let kinded : has_kind (kinds_in unit (state_name at)) value (kinds_in unit) ≡ true =
      ap₂ is_of_kind (number_kind word (kinds_in unit)) (kind_is at below) in
      record {
        passes = λ earlier few. record {
          new = refl;
          named = ap₂ (λ ty keeps. is_none ty || not keeps) (type_is at below) used;
          kinded = ap₂ (λ has old. not has || ((true && old) || false)) kinded measures.old;
          in_range = refl;
          needed = refl;
          free = refl;
          joined = refl;
          few = short earlier (form.Assign (state_name at) value) refl few;
          shallow = not_deep value (omega (arith, measures.deep));
          cheap = refl;
          stopped = refl;
          timed = refl;
          narrow = refl;
          writable = no_output 0 names (state_name at) (state_free names at (omega (arith, below, few_words)) is.are_names.not_taken);
          peopled = refl;
          once = refl;
        };
        single = refl;
      }

  pub step_end_passes : StepPasses form.End
  step_end_passes = record {
    passes = λ earlier few. record {
      new = refl;
      named = refl;
      kinded = refl;
      in_range = refl;
      needed = refl;
      free = refl;
      joined = refl;
      few = short earlier form.End refl few;
      shallow = refl;
      cheap = refl;
      stopped = refl;
      timed = refl;
      narrow = refl;
      writable = refl;
      peopled = refl;
      once = refl;
    };
    single = refl;
  }
