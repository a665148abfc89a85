-- The ports of the component of a table: each output has the word of its state.
use Rattle.std.proofs.Common.{◌≡◌, ℕ, ◌+◌, ◌<◌, ◌≤◌, true, ℤ, List, [], ◌∷◌, ◌++◌, map, length, if◌then◌else◌, Some, None, Ok, Err, refl, sym, ap, ap₂, ◌∙◌, append_assoc, append-nil, length-append, arith}
use Rattle.std.specs.List.{enumerate_from}
use Rattle.std.specs.Option.{option_and_then, option_map}
use Rattle.std.specs.Result.{result_ok, result_err}
use Rattle.language_laws.proofs.LineLaws.{same_name}
use Rattle.fixed_words.specs.Types.{is_word_of, kind_of}
use Rattle.fixed_words.specs.declared.types.Fault.TheVariants.{Range}
use Rattle.fixed_words.specs.declared.types.Kind.TheVariants as kinds
use Rattle.fixed_words.specs.declared.types.Ty.TheVariants as types
use Rattle.unit_tree.specs.Components.{Component, variable, environment_of, get_of, given_as}
use Rattle.unit_tree.specs.Compositions.{Composition, Member}
use Rattle.unit_tree.specs.Ports.{Ports, Outlet, first_some, fault_at, port_fault, right_sides, word_at}
use Rattle.unit_tree.specs.Values.{◌>>=◌, value_of_name}
use Rattle.unit_tree.specs.declared.environment.Variable.{Variable}
use Rattle.unit_tree.specs.declared.ending.Ending.TheVariants.{UnitFault}
use Rattle.unit_tree.specs.declared.ending.Place.TheVariants as places
use Rattle.unit_tree.specs.declared.unit.Output.{Output}
use Rattle.unit_tree.specs.declared.unit.State.{State}
use Rattle.language_laws.proofs.MeaningLemmas.{value-Var}
use Rattle.stimulus_tables.specs.TableSystems.{output_with, outputs_from, states_from, table_unit}
use Rattle.stimulus_tables.specs.Tables.{state_name}
use Rattle.stimulus_tables.specs.declared.moment.Moment.{Moment}
use Rattle.stimulus_tables.proofs.StepLaws.{AreBefore, AreEntries, entry_is_word, one_before, same_slots, slots, slots_are}

-- ---- The component

module _ (names : List (List ℕ)) (first : Moment) (later : List Moment) where
  abbrev pub component : Component
  component = record { unit = table_unit names first later; params = [] }

  abbrev pub member : Member
  member = record { component = component; factor = 1; sources = [] }

  abbrev pub played : ℕ → Composition
  played stop = record { members = member ∷ []; stop = stop; longest = stop; zero_budget = 100; row_budget = 100000 }

  bare : {A : Type 0} (xs : List A) → (xs ++ []) ++ [] ≡ xs
  bare xs = append-nil (xs ++ []) ∙ append-nil xs

  pub variables_are : (words : List ℤ) (time step : ℕ) → length words ≡ length first.words → (environment_of component words [] time step).variables ≡ slots 0 words
  variables_are words time step many =
      bare (map (λ (s : State). variable s.name s.ty) (states_from 0 first.words)) ∙ slots_are 0 first.words ∙ same_slots 0 first.words words (sym many)

  pub words_are : (words : List ℤ) (time step : ℕ) → (environment_of component words [] time step).words ≡ words
  words_are words time step = bare words

  -- ---- Outputs

  value_there : (at : ℕ) (front : List Variable) (before rest : List ℤ) (word : ℤ) → AreBefore at front → at < 64 → length before ≡ length front
      → value_of_name (front ++ (variable (state_name at) types.Int64 ∷ slots (at + 1) rest)) (before ++ (word ∷ rest)) (state_name at)
      ≡ record { kind = kinds.Int; word = word }
  value_there at [] [] rest word apart few same =
      ap (λ b. if b then record { kind = kinds.Int; word = word } else value_of_name (slots (at + 1) rest) rest (state_name at)) (same_name (state_name at))
  value_there at [] (b ∷ before) rest word apart few same = absurd (omega arith)
  value_there at (v ∷ front) [] rest word apart few same = absurd (omega arith)
  value_there at (v ∷ front) (b ∷ before) rest word apart few same =
      ap (λ told. if told then record { kind = kind_of v.ty; word = b } else value_of_name (front ++ (variable (state_name at) types.Int64 ∷ slots (at + 1) rest)) (before ++ (word ∷ rest)) (state_name at)) (apart.0 at (omega arith) few)
      ∙ value_there at front before rest word apart.1 few (omega arith)

  module _ (words : List ℤ) (many : length words ≡ length first.words) (ports : Ports) where
    got : (name : List ℕ) (at : ℕ) (front : List Variable) (before rest : List ℤ) (word : ℤ) → slots 0 words ≡ front ++ (variable (state_name at) types.Int64 ∷ slots (at + 1) rest)
        → words ≡ before ++ (word ∷ rest) → AreBefore at front → at < 64 → length before ≡ length front → is_word_of types.Int64 word ≡ true
        → get_of component words [] (output_with name at) ≡ Ok word
    got name at front before rest word slots_at words_at apart few same is =
        ap (λ r. r >>= given_as types.Int64) (value-Var (state_name at) (environment_of component words [] 0 0))
        ∙ ap₂ (λ vs ws. given_as types.Int64 (value_of_name vs ws (state_name at))) (variables_are words 0 0 many ∙ slots_at) (words_are words 0 0 ∙ words_at)
        ∙ ap (given_as types.Int64) (value_there at front before rest word apart few same)
        ∙ ap (λ b. if b then Ok word else Err Range) is

    abbrev outlet_of : ℕ × Output → Outlet
    outlet_of counted = record { standing = (member, words); instance = 0; output = counted.1; number = counted.0 }

    record ArePlayed (all : List Outlet) (rest : List ℤ) : Type 0 where
      told : map (word_at ports) all ≡ map Some rest
      none : first_some (map (fault_at ports) all) ≡ None

    outputs_played : (number at : ℕ) (others : List (List ℕ)) (front : List Variable) (before rest : List ℤ) → slots 0 words ≡ front ++ slots at rest
        → words ≡ before ++ rest → AreBefore at front → at + length rest ≤ 64 → length before ≡ length front → length others ≡ length rest → AreEntries rest
        → ArePlayed (map outlet_of (enumerate_from number (outputs_from at others))) rest
    outputs_played number at [] front before [] slots_at words_at apart few same as_many are = record { told = refl; none = refl }
    outputs_played number at [] front before (word ∷ rest) slots_at words_at apart few same as_many are = absurd (omega arith)
    outputs_played number at (name ∷ others) front before [] slots_at words_at apart few same as_many are = absurd (omega arith)
    outputs_played number at (name ∷ others) front before (word ∷ rest) slots_at words_at apart few same as_many are =
        let here = got name at front before rest word slots_at words_at apart (omega arith) same (entry_is_word word are.0) in
        let later_ones = outputs_played (number + 1) (at + 1) others (front ++ (variable (state_name at) types.Int64 ∷ [])) (before ++ (word ∷ [])) rest
        (slots_at ∙ sym (append_assoc front (variable (state_name at) types.Int64 ∷ []) (slots (at + 1) rest))) (words_at ∙ sym (append_assoc before (word ∷ []) rest))
        (one_before at front apart (omega arith)) (omega (arith, few))
        (omega (arith, length-append before (word ∷ []), length-append front (variable (state_name at) types.Int64 ∷ []), same)) (omega arith) are.1 in
        let more : List Outlet = map outlet_of (enumerate_from (number + 1) (outputs_from (at + 1) others)) in
        record {
          told = ap (λ given. option_and_then result_ok (Some given) ∷ map (word_at ports) more) here ∙ ap (λ rest_told. Some word ∷ rest_told) later_ones.told;
          none = ap (λ given. first_some (option_map (UnitFault 0 (places.Output number)) (option_and_then result_err (Some given)) ∷ map (fault_at ports) more)) here ∙ later_ones.none;
        }

    all_played : length names ≡ length words → length words ≤ 16 → AreEntries words → ArePlayed (map outlet_of (enumerate_from 0 (outputs_from 0 names))) words
    all_played as_many few are = outputs_played 0 0 names [] [] words refl refl tt (omega (arith, few)) refl as_many are

    pub is_assigned : (stop : ℕ) → length names ≡ length words → length words ≤ 16 → AreEntries words → right_sides (played stop) (words ∷ []) ports ≡ map Some words
    is_assigned stop as_many few are =
        ap (map (word_at ports)) (append-nil (map outlet_of (enumerate_from 0 (outputs_from 0 names)))) ∙ (all_played as_many few are).told

    pub no_fault : (stop : ℕ) → length names ≡ length words → length words ≤ 16 → AreEntries words → port_fault (played stop) (words ∷ []) ports ≡ None
    no_fault stop as_many few are =
        ap (λ all. first_some (map (fault_at ports) all)) (append-nil (map outlet_of (enumerate_from 0 (outputs_from 0 names)))) ∙ (all_played as_many few are).none
