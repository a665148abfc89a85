-- The places of the names of a table's unit.
use Rattle.std.proofs.Common.{◌≡◌, ℕ, ◌+◌, ◌<◌, ◌≤◌, Bool, true, false, cond, ℤ, List, [], ◌∷◌, ◌++◌, map, length, Option, Some, inl, inr, refl, ap, sym, ◌∙◌, arith}
use Rattle.std.specs.Prelude.{◌||◌}
use Rattle.std.specs.List.{AllByRecursion, find}
use Rattle.std.specs.Option.{option_map}
use Rattle.std.specs.Str.{bytes_eq}
use Rattle.std.proofs.lemmas.Bool.{cases_eq, or_right}
use Rattle.list_laws.proofs.Truths.{never_true}
use Rattle.fixed_words.specs.declared.types.Ty.{Ty}
use Rattle.fixed_words.specs.declared.types.Ty.TheVariants.{Int64}
use Rattle.language_laws.proofs.NameLaws.{bytes_of, same_bytes}
use Rattle.list_laws.proofs.Lists.{each_so}
use Rattle.unit_tree.specs.Components.{variable}
use Rattle.unit_tree.specs.Names.{is_among, output_names, type_among}
use Rattle.unit_tree.specs.Parts.{bare_unit}
use Rattle.unit_tree.specs.declared.environment.Variable.{Variable}
use Rattle.unit_tree.specs.declared.unit.State.{State}
use Rattle.stimulus_tables.specs.TableSystems.{outputs_from, states_from}
use Rattle.stimulus_tables.specs.Tables.{IsTaken, state_name}
use Rattle.stimulus_tables.proofs.StateNames.{other_state}

-- ---- The states

abbrev pub state_variables : ℕ → List ℤ → List Variable
state_variables first words = map (λ (state : State). variable state.name state.ty) (states_from first words)

abbrev pub state_names : ℕ → List ℤ → List (List ℕ)
state_names first words = map (λ (state : State). state.name) (states_from first words)

abbrev type_if : Bool → Variable → List Variable → List ℕ → Option Ty
type_if told one others name = option_map (λ (v : Variable). v.ty) (cond told (Some one) (find (λ (v : Variable). bytes_eq v.name name) others))

one_or_later : (told : Bool) (one : Variable) (variables others : List Variable) (name : List ℕ) (ty : Ty)
    → (type_among variables name ≡ Some ty → type_among (variables ++ others) name ≡ Some ty) → type_if told one variables name ≡ Some ty
    → type_if told one (variables ++ others) name ≡ Some ty
one_or_later true one variables others name ty later is = is
one_or_later false one variables others name ty later is = later is

pub type_front : (variables others : List Variable) (name : List ℕ) (ty : Ty) → type_among variables name ≡ Some ty
    → type_among (variables ++ others) name ≡ Some ty
type_front [] others name ty is = absurd (cc)
type_front (one ∷ variables) others name ty is =
    one_or_later (bytes_eq one.name name) one variables others name ty (type_front variables others name ty) is

pub states_typed : (first : ℕ) (words : List ℤ) (at : ℕ) → first ≤ at → at < first + length words → first + length words ≤ 64
    → type_among (state_variables first words) (state_name at) ≡ Some Int64
states_typed first [] at from below few = absurd (omega (arith, from, below))
states_typed first (word ∷ words) at from below few =
    let one = variable (state_name first) Int64 in
    let others = state_variables (first + 1) words in
    elim (cases_eq first at) [
      | inl same ↦ ap (λ told. type_if told one others (state_name at)) (bytes_of (state_name first) (state_name at) (ap state_name same))
      | inr apart ↦
          ap (λ told. type_if told one others (state_name at)) (other_state first at (omega (arith, few)) (omega (arith, below, few)) apart)
          ∙ states_typed (first + 1) words at (omega (arith, from, apart)) (omega (arith, below)) (omega (arith, few))
    ]

pub state_among : (first : ℕ) (words : List ℤ) (at : ℕ) → first ≤ at → at < first + length words
    → is_among (state_names first words) (state_name at) ≡ true
state_among first [] at from below = absurd (omega (arith, from, below))
state_among first (word ∷ words) at from below =
    elim (cases_eq first at) [
      | inl same ↦
          ap (λ told. told || is_among (state_names (first + 1) words) (state_name at)) (bytes_of (state_name at) (state_name first) (ap state_name (sym same)))
      | inr apart ↦
          or_right (bytes_eq (state_name at) (state_name first)) (is_among (state_names (first + 1) words) (state_name at))
          (state_among (first + 1) words at (omega (arith, from, apart)) (omega (arith, below)))
    ]

-- ---- The outputs

pub no_output : (place : ℕ) (names : List (List ℕ)) (name : List ℕ) → AllByRecursion (λ other. bytes_eq name other ≡ false) names
    → is_among (output_names (record (bare_unit []) { outputs = outputs_from place names })) name ≡ false
no_output place [] name apart = refl
no_output place (other ∷ names) name apart =
    ap (λ told. told || is_among (output_names (record (bare_unit []) { outputs = outputs_from (place + 1) names })) name) apart.0
    ∙ no_output (place + 1) names name apart.1

-- No column has the name of a state.
pub state_free : (names : List (List ℕ)) (at : ℕ) → at < 16 → AllByRecursion (λ name. IsTaken name → ⊥) names
    → AllByRecursion (λ name. bytes_eq (state_name at) name ≡ false) names
state_free names at few free =
    each_so (λ (name : List ℕ). IsTaken name → ⊥) (λ name. bytes_eq (state_name at) name ≡ false)
    (λ name not_taken. never_true (bytes_eq (state_name at) name) (λ told. not_taken (at, few, sym (same_bytes (state_name at) name told)))) names free

pub column_free : (names : List (List ℕ)) (at : ℕ) → at < 16 → AllByRecursion (λ name. IsTaken name → ⊥) names
    → AllByRecursion (λ name. bytes_eq name (state_name at) ≡ false) names
column_free names at few free =
    each_so (λ (name : List ℕ). IsTaken name → ⊥) (λ name. bytes_eq name (state_name at) ≡ false)
    (λ name not_taken. never_true (bytes_eq name (state_name at)) (λ told. not_taken (at, few, same_bytes name (state_name at) told))) names free
