-- The ports that the lines of a generated system name.
use Rattle.std.proofs.Common.{◌≡◌, ℕ, zero, suc, ◌+◌, ◌-◌, ◌<◌, ◌≤◌, Bool, true, false, cond, [], map, Option, Some, refl, ap, sym, ◌∙◌, arith}
use Rattle.std.specs.Prelude.{codes}
use Rattle.std.specs.List.{find, range_with_len}
use Rattle.std.specs.Option.{option_and_then}
use Rattle.std.specs.Str.{bytes_eq}
use Rattle.fixed_words.specs.declared.types.Ty.TheVariants.{Int64}
use Rattle.unit_tree.specs.Names.{Port, output_ports, input_ports, port_named, unit_of_instance, instance_named, output_at, input_at}
use Rattle.unit_tree.specs.declared.system.Instance.{Instance}
use Rattle.language_laws.proofs.NameLaws.{same_bytes}
use Rattle.cosim_gen.specs.Generated.{CanGenerate, instance_in, name_in, port_in, source_of, later_places, generated}
use Rattle.cosim_gen.proofs.Names.{one_name, other_name, its_name}

-- ---- Instances by their names

abbrev pub mixer : ℕ → ℕ → Instance
mixer seed place = instance_in seed (codes "mix") place

abbrev named : ℕ → Instance → Bool
named place instance = bytes_eq instance.name (name_in place)

-- The first mixer has the name, or it is found among the others.
found_first : (seed place first count : ℕ) (told : Bool) → first < 64 → place < 64 → named place (mixer seed first) ≡ told
    → ((first ≡ place → ⊥) → find (named place) (map (mixer seed) (range_with_len (first + 1) count)) ≡ Some (mixer seed place))
    → cond told (Some (mixer seed first)) (find (named place) (map (mixer seed) (range_with_len (first + 1) count))) ≡ Some (mixer seed place)
found_first seed place first count true few small is later =
    ap (λ at. Some (mixer seed at)) (one_name first place few small (same_bytes (name_in first) (name_in place) is))
found_first seed place first count false few small is later = later (λ same. absurd
    (told_twice (sym (ap (λ at. named place (mixer seed at)) same ∙ its_name place) ∙ is)))
  where
    told_twice : true ≡ false → ⊥
    told_twice is = cc

found_mixer : (seed place first count : ℕ) → first ≤ place → place < first + count → first + count ≤ 64
    → find (named place) (map (mixer seed) (range_with_len first count)) ≡ Some (mixer seed place)
found_mixer seed place first zero from below few = absurd (omega arith)
found_mixer seed place first (suc count) from below few =
    found_first seed place first count (named place (mixer seed first)) (omega arith) (omega arith) refl
    (λ apart. found_mixer seed place (first + 1) count (next apart) (omega arith) (omega arith))
  where
    next : (first ≡ place → ⊥) → first + 1 ≤ place
    next apart = omega (arith, apart)

-- ---- Ports of components

abbrev pub port_y : Port
port_y = record { name = codes "y"; ty = Int64; is_event = false; needs = [] }

abbrev pub port_u : Port
port_u = record { name = codes "u"; ty = Int64; is_event = false; needs = [] }

module _ (seed instances rows : ℕ) (can : CanGenerate instances rows) where
  -- The instance of a mixer is found by its name.
  mixer_found : (place : ℕ) → 1 ≤ place → place < instances → instance_named (generated seed instances rows) (name_in place) ≡ Some (mixer seed place)
  mixer_found place some below =
      ap (λ told. cond told (Some (instance_in seed (codes "src") 0)) (find (named place) (map (mixer seed) (later_places instances))))
      (other_name 0 place (omega arith) (omega (arith, can.few_instances)) (λ same. absurd (omega arith)))
      ∙ found_mixer seed place 1 (instances - 1) some (omega arith) (omega (arith, can.few_instances))

  source_found : instance_named (generated seed instances rows) (name_in 0) ≡ Some (instance_in seed (codes "src") 0)
  source_found = ap (λ told. cond told (Some (instance_in seed (codes "src") 0)) (find (named 0) (map (mixer seed) (later_places instances)))) (its_name 0)

  abbrev output_of : Option Instance → Option Port
  output_of found =
      option_and_then (λ unit. port_named (output_ports unit) (codes "y")) (option_and_then (unit_of_instance (generated seed instances rows)) found)

  -- `y` of each component is an output.
  pub output_there : (place : ℕ) → place < instances → output_at (generated seed instances rows) (port_in place (codes "y")) ≡ Some port_y
  output_there zero below = ap output_of source_found
  output_there (suc before) below = ap output_of (mixer_found (suc before) (omega arith) below)

  -- `u` of each mixer is an input.
  pub input_there : (place : ℕ) → 1 ≤ place → place < instances → input_at (generated seed instances rows) (port_in place (codes "u")) ≡ Some port_u
  input_there place some below =
      ap (λ found. option_and_then (λ unit. port_named (input_ports unit) (codes "u"))
      (option_and_then (unit_of_instance (generated seed instances rows)) found))
      (mixer_found place some below)

  -- The input of a mixer is connected to a component before it.
  pub source_before : (place : ℕ) → 1 ≤ place → source_of seed place < place
  source_before place some = omega arith
