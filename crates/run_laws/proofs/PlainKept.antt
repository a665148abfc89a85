-- What a system and its plain form have in common: numbers, instances, and the ticks of a second.
use Rattle.std.proofs.Common.{◌≡◌, Bool, true, false, cond, List, [], ◌∷◌, map, Option, Some, None, refl, ap, ◌∙◌}
use Rattle.std.specs.Prelude.{is_none, ◌==◌, max}
use Rattle.std.specs.List.{AllByRecursion, fold}
use Rattle.std.specs.Option.{option_map}
use Rattle.unit_tree.specs.Names.{unit_of_instance}
use Rattle.unit_tree.specs.Plain.{plain_unit, plain_form}
use Rattle.unit_tree.specs.WellFormed.{unit_resolution, resolution_of}
use Rattle.unit_tree.specs.declared.system.Instance.{Instance}
use Rattle.unit_tree.specs.declared.system.System.{System}
use Rattle.unit_tree.specs.declared.unit.Unit.{Unit}
use Rattle.run_laws.proofs.PlainOrders.{plain_of, plain_named}

same_resolution : (system : System) (given : Option Unit) → unit_resolution (option_map plain_unit given) ≡ unit_resolution given
same_resolution system None = refl
same_resolution system (Some unit) = refl

resolutions : (system : System) (instances : List Instance)
    → map (λ instance. unit_resolution (unit_of_instance (plain_of system) instance)) instances
    ≡ map (λ instance. unit_resolution (unit_of_instance system instance)) instances
resolutions system [] = refl
resolutions system (instance ∷ instances) =
    ap (λ first. first ∷ map (λ other. unit_resolution (unit_of_instance (plain_of system) other)) instances)
    (ap unit_resolution (plain_named system.units instance.unit) ∙ same_resolution system (unit_of_instance system instance))
    ∙ ap (λ rest. unit_resolution (unit_of_instance system instance) ∷ rest) (resolutions system instances)

declared_too : (given : Option Unit) → is_none given ≡ false → is_none (option_map plain_unit given) ≡ false
declared_too None is = is
declared_too (Some unit) is = refl

all_declared : (system : System) (instances : List Instance) → AllByRecursion (λ instance. is_none (unit_of_instance system instance) ≡ false) instances
    → AllByRecursion (λ instance. is_none (unit_of_instance (plain_of system) instance) ≡ false) instances
all_declared system [] all = tt
all_declared system (instance ∷ instances) all = (
  ap is_none (plain_named system.units instance.unit) ∙ declared_too (unit_of_instance system instance) all.0,
  all_declared system instances all.1,
)

-- What a system and its plain form have in common.
pub record Alike (system plain : System) : Type 0 where
  pub version : plain.version ≡ system.version
  pub instances : plain.instances ≡ system.instances
  pub stop : plain.stop ≡ system.stop
  pub longest : plain.longest ≡ system.longest
  pub zeros : plain.zero ≡ system.zero
  pub rows : plain.rows ≡ system.rows
  pub resolution : resolution_of plain ≡ resolution_of system
  pub declared : AllByRecursion (λ instance. is_none (unit_of_instance system instance) ≡ false) system.instances
      → AllByRecursion (λ instance. is_none (unit_of_instance plain instance) ≡ false) system.instances

pub alike_by : (system : System) (told : Bool) → Alike system (cond told (plain_of system) system)
alike_by system true = record {
  version = refl;
  instances = refl;
  stop = refl;
  longest = refl;
  zeros = refl;
  rows = refl;
  resolution = ap (fold max 0) (resolutions system system.instances);
  declared = all_declared system system.instances;
}
alike_by system false =
    record { version = refl; instances = refl; stop = refl; longest = refl; zeros = refl; rows = refl; resolution = refl; declared = λ all. all }

pub alike : (system : System) → Alike system (plain_form system)
alike system = alike_by system (system.version == 2)
