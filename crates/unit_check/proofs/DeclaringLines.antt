-- The walk that searches the line which declares an output finds it.
use Rattle.std.proofs.Common.{◌≡◌, ℕ, suc, ◌+◌, Bool, true, false, List, [], ◌∷◌, Option, Some, None, Result, Ok, Err, refl, ap, sym, ◌∙◌, subst, add-one}
use Rattle.std.specs.Prelude.{nat_eq, if◌then◌else◌, ⊤}
use Rattle.std.specs.List.{find, enumerate_from}
use Rattle.std.specs.Option.{option_map}
use Rattle.unit_check.specs.Walks.{Test, onward, system_walk, test_at}
use Rattle.unit_check.specs.declared.walk.Stop.{Stop}
use Rattle.unit_check.specs.declared.walk.Stop.TheVariants as stop
use Rattle.unit_check.proofs.WalksOfParts.{system_goes}
use Rattle.unit_check.proofs.SiteWalks.{walk}
use Rattle.unit_tree.specs.Names.{unit_at}
use Rattle.unit_tree.specs.Orders.{declares_output, line_of_output}
use Rattle.unit_tree.specs.Sites.{Site, sites_of}
use Rattle.unit_tree.specs.declared.system.PortName.{PortName}
use Rattle.unit_tree.specs.declared.system.System.{System}
use Rattle.unit_tree.specs.declared.unit.Unit.{Unit}

-- The number of the first site that passes a test.
abbrev pub first_at : (Site → Bool) → ℕ → List Site → Option ℕ
first_at test number sites = option_map (λ at. at.0) (find (λ at. test at.1) (enumerate_from number sites))

-- The result of a walk for that number: it reaches the end where there is none, and else stops
-- there.
abbrev pub TellsFirst : Result ℕ Stop → Option ℕ → Type 0
TellsFirst (Ok behind) found = found ≡ None
TellsFirst (Err (stop.At line)) found = found ≡ Some line
TellsFirst (Err stop.Full) found = ⊤

pub walk_finds : (test : Site → Bool) (number : ℕ) (sites : List Site) → TellsFirst (walk test number sites) (first_at test number sites)
walk_finds test number [] = refl
walk_finds test number (site ∷ sites) = step (test site) (nat_eq number 4294967295) refl (walk_finds test (number + 1) sites)
  where
    step : (met full : Bool) → test site ≡ met → TellsFirst (walk test (number + 1) sites) (first_at test (number + 1) sites)
        → TellsFirst (onward (if met then Err (stop.At number) else (if full then Err stop.Full else Ok (suc number))) (λ n. walk test n sites))
        (first_at test number (site ∷ sites))
    step true full is rest = rw is refl
    step false true is rest = tt
    step false false is rest =
        let here = subst (λ n. TellsFirst (walk test n sites) (first_at test (number + 1) sites)) (add-one number) rest in
        rw is here

-- The line that declares an output in a unit, where there is one.
abbrev pub line_in : System → List ℕ → Option Unit → Option ℕ
line_in system name unit = first_at (λ site. declares_output name unit site.scope site.line) 1 (sites_of system)

abbrev pub declaring : List ℕ → Unit → Test
declaring name unit = λ scope place line. declares_output name (Some unit) scope line

-- In a system whose port has a unit.
pub line_found : (system : System) (port : PortName) (unit : Unit) → unit_at system port ≡ Some unit
    → TellsFirst (system_walk (declaring port.port unit) system 1) (line_of_output system port)
line_found system port unit is =
    let met = system_walk (declaring port.port unit) system 1 in
    let along : met ≡ walk (test_at (declaring port.port unit)) 1 (sites_of system) = system_goes (declaring port.port unit) system 1 in
    let found : TellsFirst met (line_in system port.port (Some unit)) =
    subst (λ result. TellsFirst result (line_in system port.port (Some unit))) (sym along)
    (walk_finds (test_at (declaring port.port unit)) 1 (sites_of system)) in
    subst (TellsFirst met) (ap (line_in system port.port) (sym is)) found

none_first : (name : List ℕ) (number : ℕ) (sites : List Site) → first_at (λ site. declares_output name None site.scope site.line) number sites ≡ None
none_first name number [] = refl
none_first name number (site ∷ sites) = none_first name (number + 1) sites

-- A port without a unit has no line.
pub none_found : (system : System) (port : PortName) → unit_at system port ≡ None → line_of_output system port ≡ None
none_found system port is = ap (line_in system port.port) is ∙ none_first port.port 1 (sites_of system)

-- What follows from the end of the walk, and from its stop at a line.
pub none_at_end : (system : System) (port : PortName) (unit : Unit) (met : Result ℕ Stop) (behind : ℕ) → Some unit ≡ unit_at system port
    → met ≡ system_walk (declaring port.port unit) system 1 → met ≡ Ok behind → None ≡ line_of_output system port
none_at_end system port unit met behind at walked ended =
    let found = subst (λ result. TellsFirst result (line_of_output system port)) (sym walked ∙ ended) (line_found system port unit (sym at)) in
    sym found

pub some_at_stop : (system : System) (port : PortName) (unit : Unit) (met : Result ℕ Stop) (line : ℕ) → Some unit ≡ unit_at system port
    → met ≡ system_walk (declaring port.port unit) system 1 → met ≡ Err (stop.At line) → Some line ≡ line_of_output system port
some_at_stop system port unit met line at walked stopped =
    let found = subst (λ result. TellsFirst result (line_of_output system port)) (sym walked ∙ stopped) (line_found system port unit (sym at)) in
    sym found
