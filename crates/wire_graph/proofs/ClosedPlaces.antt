-- Closed places in order include every place that is in some order. The first place that they leave out is that of the
-- first output without an order.
use Rattle.std.proofs.Common.{◌≡◌, ℕ, zero, suc, ◌<◌, List, [], ◌∷◌, ◌++◌, length, take, drop, Some, inl, inr, refl, ap, subst, ◌⊎◌, arith}
use Rattle.std.specs.Prelude.{slice_get, unwrap_or}
use Rattle.std.specs.List.{AllByRecursion}
use Rattle.unit_tree.specs.Compositions.{Composition, HasNoEvents, composition_of}
use Rattle.unit_tree.specs.Orders.{IsIn, HasNoOrder, IsFirstWithoutOrder, outputs_of}
use Rattle.unit_tree.specs.Ports.{IsAmong, IsOrderedAfter, needs_of_places, needs_at}
use Rattle.unit_tree.specs.declared.system.PortName.{PortName}
use Rattle.unit_tree.specs.declared.system.System.{System}
use Rattle.language_laws.proofs.NameLaws.{NamesDiffer, Wired}
use Rattle.run_laws.proofs.PlaceOrders.{ordered, orderly, among_ports, port_at, at_is, among_places, ports_at, place_back, places, count_is}
use Rattle.run_laws.proofs.EquationLaws.{among_either}
use Rattle.list_laws.proofs.Lists.{each_so}

-- An output all of whose needs are among the places is among them itself.
abbrev pub AreClosed : Composition → List ℕ → Type 0
AreClosed run order = (place : ℕ) → place < length (needs_of_places run) → AllByRecursion (IsAmong order) (needs_at run place) → IsAmong order place

within : (run : Composition) (order before other : List ℕ) → AreClosed run order → ((place : ℕ) → IsAmong before place → IsAmong order place)
    → IsOrderedAfter run before other → (place : ℕ) → IsAmong other place → IsAmong order place
within run order before [] closed came is place none = absurd none
within run order before (first ∷ other) closed came is place stands =
    by here (λ at. within run order (before ++ (first ∷ [])) other closed (λ p among. either at p (among_either before first p among)) is.3 place) stands
  where
    here : IsAmong order first
    here = closed first is.0 (each_so (IsAmong before) (IsAmong order) came (needs_at run first) is.2)

    either : IsAmong order first → (p : ℕ) → IsAmong before p ⊎ (first ≡ p) → IsAmong order p
    either at p (inl earlier) = came p earlier
    either at p (inr same) = subst (IsAmong order) same at

    by : IsAmong order first → (IsAmong order first → IsAmong other place → IsAmong order place) → (first ≡ place) ⊎ IsAmong other place → IsAmong order place
    by at later (inl same) = subst (IsAmong order) same at
    by at later (inr there) = later at there

pub holds_every : (run : Composition) (order other : List ℕ) → AreClosed run order → IsOrderedAfter run [] other → (place : ℕ) → IsAmong other place
    → IsAmong order place
holds_every run order other closed is place stands = within run order [] other closed (λ p none. absurd none) is place stands

cut_at : {A : Type 0} (xs : List A) (k : ℕ) (x : A) → slice_get xs k ≡ Some x → xs ≡ take k xs ++ (x ∷ drop (suc k) xs)
cut_at [] k x is = absurd (cc)
cut_at (first ∷ xs) zero x is = let same : first ≡ x = cc in ap (λ y. y ∷ xs) same
cut_at (first ∷ xs) (suc k) x is = ap (λ rest. first ∷ rest) (cut_at xs k x is)

all_first : {A : Type 0} (P : A → Type 0) (xs : List A) (k : ℕ) → ((p : ℕ) (x : A) → p < k → slice_get xs p ≡ Some x → P x) → AllByRecursion P (take k xs)
all_first P [] zero each = tt
all_first P [] (suc k) each = tt
all_first P (first ∷ xs) zero each = tt
all_first P (first ∷ xs) (suc k) each = (each 0 first (omega arith) refl, all_first P xs k (λ p x below is. each (suc p) x (omega (arith, below)) is))

module _ (system : System) (plain : HasNoEvents system) (differ : NamesDiffer system) (wired : Wired system) where
  abbrev run : Composition
  run = composition_of system

  abbrev port : ℕ → PortName
  port = port_at system plain differ wired

  pub first_left : (order : List ℕ) (left : ℕ) → IsOrderedAfter run [] order → AreClosed run order → left < length (needs_of_places run)
      → (IsAmong order left → ⊥) → ((place : ℕ) → place < left → IsAmong order place) → IsFirstWithoutOrder system (port left)
  first_left order left is closed is_place apart others = record {
    before = take left (outputs_of system);
    later = drop (suc left) (outputs_of system);
    cut = cut_at (outputs_of system) left (port left) (at_is system plain differ wired left is_output);
    has_no_order = λ other other_is stands.
        apart (holds_every run order (places system plain differ other) closed (ordered system plain differ [] other tt other_is) left
        (subst (IsAmong (places system plain differ other)) (place_back system plain differ wired left is_output)
        (among_places system plain differ other (port left) stands)));
    is_first = all_first (λ other. HasNoOrder system other → ⊥) (outputs_of system) left (λ place other below found none.
        none (ports_at system plain differ wired order) (orderly system plain differ wired [] order tt is)
        (subst (IsIn (ports_at system plain differ wired order)) (ap (λ given. unwrap_or given (record { instance = []; port = [] })) found)
        (among_ports system plain differ wired order place (others place below))));
  }
    where
      is_output : left < length (outputs_of system)
      is_output = omega (arith, is_place, count_is system plain differ)
