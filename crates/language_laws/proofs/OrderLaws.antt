-- Outputs on a cycle are in no orderly list: all that an output of such a list depends on comes
-- before it.
use Rattle.std.proofs.Common.{◌≡◌, List, [], ◌∷◌, ◌++◌, append_assoc, inl, inr, refl, ap, sym, subst}
use Rattle.std.specs.List.{AllByRecursion}
use Rattle.std.proofs.lemmas.List.{append-nil}
use Rattle.unit_tree.specs.Orders.{IsIn, DependsOn, needs, through, IsOrderlyAfter, IsOrderly, HasNoOrder, needed_by}
use Rattle.unit_tree.specs.declared.system.PortName.{PortName}
use Rattle.unit_tree.specs.declared.system.System.{System}

pub in_front : (front behind : List PortName) (port : PortName) → IsIn front port → IsIn (front ++ behind) port
in_front [] behind port stands = absurd stands
in_front (first ∷ front) behind port (inl is) = inl is
in_front (first ∷ front) behind port (inr later) = inr (in_front front behind port later)

pub each_in : (P : PortName → Type 0) (ports : List PortName) (port : PortName) → AllByRecursion P ports → IsIn ports port → P port
each_in P [] port all stands = absurd stands
each_in P (first ∷ ports) port all (inl is) = subst P is all.0
each_in P (first ∷ ports) port all (inr later) = each_in P ports port all.1 later

pub front_is_orderly : (system : System) (before front behind : List PortName) → IsOrderlyAfter system before (front ++ behind)
    → IsOrderlyAfter system before front
front_is_orderly system before [] behind orderly = _
front_is_orderly system before (first ∷ front) behind orderly =
    (orderly.0, orderly.1, orderly.2, front_is_orderly system (before ++ (first ∷ [])) front behind orderly.3)

-- A port of an orderly list, with what comes before it there.
pub record Placed (system : System) (before order : List PortName) (port : PortName) : Type 0 where
  pub front : List PortName
  pub behind : List PortName
  pub cut : order ≡ front ++ behind
  pub apart : IsIn (before ++ front) port → ⊥
  pub after_needs : AllByRecursion (IsIn (before ++ front)) (needed_by system port)

pub place_of : (system : System) (before order : List PortName) (port : PortName) → IsOrderlyAfter system before order → IsIn order port
    → Placed system before order port
place_of system before [] port orderly stands = absurd stands
place_of system before (first ∷ order) port orderly (inl is) = record {
  front = [];
  behind = first ∷ order;
  cut = refl;
  apart = subst (λ p. IsIn (before ++ []) p → ⊥) is (rw (append-nil before) (orderly.1));
  after_needs = subst (λ p. AllByRecursion (IsIn (before ++ [])) (needed_by system p)) is (rw (append-nil before) (orderly.2));
}
place_of system before (first ∷ order) port orderly (inr later) =
    let placed = place_of system (before ++ (first ∷ [])) order port orderly.3 later in
    record {
      front = first ∷ placed.front;
      behind = placed.behind;
      cut = ap (λ rest. first ∷ rest) placed.cut;
      apart = subst (λ front. IsIn front port → ⊥) (append_assoc before (first ∷ []) placed.front) placed.apart;
      after_needs = subst (λ front. AllByRecursion (IsIn front) (needed_by system port)) (append_assoc before (first ∷ []) placed.front) placed.after_needs;
    }

-- Each port that a port of an orderly list depends on comes before it.
pub record Before (order : List PortName) (port other : PortName) : Type 0 where
  pub front : List PortName
  pub behind : List PortName
  pub cut : order ≡ front ++ behind
  pub apart : IsIn front port → ⊥
  pub holds : IsIn front other

pub comes_before : (system : System) (port other : PortName) → DependsOn system port other → (order : List PortName) → IsOrderly system order
    → IsIn order port → Before order port other
comes_before system port other (needs port' other' direct) order orderly stands =
    let placed = place_of system [] order port orderly stands in
    record {
      front = placed.front;
      behind = placed.behind;
      cut = placed.cut;
      apart = placed.apart;
      holds = each_in (IsIn placed.front) (needed_by system port) other placed.after_needs direct;
    }
comes_before system port other (through port' between other' direct later) order orderly stands =
    let placed = place_of system [] order port orderly stands in
    let needed : IsIn placed.front between = each_in (IsIn placed.front) (needed_by system port) between placed.after_needs direct in
    let inner =
    comes_before system between other later placed.front
    (front_is_orderly system [] placed.front placed.behind (subst (IsOrderly system) placed.cut orderly)) needed in
    record {
      front = placed.front;
      behind = placed.behind;
      cut = placed.cut;
      apart = placed.apart;
      holds = subst (λ front. IsIn front other) (sym inner.cut) (in_front inner.front inner.behind other inner.holds);
    }

-- A port that depends on one which is in no orderly list is in none.
pub behind_cycle : (system : System) (port other : PortName) → DependsOn system port other → HasNoOrder system other → HasNoOrder system port
behind_cycle system port other depends on_it order orderly stands =
    let before = comes_before system port other depends order orderly stands in
    on_it before.front (front_is_orderly system [] before.front before.behind (subst (IsOrderly system) before.cut orderly)) before.holds

pub on_cycle : (system : System) (port : PortName) → DependsOn system port port → HasNoOrder system port
on_cycle system port itself order orderly stands =
    let before = comes_before system port port itself order orderly stands in
    before.apart before.holds

-- ports are among ports that end with them
behind : (front ports : List PortName) (port : PortName) → IsIn (front ++ (port ∷ ports)) port
behind [] ports port = inl refl
behind (first ∷ front) ports port = inr (behind front ports port)

pub all_in : (front ports : List PortName) → AllByRecursion (IsIn (front ++ ports)) ports
all_in front [] = tt
all_in front (port ∷ ports) = (
  behind front ports port,
  subst (λ whole. AllByRecursion (IsIn whole) ports) (append_assoc front (port ∷ []) ports) (all_in (front ++ (port ∷ [])) ports),
)
