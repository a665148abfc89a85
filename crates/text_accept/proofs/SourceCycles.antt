-- The first output without an order of the plain form comes from the first one of the system itself.
use Rattle.std.proofs.Common.{◌≡◌, ℕ, ◌+◌, Bool, true, false, cond, List, [], ◌∷◌, ◌++◌, ◌⊎◌, inl, inr, refl, ap, sym, subst, ◌∙◌}
use Rattle.std.specs.Prelude.{◌==◌}
use Rattle.std.specs.List.{AllByRecursion}
use Rattle.unit_tree.specs.Compositions.{run_of}
use Rattle.unit_tree.specs.Orders.{IsIn, HasNoCycle, HasNoOrder, IsFirstWithoutOrder, outputs_of}
use Rattle.unit_tree.specs.Plain.{plain_form, presence_name, presence_port, is_event_output}
use Rattle.unit_tree.specs.Ports.{IsPlaceOrder}
use Rattle.unit_tree.specs.Printable.{IsRanged}
use Rattle.unit_tree.specs.WellFormed.{IsWellFormed}
use Rattle.unit_tree.specs.declared.system.PortName.{PortName}
use Rattle.unit_tree.specs.declared.system.System.{System}
use Rattle.run_laws.proofs.EventLaws.{plain_form_1}
use Rattle.run_laws.proofs.PlainCycles.{is_output, outputs_among, orderly, kept_in, told_in}
use Rattle.language_laws.proofs.OrderLaws.{in_front}
use Rattle.run_laws.proofs.PlainOrders.{plain_of, split_by, split}
use Rattle.run_laws.proofs.PlainOrders.{splits, in_splits, ordered, plain_name}
use Rattle.run_laws.proofs.SplitOutputs.{outputs_split}
use Rattle.run_laws.proofs.RunOrders.{orders_have_runs}
use Rattle.list_laws.proofs.Members.{Has}
use Rattle.list_laws.proofs.Truths.{one_or_two}
use Rattle.list_laws.proofs.Lists.{same_first, same_rest}

module _ (system : System) (ranged : IsRanged system) (kept : IsWellFormed system) where
  -- ---- Where an output of the plain form comes from

  record Origin (outputs before : List PortName) (made : PortName) : Type 0 where
    front : List PortName
    later : List PortName
    port : PortName
    cut : outputs ≡ front ++ (port ∷ later)
    from : Has (split system ranged kept port) made
    earlier : AllByRecursion (IsIn before) front

  further : (first : PortName) (front before : List PortName) → AllByRecursion (IsIn before) front → AllByRecursion (IsIn (first ∷ before)) front
  further first [] before all = tt
  further first (port ∷ front) before all = (inr all.0, further first front before all.1)

  here : (port made : PortName) (outputs before : List PortName) → Has (split system ranged kept port) made → Origin (port ∷ outputs) before made
  here port made outputs before from = record { front = []; later = outputs; port = port; cut = refl; from = from; earlier = tt }

  beyond : (port made : PortName) (outputs before all : List PortName) → IsIn all port → ((q : PortName) → IsIn before q → IsIn all q)
      → Origin outputs before made → Origin (port ∷ outputs) all made
  beyond port made outputs before all stands wider origin = record {
    front = port ∷ origin.front;
    later = origin.later;
    port = origin.port;
    cut = ap (λ rest. port ∷ rest) origin.cut;
    from = origin.from;
    earlier = (stands, each origin.front origin.earlier);
  }
    where
      each : (front : List PortName) → AllByRecursion (IsIn before) front → AllByRecursion (IsIn all) front
      each [] some = tt
      each (q ∷ front) some = (wider q some.0, each front some.1)

  origin_by : (told : Bool) (port : PortName) (outputs later : List PortName) (made : PortName) → is_event_output system port ≡ told
      → ((before : List PortName) → splits system ranged kept outputs ≡ before ++ (made ∷ later) → Origin outputs before made) → (before : List PortName)
      → split_by system ranged kept told port ++ splits system ranged kept outputs ≡ before ++ (made ∷ later) → Origin (port ∷ outputs) before made
  origin_by false port outputs later made event on [] is =
      here port made outputs []
      (subst (λ told. Has (split_by system ranged kept told port) made) (sym event) (inl (same_first port made (splits system ranged kept outputs) later is)))
  origin_by false port outputs later made event on (first ∷ before) is =
      beyond port made outputs before (first ∷ before) (inl (sym (same_first port first (splits system ranged kept outputs) (before ++ (made ∷ later)) is)))
      (λ q stands. inr stands)
      (on before (same_rest port first (splits system ranged kept outputs) (before ++ (made ∷ later)) is))
  origin_by true port outputs later made event on [] is =
      here port made outputs []
      (subst (λ told. Has (split_by system ranged kept told port) made) (sym event)
      (inl (same_first (presence_port port) made (port ∷ splits system ranged kept outputs) later is)))
  origin_by true port outputs later made event on (first ∷ []) is =
      let rest = same_rest (presence_port port) first (port ∷ splits system ranged kept outputs) (made ∷ later) is in
      here port made outputs (first ∷ [])
      (subst (λ told. Has (split_by system ranged kept told port) made) (sym event)
      (inr (inl (same_first port made (splits system ranged kept outputs) later rest))))
  origin_by true port outputs later made event on (first ∷ second ∷ before) is =
      let rest = same_rest (presence_port port) first (port ∷ splits system ranged kept outputs) (second ∷ (before ++ (made ∷ later))) is in
      beyond port made outputs before (first ∷ second ∷ before)
      (inr (inl (sym (same_first port second (splits system ranged kept outputs) (before ++ (made ∷ later)) rest)))) (λ q stands. inr (inr stands))
      (on before (same_rest port second (splits system ranged kept outputs) (before ++ (made ∷ later)) rest))

  origin : (outputs before later : List PortName) (made : PortName) → splits system ranged kept outputs ≡ before ++ (made ∷ later) → Origin outputs before made
  origin [] [] later made is = absurd (cc)
  origin [] (first ∷ before) later made is = absurd (cc)
  origin (port ∷ outputs) before later made is =
      origin_by (is_event_output system port) port outputs later made refl (λ front cut. origin outputs front later made cut) before is

  -- ---- Outputs that have an order

  none_of_made : (port made : PortName) → Has (split system ranged kept port) made → HasNoOrder (plain_of system) made → HasNoOrder system port
  none_of_made port made from none order is_orderly stands =
      none (splits system ranged kept order) (ordered system ranged kept [] order tt is_orderly) (in_splits system ranged kept order port made stands from)

  some_of_made : (port : PortName) → IsIn (outputs_of system) port → (HasNoOrder (plain_of system) port → ⊥) → HasNoOrder system port → ⊥
  some_of_made port output some none =
      some
      (λ order is_orderly stands. none (outputs_among system ranged kept order) (orderly system ranged kept [] order is_orderly)
      (kept_in (is_output system ranged kept) order port (told_in (outputs_of system) port output) stands))

  first_of_plain : (made : PortName) → IsFirstWithoutOrder (plain_of system) made
      → (port : PortName) × Has (split system ranged kept port) made × IsFirstWithoutOrder system port
  first_of_plain made first =
      let o = origin (outputs_of system) first.before first.later made (sym (outputs_split system ranged kept) ∙ first.cut) in (
        o.port,
        o.from,
        record {
          before = o.front;
          later = o.later;
          cut = o.cut;
          has_no_order = none_of_made o.port made o.from first.has_no_order;
          is_first = firsts o.front (λ port stands. subst (λ ports. IsIn ports port) (sym o.cut) (in_front o.front (o.port ∷ o.later) port stands)) o.earlier;
        },
      )
    where
      each_of : (ports : List PortName) (port : PortName) → AllByRecursion (λ q. HasNoOrder (plain_of system) q → ⊥) ports → IsIn ports port
          → HasNoOrder (plain_of system) port → ⊥
      each_of [] port all stands = absurd stands
      each_of (q ∷ ports) port all (inl is) = subst (λ p. HasNoOrder (plain_of system) p → ⊥) is all.0
      each_of (q ∷ ports) port all (inr stands) = each_of ports port all.1 stands

      firsts : (front : List PortName) → ((port : PortName) → IsIn front port → IsIn (outputs_of system) port) → AllByRecursion (IsIn first.before) front
          → AllByRecursion (λ q. HasNoOrder system q → ⊥) front
      firsts [] inside all = tt
      firsts (port ∷ front) inside all =
          (some_of_made port (inside port (inl refl)) (each_of first.before port first.is_first all.0), firsts front (λ q stands. inside q (inr stands)) all.1)

-- ---- Both versions

-- The port that an output of the plain form comes from: in version 1 itself.
abbrev pub IsMadeOf : System → PortName → PortName → Type 0
IsMadeOf system made port = (made ≡ port) ⊎ (made ≡ presence_port port)

split_makes : (told : Bool) (system : System) (port made : PortName) → Has (cond told (presence_port port ∷ port ∷ []) (port ∷ [])) made
    → IsMadeOf system made port
split_makes false system port made (inl is) = inl (sym is)
split_makes false system port made (inr none) = absurd none
split_makes true system port made (inl is) = inr (sym is)
split_makes true system port made (inr (inl is)) = inl (sym is)
split_makes true system port made (inr (inr none)) = absurd none

pub record SourceOutput (system : System) (made : PortName) : Type 0 where
  pub port : PortName
  pub first : IsFirstWithoutOrder system port
  pub stands : IsIn (outputs_of system) port
  pub makes : IsMadeOf system made port

pub first_stands : (system : System) (port : PortName) → IsFirstWithoutOrder system port → IsIn (outputs_of system) port
first_stands system port first = subst (λ outputs. IsIn outputs port) (sym first.cut) (behind first.before)
  where
    behind : (before : List PortName) → IsIn (before ++ (port ∷ first.later)) port
    behind [] = inl refl
    behind (other ∷ before) = inr (behind before)

pub source_of : (system : System) (made : PortName) → IsRanged system → IsWellFormed system → IsFirstWithoutOrder (plain_form system) made
    → SourceOutput system made
source_of system made ranged kept first = by_version (one_or_two system.version ranged.version.0 ranged.version.1)
  where
    by_version : (system.version ≡ 1) ⊎ (system.version ≡ 2) → SourceOutput system made
    by_version (inl is) =
        let same = subst (λ s. IsFirstWithoutOrder s made) (plain_form_1 system is) first in
        record { port = made; first = same; stands = first_stands system made same; makes = inl refl }
    by_version (inr is) =
        let found =
        first_of_plain system ranged kept made (subst (λ version. IsFirstWithoutOrder (cond (version == 2) (plain_of system) system) made) is first) in
        record {
          port = found.0;
          first = found.2;
          stands = first_stands system found.0 found.2;
          makes =
              split_makes (is_event_output system found.0) system found.0 made found.1;
        }

-- An order of the composition shows that the system has no cycle.
pub without_cycle : (system : System) → IsRanged system → IsWellFormed system → (order : List ℕ) → IsPlaceOrder (run_of system) order → HasNoCycle system
without_cycle system ranged kept order is_order = orders_have_runs system ranged kept (order, is_order)

-- Names of outputs are not names of `?` ports.
pub name_is_plain : (system : System) → IsRanged system → IsWellFormed system → (port : PortName) → IsIn (outputs_of system) port → (event : List ℕ)
    → port.port ≡ presence_name event → ⊥
name_is_plain system ranged kept port stands = plain_name system ranged kept port stands
