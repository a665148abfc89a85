-- Places that are in order by the routes of a composition are in order by what its outputs depend
-- on.
use Rattle.std.proofs.Common.{ℕ, ◌+◌, List, [], ◌∷◌, ◌++◌, subst, arith}
use Rattle.std.specs.List.{AllByRecursion}
use Rattle.unit_tree.specs.Compositions.{Composition}
use Rattle.unit_tree.specs.Ports.{IsAmong, IsOrderedAfter}
use Rattle.unit_tree.specs.Routes.{IsRoutedAfter, routes_of}
use Rattle.unit_tree.proofs.RouteLaws.{count_is, needs_is}

pub ordered_along : (run : Composition) (before order : List ℕ) → IsRoutedAfter (routes_of run) before order → IsOrderedAfter run before order
ordered_along run before [] routed = tt
ordered_along run before (place ∷ later) routed = (
  omega (arith, routed.0, count_is run),
  routed.1,
  subst (AllByRecursion (IsAmong before)) (needs_is run place) routed.2,
  ordered_along run (before ++ (place ∷ [])) later routed.3,
)
