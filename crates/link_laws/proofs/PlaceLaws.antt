-- The invariant of a place of the trace, and that of inputs when nothing is known.
use Rattle.std.proofs.Common.{◌≡◌, ℕ, zero, suc, ◌≤◌, ℤ, List, [], ◌∷◌, length, map, Option, None, refl, sym, ap, subst, arith}
use Rattle.std.specs.Prelude.{slice_get, IfSome}
use Rattle.std.specs.Option.{option_and_then}
use Rattle.link_laws.specs.Keeping.{IsPlace}
use Rattle.link_laws.specs.Making.{ports_in}
use Rattle.link_laws.specs.Boards.{are_nothing}
use Rattle.link_laws.specs.declared.fact.Seen.{Seen}
use Rattle.link_laws.proofs.RuleLaws.{reach_words}
use Rattle.list_laws.proofs.Lists.{each_so}
use Rattle.port_solve.specs.Solved.{HasItsWord, HaveTheirWords, word_in}
use Rattle.unit_tree.specs.Compositions.{AreMembers, AtPlace, Composition, InputSource, Start}
use Rattle.unit_tree.specs.Ports.{IsPlaceOrder, Ports}
use Rattle.unit_tree.specs.Routes.{inputs_of}
use Rattle.unit_tree.specs.Trace.{HasWords, IsInBounds, IsInRows, Reaches, Stand}
use Rattle.unit_tree.specs.declared.order.InputAt.{InputAt}
use Rattle.run_laws.proofs.PositionLaws.{positions_keep}
use Rattle.run_laws.proofs.RunSteps.{step_is_right}

module _ (run : Composition) (order : List ℕ) (are : AreMembers run) (is_order : IsPlaceOrder run order) where
  record Within (stand : Stand) : Type 0 where
    bounds : IsInBounds run stand.at
    rows : IsInRows run stand.at

  reach_within : (count : ℕ) (last from to : Stand) → HasWords run from.at → Within from → Reaches run count last from to → Within to
  reach_within zero last from to words within reached = subst Within reached.0 within
  reach_within (suc count) last from to words within (earlier, before, on) =
      let so = reach_within count earlier from last words within before in
      let step = step_is_right run last to are on in
      record { bounds = step.bounds (reach_words run order are is_order count earlier from last words before) so.bounds; rows = step.rows so.rows }

  -- A place is within the stop and both budgets.
  pub place_within : (stand : Stand) → 1 ≤ run.row_budget → IsPlace run stand → IsInBounds run stand.at × IsInRows run stand.at
  place_within stand some place =
      let first : Within place.from = record {
        bounds = subst (IsInBounds run) (sym place.opening) (record { stop = omega arith; zeros = omega arith });
        rows = subst (IsInRows run) (sym place.opening) (omega (arith, some));
      } in
      let so = reach_within stand.at.number place.last place.from stand
      (subst (HasWords run) (sym place.opening) (positions_keep run are).first) first place.reached in
      (so.bounds, so.rows)

-- ---- Inputs where nothing is known

nothing_at : (words : List (Option Seen)) (place : ℕ) → option_and_then (λ word. word) (slice_get (ports_in (are_nothing words)) place) ≡ None
nothing_at [] place = refl
nothing_at (one ∷ words) zero = refl
nothing_at (one ∷ words) (suc place) = nothing_at words place

pub nothing_fed : (run : Composition) (ports : Ports) (words : List (Option Seen)) (inputs : List (List ℤ)) → HaveTheirWords run ports inputs
    → HaveTheirWords run (ports_in (are_nothing words)) inputs
nothing_fed run ports words inputs have = each_so (HasItsWord ports inputs) (HasItsWord (ports_in (are_nothing words)) inputs) its (inputs_of run) have
  where
    its : (pair : InputAt × InputSource) → HasItsWord ports inputs pair → HasItsWord (ports_in (are_nothing words)) inputs pair
    its (at, Start word) has = has
    its (at, AtPlace place) has = subst (λ found. IfSome found (λ word. word_in inputs at ≡ word)) (sym (nothing_at words place)) tt

pub nothing_same : {A B C : Type 0} (xs : List A) (ys : List B) → length xs ≡ length ys
    → ◌≡◌ {A = List (Option C)} (map (λ one. None) xs) (map (λ one. None) ys)
nothing_same [] [] same = refl
nothing_same [] (y ∷ ys) same = absurd (omega (arith, same))
nothing_same (x ∷ xs) [] same = absurd (omega (arith, same))
nothing_same (x ∷ xs) (y ∷ ys) same = ap (λ rest. None ∷ rest) (nothing_same xs ys (omega (arith, same)))
