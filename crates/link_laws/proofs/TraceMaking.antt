-- The laws of making facts, at the stands of a trace.
use Rattle.link_laws.proofs.BlockLaws.{fact_owned, none_missing}
use Rattle.link_laws.proofs.ListedLaws.{made_lists}
use Rattle.link_laws.proofs.ProgressLaws.{all_made, own_long}
use Rattle.link_laws.proofs.RuleLaws.{place_at_most, place_long, place_stands, rule_is_right}
use Rattle.link_laws.specs.Boards.{Agrees, Board, IsOn, LacksNone, board_of}
use Rattle.link_laws.specs.Keeping.{IsPlace}
use Rattle.link_laws.specs.Making.{part_of, rule_of}
use Rattle.link_laws.specs.Progress.{CanBeMade, MakesAll, making_at}
use Rattle.std.proofs.Common.{arith, inl, inr, subst, sym, ◌∙◌, ◌≤◌}
use Rattle.std.specs.List.{AllByRecursion}
use Rattle.std.specs.Prelude.{List, length, ℕ, ◌≡◌}
use Rattle.unit_tree.specs.Compositions.{AreMembers, Composition}
use Rattle.unit_tree.specs.Ports.{IsPlaceOrder}
use Rattle.unit_tree.specs.Trace.{Stand}

module _ (run : Composition) (order owners : List ℕ) (is_order : IsPlaceOrder run order) (are : AreMembers run) (owns : length owners ≡ length run.members) where
  pub makes_all : (me : ℕ) (stand : Stand) (known : Board) → IsPlace run stand → Agrees (board_of run stand) known
      → MakesAll run (rule_of run owners) me stand known (making_at (rule_of run owners) me stand known)
  makes_all me stand known place so =
      let long = place_long run order are is_order stand place in
      let lists = made_lists run owners me (part_of owners me stand.at) owns (own_long me owners stand.at.states (omega (arith, owns, long)) ∙ long) known in
      record {
        all = all_made run owners me stand (place_stands run order are is_order stand place) long (place_at_most run order are is_order stand place) owns known so;
        lists = lists.0;
        new = lists.1;
      }

  pub no_blocking : AllByRecursion (λ owner. owner ≤ 1) owners → (stand : Stand) (one two : Board) → IsPlace run stand
      → Agrees (board_of run stand) one → Agrees (board_of run stand) two
      → (making_at (rule_of run owners) 0 stand one).known ≡ (making_at (rule_of run owners) 1 stand two).known
      → LacksNone (board_of run stand) (making_at (rule_of run owners) 0 stand one).known
  no_blocking two_owners stand one two place one_so two_so same =
      none_missing run order is_order are stand (making_at (rule_of run owners) 0 stand one).known place
      ((rule_is_right run order owners is_order are owns).makes 0 stand one place one_so).agrees
      (λ fact on can. elim (fact_owned run owners owns two_owners stand (place_long run order are is_order stand place) fact on) [
        | inl first ↦ (makes_all 0 stand one place one_so).all fact on first can
        | inr second ↦ subst (λ known. IsOn known fact) (sym same)
            ((makes_all 1 stand two place two_so).all fact on second (subst (λ known. CanBeMade run stand known fact) same can))
      ])
