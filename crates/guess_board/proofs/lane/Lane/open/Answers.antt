use Rattle.std.proofs.Common.{◌∙◌, ap, sym, subst, length, refl, arith}
use Rattle.std.specs.List.{AllByRecursion}
use Rattle.guess_board.specs.Cells.{FitsCell, RisesFrom}
use Rattle.guess_board.specs.Chains.{Begins, chain_of, code_of}
use Rattle.guess_board.specs.Journals.{JournalState, replay_of}
use Rattle.guess_board.specs.Slots.{entries_of, filled, slots_in}
use Rattle.unit_answers.specs.Answers.{IsProven}
use Rattle.unit_exec.specs.Images.{Compiled}
use Rattle.guess_board.proofs.lane.Lane.open.Goals as goal

pub invariant_of-result : goal.invariant_of-result
unfolding replay_of
invariant_of-result c =
    let image = c.args.image.value in
    let none = c.new.ensures.items in
    let empty = c.new-2.ensures.empty in
    record {
      slots = record { are = empty ∙ sym (λ i. entries_of (none i) (filled (slots_in (empty i)))) };
      line = record {
        each_state = ap length (c.in_ok-state.ensures.items ∙ c.start.ensures.value) ∙ c.start.ensures.each
            ∙ ap (λ (i : Compiled). i.program.sizes.states) c.deref.ensures;
        rises = subst (RisesFrom 0) (sym none) tt;
        few = rw none (omega arith);
        cells = subst (AllByRecursion (FitsCell image.program.sizes.inputs)) (sym none) tt;
      };
      chained = subst (λ es. Begins (filled (slots_in es)) (chain_of (code_of image) c.in_ok-state.state.items c.new.result.items)) (sym empty) refl;
      proven = subst (λ es. AllByRecursion IsProven (filled (slots_in es))) (sym empty) tt;
      answers_are = ap (λ (j : JournalState). (replay_of j.records).answers) c.new-3.ensures ∙ sym (ap (λ es. length (filled (slots_in es))) empty);
    }
