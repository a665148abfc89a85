use Rattle.std.proofs.Common.{◌∙◌, ap, sym, arith, ◌∷◌, []}
use Rattle.guess_board.specs.Chains.{code_of, with_next}
use Rattle.guess_board.specs.Slots.{filled, slots_in}
use Rattle.guess_board.proofs.ChainLaws.{posted_more}
use Rattle.guess_board.proofs.SlotLaws.{filled_short}
use Rattle.list_laws.proofs.Lists.{each_append}
use Rattle.unit_answers.specs.Answers.{IsProven}
use Rattle.guess_board.proofs.slots.put_all.Goals as goal

pub overflow_add-count : goal.overflow_add-count
overflow_add-count c =
    let so_far = c.loop-one.invariant.count in
    let more = c.put-count.ensures.count in
    let short = filled_short c.args.line.now c.put-count.new.slots.entries c.put-count.ensures.slots in
    omega (arith, c.requires.few)

pub loop-one-preserved : goal.loop-one-preserved
loop-one-preserved c =
    let before = filled (slots_in c.args.slots.now.entries) in
    let code = code_of c.args.image.now.value in
    let so_far = c.loop-one.invariant.count in
    let more = c.put-count.ensures.count in
    record {
      can = tt;
      finite = tt;
      slots = c.put-count.ensures.slots;
      answers = c.put-count.ensures.answers
          ∙ ap (λ ones. with_next code c.args.state.now c.args.line.now ones c.in-Some.one) c.loop-one.invariant.answers
          ∙ sym (posted_more code c.args.state.now c.args.line.now before c.loop-one.yielded c.in-Some.one);
      count = omega arith;
      proven = each_append IsProven c.loop-one.yielded (c.in-Some.one ∷ []) c.loop-one.invariant.proven (c.put-count.ensures.proven, tt);
    }
