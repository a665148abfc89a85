use Rattle.std.proofs.Common.{◌≡◌, ◌+◌, ◌∙◌, ap, sym, subst, arith, length}
use Rattle.std.specs.List.{AllByRecursion}
use Rattle.guess_board.specs.Chains.{Begins, chain_of, code_of, with_posted}
use Rattle.guess_board.specs.Journals.{replay_of}
use Rattle.guess_board.specs.Slots.{AreSlotsOf, filled, slots_in}
use Rattle.guess_board.proofs.ChainLaws.{posted_begins_chain, posted_proven}
use Rattle.guess_board.proofs.LaneLaws.{answers_posted}
use Rattle.guess_board.proofs.SlotLaws.{filled_short}
use Rattle.unit_answers.specs.Answers.{IsProven}
use Rattle.guess_board.proofs.lane.Lane.post.Goals as goal

pub post-requires-clause-few : goal.post-requires-clause-few
post-requires-clause-few c =
    let is = c.self.invariant in
    let put = c.put_all-appended in
    let short = filled_short c.deref-2.result.now put.new.slots.entries put.ensures.slots in
    let line = ap length c.deref-2.ensures.value in
    omega (arith, put.ensures.count, is.line.few)

pub invariant_of-self : goal.invariant_of-self
invariant_of-self c =
    let r = c.self.inside in
    let is = c.self.invariant in
    let put = c.put_all-appended in
    let code = code_of r.image.value in
    let before = filled (slots_in r.slots.entries) in
    let ones = c.args.answers.items in
    let answers : filled (slots_in put.new.slots.entries) ≡ with_posted code r.state.items r.line.items before ones =
    put.ensures.answers ∙ (λ i. with_posted code (c.deref.ensures.value i) (c.deref-2.ensures.value i) before ones) in
    record {
      slots = subst (λ line. AreSlotsOf line put.new.slots.entries) c.deref-2.ensures.value put.ensures.slots;
      line = is.line;
      chained = subst (λ held. Begins held (chain_of code r.state.items r.line.items)) (sym answers)
          (posted_begins_chain code r.state.items r.line.items before ones put.ensures.proven is.chained);
      proven = subst (AllByRecursion IsProven) (sym answers)
          (posted_proven code r.state.items r.line.items before ones is.proven put.ensures.proven);
      answers_are = ap (λ j. (replay_of j.records).answers) c.post.ensures ∙ answers_posted r.journal.records c.number.result put.result
          ∙ ap (λ n. n + put.result) is.answers_are ∙ (let count = put.ensures.count in omega arith);
    }
