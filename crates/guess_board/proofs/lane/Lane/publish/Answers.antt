use Rattle.std.proofs.Common.{◌≡◌, ◌∙◌, ap, sym, subst, arith, length, take, drop, [], Some, not, ◌≤◌}
use Rattle.std.specs.Option.{option_eq, option_map}
use Rattle.guess_board.specs.Cells.{FitsLine, RisesFrom}
use Rattle.guess_board.specs.Chains.{Begins, chain_of, code_of, is_same_need, need_of}
use Rattle.guess_board.specs.Events.{answers_kept, is_cut, moved_to, published}
use Rattle.guess_board.specs.Journals.{replay_of, with_publish}
use Rattle.guess_board.specs.Keeping.{answers_held, lane_state}
use Rattle.guess_board.specs.Lanes.{LaneState, lane_need}
use Rattle.guess_board.specs.Matching.{matching, need_told, passed}
use Rattle.guess_board.specs.Slots.{entries_of, filled, fill_first, slots_in}
use Rattle.guess_board.proofs.LaneLaws.{Front, IsMoved, answers_published, moved}
use Rattle.guess_board.proofs.SlotLaws.{answers_rise, length-entries, rises_from_none}
use Rattle.guess_board.proofs.lane.Lane.publish.Goals as goal

pub empty_slots-requires : goal.empty_slots-requires
empty_slots-requires c = subst (RisesFrom 0) (sym c.deref.ensures.value) (rises_from_none c.args.row c.args.line.items c.requires.rises)

pub move_answers-requires-clause-few : goal.move_answers-requires-clause-few
move_answers-requires-clause-few c =
    let r = c.self.inside in
    let is = c.self.invariant in
    let long = ap length is.slots.are ∙ length-entries r.line.items (filled (slots_in r.slots.entries)) in
    omega (arith, is.line.few)

pub move_answers-requires-clause-into : goal.move_answers-requires-clause-into
move_answers-requires-clause-into c =
    let long = ap length c.in_ok-slots.ensures ∙ ap (λ line. length (entries_of line [])) c.deref.ensures.value ∙ length-entries c.args.line.items [] in
    let within = c.matching-kept.ensures.within_line in
    let line = ap length c.deref-3.ensures.value in
    omega arith

pub invariant_of-self-2 : goal.invariant_of-self-2
invariant_of-self-2 c =
    let r = c.self.inside in
    let is = c.self.invariant in
    let line = c.args.line.items in
    let state = c.args.state.now in
    let code = code_of r.image.value in
    let first = c.passed-first.result in
    let kept = c.matching-kept.result in
    let slots = c.as_slice-answers.result.now in
    let slots_are : slots ≡ slots_in r.slots.entries = c.as_slice-answers.ensures ∙ c.values.ensures.rest in
    let first_is : first ≡ passed c.deref-2.result.now (filled slots) = c.passed-first.ensures.count in
    let kept_is : kept ≡ length (matching code (Some state) c.deref-3.result.now (filled c.split_at.result.1.now)) = c.matching-kept.ensures.count in
    let few : kept ≤ length c.deref-3.result.now = c.matching-kept.ensures.within_line in
    let front : Front code state line r.slots.entries slots first kept = record {
      old_line = r.line.items;
      old_slots = is.slots;
      rows = (r.row, answers_rise code r.state.items r.row r.line.items (answers_held r) is.line.rises is.chained);
      proven = is.proven;
      slots_are = slots_are;
      first_is = first_is ∙ ap (λ l. passed l (filled slots)) c.deref-2.ensures.value;
      kept_is = kept_is ∙ (λ i. length (matching code (Some state) (c.deref-3.ensures.value i) (filled (c.split_at.ensures.back i))));
      few = subst (λ l. kept ≤ length l) c.deref-3.ensures.value few;
    } in
    let fresh : c.in_ok-slots.slots.entries ≡ entries_of line [] = c.in_ok-slots.ensures ∙ ap (λ l. entries_of l []) c.deref.ensures.value in
    let new : c.move_answers.new.into.entries ≡ fill_first c.in_ok-slots.slots.entries (take kept (drop first (slots_in r.slots.entries))) =
    c.move_answers.ensures in
    let m : IsMoved code state line r.slots.entries slots first kept c.move_answers.new.into.entries =
    moved code state line r.slots.entries slots first kept front c.in_ok-slots.slots.entries c.move_answers.new.into.entries fresh new in
    let put : c.copy_from_slice.new.self.items ≡ state = c.copy_from_slice.ensures.items in
    let noted : c.publish.new.self ≡ with_publish r.journal kept (not c.is_same_need-cut.result) = c.in_ok-publish.ensures.noted in
    let fits : FitsLine r.image.value c.args.row state line =
    subst (λ (l : LaneState). FitsLine l.image c.args.row state line) (sym c.self.view_is) c.requires in
    record {
      slots = m.slots_of;
      line = subst (λ s. FitsLine r.image.value c.args.row s line) (sym put) fits;
      chained = subst (λ s. Begins (filled (slots_in c.move_answers.new.into.entries)) (chain_of code s line)) (sym put) m.chained;
      proven = m.proven;
      answers_are = ap (λ j. (replay_of j.records).answers) noted ∙ answers_published r.journal.records kept (not c.is_same_need-cut.result) ∙ sym m.many;
    }

pub returns-clause-published : goal.returns-clause-published
returns-clause-published c =
    let r = c.self.inside in
    let is = c.self.invariant in
    let line = c.args.line.items in
    let state = c.args.state.now in
    let code = code_of r.image.value in
    let first = c.passed-first.result in
    let kept = c.matching-kept.result in
    let slots = c.as_slice-answers.result.now in
    let slots_are : slots ≡ slots_in r.slots.entries = c.as_slice-answers.ensures ∙ c.values.ensures.rest in
    let first_is : first ≡ passed c.deref-2.result.now (filled slots) = c.passed-first.ensures.count in
    let kept_is : kept ≡ length (matching code (Some state) c.deref-3.result.now (filled c.split_at.result.1.now)) = c.matching-kept.ensures.count in
    let few : kept ≤ length c.deref-3.result.now = c.matching-kept.ensures.within_line in
    let front : Front code state line r.slots.entries slots first kept = record {
      old_line = r.line.items;
      old_slots = is.slots;
      rows = (r.row, answers_rise code r.state.items r.row r.line.items (answers_held r) is.line.rises is.chained);
      proven = is.proven;
      slots_are = slots_are;
      first_is = first_is ∙ ap (λ l. passed l (filled slots)) c.deref-2.ensures.value;
      kept_is = kept_is ∙ (λ i. length (matching code (Some state) (c.deref-3.ensures.value i) (filled (c.split_at.ensures.back i))));
      few = subst (λ l. kept ≤ length l) c.deref-3.ensures.value few;
    } in
    let fresh : c.in_ok-slots.slots.entries ≡ entries_of line [] = c.in_ok-slots.ensures ∙ ap (λ l. entries_of l []) c.deref.ensures.value in
    let new : c.move_answers.new.into.entries ≡ fill_first c.in_ok-slots.slots.entries (take kept (drop first (slots_in r.slots.entries))) =
    c.move_answers.ensures in
    let m : IsMoved code state line r.slots.entries slots first kept c.move_answers.new.into.entries =
    moved code state line r.slots.entries slots first kept front c.in_ok-slots.slots.entries c.move_answers.new.into.entries fresh new in
    let put : c.copy_from_slice.new.self.items ≡ state = c.copy_from_slice.ensures.items in
    let noted : c.publish.new.self ≡ with_publish r.journal kept (not c.is_same_need-cut.result) = c.in_ok-publish.ensures.noted in
    let old : LaneState = lane_state r in
    let same : c.is_same_need-cut.result
    ≡ option_eq is_same_need (option_map (need_told code) c.need-needed.result) (option_map (need_told code) c.need.result) = c.is_same_need-cut.ensures code in
    let needed : option_map (need_told code) c.need-needed.result ≡ need_of code c.deref-4.result.now c.deref-5.result.now (filled slots) =
    c.need-needed.ensures.need code in
    let next : option_map (need_told code) c.need.result ≡ need_of code state c.deref-6.result.now (filled c.split_at-2.result.0.now) =
    c.need.ensures.need code in
    let was : option_map (need_told code) c.need-needed.result ≡ lane_need old =
    needed ∙ (λ i. need_of code (c.deref-4.ensures.value i) (c.deref-5.ensures.value i) (filled (slots_are i))) in
    let staying : filled c.split_at-2.result.0.now ≡ answers_kept old state line =
    ap filled (c.split_at-2.ensures.front ∙ ap (take kept) c.split_at.ensures.back) ∙ m.stay in
    let will : option_map (need_told code) c.need.result ≡ lane_need (moved_to old c.args.row state line) =
    next ∙ (λ i. need_of code state (c.deref-6.ensures.value i) (staying i)) in
    let cut : not c.is_same_need-cut.result ≡ is_cut old (moved_to old c.args.row state line) =
    ap not (same ∙ (λ i. option_eq is_same_need (was i) (will i))) in
    let many : kept ≡ length (answers_kept old state line) = sym m.many ∙ ap length m.held in
    let journal : c.publish.new.self
    ≡ with_publish r.journal (length (answers_kept old state line)) (is_cut old (moved_to old c.args.row state line)) =
    noted ∙ (λ i. with_publish r.journal (many i) (cut i)) in
    let done : record old {
      row = c.args.row;
      state = c.copy_from_slice.new.self.items;
      line = line;
      answers = filled (slots_in c.move_answers.new.into.entries);
      journal = c.publish.new.self;
    }
    ≡ published old c.args.row state line =
    λ i. record old { row = c.args.row; state = put i; line = line; answers = m.held i; journal = journal i } in
    done ∙ ap (λ (l : LaneState). published l c.args.row state line) c.self.view_is

pub returns-clause-kept : goal.returns-clause-kept
returns-clause-kept c =
    let r = c.self.inside in
    let is = c.self.invariant in
    let line = c.args.line.items in
    let state = c.args.state.now in
    let code = code_of r.image.value in
    let first = c.passed-first.result in
    let kept = c.matching-kept.result in
    let slots = c.as_slice-answers.result.now in
    let slots_are : slots ≡ slots_in r.slots.entries = c.as_slice-answers.ensures ∙ c.values.ensures.rest in
    let first_is : first ≡ passed c.deref-2.result.now (filled slots) = c.passed-first.ensures.count in
    let kept_is : kept ≡ length (matching code (Some state) c.deref-3.result.now (filled c.split_at.result.1.now)) = c.matching-kept.ensures.count in
    let few : kept ≤ length c.deref-3.result.now = c.matching-kept.ensures.within_line in
    let front : Front code state line r.slots.entries slots first kept = record {
      old_line = r.line.items;
      old_slots = is.slots;
      rows = (r.row, answers_rise code r.state.items r.row r.line.items (answers_held r) is.line.rises is.chained);
      proven = is.proven;
      slots_are = slots_are;
      first_is = first_is ∙ ap (λ l. passed l (filled slots)) c.deref-2.ensures.value;
      kept_is = kept_is ∙ (λ i. length (matching code (Some state) (c.deref-3.ensures.value i) (filled (c.split_at.ensures.back i))));
      few = subst (λ l. kept ≤ length l) c.deref-3.ensures.value few;
    } in
    let fresh : c.in_ok-slots.slots.entries ≡ entries_of line [] = c.in_ok-slots.ensures ∙ ap (λ l. entries_of l []) c.deref.ensures.value in
    let new : c.move_answers.new.into.entries ≡ fill_first c.in_ok-slots.slots.entries (take kept (drop first (slots_in r.slots.entries))) =
    c.move_answers.ensures in
    let m : IsMoved code state line r.slots.entries slots first kept c.move_answers.new.into.entries =
    moved code state line r.slots.entries slots first kept front c.in_ok-slots.slots.entries c.move_answers.new.into.entries fresh new in
    sym m.many
