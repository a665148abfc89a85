use Rattle.std.proofs.Common.{◌≡◌, ◌<◌, ◌+◌, ◌∙◌, length, set, refl, ap, sym, subst, arith, Result}
use Rattle.std.specs.Prelude.{IfOk, slice_index_or, []}
use Rattle.std.specs.Vec.{with_item}
use Rattle.fixed_words.specs.declared.types.Fault.{Fault}
use Rattle.port_solve.specs.Solved.{HaveStates}
use Rattle.list_laws.proofs.Members.{read_at}
use Rattle.trace_core.specs.Accepting.{accepted_of, IsAnswerTo}
use Rattle.trace_core.specs.Runs.{RunState, IsWanted, with_found}
use Rattle.trace_core.proofs.AcceptLaws.{as_long, answer_steps, answer_made}
use Rattle.trace_core.proofs.FillLaws.{wanted_seat, is_going, is_found, stepped_run}
use Rattle.trace_core.proofs.KeepLaws.{going_solved}
use Rattle.trace_core.proofs.SettleLaws.{long, counts_fit}
use Rattle.trace_plan.specs.Plans.{Planned}
use Rattle.unit_answers.specs.Answers.{step_told}
use Rattle.unit_tree.specs.Components.{Moved}
use Rattle.trace_core.proofs.run.Run.fill.Goals as goal

pub index_mut-seat-requires : goal.index_mut-seat-requires
index_mut-seat-requires c =
    let r = c.self.inside in
    let wanted = subst (λ (s : RunState). IsWanted s c.args.instance) (sym c.self.view_is) c.requires.wanted in
    subst (λ count. c.args.instance < count) (sym r.seats.ok.0) (wanted_seat r c.args.instance wanted)

pub take_step-seat-requires-clause-there : goal.take_step-seat-requires-clause-there
take_step-seat-requires-clause-there c =
    let r = c.self.inside in
    let wanted = subst (λ (s : RunState). IsWanted s c.args.instance) (sym c.self.view_is) c.requires.wanted in
    subst (λ (plan : Planned). c.args.instance < length plan.run.members) (sym c.self.invariant.tied)
    (subst (λ count. c.args.instance < count) c.self.invariant.room.seats (wanted_seat r c.args.instance wanted))

pub take_step-seat-requires-clause-as_long : goal.take_step-seat-requires-clause-as_long
take_step-seat-requires-clause-as_long c =
    let r = c.self.inside in
    let is = c.self.invariant in
    let seat = c.index_mut-seat.result.now in
    let wanted = subst (λ (s : RunState). IsWanted s c.args.instance) (sym c.self.view_is) c.requires.wanted in
    let to = subst (λ (s : RunState). IsAnswerTo s c.args.instance c.args.answer.now) (sym c.self.view_is) c.requires.answers in
    let there = read_at r.seats.items c.args.instance seat (wanted_seat r c.args.instance wanted) c.index_mut-seat.ensures.value in
    let have = subst (λ (plan : Planned). HaveStates plan.run r.units.states) is.tied c.count.ensures.states in
    let solved = going_solved r is (is_going r is seat c.args.instance (long r is have) there wanted) in
    subst (λ told. IfOk told (λ moved. length moved.state ≡ length (slice_index_or r.units.states c.args.instance []))) (sym c.answer.ensures.value)
    (as_long r is seat c.args.instance (long r is have) there wanted solved c.args.answer.now c.answer.ensures.proven to)

pub overflow_add-self : goal.overflow_add-self
overflow_add-self c =
    let r = c.self.inside in
    let is = c.self.invariant in
    let seat = c.index_mut-seat.result.now in
    let wanted = subst (λ (s : RunState). IsWanted s c.args.instance) (sym c.self.view_is) c.requires.wanted in
    let there = read_at r.seats.items c.args.instance seat (wanted_seat r c.args.instance wanted) c.index_mut-seat.ensures.value in
    let have = subst (λ (plan : Planned). HaveStates plan.run r.units.states) is.tied c.count.ensures.states in
    let small = counts_fit r is have (is_going r is seat c.args.instance (long r is have) there wanted) in
    omega (arith, small)

pub invariant_of-self : goal.invariant_of-self
invariant_of-self c =
    let r = c.self.inside in
    let is = c.self.invariant in
    let seat = c.index_mut-seat.result.now in
    let wanted = subst (λ (s : RunState). IsWanted s c.args.instance) (sym c.self.view_is) c.requires.wanted in
    let to = subst (λ (s : RunState). IsAnswerTo s c.args.instance c.args.answer.now) (sym c.self.view_is) c.requires.answers in
    let there = read_at r.seats.items c.args.instance seat (wanted_seat r c.args.instance wanted) c.index_mut-seat.ensures.value in
    let have = subst (λ (plan : Planned). HaveStates plan.run r.units.states) is.tied c.count.ensures.states in
    let solved = going_solved r is (is_going r is seat c.args.instance (long r is have) there wanted) in
    let told : Result Moved Fault = step_told c.answer.result.now in
    let units = c.take_step-seat.new.units in
    let steps =
    answer_steps r is seat c.args.instance (long r is have) there wanted solved c.args.answer.now c.answer.ensures.proven to told c.answer.ensures.value
    units c.take_step-seat.ensures.units in
    stepped_run r is seat c.args.instance (long r is have) there wanted (accepted_of told) units steps solved
    (with_item r.seats c.args.instance (record seat { slot = c.take_step-seat.result }))
    (ap (λ made. set r.seats.items c.args.instance (record seat { slot = made })) c.take_step-seat.ensures.slot) (r.found + 1) r.own (omega arith)

pub returns : goal.returns
returns c =
    let r = c.self.inside in
    let is = c.self.invariant in
    let seat = c.index_mut-seat.result.now in
    let wanted = subst (λ (s : RunState). IsWanted s c.args.instance) (sym c.self.view_is) c.requires.wanted in
    let to = subst (λ (s : RunState). IsAnswerTo s c.args.instance c.args.answer.now) (sym c.self.view_is) c.requires.answers in
    let there = read_at r.seats.items c.args.instance seat (wanted_seat r c.args.instance wanted) c.index_mut-seat.ensures.value in
    let have = subst (λ (plan : Planned). HaveStates plan.run r.units.states) is.tied c.count.ensures.states in
    let solved = going_solved r is (is_going r is seat c.args.instance (long r is have) there wanted) in
    let told : Result Moved Fault = step_told c.answer.result.now in
    let units = c.take_step-seat.new.units in
    let steps =
    answer_steps r is seat c.args.instance (long r is have) there wanted solved c.args.answer.now c.answer.ensures.proven to told c.answer.ensures.value
    units c.take_step-seat.ensures.units in
    is_found r is seat c.args.instance (long r is have) there wanted (accepted_of told) units steps solved
    (with_item r.seats c.args.instance (record seat { slot = c.take_step-seat.result }))
    (ap (λ made. set r.seats.items c.args.instance (record seat { slot = made })) c.take_step-seat.ensures.slot) (r.found + 1) r.own (omega arith)
    c.args.self.now c.self.view_is (omega arith) refl
    ∙ ap (with_found c.args.self.now c.args.instance)
    (answer_made r is seat c.args.instance (long r is have) there wanted solved c.args.answer.now c.answer.ensures.proven to told c.answer.ensures.value
    units c.take_step-seat.ensures.units)
