use Rattle.std.proofs.Common.{◌<◌, ◌+◌, length, set, refl, ap, sym, subst, arith}
use Rattle.std.specs.Vec.{with_item}
use Rattle.port_solve.specs.Solved.{HaveStates}
use Rattle.list_laws.proofs.Members.{read_at}
use Rattle.super_time.proofs.LimitLaws.{local_end}
use Rattle.trace_core.specs.Runs.{RunState, IsWanted, step_length}
use Rattle.trace_core.proofs.FillLaws.{wanted_seat, is_going, the_seat, is_computed, stepped_run}
use Rattle.trace_core.proofs.KeepLaws.{going_solved}
use Rattle.trace_core.proofs.SettleLaws.{long, step_in_time, counts_fit}
use Rattle.trace_plan.specs.Plans.{Planned}
use Rattle.trace_core.proofs.run.Run.compute.Goals as goal

pub index_mut-seat-requires : goal.index_mut-seat-requires
index_mut-seat-requires c =
    let r = c.self.inside in
    let wanted = subst (λ (s : RunState). IsWanted s c.args.instance) (sym c.self.view_is) c.requires.wanted in
    subst (λ count. c.args.instance < count) (sym r.seats.ok.0) (wanted_seat r c.args.instance wanted)

pub do_step-requires-clause-there : goal.do_step-requires-clause-there
do_step-requires-clause-there c =
    let r = c.self.inside in
    let wanted = subst (λ (s : RunState). IsWanted s c.args.instance) (sym c.self.view_is) c.requires.wanted in
    subst (λ (plan : Planned). c.args.instance < length plan.run.members) (sym c.self.invariant.tied)
    (subst (λ count. c.args.instance < count) c.self.invariant.room.seats (wanted_seat r c.args.instance wanted))

pub do_step-requires-clause-end : goal.do_step-requires-clause-end
do_step-requires-clause-end c =
    let r = c.self.inside in
    let is = c.self.invariant in
    let seat = c.index_mut-seat.result.now in
    let wanted = subst (λ (s : RunState). IsWanted s c.args.instance) (sym c.self.view_is) c.requires.wanted in
    let there = read_at r.seats.items c.args.instance seat (wanted_seat r c.args.instance wanted) c.index_mut-seat.ensures.value in
    let have = subst (λ (plan : Planned). HaveStates plan.run r.units.states) is.tied c.count.ensures.states in
    let found = the_seat r is seat c.args.instance (long r is have) there wanted in
    let in_time = step_in_time r is have (is_going r is seat c.args.instance (long r is have) there wanted) in
    let ends = local_end found.member.factor r.point.t (step_length r.phase) in
    omega (arith, in_time, ends, found.fits.clock.time, found.fits.clock.step)

pub overflow_add-self : goal.overflow_add-self
overflow_add-self c =
    let r = c.self.inside in
    let is = c.self.invariant in
    let seat = c.index_mut-seat.result.now in
    let wanted = subst (λ (s : RunState). IsWanted s c.args.instance) (sym c.self.view_is) c.requires.wanted in
    let there = read_at r.seats.items c.args.instance seat (wanted_seat r c.args.instance wanted) c.index_mut-seat.ensures.value in
    let have = subst (λ (plan : Planned). HaveStates plan.run r.units.states) is.tied c.count.ensures.states in
    let small = counts_fit r is have (is_going r is seat c.args.instance (long r is have) there wanted) in
    omega (arith, small)

pub invariant_of-self : goal.invariant_of-self
invariant_of-self c =
    let r = c.self.inside in
    let is = c.self.invariant in
    let seat = c.index_mut-seat.result.now in
    let wanted = subst (λ (s : RunState). IsWanted s c.args.instance) (sym c.self.view_is) c.requires.wanted in
    let there = read_at r.seats.items c.args.instance seat (wanted_seat r c.args.instance wanted) c.index_mut-seat.ensures.value in
    let have = subst (λ (plan : Planned). HaveStates plan.run r.units.states) is.tied c.count.ensures.states in
    let solved = going_solved r is (is_going r is seat c.args.instance (long r is have) there wanted) in
    stepped_run r is seat c.args.instance (long r is have) there wanted c.do_step.result c.do_step.new.self c.do_step.ensures solved
    (with_item r.seats c.args.instance (record seat { slot = c.slot_of-seat.result }))
    (ap (λ made. set r.seats.items c.args.instance (record seat { slot = made })) c.slot_of-seat.ensures) r.found (r.own + 1) (omega arith)

pub returns : goal.returns
returns c =
    let r = c.self.inside in
    let is = c.self.invariant in
    let seat = c.index_mut-seat.result.now in
    let wanted = subst (λ (s : RunState). IsWanted s c.args.instance) (sym c.self.view_is) c.requires.wanted in
    let there = read_at r.seats.items c.args.instance seat (wanted_seat r c.args.instance wanted) c.index_mut-seat.ensures.value in
    let have = subst (λ (plan : Planned). HaveStates plan.run r.units.states) is.tied c.count.ensures.states in
    let solved = going_solved r is (is_going r is seat c.args.instance (long r is have) there wanted) in
    is_computed r is seat c.args.instance (long r is have) there wanted c.do_step.result c.do_step.new.self c.do_step.ensures solved
    (with_item r.seats c.args.instance (record seat { slot = c.slot_of-seat.result }))
    (ap (λ made. set r.seats.items c.args.instance (record seat { slot = made })) c.slot_of-seat.ensures) r.found (r.own + 1) (omega arith)
    c.args.self.now c.self.view_is refl (omega arith)
