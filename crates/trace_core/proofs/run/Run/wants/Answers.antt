use Rattle.std.proofs.Common.{◌≡◌, ◌∙◌, length, Some, refl, ap, sym, subst, arith}
use Rattle.std.proofs.lemmas.Option.{same_Some}
use Rattle.std.specs.Prelude.{slice_get}
use Rattle.port_solve.specs.Solved.{HaveStates, HaveInputs}
use Rattle.list_laws.proofs.Members.{read_at}
use Rattle.super_time.proofs.LimitLaws.{local_end}
use Rattle.trace_core.specs.Runs.{RunState, IsWanted, IsWantOf, step_length}
use Rattle.trace_core.specs.Seats.{saved}
use Rattle.trace_core.proofs.FillLaws.{wanted_seat, is_going, the_seat, holds_state}
use Rattle.trace_core.proofs.KeepLaws.{going_solved}
use Rattle.trace_core.proofs.RowLaws.{live_seat, saved_words}
use Rattle.trace_core.proofs.SettleLaws.{long, step_in_time}
use Rattle.trace_core.proofs.WantLaws.{long_at, words_fit}
use Rattle.trace_plan.specs.Plans.{Planned}
use Rattle.unit_exec.specs.Images.{IsImageOf}
use Rattle.unit_exec.specs.declared.want.Want.{Want}
use Rattle.unit_tree.specs.Compositions.{Member}
use Rattle.unit_vm.specs.Programs.{program_words}
use Rattle.trace_core.proofs.run.Run.wants.Goals as goal

pub words-requires : goal.words-requires
words-requires c =
    let r = c.self.inside in
    let seat = c.index-seat.result.now in
    let wanted = subst (λ (s : RunState). IsWanted s c.args.instance) (sym c.self.view_is) (c.is_wanted.ensures.0 c.if-not-is_wanted.false) in
    let there = read_at r.seats.items c.args.instance seat (wanted_seat r c.args.instance wanted) c.index-seat.ensures in
    record { live = live_seat r.snaps r.seats.items (saved r.snaps r.seats.items) c.args.instance seat c.self.invariant.saved there }

pub returns : goal.returns
returns c =
    let r = c.self.inside in
    let is = c.self.invariant in
    let seat = c.index-seat.result.now in
    let seen = c.is_wanted.ensures.0 c.if-not-is_wanted.false in
    let wanted = subst (λ (s : RunState). IsWanted s c.args.instance) (sym c.self.view_is) seen in
    let there = read_at r.seats.items c.args.instance seat (wanted_seat r c.args.instance wanted) c.index-seat.ensures in
    let have = subst (λ (plan : Planned). HaveStates plan.run r.units.states) is.tied c.count.ensures.states in
    let going = is_going r is seat c.args.instance (long r is have) there wanted in
    let found = the_seat r is seat c.args.instance (long r is have) there wanted in
    let want : Want = record { row = r.number; image = c.image.result; state = c.words.result; inputs = c.inputs.result; time = seat.time; step = seat.step } in
    let image : IsImageOf found.member.component want.image.now.value =
    c.image.ensures found.member (ap (λ (plan : Planned). slice_get plan.run.members c.args.instance) c.deref.ensures ∙ found.member_is) in
    let inputs_have = subst (λ (plan : Planned). HaveInputs plan.run r.units.inputs) is.tied c.count.ensures.inputs in
    let state_is : slice_get (saved r.snaps r.seats.items) c.args.instance ≡ Some c.words.result.now =
    saved_words r.snaps r.seats.items c.args.instance seat c.words.result.now there c.words.ensures.words in
    let unit_is : found.unit ≡ c.words.result.now =
    holds_state r is seat c.args.instance (long r is have) there wanted ∙ same_Some found.state c.words.result.now (sym found.state_is ∙ state_is) in
    let each_state : length c.words.result.now ≡ length found.member.component.unit.states =
    ap length (sym unit_is)
    ∙ long_at (λ (m : Member). length m.component.unit.states) r.plan.value.run.members r.units.states c.args.instance found.member found.unit have
    found.member_is found.unit_is in
    let each_input : length c.inputs.result.now ≡ length found.member.component.unit.inputs =
    long_at (λ (m : Member). length m.component.unit.inputs) r.plan.value.run.members r.units.inputs c.args.instance found.member c.inputs.result.now
    inputs_have found.member_is c.inputs.ensures in
    let in_time = step_in_time r is have going in
    let ends = local_end found.member.factor r.point.t (step_length r.phase) in
    record {
      exactly = ((λ _. seen), (λ _. refl));
      want = subst (λ (s : RunState). IsWantOf s c.args.instance want) c.self.view_is (record {
        key = record {
          member = found.member;
          is_there = found.member_is;
          code = ap program_words image.is_program;
          state = state_is;
          inputs = ap (λ all. slice_get all c.args.instance) (sym (is.inputs (going_solved r is going))) ∙ c.inputs.ensures;
          time = found.fits.clock.time;
          step = found.fits.clock.step;
        };
        row = refl;
        image = image;
        words = words_fit found.member.component want.image.now.value c.words.result.now c.inputs.result.now image each_state each_input;
        in_time = omega (arith, in_time, ends, found.fits.clock.time, found.fits.clock.step);
      });
    }
